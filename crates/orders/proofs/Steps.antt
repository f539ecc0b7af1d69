-- Passes under one accepted code over runs apart, one after the other: none is refused, and each finds its run as it was at first.
-- Assumes nothing.
use Prim.{tt}
use mathlib.Core.Path.{◌≡◌, refl, sym, ap, ap₂, ◌∙◌}
use mathlib.Core.Logic.{inl, inr, ⊎_elim}
use mathlib.Core.List.{List, [], ◌∷◌, ◌++◌, map}
use Prim.Native.Nat.{ℕ, suc, ◌+◌, ◌*◌, ◌/◌, ◌≤◌, ◌<◌}
use native.Mathlib.Nat.{mul-le-mul_right}
use native.Mathlib.Omega.{arith}
use lib.ListN.{take}
use lib.Seq.{take-take}
use Rattle.record.specs.declared.Tally.{Tally}
use Rattle.record.specs.Bytes.{byte_span}
use Rattle.record.specs.Layout.{record_size, syndrome_size, entry_size, Entry}
use Rattle.record.specs.Run.{record_at}
use Rattle.record.specs.Journal.{entries_from}
use Rattle.runs.proofs.Run.{record_take}
use Rattle.code.specs.declared.Opened.{Opened}
use Rattle.std.specs.Prelude.{Ok}
use Rattle.at_record.specs.Outcome.{Reader, syndrome_of}
use Rattle.asked.specs.declared.Pass.{Pass}
use Rattle.asked.specs.Pass.{State, room_in}
use Rattle.pass.specs.Pass.{After, noted_run, needed_run, tally_run, reader_of, after_pass}
use Rattle.asked.specs.Asked.{Run, GoesOn}
use Rattle.pass.proofs.Answers.{answer-done}
use Rattle.passes.specs.Twice.{state_in}
use Rattle.passes.proofs.Rows.{done-is}
use Rattle.passes.proofs.Facts.{before_stays, after_stays, length_image, length_journal, used_stay, tally_is}
use Rattle.passes.proofs.Alike.{same_image, same_run, same_needed, same_tally, same_noted}
use Rattle.passes.proofs.Stamps.{on_again, used-after}
use Rattle.passes.proofs.Applied.{new-read}
use Rattle.orders.specs.Lists.{Each, EachTwo}
use Rattle.orders.specs.Orders.{Ends, ends_of, InRun, Apart, needed_by_all, Separate, NotBefore, StampsGoOn, passes_after, AllDone, tallies_given}
use Rattle.orders.proofs.Lists.{each_map, joined_by}
use Rattle.orders.proofs.Image.{outside_same, where_lies, left_by_all}
use Rattle.orders.proofs.Journal.{entries-split, entries_alike}

-- passes that may follow one another in this order
pub record Ready (f : Reader) (ps : List Pass) (s : State) : Type 0 where
  pub separate : Separate f (map ends_of ps) s
  pub stamps : StampsGoOn f.d s ps

-- a later stamp goes on where an earlier one does
pub later_goes_on : (d x y : ℕ) (journal : List ℕ) (used : ℕ) → x ≤ y → GoesOn d x journal used → GoesOn d y journal used
later_goes_on d x y journal used h (inl z) = inl z
later_goes_on d x y journal used h (inr l) = inr (omega arith)

module _ (o : Opened) (d : ℕ) (taken : o.standing ≡ Ok tt) where
  abbrev f : Reader
  f = reader_of o d

  abbrev now : Pass → State → After
  now = after_pass o d

  abbrev size : ℕ
  size = record_size d

  -- a run of an image with its tally, and what a pass enters of its run
  abbrev pub tally_for : List ℕ → Ends → Ends × Tally
  tally_for image r = (r, tally_run f image r.start r.end)

  abbrev pub enters_of : List ℕ → Pass → List Entry
  enters_of image p = noted_run f p.stamp image p.start p.end

  -- ---- one pass

  module _ (p : Pass) (s : State) (zero-told : (now p s).answer.number ≡ 0) where
    abbrev after : State
    after = state_in s (now p s)

    abbrev wanted : ℕ
    wanted = needed_run f s.image p.start p.end

    -- a run apart is as it was
    apart-same : (r : Ends) → Apart (ends_of p) r → (i : ℕ) → r.start ≤ i → i < r.end
        → record_at size (now p s).image i ≡ record_at size s.image i
    apart-same r c i l u =
        ⊎_elim (λ (v : InRun (ends_of p) i). absurd (c i v (l, u)))
        (outside_same size s.image (now p s).image p.start p.end
        (before_stays o d p s taken zero-told) (after_stays o d p s taken zero-told) i)
        (where_lies (ends_of p) i)

    needed-rest : (rs : List Ends) → Each (Apart (ends_of p)) rs → needed_by_all f (now p s).image rs ≡ needed_by_all f s.image rs
    unfolding Each needed_by_all
    needed-rest [] c = refl
    needed-rest (r ∷ rs) c =
        omega (arith, same_needed f s.image (now p s).image r.start r.end (apart-same r c.0), needed-rest rs c.1)

    tallies-rest : (rs : List Ends) → Each (Apart (ends_of p)) rs → map (tally_for (now p s).image) rs ≡ map (tally_for s.image) rs
    unfolding Each
    tallies-rest [] c = refl
    tallies-rest (r ∷ rs) c =
        ap₂ (λ (x : Tally) (xs : List (Ends × Tally)). (r, x) ∷ xs)
        (same_tally f s.image (now p s).image r.start r.end (apart-same r c.0)) (tallies-rest rs c.1)

    -- what a later pass enters
    enters-rest : (ps : List Pass) → Each (Apart (ends_of p)) (map ends_of ps)
        → joined_by (enters_of (now p s).image) ps ≡ joined_by (enters_of s.image) ps
    unfolding Each joined_by
    enters-rest [] c = refl
    enters-rest (q ∷ ps) c =
        ap₂ (λ (x y : List Entry). x ++ y)
        (same_noted f s.image (now p s).image q.start q.end (apart-same (ends_of q) c.0) q.stamp) (enters-rest ps c.1)

  -- the first is done
  module _ (p : Pass) (ps : List Pass) (s : State) (ready : Ready f (p ∷ ps) s) where
    pub first_done : (now p s).answer.number ≡ 0
    unfolding Each needed_by_all
    first_done =
        let x = ready.separate in
        let room = x.room in
        ap (λ x. x.answer.number)
        (answer-done o d p s taken
        (record { records = x.records; run = x.within.0; counted = omega arith; goes_on = ready.stamps.goes_on.0 }) (omega arith))

    used-now : (after p s first_done).used ≡ s.used + wanted p s first_done
    used-now = used-after o d p s taken first_done

    others_apart : Each (Apart (ends_of p)) (map ends_of ps)
    unfolding EachTwo
    others_apart = ready.separate.apart.0

    -- a later stamp goes on from what it leaves
    stamp-goes-on : (q : Pass) → NotBefore p q → GoesOn d q.stamp (now p s).journal (state_in s (now p s)).used
    stamp-goes-on q h =
        rw used-now
        (later_goes_on d p.stamp q.stamp (now p s).journal (s.used + wanted p s first_done) (omega arith)
        (on_again o d p s taken first_done))

    -- and those behind it may follow
    pub rest-ready : Ready f ps (state_in s (now p s))
    unfolding Each EachTwo needed_by_all
    rest-ready =
        let x = ready.separate in
        let y = ready.stamps in
        let long = length_image o d p s taken first_done in
        let room : room_in d (now p s).journal ≡ room_in d s.journal =
        ap (λ n. n / entry_size d) (length_journal o d p s taken first_done) in
        record {
          separate =
              record {
                records = same_image d s.image (now p s).image long x.records;
                within =
                    each_map (λ r. Run d s.image r.start r.end) (λ r. Run d (now p s).image r.start r.end)
                    (λ r. same_run d s.image (now p s).image r.start r.end long) (map ends_of ps) x.within.1;
                apart = x.apart.1;
                room = omega (arith, used-now, room, x.room, needed-rest p s first_done (map ends_of ps) others_apart);
              };
          stamps =
              record {
                small = y.small.1;
                goes_on =
                    each_map (NotBefore p) (λ q. GoesOn d q.stamp (now p s).journal (state_in s (now p s)).used) stamp-goes-on ps
                    y.rises.0;
                rises = y.rises.1;
              };
        }

  -- ---- all of them

  -- NONE IS REFUSED
  pub all_done : (ps : List Pass) (s : State) → Ready f ps s → AllDone now ps s
  unfolding AllDone
  all_done [] s ready = tt
  all_done (p ∷ ps) s ready = (first_done p ps s ready, all_done ps (state_in s (now p s)) (rest-ready p ps s ready))

  -- the image is that of their runs, one after the other
  pub image_is : (ps : List Pass) (s : State) → Ready f ps s → (passes_after now ps s).image ≡ left_by_all f (map ends_of ps) s.image
  unfolding passes_after left_by_all
  image_is [] s ready = refl
  image_is (p ∷ ps) s ready =
      image_is ps (state_in s (now p s)) (rest-ready p ps s ready)
      ∙ ap (λ x. left_by_all f (map ends_of ps) x.image) (done-is o d p s taken (first_done p ps s ready))

  -- so many entries are in use
  pub used_is : (ps : List Pass) (s : State) → Ready f ps s
      → (passes_after now ps s).used ≡ s.used + needed_by_all f s.image (map ends_of ps)
  unfolding passes_after needed_by_all
  used_is [] s ready = omega arith
  used_is (p ∷ ps) s ready =
      let zero-told = first_done p ps s ready in
      omega (
        arith,
        used_is ps (state_in s (now p s)) (rest-ready p ps s ready),
        used-now p ps s ready,
        needed-rest p s zero-told (map ends_of ps) (others_apart p ps s ready),
      )

  -- those that were in use stay
  pub used_kept : (ps : List Pass) (s : State) → Ready f ps s
      → take (s.used * entry_size d) (passes_after now ps s).journal ≡ take (s.used * entry_size d) s.journal
  unfolding passes_after
  used_kept [] s ready = refl
  used_kept (p ∷ ps) s ready =
      let zero-told = first_done p ps s ready in
      let t = state_in s (now p s) in
      let c = entry_size d in
      let last = passes_after now ps t in
      let more : s.used ≤ t.used = omega (arith, used-now p ps s ready) in
      let up : s.used * c ≤ t.used * c = mul-le-mul_right c more in
      sym (take-take (s.used * c) (t.used * c) last.journal up)
      ∙ ap (take (s.used * c)) (used_kept ps t (rest-ready p ps s ready))
      ∙ take-take (s.used * c) (t.used * c) (now p s).journal up
      ∙ used_stay o d p s taken zero-told

  -- the entries are those of each run as it was at first, one run after the other
  pub entries_are : ((rec : List ℕ) → syndrome_of f rec < byte_span syndrome_size) → (ps : List Pass) (s : State) → Ready f ps s
      → entries_from d (passes_after now ps s).journal s.used (needed_by_all f s.image (map ends_of ps))
      ≡ joined_by (enters_of s.image) ps
  unfolding passes_after needed_by_all entries_from joined_by Each
  entries_are narrow [] s ready = refl
  entries_are narrow (p ∷ ps) s ready =
      let zero-told = first_done p ps s ready in
      let t = state_in s (now p s) in
      let c = entry_size d in
      let n = wanted p s zero-told in
      let more = needed_by_all f s.image (map ends_of ps) in
      let last : List ℕ = (passes_after now ps t).journal in
      let used : t.used ≡ s.used + n = used-now p ps s ready in
      let rest = rest-ready p ps s ready in
      let one : entries_from d last s.used n ≡ enters_of s.image p =
      entries_alike d last (now p s).journal s.used n
      (λ i l.
      let inside : suc (s.used + i) * c ≤ t.used * c = mul-le-mul_right c (omega (arith, used)) in
      sym (record_take c (t.used * c) last (s.used + i) inside)
      ∙ ap (λ x. record_at c x (s.used + i)) (used_kept ps t rest)
      ∙ record_take c (t.used * c) (now p s).journal (s.used + i) inside)
      ∙ new-read o p s d taken zero-told narrow ready.stamps.small.0 in
      let others : entries_from d last (s.used + n) more ≡ joined_by (enters_of s.image) ps =
      ap₂ (entries_from d last) (sym used) (sym (needed-rest p s zero-told (map ends_of ps) (others_apart p ps s ready)))
      ∙ entries_are narrow ps t rest
      ∙ enters-rest p s zero-told ps (others_apart p ps s ready) in
      entries-split d last s.used n more ∙ ap₂ (λ (x y : List Entry). x ++ y) one others

  -- and so are the tallies
  pub tallies_are : (ps : List Pass) (s : State) → Ready f ps s → tallies_given now ps s ≡ map (tally_for s.image) (map ends_of ps)
  unfolding tallies_given
  tallies_are [] s ready = refl
  tallies_are (p ∷ ps) s ready =
      let zero-told = first_done p ps s ready in
      ap₂ (λ (x : Tally) (xs : List (Ends × Tally)). (ends_of p, x) ∷ xs)
      (tally_is o d p s taken zero-told)
      (tallies_are ps (state_in s (now p s)) (rest-ready p ps s ready)
      ∙ tallies-rest p s zero-told (map ends_of ps) (others_apart p ps s ready))
