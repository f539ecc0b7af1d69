-- PASSING AGAIN: what passes leave is decided by the image, the entries in use and the journal's length; what stands in the journal behind
-- the entries in use is no matter. So from a first image the same passes leave the same image and the same entries. Assumes nothing.
use mathlib.Core.Path.{◌≡◌, refl, sym, ap, ap₂, subst, ◌∙◌}
use mathlib.Core.Logic.{◌≢◌, ◌⊎◌, inl, inr}
use mathlib.Core.List.{List, [], ◌∷◌, ◌++◌}
use Prim.Native.Nat.{ℕ, suc, ◌+◌, ◌-◌, ◌*◌, ◌/◌, ◌≤◌, ◌<◌}
use native.Mathlib.Nat.{add-mul, mul_comm, zero-mul}
use native.Mathlib.Omega.{arith}
use lib.ListN.{length, take, drop}
use lib.Seq.{take-add, take_at}
use Rattle.parity.proofs.Ones.{below_or_not}
use Rattle.record.specs.Layout.{entry_size, entry_in, in_bytes}
use Rattle.record.specs.Run.{record_at}
use Rattle.runs.proofs.Run.{record_take}
use Rattle.code.specs.declared.Opened.{Opened}
use Rattle.std.specs.Prelude.{Ok}
use Rattle.at_record.specs.Outcome.{Reader}
use Rattle.asked.specs.declared.Pass.{Pass}
use Rattle.asked.specs.Pass.{State, room_in, last_stamp}
use Rattle.pass.specs.Pass.{noted_run, needed_run, behind, reader_of, after_pass}
use Rattle.asked.specs.Asked.{GoesBack, GoesOn, Askable}
use Rattle.pass.proofs.Cases.{refused_with, done_with, pass_refused}
use Rattle.pass.proofs.Answers.{answer_12, answer-14, answer-17, answer-16, answer-13, answer-done}
use Rattle.passes.specs.Twice.{state_after, Step, steps_after}
use Rattle.passes.proofs.Rows.{Row, row_of}
use Rattle.passes.proofs.Facts.{rising, fits as fits-image, in_use, length-noted_run, length_journal}
use Rattle.passes.proofs.Behind.{take_behind, drop-behind}
use Rattle.passes.proofs.Stamps.{Known, refused_stays, used-after}
use Rattle.history.proofs.Undone.{AllKnown}

-- the same image, the same entries in use, and journals of one length
pub record Alike (d : ℕ) (s t : State) : Type 0 where
  pub image : s.image ≡ t.image
  pub used : s.used ≡ t.used
  pub long : length s.journal ≡ length t.journal
  pub entries : take (s.used * entry_size d) s.journal ≡ take (s.used * entry_size d) t.journal

-- ---- one pass, with another journal

module _ (o : Opened) (d : ℕ) (p : Pass) (s : State) (other : List ℕ) (long : length other ≡ length s.journal)
    (same : take (s.used * entry_size d) other ≡ take (s.used * entry_size d) s.journal) where
  abbrev s' : State
  s' = record { image = s.image; journal = other; used = s.used }

  abbrev f : Reader
  f = reader_of o d

  abbrev needed : ℕ
  needed = needed_run f s.image p.start p.end

  room_too : room_in d other ≡ room_in d s.journal
  room_too = ap (λ n. n / entry_size d) long

  last_too : 0 < s.used → last_stamp d other s.used ≡ last_stamp d s.journal s.used
  last_too h =
      let n : suc (s.used - 1) ≡ s.used = omega arith in
      let fits : suc (s.used - 1) * entry_size d ≤ s.used * entry_size d = omega (arith, ap (λ m. m * entry_size d) n) in
      ap (λ l. (entry_in d l).stamp)
      (sym (record_take (entry_size d) (s.used * entry_size d) other (s.used - 1) fits)
      ∙ ap (λ l. record_at (entry_size d) l (s.used - 1)) same
      ∙ record_take (entry_size d) (s.used * entry_size d) s.journal (s.used - 1) fits)

  back_too : GoesBack d p.stamp s.journal s.used → GoesBack d p.stamp other s.used
  back_too g = let h = g.some in record { some = h; below = omega (arith, g.below, last_too h) }

  on_too : GoesOn d p.stamp s.journal s.used → GoesOn d p.stamp other s.used
  on_too (inl z) = inl z
  on_too (inr l) = go (below_or_not 0 s.used)
    where
      go : (0 < s.used) ⊎ (s.used ≤ 0) → GoesOn d p.stamp other s.used
      go (inl h) = inr (omega (arith, l, last_too h))
      go (inr h) = inl (omega arith)

  askable_too : Askable d p s → Askable d p s'
  askable_too q = record { records = q.records; run = q.run; counted = omega (arith, q.counted, room_too); goes_on = on_too q.goes_on }

  -- refused, both states stay
  stay : (number told : ℕ) → number ≢ 0 → after_pass o d p s' ≡ refused_with number told s' → after_pass o d p s ≡ refused_with number told s
      → Alike d (state_after o d p s') (state_after o d p s)
  stay number told n x y =
      let e = refused_stays o d p s' number told n x in
      let g = refused_stays o d p s number told n y in
      subst (λ u. Alike d u (state_after o d p s)) (sym e)
      (subst (Alike d s') (sym g) (record { image = refl; used = refl; long = long; entries = same }))

  -- done, both have the same entries behind those in use
  module _ (taken : o.standing ≡ Ok tt) (x : after_pass o d p s' ≡ done_with f p s') (y : after_pass o d p s ≡ done_with f p s) where
    abbrev done' : (after_pass o d p s').answer.number ≡ 0
    done' = ap (λ u. u.answer.number) x

    abbrev done : (after_pass o d p s).answer.number ≡ 0
    done = ap (λ u. u.answer.number) y

    abbrev new : List ℕ
    new = in_bytes (noted_run f p.stamp s.image p.start p.end)

    in-use-now : (j : List ℕ) → s.used * entry_size d ≤ length j
        → take ((s.used + needed) * entry_size d) (behind (s.used * entry_size d) new j) ≡ take (s.used * entry_size d) j ++ new
    in-use-now j fits =
        let n = s.used * entry_size d in
        let size : length new ≡ needed * entry_size d =
        length-noted_run f s.image p.start p.end (rising o d p s taken done) (fits-image o d p s taken done) p.stamp
        ∙ mul_comm (entry_size d) needed in
        ap (λ k. take k (behind n new j)) (add-mul s.used needed (entry_size d))
        ∙ take-add n (needed * entry_size d) (behind n new j)
        ∙ ap₂ (λ u v. u ++ take (needed * entry_size d) v) (take_behind n new j fits) (drop-behind n new j fits)
        ∙ ap (λ l. take n j ++ l) (take_at new (drop (length new) (drop n j)) (needed * entry_size d) size)

    go_on : Alike d (state_after o d p s') (state_after o d p s)
    go_on =
        let used' = used-after o d p s' taken done' in
        let used = used-after o d p s taken done in
        let size = entry_size d in
        record {
          image = ap (λ u. u.image) x ∙ sym (ap (λ u. u.image) y);
          used = used' ∙ sym used;
          long = length_journal o d p s' taken done' ∙ long ∙ sym (length_journal o d p s taken done);
          entries =
              (λ i. take (used' i * size) (x i).journal)
              ∙ in-use-now other (in_use o d p s' taken done')
              ∙ ap (λ l. l ++ new) same
              ∙ sym (in-use-now s.journal (in_use o d p s taken done))
              ∙ (λ i. take (sym used' i * size) (sym y i).journal);
        }

  pub step_alike : Known o → Alike d (state_after o d p s') (state_after o d p s)
  step_alike known = go (row_of o d p s)
    where
      go : Row o d p s → Alike d (state_after o d p s') (state_after o d p s)
      go (Row.closed g e) = stay g.number g.told (known g e) (pass_refused o d p s' g e) (pass_refused o d p s g e)
      go (Row.no-image e h) = stay 12 0 (λ z. omega arith) (answer_12 o d p s' e h) (answer_12 o d p s e h)
      go (Row.no_run e i h) = stay 14 0 (λ z. omega arith) (answer-14 o d p s' e i h) (answer-14 o d p s e i h)
      go (Row.too_many e i r h) =
          stay 17 0 (λ z. omega arith) (answer-17 o d p s' e i r (omega (arith, h, room_too))) (answer-17 o d p s e i r h)
      go (Row.goes_back e i r n h) =
          stay 16 0 (λ z. omega arith) (answer-16 o d p s' e i r (omega (arith, n, room_too)) (back_too h)) (answer-16 o d p s e i r n h)
      go (Row.no_room e q h) =
          stay 13 needed (λ z. omega arith)
          (answer-13 o d p s' e (askable_too q) (omega (arith, h, room_too))) (answer-13 o d p s e q h)
      go (Row.done e q h) = go_on e (answer-done o d p s' e (askable_too q) (omega (arith, h, room_too))) (answer-done o d p s e q h)

-- ---- any passes

pub steps_alike : (d : ℕ) (xs : List Step) (s t : State) → AllKnown xs → Alike d s t → Alike d (steps_after d xs s) (steps_after d xs t)
unfolding steps_after AllKnown
steps_alike d [] s t k a = a
steps_alike d (x ∷ xs) s t k a =
    let e : s ≡ record { image = t.image; journal = s.journal; used = t.used } =
    λ i. record { image = a.image i; journal = s.journal; used = a.used i } in
    let same : take (t.used * entry_size d) s.journal ≡ take (t.used * entry_size d) t.journal =
    subst (λ n. take (n * entry_size d) s.journal ≡ take (n * entry_size d) t.journal) a.used a.entries in
    steps_alike d xs (state_after x.under d x.pass s) (state_after x.under d x.pass t) k.1
    (subst (λ u. Alike d (state_after x.under d x.pass u) (state_after x.under d x.pass t)) (sym e)
    (step_alike x.under d x.pass t s.journal a.long same k.0))

-- with no entry in use the journals need only be of one length
pub fresh_alike : (d : ℕ) (s : State) (other : List ℕ) → s.used ≡ 0 → length other ≡ length s.journal
    → Alike d (record { image = s.image; journal = other; used = 0 }) s
fresh_alike d s other z long =
    let none = zero-mul (entry_size d) in
    record {
      image = refl;
      used = sym z;
      long = long;
      entries = ap (λ n. take n other) none ∙ sym (ap (λ n. take n s.journal) none);
    }
