-- Two passes, one after the other: the same run again finds what was mended clean and changes nothing; and two runs that meet are one.
-- Assumes nothing.
use mathlib.Core.Path.{◌≡◌, refl, sym, ap, ap₂, ◌∙◌}
use mathlib.Core.Bool.{cond}
use mathlib.Core.Logic.{◌⊎◌, inl, inr, ⊎_elim}
use mathlib.Core.List.{List}
use Prim.Native.Nat.{ℕ, zero, suc, ◌+◌, ◌*◌, ◌-◌, ◌/◌, ◌≤◌, ◌<◌}
use native.Mathlib.Nat.{add-mul, mul_comm}
use native.Mathlib.Omega.{arith}
use lib.Dec.{eqb}
use lib.ListN.{length}
use Rattle.record.specs.declared.Tally.{Tally}
use Rattle.record.specs.Bytes.{AllBytes}
use Rattle.record.specs.Layout.{record_size, entry_size, Entry, in_bytes}
use Rattle.record.specs.Run.{record_at, gather, add_up, from_record, gather_run}
use Rattle.record.specs.Tally.{tally_by, one_if, tally_of}
use Rattle.record.specs.Journal.{unclean, noted}
use Rattle.runs.proofs.Numbers.{bytes-part}
use Rattle.runs.proofs.Over.{from-from}
use Rattle.runs.proofs.Run.{fits_less, record_length, record_drop, gather_alike}
use Rattle.runs.proofs.Entries.{in_bytes-append}
use Rattle.runs.proofs.Tallies.{tally_same}
use Rattle.runs.proofs.Image.{sum-split, gather-split, run-split}
use Rattle.code.specs.declared.Opened.{Opened}
use Rattle.std.specs.Prelude.{Ok}
use Rattle.code.specs.Opened.{Laid, SoundOpened}
use Rattle.at_record.specs.Outcome.{Reader, Held, verdict_of, left_of, entry_of}
use Rattle.asked.specs.declared.Pass.{Pass}
use Rattle.asked.specs.Pass.{State, pass_over, state_of, room_in}
use Rattle.pass.specs.Pass.{After, left_run, noted_run, needed_run, count_run, tally_run, behind, reader_of, after_pass}
use Rattle.asked.specs.Asked.{GoesOn, Askable}
use Rattle.at_record.proofs.Outcomes.{length-left_of}
use Rattle.pass.proofs.Cases.{done_with}
use Rattle.pass.proofs.Answers.{answer-done}
use Rattle.passes.specs.Twice.{state_after, added, verdict_again, tally_again}
use Rattle.passes.proofs.Rows.{done-asked, done-is}
use Rattle.passes.proofs.Facts.{verdict-le, length-noted_run, five_counts, asked, rising, fits, in_use, in_use_after, before_stays, after_stays, length_image, length_journal, record-left, used_is, tally_is}
use Rattle.passes.proofs.Alike.{same_image, same_run}
use Rattle.passes.proofs.Stamps.{on_again, used-after}
use Rattle.passes.proofs.Mended as mended

-- ---- the same run again

one_again : (v : ℕ) → v ≤ 5 → tally_by (λ u. cond (eqb (verdict_again v) u) 1 0) ≡ tally_again (tally_by (λ u. cond (eqb v u) 1 0))
one_again zero h = refl
one_again (suc zero) h = refl
one_again (suc (suc zero)) h = refl
one_again (suc (suc (suc zero))) h = refl
one_again (suc (suc (suc (suc zero)))) h = refl
one_again (suc (suc (suc (suc (suc zero))))) h = refl
one_again (suc (suc (suc (suc (suc (suc v)))))) h = absurd (omega arith)

added_again : (s t : Tally) → added (tally_again s) (tally_again t) ≡ tally_again (added s t)
added_again s t =
    let e : s.clean + s.«data» + s.check + (t.clean + t.«data» + t.check)
    ≡ s.clean + t.clean + (s.«data» + t.«data») + (s.check + t.check) = omega arith in
    λ i. record { clean = e i; «data» = 0; check = 0; even = s.even + t.even; odd = s.odd + t.odd; stray = s.stray + t.stray }

-- where each record has the verdict that it has once it was passed over
tally_again_lem : (size : ℕ) (verdict : List ℕ → ℕ) → ((rec : List ℕ) → verdict rec ≤ 5) → (run now : List ℕ) (k : ℕ)
    → ((i : ℕ) → i < k → verdict (record_at size now i) ≡ verdict_again (verdict (record_at size run i)))
    → tally_of size verdict now k ≡ tally_again (tally_of size verdict run k)
unfolding add_up one_if
tally_again_lem size verdict top run now zero h = refl
tally_again_lem size verdict top run now (suc k) h =
    ap₂ added (tally_again_lem size verdict top run now k (λ i l. h i (omega arith)))
    (ap (λ x. tally_by (λ u. cond (eqb x u) 1 0)) (h k (omega arith))
    ∙ one_again (verdict (record_at size run k)) (top (record_at size run k)))
    ∙ added_again (tally_of size verdict run k) (tally_by (λ u. cond (eqb (verdict (record_at size run k)) u) 1 0))

module _ (o : Opened) (d : ℕ) (sound : SoundOpened o) (laid : Laid o) (held : Held d o.k) (taken : o.standing ≡ Ok tt)
    (p : Pass) (s : State) (narrow : (o.k ≤ 64) ⊎ AllBytes s.image) (zero-told : (after_pass o d p s).answer.number ≡ 0) where
  abbrev f : Reader
  f = reader_of o d

  abbrev size : ℕ
  size = record_size d

  abbrev a : ℕ
  a = p.start

  abbrev b : ℕ
  b = p.end

  abbrev now : After
  now = after_pass o d p s

  -- a record of the run is as narrow, and has all its bytes
  narrow_at : (i : ℕ) → (o.k ≤ 64) ⊎ AllBytes (record_at size s.image i)
  narrow_at i = ⊎_elim (λ h. inl h) (λ (h : AllBytes s.image). inr (bytes-part (i * size) size s.image h)) narrow

  length_at : (i : ℕ) → i < b → length (record_at size s.image i) ≡ size
  length_at i u = record_length size s.image i (fits_less size (length s.image) b i (fits o d p s taken zero-told) u)

  -- each record of the run, once it was passed over: clean where it was mended, and else as before
  found_again : (i : ℕ) → a ≤ i → i < b
      → verdict_of f (record_at size now.image i) ≡ verdict_again (verdict_of f (record_at size s.image i))
  found_again i l u =
      ap (verdict_of f) (record-left o d p s taken zero-told i l u)
      ∙ mended.verdict-again o d sound laid held taken (record_at size s.image i) (narrow_at i) (length_at i u)

  -- the record j of the run, before and after
  at-run : (l : List ℕ) (j : ℕ) → record_at size (from_record size a l) j ≡ record_at size l (a + j)
  at-run l j = record_drop size l a j

  tally_found : tally_run f now.image a b ≡ tally_again now.answer.tally
  tally_found =
      tally_again_lem size (verdict_of f) (verdict-le f) (from_record size a s.image) (from_record size a now.image) (b - a)
      (λ j l. ap (verdict_of f) (at-run now.image j) ∙ found_again (a + j) (omega arith) (omega (arith, l))
      ∙ ap (λ x. verdict_again (verdict_of f x)) (sym (at-run s.image j)))
      ∙ ap tally_again (sym (tally_is o d p s taken zero-told))

  -- the run as it is left the second time is the run as it was left the first time
  left-found : left_run f now.image a b ≡ now.image
  left-found =
      let same : gather_run size (λ i. left_of f) now.image a b ≡ gather_run size (λ i. left_of f) s.image a b =
      gather_alike size (λ j. left_of f) (λ j. left_of f) (from_record size a now.image) (from_record size a s.image) (b - a)
      (λ j l. ap (left_of f) (at-run now.image j
      ∙ record-left o d p s taken zero-told (a + j) (omega arith) (omega (arith, l)))
      ∙ mended.left-again o d sound laid held taken (record_at size s.image (a + j)) (narrow_at (a + j))
      (length_at (a + j) (omega (arith, l)))
      ∙ ap (left_of f) (sym (at-run s.image j))) in
      rw (before_stays o d p s taken zero-told, same, after_stays o d p s taken zero-told)
      (sym (ap (λ x. x.image) (done-is o d p s taken zero-told)))

  -- THE SAME RUN AGAIN, with any stamp and any journal that allow it: what was mended is found clean, the rest as before, and no byte of
  -- the image changes
  pub pass_again : (stamp : ℕ) (journal : List ℕ) (used : ℕ) → used ≤ room_in d journal → GoesOn d stamp journal used
      → let t = now.answer.tally in t.even + t.odd + t.stray ≤ room_in d journal - used
      → let x = after_pass o d (pass_over a b stamp) (state_of now.image journal used) in
      (x.answer ≡ record { number = 0; told = 0; used = used + (t.even + t.odd + t.stray); tally = tally_again t })
      × (x.image ≡ now.image)
  pass_again stamp journal used counted on room =
      let t = now.answer.tally in
      let q = asked o d p s taken zero-told in
      let long = length_image o d p s taken zero-told in
      let needed : needed_run f now.image a b ≡ t.even + t.odd + t.stray =
      five_counts f now.image a b (rising o d p s taken zero-told) (omega (arith, fits o d p s taken zero-told, long))
      ∙ ap (λ x. x.«data» + x.check + x.even + x.odd + x.stray) tally_found ∙ omega arith in
      let e =
      answer-done o d (pass_over a b stamp) (state_of now.image journal used) taken
      (record {
        records = same_image d s.image now.image long q.records;
        run = same_run d s.image now.image a b long q.run;
        counted = counted;
        goes_on = on;
      }) (rw needed room) in (
        ap (λ x. x.answer) e ∙ (λ i. record { number = 0; told = 0; used = used + needed i; tally = tally_found i }),
        ap (λ x. x.image) e ∙ left-found,
      )

-- ---- two runs that meet

-- what a run says of the image from its first record on
module _ (f : Reader) (image now : List ℕ) (b c : ℕ)
    (same : from_record (record_size f.d) b now ≡ from_record (record_size f.d) b image) where
  rest-needed : needed_run f now b c ≡ needed_run f image b c
  rest-needed = ap (λ l. add_up (record_size f.d) (unclean (verdict_of f)) l (c - b)) same

  rest_tally : tally_run f now b c ≡ tally_run f image b c
  rest_tally = ap (λ l. tally_of (record_size f.d) (verdict_of f) l (c - b)) same

  rest-noted : (stamp : ℕ) → noted_run f stamp now b c ≡ noted_run f stamp image b c
  rest-noted stamp = ap (λ l. gather (record_size f.d) (λ i. noted (verdict_of f) (entry_of f stamp) (b + i)) l (c - b)) same

module _ (o : Opened) (d a b c stamp : ℕ) (s : State) (taken : o.standing ≡ Ok tt) where
  abbrev g : Reader
  g = reader_of o d

  -- the first run and its outcome, and the state that it leaves for the second, told the count in use
  abbrev first : Pass
  first = pass_over a b stamp

  abbrev second : Pass
  second = pass_over b c stamp

  abbrev mid : State
  mid = state_after o d first s

  abbrev part : ℕ
  part = needed_run g s.image a b

  module _ (z : (after_pass o d first s).answer.number ≡ 0) where
    rest-same : from_record (record_size d) b mid.image ≡ from_record (record_size d) b s.image
    rest-same = after_stays o d first s taken z

    used-mid : mid.used ≡ s.used + part
    used-mid = used-after o d first s taken z

    needed-both : b ≤ c → needed_run g s.image a c ≡ part + needed_run g mid.image b c
    needed-both h =
        sum-split (record_size d) s.image a b c (rising o d first s taken z) h (unclean (verdict_of g))
        ∙ ap (λ n. part + n) (sym (rest-needed g s.image mid.image b c rest-same))

    room-same : room_in d mid.journal ≡ room_in d s.journal
    room-same = ap (λ n. n / entry_size d) (length_journal o d first s taken z)

    module _ (t : (after_pass o d second mid).answer.number ≡ 0) where
      up : a ≤ b
      up = rising o d first s taken z

      on : b ≤ c
      on = rising o d second mid taken t

      whole-done : after_pass o d (pass_over a c stamp) s ≡ done_with g (pass_over a c stamp) s
      whole-done =
          let q = asked o d first s taken z in
          let r = done-asked o d second mid taken t in
          let long = sym (length_image o d first s taken z) in
          answer-done o d (pass_over a c stamp) s taken
          (record {
            records = q.records;
            run =
                record {
                  rising = omega (arith, up, on);
                  within = (same_run d mid.image s.image b c long r.0.run).within;
                };
            counted = q.counted;
            goes_on = q.goes_on;
          })
          (omega (arith, needed-both on, r.1, room-same, used-mid, in_use_after o d first s taken z))

      -- TWO RUNS THAT MEET, both done, are one: its tally is theirs added, and image, journal and count in use are as the second leaves them
      pub both-answer : (after_pass o d (pass_over a c stamp) s).answer
          ≡ record {
            number = 0;
            told = 0;
            used = (after_pass o d second mid).answer.used;
            tally = added (after_pass o d first s).answer.tally (after_pass o d second mid).answer.tally;
          }
      both-answer =
          let tallies =
          sym (ap₂ added (tally_is o d first s taken z)
          (tally_is o d second mid taken t ∙ rest_tally g s.image mid.image b c rest-same)
          ∙ tally_same (λ v. count_run g s.image a b v + count_run g s.image b c v) (count_run g s.image a c)
          (λ v. sym (sum-split (record_size d) s.image a b c up on (one_if (verdict_of g) v)))) in
          let used : s.used + needed_run g s.image a c ≡ (after_pass o d second mid).answer.used =
          omega (arith, needed-both on, used-mid, used_is o d second mid taken t) in
          ap (λ x. x.answer) whole-done ∙ (λ i. record { number = 0; told = 0; used = used i; tally = tallies i })

      whole-zero : (after_pass o d (pass_over a c stamp) s).answer.number ≡ 0
      whole-zero = ap (λ x. x.number) both-answer

      pub both-image : (after_pass o d (pass_over a c stamp) s).image ≡ (after_pass o d second mid).image
      both-image =
          ap (λ x. x.image) whole-done
          ∙ sym (run-split (record_size d) s.image a b c up on (λ i. left_of g) (λ i. length-left_of g)
          (fits o d (pass_over a c stamp) s taken whole-zero))
          ∙ ap (λ l. left_run g l b c) (sym (ap (λ x. x.image) (done-is o d first s taken z)))
          ∙ sym (ap (λ x. x.image) (done-is o d second mid taken t))

      pub both-journal : (after_pass o d (pass_over a c stamp) s).journal ≡ (after_pass o d second mid).journal
      both-journal =
          let size = entry_size d in
          let x : List Entry = noted_run g stamp s.image a b in
          let y : List Entry = noted_run g stamp s.image b c in
          let long : length (in_bytes x) ≡ part * size =
          length-noted_run g s.image a b up (fits o d first s taken z) stamp ∙ mul_comm size part in
          ap (λ w. w.journal) whole-done
          ∙ ap (λ l. behind (s.used * size) (in_bytes l) s.journal)
          (gather-split (record_size d) s.image a b c up on (noted (verdict_of g) (entry_of g stamp)))
          ∙ ap (λ l. behind (s.used * size) l s.journal) (in_bytes-append x y)
          ∙ sym (from-from (s.used * size) (part * size) (in_bytes x) (in_bytes y) s.journal long (in_use o d first s taken z))
          ∙ ap (λ n. behind n (in_bytes y) (behind (s.used * size) (in_bytes x) s.journal))
          (sym (add-mul s.used part size) ∙ ap (λ n. n * size) (sym used-mid))
          ∙ ap₂ (λ l j. behind (mid.used * size) (in_bytes l) j)
          (sym (rest-noted g s.image mid.image b c rest-same stamp)) (sym (ap (λ w. w.journal) (done-is o d first s taken z)))
          ∙ sym (ap (λ w. w.journal) (done-is o d second mid taken t))

  -- and a run that is done is done in two
  pub done_both : (after_pass o d (pass_over a c stamp) s).answer.number ≡ 0 → a ≤ b → b ≤ c
      → ((after_pass o d first s).answer.number ≡ 0) × ((after_pass o d second mid).answer.number ≡ 0)
  done_both w h k = (one, ap (λ x. x.answer.number) two)
    where
      whole : Askable d (pass_over a c stamp) s × (needed_run g s.image a c ≤ room_in d s.journal - s.used)
      whole = done-asked o d (pass_over a c stamp) s taken w

      one : (after_pass o d first s).answer.number ≡ 0
      one =
          let needed = sum-split (record_size d) s.image a b c h k (unclean (verdict_of g)) in
          let q = whole.0 in
          let end = q.run.within in
          ap (λ x. x.answer.number)
          (answer-done o d first s taken
          (record {
            records = q.records;
            run = record { rising = h; within = omega arith };
            counted = q.counted;
            goes_on = q.goes_on;
          }) (omega (arith, needed, whole.1)))

      two : after_pass o d second mid ≡ done_with g second mid
      two =
          let long = length_image o d first s taken one in
          let q = whole.0 in
          let used = used-mid one in
          answer-done o d second mid taken
          (record {
            records = same_image d s.image mid.image long q.records;
            run = same_run d s.image mid.image b c long (record { rising = k; within = q.run.within });
            counted = omega (arith, used, room-same one, in_use_after o d first s taken one);
            goes_on = rw used (on_again o d first s taken one);
          }) (omega (arith, needed-both one k, whole.1, used, room-same one))
