-- A PASS IS OF ITS RUN: images that agree on the records of the run give the same answer, the same journal and the same records there.
-- Assumes nothing.
use mathlib.Core.Path.{◌≡◌, sym, ap, subst, ◌∙◌}
use mathlib.Core.Logic.{◌≢◌, ◌⊎◌}
use mathlib.Core.List.{List}
use Prim.Native.Nat.{ℕ, ◌+◌, ◌-◌, ◌*◌, ◌/◌, ◌%◌, ◌≤◌, ◌<◌}
use native.Mathlib.Omega.{arith}
use lib.ListN.{length}
use Rattle.record.specs.Layout.{record_size, entry_size, image_limit, Entry, in_bytes}
use Rattle.record.specs.Run.{record_at, from_record, sum_run}
use Rattle.record.specs.Tally.{one_if}
use Rattle.record.specs.Journal.{unclean, noted}
use Rattle.runs.proofs.Run.{record_drop, sum_alike, gather_alike}
use Rattle.runs.proofs.Tallies.{tally_same}
use Rattle.code.specs.declared.Opened.{Opened}
use Rattle.std.specs.Prelude.{Ok}
use Rattle.at_record.specs.Outcome.{Reader, verdict_of, left_of, entry_of}
use Rattle.asked.specs.declared.Pass.{Pass}
use Rattle.asked.specs.Pass.{State}
use Rattle.pass.specs.Pass.{After, noted_run, needed_run, count_run, tally_run, behind, reader_of, after_pass}
use Rattle.asked.specs.Asked.{Image, Run, Askable}
use Rattle.pass.proofs.Cases.{refused_with, done_with, pass_refused}
use Rattle.pass.proofs.Answers.{answer_12, answer-14, answer-17, answer-16, answer-13, answer-done}
use Rattle.passes.proofs.Rows.{Row, row_of}
use Rattle.passes.proofs.Facts.{record-left}

-- an image of the same length has as many records
pub same_image : (d : ℕ) (image other : List ℕ) → length other ≡ length image → Image d image → Image d other
same_image d image other e h =
    record { whole = ap (λ n. n % record_size d) e ∙ h.whole; short = subst (λ n. n ≤ image_limit d) (sym e) h.short }

pub same_run : (d : ℕ) (image other : List ℕ) (a b : ℕ) → length other ≡ length image → Run d image a b → Run d other a b
same_run d image other a b e h = record { rising = h.rising; within = subst (λ n. b ≤ n / record_size d) (sym e) h.within }

-- ---- what is read off the run

module _ (f : Reader) (image other : List ℕ) (a b : ℕ)
    (same : (i : ℕ) → a ≤ i → i < b → record_at (record_size f.d) other i ≡ record_at (record_size f.d) image i) where
  abbrev size : ℕ
  size = record_size f.d

  same_at : (j : ℕ) → a + j < b → record_at size (from_record size a other) j ≡ record_at size (from_record size a image) j
  same_at j l = record_drop size other a j ∙ same (a + j) (omega arith) l ∙ sym (record_drop size image a j)

  same_sum : (s : List ℕ → ℕ) → sum_run size s other a b ≡ sum_run size s image a b
  same_sum s = sum_alike size s s (from_record size a other) (from_record size a image) (b - a) (λ j l. ap s (same_at j (omega arith)))

  pub same_needed : needed_run f other a b ≡ needed_run f image a b
  same_needed = same_sum (unclean (verdict_of f))

  pub same_tally : tally_run f other a b ≡ tally_run f image a b
  same_tally = tally_same (count_run f other a b) (count_run f image a b) (λ v. same_sum (one_if (verdict_of f) v))

  pub same_noted : (stamp : ℕ) → noted_run f stamp other a b ≡ noted_run f stamp image a b
  same_noted stamp =
      let says : ℕ → List ℕ → List Entry = λ i. noted (verdict_of f) (entry_of f stamp) (a + i) in
      gather_alike size says says (from_record size a other) (from_record size a image) (b - a) (λ j l. ap (says j) (same_at j (omega arith)))

-- ---- the pass

module _ (o : Opened) (d : ℕ) (p : Pass) (s : State) (other : List ℕ) (long : length other ≡ length s.image)
    (same : (i : ℕ) → p.start ≤ i → i < p.end → record_at (record_size d) other i ≡ record_at (record_size d) s.image i) where
  -- the same state with the other image
  abbrev s' : State
  s' = record { image = other; journal = s.journal; used = s.used }

  abbrev now : State → After
  now x = after_pass o d p x

  abbrev Alike : Type 0
  Alike =
      ((now s').answer ≡ (now s).answer)
      × ((now s').journal ≡ (now s).journal)
      × ((i : ℕ) → p.start ≤ i → i < p.end
      → record_at (record_size d) (now s').image i ≡ record_at (record_size d) (now s).image i)

  -- both refused
  refused : (number told : ℕ) → now s' ≡ refused_with number told s' → now s ≡ refused_with number told s → Alike
  refused number told x y = (
    ap (λ z. z.answer) x ∙ sym (ap (λ z. z.answer) y),
    ap (λ z. z.journal) x ∙ sym (ap (λ z. z.journal) y),
    λ i l u. ap (λ z. record_at (record_size d) z.image i) x ∙ same i l u ∙ sym (ap (λ z. record_at (record_size d) z.image i) y),
  )

  image_too : Image d s.image → Image d other
  image_too = same_image d s.image other long

  run_too : Run d s.image p.start p.end → Run d other p.start p.end
  run_too = same_run d s.image other p.start p.end long

  pub askable_too : Askable d p s → Askable d p s'
  askable_too q = record { records = image_too q.records; run = run_too q.run; counted = q.counted; goes_on = q.goes_on }

  abbrev f : Reader
  f = reader_of o d

  needed_too : needed_run f other p.start p.end ≡ needed_run f s.image p.start p.end
  needed_too = same_needed f s.image other p.start p.end same

  both_done : now s' ≡ done_with f p s' → now s ≡ done_with f p s → o.standing ≡ Ok tt → Alike
  both_done x y e =
      let tally = same_tally f s.image other p.start p.end same in
      let entries = same_noted f s.image other p.start p.end same p.stamp in
      let m = needed_too in (
        ap (λ z. z.answer) x
            ∙ (λ i. record { number = 0; told = 0; used = s.used + m i; tally = tally i })
            ∙ sym (ap (λ z. z.answer) y),
        ap (λ z. z.journal) x
            ∙ ap (λ l. behind (s.used * entry_size d) (in_bytes l) s.journal) entries
            ∙ sym (ap (λ z. z.journal) y),
        λ j l u.
            record-left o d p s' e (ap (λ z. z.answer.number) x) j l u
            ∙ ap (left_of f) (same j l u)
            ∙ sym (record-left o d p s e (ap (λ z. z.answer.number) y) j l u),
      )

  pub pass_of-run : Alike
  pass_of-run = go (row_of o d p s)
    where
      go : Row o d p s → Alike
      go (Row.closed g e) = refused g.number g.told (pass_refused o d p s' g e) (pass_refused o d p s g e)
      go (Row.no-image e h) =
          refused 12 0
          (answer_12 o d p s' e (subst (λ n. (n % record_size d ≢ 0) ⊎ (image_limit d < n)) (sym long) h)) (answer_12 o d p s e h)
      go (Row.no_run e i h) =
          refused 14 0
          (answer-14 o d p s' e (image_too i) (subst (λ n. (p.end < p.start) ⊎ (n / record_size d < p.end)) (sym long) h))
          (answer-14 o d p s e i h)
      go (Row.too_many e i r h) = refused 17 0 (answer-17 o d p s' e (image_too i) (run_too r) h) (answer-17 o d p s e i r h)
      go (Row.goes_back e i r n h) = refused 16 0 (answer-16 o d p s' e (image_too i) (run_too r) n h) (answer-16 o d p s e i r n h)
      go (Row.no_room e q h) =
          refused 13 (needed_run f s.image p.start p.end)
          (answer-13 o d p s' e (askable_too q) (rw needed_too h) ∙ ap (λ m. refused_with 13 m s') needed_too)
          (answer-13 o d p s e q h)
      go (Row.done e q h) = both_done (answer-done o d p s' e (askable_too q) (rw needed_too h)) (answer-done o d p s e q h) e
