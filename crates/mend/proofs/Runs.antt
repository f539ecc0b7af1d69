-- A run that is ready is passed over, and what is done run by run is what is done of the whole image. Assumes nothing.
use mathlib.Core.Path.{◌≡◌, refl, sym, ap, ◌∙◌}
use mathlib.Core.Logic.{inl, ⊎_elim}
use mathlib.Core.List.{List, ◌++◌}
use Prim.Native.Nat.{ℕ, ◌+◌, ◌*◌, ◌-◌, ◌≤◌, ◌<◌}
use native.Mathlib.Omega.{arith}
use lib.ListN.{length, take, drop}
use lib.Seq.{take_at}
use lib.Count.{ones, ones_in}
use Rattle.columns.specs.Mix.{place_in}
use Rattle.record.specs.Layout.{data_size, record_size, entry_size, in_bytes, records_in}
use Rattle.record.specs.Run.{gather, add_up, over, from_record}
use Rattle.record.specs.Tally.{one_if}
use Rattle.record.specs.Journal.{noted}
use Rattle.runs.proofs.Tallies.{count-le}
use Rattle.runs.proofs.Entries.{in_bytes-append}
use Rattle.runs.proofs.Image as runs
use Rattle.code.specs.declared.Opened.{Opened}
use Rattle.std.specs.Prelude.{Ok}
use Rattle.judge.specs.Judge.{judge_column, judge_from, judge_columns, judge_rest, leftover_from, judge_in}
use Rattle.code.specs.Opened.{opened_of}
use Rattle.code.specs.Sample.{sample_code}
use Rattle.pass.specs.declared.PassAnswer.{PassAnswer}
use Rattle.at_record.specs.Outcome.{verdict_of, left_of, entry_of}
use Rattle.asked.specs.declared.Pass.{Pass}
use Rattle.asked.specs.Pass.{State, pass_over, state_of, room_in}
use Rattle.pass.specs.Pass.{After, noted_run, needed_run, count_run, after_pass}
use Rattle.asked.specs.Asked.{Image}
use Rattle.pass.proofs.Cases.{done_with}
use Rattle.pass.proofs.Answers.{answer_12, answer-done}
use Rattle.at_record.proofs.Outcomes.{length-left_of}
use Rattle.passes.proofs.Facts.{length-noted_run, five_counts, six_counts}
use Rattle.passes.proofs.Rows.{Row, row_of, done-asked}
use Rattle.report.specs.Text.{journal_text}
use Rattle.report.specs.Totals.{no_totals, added_to, total_limit, Within}
use Rattle.report.proofs.Lines.{journal_append}
use Rattle.mend.specs.Mend.{sample_reader, run_tally, run_left, run_text, Ready, as_totals}

pub sample_accepted : (opened_of sample_code).standing ≡ Ok tt
unfolding judge_in judge_columns judge_rest leftover_from judge_from judge_column ones ones_in place_in
sample_accepted = refl

-- a run that ends within the image
fits : (image : List ℕ) (b : ℕ) → b ≤ records_in data_size image → b * record_size data_size ≤ length image
fits image b h = omega arith

-- what the program tells a pass, and what that works on: stamp 0, and no entry in use
abbrev pub over_run_lem : ℕ → ℕ → Pass
over_run_lem a b = pass_over a b 0

abbrev pub held : List ℕ → List ℕ → State
held image journal = state_of image journal 0

-- ---- a pass over no record tells whether the image is refused

module _ (opened : Opened) (image journal : List ℕ) (answer : PassAnswer) (is : opened ≡ opened_of sample_code)
    (e : answer ≡ (after_pass opened data_size (over_run_lem 0 0) (held image journal)).answer) where
  abbrev o : Opened
  o = opened_of sample_code

  abbrev p : Pass
  p = over_run_lem 0 0

  abbrev s : State
  s = held image journal

  sampled : answer ≡ (after_pass o data_size p s).answer
  sampled = e ∙ ap (λ x. (after_pass x data_size p s).answer) is

  pub taken_image : answer.number ≡ 0 → Image data_size image
  taken_image z = (done-asked o data_size p s sample_accepted (sym (ap (λ x. x.number) sampled) ∙ z)).0.records

  -- and where it is, the number is 12
  pub refused_by_12 : ¬ (answer.number ≡ 0) → answer.number ≡ 12
  unfolding add_up
  refused_by_12 n = go (row_of o data_size p s)
    where
      told : (x : After) → after_pass o data_size p s ≡ x → answer.number ≡ x.answer.number
      told x g = ap (λ y. y.number) sampled ∙ ap (λ y. y.answer.number) g

      go : Row o data_size p s → answer.number ≡ 12
      go (Row.closed g f) = let taken = sample_accepted in cc
      go (Row.no-image f h) = told _ (answer_12 o data_size p s f h)
      go (Row.no_run f i h) = ⊎_elim (λ (x : 0 < 0). absurd (omega arith)) (λ (x : records_in data_size image < 0). absurd (omega arith)) h
      go (Row.too_many f i r h) = absurd (omega arith)
      go (Row.goes_back f i r m h) = absurd (omega (arith, h.some))
      go (Row.no_room f q h) = absurd (omega arith)
      go (Row.done f q h) = absurd (n (told _ (answer-done o data_size p s f q h)))

-- ---- one run

module _ (image : List ℕ) (a b : ℕ) (journal lines : List ℕ) (h : Ready image a b journal lines) where
  within : b * record_size data_size ≤ length image
  within = fits image b h.run.within

  -- the entries that it needs
  abbrev needed : ℕ
  needed = needed_run sample_reader image a b

  few : needed ≤ b - a
  few =
      omega (
        arith,
        five_counts sample_reader image a b h.run.rising within,
        six_counts sample_reader image a b h.run.rising within,
      )

  pub run-done : after_pass (opened_of sample_code) data_size (over_run_lem a b) (held image journal)
      ≡ done_with sample_reader (over_run_lem a b) (held image journal)
  run-done =
      answer-done (opened_of sample_code) data_size (over_run_lem a b) (held image journal) sample_accepted
      (record { records = h.records; run = h.run; counted = omega arith; goes_on = inl refl }) (omega (arith, few, h.room))

  -- what the pass answers and leaves behind
  pub outcome : (opened : Opened) (answer : PassAnswer) (after later : List ℕ) → opened ≡ opened_of sample_code
      → let x = after_pass opened data_size (over_run_lem a b) (held image journal) in
      (answer ≡ x.answer) × ((after ≡ x.image) × (later ≡ x.journal))
      → (answer.tally ≡ run_tally image a b)
      × (answer.used ≡ needed)
      × (after ≡ run_left image a b)
      × (later ≡ over (in_bytes (noted_run sample_reader 0 image a b)) journal)
  unfolding run_tally run_left
  outcome opened answer after later s p =
      let e = ap (λ o. after_pass o data_size (over_run_lem a b) (held image journal)) s ∙ run-done in (
        ap (λ x. x.tally) (p.0 ∙ ap (λ x. x.answer) e),
        ap (λ x. x.used) (p.0 ∙ ap (λ x. x.answer) e) ∙ omega arith,
        p.1.0 ∙ ap (λ x. x.image) e,
        p.1.1 ∙ ap (λ x. x.journal) e,
      )

  -- the part of the journal that the entries take, and its lines
  used_bytes : length (in_bytes (noted_run sample_reader 0 image a b)) ≡ entry_size data_size * needed
  used_bytes = length-noted_run sample_reader image a b h.run.rising within 0

  pub few_entries : needed ≤ room_in data_size journal
  few_entries = omega (arith, few, h.room)

  -- no more than an image has records
  pub few_records : needed ≤ 65535
  few_records = omega (arith, few, h.run.within, h.records.short)

  pub run_text_lem : (after : List ℕ) → after ≡ over (in_bytes (noted_run sample_reader 0 image a b)) journal
      → journal_text (take (entry_size data_size * needed) after) ≡ run_text image a b
  unfolding run_text
  run_text_lem after g =
      let es : List ℕ = in_bytes (noted_run sample_reader 0 image a b) in
      let n = entry_size data_size * needed in
      ap journal_text (ap (take n) g ∙ take_at es (drop (length es) journal) n used_bytes)

-- ---- run by run

-- a record as it is left keeps its size
abbrev left : ℕ → List ℕ → List ℕ
left i = left_of sample_reader

left_each : (i : ℕ) (rec : List ℕ) → length rec ≡ record_size data_size → length (left i rec) ≡ record_size data_size
left_each i = length-left_of sample_reader

-- before the first run
pub left_none : (image : List ℕ) → image ≡ run_left image 0 0
unfolding run_left gather
left_none image = refl

pub totals_none : (image : List ℕ) → no_totals ≡ as_totals (run_tally image 0 0)
unfolding run_tally add_up
totals_none image = refl

-- the sums stay small
pub totals_within : (image : List ℕ) (b : ℕ) → b ≤ total_limit → Within total_limit (as_totals (run_tally image 0 b))
unfolding run_tally
totals_within image b h =
    record { clean = few 0; «data» = few 1; check = few 2; even = few 3; odd = few 4; stray = few 5 }
  where
    few : (v : ℕ) → count_run sample_reader image 0 b v ≤ total_limit
    few v = omega (arith, count-le (record_size data_size) (verdict_of sample_reader) (from_record (record_size data_size) 0 image) v (b - 0))

-- after the records below b, those up to c
module _ (image : List ℕ) (b c : ℕ) (h : b ≤ c) (g : c ≤ records_in data_size image) where
  rest_stays : from_record (record_size data_size) b (run_left image 0 b) ≡ from_record (record_size data_size) b image
  unfolding run_left
  rest_stays = runs.after_stays (record_size data_size) left left_each image 0 b (omega arith) (fits image b (omega arith))

  pub left_next : run_left (run_left image 0 b) b c ≡ run_left image 0 c
  unfolding run_left
  left_next = runs.run-split (record_size data_size) image 0 b c (omega arith) h left left_each (fits image c g)

  count_next : (v : ℕ) → count_run sample_reader image 0 b v + count_run sample_reader
      (run_left image 0 b) b c v ≡ count_run sample_reader image 0 c v
  count_next v =
      let one = one_if (verdict_of sample_reader) v in
      ap (λ (l : List ℕ). count_run sample_reader image 0 b v + add_up (record_size data_size) one l (c - b)) rest_stays
      ∙ sym (runs.sum-split (record_size data_size) image 0 b c (omega arith) h one)

  pub totals_next : added_to (as_totals (run_tally image 0 b)) (run_tally (run_left image 0 b) b c) ≡ as_totals (run_tally image 0 c)
  unfolding run_tally
  totals_next =
      λ i. record {
        clean = count_next 0 i;
        «data» = count_next 1 i;
        check = count_next 2 i;
        even = count_next 3 i;
        odd = count_next 4 i;
        stray = count_next 5 i;
      }

  -- the lines of the first runs, and then those of the next, are the lines of all
  pub text_next : run_text image 0 c ≡ run_text image 0 b ++ run_text (run_left image 0 b) b c
  unfolding run_text
  text_next =
      let note = noted (verdict_of sample_reader) (entry_of sample_reader 0) in
      let first = noted_run sample_reader 0 image 0 b in
      let rest = noted_run sample_reader 0 image b c in
      ap (λ l. journal_text (in_bytes l)) (runs.gather-split (record_size data_size) image 0 b c (omega arith) h note)
      ∙ ap journal_text (in_bytes-append first rest)
      ∙ journal_append (in_bytes first) (in_bytes rest) (needed_run sample_reader image 0 b)
      (length-noted_run sample_reader image 0 b (omega arith) (fits image b (omega arith)) 0)
      ∙ ap (λ (l : List ℕ). run_text image 0 b ++ journal_text (in_bytes (gather (record_size data_size) (λ i. note (b + i)) l (c - b))))
      (sym rest_stays)
