-- The promises on the pass, proved from the layers' laws. Assumes nothing.
use Prim.{tt}
use mathlib.Core.Path.{◌≡◌, refl, sym, ap, ap₂, ◌∙◌}
use mathlib.Core.Bool.{cond}
use mathlib.Core.Logic.{◌⊎◌, inl, inr, ⊎_elim}
use mathlib.Core.List.{List, [], ◌∷◌, ◌++◌}
use Prim.Native.Nat.{ℕ, zero, suc, ◌+◌, ◌-◌, ◌^◌, ◌≤◌, ◌<◌}
use native.Mathlib.Omega.{arith}
use lib.Dec.{eqb}
use lib.ListN.{length}
use lib.Pow.{pow_mono}
use Rattle.parity.proofs.Ones.{below_or_not}
use Rattle.columns.specs.Mix.{column}
use Rattle.std.specs.Prelude.{Ok}
use Rattle.code.specs.Opened.{Standing, judgement_by, columns_of}
use Rattle.word.specs.declared.Word.{Word}
use Rattle.verdict.specs.declared.Verdict.{Verdict}
use Rattle.verdict.specs.declared.Verdict.TheVariants.{Clean, Data, Check, Even, Odd, Stray}
use Rattle.verdict.specs.Verdicts.{finding_of}
use Rattle.reading.specs.Reading.{mended_by}
use Rattle.reading.specs.Reading.{reading_by, reading_as}
use Rattle.mending.proofs.Syndromes.{syndrome-lt, syndrome-read}
use Rattle.record.specs.Bytes.{bytes_of, byte_span}
use Rattle.record.specs.Layout.{record_size, stamp_size, syndrome_size, head_bytes, Entry}
use Rattle.record.specs.Run.{from_record, add_up}
use Rattle.record.specs.Tally.{one_if}
use Rattle.record.specs.Journal.{entries_from, applied_all}
use Rattle.runs.proofs.Run.{record_drop}
use Rattle.runs.proofs.Tallies.{tally_same}
use Rattle.at_record.specs.Outcome as outcome
use Rattle.at_record.specs.Outcome.{Reader, word_in, seen}
use Rattle.asked.specs.declared.Pass.{Pass}
use Rattle.asked.specs.Pass.{State, pass_over}
use Rattle.pass.specs.Pass.{After, reader_of, count_run}
use Rattle.pass.proofs.Cases.{refused_with, pass_refused}
use Rattle.pass.proofs.Answers.{answer_12, answer-14, answer-17, answer-16, answer-13, answer-done}
use Rattle.passes.specs.Twice.{Step, steps_after}
use Rattle.passes.proofs.Facts as facts
use Rattle.passes.proofs.Alike.{pass_of-run}
use Rattle.passes.proofs.Twice as twice
use Rattle.passes.proofs.Applied as applied
use Rattle.passes.proofs.Stamps as stamps
use Rattle.reading.specs.declared.Reading.{Reading}
use Rattle.editions.specs.Given as words
use Rattle.editions.specs.Given.{Edition, Given, opened, judgement_of, passed_of, Accepted, record_of, read_at, verdict_of, place_for}
use Rattle.editions.specs.Given.{image_after, journal_after, answer_of, Done, PassRefused, needed, count_from, code_in, Turn, turns_after, AllStamped}
use Rattle.editions.specs.Promises as promises
use Rattle.editions.proofs.Codes.{standing-accepted, standing_refused, columns-are, limits-kept, columns-below, laid_of, held_of, sound_opened, bytes_of_lem}

-- ---- refusals, in their order

module _ (code : Given) (p : Pass) (s : State) where
  -- a refusal as the demands say it
  refused_as : (number told : ℕ) → passed_of code p s ≡ refused_with number told s → PassRefused code p s (words.told number told)
  refused_as number told e = record {
    answer = ap (λ (x : After). x.answer) e;
    same_image = ap (λ (x : After). x.image) e;
    same_journal = ap (λ (x : After). x.journal) e;
  }

  by_code : words.Refused code → PassRefused code p s (judgement_of code)
  by_code h =
      refused_as (judgement_of code).number (judgement_of code).told
      (pass_refused (opened code) code.edition.bytes p s (judgement_of code) (standing_refused code h))

  -- a done pass is one under an accepted code
  pub done_number : Done code p s → (judgement_of code).number ≡ 0
  done_number e =
      ⊎_elim
      (λ (h : (judgement_of code).number < 1). omega arith)
      (λ (h : 1 ≤ (judgement_of code).number).
      let f = ap (λ x. x.number) (by_code (λ z. omega arith)).answer in absurd (omega arith))
      (below_or_not (judgement_of code).number 1)

  pub done_standing : Done code p s → (opened code).standing ≡ Ok tt
  done_standing e = standing-accepted code (done_number e)

pub pass_refuses : (code : Given) → promises.PassRefuses code
pass_refuses code p s =
    let o = opened code in
    let up : Accepted code → o.standing ≡ Ok tt = λ c. standing-accepted code c.number in (
      by_code code p s,
      λ c n. refused_as code p s 12 0 (answer_12 o code.edition.bytes p s (up c) n),
      λ c i n. refused_as code p s 14 0 (answer-14 o code.edition.bytes p s (up c) i n),
      λ c i r n. refused_as code p s 17 0 (answer-17 o code.edition.bytes p s (up c) i r n),
      λ c i r m n. refused_as code p s 16 0 (answer-16 o code.edition.bytes p s (up c) i r m n),
      λ c q n. refused_as code p s 13 (needed code s.image p.start p.end) (answer-13 o code.edition.bytes p s (up c) q n),
      λ c q n.
          let e = answer-done o code.edition.bytes p s (up c) q n in
          (ap (λ (x : After). x.answer.number) e, ap (λ (x : After). x.answer.told) e, ap (λ (x : After). x.answer.used) e),
    )

pub askable_exactly : (e : Edition) → promises.AskableExactly e
askable_exactly e p s = (
  λ q. (q.records, q.run, q.counted, q.goes_on),
  λ x. record { records = x.0; run = x.1; counted = x.2; goes_on = x.3 },
)

pub pass_empty : (code : Given) → promises.PassEmpty code
pass_empty code a stamp s c q =
    let e = facts.empty_run (opened code) code.edition.bytes a stamp s (standing-accepted code c.number) q in
    (ap (λ (x : After). x.answer) e, ap (λ (x : After). x.image) e, ap (λ (x : After). x.journal) e)

pub pass_outside : (code : Given) → promises.PassOutside code
pass_outside code p s =
    let o = opened code in
    let l = facts.same_length o code.edition.bytes p s in (
      facts.outside_before o code.edition.bytes p s,
      facts.outside_after o code.edition.bytes p s,
      l.0,
      facts.used_entries_stay o code.edition.bytes p s,
      l.1,
    )

pub of_run : (code : Given) → promises.PassOfRun code
of_run code p s other long same =
    let x = pass_of-run (opened code) code.edition.bytes p s other long same in
    (x.0, x.1)

-- ---- the verdict, the place and the word of a record, as its reading has them

-- a stray word has verdict 5 and place 255 in a pass, where a reading refuses it by 7
verdict-read : (v : Verdict) (s k : ℕ) (w : Word)
    → (finding_of v).verdict ≡ cond (eqb (reading_by v s k w).number 7) 5 (reading_by v s k w).verdict
verdict-read Clean s k w = refl
verdict-read (Data p) s k w = refl
verdict-read (Check p) s k w = refl
verdict-read Even s k w = refl
verdict-read Odd s k w = refl
verdict-read Stray s k w = refl

place_read : (v : Verdict) (s k : ℕ) (w : Word)
    → (finding_of v).place ≡ cond (eqb (reading_by v s k w).number 7) 255 (reading_by v s k w).place
place_read Clean s k w = refl
place_read (Data p) s k w = refl
place_read (Check p) s k w = refl
place_read Even s k w = refl
place_read Odd s k w = refl
place_read Stray s k w = refl

-- a mended word is handed back by its reading
word_read : (v : Verdict) (s k : ℕ) (w : Word) → ((finding_of v).verdict ≡ 1) ⊎ ((finding_of v).verdict ≡ 2)
    → (reading_by v s k w).word ≡ mended_by v k w
word_read Clean s k w h = refl
word_read (Data p) s k w h = refl
word_read (Check p) s k w h = refl
word_read Even s k w h = refl
word_read Odd s k w h = refl
word_read Stray s k w h = absurd (⊎_elim (λ (e : ◌≡◌ {A = ℕ} 5 1). omega arith) (λ (e : ◌≡◌ {A = ℕ} 5 2). omega arith) h)

module _ (code : Given) (e : (judgement_of code).number ≡ 0) (image : List ℕ) (i : ℕ) where
  abbrev f : Reader
  f = reader_of (opened code) code.edition.bytes

  abbrev rec : List ℕ
  rec = record_of code.edition image i

  abbrev word : Word
  word = word_in code.edition.bytes rec

  abbrev found : Verdict
  found = seen f rec

  abbrev told : ℕ
  told = outcome.syndrome_of f rec

  pub read_same : read_at code image i ≡ reading_by found told (opened code).k word
  unfolding seen outcome.syndrome_of
  read_same = ap (λ s. reading_as s (opened code) word) (standing-accepted code e)

  pub verdict_same : outcome.verdict_of f rec ≡ verdict_of code image i
  unfolding outcome.verdict_of
  verdict_same = verdict-read found told (opened code).k word ∙ ap (λ x. cond (eqb x.number 7) 5 x.verdict) (sym read_same)

  pub finding_verdict : (finding_of found).verdict ≡ outcome.verdict_of f rec
  unfolding outcome.verdict_of
  finding_verdict = refl

  pub syndrome_same : outcome.syndrome_of f rec ≡ words.syndrome_for code image i
  unfolding outcome.syndrome_of seen
  syndrome_same =
      syndrome-read f.rows f.columns f.k word ∙ ap (λ (x : Reading). x.syndrome) (sym read_same)

  pub place_same : (finding_of found).place ≡ place_for code image i
  place_same = place_read found told (opened code).k word ∙ ap (λ x. cond (eqb x.number 7) 255 x.place) (sym read_same)

  -- a mended record is that of the word that its reading hands back
  pub mended_same : (outcome.verdict_of f rec ≡ 1) ⊎ (outcome.verdict_of f rec ≡ 2)
      → outcome.record_of code.edition.bytes (mended_by found (opened code).k word)
      ≡ outcome.record_of code.edition.bytes (read_at code image i).word
  unfolding outcome.verdict_of
  mended_same h =
      sym (ap (λ (x : Reading). outcome.record_of code.edition.bytes x.word) read_same
      ∙ ap (outcome.record_of code.edition.bytes) (word_read found told (opened code).k word h))

-- ---- what a done pass changes

pub pass_records : (code : Given) → promises.PassRecords code
pass_records code p s done i l u =
    let o = opened code in
    let t = done_standing code p s done in
    let n = done_number code p s done in
    let v = verdict_same code n s.image i in (
      λ h.
          let g = ⊎_elim (λ x. inl (v ∙ x)) (λ x. inr (v ∙ x)) h in
          facts.mended_is o code.edition.bytes p s t done i l u g ∙ mended_same code n s.image i g,
      λ x y. facts.unmended-stays o code.edition.bytes p s t done i l u (λ z. x (sym v ∙ z)) (λ z. y (sym v ∙ z)),
    )

-- an entry's bytes, spelled out
entry_spelled : (stamp i verdict place syndrome : ℕ) (before after : List ℕ)
    → head_bytes stamp i verdict place syndrome ++ (before ++ after) ≡ words.entry_of stamp i verdict place syndrome before after
unfolding head_bytes bytes_of
entry_spelled stamp i verdict place syndrome before after = refl

pub pass_entries : (code : Given) → promises.PassEntries code
pass_entries code p s done =
    let o = opened code in
    let t = done_standing code p s done in
    let n = done_number code p s done in (
      λ i l u m.
          let v = verdict_same code n s.image i in
          let place = place_same code n s.image i in
          let left = record_of code.edition (image_after code p s) i in
          facts.entry-is o code.edition.bytes p s t done i l u (λ z. m (sym v ∙ z))
          ∙ entry_spelled p.stamp i _ _ _ (record_of code.edition s.image i) left
          ∙ (λ j. words.entry_of p.stamp i ((finding_verdict code n s.image i ∙ v) j) (place j) (syndrome_same code n s.image i j)
          (record_of code.edition s.image i) left),
      λ m l.
          let x = facts.entry_whose o code.edition.bytes p s t done m l in
          (x.0, x.1, x.2, λ z. x.3 (verdict_same code n s.image x.0 ∙ z), x.4),
      facts.journal_stays o code.edition.bytes p s t done,
    )

-- ---- what it does is its list of entries

-- 32 bits are four bytes
pub four_bytes : (n : ℕ) → n < 2 ^ 32 → n < byte_span stamp_size
unfolding byte_span
four_bytes n h = omega arith

-- a syndrome has at most 16 digits
pub narrow : (code : Given) → (judgement_of code).number ≡ 0 → (rec : List ℕ)
    → outcome.syndrome_of (reader_of (opened code) code.edition.bytes) rec < byte_span syndrome_size
unfolding outcome.syndrome_of byte_span
narrow code e rec =
    let o = opened code in
    let limits = limits-kept code e in
    let below : (p : ℕ) → p < length (columns_of o) → column (columns_of o) p < 2 ^ code.r =
    rw (columns-are code e) (columns-below code e) in
    omega (
      arith,
      syndrome-lt (columns_of o) o.k (word_in code.edition.bytes rec) code.r below,
      pow_mono {i = code.r} {j = 16} limits.top,
    )

pub pass_applied : (code : Given) → promises.PassApplied code
pass_applied code p s small done =
    let o = opened code in
    let thin = narrow code (done_number code p s done) in
    let t = done_standing code p s done in
    let used = facts.used_is o code.edition.bytes p s t done in
    let count : (answer_of code p s).used - s.used ≡ needed code s.image p.start p.end = omega (arith, used) in
    applied.image_applied o p s code.edition.bytes t done thin
    ∙ ap (λ (es : List Entry). applied_all code.edition.bytes es s.image)
    (sym (ap (λ (n : ℕ). entries_from code.edition.bytes (journal_after code p s) s.used n) count
    ∙ applied.new-read o p s code.edition.bytes t done thin (four_bytes p.stamp small)))

-- ---- stamps

-- a refused code tells a number
pub known : (code : Given) → stamps.Known (opened code)
known code g e z =
    let a = standing-accepted code (ap (λ (x : Standing). (judgement_by x).number) e ∙ z) in
    cc

module _ (e : Edition) where
  abbrev pub step_of : Turn → Step
  step_of x = record { under = opened (code_in e x); pass = x.pass }

  abbrev pub steps_of : List Turn → List Step
  steps_of [] = []
  steps_of (x ∷ xs) = step_of x ∷ steps_of xs

  pub same_after : (xs : List Turn) (s : State) → turns_after e xs s ≡ steps_after e.bytes (steps_of xs) s
  unfolding turns_after steps_after
  same_after [] s = refl
  same_after (x ∷ xs) s = same_after xs (words.state_after (code_in e x) x.pass s)

  all_known : (xs : List Turn) → AllStamped xs → stamps.AllSteps (steps_of xs)
  unfolding AllStamped stamps.AllSteps
  all_known [] h = tt
  all_known (x ∷ xs) h = ((known (code_in e x), four_bytes x.pass.stamp h.0), all_known xs h.1)

pub stamps_rise : (e : Edition) → promises.StampsRise e
stamps_rise e turns s small none =
    let r = stamps.steps_rising e.bytes (steps_of e turns) s (all_known e turns small) (stamps.empty_rising e.bytes s none) in
    let q : stamps.Rising e.bytes (turns_after e turns s) = rw (same_after e turns s) r in
    (q.counted, q.rises)

-- the counts of a run, record by record
counted : (code : Given) (e : (judgement_of code).number ≡ 0) (image : List ℕ) (v a n : ℕ)
    → add_up (record_size code.edition.bytes) (one_if (outcome.verdict_of (reader_of (opened code) code.edition.bytes)) v)
    (from_record (record_size code.edition.bytes) a image) n
    ≡ count_from code image v a n
unfolding add_up count_from one_if
counted code e image v a zero = refl
counted code e image v a (suc n) =
    ap₂ (λ (x y : ℕ). x + y) (counted code e image v a n)
    (ap (λ (x : ℕ). cond (eqb x v) 1 0)
    (ap (outcome.verdict_of (reader_of (opened code) code.edition.bytes)) (record_drop (record_size code.edition.bytes) image a n)
    ∙ verdict_same code e image (a + n)))

pub pass_counts : (code : Given) → promises.PassCounts code
pass_counts code p s done =
    let o = opened code in
    let t = done_standing code p s done in
    let n = done_number code p s done in (
      facts.tally_is o code.edition.bytes p s t done
          ∙ tally_same (count_run (reader_of o code.edition.bytes) s.image p.start p.end)
          (λ v. count_from code s.image v p.start (p.end - p.start))
          (λ v. counted code n s.image v p.start (p.end - p.start)),
      facts.six_add_up o code.edition.bytes p s t done,
      facts.five_add_up o code.edition.bytes p s t done,
    )

-- ---- two passes

pub pass_again : (code : Given) → promises.PassAgain code
pass_again code handed p s bytes done =
    twice.pass_again (opened code) code.edition.bytes (sound_opened code handed) (laid_of code handed) (held_of code handed)
    (done_standing code p s done) p s (bytes_of_lem code s.image (done_number code p s done) bytes) done

pub pass_in-two : (code : Given) → promises.PassInTwo code
pass_in-two code a b c stamp s =
    let o = opened code in (
      λ up on d. twice.done_both o code.edition.bytes a b c stamp s (done_standing code (pass_over a c stamp) s d) d up on,
      λ first second.
          let t = done_standing code (pass_over a b stamp) s first in (
            twice.both-answer o code.edition.bytes a b c stamp s t first second,
            twice.both-image o code.edition.bytes a b c stamp s t first second,
            twice.both-journal o code.edition.bytes a b c stamp s t first second,
          ),
    )
