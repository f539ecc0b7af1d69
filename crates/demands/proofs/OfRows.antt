-- The demands on codes with a chosen set of rows: from what such a code, and an accepted code of Hsiao's, is opened to. Assumes nothing.
use mathlib.Core.Path.{◌≡◌, ap}
use Rattle.code.specs.declared.Code.{Code}
use Rattle.code.specs.declared.WideCode.{WideCode}
use Rattle.code.specs.declared.Opened.{Opened}
use Rattle.code.specs.Opened.{judgement_in, opened_of, opened_wide}
use Rattle.rows.specs.declared.RowCode.{RowCode}
use Rattle.rows.specs.declared.WideRowCode.{WideRowCode}
use Rattle.rows.specs.Opened.{opened_rows, opened_wide_rows}
use Rattle.families.specs.AsRows.{as_rows, as_wide_rows}
use Rattle.families.proofs.Same.{opened_same}
use Rattle.balance.specs.Balance.{balances_of}
use Rattle.word.specs.Word.{joined}
use Rattle.writing.specs.Writing.{writing_of}
use Rattle.reading.specs.Reading.{reading_of}
use Rattle.explain.specs.Explanations.{explain_of}
use Rattle.card_check.specs.Checking.{carded_of}
use Rattle.record.specs.Layout.{data_size, wide_size}
use Rattle.pass.specs.Pass.{after_pass}
use Rattle.editions.specs.Given as of_any
use Rattle.editions.specs.Given.{chosen_of}
use Rattle.editions.proofs.Hsiao.{judged_of}
use Rattle.editions.proofs.OfRows as judge
use Rattle.recover.specs.Recover.{recover_of}
use Rattle.finder.specs.Finder.{find_of}
use Rattle.desk.specs.Answers.{word_with, narrowed, recovered_by, bad_places_by}
use Rattle.desk.specs.Wide.{wide_word}
use Rattle.demands.specs.Definitions.{Accepted}
use Rattle.demands.specs.Editions.{narrow_code, wide_code, wide}
use Rattle.demands.specs.Rows as demands
use Rattle.demands.specs.Rows.{chosen_ten, chosen_wide}
use Rattle.demands.proofs.OfEditions.{of_any}

pub accepted_rows_exactly : demands.AcceptedRowsExactly
accepted_rows_exactly = (λ code. judge.accepted_rows_exactly (chosen_ten code), λ code. judge.accepted_rows_exactly (chosen_wide code))

pub judged_rows_exactly : demands.JudgedRowsExactly
judged_rows_exactly = (λ code. judge.judged_rows_exactly (chosen_ten code), λ code. judge.judged_rows_exactly (chosen_wide code))

pub rows_promised : demands.RowsPromised
rows_promised = of_any (λ (code : RowCode). chosen_of (chosen_ten code))

pub wide_rows_promised : demands.WideRowsPromised
wide_rows_promised = of_any (λ (code : WideRowCode). chosen_of (chosen_wide code))

-- ---- the exported answers

opened_ten : (code : RowCode) → of_any.opened (chosen_of (chosen_ten code)) ≡ opened_rows code
opened_ten code = judge.opened-chosen 64 code.columns code.n code.r code.rows

opened_wide_lem : (code : WideRowCode) → of_any.opened (chosen_of (chosen_wide code)) ≡ opened_wide_rows code
opened_wide_lem code = judge.opened-chosen 128 code.columns code.n code.r code.rows

pub rows_answers : demands.RowsAnswers
rows_answers = record {
  judgement = λ code. ap judgement_in (opened_ten code);
  balance = λ code. ap balances_of (opened_ten code);
  written = λ code low. ap (λ (o : Opened). writing_of o low) (opened_ten code);
  reading = λ code low check. ap (λ (o : Opened). narrowed (reading_of o (word_with low check))) (opened_ten code);
  explained = λ code low check limit list. ap (λ (o : Opened). explain_of o (word_with low check) limit list) (opened_ten code);
  cards = λ code b. ap (λ (o : Opened). carded_of o b) (opened_ten code);
  passed = λ code p s. ap (λ (o : Opened). after_pass o data_size p s) (opened_ten code);
  recovered = λ code low check bad. ap (λ (o : Opened). recovered_by (recover_of o (word_with low check) bad)) (opened_ten code);
  found = λ code low check low' check'.
      ap (λ (o : Opened). bad_places_by (find_of o (word_with low check) (word_with low' check'))) (opened_ten code);
}

pub wide_rows_answers : demands.WideRowsAnswers
wide_rows_answers = record {
  judgement = λ code. ap judgement_in (opened_wide_lem code);
  balance = λ code. ap balances_of (opened_wide_lem code);
  written = λ code low high. ap (λ (o : Opened). writing_of o (joined low high)) (opened_wide_lem code);
  reading = λ code low high check. ap (λ (o : Opened). reading_of o (wide_word low high check)) (opened_wide_lem code);
  explained = λ code x limit list. ap (λ (o : Opened). explain_of o x limit list) (opened_wide_lem code);
  cards = λ code b. ap (λ (o : Opened). carded_of o b) (opened_wide_lem code);
  passed = λ code p s. ap (λ (o : Opened). after_pass o wide_size p s) (opened_wide_lem code);
  recovered = λ code x bad. ap (λ (o : Opened). recover_of o x bad) (opened_wide_lem code);
  found = λ code x y. ap (λ (o : Opened). find_of o x y) (opened_wide_lem code);
}

-- ---- the same answers through both families

same_ten : (code : Code) → Accepted code → opened_rows (as_rows code) ≡ opened_of code
same_ten code a = opened_same 64 code.columns code.k code.r a.handed (judged_of (narrow_code code) a.number)

same_wide : (code : WideCode) → of_any.Accepted (wide code) → opened_wide_rows (as_wide_rows code) ≡ opened_wide code
same_wide code a = opened_same 128 code.columns code.k code.r a.handed.places (judged_of (wide_code code) a.number)

pub same_answers : demands.SameAnswers
same_answers = record {
  judgement = λ code a. ap judgement_in (same_ten code a);
  balance = λ code a. ap balances_of (same_ten code a);
  written = λ code a low. ap (λ (o : Opened). writing_of o low) (same_ten code a);
  reading = λ code a low check. ap (λ (o : Opened). narrowed (reading_of o (word_with low check))) (same_ten code a);
  explained = λ code a low check limit list. ap (λ (o : Opened). explain_of o (word_with low check) limit list) (same_ten code a);
  cards = λ code a b. ap (λ (o : Opened). carded_of o b) (same_ten code a);
  passed = λ code a p s. ap (λ (o : Opened). after_pass o data_size p s) (same_ten code a);
  recovered = λ code a low check bad. ap (λ (o : Opened). recovered_by (recover_of o (word_with low check) bad)) (same_ten code a);
  found = λ code a low check low' check'.
      ap (λ (o : Opened). bad_places_by (find_of o (word_with low check) (word_with low' check'))) (same_ten code a);
}

pub same_wide_answers : demands.SameWideAnswers
same_wide_answers = record {
  judgement = λ code a. ap judgement_in (same_wide code a);
  balance = λ code a. ap balances_of (same_wide code a);
  written = λ code a low high. ap (λ (o : Opened). writing_of o (joined low high)) (same_wide code a);
  reading = λ code a low high check. ap (λ (o : Opened). reading_of o (wide_word low high check)) (same_wide code a);
  explained = λ code a x limit list. ap (λ (o : Opened). explain_of o x limit list) (same_wide code a);
  cards = λ code a b. ap (λ (o : Opened). carded_of o b) (same_wide code a);
  passed = λ code a p s. ap (λ (o : Opened). after_pass o wide_size p s) (same_wide code a);
  recovered = λ code a x bad. ap (λ (o : Opened). recover_of o x bad) (same_wide code a);
  found = λ code a x y. ap (λ (o : Opened). find_of o x y) (same_wide code a);
}
