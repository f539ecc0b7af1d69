-- CODES WITH A CHOSEN SET OF ROWS (02's request 109): the same questions, asked of what such a code is opened to, in both editions.
-- Assumes nothing.
use Rattle.std.specs.Prelude.{List, ℕ}
use Rattle.code.specs.declared.Refusal.{Refusal}
use Rattle.code.specs.Opened.{judgement_in}
use Rattle.rows.specs.declared.RowCode.{RowCode}
use Rattle.rows.specs.declared.WideRowCode.{WideRowCode}
use Rattle.rows.specs.Opened.{opened_rows, opened_wide_rows}
use Rattle.balance.specs.declared.RowBalance.{RowBalance}
use Rattle.balance.specs.Balance.{balances_of}
use Rattle.word.specs.declared.Word.{Word}
use Rattle.reading.specs.declared.Reading.{Reading}
use Rattle.writing.specs.declared.CheckWord.{CheckWord}
use Rattle.word.specs.Word.{joined}
use Rattle.writing.specs.Writing.{writing_of}
use Rattle.reading.specs.Reading.{reading_of}
use Rattle.record.specs.Layout.{data_size, wide_size}
use Rattle.explain.specs.Explanations.{Explained, explain_of}
use Rattle.card_check.specs.declared.CardCheck.{CardCheck}
use Rattle.card_check.specs.Checking.{carded_of}
use Rattle.asked.specs.declared.Pass.{Pass}
use Rattle.asked.specs.Pass.{State}
use Rattle.pass.specs.Pass.{After, after_pass}
use Rattle.recover.specs.declared.Recovery.{Recovery}
use Rattle.recover.specs.Recover.{recover_of}
use Rattle.finder.specs.declared.Found.{Found}
use Rattle.finder.specs.Finder.{find_of}
use Rattle.desk.specs.declared.ReadWord.{ReadWord}
use Rattle.desk.specs.declared.Recovered.{Recovered}
use Rattle.desk.specs.declared.BadPlaces.{BadPlaces}
use Rattle.desk.specs.Answers.{word_with, narrowed, recovered_by, bad_places_by}
use Rattle.desk.specs.Wide.{wide_word}

-- ---- up to 64 data bits

abbrev pub rows_judgement_of : RowCode → Refusal
rows_judgement_of code = judgement_in (opened_rows code)

abbrev pub rows_balance_of : RowCode → RowBalance
rows_balance_of code = balances_of (opened_rows code)

abbrev pub rows_written_of : RowCode → ℕ → CheckWord
rows_written_of code low = writing_of (opened_rows code) low

abbrev pub rows_read_of : RowCode → ℕ → ℕ → ReadWord
rows_read_of code low check = narrowed (reading_of (opened_rows code) (word_with low check))

abbrev pub rows_explained_of : RowCode → ℕ → ℕ → ℕ → List ℕ → Explained
rows_explained_of code low check limit list = explain_of (opened_rows code) (word_with low check) limit list

abbrev pub rows_cards_of : RowCode → ℕ → CardCheck
rows_cards_of code b = carded_of (opened_rows code) b

abbrev pub rows_passed_of : RowCode → Pass → State → After
rows_passed_of code p s = after_pass (opened_rows code) data_size p s

abbrev pub rows_recovered_of : RowCode → ℕ → ℕ → List ℕ → Recovered
rows_recovered_of code low check bad = recovered_by (recover_of (opened_rows code) (word_with low check) bad)

abbrev pub rows_bad_places_of : RowCode → ℕ → ℕ → ℕ → ℕ → BadPlaces
rows_bad_places_of code low check low' check' = bad_places_by (find_of (opened_rows code) (word_with low check) (word_with low' check'))

-- ---- the wide edition

abbrev pub wide_rows_judgement_of : WideRowCode → Refusal
wide_rows_judgement_of code = judgement_in (opened_wide_rows code)

abbrev pub wide_rows_balance_of : WideRowCode → RowBalance
wide_rows_balance_of code = balances_of (opened_wide_rows code)

abbrev pub wide_rows_written_of : WideRowCode → ℕ → ℕ → CheckWord
wide_rows_written_of code low high = writing_of (opened_wide_rows code) (joined low high)

abbrev pub wide_rows_read_of : WideRowCode → ℕ → ℕ → ℕ → Reading
wide_rows_read_of code low high check = reading_of (opened_wide_rows code) (wide_word low high check)

abbrev pub wide_rows_explained_of : WideRowCode → Word → ℕ → List ℕ → Explained
wide_rows_explained_of code word limit list = explain_of (opened_wide_rows code) word limit list

abbrev pub wide_rows_cards_of : WideRowCode → ℕ → CardCheck
wide_rows_cards_of code b = carded_of (opened_wide_rows code) b

abbrev pub wide_rows_passed_of : WideRowCode → Pass → State → After
wide_rows_passed_of code p s = after_pass (opened_wide_rows code) wide_size p s

abbrev pub wide_rows_recovered_of : WideRowCode → Word → List ℕ → Recovery
wide_rows_recovered_of code word bad = recover_of (opened_wide_rows code) word bad

abbrev pub wide_rows_bad_places_of : WideRowCode → Word → Word → Found
wide_rows_bad_places_of code first second = find_of (opened_wide_rows code) first second
