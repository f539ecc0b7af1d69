-- CODES WITH A CHOSEN SET OF ROWS (02's request 109), in both editions: when they are accepted, every promise of a code of any family, the
-- answers of the exported functions, and that an accepted code of Hsiao's with all rows in the set is answered the same. Assumes nothing.
use Rattle.std.specs.Prelude.{◌≡◌, List, ℕ}
use Rattle.code.specs.declared.Code.{Code}
use Rattle.code.specs.declared.WideCode.{WideCode}
use Rattle.rows.specs.declared.RowCode.{RowCode}
use Rattle.rows.specs.declared.WideRowCode.{WideRowCode}
use Rattle.families.specs.AsRows.{as_rows, as_wide_rows}
use Rattle.word.specs.declared.Word.{Word}
use Rattle.word.specs.Word.{joined}
use Rattle.asked.specs.declared.Pass.{Pass}
use Rattle.asked.specs.Pass.{State}
use Rattle.editions.specs.Given.{ten_bytes, eighteen_bytes, ChosenCode, chosen_of}
use Rattle.editions.specs.Given as of_any
use Rattle.editions.specs.Promises as promises
use Rattle.desk.specs.Answers.{judgement_of, rows_of, written_of, word_with, narrowed, read_of, explained_of, cards_of, passed_of}
use Rattle.desk.specs.Answers.{recovered_by, recovered_of, bad_places_by, bad_places_of}
use Rattle.desk.specs.Wide.{wide_recovered_of, wide_bad_places_of}
use Rattle.desk.specs.Rows.{rows_recovered_of, rows_bad_places_of, wide_rows_recovered_of, wide_rows_bad_places_of}
use Rattle.desk.specs.Wide.{wide_judgement_of, wide_rows_of, wide_written_of, wide_word, wide_read_of, wide_explained_of, wide_cards_of, wide_passed_of}
use Rattle.desk.specs.Rows.{rows_judgement_of, rows_balance_of, rows_written_of, rows_read_of, rows_explained_of, rows_cards_of, rows_passed_of}
use Rattle.desk.specs.Rows.{wide_rows_judgement_of, wide_rows_balance_of, wide_rows_written_of, wide_rows_read_of, wide_rows_explained_of}
use Rattle.desk.specs.Rows.{wide_rows_cards_of, wide_rows_passed_of}
use Rattle.demands.specs.Definitions.{Accepted}
use Rattle.demands.specs.Editions.{wide, PromisedOfAny}

-- ---- codes as they are handed about

abbrev pub chosen_ten : RowCode → ChosenCode
chosen_ten code = record { edition = ten_bytes; columns = code.columns; n = code.n; r = code.r; rows = code.rows }

abbrev pub chosen_wide : WideRowCode → ChosenCode
chosen_wide code = record { edition = eighteen_bytes; columns = code.columns; n = code.n; r = code.r; rows = code.rows }

-- ---- the demands

-- They are accepted exactly when the rule is kept.
abbrev pub AcceptedRowsExactly : Type 0
AcceptedRowsExactly =
    ((code : RowCode) → promises.AcceptedRowsExactly (chosen_ten code))
    × ((code : WideRowCode) → promises.AcceptedRowsExactly (chosen_wide code))

-- Refusals 1, 2, 3, 20 with its reasons, and 21: each exactly when its row of the table holds and no earlier one.
abbrev pub JudgedRowsExactly : Type 0
JudgedRowsExactly =
    ((code : RowCode) → promises.JudgedRowsExactly (chosen_ten code))
    × ((code : WideRowCode) → promises.JudgedRowsExactly (chosen_wide code))

-- Every promise of a code of any family holds of them: writing solves for the check bits, and no others do; one flip is put right and two
-- are flagged; lists, cards, balance and passes are as for Hsiao's family.
abbrev pub RowsPromised : Type 0
RowsPromised = PromisedOfAny (λ (code : RowCode). chosen_of (chosen_ten code))

abbrev pub WideRowsPromised : Type 0
WideRowsPromised = PromisedOfAny (λ (code : WideRowCode). chosen_of (chosen_wide code))

-- The promises are about what the exported functions answer, question by question.
pub record RowsAnswers : Type 0 where
  pub judgement : (code : RowCode) → of_any.judgement_of (chosen_of (chosen_ten code)) ≡ rows_judgement_of code
  pub balance : (code : RowCode) → of_any.rows_of (chosen_of (chosen_ten code)) ≡ rows_balance_of code
  pub written : (code : RowCode) (low : ℕ) → of_any.written_of (chosen_of (chosen_ten code)) low ≡ rows_written_of code low
  pub reading : (code : RowCode) (low check : ℕ)
      → narrowed (of_any.read_of (chosen_of (chosen_ten code)) (word_with low check)) ≡ rows_read_of code low check
  pub explained : (code : RowCode) (low check limit : ℕ) (list : List ℕ)
      → of_any.explained_of (chosen_of (chosen_ten code)) (word_with low check) limit list ≡ rows_explained_of code low check limit list
  pub cards : (code : RowCode) (b : ℕ) → of_any.cards_of (chosen_of (chosen_ten code)) b ≡ rows_cards_of code b
  pub passed : (code : RowCode) (p : Pass) (s : State) → of_any.passed_of (chosen_of (chosen_ten code)) p s ≡ rows_passed_of code p s
  pub recovered : (code : RowCode) (low check : ℕ) (bad : List ℕ)
      → recovered_by (of_any.recovered_of (chosen_of (chosen_ten code)) (word_with low check) bad) ≡ rows_recovered_of code low check bad
  pub found : (code : RowCode) (low check low' check' : ℕ)
      → bad_places_by (of_any.bad_places_of (chosen_of (chosen_ten code)) (word_with low check) (word_with low' check'))
      ≡ rows_bad_places_of code low check low' check'

pub record WideRowsAnswers : Type 0 where
  pub judgement : (code : WideRowCode) → of_any.judgement_of (chosen_of (chosen_wide code)) ≡ wide_rows_judgement_of code
  pub balance : (code : WideRowCode) → of_any.rows_of (chosen_of (chosen_wide code)) ≡ wide_rows_balance_of code
  pub written : (code : WideRowCode) (low high : ℕ)
      → of_any.written_of (chosen_of (chosen_wide code)) (joined low high) ≡ wide_rows_written_of code low high
  pub reading : (code : WideRowCode) (low high check : ℕ)
      → of_any.read_of (chosen_of (chosen_wide code)) (wide_word low high check) ≡ wide_rows_read_of code low high check
  pub explained : (code : WideRowCode) (x : Word) (limit : ℕ) (list : List ℕ)
      → of_any.explained_of (chosen_of (chosen_wide code)) x limit list ≡ wide_rows_explained_of code x limit list
  pub cards : (code : WideRowCode) (b : ℕ) → of_any.cards_of (chosen_of (chosen_wide code)) b ≡ wide_rows_cards_of code b
  pub passed : (code : WideRowCode) (p : Pass) (s : State) → of_any.passed_of (chosen_of (chosen_wide code)) p s ≡ wide_rows_passed_of code p s
  pub recovered : (code : WideRowCode) (x : Word) (bad : List ℕ)
      → of_any.recovered_of (chosen_of (chosen_wide code)) x bad ≡ wide_rows_recovered_of code x bad
  pub found : (code : WideRowCode) (x y : Word) → of_any.bad_places_of (chosen_of (chosen_wide code)) x y ≡ wide_rows_bad_places_of code x y

-- An accepted code of Hsiao's family, its n columns handed over with all rows in the set, gets the same answer to every question.
pub record SameAnswers : Type 0 where
  pub judgement : (code : Code) → Accepted code → rows_judgement_of (as_rows code) ≡ judgement_of code
  pub balance : (code : Code) → Accepted code → rows_balance_of (as_rows code) ≡ rows_of code
  pub written : (code : Code) → Accepted code → (low : ℕ) → rows_written_of (as_rows code) low ≡ written_of code low
  pub reading : (code : Code) → Accepted code → (low check : ℕ) → rows_read_of (as_rows code) low check ≡ read_of code low check
  pub explained : (code : Code) → Accepted code → (low check limit : ℕ) (list : List ℕ)
      → rows_explained_of (as_rows code) low check limit list ≡ explained_of code low check limit list
  pub cards : (code : Code) → Accepted code → (b : ℕ) → rows_cards_of (as_rows code) b ≡ cards_of code b
  pub passed : (code : Code) → Accepted code → (p : Pass) (s : State) → rows_passed_of (as_rows code) p s ≡ passed_of code p s
  pub recovered : (code : Code) → Accepted code → (low check : ℕ) (bad : List ℕ)
      → rows_recovered_of (as_rows code) low check bad ≡ recovered_of code low check bad
  pub found : (code : Code) → Accepted code → (low check low' check' : ℕ)
      → rows_bad_places_of (as_rows code) low check low' check' ≡ bad_places_of code low check low' check'

pub record SameWideAnswers : Type 0 where
  pub judgement : (code : WideCode) → of_any.Accepted (wide code) → wide_rows_judgement_of (as_wide_rows code) ≡ wide_judgement_of code
  pub balance : (code : WideCode) → of_any.Accepted (wide code) → wide_rows_balance_of (as_wide_rows code) ≡ wide_rows_of code
  pub written : (code : WideCode) → of_any.Accepted (wide code) → (low high : ℕ)
      → wide_rows_written_of (as_wide_rows code) low high ≡ wide_written_of code low high
  pub reading : (code : WideCode) → of_any.Accepted (wide code) → (low high check : ℕ)
      → wide_rows_read_of (as_wide_rows code) low high check ≡ wide_read_of code low high check
  pub explained : (code : WideCode) → of_any.Accepted (wide code) → (x : Word) (limit : ℕ) (list : List ℕ)
      → wide_rows_explained_of (as_wide_rows code) x limit list ≡ wide_explained_of code x limit list
  pub cards : (code : WideCode) → of_any.Accepted (wide code) → (b : ℕ) → wide_rows_cards_of (as_wide_rows code) b ≡ wide_cards_of code b
  pub passed : (code : WideCode) → of_any.Accepted (wide code) → (p : Pass) (s : State)
      → wide_rows_passed_of (as_wide_rows code) p s ≡ wide_passed_of code p s
  pub recovered : (code : WideCode) → of_any.Accepted (wide code) → (x : Word) (bad : List ℕ)
      → wide_rows_recovered_of (as_wide_rows code) x bad ≡ wide_recovered_of code x bad
  pub found : (code : WideCode) → of_any.Accepted (wide code) → (x y : Word)
      → wide_rows_bad_places_of (as_wide_rows code) x y ≡ wide_bad_places_of code x y
