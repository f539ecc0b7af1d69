-- What a code, and a question under an accepted one, is refused with. Assumes nothing.
use Rattle.std.specs.Prelude.{ℕ}
use Rattle.code.specs.declared.Refusal.{Refusal}
use Rattle.judge.specs.declared.Flaw.{Flaw}
use Rattle.judge.specs.declared.Flaw.TheVariants.{NoData, NoChecks, TooWide, EvenColumn, SingleOne, Repeated, Leftover}
use Rattle.row_judge.specs.declared.RowFlaw.{RowFlaw}
use Rattle.row_judge.specs.declared.RowFlaw.TheVariants as rows
use Rattle.code.specs.declared.Denial.{Denial}
use Rattle.code.specs.declared.Denial.TheVariants.{Stray, CardSize, ListTooLong, LimitPastTwo, JournalTooShort, WrongPlaces, OutOfReach}

abbrev pub refusal : ℕ → ℕ → Refusal
refusal number told = record { number = number; told = told }

-- a number that tells nothing
abbrev pub only : ℕ → Refusal
only number = refusal number 0

-- document 01's number and what is told, a row for each thing that the judge finds wrong
abbrev pub refusal_of : Flaw → Refusal
refusal_of NoData = only 1
refusal_of NoChecks = only 2
refusal_of (TooWide i) = refusal 3 i
refusal_of (EvenColumn i) = refusal 4 i
refusal_of (SingleOne i) = refusal 5 i
refusal_of (Repeated i) = refusal 6 i
refusal_of (Leftover i) = refusal 21 i

-- and of a code with a chosen set of rows: 20 tells its reason, 3 and 21 a place
abbrev pub refusal_of_rows : RowFlaw → Refusal
refusal_of_rows rows.NoData = only 1
refusal_of_rows rows.NoChecks = only 2
refusal_of_rows (rows.TooWide i) = refusal 3 i
refusal_of_rows rows.NoRows = refusal 20 1
refusal_of_rows rows.Repeated = refusal 20 2
refusal_of_rows rows.NotTriangular = refusal 20 3
refusal_of_rows rows.EvenColumn = refusal 20 4
refusal_of_rows (rows.Leftover i) = refusal 21 i

-- and of a question: 10 and 13 tell how much room was wanted
abbrev pub refusal_of_denial : Denial → Refusal
refusal_of_denial Stray = only 7
refusal_of_denial CardSize = only 8
refusal_of_denial (ListTooLong length) = refusal 10 length
refusal_of_denial LimitPastTwo = only 11
refusal_of_denial (JournalTooShort wanted) = refusal 13 wanted
refusal_of_denial WrongPlaces = only 22
refusal_of_denial OutOfReach = only 23
