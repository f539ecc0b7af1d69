-- Source document 002, figures 1, 2 and 3, their top row as bit 0, as codes with a set of rows (02's request 109): what is asked of them,
-- and the answers. Assumes nothing.
use Rattle.std.specs.Prelude.{Bool, true, ◌&&◌, List, [], ◌∷◌, ◌++◌, ℕ, zero, suc, ◌-◌, eqb, length, replicate}
use Rattle.rows.specs.declared.RowCode.{RowCode}
use Rattle.rows.specs.Opened.{opened_rows}
use Rattle.code.specs.Opened.{columns_of}
use Rattle.balance.specs.Balance.{all_ones}
use Rattle.writing.specs.Writing.{write_in}
use Rattle.desk.specs.Rows.{rows_judgement_of, rows_written_of, rows_read_of}

-- a code of these columns, 0 in the places past them
abbrev pub row_code_of : List ℕ → ℕ → ℕ → RowCode
row_code_of columns r rows =
    record { columns = columns ++ replicate (80 - length columns) 0; n = length columns; r = r; rows = rows }

-- only the last row; all rows; rows 1 to 4
abbrev pub figure1 : RowCode
figure1 = row_code_of (28 ∷ 26 ∷ 25 ∷ 22 ∷ 21 ∷ 19 ∷ 30 ∷ 29 ∷ 17 ∷ 18 ∷ 20 ∷ 24 ∷ 16 ∷ []) 5 16

abbrev pub figure2 : RowCode
figure2 = row_code_of (28 ∷ 26 ∷ 25 ∷ 22 ∷ 21 ∷ 19 ∷ 14 ∷ 13 ∷ 1 ∷ 2 ∷ 4 ∷ 8 ∷ 16 ∷ []) 5 31

abbrev pub figure3 : RowCode
figure3 = row_code_of (28 ∷ 14 ∷ 22 ∷ 26 ∷ 29 ∷ 3 ∷ 5 ∷ 9 ∷ 17 ∷ 2 ∷ 4 ∷ 8 ∷ 16 ∷ []) 5 30

-- accepted, with this many ones
abbrev pub accepted : RowCode → ℕ → Bool
accepted code n = eqb (rows_judgement_of code).number 0 && eqb (all_ones (columns_of (opened_rows code))) n

-- refused, with this number and what is told
abbrev pub refused : RowCode → ℕ → ℕ → Bool
refused code number told = eqb (rows_judgement_of code).number number && eqb (rows_judgement_of code).told told

abbrev pub written : RowCode → ℕ → ℕ → Bool
written code low check = eqb (rows_written_of code low).number 0 && eqb (rows_written_of code low).check check

-- verdict, place and syndrome
abbrev pub reads : RowCode → ℕ → ℕ → ℕ → ℕ → ℕ → Bool
reads code low check verdict place s =
    eqb (rows_read_of code low check).number 0 && eqb (rows_read_of code low check).verdict verdict
    && eqb (rows_read_of code low check).place place && eqb (rows_read_of code low check).syndrome s

unfoldable pub figures : Bool
figures =
    accepted figure1 35
    && accepted figure2 29
    && accepted figure3 28
    && refused (record { columns = figure1.columns; n = 13; r = 5; rows = 31 }) 20 4
    && written figure1 0xA5 27
    && written figure2 0xA5 27
    && written figure3 0xFF 12
    && reads figure1 0xA5 26 2 8 17
    && reads figure1 0xA6 26 4 255 23
    && reads figure3 0x03 28 1 1 14

-- figures 1 and 2 write the same check bits for every data word below this one, by their columns as they are opened
unfoldable pub same_below : List ℕ → List ℕ → ℕ → Bool
same_below one two zero = true
same_below one two (suc d) = eqb (write_in one 8 d).check (write_in two 8 d).check && same_below one two d
