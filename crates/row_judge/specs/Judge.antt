-- What the judge of a code with a chosen set of rows answers: 02's request 109, with 110's row 21. Assumes nothing.
use Rattle.std.specs.Prelude.{Bool, cond, ◌||◌, ◌&&◌, List, ℕ, ◌-◌, ◌^◌, eqb, ltb, leb, length, take, drop, Result, Ok, Err}
use Rattle.faults.specs.declared.Fault.TheVariants.{Wide, Again, NotLower, NotUpper, Even, Full}
use Rattle.row_judge.specs.declared.RowFlaw.{RowFlaw}
use Rattle.row_judge.specs.declared.RowFlaw.TheVariants.{NoData, NoChecks, TooWide, NoRows, Repeated, NotTriangular, EvenColumn, Leftover}
use Rattle.faults.specs.Faults.{first_in, first_past, some_in}

-- what the judge says: nothing is wrong, or what is
abbrev pub JudgedRows : Type 0
JudgedRows = Result Unit RowFlaw

-- a set of rows is empty, or names a row at r or above
abbrev pub no_set : ℕ → ℕ → Bool
no_set r rows = eqb rows 0 || leb (2 ^ r) rows

-- check columns with a fault at either corner
abbrev pub not_triangular : List ℕ → Bool
not_triangular checks = some_in NotLower checks && some_in NotUpper checks

-- 21: the first place past the n columns that is not 0
abbrev pub judge_rest : List ℕ → ℕ → JudgedRows
judge_rest places n = cond (ltb (first_past Full places n) (length places)) (Err (Leftover (first_past Full places n))) (Ok tt)

-- 20, its reasons 1 to 4 over the whole code one after the other; then 21
unfoldable pub judge_reasons : List ℕ → ℕ → ℕ → ℕ → JudgedRows
judge_reasons places n r rows =
    cond (no_set r rows) (Err NoRows)
    (cond (some_in Again (take n places)) (Err Repeated)
    (cond (not_triangular (drop (n - r) (take n places))) (Err NotTriangular)
    (cond (some_in (Even rows) (take n places)) (Err EvenColumn)
    (judge_rest places n))))

-- a code of at most `most` data bits: 1, 2, then 3 over all n columns, then 20 and 21
unfoldable pub judge_rows_in : ℕ → List ℕ → ℕ → ℕ → ℕ → JudgedRows
judge_rows_in most places n r rows =
    cond (leb n r || ltb most (n - r)) (Err NoData)
    (cond (ltb r 3 || ltb 16 r) (Err NoChecks)
    (cond (some_in (Wide r) (take n places)) (Err (TooWide (first_in (Wide r) (take n places))))
    (judge_reasons places n r rows)))
