-- A code with a chosen set of rows leads to the hub: it is opened with its own check columns and its own set. Assumes nothing.
use Rattle.std.specs.Prelude.{List, ℕ, ◌-◌, take, Ok, Err}
use Rattle.code.specs.declared.Opened.{Opened}
use Rattle.code.specs.Refusals.{refusal_of_rows}
use Rattle.code.specs.Opened.{Standing, opened_by}
use Rattle.rows.specs.declared.RowCode.{RowCode}
use Rattle.rows.specs.declared.WideRowCode.{WideRowCode}
use Rattle.row_judge.specs.Judge.{JudgedRows, judge_rows_in}

-- what the judge's answer comes to
abbrev pub standing_of_rows : JudgedRows → Standing
standing_of_rows (Ok u) = Ok tt
standing_of_rows (Err flaw) = Err (refusal_of_rows flaw)

-- of at most `most` data bits: n columns, the last r of them check columns
abbrev pub opened_rows_in : ℕ → List ℕ → ℕ → ℕ → ℕ → Opened
opened_rows_in most places n r rows = opened_by (standing_of_rows (judge_rows_in most places n r rows)) (take n places) (n - r) rows

-- as such codes are handed about, in 80 places
abbrev pub opened_rows : RowCode → Opened
opened_rows code = opened_rows_in 64 code.columns code.n code.r code.rows

-- and in 144
abbrev pub opened_wide_rows : WideRowCode → Opened
opened_wide_rows code = opened_rows_in 128 code.columns code.n code.r code.rows
