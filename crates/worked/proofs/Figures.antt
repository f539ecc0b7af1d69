-- The figures of source document 002, by computing; figures 1 and 2 define the same words. Assumes nothing.
use mathlib.Core.Path.{◌≡◌, refl}
use mathlib.Core.Bool.{true}
use lib.Count.{ones, ones_in}
use Rattle.columns.specs.Mix.{mix, place_in}
use Rattle.columns.specs.Solving.{solve_from, solve}
use Rattle.faults.specs.Faults.{first_past, first_from}
use Rattle.row_judge.specs.Judge.{judge_reasons, judge_rows_in}
use Rattle.code.specs.Opened.{columns_of}
use Rattle.rows.specs.Opened.{opened_rows}
use Rattle.balance.specs.Balance.{sum_of}
use Rattle.word.specs.Word.{flipped_in}
use Rattle.verdict.specs.Verdicts.{verdict_on}
use Rattle.word.specs.Verdicts.{read_in, syndrome_in}
use Rattle.writing.specs.Writing.{write_in}
use Rattle.worked.specs.Figures.{figure1, figure2, figures, same_below}

pub figures_hold : figures ≡ true
unfolding figures ones ones_in mix place_in solve_from solve first_past first_from judge_reasons judge_rows_in sum_of flipped_in verdict_on read_in
    syndrome_in write_in
figures_hold = refl

-- all 256 data words
pub same_words : same_below (columns_of (opened_rows figure1)) (columns_of (opened_rows figure2)) 256 ≡ true
unfolding same_below ones ones_in mix place_in solve_from solve first_past first_from judge_reasons judge_rows_in write_in
same_words = refl
