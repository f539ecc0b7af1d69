-- The judge in plain numbers: three check bits, one data bit. Assumes nothing.
use mathlib.Core.Path.{◌≡◌, refl}
use mathlib.Core.List.{[], ◌∷◌}
use lib.Count.{ones, ones_in}
use Rattle.columns.specs.Mix.{place_in}
use Rattle.faults.specs.Faults.{first_past, first_from}
use Rattle.std.specs.Prelude.{Ok, Err}
use Rattle.row_judge.specs.declared.RowFlaw.TheVariants.{NotTriangular}
use Rattle.row_judge.specs.Judge.{judge_reasons, judge_rows_in}

-- the rows after the diagonal may be the empty corner too, with row 0 as the set
pub upper_accepted : judge_rows_in 4 (7 ∷ 1 ∷ 3 ∷ 5 ∷ []) 4 3 1 ≡ Ok tt
unfolding judge_rows_in judge_reasons first_past first_from place_in ones ones_in
upper_accepted = refl

-- not triangular and an even column: reason 3 is told
pub corner_first : judge_rows_in 4 (6 ∷ 2 ∷ 1 ∷ 4 ∷ []) 4 3 7 ≡ Err NotTriangular
unfolding judge_rows_in judge_reasons first_past first_from place_in
corner_first = refl
