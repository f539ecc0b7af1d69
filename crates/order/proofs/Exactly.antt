-- The order written out. Assumes nothing.
use mathlib.Core.Path.{◌≡◌, refl}
use mathlib.Core.List.{[], ◌∷◌}
use lib.Count.{ones, ones_in}
use Rattle.order.specs.Order.{passing_from, by_ones, made_columns}

-- every column of five rows
pub five_rows : made_columns 11 5 ≡ 7 ∷ 11 ∷ 13 ∷ 14 ∷ 19 ∷ 21 ∷ 22 ∷ 25 ∷ 26 ∷ 28 ∷ 31 ∷ []
unfolding by_ones passing_from ones ones_in
five_rows = refl
