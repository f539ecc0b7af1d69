-- In plain numbers: what is wrong with bad places among 13. Assumes nothing.
use mathlib.Core.Path.{◌≡◌, refl}
use mathlib.Core.Bool.{true, false}
use mathlib.Core.List.{[], ◌∷◌}
use Rattle.reach.specs.Places.{stands, misnamed, wrong_places}

pub last_place : (wrong_places 13 (12 ∷ []) ≡ false) × (wrong_places 13 (13 ∷ []) ≡ true)
unfolding misnamed stands
last_place = (refl, refl)
