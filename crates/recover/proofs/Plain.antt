-- In plain numbers: how many flips go with none to three bad places. Assumes nothing.
use mathlib.Core.Path.{◌≡◌, refl}
use Rattle.recover.specs.Recover.{flips_beside}

pub flips_plain : (flips_beside 0 ≡ 1) × (flips_beside 1 ≡ 1) × (flips_beside 2 ≡ 0) × (flips_beside 3 ≡ 0)
flips_plain = (refl, refl, refl, refl)
