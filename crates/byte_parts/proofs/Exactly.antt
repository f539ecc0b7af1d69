-- The parts in plain numbers. Assumes nothing.
use mathlib.Core.Path.{◌≡◌, refl}
use Rattle.byte_parts.specs.Vectors.{times_t, power_t}
use Rattle.byte_parts.specs.Parts.{sum_to, parts_of}

-- a single one in data byte 1, and in each check byte
pub parts_of_single_ones : (parts_of 8 ≡ record { first = 1; second = 2; third = 4 })
    × (parts_of 2097152 ≡ record { first = 1; second = 0; third = 0 })
    × (parts_of 16777216 ≡ record { first = 0; second = 1; third = 0 })
    × (parts_of 134217728 ≡ record { first = 0; second = 0; third = 1 })
unfolding parts_of sum_to power_t times_t
parts_of_single_ones = (refl, refl, refl, refl)
