-- What the three steps of source document 000 say of a syndrome's parts, as propositions, and damage within a byte. Assumes nothing.
use Rattle.std.specs.Prelude.{◌≡◌, ◌⊎◌, ◌≢◌, ℕ, ◌*◌, ◌^◌, ◌<◌}
use Rattle.std.specs.Int.Bits.{bit_xor}
use Rattle.byte_parts.specs.declared.Parts.{Parts}
use Rattle.byte_parts.specs.Vectors.{power_t}

-- a word with the bits of a pattern flipped in byte t
abbrev pub damaged : ℕ → ℕ → ℕ → ℕ
damaged w t pattern = bit_xor w (pattern * 2 ^ (3 * t))

-- step 1: the whole syndrome is zero
pub record NoError (s : Parts) : Type 0 where
  pub first : s.first ≡ 0
  pub second : s.second ≡ 0
  pub third : s.third ≡ 0

-- one part is not zero, and the other two are
abbrev pub Alone : ℕ → ℕ → ℕ → Type 0
Alone part other another = (part ≢ 0) × (other ≡ 0) × (another ≡ 0)

-- step 2: of the three parts one alone is not zero, and t is its check byte
abbrev pub CheckError : Parts → ℕ → Type 0
CheckError s t =
    ((t ≡ 7) × Alone s.first s.second s.third)
    ⊎ (((t ≡ 8) × Alone s.second s.first s.third) ⊎ ((t ≡ 9) × Alone s.third s.first s.second))

-- step 3, where 1 and 2 do not hold: with part 1 for E, the power i of T takes it to part 2, and the power 2i to part 3
pub record DataError (s : Parts) (i : ℕ) : Type 0 where
  pub no_step_1 : ¬ NoError s
  pub no_step_2 : (t : ℕ) → ¬ CheckError s t
  pub below : i < 7
  pub second : power_t i s.first ≡ s.second
  pub third : power_t (2 * i) s.first ≡ s.third

-- no step holds
pub record NoStep (s : Parts) : Type 0 where
  pub no_step_1 : ¬ NoError s
  pub no_step_2 : (t : ℕ) → ¬ CheckError s t
  pub no_step_3 : (i : ℕ) → ¬ DataError s i
