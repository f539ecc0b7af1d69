-- A memory whose places keep what is written or are stuck. Assumes nothing.
use Rattle.std.specs.Prelude.{◌≡◌, ℕ, ◌^◌, ◌<◌}
use Rattle.std.specs.Int.Bits.{bit_xor}
use Rattle.columns.specs.Bits.{bit_at}
use Rattle.finder.specs.Finder.{every_place}

-- what is read back of n places after a word was written: the places that `stuck` has as ones hold the digits of `held`, the others keep
-- what was written
pub record ReadBack (n stuck held written back : ℕ) : Type 0 where
  pub fits : back < 2 ^ n
  pub keeps : (p : ℕ) → p < n → bit_at stuck p ≡ 0 → bit_at back p ≡ bit_at written p
  pub sticks : (p : ℕ) → p < n → bit_at stuck p ≡ 1 → bit_at back p ≡ bit_at held p

-- the complement of a word of n places
abbrev pub complement : ℕ → ℕ → ℕ
complement n w = bit_xor (every_place n) w
