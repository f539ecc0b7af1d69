-- What may stand as a data column, and which comes first. Assumes nothing.
use Rattle.std.specs.Prelude.{◌≡◌, ◌⊎◌, ℕ, ◌^◌, ◌≤◌, ◌<◌}
use Rattle.std.specs.Int.Count.{ones}
use Rattle.parity.specs.Odd.{odd_ones}

-- x may stand as a data column of r rows: it has three ones, or five, or seven and so on
pub record DataColumn (r x : ℕ) : Type 0 where
  pub below : x < 2 ^ r
  pub odd : odd_ones x ≡ 1
  pub many : 3 ≤ ones x

-- x comes before y: it has fewer ones, or as many and is smaller
abbrev pub Before : ℕ → ℕ → Type 0
Before x y = (ones x < ones y) ⊎ ((ones x ≡ ones y) × (x < y))
