-- Triangular check columns, said row by row. Assumes nothing.
use Rattle.std.specs.Prelude.{◌≡◌, ◌⊎◌, List, ℕ, ◌<◌, length}
use Rattle.columns.specs.Mix.{column}
use Rattle.columns.specs.Bits.{bit_at}

-- row p of check column p is 1; and either every row before it is 0, or every row after it, for all check columns alike
pub record ByRows (checks : List ℕ) : Type 0 where
  pub diagonal : (p : ℕ) → p < length checks → bit_at (column checks p) p ≡ 1
  pub corner : ((p j : ℕ) → p < length checks → j < p → bit_at (column checks p) j ≡ 0)
      ⊎ ((p j : ℕ) → p < length checks → p < j → bit_at (column checks p) j ≡ 0)
