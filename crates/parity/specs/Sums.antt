-- Sums over neighbouring numbers. Assumes nothing.
use Rattle.std.specs.Prelude.{ℕ, zero, suc, ◌+◌}

-- f added up over the n numbers from j on
unfoldable pub sum_from : (ℕ → ℕ) → ℕ → ℕ → ℕ
sum_from f zero j = 0
sum_from f (suc n) j = f j + sum_from f n (suc j)
