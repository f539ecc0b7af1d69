-- What every question needs of the columns of an accepted code, whatever its family: k data columns, then r check columns. Assumes nothing.
use Rattle.std.specs.Prelude.{◌≡◌, List, ℕ, ◌+◌, ◌^◌, ◌≤◌, ◌<◌, length, drop}
use Rattle.parity.specs.Odd.{Parity}
use Rattle.columns.specs.Mix.{column, mix}
use Rattle.columns.specs.Rule.{Good}
use Rattle.columns.specs.Solving.{solve}

-- check columns that reach every syndrome of r digits, each by one set of r check bits, which `solve` finds
pub record Reaches (checks : List ℕ) (r : ℕ) : Type 0 where
  pub solved : (s : ℕ) → s < 2 ^ r → (mix checks (solve checks s) ≡ s) × (solve checks s < 2 ^ r)
  pub once : (c d : ℕ) → c < 2 ^ r → d < 2 ^ r → mix checks c ≡ mix checks d → c ≡ d

-- sound for a sense of odd: columns of r digits that all differ and are odd, and check columns that can be solved for
pub record Sound (odd : ℕ → ℕ) (cs : List ℕ) (k r : ℕ) : Type 0 where
  pub some : 1 ≤ k
  pub size : length cs ≡ k + r
  pub below : (p : ℕ) → p < length cs → column cs p < 2 ^ r
  pub good : Good odd cs
  pub parity : Parity odd
  pub writes : Reaches (drop k cs) r
