-- Document 01's table of verdicts, said of the number and the place that are handed out for a syndrome s: each verdict exactly when its
-- row says so. Assumes nothing.
use Rattle.std.specs.Prelude.{◌≡◌, ◌≢◌, ◌⊎◌, ◌↔◌, List, ℕ, ◌≤◌, ◌<◌, length}
use Rattle.parity.specs.Odd.{odd_in}
use Rattle.columns.specs.Mix.{column}

-- under the n columns cs, the first k of them data columns, odd being odd within the set of rows
pub record VerdictTable (rows : ℕ) (cs : List ℕ) (k s verdict place : ℕ) : Type 0 where
  pub clean : (verdict ≡ 0) ↔ (s ≡ 0)
  pub data_bit : (verdict ≡ 1) ↔ ((p : ℕ) × (p < k) × (p < length cs) × (column cs p ≡ s))
  pub check_bit : (verdict ≡ 2) ↔ ((p : ℕ) × (k ≤ p) × (p < length cs) × (column cs p ≡ s))
  pub even : (verdict ≡ 3) ↔ ((s ≢ 0) × (odd_in rows s ≡ 0))
  pub odd : (verdict ≡ 4) ↔ ((odd_in rows s ≡ 1) × ((p : ℕ) → p < length cs → column cs p ≢ s))
  pub named : (verdict ≡ 1) ⊎ (verdict ≡ 2) → (place < length cs) × (column cs place ≡ s)
  pub unnamed : verdict ≢ 1 → verdict ≢ 2 → place ≡ 255
