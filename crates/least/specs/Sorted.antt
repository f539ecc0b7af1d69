-- Lists sorted by any weight. Assumes nothing.
use Rattle.std.specs.Prelude.{List, ℕ, ◌≤◌, ◌<◌, length}
use Rattle.columns.specs.Mix.{column}

-- what g says of the places below n never falls
abbrev pub Rises : (ℕ → ℕ) → ℕ → Type 0
Rises g n = (p q : ℕ) → p ≤ q → q < n → g p ≤ g q

-- the lighter first
abbrev pub SortedBy : (ℕ → ℕ) → List ℕ → Type 0
SortedBy weight l = Rises (λ p. weight (column l p)) (length l)
