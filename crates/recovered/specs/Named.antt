-- What can be wrong with a list of bad places, as a proposition. Assumes nothing.
use Rattle.std.specs.Prelude.{◌≡◌, ◌⊎◌, List, ℕ, ◌≤◌, ◌<◌, length, get_or}

-- a place at n or above
abbrev pub Outside : ℕ → List ℕ → Type 0
Outside n ps = (i : ℕ) × (i < length ps) × (n ≤ get_or ps i 0)

-- a repeat
abbrev pub Repeated : List ℕ → Type 0
Repeated ps = (i : ℕ) × (j : ℕ) × (i < j) × (j < length ps) × (get_or ps i 0 ≡ get_or ps j 0)

-- more than three, a repeat, or a place at n or above
abbrev pub WrongPlaces : ℕ → List ℕ → Type 0
WrongPlaces n bad = (3 < length bad) ⊎ (Repeated bad ⊎ Outside n bad)
