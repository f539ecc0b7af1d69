-- What a set of places is, and the order in which sets are listed. Assumes nothing.
use Rattle.std.specs.Prelude.{◌≡◌, ◌⊎◌, List, [], ◌∷◌, ℕ, suc, ◌≤◌, ◌<◌, length, get_or}

-- places in rising order, the first p or higher, all below n
abbrev pub RisingFrom : ℕ → ℕ → List ℕ → Type 0
RisingFrom n p [] = Unit
RisingFrom n p (q ∷ qs) = (p ≤ q) × (q < n) × RisingFrom n (suc q) qs

-- a set of at most `limit` of n places
pub record SetOf (n limit : ℕ) (ps : List ℕ) : Type 0 where
  pub rising : RisingFrom n 0 ps
  pub few : length ps ≤ limit

-- document 01's order: fewer places first, then the lower first place
abbrev pub Before : List ℕ → List ℕ → Type 0
Before ps qs = (length ps < length qs) ⊎ ((length ps ≡ length qs) × (get_or ps 0 0 < get_or qs 0 0))

-- each set of a list stands before every later one
abbrev pub InOrder : List (List ℕ) → Type 0
InOrder l = (i j : ℕ) → i < j → j < length l → Before (get_or l i []) (get_or l j [])
