-- A list of places as it is handed over: what stands in it, and what is wrong with it (row 22). Assumes nothing.
use Rattle.std.specs.Prelude.{Bool, true, false, cond, List, [], ◌∷◌, ℕ, eqb, ltb, leb, length}

-- p stands in the list
unfoldable pub stands : ℕ → List ℕ → Bool
stands p [] = false
stands p (q ∷ qs) = cond (eqb q p) true (stands p qs)

-- a place at n or above, or one that stands again behind it
unfoldable pub misnamed : ℕ → List ℕ → Bool
misnamed n [] = false
misnamed n (p ∷ ps) = cond (leb n p) true (cond (stands p ps) true (misnamed n ps))

-- more than three, a repeat, or a place at n or above
abbrev pub wrong_places : ℕ → List ℕ → Bool
wrong_places n bad = cond (ltb 3 (length bad)) true (misnamed n bad)
