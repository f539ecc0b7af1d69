-- Sets of places, each written in rising order; those of them that pass a test; and the bytes of a list of sets. Assumes nothing.
use Rattle.std.specs.Prelude.{Bool, cond, List, [], ◌∷◌, ◌++◌, map, ℕ, zero, suc, ◌/◌, leb, length}
use Rattle.columns.specs.Mix.{flipped}
use Rattle.record.specs.Run.{over}

-- w with each place of a set flipped
unfoldable pub flip_all : ℕ → List ℕ → ℕ
flip_all w [] = w
flip_all w (p ∷ ps) = flip_all (flipped w p) ps

-- the sets of j of the m places from p on: those with p first, then those without
unfoldable pub chosen : ℕ → ℕ → ℕ → List (List ℕ)
chosen zero m p = [] ∷ []
chosen (suc j) zero p = []
chosen (suc j) (suc m) p = map (λ ps. p ∷ ps) (chosen j m (suc p)) ++ chosen (suc j) m (suc p)

-- the sets of at most `limit` of n places: fewer places first, then the lower first place
unfoldable pub sets_up_to : ℕ → ℕ → List (List ℕ)
sets_up_to n zero = chosen zero n 0
sets_up_to n (suc limit) = sets_up_to n limit ++ chosen (suc limit) n 0

-- those that pass a test, in the order in which they stand
unfoldable pub those : (List ℕ → Bool) → List (List ℕ) → List (List ℕ)
those test [] = []
those test (ps ∷ rest) = cond (test ps) (ps ∷ those test rest) (those test rest)

-- an entry: the lower place and the higher, 255 for none
abbrev pub entry_of : List ℕ → List ℕ
entry_of [] = 255 ∷ 255 ∷ []
entry_of (p ∷ []) = p ∷ 255 ∷ []
entry_of (p ∷ q ∷ rest) = p ∷ q ∷ []

-- the entries of a list of sets, one behind the other
unfoldable pub bytes_for : List (List ℕ) → List ℕ
bytes_for [] = []
bytes_for (ps ∷ rest) = entry_of ps ++ bytes_for rest

-- d with the entries of a list in its first bytes, where there is room for all of them: two bytes each
unfoldable pub written : List (List ℕ) → List ℕ → List ℕ
written l d = cond (leb (length l) (length d / 2)) (over (bytes_for l) d) d
