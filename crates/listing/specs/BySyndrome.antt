-- The sets whose flips leave syndrome 0, and the same list found by the syndrome alone: nothing, the place of a column, or the pairs
-- of columns that make it. Assumes nothing.
use Rattle.std.specs.Prelude.{Bool, cond, List, [], ◌∷◌, ◌++◌, ℕ, zero, suc, ◌+◌, eqb, ltb, length, drop, Option}
use Rattle.std.specs.Bool.{then_some}
use Rattle.std.specs.Int.Bits.{bit_xor}
use Rattle.columns.specs.Mix.{mix, column, place_in}
use Rattle.listing.specs.Sets.{flip_all, sets_up_to, those}

-- flipping exactly these places of w leaves syndrome 0
abbrev pub clears : List ℕ → ℕ → List ℕ → Bool
clears cs w ps = eqb (mix cs (flip_all w ps)) 0

-- the sets of at most `limit` places that do
abbrev pub clearing : List ℕ → ℕ → ℕ → List (List ℕ)
clearing cs w limit = those (clears cs w) (sets_up_to (length cs) limit)

-- ---- by the syndrome

-- the first place from p on whose column is s, or the number of places where there is none
unfoldable pub place_from : List ℕ → ℕ → ℕ → ℕ
place_from cs s p = p + place_in (drop p cs) s

-- the place above p whose column makes s with that of p, or the number of places where there is none
abbrev pub partner_of : List ℕ → ℕ → ℕ → ℕ
partner_of cs s p = place_from cs (bit_xor s (column cs p)) (suc p)

-- a place, where it is one of n
abbrev pub below : ℕ → ℕ → Option ℕ
below n p = then_some (ltb p n) p

-- place p with its partner, where it has one
unfoldable pub pair_at : List ℕ → ℕ → ℕ → List (List ℕ)
pair_at cs s p = cond (ltb (partner_of cs s p) (length cs)) ((p ∷ partner_of cs s p ∷ []) ∷ []) []

-- the pairs that make s, by their lower places: the m places from p on
unfoldable pub pairs_from : List ℕ → ℕ → ℕ → ℕ → List (List ℕ)
pairs_from cs s zero p = []
pairs_from cs s (suc m) p = pair_at cs s p ++ pairs_from cs s m (suc p)

-- all of them
abbrev pub pairs_by : List ℕ → ℕ → List (List ℕ)
pairs_by cs s = pairs_from cs s (length cs) 0

-- the list of explanations of a word with syndrome s
unfoldable pub by_syndrome : List ℕ → ℕ → ℕ → List (List ℕ)
by_syndrome cs s limit =
    cond (eqb s 0) ([] ∷ [])
    (cond (eqb limit 0) []
    (cond (ltb (place_in cs s) (length cs)) ((place_in cs s ∷ []) ∷ [])
    (cond (eqb limit 1) [] (pairs_by cs s))))
