-- The list by syndrome is in document 01's order, and so holds each set once. Assumes nothing.
use mathlib.Core.Path.{◌≡◌, refl, sym, ap}
use mathlib.Core.Logic.{inr, ⊎_elim}
use mathlib.Core.Bool.{Bool, true, false, cond}
use mathlib.Core.List.{List, [], ◌∷◌, ◌++◌}
use Prim.Native.Nat.{ℕ, zero, suc, ◌≤◌, ◌<◌}
use native.Mathlib.Nat.{le_of_suc-le-suc, not-suc-le-zero}
use native.Mathlib.Omega.{arith}
use borrow.Author.Tests.{ltb-true}
use lib.Dec.{eqb, ltb}
use lib.ListN.{length, get_or}
use Rattle.columns.specs.Mix.{place_in}
use Rattle.columns.specs.Rule.{Pair}
use Rattle.explain.specs.Order.{Before, InOrder}
use Rattle.listing.specs.BySyndrome.{partner_of, pair_at, pairs_from, pairs_by, by_syndrome}
use Rattle.explain.proofs.Pairs.{partner_pair}

-- ---- lists in order

in_order_none : InOrder []
in_order_none i j l h = absurd (not-suc-le-zero h)

in_order-cons : (x : List ℕ) (l : List (List ℕ)) → ((j : ℕ) → j < length l → Before x (get_or l j [])) → InOrder l → InOrder (x ∷ l)
in_order-cons x l first rest i zero k h = absurd (not-suc-le-zero k)
in_order-cons x l first rest zero (suc j) k h = first j (le_of_suc-le-suc h)
in_order-cons x l first rest (suc i) (suc j) k h = rest i j (le_of_suc-le-suc k) (le_of_suc-le-suc h)

in_order_one : (x : List ℕ) → InOrder (x ∷ [])
in_order_one x = in_order-cons x [] (λ j h. absurd (not-suc-le-zero h)) in_order_none

-- no set stands before itself
not_before : (ps qs : List ℕ) → ps ≡ qs → Before ps qs → ⊥
not_before ps qs e =
    ⊎_elim
    (λ l. omega (arith, ap length e))
    (λ l. omega (arith, ap (λ (xs : List ℕ). get_or xs 0 0) e))

-- so a list in order holds each set once
pub each_once : (l : List (List ℕ)) → InOrder l → (i j : ℕ) → i < length l → j < length l → get_or l i [] ≡ get_or l j [] → i ≡ j
each_once l o i j h k e =
    let up : ¬ (i < j) = λ b. not_before (get_or l i []) (get_or l j []) e (o i j b k) in
    let down : ¬ (j < i) = λ b. not_before (get_or l j []) (get_or l i []) (sym e) (o j i b h) in
    omega arith

-- ---- the pairs: each is one, and their lower places rise

-- ps is a pair of places that make s, the lower p or higher
abbrev pub PairFrom : List ℕ → ℕ → ℕ → List ℕ → Type 0
PairFrom cs s p ps = (length ps ≡ 2) × (p ≤ get_or ps 0 0) × Pair cs s (get_or ps 0 0) (get_or ps 1 0)

pub pairs_at : (cs : List ℕ) (s m p i : ℕ) → i < length (pairs_from cs s m p) → PairFrom cs s p (get_or (pairs_from cs s m p) i [])
unfolding pairs_from pair_at
pairs_at cs s zero p i h = absurd (not-suc-le-zero h)
pairs_at cs s (suc m) p i h = go (ltb (partner_of cs s p) (length cs)) refl i h (pairs_at cs s m (suc p))
  where
    later : (ps : List ℕ) → PairFrom cs s (suc p) ps → PairFrom cs s p ps
    later ps a = (a.0, omega arith, a.2)

    go : (b : Bool) → ltb (partner_of cs s p) (length cs) ≡ b → (i : ℕ)
        → i < length (cond b ((p ∷ partner_of cs s p ∷ []) ∷ []) [] ++ pairs_from cs s m (suc p))
        → ((i : ℕ) → i < length (pairs_from cs s m (suc p)) → PairFrom cs s (suc p) (get_or (pairs_from cs s m (suc p)) i []))
        → PairFrom cs s p (get_or (cond b ((p ∷ partner_of cs s p ∷ []) ∷ []) [] ++ pairs_from cs s m (suc p)) i [])
    go true e zero h ih = (refl, omega arith, partner_pair cs s p (ltb-true (partner_of cs s p) (length cs) e))
    go true e (suc i) h ih = later (get_or (pairs_from cs s m (suc p)) i []) (ih i (le_of_suc-le-suc h))
    go false e i h ih = later (get_or (pairs_from cs s m (suc p)) i []) (ih i h)

pub pairs_in_order : (cs : List ℕ) (s m p : ℕ) → InOrder (pairs_from cs s m p)
unfolding pairs_from pair_at
pairs_in_order cs s zero p = in_order_none
pairs_in_order cs s (suc m) p = go (ltb (partner_of cs s p) (length cs)) (pairs_in_order cs s m (suc p))
  where
    go : (b : Bool) → InOrder (pairs_from cs s m (suc p))
        → InOrder (cond b ((p ∷ partner_of cs s p ∷ []) ∷ []) [] ++ pairs_from cs s m (suc p))
    go true ih =
        in_order-cons (p ∷ partner_of cs s p ∷ []) (pairs_from cs s m (suc p))
        (λ j h. let a = pairs_at cs s m (suc p) j h in inr (sym a.0, a.1))
        ih
    go false ih = ih

pub in_order_lem : (cs : List ℕ) (s limit : ℕ) → InOrder (by_syndrome cs s limit)
unfolding by_syndrome
in_order_lem cs s limit = go (eqb s 0) (eqb limit 0) (ltb (place_in cs s) (length cs)) (eqb limit 1)
  where
    go : (a b c d : Bool) → InOrder (cond a ([] ∷ []) (cond b [] (cond c ((place_in cs s ∷ []) ∷ []) (cond d [] (pairs_by cs s)))))
    go true b c d = in_order_one []
    go false true c d = in_order_none
    go false false true d = in_order_one (place_in cs s ∷ [])
    go false false false true = in_order_none
    go false false false false = pairs_in_order cs s (length cs) 0
