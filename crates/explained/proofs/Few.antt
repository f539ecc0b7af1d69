-- No place stands in two pairs, so n places give at most n / 2 entries. Assumes nothing.
use mathlib.Core.Path.{◌≡◌, refl}
use mathlib.Core.Logic.{inl, inr, ⊎_elim}
use mathlib.Core.Bool.{Bool, true, false, cond}
use mathlib.Core.List.{List, [], ◌∷◌}
use Prim.Native.Nat.{ℕ, zero, suc, ◌*◌, ◌/◌, ◌%◌, ◌≤◌, ◌<◌}
use native.Mathlib.Omega.{arith}
use lib.Dec.{eqb, ltb}
use lib.ListN.{length, get_or}
use Rattle.parity.proofs.Xor.{by_digits}
use Rattle.columns.specs.Mix.{place_in}
use Rattle.columns.specs.Rule.{Good}
use Rattle.columns.proofs.Errors.{pairs_apart}
use Rattle.columns.proofs.Pigeonhole.{apart_below}
use Rattle.listing.specs.BySyndrome.{pairs_by, by_syndrome}
use Rattle.explained.proofs.Order.{PairFrom, pairs_at, pairs_in_order}

module _ {odd : ℕ → ℕ} {cs : List ℕ} (g : Good odd cs) (s : ℕ) where
  -- place x of one pair and place y of another are the same place: then the pairs are one, and x is y
  same_place : (ps qs : List ℕ) (x y : ℕ) → x < 2 → y < 2 → PairFrom cs s 0 ps → PairFrom cs s 0 qs → get_or ps x 0 ≡ get_or qs y 0
      → (get_or ps 0 0 ≡ get_or qs 0 0) × (x ≡ y)
  same_place ps qs zero zero h l a b e = (e, refl)
  same_place ps qs (suc zero) (suc zero) h l a b e = ((pairs_apart g s _ _ _ _ a.2 b.2 (inl (inr e))).0, refl)
  same_place ps qs zero (suc zero) h l a b e =
      let q = pairs_apart g s (get_or ps 0 0) (get_or ps 1 0) (get_or qs 0 0) (get_or qs 1 0) a.2 b.2 (inr (inl e)) in
      absurd (omega (arith, b.2.order))
  same_place ps qs (suc zero) zero h l a b e =
      let q = pairs_apart g s (get_or ps 0 0) (get_or ps 1 0) (get_or qs 0 0) (get_or qs 1 0) a.2 b.2 (inr (inr e)) in
      absurd (omega (arith, a.2.order))
  same_place ps qs (suc (suc x)) y h l a b e = absurd (omega arith)
  same_place ps qs zero (suc (suc y)) h l a b e = absurd (omega arith)
  same_place ps qs (suc zero) (suc (suc y)) h l a b e = absurd (omega arith)

  -- a place of a pair lies inside
  inside : (ps : List ℕ) (x : ℕ) → x < 2 → PairFrom cs s 0 ps → get_or ps x 0 < length cs
  inside ps zero h a = omega (arith, a.2.order, a.2.inside)
  inside ps (suc zero) h a = a.2.inside
  inside ps (suc (suc x)) h a = absurd (omega arith)

  -- a pair is known by its lower place
  by_lower : (i j : ℕ) → i < length (pairs_by cs s) → j < length (pairs_by cs s)
      → get_or (get_or (pairs_by cs s) i []) 0 0 ≡ get_or (get_or (pairs_by cs s) j []) 0 0 → i ≡ j
  by_lower i j h l e =
      let a = pairs_at cs s (length cs) 0 i h in
      let b = pairs_at cs s (length cs) 0 j l in
      let up : ¬ (i < j) = λ k. ⊎_elim (λ q. omega arith) (λ q. omega arith) (pairs_in_order cs s (length cs) 0 i j k l) in
      let down : ¬ (j < i) = λ k. ⊎_elim (λ q. omega arith) (λ q. omega arith) (pairs_in_order cs s (length cs) 0 j i k h) in
      omega arith

  few_pairs : 2 * length (pairs_by cs s) ≤ length cs
  few_pairs =
      apart_below (2 * length (pairs_by cs s)) (length cs) (λ i. get_or (get_or (pairs_by cs s) (i / 2) []) (i % 2) 0)
      (λ i h. inside (get_or (pairs_by cs s) (i / 2) []) (i % 2) (omega arith) (pairs_at cs s (length cs) 0 (i / 2) (omega arith)))
      (λ i j h l e.
      let q = same_place (get_or (pairs_by cs s) (i / 2) []) (get_or (pairs_by cs s) (j / 2) []) (i % 2) (j % 2) (omega arith) (omega arith)
      (pairs_at cs s (length cs) 0 (i / 2) (omega arith)) (pairs_at cs s (length cs) 0 (j / 2) (omega arith)) e in
      by_digits (by_lower (i / 2) (j / 2) (omega arith) (omega arith) q.0) q.1)

  -- one entry, or half as many as there are places
  pub few_entries : (limit : ℕ) → 2 ≤ length cs → 2 * length (by_syndrome cs s limit) ≤ length cs
  unfolding by_syndrome
  few_entries limit h = go (eqb s 0) (eqb limit 0) (ltb (place_in cs s) (length cs)) (eqb limit 1)
    where
      go : (a b c d : Bool)
          → 2 * length (cond a ([] ∷ []) (cond b [] (cond c ((place_in cs s ∷ []) ∷ []) (cond d [] (pairs_by cs s))))) ≤ length cs
      go true b c d = h
      go false true c d = omega arith
      go false false true d = h
      go false false false true = omega arith
      go false false false false = few_pairs
