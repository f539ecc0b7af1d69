-- THE HEART: the sets whose flips leave syndrome 0 are those that the syndrome gives, in the same order. Assumes nothing.
use mathlib.Core.Path.{◌≡◌, refl, sym, ap, ap₂, ◌∙◌}
use mathlib.Core.Logic.{◌≢◌}
use mathlib.Core.Bool.{Bool, true, false, cond, true≢false}
use mathlib.Core.List.{List, [], ◌∷◌, ◌++◌, map, append-nil}
use Prim.Native.Nat.{ℕ, zero, suc, ◌+◌, ◌≤◌, ◌<◌}
use native.Mathlib.Omega.{arith}
use borrow.Author.Tests.{eqb-true, eqb-false, le-ltb, lt-ltb, ltb-true}
use lib.Bits.{bit_xor}
use lib.Dec.{eqb, ltb}
use lib.ListN.{length}
use Rattle.parity.specs.Odd.{Parity}
use Rattle.parity.proofs.Xor.{eq_of_xor_zero, xor_zero_of_eq}
use Rattle.columns.specs.Mix.{mix, column, flipped, place_in}
use Rattle.columns.specs.Rule.{Good, Pair}
use Rattle.columns.proofs.Linear.{mix_flip}
use Rattle.columns.proofs.Errors.{column-nonzero}
use Rattle.columns.proofs.Places.{place_none}
use Rattle.listing.specs.Sets.{flip_all, chosen, sets_up_to, those}
use Rattle.listing.specs.BySyndrome.{clears, clearing, place_from, partner_of, pair_at, pairs_from, pairs_by, by_syndrome}
use Rattle.explain.proofs.Sets.{those-append, those-map}
use Rattle.explain.proofs.Pairs.{from_zero, from_here, from_next, from_hit, from_least, partner_pair, zero_no_pair, column_no_pair}

-- the first place from p on whose column is s, alone, where there is one
one_from : List ℕ → ℕ → ℕ → List (List ℕ)
one_from cs s p = cond (ltb (place_from cs s p) (length cs)) ((place_from cs s p ∷ []) ∷ []) []

one_none : (cs : List ℕ) (s p : ℕ) → ((q : ℕ) → p ≤ q → q < length cs → column cs q ≢ s) → one_from cs s p ≡ []
unfolding one_from
one_none cs s p nowhere = go (ltb (place_from cs s p) (length cs)) refl
  where
    go : (b : Bool) → ltb (place_from cs s p) (length cs) ≡ b → cond b ((place_from cs s p ∷ []) ∷ []) [] ≡ []
    go true e =
        let h = ltb-true (place_from cs s p) (length cs) e in
        absurd (nowhere (place_from cs s p) (from_least cs s p) h (from_hit cs s p h))
    go false e = refl

one_here : (cs : List ℕ) (s p : ℕ) → p < length cs → column cs p ≡ s → one_from cs s p ≡ (p ∷ []) ∷ []
unfolding one_from
one_here cs s p h e = rw (from_here cs s p h e, lt-ltb p (length cs) h)

one_next : (cs : List ℕ) (s p : ℕ) → p < length cs → column cs p ≢ s → one_from cs s p ≡ one_from cs s (suc p)
unfolding one_from
one_next cs s p h e = rw (from_next cs s p h e)

one_past : (cs : List ℕ) (s p : ℕ) → length cs ≤ p → one_from cs s p ≡ []
one_past cs s p h = one_none cs s p (λ q l k e. omega arith)

pair_at_lem : (cs : List ℕ) (s p : ℕ) → map (λ (ps : List ℕ). p ∷ ps) (one_from cs (bit_xor s (column cs p)) (suc p)) ≡ pair_at cs s p
unfolding one_from pair_at
pair_at_lem cs s p = go (ltb (partner_of cs s p) (length cs)) (partner_of cs s p)
  where
    go : (b : Bool) (q : ℕ) → map (λ (ps : List ℕ). p ∷ ps) (cond b ((q ∷ []) ∷ []) []) ≡ cond b ((p ∷ q ∷ []) ∷ []) []
    go true q = refl
    go false q = refl

pairs_none : (cs : List ℕ) (s m p : ℕ) → ((p q : ℕ) → Pair cs s p q → ⊥) → pairs_from cs s m p ≡ []
unfolding pairs_from pair_at
pairs_none cs s zero p never = refl
pairs_none cs s (suc m) p never = go (ltb (partner_of cs s p) (length cs)) refl (pairs_none cs s m (suc p) never)
  where
    go : (b : Bool) → ltb (partner_of cs s p) (length cs) ≡ b → pairs_from cs s m (suc p) ≡ []
        → cond b ((p ∷ partner_of cs s p ∷ []) ∷ []) [] ++ pairs_from cs s m (suc p) ≡ []
    go true e ih = absurd (never p (partner_of cs s p) (partner_pair cs s p (ltb-true (partner_of cs s p) (length cs) e)))
    go false e ih = ih

module _ {odd : ℕ → ℕ} {cs : List ℕ} (g : Good odd cs) where
  -- the single places from p on
  ones-from : (w m p : ℕ) → p + m ≡ length cs → those (clears cs w) (chosen 1 m p) ≡ one_from cs (mix cs w) p
  unfolding those chosen flip_all
  ones-from w zero p e = sym (one_past cs (mix cs w) p (omega arith))
  ones-from w (suc m) p e = go (clears cs w (p ∷ [])) refl (ones-from w m (suc p) (omega arith))
    where
      inside : p < length cs
      inside = omega arith

      go : (b : Bool) → clears cs w (p ∷ []) ≡ b → those (clears cs w) (chosen 1 m (suc p)) ≡ one_from cs (mix cs w) (suc p)
          → cond b ((p ∷ []) ∷ those (clears cs w) (chosen 1 m (suc p))) (those (clears cs w) (chosen 1 m (suc p)))
          ≡ one_from cs (mix cs w) p
      go true f ih =
          let gone = sym (mix_flip cs w p inside) ∙ eqb-true (mix cs (flipped w p)) 0 f in
          let hit : column cs p ≡ mix cs w = sym (eq_of_xor_zero (mix cs w) (column cs p) gone) in
          ap (λ (l : List (List ℕ)). (p ∷ []) ∷ l)
          (ih ∙ one_none cs (mix cs w) (suc p) (λ q l k a. let same : p ≡ q = g.apart p q inside k (hit ∙ sym a) in omega arith))
          ∙ sym (one_here cs (mix cs w) p inside hit)
      go false f ih =
          ih
          ∙ sym (one_next cs (mix cs w) p inside
          (λ a. eqb-false (mix cs (flipped w p)) 0 f (mix_flip cs w p inside ∙ xor_zero_of_eq (mix cs w) (column cs p) (sym a))))

  -- the pairs whose lower place is p or higher
  pairs_from_lem : (w m p : ℕ) → p + m ≡ length cs → those (clears cs w) (chosen 2 m p) ≡ pairs_from cs (mix cs w) m p
  unfolding those chosen flip_all pairs_from
  pairs_from_lem w zero p e = refl
  pairs_from_lem w (suc m) p e =
      those-append (clears cs w) (map (λ (ps : List ℕ). p ∷ ps) (chosen 1 m (suc p))) (chosen 2 m (suc p))
      ∙ ap₂ (λ (a b : List (List ℕ)). a ++ b) first (pairs_from_lem w m (suc p) (omega arith))
    where
      first : those (clears cs w) (map (λ (ps : List ℕ). p ∷ ps) (chosen 1 m (suc p))) ≡ pair_at cs (mix cs w) p
      first =
          those-map (clears cs w) (λ (ps : List ℕ). p ∷ ps) (chosen 1 m (suc p))
          ∙ ap (map (λ (ps : List ℕ). p ∷ ps))
          (ones-from (flipped w p) m (suc p) (omega arith) ∙ ap (λ (s : ℕ). one_from cs s (suc p)) (mix_flip cs w p (omega arith)))
          ∙ pair_at_lem cs (mix cs w) p

  module _ (w : ℕ) where
    no_place : those (clears cs w) (chosen 0 (length cs) 0) ≡ cond (eqb (mix cs w) 0) ([] ∷ []) []
    unfolding those chosen flip_all
    no_place = refl

    one_place : those (clears cs w) (chosen 1 (length cs) 0)
        ≡ cond (ltb (place_in cs (mix cs w)) (length cs)) ((place_in cs (mix cs w) ∷ []) ∷ []) []
    unfolding one_from
    one_place = rw (from_zero cs (mix cs w)) at (ones-from w (length cs) 0 (omega arith))

    at_most_one : those (clears cs w) (sets_up_to (length cs) 1)
        ≡ cond (eqb (mix cs w) 0) ([] ∷ []) [] ++ cond (ltb (place_in cs (mix cs w)) (length cs)) ((place_in cs (mix cs w) ∷ []) ∷ []) []
    unfolding sets_up_to
    at_most_one =
        those-append (clears cs w) (chosen 0 (length cs) 0) (chosen 1 (length cs) 0)
        ∙ ap₂ (λ (a b : List (List ℕ)). a ++ b) no_place one_place

    two-places : those (clears cs w) (chosen 2 (length cs) 0) ≡ pairs_by cs (mix cs w)
    two-places = pairs_from_lem w (length cs) 0 (omega arith)

-- three parts of which one at most holds anything, one behind the other: the same as the first that does
first_of : (b c : Bool) (x : List ℕ) (l : List (List ℕ)) → (b ≡ true → c ≡ false) → (b ≡ true → l ≡ []) → (c ≡ true → l ≡ [])
    → cond b ([] ∷ []) [] ++ cond c (x ∷ []) [] ++ l ≡ cond b ([] ∷ []) (cond c (x ∷ []) l)
first_of true true x l p q r = absurd (true≢false (p refl))
first_of true false x l p q r = ap (λ (k : List (List ℕ)). [] ∷ k) (q refl)
first_of false true x l p q r = ap (λ (k : List (List ℕ)). x ∷ k) (r refl)
first_of false false x l p q r = refl

module _ {odd : ℕ → ℕ} {cs : List ℕ} (g : Good odd cs) (o : Parity odd) where
  -- 0 is no column and no pair's, and a column is no pair's
  zero_no_column : (s : ℕ) → eqb s 0 ≡ true → ltb (place_in cs s) (length cs) ≡ false
  zero_no_column s e =
      le-ltb (place_in cs s) (length cs)
      (omega (arith, place_none cs s (λ q k a. column-nonzero g o q k (a ∙ eqb-true s 0 e))))

  zero_no_pairs : (s : ℕ) → eqb s 0 ≡ true → pairs_by cs s ≡ []
  zero_no_pairs s e = pairs_none cs s (length cs) 0 (λ p q a. zero_no_pair g p q (rw (eqb-true s 0 e) at a))

  column_no_pairs : (s : ℕ) → ltb (place_in cs s) (length cs) ≡ true → pairs_by cs s ≡ []
  column_no_pairs s e = pairs_none cs s (length cs) 0 (λ p q a. column_no_pair g o s p q (ltb-true (place_in cs s) (length cs) e) a)

  pub heart : (w limit : ℕ) → limit ≤ 2 → clearing cs w limit ≡ by_syndrome cs (mix cs w) limit
  unfolding sets_up_to by_syndrome
  heart w zero h = no_place g w
  heart w (suc zero) h =
      let s = mix cs w in
      sym (append-nil (those (clears cs w) (sets_up_to (length cs) 1)))
      ∙ ap (λ (l : List (List ℕ)). l ++ []) (at_most_one g w)
      ∙ first_of (eqb s 0) (ltb (place_in cs s) (length cs)) (place_in cs s ∷ []) [] (zero_no_column s) (λ e. refl) (λ e. refl)
  heart w (suc (suc zero)) h =
      let s = mix cs w in
      those-append (clears cs w) (sets_up_to (length cs) 1) (chosen 2 (length cs) 0)
      ∙ ap₂ (λ (a b : List (List ℕ)). a ++ b) (at_most_one g w) (two-places g w)
      ∙ first_of (eqb s 0) (ltb (place_in cs s) (length cs)) (place_in cs s ∷ []) (pairs_by cs s) (zero_no_column s) (zero_no_pairs s)
      (column_no_pairs s)
  heart w (suc (suc (suc limit))) h = absurd (omega arith)
