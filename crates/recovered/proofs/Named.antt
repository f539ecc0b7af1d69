-- A list of places: which stand in it, and exactly when something is wrong with it. Assumes nothing.
use mathlib.Core.Path.{◌≡◌, refl, sym, ap, ◌∙◌}
use mathlib.Core.Logic.{◌⊎◌, inl, inr, ⊎_elim, ◌↔◌}
use mathlib.Core.Bool.{Bool, true, false, cond, true≢false}
use mathlib.Core.List.Memᴰ
use mathlib.Core.List.{List, [], ◌∷◌, Memᴰ}
use Prim.Native.Nat.{ℕ, zero, suc, ◌≤◌, ◌<◌}
use native.Mathlib.Omega.{arith}
use borrow.Author.Tests.{eq-eqb, eqb-true, lt-ltb, ltb-true, le-leb, leb-true}
use lib.Dec.{eqb, ltb, leb}
use lib.ListN.{length, get_or}
use Rattle.reach.specs.Places.{stands, misnamed, wrong_places}
use Rattle.recovered.specs.Named.{Outside, Repeated, WrongPlaces}

-- a place stands in a list exactly when it is one of its members
pub stands_in : (p : ℕ) (ps : List ℕ) → stands p ps ≡ true → Memᴰ p ps
unfolding stands
stands_in p [] h = absurd (true≢false (sym h))
stands_in p (q ∷ ps) h = go (eqb q p) refl h (stands_in p ps)
  where
    go : (b : Bool) → eqb q p ≡ b → cond b true (stands p ps) ≡ true → (stands p ps ≡ true → Memᴰ p ps) → Memᴰ p (q ∷ ps)
    go true e h ih = Memᴰ.head (sym (eqb-true q p e))
    go false e h ih = Memᴰ.tail (ih h)

pub in_stands : (p : ℕ) (ps : List ℕ) → Memᴰ p ps → stands p ps ≡ true
unfolding stands
in_stands p [] m = absurd (Memᴰ.not-nil m)
in_stands p (q ∷ ps) m = ⊎_elim (λ e. rw (eq-eqb q p (sym e))) (λ r. later (eqb q p) (in_stands p ps r)) (Memᴰ.cases_cons m)
  where
    later : (b : Bool) → stands p ps ≡ true → cond b true (stands p ps) ≡ true
    later true h = refl
    later false h = h

-- and is the one at some index
stands_at : (p : ℕ) (ps : List ℕ) → stands p ps ≡ true → (i : ℕ) × (i < length ps) × (get_or ps i 0 ≡ p)
unfolding stands
stands_at p [] h = absurd (true≢false (sym h))
stands_at p (q ∷ ps) h = go (eqb q p) refl h (stands_at p ps)
  where
    go : (b : Bool) → eqb q p ≡ b → cond b true (stands p ps) ≡ true
        → (stands p ps ≡ true → (i : ℕ) × (i < length ps) × (get_or ps i 0 ≡ p))
        → (i : ℕ) × (i < suc (length ps)) × (get_or (q ∷ ps) i 0 ≡ p)
    go true e h ih = (0, omega arith, eqb-true q p e)
    go false e h ih = let x = ih h in (suc x.0, omega (arith, x.1), x.2)

pub at-stands : (ps : List ℕ) (i : ℕ) → i < length ps → stands (get_or ps i 0) ps ≡ true
unfolding stands
at-stands [] i h = absurd (omega arith)
at-stands (q ∷ ps) zero h = rw (eq-eqb q q refl)
at-stands (q ∷ ps) (suc i) h = later (eqb q (get_or ps i 0)) (at-stands ps i (omega arith))
  where
    later : (b : Bool) → stands (get_or ps i 0) ps ≡ true → cond b true (stands (get_or ps i 0) ps) ≡ true
    later true e = refl
    later false e = e

-- what `misnamed` says
misnamed-is : (n : ℕ) (ps : List ℕ) → misnamed n ps ≡ true → Repeated ps ⊎ Outside n ps
unfolding misnamed
misnamed-is n [] h = absurd (true≢false (sym h))
misnamed-is n (p ∷ ps) h = go (leb n p) refl (stands p ps) refl h (misnamed-is n ps)
  where
    go : (a : Bool) → leb n p ≡ a → (b : Bool) → stands p ps ≡ b → cond a true (cond b true (misnamed n ps)) ≡ true
        → (misnamed n ps ≡ true → Repeated ps ⊎ Outside n ps) → Repeated (p ∷ ps) ⊎ Outside n (p ∷ ps)
    go true e b f h ih = inr (0, omega arith, leb-true n p e)
    go false e true f h ih = let x = stands_at p ps f in inl (0, suc x.0, omega arith, omega (arith, x.1), sym x.2)
    go false e false f h ih =
        ⊎_elim
        (λ x. inl (suc x.0, suc x.1, omega (arith, x.2), omega (arith, x.3), x.4))
        (λ x. inr (suc x.0, omega (arith, x.1), x.2))
        (ih h)

-- and when
behind-first : (n p : ℕ) (ps : List ℕ) → misnamed n ps ≡ true → misnamed n (p ∷ ps) ≡ true
unfolding misnamed
behind-first n p ps h = go (leb n p) (stands p ps)
  where
    go : (a b : Bool) → cond a true (cond b true (misnamed n ps)) ≡ true
    go true b = refl
    go false true = refl
    go false false = h

repeated_is : (n : ℕ) (ps : List ℕ) (i j : ℕ) → i < j → j < length ps → get_or ps i 0 ≡ get_or ps j 0 → misnamed n ps ≡ true
unfolding misnamed
repeated_is n [] i j l h e = absurd (omega arith)
repeated_is n (p ∷ ps) i zero l h e = absurd (omega arith)
repeated_is n (p ∷ ps) zero (suc j) l h e = go (leb n p) (ap (λ (q : ℕ). stands q ps) e ∙ at-stands ps j (omega arith))
  where
    go : (a : Bool) → stands p ps ≡ true → cond a true (cond (stands p ps) true (misnamed n ps)) ≡ true
    go true f = refl
    go false f = rw f
repeated_is n (p ∷ ps) (suc i) (suc j) l h e = behind-first n p ps (repeated_is n ps i j (omega arith) (omega arith) e)

outside_is : (n : ℕ) (ps : List ℕ) (i : ℕ) → i < length ps → n ≤ get_or ps i 0 → misnamed n ps ≡ true
unfolding misnamed
outside_is n [] i h l = absurd (omega arith)
outside_is n (p ∷ ps) zero h l = rw (le-leb n p l)
outside_is n (p ∷ ps) (suc i) h l = behind-first n p ps (outside_is n ps i (omega arith) l)

-- ROW 22 exactly
module _ (n : ℕ) (bad : List ℕ) where
  named_wrong : misnamed n bad ≡ true → wrong_places n bad ≡ true
  named_wrong h = go (ltb 3 (length bad))
    where
      go : (b : Bool) → cond b true (misnamed n bad) ≡ true
      go true = refl
      go false = h

  pub wrong_exactly : (wrong_places n bad ≡ true) ↔ WrongPlaces n bad
  wrong_exactly = (
    is (ltb 3 (length bad)) refl,
    ⊎_elim
        (λ h. rw (lt-ltb 3 (length bad) h))
        (⊎_elim
        (λ x. named_wrong (repeated_is n bad x.0 x.1 x.2 x.3 x.4))
        (λ x. named_wrong (outside_is n bad x.0 x.1 x.2))),
  )
    where
      is : (b : Bool) → ltb 3 (length bad) ≡ b → cond b true (misnamed n bad) ≡ true → WrongPlaces n bad
      is true e h = inl (ltb-true 3 (length bad) e)
      is false e h = inr (misnamed-is n bad h)

  pub right_exactly : ¬ (WrongPlaces n bad) → wrong_places n bad ≡ false
  right_exactly h = go (wrong_places n bad) refl
    where
      go : (b : Bool) → wrong_places n bad ≡ b → b ≡ false
      go true e = absurd (h (wrong_exactly.0 e))
      go false e = refl
