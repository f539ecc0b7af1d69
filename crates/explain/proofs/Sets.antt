-- Those that pass a test of two lists, of a mapped list, under two tests that agree; and that the sets listed are sets. Assumes nothing.
use mathlib.Core.Path.{◌≡◌, refl, sym, ap}
use mathlib.Core.Logic.{⊎_elim}
use mathlib.Core.Bool.{Bool, true, false, cond}
use mathlib.Core.List.Memᴰ
use mathlib.Core.List.{List, [], ◌∷◌, ◌++◌, map, Memᴰ}
use Prim.Native.Nat.{ℕ, zero, suc, ◌+◌}
use native.Mathlib.Omega.{arith}
use lib.ListN.{length}
use Rattle.listing.specs.Sets.{chosen, sets_up_to, those}
use Rattle.explain.specs.Order.{RisingFrom, SetOf}

-- ---- those that pass a test

pub those-append : (t : List ℕ → Bool) (a b : List (List ℕ)) → those t (a ++ b) ≡ those t a ++ those t b
unfolding those
those-append t [] b = refl
those-append t (x ∷ a) b = go (t x) (those-append t a b)
  where
    go : (k : Bool) → those t (a ++ b) ≡ those t a ++ those t b
        → cond k (x ∷ those t (a ++ b)) (those t (a ++ b)) ≡ cond k (x ∷ those t a) (those t a) ++ those t b
    go true ih = ap (λ (l : List (List ℕ)). x ∷ l) ih
    go false ih = ih

pub those-map : (t : List ℕ → Bool) (f : List ℕ → List ℕ) (l : List (List ℕ)) → those t (map f l) ≡ map f (those (λ x. t (f x)) l)
unfolding those
those-map t f [] = refl
those-map t f (x ∷ l) = go (t (f x)) (those-map t f l)
  where
    go : (k : Bool) → those t (map f l) ≡ map f (those (λ x. t (f x)) l)
        → cond k (f x ∷ those t (map f l)) (those t (map f l)) ≡ map f (cond k (x ∷ those (λ x. t (f x)) l) (those (λ x. t (f x)) l))
    go true ih = ap (λ (l : List (List ℕ)). f x ∷ l) ih
    go false ih = ih

-- two tests that agree on a list pick the same of it
pub those_same : (t u : List ℕ → Bool) (l : List (List ℕ)) → ((x : List ℕ) → Memᴰ x l → t x ≡ u x) → those t l ≡ those u l
unfolding those
those_same t u [] h = refl
those_same t u (x ∷ l) h = go (t x) (u x) (h x (Memᴰ.head refl)) (those_same t u l (λ y m. h y (Memᴰ.tail m)))
  where
    go : (j k : Bool) → j ≡ k → those t l ≡ those u l → cond j (x ∷ those t l) (those t l) ≡ cond k (x ∷ those u l) (those u l)
    go j k e ih = rw (e, ih)

-- ---- the sets of at most `limit` places

rising_from : (n p : ℕ) (ps : List ℕ) → RisingFrom n (suc p) ps → RisingFrom n p ps
rising_from n p [] h = tt
rising_from n p (q ∷ qs) h = (omega arith, h.1, h.2)

chosen_in : (j m p n : ℕ) (ps : List ℕ) → p + m ≡ n → Memᴰ ps (chosen j m p) → RisingFrom n p ps × (length ps ≡ j)
unfolding chosen
chosen_in zero m p n ps e h = let q = Memᴰ.eq_of_singleton h in rw q (tt, refl)
chosen_in (suc j) zero p n ps e h = absurd (Memᴰ.not-nil h)
chosen_in (suc j) (suc m) p n ps e h =
    ⊎_elim
    (λ k.
    let r = Memᴰ.of_map (λ (qs : List ℕ). p ∷ qs) (chosen j m (suc p)) k in
    let i = chosen_in j m (suc p) n r.0 (omega arith) r.1 in
    rw (sym r.2) ((omega arith, omega arith, i.0), ap suc i.1))
    (λ k. let i = chosen_in (suc j) m (suc p) n ps (omega arith) k in (rising_from n p ps i.0, i.1))
    (Memᴰ.append_cases (map (λ (qs : List ℕ). p ∷ qs) (chosen j m (suc p))) h)

pub sets_in : (n limit : ℕ) (ps : List ℕ) → Memᴰ ps (sets_up_to n limit) → SetOf n limit ps
unfolding sets_up_to
sets_in n zero ps h = let i = chosen_in 0 n 0 n ps (omega arith) h in record { rising = i.0; few = omega arith }
sets_in n (suc limit) ps h =
    ⊎_elim
    (λ k. let i = sets_in n limit ps k in record { rising = i.rising; few = omega arith })
    (λ k. let i = chosen_in (suc limit) n 0 n ps (omega arith) k in record { rising = i.0; few = omega arith })
    (Memᴰ.append_cases (sets_up_to n limit) h)
