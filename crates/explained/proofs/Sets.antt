-- The sets of at most `limit` places that pass a test: which they are, for any test and any limit. Assumes nothing.
use mathlib.Core.Path.{◌≡◌, refl, sym, ap, ◌∙◌}
use mathlib.Core.Logic.{⊎_elim, ◌↔◌}
use mathlib.Core.Bool.{Bool, true, false, cond}
use mathlib.Core.List.Memᴰ
use mathlib.Core.List.{List, [], ◌∷◌, map, Memᴰ}
use Prim.Native.Nat.{ℕ, zero, suc, ◌+◌}
use native.Mathlib.Nat.{eq-or-lt_of_le}
use native.Mathlib.Omega.{arith}
use lib.ListN.{length}
use Rattle.listing.specs.Sets.{chosen, sets_up_to, those}
use Rattle.explain.specs.Order.{RisingFrom, SetOf}
use Rattle.explain.proofs.Sets.{sets_in}

-- ---- those that pass a test

those_in : (t : List ℕ → Bool) (x : List ℕ) (l : List (List ℕ)) → Memᴰ x (those t l) → Memᴰ x l × (t x ≡ true)
unfolding those
those_in t x [] m = absurd (Memᴰ.not-nil m)
those_in t x (y ∷ l) m = go (t y) refl m (those_in t x l)
  where
    go : (k : Bool) → t y ≡ k → Memᴰ x (cond k (y ∷ those t l) (those t l)) → (Memᴰ x (those t l) → Memᴰ x l × (t x ≡ true))
        → Memᴰ x (y ∷ l) × (t x ≡ true)
    go true e m ih = ⊎_elim (λ q. (Memᴰ.head q, ap t q ∙ e)) (λ n. (Memᴰ.tail (ih n).0, (ih n).1)) (Memᴰ.cases_cons m)
    go false e m ih = (Memᴰ.tail (ih m).0, (ih m).1)

in_those : (t : List ℕ → Bool) (x : List ℕ) (l : List (List ℕ)) → Memᴰ x l → t x ≡ true → Memᴰ x (those t l)
unfolding those
in_those t x [] m e = m
in_those t x (y ∷ l) m e = ⊎_elim (λ q. here (t y) (ap t (sym q) ∙ e) q) (λ n. later (t y) (in_those t x l n e)) (Memᴰ.cases_cons m)
  where
    here : (k : Bool) → k ≡ true → x ≡ y → Memᴰ x (cond k (y ∷ those t l) (those t l))
    here k f q = rw f (Memᴰ.head q)

    later : (k : Bool) → Memᴰ x (those t l) → Memᴰ x (cond k (y ∷ those t l) (those t l))
    later true n = Memᴰ.tail n
    later false n = n

-- ---- the sets of at most `limit` places

in_chosen : (m p n : ℕ) (ps : List ℕ) → p + m ≡ n → RisingFrom n p ps → Memᴰ ps (chosen (length ps) m p)
unfolding chosen
in_chosen m p n [] e h = Memᴰ.head refl
in_chosen zero p n (q ∷ qs) e h = absurd (omega arith)
in_chosen (suc m) p n (q ∷ qs) e h =
    ⊎_elim
    (λ s. Memᴰ.append_left (chosen (suc (length qs)) m (suc p))
    (Memᴰ.cast (ap (λ (x : ℕ). x ∷ qs) (sym s))
    (Memᴰ.map (λ (ps : List ℕ). p ∷ ps) (in_chosen m (suc p) n qs (omega arith) (rw s h.2)))))
    (λ l. Memᴰ.append_right (map (λ (ps : List ℕ). p ∷ ps) (chosen (length qs) m (suc p)))
    (in_chosen m (suc p) n (q ∷ qs) (omega arith) (l, h.1, h.2)))
    (eq-or-lt_of_le h.0)

in_sets : (n limit : ℕ) (ps : List ℕ) → SetOf n limit ps → Memᴰ ps (sets_up_to n limit)
unfolding sets_up_to
in_sets n zero ps s =
    let e : length ps ≡ 0 = omega arith in
    rw e at (in_chosen n 0 n ps (omega arith) s.rising)
in_sets n (suc limit) ps s =
    ⊎_elim
    (λ e. Memᴰ.append_right (sets_up_to n limit) (rw e at (in_chosen n 0 n ps (omega arith) s.rising)))
    (λ l. Memᴰ.append_left (chosen (suc limit) n 0) (in_sets n limit ps (record { rising = s.rising; few = omega arith })))
    (eq-or-lt_of_le s.few)

-- a set is among those that pass a test exactly when it is a set of at most `limit` places and passes it
pub those_exactly : (t : List ℕ → Bool) (n limit : ℕ) (ps : List ℕ)
    → Memᴰ ps (those t (sets_up_to n limit)) ↔ (SetOf n limit ps × (t ps ≡ true))
those_exactly t n limit ps = (
  λ m. let i = those_in t ps (sets_up_to n limit) m in (sets_in n limit ps i.0, i.1),
  λ s. in_those t ps (sets_up_to n limit) (in_sets n limit ps s.0) s.1,
)
