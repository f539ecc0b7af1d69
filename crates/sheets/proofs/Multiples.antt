-- Of all multiples of u, `closest` gives the one that is nearest to n; where another is as near, it gives an even one. Assumes nothing.
use mathlib.Core.Path.{◌≡◌, refl, sym, ap, ◌∙◌, subst}
use mathlib.Core.Logic.{◌≢◌, ◌⊎◌, inl, inr}
use mathlib.Core.Bool.{Bool, true, false, not}
use Prim.Native.Nat.{ℕ, zero, suc, ◌+◌, ◌*◌, ◌/◌, ◌%◌, ◌≤◌, ◌<◌, compare, Ordering}
use native.Mathlib.Nat.{le_trans, le_of_eq, le_of_lt, add-zero, mul-le-mul_right, suc-mul, mod-lt, div-add-mod'}
use native.Mathlib.Omega.{arith}
use lib.Arith.{lt_of_le-ne}
use borrow.Author.Tests.{ltb-true, ltb-false, eqb-true, eqb-false}
use lib.Dec.{T, is_le, compare_is_eq, eqb, ltb, leb→le, nleb→lt, eqb→eq, eqb_refl}
use lib.Ieee.{nearest}
use lib.Ieee.Nearest.{closest}
use Rattle.sheets.specs.Nearest.{apart}

-- what `compare` says
abbrev Says : Ordering → ℕ → ℕ → Type 0
Says Ordering.lt a b = a < b
Says Ordering.eq a b = a ≡ b
Says Ordering.gt a b = b < a

says : (a b : ℕ) → Says (compare a b) a b
says a b = go (compare a b) (leb→le a b) (nleb→lt a b) (eqb→eq a b) (λ (e : a ≡ b). subst (λ (x : ℕ). T (eqb a x)) e (eqb_refl a))
  where
    go : (o : Ordering) → (T (is_le o) → a ≤ b) → (T (not (is_le o)) → b < a) → (T (compare_is_eq o) → a ≡ b) → (a ≡ b → T (compare_is_eq o)) → Says o a b
    go Ordering.lt h k e n = lt_of_le-ne (h tt) n
    go Ordering.eq h k e n = e tt
    go Ordering.gt h k e n = k tt

-- where z lies beside w, and z's multiple of u beside w's
data Beside (w u z : ℕ) : Type 0 where
  below : z * u + u ≤ w * u → Beside w u z
  same : z ≡ w → Beside w u z
  next : z ≡ suc w → z * u ≡ w * u + u → Beside w u z
  above : w * u + u + u ≤ z * u → Beside w u z

beside : (w u z : ℕ) → Beside w u z
beside w u z = go (ltb z w) refl (eqb z w) refl (eqb z (suc w)) refl
  where
    up_one : (a b : ℕ) → suc a ≤ b → a * u + u ≤ b * u
    up_one a b h = le_trans (le_of_eq (sym (suc-mul a u))) (mul-le-mul_right u h)

    up-two : (a b : ℕ) → suc (suc a) ≤ b → a * u + u + u ≤ b * u
    up-two a b h = le_trans (le_of_eq (ap (λ (x : ℕ). x + u) (sym (suc-mul a u)) ∙ sym (suc-mul (suc a) u))) (mul-le-mul_right u h)

    past : (z w : ℕ) → w ≤ z → (z ≡ w → ⊥) → (z ≡ suc w → ⊥) → suc (suc w) ≤ z
    past z w h a b = lt_of_le-ne (lt_of_le-ne h (λ e. a (sym e))) (λ e. b (sym e))

    go : (s : Bool) → ltb z w ≡ s → (t : Bool) → eqb z w ≡ t → (v : Bool) → eqb z (suc w) ≡ v → Beside w u z
    go true a t b v d = below (up_one z w (ltb-true z w a))
    go false a true b v d = same (eqb-true z w b)
    go false a false b true d = next (eqb-true z (suc w) d) (ap (λ (x : ℕ). x * u) (eqb-true z (suc w) d) ∙ suc-mul w u)
    go false a false b false d = above (up-two w z (past z w (ltb-false z w a) (eqb-false z w b) (eqb-false z (suc w) d)))

-- n is w * u + r: for a remainder up to a half no multiple is nearer than w's, and for one from a half on none is nearer than the next
low_half : (w u r z : ℕ) → Beside w u z → r * 2 ≤ u → r < u → apart (w * u) (w * u + r) ≤ apart (z * u) (w * u + r)
low_half w u r z (below h) a b = omega arith
low_half w u r z (same e) a b = le_of_eq (ap (λ (x : ℕ). apart (x * u) (w * u + r)) (sym e))
low_half w u r z (next e f) a b = omega arith
low_half w u r z (above h) a b = omega arith

high_half : (w u r z : ℕ) → Beside w u z → u ≤ r * 2 → r < u → apart (w * u + u) (w * u + r) ≤ apart (z * u) (w * u + r)
high_half w u r z (below h) a b = omega arith
high_half w u r z (same e) a b = let f : z * u ≡ w * u = ap (λ (x : ℕ). x * u) e in omega arith
high_half w u r z (next e f) a b = omega arith
high_half w u r z (above h) a b = omega arith

-- and for one below a half, or above it, no other multiple is as near
low-only : (w u r z : ℕ) → Beside w u z → r * 2 < u → z ≢ w → apart (w * u) (w * u + r) ≡ apart (z * u) (w * u + r) → ⊥
low-only w u r z (below h) a n e = omega arith
low-only w u r z (same f) a n e = n f
low-only w u r z (next f g) a n e = omega arith
low-only w u r z (above h) a n e = omega arith

high-only : (w u r z : ℕ) → Beside w u z → u < r * 2 → r < u → z ≢ suc w → apart (w * u + u) (w * u + r) ≡ apart (z * u) (w * u + r) → ⊥
high-only w u r z (below h) a b n e = omega arith
high-only w u r z (same f) a b n e = let g : z * u ≡ w * u = ap (λ (x : ℕ). x * u) f in omega arith
high-only w u r z (next f g) a b n e = n f
high-only w u r z (above h) a b n e = omega arith

-- a tie goes to w or to the next, whichever is even
tie : (w : ℕ) → (w + w % 2 ≡ w) ⊎ (w + w % 2 ≡ suc w)
tie w = go (w % 2) refl
  where
    one : (r : ℕ) → w % 2 ≡ suc r → w + suc r ≡ suc w
    one r h = omega arith

    go : (r : ℕ) → w % 2 ≡ r → (w + r ≡ w) ⊎ (w + r ≡ suc w)
    go zero h = inl (add-zero w)
    go (suc r) h = inr (one r h)

chosen : (w u r z : ℕ) (o : Ordering) → Says o (r * 2) u → r < u → apart (nearest w o * u) (w * u + r) ≤ apart (z * u) (w * u + r)
chosen w u r z Ordering.lt s b = low_half w u r z (beside w u z) (le_of_lt s) b
chosen w u r z Ordering.gt s b =
    le_trans (le_of_eq (ap (λ (x : ℕ). apart x (w * u + r)) (suc-mul w u))) (high_half w u r z (beside w u z) (le_of_lt s) b)
chosen w u r z Ordering.eq s b = go (tie w)
  where
    go : (w + w % 2 ≡ w) ⊎ (w + w % 2 ≡ suc w) → apart ((w + w % 2) * u) (w * u + r) ≤ apart (z * u) (w * u + r)
    go (inl e) = le_trans (le_of_eq (ap (λ (x : ℕ). apart (x * u) (w * u + r)) e)) (low_half w u r z (beside w u z) (le_of_eq s) b)
    go (inr e) =
        le_trans (le_of_eq (ap (λ (x : ℕ). apart (x * u) (w * u + r)) e ∙ ap (λ (x : ℕ). apart x (w * u + r)) (suc-mul w u)))
        (high_half w u r z (beside w u z) (le_of_eq (sym s)) b)

-- two multiples as near, one of them chosen: they are w's and the next, and the chosen one is even
pub record Tied (w chosen z : ℕ) : Type 0 where
  pub even : chosen % 2 ≡ 0
  pub odd : z % 2 ≡ 1
  pub least : w ≤ z
  pub most : z ≤ suc w

chosen_tied : (w u r z : ℕ) (o : Ordering) → Says o (r * 2) u → r < u → z ≢ nearest w o
    → apart (nearest w o * u) (w * u + r) ≡ apart (z * u) (w * u + r) → Tied w (nearest w o) z
chosen_tied w u r z Ordering.lt s b n e = absurd (low-only w u r z (beside w u z) s n e)
chosen_tied w u r z Ordering.gt s b n e =
    absurd (high-only w u r z (beside w u z) s b n (sym (ap (λ (x : ℕ). apart x (w * u + r)) (suc-mul w u)) ∙ e))
chosen_tied w u r z Ordering.eq s b n e = go (beside w u z) (tie w)
  where
    times : (v : ℕ) → w + w % 2 ≡ v → (w + w % 2) * u ≡ v * u
    times v h = ap (λ (x : ℕ). x * u) h

    go : Beside w u z → (w + w % 2 ≡ w) ⊎ (w + w % 2 ≡ suc w) → Tied w (w + w % 2) z
    go (below h) (inl k) = let m = times w k in absurd (omega arith)
    go (below h) (inr k) = let m = times (suc w) k ∙ suc-mul w u in absurd (omega arith)
    go (same f) (inl k) = absurd (n (f ∙ sym k))
    go (same f) (inr k) = record { even = omega arith; odd = omega arith; least = omega arith; most = omega arith }
    go (next f g) (inl k) = record { even = omega arith; odd = omega arith; least = omega arith; most = omega arith }
    go (next f g) (inr k) = absurd (n (f ∙ sym k))
    go (above h) (inl k) = let m = times w k in absurd (omega arith)
    go (above h) (inr k) = let m = times (suc w) k ∙ suc-mul w u in absurd (omega arith)

-- ---- `closest`
pub closest_near : (n u z : ℕ) → 0 < u → apart (closest n u * u) n ≤ apart (z * u) n
closest_near n u z h =
    subst (λ (x : ℕ). apart (closest n u * u) x ≤ apart (z * u) x) (div-add-mod' n u)
    (chosen (n / u) u (n % u) z (compare (n % u * 2) u) (says (n % u * 2) u) (mod-lt n h))

pub closest_tied : (n u z : ℕ) → 0 < u → z ≢ closest n u → apart (closest n u * u) n ≡ apart (z * u) n → Tied (n / u) (closest n u) z
closest_tied n u z h o e =
    chosen_tied (n / u) u (n % u) z (compare (n % u * 2) u) (says (n % u * 2) u) (mod-lt n h) o
    (subst (λ (x : ℕ). apart (closest n u * u) x ≡ apart (z * u) x) (sym (div-add-mod' n u)) e)
