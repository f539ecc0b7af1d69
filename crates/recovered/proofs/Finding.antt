-- What the finder finds: the places where two reads agree, so the stuck ones. Assumes nothing.
use mathlib.Core.Path.{◌≡◌, refl, sym, ap, ap₂, ◌∙◌}
use mathlib.Core.Logic.{◌↔◌, ⊎_elim}
use Prim.Native.Nat.{ℕ, zero, suc, ◌^◌, ◌≤◌, ◌<◌}
use native.Mathlib.Omega.{arith}
use lib.Bits.{bit_xor, differ, xor_lt}
use Rattle.parity.proofs.Ones.{below_or_not}
use Rattle.columns.specs.Bits.{bit_at}
use Rattle.columns.proofs.Rows.{xor_bit}
use Rattle.finder.specs.Finder.{every_place, agreeing}
use Rattle.finder.proofs.Parts.{every_fits}
use Rattle.recovered.specs.Stuck.{ReadBack, complement}
use Rattle.recovered.proofs.Digits.{bit_lt, bit_past, every_bit, equal_digits}

-- a digit that is 1 exactly where two digits are the same
same_digit : (x y : ℕ) → x < 2 → y < 2 → (differ 1 (differ x y) ≡ 1) ↔ (x ≡ y)
same_digit zero zero hx hy = (λ e. refl, λ e. refl)
same_digit zero (suc zero) hx hy = (λ (e : ◌≡◌ {A = ℕ} 0 1). absurd (omega arith), λ (e : ◌≡◌ {A = ℕ} 0 1). absurd (omega arith))
same_digit (suc zero) zero hx hy = (λ (e : ◌≡◌ {A = ℕ} 0 1). absurd (omega arith), λ (e : ◌≡◌ {A = ℕ} 1 0). absurd (omega arith))
same_digit (suc zero) (suc zero) hx hy = (λ e. refl, λ e. refl)
same_digit zero (suc (suc y)) hx hy = absurd (omega arith)
same_digit (suc zero) (suc (suc y)) hx hy = absurd (omega arith)
same_digit (suc (suc x)) y hx hy = absurd (omega arith)

turned-digit : (x : ℕ) → x < 2 → differ 1 (differ x (differ 1 x)) ≡ 0
turned-digit zero h = refl
turned-digit (suc zero) h = refl
turned-digit (suc (suc x)) h = absurd (omega arith)

module _ (n a b : ℕ) where
  agreeing_bit : (p : ℕ) → p < n → bit_at (agreeing n a b) p ≡ differ 1 (differ (bit_at a p) (bit_at b p))
  agreeing_bit p h = xor_bit (every_place n) (bit_xor a b) p ∙ ap₂ differ (every_bit n p h) (xor_bit a b p)

  module _ (ha : a < 2 ^ n) (hb : b < 2 ^ n) where
    pub agreeing-lt : agreeing n a b < 2 ^ n
    agreeing-lt = xor_lt n (every_place n) (bit_xor a b) (every_fits n) (xor_lt n a b ha hb)

    -- FOUND EXACTLY: the places below n where the two agree
    pub found_exactly : (p : ℕ) → (bit_at (agreeing n a b) p ≡ 1) ↔ ((p < n) × (bit_at a p ≡ bit_at b p))
    found_exactly p =
        let same = same_digit (bit_at a p) (bit_at b p) (bit_lt a p) (bit_lt b p) in (
          λ e.
              ⊎_elim
              (λ (l : p < n). (l, same.0 (sym (agreeing_bit p l) ∙ e)))
              (λ (l : n ≤ p).
              let z : ◌≡◌ {A = ℕ} 0 1 = sym (bit_past n (agreeing n a b) p agreeing-lt l) ∙ e in
              absurd (omega arith))
              (below_or_not p n),
          λ x. agreeing_bit p x.0 ∙ same.1 x.1,
        )

-- STUCK PLACES: after a pattern and its complement were written, the places found are exactly those that are stuck
pub stuck_found : (n stuck held w a b : ℕ) → stuck < 2 ^ n → ReadBack n stuck held w a → ReadBack n stuck held (complement n w) b
    → agreeing n a b ≡ stuck
stuck_found n stuck held w a b fits x y =
    equal_digits n (agreeing n a b) stuck (agreeing-lt n a b x.fits y.fits) fits
    (λ p l.
    ⊎_elim
    (λ (z : bit_at stuck p < 1).
    let none : bit_at stuck p ≡ 0 = omega arith in
    agreeing_bit n a b p l
    ∙ ap₂ (λ (c d : ℕ). differ 1 (differ c d)) (x.keeps p l none)
    (y.keeps p l none ∙ xor_bit (every_place n) w p ∙ ap (λ (d : ℕ). differ d (bit_at w p)) (every_bit n p l))
    ∙ turned-digit (bit_at w p) (bit_lt w p) ∙ sym none)
    (λ (z : 1 ≤ bit_at stuck p).
    let one : bit_at stuck p ≡ 1 = omega arith in
    (found_exactly n a b x.fits y.fits p).1 (l, x.sticks p l one ∙ sym (y.sticks p l one)) ∙ sym one)
    (below_or_not (bit_at stuck p) 1))
