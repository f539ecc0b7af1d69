-- Binary digits: of a flipped word, of a word of ones; and numbers with equal digits are equal. Assumes nothing.
use mathlib.Core.Path.{◌≡◌, sym, ap, ◌∙◌}
use mathlib.Core.Logic.{◌≢◌, ⊎_elim}
use Prim.Native.Nat.{ℕ, zero, suc, ◌+◌, ◌-◌, ◌*◌, ◌/◌, ◌%◌, ◌^◌, ◌≤◌, ◌<◌}
use native.Mathlib.Nat.{pow-suc, div-eq_of_lt}
use native.Mathlib.Omega.{arith}
use lib.Arith.{lt-one}
use lib.Bits.{differ}
use lib.Pow.{pow_pos, pow-lt, pow_mono, pow-add, shl-shr, shr-shr}
use Rattle.parity.proofs.Ones.{below_or_not, differ-sum}
use Rattle.parity.proofs.Xor.{by_digits}
use Rattle.columns.specs.Mix.{flipped}
use Rattle.columns.specs.Bits.{bit_at}
use Rattle.columns.proofs.Rows.{xor_bit}
use Rattle.finder.specs.Finder.{every_place}
use Rattle.finder.proofs.Parts.{every_high}

-- ---- one digit with another

differ_none : (x : ℕ) → x < 2 → differ x 0 ≡ x
differ_none x h = omega (arith, differ-sum x 0 h (omega arith))

pub differ-most : (x y : ℕ) → x < 2 → y < 2 → differ x y ≤ 1
differ-most x y hx hy = omega (arith, differ-sum x y hx hy)

pub bit_lt : (x p : ℕ) → bit_at x p < 2
bit_lt x p = omega arith

-- ---- a single one

pub pow_bit : (p : ℕ) → bit_at (2 ^ p) p ≡ 1
pow_bit p =
    let e : 2 ^ p ≡ 1 * 2 ^ p = omega arith in
    ap (λ (x : ℕ). x % 2) (ap (λ (x : ℕ). x / 2 ^ p) e ∙ shl-shr 1 p)

pub pow_bit_other : (p q : ℕ) → q ≢ p → bit_at (2 ^ p) q ≡ 0
pow_bit_other p q ne =
    ⊎_elim
    (λ (l : q < p).
    let s : suc (p - suc q) + q ≡ p = omega arith in
    ap (λ (x : ℕ). x / 2 ^ q % 2) (ap (λ (m : ℕ). 2 ^ m) (sym s) ∙ pow-add 2 (suc (p - suc q)) q)
    ∙ ap (λ (x : ℕ). x % 2) (shl-shr (2 ^ suc (p - suc q)) q) ∙ omega (arith, pow-suc 2 (p - suc q)))
    (λ (l : p ≤ q).
    let m : p < q = omega arith in
    ap (λ (x : ℕ). x % 2) (div-eq_of_lt (pow-lt m)))
    (below_or_not q p)

-- ---- a flip

module _ (w p : ℕ) where
  pub flip_bit : bit_at (flipped w p) p ≡ differ (bit_at w p) 1
  flip_bit = xor_bit w (2 ^ p) p ∙ ap (differ (bit_at w p)) (pow_bit p)

  pub flip_bit_other : (q : ℕ) → q ≢ p → bit_at (flipped w p) q ≡ bit_at w q
  flip_bit_other q ne = xor_bit w (2 ^ p) q ∙ ap (differ (bit_at w q)) (pow_bit_other p q ne) ∙ differ_none (bit_at w q) (bit_lt w q)

-- ---- n ones, and digits past n

pub every_bit : (n p : ℕ) → p < n → bit_at (every_place n) p ≡ 1
every_bit n p h =
    let s : n - p ≡ suc (n - suc p) = omega arith in
    ap (λ (x : ℕ). x % 2) (every_high n p (omega arith) ∙ ap every_place s) ∙ omega (arith, pow-suc 2 (n - suc p), pow_pos (n - suc p))

pub bit_past : (n x p : ℕ) → x < 2 ^ n → n ≤ p → bit_at x p ≡ 0
bit_past n x p fits h =
    let l : x < 2 ^ p = omega (arith, pow_mono {i = n} {j = p} h) in
    ap (λ (y : ℕ). y % 2) (div-eq_of_lt l)

-- ---- equal digits

half_bit : (x p : ℕ) → bit_at (x / 2) p ≡ bit_at x (suc p)
half_bit x p =
    let s : 1 + p ≡ suc p = omega arith in
    ap (λ (y : ℕ). y % 2) (shr-shr x 1 p ∙ ap (λ (m : ℕ). x / 2 ^ m) s)

pub equal_digits : (n a b : ℕ) → a < 2 ^ n → b < 2 ^ n → ((p : ℕ) → p < n → bit_at a p ≡ bit_at b p) → a ≡ b
equal_digits zero a b ha hb h = lt-one ha ∙ sym (lt-one hb)
equal_digits (suc n) a b ha hb h =
    by_digits
    (equal_digits n (a / 2) (b / 2) (omega (arith, pow-suc 2 n)) (omega (arith, pow-suc 2 n))
    (λ p l. half_bit a p ∙ h (suc p) (omega arith) ∙ sym (half_bit b p)))
    (omega (arith, h 0 (omega arith)))
