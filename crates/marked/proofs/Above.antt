-- Stray bits by masks: a word has none exactly where the masks of its three parts find none. Assumes nothing.
use mathlib.Core.Path.{◌≡◌, refl, sym, ap, ap₂, ◌∙◌}
use mathlib.Core.Bool.{Bool, true, false, ◌||◌, true≢false}
use Prim.Native.Nat.{ℕ, zero, suc, ◌+◌, ◌-◌, ◌*◌, ◌/◌, ◌%◌, ◌^◌, ◌≤◌, ◌<◌}
use native.Mathlib.Nat.{suc-mul, zero-mul, div-eq_of_lt, mod-eq_of_lt, mod-lt}
use native.Mathlib.Decide.{dec_lt}
use native.Mathlib.Omega.{arith}
use borrow.Author.Tests.{lt-leb, leb-false}
use lib.Bits.{bit_or, bit_and, or_add_and, and_le_l, and_le_r, and_high, and_zero_r}
use lib.Pow.{pow_pos, pow_mono, pow-add, shr_mod, split}
use Rattle.word.specs.declared.Word.{Word}
use Rattle.word.specs.Word.{joined, strays, stray_in}
use Rattle.marks.specs.Marks.{above, stray_bits, mark_by}

pub or_none : (a b : ℕ) → bit_or a b ≡ 0 → (a ≡ 0) × (b ≡ 0)
or_none a b e = (omega (arith, e, or_add_and a b, and_le_r a b), omega (arith, e, or_add_and a b, and_le_l a b))

times_none : (x k : ℕ) → x * 2 ^ k ≡ 0 → x ≡ 0
times_none zero k e = refl
times_none (suc x) k e = absurd (omega (arith, e, suc-mul x (2 ^ k), pow_pos k))

-- ---- the bits of x from k on, of w

module _ (w x k : ℕ) (fits : x < 2 ^ w) where
  no_mask : w ≤ k → above w k ≡ 0
  no_mask h = omega (arith, pow_mono {i = w} {j = k} h)

  mask_is : k ≤ w → bit_and x (above w k) ≡ (x / 2 ^ k % 2 ^ (w - k)) * 2 ^ k
  mask_is h =
      let e : w - k + k ≡ w = omega arith in
      ap (λ (n : ℕ). bit_and x (2 ^ n - 2 ^ k)) (sym e) ∙ and_high x (w - k) k

  none_above : x < 2 ^ k → bit_and x (above w k) ≡ 0
  none_above h =
      elim (dec_lt k w) as (λ d. bit_and x (above w k) ≡ 0) [
        | yes l ↦
            mask_is (omega arith)
            ∙ ap (λ (y : ℕ). (y % 2 ^ (w - k)) * 2 ^ k) (div-eq_of_lt h)
            ∙ ap (λ (y : ℕ). y * 2 ^ k) (mod-eq_of_lt (pow_pos (w - k)))
            ∙ zero-mul (2 ^ k)
        | no l ↦ ap (bit_and x) (no_mask (omega arith)) ∙ and_zero_r x
      ]

  below_of : bit_and x (above w k) ≡ 0 → x < 2 ^ k
  below_of z =
      elim (dec_lt k w) as (λ d. x < 2 ^ k) [
        | yes l ↦
            let e : w - k + k ≡ w = omega arith in
            let f : x < 2 ^ (w - k + k) = rw e fits in
            let q = sym (shr_mod (w - k) k f) ∙ times_none (x / 2 ^ k % 2 ^ (w - k)) k (sym (mask_is (omega arith)) ∙ z) in
            omega (arith, ap (λ (y : ℕ). y * 2 ^ k) q, split x k, mod-lt x (pow_pos k))
        | no l ↦ omega (arith, pow_mono {i = w} {j = k} (omega arith))
      ]

-- ---- two halves

module _ (low high k : ℕ) (fits : low < 2 ^ 64) where
  halves_below : joined low high < 2 ^ k → (low < 2 ^ k) × (high < 2 ^ (k - 64))
  halves_below h =
      elim (dec_lt k 64) as (λ d. (low < 2 ^ k) × (high < 2 ^ (k - 64))) [
        | yes l ↦ (omega arith, omega (arith, pow_mono {i = k} {j = 64} (omega arith), pow_pos (k - 64)))
        | no l ↦
            let e : 64 + (k - 64) ≡ k = omega arith in
            (omega arith, omega (arith, h, sym (pow-add 2 64 (k - 64)) ∙ ap (λ n. 2 ^ n) e))
      ]

  below_halves : low < 2 ^ k → high < 2 ^ (k - 64) → joined low high < 2 ^ k
  below_halves l h =
      elim (dec_lt k 64) as (λ d. joined low high < 2 ^ k) [
        | yes b ↦
            let e : k - 64 ≡ 0 = omega arith in
            let one : high < 2 ^ 0 = rw e at h in
            omega arith
        | no b ↦
            let e : 64 + (k - 64) ≡ k = omega arith in
            omega (arith, h, sym (pow-add 2 64 (k - 64)) ∙ ap (λ n. 2 ^ n) e)
      ]

-- ---- a word

pub record Small (w : Word) : Type 0 where
  pub low : w.low < 2 ^ 64
  pub high : w.high < 2 ^ 64
  pub check : w.check < 2 ^ 16

module _ (n k : ℕ) (w : Word) (small : Small w) where
  neither : (a b : Bool) → (a || b) ≡ false → (a ≡ false) × (b ≡ false)
  neither true b e = absurd (true≢false e)
  neither false b e = (refl, e)

  -- a word whose mark is 0 has the syndrome 0 and nothing stray
  pub unmarked : (s : ℕ) → mark_by s w (stray_bits n k) ≡ 0 → (s ≡ 0) × (stray_in n k w ≡ false)
  unmarked s e =
      let low = bit_and w.low (above 64 k) in
      let high = bit_and w.high (above 64 (k - 64)) in
      let c = or_none (bit_or (bit_or s low) high) (bit_and w.check (above 16 (n - k))) e in
      let h = or_none (bit_or s low) high c.0 in
      let l = or_none s low h.0 in
      let bits = below_halves w.low w.high k small.low (below_of 64 w.low k small.low l.1)
      (below_of 64 w.high (k - 64) small.high h.1) in (
        l.0,
        ap₂ ◌||◌ (lt-leb (2 ^ k) (joined w.low w.high) bits)
            (lt-leb (2 ^ (n - k)) w.check (below_of 16 w.check (n - k) small.check c.1)),
      )

  -- and the other way
  pub no_mark : (s : ℕ) → s ≡ 0 → stray_in n k w ≡ false → mark_by s w (stray_bits n k) ≡ 0
  no_mark s z e =
      let f = neither (strays k (joined w.low w.high)) (strays (n - k) w.check) e in
      let b = halves_below w.low w.high k small.low (leb-false (2 ^ k) (joined w.low w.high) f.0) in
      let low = none_above 64 w.low k small.low b.0 in
      let high = none_above 64 w.high (k - 64) small.high b.1 in
      let check = none_above 16 w.check (n - k) small.check (leb-false (2 ^ (n - k)) w.check f.1) in
      ap₂ bit_or (ap₂ bit_or (ap₂ bit_or z low) high) check
