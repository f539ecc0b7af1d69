-- The word that is written: its data bits, its parts, and that it is the only clean word with them. Assumes nothing.
use mathlib.Core.Path.{◌≡◌, refl, sym, ap, ap₂, ◌∙◌}
use Prim.Native.Nat.{ℕ, zero, suc, ◌+◌, ◌*◌, ◌/◌, ◌%◌, ◌^◌, ◌≤◌, ◌<◌}
use native.Mathlib.Omega.{arith}
use lib.Bits.{bit_xor, xor_lt, xor_mod}
use lib.Pow.{shr-shr, shr_lt}
use Rattle.parity.proofs.Xor.{eq_of_xor_zero, xor_zero_of_eq}
use Rattle.byte_parts.specs.Vectors.{power_t}
use Rattle.byte_parts.specs.Parts.{byte_at, sum_to, data_sum, parts_of}
use Rattle.byte_code.specs.Reading.{byte_word}
use Rattle.byte_parts.proofs.Sums.{sum_lt}
use Rattle.byte_errors.specs.Steps.{NoError}
use Rattle.byte_errors.proofs.Linear.{xor_parts, three_parts, parts_xor, sum_among}
use Rattle.byte_errors.proofs.Powers.{power_none}

-- data bytes do not see the check bytes
byte_low : (w t : ℕ) → t < 7 → byte_at (w % 2 ^ 21) t ≡ byte_at w t
byte_low w zero h = omega arith
byte_low w (suc zero) h = omega arith
byte_low w (suc (suc zero)) h = omega arith
byte_low w (suc (suc (suc zero))) h = omega arith
byte_low w (suc (suc (suc (suc zero)))) h = omega arith
byte_low w (suc (suc (suc (suc (suc zero))))) h = omega arith
byte_low w (suc (suc (suc (suc (suc (suc zero)))))) h = omega arith
byte_low w (suc (suc (suc (suc (suc (suc (suc t))))))) h = absurd (omega arith)

sum_low : (step n w : ℕ) → n ≤ 7 → sum_to step n (w % 2 ^ 21) ≡ sum_to step n w
unfolding sum_to
sum_low step zero w h = refl
sum_low step (suc i) w h = ap₂ bit_xor (sum_low step i w (omega arith)) (ap (power_t (step * i)) (byte_low w i (omega arith)))

-- ---- what is written

pub written-lt : (d : ℕ) → d < 2 ^ 21 → byte_word d < 2 ^ 30
unfolding byte_word
written-lt d h = omega (arith, sum_lt 0 7 d, sum_lt 1 7 d, sum_lt 2 7 d)

pub written_data : (d : ℕ) → d < 2 ^ 21 → byte_word d % 2 ^ 21 ≡ d
unfolding byte_word
written_data d h = omega arith

written_check : (d : ℕ) → d < 2 ^ 21
    → (byte_at (byte_word d) 7 ≡ data_sum 0 d) × (byte_at (byte_word d) 8 ≡ data_sum 1 d) × (byte_at (byte_word d) 9 ≡ data_sum 2 d)
unfolding byte_word
written_check d h =
    let a = sum_lt 0 7 d in
    let b = sum_lt 1 7 d in
    let c = sum_lt 2 7 d in
    (omega arith, omega arith, omega arith)

-- its three parts are zero
pub written_parts : (d : ℕ) → d < 2 ^ 21 → parts_of (byte_word d) ≡ three_parts 0 0 0
unfolding parts_of
written_parts d h =
    let c = written_check d h in
    rw (part 0 7 c.0, part 1 8 c.1, part 2 9 c.2)
  where
    part : (step t : ℕ) → byte_at (byte_word d) t ≡ data_sum step d → bit_xor (data_sum step (byte_word d)) (byte_at (byte_word d) t) ≡ 0
    part step t e =
        let same = sym (sum_low step 7 (byte_word d) (omega arith)) ∙ ap (data_sum step) (written_data d h) in
        xor_zero_of_eq (data_sum step (byte_word d)) (byte_at (byte_word d) t) (same ∙ sym e)

-- a word is its data bits and its three check bytes
in_parts_lem : (w : ℕ) → w < 2 ^ 30 → w % 2 ^ 21 + 2 ^ 21 * byte_at w 7 + 2 ^ 24 * byte_at w 8 + 2 ^ 27 * byte_at w 9 ≡ w
in_parts_lem w h =
    let a : w / 2 ^ 21 / 8 ≡ w / 2 ^ 24 = shr-shr w 21 3 in
    let b : w / 2 ^ 24 / 8 ≡ w / 2 ^ 27 = shr-shr w 24 3 in
    let c : w / 2 ^ 27 < 8 = shr_lt 3 27 h in
    let d : w % 2 ^ 21 + 2 ^ 21 * (w / 2 ^ 21) ≡ w = omega arith in
    tops (w % 2 ^ 21) (w / 2 ^ 21) (w / 2 ^ 24) (w / 2 ^ 27) a b c ∙ d
  where
    tops : (low x y z : ℕ) → x / 8 ≡ y → y / 8 ≡ z → z < 8 → low + 2 ^ 21 * (x % 8) + 2 ^ 24 * (y % 8) + 2 ^ 27 * (z % 8) ≡ low + 2 ^ 21 * x
    tops low x y z a b c = omega arith

pub zero_parts : (w : ℕ) → parts_of w ≡ three_parts 0 0 0 → NoError (parts_of w)
zero_parts w e = record { first = ap (λ s. s.first) e; second = ap (λ s. s.second) e; third = ap (λ s. s.third) e }

-- and no other word with these data bits is clean
pub clean_written : (w : ℕ) → w < 2 ^ 30 → NoError (parts_of w) → byte_word (w % 2 ^ 21) ≡ w
unfolding byte_word parts_of
clean_written w h z =
    let a = part 0 7 z.first in
    let b = part 1 8 z.second in
    let c = part 2 9 z.third in
    omega (arith, in_parts_lem w h)
  where
    part : (step t : ℕ) → bit_xor (data_sum step w) (byte_at w t) ≡ 0 → data_sum step (w % 2 ^ 21) ≡ byte_at w t
    part step t e = sum_low step 7 w (omega arith) ∙ eq_of_xor_zero (data_sum step w) (byte_at w t) e

pub written_clean : (w : ℕ) → byte_word (w % 2 ^ 21) ≡ w → parts_of w ≡ three_parts 0 0 0
written_clean w e = ap parts_of (sym e) ∙ written_parts (w % 2 ^ 21) (omega arith)

-- ---- data by data

-- data in one byte
pub written_byte : (i v : ℕ) → i < 7 → v < 8
    → byte_word (v * 2 ^ (3 * i)) ≡ v * 2 ^ (3 * i) + 2 ^ 21 * v + 2 ^ 24 * power_t i v + 2 ^ 27 * power_t (2 * i) v
unfolding byte_word
written_byte i v l h =
    let z : 0 * i ≡ 0 = omega arith in
    let o : 1 * i ≡ i = omega arith in
    rw (
      sum_among 0 7 v i h l ∙ ap (λ (n : ℕ). power_t n v) z ∙ power_none v,
      sum_among 1 7 v i h l ∙ ap (λ (n : ℕ). power_t n v) o,
      sum_among 2 7 v i h l,
    )

-- and sums of data
pub written-xor : (d e : ℕ) → d < 2 ^ 21 → e < 2 ^ 21 → byte_word (bit_xor d e) ≡ bit_xor (byte_word d) (byte_word e)
written-xor d e h k =
    let w = bit_xor (byte_word d) (byte_word e) in
    let zero : parts_of w ≡ three_parts 0 0 0 = parts_xor (byte_word d) (byte_word e) ∙ ap₂ xor_parts (written_parts d h) (written_parts e k) in
    let low : w % 2 ^ 21 ≡ bit_xor d e = xor_mod (byte_word d) (byte_word e) 21 ∙ ap₂ bit_xor (written_data d h) (written_data e k) in
    ap byte_word (sym low) ∙ clean_written w (xor_lt 30 (byte_word d) (byte_word e) (written-lt d h) (written-lt e k)) (zero_parts w zero)
