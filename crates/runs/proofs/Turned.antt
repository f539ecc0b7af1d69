-- Laws of one turned bit: of bytes, of the number that they say, and of bytes in two parts. Assumes nothing.
use mathlib.Core.Path.{◌≡◌, sym, ap, ap₂, ◌∙◌}
use mathlib.Core.List.{List, [], ◌∷◌, ◌++◌}
use Prim.Native.Nat.{ℕ, zero, suc, ◌+◌, ◌*◌, ◌-◌, ◌/◌, ◌%◌, ◌^◌, ◌<◌}
use native.Mathlib.Decide.{dec_lt}
use native.Mathlib.Nat.{suc-add, zero-add, not-suc-le-zero}
use native.Mathlib.Omega.{arith}
use lib.Bits.{bit_xor, xor_lt, xor_block, xor_zero_r}
use lib.ListN.{length, get_or, set, length-set, get_or-append}
use lib.Pow.{pow-lt, pow-add}
use lib.Seq.{set-append_left, get_or-append-add}
use Rattle.record.specs.Bytes.{number_of, bytes_of, AllBytes}
use Rattle.record.specs.Turned.{turned}
use Rattle.record.proofs.Bytes.{bytes_number}

pub length-turned : (bytes : List ℕ) (p : ℕ) → length (turned bytes p) ≡ length bytes
unfolding turned
length-turned bytes p = length-set bytes (p / 8) (bit_xor (get_or bytes (p / 8) 0) (2 ^ (p % 8)))

-- ---- bytes in two parts

pub turned-first : (a b : List ℕ) (p : ℕ) → p < 8 * length a → turned (a ++ b) p ≡ turned a p ++ b
unfolding turned
turned-first a b p h =
    let l : p / 8 < length a = omega arith in
    rw (get_or-append a b 0 (p / 8) l) (set-append_left a b (p / 8) (bit_xor (get_or a (p / 8) 0) (2 ^ (p % 8))) l)

set-append-add : (a b : List ℕ) (n v : ℕ) → set (a ++ b) (length a + n) v ≡ a ++ set b n v
set-append-add [] b n v = rw (zero-add n)
set-append-add (x ∷ a) b n v = rw (suc-add (length a) n) (ap (λ (l : List ℕ). x ∷ l) (set-append-add a b n v))

pub turned-second : (a b : List ℕ) (q : ℕ) → turned (a ++ b) (8 * length a + q) ≡ a ++ turned b q
unfolding turned
turned-second a b q =
    let i : (8 * length a + q) / 8 ≡ length a + q / 8 = omega arith in
    let j : (8 * length a + q) % 8 ≡ q % 8 = omega arith in
    rw (i, j, get_or-append-add a b (q / 8) 0) (set-append-add a b (q / 8) (bit_xor (get_or b (q / 8) 0) (2 ^ (q % 8))))

-- ---- bytes stay bytes

bytes-set : (l : List ℕ) (i v : ℕ) → AllBytes l → v < 256 → AllBytes (set l i v)
bytes-set [] i v h b k = h k
bytes-set (x ∷ xs) zero v h b zero = b
bytes-set (x ∷ xs) zero v h b (suc k) = h (suc k)
bytes-set (x ∷ xs) (suc i) v h b zero = h zero
bytes-set (x ∷ xs) (suc i) v h b (suc k) = bytes-set xs i v (λ j. h (suc j)) b k

pub bytes-turned : (bytes : List ℕ) (p : ℕ) → AllBytes bytes → AllBytes (turned bytes p)
unfolding turned
bytes-turned bytes p h =
    let old = get_or bytes (p / 8) 0 in
    bytes-set bytes (p / 8) (bit_xor old (2 ^ (p % 8))) h (xor_lt 8 old (2 ^ (p % 8)) (h (p / 8)) (pow-lt {j = 8} (omega arith)))

-- ---- the number that they say

-- digits of a number's lowest byte, and digits above it
xor_low : (x y m : ℕ) → x < 256 → y < 256 → bit_xor (x + 256 * m) y ≡ bit_xor x y + 256 * m
xor_low x y m hx hy =
    let e : x + 256 * m ≡ m * 2 ^ 8 + x = omega arith in
    let f : y ≡ 0 * 2 ^ 8 + y = omega arith in
    ap₂ bit_xor e f ∙ xor_block 8 m 0 x y hx hy ∙ omega (arith, xor_zero_r m)

xor-high : (x m n : ℕ) → x < 256 → bit_xor (x + 256 * m) (256 * n) ≡ x + 256 * bit_xor m n
xor-high x m n hx =
    let e : x + 256 * m ≡ m * 2 ^ 8 + x = omega arith in
    let f : 256 * n ≡ n * 2 ^ 8 + 0 = omega arith in
    ap₂ bit_xor e f ∙ xor_block 8 m n x 0 hx (omega arith) ∙ omega (arith, xor_zero_r x)

-- a bit of the first byte is turned, or one behind it
turned-low : (x : ℕ) (xs : List ℕ) (p : ℕ) → p < 8 → turned (x ∷ xs) p ≡ bit_xor x (2 ^ p) ∷ xs
unfolding turned
turned-low x xs p h =
    let i : p / 8 ≡ 0 = omega arith in
    let j : p % 8 ≡ p = omega arith in
    rw (i, j)

turned-high : (x : ℕ) (xs : List ℕ) (q : ℕ) → turned (x ∷ xs) (8 + q) ≡ x ∷ turned xs q
turned-high x xs q = turned-second (x ∷ []) xs q

pub number_turned : (bytes : List ℕ) (p : ℕ) → AllBytes bytes → p < 8 * length bytes
    → number_of (turned bytes p) ≡ bit_xor (number_of bytes) (2 ^ p)
unfolding number_of
number_turned [] p h l = absurd (not-suc-le-zero l)
number_turned (x ∷ xs) p h l =
    elim (dec_lt p 8) as (λ d. number_of (turned (x ∷ xs) p) ≡ bit_xor (x + 256 * number_of xs) (2 ^ p)) [
      | yes m ↦ ap number_of (turned-low x xs p m) ∙ sym (xor_low x (2 ^ p) (number_of xs) (h zero) (pow-lt {j = 8} m))
      | no m ↦
          let e : p ≡ 8 + (p - 8) = omega arith in
          let rest = number_turned xs (p - 8) (λ i. h (suc i)) (omega arith) in
          rw (e, turned-high x xs (p - 8), rest, pow-add 2 8 (p - 8)) (sym (xor-high x (number_of xs) (2 ^ (p - 8)) (h zero)))
    ]

-- and the bytes of that number
pub turned_number : (d : ℕ) (bytes : List ℕ) (p : ℕ) → AllBytes bytes → length bytes ≡ d → p < 8 * d
    → turned bytes p ≡ bytes_of d (bit_xor (number_of bytes) (2 ^ p))
turned_number d bytes p h e l =
    sym (bytes_number d (turned bytes p) (bytes-turned bytes p h) (length-turned bytes p ∙ e))
    ∙ ap (bytes_of d) (number_turned bytes p h (omega arith))
