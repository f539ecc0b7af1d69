-- Numbers as bytes, there and back, and two runs of bytes one behind the other. Assumes nothing.
use mathlib.Core.Path.{◌≡◌, refl, sym, ap, ap₂, ◌∙◌}
use mathlib.Core.List.{List, [], ◌∷◌, ◌++◌}
use Prim.Native.Nat.{ℕ, zero, suc, ◌+◌, ◌*◌, ◌/◌, ◌^◌, ◌≤◌, ◌<◌}
use native.Mathlib.Nat.{mul_assoc}
use native.Mathlib.Omega.{arith}
use lib.ListN.{length, take, drop, length-drop, take-append-drop}
use lib.Pow.{pow-add}
use lib.Seq.{take_all, take_at, drop_at, length-take-le}
use Rattle.record.specs.Bytes.{number_of, bytes_of, byte_span, AllBytes}
use Rattle.record.proofs.Bytes.{length-bytes_of, bytes_drop, bytes_number}
use Rattle.record.proofs.Over.{part_length}

-- ---- parts of bytes are bytes

pub bytes_take : (n : ℕ) (l : List ℕ) → AllBytes l → AllBytes (take n l)
bytes_take zero [] h i = h i
bytes_take zero (x ∷ xs) h i = omega arith
bytes_take (suc n) [] h i = h i
bytes_take (suc n) (x ∷ xs) h zero = h zero
bytes_take (suc n) (x ∷ xs) h (suc i) = bytes_take n xs (λ k. h (suc k)) i

pub bytes-part : (a k : ℕ) (l : List ℕ) → AllBytes l → AllBytes (take k (drop a l))
bytes-part a k l h = bytes_take k (drop a l) (bytes_drop a l h)

-- ---- there and back

pub number_bytes : (n v : ℕ) → v < byte_span n → number_of (bytes_of n v) ≡ v
unfolding number_of bytes_of byte_span
number_bytes zero v h = omega arith
number_bytes (suc n) v h = omega (arith, number_bytes n (v / 256) (omega arith))

-- fewer bytes than a number has say a smaller one
pub number_least : (n v : ℕ) → number_of (bytes_of n v) ≤ v
unfolding number_of bytes_of
number_least zero v = omega arith
number_least (suc n) v = omega (arith, number_least n (v / 256))

pub byte_span_power : (n : ℕ) → byte_span n ≡ 2 ^ (8 * n)
unfolding byte_span
byte_span_power zero = refl
byte_span_power (suc n) =
    let e : 8 + 8 * n ≡ 8 * suc n = omega arith in
    ap (λ (s : ℕ). 256 * s) (byte_span_power n) ∙ sym (pow-add 2 8 (8 * n)) ∙ ap (λ (k : ℕ). 2 ^ k) e

-- ---- two runs of bytes, one behind the other

pub number_append : (a b : List ℕ) → number_of (a ++ b) ≡ number_of a + byte_span (length a) * number_of b
unfolding number_of byte_span
number_append [] b = omega arith
number_append (x ∷ a) b =
    omega (arith, number_append a b, mul_assoc 256 (byte_span (length a)) (number_of b))

-- bytes are those of the two numbers that they say
pub two_numbers : (d c : ℕ) (l : List ℕ) → AllBytes l → length l ≡ d + c
    → bytes_of d (number_of (take d l)) ++ bytes_of c (number_of (take c (drop d l))) ≡ l
two_numbers d c l h e =
    let short : length (drop d l) ≤ c = simp length-drop (omega arith) in
    ap₂ (λ p q. p ++ q)
    (bytes_number d (take d l) (bytes_take d l h) (length-take-le d l (omega arith)))
    (bytes_number c (take c (drop d l)) (bytes-part d c l h) (part_length d c l (omega arith)) ∙ take_all c (drop d l) short)
    ∙ take-append-drop d l

pub first_number : (d v : ℕ) (rest : List ℕ) → v < byte_span d → number_of (take d (bytes_of d v ++ rest)) ≡ v
first_number d v rest h = ap number_of (take_at (bytes_of d v) rest d (length-bytes_of d v)) ∙ number_bytes d v h

pub second_number : (d c v w : ℕ) → w < byte_span c → number_of (take c (drop d (bytes_of d v ++ bytes_of c w))) ≡ w
second_number d c v w h =
    let short : length (bytes_of c w) ≤ c = omega (arith, length-bytes_of c w) in
    ap number_of (ap (take c) (drop_at (bytes_of d v) (bytes_of c w) d (length-bytes_of d v)) ∙ take_all c (bytes_of c w) short)
    ∙ number_bytes c w h
