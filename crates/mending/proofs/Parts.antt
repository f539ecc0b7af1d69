-- A word in its parts and the same word as one number: there and back, and a flip of one place changes one part. Assumes nothing.
use mathlib.Core.Path.{◌≡◌, sym, ap, ap₂, ◌∙◌}
use mathlib.Core.Bool.{Bool, false, ◌||◌}
use mathlib.Core.Logic.{⊎_elim}
use Prim.Native.Nat.{ℕ, ◌+◌, ◌-◌, ◌*◌, ◌/◌, ◌%◌, ◌^◌, ◌≤◌, ◌<◌}
use native.Mathlib.Nat.{mod-eq_of_lt, div-eq_of_lt, div-add-mod', mod-lt}
use native.Mathlib.Omega.{arith}
use borrow.Author.Tests.{lt-leb}
use lib.Arith.{digits_lt}
use lib.Bits.{bit_xor, xor_mod, xor_shr, xor_zero_r}
use lib.Pow.{pow_pos, pow-lt, pow-add, high, low, shr_lt}
use Rattle.parity.proofs.Ones.{below_or_not}
use Rattle.columns.specs.Mix.{flipped}
use Rattle.word.specs.declared.Word.{Word}
use Rattle.word.specs.Word.{joined, word_of, data_of, check_of, as_number, in_parts, stray_in, flipped_in}
use Rattle.word.proofs.Handed.{flipped_check, flipped-low, flipped-high}

-- ---- two parts as one number, and back

module _ (k a b : ℕ) (fits : a < 2 ^ k) where
  pub data_of-word : data_of k (word_of k a b) ≡ a
  data_of-word = ap (λ (x : ℕ). x % 2 ^ k) swapped ∙ low b k fits
    where
      swapped : a + 2 ^ k * b ≡ b * 2 ^ k + a
      swapped = omega arith

  pub check_of-word : check_of k (word_of k a b) ≡ b
  check_of-word = ap (λ (x : ℕ). x / 2 ^ k) swapped ∙ high b k fits
    where
      swapped : a + 2 ^ k * b ≡ b * 2 ^ k + a
      swapped = omega arith

pub word_of_parts : (k w : ℕ) → word_of k (data_of k w) (check_of k w) ≡ w
word_of_parts k w = omega (arith, div-add-mod' w (2 ^ k))

pub data_fits : (k w : ℕ) → data_of k w < 2 ^ k
data_fits k w = mod-lt w (pow_pos k)

pub check_fits : (k r w : ℕ) → w < 2 ^ (k + r) → check_of k w < 2 ^ r
check_fits k r w h =
    let e : k + r ≡ r + k = omega arith in
    shr_lt r k (rw e at h)

-- both parts as one number leave no stray bit
pub word_fits : (k r a b : ℕ) → a < 2 ^ k → b < 2 ^ r → word_of k a b < 2 ^ (k + r)
word_fits k r a b ha hb = omega (arith, digits_lt {q = b} {m = 2 ^ r} {r = a} {c = 2 ^ k} hb ha, pow-add 2 k r)

-- ---- a flip below k changes the data, one from k on the check bits

module _ (k w p : ℕ) where
  pub flip_data : p < k → (data_of k (flipped w p) ≡ flipped (data_of k w) p) × (check_of k (flipped w p) ≡ check_of k w)
  flip_data h = (
    xor_mod w (2 ^ p) k ∙ ap (bit_xor (w % 2 ^ k)) (mod-eq_of_lt (pow-lt h)),
    xor_shr w (2 ^ p) k ∙ ap (bit_xor (w / 2 ^ k)) (div-eq_of_lt (pow-lt h)) ∙ xor_zero_r (w / 2 ^ k),
  )

  pub flip_check : k ≤ p → (data_of k (flipped w p) ≡ data_of k w) × (check_of k (flipped w p) ≡ flipped (check_of k w) (p - k))
  flip_check h =
      let e : 2 ^ p ≡ 2 ^ (p - k) * 2 ^ k + 0 = split in (
        xor_mod w (2 ^ p) k ∙ ap (λ (x : ℕ). bit_xor (w % 2 ^ k) (x % 2 ^ k)) e ∙ ap (bit_xor (w % 2 ^ k)) (low (2 ^ (p - k)) k (pow_pos k))
            ∙ xor_zero_r (w % 2 ^ k),
        xor_shr w (2 ^ p) k ∙ ap (λ (x : ℕ). bit_xor (w / 2 ^ k) (x / 2 ^ k)) e ∙ ap (bit_xor (w / 2 ^ k)) (high (2 ^ (p - k)) k (pow_pos k)),
      )
    where
      split : 2 ^ p ≡ 2 ^ (p - k) * 2 ^ k + 0
      split =
          let s : p ≡ (p - k) + k = omega arith in
          ap (λ (n : ℕ). 2 ^ n) s ∙ omega (arith, pow-add 2 (p - k) k)

-- ---- a word of two halves

pub joined_halves : (x : ℕ) → joined (x % 2 ^ 64) (x / 2 ^ 64) ≡ x
joined_halves x = word_of_parts 64 x

pub number_of_parts : (k w : ℕ) → as_number k (in_parts k w) ≡ w
number_of_parts k w = ap (λ (x : ℕ). word_of k x (check_of k w)) (joined_halves (data_of k w)) ∙ word_of_parts k w

pub parts_of_number : (k : ℕ) (w : Word) → w.low < 2 ^ 64 → joined w.low w.high < 2 ^ k → in_parts k (as_number k w) ≡ w
parts_of_number k w l h =
    let d = data_of-word k (joined w.low w.high) w.check h in
    let c = check_of-word k (joined w.low w.high) w.check h in
    let a = ap (λ (x : ℕ). x % 2 ^ 64) d ∙ data_of-word 64 w.low w.high l in
    let b = ap (λ (x : ℕ). x / 2 ^ 64) d ∙ check_of-word 64 w.low w.high l in
    λ i. record { low = a i; high = b i; check = c i }

-- a word of n places has no stray bit
pub parts_unstrayed : (n k w : ℕ) → k ≤ n → w < 2 ^ n → stray_in n k (in_parts k w) ≡ false
parts_unstrayed n k w h l =
    let e : n ≡ k + (n - k) = omega arith in
    let fits : w < 2 ^ (k + (n - k)) = rw e at l in
    ap₂ (λ (a b : Bool). a || b)
    (lt-leb (2 ^ k) (joined (in_parts k w).low (in_parts k w).high) (rw (joined_halves (data_of k w)) (data_fits k w)))
    (lt-leb (2 ^ (n - k)) (check_of k w) (check_fits k (n - k) w fits))

-- a flip in its parts is a flip of the number
pub flipped_parts : (k p w : ℕ) → flipped_in k p (in_parts k w) ≡ in_parts k (flipped w p)
flipped_parts k p w =
    ⊎_elim
    (λ (h : p < k).
    let f = flip_data k w p h in
    ⊎_elim
    (λ (l : p < 64).
    let g = flip_data 64 (data_of k w) p l in
    let a = sym (ap (λ (x : ℕ). x % 2 ^ 64) f.0 ∙ g.0) in
    let b = sym (ap (λ (x : ℕ). x / 2 ^ 64) f.0 ∙ g.1) in
    flipped-low k p (in_parts k w) h l ∙ (λ i. record { low = a i; high = b i; check = sym f.1 i }))
    (λ (l : 64 ≤ p).
    let g = flip_check 64 (data_of k w) p l in
    let a = sym (ap (λ (x : ℕ). x % 2 ^ 64) f.0 ∙ g.0) in
    let b = sym (ap (λ (x : ℕ). x / 2 ^ 64) f.0 ∙ g.1) in
    flipped-high k p (in_parts k w) h l ∙ (λ i. record { low = a i; high = b i; check = sym f.1 i }))
    (below_or_not p 64))
    (λ (h : k ≤ p).
    let f = flip_check k w p h in
    let a = sym (ap (λ (x : ℕ). x % 2 ^ 64) f.0) in
    let b = sym (ap (λ (x : ℕ). x / 2 ^ 64) f.0) in
    flipped_check k p (in_parts k w) h ∙ (λ i. record { low = a i; high = b i; check = sym f.1 i }))
    (below_or_not p k)
