-- Words of ones, and words exclusive-ored, in their parts. Assumes nothing.
use mathlib.Core.Path.{◌≡◌, ap, ap₂, ◌∙◌}
use mathlib.Core.Bool.{false}
use mathlib.Core.Logic.{⊎_elim}
use Prim.Native.Nat.{ℕ, ◌+◌, ◌-◌, ◌*◌, ◌/◌, ◌%◌, ◌^◌, ◌≤◌, ◌<◌, min}
use native.Mathlib.Nat.{mod-eq_of_lt, div-eq_of_lt}
use native.Mathlib.Omega.{arith}
use lib.Bits.{bit_xor, xor_mod, xor_shr}
use lib.Pow.{pow_pos, pow-add, pow_mono, high, low}
use Rattle.parity.proofs.Ones.{below_or_not}
use Rattle.word.specs.declared.Word.{Word}
use Rattle.word.specs.Word.{as_number, in_parts, stray_in}
use Rattle.word.proofs.Strays.{data_fits}
use Rattle.mending.proofs.Parts.{parts_of_number}
use Rattle.finder.specs.Finder.{every_place, agreeing, xor_words}

-- n ones are k ones and, k places up, n - k
cut : (n k : ℕ) → k ≤ n → every_place n ≡ every_place (n - k) * 2 ^ k + every_place k
cut n k h =
    let q : every_place (n - k) + 1 ≡ 2 ^ (n - k) = omega (arith, pow_pos (n - k)) in
    let s : n - k + k ≡ n = omega arith in
    omega (arith, ap (λ (x : ℕ). x * 2 ^ k) q, pow-add 2 (n - k) k, ap (λ (m : ℕ). 2 ^ m) s, pow_pos k)

pub every_fits : (k : ℕ) → every_place k < 2 ^ k
every_fits k = omega (arith, pow_pos k)

module _ (n k : ℕ) (h : k ≤ n) where
  every_low : every_place n % 2 ^ k ≡ every_place k
  every_low = ap (λ (x : ℕ). x % 2 ^ k) (cut n k h) ∙ low (every_place (n - k)) k (every_fits k)

  pub every_high : every_place n / 2 ^ k ≡ every_place (n - k)
  every_high = ap (λ (x : ℕ). x / 2 ^ k) (cut n k h) ∙ high (every_place (n - k)) k (every_fits k)

  -- up to 64 data places the high half is empty
  pub every_narrow : k ≤ 64 → in_parts k (every_place n) ≡ record { low = every_place k; high = 0; check = every_place (n - k) }
  every_narrow l =
      let fits : every_place k < 2 ^ 64 = omega (arith, every_fits k, pow_mono {i = k} {j = 64} l) in
      let a = ap (λ (x : ℕ). x % 2 ^ 64) every_low ∙ mod-eq_of_lt fits in
      let b = ap (λ (x : ℕ). x / 2 ^ 64) every_low ∙ div-eq_of_lt fits in
      λ i. record { low = a i; high = b i; check = every_high i }

  pub every_wide : 64 ≤ k
      → in_parts k (every_place n) ≡ record { low = every_place 64; high = every_place (k - 64); check = every_place (n - k) }
  every_wide l =
      let a = ap (λ (x : ℕ). x % 2 ^ 64) every_low ∙ halves-low in
      let b = ap (λ (x : ℕ). x / 2 ^ 64) every_low ∙ halves-high in
      λ i. record { low = a i; high = b i; check = every_high i }
    where
      halves-low : every_place k % 2 ^ 64 ≡ every_place 64
      halves-low = ap (λ (x : ℕ). x % 2 ^ 64) (cut k 64 l) ∙ low (every_place (k - 64)) 64 (every_fits 64)

      halves-high : every_place k / 2 ^ 64 ≡ every_place (k - 64)
      halves-high = ap (λ (x : ℕ). x / 2 ^ 64) (cut k 64 l) ∙ high (every_place (k - 64)) 64 (every_fits 64)

  pub every_parts : in_parts k (every_place n)
      ≡ record { low = every_place (min k 64); high = every_place (k - 64); check = every_place (n - k) }
  every_parts =
      ⊎_elim
      (λ (l : k < 64).
      let few : k ≡ min k 64 = omega arith in
      let none : 0 ≡ k - 64 = omega arith in
      every_narrow (omega arith) ∙ (λ i. record { low = every_place (few i); high = every_place (none i); check = every_place (n - k) }))
      (λ (l : 64 ≤ k).
      let full : 64 ≡ min k 64 = omega arith in
      every_wide l ∙ (λ i. record { low = every_place (full i); high = every_place (k - 64); check = every_place (n - k) }))
      (below_or_not k 64)

-- an exclusive or in its parts
pub xor_parts_lem : (k a b : ℕ) → in_parts k (bit_xor a b) ≡ xor_words (in_parts k a) (in_parts k b)
xor_parts_lem k a b =
    let d = xor_mod a b k in
    let x = ap (λ (y : ℕ). y % 2 ^ 64) d ∙ xor_mod (a % 2 ^ k) (b % 2 ^ k) 64 in
    let y = ap (λ (y : ℕ). y / 2 ^ 64) d ∙ xor_shr (a % 2 ^ k) (b % 2 ^ k) 64 in
    λ i. record { low = x i; high = y i; check = xor_shr a b k i }

-- two words without stray bits
pub agreeing_parts : (n k : ℕ) (a b : Word) → a.low < 2 ^ 64 → b.low < 2 ^ 64 → stray_in n k a ≡ false → stray_in n k b ≡ false
    → in_parts k (agreeing n (as_number k a) (as_number k b)) ≡ xor_words (in_parts k (every_place n)) (xor_words a b)
agreeing_parts n k a b la lb ha hb =
    xor_parts_lem k (every_place n) (bit_xor (as_number k a) (as_number k b))
    ∙ ap (xor_words (in_parts k (every_place n)))
    (xor_parts_lem k (as_number k a) (as_number k b)
    ∙ ap₂ xor_words (parts_of_number k a la (data_fits n k a ha)) (parts_of_number k b lb (data_fits n k b hb)))
