-- Laws of numbers in decimal: the last digit stands behind the others, how many there are, and that they say the number. Assumes nothing.
use mathlib.Core.Path.{◌≡◌, refl, ap, ◌∙◌}
use mathlib.Core.Bool.{cond}
use mathlib.Core.List.{List, [], ◌∷◌, ◌++◌}
use Prim.Native.Nat.{ℕ, zero, suc, ◌+◌, ◌-◌, ◌*◌, ◌/◌, ◌%◌, ◌^◌, ◌≤◌, ◌<◌}
use native.Mathlib.Decide.{dec_lt}
use native.Mathlib.Omega.{arith}
use borrow.Author.Tests.{lt-ltb, le-ltb}
use lib.Dec.{ltb}
use lib.ListN.{length, length-append}
use Rattle.report.specs.Text.{digit, decimal_in, decimal_of, said_from}

-- where there is room for every digit, more room changes nothing
enough : (m k n : ℕ) → n ≤ m → n ≤ k → decimal_in m n ≡ decimal_in k n
unfolding decimal_in
enough zero zero n g h = refl
enough zero (suc k) n g h = let e : n ≡ 0 = omega arith in rw e
enough (suc m) zero n g h = let e : n ≡ 0 = omega arith in rw e
enough (suc m) (suc k) n g h =
    ap (λ (l : List ℕ). cond (ltb n 10) (digit n ∷ []) (l ++ (digit (n % 10) ∷ []))) (enough m k (n / 10) (omega arith) (omega arith))

pub decimal_one : (n : ℕ) → n < 10 → decimal_of n ≡ digit n ∷ []
unfolding decimal_of decimal_in
decimal_one zero h = refl
decimal_one (suc m) h = simp (lt-ltb _ _ h)

pub decimal_more : (n : ℕ) → 10 ≤ n → decimal_of n ≡ decimal_of (n / 10) ++ (digit (n % 10) ∷ [])
unfolding decimal_of decimal_in
decimal_more zero h = absurd (omega arith)
decimal_more (suc m) h =
    simp (le-ltb _ _ h) (ap (λ (l : List ℕ). l ++ (digit (suc m % 10) ∷ []))
    (enough m (suc m / 10) (suc m / 10) (omega arith) (omega arith)))

pub length_more : (n : ℕ) → 10 ≤ n → length (decimal_of n) ≡ length (decimal_of (n / 10)) + 1
length_more n h = ap length (decimal_more n h) ∙ length-append (decimal_of (n / 10)) (digit (n % 10) ∷ [])

-- a number below 10 ^ (k + 1) has at most k + 1 digits
pub decimal_short : (k n : ℕ) → n < 10 ^ suc k → length (decimal_of n) ≤ suc k
decimal_short zero n h = rw (decimal_one n h) (omega arith)
decimal_short (suc k) n h =
    elim (dec_lt n 10) as (λ d. length (decimal_of n) ≤ suc (suc k)) [
      | yes l ↦ rw (decimal_one n l) (omega arith)
      | no l ↦ omega (arith, length_more n (omega arith), decimal_short k (n / 10) (omega arith))
    ]

said_last : (a d : ℕ) (ds : List ℕ) → said_from a (ds ++ (digit d ∷ [])) ≡ said_from a ds * 10 + d
unfolding said_from
said_last a d [] = omega arith
said_last a d (e ∷ ds) = said_last (a * 10 + (e - digit 0)) d ds

-- the digits of n say n
said_in : (m n : ℕ) → n ≤ m → said_from 0 (decimal_in m n) ≡ n
unfolding decimal_in said_from
said_in zero n h = omega arith
said_in (suc m) n h =
    elim (dec_lt n 10) as (λ d. said_from 0 (decimal_in (suc m) n) ≡ n) [
      | yes l ↦ simp (lt-ltb _ _ l) (omega arith)
      | no l ↦ simp (le-ltb n 10 (omega arith))
          (omega (arith, said_last 0 (n % 10) (decimal_in m (n / 10)), said_in m (n / 10) (omega arith)))
    ]

pub decimal_says : (n : ℕ) → said_from 0 (decimal_of n) ≡ n
unfolding decimal_of
decimal_says n = said_in n n (omega arith)
