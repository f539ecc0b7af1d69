-- One column more: a table of the first i columns becomes one of i + 1. And lists whose columns are alike. Assumes nothing.
use mathlib.Core.Path.{◌≡◌, refl, sym, ap, ap₂, ◌∙◌}
use mathlib.Core.Bool.{Bool, true, false}
use mathlib.Core.List.{List, [], ◌∷◌, ◌++◌}
use Prim.Native.Nat.{ℕ, zero, suc, ◌+◌, ◌/◌, ◌%◌, ◌^◌, ◌<◌}
use native.Mathlib.Nat.{pow-suc}
use native.Mathlib.Omega.{arith}
use lib.Bits.{bit_xor, xor_zero_r}
use lib.ListN.{get_or, take, drop}
use lib.Seq.{get_or-drop}
use Rattle.columns.specs.Mix.{mix, taken, column}
use Rattle.parity.proofs.Xor.{xor_assoc}
use Rattle.tables.specs.Tables.{up_to, byte_table}
use Rattle.tables.proofs.UpTo.{doubled, up_to_alike}

-- the word without its place, and with it
mix_without : (i : ℕ) (l : List ℕ) (a : ℕ) → a < 2 ^ i → mix (take (suc i) l) a ≡ mix (take i l) a
unfolding mix
mix_without zero [] a h = refl
mix_without zero (c ∷ l) a h = let z : a ≡ 0 = omega arith in ap (λ (x : ℕ). bit_xor (taken (x % 2) c) 0) z
mix_without (suc i) [] a h = refl
mix_without (suc i) (c ∷ l) a h = ap (bit_xor (taken (a % 2) c)) (mix_without i l (a / 2) (omega (arith, pow-suc 2 i)))

mix-with : (i : ℕ) (l : List ℕ) (a : ℕ) → a < 2 ^ i → mix (take (suc i) l) (2 ^ i + a) ≡ bit_xor (mix (take i l) a) (column l i)
unfolding mix
mix-with zero [] a h = refl
mix-with zero (c ∷ l) a h = ap (λ (x : ℕ). bit_xor (taken (x % 2) c) 0) one ∙ xor_zero_r c
  where
    one : 2 ^ 0 + a ≡ 1
    one = omega arith
mix-with (suc i) [] a h = refl
mix-with (suc i) (c ∷ l) a h =
    ap₂ (λ (d e : ℕ). bit_xor (taken d c) (mix (take (suc i) l) e)) low high
    ∙ ap (bit_xor (taken (a % 2) c)) (mix-with i l (a / 2) (omega (arith, pow-suc 2 i)))
    ∙ sym (xor_assoc (taken (a % 2) c) (mix (take i l) (a / 2)) (column l i))
  where
    low : (2 ^ suc i + a) % 2 ≡ a % 2
    low = omega (arith, pow-suc 2 i)

    high : (2 ^ suc i + a) / 2 ≡ 2 ^ i + a / 2
    high = omega (arith, pow-suc 2 i)

-- a table of the first i columns becomes one of i + 1
pub one_more : (l : List ℕ) (i n : ℕ) (t u : List ℕ) → n ≡ 2 ^ i → take n t ≡ up_to (mix (take i l)) n
    → take (n + n) u ≡ take n t ++ up_to (λ j. bit_xor (get_or t j 0) (column l i)) n → take (n + n) u ≡ up_to (mix (take (suc i) l)) (n + n)
one_more l i n t u p e w =
    doubled (mix (take i l)) (mix (take (suc i) l)) (column l i) n t u e w
    (λ j h. mix_without i l j (omega arith))
    (λ j h. ap (λ (x : ℕ). mix (take (suc i) l) (x + j)) p ∙ mix-with i l j (omega arith))

-- ---- lists with the same columns, where a column past the end is 0

taken_none : (d : ℕ) → taken d 0 ≡ 0
taken_none zero = refl
taken_none (suc d) = refl

-- the first column apart, also where there is none
mix_first : (n : ℕ) (l : List ℕ) (w : ℕ)
    → mix (take (suc n) l) w ≡ bit_xor (taken (w % 2) (column l 0)) (mix (take n (drop 1 l)) (w / 2))
unfolding mix
mix_first zero [] w = ap (λ (x : ℕ). bit_xor x 0) (sym (taken_none (w % 2)))
mix_first (suc n) [] w = ap (λ (x : ℕ). bit_xor x 0) (sym (taken_none (w % 2)))
mix_first n (c ∷ l) w = refl

mix_alike : (n : ℕ) (l m : List ℕ) → ((i : ℕ) → i < n → column l i ≡ column m i) → (w : ℕ) → mix (take n l) w ≡ mix (take n m) w
mix_alike zero l m e w = refl
mix_alike (suc n) l m e w =
    mix_first n l w
    ∙ ap₂ (λ (c x : ℕ). bit_xor (taken (w % 2) c) x) (e 0 (omega arith))
    (mix_alike n (drop 1 l) (drop 1 m) (λ i h. get_or-drop 1 l i 0 ∙ e (1 + i) (omega arith) ∙ sym (get_or-drop 1 m i 0)) (w / 2))
    ∙ sym (mix_first n m w)

pub byte_alike : (h : Bool) (l m : List ℕ) → ((i : ℕ) → i < 8 → column l i ≡ column m i) → byte_table h l ≡ byte_table h m
byte_alike true l m e =
    ap₂ ◌++◌
    (up_to_alike (mix (take 4 l)) (mix (take 4 m)) 16 (λ w _. mix_alike 4 l m (λ i h. e i (omega arith)) w))
    (up_to_alike (mix (take 4 (drop 4 l))) (mix (take 4 (drop 4 m))) 16
    (λ w _. mix_alike 4 (drop 4 l) (drop 4 m) (λ i h. get_or-drop 4 l i 0 ∙ e (4 + i) (omega arith) ∙ sym (get_or-drop 4 m i 0)) w))
byte_alike false l m e = up_to_alike (mix (take 8 l)) (mix (take 8 m)) 256 (λ w _. mix_alike 8 l m e w)
