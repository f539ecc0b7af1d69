-- A word in parts: the columns of the low places, and those of the others. Cites the laws of crate columns. Assumes nothing.
use mathlib.Core.Path.{◌≡◌, refl, sym, ap, ap₂, ◌∙◌}
use mathlib.Core.List.{List, [], ◌∷◌}
use Prim.Native.Nat.{ℕ, zero, suc, ◌+◌, ◌-◌, ◌*◌, ◌^◌, ◌≤◌, ◌<◌}
use native.Mathlib.Nat.{le_of_suc-le-suc, not-suc-le-zero}
use native.Mathlib.Omega.{arith}
use lib.Bits.{bit_xor, xor_shifted, shifted_half, shifted_even}
use lib.ListN.{length, take, drop, length-drop, take-append-drop}
use lib.Seq.{length-take-le, take_all}
use Rattle.columns.specs.Mix.{mix, taken}
use Rattle.columns.proofs.Linear.{mix-append, mix-xor}

-- the rest of a list, with its end named as the code lends it
pub rest_all : (cs : List ℕ) (k : ℕ) → take (length cs - k) (drop k cs) ≡ drop k cs
rest_all cs k = take_all (length cs - k) (drop k cs) (omega (arith, length-drop k cs))

-- cut at place m
pub mix-cut : (cs : List ℕ) (m a b : ℕ) → m ≤ length cs → a < 2 ^ m
    → mix cs (a + 2 ^ m * b) ≡ bit_xor (mix (take m cs) a) (mix (drop m cs) b)
mix-cut cs m a b h l =
    let e : length (take m cs) ≡ m = length-take-le m cs h in
    let whole = mix-append (take m cs) (drop m cs) a b (rw e l) in
    ap (λ (l : List ℕ). mix l (a + 2 ^ m * b)) (sym (take-append-drop m cs)) ∙ (rw e at whole)

-- the same with the end of the second part named, as the code lends it
pub mix_cut_part : (cs : List ℕ) (m a b : ℕ) → m ≤ length cs → a < 2 ^ m
    → mix cs (a + 2 ^ m * b) ≡ bit_xor (mix (take m cs) a) (mix (take (length cs - m) (drop m cs)) b)
mix_cut_part cs m a b h l =
    mix-cut cs m a b h l ∙ ap (λ (l : List ℕ). bit_xor (mix (take m cs) a) (mix l b)) (sym (rest_all cs m))

-- digits past the last column give nothing
mix-high : (cs : List ℕ) (m b : ℕ) → length cs ≤ m → mix cs (b * 2 ^ m) ≡ 0
unfolding mix
mix-high [] m b h = refl
mix-high (c ∷ cs) zero b h = absurd (not-suc-le-zero h)
mix-high (c ∷ cs) (suc m) b h =
    ap₂ (λ (d w : ℕ). bit_xor (taken d c) (mix cs w)) (shifted_even b m) (shifted_half b m) ∙ mix-high cs m b (le_of_suc-le-suc h)

-- so they change nothing
pub mix_past : (cs : List ℕ) (m a b : ℕ) → length cs ≤ m → a < 2 ^ m → mix cs (a + 2 ^ m * b) ≡ mix cs a
mix_past cs m a b h l =
    let e : a + 2 ^ m * b ≡ b * 2 ^ m + a = omega arith in
    ap (mix cs) (e ∙ sym (xor_shifted b m a l)) ∙ mix-xor cs (b * 2 ^ m) a ∙ ap (λ (s : ℕ). bit_xor s (mix cs a)) (mix-high cs m b h)
