-- Stray bits of a number of two halves; a word under the n columns. Assumes nothing.
use mathlib.Core.Path.{◌≡◌, refl, sym, ap, ◌∙◌}
use mathlib.Core.Bool.{Bool, true, false, ◌||◌, true≢false}
use mathlib.Core.List.{List}
use Prim.Native.Nat.{ℕ, ◌+◌, ◌-◌, ◌*◌, ◌/◌, ◌^◌, ◌≤◌, ◌<◌}
use native.Mathlib.Nat.{div-eq_of_lt, le-div_iff_mul-le}
use native.Mathlib.Omega.{arith}
use borrow.Author.Tests.{leb-true, leb-false, le-leb, lt-ltb, le-ltb}
use lib.Dec.{ltb}
use lib.ListN.{length}
use lib.Pow.{pow_pos, pow_mono, high, shr-shr}
use Rattle.columns.specs.Mix.{mix}
use Rattle.parity.specs.Odd.{odd_in}
use Rattle.word.specs.declared.Word.{Word}
use Rattle.verdict.specs.declared.Verdict.TheVariants.{Stray}
use Rattle.word.specs.Word.{joined, as_number, strays, stray_in}
use Rattle.verdict.specs.Verdicts.{verdict_on}
use Rattle.word.specs.Verdicts.{read_in, syndrome_in}

-- what is left after moving down by the width
stray_shift : (width bits : ℕ) → ltb 0 (bits / 2 ^ width) ≡ strays width bits
stray_shift width bits = go (strays width bits) refl
  where
    go : (b : Bool) → strays width bits ≡ b → ltb 0 (bits / 2 ^ width) ≡ b
    go true e = lt-ltb 0 (bits / 2 ^ width) ((le-div_iff_mul-le (pow_pos width)).1 (omega (arith, leb-true (2 ^ width) bits e)))
    go false e = le-ltb 0 (bits / 2 ^ width) (omega (arith, div-eq_of_lt (leb-false (2 ^ width) bits e)))

module _ (low top width : ℕ) (fits : low < 2 ^ 64) where
  -- from 64 on the high half decides
  pub stray_high : 64 ≤ width → ltb 0 (top / 2 ^ (width - 64)) ≡ strays width (joined low top)
  stray_high l =
      let swap : joined low top ≡ top * 2 ^ 64 + low = omega arith in
      let half : joined low top / 2 ^ 64 ≡ top = ap (λ (x : ℕ). x / 2 ^ 64) swap ∙ high top 64 fits in
      let w : 64 + (width - 64) ≡ width = omega arith in
      let moved : top / 2 ^ (width - 64) ≡ joined low top / 2 ^ width =
      ap (λ (x : ℕ). x / 2 ^ (width - 64)) (sym half) ∙ shr-shr (joined low top) 64 (width - 64)
      ∙ ap (λ (x : ℕ). joined low top / 2 ^ x) w in
      ap (ltb 0) moved ∙ stray_shift width (joined low top)

  -- 128 bits have none at 128 or above
  pub stray_none : top < 2 ^ 64 → 128 ≤ width → strays width (joined low top) ≡ false
  stray_none h l =
      let b = pow_mono {i = 64} {j = width - 64} (omega arith) in
      let z : top / 2 ^ (width - 64) ≡ 0 = div-eq_of_lt (omega arith) in
      sym (stray_high (omega arith)) ∙ le-ltb 0 (top / 2 ^ (width - 64)) (omega arith)

  -- below 64 a bit of the high half is stray
  pub stray_over : width < 64 → 0 < top → strays width (joined low top) ≡ true
  stray_over l h = le-leb (2 ^ width) (joined low top) (omega (arith, pow_mono {i = width} {j = 64} (omega arith)))

  -- below 64, with nothing in the high half, the low half decides
  pub stray_low : top ≤ 0 → ltb 0 (low / 2 ^ width) ≡ strays width (joined low top)
  stray_low h = let e : low ≡ joined low top = omega arith in stray_shift width low ∙ ap (strays width) e

-- ---- a word under the n columns

-- nothing is stray in it, so nothing in its data
pub data_fits : (n k : ℕ) (w : Word) → stray_in n k w ≡ false → joined w.low w.high < 2 ^ k
data_fits n k w = go (strays k (joined w.low w.high)) refl
  where
    go : (b : Bool) → strays k (joined w.low w.high) ≡ b → (b || strays (n - k) w.check) ≡ false
        → joined w.low w.high < 2 ^ k
    go true e h = absurd (true≢false h)
    go false e h = leb-false (2 ^ k) (joined w.low w.high) e

module _ (rows : ℕ) (cs : List ℕ) (k : ℕ) (w : Word) where
  pub in_stray : stray_in (length cs) k w ≡ true → read_in rows cs k w ≡ Stray
  unfolding read_in
  in_stray h = simp h

  pub no_syndrome : stray_in (length cs) k w ≡ true → syndrome_in cs k w ≡ 0
  unfolding syndrome_in
  no_syndrome h = simp h

  pub in_syndrome : stray_in (length cs) k w ≡ false → syndrome_in cs k w ≡ mix cs (as_number k w)
  unfolding syndrome_in
  in_syndrome h = simp h

  pub in_verdict : stray_in (length cs) k w ≡ false → read_in rows cs k w ≡ verdict_on (odd_in rows) cs k (mix cs (as_number k w))
  unfolding read_in
  in_verdict h = simp h
