-- Demand 2 for one word under sound columns: clean exactly when the syndrome is 0, one flip named and put right, two flagged, and what is
-- not mended cannot be by one flip. Words are numbers of n places. Over any family, any k and any r. Assumes nothing.
use mathlib.Core.Path.{◌≡◌, refl, sym, ap, subst, ◌∙◌}
use mathlib.Core.Logic.{◌≢◌, ◌↔◌}
use mathlib.Core.List.{List}
use Prim.Native.Nat.{ℕ, ◌^◌, ◌≤◌, ◌<◌}
use native.Mathlib.Omega.{arith}
use lib.ListN.{length}
use Rattle.parity.specs.Odd.{odd_in}
use Rattle.parity.proofs.Xor.{eq_of_xor_zero, xor_zero_of_eq}
use Rattle.columns.specs.Mix.{column, mix, flipped}
use Rattle.columns.specs.Sound.{Sound}
use Rattle.columns.proofs.Linear.{mix_flip}
use Rattle.columns.proofs.Errors.{one_flip, two-flagged}
use Rattle.verdict.specs.declared.Verdict.{Verdict}
use Rattle.verdict.specs.declared.Verdict.TheVariants.{Clean, Data, Check, Even, Odd, Stray}
use Rattle.word.specs.Word.{in_parts}
use Rattle.verdict.specs.Verdicts.{verdict_on}
use Rattle.word.specs.Verdicts.{read_in}
use Rattle.reading.specs.Reading.{mended_by}
use Rattle.word.proofs.Strays.{in_verdict}
use Rattle.verdict.proofs.Exactly.{RowOf, verdict_row, row_data, row-check, row_even}
use Rattle.mending.proofs.Parts.{number_of_parts, parts_unstrayed, flipped_parts}

-- the word handed back, as one number
abbrev pub mended_number : Verdict → ℕ → ℕ
mended_number Clean w = w
mended_number (Data p) w = flipped w p
mended_number (Check p) w = flipped w p
mended_number Even w = w
mended_number Odd w = w
mended_number Stray w = w

pub mended_parts : (v : Verdict) (k w : ℕ) → mended_by v k (in_parts k w) ≡ in_parts k (mended_number v w)
mended_parts Clean k w = refl
mended_parts (Data p) k w = flipped_parts k p w
mended_parts (Check p) k w = flipped_parts k p w
mended_parts Even k w = refl
mended_parts Odd k w = refl
mended_parts Stray k w = refl

-- the verdict on a word without stray bits is the verdict on its syndrome
pub read_number : (rows : ℕ) (cs : List ℕ) (k w : ℕ) → k ≤ length cs → w < 2 ^ length cs
    → read_in rows cs k (in_parts k w) ≡ verdict_on (odd_in rows) cs k (mix cs w)
read_number rows cs k w h l =
    in_verdict rows cs k (in_parts k w) (parts_unstrayed (length cs) k w h l)
    ∙ ap (λ (x : ℕ). verdict_on (odd_in rows) cs k (mix cs x)) (number_of_parts k w)

module _ (rows : ℕ) {cs : List ℕ} {k r : ℕ} (sound : Sound (odd_in rows) cs k r) where
  pub data_inside : k ≤ length cs
  data_inside = let n = sound.size in omega arith

  abbrev verdict_at : ℕ → Verdict
  verdict_at w = verdict_on (odd_in rows) cs k (mix cs w)

  row_at : (w : ℕ) → RowOf rows cs k data_inside sound.good (mix cs w) (verdict_at w)
  row_at w = verdict_row rows cs k data_inside sound.good (mix cs w)

  -- a flip makes the syndrome 0 exactly where its column is the syndrome
  pub mends_exactly : (w p : ℕ) → p < length cs → (mix cs (flipped w p) ≡ 0) ↔ (column cs p ≡ mix cs w)
  mends_exactly w p h = (
    λ z. sym (eq_of_xor_zero (mix cs w) (column cs p) (sym (mix_flip cs w p h) ∙ z)),
    λ e. mix_flip cs w p h ∙ xor_zero_of_eq (mix cs w) (column cs p) (sym e),
  )

  -- ---- from a word of syndrome 0

  module _ (w : ℕ) (clean : mix cs w ≡ 0) where
    pub one-flip-data : (p : ℕ) → p < k → verdict_at (flipped w p) ≡ Data p
    one-flip-data p h =
        let l : p < length cs = omega (arith, data_inside) in
        row_data rows cs k data_inside sound.good (mix cs (flipped w p)) p l (sym (one_flip cs w p clean l)) h

    pub one-flip-check : (p : ℕ) → k ≤ p → p < length cs → verdict_at (flipped w p) ≡ Check p
    one-flip-check p h l = row-check rows cs k data_inside sound.good (mix cs (flipped w p)) p l (sym (one_flip cs w p clean l)) h

    pub two-flips-even : (p q : ℕ) → p < length cs → q < length cs → p ≢ q → verdict_at (flipped (flipped w p) q) ≡ Even
    two-flips-even p q h l ne =
        let t = two-flagged sound.good sound.parity w p q clean h l ne in
        row_even rows cs k data_inside sound.good (mix cs (flipped (flipped w p) q)) t.0 t.1

  -- ---- from any word

  pub data_mends : (w p : ℕ) → verdict_at w ≡ Data p → (p < k) × (mix cs (flipped w p) ≡ 0)
  data_mends w p e =
      let r = subst (RowOf rows cs k data_inside sound.good (mix cs w)) e (row_at w) in
      (r.0, (mends_exactly w p r.1).1 r.2)

  pub check_mends : (w p : ℕ) → verdict_at w ≡ Check p → (k ≤ p) × (p < length cs) × (mix cs (flipped w p) ≡ 0)
  check_mends w p e =
      let r = subst (RowOf rows cs k data_inside sound.good (mix cs w)) e (row_at w) in
      (r.0, r.1, (mends_exactly w p r.1).1 r.2)

  -- verdicts 3 and 4: no single flip would make it clean
  pub even_unmended : (w : ℕ) → verdict_at w ≡ Even → (p : ℕ) → p < length cs → mix cs (flipped w p) ≢ 0
  even_unmended w e p h z =
      let r = subst (RowOf rows cs k data_inside sound.good (mix cs w)) e (row_at w) in
      let o : ◌≡◌ {A = ℕ} 0 1 = sym r.1 ∙ ap (odd_in rows) (sym ((mends_exactly w p h).0 z)) ∙ sound.good.each_odd p h in
      omega arith

  pub odd_unmended : (w : ℕ) → verdict_at w ≡ Odd → (p : ℕ) → p < length cs → mix cs (flipped w p) ≢ 0
  odd_unmended w e p h z =
      let r = subst (RowOf rows cs k data_inside sound.good (mix cs w)) e (row_at w) in
      r.1 p h ((mends_exactly w p h).0 z)
