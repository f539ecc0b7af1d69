-- The syndrome of a word: that of its number where nothing is stray, and never more digits than the columns have. Assumes nothing.
use mathlib.Core.Path.{◌≡◌, refl, ap, ◌∙◌}
use mathlib.Core.Bool.{Bool, true, false, cond}
use mathlib.Core.List.{List}
use Prim.Native.Nat.{ℕ, ◌^◌, ◌≤◌, ◌<◌}
use lib.Dec.{eqb, ltb}
use lib.ListN.{length}
use lib.Pow.{pow_pos}
use Rattle.parity.specs.Odd.{odd_in}
use Rattle.columns.specs.Mix.{column, mix, place_in}
use Rattle.columns.proofs.Words.{mix-lt}
use Rattle.word.specs.declared.Word.{Word}
use Rattle.verdict.specs.declared.Verdict.TheVariants.{Clean, Data, Check, Even, Odd, Stray}
use Rattle.word.specs.Word.{in_parts, as_number, stray_in}
use Rattle.verdict.specs.Verdicts.{verdict_on}
use Rattle.word.specs.Verdicts.{read_in, syndrome_in}
use Rattle.reading.specs.Reading.{reading_by}
use Rattle.word.proofs.Strays.{in_syndrome}
use Rattle.mending.proofs.Parts.{number_of_parts, parts_unstrayed}

pub syndrome_number : (rows : ℕ) (cs : List ℕ) (k w : ℕ) → k ≤ length cs → w < 2 ^ length cs → syndrome_in cs k (in_parts k w) ≡ mix cs w
syndrome_number rows cs k w h l =
    in_syndrome rows cs k (in_parts k w) (parts_unstrayed (length cs) k w h l) ∙ ap (mix cs) (number_of_parts k w)

pub syndrome-lt : (cs : List ℕ) (k : ℕ) (w : Word) (r : ℕ) → ((p : ℕ) → p < length cs → column cs p < 2 ^ r) → syndrome_in cs k w < 2 ^ r
unfolding syndrome_in
syndrome-lt cs k w r h = go (stray_in (length cs) k w)
  where
    go : (b : Bool) → cond b 0 (mix cs (as_number k w)) < 2 ^ r
    go true = pow_pos r
    go false = mix-lt cs (as_number k w) r h

-- a reading hands it back: 0 for a stray word, which is refused
pub syndrome-read : (rows : ℕ) (cs : List ℕ) (k : ℕ) (w : Word)
    → syndrome_in cs k w ≡ (reading_by (read_in rows cs k w) (syndrome_in cs k w) k w).syndrome
unfolding syndrome_in read_in verdict_on
syndrome-read rows cs k w =
    let s = mix cs (as_number k w) in
    go (stray_in (length cs) k w) (eqb s 0) (ltb (place_in cs s) k) (ltb (place_in cs s) (length cs)) (eqb (odd_in rows s) 0)
  where
    go : (b z d c e : Bool) → let m = mix cs (as_number k w) in
        let v = cond z Clean (cond d (Data (place_in cs m)) (cond c (Check (place_in cs m)) (cond e Even Odd))) in
        cond b 0 m ≡ (reading_by (cond b Stray v) (cond b 0 m) k w).syndrome
    go true z d c e = refl
    go false true d c e = refl
    go false false true c e = refl
    go false false false true e = refl
    go false false false false true = refl
    go false false false false false = refl
