-- A word reads clean exactly when its syndrome is 0, said as tests. Assumes nothing.
use mathlib.Core.Path.{◌≡◌, refl, ap, ◌∙◌}
use mathlib.Core.Bool.{Bool, true, false, cond}
use mathlib.Core.List.{List}
use Prim.Native.Nat.{ℕ, ◌^◌, ◌≤◌, ◌<◌}
use lib.Dec.{eqb, ltb}
use lib.ListN.{length}
use Rattle.parity.specs.Odd.{odd_in}
use Rattle.columns.specs.Mix.{mix, place_in}
use Rattle.verdict.specs.declared.Verdict.TheVariants.{Clean, Data, Check, Even, Odd}
use Rattle.word.specs.Word.{in_parts}
use Rattle.verdict.specs.Verdicts.{verdict_on}
use Rattle.word.specs.Verdicts.{read_in}
use Rattle.mending.proofs.Reading.{read_number}
use Rattle.explain.specs.Explanations.{is_clean}

-- of the table of verdicts only its first row is clean
clean_on : (odd : ℕ → ℕ) (cs : List ℕ) (k s : ℕ) → is_clean (verdict_on odd cs k s) ≡ eqb s 0
unfolding verdict_on
clean_on odd cs k s = go (eqb s 0) (ltb (place_in cs s) k) (ltb (place_in cs s) (length cs)) (eqb (odd s) 0)
  where
    go : (z d c e : Bool) → is_clean (cond z Clean (cond d (Data (place_in cs s)) (cond c (Check (place_in cs s)) (cond e Even Odd)))) ≡ z
    go true d c e = refl
    go false true c e = refl
    go false false true e = refl
    go false false false true = refl
    go false false false false = refl

pub clean_test : (rows : ℕ) (cs : List ℕ) (k w : ℕ) → k ≤ length cs → w < 2 ^ length cs
    → is_clean (read_in rows cs k (in_parts k w)) ≡ eqb (mix cs w) 0
clean_test rows cs k w h fits = ap is_clean (read_number rows cs k w h fits) ∙ clean_on (odd_in rows) cs k (mix cs w)
