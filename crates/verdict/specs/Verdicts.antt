-- Document 01's table of verdicts: a function of the syndrome alone, for any columns and any sense of odd. Assumes nothing.
use Rattle.std.specs.Prelude.{cond, List, ℕ, eqb, ltb, length}
use Rattle.columns.specs.Mix.{place_in}
use Rattle.verdict.specs.declared.Verdict.{Verdict}
use Rattle.verdict.specs.declared.Verdict.TheVariants.{Clean, Data, Check, Even, Odd, Stray}
use Rattle.verdict.specs.declared.Finding.{Finding}

-- the verdict on syndrome s under the n columns cs, the first k of them data columns
unfoldable pub verdict_on : (ℕ → ℕ) → List ℕ → ℕ → ℕ → Verdict
verdict_on odd cs k s =
    cond (eqb s 0) Clean
    (cond (ltb (place_in cs s) k) (Data (place_in cs s))
    (cond (ltb (place_in cs s) (length cs)) (Check (place_in cs s))
    (cond (eqb (odd s) 0) Even Odd)))

abbrev pub found : ℕ → ℕ → Finding
found verdict place = record { verdict = verdict; place = place }

-- document 01's number of a verdict, and its place: 255 for none
abbrev pub finding_of : Verdict → Finding
finding_of Clean = found 0 255
finding_of (Data p) = found 1 p
finding_of (Check p) = found 2 p
finding_of Even = found 3 255
finding_of Odd = found 4 255
finding_of Stray = found 5 255
