-- What a verdict names, in a word with k data bits and up to 16 check bits. Assumes nothing.
use Rattle.std.specs.Prelude.{ℕ, ◌+◌, ◌≤◌, ◌<◌}
use Rattle.verdict.specs.declared.Verdict.{Verdict}
use Rattle.verdict.specs.declared.Verdict.TheVariants.{Clean, Data, Check, Even, Odd, Stray}

-- a data place, or a check place
abbrev pub NamesPlace : ℕ → Verdict → Type 0
NamesPlace k Clean = Unit
NamesPlace k (Data p) = p < k
NamesPlace k (Check p) = (k ≤ p) × (p < k + 16)
NamesPlace k Even = Unit
NamesPlace k Odd = Unit
NamesPlace k Stray = Unit
