-- What each verdict is answered. Assumes nothing.
use mathlib.Core.Path.{◌≡◌, refl}
use Prim.Native.Nat.{ℕ}
use Rattle.std.proofs.Common.{◌≢◌}
use Rattle.word.specs.declared.Word.{Word}
use Rattle.verdict.specs.declared.Verdict.{Verdict}
use Rattle.verdict.specs.declared.Verdict.TheVariants.{Clean, Data, Check, Even, Odd, Stray}
use Rattle.reading.specs.Reading.{given_reading, reading_by}

-- every verdict but stray is an answer
pub reading_given : (v : Verdict) (s k : ℕ) (w : Word) → v ≢ Stray → reading_by v s k w ≡ given_reading v s k w
reading_given Clean s k w h = refl
reading_given (Data p) s k w h = refl
reading_given (Check p) s k w h = refl
reading_given Even s k w h = refl
reading_given Odd s k w h = refl
reading_given Stray s k w h = absurd (h refl)
