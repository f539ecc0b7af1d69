-- What a stray word is answered, in plain numbers. Assumes nothing.
use mathlib.Core.Path.{◌≡◌, refl}
use Prim.Native.Nat.{ℕ}
use Rattle.word.specs.declared.Word.{Word}
use Rattle.verdict.specs.declared.Verdict.TheVariants.{Stray}
use Rattle.reading.specs.Reading.{reading_by}

-- a stray word is refused by 7, and zeros are handed back
pub stray_refused : (s k : ℕ) (w : Word)
    → reading_by Stray s k w
    ≡ record { number = 7; told = 0; verdict = 0; place = 0; syndrome = 0; word = record { low = 0; high = 0; check = 0 } }
stray_refused s k w = refl
