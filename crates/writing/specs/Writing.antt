-- Writing: the check bits that make the syndrome 0, solved for. Under Hsiao's family check bit j is then the exclusive or of those data
-- bits whose column has bit j. Assumes nothing.
use Rattle.std.specs.Prelude.{cond, List, ℕ, take, drop, Result, Ok, Err}
use Rattle.columns.specs.Mix.{mix}
use Rattle.columns.specs.Solving.{solve}
use Rattle.code.specs.declared.Opened.{Opened}
use Rattle.code.specs.declared.Refusal.{Refusal}
use Rattle.code.specs.Opened.{Standing, only, columns_of}
use Rattle.writing.specs.declared.CheckWord.{CheckWord}
use Rattle.word.specs.Word.{strays}

-- the check bits of these data bits under columns cs, the first k of them data columns
abbrev pub checks_of : List ℕ → ℕ → ℕ → ℕ
checks_of cs k bits = solve (drop k cs) (mix (take k cs) bits)

abbrev pub refused_writing : Refusal → CheckWord
refused_writing f = record { number = f.number; told = f.told; check = 0 }

-- 7 for a stray data bit, else the check bits
unfoldable pub write_in : List ℕ → ℕ → ℕ → CheckWord
write_in cs k bits = cond (strays k bits) (refused_writing (only 7)) (record { number = 0; told = 0; check = checks_of cs k bits })

-- an answer, or the refusal told as one
abbrev pub answered : Result CheckWord Refusal → CheckWord
answered (Ok a) = a
answered (Err f) = refused_writing f

-- how the code stands decides first
abbrev pub writing_as : Standing → Opened → ℕ → CheckWord
writing_as (Ok u) o bits = write_in (columns_of o) o.k bits
writing_as (Err f) o bits = refused_writing f

abbrev pub writing_of : Opened → ℕ → CheckWord
writing_of o bits = writing_as o.standing o bits
