-- The words that the demands on the maker use. Assumes nothing.
use Rattle.std.specs.Prelude.{◌≡◌, ℕ, replicate}
use Rattle.make.specs.declared.Made.{Made}
use Rattle.desk.specs.Answers.{made_of}

-- it is made
abbrev pub IsMade : ℕ → ℕ → Type 0
IsMade k r = (made_of k r).number ≡ 0

-- a refusal: this number, and a code of k 0 and r 0 with 64 zeros
abbrev pub no_code : ℕ → Made
no_code number = record { number = number; code = record { columns = replicate 64 0; k = 0; r = 0 } }
