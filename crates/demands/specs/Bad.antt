-- The words that the demands on places known to be bad use. Assumes nothing.
use Rattle.std.specs.Prelude.{cond, List, ℕ, ◌≤◌, ltb, length}
use Rattle.code.specs.declared.Code.{Code}
use Rattle.code.specs.declared.Refusal.{Refusal}
use Rattle.word.specs.Word.{word_of, data_of, check_of}
use Rattle.recovered.specs.Outside.{differing}
use Rattle.desk.specs.declared.Recovered.{Recovered}
use Rattle.desk.specs.declared.BadPlaces.{BadPlaces}
use Rattle.desk.specs.Answers.{recovered_of, bad_places_of}
use Rattle.demands.specs.Definitions.{places_of, Unstrayed, Clean}

-- recovering the word w, one number
abbrev pub recover : Code → ℕ → List ℕ → Recovered
recover code w bad = recovered_of code (data_of code.k w) (check_of code.k w) bad

-- the word u is handed back
abbrev pub given_back : Code → ℕ → Recovered
given_back code u = record { number = 0; told = 0; «data» = data_of code.k u; check = check_of code.k u }

abbrev pub refused_recovered : Refusal → Recovered
refused_recovered f = record { number = f.number; told = f.told; «data» = 0; check = 0 }

-- u is a code word, and outside the bad places it differs from w in at most one place where none or one is bad, in none where more are
pub record Recoverable (code : Code) (w : ℕ) (bad : List ℕ) (u : ℕ) : Type 0 where
  pub fits : Unstrayed code u
  pub clean : Clean code u
  pub near : differing (places_of code) bad u w ≤ cond (ltb (length bad) 2) 1 0

-- ---- the finder

-- its answer for two words, each one number, and the word of ones in it
abbrev pub find_bad : Code → ℕ → ℕ → BadPlaces
find_bad code a b = bad_places_of code (data_of code.k a) (check_of code.k a) (data_of code.k b) (check_of code.k b)

abbrev pub found_in : Code → ℕ → ℕ → ℕ
found_in code a b = word_of code.k (find_bad code a b).«data» (find_bad code a b).check

abbrev pub refused_bad_places : Refusal → BadPlaces
refused_bad_places f = record { number = f.number; told = f.told; «data» = 0; check = 0 }
