-- Places by a guess that is checked: 512 slots, a column's by its low nine bits. Assumes nothing.
use Rattle.std.specs.Prelude.{◌≡◌, List, ℕ, ◌%◌, ◌≤◌, ◌<◌, length, get_or}
use Rattle.columns.specs.Mix.{column}

abbrev pub slots : ℕ
slots = 512

-- the place that is guessed for s
abbrev pub guess_of : List ℕ → ℕ → ℕ
guess_of guesses s = get_or guesses (s % slots) 0

-- for no column a place behind its own is guessed: so a guess whose column is s is the first such place, and a guess past the last place
-- says that there is none
pub record Guessed (cs guesses : List ℕ) : Type 0 where
  pub whole : length guesses ≡ slots
  pub early : (p : ℕ) → p < length cs → guess_of guesses (column cs p) ≤ p
