-- `guess::fill_guesses` meets its contract. The invariant: for the columns from i on no later place is guessed. Assumes nothing.
use mathlib.Core.Path.{◌≡◌}
use lib.ListN.{length}
use Rattle.guess.specs.Guess.{slots}
use Rattle.guess.proofs.Early.{EarlyFrom}
use Rattle.guess.proofs.fill_guesses.Given as goal

abbrev pub invariant-loop-i : goal.invariant-loop-i
invariant-loop-i l = (length l.guesses ≡ slots) × EarlyFrom l.columns l.guesses l.i
