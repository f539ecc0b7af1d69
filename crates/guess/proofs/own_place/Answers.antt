-- `guess::own_place` meets its contract: a column that finds itself is the first like it. Assumes nothing.
use mathlib.Core.Path.{◌≡◌}
use Rattle.columns.specs.Mix.{column}
use Rattle.guess.specs.Guess.{guess_of}
use Rattle.guess.proofs.Early.{own_found}
use Rattle.guess.proofs.own_place.Goals as goal

pub returns-then-from-i : goal.returns-then-from-i
returns-then-from-i c =
    let a = c.args in
    let itself : guess_of a.guesses.now (column a.columns.now a.i) ≡ a.i = cc in
    own_found a.columns.now a.guesses.now a.i c.requires.guessed c.requires.i_in_bounds itself
