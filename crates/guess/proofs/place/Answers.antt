-- `guess::place` meets its contract. Assumes nothing.
use mathlib.Core.Path.{◌≡◌}
use Rattle.guess.specs.Guess.{guess_of}
use Rattle.guess.proofs.Early.{guess_none, guess_right}
use Rattle.guess.proofs.place.Goals as goal

pub returns-then-at-columns : goal.returns-then-at-columns
returns-then-at-columns c =
    let a = c.args in
    let at : guess_of a.guesses.now a.s ≡ c.from-at.result = cc in
    guess_none a.columns.now a.guesses.now a.s c.requires (rw at c.if-at-columns.true)

pub returns-then-columns-at : goal.returns-then-columns-at
returns-then-columns-at c =
    let a = c.args in
    let at : guess_of a.guesses.now a.s ≡ c.from-at.result = cc in
    rw at at (guess_right a.columns.now a.guesses.now a.s c.requires) c.if-at-columns.false c.if-columns-at.true
