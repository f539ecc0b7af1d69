use native.Mathlib.Omega.{arith}
use Rattle.guess.proofs.fill_guesses.Goals as goal

pub returns : goal.returns
returns c = let m = c.loop-i in record { whole = m.invariant.0; early = λ p l. m.invariant.1 p (omega arith) l }
