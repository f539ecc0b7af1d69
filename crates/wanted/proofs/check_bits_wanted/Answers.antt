-- `wanted::check_bits_wanted` meets its contract: MOST data bits are the most. Assumes nothing.
use Rattle.wanted.proofs.check_bits_wanted.Goals as goal

pub returns-in-Some : goal.returns-in-Some
returns-in-Some g c = c.in-Some.ensures
