-- `code::lay_given` meets its contract: the columns, and what is left of the zeros. Assumes nothing.
use Rattle.std.proofs.lemmas.List.{drop-replicate}
use Rattle.code.proofs.lay_given.Goals as goal

pub returns : goal.returns
returns c = rw (c.copy_from_slice.ensures.after, c.requires.all_value) (simp drop-replicate)
