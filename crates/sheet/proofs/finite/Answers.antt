-- `sheet::finite` meets its contract: a figure less itself is zero exactly where it is finite. Assumes nothing.
use Rattle.sheet.proofs.Zeros.{less_itself}
use Rattle.sheet.proofs.finite.Goals as goal

pub returns : goal.returns
returns c = less_itself c.args.x
