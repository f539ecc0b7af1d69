-- `mend::main` is safe: what was read is a part of the buffer. Assumes nothing.
use mathlib.Core.Path.{sym}
use lib.Seq.{length-take-le}
use Rattle.mend.proofs.main.Goals as goal

pub slice_bounds-mend_image-end : goal.slice_bounds-mend_image-end
slice_bounds-mend_image-end c = sym (length-take-le _ _ c.read_image-size.ensures.upper_bound)
