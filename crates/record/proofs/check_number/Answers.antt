-- `record::check_number` meets its contract: two bytes say a number that fits a u16. Assumes nothing.
use native.Mathlib.Omega.{arith}
use borrow.Author.Rules.{rules}
use Rattle.record.specs.Bytes.{AllBytes, byte_span}
use Rattle.record.specs.Layout.{check_size}
use Rattle.record.proofs.Bytes.{number_fits}
use Rattle.record.proofs.check_number.Goals as goal

pub overflow_cast-result : goal.overflow_cast-result
unfolding byte_span
overflow_cast-result c =
    let bytes : AllBytes c.args.part.now = search rules in
    record { fits = omega (arith, number_fits check_size c.args.part.now bytes c.requires) }
