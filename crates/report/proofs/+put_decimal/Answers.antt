-- `report::put_decimal` meets its contract: the last digit is written behind the others. Assumes nothing.
use mathlib.Core.Path.{refl, ap}
use mathlib.Core.List.{[], ◌∷◌}
use Prim.Native.Nat.{◌+◌, ◌/◌, ◌%◌}
use native.Mathlib.Omega.{arith}
use lib.ListN.{length, set}
use Rattle.report.specs.Text.{digit, decimal_of}
use Rattle.report.proofs.Written.{both, set-written}
use Rattle.report.proofs.Decimal.{decimal_one, decimal_more, length_more}
use Rattle.report.proofs.+put_decimal.Goals as goal

-- a number of one digit
pub bounds-out-at : goal.bounds-out-at
bounds-out-at t c = omega (arith, ap length (decimal_one c.args.n c.if-n-lt10.true))

pub returns-then-n-lt10-clause-value : goal.returns-then-n-lt10-clause-value
returns-then-n-lt10-clause-value t c = omega (arith, ap length (decimal_one c.args.n c.if-n-lt10.true))

pub returns-then-n-lt10-clause-out_after : goal.returns-then-n-lt10-clause-out_after
returns-then-n-lt10-clause-out_after t c =
    let a = c.args in
    let one = decimal_one a.n c.if-n-lt10.true in
    rw one (set-written a.out.now a.at (digit a.n) (omega (arith, ap length one)))

-- the digits before the last, then the last
pub put_decimal-last-requires : goal.put_decimal-last-requires
put_decimal-last-requires t c = (omega (arith, c.decreases), omega (arith, length_more c.args.n c.if-n-lt10.false))

pub bounds-out-last : goal.bounds-out-last
bounds-out-last t c = omega (arith, length_more c.args.n c.if-n-lt10.false)

pub overflow_add-result-2 : goal.overflow_add-result-2
overflow_add-result-2 t c = record { fits = omega (arith, length_more c.args.n c.if-n-lt10.false) }

pub returns-clause-value : goal.returns-clause-value
returns-clause-value t c = omega (arith, length_more c.args.n c.if-n-lt10.false)

pub returns-clause-out_after : goal.returns-clause-out_after
returns-clause-out_after t c =
    let a = c.args in
    let first = c.put_decimal-last in
    let last = digit (a.n % 10) in
    let more = length_more a.n c.if-n-lt10.false in
    rw (decimal_more a.n c.if-n-lt10.false)
    (both a.at first.result (first.result + 1) (decimal_of (a.n / 10)) (last ∷ []) a.out.now
    first.new.out (set first.new.out first.result last)
    (omega (arith, more))
    (first.ensures.value, first.ensures.out_after)
    (refl, set-written first.new.out first.result last (omega (arith, more)))).1
