use mathlib.Core.Path.{◌≡◌, sym, ap}
use Prim.Native.Nat.{◌+◌, ◌-◌}
use native.Mathlib.Omega.{arith}
use borrow.Author.Rules.{rules}
use lib.ListN.{drop, length-drop}
use lib.Seq.{drop-length}
use Rattle.record.specs.Bytes.{number_of, byte_span, AllBytes}
use Rattle.record.proofs.Bytes.{number_fits, bytes_drop, number_step}
use Rattle.record.proofs.number.Goals as goal

pub loop-i-init : goal.loop-i-init
unfolding number_of
loop-i-init c = sym (ap number_of (drop-length c.args.part.now))

-- what the bytes from i on say fits seven bytes, and the byte before them is one
pub overflow_mul-v : goal.overflow_mul-v
unfolding byte_span
overflow_mul-v c =
    let part = c.args.part.now in
    let i = c.loop-i.i in
    let bytes : AllBytes part = search rules in
    let rest = number_fits 7 (drop i part) (bytes_drop i part bytes) (simp length-drop (omega arith)) in
    record { fits = omega (arith, rest) }

pub overflow_add-v : goal.overflow_add-v
unfolding byte_span
overflow_add-v c =
    let part = c.args.part.now in
    let i = c.loop-i.i in
    let bytes : AllBytes part = search rules in
    let rest = number_fits 7 (drop i part) (bytes_drop i part bytes) (simp length-drop (omega arith)) in
    record { fits = omega (arith, rest, bytes (i - 1)) }

pub loop-i-preserved : goal.loop-i-preserved
loop-i-preserved c =
    let part = c.args.part.now in
    let i = c.loop-i.i in
    let e : i - 1 + 1 ≡ i = omega arith in
    omega (arith, c.loop-i.invariant, rw e at (number_step part (i - 1) (omega arith)))
