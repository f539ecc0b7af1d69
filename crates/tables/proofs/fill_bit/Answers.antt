use mathlib.Core.Path.{sym}
use mathlib.Core.List.{append-nil}
use native.Mathlib.Nat.{add-zero}
use native.Mathlib.Omega.{arith}
use lib.ListN.{take}
use Rattle.tables.specs.Tables.{up_to}
use Rattle.tables.proofs.UpTo.{bit_turn}
use Rattle.tables.proofs.fill_bit.Goals as goal

pub loop-b-init : goal.loop-b-init
unfolding up_to
loop-b-init c = rw (add-zero c.args.size) (sym (append-nil (take c.args.size c.args.table.now)))

pub loop-b-preserved : goal.loop-b-preserved
loop-b-preserved c =
    let a = c.args in
    let l = c.loop-b in
    bit_turn a.table.now l.table a.size l.b a.column (omega arith) (omega arith) l.invariant (omega arith)
