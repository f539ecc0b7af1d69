-- `tables::says` meets its contract. Assumes nothing.
use mathlib.Core.Path.{sym, ap}
use mathlib.Core.Bool.{Bool}
use Rattle.tables.specs.Tables.{byte_says}
use Rattle.tables.proofs.says.Goals as goal

pub returns-then-halves : goal.returns-then-halves
returns-then-halves c =
    let a = c.args in
    sym (ap (λ (h : Bool). byte_says h a.table.now a.at a.b) c.if-halves.true)
