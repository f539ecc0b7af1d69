-- `by_list::verdict_by` meets its contract. Assumes nothing.
use mathlib.Core.Path.{sym}
use Rattle.parity.specs.Odd.{odd_in}
use Rattle.verdict.proofs.Rows.{on_clean}
use Rattle.by_list.proofs.verdict_by.Goals as goal

pub returns-then-s-eq0 : goal.returns-then-s-eq0
returns-then-s-eq0 c =
    let a = c.args in
    sym (on_clean (odd_in a.reader.rows) a.reader.columns.now a.reader.form.k a.s c.if-s-eq0.true)
