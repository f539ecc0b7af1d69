-- `entering::turn_of` meets its contract: verdicts 1 and 2 turn the bit of the place that they name. Assumes nothing.
use mathlib.Core.Path.{sym, subst}
use Rattle.verdict.specs.Places.{NamesPlace}
use Rattle.entering.specs.Turns.{Leaves}
use Rattle.entering.proofs.Turned.{data_leaves, check_leaves}
use Rattle.entering.proofs.turn_of.Goals as goal

pub returns-in-Data : goal.returns-in-Data
returns-in-Data c =
    let a = c.args in
    let t = c.turn_at.result in
    let named = subst (NamesPlace a.form.k) c.in-Data.is c.requires in
    subst (λ x. Leaves a.form.d a.form.k x t.at t.bits) (sym c.in-Data.is)
    (data_leaves a.form.d a.form.k a.form.held _ _ _ named c.turn_at.ensures.0 c.turn_at.ensures.1)

pub returns-in-Check : goal.returns-in-Check
returns-in-Check c =
    let a = c.args in
    let t = c.turn_at-in-Check.result in
    let named = subst (NamesPlace a.form.k) c.in-Check.is c.requires in
    subst (λ x. Leaves a.form.d a.form.k x t.at t.bits) (sym c.in-Check.is)
    (check_leaves a.form.d a.form.k a.form.held _ _ _ named.0 named.1 c.turn_at-in-Check.ensures.0 c.turn_at-in-Check.ensures.1)
