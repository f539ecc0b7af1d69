-- `at_record::RecordForm::mend` meets its contract: verdicts 1 and 2 turn the bit of the place that they name, the others write nothing.
-- Assumes nothing.
use mathlib.Core.Path.{sym, ap, subst, ◌∙◌}
use borrow.Author.Rules.{rules}
use Rattle.record.specs.Bytes.{AllBytes}
use Rattle.verdict.specs.Places.{NamesPlace}
use Rattle.at_record.specs.Outcome.{left_by}
use Rattle.at_record.proofs.Mends.{turned_data, turned_check}
use Rattle.at_record.proofs.RecordForm.mend.Goals as goal

pub returns-in-Data : goal.returns-in-Data
returns-in-Data c =
    let a = c.args in
    let f = a.self in
    let named = subst (NamesPlace f.k) c.in-Data.is c.requires.names_place in
    let bytes : AllBytes a.rec.now = search rules in
    c.turn_bit.ensures
    ∙ turned_data f.d f.k f.held a.rec.now bytes c.requires.rec_len _ named
    ∙ sym (ap (λ x. left_by f.d f.k x a.rec.now) c.in-Data.is)

pub returns-in-Check : goal.returns-in-Check
returns-in-Check c =
    let a = c.args in
    let f = a.self in
    let named = subst (NamesPlace f.k) c.in-Check.is c.requires.names_place in
    let bytes : AllBytes a.rec.now = search rules in
    c.turn_bit-in-Check.ensures
    ∙ turned_check f.d f.k f.held a.rec.now bytes c.requires.rec_len _ named.0 named.1
    ∙ sym (ap (λ x. left_by f.d f.k x a.rec.now) c.in-Check.is)
