-- `at_record::RecordForm::enter` meets its contract: head, bytes as read, bytes as left, then the record is mended. Assumes nothing.
use mathlib.Core.Path.{ap, ◌∙◌}
use mathlib.Core.List.{◌++◌}
use borrow.Author.Rules.{rules}
use lib.ListN.{length}
use Rattle.record.specs.Layout.{head_size, head_bytes}
use Rattle.runs.proofs.Entries.{length-head}
use Rattle.at_record.proofs.Entered.{three_parts_lem}
use Rattle.at_record.proofs.RecordForm.enter.Goals as goal

pub returns-clause-after : goal.returns-clause-after
returns-clause-after c =
    let a = c.args in
    let head = c.put_head.ensures ∙ ap (λ x. head_bytes a.stamp a.n x.verdict x.place a.sight.syndrome) c.from-finding.ensures in
    three_parts_lem a.entry.now c.put_head.new.head c.put_bytes.new.part c.put_left.new.part head_size (length a.rec.now)
    (ap length head ∙ length-head _ _ _ _ _) (ap length c.put_bytes.ensures) (search rules) (search rules)
    ∙ (λ i. head i ++ (c.put_bytes.ensures i ++ c.put_left.ensures i))
