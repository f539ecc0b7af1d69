-- `entering::enter` meets its contract: head, bytes as read, bytes as left, then the record is mended. Assumes nothing.
use mathlib.Core.Path.{ap, ◌∙◌}
use mathlib.Core.List.{◌++◌}
use borrow.Author.Rules.{rules}
use lib.ListN.{length, length-set}
use Rattle.record.specs.Bytes.{AllBytes}
use Rattle.record.specs.Layout.{head_size, head_bytes}
use Rattle.runs.proofs.Entries.{length-head}
use Rattle.at_record.proofs.Entered.{three_parts_lem}
use Rattle.entering.proofs.enter.Goals as goal

pub returns-clause-after : goal.returns-clause-after
returns-clause-after c =
    let a = c.args in
    let bytes : AllBytes a.rec.now = search rules in
    let left = c.turn_of-turn.ensures.left a.rec.now bytes c.requires.rec_len in
    let head = c.put_head.ensures ∙ ap (λ x. head_bytes a.stamp a.n x.verdict x.place a.sight.syndrome) c.from-finding.ensures in
    let put = c.put_left.ensures ∙ left in
    three_parts_lem a.entry.now c.put_head.new.head c.put_record.new.part c.put_left.new.part head_size (length a.rec.now)
    (ap length head ∙ length-head _ _ _ _ _) (ap length c.put_record.ensures)
    (ap length c.put_left.ensures ∙ length-set a.rec.now _ _) (search rules)
    ∙ (λ i. head i ++ (c.put_record.ensures i ++ put i))
