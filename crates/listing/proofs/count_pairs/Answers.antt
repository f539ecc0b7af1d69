-- `listing::count_pairs` meets its contract: one place more. Assumes nothing.
use mathlib.Core.Path.{ap, ◌∙◌}
use native.Mathlib.Omega.{arith}
use borrow.Author.Rules.{rules}
use Rattle.std.specs.Option.{is_some}
use Rattle.listing.specs.BySyndrome.{pairs_from}
use Rattle.listing.proofs.Walk.{count_next}
use Rattle.listing.proofs.count_pairs.Goals as goal
use Rattle.listing.proofs.count_pairs.Goals.{then-is_some, else-is_some}

pub loop-p-init : goal.loop-p-init
unfolding pairs_from
loop-p-init c = search rules

pub loop-p-preserved : goal.loop-p-preserved
loop-p-preserved c =
    let next = count_next c.args.columns.now c.args.s c.loop-p.p c.is_some.result
    (c.is_some.ensures ∙ ap is_some c.partner.ensures) in
    elim c.if-is_some.branch [
      | then-is_some w ↦ let more = rw w.if-is_some.true at next in (omega arith, omega arith)
      | else-is_some w ↦ let more = rw w.if-is_some.false at next in (omega arith, omega arith)
    ]
