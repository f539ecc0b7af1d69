-- `finder::every_place` meets its contract: ones in each part. Assumes nothing.
use mathlib.Core.Path.{sym, ap, ◌∙◌}
use Rattle.finder.specs.Finder.{every_place}
use Rattle.finder.proofs.Parts.{every_parts}
use Rattle.finder.proofs.every_place.Goals as goal

pub returns : goal.returns
returns c =
    let low = c.ones.ensures ∙ ap every_place c.min.ensures in
    let high = c.ones-2.ensures ∙ ap every_place c.saturating_sub.ensures in
    (λ i. record { low = low i; high = high i; check = c.ones-check.ensures i })
    ∙ sym (every_parts c.args.n c.args.k c.requires.0)
