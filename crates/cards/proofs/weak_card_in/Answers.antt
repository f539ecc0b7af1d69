-- `cards::weak_card_in` meets its contract: one card more. Assumes nothing.
use mathlib.Core.Path.{sym, ap, ◌∙◌}
use Prim.Native.Nat.{min}
use native.Mathlib.Omega.{arith}
use lib.ListN.{length, length-append}
use Rattle.std.specs.Slice.Iter.{chunks_rest}
use Rattle.cards.proofs.Walk.{walk_here, walk_next, walk_end}
use Rattle.cards.proofs.weak_card_in.Goals as goal

pub returns-in-Some-weak_mask_in : goal.returns-in-Some-weak_mask_in
returns-in-Some-weak_mask_in c =
    let a = c.args in
    let l = c.loop-card.invariant in
    let s = c.in-Some.ensures.steps.1 in
    let size = s.1 ∙ ap (λ n. min n (length (chunks_rest c.loop-card.card-iterator))) l.2 in
    walk_here a.columns.now a.b c.loop-card.number c.requires.0 _ _ l.4 _ _ s.0 size s.2 c.in-Some-weak_mask_in.weak
    (sym c.weak_mask_in.ensures ∙ c.in-Some-weak_mask_in.is)

pub loop-card-preserved : goal.loop-card-preserved
loop-card-preserved c =
    let a = c.args in
    let l = c.loop-card.invariant in
    let s = c.in-Some.ensures.steps.1 in
    let same = c.in-Some.ensures.steps.0 in
    let size = s.1 ∙ ap (λ n. min n (length (chunks_rest c.loop-card.card-iterator))) l.2 in (
      omega arith,
      tt,
      same ∙ l.2,
      omega (arith, size, s.2, ap length s.0, length-append c.in-Some.card.now (chunks_rest c.next.new.self)),
      walk_next a.columns.now a.b c.loop-card.number c.requires.0 _ _ l.4 _ _ s.0 size s.2 (sym c.weak_mask_in.ensures ∙ c.in_default.is),
    )

pub returns : goal.returns
returns c =
    let a = c.args in
    walk_end a.columns.now a.b c.loop-card.number c.requires.0 _ _ c.loop-card.invariant.4 c.in-None.ensures.steps.1.0
