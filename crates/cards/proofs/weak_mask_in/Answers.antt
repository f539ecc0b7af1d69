-- `cards::weak_mask_in` meets its contract: one mask more. Assumes nothing.
use mathlib.Core.Path.{◌≡◌, sym, ◌∙◌}
use Prim.Native.Nat.{◌*◌, ◌%◌, ◌^◌}
use native.Mathlib.Nat.{one-mul, sub-zero}
use native.Mathlib.Omega.{arith}
use lib.Dec.{lit<}
use lib.ListN.{length}
use lib.Pow.{shl_exact}
use Rattle.cards.specs.Cards.{weak_mask_in}
use Rattle.cards.proofs.Search.{first_here, first_next, first_end}
use Rattle.cards.proofs.Masks.{try_weak, try_kept}
use Rattle.cards.proofs.weak_mask_in.Goals as goal

pub loop-mask-init : goal.loop-mask-init
unfolding weak_mask_in
loop-mask-init c =
    let j = length c.args.card.now in
    let e : 1 * 2 ^ j % 65536 ≡ 2 ^ j = shl_exact 1 j 16 (lit< tt) (omega arith) ∙ one-mul (2 ^ j) in
    rw (e, sub-zero)

pub returns-then-weak_mask : goal.returns-then-weak_mask
returns-then-weak_mask c =
    first_here _ _ c.loop-mask.mask _ c.loop-mask.invariant _ _ c.loop-mask-test.true
    (try_weak _ _ _ _ (sym c.weak_mask.ensures ∙ c.if-weak_mask.true))

pub loop-mask-preserved : goal.loop-mask-preserved
loop-mask-preserved c =
    first_next _ _ c.loop-mask.mask _ c.loop-mask.invariant c.loop-mask-test.true
    (try_kept _ _ _ _ (sym c.weak_mask.ensures ∙ c.if-weak_mask.false))

pub returns : goal.returns
returns c = first_end _ _ c.loop-mask.mask _ c.loop-mask.invariant c.loop-mask-test.false
