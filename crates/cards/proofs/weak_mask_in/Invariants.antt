-- `cards::weak_mask_in` meets its contract. The invariant: the first find among the masks not yet tried is the first among all.
-- Assumes nothing.
use mathlib.Core.Path.{◌≡◌}
use Prim.Native.Nat.{◌-◌}
use Rattle.cards.specs.Cards.{first_from, try_mask, weak_mask_in}
use Rattle.cards.proofs.weak_mask_in.Given as goal

abbrev pub invariant-loop-mask : goal.invariant-loop-mask
invariant-loop-mask l =
    first_from (try_mask l.columns l.card l.number) (l.mask-end - l.mask) l.mask ≡ weak_mask_in l.columns l.card l.number
