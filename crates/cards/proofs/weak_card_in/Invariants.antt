-- `cards::weak_card_in` meets its contract. The invariant: the first find among the cards not yet tried is the first among all of the part.
-- Assumes nothing.
use mathlib.Core.Path.{◌≡◌}
use Prim.Native.Nat.{◌+◌, ◌≤◌}
use lib.ListN.{length}
use Rattle.std.specs.Slice.Iter.{chunks_rest, chunks_size}
use Rattle.cards.specs.Cards.{cut, weak_card_in}
use Rattle.cards.proofs.weak_card_in.Given as goal

abbrev pub invariant-loop-card : goal.invariant-loop-card
invariant-loop-card l =
    (goal.iterator-loop-card).can_next l.card-iterator
    × (goal.iterator-loop-card).is_finite l.card-iterator
    × (chunks_size l.card-iterator ≡ l.b)
    × (l.number + length (chunks_rest l.card-iterator) ≤ l.first + length l.part)
    × (weak_card_in l.columns l.number (cut l.b 0 (chunks_rest l.card-iterator)) ≡ weak_card_in l.columns l.first (cut l.b 0 l.part))
