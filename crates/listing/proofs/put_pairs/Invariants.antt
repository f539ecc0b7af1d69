-- `listing::put_pairs` meets its contract. The invariant: the bytes of the pairs whose lower place was passed stand over the list
-- as it was. Assumes nothing.
use Prim.Native.Nat.{◌*◌}
use mathlib.Core.Path.{◌≡◌}
use lib.ListN.{length}
use Rattle.record.specs.Run.{over}
use Rattle.listing.specs.Sets.{bytes_for}
use Rattle.listing.specs.BySyndrome.{pairs_from}
use Rattle.listing.proofs.put_pairs.Given as goal

abbrev pub invariant-loop-p : goal.invariant-loop-p
invariant-loop-p l =
    (l.at ≡ 2 * length (pairs_from l.columns l.s l.p 0)) × (l.list ≡ over (bytes_for (pairs_from l.columns l.s l.p 0)) l.initial.list)
