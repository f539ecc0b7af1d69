-- `listing::count_pairs` meets its contract. The invariant: the count is that of the pairs whose lower place was passed. Assumes nothing.
use Prim.Native.Nat.{◌≤◌}
use mathlib.Core.Path.{◌≡◌}
use lib.ListN.{length}
use Rattle.listing.specs.BySyndrome.{pairs_from}
use Rattle.listing.proofs.count_pairs.Given as goal

abbrev pub invariant-loop-p : goal.invariant-loop-p
invariant-loop-p l = (l.count ≡ length (pairs_from l.columns l.s l.p 0)) × (l.count ≤ l.p)
