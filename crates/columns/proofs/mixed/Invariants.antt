-- `columns::mixed` meets its contract. The invariant: what is out so far, with what the columns not yet passed give of the rest, is the
-- whole. Assumes nothing.
use mathlib.Core.Path.{◌≡◌}
use Prim.Native.Nat.{◌/◌, ◌^◌}
use lib.ListN.{drop}
use lib.Bits.{bit_xor}
use Rattle.columns.specs.Mix.{mix}
use Rattle.columns.proofs.mixed.Given as goal

abbrev pub invariant-loop-i : goal.invariant-loop-i
invariant-loop-i l = bit_xor l.out (mix (drop l.i l.columns) (l.word / 2 ^ l.i)) ≡ mix l.columns l.word
