use mathlib.Core.Path.{refl, ap}
use mathlib.Core.List.{[]}
use Prim.Native.Nat.{ℕ, suc, ◌^◌}
use native.Mathlib.Nat.{pow-suc}
use native.Mathlib.Numerals.{add-one}
use native.Mathlib.Omega.{arith}
use lib.ListN.{length, length-set}
use lib.Pow.{pow_pos, pow_mono}
use Rattle.columns.specs.Mix.{mix}
use Rattle.tables.proofs.UpTo.{first_value}
use Rattle.tables.proofs.Octets.{one_more}
use Rattle.tables.proofs.fill_values.Goals as goal

pub loop-column-init : goal.loop-column-init
unfolding mix
loop-column-init c =
    let a = c.args in
    (refl, first_value a.table.now (mix []) (omega (arith, c.requires.1, pow_pos (length a.columns.now))) refl)

pub fill_bit-requires : goal.fill_bit-requires
fill_bit-requires c =
    let l = c.loop-column in
    omega (arith, length-set {A = ℕ}, pow-suc 2 l.column-index, pow_mono {i = suc l.column-index} {j = length c.args.columns.now} (omega arith))

pub loop-column-preserved : goal.loop-column-preserved
loop-column-preserved c =
    let l = c.loop-column in
    let i = l.column-index in (
      omega (arith, l.invariant.0, pow-suc 2 i, ap (λ n. 2 ^ n) (add-one i)),
      rw (add-one i)
          (one_more c.args.columns.now i l.size l.table c.fill_bit.new.table l.invariant.0 l.invariant.1 c.fill_bit.ensures),
    )
