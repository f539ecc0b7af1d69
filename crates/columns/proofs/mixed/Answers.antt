use mathlib.Core.Path.{ap}
use mathlib.Core.Logic.{⊎_elim, inl, inr}
use Prim.Native.Nat.{◌/◌, ◌%◌, ◌^◌}
use native.Mathlib.Omega.{arith}
use lib.ListN.{length, get_or}
use lib.Bits.{bit_xor}
use Rattle.parity.proofs.Ones.{below_or_not}
use Rattle.columns.proofs.Linear.{taken_times, mix_shift, mix_shifted}
use Rattle.columns.proofs.mixed.Goals as goal

pub loop-i-preserved : goal.loop-i-preserved
loop-i-preserved c =
    let l = c.loop-i in
    let a = c.args in
    mix_shift a.columns.now l.i a.word l.out _ _ (omega arith) l.invariant
    (ap (bit_xor l.out) (taken_times (a.word / 2 ^ l.i % 2) (get_or a.columns.now l.i 0) (omega arith)))

pub returns : goal.returns
returns c =
    let l = c.loop-i in
    let a = c.args in
    mix_shifted a.columns.now l.i a.word l.out _ c.ranges.word.fits
    (⊎_elim (λ h. inl (omega (arith, h))) (λ h. inr h) (below_or_not l.i (length a.columns.now))) l.invariant
