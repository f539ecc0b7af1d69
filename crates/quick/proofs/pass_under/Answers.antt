-- `quick::pass_under` meets its contract: the longest list has room for as many records as a run can have. Assumes nothing.
use Prim.Native.Nat.{ℕ, ◌-◌, ◌≤◌}
use mathlib.Core.Path.{◌≡◌}
use native.Mathlib.Nat.{mul-le-mul_left, div-mul-le_self}
use native.Mathlib.Omega.{arith}
use Rattle.record.specs.Layout.{record_size}
use Rattle.asked.specs.declared.Pass.{Pass}
use Rattle.asked.specs.Pass.{State, state_of, wrong_in}
use Rattle.pass.proofs.Within.{within}
use Rattle.quick.proofs.pass_under.Goals as goal

-- no run has more records than 10 bytes go into 65,535
longest : (d : ℕ) (p : Pass) (s : State) → 8 ≤ d → wrong_in d p s ≡ 0 → p.end - p.start ≤ 6553
longest d p s least right =
    let size : ℕ = record_size d in
    let ten : 10 ≤ size = omega arith in
    let w = within d p s right in
    omega (arith, mul-le-mul_left p.end ten, w.fits, w.short, div-mul-le_self 65535 size)

pub overflow_sub-records : goal.overflow_sub-records
overflow_sub-records c =
    let a = c.args in
    let r = c.in_ok-reader in
    (within r.reader.form.d a.over (state_of a.image.now a.journal.now a.used) r.ensures.1).rising

pub with_list-requires-2-clause-room : goal.with_list-requires-2-clause-room
with_list-requires-2-clause-room c =
    let a = c.args in
    let r = c.in_ok-reader in
    longest r.reader.form.d a.over (state_of a.image.now a.journal.now a.used) r.reader.form.held.least r.ensures.1
