use mathlib.Core.Path.{sym, ap, ◌∙◌}
use Prim.Native.Nat.{ℕ, ◌+◌, ◌-◌}
use native.Mathlib.Omega.{arith}
use lib.Bits.{bit_xor}
use lib.ListN.{length}
use Rattle.columns.specs.Mix.{mix}
use Rattle.columns.specs.Solving.{solve_from, solve}
use Rattle.columns.proofs.Turns.{solve-turn, solve_end}
use Rattle.columns.proofs.solved.Goals as goal

pub loop-init : goal.loop-init
unfolding solve
loop-init c = grind arith

pub loop-preserved : goal.loop-preserved
loop-preserved c =
    let a = c.args in
    let l = c.loop in
    let n = length a.checks.now in
    ap (λ (m : ℕ). solve_from a.checks.now a.s (n - (l.counter + 1)) (bit_xor l.c (bit_xor m a.s)))
    (c.mixed.ensures ∙ ap (mix a.checks.now) c.from.ensures)
    ∙ sym (solve-turn a.checks.now a.s n l.counter l.c (omega arith)) ∙ l.invariant

pub returns : goal.returns
returns c =
    let a = c.args in
    let l = c.loop in
    sym (solve_end a.checks.now a.s (length a.checks.now) l.counter l.c (omega arith)) ∙ l.invariant
