use mathlib.Core.Path.{◌≡◌, sym, ap, ◌∙◌}
use mathlib.Core.List.{List}
use Prim.Native.Nat.{ℕ, ◌+◌}
use native.Mathlib.Omega.{arith}
use lib.ListN.{length, take, set}
use lib.Seq.{length-take-le}
use Rattle.columns.specs.Mix.{column}
use Rattle.columns.proofs.Singles.{length-joined, check_at}
use Rattle.columns.proofs.Words.{shl_one}
use Rattle.judge.specs.Rule.{matrix}
use Rattle.code.proofs.Laying.{laid, laid-step, laid_end}
use Rattle.code.proofs.lay_singles.Goals as goal

pub loop-j-preserved : goal.loop-j-preserved
loop-j-preserved c =
    let a = c.args in
    let given : List ℕ = take a.k a.all.now in
    let few : length given ≡ a.k = length-take-le a.k a.all.now (omega (arith, c.requires.all_len.0, c.requires.r_bound.1)) in
    let m : List ℕ = matrix given a.r in
    let whole : length m ≡ a.k + a.r = length-joined given a.r ∙ ap (λ (n : ℕ). n + a.r) few in
    let p : ℕ = a.k + c.loop-j.j in
    let at : p ≡ length given + c.loop-j.j = omega (arith, few) in
    let one = ap (column m) at ∙ check_at given a.r c.loop-j.j (omega arith) in
    let e : p + 1 ≡ a.k + (c.loop-j.j + 1) = omega arith in
    rw c.loop-j.invariant
    (ap (set (laid m p) p) (shl_one 16 _ (omega arith) ∙ sym one)
    ∙ laid-step m p (omega (arith, whole)) (omega (arith, whole, c.requires.r_bound.1))
    ∙ ap (laid m) e)

pub returns : goal.returns
returns c =
    let a = c.args in
    let given : List ℕ = take a.k a.all.now in
    let few : length given ≡ a.k = length-take-le a.k a.all.now (omega (arith, c.requires.all_len.0, c.requires.r_bound.1)) in
    let whole : length (matrix given a.r) ≡ a.k + a.r = length-joined given a.r ∙ ap (λ (n : ℕ). n + a.r) few in
    c.loop-j.invariant ∙ laid_end (matrix given a.r) (a.k + c.loop-j.j) (omega (arith, whole))
