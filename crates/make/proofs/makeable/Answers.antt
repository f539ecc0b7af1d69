-- `make::makeable` meets its contract: each test that fails is a refusal. Assumes nothing.
use mathlib.Core.Path.{◌≡◌, sym}
use mathlib.Core.Logic.{inl, inr, ⊎_elim}
use Prim.Native.Nat.{ℕ, ◌-◌, ◌≤◌}
use native.Mathlib.Omega.{arith}
use Rattle.columns.proofs.Words.{shl_one}
use Rattle.judge.specs.Rule.{Sized, Limits}
use Rattle.make.proofs.Exactly.{no_data, no-checks, no_room, has_room}
use Rattle.order.proofs.Walk.{rows_fit}
use Rattle.make.proofs.makeable.Goals as goal

-- what the tests that hold say
sized : (most k : ℕ) → ¬ (k ≡ 0) → k ≤ most → Sized most k
sized most k some few = record { some = omega arith; few = few }

limits : (most k r : ℕ) → ¬ (k ≡ 0) → k ≤ most → 3 ≤ r → r ≤ 16 → Limits most k r
limits most k r some few least top = record { sized = sized most k some few; least = least; top = top }

pub returns-then-k-eq0 : goal.returns-then-k-eq0
returns-then-k-eq0 c =
    let a = c.args in
    sym (no_data a.most a.k a.r (⊎_elim (λ e. inl e) (λ p. inr p.1) c.then-k-eq0.either))

pub returns-then-r-lt3 : goal.returns-then-r-lt3
returns-then-r-lt3 c =
    let a = c.args in
    sym (no-checks a.most a.k a.r (sized a.most a.k c.if-k-eq0.false c.if-k-most.false)
    (⊎_elim (λ h. inl h) (λ p. inr p.1) c.then-r-lt3.either))

pub overflow_sub-half-2 : goal.overflow_sub-half-2
overflow_sub-half-2 c = omega (arith, shl_one 64 (c.args.r - 1) (omega arith), rows_fit c.args.r (omega arith))

pub returns-then-k-half : goal.returns-then-k-half
returns-then-k-half c =
    let a = c.args in
    sym (no_room a.most a.k a.r (limits a.most a.k a.r c.if-k-eq0.false c.if-k-most.false c.if-r-lt3.false c.if-r-gt16.false)
    (omega (arith, shl_one 64 (a.r - 1) (omega arith))))

pub returns : goal.returns
returns c =
    let a = c.args in
    sym (has_room a.most a.k a.r (limits a.most a.k a.r c.if-k-eq0.false c.if-k-most.false c.if-r-lt3.false c.if-r-gt16.false)
    (omega (arith, shl_one 64 (a.r - 1) (omega arith))))
