-- `make::made_columns` meets its contract: where nothing is refused, the first k of the empty places are handed on. Assumes nothing.
use mathlib.Core.Path.{◌≡◌, sym, ap, ◌∙◌}
use mathlib.Core.List.{List, ◌++◌}
use Prim.Native.Nat.{ℕ}
use native.Mathlib.Omega.{arith}
use lib.ListN.{drop, replicate}
use Rattle.judge.specs.Rule.{Limits}
use Rattle.order.specs.Order.{in_order}
use Rattle.make.specs.Made.{make_number}
use Rattle.make.proofs.Exactly.{done_exactly}
use Rattle.make.proofs.Putting.{put_first}
use Rattle.make.proofs.made_columns.Goals as goal

-- where the number is 0, the limits are kept
kept : (most k r : ℕ) → 0 ≡ make_number most k r → Limits most k r
kept most k r e = ((done_exactly most k r).0 (sym e)).0

pub whole_as_front-put_columns : goal.whole_as_front-put_columns
whole_as_front-put_columns g c =
    ((kept g.row.PLACES c.args.k c.args.r c.in_ok-makeable.ensures).sized.few, omega arith)

pub put_columns-requires : goal.put_columns-requires
put_columns-requires g c = (kept g.row.PLACES c.args.k c.args.r c.in_ok-makeable.ensures).top

pub returns-clause-columns : goal.returns-clause-columns
returns-clause-columns g c =
    let a = c.args in
    let n : ℕ = g.row.PLACES in
    ap (λ (l : List ℕ). l ++ drop a.k (replicate {A = ℕ} n 0)) c.put_columns.ensures
    ∙ put_first a.k n (in_order a.r) (kept n a.k a.r c.in_ok-makeable.ensures).sized.few
