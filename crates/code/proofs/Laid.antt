-- Opened codes are laid out within their places, accepted or refused. Assumes nothing.
use mathlib.Core.Path.{◌≡◌, refl, sym, ap, subst, ◌∙◌}
use mathlib.Core.List.{List}
use Prim.Native.Nat.{ℕ, ◌+◌, ◌≤◌}
use native.Mathlib.Omega.{arith}
use lib.ListN.{length, take}
use lib.Seq.{length-take-le}
use Rattle.parity.specs.Odd.{all_rows}
use Rattle.columns.proofs.Singles.{length-joined}
use Rattle.code.specs.declared.Opened.{Opened}
use Rattle.std.specs.Prelude.{Ok, Err}
use Rattle.judge.specs.Judge.{Judged, judge_in}
use Rattle.judge.specs.Rule.{matrix}
use Rattle.code.specs.Opened.{Standing, standing_of, opened_by, opened_in, Laid}
use Rattle.judge.proofs.Table.{judge_rule}

-- only an acceptance stands accepted
pub accepted_of_standing : (v : Judged) → standing_of v ≡ Ok tt → v ≡ Ok tt
accepted_of_standing (Ok u) e = refl
accepted_of_standing (Err f) e = cc

-- an accepted code has as many data columns as it says, and at most 16 rows
pub accepted_few : (places : List ℕ) (k r : ℕ) → Ok tt ≡ judge_in (length places) places k r → k ≡ length (take k places)
accepted_few places k r e = sym (length-take-le k places ((judge_rule (length places) places k r).0 (sym e)).limits.sized.few)

pub accepted_rows : (places : List ℕ) (k r : ℕ) → Ok tt ≡ judge_in (length places) places k r → (r ≤ 16) × (k ≤ length places)
accepted_rows places k r e = let l = ((judge_rule (length places) places k r).0 (sym e)).limits in (l.top, l.sized.few)

-- what is within limits for an acceptance is so for any code
pub laid_by : (most : ℕ) → most ≤ 128 → (s : Standing) (cs : List ℕ) (k rows : ℕ)
    → (s ≡ Ok tt → (k ≤ length cs) × (length cs ≤ k + 16) × (k ≤ most))
    → Laid (opened_by s cs k rows) × ((opened_by s cs k rows).k ≤ most)
laid_by most h (Ok u) cs k rows f =
    let few = (f refl).2 in
    (record { parts = (f refl).0; checks = (f refl).1; data_most = omega arith }, few)
laid_by most h (Err r) cs k rows f =
    (record { parts = omega arith; checks = omega arith; data_most = omega arith }, omega arith)

pub laid_in : (most : ℕ) (columns : List ℕ) (k r : ℕ) → length columns ≡ most → most ≤ 128
    → Laid (opened_in most columns k r) × ((opened_in most columns k r).k ≤ most)
laid_in most columns k r e h =
    laid_by most h (standing_of (judge_in most columns k r)) (matrix (take k columns) r) k (all_rows r)
    (λ a.
    let s = ((judge_rule most columns k r).0 (accepted_of_standing (judge_in most columns k r) a)).limits in
    let few = s.sized.few in
    let top = s.top in
    let l = length-take-le k columns (omega arith) in
    let n = length-joined (take k columns) r in
    (omega arith, omega arith, few))

-- a code whose places are all of an array of `most` places
pub opened_within : (most : ℕ) (columns : List ℕ) (k r : ℕ) → length columns ≡ most → most ≤ 128
    → (o : Opened) → o ≡ opened_in (length columns) columns k r
    → (o ≡ opened_in most columns k r) × (Laid o × (o.k ≤ most))
opened_within most columns k r e h o s =
    let is = s ∙ ap (λ (m : ℕ). opened_in m columns k r) e in
    let l = laid_in most columns k r e h in
    (is, (subst Laid (sym is) l.0, subst (λ (x : Opened). x.k ≤ most) (sym is) l.1))
