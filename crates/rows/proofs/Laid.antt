-- An opened code with a chosen set of rows is laid out within its places, accepted or refused. Assumes nothing.
use mathlib.Core.Path.{◌≡◌, sym, ap, subst, ◌∙◌}
use mathlib.Core.List.{List}
use Prim.Native.Nat.{ℕ, ◌+◌, ◌-◌, ◌≤◌}
use native.Mathlib.Omega.{arith}
use lib.ListN.{length, take}
use lib.Seq.{length-take-le}
use Rattle.std.specs.Prelude.{Ok}
use Rattle.code.specs.declared.Opened.{Opened}
use Rattle.code.specs.Opened.{Laid}
use Rattle.code.proofs.Laid.{laid_by}
use Rattle.row_judge.specs.Judge.{judge_rows_in}
use Rattle.rows.specs.Opened.{standing_of_rows, opened_rows_in}
use Rattle.rows.proofs.Answers.{accepted_of_standing}
use Rattle.row_judge.proofs.Table.{rows_rule}

-- an accepted code has as many columns as it says, and its check columns are among them
pub accepted_few : (most : ℕ) (places : List ℕ) (n r rows : ℕ) → length places ≡ most + 16 → Ok tt ≡ judge_rows_in most places n r rows
    → n ≡ length (take n places)
accepted_few most places n r rows l e =
    let s = ((rows_rule most places n r rows).0 (sym e)).limits in
    let some = s.sized.some in
    let few = s.sized.few in
    let top = s.top in
    sym (length-take-le n places (omega arith))

pub accepted_rows : (most : ℕ) (places : List ℕ) (n r rows : ℕ) → Ok tt ≡ judge_rows_in most places n r rows → (r ≤ n) × (n ≤ most + 16)
accepted_rows most places n r rows e =
    let s = ((rows_rule most places n r rows).0 (sym e)).limits in
    let some = s.sized.some in
    let few = s.sized.few in
    let top = s.top in
    (omega arith, omega arith)

pub laid-rows : (most : ℕ) (places : List ℕ) (n r rows : ℕ) → length places ≡ most + 16 → most ≤ 128
    → Laid (opened_rows_in most places n r rows) × ((opened_rows_in most places n r rows).k ≤ most)
laid-rows most places n r rows e h =
    let v = judge_rows_in most places n r rows in
    laid_by most h (standing_of_rows v) (take n places) (n - r) rows
    (λ a.
    let s = ((rows_rule most places n r rows).0 (accepted_of_standing v a)).limits in
    let few = s.sized.few in
    let some = s.sized.some in
    let top = s.top in
    let l = length-take-le n places (omega arith) in
    (omega arith, omega arith, few))

-- a code whose places are all of an array of `most` + 16
pub opened_rows_lem : (most : ℕ) (places : List ℕ) (n r rows : ℕ) → length places ≡ most + 16 → most ≤ 128
    → (o : Opened) → o ≡ opened_rows_in (length places - 16) places n r rows
    → (o ≡ opened_rows_in most places n r rows) × (Laid o × (o.k ≤ most))
opened_rows_lem most places n r rows e h o s =
    let m : length places - 16 ≡ most = omega arith in
    let is = s ∙ ap (λ (x : ℕ). opened_rows_in x places n r rows) m in
    let l = laid-rows most places n r rows e h in
    (is, (subst Laid (sym is) l.0, subst (λ (x : Opened). x.k ≤ most) (sym is) l.1))
