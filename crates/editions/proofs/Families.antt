-- What the law of each family gives of an accepted code, whatever the edition. Assumes nothing.
use mathlib.Core.Path.{◌≡◌, ap, subst}
use mathlib.Core.List.{List}
use Prim.Native.Nat.{ℕ, ◌+◌, ◌-◌, ◌^◌, ◌<◌}
use native.Mathlib.Omega.{arith}
use lib.ListN.{length, take}
use lib.Seq.{length-take-le, take_at, take-take}
use Rattle.parity.specs.Odd.{odd_in}
use Rattle.columns.specs.Mix.{column, singles}
use Rattle.columns.specs.Sound.{Sound}
use Rattle.std.specs.Prelude.{Ok}
use Rattle.judge.specs.Judge.{judge_in}
use Rattle.judge.specs.Rule.{Limits}
use Rattle.code.specs.Opened.{standing_of, judgement_by}
use Rattle.code.proofs.Laid.{accepted_of_standing}
use Rattle.code.proofs.Numbers as old
use Rattle.judge.proofs.Rule.{matrix_below}
use Rattle.judge.proofs.Table.{judge_rule}
use Rattle.row_judge.specs.Judge.{judge_rows_in}
use Rattle.row_judge.specs.Rule.{KeptRows}
use Rattle.row_judge.proofs.Table.{rows_rule}
use Rattle.rows.specs.Opened.{standing_of_rows}
use Rattle.rows.proofs.Answers as row-answers
use Rattle.sound.proofs.Hsiao.{accepted_sound}
use Rattle.sound.proofs.Rows.{rows_sound}
use Rattle.families.proofs.Numbers as new
use Rattle.editions.specs.Given.{Family, hsiao, chosen, places_for, standing_by, matrix_by, rows_by}

-- number 0 is an acceptance
pub zero-stands : (f : Family) (most : ℕ) (columns : List ℕ) (k r : ℕ)
    → (judgement_by (standing_by f most columns k r)).number ≡ 0 → standing_by f most columns k r ≡ Ok tt
zero-stands hsiao most columns k r e = ap standing_of (old.zero_accepts (judge_in most columns k r) e)
zero-stands (chosen rows) most columns k r e = ap standing_of_rows (new.zero_accepts (judge_rows_in most columns (k + r) r rows) e)

-- n - r data bits are k
same_bits : (k r : ℕ) → k + r - r ≡ k
same_bits k r = omega arith

-- a code with a chosen set keeps its rule
kept : (most : ℕ) (columns : List ℕ) (k r rows : ℕ) → standing_by (chosen rows) most columns k r ≡ Ok tt
    → KeptRows most columns (k + r) r rows
kept most columns k r rows e =
    (rows_rule most columns (k + r) r rows).0 (row-answers.accepted_of_standing (judge_rows_in most columns (k + r) r rows) e)

module _ (most : ℕ) (columns : List ℕ) (k r : ℕ) where
  pub limits_by : (f : Family) → standing_by f most columns k r ≡ Ok tt → Limits most k r
  limits_by hsiao e = ((judge_rule most columns k r).0 (accepted_of_standing (judge_in most columns k r) e)).limits
  limits_by (chosen rows) e = subst (λ (n : ℕ). Limits most n r) (same_bits k r) (kept most columns k r rows e).limits

  pub below_by : (f : Family) → standing_by f most columns k r ≡ Ok tt
      → (p : ℕ) → p < length (matrix_by f columns k r) → column (matrix_by f columns k r) p < 2 ^ r
  below_by hsiao e =
      matrix_below (take k columns) r ((judge_rule most columns k r).0 (accepted_of_standing (judge_in most columns k r) e)).rule
  below_by (chosen rows) e = (kept most columns k r rows e).rule.narrow

  pub sound_by : (f : Family) → length columns ≡ places_for f most → standing_by f most columns k r ≡ Ok tt
      → Sound (odd_in (rows_by f r)) (matrix_by f columns k r) k r
  sound_by hsiao l e = accepted_sound most columns k r l (accepted_of_standing (judge_in most columns k r) e)
  sound_by (chosen rows) l e =
      subst (λ (n : ℕ). Sound (odd_in rows) (take (k + r) columns) n r) (same_bits k r)
      (rows_sound most columns (k + r) r rows l (row-answers.accepted_of_standing (judge_rows_in most columns (k + r) r rows) e))

  -- the first k columns are the code's own
  pub front_by : (f : Family) → length columns ≡ places_for f most → standing_by f most columns k r ≡ Ok tt
      → take k (matrix_by f columns k r) ≡ take k columns
  front_by hsiao l e =
      let few = (limits_by hsiao e).sized.few in
      take_at (take k columns) (singles r) k (length-take-le k columns (omega arith))
  front_by (chosen rows) l e = take-take k (k + r) columns (omega arith)
