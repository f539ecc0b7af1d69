-- THE QUICK ENGINE (02's request 111): on every code of each family and edition, image and journal it answers as the plain one. Assumes
-- nothing.
use Rattle.std.specs.Prelude.{◌≡◌}
use Rattle.code.specs.declared.Code.{Code}
use Rattle.code.specs.declared.WideCode.{WideCode}
use Rattle.rows.specs.declared.RowCode.{RowCode}
use Rattle.rows.specs.declared.WideRowCode.{WideRowCode}
use Rattle.asked.specs.declared.Pass.{Pass}
use Rattle.asked.specs.Pass.{State}
use Rattle.pass.specs.Pass.{After}
use Rattle.desk.specs.Answers.{passed_of}
use Rattle.desk.specs.Wide.{wide_passed_of}
use Rattle.desk.specs.Rows.{rows_passed_of, wide_rows_passed_of}
use Rattle.desk.specs.Quick.{quick_passed_of, wide_quick_passed_of, rows_quick_passed_of, wide_rows_quick_passed_of}

-- the same answer, refusals and tally included, and the same image and journal afterwards
abbrev pub AsPlain : {C : Type 0} (quick plain : C → Pass → State → After) → Type 0
AsPlain {C} quick plain = (code : C) (p : Pass) (s : State) → quick code p s ≡ plain code p s

pub record QuickAsPlain : Type 0 where
  pub ten : AsPlain {C = Code} quick_passed_of passed_of
  pub wide : AsPlain {C = WideCode} wide_quick_passed_of wide_passed_of
  pub rows : AsPlain {C = RowCode} rows_quick_passed_of rows_passed_of
  pub wide_rows : AsPlain {C = WideRowCode} wide_rows_quick_passed_of wide_rows_passed_of
