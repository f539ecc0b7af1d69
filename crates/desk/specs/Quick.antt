-- THE QUICK ENGINE (02's request 111): what its pass answers under codes of each family and edition. Spelled out, and not cited, so that
-- QuickAsPlain has something to say; what ties them to the engine is each function's equation. Assumes nothing.
use Rattle.code.specs.declared.Code.{Code}
use Rattle.code.specs.declared.WideCode.{WideCode}
use Rattle.code.specs.Opened.{opened_of, opened_wide}
use Rattle.rows.specs.declared.RowCode.{RowCode}
use Rattle.rows.specs.declared.WideRowCode.{WideRowCode}
use Rattle.rows.specs.Opened.{opened_rows, opened_wide_rows}
use Rattle.record.specs.Layout.{data_size, wide_size}
use Rattle.asked.specs.declared.Pass.{Pass}
use Rattle.asked.specs.Pass.{State}
use Rattle.pass.specs.Pass.{After, after_pass}

abbrev pub quick_passed_of : Code → Pass → State → After
quick_passed_of code p s = after_pass (opened_of code) data_size p s

abbrev pub wide_quick_passed_of : WideCode → Pass → State → After
wide_quick_passed_of code p s = after_pass (opened_wide code) wide_size p s

abbrev pub rows_quick_passed_of : RowCode → Pass → State → After
rows_quick_passed_of code p s = after_pass (opened_rows code) data_size p s

abbrev pub wide_rows_quick_passed_of : WideRowCode → Pass → State → After
wide_rows_quick_passed_of code p s = after_pass (opened_wide_rows code) wide_size p s
