-- THE PROOFS of the program's promises. Assumes nothing.
use mathlib.Core.Path.{sym}
use Rattle.record.specs.Layout.{data_size}
use Rattle.runs.proofs.Entries.{head-said}
use Rattle.report.specs.Text.{entry_line, line_of}
use Rattle.report.proofs.Decimal.{decimal_says}
use Rattle.mend.specs.Promises as promises
use Rattle.mend.proofs.Runs.{text_next, totals_next, left_next}

pub run-by-run : promises.RunByRun
run-by-run image b c h g = (text_next image b c h g, sym (totals_next image b c h g), sym (left_next image b c h g))

pub lines_say : promises.LinesSay
unfolding line_of
lines_say e h y b a = let said = head-said data_size e h y in λ i. entry_line (said.0 i) (said.1 i) (said.2 i) (said.3 i)

pub digits_say : promises.DigitsSay
digits_say = decimal_says
