-- The words that the demands on station sheets use. Assumes nothing.
use Rattle.std.specs.Prelude.{ℕ, Float}
use Rattle.sheet.specs.declared.Sheet.{Sheet}
use Rattle.sheet.specs.declared.SheetAnswer.{SheetAnswer}
use Rattle.sheet.specs.declared.Limit.{Limit}
use Rattle.sheet.specs.declared.Limit.TheVariants.{Ceiling, Band, Open}
use Rattle.sheet.specs.declared.Asked.{Asked}
use Rattle.sheets.specs.Nearest.{zero_float}
use Rattle.desk.specs.Answers.{ceiling_sheet, band_sheet, open_sheet}

-- each kind of limit has an exported function of its own
abbrev pub answer_for : Limit → Float → ℕ → ℕ → ℕ → SheetAnswer
answer_for (Ceiling high) hours devices words mended = ceiling_sheet hours devices words mended high
answer_for (Band low high) hours devices words mended = band_sheet hours devices words mended low high
answer_for Open hours devices words mended = open_sheet hours devices words mended

-- what the desk answers to all that is asked for a sheet
abbrev pub sheet_for : Asked → SheetAnswer
sheet_for q = answer_for q.limit q.hours q.devices q.words q.mended

-- three zeros
abbrev pub no_figures : Sheet
no_figures = record { device = zero_float; station = zero_float; share = zero_float }
