-- A sheet for each station: document 02, request 107, and equation 2 of source document 004. Floats are those of lib.Ieee. Assumes nothing.
use Rattle.std.specs.Prelude.{Bool, true, false, not, ◌&&◌, cond, ℕ, leb, pos, Option, Some, None}
use lib.Ieee as Ieee
use lib.Ieee.{Float, binary64}
use Rattle.std.specs.Float.Ieee.Scale.{finite}
use Rattle.sheet.specs.declared.Sheet.{Sheet}
use Rattle.sheet.specs.declared.SheetAnswer.{SheetAnswer}
use Rattle.sheet.specs.declared.Asked.{Asked}
use Rattle.sheet.specs.declared.Limit.{Limit}
use Rattle.sheet.specs.declared.Limit.TheVariants.{Ceiling, Band, Open}

-- what is asked
abbrev pub asked : Float → ℕ → ℕ → ℕ → Limit → Asked
asked hours devices words mended limit =
    record { hours = hours; devices = devices; words = words; mended = mended; limit = limit }

-- plus zero, whose bits are all 0
abbrev pub zero_figure : Float
zero_figure = Ieee.of_bits binary64 0

-- a count as a float
abbrev pub figure_of : ℕ → Float
figure_of n = Ieee.of_int binary64 (pos n)

-- ---- what 19 asks

-- a count of devices or of words: neither 0 nor over 65,535
abbrev pub countable : ℕ → Bool
countable n = leb 1 n && leb n 65535

-- a limit's figure: finite, and not below zero
abbrev pub figure_stands : Float → Bool
figure_stands x = finite x && not (Ieee.lt x zero_figure)

-- a limit: its figures stand, and a band is not upside down
abbrev pub limit_stands : Limit → Bool
limit_stands (Ceiling high) = figure_stands high
limit_stands (Band low high) = figure_stands low && figure_stands high && not (Ieee.lt high low)
limit_stands Open = true

-- all that is asked: the counts, the hours, which are finite and above zero, and the limit
unfoldable pub stands : Asked → Bool
stands q =
    countable q.devices && countable q.words && leb q.mended q.words && finite q.hours
    && Ieee.lt zero_figure q.hours && limit_stands q.limit

-- ---- the sheet

-- hours per device divided by the device count, rounded once
abbrev pub station_hours : Float → ℕ → Float
station_hours hours devices = Ieee.div binary64 hours (figure_of devices)

-- the count of mended words over the count of words, rounded once
abbrev pub share_of : ℕ → ℕ → Float
share_of mended words = Ieee.div binary64 (figure_of mended) (figure_of words)

-- a share within the limit: ends are inside
abbrev pub within : Limit → Float → Bool
within (Ceiling high) share = Ieee.le share high
within (Band low high) share = Ieee.le low share && Ieee.le share high
within Open share = true

-- ---- the answer

-- number 19, nothing told, no, and three zeros
abbrev pub refused_sheet : SheetAnswer
refused_sheet =
    record { number = 19; told = 0; yes = false; sheet = record { device = zero_figure; station = zero_figure; share = zero_figure } }

-- the three figures
abbrev pub figures : Asked → Sheet
figures q = record { device = q.hours; station = station_hours q.hours q.devices; share = share_of q.mended q.words }

-- number 0, nothing told, the comparison, and the three figures
abbrev pub judged_sheet : Asked → SheetAnswer
judged_sheet q = record { number = 0; told = 0; yes = within q.limit (share_of q.mended q.words); sheet = figures q }

-- the figures where all that is asked stands
abbrev pub figures_of : Asked → Option Sheet
figures_of q = cond (stands q) (Some (figures q)) None

unfoldable pub sheet_of : Asked → SheetAnswer
unfolding stands
sheet_of q = cond (stands q) (judged_sheet q) refused_sheet
