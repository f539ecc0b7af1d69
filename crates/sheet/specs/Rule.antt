-- When the desk makes a sheet, when it says 19, and what a limit compares: document 02, request 107. Assumes nothing.
use Rattle.std.specs.Prelude.{◌≡◌, true, false, ◌⊎◌, ℕ, ◌≤◌, ◌<◌, Float}
use Rattle.std.specs.Float.Ieee as Ieee
use Rattle.std.specs.Float.Ieee.Scale.{finite}
use Rattle.sheet.specs.declared.Limit.{Limit}
use Rattle.sheet.specs.declared.Limit.TheVariants.{Ceiling, Band, Open}
use Rattle.sheet.specs.declared.Asked.{Asked}
use Rattle.sheet.specs.Sheets.{zero_figure, limit_stands}

-- a count of devices or of words that is 0 or over 65,535
abbrev pub BadCount : ℕ → Type 0
BadCount n = (n ≡ 0) ⊎ (65535 < n)

-- a limit's figure that is not finite, or below zero; a NaN is not finite, and minus zero is not below zero
abbrev pub BadFigure : Float → Type 0
BadFigure x = (finite x ≡ false) ⊎ (Ieee.lt x zero_figure ≡ true)

-- a limit with such a figure, or a band upside down
abbrev pub BadLimit : Limit → Type 0
BadLimit (Ceiling high) = BadFigure high
BadLimit (Band low high) = BadFigure low ⊎ (BadFigure high ⊎ (Ieee.lt high low ≡ true))
BadLimit Open = ⊥

-- 19, reason by reason
pub data NoSheet (q : Asked) : Type 0 where
  device-count : BadCount q.devices → NoSheet q
  word_count : BadCount q.words → NoSheet q
  mended-above : q.words < q.mended → NoSheet q
  hours-endless : finite q.hours ≡ false → NoSheet q
  hours-not-above : Ieee.lt zero_figure q.hours ≡ false → NoSheet q
  bad-limit : BadLimit q.limit → NoSheet q

-- none of these reasons
pub record Stands (q : Asked) : Type 0 where
  pub some_device : 1 ≤ q.devices
  pub most_devices : q.devices ≤ 65535
  pub some_word : 1 ≤ q.words
  pub most_words : q.words ≤ 65535
  pub most_mended : q.mended ≤ q.words
  pub finite_hours : finite q.hours ≡ true
  pub hours_above : Ieee.lt zero_figure q.hours ≡ true
  pub fit_limit : limit_stands q.limit ≡ true

-- the float comparison of a share with a limit: ends are inside, and with no limit it always holds
abbrev pub Within : Limit → Float → Type 0
Within (Ceiling high) share = Ieee.le share high ≡ true
Within (Band low high) share = (Ieee.le low share ≡ true) × (Ieee.le share high ≡ true)
Within Open share = Unit
