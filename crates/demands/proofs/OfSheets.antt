-- The demands on station sheets, proved from the layers' laws. Assumes nothing.
use mathlib.Core.Path.{◌≡◌, refl, sym, ap, ◌∙◌, subst}
use mathlib.Core.Bool.{true, false}
use mathlib.Core.Logic.{◌↔◌}
use Prim.Native.Nat.{ℕ, ◌*◌, ◌<◌}
use native.Mathlib.Nat.{mul-pos}
use lib.Ieee as Ieee
use lib.Ieee.{Float, binary64, of_bits, round}
use lib.Ieee.Bits.{is_true}
use lib.Ieee.Scale.{finite}
use lib.Ieee.Positive.{num, den, den_pos}
use Rattle.sheet.specs.declared.Limit.{Limit}
use Rattle.sheet.specs.declared.Limit.TheVariants.{Ceiling, Band, Open}
use Rattle.sheet.specs.declared.Asked.{Asked}
use Rattle.sheet.specs.Sheets.{asked, zero_figure, sheet_of}
use Rattle.sheet.specs.Rule.{NoSheet, Stands, Within}
use Rattle.sheet.proofs.Exactly.{refused_exactly, refused_all, answered_exactly, answered_all, yes_exactly}
use Rattle.sheet.proofs.Zeros.{round-zero}
use Rattle.sheets.specs.Nearest.{zero_float, one_float, NearestOnly}
use Rattle.sheets.proofs.Rounding.{round-nearest, nearest-only}
use Rattle.sheets.proofs.Figures.{count_exact, share_is, share_finite, from_zero, to_one, all_one, station_is, station_finite}
use Rattle.demands.specs.Sheets.{answer_for, sheet_for, no_figures}
use Rattle.demands.specs.Demands as demands

-- the three exported functions are one question
for_limit : (limit : Limit) (hours : Float) (devices words mended : ℕ)
    → sheet_of (asked hours devices words mended limit) ≡ answer_for limit hours devices words mended
for_limit (Ceiling high) hours devices words mended = refl
for_limit (Band low high) hours devices words mended = refl
for_limit Open hours devices words mended = refl

same : (q : Asked) → sheet_of q ≡ sheet_for q
same q = for_limit q.limit q.hours q.devices q.words q.mended

pub sheet_refuses : demands.SheetRefuses
sheet_refuses q =
    subst
    (λ a. ((a.number ≡ 19) ↔ NoSheet q) × (NoSheet q → a ≡ record { number = 19; told = 0; yes = false; sheet = no_figures }))
    (same q)
    (refused_exactly q, refused_all q)

pub sheet_made : demands.SheetMade
sheet_made q =
    subst
    (λ a. ((a.number ≡ 0) ↔ Stands q) × (Stands q → (a.told ≡ 0) × (a.sheet.device ≡ q.hours)))
    (same q)
    (answered_exactly q, λ s. let e = answered_all q s in (ap (λ a. a.told) e, ap (λ a. a.sheet.device) e))

pub sheet_yes : demands.SheetYes
sheet_yes q =
    let y = yes_exactly q in
    let n = answered_exactly q in
    subst (λ a. (a.yes ≡ true) ↔ (Stands q × Within q.limit a.sheet.share)) (same q)
    (λ h. (n.0 (y.0 h).0, (y.0 h).1), λ h. y.1 (n.1 h.0, h.1))

pub counts_exact : demands.CountsExact
counts_exact = count_exact

-- ---- the figures

-- the share as `round` gives it
share_round : (q : Asked) → Stands q → (sheet_for q).sheet.share ≡ round binary64 false q.mended q.words
share_round q s =
    ap (λ a. a.sheet.share) (sym (same q) ∙ answered_all q s)
    ∙ share_is q.mended q.words s.some_word s.most_words s.most_mended

-- a figure that is what `round` gives
nearest_of : (x : Float) (a c : ℕ) → x ≡ round binary64 false a c → 0 < c → finite (round binary64 false a c) ≡ true
    → NearestOnly binary64 x a c
nearest_of x a c e C h =
    subst (λ (y : Float). NearestOnly binary64 y a c) (sym e)
    (record { nearest = round-nearest binary64 a c C h; only = nearest-only binary64 a c C h })

pub share_nearest : demands.ShareNearest
share_nearest q s =
    let e = share_round q s in
    let h = share_finite q.mended q.words s.some_word s.most_mended in
    (e, nearest_of (sheet_for q).sheet.share q.mended q.words e s.some_word h)

pub share_between : demands.ShareBetween
share_between q s =
    let e = share_round q s in
    let r = round binary64 false q.mended q.words in (
      ap (λ x. Ieee.le zero_float x) e ∙ is_true (Ieee.le zero_float r) (from_zero q.mended q.words s.some_word),
      ap (λ x. Ieee.le x one_float) e ∙ is_true (Ieee.le r one_float) (to_one q.mended q.words s.some_word s.most_mended),
    )

pub share_ends : demands.ShareEnds
share_ends q s =
    let e = share_round q s in (
      λ (z : q.mended ≡ 0). e ∙ ap (λ (n : ℕ). round binary64 false n q.words) z ∙ round-zero q.words s.some_word,
      λ (z : q.mended ≡ q.words). e ∙ ap (λ (n : ℕ). round binary64 false n q.words) z ∙ all_one q.words s.some_word,
    )

-- plus zero by its bits
zero_is : zero_figure ≡ zero_float
unfolding of_bits
zero_is = refl

pub station_nearest : demands.StationNearest
station_nearest q k s =
    let a = num q.hours in
    let c = den q.hours * q.devices in
    let above : Ieee.lt zero_float q.hours ≡ true = ap (λ x. Ieee.lt x q.hours) (sym zero_is) ∙ s.hours_above in
    let e : (sheet_for q).sheet.station ≡ round binary64 false a c =
    ap (λ a. a.sheet.station) (sym (same q) ∙ answered_all q s)
    ∙ station_is q.hours q.devices s.finite_hours above s.some_device s.most_devices in
    let h = station_finite q.hours q.devices k s.some_device in
    (e, nearest_of (sheet_for q).sheet.station a c e (mul-pos (den_pos q.hours) s.some_device) h)
