-- The answer in plain numbers: 19 exactly and what it hands back, 0 exactly and its figures, yes exactly. Assumes nothing.
use mathlib.Core.Path.{◌≡◌, refl, sym, ap, ◌∙◌, subst}
use mathlib.Core.Bool.{Bool, true, false, ◌&&◌, cond, true≢false}
use mathlib.Core.Logic.{◌↔◌}
use Prim.Native.Nat.{ℕ}
use native.Mathlib.Omega.{arith}
use lib.IntN.{pos}
use lib.Ieee as Ieee
use lib.Ieee.{Float, fin, binary64, of_bits}
use Rattle.std.specs.Prelude.{Some, None}
use Rattle.sheet.specs.declared.Sheet.{Sheet}
use Rattle.sheet.specs.declared.SheetAnswer.{SheetAnswer}
use Rattle.sheet.specs.declared.Limit.{Limit}
use Rattle.sheet.specs.declared.Limit.TheVariants.{Ceiling, Band, Open}
use Rattle.sheet.specs.declared.Asked.{Asked}
use Rattle.sheet.specs.Sheets.{share_of, within, stands, refused_sheet, figures, judged_sheet, figures_of, sheet_of}
use Rattle.sheet.specs.Rule.{NoSheet, Stands, Within}
use Rattle.sheet.proofs.Asking.{both, stands-says, falls, fallen, stood}

-- the answer's two rows
pub row : (q : Asked) (t : Bool) → stands q ≡ t → sheet_of q ≡ cond t (judged_sheet q) refused_sheet
unfolding sheet_of
row q t h = ap (λ t. cond t (judged_sheet q) refused_sheet) h

-- where there are figures, and where there are none
pub some_figures : (q : Asked) (sheet : Sheet) → figures_of q ≡ Some sheet → (stands q ≡ true) × (sheet ≡ figures q)
some_figures q sheet e = go (stands q) e
  where
    go : (t : Bool) → cond t (Some (figures q)) None ≡ Some sheet → (t ≡ true) × (sheet ≡ figures q)
    go true e = (refl, cc)
    go false e = cc

pub no_figures : (q : Asked) → figures_of q ≡ None → stands q ≡ false
no_figures q e = go (stands q) e
  where
    go : (t : Bool) → cond t (Some (figures q)) None ≡ None → t ≡ false
    go true e = cc
    go false e = refl

-- 19 exactly where one of its reasons holds
pub refused_exactly : (q : Asked) → ((sheet_of q).number ≡ 19) ↔ NoSheet q
refused_exactly q = (λ h. go (stands q) refl h, λ b. ap (λ a. a.number) (row q false (fallen q b)))
  where
    go : (t : Bool) → stands q ≡ t → (sheet_of q).number ≡ 19 → NoSheet q
    go true e h = let z : ◌≡◌ {A = ℕ} 0 19 = sym (ap (λ a. a.number) (row q true e)) ∙ h in absurd (omega arith)
    go false e h = falls q e

-- then nothing is told, it is no, and the three figures are plus zero
pub refused_all : (q : Asked) → NoSheet q
    → let nil = fin false 0 (pos 0) in
    sheet_of q ≡ record { number = 19; told = 0; yes = false; sheet = record { device = nil; station = nil; share = nil } }
unfolding of_bits
refused_all q b = row q false (fallen q b)

-- 0 exactly where none does
pub answered_exactly : (q : Asked) → ((sheet_of q).number ≡ 0) ↔ Stands q
answered_exactly q = (λ h. go (stands q) refl h, λ s. ap (λ a. a.number) (row q true (stood q s)))
  where
    go : (t : Bool) → stands q ≡ t → (sheet_of q).number ≡ 0 → Stands q
    go true e h = stands-says q e
    go false e h = let z : ◌≡◌ {A = ℕ} 19 0 = sym (ap (λ a. a.number) (row q false e)) ∙ h in absurd (omega arith)

-- then nothing is told, the hours are as given, and each other figure is one quotient of f64, rounded once
pub answered_all : (q : Asked) → Stands q
    → let share = Ieee.div binary64 (Ieee.of_int binary64 (pos q.mended)) (Ieee.of_int binary64 (pos q.words)) in
    let station = Ieee.div binary64 q.hours (Ieee.of_int binary64 (pos q.devices)) in
    sheet_of q
    ≡ record { number = 0; told = 0; yes = within q.limit share; sheet = record { device = q.hours; station = station; share = share } }
answered_all q s = row q true (stood q s)

-- yes exactly where the question is answered and the float comparison of its share holds
compared : (limit : Limit) (share : Float) → (within limit share ≡ true) ↔ Within limit share
compared (Ceiling high) share = (λ h. h, λ h. h)
compared (Band low high) share =
    (both (Ieee.le low share) (Ieee.le share high), λ h. ap (λ t. t && Ieee.le share high) h.0 ∙ h.1)
compared Open share = (λ h. tt, λ h. refl)

abbrev Judged : Limit → SheetAnswer → Type 0
Judged limit answer = (answer.yes ≡ true) ↔ ((answer.number ≡ 0) × Within limit answer.sheet.share)

pub yes_exactly : (q : Asked) → ((sheet_of q).yes ≡ true) ↔ (((sheet_of q).number ≡ 0) × Within q.limit (sheet_of q).sheet.share)
yes_exactly q = subst (Judged q.limit) (sym (row q (stands q) refl)) (go (stands q))
  where
    go : (t : Bool) → Judged q.limit (cond t (judged_sheet q) refused_sheet)
    go true =
        let c = compared q.limit (share_of q.mended q.words) in
        (λ h. (refl, c.0 h), λ h. c.1 h.1)
    go false = (λ h. absurd (true≢false (sym h)), λ h. let z = h.0 in absurd (omega arith))
