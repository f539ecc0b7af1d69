-- The demands on places known to be bad: the promises of the ten-byte edition, for words with an empty high half. Assumes nothing.
use mathlib.Core.Path.{◌≡◌, refl, sym, ap, ap₂, subst, ◌∙◌}
use mathlib.Core.Logic.{inl, inr, ⊎_elim, ◌↔◌}
use mathlib.Core.List.{List, Memᴰ}
use Prim.Native.Nat.{ℕ}
use native.Mathlib.Omega.{arith}
use Rattle.columns.specs.Bits.{bit_at}
use Rattle.code.specs.declared.Code.{Code}
use Rattle.code.specs.Opened.{opened_of}
use Rattle.word.specs.declared.Word.{Word}
use Rattle.word.specs.Word.{word_of, data_of, check_of}
use Rattle.mending.proofs.Parts.{word_of_parts}
use Rattle.recover.specs.Recover.{recover_of}
use Rattle.finder.specs.Finder.{find_of}
use Rattle.editions.specs.Given as any
use Rattle.editions.proofs.OfBad as of_any
use Rattle.desk.specs.declared.ReadWord.{ReadWord}
use Rattle.desk.specs.declared.Recovered.{Recovered}
use Rattle.desk.specs.declared.BadPlaces.{BadPlaces}
use Rattle.desk.specs.Answers.{word_with, recovered_by, bad_places_by}
use Rattle.demands.specs.Definitions.{Accepted, Unstrayed}
use Rattle.demands.specs.Bad.{recover, given_back, Recoverable, find_bad, found_in}
use Rattle.demands.specs.Demands as demands
use Rattle.demands.specs.Editions.{narrow}
use Rattle.demands.proofs.Narrow.{accepted, strays, fits, low-is, parts_are, read_is, verdict-is, clean, clean_back}

module _ (code : Code) (a : Accepted code) where
  recover-is : (w : ℕ) (bad : List ℕ) → recover code w bad ≡ recovered_by (any.recover (narrow code) w bad)
  recover-is w bad = ap (λ (x : Word). recovered_by (recover_of (opened_of code) x bad)) (parts_are code a w)

  given_is : (u : ℕ) → recovered_by (any.given_back (narrow code) u) ≡ given_back code u
  given_is u = ap (λ (d : ℕ). record { number = 0; told = 0; «data» = d; check = check_of code.k u }) (low-is code a u)

  -- a word that is handed back by the one is handed back by the other
  back : (w : ℕ) (bad : List ℕ) (u : ℕ) → any.recover (narrow code) w bad ≡ any.given_back (narrow code) u
      → recover code w bad ≡ given_back code u
  back w bad u e = recover-is w bad ∙ ap recovered_by e ∙ given_is u

  -- an answer tells its word
  given_tells : (u v : ℕ) → given_back code u ≡ given_back code v → u ≡ v
  given_tells u v e =
      sym (word_of_parts code.k u)
      ∙ ap₂ (word_of code.k) (ap (λ (x : Recovered). x.«data») e) (ap (λ (x : Recovered). x.check) e)
      ∙ word_of_parts code.k v

  near : (w : ℕ) (bad : List ℕ) (u : ℕ) → Recoverable code w bad u → any.Recoverable (narrow code) w bad u
  near w bad u x = record { fits = x.fits; clean = clean code a u x.clean; near = x.near }

  near_back : (w : ℕ) (bad : List ℕ) (u : ℕ) → any.Recoverable (narrow code) w bad u → Recoverable code w bad u
  near_back w bad u x = record { fits = x.fits; clean = clean_back code a u x.clean; near = x.near }

pub recovering_refuses : demands.RecoveringRefuses
recovering_refuses code low check bad =
    let x = of_any.recovering_refuses (narrow code) (word_with low check) bad in (
      λ h. ap recovered_by (x.0 h),
      λ a h. ap recovered_by (x.1 (accepted code a) (strays code low check h)),
      λ a l h wrong. ap recovered_by (x.2 (accepted code a) (fits code a low check l h) wrong),
      λ a l h right.
          ⊎_elim (λ e. inl (ap recovered_by e)) (λ y. inr y) (x.3 (accepted code a) (fits code a low check l h) right),
    )

pub recovered_exactly : demands.RecoveredExactly
recovered_exactly code a w fit bad right =
    let x = of_any.recovered_exactly (narrow code) (accepted code a) w fit bad right in
    let from : (u : ℕ) → Recoverable code w bad u → recover code w bad ≡ given_back code u =
    λ u r. back code a w bad u ((x.0 u).1 (near code a w bad u r)) in (
      λ u. (
        λ h.
            ⊎_elim
            (λ e. let z : ◌≡◌ {A = ℕ} 23 0 = ap (λ (y : Recovered). y.number) (sym (recover-is code a w bad ∙ ap recovered_by e) ∙ h) in
            absurd (omega arith))
            (λ i.
            let same = given_tells code a i.0 u (sym (back code a w bad i.0 i.1) ∙ h) in
            subst (Recoverable code w bad) same (near_back code a w bad i.0 i.2))
            (of_any.one_of_two (narrow code) (accepted code a) w fit bad right _ refl),
        from u,
      ),
      (
        λ h u r. let z : ◌≡◌ {A = ℕ} 23 0 = ap (λ (y : Recovered). y.number) (sym h ∙ from u r) in omega arith,
        λ h. recover-is code a w bad ∙ ap recovered_by (x.1.1 (λ u r. h u (near_back code a w bad u r))),
      ),
    )

pub recovered_only : demands.RecoveredOnly
recovered_only code a w fit bad right u v x y =
    of_any.recovered_only (narrow code) (accepted code a) w fit bad right u v (near code a w bad u x) (near code a w bad v y)

pub three_columns : demands.ThreeColumns
three_columns code a = of_any.three_columns (narrow code) (accepted code a)

pub recovered_from_bad : demands.RecoveredFromBad
recovered_from_bad code a u w hu c hw bad right =
    let x = of_any.recovered_from_bad (narrow code) (accepted code a) u w hu (clean code a u c) hw bad right in
    (λ alike. back code a w bad u (x.0 alike), λ few q alike. back code a w bad u (x.1 few q alike))

pub recovered_as_read : demands.RecoveredAsRead
recovered_as_read code a w fit =
    let x = of_any.recovered_as_read (narrow code) (accepted code a) w fit in
    let v = verdict-is code a w in (
      λ h.
          recover-is code a w _
          ∙ ap recovered_by (x.0 (omega arith))
          ∙ sym (ap (λ (r : ReadWord). record { number = 0; told = 0; «data» = r.«data»; check = r.check }) (read_is code a w)),
      λ h. recover-is code a w _ ∙ ap recovered_by (x.1 (omega arith)),
    )

pub recovered_any_order : demands.RecoveredAnyOrder
recovered_any_order code a w fit bad other right right' many same =
    recover-is code a w bad
    ∙ ap recovered_by (of_any.recovered_any_order (narrow code) (accepted code a) w fit bad other right right' many same)
    ∙ sym (recover-is code a w other)

-- ---- the finder

pub finding_refuses : demands.FindingRefuses
finding_refuses code low check low' check' =
    let x = of_any.finding_refuses (narrow code) (word_with low check) (word_with low' check') in (
      λ h. ap bad_places_by (x.0 h),
      λ a h.
          ap bad_places_by (x.1 (accepted code a)
          (⊎_elim (λ y. inl (strays code low check y)) (λ y. inr (strays code low' check' y)) h)),
      λ a l h l' h'. x.2 (accepted code a) (fits code a low check l h) (fits code a low' check' l' h'),
    )

-- the word of ones in the answer, and its parts, are the same
module _ (code : Code) (acc : Accepted code) (a b : ℕ) (ha : Unstrayed code a) (hb : Unstrayed code b) where
  find_is : find_bad code a b ≡ bad_places_by (any.find_bad (narrow code) a b)
  find_is = ap₂ (λ (x y : Word). bad_places_by (find_of (opened_of code) x y)) (parts_are code acc a) (parts_are code acc b)

  in_parts_lem : ((find_bad code a b).«data» ≡ data_of code.k (any.found_in (narrow code) a b))
      × ((find_bad code a b).check ≡ check_of code.k (any.found_in (narrow code) a b))
  in_parts_lem =
      let e = of_any.found_in_parts (narrow code) (accepted code acc) a b ha hb in (
        ap (λ (f : BadPlaces). f.«data») find_is ∙ ap (λ (x : Word). x.low) e ∙ low-is code acc _,
        ap (λ (f : BadPlaces). f.check) find_is ∙ ap (λ (x : Word). x.check) e,
      )

  found_same : found_in code a b ≡ any.found_in (narrow code) a b
  found_same = ap₂ (word_of code.k) in_parts_lem.0 in_parts_lem.1 ∙ word_of_parts code.k (any.found_in (narrow code) a b)

pub found_exactly : demands.FoundExactly
found_exactly code acc a b ha hb p =
    let e = found_same code acc a b ha hb in
    let f = of_any.found_exactly (narrow code) (accepted code acc) a b ha hb p in
    (λ x. f.0 (sym (ap (λ (w : ℕ). bit_at w p) e) ∙ x), λ x. ap (λ (w : ℕ). bit_at w p) e ∙ f.1 x)

pub found_in_parts : demands.FoundInParts
found_in_parts code acc a b ha hb =
    let e = in_parts_lem code acc a b ha hb in
    let f = sym (found_same code acc a b ha hb) in
    (e.0 ∙ ap (data_of code.k) f, e.1 ∙ ap (check_of code.k) f)

pub stuck_found : demands.StuckFound
stuck_found code acc stuck held w a b fit x y =
    found_same code acc a b x.fits y.fits ∙ of_any.stuck_found (narrow code) (accepted code acc) stuck held w a b fit x y

pub found_recovered : demands.FoundRecovered
found_recovered code acc stuck held w a b fit x y u v hu c z bad few once found =
    back code acc v bad u
    (of_any.found_recovered (narrow code) (accepted code acc) stuck held w a b fit x y u v hu (clean code acc u c) z bad few once
    (subst (λ (f : ℕ). (p : ℕ) → Memᴰ p bad ↔ (bit_at f p ≡ 1)) (found_same code acc a b x.fits y.fits) found))
