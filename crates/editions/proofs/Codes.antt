-- A code of any family and edition that is accepted or refused: what its number says, and what it is opened to. Assumes nothing.
use mathlib.Core.Path.{◌≡◌, refl, sym, ap, ◌∙◌}
use mathlib.Core.Logic.{◌≢◌, ◌⊎◌, inl, inr, ⊎_elim}
use mathlib.Core.List.{List}
use Prim.Native.Nat.{ℕ, ◌-◌, ◌^◌, ◌≤◌, ◌<◌}
use native.Mathlib.Omega.{arith}
use lib.ListN.{length, take}
use Rattle.parity.specs.Odd.{odd_in}
use Rattle.columns.specs.Mix.{column}
use Rattle.columns.specs.Sound.{Sound}
use Rattle.code.specs.declared.Opened.{Opened}
use Rattle.std.specs.Prelude.{Ok, Err}
use Rattle.judge.specs.Rule.{Limits}
use Rattle.code.specs.Opened.{Standing, judgement_by, laid_out, opened_by, columns_of, Laid, SoundOpened}
use Rattle.code.proofs.Laid.{laid_by}
use Rattle.code.proofs.Laying.{laid_columns}
use Rattle.sound.proofs.Hsiao as hub
use Rattle.record.specs.Bytes.{AllBytes}
use Rattle.at_record.specs.Outcome.{Held}
use Rattle.editions.specs.Given as words
use Rattle.editions.specs.Given.{Given, standing_for, opened, set_of, matrix_of, data_columns, places_of, judgement_of, Refused, Handed}
use Rattle.editions.proofs.Families.{zero-stands, limits_by, below_by, sound_by, front_by}

refusal-stands : (s : Standing) → (judgement_by s).number ≢ 0 → s ≡ Err (judgement_by s)
refusal-stands (Ok u) n = absurd (n refl)
refusal-stands (Err f) n = refl

module _ (code : Given) where
  opened_standing : (s : Standing) (cs : List ℕ) (k rows : ℕ) → (opened_by s cs k rows).standing ≡ s
  opened_standing (Ok u) cs k rows = refl
  opened_standing (Err f) cs k rows = refl

  -- the judge's answer, as the desk gives it
  pub standing_is : (opened code).standing ≡ standing_for code
  standing_is = opened_standing (standing_for code) (matrix_of code) code.k (set_of code)

  pub judgement_is : judgement_of code ≡ judgement_by (standing_for code)
  judgement_is = ap judgement_by standing_is

  pub standing_refused : Refused code → (opened code).standing ≡ Err (judgement_of code)
  standing_refused n = refusal-stands (opened code).standing n

  -- what an accepted code is opened to
  module _ (e : (judgement_of code).number ≡ 0) where
    pub stands : standing_for code ≡ Ok tt
    stands =
        zero-stands code.family code.edition.places code.columns code.k code.r
        (sym (ap (λ f. f.number) judgement_is) ∙ e)

    pub standing-accepted : (opened code).standing ≡ Ok tt
    standing-accepted = standing_is ∙ stands

    pub opened-is : opened code ≡ laid_out (matrix_of code) code.k (set_of code)
    opened-is = ap (λ s. opened_by s (matrix_of code) code.k (set_of code)) stands

    pub data_is : (opened code).k ≡ code.k
    data_is = ap (λ (o : Opened). o.k) opened-is

    pub columns-are : columns_of (opened code) ≡ matrix_of code
    columns-are = ap columns_of opened-is ∙ laid_columns (matrix_of code)

    pub limits-kept : Limits code.edition.places code.k code.r
    limits-kept = limits_by code.edition.places code.columns code.k code.r code.family stands

    pub columns-below : (p : ℕ) → p < length (matrix_of code) → column (matrix_of code) p < 2 ^ code.r
    columns-below = below_by code.edition.places code.columns code.k code.r code.family stands

-- a code with all its places
module _ (code : Given) (h : Handed code) where
  sound_accepted : standing_for code ≡ Ok tt → Sound (odd_in (set_of code)) (matrix_of code) code.k code.r
  sound_accepted = sound_by code.edition.places code.columns code.k code.r code.family h.places

-- an accepted code as it is handed about
module _ (code : Given) (a : words.Accepted code) where
  pub limits_of : Limits code.edition.places code.k code.r
  limits_of = limits-kept code a.number

  pub sound_of : Sound (odd_in (set_of code)) (matrix_of code) code.k code.r
  sound_of = sound_accepted code a.handed (stands code a.number)

  pub places-length : length (matrix_of code) ≡ places_of code
  places-length = sound_of.size

  pub data_part : take code.k (matrix_of code) ≡ data_columns code
  data_part =
      front_by code.edition.places code.columns code.k code.r code.family a.handed.places (stands code a.number)

  -- the opened code has r check columns
  pub checks_are : (opened code).n - (opened code).k ≡ code.r
  checks_are =
      let n = places-length in
      ap (λ (o : Opened). o.n - o.k) (opened-is code a.number) ∙ omega arith

-- a code as it is handed about, accepted or refused: its opened code fits its edition's words and records
module _ (code : Given) (handed : words.Handed code) where
  laid-within : Laid (opened code) × ((opened code).k ≤ code.edition.places)
  laid-within =
      laid_by code.edition.places handed.known.most (standing_for code) (matrix_of code) code.k (set_of code)
      (λ a.
      let l = limits_by code.edition.places code.columns code.k code.r code.family a in
      let size = (sound_accepted code handed a).size in
      (omega arith, omega (arith, l.top), l.sized.few))

  pub laid_of : Laid (opened code)
  laid_of = laid-within.0

  pub held_of : Held code.edition.bytes (opened code).k
  held_of =
      let known = handed.known in
      let most = known.most in
      let room = known.held in
      let few = laid-within.1 in
      record { least = known.halves; most = omega arith; data_held = omega arith }

  pub sound_opened : SoundOpened (opened code)
  sound_opened = hub.sound_by (standing_for code) (matrix_of code) code.k (set_of code) code.r (sound_accepted code handed)

-- bytes, or a single half
pub bytes_of_lem : (code : Given) (image : List ℕ) → (judgement_of code).number ≡ 0 → words.InBytes code image
    → ((opened code).k ≤ 64) ⊎ AllBytes image
bytes_of_lem code image e = let k = data_is code e in ⊎_elim (λ (few : code.k ≤ 64). inl (omega arith)) (λ (b : AllBytes image). inr b)
