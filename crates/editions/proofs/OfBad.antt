-- The promises on places known to be bad, proved from the layers' laws. Assumes nothing.
use mathlib.Core.Path.{◌≡◌, refl, sym, ap, ap₂, subst, ◌∙◌}
use mathlib.Core.Logic.{◌≢◌, ◌⊎◌, inl, inr, ⊎_elim, ◌↔◌}
use mathlib.Core.Bool.{Bool, true, false, cond, true≢false}
use mathlib.Core.List.{List, [], Memᴰ}
use Prim.Native.Nat.{ℕ, zero, suc, ◌^◌, ◌≤◌, ◌<◌}
use native.Mathlib.Omega.{arith}
use borrow.Author.Tests.{lt-ltb}
use lib.Bits.{bit_xor}
use lib.Dec.{ltb}
use lib.ListN.{length, get_or}
use Rattle.parity.proofs.Xor.{eq_of_xor_zero}
use Rattle.columns.specs.Mix.{column}
use Rattle.columns.specs.Bits.{bit_at}
use Rattle.columns.proofs.Errors.{column-nonzero, pair_nonzero, pair-no-column}
use Rattle.code.specs.declared.Opened.{Opened}
use Rattle.code.specs.Opened.{only}
use Rattle.code.proofs.Laying.{laid_columns}
use Rattle.word.specs.declared.Word.{Word}
use Rattle.verdict.specs.declared.Verdict.{Verdict}
use Rattle.verdict.specs.declared.Verdict.TheVariants.{Clean, Data, Check, Even, Odd, Stray}
use Rattle.word.specs.Word.{as_number, in_parts, stray_in}
use Rattle.verdict.specs.Verdicts.{finding_of}
use Rattle.mending.proofs.Parts.{number_of_parts, parts_of_number, parts_unstrayed}
use Rattle.mending.proofs.Reading.{data_inside, mended_number}
use Rattle.explained.proofs.Explanations.{clean_exactly}
use Rattle.std.specs.Prelude.{Option, Some, None}
use Rattle.reach.specs.Places.{stands, wrong_places}
use Rattle.reach.proofs.Places.{right-places}
use Rattle.recover.specs.declared.Recovery.{Recovery}
use Rattle.recover.specs.Recover as recovering
use Rattle.recover.specs.Recover.{flips_beside, proper_words, first_of, recover_in, recover_of}
use Rattle.recover.proofs.Answers.{in_stray, in-wrong, in_reach, answer_refused}
use Rattle.finder.specs.declared.Found.{Found}
use Rattle.finder.specs.Finder.{agreeing, refused_found, find_in, find_as, find_of}
use Rattle.finder.proofs.Answers.{find_first, find-second, find-done}
use Rattle.recovered.specs.Named.{WrongPlaces}
use Rattle.recovered.specs.Outside.{differing}
use Rattle.recovered.specs.Within.{Within}
use Rattle.recovered.proofs.Named.{stands_in, in_stands, at-stands, wrong_exactly, right_exactly}
use Rattle.recovered.proofs.Outside.{differs_at_lem, differs_nowhere}
use Rattle.recovered.proofs.Exactly.{within_once, within-found, found_within, none_found}
use Rattle.recovered.proofs.AsRead.{read_back, none_bad, any_order}
use Rattle.recovered.proofs.Finding as finding
use Rattle.editions.specs.Given.{Given, opened, set_of, matrix_of, places_of, judgement_of, Accepted, Strays, Fits, Unstrayed, read, only_number}
use Rattle.editions.specs.Given.{recovered_of, bad_places_of, recover, given_back, refused_recovered, Recoverable, find_bad, found_in}
use Rattle.editions.specs.Promises as promises
use Rattle.editions.proofs.Codes.{standing_refused, opened-is, places-length, sound_of}
use Rattle.editions.proofs.Words.{verdict_at, answered, answered-as, clean-zero}
use Rattle.editions.proofs.OfWords.{stray_is, strayed}
use Rattle.editions.proofs.OfWords as of_words

-- what a reached word is answered by
abbrev answer_to : Option Word → Recovery
answer_to x = recovering.recovered_by x

module _ (code : Given) (a : Accepted code) where
  abbrev rows : ℕ
  rows = set_of code

  abbrev cs : List ℕ
  cs = matrix_of code

  recovering_is : (x : Word) (bad : List ℕ) → recover_of (opened code) x bad ≡ recover_in rows cs code.k x bad
  recovering_is x bad =
      ap (λ (o : Opened). recover_of o x bad) (opened-is code a.number)
      ∙ ap (λ (l : List ℕ). recover_in rows l code.k x bad) (laid_columns cs)

  finding_is : (x y : Word) → find_of (opened code) x y ≡ find_in cs code.k x y
  finding_is x y =
      ap (λ (o : Opened). find_of o x y) (opened-is code a.number) ∙ ap (λ (l : List ℕ). find_in l code.k x y) (laid_columns cs)

  -- a word as one number has no stray bit
  module _ (w : ℕ) (fits : Unstrayed code w) where
    inside : w < 2 ^ length cs
    inside = rw (places-length code a) fits

    whole : stray_in (length cs) code.k (in_parts code.k w) ≡ false
    whole = parts_unstrayed (length cs) code.k w (data_inside rows (sound_of code a)) inside

    -- the answers of a word as one number
    recover-is : (bad : List ℕ) → recover code w bad ≡ recover_in rows cs code.k (in_parts code.k w) bad
    recover-is bad = recovering_is (in_parts code.k w) bad

    module _ (bad : List ℕ) (right : ¬ (WrongPlaces (places_of code) bad)) where
      right_is : wrong_places (length cs) bad ≡ false
      right_is = ap (λ (n : ℕ). wrong_places n bad) (places-length code a) ∙ right_exactly (places_of code) bad right

      abbrev reached : Option Word
      reached = first_of code.k (proper_words rows cs code.k w bad)

      recover-reached : recover code w bad ≡ answer_to reached
      recover-reached =
          recover-is bad
          ∙ in_reach rows cs code.k (in_parts code.k w) bad whole right_is
          ∙ ap (λ (x : ℕ). recovering.recovered_by (first_of code.k (proper_words rows cs code.k x bad))) (number_of_parts code.k w)

      -- the two ways to say that a word is near
      flips-are : (e : ℕ) → e ≤ 3 → cond (ltb e 2) 1 0 ≡ flips_beside e
      flips-are zero h = refl
      flips-are (suc zero) h = refl
      flips-are (suc (suc zero)) h = refl
      flips-are (suc (suc (suc zero))) h = refl
      flips-are (suc (suc (suc (suc e)))) h = absurd (omega arith)

      spare : cond (ltb (length bad) 2) 1 0 ≡ flips_beside (length bad)
      spare = flips-are (length bad) (right-places (length cs) bad right_is).0

      within : (u : ℕ) → Recoverable code w bad u → Within rows cs code.k w bad u
      within u x =
          let l : u < 2 ^ length cs = rw (places-length code a) x.fits in
          record {
            fits = l;
            proper =
                (clean_exactly rows cs code.k u (data_inside rows (sound_of code a)) l).1
                ((clean-zero code a u x.fits).0 x.clean);
            near = omega (arith, x.near, spare, ap (λ (n : ℕ). differing n bad u w) (places-length code a));
          }

      recoverable : (u : ℕ) → Within rows cs code.k w bad u → Recoverable code w bad u
      recoverable u x =
          let l : Unstrayed code u = rw (places-length code a) at x.fits in
          record {
            fits = l;
            clean =
                (clean-zero code a u l).1
                ((clean_exactly rows cs code.k u (data_inside rows (sound_of code a)) x.fits).0 x.proper);
            near = omega (arith, x.near, spare, ap (λ (n : ℕ). differing n bad u w) (places-length code a));
          }

      -- an answer tells its word
      given_tells : (u v : ℕ) → given_back code u ≡ given_back code v → u ≡ v
      given_tells u v e =
          sym (number_of_parts code.k u)
          ∙ ap (λ (x : Recovery). as_number code.k x.word) e
          ∙ number_of_parts code.k v

      given-found : (u : ℕ) → Recoverable code w bad u → recover code w bad ≡ given_back code u
      given-found u x = recover-reached ∙ ap answer_to (within-found rows (sound_of code a) w bad inside right_is u (within u x))

      found-given : (x : Option Word) → reached ≡ x → (u : ℕ) → recover code w bad ≡ given_back code u → Recoverable code w bad u
      found-given None e u h =
          let z : ◌≡◌ {A = ℕ} 23 0 = ap (λ (y : Recovery). y.number) (sym (recover-reached ∙ ap answer_to e) ∙ h) in
          absurd (omega arith)
      found-given (Some x) e u h =
          let i = found_within rows (sound_of code a) w bad inside right_is x e in
          let same = given_tells i.0 u (sym (recover-reached ∙ ap answer_to (e ∙ ap Some i.2)) ∙ h) in
          subst (Recoverable code w bad) same (recoverable i.0 i.1)

      none-given : recover code w bad ≡ refused_recovered (only_number 23) → (u : ℕ) → ¬ (Recoverable code w bad u)
      none-given h u y =
          let z : ◌≡◌ {A = ℕ} 23 0 = ap (λ (v : Recovery). v.number) (sym h ∙ given-found u y) in
          omega arith

      given-none : ((u : ℕ) → ¬ (Recoverable code w bad u)) → recover code w bad ≡ refused_recovered (only_number 23)
      given-none h =
          recover-reached
          ∙ ap answer_to ((none_found rows (sound_of code a) w bad inside right_is).0 (λ u x. h u (recoverable u x)))

      -- 23, or a word that is handed back
      pub one_of_two : (x : Option Word) → reached ≡ x
          → (recover code w bad ≡ refused_recovered (only_number 23))
          ⊎ ((u : ℕ) × (recover code w bad ≡ given_back code u) × Recoverable code w bad u)
      one_of_two None e = inl (recover-reached ∙ ap answer_to e)
      one_of_two (Some x) e =
          let i = found_within rows (sound_of code a) w bad inside right_is x e in
          inr (i.0, recover-reached ∙ ap answer_to (e ∙ ap Some i.2), recoverable i.0 i.1)

      either : (x : Option Word) → reached ≡ x
          → (recover code w bad ≡ refused_recovered (only_number 23)) ⊎ (((recover code w bad).number ≡ 0) × ((recover code w bad).told ≡ 0))
      either None e = inl (recover-reached ∙ ap answer_to e)
      either (Some x) e =
          let y = recover-reached ∙ ap answer_to e in
          inr (ap (λ (v : Recovery). v.number) y, ap (λ (v : Recovery). v.told) y)

-- ---- the demands

pub recovering_refuses : (code : Given) → promises.RecoveringRefuses code
recovering_refuses code x bad =
    let n : Accepted code → length (matrix_of code) ≡ places_of code = places-length code in
    let parts : (a : Accepted code) (f : Fits code x) → recovered_of code x bad ≡ recover code (as_number code.k x) bad =
    λ a f. sym (ap (λ (y : Word). recovered_of code y bad) (parts_of_number code.k x f.low_half f.data_bits)) in (
      λ h. answer_refused (opened code) x bad (judgement_of code) (standing_refused code h),
      λ a h.
          recovering_is code a x bad
          ∙ in_stray (set_of code) (matrix_of code) code.k x bad (stray_is code a x ∙ strayed code a x h),
      λ a f wrong.
          let w = as_number code.k x in
          let fits = of_words.fits code a x f in
          parts a f
          ∙ recover-is code a w fits bad
          ∙ in-wrong (set_of code) (matrix_of code) code.k (in_parts code.k w) bad (whole code a w fits)
          (ap (λ (m : ℕ). wrong_places m bad) (n a) ∙ (wrong_exactly (places_of code) bad).1 wrong),
      λ a f right.
          let w = as_number code.k x in
          let fits = of_words.fits code a x f in
          subst (λ (y : Recovery). (y ≡ refused_recovered (only_number 23)) ⊎ ((y.number ≡ 0) × (y.told ≡ 0)))
          (sym (parts a f)) (either code a w fits bad right _ refl),
    )

pub recovered_exactly : (code : Given) → promises.RecoveredExactly code
recovered_exactly code a w fits bad right = (
  λ u. (found-given code a w fits bad right _ refl u, given-found code a w fits bad right u),
  (none-given code a w fits bad right, given-none code a w fits bad right),
)

pub recovered_only : (code : Given) → promises.RecoveredOnly code
recovered_only code a w fits bad right u v x y =
    within_once (set_of code) (sound_of code a) w bad (inside code a w fits) (right_is code a w fits bad right) u v
    (within code a w fits bad right u x) (within code a w fits bad right v y)

pub three_columns : (code : Given) → promises.ThreeColumns code
three_columns code a =
    let s = sound_of code a in
    let n = places-length code a in (
      λ p h. column-nonzero s.good s.parity p (omega arith),
      λ p q h l ne. pair_nonzero s.good p q (omega arith) (omega arith) ne,
      λ p q t h l m ne nf ng e.
          pair-no-column s.good s.parity p q t (omega arith) (omega arith) (omega arith)
          (eq_of_xor_zero (bit_xor (column (matrix_of code) p) (column (matrix_of code) q)) (column (matrix_of code) t) e),
    )

-- a place that is not found in the list is no member of it
away : (p : ℕ) (bad : List ℕ) → stands p bad ≡ false → ¬ (Memᴰ p bad)
away p bad h m = true≢false (sym (in_stands p bad m) ∙ h)

pub recovered_from_bad : (code : Given) → promises.RecoveredFromBad code
recovered_from_bad code a u w hu clean hw bad right = (
  λ alike.
      let d = differs_nowhere (places_of code) bad u w (λ p l h. alike p l (away p bad h)) in
      given-found code a w hw bad right u (record { fits = hu; clean = clean; near = omega (arith, d) }),
  λ few q alike.
      let d = differs_at_lem (places_of code) bad u w q (λ p l h ne. alike p l (away p bad h) ne) in
      let one = ap (λ (b : Bool). cond {A = ℕ} b 1 0) (lt-ltb (length bad) 2 (omega arith)) in
      given-found code a w hw bad right u (record { fits = hu; clean = clean; near = omega (arith, d, one) }),
)

-- nothing is wrong with no bad place
none_right : (n : ℕ) → ¬ (WrongPlaces n [])
none_right n =
    ⊎_elim (λ (h : 3 < 0). omega arith) (⊎_elim (λ x. omega (arith, x.3)) (λ x. omega (arith, x.1)))

module _ (code : Given) (a : Accepted code) (w : ℕ) (fits : Unstrayed code w) where
  -- the word that reading hands back
  abbrev as_read : Recovery
  as_read = record { number = 0; told = 0; word = (read code w).word }

  by-verdict : (v : Verdict) → verdict_at code a w ≡ v → recover code w [] ≡ answer_to (read_back v code.k w)
  by-verdict v e =
      recover-reached code a w fits [] (none_right (places_of code))
      ∙ ap answer_to (none_bad (set_of code) (sound_of code a) w (inside code a w fits) ∙ ap (λ (x : Verdict). read_back x code.k w) e)

  mended_is : (v : Verdict) → verdict_at code a w ≡ v → answer_to (Some (in_parts code.k (mended_number v w))) ≡ as_read
  mended_is v e =
      ap (λ (x : Word). record { number = 0; told = 0; word = x }) (sym (answered-as code a w fits v e).hands)

  back : (v : Verdict) → verdict_at code a w ≡ v → (finding_of v).verdict ≤ 2 → recover code w [] ≡ as_read
  back Clean e h = by-verdict Clean e ∙ mended_is Clean e
  back (Data p) e h = by-verdict (Data p) e ∙ mended_is (Data p) e
  back (Check p) e h = by-verdict (Check p) e ∙ mended_is (Check p) e
  back Even e h = absurd (omega arith)
  back Odd e h = absurd (omega arith)
  back Stray e h = absurd (omega arith)

  flagged : (v : Verdict) → verdict_at code a w ≡ v → 3 ≤ (finding_of v).verdict → recover code w [] ≡ refused_recovered (only_number 23)
  flagged Clean e h = absurd (omega arith)
  flagged (Data p) e h = absurd (omega arith)
  flagged (Check p) e h = absurd (omega arith)
  flagged Even e h = by-verdict Even e
  flagged Odd e h = by-verdict Odd e
  flagged Stray e h = by-verdict Stray e

pub recovered_as_read : (code : Given) → promises.RecoveredAsRead code
recovered_as_read code a w fits =
    let v = (answered code a w fits).verdict in (
      λ h. back code a w fits (verdict_at code a w) refl (omega (arith, h, v)),
      λ h. flagged code a w fits (verdict_at code a w) refl (omega (arith, h, v)),
    )

-- the same members, the same answers of `stands`
same_stands : (bad other : List ℕ) → ((p : ℕ) → Memᴰ p bad ↔ Memᴰ p other) → (p : ℕ) → stands p bad ≡ stands p other
same_stands bad other h p = go (stands p bad) (stands p other) refl refl
  where
    go : (x y : Bool) → stands p bad ≡ x → stands p other ≡ y → x ≡ y
    go true true e f = refl
    go true false e f = absurd (true≢false (sym (in_stands p other ((h p).0 (stands_in p bad e))) ∙ f))
    go false true e f = absurd (true≢false (sym (in_stands p bad ((h p).1 (stands_in p other f))) ∙ e))
    go false false e f = refl

pub recovered_any_order : (code : Given) → promises.RecoveredAnyOrder code
recovered_any_order code a w fits bad other right right' many same =
    recover-reached code a w fits bad right
    ∙ ap answer_to (any_order (set_of code) (sound_of code a) w (inside code a w fits) bad other (right_is code a w fits bad right)
    (right_is code a w fits other right') (same_stands bad other same) many)
    ∙ sym (recover-reached code a w fits other right')

-- ---- the finder

module _ (code : Given) (a : Accepted code) (x y : ℕ) (hx : Unstrayed code x) (hy : Unstrayed code y) where
  abbrev agreed : ℕ
  agreed = agreeing (places_of code) x y

  find_is : find_bad code x y ≡ record { number = 0; told = 0; word = in_parts code.k agreed }
  find_is =
      let k = code.k in
      let cs = matrix_of code in
      finding_is code a (in_parts k x) (in_parts k y)
      ∙ find-done cs k (in_parts k x) (in_parts k y) (whole code a x hx) (whole code a y hy)
      ∙ ap (λ (w : ℕ). record { number = 0; told = 0; word = in_parts k w })
      (ap₂ (agreeing (length cs)) (number_of_parts k x) (number_of_parts k y) ∙ ap (λ (n : ℕ). agreeing n x y) (places-length code a))

  found-is : found_in code x y ≡ agreed
  found-is = ap (λ (b : Found). as_number code.k b.word) find_is ∙ number_of_parts code.k agreed

-- a stray bit in either read
module _ (code : Given) (a : Accepted code) (x y : Word) where
  stray_here : (z : Word) → Strays code z → stray_in (length (matrix_of code)) code.k z ≡ true
  stray_here z h = stray_is code a z ∙ strayed code a z h

  second_stray : (b : Bool) → stray_in (length (matrix_of code)) code.k x ≡ b
      → stray_in (length (matrix_of code)) code.k y ≡ true → find_in (matrix_of code) code.k x y ≡ refused_found (only 7)
  second_stray true e f = find_first (matrix_of code) code.k x y e
  second_stray false e f = find-second (matrix_of code) code.k x y e f

  either_stray : Strays code x ⊎ Strays code y → find_in (matrix_of code) code.k x y ≡ refused_found (only 7)
  either_stray =
      ⊎_elim
      (λ (h : Strays code x). find_first (matrix_of code) code.k x y (stray_here x h))
      (λ (h : Strays code y). second_stray (stray_in (length (matrix_of code)) code.k x) refl (stray_here y h))

  -- two reads in their parts, each as one number
  find_parts : Fits code x → Fits code y
      → bad_places_of code x y ≡ find_bad code (as_number code.k x) (as_number code.k y)
  find_parts f g =
      let k = code.k in
      sym (ap₂ (bad_places_of code) (parts_of_number k x f.low_half f.data_bits) (parts_of_number k y g.low_half g.data_bits))

pub finding_refuses : (code : Given) → promises.FindingRefuses code
finding_refuses code x y = (
  λ h. ap (λ s. find_as s (opened code) x y) (standing_refused code h),
  λ a h. finding_is code a x y ∙ either_stray code a x y h,
  λ a f g.
      let e =
      find_parts code a x y f g
      ∙ find_is code a (as_number code.k x) (as_number code.k y) (of_words.fits code a x f) (of_words.fits code a y g) in
      (ap (λ (b : Found). b.number) e, ap (λ (b : Found). b.told) e),
)

pub found_exactly : (code : Given) → promises.FoundExactly code
found_exactly code acc a b ha hb p =
    let e = found-is code acc a b ha hb in
    let f = finding.found_exactly (places_of code) a b ha hb p in
    (λ x. f.0 (sym (ap (λ (w : ℕ). bit_at w p) e) ∙ x), λ x. ap (λ (w : ℕ). bit_at w p) e ∙ f.1 x)

pub found_in_parts : (code : Given) → promises.FoundInParts code
found_in_parts code acc a b ha hb =
    ap (λ (f : Found). f.word) (find_is code acc a b ha hb) ∙ ap (in_parts code.k) (sym (found-is code acc a b ha hb))

pub stuck_found : (code : Given) → promises.StuckFound code
stuck_found code acc stuck held w a b fits x y =
    found-is code acc a b x.fits y.fits ∙ finding.stuck_found (places_of code) stuck held w a b fits x y

pub found_recovered : (code : Given) → promises.FoundRecovered code
found_recovered code acc stuck held w a b fits x y u v hu clean z bad few once found =
    let e = stuck_found code acc stuck held w a b fits x y in
    (recovered_from_bad code acc u v hu clean z.fits bad right).0 (λ p l h. sym (z.keeps p l (kept p h e)))
  where
    right : ¬ (WrongPlaces (places_of code) bad)
    right =
        ⊎_elim (λ h. omega arith)
        (⊎_elim once
        (λ i.
        let m = (found (get_or bad i.0 0)).0 (stands_in (get_or bad i.0 0) bad (at-stands bad i.0 i.1)) in
        omega (arith, ((found_exactly code acc a b x.fits y.fits (get_or bad i.0 0)).0 m).0, i.2)))

    kept : (p : ℕ) → ¬ (Memᴰ p bad) → found_in code a b ≡ stuck → bit_at stuck p ≡ 0
    kept p h e =
        let off : bit_at stuck p ≢ 1 = λ one. h ((found p).1 (ap (λ (s : ℕ). bit_at s p) e ∙ one)) in
        omega arith
