-- The promises on writing and reading one word, proved from the layers' laws. Assumes nothing.
use mathlib.Core.Path.{◌≡◌, refl, sym, ap, ap₂, subst, ◌∙◌}
use mathlib.Core.Bool.{true, cond}
use mathlib.Core.Logic.{◌≢◌, ◌⊎◌, inl, inr, ⊎_elim, ◌↔◌}
use mathlib.Core.List.{List}
use Prim.Native.Nat.{ℕ, ◌-◌, ◌^◌, ◌≤◌, ◌<◌}
use native.Mathlib.Omega.{arith}
use borrow.Author.Tests.{lt-ltb, le-ltb, lt-leb}
use lib.Bits.{bit_xor}
use lib.ListN.{length, take}
use Rattle.parity.specs.Odd.{odd_ones, odd_in}
use Rattle.parity.proofs.Ones.{below_or_not}
use Rattle.parity.proofs.Rows.{odd_all}
use Rattle.columns.specs.Mix.{column, mix, flipped}
use Rattle.columns.specs.Bits.{bit_at}
use Rattle.columns.proofs.Linear.{mix_identity}
use Rattle.columns.proofs.Rows.{mix_bit}
use Rattle.columns.proofs.Words.{mix-lt, flip_lt, flip_flip}
use Rattle.code.specs.declared.Opened.{Opened}
use Rattle.code.proofs.Laying.{laid_columns}
use Rattle.writing.specs.declared.CheckWord.{CheckWord}
use Rattle.verdict.specs.declared.Verdict.{Verdict}
use Rattle.verdict.specs.declared.Verdict.TheVariants.{Clean, Data, Check, Even, Odd, Stray}
use Rattle.word.specs.Word.{word_of, as_number, stray_in}
use Rattle.word.specs.Verdicts.{syndrome_in}
use Rattle.verdict.specs.Verdicts.{finding_of}
use Rattle.reading.specs.Reading.{reading_as, reading_by}
use Rattle.writing.specs.Writing.{checks_of, write_in, writing_as, writing_of}
use Rattle.verdict.proofs.Rows.{on_clean}
use Rattle.word.proofs.Strays.{in_stray}
use Rattle.writing.proofs.Writing.{write_checks}
use Rattle.reading.proofs.Exactly.{stray_refused}
use Rattle.writing.proofs.Exactly.{stray_unwritten}
use Rattle.mending.proofs.Parts.{word_fits, parts_of_number}
use Rattle.mending.proofs.Strays.{stray_of}
use Rattle.mending.proofs.Reading.{one-flip-data, one-flip-check, two-flips-even, data_mends, check_mends, even_unmended, odd_unmended}
use Rattle.mending.proofs.Writing.{data_mix_fits, mix_parts, written-fits, written_clean, written-only}
use Rattle.word.specs.declared.Word.{Word}
use Rattle.reading.specs.declared.Reading.{Reading}
use Rattle.editions.specs.Given.{Given, HsiaoCode, given, opened, set_of, matrix_of, data_columns, places_of, judgement_of, written_of, read_of, Accepted}
use Rattle.editions.specs.Given.{bits_of, Strays, Fits, Unstrayed, read, HandsBack}
use Rattle.editions.specs.Given as words
use Rattle.editions.specs.Promises as promises
use Rattle.editions.proofs.Codes.{standing_refused, opened-is, places-length, sound_of, data_part}
use Rattle.editions.proofs.Hsiao.{rule_of_code, check_part}
use Rattle.editions.proofs.Words as words_of
use Rattle.editions.proofs.Words.{verdict_at, reading_is, answered, answered-as, table, clean-zero}

-- ---- writing

module _ (code : Given) (e : (judgement_of code).number ≡ 0) where
  writing_is : (bits : ℕ) → written_of code bits ≡ write_in (matrix_of code) code.k bits
  writing_is bits =
      ap (λ (o : Opened). writing_of o bits) (opened-is code e)
      ∙ ap (λ (cs : List ℕ). write_in cs code.k bits) (laid_columns (matrix_of code))

pub writing_refuses : (code : Given) → promises.WritingRefuses code
writing_refuses code bits = (
  λ h. ap (λ s. writing_as s (opened code) bits) (standing_refused code h),
  λ e l. writing_is code e bits ∙ stray_unwritten (matrix_of code) code.k bits l,
  λ e l.
      let x = writing_is code e bits ∙ write_checks (matrix_of code) code.k bits (lt-leb (2 ^ code.k) bits l) in
      (ap (λ (c : CheckWord). c.number) x, ap (λ (c : CheckWord). c.told) x),
)

-- the check bits that are solved for
module _ (code : Given) (e : (judgement_of code).number ≡ 0) (low : ℕ) (l : low < 2 ^ code.k) where
  written-checks : (written_of code low).check ≡ checks_of (matrix_of code) code.k low
  written-checks =
      ap (λ (c : CheckWord). c.check) (writing_is code e low ∙ write_checks (matrix_of code) code.k low (lt-leb (2 ^ code.k) low l))

pub writing_solves : (code : Given) → promises.WritingSolves code
writing_solves code a bits h =
    let s = sound_of code a in
    let w = written-checks code a.number bits h in (
      rw w (written-fits s bits),
      ap (λ (c : ℕ). mix (matrix_of code) (word_of code.k bits c)) w ∙ written_clean s bits h,
      λ d l z. sym (w ∙ written-only s bits d h l z),
    )

-- single ones are solved by the syndrome itself
module _ (code : HsiaoCode) (a : Accepted (given code)) where
  abbrev any : Given
  any = given code

  checks-mix : (low : ℕ) → checks_of (matrix_of any) code.k low ≡ mix (data_columns any) low
  checks-mix low =
      let s = sound_of any a in
      let c = checks_of (matrix_of any) code.k low in
      sym (mix_identity code.r c (written-fits s low))
      ∙ ap (λ (cs : List ℕ). mix cs c) (sym (check_part code a))
      ∙ (s.writes.solved (mix (take code.k (matrix_of any)) low) (data_mix_fits s low)).0
      ∙ ap (λ (cs : List ℕ). mix cs low) (data_part any a)

  pub written-mix : (low : ℕ) → low < 2 ^ code.k → (written_of any low).check ≡ mix (data_columns any) low
  written-mix low l = written-checks any a.number low l ∙ checks-mix low

pub writing_bits : (code : HsiaoCode) → promises.WritingBits code
writing_bits code a bits h =
    let e = written-mix code a bits h in (
      λ j. ap (λ (x : ℕ). bit_at x j) e ∙ mix_bit (data_columns (given code)) bits j,
      rw e (mix-lt (data_columns (given code)) bits code.r (rule_of_code code a).below),
    )

-- ---- a word without stray bits, in its parts and as one number

module _ (code : Given) (a : Accepted code) (x : Word) (f : Fits code x) where
  abbrev pub whole : ℕ
  whole = as_number code.k x

  pub fits : Unstrayed code whole
  fits = word_fits code.k code.r (bits_of x) x.check f.data_bits f.check_bits

  pub read_whole : read_of code x ≡ read code whole
  read_whole = sym (ap (read_of code) (parts_of_number code.k x f.low_half f.data_bits))

  -- the table, of the two parts
  verdict_same : (read_of code x).verdict ≡ (read code whole).verdict
  verdict_same = ap (λ (r : Reading). r.verdict) read_whole

  place_same : (read_of code x).place ≡ (read code whole).place
  place_same = ap (λ (r : Reading). r.place) read_whole

  n : length (matrix_of code) ≡ places_of code
  n = places-length code a

-- the syndrome as document 01 has it, of a code of Hsiao's
module _ (code : HsiaoCode) (a : Accepted (given code)) (x : Word) (f : Fits (given code) x) where
  abbrev pub s : ℕ
  s = bit_xor (written_of (given code) (bits_of x)).check x.check

  -- it is the mix of the whole word
  pub mix_same : mix (matrix_of (given code)) (as_number code.k x) ≡ s
  mix_same =
      mix_parts (sound_of (given code) a) (bits_of x) x.check f.data_bits
      ∙ ap₂ bit_xor (ap (λ (cs : List ℕ). mix cs (bits_of x)) (data_part (given code) a) ∙ sym (written-mix code a (bits_of x) f.data_bits))
      (ap (λ (cs : List ℕ). mix cs x.check) (check_part code a) ∙ mix_identity code.r x.check f.check_bits)

  odd_same : odd_in (set_of (given code)) (mix (matrix_of (given code)) (as_number code.k x)) ≡ odd_ones s
  odd_same =
      odd_all code.r (mix (matrix_of (given code)) (as_number code.k x))
      (mix-lt (matrix_of (given code)) (as_number code.k x) code.r (sound_of (given code) a).below)
      ∙ ap odd_ones mix_same

-- ---- reading: refusals

module _ (code : Given) (a : Accepted code) (x : Word) where
  pub stray_is : stray_in (length (matrix_of code)) code.k x ≡ stray_in (places_of code) code.k x
  stray_is = ap (λ (n : ℕ). stray_in n code.k x) (places-length code a)

  -- a stray bit in the data, or in the check bits
  pub strayed : Strays code x → stray_in (places_of code) code.k x ≡ true
  strayed h =
      let n : places_of code - code.k ≡ code.r = omega arith in
      stray_of (places_of code) code.k x (rw n h)

pub reading_refuses : (code : Given) → promises.ReadingRefuses code
reading_refuses code x = (
  λ h. ap (λ s. reading_as s (opened code) x) (standing_refused code h),
  λ a l.
      reading_is code a x
      ∙ ap (λ v. reading_by v (syndrome_in (matrix_of code) code.k x) code.k x)
      (in_stray (set_of code) (matrix_of code) code.k x (stray_is code a x ∙ strayed code a x l))
      ∙ stray_refused (syndrome_in (matrix_of code) code.k x) code.k x,
  λ a f.
      let y = answered code a (whole code a x f) (fits code a x f) in
      let e = read_whole code a x f in
      (ap (λ (r : Reading). r.number) e ∙ y.number, ap (λ (r : Reading). r.told) e ∙ y.told),
)

-- ---- the table

pub clean_exactly : (code : Given) → promises.CleanExactly code
clean_exactly code a x f =
    let t = (table code a (whole code a x f) (fits code a x f)).clean in
    let v = verdict_same code a x f in
    let sound = sound_of code a in
    let w = written-checks code a.number (bits_of x) f.data_bits in (
      λ e. w ∙ written-only sound (bits_of x) x.check f.data_bits f.check_bits (t.0 (sym v ∙ e)),
      λ e. v ∙ t.1 (ap (λ (c : ℕ). mix (matrix_of code) (word_of code.k (bits_of x) c)) (sym e ∙ w)
          ∙ written_clean sound (bits_of x) f.data_bits),
    )

-- the table by any number s that is the syndrome, and any o that says whether it is odd within the set
module _ (code : Given) (a : Accepted code) (x : Word) (f : Fits code x) (s : ℕ) (m : mix (matrix_of code) (as_number code.k x) ≡ s)
    (o : ℕ) (same : odd_in (set_of code) (mix (matrix_of code) (as_number code.k x)) ≡ o) where
  rows_by_lem : let v = (read_of code x).verdict in
      ((v ≡ 0) ↔ (s ≡ 0))
      × ((v ≡ 1) ↔ ((p : ℕ) × (p < code.k) × (column (matrix_of code) p ≡ s)))
      × ((v ≡ 2) ↔ ((p : ℕ) × (code.k ≤ p) × (p < places_of code) × (column (matrix_of code) p ≡ s)))
      × ((v ≡ 3) ↔ ((s ≢ 0) × (o ≡ 0)))
      × ((v ≡ 4) ↔ ((o ≡ 1) × ((p : ℕ) → p < places_of code → column (matrix_of code) p ≢ s)))
  rows_by_lem =
      let t = table code a (whole code a x f) (fits code a x f) in
      let v = verdict_same code a x f in
      let len = n code a x f in (
        (λ e. sym m ∙ t.clean.0 (sym v ∙ e), λ z. v ∙ t.clean.1 (m ∙ z)),
        (
          λ e. let y = t.data_bit.0 (sym v ∙ e) in (y.0, y.1, y.3 ∙ m),
          λ y. v ∙ t.data_bit.1 (y.0, y.1, omega (arith, y.1), y.2 ∙ sym m),
        ),
        (
          λ e. let y = t.check_bit.0 (sym v ∙ e) in (y.0, y.1, omega (arith, y.2), y.3 ∙ m),
          λ y. v ∙ t.check_bit.1 (y.0, y.1, omega (arith, y.2), y.3 ∙ sym m),
        ),
        (
          λ e. let y = t.even.0 (sym v ∙ e) in (λ z. y.0 (m ∙ z), sym same ∙ y.1),
          λ y. v ∙ t.even.1 (λ z. y.0 (sym m ∙ z), same ∙ y.1),
        ),
        (
          λ e. let y = t.odd.0 (sym v ∙ e) in (sym same ∙ y.0, λ p u z. y.1 p (omega arith) (z ∙ sym m)),
          λ y. v ∙ t.odd.1 (same ∙ y.0, λ p u z. y.1 p (omega arith) (z ∙ m)),
        ),
      )

pub verdicts_by_syndrome : (code : Given) → promises.VerdictsBySyndrome code
verdicts_by_syndrome code a x f = rows_by_lem code a x f _ refl _ refl

pub verdicts_exactly : (code : HsiaoCode) → promises.VerdictsExactly code
verdicts_exactly code a x f = rows_by_lem (given code) a x f (s code a x f) (mix_same code a x f) _ (odd_same code a x f)

pub syndrome-named : (code : Given) → promises.SyndromeNamed code
syndrome-named code a x f =
    let t = table code a (whole code a x f) (fits code a x f) in
    let v = verdict_same code a x f in
    let p = place_same code a x f in
    let len = n code a x f in
    let y : (read_of code x).syndrome ≡ mix (matrix_of code) (whole code a x f) =
    ap (λ (r : Reading). r.syndrome) (read_whole code a x f) ∙ words_of.syndrome-told code a (whole code a x f) (fits code a x f) in (
      y,
      λ g.
          let named = t.named (⊎_elim (λ e. inl (sym v ∙ e)) (λ e. inr (sym v ∙ e)) g) in
          (omega (arith, p, named.0), ap (column (matrix_of code)) p ∙ named.1 ∙ sym y),
      λ h z. p ∙ t.unnamed (λ e. h (v ∙ e)) (λ e. z (v ∙ e)),
    )

-- the same of a code of Hsiao's, with the syndrome as document 01 has it
pub syndrome-told : (code : HsiaoCode) → promises.SyndromeTold code
syndrome-told code a x f =
    let y = syndrome-named (given code) a x f in
    let clean = (verdicts_by_syndrome (given code) a x f).0 in (
      y.0 ∙ mix_same code a x f,
      (λ z. clean.1 (sym y.0 ∙ z), λ e. y.0 ∙ clean.0 e),
      λ g. (y.1 g).1,
    )

pub place_named : (code : HsiaoCode) → promises.PlaceNamed code
place_named code a x f =
    let y = syndrome-named (given code) a x f in
    (λ g. ((y.1 g).0, (y.1 g).1 ∙ y.0 ∙ mix_same code a x f), y.2)

-- ---- a word as one number

pub clean_as_read : (code : Given) → promises.CleanAsRead code
clean_as_read code a w fits c =
    let x = answered-as code a w fits Clean (verdict-clean ((clean-zero code a w fits).0 c)) in
    (x.place, x.hands)
  where
    verdict-clean : mix (matrix_of code) w ≡ 0 → verdict_at code a w ≡ Clean
    verdict-clean z = on_clean (odd_in (set_of code)) (matrix_of code) code.k (mix (matrix_of code) w) z

pub one_flip : (code : Given) → promises.OneFlip code
one_flip code a w fits c p h =
    let z = (clean-zero code a w fits).0 c in
    let rows = set_of code in
    let s = sound_of code a in
    let u = flip_lt (places_of code) w p fits h in
    let back : HandsBack code (read code (flipped w p)) (flipped (flipped w p) p) → HandsBack code (read code (flipped w p)) w =
    subst (HandsBack code (read code (flipped w p))) (flip_flip w p) in
    ⊎_elim
    (λ (d : p < code.k).
    let x = answered-as code a (flipped w p) u (Data p) (one-flip-data rows s w z p d) in
    (x.verdict ∙ sym (ap (λ b. cond b 1 2) (lt-ltb p code.k d)), x.place, back x.hands))
    (λ (g : code.k ≤ p).
    let x = answered-as code a (flipped w p) u (Check p) (one-flip-check rows s w z p g (omega (arith, places-length code a))) in
    (x.verdict ∙ sym (ap (λ b. cond b 1 2) (le-ltb p code.k g)), x.place, back x.hands))
    (below_or_not p code.k)

pub two_flips : (code : Given) → promises.TwoFlips code
two_flips code a w fits c p q hp hq ne =
    let u = flip_lt (places_of code) (flipped w p) q (flip_lt (places_of code) w p fits hp) hq in
    let n = places-length code a in
    let e = two-flips-even (set_of code) (sound_of code a) w ((clean-zero code a w fits).0 c) p q (omega arith) (omega arith) ne in
    let x = answered-as code a (flipped (flipped w p) q) u Even e in
    (x.verdict, x.place, x.hands)

-- ---- from any word, by the case of its verdict

module _ (code : Given) (a : Accepted code) (w : ℕ) (fits : Unstrayed code w) where
  -- a named place whose flip makes the syndrome 0 is mended
  mended_at : (p : ℕ) → p < places_of code → mix (matrix_of code) (flipped w p) ≡ 0
      → HandsBack code (read code w) (flipped w p) → (read code w).place ≡ p
      → ((read code w).place < places_of code)
      × HandsBack code (read code w) (flipped w (read code w).place)
      × words.Clean code (flipped w (read code w).place)
  mended_at p h z back e =
      subst (λ (q : ℕ). (q < places_of code) × HandsBack code (read code w) (flipped w q) × words.Clean code (flipped w q)) (sym e)
      (h, back, (clean-zero code a (flipped w p) (flip_lt (places_of code) w p fits h)).1 z)

  by_verdict_mended : (v : Verdict) → verdict_at code a w ≡ v → ((finding_of v).verdict ≡ 1) ⊎ ((finding_of v).verdict ≡ 2)
      → ((read code w).place < places_of code)
      × HandsBack code (read code w) (flipped w (read code w).place)
      × words.Clean code (flipped w (read code w).place)
  by_verdict_mended Clean e h = absurd (⊎_elim (λ (x : ◌≡◌ {A = ℕ} 0 1). omega arith) (λ (x : ◌≡◌ {A = ℕ} 0 2). omega arith) h)
  by_verdict_mended (Data p) e h =
      let m = data_mends (set_of code) (sound_of code a) w p e in
      let x = answered-as code a w fits (Data p) e in
      mended_at p (omega (arith, m.0)) m.1 x.hands x.place
  by_verdict_mended (Check p) e h =
      let m = check_mends (set_of code) (sound_of code a) w p e in
      let x = answered-as code a w fits (Check p) e in
      mended_at p (omega (arith, m.1, places-length code a)) m.2 x.hands x.place
  by_verdict_mended Even e h = absurd (⊎_elim (λ (x : ◌≡◌ {A = ℕ} 3 1). omega arith) (λ (x : ◌≡◌ {A = ℕ} 3 2). omega arith) h)
  by_verdict_mended Odd e h = absurd (⊎_elim (λ (x : ◌≡◌ {A = ℕ} 4 1). omega arith) (λ (x : ◌≡◌ {A = ℕ} 4 2). omega arith) h)
  by_verdict_mended Stray e h = absurd (⊎_elim (λ (x : ◌≡◌ {A = ℕ} 5 1). omega arith) (λ (x : ◌≡◌ {A = ℕ} 5 2). omega arith) h)

  unmended : ((p : ℕ) → p < length (matrix_of code) → mix (matrix_of code) (flipped w p) ≢ 0)
      → (p : ℕ) → p < places_of code → ¬ (words.Clean code (flipped w p))
  unmended away p h c =
      away p (omega (arith, places-length code a)) ((clean-zero code a (flipped w p) (flip_lt (places_of code) w p fits h)).0 c)

  by-verdict-left : (v : Verdict) → verdict_at code a w ≡ v → ((finding_of v).verdict ≡ 3) ⊎ ((finding_of v).verdict ≡ 4)
      → ((read code w).place ≡ 255) × HandsBack code (read code w) w × ((p : ℕ) → p < places_of code → ¬ (words.Clean code (flipped w p)))
  by-verdict-left Clean e h = absurd (⊎_elim (λ (x : ◌≡◌ {A = ℕ} 0 3). omega arith) (λ (x : ◌≡◌ {A = ℕ} 0 4). omega arith) h)
  by-verdict-left (Data p) e h = absurd (⊎_elim (λ (x : ◌≡◌ {A = ℕ} 1 3). omega arith) (λ (x : ◌≡◌ {A = ℕ} 1 4). omega arith) h)
  by-verdict-left (Check p) e h = absurd (⊎_elim (λ (x : ◌≡◌ {A = ℕ} 2 3). omega arith) (λ (x : ◌≡◌ {A = ℕ} 2 4). omega arith) h)
  by-verdict-left Even e h =
      let x = answered-as code a w fits Even e in
      (x.place, x.hands, unmended (even_unmended (set_of code) (sound_of code a) w e))
  by-verdict-left Odd e h =
      let x = answered-as code a w fits Odd e in
      (x.place, x.hands, unmended (odd_unmended (set_of code) (sound_of code a) w e))
  by-verdict-left Stray e h = absurd (⊎_elim (λ (x : ◌≡◌ {A = ℕ} 5 3). omega arith) (λ (x : ◌≡◌ {A = ℕ} 5 4). omega arith) h)

pub mended_clean : (code : Given) → promises.MendedClean code
mended_clean code a w fits h =
    let v = (answered code a w fits).verdict in
    by_verdict_mended code a w fits (verdict_at code a w) refl (⊎_elim (λ e. inl (sym v ∙ e)) (λ e. inr (sym v ∙ e)) h)

pub left-as_read : (code : Given) → promises.LeftAsRead code
left-as_read code a w fits h =
    let v = (answered code a w fits).verdict in
    by-verdict-left code a w fits (verdict_at code a w) refl (⊎_elim (λ e. inl (sym v ∙ e)) (λ e. inr (sym v ∙ e)) h)
