-- A record that was mended reads clean; any other stays and reads as before. For any accepted code whose columns are sound, where its data
-- fit the low half or the record is bytes. Assumes nothing.
use mathlib.Core.Path.{◌≡◌, refl, sym, ap, subst, ◌∙◌}
use mathlib.Core.Bool.{Bool, true, false, cond, ◌||◌, true≢false}
use mathlib.Core.Logic.{◌≢◌, ◌⊎◌, inl, inr, ⊎_elim}
use mathlib.Core.List.{List}
use Prim.Native.Nat.{ℕ, ◌+◌, ◌-◌, ◌*◌, ◌^◌, ◌≤◌, ◌<◌}
use native.Mathlib.Omega.{arith}
use borrow.Author.Tests.{leb-false, eqb-true, eqb-false}
use lib.Dec.{eqb}
use lib.ListN.{length}
use lib.Pow.{pow_mono}
use Rattle.parity.specs.Odd.{odd_in}
use Rattle.columns.specs.Mix.{mix, flipped}
use Rattle.columns.specs.Sound.{Sound}
use Rattle.columns.proofs.Words.{flip_lt}
use Rattle.record.specs.Bytes.{byte_span, AllBytes}
use Rattle.record.specs.Layout.{check_size, record_size}
use Rattle.runs.proofs.Numbers.{byte_span_power}
use Rattle.runs.proofs.Records.{length_record, data_back, check_back, data_halves}
use Rattle.code.specs.declared.Opened.{Opened}
use Rattle.std.specs.Prelude.{Ok}
use Rattle.code.specs.Opened.{columns_of, Laid, SoundOpened}
use Rattle.word.specs.declared.Word.{Word}
use Rattle.verdict.specs.declared.Verdict.{Verdict}
use Rattle.verdict.specs.declared.Verdict.TheVariants.{Clean, Data, Check, Even, Odd, Stray}
use Rattle.word.specs.Word.{joined, word_of, data_of, as_number, in_parts, strays, stray_in, flipped_in}
use Rattle.verdict.specs.Verdicts.{verdict_on, finding_of}
use Rattle.word.specs.Verdicts.{read_in}
use Rattle.verdict.proofs.Rows.{on_clean}
use Rattle.word.proofs.Strays.{in_stray, in_verdict}
use Rattle.mending.proofs.Parts.{data_fits, check_fits, word_fits, joined_halves, parts_of_number, flipped_parts}
use Rattle.mending.proofs.Reading.{read_number, data_mends, check_mends}
use Rattle.at_record.specs.Outcome.{Reader, Held, word_in, record_of, seen, left_by, verdict_of, left_of}
use Rattle.pass.specs.Pass.{reader_of}
use Rattle.at_record.proofs.Mends.{low_fits}
use Rattle.at_record.proofs.Outcomes.{kept}
use Rattle.passes.specs.Twice.{verdict_again}
use Rattle.passes.proofs.Facts.{neither}

-- no record is mended twice
never : (v : ℕ) → (verdict_again v ≢ 1) × (verdict_again v ≢ 2)
never v = go (eqb v 1) (eqb v 2) refl refl
  where
    go : (x y : Bool) → eqb v 1 ≡ x → eqb v 2 ≡ y → (cond (x || y) 0 v ≢ 1) × (cond (x || y) 0 v ≢ 2)
    go true y hx hy = omega arith
    go false true hx hy = omega arith
    go false false hx hy = (eqb-false v 1 hx, eqb-false v 2 hy)

-- a reading asks for the data as one number, and for the check bits
read_alike : (rows : ℕ) (cs : List ℕ) (k : ℕ) (v w : Word) → joined v.low v.high ≡ joined w.low w.high → v.check ≡ w.check
    → read_in rows cs k v ≡ read_in rows cs k w
unfolding read_in
read_alike rows cs k v w e c =
    λ i. cond (strays k (e i) || strays (length cs - k) (c i)) Stray (verdict_on (odd_in rows) cs k (mix cs (word_of k (e i) (c i))))

-- no stray bit: data and check bits fit
both_fit : (n k : ℕ) (w : Word) → stray_in n k w ≡ false → (joined w.low w.high < 2 ^ k) × (w.check < 2 ^ (n - k))
both_fit n k w = go (strays k (joined w.low w.high)) (strays (n - k) w.check) refl refl
  where
    go : (x y : Bool) → strays k (joined w.low w.high) ≡ x → strays (n - k) w.check ≡ y → (x || y) ≡ false
        → (joined w.low w.high < 2 ^ k) × (w.check < 2 ^ (n - k))
    go true y hx hy h = absurd (true≢false h)
    go false true hx hy h = absurd (true≢false h)
    go false false hx hy h = (leb-false (2 ^ k) (joined w.low w.high) hx, leb-false (2 ^ (n - k)) w.check hy)

module _ (o : Opened) (d : ℕ) (sound : SoundOpened o) (laid : Laid o) (held : Held d o.k) (taken : o.standing ≡ Ok tt) where
  abbrev f : Reader
  f = reader_of o d

  abbrev cs : List ℕ
  cs = columns_of o

  abbrev k : ℕ
  k = o.k

  abbrev checks : ℕ
  checks = o.n - o.k

  is_sound : Sound (odd_in o.rows) cs k checks
  is_sound = sound taken

  -- k data and up to 16 check columns
  sizes : (k ≤ length cs) × (length cs - k ≡ checks) × (checks ≤ 16)
  sizes =
      let n = is_sound.size in
      let top = laid.checks in
      (omega arith, omega arith, omega arith)

  -- a word without stray bits, written as a record, is read as itself
  written_read : (w : ℕ) → w < 2 ^ length cs → seen f (record_of d (in_parts k w)) ≡ verdict_on (odd_in o.rows) cs k (mix cs w)
  unfolding seen byte_span
  written_read w fits =
      let p = in_parts k w in
      let low : joined p.low p.high < byte_span d =
      omega (arith, joined_halves (data_of k w), data_fits k w, pow_mono {i = k} {j = 8 * d} held.data_held, byte_span_power d) in
      let wide : w < 2 ^ (k + checks) = subst (λ n. w < 2 ^ n) is_sound.size fits in
      let high : p.check < byte_span check_size = omega (arith, check_fits k checks w wide, pow_mono {i = checks} {j = 16} sizes.2) in
      let long = length_record d (joined p.low p.high) p.check in
      read_alike o.rows cs k (word_in d (record_of d p)) p
      (data_halves d (record_of d p) held.least (omega arith) ∙ data_back d (joined p.low p.high) p.check low)
      (check_back d (joined p.low p.high) p.check high)
      ∙ read_number o.rows cs k w sizes.0 fits

  module _ (rec : List ℕ) (narrow : (k ≤ 64) ⊎ AllBytes rec) (e : length rec ≡ record_size d) where
    -- the word that it says, as one number
    abbrev whole : ℕ
    whole = as_number k (word_in d rec)

    unstrayed : seen f rec ≢ Stray → stray_in (length cs) k (word_in d rec) ≡ false
    unfolding seen
    unstrayed n = go (stray_in (length cs) k (word_in d rec)) refl
      where
        go : (s : Bool) → stray_in (length cs) k (word_in d rec) ≡ s → s ≡ false
        go true h = absurd (n (in_stray o.rows cs k (word_in d rec) h))
        go false h = refl

    module _ (n : seen f rec ≢ Stray) where
      fit : (joined (word_in d rec).low (word_in d rec).high < 2 ^ k) × ((word_in d rec).check < 2 ^ (length cs - k))
      fit = both_fit (length cs) k (word_in d rec) (unstrayed n)

      low_below : (word_in d rec).low < 2 ^ 64
      low_below =
          ⊎_elim (λ (h : k ≤ 64). omega (arith, fit.0, pow_mono {i = k} {j = 64} h))
          (λ (bytes : AllBytes rec). low_fits d k held rec bytes e) narrow

      fits : whole < 2 ^ length cs
      fits =
          let c : (word_in d rec).check < 2 ^ checks = subst (λ m. (word_in d rec).check < 2 ^ m) sizes.1 fit.1 in
          subst (λ m. whole < 2 ^ m) (sym is_sound.size)
          (word_fits k checks (joined (word_in d rec).low (word_in d rec).high) (word_in d rec).check fit.0 c)

      in_parts_lem : word_in d rec ≡ in_parts k whole
      in_parts_lem = sym (parts_of_number k (word_in d rec) low_below fit.0)

      reads : verdict_on (odd_in o.rows) cs k (mix cs whole) ≡ seen f rec
      unfolding seen
      reads = sym (in_verdict o.rows cs k (word_in d rec) (unstrayed n))

      -- with the place p flipped back it is clean
      flipped-clean : (p : ℕ) → p < length cs → mix cs (flipped whole p) ≡ 0 → verdict_of f (record_of d (flipped_in k p (word_in d rec))) ≡ 0
      unfolding verdict_of
      flipped-clean p h z =
          ap (λ (w : Word). (finding_of (seen f (record_of d (flipped_in k p w)))).verdict) in_parts_lem
          ∙ ap (λ (w : Word). (finding_of (seen f (record_of d w))).verdict) (flipped_parts k p whole)
          ∙ ap (λ v. (finding_of v).verdict)
          (written_read (flipped whole p) (flip_lt (length cs) whole p fits h)
          ∙ on_clean (odd_in o.rows) cs k (mix cs (flipped whole p)) z)

    mended_clean : (verdict_of f rec ≡ 1) ⊎ (verdict_of f rec ≡ 2) → verdict_of f (left_of f rec) ≡ 0
    unfolding verdict_of left_of
    mended_clean = go (seen f rec) refl
      where
        go : (v : Verdict) → seen f rec ≡ v → ((finding_of v).verdict ≡ 1) ⊎ ((finding_of v).verdict ≡ 2) → verdict_of f (left_by d k v rec) ≡ 0
        go Clean g h = absurd (neither 0 (omega arith) (omega arith) h)
        go (Data p) g h =
            let n : seen f rec ≢ Stray = λ s. let z : ◌≡◌ {A = ℕ} 1 5 = ap (λ v. (finding_of v).verdict) (sym g ∙ s) in omega arith in
            let m = data_mends o.rows is_sound whole p (reads n ∙ g) in
            flipped-clean n p (omega (arith, m.0, sizes.0)) m.1
        go (Check p) g h =
            let n : seen f rec ≢ Stray = λ s. let z : ◌≡◌ {A = ℕ} 2 5 = ap (λ v. (finding_of v).verdict) (sym g ∙ s) in omega arith in
            let m = check_mends o.rows is_sound whole p (reads n ∙ g) in
            flipped-clean n p m.1 m.2
        go Even g h = absurd (neither 3 (omega arith) (omega arith) h)
        go Odd g h = absurd (neither 4 (omega arith) (omega arith) h)
        go Stray g h = absurd (neither 5 (omega arith) (omega arith) h)

    pub verdict-again : verdict_of f (left_of f rec) ≡ verdict_again (verdict_of f rec)
    verdict-again = go (eqb (verdict_of f rec) 1) (eqb (verdict_of f rec) 2) refl refl
      where
        go : (x y : Bool) → eqb (verdict_of f rec) 1 ≡ x → eqb (verdict_of f rec) 2 ≡ y
            → verdict_of f (left_of f rec) ≡ cond (x || y) 0 (verdict_of f rec)
        go true y hx hy = mended_clean (inl (eqb-true (verdict_of f rec) 1 hx))
        go false true hx hy = mended_clean (inr (eqb-true (verdict_of f rec) 2 hy))
        go false false hx hy = ap (verdict_of f) (kept f rec (eqb-false (verdict_of f rec) 1 hx) (eqb-false (verdict_of f rec) 2 hy))

    -- a record that was passed over stays as it is
    pub left-again : left_of f (left_of f rec) ≡ left_of f rec
    left-again =
        let n = never (verdict_of f rec) in
        kept f (left_of f rec) (λ z. n.0 (sym verdict-again ∙ z)) (λ z. n.1 (sym verdict-again ∙ z))
