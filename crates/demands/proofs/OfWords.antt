-- The demands on writing and reading one word: the promises of the ten-byte edition, for words with an empty high half. Assumes nothing.
use mathlib.Core.Path.{◌≡◌, sym, ap, subst, ◌∙◌}
use mathlib.Core.Logic.{◌⊎◌, inl, inr, ⊎_elim}
use Prim.Native.Nat.{ℕ, ◌<◌}
use native.Mathlib.Nat.{add-zero}
use Rattle.columns.specs.Mix.{flipped}
use Rattle.code.specs.declared.Code.{Code}
use Rattle.editions.specs.Given as any
use Rattle.editions.proofs.OfWords as of_any
use Rattle.desk.specs.Answers.{word_with, narrowed}
use Rattle.demands.specs.Definitions.{Accepted, places_of, read, HandsBack, Clean}
use Rattle.demands.specs.Demands as demands
use Rattle.demands.specs.Editions.{narrow, narrow_code}
use Rattle.demands.proofs.Narrow.{accepted, strays, fits, verdict-is, place_is, clean, clean_back, hands}

pub writing_refuses : demands.WritingRefuses
writing_refuses code low = of_any.writing_refuses (narrow code) low

pub writing_bits : demands.WritingBits
writing_bits code a = of_any.writing_bits (narrow_code code) (accepted code a)

-- ---- a word in its two parts

pub reading_refuses : demands.ReadingRefuses
reading_refuses code low check =
    let x = of_any.reading_refuses (narrow code) (word_with low check) in (
      λ h. ap narrowed (x.0 h),
      λ a l. ap narrowed (x.1 (accepted code a) (strays code low check l)),
      λ a l h. x.2 (accepted code a) (fits code a low check l h),
    )

pub clean_exactly : demands.CleanExactly
clean_exactly code a low check l h =
    rw (add-zero low) at (of_any.clean_exactly (narrow code) (accepted code a) (word_with low check) (fits code a low check l h))

pub verdicts_exactly : demands.VerdictsExactly
verdicts_exactly code a low check l h =
    rw (add-zero low) at (of_any.verdicts_exactly (narrow_code code) (accepted code a) (word_with low check) (fits code a low check l h))

pub syndrome-told : demands.SyndromeTold
syndrome-told code a low check l h =
    rw (add-zero low) at (of_any.syndrome-told (narrow_code code) (accepted code a) (word_with low check) (fits code a low check l h))

pub place_named : demands.PlaceNamed
place_named code a low check l h =
    rw (add-zero low) at (of_any.place_named (narrow_code code) (accepted code a) (word_with low check) (fits code a low check l h))

-- ---- a word as one number

pub clean_as_read : demands.CleanAsRead
clean_as_read code a w fit c =
    let x = of_any.clean_as_read (narrow code) (accepted code a) w fit (clean code a w c) in
    (place_is code a w ∙ x.0, hands code a w w x.1)

pub one_flip : demands.OneFlip
one_flip code a w fit c p h =
    let x = of_any.one_flip (narrow code) (accepted code a) w fit (clean code a w c) p h in
    let u = flipped w p in
    (verdict-is code a u ∙ x.0, place_is code a u ∙ x.1, hands code a u w x.2)

pub two_flips : demands.TwoFlips
two_flips code a w fit c p q hp hq ne =
    let x = of_any.two_flips (narrow code) (accepted code a) w fit (clean code a w c) p q hp hq ne in
    let u = flipped (flipped w p) q in
    (verdict-is code a u ∙ x.0, place_is code a u ∙ x.1, hands code a u u x.2)

-- a verdict of the one is that of the other
verdict-or : (code : Code) (a : Accepted code) (w m n : ℕ) → ((read code w).verdict ≡ m) ⊎ ((read code w).verdict ≡ n)
    → ((any.read (narrow code) w).verdict ≡ m) ⊎ ((any.read (narrow code) w).verdict ≡ n)
verdict-or code a w m n = ⊎_elim (λ e. inl (sym (verdict-is code a w) ∙ e)) (λ e. inr (sym (verdict-is code a w) ∙ e))

pub mended_clean : demands.MendedClean
mended_clean code a w fit h =
    let x = of_any.mended_clean (narrow code) (accepted code a) w fit (verdict-or code a w 1 2 h) in
    let p = (any.read (narrow code) w).place in
    subst (λ (q : ℕ). (q < places_of code) × HandsBack code (read code w) (flipped w q) × Clean code (flipped w q)) (sym (place_is code a w))
    (x.0, hands code a w (flipped w p) x.1, clean_back code a (flipped w p) x.2)

pub left-as_read : demands.LeftAsRead
left-as_read code a w fit h =
    let x = of_any.left-as_read (narrow code) (accepted code a) w fit (verdict-or code a w 3 4 h) in
    (place_is code a w ∙ x.0, hands code a w w x.1, λ p l c. x.2 p l (clean code a (flipped w p) c))
