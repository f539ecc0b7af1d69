-- What `stands` tests is what its two readings say: either none of 19's reasons holds, or one does. Assumes nothing.
use mathlib.Core.Path.{◌≡◌, refl, sym, ◌∙◌}
use mathlib.Core.Bool.{Bool, true, false, not, ◌&&◌, true≢false}
use mathlib.Core.Logic.{◌⊎◌, inl, inr}
use Prim.Native.Nat.{ℕ, ◌<◌}
use native.Mathlib.Omega.{arith}
use borrow.Author.Tests.{leb-true, leb-false, not-true, not-false}
use lib.Dec.{leb}
use lib.Ieee as Ieee
use lib.Ieee.{Float}
use lib.Ieee.Scale.{finite}
use Rattle.sheet.specs.declared.Limit.{Limit}
use Rattle.sheet.specs.declared.Limit.TheVariants.{Ceiling, Band, Open}
use Rattle.sheet.specs.declared.Asked.{Asked}
use Rattle.sheet.specs.Sheets.{zero_figure, countable, figure_stands, limit_stands, stands}
use Rattle.sheet.specs.Rule.{BadCount, BadFigure, BadLimit, NoSheet, Stands}
use Rattle.sheet.specs.Rule.{device-count, word_count, mended-above, hours-endless, hours-not-above, bad-limit}

pub both : (a b : Bool) → (a && b) ≡ true → (a ≡ true) × (b ≡ true)
both true true h = (refl, refl)
both true false h = absurd (true≢false (sym h))
both false b h = absurd (true≢false (sym h))

one : (a b : Bool) → (a && b) ≡ false → (a ≡ false) ⊎ (b ≡ false)
one true b h = inr h
one false b h = inl refl

-- the tests of `stands`, the later ones left out one by one
abbrev counted : Asked → Bool
counted q = countable q.devices && countable q.words

abbrev parted : Asked → Bool
parted q = counted q && leb q.mended q.words

abbrev ended : Asked → Bool
ended q = parted q && finite q.hours

abbrev timed : Asked → Bool
timed q = ended q && Ieee.lt zero_figure q.hours

-- a question that stands
pub stands-says : (q : Asked) → stands q ≡ true → Stands q
unfolding stands
stands-says q h =
    let e = both (timed q) (limit_stands q.limit) h in
    let d = both (ended q) (Ieee.lt zero_figure q.hours) e.0 in
    let c = both (parted q) (finite q.hours) d.0 in
    let b = both (counted q) (leb q.mended q.words) c.0 in
    let a = both (countable q.devices) (countable q.words) b.0 in
    let n = both (leb 1 q.devices) (leb q.devices 65535) a.0 in
    let m = both (leb 1 q.words) (leb q.words 65535) a.1 in
    record {
      some_device = leb-true 1 q.devices n.0;
      most_devices = leb-true q.devices 65535 n.1;
      some_word = leb-true 1 q.words m.0;
      most_words = leb-true q.words 65535 m.1;
      most_mended = leb-true q.mended q.words b.1;
      finite_hours = c.1;
      hours_above = d.1;
      fit_limit = e.1;
    }

-- one that does not
bad_count : (n : ℕ) → countable n ≡ false → BadCount n
bad_count n h = go (one (leb 1 n) (leb n 65535) h)
  where
    nothing : (n : ℕ) → n < 1 → n ≡ 0
    nothing n l = omega arith

    go : (leb 1 n ≡ false) ⊎ (leb n 65535 ≡ false) → BadCount n
    go (inl e) = inl (nothing n (leb-false 1 n e))
    go (inr e) = inr (leb-false n 65535 e)

bad_figure : (x : Float) → figure_stands x ≡ false → BadFigure x
bad_figure x h = go (one (finite x) (not (Ieee.lt x zero_figure)) h)
  where
    go : (finite x ≡ false) ⊎ (not (Ieee.lt x zero_figure) ≡ false) → BadFigure x
    go (inl e) = inl e
    go (inr e) = inr (not-false (Ieee.lt x zero_figure) e)

limit_bad : (limit : Limit) → limit_stands limit ≡ false → BadLimit limit
limit_bad (Ceiling high) h = bad_figure high h
limit_bad (Band low high) h = go (one (figure_stands low && figure_stands high) (not (Ieee.lt high low)) h)
  where
    ends : (figure_stands low ≡ false) ⊎ (figure_stands high ≡ false) → BadLimit (Band low high)
    ends (inl e) = inl (bad_figure low e)
    ends (inr e) = inr (inl (bad_figure high e))

    go : (figure_stands low && figure_stands high ≡ false) ⊎ (not (Ieee.lt high low) ≡ false) → BadLimit (Band low high)
    go (inl e) = ends (one (figure_stands low) (figure_stands high) e)
    go (inr e) = inr (inr (not-false (Ieee.lt high low) e))
limit_bad Open h = true≢false h

pub falls : (q : Asked) → stands q ≡ false → NoSheet q
unfolding stands
falls q h = go (one (timed q) (limit_stands q.limit) h)
  where
    counts : (countable q.devices ≡ false) ⊎ (countable q.words ≡ false) → NoSheet q
    counts (inl e) = device-count (bad_count q.devices e)
    counts (inr e) = word_count (bad_count q.words e)

    parts : (counted q ≡ false) ⊎ (leb q.mended q.words ≡ false) → NoSheet q
    parts (inl e) = counts (one (countable q.devices) (countable q.words) e)
    parts (inr e) = mended-above (leb-false q.mended q.words e)

    ends : (parted q ≡ false) ⊎ (finite q.hours ≡ false) → NoSheet q
    ends (inl e) = parts (one (counted q) (leb q.mended q.words) e)
    ends (inr e) = hours-endless e

    times : (ended q ≡ false) ⊎ (Ieee.lt zero_figure q.hours ≡ false) → NoSheet q
    times (inl e) = ends (one (parted q) (finite q.hours) e)
    times (inr e) = hours-not-above e

    go : (timed q ≡ false) ⊎ (limit_stands q.limit ≡ false) → NoSheet q
    go (inl e) = times (one (ended q) (Ieee.lt zero_figure q.hours) e)
    go (inr e) = bad-limit (limit_bad q.limit e)

-- not both
no_figure : (x : Float) → figure_stands x ≡ true → BadFigure x → ⊥
no_figure x h (inl e) = true≢false (sym (both (finite x) (not (Ieee.lt x zero_figure)) h).0 ∙ e)
no_figure x h (inr e) = true≢false (sym e ∙ not-true (Ieee.lt x zero_figure) (both (finite x) (not (Ieee.lt x zero_figure)) h).1)

no_limit : (limit : Limit) → limit_stands limit ≡ true → BadLimit limit → ⊥
no_limit (Ceiling high) h b = no_figure high h b
no_limit (Band low high) h b =
    let o = both (figure_stands low && figure_stands high) (not (Ieee.lt high low)) h in
    go (both (figure_stands low) (figure_stands high) o.0) (not-true (Ieee.lt high low) o.1) b
  where
    go : (figure_stands low ≡ true) × (figure_stands high ≡ true) → Ieee.lt high low ≡ false → BadLimit (Band low high) → ⊥
    go f o (inl b) = no_figure low f.0 b
    go f o (inr (inl b)) = no_figure high f.1 b
    go f o (inr (inr e)) = true≢false (sym e ∙ o)
no_limit Open h b = b

excludes : (q : Asked) → Stands q → NoSheet q → ⊥
excludes q s (device-count (inl e)) = omega (arith, s.some_device)
excludes q s (device-count (inr l)) = omega (arith, s.most_devices)
excludes q s (word_count (inl e)) = omega (arith, s.some_word)
excludes q s (word_count (inr l)) = omega (arith, s.most_words)
excludes q s (mended-above l) = omega (arith, s.most_mended)
excludes q s (hours-endless e) = true≢false (sym s.finite_hours ∙ e)
excludes q s (hours-not-above e) = true≢false (sym s.hours_above ∙ e)
excludes q s (bad-limit b) = no_limit q.limit s.fit_limit b

pub fallen : (q : Asked) → NoSheet q → stands q ≡ false
fallen q b = go (stands q) refl
  where
    go : (t : Bool) → stands q ≡ t → stands q ≡ false
    go true e = absurd (excludes q (stands-says q e) b)
    go false e = e

pub stood : (q : Asked) → Stands q → stands q ≡ true
stood q s = go (stands q) refl
  where
    go : (t : Bool) → stands q ≡ t → stands q ≡ true
    go true e = e
    go false e = absurd (excludes q s (falls q e))
