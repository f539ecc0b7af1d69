-- Images record by record: what lies outside a run that was passed over is as it was; and runs apart, passed over in any order, leave the
-- same image. Assumes nothing.
use mathlib.Core.Path.{◌≡◌, refl, sym, ap, ◌∙◌}
use mathlib.Core.Logic.{◌⊎◌, inl, inr}
use mathlib.Core.List.{List, [], ◌∷◌, ◌++◌}
use Prim.Native.Nat.{ℕ, zero, suc, ◌+◌, ◌*◌, ◌-◌, ◌/◌, ◌≤◌, ◌<◌}
use native.Mathlib.Nat.{suc-mul, zero-mul, mul-le-mul_right}
use native.Mathlib.Omega.{arith}
use lib.ListN.{length, take, drop}
use lib.Seq.{take-add, take_all}
use Rattle.parity.proofs.Ones.{below_or_not}
use Rattle.record.specs.Layout.{record_size}
use Rattle.record.specs.Run.{record_at, gather}
use Rattle.runs.proofs.Run.{record_take, record_drop, gather_alike}
use Rattle.runs.proofs.Image as runs
use Rattle.at_record.specs.Outcome.{Reader, left_of}
use Rattle.at_record.proofs.Outcomes.{length-left_of}
use Rattle.runs.proofs.Sizes.{whole-fits, no_rest}
use Rattle.pass.specs.Pass.{left_run}
use Rattle.asked.specs.Asked.{Image, Run}
use Rattle.passes.proofs.Alike.{same_image, same_run}
use Rattle.orders.specs.Lists.{Each, EachTwo, Rearranged, none, keep, swap, next}
use Rattle.orders.specs.Orders.{Ends, InRun, Apart}
use Rattle.orders.proofs.Lists.{each_map, each_any_order, two_any_order}

-- ---- records

-- images that agree before a run and behind it agree on the records there
pub outside_same : (size : ℕ) (image now : List ℕ) (a b : ℕ) → take (a * size) now ≡ take (a * size) image
    → drop (b * size) now ≡ drop (b * size) image → (i : ℕ) → (i < a) ⊎ (b ≤ i) → record_at size now i ≡ record_at size image i
outside_same size image now a b front rest i (inl h) =
    let fit : suc i * size ≤ a * size = mul-le-mul_right size h in
    sym (record_take size (a * size) now i fit) ∙ ap (λ l. record_at size l i) front ∙ record_take size (a * size) image i fit
outside_same size image now a b front rest i (inr h) =
    let e : b + (i - b) ≡ i = omega arith in
    ap (record_at size now) (sym e)
    ∙ sym (record_drop size now b (i - b))
    ∙ ap (λ l. record_at size l (i - b)) rest
    ∙ record_drop size image b (i - b)
    ∙ ap (record_at size image) e

-- a record lies in the run, before it, or behind it
pub where_lies : (r : Ends) (i : ℕ) → InRun r i ⊎ ((i < r.start) ⊎ (r.end ≤ i))
where_lies r i = go (below_or_not i r.start) (below_or_not i r.end)
  where
    go : (i < r.start) ⊎ (r.start ≤ i) → (i < r.end) ⊎ (r.end ≤ i) → InRun r i ⊎ ((i < r.start) ⊎ (r.end ≤ i))
    go (inl h) k = inr (inl h)
    go (inr h) (inl k) = inl (h, omega arith)
    go (inr h) (inr k) = inr (inr k)

gather_self : (size : ℕ) (l : List ℕ) (k : ℕ) → gather size (λ i rec. rec) l k ≡ take (k * size) l
unfolding gather
gather_self size l zero = rw (zero-mul size)
gather_self size l (suc k) =
    ap (λ x. x ++ record_at size l k) (gather_self size l k)
    ∙ sym (take-add (k * size) size l)
    ∙ ap (λ n. take n l) (sym (suc-mul k size))

-- two images of n records are equal where each record is
pub images_same : (size n : ℕ) (l m : List ℕ) → length l ≡ n * size → length m ≡ n * size
    → ((i : ℕ) → i < n → record_at size l i ≡ record_at size m i) → l ≡ m
images_same size n l m x y same =
    sym (take_all (n * size) l (omega arith))
    ∙ sym (gather_self size l n)
    ∙ gather_alike size (λ i rec. rec) (λ i rec. rec) l m n same
    ∙ gather_self size m n
    ∙ take_all (n * size) m (omega arith)

-- ---- runs

module _ (f : Reader) where
  abbrev size : ℕ
  size = record_size f.d

  abbrev pub left_by : Ends → List ℕ → List ℕ
  left_by r image = left_run f image r.start r.end

  abbrev Within : List ℕ → Ends → Type 0
  Within image r = Run f.d image r.start r.end

  module _ (image : List ℕ) (r : Ends) (within : Within image r) where
    fits : r.end * size ≤ length image
    fits = whole-fits size (length image) r.end within.within

    pub length-leftBy : length (left_by r image) ≡ length image
    length-leftBy = runs.length-over_run size (λ i. left_of f) (λ i. length-left_of f) image r.start r.end within.rising fits

    inside : (i : ℕ) → InRun r i → record_at size (left_by r image) i ≡ left_of f (record_at size image i)
    inside i u =
        let below : i < r.end = omega (arith, u.1) in
        runs.record_within size (λ i. left_of f) (λ i. length-left_of f) image r.start r.end within.rising fits i u.0 below

    outside : (i : ℕ) → (i < r.start) ⊎ (r.end ≤ i) → record_at size (left_by r image) i ≡ record_at size image i
    outside =
        outside_same size image (left_by r image) r.start r.end
        (runs.before_stays size (λ i. left_of f) (λ i. length-left_of f) image r.start r.end within.rising fits)
        (runs.after_stays size (λ i. left_of f) (λ i. length-left_of f) image r.start r.end within.rising fits)

    -- a run that was within the image is within what is left
    pub within-left : (t : Ends) → Within image t → Within (left_by r image) t
    within-left t = same_run f.d image (left_by r image) t.start t.end length-leftBy

    pub image-left : Image f.d image → Image f.d (left_by r image)
    image-left = same_image f.d image (left_by r image) length-leftBy

  -- two runs apart, in either order
  module _ (image : List ℕ) (whole : Image f.d image) (r t : Ends) (x : Within image r) (y : Within image t) (apart : Apart r t) where
    y' : Within (left_by r image) t
    y' = within-left image r x t y

    x' : Within (left_by t image) r
    x' = within-left image t y r x

    each_same : (i : ℕ) → record_at size (left_by t (left_by r image)) i ≡ record_at size (left_by r (left_by t image)) i
    each_same i = go (where_lies r i) (where_lies t i)
      where
        go : InRun r i ⊎ ((i < r.start) ⊎ (r.end ≤ i)) → InRun t i ⊎ ((i < t.start) ⊎ (t.end ≤ i))
            → record_at size (left_by t (left_by r image)) i ≡ record_at size (left_by r (left_by t image)) i
        go (inl u) (inl v) = absurd (apart i u v)
        go (inl u) (inr v) =
            outside (left_by r image) t y' i v
            ∙ inside image r x i u
            ∙ ap (left_of f) (sym (outside image t y i v))
            ∙ sym (inside (left_by t image) r x' i u)
        go (inr u) (inl v) =
            inside (left_by r image) t y' i v
            ∙ ap (left_of f) (outside image r x i u)
            ∙ sym (inside image t y i v)
            ∙ sym (outside (left_by t image) r x' i u)
        go (inr u) (inr v) =
            outside (left_by r image) t y' i v
            ∙ outside image r x i u
            ∙ sym (outside image t y i v)
            ∙ sym (outside (left_by t image) r x' i u)

    pub two-swapped : left_by t (left_by r image) ≡ left_by r (left_by t image)
    two-swapped =
        let n = length image / size in
        let e : length image ≡ n * size = sym (no_rest size (length image) whole.whole) in
        images_same size n (left_by t (left_by r image)) (left_by r (left_by t image))
        (length-leftBy (left_by r image) t y' ∙ length-leftBy image r x ∙ e)
        (length-leftBy (left_by t image) r x' ∙ length-leftBy image t y ∙ e)
        (λ i l. each_same i)

  -- runs passed over one after the other
  unfoldable pub left_by_all : List Ends → List ℕ → List ℕ
  left_by_all [] image = image
  left_by_all (r ∷ rs) image = left_by_all rs (left_by r image)

  -- RUNS APART, IN ANY ORDER, leave the same image
  pub left_any_order : {rs ts : List Ends} → Rearranged rs ts → (image : List ℕ) → Image f.d image → Each (Within image) rs
      → EachTwo Apart rs → left_by_all rs image ≡ left_by_all ts image
  unfolding left_by_all Each EachTwo
  left_any_order none image i w a = refl
  left_any_order (keep {x = r} {l = rs} h) image i w a =
      left_any_order h (left_by r image) (image-left image r w.0 i)
      (each_map (Within image) (Within (left_by r image)) (within-left image r w.0) rs w.1) a.1
  left_any_order (swap {x = r} {y = t} {l = rs}) image i w a =
      ap (left_by_all rs) (two-swapped image i r t w.0 w.1.0 a.0.0)
  left_any_order (next h k) image i w a =
      left_any_order h image i w a
      ∙ left_any_order k image i (each_any_order (Within image) h w) (two_any_order Apart (λ r t c j u v. c j v u) h a)
