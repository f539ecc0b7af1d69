-- What the words mean, both ways round: runs apart by their ends, entries that differ in their stamp alone, and a rearrangement as the
-- library's permutation. Assumes nothing.
use mathlib.Core.Path.{◌≡◌, refl, ap}
use mathlib.Core.Logic.{◌⊎◌, inl, inr, ◌↔◌}
use mathlib.Core.List.{List, ◌∷◌, Permᴰ}
use Prim.Native.Nat.{◌≤◌, ◌<◌}
use native.Mathlib.Omega.{arith}
use Rattle.parity.proofs.Ones.{below_or_not}
use Rattle.record.specs.Layout.{Entry}
use Rattle.orders.specs.Lists.{Rearranged, none, keep, swap, next}
use Rattle.orders.specs.Orders.{Ends, Apart, unstamped}
use Rattle.orders.proofs.Lists.{same_order}

-- ---- runs

-- one of them has no record, or one ends where the other starts or before
abbrev pub Clear : Ends → Ends → Type 0
Clear r t = (r.end ≤ r.start) ⊎ (t.end ≤ t.start) ⊎ (r.end ≤ t.start) ⊎ (t.end ≤ r.start)

pub apart_exactly : (r t : Ends) → Apart r t ↔ Clear r t
apart_exactly r t = (there, back)
  where
    go : Apart r t → (r.start < r.end) ⊎ (r.end ≤ r.start) → (t.start < t.end) ⊎ (t.end ≤ t.start)
        → (t.start < r.end) ⊎ (r.end ≤ t.start) → (r.start < t.end) ⊎ (t.end ≤ r.start)
        → (r.start < t.start) ⊎ (t.start ≤ r.start) → Clear r t
    go h (inr x) y u v w = inl x
    go h (inl x) (inr y) u v w = inr (inl y)
    go h (inl x) (inl y) (inr u) v w = inr (inr (inl u))
    go h (inl x) (inl y) (inl u) (inr v) w = inr (inr (inr v))
    go h (inl x) (inl y) (inl u) (inl v) (inl w) = absurd (h t.start (omega arith, omega arith) (omega arith, omega arith))
    go h (inl x) (inl y) (inl u) (inl v) (inr w) = absurd (h r.start (omega arith, omega arith) (omega arith, omega arith))

    there : Apart r t → Clear r t
    there h =
        go h (below_or_not r.start r.end) (below_or_not t.start t.end) (below_or_not t.start r.end)
        (below_or_not r.start t.end) (below_or_not r.start t.start)

    back : Clear r t → Apart r t
    back (inl c) i u v = omega (arith, u.0, u.1, c)
    back (inr (inl c)) i u v = omega (arith, v.0, v.1, c)
    back (inr (inr (inl c))) i u v = omega (arith, u.1, v.0, c)
    back (inr (inr (inr c))) i u v = omega (arith, u.0, v.1, c)

-- ---- entries

-- all but the stamp
pub record SameButStamp (e f : Entry) : Type 0 where
  pub number : e.number ≡ f.number
  pub verdict : e.verdict ≡ f.verdict
  pub place : e.place ≡ f.place
  pub syndrome : e.syndrome ≡ f.syndrome
  pub before : e.before ≡ f.before
  pub after : e.after ≡ f.after

pub unstamped_exactly : (e f : Entry) → (unstamped e ≡ unstamped f) ↔ SameButStamp e f
unstamped_exactly e f = (
  λ h. record {
    number = ap (λ x. x.number) h;
    verdict = ap (λ x. x.verdict) h;
    place = ap (λ x. x.place) h;
    syndrome = ap (λ x. x.syndrome) h;
    before = ap (λ x. x.before) h;
    after = ap (λ x. x.after) h;
  },
  λ h. λ i. record {
    stamp = 0;
    number = h.number i;
    verdict = h.verdict i;
    place = h.place i;
    syndrome = h.syndrome i;
    before = h.before i;
    after = h.after i;
  },
)

-- ---- rearrangements

module _ {X : Type 0} where
  to_perm : {l m : List X} → Rearranged l m → Permᴰ l m
  to_perm none = Permᴰ.nil
  to_perm (keep h) = Permᴰ.cons refl (to_perm h)
  to_perm swap = Permᴰ.swap refl refl
  to_perm (next h k) = Permᴰ.trans (to_perm h) (to_perm k)

  same_head : {x y : X} {l : List X} → x ≡ y → Rearranged (x ∷ l) (y ∷ l)
  same_head {x} {y} {l} e = rw e (same_order (y ∷ l))

  of_perm : {l m : List X} → Permᴰ l m → Rearranged l m
  of_perm Permᴰ.nil = none
  of_perm (Permᴰ.cons e h) = next (keep (of_perm h)) (same_head e)
  of_perm (Permᴰ.swap e f) = next swap (next (same_head f) (keep (same_head e)))
  of_perm (Permᴰ.trans h k) = next (of_perm h) (of_perm k)

  pub rearranged_exactly : (l m : List X) → Rearranged l m ↔ Permᴰ l m
  rearranged_exactly l m = (to_perm, of_perm)
