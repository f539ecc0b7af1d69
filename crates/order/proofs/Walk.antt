-- A walk over the numbers below 2 ^ r that puts those with c ones into places: what it has still to put is what is ahead of it.
-- Assumes nothing.
use mathlib.Core.Path.{◌≡◌, refl, sym, ap, ap₂, ◌∙◌}
use mathlib.Core.Logic.{◌≢◌}
use mathlib.Core.List.{List, [], ◌∷◌}
use Prim.Native.Nat.{ℕ, zero, suc, ◌+◌, ◌-◌, ◌/◌, ◌^◌, ◌≤◌, ◌<◌, min}
use native.Mathlib.Nat.{not-suc-le-zero, pow-suc}
use native.Mathlib.Numerals.{add-one}
use native.Mathlib.Omega.{arith}
use borrow.Author.Tests.{eq-eqb, ne_eqb}
use lib.Count.{ones}
use lib.Dec.{eqb}
use lib.ListN.{length, set, length-set}
use lib.Pow.{pow_pos}
use Rattle.order.specs.Order.{passing_from, with_ones, by_ones, in_order}
use Rattle.order.specs.Order.{put_from}
use Rattle.order.proofs.Putting.{put_full, put_next, length_put}

-- those from x on
abbrev ahead : ℕ → ℕ → ℕ → List ℕ
ahead r c x = passing_from (λ y. eqb (ones y) c) (2 ^ r - x) x

module _ (r c x : ℕ) (h : x < 2 ^ r) where
  more : 2 ^ r - x ≡ suc (2 ^ r - (x + 1))
  more = omega arith

  ahead-taken : ones x ≡ c → ahead r c x ≡ x ∷ ahead r c (x + 1)
  unfolding passing_from
  ahead-taken e = ap (λ (m : ℕ). passing_from (λ y. eqb (ones y) c) m x) more ∙ rw (eq-eqb (ones x) c e, add-one x)

  ahead-left : ones x ≢ c → ahead r c x ≡ ahead r c (x + 1)
  unfolding passing_from
  ahead-left e = ap (λ (m : ℕ). passing_from (λ y. eqb (ones y) c) m x) more ∙ rw (ne_eqb (ones x) c e, add-one x)

ahead_none : (r c x : ℕ) → 2 ^ r ≤ x → ahead r c x ≡ []
unfolding passing_from
ahead_none r c x h = let e : 2 ^ r - x ≡ 0 = omega arith in ap (λ (m : ℕ). passing_from (λ y. eqb (ones y) c) m x) e

-- ---- one count of ones

module _ (first : List ℕ) (at r c : ℕ) where
  -- at the number x, with the next column's place i
  pub record Walked (places : List ℕ) (i x : ℕ) : Type 0 where
    pub inside : x ≤ 2 ^ r
    pub most : i ≤ length places
    pub same : length places ≡ length first
    pub next : min (length first) (i + length (ahead r c x)) ≡ min (length first) (at + length (with_ones r c))
    pub put : put_from places i (ahead r c x) ≡ put_from first at (with_ones r c)

  -- what the walk leaves, and where the next column goes
  pub record Ended (places : List ℕ) (i : ℕ) : Type 0 where
    pub next : i ≡ min (length first) (at + length (with_ones r c))
    pub put : places ≡ put_from first at (with_ones r c)

  pub walk_start : at ≤ length first → Walked first at 0
  walk_start h =
      let z : 2 ^ r - 0 ≡ 2 ^ r = omega arith in
      let e : ahead r c 0 ≡ with_ones r c = ap (λ (m : ℕ). passing_from (λ y. eqb (ones y) c) m 0) z in
      record {
        inside = omega arith;
        most = h;
        same = refl;
        next = ap (λ (l : List ℕ). min (length first) (at + length l)) e;
        put = ap (put_from first at) e;
      }

  module _ (places : List ℕ) (i x : ℕ) (w : Walked places i x) where
    pub walk-taken : x < 2 ^ r → i < length places → ones x ≡ c → Walked (set places i x) (i + 1) (x + 1)
    unfolding put_from
    walk-taken h l e =
        let t = ahead-taken r c x h e in
        let n = length-set places i x in
        record {
          inside = omega arith;
          most = omega arith;
          same = omega (arith, w.same);
          next = omega (arith, ap length t, w.next);
          put = ap (λ (m : ℕ). put_from (set places i x) m (ahead r c (x + 1))) (add-one i) ∙ sym (ap (put_from places i) t) ∙ w.put;
        }

    pub walk-left : x < 2 ^ r → ones x ≢ c → Walked places i (x + 1)
    walk-left h e =
        let t = ahead-left r c x h e in
        record {
          inside = omega arith;
          most = w.most;
          same = w.same;
          next = omega (arith, ap length t, w.next);
          put = sym (ap (put_from places i) t) ∙ w.put;
        }

    -- the places are full, or the numbers are at their end
    pub walk-full : length places ≤ i → Ended places i
    walk-full h = record { next = omega (arith, w.most, w.same, w.next); put = sym (put_full places i (ahead r c x) h) ∙ w.put }

    pub walk-done : 2 ^ r ≤ x → Ended places i
    unfolding put_from
    walk-done h =
        let t = ahead_none r c x h in
        record { next = omega (arith, ap length t, w.most, w.same, w.next); put = sym (ap (put_from places i) t) ∙ w.put }

-- ---- all counts: from c on, every other one up to r

abbrev rest : ℕ → ℕ → List ℕ
rest r c = by_ones r ((r + 2 - c) / 2) c

module _ (first : List ℕ) (r : ℕ) where
  -- at the count c, with the next column's place i
  pub record Counted (places : List ℕ) (i c : ℕ) : Type 0 where
    pub most : i ≤ length places
    pub same : length places ≡ length first
    pub put : put_from places i (rest r c) ≡ put_from first 0 (in_order r)

  pub count-start : Counted first 0 3
  count-start =
      let e : (r + 2 - 3) / 2 ≡ (r - 1) / 2 = omega arith in
      record { most = omega arith; same = refl; put = ap (λ (n : ℕ). put_from first 0 (by_ones r n 3)) e }

  module _ (places : List ℕ) (i c : ℕ) (w : Counted places i c) where
    pub count_next : c ≤ r → (after : List ℕ) (j : ℕ) → Ended places i r c after j → Counted after j (c + 2)
    unfolding by_ones
    count_next h after j e =
        let n : (r + 2 - c) / 2 ≡ suc ((r + 2 - (c + 2)) / 2) = omega arith in
        let l = length_put places i (with_ones r c) in
        let size : length after ≡ length places = ap length e.put ∙ l in
        record {
          most = omega (arith, e.next);
          same = omega (arith, w.same);
          put =
              ap₂ (λ (q : List ℕ) (m : ℕ). put_from q m (rest r (c + 2))) e.put e.next
              ∙ sym (put_next places i (with_ones r c) (rest r (c + 2)))
              ∙ ap (λ (m : ℕ). put_from places i (by_ones r m c)) (sym n)
              ∙ w.put;
        }

    pub count-full : length places ≤ i → places ≡ put_from first 0 (in_order r)
    count-full h = sym (put_full places i (rest r c) h) ∙ w.put

    pub count-done : r < c → places ≡ put_from first 0 (in_order r)
    unfolding by_ones put_from
    count-done h =
        let n : (r + 2 - c) / 2 ≡ 0 = omega arith in
        sym (ap (λ (m : ℕ). put_from places i (by_ones r m c)) n) ∙ w.put

-- ---- sizes

-- there are no more rows than half of the numbers
pub rows_fit : (r : ℕ) → 1 ≤ r → r ≤ 2 ^ (r - 1)
rows_fit zero h = absurd (not-suc-le-zero h)
rows_fit (suc zero) h = omega arith
rows_fit (suc (suc r)) h =
    let e : suc (suc r) - 1 ≡ suc r = omega arith in
    let f : suc r - 1 ≡ r = omega arith in
    let less = rows_fit (suc r) (omega arith) in
    rw e (omega (arith, rw f at less, pow-suc 2 r, pow_pos r))
