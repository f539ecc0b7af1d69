-- The maker's order: its members are just what may stand as a data column, none twice, sorted by the count of ones. Assumes nothing.
use mathlib.Core.Path.{◌≡◌, sym, ap, ◌∙◌}
use mathlib.Core.Logic.{◌⊎◌, inl, inr, ⊎_elim}
use mathlib.Core.List.{List, ◌++◌}
use Prim.Native.Nat.{ℕ, zero, suc, ◌+◌, ◌-◌, ◌*◌, ◌/◌, ◌%◌, ◌^◌, ◌≤◌, ◌<◌}
use native.Mathlib.Nat.{not-suc-le-zero}
use native.Mathlib.Omega.{arith}
use borrow.Author.Tests.{eq-eqb, eqb-true}
use lib.Count.{ones, ones-le}
use lib.Dec.{eqb}
use lib.ListN.{length, length-append, get_or-append}
use lib.Seq.{get_or-append-add}
use Rattle.parity.proofs.Ones.{below_or_not}
use Rattle.columns.specs.Mix.{column}
use Rattle.order.specs.Order.{with_ones, by_ones, in_order}
use Rattle.least.specs.Sorted.{SortedBy}
use Rattle.least.specs.Order.{DataColumn, Before}
use Rattle.least.proofs.Counting.{Apart, Stands, apart_of, stands-left, stands-right, passing-at, passing-rises, passing-has}

-- a place of two lists joined is one of the first, or so many of the second
record Second (l m : List ℕ) (p : ℕ) : Type 0 where
  place : ℕ
  is : p ≡ length l + place
  inside : place < length m
  same : column (l ++ m) p ≡ column m place

record First (l m : List ℕ) (p : ℕ) : Type 0 where
  inside : p < length l
  same : column (l ++ m) p ≡ column l p

parted : (l m : List ℕ) (p : ℕ) → p < length (l ++ m) → First l m p ⊎ Second l m p
parted l m p h =
    ⊎_elim
    (λ (low : p < length l). inl (record { inside = low; same = get_or-append l m 0 p low }))
    (λ (high : length l ≤ p).
    let e : p ≡ length l + (p - length l) = omega arith in
    inr (record {
      place = p - length l;
      is = e;
      inside = omega (arith, length-append l m);
      same = ap (column (l ++ m)) e ∙ get_or-append-add l m (p - length l) 0;
    }))
    (below_or_not p (length l))

module _ (r : ℕ) where
  -- of those with c, c + 2, .. ones, n counts
  record Listed (n c x : ℕ) : Type 0 where
    below : x < 2 ^ r
    least : c ≤ ones x
    most : ones x < c + 2 * n
    alike : ones x % 2 ≡ c % 2

  with_at : (c p : ℕ) → p < length (with_ones r c) → (column (with_ones r c) p < 2 ^ r) × (ones (column (with_ones r c) p) ≡ c)
  with_at c p h = let at = passing-at (λ x. eqb (ones x) c) (2 ^ r) p h in (at.0, eqb-true (ones (column (with_ones r c) p)) c at.1)

  listed_at : (n c p : ℕ) → p < length (by_ones r n c) → Listed n c (column (by_ones r n c) p)
  unfolding by_ones
  listed_at zero c p h = absurd (not-suc-le-zero h)
  listed_at (suc n) c p h =
      ⊎_elim
      (λ (a : First (with_ones r c) (by_ones r n (c + 2)) p).
      let at = with_at c p a.inside in
      rw a.same (record {
        below = at.0;
        least = omega (arith, at.1);
        most = omega (arith, at.1);
        alike = ap (λ (x : ℕ). x % 2) at.1;
      }))
      (λ (b : Second (with_ones r c) (by_ones r n (c + 2)) p).
      let i = listed_at n (c + 2) b.place b.inside in
      rw b.same (record {
        below = i.below;
        least = omega (arith, i.least);
        most = omega (arith, i.most);
        alike = omega (arith, i.alike);
      }))
      (parted (with_ones r c) (by_ones r n (c + 2)) p h)

  before_at : (n c p q : ℕ) → p < q → q < length (by_ones r n c) → Before (column (by_ones r n c) p) (column (by_ones r n c) q)
  unfolding by_ones
  before_at zero c p q o h = absurd (not-suc-le-zero h)
  before_at (suc n) c p q o h =
      let l = with_ones r c in
      let m = by_ones r n (c + 2) in
      ⊎_elim
      (λ (b : First l m q).
      let at_p = with_at c p (omega (arith, b.inside)) in
      let at-q = with_at c q b.inside in
      rw (get_or-append l m 0 p (omega (arith, b.inside)), b.same)
      (inr (at_p.1 ∙ sym at-q.1, passing-rises (λ x. eqb (ones x) c) (2 ^ r) p q o b.inside)))
      (λ (b : Second l m q).
      ⊎_elim
      (λ (a : First l m p).
      let at_p = with_at c p a.inside in
      let at-q = listed_at n (c + 2) b.place b.inside in
      rw (a.same, b.same) (inl (omega (arith, at_p.1, at-q.least))))
      (λ (a : Second l m p).
      rw (a.same, b.same) (before_at n (c + 2) a.place b.place (omega (arith, a.is, b.is)) b.inside))
      (parted l m p (omega arith)))
      (parted l m q h)

  stands_in : (n c x : ℕ) → Listed n c x → Stands (by_ones r n c) x
  unfolding by_ones
  stands_in zero c x i = absurd (omega (arith, i.least, i.most))
  stands_in (suc n) c x i =
      ⊎_elim
      (λ (past : c < ones x).
      stands-right (with_ones r c) (by_ones r n (c + 2)) x
      (stands_in n (c + 2) x (record {
        below = i.below;
        least = omega (arith, i.alike);
        most = omega (arith, i.most);
        alike = omega (arith, i.alike);
      })))
      (λ (here : ones x ≤ c).
      stands-left (with_ones r c) (by_ones r n (c + 2)) x
      (passing-has (λ x. eqb (ones x) c) (2 ^ r) x i.below (eq-eqb (ones x) c (omega (arith, i.least)))))
      (below_or_not c (ones x))

  -- ---- the whole order

  pub order_at : (p : ℕ) → p < length (in_order r) → DataColumn r (column (in_order r) p)
  order_at p h =
      let i = listed_at ((r - 1) / 2) 3 p h in
      record { below = i.below; odd = i.alike; many = i.least }

  pub order_has : (x : ℕ) → DataColumn r x → Stands (in_order r) x
  order_has x d =
      stands_in ((r - 1) / 2) 3 x (record {
        below = d.below;
        least = d.many;
        most = omega (arith, ones-le r x d.below, d.odd, d.many);
        alike = d.odd;
      })

  -- fewer ones first, and among as many the smaller number
  pub order_before : (p q : ℕ) → p < q → q < length (in_order r) → Before (column (in_order r) p) (column (in_order r) q)
  order_before = before_at ((r - 1) / 2) 3

  pub order_apart : Apart (in_order r)
  order_apart =
      apart_of (in_order r)
      (λ p q o h e. ⊎_elim (λ (fewer : ones (column (in_order r) p) < ones (column (in_order r) q)). omega (arith, fewer, ap ones e))
      (λ t. omega (arith, t.1, e)) (order_before p q o h))

  pub order_sorted : SortedBy ones (in_order r)
  order_sorted p q h l =
      ⊎_elim
      (λ (o : p < q). ⊎_elim (λ fewer. omega (arith, fewer)) (λ t. omega (arith, t.0)) (order_before p q o l))
      (λ (o : q ≤ p). let e : p ≡ q = omega arith in omega (arith, ap (λ (i : ℕ). ones (column (in_order r) i)) e))
      (below_or_not p q)
