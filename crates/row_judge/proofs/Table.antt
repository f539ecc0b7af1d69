-- What each answer of the judge says of a code with a chosen set of rows, both ways: for any most, places, n, r and rows. Assumes nothing.
use mathlib.Core.Path.{◌≡◌, refl, sym, ap, subst, ◌∙◌}
use mathlib.Core.Bool.{Bool, true, false, cond, not, ◌||◌, ◌&&◌, true≢false}
use mathlib.Core.Logic.{◌⊎◌, inl, inr, ⊎_elim, ◌↔◌}
use mathlib.Core.List.{List}
use Prim.Native.Nat.{ℕ, suc, ◌-◌, ◌%◌, ◌^◌, ◌≤◌, ◌<◌}
use native.Mathlib.Omega.{arith}
use borrow.Author.Tests.{ltb-true, ltb-false, leb-true, leb-false, eqb-true, eqb-false, not-true, not-false}
use borrow.Author.Tests.{le-leb, lt-leb, eq-eqb, ne_eqb}
use lib.Dec.{eqb, ltb, leb}
use lib.ListN.{length, take, drop}
use Rattle.parity.specs.Odd.{odd_in}
use Rattle.columns.specs.Mix.{column, place_in}
use Rattle.columns.proofs.Places.{place_hit, place_first}
use Rattle.judge.specs.Rule.{Sized, Limits, Empty, LeftAt}
use Rattle.faults.specs.declared.Fault.TheVariants.{Wide, Again, NotLower, NotUpper, Even, Full}
use Rattle.std.specs.Prelude.{Ok, Err}
use Rattle.row_judge.specs.declared.RowFlaw.TheVariants.{NoData, NoChecks, TooWide, NoRows, Repeated, NotTriangular, EvenColumn, Leftover}
use Rattle.faults.specs.Faults.{off_diagonal, first_past, first_in, some_in}
use Rattle.row_judge.specs.Judge.{JudgedRows, no_set, not_triangular, judge_rest, judge_reasons, judge_rows_in}
use Rattle.row_judge.specs.Rule.{Narrow, SetOfRows, Differ, Lower, Upper, Triangular, OddWithin, Chosen, KeptRows}
use Rattle.row_judge.specs.Rule.{FirstWide, NoSetOfRows, ZeroOrAgain, SomeEven, SaysOfRows}
use Rattle.faults.proofs.Firsts.{first_before, first-at, first_past_lem, first-is, some_at, none_at}

-- ---- each test, both ways

-- a test that says one thing or another, which cannot both hold
pub record Tells (b : Bool) (Yes No : Type 0) : Type 0 where
  pub yes : b ≡ true → Yes
  pub no : b ≡ false → No
  pub apart : Yes → No → ⊥

module _ {b : Bool} {Yes No : Type 0} (t : Tells b Yes No) where
  pub is_true : Yes → b ≡ true
  is_true y = go b refl
    where
      go : (c : Bool) → b ≡ c → b ≡ true
      go true e = e
      go false e = absurd (t.apart y (t.no e))

  pub is_false : No → b ≡ false
  is_false n = go b refl
    where
      go : (c : Bool) → b ≡ c → b ≡ false
      go false e = e
      go true e = absurd (t.apart (t.yes e) n)

-- either of two tests, or none
either : (a b : Bool) (A B : Type 0) → (a ≡ true → A) → (b ≡ true → B) → (a || b) ≡ true → A ⊎ B
either true b A B f g e = inl (f refl)
either false b A B f g e = inr (g e)

neither : (a b : Bool) → (a || b) ≡ false → (a ≡ false) × (b ≡ false)
neither false b e = (refl, e)
neither true b e = absurd (true≢false e)

sized_told : (most n r : ℕ) → Tells (leb n r || ltb most (n - r)) ((n ≤ r) ⊎ (most < n - r)) (Sized most (n - r))
sized_told most n r = record {
  yes = either (leb n r) (ltb most (n - r)) (n ≤ r) (most < n - r) (leb-true n r) (ltb-true most (n - r));
  no = λ e.
      let f = neither (leb n r) (ltb most (n - r)) e in
      let l = leb-false n r f.0 in
      record { some = omega arith; few = ltb-false most (n - r) f.1 };
  apart = λ y s. ⊎_elim (λ (h : n ≤ r). omega (arith, h, s.some)) (λ (h : most < n - r). omega (arith, h, s.few)) y;
}

checks-told : (r : ℕ) → Tells (ltb r 3 || ltb 16 r) ((r < 3) ⊎ (16 < r)) ((3 ≤ r) × (r ≤ 16))
checks-told r = record {
  yes = either (ltb r 3) (ltb 16 r) (r < 3) (16 < r) (ltb-true r 3) (ltb-true 16 r);
  no = λ e. let f = neither (ltb r 3) (ltb 16 r) e in (ltb-false r 3 f.0, ltb-false 16 r f.1);
  apart = λ y s. ⊎_elim (λ (h : r < 3). omega (arith, h, s.0)) (λ (h : 16 < r). omega (arith, h, s.1)) y;
}

wide-told : (cs : List ℕ) (r : ℕ) → Tells (some_in (Wide r) cs) (FirstWide cs r (first_in (Wide r) cs)) (Narrow cs r)
wide-told cs r = record {
  yes = λ e.
      let s = some_at (Wide r) cs e in
      record {
        inside = s.0;
        wide = leb-true (2 ^ r) (column cs (first_in (Wide r) cs)) s.1;
        before = λ j l. leb-false (2 ^ r) (column cs j) (first_before (Wide r) cs 0 j (omega arith) l);
      };
  no = λ e i l. leb-false (2 ^ r) (column cs i) (none_at (Wide r) cs e i l);
  apart = λ f narrow. let n = narrow (first_in (Wide r) cs) f.inside in omega (arith, f.wide);
}

pub set_told : (r rows : ℕ) → Tells (no_set r rows) (NoSetOfRows r rows) (SetOfRows r rows)
set_told r rows = record {
  yes = either (eqb rows 0) (leb (2 ^ r) rows) (rows ≡ 0) (2 ^ r ≤ rows) (eqb-true rows 0) (leb-true (2 ^ r) rows);
  no = λ e.
      let f = neither (eqb rows 0) (leb (2 ^ r) rows) e in
      record { some = eqb-false rows 0 f.0; within = leb-false (2 ^ r) rows f.1 };
  apart = λ y s. ⊎_elim s.some (λ (h : 2 ^ r ≤ rows). omega (arith, h, s.within)) y;
}

again_told : (cs : List ℕ) → Tells (some_in Again cs) (ZeroOrAgain cs) (Differ cs)
again_told cs = record {
  yes = λ e.
      let s = some_at Again cs e in
      let i = first_in Again cs in
      let p = place_in cs (column cs i) in (
        i,
        s.0,
        either (eqb (column cs i) 0) (ltb p i) (column cs i ≡ 0) ((j : ℕ) × (j < i) × (column cs j ≡ column cs i))
            (eqb-true (column cs i) 0)
            (λ t. let l = ltb-true p i t in (p, l, place_hit cs (column cs i) (omega (arith, s.0)))) s.1,
      );
  no = λ e. record {
    some = λ i l. eqb-false (column cs i) 0 (tests e i l).0;
    apart = λ p q hp hq same.
        let up : ¬ (p < q) = λ l. later e p q l hq same in
        let down : ¬ (q < p) = λ l. later e q p l hp (sym same) in
        omega arith;
  };
  apart = λ y d. ⊎_elim (d.some y.0 y.1)
      (λ a. let same = d.apart a.0 y.0 (omega (arith, a.1, y.1)) y.1 a.2 in omega (arith, a.1)) y.2;
}
  where
    tests : some_in Again cs ≡ false → (i : ℕ) → i < length cs → (eqb (column cs i) 0 ≡ false) × (ltb (place_in cs (column cs i)) i ≡ false)
    tests e i l = neither (eqb (column cs i) 0) (ltb (place_in cs (column cs i)) i) (none_at Again cs e i l)

    later : some_in Again cs ≡ false → (p q : ℕ) → p < q → q < length cs → column cs p ≡ column cs q → ⊥
    later e p q l hq same =
        let none = ltb-false (place_in cs (column cs q)) q (tests e q hq).1 in
        omega (arith, place_first cs (column cs q) p (omega arith) same)

lower_told : (checks : List ℕ) → some_in NotLower checks ≡ false → Lower checks
lower_told checks e p l = eqb-true (off_diagonal checks p % 2 ^ suc p) 0 (not-false _ (none_at NotLower checks e p l))

lower_fault : (checks : List ℕ) → some_in NotLower checks ≡ true → Lower checks → ⊥
lower_fault checks e low =
    let s = some_at NotLower checks e in
    let p = first_in NotLower checks in
    eqb-false (off_diagonal checks p % 2 ^ suc p) 0 (not-true _ s.1) (low p s.0)

upper_told : (checks : List ℕ) → some_in NotUpper checks ≡ false → Upper checks
upper_told checks e p l = leb-false (2 ^ p) (off_diagonal checks p) (none_at NotUpper checks e p l)

upper_fault : (checks : List ℕ) → some_in NotUpper checks ≡ true → Upper checks → ⊥
upper_fault checks e up =
    let s = some_at NotUpper checks e in
    let p = first_in NotUpper checks in
    let h = up p s.0 in
    omega (arith, leb-true (2 ^ p) (off_diagonal checks p) s.1)

pub corner_told : (checks : List ℕ) → Tells (not_triangular checks) (¬ (Triangular checks)) (Triangular checks)
corner_told checks = record {
  yes = go (some_in NotLower checks) (some_in NotUpper checks) refl refl;
  no = come (some_in NotLower checks) (some_in NotUpper checks) refl refl;
  apart = λ y c. y c;
}
  where
    go : (a b : Bool) → some_in NotLower checks ≡ a → some_in NotUpper checks ≡ b → (a && b) ≡ true → ¬ (Triangular checks)
    go false b ha hb e = absurd (true≢false (sym e))
    go true false ha hb e = absurd (true≢false (sym e))
    go true true ha hb e = ⊎_elim (lower_fault checks ha) (upper_fault checks hb)

    come : (a b : Bool) → some_in NotLower checks ≡ a → some_in NotUpper checks ≡ b → (a && b) ≡ false → Triangular checks
    come false b ha hb e = inl (lower_told checks ha)
    come true false ha hb e = inr (upper_told checks hb)
    come true true ha hb e = absurd (true≢false e)

even_told : (cs : List ℕ) (rows : ℕ) → Tells (some_in (Even rows) cs) (SomeEven cs rows) (OddWithin cs rows)
even_told cs rows = record {
  yes = λ e. let s = some_at (Even rows) cs e in let i = first_in (Even rows) cs in (i, s.0, eqb-true (odd_in rows (column cs i)) 0 s.1);
  no = λ e i l. let n = eqb-false (odd_in rows (column cs i)) 0 (none_at (Even rows) cs e i l) in omega arith;
  apart = λ y o. omega (arith, y.2, o y.0 y.1);
}

rest-told : (places : List ℕ) (n : ℕ)
    → Tells (ltb (first_past Full places n) (length places)) (LeftAt places n (first_past Full places n)) (Empty places n)
rest-told places n = record {
  yes = λ e.
      let i = first_past Full places n in
      let l = ltb-true i (length places) e in
      record {
        past = first_past_lem Full places n;
        inside = l;
        full = eqb-false (column places i) 0 (not-true _ (first-at Full places n l));
        before = λ j h m. eqb-true (column places j) 0 (not-false _ (first_before Full places n j h m));
      };
  no = λ e i h l.
      eqb-true (column places i) 0
      (not-false _ (first_before Full places n i h (omega (arith, ltb-false (first_past Full places n) (length places) e))));
  apart = λ y empty. y.full (empty (first_past Full places n) y.past y.inside);
}

-- ---- the answers

module _ (most : ℕ) (places : List ℕ) (n r rows : ℕ) where
  abbrev cs : List ℕ
  cs = take n places

  -- every answer of the judge says what its row of the table says
  pub rows_say : SaysOfRows most places n r rows (judge_rows_in most places n r rows)
  unfolding judge_rows_in judge_reasons
  rows_say =
      go (leb n r || ltb most (n - r)) (ltb r 3 || ltb 16 r) (some_in (Wide r) cs) (no_set r rows) (some_in Again cs)
      (not_triangular (drop (n - r) cs)) (some_in (Even rows) cs) (ltb (first_past Full places n) (length places))
      (sized_told most n r) (checks-told r) (wide-told cs r) (set_told r rows) (again_told cs) (corner_told (drop (n - r) cs))
      (even_told cs rows) (rest-told places n)
    where
      limits : Sized most (n - r) → (3 ≤ r) × (r ≤ 16) → Limits most (n - r) r
      limits s c = record { sized = s; least = c.0; top = c.1 }

      go : (a b w s g t e l : Bool) → Tells a ((n ≤ r) ⊎ (most < n - r)) (Sized most (n - r))
          → Tells b ((r < 3) ⊎ (16 < r)) ((3 ≤ r) × (r ≤ 16)) → Tells w (FirstWide cs r (first_in (Wide r) cs)) (Narrow cs r)
          → Tells s (NoSetOfRows r rows) (SetOfRows r rows) → Tells g (ZeroOrAgain cs) (Differ cs)
          → Tells t (¬ (Triangular (drop (n - r) cs))) (Triangular (drop (n - r) cs))
          → Tells e (SomeEven cs rows) (OddWithin cs rows) → Tells l (LeftAt places n (first_past Full places n)) (Empty places n)
          → SaysOfRows most places n r rows
          (cond a (Err NoData) (cond b (Err NoChecks) (cond w (Err (TooWide (first_in (Wide r) cs)))
          (cond s (Err NoRows) (cond g (Err Repeated) (cond t (Err NotTriangular)
          (cond e (Err EvenColumn) (cond l (Err (Leftover (first_past Full places n))) (Ok tt)))))))))
      go true b w s g t e l ta tb tw ts tg tt te tl = ta.yes refl
      go false true w s g t e l ta tb tw ts tg tt te tl = (ta.no refl, tb.yes refl)
      go false false true s g t e l ta tb tw ts tg tt te tl = (limits (ta.no refl) (tb.no refl), tw.yes refl)
      go false false false true g t e l ta tb tw ts tg tt te tl = (limits (ta.no refl) (tb.no refl), tw.no refl, ts.yes refl)
      go false false false false true t e l ta tb tw ts tg tt te tl =
          (limits (ta.no refl) (tb.no refl), tw.no refl, ts.no refl, tg.yes refl)
      go false false false false false true e l ta tb tw ts tg tt te tl =
          (limits (ta.no refl) (tb.no refl), tw.no refl, ts.no refl, tg.no refl, tt.yes refl)
      go false false false false false false true l ta tb tw ts tg tt te tl =
          (limits (ta.no refl) (tb.no refl), tw.no refl, ts.no refl, tg.no refl, tt.no refl, te.yes refl)
      go false false false false false false false true ta tb tw ts tg tt te tl = (
        limits (ta.no refl) (tb.no refl),
        record { narrow = tw.no refl; set = ts.no refl; differ = tg.no refl; triangular = tt.no refl; odd = te.no refl },
        tl.yes refl,
      )
      go false false false false false false false false ta tb tw ts tg tt te tl = (
        limits (ta.no refl) (tb.no refl),
        record { narrow = tw.no refl; set = ts.no refl; differ = tg.no refl; triangular = tt.no refl; odd = te.no refl },
        tl.no refl,
      )

  -- ---- and where a row says so, that is the answer: what is left past each test

  past_limits : Limits most (n - r) r
      → judge_rows_in most places n r rows ≡ cond (some_in (Wide r) cs) (Err (TooWide (first_in (Wide r) cs))) (judge_reasons places n r rows)
  unfolding judge_rows_in
  past_limits l = simp (is_false (sized_told most n r) l.sized, is_false (checks-told r) (l.least, l.top))

  past_wide : Limits most (n - r) r → Narrow cs r → judge_rows_in most places n r rows ≡ judge_reasons places n r rows
  past_wide l w = past_limits l ∙ simp (is_false (wide-told cs r) w)

  past_set : SetOfRows r rows
      → judge_reasons places n r rows ≡ cond (some_in Again cs) (Err Repeated)
      (cond (not_triangular (drop (n - r) cs)) (Err NotTriangular) (cond (some_in (Even rows) cs) (Err EvenColumn) (judge_rest places n)))
  unfolding judge_reasons
  past_set s = simp (is_false (set_told r rows) s)

  past_rule : Limits most (n - r) r → Chosen cs (n - r) r rows → judge_rows_in most places n r rows ≡ judge_rest places n
  past_rule l c =
      past_wide l c.narrow ∙ past_set c.set
      ∙ simp (
        is_false (again_told cs) c.differ,
        is_false (corner_told (drop (n - r) cs)) c.triangular,
        is_false (even_told cs rows) c.odd,
      )

  pub says-rows : (v : JudgedRows) → SaysOfRows most places n r rows v → judge_rows_in most places n r rows ≡ v
  unfolding judge_rows_in judge_reasons
  says-rows (Err NoData) s = simp (is_true (sized_told most n r) s)
  says-rows (Err NoChecks) s = simp (is_false (sized_told most n r) s.0, is_true (checks-told r) s.1)
  says-rows (Err (TooWide i)) s =
      let f = s.1 in
      let at : first_in (Wide r) cs ≡ i = first-is (Wide r) cs 0 i (omega arith) f.inside (le-leb (2 ^ r) (column cs i) f.wide)
      (λ j h l. lt-leb (2 ^ r) (column cs j) (f.before j l)) in
      past_limits s.0 ∙ simp (is_true (wide-told cs r) (subst (FirstWide cs r) (sym at) f)) (ap (λ (j : ℕ). Err (TooWide j)) at)
  says-rows (Err NoRows) s = past_wide s.0 s.1 ∙ simp (is_true (set_told r rows) s.2)
  says-rows (Err Repeated) s = past_wide s.0 s.1 ∙ past_set s.2 ∙ simp (is_true (again_told cs) s.3)
  says-rows (Err NotTriangular) s =
      past_wide s.0 s.1 ∙ past_set s.2
      ∙ simp (is_false (again_told cs) s.3, is_true (corner_told (drop (n - r) cs)) s.4)
  says-rows (Err EvenColumn) s =
      past_wide s.0 s.1 ∙ past_set s.2
      ∙ simp (is_false (again_told cs) s.3, is_false (corner_told (drop (n - r) cs)) s.4, is_true (even_told cs rows) s.5)
  says-rows (Err (Leftover i)) s =
      let f = s.2 in
      let at : first_past Full places n ≡ i = first-is Full places n i f.past f.inside
      (ap not (ne_eqb (column places i) 0 f.full)) (λ j h l. ap not (eq-eqb (column places j) 0 (f.before j h l))) in
      past_rule s.0 s.1 ∙ simp (is_true (rest-told places n) (subst (LeftAt places n) (sym at) f)) (ap (λ (j : ℕ). Err (Leftover j)) at)
  says-rows (Ok u) s = past_rule s.0 s.1 ∙ simp (is_false (rest-told places n) s.2)

  -- THE TABLE: each answer exactly when its row says so and no earlier one
  pub rows_exactly : (v : JudgedRows) → (judge_rows_in most places n r rows ≡ v) ↔ SaysOfRows most places n r rows v
  rows_exactly v = (λ e. subst (SaysOfRows most places n r rows) e rows_say, says-rows v)

  -- THE RULE: accepted exactly when the limits and the rule are kept and the places past n are empty
  pub rows_rule : (judge_rows_in most places n r rows ≡ Ok tt) ↔ KeptRows most places n r rows
  rows_rule = (
    λ e. let s = (rows_exactly (Ok tt)).0 e in record { limits = s.0; rule = s.1; empty = s.2 },
    λ k. says-rows (Ok tt) (k.limits, k.rule, k.empty),
  )
