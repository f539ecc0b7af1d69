-- Columns that are settled keep their family's rule, so the plain judge accepts them. For any number of places. Assumes nothing.
use mathlib.Core.Path.{◌≡◌, refl, sym, ap, subst}
use mathlib.Core.Bool.{Bool, true, false, cond, not, ◌||◌, ◌&&◌, false≢true}
use mathlib.Core.Logic.{◌≢◌}
use mathlib.Core.List.{List}
use Prim.Native.Nat.{ℕ, ◌+◌, ◌-◌, ◌^◌, ◌≤◌, ◌<◌}
use native.Mathlib.Numerals.{add-one}
use native.Mathlib.Omega.{arith}
use borrow.Author.Tests.{ltb-false, leb-true, leb-false, eqb-true, eqb-false, not-true}
use lib.Bits.{bit_and}
use lib.Count.{ones}
use lib.Dec.{eqb, ltb, leb}
use lib.ListN.{length, take, drop}
use lib.Pow.{pow_mono}
use Rattle.std.specs.Prelude.{Ok, Err}
use Rattle.std.specs.Result.{is_ok}
use Rattle.parity.specs.Odd.{odd_ones, odd_in, is_odd, all_rows}
use Rattle.parity.proofs.Ones.{zero-ones}
use Rattle.parity.proofs.Rows.{odd_all}
use Rattle.parity.specs.Below.{all_below}
use Rattle.parity.proofs.Tested.{all_at}
use Rattle.columns.specs.Mix.{column, place_in}
use Rattle.columns.proofs.Places.{place_first}
use Rattle.judge.specs.Judge.{Judged, judge_rest, judge_in}
use Rattle.judge.specs.Rule.{Limits, Empty, FineAt}
use Rattle.judge.proofs.Rest.{SaysOfRest, rest-says}
use Rattle.judge.proofs.Rule.{rule-of}
use Rattle.judge.proofs.Table.{judge_rule}
use Rattle.row_judge.specs.Judge.{no_set, not_triangular, judge_rows_in}
use Rattle.row_judge.proofs.Table.{set_told, corner_told, rows_rule}
use Rattle.quick_judge.specs.Quick.{in_limits, fine_column, settled_at, all_settled, shaped_rows}

-- one turn of the loop over the columns
pub all_step : (f : ℕ → Bool) (i : ℕ) → all_below f (i + 1) ≡ (f i && all_below f i)
unfolding all_below
all_step f i = rw (add-one i)

-- a test that was passed, and the one behind it
passed : (a b : Bool) → cond a false b ≡ true → (a ≡ false) × (b ≡ true)
passed false b e = (refl, e)
passed true b e = absurd (false≢true e)

held : (a b : Bool) → cond a b false ≡ true → (a ≡ true) × (b ≡ true)
held true b e = (refl, e)
held false b e = absurd (false≢true e)

-- ---- the limits

pub limits_of : (most k r : ℕ) → in_limits most k r ≡ true → Limits most k r
limits_of most k r e =
    let a = passed (eqb k 0) (cond (ltb most k) false (cond (ltb r 3) false (leb r 16))) e in
    let b = passed (ltb most k) (cond (ltb r 3) false (leb r 16)) a.1 in
    let c = passed (ltb r 3) (leb r 16) b.1 in
    let some = eqb-false k 0 a.0 in
    record {
      sized = record { some = omega arith; few = ltb-false most k b.0 };
      least = ltb-false r 3 c.0;
      top = leb-true r 16 c.1;
    }

-- ---- what a settled column is

module _ (cs : List ℕ) (r rows : ℕ) (singles : Bool) (e : all_settled cs r rows singles ≡ true) where
  apart-test : (i : ℕ) → i < length cs
      → (ltb (place_in cs (column cs i)) i ≡ false) × (fine_column r rows singles (column cs i) ≡ true)
  apart-test i h =
      passed (ltb (place_in cs (column cs i)) i) (fine_column r rows singles (column cs i))
      (all_at (settled_at cs r rows singles) (length cs) e i h)

  pub settled_first : (i : ℕ) → i < length cs → i ≤ place_in cs (column cs i)
  settled_first i h = ltb-false (place_in cs (column cs i)) i (apart-test i h).0

  wide_test : (i : ℕ) → i < length cs
      → (leb (2 ^ r) (column cs i) ≡ false)
      × (cond (is_odd (bit_and (column cs i) rows)) (singles || not (eqb (ones (column cs i)) 1)) false ≡ true)
  wide_test i h =
      passed (leb (2 ^ r) (column cs i)) (cond (is_odd (bit_and (column cs i) rows)) (singles || not (eqb (ones (column cs i)) 1)) false)
      (apart-test i h).1

  pub settled_narrow : (i : ℕ) → i < length cs → column cs i < 2 ^ r
  settled_narrow i h = leb-false (2 ^ r) (column cs i) (wide_test i h).0

  odd_test : (i : ℕ) → i < length cs
      → (is_odd (bit_and (column cs i) rows) ≡ true) × ((singles || not (eqb (ones (column cs i)) 1)) ≡ true)
  odd_test i h = held (is_odd (bit_and (column cs i) rows)) (singles || not (eqb (ones (column cs i)) 1)) (wide_test i h).1

  pub settled_odd : (i : ℕ) → i < length cs → odd_in rows (column cs i) ≡ 1
  settled_odd i h = eqb-true (odd_in rows (column cs i)) 1 (odd_test i h).0

  pub settled_many : singles ≡ false → (i : ℕ) → i < length cs → ones (column cs i) ≢ 1
  settled_many n i h =
      eqb-false (ones (column cs i)) 1
      (not-true (eqb (ones (column cs i)) 1)
      (subst (λ (b : Bool). (b || not (eqb (ones (column cs i)) 1)) ≡ true) n (odd_test i h).1))

  -- so no two are equal
  pub settled_apart : (p q : ℕ) → p < length cs → q < length cs → column cs p ≡ column cs q → p ≡ q
  settled_apart p q hp hq same =
      omega (
        arith,
        place_first cs (column cs q) p hp same,
        settled_first q hq,
        place_first cs (column cs p) q hq (sym same),
        settled_first p hp,
      )

  -- and none is zero
  pub settled_some : (i : ℕ) → i < length cs → column cs i ≢ 0
  settled_some i h z = omega (arith, settled_odd i h, ap (odd_in rows) z, zero-ones)

-- what is asked of the judge's answer
pub is_accepted : (v : Judged) → is_ok v ≡ true → v ≡ Ok tt
is_accepted (Ok u) e = refl
is_accepted (Err f) e = absurd (false≢true e)

-- nothing is left over where the rest is accepted
pub rest_empty : (places : List ℕ) (k : ℕ) → judge_rest places k ≡ Ok tt → Empty places k
rest_empty places k e = subst (SaysOfRest places k) e (rest-says places k)

-- ---- THE LAWS: what is quickly accepted the plain judge accepts

pub hsiao_accepted : (most : ℕ) (places : List ℕ) (k r : ℕ) → Limits most k r
    → all_settled (take k places) r 65535 false ≡ true → judge_rest places k ≡ Ok tt
    → judge_in most places k r ≡ Ok tt
hsiao_accepted most places k r limits e rest =
    (judge_rule most places k r).1
    (record { limits = limits; rule = rule-of (take k places) r fine; empty = rest_empty places k rest })
  where
    fine : (i : ℕ) → i < length (take k places) → FineAt (take k places) r i
    fine i h =
        let cs = take k places in
        let x = column cs i in
        let below = settled_narrow cs r 65535 false e i h in
        let wide = pow_mono {i = r} {j = 16} limits.top in
        let all : odd_in (all_rows 16) x ≡ odd_ones x = odd_all 16 x (omega arith) in
        record {
          narrow = λ l. omega (arith, l);
          odd = λ z. omega (arith, z, all, settled_odd cs r 65535 false e i h);
          many = settled_many cs r 65535 false e refl i h;
          new = λ a. omega (arith, a.1, place_first cs x a.0 (omega (arith, a.1)) a.2, settled_first cs r 65535 false e i h);
        }

pub rows_accepted : (most : ℕ) (places : List ℕ) (n r rows : ℕ) → Limits most (n - r) r
    → all_settled (take n places) r rows true ≡ true → shaped_rows places n r rows ≡ true → judge_rest places n ≡ Ok tt
    → judge_rows_in most places n r rows ≡ Ok tt
rows_accepted most places n r rows limits e shape rest =
    let cs = take n places in
    let checks = drop (n - r) cs in
    let s = passed (no_set r rows) (not (not_triangular checks)) shape in
    (rows_rule most places n r rows).1
    (record {
      limits = limits;
      rule = record {
        narrow = settled_narrow cs r rows true e;
        set = (set_told r rows).no s.0;
        differ = record { some = settled_some cs r rows true e; apart = settled_apart cs r rows true e };
        triangular = (corner_told checks).no (not-true (not_triangular checks) s.1);
        odd = settled_odd cs r rows true e;
      };
      empty = rest_empty places n rest;
    })
