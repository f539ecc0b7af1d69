-- How many columns there are, and that the first k in order are Hsiao's: for any k and r there is a code of k data columns and r check bits
-- just where k + r ≤ 2 ^ (r - 1), and none has fewer ones in all than the one that is made. Assumes nothing.
use mathlib.Core.Path.{◌≡◌, sym, ◌∙◌}
use mathlib.Core.Logic.{⊎_elim}
use mathlib.Core.List.{List, [], ◌∷◌, ◌++◌}
use Prim.Native.Nat.{ℕ, ◌+◌, ◌-◌, ◌^◌, ◌≤◌, ◌<◌}
use native.Mathlib.Omega.{arith}
use borrow.Author.Tests.{eq-eqb, eqb-true}
use lib.Count.{ones}
use lib.ListN.{length}
use lib.Seq.{get_or-take, length-take-le}
use Rattle.parity.specs.Odd.{odd_ones, is_odd}
use Rattle.parity.proofs.Ones.{below_or_not}
use Rattle.columns.specs.Mix.{column, singles}
use Rattle.columns.proofs.Singles.{length-joined}
use Rattle.judge.specs.Rule.{matrix, Hsiao, FineAt}
use Rattle.judge.proofs.Rule.{rule-of, fine_of, matrix_below}
use Rattle.balance.specs.Balance.{sum_of, all_ones}
use Rattle.order.specs.Order.{passing, in_order, made_columns}
use Rattle.least.specs.Order.{DataColumn}
use Rattle.least.proofs.Counting.{Stands, Apart, apart_of, pigeons, stands-left, stands-right, passing-at, passing-apart, passing-has, odd_half, single_stands}
use Rattle.least.proofs.Sorted.{first_least}
use Rattle.least.proofs.Order.{order_at, order_has, order_apart, order_sorted}

-- ---- columns keep the rule where they are data columns that all differ

data_of : (columns : List ℕ) (r i : ℕ) → FineAt columns r i → DataColumn r (column columns i)
data_of columns r i f =
    let narrow = f.narrow in
    let odd = f.odd in
    let many = f.many in
    record { below = omega arith; odd = omega arith; many = omega arith }

fine_of_data : (columns : List ℕ) (r i : ℕ) → Apart columns → i < length columns → DataColumn r (column columns i) → FineAt columns r i
fine_of_data columns r i apart h d =
    record {
      narrow = λ l. omega (arith, l, d.below);
      odd = λ e. omega (arith, e, d.odd);
      many = λ e. omega (arith, e, d.many);
      new = λ a. let same = apart a.0 i (omega (arith, a.1)) h a.2 in omega (arith, a.1);
    }

-- ---- how many there are: 2 ^ (r - 1) - r

-- no code has more columns than there are odd numbers below 2 ^ r
pub room : (columns : List ℕ) (r : ℕ) → 1 ≤ r → Hsiao columns r → length columns + r ≤ 2 ^ (r - 1)
room columns r h s =
    let m = matrix columns r in
    let stands : (p : ℕ) → p < length m → Stands (passing is_odd (2 ^ r)) (column m p) =
    λ p l.
    passing-has is_odd (2 ^ r) (column m p) (matrix_below columns r s p l) (eq-eqb (odd_ones (column m p)) 1 (s.good.each_odd p l)) in
    omega (arith, pigeons m (passing is_odd (2 ^ r)) s.good.apart stands, length-joined columns r, odd_half r h)

-- in order, all of them keep the rule
order_rule : (r : ℕ) → Hsiao (in_order r) r
order_rule r = rule-of (in_order r) r (λ i h. fine_of_data (in_order r) r i (order_apart r) h (order_at r i h))

-- with the check columns they are all the odd numbers
odd_stands : (r x : ℕ) → x < 2 ^ r → odd_ones x ≡ 1 → Stands (matrix (in_order r) r) x
odd_stands r x h o =
    ⊎_elim
    (λ (l : ones x < 3). stands-right (in_order r) (singles r) x (single_stands r x h (omega arith)))
    (λ (l : 3 ≤ ones x). stands-left (in_order r) (singles r) x (order_has r x (record { below = h; odd = o; many = l })))
    (below_or_not (ones x) 3)

pub order_count : (r : ℕ) → 1 ≤ r → length (in_order r) + r ≡ 2 ^ (r - 1)
order_count r h =
    let odds = passing is_odd (2 ^ r) in
    let stands : (p : ℕ) → p < length odds → Stands (matrix (in_order r) r) (column odds p) =
    λ p l. let at = passing-at is_odd (2 ^ r) p l in odd_stands r (column odds p) at.0 (eqb-true (odd_ones (column odds p)) 1 at.1) in
    omega (
      arith,
      room (in_order r) r h (order_rule r),
      pigeons odds (matrix (in_order r) r) (passing-apart is_odd (2 ^ r)) stands,
      length-joined (in_order r) r,
      odd_half r h,
    )

-- ---- the first k of them

module _ (k r : ℕ) (h : 1 ≤ r) (fits : k + r ≤ 2 ^ (r - 1)) where
  inside : k ≤ length (in_order r)
  inside = omega (arith, order_count r h)

  pub length_made : length (made_columns k r) ≡ k
  length_made = length-take-le k (in_order r) inside

  pub made_at : (p : ℕ) → p < k → column (made_columns k r) p ≡ column (in_order r) p
  made_at p l = get_or-take k (in_order r) p 0 l

  made_apart : Apart (made_columns k r)
  made_apart p q l u e =
      let n = length_made in
      order_apart r p q (omega (arith, inside)) (omega (arith, inside)) (sym (made_at p (omega arith)) ∙ e ∙ made_at q (omega arith))

  pub made_data : (p : ℕ) → p < k → DataColumn r (column (made_columns k r) p)
  made_data p l = rw (made_at p l) (order_at r p (omega (arith, inside)))

  -- WHAT IS MADE keeps Hsiao's rule
  pub made_rule : Hsiao (made_columns k r) r
  made_rule =
      rule-of (made_columns k r) r
      (λ i l. fine_of_data (made_columns k r) r i made_apart l (made_data i (omega (arith, length_made))))

-- ---- THE LEAST: no columns that keep the rule have fewer ones than as many in order

least_columns : (columns : List ℕ) (r : ℕ) → Hsiao columns r → all_ones (made_columns (length columns) r) ≤ all_ones columns
least_columns columns r s =
    let fine = fine_of columns r s in
    first_least ones (in_order r) columns (order_sorted r) (apart_of columns (λ p q o h e. (fine q h).new (p, o, e)))
    (λ p h. order_has r (column columns p) (data_of columns r p (fine p h)))

sum-append : (w : ℕ → ℕ) (l m : List ℕ) → sum_of w (l ++ m) ≡ sum_of w l + sum_of w m
unfolding sum_of
sum-append w [] m = omega arith
sum-append w (x ∷ l) m = omega (arith, sum-append w l m)

-- nor with the check columns
pub least_matrix : (columns : List ℕ) (r : ℕ) → Hsiao columns r
    → all_ones (matrix (made_columns (length columns) r) r) ≤ all_ones (matrix columns r)
least_matrix columns r s =
    omega (
      arith,
      sum-append ones (made_columns (length columns) r) (singles r),
      sum-append ones columns (singles r),
      least_columns columns r s,
    )
