-- Codes of any number of places: what is made is accepted, there is room for every accepted code, and none has fewer ones in all than what
-- is made for its k and r. Assumes nothing.
use mathlib.Core.Path.{◌≡◌, ap, ◌∙◌}
use mathlib.Core.Logic.{◌⊎◌, inl, inr, ⊎_elim}
use mathlib.Core.List.{List}
use Prim.Native.Nat.{ℕ, ◌+◌, ◌-◌, ◌^◌, ◌≤◌, ◌<◌}
use native.Mathlib.Omega.{arith}
use lib.ListN.{length, take, replicate, length-append, length-replicate, get_or-replicate, get_or-append}
use lib.Pow.{pow_mono}
use lib.Seq.{get_or-append-add, length-take-le, take_at}
use Rattle.std.specs.Prelude.{Ok}
use Rattle.parity.proofs.Ones.{below_or_not}
use Rattle.columns.specs.Mix.{column, place_in}
use Rattle.columns.proofs.Places.{place_hit}
use Rattle.judge.specs.Judge.{judge_in}
use Rattle.judge.specs.Rule.{matrix, Limits}
use Rattle.judge.proofs.Table.{judge_rule}
use Rattle.balance.specs.Balance.{all_ones}
use Rattle.order.specs.Order.{in_order, made_columns}
use Rattle.make.specs.Made.{padded_to}
use Rattle.least.specs.Order.{DataColumn, Before}
use Rattle.least.proofs.Order.{order_has, order_before}
use Rattle.least.proofs.Room.{room, order_count, length_made, made_at, made_data, made_rule, least_matrix}

-- ---- places with zeros behind a list

module _ (most : ℕ) (cs : List ℕ) (h : length cs ≤ most) where
  pub length-padded : length (padded_to most cs) ≡ most
  length-padded = omega (arith, length-append cs (replicate (most - length cs) 0), length-replicate {A = ℕ} (most - length cs) 0)

  padded-at : (p : ℕ) → p < length cs → column (padded_to most cs) p ≡ column cs p
  padded-at p u = get_or-append cs (replicate (most - length cs) 0) 0 p u

  pub padded_past : (p : ℕ) → length cs ≤ p → p < most → column (padded_to most cs) p ≡ 0
  padded_past p u l =
      let e : p ≡ length cs + (p - length cs) = omega arith in
      ap (column (padded_to most cs)) e ∙ get_or-append-add cs (replicate (most - length cs) 0) (p - length cs) 0
      ∙ get_or-replicate (most - length cs) (p - length cs) 0 0 (omega arith)

-- ---- what is made

module _ (most k r : ℕ) (limits : Limits most k r) (fits : k ≤ 2 ^ (r - 1) - r) where
  some-checks : 1 ≤ r
  some-checks = omega (arith, limits.least)

  full : k + r ≤ 2 ^ (r - 1)
  full = omega (arith, limits.sized.some)

  size : length (made_columns k r) ≡ k
  size = length_made k r some-checks full

  few : length (made_columns k r) ≤ most
  few = omega (arith, size, limits.sized.few)

  pub made_places : length (padded_to most (made_columns k r)) ≡ most
  made_places = length-padded most (made_columns k r) few

  pub made_front : take k (padded_to most (made_columns k r)) ≡ made_columns k r
  made_front = take_at (made_columns k r) (replicate (most - length (made_columns k r)) 0) k size

  pub made_past : (p : ℕ) → k ≤ p → p < most → column (padded_to most (made_columns k r)) p ≡ 0
  made_past p u l = padded_past most (made_columns k r) few p (omega (arith, size)) l

  made_below : (p : ℕ) → p < k → column (padded_to most (made_columns k r)) p ≡ column (in_order r) p
  made_below p u = padded-at most (made_columns k r) few p (omega (arith, size)) ∙ made_at k r some-checks full p u

  -- ACCEPTED
  pub made_accepted : judge_in most (padded_to most (made_columns k r)) k r ≡ Ok tt
  made_accepted =
      (judge_rule most (padded_to most (made_columns k r)) k r).1 (record {
        limits = limits;
        rule = rw made_front (made_rule k r some-checks full);
        empty = λ i u l. made_past i u (omega (arith, made_places));
      })

  -- each place holds a number of 16 bits
  pub made_stored : (p : ℕ) → p < most → column (padded_to most (made_columns k r)) p < 2 ^ 16
  made_stored p l =
      let low : 2 ^ r ≤ 2 ^ 16 = pow_mono {i = r} {j = 16} limits.top in
      ⊎_elim
      (λ (u : p < k). omega (
        arith,
        padded-at most (made_columns k r) few p (omega (arith, size)),
        (made_data k r some-checks full p u).below,
        low,
      ))
      (λ (u : k ≤ p). omega (arith, made_past p u l))
      (below_or_not p k)

  -- fewer ones first, then the smaller number
  pub made_before : (p q : ℕ) → p < q → q < k
      → Before (column (padded_to most (made_columns k r)) p) (column (padded_to most (made_columns k r)) q)
  made_before p q o h =
      let n = order_count r some-checks in
      rw (made_below p (omega arith), made_below q h) (order_before r p q o (omega (arith, full)))

  -- nothing is left out: every data column stands in a place, or comes behind all of them
  pub none_left_out : (x : ℕ) → DataColumn r x
      → ((p : ℕ) × (p < k) × (column (padded_to most (made_columns k r)) p ≡ x))
      ⊎ ((p : ℕ) → p < k → Before (column (padded_to most (made_columns k r)) p) x)
  none_left_out x d =
      let l = in_order r in
      let s = order_has r x d in
      let hit = place_hit l x s in
      ⊎_elim
      (λ (u : place_in l x < k). inl (place_in l x, u, made_below (place_in l x) u ∙ hit))
      (λ (u : k ≤ place_in l x).
      inr (λ p h. rw (made_below p h) (rw hit at (order_before r p (place_in l x) (omega arith) s))))
      (below_or_not (place_in l x) k)

-- ---- any accepted code

module _ (most : ℕ) (columns : List ℕ) (k r : ℕ) (places : length columns ≡ most) (e : judge_in most columns k r ≡ Ok tt) where
  accepted_limits : Limits most k r
  accepted_limits = ((judge_rule most columns k r).0 e).limits

  data_length : length (take k columns) ≡ k
  data_length = length-take-le k columns (omega (arith, accepted_limits.sized.few))

  -- there is room for it
  pub accepted-room : k ≤ 2 ^ (r - 1) - r
  accepted-room =
      let least = accepted_limits.least in
      omega (arith, data_length, room (take k columns) r (omega arith) ((judge_rule most columns k r).0 e).rule)

  -- THE LEAST
  pub made_least : all_ones (matrix (made_columns k r) r) ≤ all_ones (matrix (take k columns) r)
  made_least = rw data_length at (least_matrix (take k columns) r ((judge_rule most columns k r).0 e).rule)
