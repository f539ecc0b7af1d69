-- What the answer to the balance question is: the refusal and zeros, or each of the 16 rows. Assumes nothing.
use mathlib.Core.Path.{◌≡◌, refl, ap, ◌∙◌}
use mathlib.Core.List.{List}
use Prim.Native.Nat.{ℕ, zero, suc, ◌+◌, ◌-◌, ◌*◌, ◌≤◌, ◌<◌}
use native.Mathlib.Nat.{add-zero, not-suc-le-zero, le_of_suc-le-suc}
use native.Mathlib.Omega.{arith}
use borrow.Author.Tests.{lt-ltb, le-ltb}
use lib.IntN.{pos, ◌+ℤ◌, -ℤ-+ℤ_cancel}
use lib.ListN.{length, get_or, replicate}
use Rattle.code.specs.declared.Opened.{Opened}
use Rattle.code.specs.declared.Refusal.{Refusal}
use Rattle.std.specs.Prelude.{Ok, Err}
use Rattle.code.specs.Opened.{Standing, columns_of}
use Rattle.balance.specs.Balance.{row_ones, all_ones, balance_at, balances_from, balances_by, balances_of}

-- ---- any columns

module _ (cs : List ℕ) (r : ℕ) where
  length_from : (n j : ℕ) → length (balances_from cs r n j) ≡ n
  unfolding balances_from
  length_from zero j = refl
  length_from (suc n) j = ap suc (length_from n (suc j))

  from_at : (n j i : ℕ) → i < n → get_or (balances_from cs r n j) i (pos 0) ≡ balance_at cs r (j + i)
  unfolding balances_from
  from_at zero j i h = absurd (not-suc-le-zero h)
  from_at (suc n) j zero h = rw add-zero
  from_at (suc n) j (suc i) h = from_at n (suc j) i (le_of_suc-le-suc h) ∙ ap (balance_at cs r) (omega arith)

  row_below : (j : ℕ) → j < r → balance_at cs r j +ℤ pos (all_ones cs) ≡ pos (r * row_ones cs j)
  unfolding balance_at
  row_below j h = rw (lt-ltb j r h) (-ℤ-+ℤ_cancel (pos (r * row_ones cs j)) (pos (all_ones cs)))

  row_past : (j : ℕ) → r ≤ j → balance_at cs r j ≡ pos 0
  unfolding balance_at
  row_past j h = rw (le-ltb j r h)

-- ---- an opened code

module _ (o : Opened) where
  pub refused_balances : (f : Refusal) → o.standing ≡ Err f
      → balances_of o ≡ record { number = f.number; told = f.told; rows = replicate 16 (pos 0) }
  refused_balances f e = rw e

  pub accepted_number : o.standing ≡ Ok tt → ((balances_of o).number ≡ 0) × ((balances_of o).told ≡ 0)
  accepted_number e = rw e (refl, refl)

  pub length_balances : length (balances_of o).rows ≡ 16
  length_balances = go o.standing
    where
      go : (s : Standing) → length (balances_by s o).rows ≡ 16
      go (Ok u) = length_from _ _ 16 0
      go (Err f) = refl

  module _ (e : o.standing ≡ Ok tt) (j : ℕ) where
    -- r times the ones of a row of the code, less all ones
    pub balance-row : o.n - o.k ≤ 16 → j < o.n - o.k
        → get_or (balances_of o).rows j (pos 0) +ℤ pos (all_ones (columns_of o)) ≡ pos ((o.n - o.k) * row_ones (columns_of o) j)
    balance-row few h =
        let cs = columns_of o in
        let r = o.n - o.k in
        rw (e, from_at cs r 16 0 j (omega arith)) (ap (λ (i : ℕ). balance_at cs r i +ℤ pos (all_ones cs)) (omega arith) ∙ row_below cs r j h)

    -- 0 past the rows of the code
    pub balance-past : o.n - o.k ≤ j → j < 16 → get_or (balances_of o).rows j (pos 0) ≡ pos 0
    balance-past h l =
        let cs = columns_of o in
        let r = o.n - o.k in
        rw (e, from_at cs r 16 0 j l) (ap (balance_at cs r) (omega arith) ∙ row_past cs r j h)
