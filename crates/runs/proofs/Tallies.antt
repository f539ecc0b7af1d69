-- Laws of the tally: each count is the number of records with its verdict, and the six add up. Assumes nothing.
use mathlib.Core.Path.{◌≡◌, refl, sym, ◌∙◌}
use mathlib.Core.Bool.{Bool, true, false, cond}
use mathlib.Core.List.{List}
use Prim.Native.Nat.{ℕ, zero, suc, ◌+◌, ◌*◌, ◌≤◌, ◌<◌, min}
use native.Mathlib.Omega.{arith}
use borrow.Author.Tests.{ne_eqb}
use lib.Dec.{eqb}
use lib.ListN.{take}
use Rattle.record.specs.Run.{record_at, add_up}
use Rattle.record.specs.Tally.{count_limit, counted_to, tally_by, counted_of, one_if, count_of, tally_of}
use Rattle.record.specs.declared.Tally.{Tally}
use Rattle.runs.proofs.Run.{sum_step, sum-le, sum-take}

-- two tallies are equal where each count is
pub tally_same : (f g : ℕ → ℕ) → ((v : ℕ) → f v ≡ g v) → tally_by f ≡ tally_by g
tally_same f g h = λ i. tally_by (λ v. h v i)

-- below the limit a count goes up by one where the verdict is its own
pub counted_below : (n v which : ℕ) → n < count_limit → counted_to n v which ≡ n + cond (eqb v which) 1 0
unfolding counted_to
counted_below n v which h = go (eqb v which)
  where
    go : (b : Bool) → cond b (min (n + 1) count_limit) n ≡ n + cond b 1 0
    go true = omega arith
    go false = omega arith

-- at the limit it stays
pub counted_full : (v which : ℕ) → counted_to count_limit v which ≡ count_limit
unfolding counted_to
counted_full v which = go (eqb v which)
  where
    go : (b : Bool) → cond b (min (count_limit + 1) count_limit) count_limit ≡ count_limit
    go true = refl
    go false = refl

-- a verdict above 5 changes nothing
pub counted-above : (t : Tally) (v : ℕ) → 5 < v → counted_of t v ≡ t
unfolding counted_to
counted-above t v h =
    λ i. record {
      clean = other t.clean 0 (omega arith) i;
      «data» = other t.«data» 1 (omega arith) i;
      check = other t.check 2 (omega arith) i;
      even = other t.even 3 (omega arith) i;
      odd = other t.odd 4 (omega arith) i;
      stray = other t.stray 5 (omega arith) i;
    }
  where
    other : (n which : ℕ) → which < v → counted_to n v which ≡ n
    other n which l = simp (ne_eqb v which (λ e. omega arith))

module _ (size : ℕ) (verdict : List ℕ → ℕ) (run : List ℕ) where
  pub count-le : (v k : ℕ) → count_of size verdict v run k ≤ k
  unfolding one_if
  count-le v = sum-le size (one_if verdict v) run (λ rec. go (eqb (verdict rec) v))
    where
      go : (b : Bool) → cond b 1 0 ≤ 1
      go true = omega arith
      go false = omega arith

  -- one record more
  pub tally_step : (i : ℕ) → i < count_limit
      → counted_of (tally_of size verdict run i) (verdict (record_at size run i)) ≡ tally_of size verdict run (i + 1)
  unfolding one_if
  tally_step i h =
      tally_same (λ v. counted_to (count_of size verdict v run i) (verdict (record_at size run i)) v) (λ v. count_of size verdict v run (i + 1))
      (λ v. counted_below (count_of size verdict v run i) (verdict (record_at size run i)) v (omega (arith, count-le v i))
      ∙ sym (sum_step size (one_if verdict v) run i))

pub tally_take : (size : ℕ) (verdict : List ℕ → ℕ) (n : ℕ) (l : List ℕ) (k : ℕ) → k * size ≤ n
    → tally_of size verdict (take n l) k ≡ tally_of size verdict l k
tally_take size verdict n l k h =
    tally_same (λ v. count_of size verdict v (take n l) k) (λ v. count_of size verdict v l k) (λ v. sum-take size (one_if verdict v) n l k h)

-- ---- the six counts add up

one_of_six : (v : ℕ) → v ≤ 5
    → cond (eqb v 0) 1 0 + cond (eqb v 1) 1 0 + cond (eqb v 2) 1 0 + cond (eqb v 3) 1 0 + cond (eqb v 4) 1 0 + cond (eqb v 5) 1 0 ≡ 1
one_of_six zero h = refl
one_of_six (suc zero) h = refl
one_of_six (suc (suc zero)) h = refl
one_of_six (suc (suc (suc zero))) h = refl
one_of_six (suc (suc (suc (suc zero)))) h = refl
one_of_six (suc (suc (suc (suc (suc zero))))) h = refl
one_of_six (suc (suc (suc (suc (suc (suc v)))))) h = omega arith

pub six_add_up : (size : ℕ) (verdict : List ℕ → ℕ) → ((rec : List ℕ) → verdict rec ≤ 5) → (run : List ℕ) (k : ℕ)
    → count_of size verdict 0 run k
    + count_of size verdict 1 run k
    + count_of size verdict 2 run k
    + count_of size verdict 3 run k
    + count_of size verdict 4 run k
    + count_of size verdict 5 run k
    ≡ k
unfolding add_up one_if
six_add_up size verdict h run zero = refl
six_add_up size verdict h run (suc k) =
    omega (arith, six_add_up size verdict h run k, one_of_six (verdict (record_at size run k)) (h (record_at size run k)))
