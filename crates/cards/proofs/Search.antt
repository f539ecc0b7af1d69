-- The first find among a row of numbers: what it says, both ways, and how a loop walks it. Assumes nothing.
use mathlib.Core.Path.{◌≡◌, refl, ◌∙◌}
use mathlib.Core.Logic.{◌↔◌, ⊎_elim}
use Prim.Native.Nat.{ℕ, zero, suc, ◌+◌, ◌-◌, ◌≤◌, ◌<◌, zero-le}
use native.Mathlib.Numerals.{add-one}
use native.Mathlib.Omega.{arith}
use Rattle.parity.proofs.Ones.{below_or_not}
use Rattle.std.proofs.Common.{Option, Some, None}
use Rattle.std.specs.Option.{option_or}
use Rattle.cards.specs.declared.Weak.{Weak}
use Rattle.cards.specs.Cards.{weak_at, first_from}

-- ---- for a loop from 0 up to n, given what the numbers from m on find: x is found at m, nothing is found at m, m is past the last

module _ (f : ℕ → Option Weak) (n m : ℕ) (whole : Option Weak) (left : first_from f (n - m) m ≡ whole) where
  step : m < n → option_or (f m) (first_from f (n - (m + 1)) (m + 1)) ≡ whole
  unfolding first_from
  step h = let e : n - m ≡ suc (n - (m + 1)) = omega arith in rw (e, ← add-one m) at left

  pub first_here : (t mask : ℕ) → m < n → f m ≡ weak_at t mask → weak_at t mask ≡ whole
  first_here t mask h e = rw e at (step h)

  pub first_next : m < n → f m ≡ None → first_from f (n - (m + 1)) (m + 1) ≡ whole
  first_next h e = rw e at (step h)

  pub first_end : n ≤ m → None ≡ whole
  unfolding first_from
  first_end h = let e : n - m ≡ 0 = omega arith in rw e at left

-- ---- nothing is found exactly where f finds nothing at any of the numbers

pub neither : (a b : Option Weak) → option_or a b ≡ None → (a ≡ None) × (b ≡ None)
neither None b h = (refl, h)
neither (Some x) b h = let z : ◌≡◌ {A = ℕ} 0 1 = cc in absurd (omega arith)

nothing-from : (f : ℕ → Option Weak) (n m : ℕ) → first_from f n m ≡ None → (i : ℕ) → m ≤ i → i < m + n → f i ≡ None
unfolding first_from
nothing-from f zero m h i l u = absurd (omega arith)
nothing-from f (suc n) m h i l u =
    let b = neither (f m) (first_from f n (suc m)) h in
    ⊎_elim
    (λ (p : m < i). nothing-from f n (suc m) b.1 i p (omega arith))
    (λ (q : i ≤ m). let e : m ≡ i = omega arith in rw e at b.0)
    (below_or_not m i)

from_nothing : (f : ℕ → Option Weak) (n m : ℕ) → ((i : ℕ) → m ≤ i → i < m + n → f i ≡ None) → first_from f n m ≡ None
unfolding first_from
from_nothing f zero m h = refl
from_nothing f (suc n) m h = rw (h m (omega arith) (omega arith)) (from_nothing f n (suc m) (λ i l u. h i (omega arith) (omega arith)))

pub nothing-found : (f : ℕ → Option Weak) (n : ℕ) → (first_from f n 0 ≡ None) ↔ ((i : ℕ) → i < n → f i ≡ None)
nothing-found f n = (λ h i u. nothing-from f n 0 h i zero-le (omega arith), λ h. from_nothing f n 0 (λ i l u. h i (omega arith)))

-- ---- something is found exactly where it is f's find at one of them, and f finds nothing at those before

-- the find x of f at i, the first number from m on that has one
pub record First (f : ℕ → Option Weak) (m n : ℕ) (x : Option Weak) : Type 0 where
  pub i : ℕ
  pub low : m ≤ i
  pub high : i < m + n
  pub here : f i ≡ x
  pub before : (j : ℕ) → m ≤ j → j < i → f j ≡ None

found_from : (f : ℕ → Option Weak) (n m t mask : ℕ) → first_from f n m ≡ weak_at t mask → First f m n (weak_at t mask)
unfolding first_from
found_from f zero m t mask h = let z : ◌≡◌ {A = ℕ} 0 1 = cc in absurd (omega arith)
found_from f (suc n) m t mask h = go (f m) refl h (found_from f n (suc m) t mask)
  where
    go : (a : Option Weak) → f m ≡ a → option_or a (first_from f n (suc m)) ≡ weak_at t mask
        → (first_from f n (suc m) ≡ weak_at t mask → First f (suc m) n (weak_at t mask)) → First f m (suc n) (weak_at t mask)
    go None e k ih =
        let r = ih k in
        record {
          i = r.i;
          low = omega arith;
          high = omega arith;
          here = r.here;
          before = λ j l u.
              ⊎_elim (λ (p : m < j). r.before j p u) (λ (q : j ≤ m). let s : m ≡ j = omega arith in rw s at e) (below_or_not m j);
        }
    go (Some x) e k ih = record { i = m; low = omega arith; high = omega arith; here = e ∙ k; before = λ j l u. absurd (omega arith) }

from_found : (f : ℕ → Option Weak) (n m t mask : ℕ) → First f m n (weak_at t mask) → first_from f n m ≡ weak_at t mask
unfolding first_from
from_found f zero m t mask r = absurd (omega arith)
from_found f (suc n) m t mask r =
    ⊎_elim
    (λ (p : m < r.i). rw (r.before m (omega arith) p)
    (from_found f n (suc m) t mask (record {
      i = r.i;
      low = p;
      high = omega arith;
      here = r.here;
      before = λ j l u. r.before j (omega arith) u;
    })))
    (λ (q : r.i ≤ m). let e : r.i ≡ m = omega arith in rw (rw e at r.here))
    (below_or_not m r.i)

pub something_found : (f : ℕ → Option Weak) (n t mask : ℕ) → (first_from f n 0 ≡ weak_at t mask) ↔ First f 0 n (weak_at t mask)
something_found f n t mask = (found_from f n 0 t mask, from_found f n 0 t mask)
