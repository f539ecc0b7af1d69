-- Check bits wanted: where the answer is a number of bits, and where it is a refusal. For any limit on k. Assumes nothing.
use mathlib.Core.Path.{◌≡◌, refl, sym, ap, ◌∙◌}
use mathlib.Core.Bool.{or-true}
use mathlib.Core.Logic.{◌↔◌, ◌⊎◌, inl, inr, ⊎_elim}
use Prim.Native.Nat.{ℕ, ◌≤◌, ◌<◌}
use native.Mathlib.Omega.{arith}
use borrow.Author.Tests.{eq-eqb, ne_eqb, lt-ltb, le-ltb}
use lib.Dec.{eqb}
use Rattle.parity.proofs.Ones.{below_or_not}
use Rattle.wanted.specs.Wanted.{band_of, wanted_in, wanted_of, wanted_wide}

-- in plain numbers: 64 data bits are the most, and 128 in the wide edition, with 9 from 121 on
pub most : wanted_of 64 ≡ record { number = 0; bits = 8 }
unfolding wanted_in band_of
most = refl

pub wide_ends : (wanted_wide 120 ≡ record { number = 0; bits = 8 }) × (wanted_wide 121 ≡ record { number = 0; bits = 9 })
    × (wanted_wide 128 ≡ record { number = 0; bits = 9 }) × (wanted_wide 129 ≡ record { number = 1; bits = 0 })
unfolding wanted_in band_of
wide_ends = (refl, refl, refl, refl)

module _ (limit k : ℕ) where
  pub wanted-inside : 1 ≤ k → k ≤ limit → wanted_in limit k ≡ record { number = 0; bits = band_of k }
  unfolding wanted_in
  wanted-inside some few = rw (ne_eqb k 0 (λ e. omega arith), le-ltb limit k few)

  pub wanted-refused : (k ≡ 0) ⊎ (limit < k) → wanted_in limit k ≡ record { number = 1; bits = 0 }
  unfolding wanted_in
  wanted-refused = ⊎_elim (λ e. rw (eq-eqb k 0 e)) (λ h. rw (lt-ltb limit k h, or-true (eqb k 0)))

  -- REFUSED exactly where k is 0 or over the limit
  pub refused_exactly : ((wanted_in limit k).number ≡ 1) ↔ ((k ≡ 0) ⊎ (limit < k))
  refused_exactly = (
    λ e.
        ⊎_elim
        (λ (h : limit < k). inr h)
        (λ (few : k ≤ limit).
        ⊎_elim
        (λ (h : k < 1). inl (omega arith))
        (λ (some : 1 ≤ k). let z : ◌≡◌ {A = ℕ} 0 1 = sym (ap (λ a. a.number) (wanted-inside some few)) ∙ e in absurd (omega arith))
        (below_or_not k 1))
        (below_or_not limit k),
    λ h. ap (λ a. a.number) (wanted-refused h),
  )
