-- THE DISTANCE IS FOUR: no sum of one, two or three different columns is 0, for any list of columns that differ and are odd.
-- Assumes nothing.
use mathlib.Core.Path.{◌≡◌, refl, sym, ap, ap₂, ◌∙◌}
use mathlib.Core.Logic.{◌≢◌}
use mathlib.Core.List.{List, [], ◌∷◌}
use Prim.Native.Nat.{ℕ, zero, suc, ◌/◌, ◌%◌, ◌^◌, ◌≤◌, ◌<◌}
use native.Mathlib.Omega.{arith}
use lib.Bits.{bit_xor, differ, xor_zero_r, xor_lt}
use lib.Count.{ones_in}
use lib.ListN.{length}
use Rattle.parity.specs.Odd.{Parity}
use Rattle.parity.proofs.Ones.{differ-sum, no_ones, ones_in_lem}
use Rattle.parity.proofs.Xor.{eq_of_xor_zero}
use Rattle.columns.specs.Mix.{mix, taken, column}
use Rattle.columns.specs.Rule.{Good}
use Rattle.columns.proofs.Linear.{mix-xor}
use Rattle.columns.proofs.Errors.{differ_self, pair_nonzero}

-- the places that a word of n places has set, counted
abbrev pub weight : List ℕ → ℕ → ℕ
weight cs w = ones_in (length cs) w

-- none: nothing is mixed
mix_none : (cs : List ℕ) (w : ℕ) → weight cs w ≡ 0 → mix cs w ≡ 0
unfolding mix ones_in
mix_none [] w e = refl
mix_none (c ∷ cs) w e =
    let even : w % 2 ≡ 0 = omega arith in
    rw (even, mix_none cs (w / 2) (omega arith))

-- one: the column of a place
mix_one : (cs : List ℕ) (w : ℕ) → weight cs w ≡ 1 → (p : ℕ) × (p < length cs) × (mix cs w ≡ column cs p)
unfolding mix ones_in
mix_one [] w e = absurd (omega arith)
mix_one (c ∷ cs) w e = go (w % 2) refl (mix_one cs (w / 2))
  where
    go : (d : ℕ) → w % 2 ≡ d → (weight cs (w / 2) ≡ 1 → (p : ℕ) × (p < length cs) × (mix cs (w / 2) ≡ column cs p))
        → (p : ℕ) × (p < suc (length cs)) × (bit_xor (taken d c) (mix cs (w / 2)) ≡ column (c ∷ cs) p)
    go zero h ih = let i = ih (omega arith) in (suc i.0, omega (arith, i.1), i.2)
    go (suc zero) h ih = (0, omega arith, ap (bit_xor c) (mix_none cs (w / 2) (omega arith)) ∙ xor_zero_r c)
    go (suc (suc d)) h ih = absurd (omega arith)

-- two: the columns of two different places
mix-two : (cs : List ℕ) (w : ℕ) → weight cs w ≡ 2
    → (p : ℕ) × (q : ℕ) × (p < q) × (q < length cs) × (mix cs w ≡ bit_xor (column cs p) (column cs q))
unfolding mix ones_in
mix-two [] w e = absurd (omega arith)
mix-two (c ∷ cs) w e = go (w % 2) refl (mix-two cs (w / 2))
  where
    go : (d : ℕ) → w % 2 ≡ d
        → (weight cs (w / 2) ≡ 2
        → (p : ℕ) × (q : ℕ) × (p < q) × (q < length cs) × (mix cs (w / 2) ≡ bit_xor (column cs p) (column cs q)))
        → (p : ℕ) × (q : ℕ) × (p < q) × (q < suc (length cs))
        × (bit_xor (taken d c) (mix cs (w / 2)) ≡ bit_xor (column (c ∷ cs) p) (column (c ∷ cs) q))
    go zero h ih = let i = ih (omega arith) in (suc i.0, suc i.1, omega (arith, i.2), omega (arith, i.3), i.4)
    go (suc zero) h ih =
        let i = mix_one cs (w / 2) (omega arith) in
        (0, suc i.0, omega arith, omega (arith, i.1), ap (bit_xor c) i.2)
    go (suc (suc d)) h ih = absurd (omega arith)

-- odd columns: a mix is as odd as the count of its columns
module _ {odd : ℕ → ℕ} (o : Parity odd) where
  zero_even : odd 0 ≡ 0
  zero_even = o.adds 0 0 ∙ differ_self (odd 0)

  taken_odd : (d c : ℕ) → d < 2 → odd c ≡ 1 → odd (taken d c) ≡ d
  taken_odd zero c h e = zero_even
  taken_odd (suc zero) c h e = e
  taken_odd (suc (suc d)) c h e = absurd (omega arith)

  mix_odd : (cs : List ℕ) → ((p : ℕ) → p < length cs → odd (column cs p) ≡ 1) → (w : ℕ) → odd (mix cs w) ≡ weight cs w % 2
  unfolding mix ones_in
  mix_odd [] each w = zero_even
  mix_odd (c ∷ cs) each w =
      o.adds (taken (w % 2) c) (mix cs (w / 2))
      ∙ ap₂ differ (taken_odd (w % 2) c (omega arith) (each 0 (omega arith))) (mix_odd cs (λ p h. each (suc p) (omega arith)) (w / 2))
      ∙ differ-sum (w % 2) (weight cs (w / 2) % 2) (omega arith) (omega arith)
      ∙ omega arith

module _ {odd : ℕ → ℕ} {cs : List ℕ} (g : Good odd cs) (o : Parity odd) where
  -- one, two or three columns do not make 0
  pub no_sum : (w : ℕ) → 1 ≤ weight cs w → weight cs w ≤ 3 → mix cs w ≢ 0
  no_sum w some few e = go (weight cs w) refl some few
    where
      odd-zero : weight cs w % 2 ≡ 0
      odd-zero = sym (mix_odd o cs g.each_odd w) ∙ ap odd e ∙ zero_even o

      go : (n : ℕ) → weight cs w ≡ n → 1 ≤ n → n ≤ 3 → ⊥
      go zero h a b = omega arith
      go (suc zero) h a b = omega (arith, odd-zero)
      go (suc (suc zero)) h a b =
          let i = mix-two cs w h in
          pair_nonzero g i.0 i.1 (omega (arith, i.2, i.3)) i.3 (λ s. omega (arith, i.2, s)) (sym i.4 ∙ e)
      go (suc (suc (suc zero))) h a b = omega (arith, odd-zero)
      go (suc (suc (suc (suc n)))) h a b = omega arith

  -- so two words of syndrome 0 that differ in at most three places are one word
  pub distance : (u v : ℕ) → u < 2 ^ length cs → v < 2 ^ length cs → mix cs u ≡ 0 → mix cs v ≡ 0 → weight cs (bit_xor u v) ≤ 3 → u ≡ v
  distance u v hu hv eu ev few =
      let x = bit_xor u v in
      let made : mix cs x ≡ 0 = mix-xor cs u v ∙ ap₂ bit_xor eu ev in
      let none : ¬ (1 ≤ weight cs x) = λ some. no_sum x some few made in
      eq_of_xor_zero u v (no_ones x (sym (ones_in_lem (length cs) x (xor_lt (length cs) u v hu hv)) ∙ omega arith))
