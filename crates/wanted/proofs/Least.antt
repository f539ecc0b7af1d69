-- Up to 128 data bits the bands of k name the smallest r with k ≤ 2 ^ (r - 1) - r, by computing. Assumes nothing.
use mathlib.Core.Path.{◌≡◌, refl}
use mathlib.Core.Bool.{true, ◌&&◌, ◌||◌}
use Prim.Native.Nat.{ℕ, zero, suc, ◌+◌, ◌-◌, ◌^◌, ◌≤◌, ◌<◌}
use native.Mathlib.Omega.{arith}
use borrow.Author.Tests.{leb-true, ltb-true, lt-leb}
use lib.Dec.{ltb, leb}
use Rattle.parity.specs.Below.{all_below}
use Rattle.parity.proofs.Tested.{both, all_at}
use Rattle.wanted.specs.Wanted.{band_of}

bands_fit : all_below (λ k. leb 3 (band_of k) && (leb (band_of k) 9 && leb (k + band_of k) (2 ^ (band_of k - 1)))) 129 ≡ true
unfolding all_below band_of
bands_fit = refl

bands_least : all_below (λ k. all_below (λ r. leb (band_of (suc k)) (suc r) || ltb (2 ^ (suc r - 1)) (suc k + suc r)) 9) 128 ≡ true
unfolding all_below band_of
bands_least = refl

-- the band of k has room for k columns
pub band_fits : (k : ℕ) → 1 ≤ k → k ≤ 128 → (3 ≤ band_of k) × (band_of k ≤ 9) × (k + band_of k ≤ 2 ^ (band_of k - 1))
band_fits k s h =
    let b = band_of k in
    let t = both (leb 3 b) (leb b 9 && leb (k + b) (2 ^ (b - 1))) (all_at _ 129 bands_fit k (omega arith)) in
    let u = both (leb b 9) (leb (k + b) (2 ^ (b - 1))) t.1 in
    (leb-true 3 b t.0, leb-true b 9 u.0, leb-true (k + b) (2 ^ (b - 1)) u.1)

-- and no smaller r has
pub band_least : (k r : ℕ) → 1 ≤ k → k ≤ 128 → 1 ≤ r → r < band_of k → 2 ^ (r - 1) < k + r
band_least zero r s h t l = absurd (omega arith)
band_least (suc k) zero s h t l = absurd (omega arith)
band_least (suc k) (suc r) s h t l =
    let few : r < 9 = omega (arith, band_fits (suc k) s h) in
    ltb-true (2 ^ (suc r - 1)) (suc k + suc r)
    (rw (lt-leb (band_of (suc k)) (suc r) l) at (all_at _ 9 (all_at _ 128 bands_least k (omega arith)) r few))
