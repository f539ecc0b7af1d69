-- Check bits wanted and the room for columns meet: fewer check bits than are wanted have no room, as many or more have. Assumes nothing.
use mathlib.Core.Path.{◌≡◌}
use mathlib.Core.Logic.{◌↔◌, ⊎_elim}
use Prim.Native.Nat.{ℕ, zero, suc, ◌+◌, ◌-◌, ◌^◌, ◌≤◌, ◌<◌}
use native.Mathlib.Nat.{pow-suc}
use native.Mathlib.Omega.{arith}
use lib.Pow.{pow_pos}
use Rattle.parity.proofs.Ones.{below_or_not}
use Rattle.wanted.specs.Wanted.{band_of}
use Rattle.wanted.proofs.Least.{band_fits, band_least}

-- one check bit more, and there is room for more columns
room_more : (k b d : ℕ) → k + suc b ≤ 2 ^ b → k + suc (b + d) ≤ 2 ^ (b + d)
room_more k b zero h = let e : b + 0 ≡ b = omega arith in rw e h
room_more k b (suc d) h =
    let e : b + suc d ≡ suc (b + d) = omega arith in
    rw e (omega (arith, room_more k b d h, pow-suc 2 (b + d), pow_pos (b + d)))

-- NO ROOM exactly where r is below the check bits wanted
pub no_room_below : (k r : ℕ) → 1 ≤ k → k ≤ 128 → 3 ≤ r → (2 ^ (r - 1) - r < k) ↔ (r < band_of k)
no_room_below k r some few least = (
  λ h.
      ⊎_elim
      (λ (l : r < band_of k). l)
      (λ (l : band_of k ≤ r).
      let f = band_fits k some few in
      let b = band_of k - 1 in
      let own : k + suc b ≤ 2 ^ b = omega (arith, f.0, f.2) in
      let more = room_more k b (r - band_of k) own in
      let e : b + (r - band_of k) ≡ r - 1 = omega (arith, f.0) in
      absurd (omega (arith, h, rw e at more)))
      (below_or_not r (band_of k)),
  λ l. omega (arith, band_least k r some few (omega arith) l),
)
