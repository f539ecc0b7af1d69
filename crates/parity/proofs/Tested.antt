-- What a test of every number below n tells of each. Assumes nothing.
use mathlib.Core.Path.{◌≡◌, refl}
use mathlib.Core.Logic.{⊎_elim}
use mathlib.Core.Bool.{Bool, true, false, ◌&&◌, false≢true}
use Prim.Native.Nat.{ℕ, zero, suc, ◌≤◌, ◌<◌}
use native.Mathlib.Nat.{not-suc-le-zero}
use native.Mathlib.Omega.{arith}
use Rattle.parity.specs.Below.{all_below}
use Rattle.parity.proofs.Ones.{below_or_not}

pub both : (a b : Bool) → (a && b) ≡ true → (a ≡ true) × (b ≡ true)
both true b h = (refl, h)
both false b h = absurd (false≢true h)

pub all_at : (f : ℕ → Bool) (n : ℕ) → all_below f n ≡ true → (x : ℕ) → x < n → f x ≡ true
unfolding all_below
all_at f zero h x l = absurd (not-suc-le-zero l)
all_at f (suc n) h x l =
    let t = both (f n) (all_below f n) h in
    ⊎_elim (λ (o : x < n). all_at f n t.1 x o) (λ (o : n ≤ x). let e : n ≡ x = omega arith in rw e at t.0) (below_or_not x n)
