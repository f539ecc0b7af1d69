-- The places of a set flipped: in any order, and back. Assumes nothing.
use mathlib.Core.Path.{◌≡◌, refl, sym, ap, ap₂, ◌∙◌}
use mathlib.Core.Logic.{⊎_elim}
use mathlib.Core.List.{List, [], ◌∷◌}
use Prim.Native.Nat.{ℕ, ◌^◌, ◌≤◌, ◌<◌, min, max}
use native.Mathlib.Omega.{arith}
use lib.Bits.{bit_xor, xor_comm}
use Rattle.parity.proofs.Ones.{below_or_not}
use Rattle.parity.proofs.Xor.{xor_assoc}
use Rattle.columns.specs.Mix.{flipped}
use Rattle.columns.proofs.Words.{flip_flip}
use Rattle.listing.specs.Sets.{flip_all}

-- one place and a set, in either order
flip_past : (w p : ℕ) (ps : List ℕ) → flip_all (flipped w p) ps ≡ flipped (flip_all w ps) p
unfolding flip_all
flip_past w p [] = refl
flip_past w p (q ∷ ps) =
    ap (λ (v : ℕ). flip_all v ps)
    (xor_assoc w (2 ^ p) (2 ^ q) ∙ ap (bit_xor w) (xor_comm (2 ^ p) (2 ^ q)) ∙ sym (xor_assoc w (2 ^ q) (2 ^ p)))
    ∙ flip_past (flipped w q) p ps

-- of two places either may be flipped first
pub lower_first : (w p q : ℕ) → flipped (flipped w p) q ≡ flipped (flipped w (min p q)) (max p q)
unfolding flip_all
lower_first w p q =
    ⊎_elim
    (λ (b : p < q).
    let i : p ≡ min p q = omega arith in
    let j : q ≡ max p q = omega arith in
    ap₂ (λ (x y : ℕ). flipped (flipped w x) y) i j)
    (λ (b : q ≤ p).
    let i : q ≡ min p q = omega arith in
    let j : p ≡ max p q = omega arith in
    flip_past w p (q ∷ []) ∙ ap₂ (λ (x y : ℕ). flipped (flipped w x) y) i j)
    (below_or_not p q)

-- flipped twice is as it was
pub flip_all_twice : (w : ℕ) (ps : List ℕ) → flip_all (flip_all w ps) ps ≡ w
unfolding flip_all
flip_all_twice w [] = refl
flip_all_twice w (p ∷ ps) =
    ap (λ (v : ℕ). flip_all (flipped v p) ps) (flip_past w p ps)
    ∙ ap (λ (v : ℕ). flip_all v ps) (flip_flip (flip_all w ps) p)
    ∙ flip_all_twice w ps
