-- A list of which a part has been replaced, its front or one from a place on: what stays, and two, one behind the other. Assumes nothing.
use mathlib.Core.Path.{◌≡◌, refl, sym, ap, ap₂, ◌∙◌}
use mathlib.Core.List.{List, ◌++◌, append_assoc}
use Prim.Native.Nat.{ℕ, ◌+◌, ◌≤◌}
use native.Mathlib.Omega.{arith}
use lib.ListN.{length, take, drop, length-append, length-drop, take-append-drop}
use lib.Seq.{drop_at, drop-drop, length-take-le}
use Rattle.record.specs.Run.{over, over_from}
use Rattle.record.proofs.Over.{part_length, over-part}

pub length_over : (p d : List ℕ) → length p ≤ length d → length (over p d) ≡ length d
length_over p d h = simp (length-append, length-drop) (omega arith)

-- what stands behind the front is as it was
pub drop-over : (p d : List ℕ) (a : ℕ) → length p ≡ a → drop a (over p d) ≡ drop a d
drop-over p d a e = drop_at p (drop (length p) d) a e ∙ ap (λ (n : ℕ). drop n d) e

-- two fronts, one behind the other
pub over-over : (p q d : List ℕ) (n : ℕ) → length p ≡ n → p ++ over q (drop n d) ≡ over (p ++ q) d
over-over p q d n e =
    rw (← e, drop-drop (length q) (length p) d, length-append p q) (sym (append_assoc p q (drop (length p + length q) d)))

-- the part where the front ends is taken into it as it is
pub over-kept : (p d : List ℕ) (a k : ℕ) → length p ≡ a → a + k ≤ length d → over (p ++ take k (drop a d)) d ≡ over p d
over-kept p d a k e h =
    rw (
      length-append p (take k (drop a d)),
      e,
      part_length a k d h,
      ← drop-drop k a d,
      append_assoc p (take k (drop a d)) (drop k (drop a d)),
    ) (ap (λ (l : List ℕ). p ++ l) (take-append-drop k (drop a d)))

-- ---- from a place on

-- it is a longer front
from_front : (at : ℕ) (p d : List ℕ) → at ≤ length d → over_from at p d ≡ over (take at d ++ p) d
from_front at p d h = over-over (take at d) p d at (length-take-le at d h)

-- from where a front ends
pub from-over : (p q d : List ℕ) (at : ℕ) → length p ≡ at → over_from at q (over p d) ≡ over (p ++ q) d
from-over p q d at e = over-part p d q at (length q) e refl

-- what is written behind what was written is written with it
pub from-from : (at n : ℕ) (x y d : List ℕ) → length x ≡ n → at ≤ length d
    → over_from (at + n) y (over_from at x d) ≡ over_from at (x ++ y) d
from-from at n x y d e h =
    let front : length (take at d ++ x) ≡ at + n = length-append (take at d) x ∙ ap₂ ◌+◌ (length-take-le at d h) e in
    ap (over_from (at + n) y) (from_front at x d h)
    ∙ from-over (take at d ++ x) y d (at + n) front
    ∙ ap (λ (m : List ℕ). over m d) (append_assoc (take at d) x y)
    ∙ sym (from_front at (x ++ y) d h)
