-- What goes into an entry: a verdict that fits a byte, and three parts that are all of it. Assumes nothing.
use mathlib.Core.Path.{◌≡◌, refl, ◌∙◌}
use mathlib.Core.List.{List, [], ◌++◌, append_assoc}
use Prim.Native.Nat.{ℕ, ◌+◌, ◌-◌, ◌≤◌}
use native.Mathlib.Omega.{arith}
use borrow.Rule.Slice.PartMut.{put_mid}
use lib.ListN.{length, length-append}
use Rattle.record.proofs.Over.{over-part, over_all}
use Rattle.verdict.specs.declared.Verdict.{Verdict}
use Rattle.verdict.specs.declared.Verdict.TheVariants.{Clean, Data, Check, Even, Odd, Stray}
use Rattle.verdict.specs.Verdicts.{finding_of}

pub verdict-top : (v : Verdict) → (finding_of v).verdict ≤ 5
verdict-top Clean = omega arith
verdict-top (Data p) = omega arith
verdict-top (Check p) = omega arith
verdict-top Even = omega arith
verdict-top Odd = omega arith
verdict-top Stray = omega arith

-- three parts, the last two as long as each other, are written one behind the other
pub three_parts_lem : (l x y z : List ℕ) (a b : ℕ) → length x ≡ a → length y ≡ b → length z ≡ b → length l ≡ a + (b + b)
    → put_mid (a + b) (a + b + b - (a + b)) (put_mid a (a + b - a) (put_mid 0 a l x) y) z ≡ x ++ (y ++ z)
three_parts_lem l x y z a b hx hy hz h =
    let m : a + b - a ≡ b = omega arith in
    let n : a + b + b - (a + b) ≡ b = omega arith in
    rw (m, n, over-part [] l x 0 a refl hx, over-part x l y a b hx hy)
    (over-part (x ++ y) l z (a + b) b (length-append x y ∙ omega arith) hz
    ∙ over_all (x ++ y ++ z) l (length-append (x ++ y) z ∙ omega (arith, length-append x y))
    ∙ append_assoc x y z)
