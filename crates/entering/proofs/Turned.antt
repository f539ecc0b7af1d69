-- Turns leave records as their verdicts do, and bytes that are written twice stay. Assumes nothing.
use mathlib.Core.Path.{◌≡◌, sym, ap, ap₂, ◌∙◌}
use mathlib.Core.List.{List, ◌++◌}
use Prim.Native.Nat.{ℕ, ◌+◌, ◌-◌, ◌*◌, ◌/◌, ◌%◌, ◌^◌, ◌≤◌, ◌<◌}
use native.Mathlib.Omega.{arith}
use lib.ListN.{length, take, drop, take-append-drop}
use lib.Seq.{length-take-le, take-append-le, take-take}
use Rattle.record.specs.Turned.{turned}
use Rattle.verdict.specs.declared.Verdict.TheVariants.{Data, Check}
use Rattle.at_record.specs.Outcome.{Held}
use Rattle.at_record.proofs.Mends.{turned_data, turned_check}
use Rattle.entering.specs.Turns.{turned_at, Leaves}

-- of bytes that are written no fewer are
pub put_less : (i j : ℕ) (l w : List ℕ) → i ≤ j → j ≤ length l → take j l ++ drop j w ≡ w → take i l ++ drop i w ≡ w
put_less i j l w h n e =
    let inside : i ≤ length (take j l) = omega (arith, length-take-le j l n) in
    let front : take i w ≡ take i l = ap (take i) (sym e) ∙ take-append-le i (take j l) (drop j w) inside ∙ take-take i j l h in
    ap (λ (x : List ℕ). x ++ drop i w) (sym front) ∙ take-append-drop i w

module _ (d k : ℕ) (held : Held d k) where
  pub data_leaves : (p at bits : ℕ) → p < k → at ≡ p / 8 → bits ≡ 2 ^ (p % 8) → Leaves d k (Data p) at bits
  unfolding turned
  data_leaves p at bits h e f =
      let most = held.data_held in
      record {
        inside = omega arith;
        left = λ rec bytes n. ap₂ (λ (x y : ℕ). turned_at x y rec) e f ∙ turned_data d k held rec bytes n p h;
      }

  pub check_leaves : (p at bits : ℕ) → k ≤ p → p < k + 16 → at ≡ (8 * d + (p - k)) / 8 → bits ≡ 2 ^ ((8 * d + (p - k)) % 8)
      → Leaves d k (Check p) at bits
  unfolding turned
  check_leaves p at bits l h e f =
      record {
        inside = omega arith;
        left = λ rec bytes n. ap₂ (λ (x y : ℕ). turned_at x y rec) e f ∙ turned_check d k held rec bytes n p l h;
      }
