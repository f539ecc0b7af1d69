-- Numbers put into places one after the other. Assumes nothing.
use mathlib.Core.Path.{◌≡◌, refl, sym, ap, ◌∙◌}
use mathlib.Core.Logic.{⊎_elim}
use mathlib.Core.List.{List, [], ◌∷◌, ◌++◌}
use Prim.Native.Nat.{ℕ, zero, suc, ◌+◌, ◌≤◌, ◌<◌, min}
use native.Mathlib.Nat.{le_of_suc-le-suc, not-suc-le-zero}
use native.Mathlib.Omega.{arith}
use lib.ListN.{length, set, length-set}
use Rattle.parity.proofs.Ones.{below_or_not}
use Rattle.order.specs.Order.{put_from}

set_past : (l : List ℕ) (i x : ℕ) → length l ≤ i → set l i x ≡ l
set_past [] i x h = refl
set_past (y ∷ l) zero x h = absurd (not-suc-le-zero h)
set_past (y ∷ l) (suc i) x h = ap (λ (t : List ℕ). y ∷ t) (set_past l i x (le_of_suc-le-suc h))

-- full places stay
pub put_full : (places : List ℕ) (i : ℕ) (xs : List ℕ) → length places ≤ i → put_from places i xs ≡ places
unfolding put_from
put_full places i [] h = refl
put_full places i (x ∷ xs) h = rw (set_past places i x h) (put_full places (suc i) xs (omega arith))

pub length_put : (places : List ℕ) (i : ℕ) (xs : List ℕ) → length (put_from places i xs) ≡ length places
unfolding put_from
length_put places i [] = refl
length_put places i (x ∷ xs) = length_put (set places i x) (suc i) xs ∙ length-set places i x

-- two lists, one after the other
put_append : (places : List ℕ) (i : ℕ) (xs ys : List ℕ) → put_from places i (xs ++ ys) ≡ put_from (put_from places i xs) (i + length xs) ys
unfolding put_from
put_append places i [] ys = let e : i ≡ i + 0 = omega arith in ap (λ (n : ℕ). put_from places n ys) e
put_append places i (x ∷ xs) ys =
    let e : suc i + length xs ≡ i + suc (length xs) = omega arith in
    put_append (set places i x) (suc i) xs ys ∙ ap (λ (n : ℕ). put_from (put_from (set places i x) (suc i) xs) n ys) e

-- where the first fills the places, the second may begin at their end
pub put_next : (places : List ℕ) (i : ℕ) (xs ys : List ℕ)
    → put_from places i (xs ++ ys) ≡ put_from (put_from places i xs) (min (length places) (i + length xs)) ys
put_next places i xs ys =
    let p = put_from places i xs in
    let n = length_put places i xs in
    put_append places i xs ys
    ∙ ⊎_elim
    (λ (h : i + length xs < length places).
    let e : i + length xs ≡ min (length places) (i + length xs) = omega arith in ap (λ (m : ℕ). put_from p m ys) e)
    (λ (h : length places ≤ i + length xs).
    put_full p (i + length xs) ys (omega arith) ∙ sym (put_full p (min (length places) (i + length xs)) ys (omega arith)))
    (below_or_not (i + length xs) (length places))
