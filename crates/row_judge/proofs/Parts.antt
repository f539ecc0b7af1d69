-- The check columns, as the code lends them. Assumes nothing.
use mathlib.Core.Path.{◌≡◌, sym, ap, ◌∙◌}
use mathlib.Core.List.{List}
use Prim.Native.Nat.{ℕ, ◌+◌, ◌-◌, ◌≤◌}
use native.Mathlib.Omega.{arith}
use lib.ListN.{length, take, drop}
use lib.Seq.{take-add, drop_at, length-take-le}

-- the last r of the first n places
pub last_of : (l : List ℕ) (n r : ℕ) → r ≤ n → n ≤ length l → take (n - (n - r)) (drop (n - r) l) ≡ drop (n - r) (take n l)
last_of l n r h u =
    let k = n - r in
    let e : n ≡ k + r = omega arith in
    let s : n - k ≡ r = omega arith in
    ap (λ (m : ℕ). take m (drop k l)) s
    ∙ sym (drop_at (take k l) (take r (drop k l)) k (length-take-le k l (omega arith)))
    ∙ ap (drop k) (sym (take-add k r l) ∙ ap (λ (m : ℕ). take m l) (sym e))
