-- An entry's head as it is written: two numbers, two bytes behind them, and a third number. Assumes nothing.
use mathlib.Core.Path.{◌≡◌, ap, ◌∙◌}
use mathlib.Core.List.{List, [], ◌∷◌, ◌++◌, append_assoc}
use Prim.Native.Nat.{ℕ, ◌+◌}
use native.Mathlib.Omega.{arith}
use borrow.Rule.Slice.PartMut.{put_mid}
use lib.ListN.{length, length-append, set}
use Rattle.record.specs.Bytes.{bytes_of}
use Rattle.record.specs.Layout.{stamp_size, number_size, syndrome_size, head_size, head_bytes}
use Rattle.record.proofs.Bytes.{length-bytes_of}
use Rattle.record.proofs.Over.{over-part, over_all, parts_and_two}

pub head_written : (l x y z : List ℕ) (s n v p w : ℕ) → length l ≡ head_size
    → x ≡ bytes_of stamp_size s → y ≡ bytes_of number_size n → z ≡ bytes_of syndrome_size w
    → put_mid 8 2 (set (set (put_mid 4 2 (put_mid 0 4 l x) y) 6 v) 7 p) z ≡ head_bytes s n v p w
unfolding head_bytes
head_written l x y z s n v p w h ex ey ez =
    let front = x ++ (y ++ (v ∷ p ∷ [])) in
    let hx : length x ≡ stamp_size = ap length ex ∙ length-bytes_of stamp_size s in
    let hy : length y ≡ number_size = ap length ey ∙ length-bytes_of number_size n in
    let hz : length z ≡ syndrome_size = ap length ez ∙ length-bytes_of syndrome_size w in
    let long : length front ≡ stamp_size + number_size + 2 = simp length-append (omega arith) in
    ap (λ k. put_mid 8 2 k z) (parts_and_two l x y stamp_size number_size v p (omega arith) hx hy)
    ∙ over-part front l z 8 2 long hz
    ∙ over_all (front ++ z) l (omega (arith, length-append front z))
    ∙ append_assoc x (y ++ (v ∷ p ∷ [])) z
    ∙ ap (λ k. x ++ k) (append_assoc y (v ∷ p ∷ []) z)
    ∙ (λ i. ex i ++ (ey i ++ (v ∷ p ∷ ez i)))
