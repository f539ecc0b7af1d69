-- Numbers put into empty places. Assumes nothing.
use mathlib.Core.Path.{◌≡◌, refl, sym, ap, ◌∙◌}
use mathlib.Core.List.{List, [], ◌∷◌, ◌++◌, append_assoc}
use Prim.Native.Nat.{ℕ, zero, suc, ◌+◌, ◌-◌, ◌≤◌}
use native.Mathlib.Omega.{arith}
use lib.ListN.{length, take, drop, replicate, length-append, length-take, length-replicate, replicate-append-replicate}
use lib.Seq.{set_at, take_at, drop_at}
use Rattle.order.specs.Order.{put_from}
use Rattle.order.proofs.Putting.{put_full}
use Rattle.make.specs.Made.{padded_to}

-- n of them, behind others
put_behind : (done : List ℕ) (n : ℕ) (xs : List ℕ) → put_from (done ++ replicate n 0) (length done) xs ≡ done ++ padded_to n (take n xs)
unfolding put_from
put_behind done zero xs = put_full (done ++ []) (length done) xs (omega (arith, length-append done []))
put_behind done (suc n) [] = let e : suc n ≡ suc n - 0 = omega arith in ap (λ (m : ℕ). done ++ replicate m 0) e
put_behind done (suc n) (x ∷ xs) =
    let more = done ++ (x ∷ []) in
    let at : suc (length done) ≡ length more = omega (arith, length-append done (x ∷ [])) in
    let same : n - length (take n xs) ≡ suc n - suc (length (take n xs)) = omega arith in
    ap (λ (l : List ℕ). put_from l (suc (length done)) xs)
    (set_at done 0 (replicate n 0) x (length done) refl ∙ sym (append_assoc done (x ∷ []) (replicate n 0)))
    ∙ ap (λ (i : ℕ). put_from (more ++ replicate n 0) i xs) at
    ∙ put_behind more n xs
    ∙ append_assoc done (x ∷ []) (padded_to n (take n xs))
    ∙ ap (λ (m : ℕ). done ++ (x ∷ (take n xs ++ replicate m 0))) same

put_empty : (n : ℕ) (xs : List ℕ) → put_from (replicate n 0) 0 xs ≡ padded_to n (take n xs)
put_empty n xs = put_behind [] n xs

-- into the first k of them: zeros behind what was put, and behind those
zeros_apart : (k most : ℕ) → k ≤ most → replicate {A = ℕ} most 0 ≡ replicate k 0 ++ replicate (most - k) 0
zeros_apart k most h =
    let e : most ≡ k + (most - k) = omega arith in
    ap (λ (n : ℕ). replicate {A = ℕ} n 0) e ∙ sym (replicate-append-replicate k (most - k) 0)

padded_more : (k most : ℕ) (cs : List ℕ) → length cs ≤ k → k ≤ most → padded_to k cs ++ replicate (most - k) 0 ≡ padded_to most cs
padded_more k most cs l h =
    let e : k - length cs + (most - k) ≡ most - length cs = omega arith in
    append_assoc cs (replicate (k - length cs) 0) (replicate (most - k) 0)
    ∙ ap (λ (z : List ℕ). cs ++ z)
    (replicate-append-replicate (k - length cs) (most - k) 0 ∙ ap (λ (n : ℕ). replicate {A = ℕ} n 0) {y = most - length cs} e)

pub put_first : (k most : ℕ) (xs : List ℕ) → k ≤ most
    → put_from (take k (replicate most 0)) 0 xs ++ drop k (replicate {A = ℕ} most 0) ≡ padded_to most (take k xs)
put_first k most xs h =
    let apart = zeros_apart k most h in
    let size = length-replicate {A = ℕ} k 0 in
    rw (
      ap (take k) apart ∙ take_at (replicate k 0) (replicate (most - k) 0) k size,
      ap (drop k) apart ∙ drop_at (replicate k 0) (replicate (most - k) 0) k size,
      put_empty k xs,
    )
    (padded_more k most (take k xs) (omega (arith, length-take k xs)) h)
