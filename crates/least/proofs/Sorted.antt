-- OF ANY LIST SORTED BY A WEIGHT, no k different members weigh less than the first k. Assumes nothing.
use mathlib.Core.Path.{◌≡◌, refl, sym, ap, ◌∙◌}
use mathlib.Core.Logic.{◌≢◌, ⊎_elim}
use mathlib.Core.List.{List, [], ◌∷◌}
use Prim.Native.Nat.{ℕ, zero, suc, ◌+◌, ◌≤◌, ◌<◌, zero-le}
use native.Mathlib.Nat.{le_refl, not-suc-le-zero}
use native.Mathlib.Omega.{arith}
use lib.ListN.{length, take}
use lib.Seq.{get_or-take, length-take-le}
use Rattle.parity.proofs.Ones.{below_or_not}
use Rattle.columns.specs.Mix.{column, place_in}
use Rattle.columns.proofs.Places.{place_hit}
use Rattle.columns.proofs.Pigeonhole.{down, up, up-down, apart_below}
use Rattle.balance.specs.Balance.{sum_of}
use Rattle.least.specs.Sorted.{Rises, SortedBy}
use Rattle.least.proofs.Counting.{Apart, Stands, pigeons}

-- ---- sums over the places below m

unfoldable sum_to : (ℕ → ℕ) → ℕ → ℕ
sum_to g zero = 0
sum_to g (suc m) = sum_to g m + g m

sum-le : (g h : ℕ → ℕ) (m : ℕ) → ((i : ℕ) → i < m → g i ≤ h i) → sum_to g m ≤ sum_to h m
unfolding sum_to
sum-le g h zero l = zero-le
sum-le g h (suc m) l = omega (arith, sum-le g h m (λ i u. l i (omega arith)), l m (le_refl (suc m)))

sum_alike : (g h : ℕ → ℕ) (m : ℕ) → ((i : ℕ) → i < m → g i ≡ h i) → sum_to g m ≡ sum_to h m
unfolding sum_to
sum_alike g h zero e = refl
sum_alike g h (suc m) e = omega (arith, sum_alike g h m (λ i u. e i (omega arith)), e m (le_refl (suc m)))

sum-front : (g : ℕ → ℕ) (m : ℕ) → sum_to g (suc m) ≡ g 0 + sum_to (λ i. g (suc i)) m
unfolding sum_to
sum-front g zero = omega arith
sum-front g (suc m) = omega (arith, sum-front g m)

-- the sum over a list, by places
sum-places : (w : ℕ → ℕ) (l : List ℕ) → sum_of w l ≡ sum_to (λ i. w (column l i)) (length l)
unfolding sum_of sum_to
sum-places w [] = refl
sum-places w (x ∷ l) = omega (arith, sum-places w l, sum-front (λ i. w (column (x ∷ l) i)) (length l))

-- ---- any m places hold no less than the first m

-- the first m places but v, with v, hold no less than the first m + 1
skipped : (g : ℕ → ℕ) (n : ℕ) → Rises g n → (m v : ℕ) → m < n → v < n → sum_to g (suc m) ≤ sum_to (λ i. g (up v i)) m + g v
unfolding sum_to
skipped g n rises zero v h l = omega (arith, rises 0 v zero-le l)
skipped g n rises (suc m) v h l =
    ⊎_elim
    (λ (low : v < suc m).
    let e : up v m ≡ suc m = omega arith in
    omega (arith, skipped g n rises m v (omega arith) l, ap g e))
    (λ (high : suc m ≤ v).
    omega (arith, sum-le g (λ i. g (up v i)) (suc m) (λ i u. rises i (up v i) (omega arith) (omega arith)), rises (suc m) v high l))
    (below_or_not v (suc m))

-- f picks m places below n that all differ
least_places : (m n : ℕ) (g f : ℕ → ℕ) → Rises g n → ((i : ℕ) → i < m → f i < n)
    → ((i j : ℕ) → i < m → j < m → f i ≡ f j → i ≡ j) → sum_to g m ≤ sum_to (λ i. g (f i)) m
unfolding sum_to
least_places zero n g f rises below apart = zero-le
least_places (suc m) zero g f rises below apart = absurd (not-suc-le-zero (below m (le_refl (suc m))))
least_places (suc m) (suc n) g f rises below apart =
    let v = f m in
    let last : (i : ℕ) → i < m → f i ≢ f m = λ i l e. let same = apart i m (omega arith) (omega arith) e in omega arith in
    let rest = least_places m n (λ i. g (up v i)) (λ i. down v (f i))
    (λ p q h l. rises (up v p) (up v q) (omega arith) (omega arith))
    (λ i l. omega (arith, last i l, below i (omega arith), below m (omega arith)))
    (λ i j l k e. apart i j (omega arith) (omega arith) (sym (up-down v (f i) (last i l)) ∙ ap (up v) e ∙ up-down v (f j) (last j k))) in
    omega (
      arith,
      rest,
      sum_alike (λ i. g (up v (down v (f i)))) (λ i. g (f i)) m (λ i l. ap g (up-down v (f i) (last i l))),
      skipped g (suc n) rises m v (apart_below (suc m) (suc n) f below apart) (below m (le_refl (suc m))),
    )

-- ---- different members of a list sorted by weight weigh no less than as many from its front; the list may repeat itself

module _ (w : ℕ → ℕ) (all l : List ℕ) (sorted : SortedBy w all) (apart : Apart l)
    (members : (p : ℕ) → p < length l → Stands all (column l p)) where
  pub first_least : sum_of w (take (length l) all) ≤ sum_of w l
  first_least =
      let k = length l in
      let size : length (take k all) ≡ k = length-take-le k all (pigeons l all apart members) in
      let hit : (p : ℕ) → p < k → column all (place_in all (column l p)) ≡ column l p = λ p h. place_hit all (column l p) (members p h) in
      omega (
        arith,
        sum-places w (take k all),
        ap (sum_to (λ i. w (column (take k all) i))) size,
        sum_alike (λ i. w (column (take k all) i)) (λ i. w (column all i)) k (λ i h. ap w (get_or-take k all i 0 h)),
        least_places k (length all) (λ i. w (column all i)) (λ i. place_in all (column l i)) sorted members
            (λ p q h u e. apart p q h u (sym (hit p h) ∙ ap (column all) e ∙ hit q u)),
        sum_alike (λ i. w (column all (place_in all (column l i)))) (λ i. w (column l i)) k (λ i h. ap w (hit i h)),
        sum-places w l,
      )
