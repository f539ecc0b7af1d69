-- Laws of `gather` and `add_up` over a run's records, whatever their size. Assumes nothing.
use mathlib.Core.Path.{◌≡◌, refl, sym, ap, ap₂, ◌∙◌}
use mathlib.Core.List.{List, [], ◌∷◌, ◌++◌, append_assoc, append-nil}
use Prim.Native.Nat.{ℕ, zero, suc, ◌+◌, ◌*◌, ◌-◌, ◌≤◌, ◌<◌}
use native.Mathlib.Decide.{dec_lt}
use native.Mathlib.Nat.{add-suc, add-zero, sub-zero, zero-sub, suc-sub-suc, add-mul, mul-add, suc-mul, mul-zero, mul-one, mul_comm, mul-le-mul_right, not-suc-le-zero}
use native.Mathlib.Numerals.{add-one}
use native.Mathlib.Omega.{arith}
use lib.ListN.{length, take, drop, length-append, length-drop}
use lib.Seq.{drop-drop, drop_at, take-nil, take-take, take_all, drop-append-le, take-append-le}
use borrow.Rule.Slice.PartMut.{put_mid}
use Rattle.record.specs.Run.{record_at, gather, add_up, over}
use Rattle.record.proofs.Over.{part_length, over-part}
use Rattle.runs.proofs.Over.{drop-over, over-kept}

-- ---- where a record stands

-- the records before one that fits do too
pub fits_less : (size n k i : ℕ) → k * size ≤ n → i < k → suc i * size ≤ n
fits_less size n k i h b = omega (arith, mul-le-mul_right size b)

pub record_length : (size : ℕ) (run : List ℕ) (i : ℕ) → suc i * size ≤ length run → length (record_at size run i) ≡ size
record_length size run i h = part_length (i * size) size run (omega (arith, suc-mul i size))

pub record_drop : (size : ℕ) (run : List ℕ) (j m : ℕ) → record_at size (drop (j * size) run) m ≡ record_at size run (j + m)
record_drop size run j m = ap (take size) (drop-drop (m * size) (j * size) run ∙ ap (λ n. drop n run) (sym (add-mul j m size)))

drop-take : (a n : ℕ) (l : List ℕ) → drop a (take n l) ≡ take (n - a) (drop a l)
drop-take zero n l = rw (sub-zero n)
drop-take (suc a) zero l = rw (zero-sub (suc a))
drop-take (suc a) (suc n) [] = sym (take-nil (suc n - suc a))
drop-take (suc a) (suc n) (x ∷ xs) = rw (suc-sub-suc n a) (drop-take a n xs)

pub record_take : (size n : ℕ) (l : List ℕ) (i : ℕ) → suc i * size ≤ n → record_at size (take n l) i ≡ record_at size l i
record_take size n l i h =
    rw (drop-take (i * size) n l) (take-take size (n - i * size) (drop (i * size) l) (omega (arith, suc-mul i size)))

pub record_append : (size : ℕ) (p q : List ℕ) (i : ℕ) → suc i * size ≤ length p → record_at size (p ++ q) i ≡ record_at size p i
record_append size p q i h =
    let l : size ≤ length (drop (i * size) p) = simp length-drop (omega (arith, suc-mul i size)) in
    rw (drop-append-le (i * size) p q (omega (arith, suc-mul i size))) (take-append-le size (drop (i * size) p) q l)

-- ---- sums

module _ (size : ℕ) (f : List ℕ → ℕ) (run : List ℕ) where
  pub sum_step : (i : ℕ) → add_up size f run (i + 1) ≡ add_up size f run i + f (record_at size run i)
  unfolding add_up
  sum_step i = rw (add-one i)

  pub sum-add : (j m : ℕ) → add_up size f run (j + m) ≡ add_up size f run j + add_up size f (drop (j * size) run) m
  unfolding add_up
  sum-add j zero = rw (add-zero j) (omega arith)
  sum-add j (suc m) = rw add-suc (omega (arith, sum-add j m, ap f (record_drop size run j m)))

  pub sum_mono : (j k : ℕ) → j ≤ k → add_up size f run j ≤ add_up size f run k
  sum_mono j k h =
      let e : j + (k - j) ≡ k = omega arith in
      rw (← e) (omega (arith, sum-add j (k - j)))

  pub sum-le : ((rec : List ℕ) → f rec ≤ 1) → (k : ℕ) → add_up size f run k ≤ k
  unfolding add_up
  sum-le h zero = omega arith
  sum-le h (suc k) = omega (arith, sum-le h k, h (record_at size run k))

-- each record counts one
pub sum_ones : (size : ℕ) (run : List ℕ) (k : ℕ) → add_up size (λ rec. 1) run k ≡ k
unfolding add_up
sum_ones size run zero = refl
sum_ones size run (suc k) = omega (arith, sum_ones size run k)

-- sums over two runs are equal where the summands are
pub sum_alike : (size : ℕ) (f g : List ℕ → ℕ) (l m : List ℕ) (k : ℕ)
    → ((i : ℕ) → i < k → f (record_at size l i) ≡ g (record_at size m i)) → add_up size f l k ≡ add_up size g m k
unfolding add_up
sum_alike size f g l m zero h = refl
sum_alike size f g l m (suc k) h = ap₂ ◌+◌ (sum_alike size f g l m k (λ i b. h i (omega arith))) (h k (omega arith))

-- a part that holds the records is as good as the whole
pub sum-take : (size : ℕ) (f : List ℕ → ℕ) (n : ℕ) (l : List ℕ) (k : ℕ) → k * size ≤ n → add_up size f (take n l) k ≡ add_up size f l k
sum-take size f n l k h = sum_alike size f f (take n l) l k (λ i b. ap f (record_take size n l i (fits_less size n k i h b)))

-- ---- what is gathered

module _ {X : Type 0} (size : ℕ) (f : ℕ → List ℕ → List X) (run : List ℕ) where
  pub gather-step : (i : ℕ) → gather size f run (i + 1) ≡ gather size f run i ++ f i (record_at size run i)
  unfolding gather
  gather-step i = rw (add-one i)

  pub gather-add : (j m : ℕ) → gather size f run (j + m) ≡ gather size f run j ++ gather size (λ i. f (j + i)) (drop (j * size) run) m
  unfolding gather
  gather-add j zero = rw add-zero (sym (append-nil (gather size f run j)))
  gather-add j (suc m) =
      rw (add-suc, gather-add j m, record_drop size run j m)
      (append_assoc (gather size f run j) (gather size (λ i. f (j + i)) (drop (j * size) run) m) (f (j + m) (record_at size run (j + m))))

  -- where f gives c elements of a record for each that g counts
  pub length-gather : (c : ℕ) (g : List ℕ → ℕ) → ((i : ℕ) (rec : List ℕ) → length rec ≡ size → length (f i rec) ≡ c * g rec)
      → (k : ℕ) → k * size ≤ length run → length (gather size f run k) ≡ c * add_up size g run k
  unfolding gather add_up
  length-gather c g h zero b = sym (mul-zero c)
  length-gather c g h (suc k) b =
      length-append (gather size f run k) (f k (record_at size run k))
      ∙ ap₂ ◌+◌ (length-gather c g h k (omega (arith, suc-mul k size))) (h k (record_at size run k) (record_length size run k b))
      ∙ sym (mul-add c (add_up size g run k) (g (record_at size run k)))

  -- where f gives c elements of each record
  pub length_each : (c : ℕ) → ((i : ℕ) (rec : List ℕ) → length rec ≡ size → length (f i rec) ≡ c)
      → (k : ℕ) → k * size ≤ length run → length (gather size f run k) ≡ k * c
  length_each c h k b =
      length-gather c (λ rec. 1) (λ i rec e. h i rec e ∙ sym (mul-one c)) k b ∙ ap (λ n. c * n) (sum_ones size run k) ∙ mul_comm c k

pub gather_alike : {X : Type 0} (size : ℕ) (f g : ℕ → List ℕ → List X) (l m : List ℕ) (k : ℕ)
    → ((i : ℕ) → i < k → f i (record_at size l i) ≡ g i (record_at size m i)) → gather size f l k ≡ gather size g m k
unfolding gather
gather_alike size f g l m zero h = refl
gather_alike size f g l m (suc k) h = ap₂ (λ p q. p ++ q) (gather_alike size f g l m k (λ i b. h i (omega arith))) (h k (omega arith))

pub gather-take : {X : Type 0} (size : ℕ) (f : ℕ → List ℕ → List X) (n : ℕ) (l : List ℕ) (k : ℕ) → k * size ≤ n
    → gather size f (take n l) k ≡ gather size f l k
gather-take size f n l k h = gather_alike size f f (take n l) l k (λ i b. ap (f i) (record_take size n l i (fits_less size n k i h b)))

-- ---- where f leaves each record its size

module _ (size : ℕ) (f : ℕ → List ℕ → List ℕ) (h : (i : ℕ) (rec : List ℕ) → length rec ≡ size → length (f i rec) ≡ size)
    (run : List ℕ) where
  pub length-left : (k : ℕ) → k * size ≤ length run → length (gather size f run k) ≡ k * size
  length-left = length_each size f run size h

  last_record : (k : ℕ) → suc k * size ≤ length run
      → record_at size (gather size f run k ++ f k (record_at size run k)) k ≡ f k (record_at size run k)
  last_record k b =
      let e : length (gather size f run k) ≡ k * size = length-left k (omega (arith, suc-mul k size)) in
      let l : length (f k (record_at size run k)) ≤ size = omega (arith, h k (record_at size run k) (record_length size run k b)) in
      rw (drop_at (gather size f run k) (f k (record_at size run k)) (k * size) e) (take_all size (f k (record_at size run k)) l)

  -- the record i of what is gathered is what f gives of the record i
  pub record_gather : (k i : ℕ) → k * size ≤ length run → i < k → record_at size (gather size f run k) i ≡ f i (record_at size run i)
  unfolding gather
  record_gather zero i b l = absurd (not-suc-le-zero l)
  record_gather (suc k) i b l =
      let b' : k * size ≤ length run = omega (arith, suc-mul k size) in
      elim (dec_lt i k) as (λ d. record_at size (gather size f run k ++ f k (record_at size run k)) i ≡ f i (record_at size run i)) [
        | yes m ↦
            let room : suc i * size ≤ length (gather size f run k) = omega (arith, length-left k b', mul-le-mul_right size m) in
            record_append size (gather size f run k) (f k (record_at size run k)) i room ∙ record_gather k i b' m
        | no m ↦ let e : i ≡ k = omega arith in rw e (last_record k b)
      ]

  -- the record that a pass has reached is still as it was
  pub record_next : (i : ℕ) → suc i * size ≤ length run → (now : List ℕ) (n : ℕ) → now ≡ over (gather size f run i) run → n ≡ size
      → take n (drop (i * size) now) ≡ record_at size run i
  record_next i b now n e m = rw (e, m, drop-over (gather size f run i) run (i * size) (length-left i (omega (arith, suc-mul i size))))

  -- a record that f leaves as it is need not be written
  pub record_kept : (i : ℕ) → suc i * size ≤ length run → f i (record_at size run i) ≡ record_at size run i
      → over (gather size f run (i + 1)) run ≡ over (gather size f run i) run
  record_kept i b e =
      let l : length (gather size f run i) ≡ i * size = length-left i (omega (arith, suc-mul i size)) in
      rw (gather-step size f run i, e) (over-kept (gather size f run i) run (i * size) size l (omega (arith, suc-mul i size)))

-- what f gives of the record i is written behind what it gave of those before it
pub gather_write : (size : ℕ) (f : ℕ → List ℕ → List ℕ) (run : List ℕ) (i : ℕ) (d now ys : List ℕ) (a n : ℕ)
    → now ≡ over (gather size f run i) d → length (gather size f run i) ≡ a → ys ≡ f i (record_at size run i) → length ys ≡ n
    → put_mid a n now ys ≡ over (gather size f run (i + 1)) d
gather_write size f run i d now ys a n e l g m = rw (e, gather-step size f run i, ← g) (over-part (gather size f run i) d ys a n l m)
