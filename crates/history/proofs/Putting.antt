-- A record put into an image, and another into the same place; and bytes that are the same. Assumes nothing.
use mathlib.Core.Path.{◌≡◌, refl, sym, ap, ap₂, ◌∙◌}
use mathlib.Core.Bool.{true}
use mathlib.Core.Logic.{◌≢◌, ◌⊎◌, inl, inr}
use mathlib.Core.List.{List, ◌++◌}
use Prim.Native.Nat.{ℕ, suc, ◌+◌, ◌-◌, ◌*◌, ◌≤◌, ◌<◌}
use native.Mathlib.Nat.{suc-mul, mul-le-mul_right}
use native.Mathlib.Omega.{arith}
use lib.Pointwise.{bytes_decides}
use lib.ListN.{length, take, drop, length-append, length-drop}
use lib.Seq.{take_at, drop_at, drop-drop, length-take-le}
use Rattle.parity.proofs.Ones.{below_or_not}
use Rattle.record.specs.Run.{record_at}
use Rattle.record.specs.Journal.{put_record}
use Rattle.runs.proofs.Run.{record_drop, record_take}
use Rattle.entry_back.specs.Entry.{same_bytes}

pub same_bytes_lem : (l : List ℕ) → same_bytes l l ≡ true
unfolding same_bytes
same_bytes_lem l = (bytes_decides l l).1 refl

pub same_list : (l m : List ℕ) → same_bytes l m ≡ true → l ≡ m
unfolding same_bytes
same_list l m = (bytes_decides l m).0

module _ (size : ℕ) (image : List ℕ) (n : ℕ) (x : List ℕ) (fits : suc n * size ≤ length image) (long : length x ≡ size) where
  front : length (take (n * size) image) ≡ n * size
  front = length-take-le (n * size) image (omega (arith, suc-mul n size))

  -- what stands before it, and what stands behind it
  before_put : take (n * size) (put_record size image n x) ≡ take (n * size) image
  before_put = take_at (take (n * size) image) (x ++ drop (suc n * size) image) (n * size) front

  from_put : drop (n * size) (put_record size image n x) ≡ x ++ drop (suc n * size) image
  from_put = drop_at (take (n * size) image) (x ++ drop (suc n * size) image) (n * size) front

  behind_put : drop (suc n * size) (put_record size image n x) ≡ drop (suc n * size) image
  behind_put =
      ap (λ m. drop m (put_record size image n x)) (suc-mul n size)
      ∙ sym (drop-drop size (n * size) (put_record size image n x))
      ∙ ap (drop size) from_put
      ∙ drop_at x (drop (suc n * size) image) size long

  pub record_put : record_at size (put_record size image n x) n ≡ x
  record_put = ap (take size) from_put ∙ take_at x (drop (suc n * size) image) size long

  pub put_put : (y : List ℕ) → put_record size (put_record size image n x) n y ≡ put_record size image n y
  put_put y = ap₂ (λ a b. a ++ (y ++ b)) before_put behind_put

  pub length_put : length (put_record size image n x) ≡ length image
  length_put =
      length-append (take (n * size) image) (x ++ drop (suc n * size) image)
      ∙ omega (arith, front, length-append x (drop (suc n * size) image), long, length-drop (suc n * size) image)

  -- every other record is as it was
  pub others_stay : (i : ℕ) → i ≢ n → record_at size (put_record size image n x) i ≡ record_at size image i
  others_stay i apart = go (below_or_not i n)
    where
      past : (j : ℕ) → suc n + j ≡ i → record_at size (put_record size image n x) i ≡ record_at size image i
      past j e =
          ap (record_at size (put_record size image n x)) (sym e)
          ∙ sym (record_drop size (put_record size image n x) (suc n) j)
          ∙ ap (λ l. record_at size l j) behind_put
          ∙ record_drop size image (suc n) j
          ∙ ap (record_at size image) e

      go : (i < n) ⊎ (n ≤ i) → record_at size (put_record size image n x) i ≡ record_at size image i
      go (inl h) =
          let inside : suc i * size ≤ n * size = mul-le-mul_right size h in
          sym (record_take size (n * size) (put_record size image n x) i inside)
          ∙ ap (λ l. record_at size l i) before_put
          ∙ record_take size (n * size) image i inside
      go (inr h) = past (i - suc n) (omega arith)
