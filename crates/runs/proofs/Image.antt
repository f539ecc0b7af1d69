-- An image with something in the place of a run of its records: what stays, what each record is, and a run in two. Assumes nothing.
use mathlib.Core.Path.{◌≡◌, sym, ap, ◌∙◌}
use mathlib.Core.List.{List, ◌++◌, append_assoc}
use Prim.Native.Nat.{ℕ, suc, ◌+◌, ◌*◌, ◌-◌, ◌≤◌, ◌<◌}
use native.Mathlib.Nat.{add-mul, mul-le-mul_right}
use native.Mathlib.Omega.{arith}
use lib.ListN.{length, take, drop, length-append, length-drop}
use lib.Seq.{drop-drop, drop_at, take_at, length-take-le}
use Rattle.record.specs.Run.{record_at, add_up, from_record, gather_run, over_run, sum_run}
use Rattle.runs.proofs.Run.{length-left, record_gather, record_append, record_drop, gather-add, gather_alike, sum-add}

-- the end of a run, and what comes from there on
run_end : (size a b : ℕ) → a ≤ b → a * size + (b - a) * size ≡ b * size
run_end size a b h = let e : a + (b - a) ≡ b = omega arith in sym (add-mul a (b - a) size) ∙ ap (λ n. n * size) e

pub onward : (size : ℕ) (l : List ℕ) (a b : ℕ) → a ≤ b → drop ((b - a) * size) (from_record size a l) ≡ from_record size b l
onward size l a b h = drop-drop ((b - a) * size) (a * size) l ∙ ap (λ n. drop n l) (run_end size a b h)

-- ---- where f leaves each record its size

module _ (size : ℕ) (f : ℕ → List ℕ → List ℕ) (each : (i : ℕ) (rec : List ℕ) → length rec ≡ size → length (f i rec) ≡ size)
    (image : List ℕ) (a b : ℕ) (h : a ≤ b) (fits : b * size ≤ length image) where
  run_fits : (b - a) * size ≤ length (from_record size a image)
  run_fits = simp length-drop (omega (arith, run_end size a b h))

  pub length-gather_run : length (gather_run size f image a b) ≡ (b - a) * size
  length-gather_run = length-left size (λ i. f (a + i)) (λ i. each (a + i)) (from_record size a image) (b - a) run_fits

  length_before : length (take (a * size) image) ≡ a * size
  length_before = length-take-le (a * size) image (omega (arith, run_end size a b h))

  length_front : length (take (a * size) image ++ gather_run size f image a b) ≡ b * size
  length_front =
      length-append (take (a * size) image) (gather_run size f image a b)
      ∙ omega (arith, length_before, length-gather_run, run_end size a b h)

  grouped : over_run size f image a b ≡ take (a * size) image ++ gather_run size f image a b ++ from_record size b image
  grouped = sym (append_assoc (take (a * size) image) (gather_run size f image a b) (from_record size b image))

  -- the image before the run stays, and the image after it
  pub before_stays : take (a * size) (over_run size f image a b) ≡ take (a * size) image
  before_stays = take_at (take (a * size) image) (gather_run size f image a b ++ from_record size b image) (a * size) length_before

  pub after_stays : from_record size b (over_run size f image a b) ≡ from_record size b image
  after_stays =
      ap (drop (b * size)) grouped
      ∙ drop_at (take (a * size) image ++ gather_run size f image a b) (from_record size b image) (b * size) length_front

  pub front-is : take (b * size) (over_run size f image a b) ≡ take (a * size) image ++ gather_run size f image a b
  front-is =
      ap (take (b * size)) grouped
      ∙ take_at (take (a * size) image ++ gather_run size f image a b) (from_record size b image) (b * size) length_front

  pub run_is : from_record size a (over_run size f image a b) ≡ gather_run size f image a b ++ from_record size b image
  run_is = drop_at (take (a * size) image) (gather_run size f image a b ++ from_record size b image) (a * size) length_before

  pub length-over_run : length (over_run size f image a b) ≡ length image
  length-over_run =
      ap length grouped
      ∙ length-append (take (a * size) image ++ gather_run size f image a b) (from_record size b image)
      ∙ simp length-drop (omega (arith, length_front))

  -- a record within the run is what f gives of it
  pub record_within : (i : ℕ) → a ≤ i → i < b → record_at size (over_run size f image a b) i ≡ f i (record_at size image i)
  record_within i l m =
      let e : a + (i - a) ≡ i = omega arith in
      let k : i - a < b - a = omega arith in
      let room : suc (i - a) * size ≤ length (gather_run size f image a b) = omega (arith, length-gather_run, mul-le-mul_right size k) in
      rw (← e)
      (sym (record_drop size (over_run size f image a b) a (i - a))
      ∙ ap (λ p. record_at size p (i - a)) run_is
      ∙ record_append size (gather_run size f image a b) (from_record size b image) (i - a) room
      ∙ record_gather size (λ j. f (a + j)) (λ j. each (a + j)) (from_record size a image) (b - a) (i - a) run_fits k
      ∙ ap (f (a + (i - a))) (record_drop size image a (i - a)))

-- ---- a run in two

module _ (size : ℕ) (image : List ℕ) (a b c : ℕ) (h : a ≤ b) (g : b ≤ c) where
  both : c - a ≡ b - a + (c - b)
  both = omega arith

  pub sum-split : (s : List ℕ → ℕ) → sum_run size s image a c ≡ sum_run size s image a b + sum_run size s image b c
  sum-split s =
      rw both
      (sum-add size s (from_record size a image) (b - a) (c - b)
      ∙ ap (λ l. sum_run size s image a b + add_up size s l (c - b)) (onward size image a b h))

  pub gather-split : {X : Type 0} (f : ℕ → List ℕ → List X) → gather_run size f image a c ≡ gather_run size f image a b ++ gather_run size f image b c
  gather-split f =
      rw both
      (gather-add size (λ i. f (a + i)) (from_record size a image) (b - a) (c - b)
      ∙ ap (λ l. gather_run size f image a b ++ l)
      (gather_alike size (λ i. f (a + (b - a + i))) (λ i. f (b + i))
      (drop ((b - a) * size) (from_record size a image)) (from_record size b image) (c - b)
      (λ i l. let e : a + (b - a + i) ≡ b + i = omega arith in rw (onward size image a b h, e))))

  pub run-split : (f : ℕ → List ℕ → List ℕ) → ((i : ℕ) (rec : List ℕ) → length rec ≡ size → length (f i rec) ≡ size)
      → c * size ≤ length image → over_run size f (over_run size f image a b) b c ≡ over_run size f image a c
  run-split f each fits =
      let fits-b : b * size ≤ length image = omega (arith, mul-le-mul_right size g) in
      let first : List ℕ = over_run size f image a b in
      let rest : from_record size b first ≡ from_record size b image = after_stays size f each image a b h fits-b in
      let end : from_record size c first ≡ from_record size c image =
      sym (onward size first b c g) ∙ ap (drop ((c - b) * size)) rest ∙ onward size image b c g in
      rw (front-is size f each image a b h fits-b, rest, end, gather-split f) (simp append_assoc)
