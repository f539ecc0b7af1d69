-- Pigeonhole, the numbers that pass a test, and how many of them there are. Assumes nothing.
use mathlib.Core.Path.{◌≡◌, refl, sym, ap, ◌∙◌}
use mathlib.Core.Logic.{◌≢◌, ⊎_elim}
use mathlib.Core.Bool.{Bool, true, false, cond}
use mathlib.Core.List.{List, ◌∷◌, ◌++◌}
use Prim.Native.Nat.{ℕ, zero, suc, ◌+◌, ◌-◌, ◌*◌, ◌/◌, ◌^◌, ◌≤◌, ◌<◌, zero-le, suc-le-suc}
use native.Mathlib.Nat.{le_refl, le_of_suc-le-suc, not-suc-le-zero}
use native.Mathlib.Omega.{arith}
use lib.Count.{ones, ones_step}
use lib.Dec.{eqb}
use lib.ListN.{length, length-append, get_or-append}
use lib.Seq.{get_or-append-add}
use Rattle.parity.specs.Odd.{odd_ones, is_odd}
use Rattle.parity.proofs.Ones.{below_or_not, single}
use Rattle.columns.specs.Mix.{column, singles, place_in}
use Rattle.columns.proofs.Places.{place_hit, place_first}
use Rattle.columns.proofs.Pigeonhole.{apart_below}
use Rattle.columns.proofs.Singles.{length-singles, single_at}
use Rattle.order.specs.Order.{passing_from, passing}

-- ---- pigeonhole

-- no two places hold the same number
abbrev pub Apart : List ℕ → Type 0
Apart l = (p q : ℕ) → p < length l → q < length l → column l p ≡ column l q → p ≡ q

-- x stands in l
abbrev pub Stands : List ℕ → ℕ → Type 0
Stands l x = place_in l x < length l

-- numbers that all differ and all stand in g are no more than g has
pub pigeons : (l g : List ℕ) → Apart l → ((p : ℕ) → p < length l → Stands g (column l p)) → length l ≤ length g
pigeons l g apart stands =
    apart_below (length l) (length g) (λ p. place_in g (column l p)) stands
    (λ p q h k e. apart p q h k (sym (place_hit g (column l p) (stands p h)) ∙ ap (column g) e ∙ place_hit g (column l q) (stands q k)))

-- it is enough to look at two places, the lower first
pub apart_of : (l : List ℕ) → ((p q : ℕ) → p < q → q < length l → column l p ≢ column l q) → Apart l
apart_of l differ p q h k e =
    let low : ¬ (p < q) = λ o. differ p q o k e in
    let high : ¬ (q < p) = λ o. differ q p o h (sym e) in
    omega arith

stands_at : (l : List ℕ) (x p : ℕ) → p < length l → column l p ≡ x → Stands l x
stands_at l x p h e = omega (arith, place_first l x p h e)

-- what stands in a part stands in the whole
pub stands-left : (l m : List ℕ) (x : ℕ) → Stands l x → Stands (l ++ m) x
stands-left l m x h =
    stands_at (l ++ m) x (place_in l x) (rw length-append (omega arith)) (get_or-append l m 0 (place_in l x) h ∙ place_hit l x h)

pub stands-right : (l m : List ℕ) (x : ℕ) → Stands m x → Stands (l ++ m) x
stands-right l m x h =
    stands_at (l ++ m) x (length l + place_in m x) (rw length-append (omega arith)) (get_or-append-add l m (place_in m x) 0 ∙ place_hit m x h)

-- ---- the numbers that pass a test

module _ (f : ℕ → Bool) where
  -- one number more
  length-step : (n a : ℕ) → length (passing_from f (suc n) a) ≡ cond (f a) 1 0 + length (passing_from f n (suc a))
  unfolding passing_from
  length-step n a = go (f a)
    where
      go : (b : Bool) → let rest = passing_from f n (suc a) in length (cond b (a ∷ rest) rest) ≡ cond b 1 0 + length rest
      go true = omega arith
      go false = omega arith

  -- each lies in the range and passes
  record Passes (n a x : ℕ) : Type 0 where
    pub least : a ≤ x
    pub most : x < a + n
    pub test : f x ≡ true

  after : {n a x : ℕ} → Passes n (suc a) x → Passes (suc n) a x
  after i = record { least = omega arith; most = omega arith; test = i.test }

  passes_from : (n a p : ℕ) → p < length (passing_from f n a) → Passes n a (column (passing_from f n a) p)
  unfolding passing_from
  passes_from zero a p h = absurd (not-suc-le-zero h)
  passes_from (suc n) a p h = go (f a) refl p h (passes_from n (suc a))
    where
      go : (b : Bool) → f a ≡ b → (p : ℕ) → let rest = passing_from f n (suc a) in let l = cond b (a ∷ rest) rest in p < length l
          → ((p : ℕ) → p < length rest → Passes n (suc a) (column rest p)) → Passes (suc n) a (column l p)
      go true e zero h ih = record { least = le_refl a; most = omega arith; test = e }
      go true e (suc p) h ih = after (ih p (le_of_suc-le-suc h))
      go false e p h ih = after (ih p h)

  rises_from : (n a p q : ℕ) → p < q → q < length (passing_from f n a) → column (passing_from f n a) p < column (passing_from f n a) q
  unfolding passing_from
  rises_from zero a p q o h = absurd (not-suc-le-zero h)
  rises_from (suc n) a p q o h = go (f a) p q o h (rises_from n (suc a))
    where
      go : (b : Bool) (p q : ℕ) → p < q → let rest = passing_from f n (suc a) in let l = cond b (a ∷ rest) rest in q < length l
          → ((p q : ℕ) → p < q → q < length rest → column rest p < column rest q) → column l p < column l q
      go true p zero o h ih = absurd (not-suc-le-zero o)
      go true zero (suc q) o h ih = (passes_from n (suc a) q (le_of_suc-le-suc h)).least
      go true (suc p) (suc q) o h ih = ih p q (le_of_suc-le-suc o) (le_of_suc-le-suc h)
      go false p q o h ih = ih p q o h

  stands_from : (n a x : ℕ) → a ≤ x → x < a + n → f x ≡ true → Stands (passing_from f n a) x
  unfolding passing_from
  stands_from zero a x l m t = absurd (omega arith)
  stands_from (suc n) a x l m t =
      ⊎_elim
      (λ (past : a < x). later (f a) (stands_from n (suc a) x past (omega arith) t))
      (λ (here : x ≤ a). let e : a ≡ x = omega arith in rw (ap f e ∙ t) (stands_at (a ∷ passing_from f n (suc a)) x 0 (omega arith) e))
      (below_or_not a x)
    where
      later : (b : Bool) → let rest = passing_from f n (suc a) in Stands rest x → Stands (cond b (a ∷ rest) rest) x
      later true h = let rest = passing_from f n (suc a) in stands_at (a ∷ rest) x (suc (place_in rest x)) (suc-le-suc h) (place_hit rest x h)
      later false h = h

  module _ (n : ℕ) where
    pub passing-at : (p : ℕ) → p < length (passing f n) → (column (passing f n) p < n) × (f (column (passing f n) p) ≡ true)
    passing-at p h = let i = passes_from n 0 p h in (omega arith, i.test)

    pub passing-rises : (p q : ℕ) → p < q → q < length (passing f n) → column (passing f n) p < column (passing f n) q
    passing-rises p q o h = rises_from n 0 p q o h

    pub passing-apart : Apart (passing f n)
    passing-apart = apart_of (passing f n) (λ p q o h e. omega (arith, passing-rises p q o h))

    -- all of them are there
    pub passing-has : (x : ℕ) → x < n → f x ≡ true → Stands (passing f n) x
    passing-has x h t = stands_from n 0 x zero-le (omega arith) t

-- ---- how many there are

digit : (d : ℕ) → d < 2 → cond (eqb d 1) 1 0 ≡ d
digit zero h = refl
digit (suc zero) h = refl
digit (suc (suc d)) h = absurd (omega arith)

-- of 2 m and 2 m + 1, one has an odd number of ones
one_odd : (m : ℕ) → cond (is_odd (2 * m)) 1 0 + cond (is_odd (suc (2 * m))) 1 0 ≡ 1
one_odd m =
    let low : 2 * m / 2 ≡ m = omega arith in
    let high : suc (2 * m) / 2 ≡ m = omega arith in
    omega (
      arith,
      digit (odd_ones (2 * m)) (omega arith),
      digit (odd_ones (suc (2 * m))) (omega arith),
      ones_step (2 * m),
      ones_step (suc (2 * m)),
      ap ones low,
      ap ones high,
    )

odd_from : (n a : ℕ) → length (passing_from is_odd (2 * n) (2 * a)) ≡ n
unfolding passing_from
odd_from zero a = refl
odd_from (suc n) a =
    let two : 2 * suc n ≡ suc (suc (2 * n)) = omega arith in
    let next : suc (suc (2 * a)) ≡ 2 * suc a = omega arith in
    ap (λ (m : ℕ). length (passing_from is_odd m (2 * a))) two
    ∙ omega (
      arith,
      length-step is_odd (suc (2 * n)) (2 * a),
      length-step is_odd (2 * n) (suc (2 * a)),
      one_odd a,
      ap (λ (x : ℕ). length (passing_from is_odd (2 * n) x)) next,
      odd_from n (suc a),
    )

-- of the numbers below 2 n, just n have an odd number of ones; so 2 ^ (r - 1) of those below 2 ^ r
odd_count : (n : ℕ) → length (passing is_odd (2 * n)) ≡ n
odd_count n = odd_from n 0

pub odd_half : (r : ℕ) → 1 ≤ r → length (passing is_odd (2 ^ r)) ≡ 2 ^ (r - 1)
odd_half zero h = absurd (not-suc-le-zero h)
odd_half (suc r) h =
    let twice : 2 ^ suc r ≡ 2 * 2 ^ r = omega arith in
    let less : r ≡ suc r - 1 = omega arith in
    ap (λ (n : ℕ). length (passing is_odd n)) twice ∙ odd_count (2 ^ r) ∙ ap (◌^◌ 2) less

-- any number below 2 ^ r with a single one is a check column
pub single_stands : (r x : ℕ) → x < 2 ^ r → ones x ≡ 1 → Stands (singles r) x
single_stands r x h e =
    let s = single r x h e in
    stands_at (singles r) x s.0 (rw (length-singles r) s.1) (single_at r s.0 s.1 ∙ sym s.2)
