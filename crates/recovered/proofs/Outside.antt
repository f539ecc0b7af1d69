-- In how many places words differ, some places aside: after flips, with a bad place settled, and from one word by way of another.
-- Assumes nothing.
use mathlib.Core.Path.{◌≡◌, refl, sym, ap, ◌∙◌}
use mathlib.Core.Logic.{◌≢◌, ◌⊎◌, inl, inr, ⊎_elim}
use mathlib.Core.Bool.{Bool, true, false, cond}
use mathlib.Core.List.{List, [], ◌∷◌}
use Prim.Native.Nat.{ℕ, zero, suc, ◌+◌, ◌≤◌, ◌<◌}
use native.Mathlib.Omega.{arith}
use borrow.Author.Tests.{ne_eqb, eqb-true, eqb-false}
use lib.Bits.{bit_xor, differ}
use lib.Count.{ones_in}
use lib.Dec.{eqb}
use lib.ListN.{length}
use Rattle.parity.specs.Sums.{sum_from}
use Rattle.parity.proofs.Ones.{below_or_not, differ-sum}
use Rattle.parity.proofs.Sums.{sum-add, sum_none, sum-le, sum_same, sum_digits}
use Rattle.columns.specs.Mix.{flipped}
use Rattle.columns.specs.Bits.{bit_at}
use Rattle.columns.proofs.Errors.{differ_self}
use Rattle.columns.proofs.Rows.{xor_bit}
use Rattle.reach.specs.Places.{stands}
use Rattle.listing.specs.Sets.{flip_all}
use Rattle.recovered.specs.Outside.{differs_at, differing}
use Rattle.recovered.proofs.Digits.{bit_lt, differ-most, flip_bit, flip_bit_other}

-- ---- sums with one term, or with the places of a list

-- 1 at place p, and 0 elsewhere
abbrev at : ℕ → ℕ → ℕ
at p q = cond (eqb p q) 1 0

sum_nowhere : (p n j : ℕ) → p < j → sum_from (at p) n j ≡ 0
unfolding sum_from
sum_nowhere p zero j h = refl
sum_nowhere p (suc n) j h = rw (ne_eqb p j (λ e. omega arith), sum_nowhere p n (suc j) (omega arith))

sum-at : (p n j : ℕ) → sum_from (at p) n j ≤ 1
unfolding sum_from
sum-at p zero j = omega arith
sum-at p (suc n) j = go (eqb p j) refl (sum-at p n (suc j))
  where
    go : (b : Bool) → eqb p j ≡ b → sum_from (at p) n (suc j) ≤ 1 → cond b 1 0 + sum_from (at p) n (suc j) ≤ 1
    go true e ih = omega (arith, sum_nowhere p n (suc j) (omega (arith, eqb-true p j e)))
    go false e ih = omega arith

-- 1 at each place of a list
abbrev listed : List ℕ → ℕ → ℕ
listed ps q = cond (stands q ps) 1 0

sum-listed : (ps : List ℕ) (n j : ℕ) → sum_from (listed ps) n j ≤ length ps
unfolding stands
sum-listed [] n j = omega (arith, sum_none n j)
sum-listed (p ∷ ps) n j =
    omega (
      arith,
      sum-le (listed (p ∷ ps)) (λ q. at p q + listed ps q) n j (λ q h. each q),
      sum-add (at p) (listed ps) n j,
      sum-at p n j,
      sum-listed ps n j,
    )
  where
    each : (q : ℕ) → listed (p ∷ ps) q ≤ at p q + listed ps q
    each q = go (eqb p q) (stands q ps)
      where
        go : (a b : Bool) → cond (cond a true b) 1 0 ≤ cond a 1 0 + cond b 1 0
        go true b = omega arith
        go false true = omega arith
        go false false = omega arith

-- ---- how far a word is

module _ (n : ℕ) (bad : List ℕ) where
  pub differs_self : (w : ℕ) → differing n bad w w ≡ 0
  differs_self w =
      let none : (q : ℕ) → differs_at bad w w q ≤ 0 = λ q. go (stands q bad) (bit_at w q) in
      omega (arith, sum-le (differs_at bad w w) (λ q. 0) n 0 (λ q h. none q), sum_none n 0)
    where
      go : (b : Bool) (x : ℕ) → cond b 0 (differ x x) ≤ 0
      go true x = omega arith
      go false x = omega (arith, differ_self x)

  -- a flip adds a place at most
  pub differs_flip : (u w p : ℕ) → differing n bad (flipped u p) w ≤ differing n bad u w + 1
  differs_flip u w p =
      omega (
        arith,
        sum-le (differs_at bad (flipped u p) w) (λ q. differs_at bad u w q + at p q) n 0 (λ q h. each q),
        sum-add (differs_at bad u w) (at p) n 0,
        sum-at p n 0,
      )
    where
      most : (b : Bool) (x : ℕ) → x ≤ 1 → cond b 0 x ≤ 1
      most true x h = omega arith
      most false x h = h

      each : (q : ℕ) → differs_at bad (flipped u p) w q ≤ differs_at bad u w q + at p q
      each q = go (eqb p q) refl
        where
          go : (e : Bool) → eqb p q ≡ e → differs_at bad (flipped u p) w q ≤ differs_at bad u w q + cond e 1 0
          go true e =
              omega (
                arith,
                most (stands q bad) (differ (bit_at (flipped u p) q) (bit_at w q))
                    (differ-most (bit_at (flipped u p) q) (bit_at w q) (bit_lt (flipped u p) q) (bit_lt w q)),
              )
          go false e =
              let same : differs_at bad (flipped u p) w q ≡ differs_at bad u w q =
              ap (λ (x : ℕ). cond (stands q bad) 0 (differ x (bit_at w q))) (flip_bit_other u p q (λ s. eqb-false p q e (sym s))) in
              omega arith

  -- as many flips, as many places at most
  pub differs_flips : (u w : ℕ) (ps : List ℕ) → differing n bad (flip_all u ps) w ≤ differing n bad u w + length ps
  unfolding flip_all
  differs_flips u w [] = omega arith
  differs_flips u w (p ∷ ps) = omega (arith, differs_flips (flipped u p) w ps, differs_flip u w p)

  -- a bad place adds none
  pub differs_bad : (u w p : ℕ) → stands p bad ≡ true → differing n bad (flipped u p) w ≤ differing n bad u w
  differs_bad u w p h = sum-le (differs_at bad (flipped u p) w) (differs_at bad u w) n 0 (λ q h. each q)
    where
      each : (q : ℕ) → differs_at bad (flipped u p) w q ≤ differs_at bad u w q
      each q = go (eqb p q) refl
        where
          go : (e : Bool) → eqb p q ≡ e → differs_at bad (flipped u p) w q ≤ differs_at bad u w q
          go true e =
              let there : stands q bad ≡ true = ap (λ (x : ℕ). stands x bad) (sym (eqb-true p q e)) ∙ h in
              rw there (omega arith)
          go false e =
              let same : differs_at bad (flipped u p) w q ≡ differs_at bad u w q =
              ap (λ (x : ℕ). cond (stands q bad) 0 (differ x (bit_at w q))) (flip_bit_other u p q (λ s. eqb-false p q e (sym s))) in
              omega arith

  -- two words that are near to w are near to each other
  pub differs_both : (u v w : ℕ) → ones_in n (bit_xor u v) ≤ length bad + (differing n bad u w + differing n bad v w)
  differs_both u v w =
      omega (
        arith,
        sum-le (λ q. bit_at (bit_xor u v) q) (λ q. listed bad q + (differs_at bad u w q + differs_at bad v w q)) n 0 (λ q h. each q),
        sum-add (listed bad) (λ q. differs_at bad u w q + differs_at bad v w q) n 0,
        sum-add (differs_at bad u w) (differs_at bad v w) n 0,
        sum-listed bad n 0,
        digits,
      )
    where
      digits : sum_from (λ q. bit_at (bit_xor u v) q) n 0 ≡ ones_in n (bit_xor u v)
      digits = sum_digits (bit_xor u v) n 0 ∙ ap (ones_in n) (omega arith)

      way : (x y z : ℕ) → x < 2 → y < 2 → z < 2 → differ x y ≤ differ x z + differ y z
      way x y z hx hy hz = omega (arith, differ-sum x y hx hy, differ-sum x z hx hz, differ-sum y z hy hz)

      each : (q : ℕ) → bit_at (bit_xor u v) q ≤ listed bad q + (differs_at bad u w q + differs_at bad v w q)
      each q = go (stands q bad)
        where
          go : (b : Bool)
              → bit_at (bit_xor u v) q
              ≤ cond b 1 0 + (cond b 0 (differ (bit_at u q) (bit_at w q)) + cond b 0 (differ (bit_at v q) (bit_at w q)))
          go true = omega (arith, bit_lt (bit_xor u v) q)
          go false = omega (arith, xor_bit u v q, way (bit_at u q) (bit_at v q) (bit_at w q) (bit_lt u q) (bit_lt v q) (bit_lt w q))

-- with no bad place it is the weight of what they differ in
pub differs_none : (n u w : ℕ) → differing n [] u w ≡ ones_in n (bit_xor u w)
unfolding stands
differs_none n u w =
    sum_same (differs_at [] u w) (λ q. bit_at (bit_xor u w) q) n 0 (λ q. sym (xor_bit u w q))
    ∙ sum_digits (bit_xor u w) n 0 ∙ ap (ones_in n) (omega arith)

-- ---- a bad place settled: as read or turned, w has the digit of u there, and the place need not be set aside

settled : (n p : ℕ) (ps : List ℕ) (u v w : ℕ) → bit_at v p ≡ bit_at u p → ((q : ℕ) → q ≢ p → bit_at v q ≡ bit_at w q)
    → differing n ps u v ≤ differing n (p ∷ ps) u w
unfolding stands
settled n p ps u v w here there = sum-le (differs_at ps u v) (differs_at (p ∷ ps) u w) n 0 (λ q h. each q)
  where
    each : (q : ℕ) → differs_at ps u v q ≤ differs_at (p ∷ ps) u w q
    each q = go (eqb p q) refl (stands q ps)
      where
        go : (e : Bool) → eqb p q ≡ e → (b : Bool)
            → cond b 0 (differ (bit_at u q) (bit_at v q)) ≤ cond (cond e true b) 0 (differ (bit_at u q) (bit_at w q))
        go true e true = omega arith
        go true e false =
            let same : bit_at v q ≡ bit_at u q = rw (eqb-true p q e) at here in
            omega (arith, ap (differ (bit_at u q)) same, differ_self (bit_at u q))
        go false e true = omega arith
        go false e false = omega (arith, ap (differ (bit_at u q)) (there q (λ s. eqb-false p q e (sym s))))

pub settle : (n p : ℕ) (ps : List ℕ) (u w : ℕ)
    → (differing n ps u w ≤ differing n (p ∷ ps) u w) ⊎ (differing n ps u (flipped w p) ≤ differing n (p ∷ ps) u w)
settle n p ps u w =
    ⊎_elim
    (λ (l : differ (bit_at w p) (bit_at u p) < 1).
    inl (settled n p ps u w w (alike (bit_at w p) (bit_at u p) (bit_lt w p) (bit_lt u p) l) (λ q ne. refl)))
    (λ (l : 1 ≤ differ (bit_at w p) (bit_at u p)).
    inr (settled n p ps u (flipped w p) w (flip_bit w p ∙ other (bit_at w p) (bit_at u p) (bit_lt w p) (bit_lt u p) l) (flip_bit_other w p)))
    (below_or_not (differ (bit_at w p) (bit_at u p)) 1)
  where
    alike : (x y : ℕ) → x < 2 → y < 2 → differ x y < 1 → x ≡ y
    alike x y hx hy h = omega (arith, differ-sum x y hx hy)

    other : (x y : ℕ) → x < 2 → y < 2 → 1 ≤ differ x y → differ x 1 ≡ y
    other x y hx hy h = omega (arith, differ-sum x y hx hy, differ-sum x 1 hx (omega arith))

-- ---- said place by place

module _ (n : ℕ) (bad : List ℕ) (u w : ℕ) where
  -- alike in every place that is not bad, but for place q
  pub differs_at_lem : (q : ℕ) → ((p : ℕ) → p < n → stands p bad ≡ false → p ≢ q → bit_at u p ≡ bit_at w p) → differing n bad u w ≤ 1
  differs_at_lem q alike = omega (arith, sum-le (differs_at bad u w) (at q) n 0 (λ p h. each p (omega arith)), sum-at q n 0)
    where
      each : (p : ℕ) → p < n → differs_at bad u w p ≤ at q p
      each p l = go (stands p bad) refl (eqb q p) refl
        where
          go : (b : Bool) → stands p bad ≡ b → (e : Bool) → eqb q p ≡ e → cond b 0 (differ (bit_at u p) (bit_at w p)) ≤ cond e 1 0
          go true h e f = omega arith
          go false h true f = differ-most (bit_at u p) (bit_at w p) (bit_lt u p) (bit_lt w p)
          go false h false f =
              omega (arith, ap (λ (x : ℕ). differ x (bit_at w p)) (alike p l h (λ s. eqb-false q p f (sym s))), differ_self (bit_at w p))

  -- alike in every place that is not bad
  pub differs_nowhere : ((p : ℕ) → p < n → stands p bad ≡ false → bit_at u p ≡ bit_at w p) → differing n bad u w ≡ 0
  differs_nowhere alike = omega (arith, sum-le (differs_at bad u w) (λ p. 0) n 0 (λ p h. each p (omega arith)), sum_none n 0)
    where
      each : (p : ℕ) → p < n → differs_at bad u w p ≤ 0
      each p l = go (stands p bad) refl
        where
          go : (b : Bool) → stands p bad ≡ b → cond b 0 (differ (bit_at u p) (bit_at w p)) ≤ 0
          go true h = omega arith
          go false h = omega (arith, ap (λ (x : ℕ). differ x (bit_at w p)) (alike p l h), differ_self (bit_at w p))

  -- the order of the bad places does not matter
  pub differs_same : (other : List ℕ) → ((p : ℕ) → stands p bad ≡ stands p other) → differing n bad u w ≡ differing n other u w
  differs_same other h =
      sum_same (differs_at bad u w) (differs_at other u w) n 0 (λ p. ap (λ b. cond b 0 (differ (bit_at u p) (bit_at w p))) (h p))
