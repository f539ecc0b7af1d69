-- Which row a syndrome gets: each verdict exactly where its step holds. Assumes nothing.
use mathlib.Core.Path.{◌≡◌, refl, sym, ap, ◌∙◌, subst}
use mathlib.Core.Logic.{◌≢◌, inl, inr}
use mathlib.Core.Bool.{Bool, true, false, cond, true≢false}
use Prim.Native.Nat.{ℕ, zero, suc, ◌+◌, ◌*◌, ◌^◌, ◌≤◌, ◌<◌, zero-le}
use native.Mathlib.Omega.{arith}
use borrow.Author.Tests.{eq-eqb, eqb-true}
use lib.Dec.{eqb}
use Rattle.std.specs.Prelude.{Option, Some, None}
use Rattle.parity.proofs.Tested.{both}
use Rattle.byte_parts.specs.declared.Parts.{Parts}
use Rattle.byte_parts.specs.Vectors.{power_t}
use Rattle.byte_code.specs.Reading.{byte_number, as_read, put_right, both_zero, solves, solution_in, read_by}
use Rattle.byte_code.proofs.Steps.{zero_syndrome, NoCheck, row_clean, row_seven, row_eight, row_nine, row_data, row_flagged}
use Rattle.byte_errors.specs.Steps.{NoError, CheckError, DataError, NoStep}
use Rattle.byte_parts.specs.Parts.{parts_of}
use Rattle.byte_errors.proofs.Linear.{parts_data, parts_seven, parts_eight, parts_nine}
use Rattle.byte_errors.proofs.Powers.{power_zero, power_apart}

-- ---- the search of step 3

-- what step 3 asks of i, as equations
abbrev pub Solves : Parts → ℕ → Type 0
Solves s i = (power_t i s.first ≡ s.second) × (power_t (2 * i) s.first ≡ s.third)

solves-says : (s : Parts) (i : ℕ) → solves s i ≡ true → Solves s i
solves-says s i h =
    let b = both (eqb (power_t i s.first) s.second) (eqb (power_t (2 * i) s.first) s.third) h in
    (eqb-true _ _ b.0, eqb-true _ _ b.1)

says-solves : (s : Parts) (i : ℕ) → Solves s i → solves s i ≡ true
says-solves s i h = rw (eq-eqb _ _ h.0, eq-eqb _ _ h.1)

-- what it finds is one of the n numbers from i on, and a solution
solution_at : (s : Parts) (n i j : ℕ) → solution_in s n i ≡ Some j → (j < i + n) × Solves s j
unfolding solution_in
solution_at s zero i j e = cc
solution_at s (suc n) i j e = go (solves s i) refl e (λ f. solution_at s n (suc i) j f)
  where
    go : (t : Bool) → solves s i ≡ t → cond t (Some i) (solution_in s n (suc i)) ≡ Some j
        → (solution_in s n (suc i) ≡ Some j → (j < suc i + n) × Solves s j) → (j < i + suc n) × Solves s j
    go true h e rest = let here : i ≡ j = cc in (omega (arith, here), subst (Solves s) here (solves-says s i h))
    go false h e rest = let r = rest e in (omega (arith, r.0), r.1)

-- where it finds none, there is none
solution_none : (s : Parts) (n i j : ℕ) → solution_in s n i ≡ None → i ≤ j → j < i + n → Solves s j → ⊥
unfolding solution_in
solution_none s zero i j e h l q = absurd (omega arith)
solution_none s (suc n) i j e h l q = go (solves s i) refl e (λ f m. solution_none s n (suc i) j f m (omega arith) q)
  where
    go : (t : Bool) → solves s i ≡ t → cond t (Some i) (solution_in s n (suc i)) ≡ None → (solution_in s n (suc i) ≡ None → suc i ≤ j → ⊥) → ⊥
    go true g e rest = cc
    go false g e rest =
        let apart : i ≢ j = λ z. true≢false (sym (says-solves s i (subst (Solves s) (sym z) q)) ∙ g) in
        rest e (omega (arith, apart))

-- it finds one, or none
data Found (s : Parts) : Type 0 where
  one_found : (i : ℕ) → solution_in s 7 0 ≡ Some i → Found s
  none_found : solution_in s 7 0 ≡ None → Found s

found : (s : Parts) → Found s
found s = go (solution_in s 7 0) refl
  where
    go : (o : Option ℕ) → solution_in s 7 0 ≡ o → Found s
    go (Some i) e = one_found i e
    go None e = none_found e

-- numbers that cannot differ are equal
pub same_unless : (a b : ℕ) → ¬ (a ≢ b) → a ≡ b
same_unless a b h =
    let low : ¬ (a < b) = λ l. h (λ e. omega (arith, e)) in
    let high : ¬ (b < a) = λ l. h (λ e. omega (arith, e)) in
    omega arith

-- two solutions for an error that is not zero are one
solution_only : (s : Parts) (i j : ℕ) → s.first < 8 → s.first ≢ 0 → i < 7 → j < 7 → Solves s i → Solves s j → i ≡ j
solution_only s i j b f h k p q = same_unless i j (λ d. f (power_apart i j h k d s.first b (p.0 ∙ sym q.0)))

-- ---- tests and propositions

both_zero_lem : (a b : ℕ) → a ≡ 0 → b ≡ 0 → both_zero a b ≡ true
both_zero_lem a b h k = rw (eq-eqb a 0 h, eq-eqb b 0 k)

zero_both : (a b : ℕ) → both_zero a b ≡ true → (a ≡ 0) × (b ≡ 0)
zero_both a b h = let t = both (eqb a 0) (eqb b 0) h in (eqb-true a 0 t.0, eqb-true b 0 t.1)

-- a test that cannot be true is false
not_both : (a b : ℕ) → ((a ≡ 0) → (b ≡ 0) → ⊥) → both_zero a b ≡ false
not_both a b h = go (both_zero a b) refl
  where
    go : (t : Bool) → both_zero a b ≡ t → both_zero a b ≡ false
    go true e = let z = zero_both a b e in absurd (h z.0 z.1)
    go false e = e

all_zero_lem : (s : Parts) → NoError s → zero_syndrome s ≡ true
all_zero_lem s z = rw (eq-eqb s.first 0 z.first, both_zero_lem s.second s.third z.second z.third)

zero_all : (s : Parts) → zero_syndrome s ≡ true → NoError s
zero_all s h =
    let t = both (eqb s.first 0) (both_zero s.second s.third) h in
    let u = zero_both s.second s.third t.1 in
    record { first = eqb-true s.first 0 t.0; second = u.0; third = u.1 }

not_all : (s : Parts) → ¬ NoError s → zero_syndrome s ≡ false
not_all s h = go (zero_syndrome s) refl
  where
    go : (t : Bool) → zero_syndrome s ≡ t → zero_syndrome s ≡ false
    go true e = absurd (h (zero_all s e))
    go false e = e

-- where no two of the parts are zero, steps 1 and 2 do not hold
pub two-set : (s : Parts) → ((s.second ≡ 0) → (s.third ≡ 0) → ⊥) → ((s.first ≡ 0) → (s.third ≡ 0) → ⊥)
    → ((s.first ≡ 0) → (s.second ≡ 0) → ⊥) → NoCheck s
two-set s a b c =
    record {
      some = not_all s (λ z. a z.second z.third);
      seven = not_both s.second s.third a;
      eight = not_both s.first s.third b;
      nine = not_both s.first s.second c;
    }

-- the tests of steps 1 and 2 all failed exactly where neither step holds
pub no_steps : (s : Parts) → NoCheck s → (¬ NoError s) × ((t : ℕ) → ¬ CheckError s t)
no_steps s n = (λ z. true≢false (sym (all_zero_lem s z) ∙ n.some), λ t c. check c)
  where
    clash : (a b : ℕ) → both_zero a b ≡ false → a ≡ 0 → b ≡ 0 → ⊥
    clash a b e h k = true≢false (sym (both_zero_lem a b h k) ∙ e)

    check : {t : ℕ} → CheckError s t → ⊥
    check (inl c) = clash s.second s.third n.seven c.1.1 c.1.2
    check (inr (inl c)) = clash s.first s.third n.eight c.1.1 c.1.2
    check (inr (inr c)) = clash s.first s.second n.nine c.1.1 c.1.2

steps_no : (s : Parts) → ¬ NoError s → ((t : ℕ) → ¬ CheckError s t) → NoCheck s
steps_no s z c =
    two-set s
    (λ b d. c 7 (inl (refl, (λ a. z (record { first = a; second = b; third = d }), b, d))))
    (λ a d. c 8 (inr (inl (refl, (λ b. z (record { first = a; second = b; third = d }), a, d)))))
    (λ a b. c 9 (inr (inr (refl, (λ d. z (record { first = a; second = b; third = d }), a, b)))))

-- ---- the rows, each where its step holds

-- all three parts are vectors of three bits
pub record Vectors (s : Parts) : Type 0 where
  pub first : s.first < 8
  pub second : s.second < 8
  pub third : s.third < 8

-- a pattern in byte t that alone would have given these parts
pub record Explains (s : Parts) (t pattern : ℕ) : Type 0 where
  pub below : t < 10
  pub vector : pattern < 8
  pub parts : parts_of (pattern * 2 ^ (3 * t)) ≡ s

pub by_clean : (s : Parts) (w : ℕ) → NoError s → read_by s w ≡ as_read 0 w
by_clean s w z = row_clean s w (all_zero_lem s z)

abbrev CheckRow : Parts → ℕ → ℕ → Type 0
CheckRow s w t = (pattern : ℕ) × Explains s t pattern × (read_by s w ≡ put_right 2 (byte_number t) pattern w)

pub by_check : (s : Parts) (w t : ℕ) → Vectors s → CheckError s t → CheckRow s w t
by_check s w t v (inl (e, (f, b, c))) =
    subst (CheckRow s w) (sym e) (
      s.first,
      record { below = omega arith; vector = v.first; parts = parts_seven s.first v.first ∙ rw (b, c) },
      row_seven s w (not_all s (λ z. f z.first)) (both_zero_lem s.second s.third b c),
    )
by_check s w t v (inr (inl (e, (f, a, c)))) =
    subst (CheckRow s w) (sym e) (
      s.second,
      record { below = omega arith; vector = v.second; parts = parts_eight s.second v.second ∙ rw (a, c) },
      row_eight s w (not_all s (λ z. f z.second)) (not_both s.second s.third (λ z _. f z)) (both_zero_lem s.first s.third a c),
    )
by_check s w t v (inr (inr (e, (f, a, b)))) =
    subst (CheckRow s w) (sym e) (
      s.third,
      record { below = omega arith; vector = v.third; parts = parts_nine s.third v.third ∙ rw (a, b) },
      row_nine s w (not_all s (λ z. f z.third)) (not_both s.second s.third (λ _ z. f z))
          (not_both s.first s.third (λ _ z. f z)) (both_zero_lem s.first s.second a b),
    )

pub by_data : (s : Parts) (w i : ℕ) → Vectors s → DataError s i
    → Explains s i s.first × (read_by s w ≡ put_right 1 (byte_number i) s.first w)
by_data s w i v d =
    let n = steps_no s d.no_step_1 d.no_step_2 in
    let q : Solves s i = (d.second, d.third) in (
      record {
        below = omega (arith, d.below);
        vector = v.first;
        parts = parts_data s.first i v.first d.below ∙ rw (d.second, d.third);
      },
      row n q (found s),
    )
  where
    -- a power of T takes zero to zero: were part 1 zero, all three would be
    taken : (k part : ℕ) → power_t k s.first ≡ part → s.first ≡ 0 → part ≡ 0
    taken k part e z = sym e ∙ ap (power_t k) z ∙ power_zero k

    nonzero : s.first ≢ 0
    nonzero z =
        d.no_step_1
        (record { first = z; second = taken i s.second d.second z; third = taken (2 * i) s.third d.third z })

    row : NoCheck s → Solves s i → Found s → read_by s w ≡ put_right 1 (byte_number i) s.first w
    row n q (one_found j e) =
        let a = solution_at s 7 0 j e in
        row_data s w j n e
        ∙ ap (λ k. put_right 1 (byte_number k) s.first w) (solution_only s j i v.first nonzero a.0 d.below a.1 q)
    row n q (none_found e) = absurd (solution_none s 7 0 i e zero-le d.below q)

-- what the search finds, where steps 1 and 2 do not hold
found_error : (s : Parts) → (¬ NoError s) × ((t : ℕ) → ¬ CheckError s t) → (i : ℕ) → solution_in s 7 0 ≡ Some i → DataError s i
found_error s o i e =
    let q = solution_at s 7 0 i e in
    record { no_step_1 = o.0; no_step_2 = o.1; below = q.0; second = q.1.0; third = q.1.1 }

pub by_none : (s : Parts) (w : ℕ) → NoStep s → read_by s w ≡ as_read 3 w
by_none s w d = go (found s)
  where
    go : Found s → read_by s w ≡ as_read 3 w
    go (one_found i e) = absurd (d.no_step_3 i (found_error s (d.no_step_1, d.no_step_2) i e))
    go (none_found e) = row_flagged s w (steps_no s d.no_step_1 d.no_step_2) e

-- one step holds, or none
pub data WhichStep (s : Parts) : Type 0 where
  step-1 : NoError s → WhichStep s
  step-2 : (t : ℕ) → CheckError s t → WhichStep s
  step-3 : (i : ℕ) → DataError s i → WhichStep s
  no_step : NoStep s → WhichStep s

pub step_of : (s : Parts) → WhichStep s
step_of s = one (zero_syndrome s) refl
  where
    third : NoCheck s → Found s → WhichStep s
    third n (one_found i e) = step-3 i (found_error s (no_steps s n) i e)
    third n (none_found e) =
        let o = no_steps s n in
        no_step (record {
          no_step_1 = o.0;
          no_step_2 = o.1;
          no_step_3 = λ i d. solution_none s 7 0 i e zero-le d.below (d.second, d.third);
        })

    -- not all three parts are zero
    some : zero_syndrome s ≡ false → s.first ≡ 0 → s.second ≡ 0 → s.third ≡ 0 → ⊥
    some n a b c = true≢false (sym (all_zero_lem s (record { first = a; second = b; third = c })) ∙ n)

    nine : zero_syndrome s ≡ false → both_zero s.second s.third ≡ false → both_zero s.first s.third ≡ false
        → (b : Bool) → both_zero s.first s.second ≡ b → WhichStep s
    nine n a b true e =
        let z = zero_both s.first s.second e in
        step-2 9 (inr (inr (refl, (λ f. some n z.0 z.1 f, z.0, z.1))))
    nine n a b false e =
        third (record { some = n; seven = a; eight = b; nine = e }) (found s)

    eight : zero_syndrome s ≡ false → both_zero s.second s.third ≡ false → (b : Bool) → both_zero s.first s.third ≡ b
        → WhichStep s
    eight n a true e =
        let z = zero_both s.first s.third e in
        step-2 8 (inr (inl (refl, (λ f. some n z.0 f z.1, z.0, z.1))))
    eight n a false e = nine n a e (both_zero s.first s.second) refl

    seven : zero_syndrome s ≡ false → (b : Bool) → both_zero s.second s.third ≡ b → WhichStep s
    seven n true e =
        let z = zero_both s.second s.third e in
        step-2 7 (inl (refl, (λ f. some n f z.0 z.1, z.0, z.1)))
    seven n false e = eight n e (both_zero s.first s.third) refl

    one : (b : Bool) → zero_syndrome s ≡ b → WhichStep s
    one true e = step-1 (zero_all s e)
    one false e = seven e (both_zero s.second s.third) refl
