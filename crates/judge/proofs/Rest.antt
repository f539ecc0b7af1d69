-- The places past k: all 0, or the first that is not is told. For any list of places and any k. Assumes nothing.
use mathlib.Core.Path.{◌≡◌, refl}
use mathlib.Core.Bool.{Bool, true, false, cond}
use mathlib.Core.Logic.{⊎_elim}
use mathlib.Core.List.{List, [], ◌∷◌}
use Prim.Native.Nat.{ℕ, zero, suc, ◌-◌, ◌≤◌, ◌<◌}
use native.Mathlib.Omega.{arith}
use borrow.Author.Tests.{eqb-true, eqb-false, eq-eqb, ne_eqb}
use lib.Dec.{eqb}
use lib.ListN.{length}
use Rattle.parity.proofs.Ones.{below_or_not}
use Rattle.columns.specs.Mix.{column}
use Rattle.std.specs.Prelude.{Ok, Err}
use Rattle.judge.specs.declared.Flaw.TheVariants.{NoData, NoChecks, TooWide, EvenColumn, SingleOne, Repeated, Leftover}
use Rattle.judge.specs.Judge.{Judged, leftover_from, judge_rest}
use Rattle.judge.specs.Rule.{Empty, LeftAt}

-- ---- in plain numbers: behind two columns, the first of two leftovers is told, and one in the last place is seen

pub first-told : judge_rest (7 ∷ 11 ∷ 0 ∷ 5 ∷ 0 ∷ 9 ∷ []) 2 ≡ Err (Leftover 3)
unfolding judge_rest leftover_from
first-told = refl

pub last_seen : judge_rest (7 ∷ 11 ∷ 0 ∷ 0 ∷ 0 ∷ 9 ∷ []) 2 ≡ Err (Leftover 5)
unfolding judge_rest leftover_from
last_seen = refl

-- ---- for all places

module _ (columns : List ℕ) (k : ℕ) where
  -- what an answer says of the places past k
  abbrev pub SaysOfRest : Judged → Type 0
  SaysOfRest (Ok u) = Empty columns k
  SaysOfRest (Err NoData) = ⊥
  SaysOfRest (Err NoChecks) = ⊥
  SaysOfRest (Err (TooWide i)) = ⊥
  SaysOfRest (Err (EvenColumn i)) = ⊥
  SaysOfRest (Err (SingleOne i)) = ⊥
  SaysOfRest (Err (Repeated i)) = ⊥
  SaysOfRest (Err (Leftover i)) = LeftAt columns k i

  -- the places from k up to i are 0
  abbrev To : ℕ → Type 0
  To i = (j : ℕ) → k ≤ j → j < i → column columns j ≡ 0

  to_next : (i : ℕ) → To i → column columns i ≡ 0 → To (suc i)
  to_next i before z j h l =
      ⊎_elim (λ (b : j < i). before j h b) (λ (b : i ≤ j). let e : i ≡ j = omega arith in rw (← e) z) (below_or_not j i)

  from-says : (n i : ℕ) → n ≡ length columns - i → k ≤ i → To i → SaysOfRest (leftover_from columns n i)
  unfolding leftover_from
  from-says zero i e past before = λ j h l. before j h (omega arith)
  from-says (suc n) i e past before =
      go (eqb (column columns i) 0) refl (λ z. from-says n (suc i) (omega arith) (omega arith) (to_next i before z))
    where
      go : (b : Bool) → eqb (column columns i) 0 ≡ b → (column columns i ≡ 0 → SaysOfRest (leftover_from columns n (suc i)))
          → SaysOfRest (cond b (leftover_from columns n (suc i)) (Err (Leftover i)))
      go true z next = next (eqb-true (column columns i) 0 z)
      go false z next = record { past = past; inside = omega arith; full = eqb-false (column columns i) 0 z; before = before }

  pub rest-says : SaysOfRest (judge_rest columns k)
  unfolding judge_rest
  rest-says = from-says (length columns - k) k refl (omega arith) (λ j h l. absurd (omega arith))

  -- ---- and the other way round

  all_empty : (n i : ℕ) → n ≡ length columns - i → k ≤ i → Empty columns k → leftover_from columns n i ≡ Ok tt
  unfolding leftover_from
  all_empty zero i e past x = refl
  all_empty (suc n) i e past x =
      simp (eq-eqb (column columns i) 0 (x i past (omega arith))) (all_empty n (suc i) (omega arith) (omega arith) x)

  reached : (n i p : ℕ) → n ≡ length columns - i → k ≤ i → i ≤ p → LeftAt columns k p → leftover_from columns n i ≡ Err (Leftover p)
  unfolding leftover_from
  reached zero i p e past l x = absurd (omega (arith, x.inside))
  reached (suc n) i p e past l x =
      ⊎_elim
      (λ (b : i < p). simp (eq-eqb (column columns i) 0 (x.before i past b)) (reached n (suc i) p (omega arith) (omega arith) b x))
      (λ (b : p ≤ i). let f : p ≡ i = omega arith in rw (← f) (simp (ne_eqb (column columns p) 0 x.full)))
      (below_or_not i p)

  pub says-rest : (v : Judged) → SaysOfRest v → judge_rest columns k ≡ v
  unfolding judge_rest
  says-rest (Ok u) x = all_empty (length columns - k) k refl (omega arith) x
  says-rest (Err NoData) x = absurd x
  says-rest (Err NoChecks) x = absurd x
  says-rest (Err (TooWide i)) x = absurd x
  says-rest (Err (EvenColumn i)) x = absurd x
  says-rest (Err (SingleOne i)) x = absurd x
  says-rest (Err (Repeated i)) x = absurd x
  says-rest (Err (Leftover i)) x = reached (length columns - k) k i refl (omega arith) x.past x
