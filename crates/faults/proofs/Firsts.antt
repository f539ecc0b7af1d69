-- The first place with a fault: the turns of the loop that looks for it, and what it says of the places. Assumes nothing.
use mathlib.Core.Path.{◌≡◌, refl, sym, ap, ◌∙◌}
use mathlib.Core.Bool.{Bool, true, false, cond, true≢false}
use mathlib.Core.Logic.{⊎_elim}
use mathlib.Core.List.{List}
use Prim.Native.Nat.{ℕ, zero, suc, ◌+◌, ◌-◌, ◌≤◌, ◌<◌}
use native.Mathlib.Numerals.{add-one}
use native.Mathlib.Omega.{arith}
use borrow.Author.Tests.{ltb-true, ltb-false, lt-ltb, le-ltb}
use lib.Dec.{ltb}
use lib.ListN.{length}
use Rattle.std.specs.Prelude.{Some, None}
use Rattle.parity.proofs.Ones.{below_or_not}
use Rattle.faults.specs.declared.Fault.{Fault}
use Rattle.faults.specs.Faults.{fault_at, first_from, first_past, found_past, first_in, some_in}

-- ---- the loop

pub first_here : (f : Fault) (cs : List ℕ) (n i : ℕ) → i < n → fault_at f cs i ≡ true → first_from f cs (n - i) i ≡ i
unfolding first_from
first_here f cs n i h t =
    let e : n - i ≡ suc (n - (i + 1)) = omega arith in
    simp (e, t)

pub first_step : (f : Fault) (cs : List ℕ) (n i : ℕ) → i < n → fault_at f cs i ≡ false
    → first_from f cs (n - i) i ≡ first_from f cs (n - (i + 1)) (i + 1)
unfolding first_from
first_step f cs n i h t =
    let e : n - i ≡ suc (n - (i + 1)) = omega arith in
    simp (e, add-one i, t)

pub first_end : (f : Fault) (cs : List ℕ) (n i : ℕ) → n ≤ i → first_from f cs (n - i) i ≡ i
unfolding first_from
first_end f cs n i h =
    let e : n - i ≡ 0 = omega arith in
    rw e

-- what the loop answers with the place where it ends, if that is the first
pub found_at : (f : Fault) (cs : List ℕ) (i p : ℕ) → first_past f cs i ≡ p → p < length cs → Some p ≡ found_past f cs i
found_at f cs i p e l = simp (e, lt-ltb p (length cs) l)

pub found_none : (f : Fault) (cs : List ℕ) (i p : ℕ) → first_past f cs i ≡ p → length cs ≤ p → None ≡ found_past f cs i
found_none f cs i p e l = simp (e, le-ltb p (length cs) l)

-- and what that answer says of the first
module _ (f : Fault) (cs : List ℕ) (i : ℕ) where
  pub is_found : (p : ℕ) → Some p ≡ found_past f cs i → (ltb (first_past f cs i) (length cs) ≡ true) × (first_past f cs i ≡ p)
  is_found p e = go (ltb (first_past f cs i) (length cs)) refl e
    where
      go : (b : Bool) → ltb (first_past f cs i) (length cs) ≡ b → Some p ≡ cond b (Some (first_past f cs i)) None
          → (b ≡ true) × (first_past f cs i ≡ p)
      go true t h = (refl, cc)
      go false t h = cc

  pub not_found : None ≡ found_past f cs i → ltb (first_past f cs i) (length cs) ≡ false
  not_found e = go (ltb (first_past f cs i) (length cs)) e
    where
      go : (b : Bool) → None ≡ cond b (Some (first_past f cs i)) None → b ≡ false
      go true h = cc
      go false h = refl

-- ---- what it says of the places

-- none before it has the fault
before_from : (f : Fault) (cs : List ℕ) (n i j : ℕ) → i ≤ j → j < first_from f cs n i → fault_at f cs j ≡ false
unfolding first_from
before_from f cs zero i j h l = absurd (omega arith)
before_from f cs (suc n) i j h l = go (fault_at f cs i) refl l (λ m k. before_from f cs n (suc i) j m k)
  where
    go : (b : Bool) → fault_at f cs i ≡ b → j < cond b i (first_from f cs n (suc i))
        → (suc i ≤ j → j < first_from f cs n (suc i) → fault_at f cs j ≡ false) → fault_at f cs j ≡ false
    go true e m rest = absurd (omega arith)
    go false e m rest =
        ⊎_elim (λ (s : i < j). rest s m) (λ (s : j ≤ i). let q : j ≡ i = omega arith in ap (fault_at f cs) q ∙ e) (below_or_not i j)

-- it has it itself, where it is none past the last
at_from : (f : Fault) (cs : List ℕ) (n i : ℕ) → first_from f cs n i < i + n → fault_at f cs (first_from f cs n i) ≡ true
unfolding first_from
at_from f cs zero i l = absurd (omega arith)
at_from f cs (suc n) i l = go (fault_at f cs i) refl l (λ m. at_from f cs n (suc i) m)
  where
    go : (b : Bool) → fault_at f cs i ≡ b → cond b i (first_from f cs n (suc i)) < i + suc n
        → (first_from f cs n (suc i) < suc i + n → fault_at f cs (first_from f cs n (suc i)) ≡ true)
        → fault_at f cs (cond b i (first_from f cs n (suc i))) ≡ true
    go true e m rest = e
    go false e m rest = rest (omega arith)

past_from : (f : Fault) (cs : List ℕ) (n i : ℕ) → i ≤ first_from f cs n i
unfolding first_from
past_from f cs zero i = omega arith
past_from f cs (suc n) i = go (fault_at f cs i) (past_from f cs n (suc i))
  where
    go : (b : Bool) → suc i ≤ first_from f cs n (suc i) → i ≤ cond b i (first_from f cs n (suc i))
    go true h = omega arith
    go false h = omega arith

module _ (f : Fault) (cs : List ℕ) (i : ℕ) where
  pub first_before : (j : ℕ) → i ≤ j → j < first_past f cs i → fault_at f cs j ≡ false
  unfolding first_past
  first_before j h l = before_from f cs (length cs - i) i j h l

  pub first-at : first_past f cs i < length cs → fault_at f cs (first_past f cs i) ≡ true
  unfolding first_past
  first-at l = at_from f cs (length cs - i) i (omega (arith, past_from f cs (length cs - i) i))

  pub first_past_lem : i ≤ first_past f cs i
  unfolding first_past
  first_past_lem = past_from f cs (length cs - i) i

  -- so it is the one place inside with the fault and with none before it
  pub first-is : (p : ℕ) → i ≤ p → p < length cs → fault_at f cs p ≡ true → ((j : ℕ) → i ≤ j → j < p → fault_at f cs j ≡ false)
      → first_past f cs i ≡ p
  first-is p past inside here before =
      let q = first_past f cs i in
      let up : ¬ (q < p) = λ l. true≢false (sym (first-at (omega arith)) ∙ before q first_past_lem l) in
      let down : ¬ (p < q) = λ l. true≢false (sym here ∙ first_before p past l) in
      omega arith

-- some place of the list has the fault, or none
pub some_at : (f : Fault) (cs : List ℕ) → some_in f cs ≡ true → (first_in f cs < length cs) × (fault_at f cs (first_in f cs) ≡ true)
some_at f cs e = let l = ltb-true (first_in f cs) (length cs) e in (l, first-at f cs 0 l)

pub none_at : (f : Fault) (cs : List ℕ) → some_in f cs ≡ false → (i : ℕ) → i < length cs → fault_at f cs i ≡ false
none_at f cs e i l = first_before f cs 0 i (omega arith) (omega (arith, ltb-false (first_in f cs) (length cs) e))
