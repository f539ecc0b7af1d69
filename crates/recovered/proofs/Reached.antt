-- Which words are within reach: those that are proper and differ from the word as read, outside the bad places, in few places.
-- Assumes nothing.
use mathlib.Core.Path.{◌≡◌, refl, sym, ap, subst, ◌∙◌}
use mathlib.Core.Logic.{⊎_elim}
use mathlib.Core.Bool.{Bool, true, false, cond}
use mathlib.Core.List.Memᴰ
use mathlib.Core.List.{List, [], ◌∷◌, Memᴰ}
use Prim.Native.Nat.{ℕ, ◌^◌, ◌≤◌, ◌<◌}
use native.Mathlib.Omega.{arith}
use borrow.Author.Tests.{eq-eqb}
use lib.Bits.{bit_xor, xor_lt, xor_comm}
use lib.Count.{ones}
use lib.Dec.{eqb}
use lib.ListN.{length}
use Rattle.parity.proofs.Ones.{below_or_not, no_ones, ones_in_lem, single}
use Rattle.parity.proofs.Xor.{eq_of_xor_zero, xor_undo}
use Rattle.columns.specs.Mix.{flipped}
use Rattle.columns.proofs.Words.{flip_lt}
use Rattle.word.specs.Word.{in_parts}
use Rattle.word.specs.Verdicts.{read_in}
use Rattle.listing.specs.Sets.{flip_all}
use Rattle.explain.specs.Order.{SetOf}
use Rattle.explain.specs.Explanations.{is_clean}
use Rattle.explain.proofs.Flips.{flip_all-lt}
use Rattle.explained.proofs.Explanations.{explained_exactly}
use Rattle.reach.specs.Places.{stands, misnamed}
use Rattle.reach.proofs.Places.{named-first}
use Rattle.recover.specs.Recover.{turnings, proper_near, proper_among}
use Rattle.recovered.specs.Outside.{differing}
use Rattle.recovered.proofs.Outside.{differs_self, differs_flips, differs_bad, differs_none, settle}

-- a place stands at the head of its list, and behind it
stands-head : (p : ℕ) (ps : List ℕ) → stands p (p ∷ ps) ≡ true
unfolding stands
stands-head p ps = rw (eq-eqb p p refl)

stands_tail : (p q : ℕ) (ps : List ℕ) → stands q ps ≡ true → stands q (p ∷ ps) ≡ true
unfolding stands
stands_tail p q ps h = go (eqb p q)
  where
    go : (b : Bool) → cond b true (stands q ps) ≡ true
    go true = refl
    go false = h

-- ---- what is turned is bad

module _ (n : ℕ) (bad : List ℕ) (w : ℕ) where
  turned_in : (ps : List ℕ) → ((p : ℕ) → stands p ps ≡ true → stands p bad ≡ true) → misnamed n ps ≡ false
      → (u v : ℕ) → v < 2 ^ n → Memᴰ u (turnings v ps) → (u < 2 ^ n) × (differing n bad u w ≤ differing n bad v w)
  unfolding turnings
  turned_in [] all named u v fits m =
      let e = Memᴰ.eq_of_singleton m in
      (rw e fits, rw e (omega arith))
  turned_in (p ∷ ps) all named u v fits m =
      let x = named-first n p ps named in
      let rest : (q : ℕ) → stands q ps ≡ true → stands q bad ≡ true = λ q h. all q (stands_tail p q ps h) in
      ⊎_elim
      (λ l. turned_in ps rest x.2 u v fits l)
      (λ l.
      let i = turned_in ps rest x.2 u (flipped v p) (flip_lt n v p fits x.0) l in
      (i.0, omega (arith, i.1, differs_bad n bad v w p (all p (stands-head p ps)))))
      (Memᴰ.append_cases (turnings v ps) m)

-- a word that differs from w in few places outside the bad ones differs in as few from one of the turnings of w
turned_to : (n : ℕ) (bad : List ℕ) (u w : ℕ) → misnamed n bad ≡ false → w < 2 ^ n
    → (v : ℕ) × (v < 2 ^ n) × Memᴰ v (turnings w bad) × (differing n [] u v ≤ differing n bad u w)
unfolding turnings
turned_to n [] u w named fits = (w, fits, Memᴰ.head refl, omega arith)
turned_to n (p ∷ ps) u w named fits =
    let x = named-first n p ps named in
    ⊎_elim
    (λ (h : differing n ps u w ≤ differing n (p ∷ ps) u w).
    let i = turned_to n ps u w x.2 fits in
    (i.0, i.1, Memᴰ.append_left (turnings (flipped w p) ps) i.2, omega (arith, i.3)))
    (λ (h : differing n ps u (flipped w p) ≤ differing n (p ∷ ps) u w).
    let i = turned_to n ps u (flipped w p) x.2 (flip_lt n w p fits x.0) in
    (i.0, i.1, Memᴰ.append_right (turnings w ps) i.2, omega (arith, i.3)))
    (settle n p ps u w)

-- ---- what is flipped beside

module _ (rows : ℕ) (cs : List ℕ) (k : ℕ) where
  -- it reads clean
  abbrev pub IsProper : ℕ → Type 0
  IsProper u = is_clean (read_in rows cs k (in_parts k u)) ≡ true

  module _ (flips : ℕ) where
    among_in : (us : List ℕ) (v : ℕ) → Memᴰ v (proper_among rows cs k flips us)
        → (u : ℕ) × Memᴰ u us × Memᴰ v (proper_near rows cs k flips u)
    unfolding proper_among
    among_in [] v m = absurd (Memᴰ.not-nil m)
    among_in (u ∷ us) v m =
        ⊎_elim
        (λ l. (u, Memᴰ.head refl, l))
        (λ l. let i = among_in us v l in (i.0, Memᴰ.tail i.1, i.2))
        (Memᴰ.append_cases (proper_near rows cs k flips u) m)

    in-among : (us : List ℕ) (u v : ℕ) → Memᴰ u us → Memᴰ v (proper_near rows cs k flips u)
        → Memᴰ v (proper_among rows cs k flips us)
    unfolding proper_among
    in-among [] u v m l = absurd (Memᴰ.not-nil m)
    in-among (x ∷ us) u v m l =
        ⊎_elim
        (λ e. Memᴰ.append_left (proper_among rows cs k flips us) (rw e at l))
        (λ r. Memᴰ.append_right (proper_near rows cs k flips x) (in-among us u v r l))
        (Memᴰ.cases_cons m)

    -- a set of at most `flips` places whose flips give a proper word
    near_by : (u v : ℕ) (ps : List ℕ) → SetOf (length cs) flips ps → flip_all u ps ≡ v → IsProper v
        → Memᴰ v (proper_near rows cs k flips u)
    near_by u v ps set e proper =
        Memᴰ.cast (sym e)
        (Memᴰ.map (flip_all u) ((explained_exactly rows cs k u flips ps).1 (set, subst IsProper (sym e) proper)))

    -- a proper word that differs from u in at most one place
    near-to : (u v : ℕ) → u < 2 ^ length cs → v < 2 ^ length cs → IsProper v → flips ≤ 1 → ones (bit_xor v u) ≤ flips
        → Memᴰ v (proper_near rows cs k flips u)
    unfolding flip_all
    near-to u v hu hv proper few count =
        ⊎_elim
        (λ (l : ones (bit_xor v u) < 1).
        let same : u ≡ v = sym (eq_of_xor_zero v u (no_ones (bit_xor v u) (omega arith))) in
        near_by u v [] (record { rising = tt; few = omega arith }) same proper)
        (λ (l : 1 ≤ ones (bit_xor v u)).
        let i = single (length cs) (bit_xor v u) (xor_lt (length cs) v u hv hu) (omega arith) in
        let made : flipped u i.0 ≡ v = ap (bit_xor u) (sym i.2 ∙ xor_comm v u) ∙ xor_undo u v in
        near_by u v (i.0 ∷ []) (record { rising = (omega arith, i.1, tt); few = omega arith }) made proper)
        (below_or_not (ones (bit_xor v u)) 1)

    -- REACHED: proper, and outside the bad places at most `flips` places away
    pub reached-in : (w : ℕ) (bad : List ℕ) → w < 2 ^ length cs → misnamed (length cs) bad ≡ false
        → (v : ℕ) → Memᴰ v (proper_among rows cs k flips (turnings w bad))
        → (v < 2 ^ length cs) × IsProper v × (differing (length cs) bad v w ≤ flips)
    reached-in w bad fits named v m =
        let i = among_in (turnings w bad) v m in
        let t = turned_in (length cs) bad w bad (λ p h. h) named i.0 w fits i.1 in
        let r = Memᴰ.of_map (flip_all i.0) _ i.2 in
        let x = (explained_exactly rows cs k i.0 flips r.0).0 r.1 in
        let e : flip_all i.0 r.0 ≡ v = r.2 in
        subst (λ (y : ℕ). (y < 2 ^ length cs) × IsProper y × (differing (length cs) bad y w ≤ flips)) e (
          flip_all-lt (length cs) i.0 0 r.0 t.0 x.0.rising,
          x.1,
          omega (arith, differs_flips (length cs) bad i.0 w r.0, t.1, differs_self (length cs) bad w, x.0.few),
        )

    -- and all such words are reached
    pub in-reached : flips ≤ 1 → (w : ℕ) (bad : List ℕ) → w < 2 ^ length cs → misnamed (length cs) bad ≡ false
        → (v : ℕ) → v < 2 ^ length cs → IsProper v → differing (length cs) bad v w ≤ flips
        → Memᴰ v (proper_among rows cs k flips (turnings w bad))
    in-reached few w bad fits named v inside proper near =
        let t = turned_to (length cs) bad v w named fits in
        let x = bit_xor v t.0 in
        let count : ones x ≤ flips =
        omega (
          arith,
          t.3,
          near,
          differs_none (length cs) v t.0,
          ones_in_lem (length cs) x (xor_lt (length cs) v t.0 inside t.1),
        ) in
        in-among (turnings w bad) t.0 v t.2 (near-to t.0 v t.1 inside proper few count)
