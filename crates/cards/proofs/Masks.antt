-- A card's masks: the search of them finds nothing exactly where none breaks the rule, and else the smallest that does. Assumes nothing.
use mathlib.Core.Path.{◌≡◌, refl, sym, ap}
use mathlib.Core.Bool.{Bool, true, false, cond, ◌||◌, ◌&&◌, or-true}
use mathlib.Core.Logic.{◌↔◌, ◌⊎◌, inl, inr, ⊎_elim}
use mathlib.Core.List.{List}
use Prim.Native.Nat.{ℕ, ◌^◌, ◌≤◌, ◌<◌, zero-le}
use native.Mathlib.Omega.{arith}
use borrow.Author.Tests.{le-leb, leb-true, eq-eqb, eqb-true, lt-ltb, ltb-true}
use lib.Count.{ones}
use lib.Dec.{eqb, leb}
use lib.ListN.{length}
use Rattle.columns.specs.Mix.{mix, column, place_in}
use Rattle.columns.proofs.Places.{place_hit, place_first}
use Rattle.std.proofs.Common.{Option, Some, None}
use Rattle.cards.specs.declared.Weak.{Weak}
use Rattle.cards.specs.Cards.{is_column, weak_at, weak_mask, try_mask, weak_mask_in}
use Rattle.cards.specs.Rule.{Flagged, Breaks}
use Rattle.cards.proofs.Search.{nothing-found, something_found}

-- ---- one mask

all_true : (a b c : Bool) → a && (b || c) ≡ true → (a ≡ true) × ((b ≡ true) ⊎ (c ≡ true))
all_true true true c h = (refl, inl refl)
all_true true false c h = (refl, inr h)
all_true false b c h = let z : ◌≡◌ {A = ℕ} 0 1 = cc in absurd (omega arith)

-- s is a column exactly where one of the places has it
is_column_lem : (cs : List ℕ) (s : ℕ) → (is_column cs s ≡ true) ↔ ((p : ℕ) × (p < length cs) × (column cs p ≡ s))
is_column_lem cs s = (
  λ h. let l = ltb-true (place_in cs s) (length cs) h in (place_in cs s, l, place_hit cs s l),
  λ w. lt-ltb (place_in cs s) (length cs) (omega (arith, place_first cs s w.0 w.1 w.2)),
)

module _ (cs card : List ℕ) (mask : ℕ) where
  pub weak_breaks : mask < 2 ^ length card → weak_mask cs card mask ≡ true → Breaks cs card mask
  unfolding weak_mask
  weak_breaks l h =
      let s = mix card mask in
      let w = all_true (leb 2 (ones mask)) (eqb s 0) (is_column cs s) h in
      record {
        inside = l;
        several = leb-true 2 (ones mask) w.0;
        makes = ⊎_elim (λ e. inl (eqb-true s 0 e)) (λ e. inr ((is_column_lem cs s).0 e)) w.1;
      }

  pub breaks_weak : Breaks cs card mask → weak_mask cs card mask ≡ true
  unfolding weak_mask
  breaks_weak k =
      let s = mix card mask in
      rw (le-leb 2 (ones mask) k.several)
      (⊎_elim
      (λ (e : s ≡ 0). rw (eq-eqb s 0 e))
      (λ (w : (p : ℕ) × (p < length cs) × (column cs p ≡ s)). rw ((is_column_lem cs s).1 w) (or-true (eqb s 0)))
      k.makes)

  -- two or more places that do not break the rule make neither 0 nor any column
  pub kept_flagged : mask < 2 ^ length card → 2 ≤ ones mask → ¬ (Breaks cs card mask) → Flagged cs (mix card mask)
  kept_flagged l h k = record {
    nonzero = λ e. k (record { inside = l; several = h; makes = inl e });
    no_column = λ p u e. k (record { inside = l; several = h; makes = inr (p, u, e) });
  }

  pub flagged_kept : (mask < 2 ^ length card → 2 ≤ ones mask → Flagged cs (mix card mask)) → ¬ (Breaks cs card mask)
  flagged_kept h k =
      let f = h k.inside k.several in
      ⊎_elim (λ e. f.nonzero e) (λ w. f.no_column w.0 w.1 w.2) k.makes

-- what is told
abbrev told_card : Option Weak → ℕ
told_card None = 0
told_card (Some w) = w.card

abbrev told_mask : Option Weak → ℕ
told_mask None = 0
told_mask (Some w) = w.mask

module _ (cs card : List ℕ) (number : ℕ) where
  pub try_weak : (mask : ℕ) → weak_mask cs card mask ≡ true → try_mask cs card number mask ≡ weak_at number mask
  unfolding try_mask
  try_weak mask e = rw e

  pub try_kept : (mask : ℕ) → weak_mask cs card mask ≡ false → try_mask cs card number mask ≡ None
  unfolding try_mask
  try_kept mask e = rw e

  try_nothing : (mask : ℕ) → mask < 2 ^ length card → (try_mask cs card number mask ≡ None) ↔ (¬ (Breaks cs card mask))
  unfolding try_mask
  try_nothing mask l = go (weak_mask cs card mask) (weak_breaks cs card mask l) (breaks_weak cs card mask)
    where
      go : (w : Bool) → (w ≡ true → Breaks cs card mask) → (Breaks cs card mask → w ≡ true)
          → (cond w (weak_at number mask) None ≡ None) ↔ (¬ (Breaks cs card mask))
      go true p q = (λ h. let z : ◌≡◌ {A = ℕ} 0 1 = cc in absurd (omega arith), λ k. absurd (k (p refl)))
      go false p q = (λ h k. let e = q k in let z : ◌≡◌ {A = ℕ} 0 1 = cc in omega arith, λ k. refl)

  try_at : (mask n m : ℕ) → mask < 2 ^ length card
      → (try_mask cs card number mask ≡ weak_at n m) ↔ ((n ≡ number) × (m ≡ mask) × Breaks cs card mask)
  unfolding try_mask
  try_at mask n m l = go (weak_mask cs card mask) (weak_breaks cs card mask l) (breaks_weak cs card mask)
    where
      go : (w : Bool) → (w ≡ true → Breaks cs card mask) → (Breaks cs card mask → w ≡ true)
          → (cond w (weak_at number mask) None ≡ weak_at n m) ↔ ((n ≡ number) × (m ≡ mask) × Breaks cs card mask)
      go true p q = (λ h. (sym (ap told_card h), sym (ap told_mask h), p refl), λ k. let e = k.0 in let f = k.1 in cc)
      go false p q = (
        λ h. let z : ◌≡◌ {A = ℕ} 0 1 = cc in absurd (omega arith),
        λ k. let e = q k.2 in let z : ◌≡◌ {A = ℕ} 0 1 = cc in absurd (omega arith),
      )

  -- ---- all masks of a card

  pub masks_nothing : (weak_mask_in cs card number ≡ None) ↔ ((mask : ℕ) → ¬ (Breaks cs card mask))
  unfolding weak_mask_in
  masks_nothing =
      let all = nothing-found (try_mask cs card number) (2 ^ length card) in (
        λ h mask k. (try_nothing mask k.inside).0 (all.0 h mask k.inside) k,
        λ h. all.1 (λ mask l. (try_nothing mask l).1 (h mask)),
      )

  pub masks_at : (n mask : ℕ)
      → (weak_mask_in cs card number ≡ weak_at n mask) ↔ ((n ≡ number) × Breaks cs card mask × ((m : ℕ) → m < mask → ¬ (Breaks cs card m)))
  unfolding weak_mask_in
  masks_at n mask = (
    λ h.
        let r = (something_found (try_mask cs card number) (2 ^ length card) n mask).0 h in
        let w = (try_at r.i n mask (omega arith)).0 r.here in
        let e = w.1 in
        (w.0, rw e w.2, λ m l k. (try_nothing m k.inside).0 (r.before m zero-le (omega arith)) k),
    λ k.
        (something_found (try_mask cs card number) (2 ^ length card) n mask).1 (record {
          i = mask;
          low = zero-le;
          high = let u = k.1.inside in omega arith;
          here = (try_at mask n mask k.1.inside).1 (k.0, refl, k.1);
          before = λ m z l. let u = k.1.inside in (try_nothing m (omega arith)).1 (k.2 m l);
        }),
  )
