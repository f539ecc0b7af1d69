-- Which entries a run has: that of each record which is not clean, and no other. Assumes nothing.
use mathlib.Core.Path.{◌≡◌, refl, ap, subst, ◌∙◌}
use mathlib.Core.Bool.{Bool, true, false, cond}
use mathlib.Core.Logic.{◌≢◌, ◌⊎◌, inl, inr}
use mathlib.Core.List.Memᴰ
use mathlib.Core.List.{List, [], ◌∷◌, ◌++◌, Memᴰ}
use Prim.Native.Nat.{ℕ, zero, suc, ◌+◌, ◌-◌, ◌≤◌, ◌<◌}
use native.Mathlib.Decide.{dec_lt}
use native.Mathlib.Nat.{not-suc-le-zero}
use native.Mathlib.Omega.{arith}
use borrow.Author.Tests.{eqb-false, ne_eqb}
use lib.Dec.{eqb}
use Rattle.record.specs.Layout.{record_size, Entry}
use Rattle.record.specs.Run.{record_at, gather, from_record}
use Rattle.record.specs.Journal.{noted}
use Rattle.runs.proofs.Run.{record_drop}
use Rattle.at_record.specs.Outcome.{Reader, verdict_of, entry_of}
use Rattle.pass.specs.Pass.{noted_run}

module _ {X : Type 0} (size : ℕ) (g : ℕ → List ℕ → List X) (run : List ℕ) (x : X) where
  gather_has : (k j : ℕ) → j < k → Memᴰ x (g j (record_at size run j)) → Memᴰ x (gather size g run k)
  unfolding gather
  gather_has zero j l m = absurd (not-suc-le-zero l)
  gather_has (suc k) j l m =
      elim (dec_lt j k) as (λ d. Memᴰ x (gather size g run k ++ g k (record_at size run k))) [
        | yes u ↦ Memᴰ.append_left (g k (record_at size run k)) (gather_has k j u m)
        | no u ↦
            let e : j ≡ k = omega arith in
            Memᴰ.append_right (gather size g run k) (subst (λ n. Memᴰ x (g n (record_at size run n))) e m)
      ]

  gather_whose : (k : ℕ) → Memᴰ x (gather size g run k) → (j : ℕ) × (j < k) × Memᴰ x (g j (record_at size run j))
  unfolding gather
  gather_whose zero m = absurd (Memᴰ.not-nil m)
  gather_whose (suc k) m = go (gather_whose k) (Memᴰ.append_cases (gather size g run k) m)
    where
      go : (Memᴰ x (gather size g run k) → (j : ℕ) × (j < k) × Memᴰ x (g j (record_at size run j)))
          → Memᴰ x (gather size g run k) ⊎ Memᴰ x (g k (record_at size run k))
          → (j : ℕ) × (j < suc k) × Memᴰ x (g j (record_at size run j))
      go ih (inl u) = let w = ih u in (w.0, omega (arith, w.1), w.2)
      go ih (inr u) = (k, omega arith, u)

module _ (f : Reader) (stamp : ℕ) where
  one_has : (n : ℕ) (rec : List ℕ) → verdict_of f rec ≢ 0
      → Memᴰ (entry_of f stamp n rec) (noted (verdict_of f) (entry_of f stamp) n rec)
  unfolding noted
  one_has n rec v = rw (ne_eqb (verdict_of f rec) 0 v) (Memᴰ.head refl)

  one_whose : (n : ℕ) (rec : List ℕ) (e : Entry) → Memᴰ e (noted (verdict_of f) (entry_of f stamp) n rec)
      → (verdict_of f rec ≢ 0) × (e ≡ entry_of f stamp n rec)
  unfolding noted
  one_whose n rec e = go (eqb (verdict_of f rec) 0) refl
    where
      go : (c : Bool) → eqb (verdict_of f rec) 0 ≡ c → Memᴰ e (cond c [] (entry_of f stamp n rec ∷ []))
          → (verdict_of f rec ≢ 0) × (e ≡ entry_of f stamp n rec)
      go true h m = absurd (Memᴰ.not-nil m)
      go false h m = (eqb-false (verdict_of f rec) 0 h, Memᴰ.eq_of_singleton m)

  module _ (image : List ℕ) (a b : ℕ) where
    abbrev size : ℕ
    size = record_size f.d

    abbrev says : ℕ → List ℕ → List Entry
    says j = noted (verdict_of f) (entry_of f stamp) (a + j)

    -- a record of the run that is not clean
    pub run-has : (i : ℕ) → a ≤ i → i < b → verdict_of f (record_at size image i) ≢ 0
        → Memᴰ (entry_of f stamp i (record_at size image i)) (noted_run f stamp image a b)
    run-has i l u v =
        let e : a + (i - a) ≡ i = omega arith in
        let here : record_at size (from_record size a image) (i - a) ≡ record_at size image i =
        record_drop size image a (i - a) ∙ ap (record_at size image) e in
        gather_has size says (from_record size a image) (entry_of f stamp i (record_at size image i)) (b - a) (i - a) (omega arith)
        (rw (here, e) (one_has i (record_at size image i) v))

    -- and each entry is that of such a record
    pub run-whose : (e : Entry) → Memᴰ e (noted_run f stamp image a b)
        → (i : ℕ) × (verdict_of f (record_at size image i) ≢ 0) × (e ≡ entry_of f stamp i (record_at size image i))
    run-whose e m =
        let w = gather_whose size says (from_record size a image) e (b - a) m in
        let here = record_drop size image a w.0 in
        let o = one_whose (a + w.0) (record_at size (from_record size a image) w.0) e w.2 in
        (a + w.0, λ z. o.0 (ap (verdict_of f) here ∙ z), o.1 ∙ ap (entry_of f stamp (a + w.0)) here)
