-- Entries read back from a journal in two parts, from journals that agree on them, and with their stamps set aside. Assumes nothing.
use mathlib.Core.Path.{◌≡◌, refl, ap, ap₂, ◌∙◌}
use mathlib.Core.Bool.{Bool, true, false, cond}
use mathlib.Core.List.{List, [], ◌∷◌, ◌++◌, map, map-append}
use Prim.Native.Nat.{ℕ, zero, suc, ◌+◌, ◌-◌, ◌<◌}
use native.Mathlib.Nat.{add-zero, zero-add}
use native.Mathlib.Omega.{arith}
use lib.Dec.{eqb}
use Rattle.record.specs.Layout.{record_size, entry_size, Entry, entry_in}
use Rattle.record.specs.Run.{record_at, gather, from_record}
use Rattle.record.specs.Journal.{noted, entries_from}
use Rattle.at_record.specs.Outcome.{Reader, verdict_of, entry_of}
use Rattle.pass.specs.Pass.{noted_run}
use Rattle.orders.specs.Orders.{unstamped}

module _ (d : ℕ) where
  pub entries-split : (journal : List ℕ) (m n k : ℕ)
      → entries_from d journal m (n + k) ≡ entries_from d journal m n ++ entries_from d journal (m + n) k
  unfolding entries_from
  entries-split journal m zero k = rw (zero-add k, add-zero m)
  entries-split journal m (suc n) k =
      let e : suc n + k ≡ suc (n + k) = omega arith in
      let h : suc m + n ≡ m + suc n = omega arith in
      ap (entries_from d journal m) e
      ∙ ap (λ l. entry_in d (record_at (entry_size d) journal m) ∷ l)
      (entries-split journal (suc m) n k ∙ ap (λ j. entries_from d journal (suc m) n ++ entries_from d journal j k) h)

  pub entries_alike : (j l : List ℕ) (m n : ℕ)
      → ((i : ℕ) → i < n → record_at (entry_size d) j (m + i) ≡ record_at (entry_size d) l (m + i)) → entries_from d j m n ≡ entries_from d l m n
  unfolding entries_from
  entries_alike j l m zero h = refl
  entries_alike j l m (suc n) h =
      ap₂ (λ x xs. entry_in d x ∷ xs)
      (ap (record_at (entry_size d) j) (zero_right m) ∙ h 0 (omega arith) ∙ ap (record_at (entry_size d) l) (add-zero m))
      (entries_alike j l (suc m) n (λ i b.
      let e : suc m + i ≡ m + suc i = omega arith in
      ap (record_at (entry_size d) j) e ∙ h (suc i) (omega arith) ∙ ap (record_at (entry_size d) l) (back e)))
    where
      zero_right : (k : ℕ) → k ≡ k + 0
      zero_right k = omega arith

      back : {x y : ℕ} → x ≡ y → y ≡ x
      back e = omega arith

-- ---- stamps set aside

map-gather : {X Y : Type 0} (g : X → Y) (size : ℕ) (h : ℕ → List ℕ → List X) (run : List ℕ) (k : ℕ)
    → map g (gather size h run k) ≡ gather size (λ i rec. map g (h i rec)) run k
unfolding gather
map-gather g size h run zero = refl
map-gather g size h run (suc k) =
    map-append g (gather size h run k) (h k (record_at size run k))
    ∙ ap (λ l. l ++ map g (h k (record_at size run k))) (map-gather g size h run k)

-- the entries of a run are the same but for the pass's stamp
pub noted-unstamped : (f : Reader) (stamp : ℕ) (image : List ℕ) (a b : ℕ)
    → map unstamped (noted_run f stamp image a b) ≡ noted_run f 0 image a b
unfolding noted entry_of
noted-unstamped f stamp image a b =
    let size = record_size f.d in
    let run = from_record size a image in
    map-gather unstamped size (λ i. noted (verdict_of f) (entry_of f stamp) (a + i)) run (b - a)
    ∙ ap (λ (h : ℕ → List ℕ → List Entry). gather size h run (b - a)) (λ j i rec. one i rec j)
  where
    one : (i : ℕ) (rec : List ℕ)
        → map unstamped (noted (verdict_of f) (entry_of f stamp) (a + i) rec) ≡ noted (verdict_of f) (entry_of f 0) (a + i) rec
    one i rec = go (eqb (verdict_of f rec) 0)
      where
        go : (c : Bool) → map unstamped (cond c [] (entry_of f stamp (a + i) rec ∷ [])) ≡ cond c [] (entry_of f 0 (a + i) rec ∷ [])
        go true = refl
        go false = refl
