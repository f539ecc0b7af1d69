-- RECOVERED EXACTLY: the word handed back is the proper word within reach, where there is one; there is never a second. Under sound
-- columns, over any family, any k and any r; words are numbers of n places. Assumes nothing.
use mathlib.Core.Path.{◌≡◌, refl, sym, ap, ◌∙◌}
use mathlib.Core.Logic.{◌↔◌}
use mathlib.Core.Bool.{Bool, true, false, true≢false}
use mathlib.Core.List.Memᴰ
use mathlib.Core.List.{List, [], ◌∷◌, Memᴰ}
use Prim.Native.Nat.{ℕ, ◌^◌, ◌≤◌, ◌<◌}
use native.Mathlib.Omega.{arith}
use lib.ListN.{length}
use Rattle.parity.specs.Odd.{odd_in}
use Rattle.columns.specs.Sound.{Sound}
use Rattle.word.specs.declared.Word.{Word}
use Rattle.word.specs.Word.{in_parts}
use Rattle.explained.proofs.Explanations.{clean_exactly}
use Rattle.std.proofs.Common.{Option, Some, None}
use Rattle.reach.specs.Places.{wrong_places}
use Rattle.reach.proofs.Places.{right-places}
use Rattle.recover.specs.Recover.{flips_beside, proper_words, first_of}
use Rattle.recovered.specs.Within.{Within}
use Rattle.recovered.proofs.Distance.{distance}
use Rattle.recovered.proofs.Outside.{differs_both}
use Rattle.recovered.proofs.Reached.{reached-in, in-reached}

-- whether a word was reached, and which
abbrev some : Option Word → Bool
some None = false
some (Some w) = true

abbrev held : Option Word → Word
held None = record { low = 0; high = 0; check = 0 }
held (Some w) = w

module _ (rows : ℕ) {cs : List ℕ} {k r : ℕ} (sound : Sound (odd_in rows) cs k r) (w : ℕ) (bad : List ℕ)
    (fits : w < 2 ^ length cs) (right : wrong_places (length cs) bad ≡ false) where
  few : length bad ≤ 3
  few = (right-places (length cs) bad right).0

  inside : k ≤ length cs
  inside = omega (arith, sound.size)

  -- ONE AT MOST
  pub within_once : (u v : ℕ) → Within rows cs k w bad u → Within rows cs k w bad v → u ≡ v
  within_once u v a b =
      distance sound.good sound.parity u v a.fits b.fits ((clean_exactly rows cs k u inside a.fits).0 a.proper)
      ((clean_exactly rows cs k v inside b.fits).0 b.proper)
      (omega (arith, differs_both (length cs) bad u v w, a.near, b.near, few))

  within_in : (u : ℕ) → Memᴰ u (proper_words rows cs k w bad) → Within rows cs k w bad u
  within_in u m =
      let x = reached-in rows cs k (flips_beside (length bad)) w bad fits (right-places (length cs) bad right).1 u m in
      record { fits = x.0; proper = x.1; near = x.2 }

  in_within : (u : ℕ) → Within rows cs k w bad u → Memᴰ u (proper_words rows cs k w bad)
  in_within u a =
      in-reached rows cs k (flips_beside (length bad)) (omega arith) w bad fits (right-places (length cs) bad right).1 u a.fits
      a.proper a.near

  abbrev pub found : Option Word
  found = first_of k (proper_words rows cs k w bad)

  -- WHERE THERE IS ONE, it is found
  pub within-found : (u : ℕ) → Within rows cs k w bad u → found ≡ Some (in_parts k u)
  within-found u a = go (proper_words rows cs k w bad) within_in (in_within u a)
    where
      go : (l : List ℕ) → ((v : ℕ) → Memᴰ v l → Within rows cs k w bad v) → Memᴰ u l → first_of k l ≡ Some (in_parts k u)
      go [] all m = absurd (Memᴰ.not-nil m)
      go (v ∷ l) all m = ap (λ (x : ℕ). Some (in_parts k x)) (within_once v u (all v (Memᴰ.head refl)) a)

  -- what is found is one
  pub found_within : (x : Word) → found ≡ Some x → (u : ℕ) × Within rows cs k w bad u × (x ≡ in_parts k u)
  found_within x = go (proper_words rows cs k w bad) within_in
    where
      go : (l : List ℕ) → ((v : ℕ) → Memᴰ v l → Within rows cs k w bad v) → first_of k l ≡ Some x
          → (u : ℕ) × Within rows cs k w bad u × (x ≡ in_parts k u)
      go [] all e = absurd (true≢false (sym (ap some e)))
      go (v ∷ l) all e = (v, all v (Memᴰ.head refl), sym (ap held e))

  -- NOTHING exactly where there is none
  pub none_found : ((u : ℕ) → ¬ (Within rows cs k w bad u)) ↔ (found ≡ None)
  none_found = (none (proper_words rows cs k w bad) within_in, λ e u a. true≢false (sym (ap some (sym e ∙ within-found u a))))
    where
      none : (l : List ℕ) → ((v : ℕ) → Memᴰ v l → Within rows cs k w bad v) → ((u : ℕ) → ¬ (Within rows cs k w bad u))
          → first_of k l ≡ None
      none [] all h = refl
      none (v ∷ l) all h = absurd (h v (all v (Memᴰ.head refl)))
