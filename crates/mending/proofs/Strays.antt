-- A word of n places, k of them data: whether it has a stray bit, said of its bits; without one it is a number of n digits.
-- Assumes nothing.
use mathlib.Core.Path.{◌≡◌, refl}
use mathlib.Core.Logic.{◌⊎◌, inl, inr, ⊎_elim}
use mathlib.Core.Bool.{Bool, true, false, ◌||◌, or-true, true≢false}
use Prim.Native.Nat.{ℕ, ◌+◌, ◌-◌, ◌^◌, ◌≤◌, ◌<◌}
use native.Mathlib.Omega.{arith}
use borrow.Author.Tests.{le-leb, lt-leb, leb-true, leb-false}
use Rattle.word.specs.declared.Word.{Word}
use Rattle.word.specs.Word.{joined, as_number, strays, stray_in}
use Rattle.word.proofs.Strays.{data_fits}
use Rattle.mending.proofs.Parts.{word_fits}

module _ (n k : ℕ) (word : Word) where
  pub stray_of : (2 ^ k ≤ joined word.low word.high) ⊎ (2 ^ (n - k) ≤ word.check) → stray_in n k word ≡ true
  stray_of =
      ⊎_elim
      (λ h. rw (le-leb (2 ^ k) (joined word.low word.high) h))
      (λ h. rw (le-leb (2 ^ (n - k)) word.check h) (or-true (strays k (joined word.low word.high))))

  pub no_stray : joined word.low word.high < 2 ^ k → word.check < 2 ^ (n - k) → stray_in n k word ≡ false
  no_stray l h = rw (lt-leb (2 ^ k) (joined word.low word.high) l, lt-leb (2 ^ (n - k)) word.check h)

  -- what the test says
  pub stray_bit : stray_in n k word ≡ true → (2 ^ k ≤ joined word.low word.high) ⊎ (2 ^ (n - k) ≤ word.check)
  stray_bit = go (strays k (joined word.low word.high)) refl
    where
      go : (a : Bool) → strays k (joined word.low word.high) ≡ a → (a || strays (n - k) word.check) ≡ true
          → (2 ^ k ≤ joined word.low word.high) ⊎ (2 ^ (n - k) ≤ word.check)
      go true e h = inl (leb-true (2 ^ k) (joined word.low word.high) e)
      go false e h = inr (leb-true (2 ^ (n - k)) word.check h)

  pub check_fits : stray_in n k word ≡ false → word.check < 2 ^ (n - k)
  check_fits = go (strays k (joined word.low word.high))
    where
      go : (a : Bool) → (a || strays (n - k) word.check) ≡ false → word.check < 2 ^ (n - k)
      go true h = absurd (true≢false h)
      go false h = leb-false (2 ^ (n - k)) word.check h

  -- as one number it is one of n places
  pub number_fits : k ≤ n → stray_in n k word ≡ false → as_number k word < 2 ^ n
  number_fits l h =
      let e : k + (n - k) ≡ n = omega arith in
      rw e at (word_fits k (n - k) (joined word.low word.high) word.check (data_fits n k word h) (check_fits h))
