-- Which half of a word a flip is in. Assumes nothing.
use mathlib.Core.Path.{◌≡◌}
use Prim.Native.Nat.{ℕ, ◌-◌, ◌≤◌, ◌<◌}
use borrow.Author.Tests.{lt-ltb, le-ltb}
use Rattle.columns.specs.Mix.{flipped}
use Rattle.word.specs.declared.Word.{Word}
use Rattle.word.specs.Word.{flipped_in}

module _ (k p : ℕ) (w : Word) where
  pub flipped_check : k ≤ p → flipped_in k p w ≡ record { low = w.low; high = w.high; check = flipped w.check (p - k) }
  unfolding flipped_in
  flipped_check h = simp (le-ltb p k h)

  pub flipped-low : p < k → p < 64 → flipped_in k p w ≡ record { low = flipped w.low p; high = w.high; check = w.check }
  unfolding flipped_in
  flipped-low h l = simp (lt-ltb p k h, lt-ltb p 64 l)

  pub flipped-high : p < k → 64 ≤ p → flipped_in k p w ≡ record { low = w.low; high = flipped w.high (p - 64); check = w.check }
  unfolding flipped_in
  flipped-high h l = simp (lt-ltb p k h, le-ltb p 64 l)
