-- The two rows of writing under the n columns. Assumes nothing.
use mathlib.Core.Path.{◌≡◌}
use mathlib.Core.Bool.{true, false}
use mathlib.Core.List.{List}
use Prim.Native.Nat.{ℕ}
use Rattle.code.specs.Opened.{only}
use Rattle.word.specs.Word.{strays}
use Rattle.writing.specs.Writing.{checks_of, refused_writing, write_in}

module _ (cs : List ℕ) (k bits : ℕ) where
  pub write_stray : strays k bits ≡ true → write_in cs k bits ≡ refused_writing (only 7)
  unfolding write_in
  write_stray h = simp h

  pub write_checks : strays k bits ≡ false → write_in cs k bits ≡ record { number = 0; told = 0; check = checks_of cs k bits }
  unfolding write_in
  write_checks h = simp h
