-- What stray data is answered, in plain numbers. Assumes nothing.
use mathlib.Core.Path.{◌≡◌}
use mathlib.Core.List.{List}
use Prim.Native.Nat.{ℕ, ◌^◌, ◌≤◌}
use borrow.Author.Tests.{le-leb}
use Rattle.writing.specs.Writing.{write_in}

-- it is refused by 7, and zeros are handed back
pub stray_unwritten : (cs : List ℕ) (k bits : ℕ) → 2 ^ k ≤ bits → write_in cs k bits ≡ record { number = 7; told = 0; check = 0 }
unfolding write_in
stray_unwritten cs k bits h = simp (le-leb (2 ^ k) bits h)
