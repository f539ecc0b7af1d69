-- The numbers of what refuses a pass before its records are looked at: rows 12, 14, 17 and 16 of "When the desk says no". Assumes nothing.
use Rattle.std.specs.Prelude.{ℕ, Result, Ok, Err}
use Rattle.asked.specs.declared.Misasked.{Misasked}
use Rattle.asked.specs.declared.Misasked.TheVariants.{NoImage, NoRun, Overfull, Backdated}

abbrev pub number_of : Misasked → ℕ
number_of NoImage = 12
number_of NoRun = 14
number_of Overfull = 17
number_of Backdated = 16

-- 0 where nothing does
abbrev pub number_in : Result Unit Misasked → ℕ
number_in (Ok u) = 0
number_in (Err m) = number_of m
