-- A figure less itself is zero exactly where the figure is finite. Assumes nothing.
use mathlib.Core.Path.{◌≡◌, refl, sym, ap, ◌∙◌}
use mathlib.Core.Bool.{Bool, true, false, not}
use Prim.Native.Nat.{ℕ, ◌*◌, ◌<◌}
use native.Mathlib.Nat.{le_refl, mul-pos, zero-mul, sub_self, zero-lt-suc}
use borrow.Author.Tests.{le-ltb}
use lib.IntN.{pos}
use lib.Ieee.{Float, nan, inf, fin, binary64, up, down, round, sum, sub, eq, of_bits}
use lib.Ieee.Fits.{down_pos}
use lib.Ieee.Scale.{finite, round_same}
use Rattle.sheet.specs.Sheets.{zero_figure}

-- nothing, whatever it is divided by, rounds to plus zero
pub round-zero : (c : ℕ) → 0 < c → round binary64 false 0 c ≡ fin false 0 (pos 0)
unfolding round
round-zero c h = round_same binary64 false 0 c 0 1 h (zero-lt-suc 0) (zero-mul 1 ∙ sym (zero-mul c)) ∙ refl

-- equal sizes of unlike signs
cancels : (s : Bool) (a c : ℕ) → 0 < c → sum binary64 s a (not s) a c ≡ fin false 0 (pos 0)
unfolding sum
cancels true a c h = rw (le-ltb a a (le_refl a), sub_self a) (round-zero c h)
cancels false a c h = rw (le-ltb a a (le_refl a), sub_self a) (round-zero c h)

pub less_itself : (x : Float) → eq (sub binary64 x x) zero_figure ≡ finite x
unfolding sub eq of_bits
less_itself nan = refl
less_itself (inf true) = refl
less_itself (inf false) = refl
less_itself (fin s m e) =
    ap (λ (y : Float). eq y zero_figure) (cancels s (m * up e * down e) (down e * down e) (mul-pos (down_pos e) (down_pos e)))
