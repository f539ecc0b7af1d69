-- Laws of a text written into a list from a place on. Assumes nothing.
use mathlib.Core.Path.{◌≡◌, refl, sym, ap, ap₂, ◌∙◌}
use mathlib.Core.List.{List, [], ◌∷◌, ◌++◌}
use Prim.Native.Nat.{ℕ, ◌+◌, ◌≤◌, ◌<◌}
use native.Mathlib.Numerals.{add-one}
use native.Mathlib.Omega.{arith}
use lib.ListN.{length, drop, set, length-append}
use lib.Seq.{set_split, drop-drop, length-take-le}
use Rattle.record.specs.Run.{over, over_from}
use Rattle.runs.proofs.Over.{from-over, from-from}
use Rattle.report.specs.Text.{written, Held}

-- what a function that writes a text answers, and leaves behind
abbrev pub Puts : ℕ → List ℕ → List ℕ → ℕ → List ℕ → Type 0
Puts at text d end out = (end ≡ at + length text) × (out ≡ written at text d)

pub set-written : (d : List ℕ) (at v : ℕ) → at < length d → set d at v ≡ written at (v ∷ []) d
unfolding written
set-written d at v h = rw (drop-drop 1 at d, add-one at) (set_split d at v h)

-- behind a front
pub written_over : (p text d : List ℕ) (at : ℕ) → length p ≡ at → written at text (over p d) ≡ over (p ++ text) d
unfolding written
written_over p text d at e = from-over p text d at e

-- two texts, one behind the other, are one
pub both : (at mid end : ℕ) (s t d between out : List ℕ) → at + length s ≤ length d → Puts at s d mid between
    → Puts mid t between end out → Puts at (s ++ t) d end out
unfolding written
both at mid end s t d between out h p q = (
  simp length-append (omega arith),
  q.1 ∙ ap₂ (λ (m : ℕ) (l : List ℕ). over_from m t l) p.0 p.1 ∙ from-from at (length s) s t d refl (omega arith),
)

-- a text at the front, which can be lent on
pub fronted : (n : ℕ) (text d out : List ℕ) → n ≡ length text → out ≡ over text d → (n ≡ length text) × ((out ≡ over text d) × Held n out)
fronted n text d out e f =
    let h : n ≤ length out = omega (arith, ap length f, length-append text (drop (length text) d)) in
    (e, (f, (h, sym (length-take-le n out h))))

-- what is written from the first byte on stands at the front
pub written-front : (n : ℕ) (text d out : List ℕ) → Puts 0 text d n out → (n ≡ length text) × ((out ≡ over text d) × Held n out)
unfolding written
written-front n text d out p = fronted n text d out (omega (arith, p.0)) p.1
