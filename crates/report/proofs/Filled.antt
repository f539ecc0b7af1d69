-- Laws of a text whose holes are filled with numbers: a character and a number at a time. Assumes nothing.
use mathlib.Core.Path.{◌≡◌, refl, sym, ap, ◌∙◌}
use mathlib.Core.List.{List, [], ◌∷◌, ◌++◌}
use Prim.Native.Nat.{ℕ, suc, ◌+◌, ◌≤◌, ◌<◌}
use native.Mathlib.Nat.{add-zero}
use native.Mathlib.Numerals.{add-one}
use native.Mathlib.Omega.{arith}
use borrow.Author.Tests.{ne_eqb}
use lib.ListN.{length, get_or, drop, set, length-append, length-set, take-append-drop}
use lib.Seq.{drop-cons, drop-length}
use Rattle.report.specs.Text.{hole, decimal_of, filled, holes_in, written}
use Rattle.report.proofs.Written.{Puts, both, set-written}

-- what is left of a text, from the character i and the number k on
abbrev pub rest_of : List ℕ → List ℕ → ℕ → ℕ → List ℕ
rest_of text numbers k i = filled (drop i text) (drop k numbers)

-- once the rest is written too, all of it is
abbrev pub Begun : List ℕ → List ℕ → List ℕ → ℕ → List ℕ → ℕ → ℕ → ℕ → Type 0
Begun text numbers d start out at k i =
    (i ≤ length text) × (k + holes_in (drop i text) ≡ length numbers) × (length out ≡ length d)
    × (at + length (rest_of text numbers k i) ≡ start + length (filled text numbers))
    × (written at (rest_of text numbers k i) out ≡ written start (filled text numbers) d)

filled_char : (c : ℕ) (t ns : List ℕ) → (c ≡ hole → ⊥) → filled (c ∷ t) ns ≡ c ∷ filled t ns
unfolding filled
filled_char c t [] h = refl
filled_char c t (n ∷ ns) h = simp (ne_eqb c hole h)

rest_char : (text numbers : List ℕ) (k i : ℕ) → i < length text → (get_or text i 0 ≡ hole → ⊥)
    → rest_of text numbers k i ≡ get_or text i 0 ∷ rest_of text numbers k (i + 1)
rest_char text numbers k i h n = rw (drop-cons text i 0, add-one i) (filled_char (get_or text i 0) (drop (suc i) text) (drop k numbers) n)

rest-hole : (text numbers : List ℕ) (k i : ℕ) → i < length text → get_or text i 0 ≡ hole → k < length numbers
    → rest_of text numbers k i ≡ decimal_of (get_or numbers k 0) ++ rest_of text numbers (k + 1) (i + 1)
unfolding filled
rest-hole text numbers k i h e g = rw (drop-cons text i 0, e, drop-cons numbers k 0, add-one i, add-one k)

holes_char : (text : List ℕ) (i : ℕ) → i < length text → (get_or text i 0 ≡ hole → ⊥) → holes_in (drop i text) ≡ holes_in (drop (i + 1) text)
unfolding holes_in
holes_char text i h n = rw (drop-cons text i 0, add-one i) (simp (ne_eqb (get_or text i 0) hole n))

holes_hole : (text : List ℕ) (i : ℕ) → i < length text → get_or text i 0 ≡ hole → holes_in (drop i text) ≡ holes_in (drop (i + 1) text) + 1
unfolding holes_in
holes_hole text i h e = rw (drop-cons text i 0, e, add-one i) (omega arith)

-- a piece of the rest is written where the rest begins
piece_written : (whole piece rest d out later : List ℕ) (start at end : ℕ) → at + length piece ≤ length out
    → at + length (piece ++ rest) ≡ start + length whole
    → written at (piece ++ rest) out ≡ written start whole d → Puts at piece out end later
    → (end + length rest ≡ start + length whole) × (written end rest later ≡ written start whole d)
piece_written whole piece rest d out later start at end h l w p = (
  omega (arith, length-append piece rest, p.0),
  (both at end (end + length rest) piece rest out later (written end rest later) h p (refl, refl)).1 ∙ w,
)

-- there is a number for the hole, and room for it
pub hole-room : (text numbers d out : List ℕ) (start at k i : ℕ) → start + length (filled text numbers) ≤ length d
    → Begun text numbers d start out at k i
    → i < length text → get_or text i 0 ≡ hole → (k < length numbers) × (at + length (decimal_of (get_or numbers k 0)) ≤ length out)
hole-room text numbers d out start at k i r b h e =
    let n = decimal_of (get_or numbers k 0) in
    let f : k < length numbers = omega (arith, holes_hole text i h e) in
    (f, omega (arith, ap length (rest-hole text numbers k i h e f), length-append n (rest_of text numbers (k + 1) (i + 1))))

pub hole-filled : (text numbers d out later : List ℕ) (start at end k i : ℕ)
    → start + length (filled text numbers) ≤ length d → Begun text numbers d start out at k i
    → i < length text → get_or text i 0 ≡ hole → length later ≡ length out → Puts at (decimal_of (get_or numbers k 0)) out end later
    → Begun text numbers d start later end (k + 1) (i + 1)
hole-filled text numbers d out later start at end k i r b h e l p =
    let f = hole-room text numbers d out start at k i r b h e in
    let s = rest-hole text numbers k i h e f.0 in
    let q = piece_written (filled text numbers) (decimal_of (get_or numbers k 0))
    (rest_of text numbers (k + 1) (i + 1)) d out later start at end
    f.1 (rw s at b.3) (rw s at b.4) p in
    (omega arith, omega (arith, holes_hole text i h e), l ∙ b.2, q.0, q.1)

pub char_room : (text numbers d out : List ℕ) (start at k i : ℕ) → start + length (filled text numbers) ≤ length d
    → Begun text numbers d start out at k i
    → i < length text → (get_or text i 0 ≡ hole → ⊥) → at < length out
char_room text numbers d out start at k i r b h n = omega (arith, ap length (rest_char text numbers k i h n))

pub char_written : (text numbers d out : List ℕ) (start at k i : ℕ) → start + length (filled text numbers) ≤ length d
    → Begun text numbers d start out at k i
    → i < length text → (get_or text i 0 ≡ hole → ⊥) → Begun text numbers d start (set out at (get_or text i 0)) (at + 1) k (i + 1)
char_written text numbers d out start at k i r b h n =
    let c = get_or text i 0 in
    let f = char_room text numbers d out start at k i r b h n in
    let s = rest_char text numbers k i h n in
    let q = piece_written (filled text numbers) (c ∷ []) (rest_of text numbers k (i + 1)) d out (set out at c) start at (at + 1)
    (omega arith) (rw s at b.3) (rw s at b.4) (refl, set-written out at c f) in
    (omega arith, omega (arith, holes_char text i h n), simp length-set b.2, q.0, q.1)

-- nothing is left
pub all_written : (text numbers d out : List ℕ) (start at k i : ℕ) → Begun text numbers d start out at k i
    → length text ≤ i → Puts start (filled text numbers) d at out
unfolding filled written
all_written text numbers d out start at k i b h =
    let e : i ≡ length text = omega arith in
    let n : drop i text ≡ [] = rw (e, drop-length text) in
    (sym (add-zero at) ∙ rw n at b.3, sym (take-append-drop at out) ∙ rw n at b.4)
