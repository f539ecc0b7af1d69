-- What the program prints: document 01, the last item of "The sample code, worked". A character is its ASCII code. Assumes nothing.
use Rattle.std.specs.Prelude.{cond, ◌≡◌, List, [], ◌∷◌, ◌++◌, ℕ, zero, suc, ◌+◌, ◌-◌, ◌*◌, ◌/◌, ◌%◌, ◌≤◌, ltb, eqb, length, take}
use Prim.Native.Char.{code}
use Prim.Native.String.{String, [] as nil, ◌∷◌ as cons}
use Rattle.record.specs.Layout.{data_size, entry_size, entry_in}
use Rattle.record.specs.Run.{gather, over_from}
use Rattle.report.specs.declared.Totals.{Totals}

-- the character of a digit
abbrev pub digit : ℕ → ℕ
digit d = code "0" + d

-- n in decimal, with no more than `more` digits before the last; all its digits
unfoldable pub decimal_in : ℕ → ℕ → List ℕ
decimal_in zero n = digit (n % 10) ∷ []
decimal_in (suc more) n = cond (ltb n 10) (digit n ∷ []) (decimal_in more (n / 10) ++ (digit (n % 10) ∷ []))

unfoldable pub decimal_of : ℕ → List ℕ
decimal_of n = decimal_in n n

-- what digits say, read from the left behind digits that say a
unfoldable pub said_from : ℕ → List ℕ → ℕ
said_from a [] = a
said_from a (d ∷ ds) = said_from (a * 10 + (d - digit 0)) ds

-- the codes of a text's characters
unfoldable pub codes : String → List ℕ
codes nil = []
codes (cons c s) = code c ∷ codes s

-- where a number goes in a text
abbrev pub hole : ℕ
hole = code "#"

-- a text with the numbers, in decimal, in the places of its holes, in order
unfoldable pub filled : List ℕ → List ℕ → List ℕ
filled [] ns = []
filled (c ∷ t) [] = c ∷ filled t []
filled (c ∷ t) (n ∷ ns) = cond (eqb c hole) (decimal_of n ++ filled t ns) (c ∷ filled t (n ∷ ns))

-- how many holes a text has
unfoldable pub holes_in : List ℕ → ℕ
holes_in [] = 0
holes_in (c ∷ t) = cond (eqb c hole) (suc (holes_in t)) (holes_in t)

-- d with the text from the place `at` on
unfoldable pub written : ℕ → List ℕ → List ℕ → List ℕ
written at text d = over_from at text d

-- n bytes stand at the start of d; the second part follows from the first, and saves a caller who lends them on a proof
abbrev pub Held : ℕ → List ℕ → Type 0
Held n d = (n ≤ length d) × (n ≡ length (take n d))

-- ---- an entry: record, verdict, place, syndrome

unfoldable pub entry_line : ℕ → ℕ → ℕ → ℕ → List ℕ
entry_line n verdict place syndrome = filled (codes "# # # #\n") (n ∷ verdict ∷ place ∷ syndrome ∷ [])

-- the line of an entry's bytes, and the lines of a whole journal
unfoldable pub line_of : List ℕ → List ℕ
line_of bytes =
    let e = entry_in data_size bytes in
    entry_line e.number e.verdict e.place e.syndrome

unfoldable pub journal_text : List ℕ → List ℕ
journal_text journal = gather (entry_size data_size) (λ i. line_of) journal (length journal / entry_size data_size)

-- a line has at most 5, 3, 3 and 5 digits, each with a character after it
abbrev pub line_size : ℕ
line_size = 20

-- ---- the tally, and a refusal

unfoldable pub tally_text : Totals → List ℕ
tally_text t =
    filled (codes "clean # data # check # even # odd # stray #\n") (t.clean ∷ t.«data» ∷ t.check ∷ t.even ∷ t.odd ∷ t.stray ∷ [])

unfoldable pub refused_text : ℕ → List ℕ
refused_text n = filled (codes "refused #\n") (n ∷ [])
