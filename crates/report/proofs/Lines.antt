-- How long each text is, and the lines of a journal. Assumes nothing.
use mathlib.Core.Path.{◌≡◌, sym, ap, ap₂, ◌∙◌}
use mathlib.Core.List.{List, ◌++◌}
use Prim.Native.Nat.{ℕ, zero, suc, ◌+◌, ◌*◌, ◌/◌, ◌^◌, ◌≤◌, ◌<◌}
use native.Mathlib.Omega.{arith}
use lib.ListN.{length, get_or, take, drop, length-append, length-take, length-drop}
use lib.Seq.{drop_at, take_at, drop-drop}
use Rattle.record.specs.Bytes.{number_of, byte_span, AllBytes}
use Rattle.record.specs.Layout.{stamp_size, number_size, syndrome_size, data_size, entry_size}
use Rattle.record.specs.Run.{record_at, gather, over}
use Rattle.record.proofs.Bytes.{number_fits}
use Rattle.runs.proofs.Numbers.{bytes-part}
use Rattle.runs.proofs.Run.{record_append, gather-step, gather-add, gather_alike}
use Rattle.report.specs.declared.Totals.{Totals}
use Rattle.report.specs.Text.{codes, filled, entry_line, line_of, journal_text, line_size, tally_text, refused_text, written}
use Rattle.report.proofs.Written.{Puts, written_over}
use Rattle.report.proofs.Decimal.{decimal_short}

-- every number of the tally has at most 20 digits
pub tally_short : (t : Totals) → t.clean < 2 ^ 64 → t.«data» < 2 ^ 64 → t.check < 2 ^ 64
    → t.even < 2 ^ 64 → t.odd < 2 ^ 64 → t.stray < 2 ^ 64
    → length (tally_text t) ≤ 158
unfolding tally_text codes filled
tally_short t h₀ h₁ h₂ h₃ h₄ h₅ =
    simp length-append (omega (
      arith,
      decimal_short 19 t.clean (omega arith),
      decimal_short 19 t.«data» (omega arith),
      decimal_short 19 t.check (omega arith),
      decimal_short 19 t.even (omega arith),
      decimal_short 19 t.odd (omega arith),
      decimal_short 19 t.stray (omega arith),
    ))

pub refused_short : (n : ℕ) → n < 2 ^ 64 → length (refused_text n) ≤ 29
unfolding refused_text codes filled
refused_short n h = simp length-append (omega (arith, decimal_short 19 n (omega arith)))

-- ---- an entry

pub entry_short : (n verdict place syndrome : ℕ) → n < 10 ^ 5 → verdict < 10 ^ 3 → place < 10 ^ 3 → syndrome < 10 ^ 5
    → length (entry_line n verdict place syndrome) ≤ line_size
unfolding entry_line codes filled
entry_short n verdict place syndrome h v p y =
    simp length-append
    (omega (arith, decimal_short 4 n h, decimal_short 2 verdict v, decimal_short 2 place p, decimal_short 4 syndrome y))

pub line_short : (entry : List ℕ) → AllBytes entry → length (line_of entry) ≤ line_size
unfolding line_of byte_span
line_short entry h =
    let number : List ℕ = take number_size (drop stamp_size entry) in
    let few : number_of number < byte_span 2 = number_fits 2 number (bytes-part stamp_size 2 entry h) (simp length-take (omega arith)) in
    let at : ℕ = stamp_size + number_size in
    let syndrome : List ℕ = take syndrome_size (drop (at + 2) entry) in
    let thin : number_of syndrome < byte_span 2 = number_fits 2 syndrome (bytes-part (at + 2) 2 entry h) (simp length-take (omega arith)) in
    entry_short (number_of number) (get_or entry at 0) (get_or entry (at + 1) 0) (number_of syndrome)
    (omega arith) (omega (arith, h at)) (omega (arith, h (at + 1))) (omega arith)

pub line_is : (entry : List ℕ) (n syndrome : ℕ) → n ≡ number_of (take number_size (drop stamp_size entry))
    → syndrome ≡ number_of (take syndrome_size (drop (stamp_size + number_size + 2) entry))
    → entry_line n (get_or entry (stamp_size + number_size) 0) (get_or entry (stamp_size + number_size + 1) 0) syndrome ≡ line_of entry
unfolding line_of
line_is entry n syndrome e y = rw (e, y)

-- ---- a journal

-- the lines of the first k entries
abbrev pub lines_to : List ℕ → ℕ → List ℕ
lines_to journal k = gather (entry_size data_size) (λ i. line_of) journal k

pub lines_short : (journal : List ℕ) → AllBytes journal → (k : ℕ) → length (lines_to journal k) ≤ line_size * k
unfolding gather
lines_short journal h zero = omega arith
lines_short journal h (suc k) =
    omega (
      arith,
      length-append (lines_to journal k) (line_of (record_at (entry_size data_size) journal k)),
      lines_short journal h k,
      line_short (record_at (entry_size data_size) journal k) (bytes-part (k * (entry_size data_size)) (entry_size data_size) journal h),
    )

-- the next entry of what is left of a journal behind k of them, and what is left behind that
pub next_entry : (journal entry after : List ℕ) (k size : ℕ) → 0 < size → drop (k * size) journal ≡ entry ++ after → length entry ≡ size
    → (entry ≡ record_at size journal k) × (after ≡ drop ((k + 1) * size) journal) × ((k + 1) * size ≤ length journal)
next_entry journal entry after k size some e long = (
  sym (ap (take size) e ∙ take_at entry after size long),
  sym (drop_at entry after size long) ∙ ap (drop size) (sym e) ∙ drop-drop size (k * size) journal ∙ ap (λ n. drop n journal) (omega arith),
  omega (arith, ap length e, length-drop (k * size) journal, length-append entry after, long),
)

-- one line more
pub lines_step : (journal first out later entry : List ℕ) (i at end : ℕ) → entry ≡ record_at (entry_size data_size) journal i
    → out ≡ over (lines_to journal i) first → at ≡ length (lines_to journal i)
    → Puts at (line_of entry) out end later
    → (later ≡ over (lines_to journal (i + 1)) first) × (end ≡ length (lines_to journal (i + 1)))
lines_step journal first out later entry i at end m e l p =
    let line = line_of (record_at (entry_size data_size) journal i) in
    let q : Puts at line out end later = rw m at p in
    rw (gather-step (entry_size data_size) (λ j. line_of) journal i) (
      q.1 ∙ ap (written at line) e ∙ written_over (lines_to journal i) line first at (sym l),
      omega (arith, q.0, length-append (lines_to journal i) line),
    )

-- the lines of two journals, one behind the other
pub journal_append : (x y : List ℕ) (m : ℕ) → length x ≡ (entry_size data_size) * m → journal_text (x ++ y) ≡ journal_text x ++ journal_text y
unfolding journal_text
journal_append x y m e =
    let n = length y / entry_size data_size in
    let whole : length (x ++ y) / entry_size data_size ≡ m + n = omega (arith, length-append x y) in
    let front : length x / entry_size data_size ≡ m = omega arith in
    rw (whole, front)
    (gather-add (entry_size data_size) (λ i. line_of) (x ++ y) m n
    ∙ ap₂ (λ p q. p ++ q)
    (gather_alike (entry_size data_size) (λ i. line_of) (λ i. line_of) (x ++ y) x m
    (λ i l. ap line_of (record_append (entry_size data_size) x y i (omega arith))))
    (ap (λ r. lines_to r n) (drop_at x y (m * (entry_size data_size)) (omega arith))))
