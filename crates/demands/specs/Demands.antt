-- THE DEMANDS: what the desk promises of its exported functions, each a named proposition, proved in proofs/Demands.antt. Numbers, values
-- and words are document 01's. Definitions.antt beside this page and crate editions' Given.antt have the words used here, crate desk's
-- Answers.antt what each function answers. In order: records and entries; the code; writing and reading one word; explanations; cards; the
-- tally; the pass; any order of passes (02's request 113; its words in Orders.antt and in crate orders); station sheets (02's request 107;
-- their words in Sheets.antt); making a code (02's request 101; its words in Making.antt); words of ten bytes (02's request 114; theirs in
-- Bytes.antt); putting back (02's request 104; its words in PutBack.antt); places known to be bad (02's request 112; theirs in Bad.antt).
-- Assumes nothing.
use Rattle.std.specs.Prelude.{◌≡◌, ◌≢◌, ◌⊎◌, ◌↔◌, true, false, cond, ℕ, ◌+◌, ◌-◌, ◌*◌, ◌/◌, ◌%◌, ◌^◌, ◌≤◌, ◌<◌, min, max, eqb, ltb, pos, ◌+ℤ◌, length, get_or, take, drop, Ok, Err}
use mathlib.Core.List.{List, [], ◌∷◌, Memᴰ}
use Rattle.std.specs.Int.Bits.{bit_xor}
use Rattle.std.specs.Int.Count.{ones}
use Rattle.std.specs.Float.Ieee as Ieee
use Rattle.std.specs.Float.{binary64}
use Rattle.std.specs.Float.Ieee.Exact.{HasValue}
use Rattle.std.specs.Float.Ieee.Positive.{num, den}
use Rattle.parity.specs.Odd.{odd_ones}
use Rattle.columns.specs.Mix.{column, flipped}
use Rattle.columns.specs.Bits.{bit_at, row_bit}
use Rattle.code.specs.declared.Code.{Code}
use Rattle.judge.specs.declared.Flaw.TheVariants as flaw
use Rattle.code.specs.Rule.{matrix_of}
use Rattle.judge.specs.Rule.{Sized, Limits, SaysOfCode}
use Rattle.balance.specs.Balance.{row_ones, all_ones, sumℤ}
use Rattle.word.specs.Word.{data_of, check_of}
use Rattle.record.specs.Bytes.{AllBytes}
use Rattle.record.specs.Layout.{data_size, record_size, entry_size, image_limit, record_bytes, data_in, check_in, Entry, entry_bytes, entry_in}
use Rattle.record.specs.Run.{over}
use Rattle.record.specs.Journal.{applied_all}
use Rattle.record.specs.Tally.{tally_by, counted_of}
use Rattle.listing.specs.Sets.{flip_all, entry_of, bytes_for}
use Rattle.explain.specs.Order.{SetOf, InOrder}
use Rattle.cards.specs.Cards.{card_at}
use Rattle.cards.specs.Rule.{CardProof, FirstWeak, flip_mask}
use Rattle.asked.specs.declared.Pass.{Pass}
use Rattle.asked.specs.Pass.{State, pass_over, state_of, stamp_at}
use Rattle.asked.specs.Asked.{Image, NoImage, Run, NoRun, GoesBack, Askable}
use Rattle.passes.specs.Twice.{added, tally_again}
use Rattle.orders.specs.Lists.{Rearranged}
use Rattle.orders.specs.Orders.{Ends, ends_of, InRun, Apart, AllDone, tallies_given, entries_since, SameEntries, LeftClean, Unmended}
use Rattle.sheet.specs.declared.Asked.{Asked}
use Rattle.sheet.specs.Rule.{NoSheet, Stands, Within}
use Rattle.sheets.specs.Nearest.{zero_float, one_float, Held, NearestOnly}
use Rattle.byte_parts.specs.Vectors.{times_t, power_t}
use Rattle.byte_parts.specs.Parts.{byte_at, parts_of}
use Rattle.byte_code.specs.Reading.{byte_number}
use Rattle.byte_errors.specs.Steps.{damaged, NoError, CheckError, DataError, NoStep}
use Rattle.editions.specs.Given.{told, only_number, refused_rows, refused_writing, refused_listing, refused_cards, all_zero, Stamped, back_with}
use Rattle.editions.specs.Given as words
use Rattle.desk.specs.Answers.{check_bits_of, judgement_of, rows_of, written_of, read_of, explained_of, cards_of, passed_of, byte_written, byte_read}
use Rattle.demands.specs.Definitions.{Handed, Stored, Accepted, Refused, data_columns, places_of, Unstrayed, read, HandsBack, Clean}
use Rattle.demands.specs.Definitions.{explanations, explanations_of, refused_reading, cards_for, PassRefused, record_of, entry_bytes_at, room, needed}
use Rattle.demands.specs.Definitions.{read_at, verdict_of, place_for, syndrome_for, answer_of, image_after, journal_after, Done, state_after, Turn, turns_after}
use Rattle.demands.specs.Definitions.{AllStamped, new_entries, count_from}
use Rattle.demands.specs.Sheets.{sheet_for, no_figures}
use Rattle.least.specs.Order.{Before}
use Rattle.desk.specs.Answers.{made_of}
use Rattle.demands.specs.Making.{IsMade, no_code}
use Rattle.demands.specs.Orders.{needed_for_all, RunsApart, InSomeOrder, after_all, as_it_was}
use Rattle.demands.specs.Bytes.{IsByte, Pattern, handing}
use Rattle.demands.specs.PutBack.{answer_back, image_back, from_last, last_back, LastMatch, StopsAt}
use Rattle.recovered.specs.Named.{Repeated, WrongPlaces}
use Rattle.recovered.specs.Stuck.{ReadBack, complement}
use Rattle.desk.specs.Answers.{recovered_of, bad_places_of}
use Rattle.demands.specs.Bad.{recover, given_back, refused_recovered, Recoverable, find_bad, found_in, refused_bad_places}

-- ---- records and entries

-- Records have 10 bytes, entries 30, and an image at most 65,530.
abbrev pub Sizes : Type 0
Sizes = (record_size data_size ≡ 10) × (entry_size data_size ≡ 30) × (image_limit data_size ≡ 65530)

-- A record's bytes say data and check bits, and these the bytes: each word has one record, each record one word.
abbrev pub RecordsRead : Type 0
RecordsRead =
    ((rec : List ℕ) → AllBytes rec → length rec ≡ 10 → record_bytes data_size (data_in data_size rec) (check_in data_size rec) ≡ rec)
    × ((low check : ℕ) → low < 2 ^ 64 → check < 2 ^ 16
    → (data_in data_size (record_bytes data_size low check) ≡ low) × (check_in data_size (record_bytes data_size low check) ≡ check))

-- An entry's bytes say a pass's stamp, a record's number, verdict, place and syndrome and its bytes before and after, and these the bytes.
abbrev pub EntriesRead : Type 0
EntriesRead =
    ((bytes : List ℕ) → AllBytes bytes → length bytes ≡ 30 → entry_bytes (entry_in data_size bytes) ≡ bytes)
    × ((e : Entry) → e.stamp < 2 ^ 32 → e.number < 2 ^ 16 → e.syndrome < 2 ^ 16 → length e.before ≡ 10 → length e.after ≡ 10
    → entry_in data_size (entry_bytes e) ≡ e)

-- ---- the code

-- Accepted exactly: k is 1 to 64, r is 3 to 16, each data column is below 2 ^ r, and of all n columns, check columns included,
-- no two are equal and each has an odd number of ones; and every place past k is 0.
abbrev pub AcceptedExactly : Type 0
AcceptedExactly =
    (code : Code) → Handed code
    → ((judgement_of code).number ≡ 0)
    ↔ (Limits 64 code.k code.r
    × ((i : ℕ) → i < code.k → column (data_columns code) i < 2 ^ code.r)
    × ((p q : ℕ) → p < places_of code → q < places_of code → column (matrix_of code) p ≡ column (matrix_of code) q → p ≡ q)
    × ((p : ℕ) → p < places_of code → odd_ones (column (matrix_of code) p) ≡ 1)
    × ((i : ℕ) → code.k ≤ i → i < 64 → column code.columns i ≡ 0))

-- So each data column has at least three ones.
abbrev pub ThreeOnes : Type 0
ThreeOnes = (code : Code) → Accepted code → (i : ℕ) → i < code.k → 3 ≤ ones (column (data_columns code) i)

-- Refusals 1 to 6 and 21 exactly: each number, told its place, exactly when its row of the table holds and no earlier one; 0 exactly for an
-- accepted code.
abbrev pub JudgedExactly : Type 0
JudgedExactly =
    (code : Code)
    → let says = SaysOfCode 64 code.columns code.k code.r in
    ((judgement_of code ≡ only_number 0) ↔ says (Ok tt))
    × ((judgement_of code ≡ only_number 1) ↔ says (Err flaw.NoData))
    × ((judgement_of code ≡ only_number 2) ↔ says (Err flaw.NoChecks))
    × ((i : ℕ) → (judgement_of code ≡ told 3 i) ↔ says (Err (flaw.TooWide i)))
    × ((i : ℕ) → (judgement_of code ≡ told 4 i) ↔ says (Err (flaw.EvenColumn i)))
    × ((i : ℕ) → (judgement_of code ≡ told 5 i) ↔ says (Err (flaw.SingleOne i)))
    × ((i : ℕ) → (judgement_of code ≡ told 6 i) ↔ says (Err (flaw.Repeated i)))
    × ((i : ℕ) → (judgement_of code ≡ told 21 i) ↔ says (Err (flaw.Leftover i)))

-- Check bits wanted is refused by 1 exactly for k 0 and k over 64, and hands back no bits then.
abbrev pub CheckBitsRefused : Type 0
CheckBitsRefused =
    (k : ℕ) → (((check_bits_of k).number ≡ 1) ↔ ((k ≡ 0) ⊎ (64 < k))) × ((k ≡ 0) ⊎ (64 < k) → check_bits_of k ≡ record { number = 1; bits = 0 })

-- Else it is the smallest r for which an accepted code of k data bits exists: there is one, and every accepted code of k data bits has at
-- least as many.
abbrev pub CheckBitsLeast : Type 0
CheckBitsLeast =
    (k : ℕ) → 1 ≤ k → k ≤ 64
    → ((check_bits_of k).number ≡ 0)
    × ((code : Code) × Stored code × Accepted code × (code.k ≡ k) × (code.r ≡ (check_bits_of k).bits))
    × ((code : Code) → Accepted code → code.k ≡ k → (check_bits_of k).bits ≤ code.r)

-- and that is k ≤ 2 ^ (r - 1) - r: an accepted code of k data bits and r check bits exists just where that holds
abbrev pub CheckBitsRoom : Type 0
CheckBitsRoom =
    (k r : ℕ) → 1 ≤ k → k ≤ 64 → 3 ≤ r → r ≤ 16
    → ((code : Code) × Stored code × Accepted code × (code.k ≡ k) × (code.r ≡ r)) ↔ (k + r ≤ 2 ^ (r - 1))

-- Row balance is refused as the code is: its number and place, and 16 zeros. Else its number is 0, and nothing is told.
abbrev pub BalanceRefuses : Type 0
BalanceRefuses =
    (code : Code)
    → (Refused code → rows_of code ≡ refused_rows (judgement_of code))
    × ((judgement_of code).number ≡ 0 → ((rows_of code).number ≡ 0) × ((rows_of code).told ≡ 0))

-- The balance of row j below r is r times the ones in row j, less all ones of the n columns; from r on it is 0. There are 16 rows.
abbrev pub BalanceRows : Type 0
BalanceRows =
    (code : Code) → Accepted code
    → (length (rows_of code).rows ≡ 16)
    × ((j : ℕ) → j < code.r
    → get_or (rows_of code).rows j (pos 0) +ℤ pos (all_ones (matrix_of code)) ≡ pos (code.r * row_ones (matrix_of code) j))
    × ((j : ℕ) → code.r ≤ j → j < 16 → get_or (rows_of code).rows j (pos 0) ≡ pos 0)

-- The balances of any code add up to 0 (a refused code's are all 0).
abbrev pub BalancesAddUp : Type 0
BalancesAddUp = (code : Code) → Handed code → sumℤ (rows_of code).rows ≡ pos 0

-- ---- writing and reading one word

-- Writing refuses in this order: the code's number and place; 7 exactly for a data bit at k or above.
abbrev pub WritingRefuses : Type 0
WritingRefuses =
    (code : Code) (low : ℕ)
    → (Refused code → written_of code low ≡ refused_writing (judgement_of code))
    × ((judgement_of code).number ≡ 0 → 2 ^ code.k ≤ low → written_of code low ≡ refused_writing (only_number 7))
    × ((judgement_of code).number ≡ 0 → low < 2 ^ code.k → ((written_of code low).number ≡ 0) × ((written_of code low).told ≡ 0))

-- Check bit j of writing is the exclusive or of those data bits whose column has bit j; there are r of them.
abbrev pub WritingBits : Type 0
WritingBits =
    (code : Code) → Accepted code → (low : ℕ) → low < 2 ^ code.k
    → ((j : ℕ) → bit_at (written_of code low).check j ≡ row_bit (data_columns code) low j) × ((written_of code low).check < 2 ^ code.r)

-- Reading refuses in this order: the code's number and place; 7 exactly for a data bit at k or above or a check bit at r or above.
abbrev pub ReadingRefuses : Type 0
ReadingRefuses =
    (code : Code) (low check : ℕ)
    → (Refused code → read_of code low check ≡ refused_reading (judgement_of code))
    × (Accepted code → (2 ^ code.k ≤ low) ⊎ (2 ^ code.r ≤ check) → read_of code low check ≡ refused_reading (only_number 7))
    × (Accepted code → low < 2 ^ code.k → check < 2 ^ code.r → ((read_of code low check).number ≡ 0) × ((read_of code low check).told ≡ 0))

-- A word without stray bits reads clean exactly when writing its data gives its check bits; it is then handed back as read, with place 255.
abbrev pub CleanExactly : Type 0
CleanExactly =
    (code : Code) → Accepted code → (low check : ℕ) → low < 2 ^ code.k → check < 2 ^ code.r
    → ((read_of code low check).verdict ≡ 0) ↔ ((written_of code low).check ≡ check)

abbrev pub CleanAsRead : Type 0
CleanAsRead =
    (code : Code) → Accepted code → (w : ℕ) → Unstrayed code w → Clean code w
    → ((read code w).place ≡ 255) × HandsBack code (read code w) w

-- The table of verdicts, with the syndrome as document 01 has it: the written check bits of the data as read, exclusive-ored with those
-- as read.
abbrev pub VerdictsExactly : Type 0
VerdictsExactly =
    (code : Code) → Accepted code → (low check : ℕ) → low < 2 ^ code.k → check < 2 ^ code.r
    → let s = bit_xor (written_of code low).check check in
    let v = (read_of code low check).verdict in
    ((v ≡ 0) ↔ (s ≡ 0))
    × ((v ≡ 1) ↔ ((p : ℕ) × (p < code.k) × (column (matrix_of code) p ≡ s)))
    × ((v ≡ 2) ↔ ((p : ℕ) × (code.k ≤ p) × (p < places_of code) × (column (matrix_of code) p ≡ s)))
    × ((v ≡ 3) ↔ ((s ≢ 0) × (odd_ones s ≡ 0)))
    × ((v ≡ 4) ↔ ((odd_ones s ≡ 1) × ((p : ℕ) → p < places_of code → column (matrix_of code) p ≢ s)))

-- Verdicts 1 and 2 name the place whose column is the syndrome; the others name none, 255.
abbrev pub PlaceNamed : Type 0
PlaceNamed =
    (code : Code) → Accepted code → (low check : ℕ) → low < 2 ^ code.k → check < 2 ^ code.r
    → let s = bit_xor (written_of code low).check check in
    let a = read_of code low check in
    ((a.verdict ≡ 1) ⊎ (a.verdict ≡ 2) → (a.place < places_of code) × (column (matrix_of code) a.place ≡ s))
    × (a.verdict ≢ 1 → a.verdict ≢ 2 → a.place ≡ 255)

-- The syndrome handed back is document 01's; it is 0 exactly for clean, and for verdicts 1 and 2 the column of the place. (A refused
-- reading hands back 0: `ReadingRefuses`.)
abbrev pub SyndromeTold : Type 0
SyndromeTold =
    (code : Code) → Accepted code → (low check : ℕ) → low < 2 ^ code.k → check < 2 ^ code.r
    → let a = read_of code low check in
    (a.syndrome ≡ bit_xor (written_of code low).check check)
    × ((a.syndrome ≡ 0) ↔ (a.verdict ≡ 0))
    × ((a.verdict ≡ 1) ⊎ (a.verdict ≡ 2) → column (matrix_of code) a.place ≡ a.syndrome)

-- One flipped place of a clean word is found, 1 for a data bit and 2 for a check bit, named, and put right.
abbrev pub OneFlip : Type 0
OneFlip =
    (code : Code) → Accepted code → (w : ℕ) → Unstrayed code w → Clean code w → (p : ℕ) → p < places_of code
    → ((read code (flipped w p)).verdict ≡ cond (ltb p code.k) 1 2)
    × ((read code (flipped w p)).place ≡ p)
    × HandsBack code (read code (flipped w p)) w

-- Two flipped places of a clean word are flagged, and the word is handed back as read.
abbrev pub TwoFlips : Type 0
TwoFlips =
    (code : Code) → Accepted code → (w : ℕ) → Unstrayed code w → Clean code w
    → (p q : ℕ) → p < places_of code → q < places_of code → p ≢ q
    → ((read code (flipped (flipped w p) q)).verdict ≡ 3)
    × ((read code (flipped (flipped w p) q)).place ≡ 255)
    × HandsBack code (read code (flipped (flipped w p) q)) (flipped (flipped w p) q)

-- Verdicts 1 and 2, of any word: the word handed back differs from the word as read in exactly the named place, and reads clean.
abbrev pub MendedClean : Type 0
MendedClean =
    (code : Code) → Accepted code → (w : ℕ) → Unstrayed code w → ((read code w).verdict ≡ 1) ⊎ ((read code w).verdict ≡ 2)
    → ((read code w).place < places_of code)
    × HandsBack code (read code w) (flipped w (read code w).place)
    × Clean code (flipped w (read code w).place)

-- Verdicts 3 and 4, of any word: it is handed back as read, and no single flip would make it clean.
abbrev pub LeftAsRead : Type 0
LeftAsRead =
    (code : Code) → Accepted code → (w : ℕ) → Unstrayed code w → ((read code w).verdict ≡ 3) ⊎ ((read code w).verdict ≡ 4)
    → ((read code w).place ≡ 255)
    × HandsBack code (read code w) w
    × ((p : ℕ) → p < places_of code → ¬ (Clean code (flipped w p)))

-- ---- explanations

-- Explaining refuses in this order: the code's number and place; 7 for a stray bit; 11 for a limit over 2; 10, told the list's length,
-- where that is over half the lent bytes, rounded down. A refusal changes no byte. Else the lent bytes hold the list's entries, then what
-- they held.
abbrev pub ExplainingRefuses : Type 0
ExplainingRefuses =
    (code : Code) (low check limit : ℕ) (list : List ℕ)
    → let a = (explained_of code low check limit list).answer in
    let after = (explained_of code low check limit list).list in
    let sets = explanations_of code low check limit in
    (Refused code → (a ≡ refused_listing (judgement_of code)) × (after ≡ list))
    × (Accepted code → (2 ^ code.k ≤ low) ⊎ (2 ^ code.r ≤ check) → (a ≡ refused_listing (only_number 7)) × (after ≡ list))
    × (Accepted code → low < 2 ^ code.k → check < 2 ^ code.r → 2 < limit → (a ≡ refused_listing (only_number 11)) × (after ≡ list))
    × (Accepted code → low < 2 ^ code.k → check < 2 ^ code.r → limit ≤ 2 → length list / 2 < length sets
    → (a ≡ refused_listing (told 10 (length sets))) × (after ≡ list))
    × (Accepted code → low < 2 ^ code.k → check < 2 ^ code.r → limit ≤ 2 → length sets ≤ length list / 2
    → (a ≡ record { number = 0; told = 0; length = length sets }) × (after ≡ over (bytes_for sets) list))

-- Entry i of a done list is set i: its lower place and its higher, 255 for none. The bytes past the entries stay.
abbrev pub ExplainedEntries : Type 0
ExplainedEntries =
    (code : Code) (low check limit : ℕ) (list : List ℕ) → (explained_of code low check limit list).answer.number ≡ 0 → Accepted code
    → let after = (explained_of code low check limit list).list in
    let sets = explanations_of code low check limit in
    ((i : ℕ) → i < length sets → take 2 (drop (2 * i) after) ≡ entry_of (get_or sets i []))
    × (drop (2 * length sets) after ≡ drop (2 * length sets) list)

-- An entry tells its set, since no place is 255.
abbrev pub EntryTells : Type 0
EntryTells =
    (code : Code) → Accepted code → (ps qs : List ℕ) → SetOf (places_of code) 2 ps → SetOf (places_of code) 2 qs
    → entry_of ps ≡ entry_of qs → ps ≡ qs

-- A set of places stands in the list exactly when it has at most `limit` of the n places and flipping exactly those gives a word that
-- reads clean.
abbrev pub ExplainedExactly : Type 0
ExplainedExactly =
    (code : Code) → Accepted code → (w : ℕ) → Unstrayed code w → (limit : ℕ) (ps : List ℕ)
    → Memᴰ ps (explanations code w limit) ↔ (SetOf (places_of code) limit ps × Clean code (flip_all w ps))

-- Each set once, fewer places first, then the lower first place; and never more than 40.
abbrev pub ExplainedOnce : Type 0
ExplainedOnce =
    (code : Code) → Accepted code → (w : ℕ) → Unstrayed code w → (limit : ℕ) → limit ≤ 2
    → (i j : ℕ) → i < length (explanations code w limit) → j < length (explanations code w limit)
    → get_or (explanations code w limit) i [] ≡ get_or (explanations code w limit) j [] → i ≡ j

abbrev pub ExplainedInOrder : Type 0
ExplainedInOrder =
    (code : Code) → Accepted code → (w : ℕ) → Unstrayed code w → (limit : ℕ) → limit ≤ 2
    → InOrder (explanations code w limit) × (length (explanations code w limit) ≤ 40)

-- From a clean word the list is the empty set alone; after one flip that place alone; after two flips it holds that pair.
abbrev pub ExplainedFlips : Type 0
ExplainedFlips =
    (code : Code) → Accepted code → (w : ℕ) → Unstrayed code w → Clean code w
    → ((limit : ℕ) → limit ≤ 2 → explanations code w limit ≡ [] ∷ [])
    × ((limit : ℕ) → 1 ≤ limit → limit ≤ 2 → (p : ℕ) → p < places_of code → explanations code (flipped w p) limit ≡ (p ∷ []) ∷ [])
    × ((p q : ℕ) → p < places_of code → q < places_of code → p ≢ q
    → Memᴰ (min p q ∷ max p q ∷ []) (explanations code (flipped (flipped w p) q) 2))

-- ---- cards

-- Cards begin again (02's request 105): the k data places are cut into cards of b places from place 0 on, the r check places into others
-- from place k on. Either part may end in a short card, and no card has places of both. Numbers run on: the first check card has the number
-- k / b, rounded up.
abbrev pub CardsBeginAgain : Type 0
CardsBeginAgain =
    (code : Code) (b : ℕ) → Accepted code
    → (length (cards_for code b) ≡ (code.k + (b - 1)) / b + (code.r + (b - 1)) / b)
    × ((t : ℕ) → t < (code.k + (b - 1)) / b
    → card_at (cards_for code b) t ≡ record { place = t * b; columns = take b (drop (t * b) (data_columns code)) })
    × ((t : ℕ) → t < (code.r + (b - 1)) / b
    → card_at (cards_for code b) ((code.k + (b - 1)) / b + t)
    ≡ record { place = code.k + t * b; columns = take b (drop (code.k + t * b) (matrix_of code)) })

-- The card check refuses in this order: the code's number and place; 8 for b below 2 or over 8; 9, told the first weak card and its
-- smallest mask, exactly when the code is not card-proof for b.
abbrev pub CardsRefuse : Type 0
CardsRefuse =
    (code : Code) (b : ℕ)
    → (Refused code → cards_of code b ≡ refused_cards (judgement_of code))
    × (Accepted code → (b < 2) ⊎ (8 < b) → cards_of code b ≡ refused_cards (only_number 8))
    × (Accepted code → 2 ≤ b → b ≤ 8 → (cards_of code b ≡ refused_cards (only_number 0)) ↔ CardProof (matrix_of code) (cards_for code b))
    × (Accepted code → 2 ≤ b → b ≤ 8 → (card mask : ℕ)
    → (cards_of code b ≡ record { number = 9; told = 0; card = card; mask = mask }) ↔ FirstWeak (matrix_of code) (cards_for code b) card mask)
    × (Accepted code → 2 ≤ b → b ≤ 8 → ((cards_of code b).number ≡ 0) ⊎ ((cards_of code b).number ≡ 9))

-- What it is for: under a card-proof code two or more flips within one card of a clean word are flagged, never mended and never clean.
abbrev pub CardFlagged : Type 0
CardFlagged =
    (code : Code) (b : ℕ) → Handed code → (cards_of code b).number ≡ 0
    → (w : ℕ) → Unstrayed code w → Clean code w
    → (t mask : ℕ) → mask < 2 ^ length (card_at (cards_for code b) t).columns → 2 ≤ ones mask
    → let u = flip_mask w (card_at (cards_for code b) t).place mask in
    (((read code u).verdict ≡ 3) ⊎ ((read code u).verdict ≡ 4)) × ((read code u).place ≡ 255) × HandsBack code (read code u) u

-- ---- the tally

-- A word with the verdict v is counted under v alone; a count at 65,535 stays there; a verdict above 5 changes nothing.
abbrev pub TallyCounts : Type 0
TallyCounts =
    (f : ℕ → ℕ) (v : ℕ)
    → (f v < 65535 → counted_of (tally_by f) v ≡ tally_by (λ u. f u + cond (eqb u v) 1 0))
    × (f v ≡ 65535 → counted_of (tally_by f) v ≡ tally_by f)
    × (5 < v → counted_of (tally_by f) v ≡ tally_by f)

-- ---- the pass

-- A pass refuses in this order: the code's number and place; 12 for an image whose length is no multiple of 10 or over 65,530; 14 for a
-- run whose start is above its end or whose end is above the number of records; 17 where the count in use is over the journal's room; 16
-- where an entry is in use and the stamp is below the last one's; 13, told the entries needed, where the room that is left is for fewer.
-- A refused pass has an all-zero answer but for number and told, and changes no byte of image or journal. A done one hands back the count
-- in use afterwards.
abbrev pub PassRefuses : Type 0
PassRefuses =
    (code : Code) (p : Pass) (s : State)
    → let wanted = needed code s.image p.start p.end in
    (Refused code → PassRefused code p s (judgement_of code))
    × (Accepted code → NoImage data_size s.image → PassRefused code p s (only_number 12))
    × (Accepted code → Image data_size s.image → NoRun data_size s.image p.start p.end → PassRefused code p s (only_number 14))
    × (Accepted code → Image data_size s.image → Run data_size s.image p.start p.end → room s.journal < s.used
    → PassRefused code p s (only_number 17))
    × (Accepted code → Image data_size s.image → Run data_size s.image p.start p.end → s.used ≤ room s.journal
    → GoesBack data_size p.stamp s.journal s.used → PassRefused code p s (only_number 16))
    × (Accepted code → Askable data_size p s → room s.journal - s.used < wanted → PassRefused code p s (told 13 wanted))
    × (Accepted code → Askable data_size p s → wanted ≤ room s.journal - s.used
    → Done code p s × ((answer_of code p s).told ≡ 0) × ((answer_of code p s).used ≡ s.used + wanted))

-- Askable is that none of 12, 14, 17 and 16 holds.
abbrev pub AskableExactly : Type 0
AskableExactly =
    (p : Pass) (s : State)
    → Askable data_size p s
    ↔ (Image data_size s.image × Run data_size s.image p.start p.end × (s.used ≤ room s.journal)
    × ((s.used ≡ 0) ⊎ (stamp_at data_size s.journal (s.used - 1) ≤ p.stamp)))

-- A run with equal ends is done: a tally of zeros, no byte changed, and as many entries in use.
abbrev pub PassEmpty : Type 0
PassEmpty =
    (code : Code) (a stamp : ℕ) (s : State) → Accepted code → Askable data_size (pass_over a a stamp) s
    → let p = pass_over a a stamp in
    (answer_of code p s ≡ record { number = 0; told = 0; used = s.used; tally = all_zero })
    × (image_after code p s ≡ s.image)
    × (journal_after code p s ≡ s.journal)

-- Whatever is answered, the bytes outside the run stay, and the entries in use.
abbrev pub PassOutside : Type 0
PassOutside =
    (code : Code) (p : Pass) (s : State)
    → (take (p.start * record_size data_size) (image_after code p s) ≡ take (p.start * record_size data_size) s.image)
    × (drop (p.end * record_size data_size) (image_after code p s) ≡ drop (p.end * record_size data_size) s.image)
    × (length (image_after code p s) ≡ length s.image)
    × (take (s.used * entry_size data_size) (journal_after code p s) ≡ take (s.used * entry_size data_size) s.journal)
    × (length (journal_after code p s) ≡ length s.journal)

-- Nor are the bytes outside the run judged: images of one length that agree on its records get the same answer and the same journal.
abbrev pub PassOfRun : Type 0
PassOfRun =
    (code : Code) (p : Pass) (s : State) (other : List ℕ) → length other ≡ length s.image
    → ((i : ℕ) → p.start ≤ i → i < p.end → record_of other i ≡ record_of s.image i)
    → let t = state_of other s.journal s.used in
    (answer_of code p t ≡ answer_of code p s) × (journal_after code p t ≡ journal_after code p s)

-- In a done pass only records of verdict 1 and 2 of the run change, each to the word that reading it hands back.
abbrev pub PassRecords : Type 0
PassRecords =
    (code : Code) → Handed code → (p : Pass) (s : State) → Done code p s
    → (i : ℕ) → p.start ≤ i → i < p.end
    → let v = verdict_of code s.image i in
    ((v ≡ 1) ⊎ (v ≡ 2)
    → record_of (image_after code p s) i ≡ record_bytes data_size (read_at code s.image i).«data» (read_at code s.image i).check)
    × (v ≢ 1 → v ≢ 2 → record_of (image_after code p s) i ≡ record_of s.image i)

-- Each record of the run with a verdict 1 to 5 has its entry, right behind those in use and those of the run's records before it: the
-- pass's stamp, number, verdict, place, the reading's syndrome, the bytes as read and the bytes as left. There are no other new entries,
-- and the journal's bytes past them stay.
abbrev pub PassEntries : Type 0
PassEntries =
    (code : Code) → Handed code → (p : Pass) (s : State) → Done code p s
    → let before = needed code s.image p.start in
    let end = (s.used + before p.end) * entry_size data_size in
    ((i : ℕ) → p.start ≤ i → i < p.end → verdict_of code s.image i ≢ 0
    → entry_bytes_at (journal_after code p s) (s.used + before i)
    ≡ words.entry_of p.stamp i (verdict_of code s.image i) (place_for code s.image i) (syndrome_for code s.image i)
    (record_of s.image i) (record_of (image_after code p s) i))
    × ((m : ℕ) → m < before p.end
    → (i : ℕ) × (p.start ≤ i) × (i < p.end) × (verdict_of code s.image i ≢ 0) × (before i ≡ m))
    × (drop end (journal_after code p s) ≡ drop end s.journal)

-- The image as it is left is the image with the new entries applied in their order, each by its number and its bytes as left.
abbrev pub PassApplied : Type 0
PassApplied =
    (code : Code) (p : Pass) (s : State) → Stamped p → Done code p s
    → image_after code p s ≡ applied_all data_size (new_entries code p s) s.image

-- Along a journal that passes have filled from empty, refused passes among them, stamps never fall; and the count in use is within the room.
abbrev pub StampsRise : Type 0
StampsRise =
    (turns : List Turn) (s : State) → AllStamped turns → s.used ≡ 0
    → let t = turns_after turns s in
    (t.used ≤ room t.journal)
    × ((i j : ℕ) → i ≤ j → j < t.used → stamp_at data_size t.journal i ≤ stamp_at data_size t.journal j)

-- Each count of a done pass is the number of the run's records with that verdict; the six add up to the run's length, the last five to
-- the new entries.
abbrev pub PassCounts : Type 0
PassCounts =
    (code : Code) → Handed code → (p : Pass) (s : State) → Done code p s
    → let t = (answer_of code p s).tally in
    (t ≡ tally_by (λ v. count_from code s.image v p.start (p.end - p.start)))
    × (t.clean + t.«data» + t.check + t.even + t.odd + t.stray ≡ p.end - p.start)
    × (needed code s.image p.start p.end ≡ t.«data» + t.check + t.even + t.odd + t.stray)

-- Passing over a done run again, with any stamp and journal that allow it, finds every mended record clean and the others as before, and
-- changes no byte of the image.
abbrev pub PassAgain : Type 0
PassAgain =
    (code : Code) → Handed code → (p : Pass) (s : State) → Done code p s
    → let t = (answer_of code p s).tally in
    let unmended = t.even + t.odd + t.stray in
    let left = image_after code p s in
    (stamp : ℕ) (journal : List ℕ) (used : ℕ) → used ≤ room journal
    → (used ≡ 0) ⊎ (stamp_at data_size journal (used - 1) ≤ stamp) → unmended ≤ room journal - used
    → let again = pass_over p.start p.end stamp in
    (answer_of code again (state_of left journal used) ≡ record { number = 0; told = 0; used = used + unmended; tally = tally_again t })
    × (image_after code again (state_of left journal used) ≡ left)

-- A pass over [a, b) and then one over [b, c) with the same stamp, told the count in use, are the pass over [a, c): done where it is, and
-- where both are done, it is, with the tallies added, and the same image, journal and count in use.
abbrev pub PassInTwo : Type 0
PassInTwo =
    (code : Code) (a b c stamp : ℕ) (s : State)
    → let first = pass_over a b stamp in
    let second = pass_over b c stamp in
    let whole = pass_over a c stamp in
    let mid = state_after code first s in
    (a ≤ b → b ≤ c → Done code whole s → Done code first s × Done code second mid)
    × (Done code first s → Done code second mid
    → (answer_of code whole s
    ≡ record {
      number = 0;
      told = 0;
      used = (answer_of code second mid).used;
      tally = added (answer_of code first s).tally (answer_of code second mid).tally;
    })
    × (image_after code whole s ≡ image_after code second mid)
    × (journal_after code whole s ≡ journal_after code second mid))

-- ---- any order of passes

-- Runs are apart where no record lies in both: one of them is empty, or one ends where the other starts or before.
abbrev pub ApartExactly : Type 0
ApartExactly =
    (r t : Ends) → Apart r t ↔ ((r.end ≤ r.start) ⊎ (t.end ≤ t.start) ⊎ (r.end ≤ t.start) ⊎ (t.end ≤ r.start))

-- Passes under one code over runs apart, with journal room for all, each told the true count in use, stamps given so that none goes back:
-- in whatever order, none is refused. So many entries more are in use as the runs need as they were at first, and those that were in use
-- stay.
abbrev pub OrderDone : Type 0
OrderDone =
    (code : Code) → Accepted code → (runs : List Ends) (s : State) → RunsApart code runs s
    → (passes : List Pass) → InSomeOrder runs s passes
    → let t = after_all code passes s in
    let old = s.used * entry_size data_size in
    AllDone (passed_of code) passes s
    × (t.used ≡ s.used + needed_for_all code s.image runs)
    × (take old t.journal ≡ take old s.journal)

-- Every order of them leaves the same image, and the same entries but for their order and stamps.
abbrev pub AnyOrder : Type 0
AnyOrder =
    (code : Code) → Accepted code → (runs : List Ends) (s : State) → RunsApart code runs s
    → (passes others : List Pass) → InSomeOrder runs s passes → InSomeOrder runs s others
    → let t = after_all code passes s in
    let u = after_all code others s in
    (t.image ≡ u.image) × SameEntries (entries_since data_size s t) (entries_since data_size s u)

-- And each run has the same tally in every order.
abbrev pub OrderTallies : Type 0
OrderTallies =
    (code : Code) → Accepted code → (runs : List Ends) (s : State) → RunsApart code runs s
    → (passes others : List Pass) → InSomeOrder runs s passes → InSomeOrder runs s others
    → Rearranged (tallies_given (passed_of code) passes s) (tallies_given (passed_of code) others s)

-- Of two clerks, in plain numbers: the run of one ends where that of the other starts or before, and there is room for the entries of both.
-- Whoever comes first, both passes are done, and the image is the same, and the entries but for their order and stamps.
abbrev pub TwoClerks : Type 0
TwoClerks =
    (code : Code) → Accepted code → (a b c e early late : ℕ) (s : State)
    → Askable data_size (pass_over a b early) s → Askable data_size (pass_over c e early) s → b ≤ c → early ≤ late → late < 2 ^ 32
    → s.used + (needed code s.image a b + needed code s.image c e) ≤ room s.journal
    → let low = state_after code (pass_over a b early) s in
    let high = state_after code (pass_over c e early) s in
    let t = state_after code (pass_over c e late) low in
    let u = state_after code (pass_over a b late) high in
    Done code (pass_over a b early) s
    × Done code (pass_over c e late) low
    × Done code (pass_over c e early) s
    × Done code (pass_over a b late) high
    × (t.image ≡ u.image)
    × SameEntries (entries_since data_size s t) (entries_since data_size s u)

-- A record that lies in the runs of two passes under one code, neither refused; others under that code, done or refused, may come between.
-- Mended, it is clean to the later pass, which enters nothing of it. Unmended, it is entered by both, with the same verdict, place,
-- syndrome and bytes.
abbrev pub SharedRecord : Type 0
SharedRecord =
    (code : Code) → Handed code → (first last : Pass) (between : List Pass) (s : State) → Stamped first → Stamped last
    → let t = after_all code between (state_after code first s) in
    Done code first s → Done code last t
    → (i : ℕ) → InRun (ends_of first) i → InRun (ends_of last) i
    → let v = verdict_of code s.image i in
    let entry = as_it_was code s.image i in
    let late = entries_since data_size t (state_after code last t) in
    (LeftClean v → (verdict_of code t.image i ≡ 0) × ((e : Entry) → Memᴰ e late → e.number ≢ i))
    × (Unmended v
    → Memᴰ (entry first.stamp) (entries_since data_size s (state_after code first s)) × Memᴰ (entry last.stamp) late)

-- ---- station sheets

-- Refusal 19, exactly when one of its reasons holds; it tells nothing, and gives no and three zeros.
abbrev pub SheetRefuses : Type 0
SheetRefuses =
    (q : Asked)
    → (((sheet_for q).number ≡ 19) ↔ NoSheet q)
    × (NoSheet q → sheet_for q ≡ record { number = 19; told = 0; yes = false; sheet = no_figures })

-- Done, exactly when none does; nothing is told, and hours per device are as given.
abbrev pub SheetMade : Type 0
SheetMade =
    (q : Asked)
    → (((sheet_for q).number ≡ 0) ↔ Stands q)
    × (Stands q → ((sheet_for q).told ≡ 0) × ((sheet_for q).sheet.device ≡ q.hours))

-- Yes exactly when the sheet is made and the float comparison of its share held.
abbrev pub SheetYes : Type 0
SheetYes = (q : Asked) → ((sheet_for q).yes ≡ true) ↔ (Stands q × Within q.limit (sheet_for q).sheet.share)

-- Counts become floats exactly.
abbrev pub CountsExact : Type 0
CountsExact = (n : ℕ) → n ≤ 65535 → HasValue (Ieee.of_int binary64 (pos n)) false n 1

-- The share is the float nearest to mended / words: the exact quotient, rounded once.
abbrev pub ShareNearest : Type 0
ShareNearest =
    (q : Asked) → Stands q
    → let share = (sheet_for q).sheet.share in
    (share ≡ Ieee.round binary64 false q.mended q.words) × NearestOnly binary64 share q.mended q.words

-- It lies between 0 and 1.
abbrev pub ShareBetween : Type 0
ShareBetween =
    (q : Asked) → Stands q
    → let share = (sheet_for q).sheet.share in
    (Ieee.le zero_float share ≡ true) × (Ieee.le share one_float ≡ true)

-- 0 mended gives exactly 0, and all mended exactly 1.
abbrev pub ShareEnds : Type 0
ShareEnds =
    (q : Asked) → Stands q
    → let share = (sheet_for q).sheet.share in
    (q.mended ≡ 0 → share ≡ zero_float) × (q.mended ≡ q.words → share ≡ one_float)

-- Hours per station is the float nearest to hours / devices: the exact quotient, rounded once. Hours, a value of f64, are num / den.
abbrev pub StationNearest : Type 0
StationNearest =
    (q : Asked) → Held binary64 q.hours → Stands q
    → let station = (sheet_for q).sheet.station in
    let above = num q.hours in
    let below = den q.hours * q.devices in
    (station ≡ Ieee.round binary64 false above below) × NearestOnly binary64 station above below

-- ---- making a code

-- Refused by 1, 2 and 15, each exactly when its row of the table holds and no earlier one, with a code of zeros; made, exactly when none
-- does. 15 is for a k over 2 ^ (r - 1) - r.
abbrev pub MakingExactly : Type 0
MakingExactly =
    (k r : ℕ)
    → ((made_of k r ≡ no_code 1) ↔ ((k ≡ 0) ⊎ (64 < k)))
    × ((made_of k r ≡ no_code 2) ↔ (Sized 64 k × ((r < 3) ⊎ (16 < r))))
    × ((made_of k r ≡ no_code 15) ↔ (Limits 64 k r × (2 ^ (r - 1) - r < k)))
    × (IsMade k r ↔ (Limits 64 k r × (k ≤ 2 ^ (r - 1) - r)))

-- What is made is an accepted code of k data bits and r check bits; its places past k are 0.
abbrev pub MadeAccepted : Type 0
MadeAccepted =
    (k r : ℕ) → IsMade k r
    → let code = (made_of k r).code in
    Accepted code × Stored code × (code.k ≡ k) × (code.r ≡ r) × ((p : ℕ) → k ≤ p → p < 64 → column code.columns p ≡ 0)

-- Its columns stand in order: three ones before five, five before seven and so on, within a count the smaller number first. And nothing is
-- left out: a number below 2 ^ r with three ones, or five, or seven and so on, is one of the k columns, or comes behind them all.
abbrev pub MadeInOrder : Type 0
MadeInOrder =
    (k r : ℕ) → IsMade k r
    → let columns = (made_of k r).code.columns in
    ((p q : ℕ) → p < q → q < k → Before (column columns p) (column columns q))
    × ((x : ℕ) → x < 2 ^ r → odd_ones x ≡ 1 → 3 ≤ ones x
    → ((p : ℕ) × (p < k) × (column columns p ≡ x)) ⊎ ((p : ℕ) → p < k → Before (column columns p) x))

-- No accepted code of the same k and r has fewer ones in all its n columns; and for every accepted code one is made.
abbrev pub MadeLeast : Type 0
MadeLeast =
    (code : Code) → Accepted code
    → IsMade code.k code.r × (all_ones (matrix_of (made_of code.k code.r).code) ≤ all_ones (matrix_of code))

-- Within the limits, 15 exactly when r is below the check bits wanted for k.
abbrev pub MakingWanted : Type 0
MakingWanted = (k r : ℕ) → Limits 64 k r → ((made_of k r).number ≡ 15) ↔ (r < (check_bits_of k).bits)

-- ---- words of ten bytes

-- T takes (b0, b1, b2) to (b2, b0 + b2, b1), sums without carry.
abbrev pub MatrixT : Type 0
MatrixT =
    (b0 b1 b2 : ℕ) → b0 < 2 → b1 < 2 → b2 < 2
    → times_t (b0 + b1 * 2 + b2 * 4) ≡ b2 + (b0 + b2) % 2 * 2 + b1 * 4

-- Its order is 7: the seventh power changes no vector, an earlier one every vector but zero.
abbrev pub OrderOfT : Type 0
OrderOfT =
    (v : ℕ) → v < 8 → (power_t 7 v ≡ v) × ((i : ℕ) → 1 ≤ i → i < 7 → power_t i v ≡ v → v ≡ 0)

-- A sum of two different powers is inverted by a power.
abbrev pub SumsInverted : Type 0
SumsInverted =
    (i j : ℕ) → i < 7 → j < 7 → i ≢ j
    → (k : ℕ)
    × ((v : ℕ) → v < 8
    → (power_t k (bit_xor (power_t i v) (power_t j v)) ≡ v) × (bit_xor (power_t i (power_t k v)) (power_t j (power_t k v)) ≡ v))

-- Refusal 7 in writing, exactly for a data bit at 21 or above.
abbrev pub ByteWritingRefuses : Type 0
ByteWritingRefuses =
    (d : ℕ)
    → (2 ^ 21 ≤ d → byte_written d ≡ record { number = 7; told = 0; word = 0 })
    × (d < 2 ^ 21 → ((byte_written d).number ≡ 0) × ((byte_written d).told ≡ 0))

-- The word written has 30 bits, the data in bits 0 to 20, and three parts that are zero; no other word has.
abbrev pub ByteWord : Type 0
ByteWord =
    (d : ℕ) → d < 2 ^ 21
    → let w = (byte_written d).word in
    (w < 2 ^ 30) × (w % 2 ^ 21 ≡ d) × NoError (parts_of w)
    × ((v : ℕ) → v < 2 ^ 30 → v % 2 ^ 21 ≡ d → NoError (parts_of v) → v ≡ w)

-- Its check bytes: data byte i goes as it is into byte 7, under the power i of T into byte 8, under the power 2i into byte 9; sums of data
-- give sums of words.
abbrev pub ByteChecks : Type 0
ByteChecks =
    ((i v : ℕ) → i < 7 → v < 8
    → (byte_written (v * 2 ^ (3 * i))).word ≡ v * 2 ^ (3 * i) + 2 ^ 21 * v + 2 ^ 24 * power_t i v + 2 ^ 27 * power_t (2 * i) v)
    × ((d e : ℕ) → d < 2 ^ 21 → e < 2 ^ 21 → (byte_written (bit_xor d e)).word ≡ bit_xor (byte_written d).word (byte_written e).word)

-- Refusal 7 in reading, exactly for a bit at 30 or above; its byte number is 0.
abbrev pub ByteReadingRefuses : Type 0
ByteReadingRefuses =
    (w : ℕ)
    → (2 ^ 30 ≤ w → byte_read w ≡ record { number = 7; told = 0; verdict = 0; byte = byte_number 0; word = 0 })
    × (w < 2 ^ 30 → ((byte_read w).number ≡ 0) × ((byte_read w).told ≡ 0))

-- Every word gets one verdict of the four, each exactly when its step says so, and verdicts 1 and 2 the byte of their step.
abbrev pub ByteSteps : Type 0
ByteSteps =
    (w : ℕ) → w < 2 ^ 30
    → let a = byte_read w in
    let s = parts_of w in
    ((a.verdict ≡ 0) ↔ NoError s)
    × ((i : ℕ) → ((a.verdict ≡ 1) × (a.byte ≡ byte_number i)) ↔ DataError s i)
    × ((t : ℕ) → ((a.verdict ≡ 2) × (a.byte ≡ byte_number t)) ↔ CheckError s t)
    × ((a.verdict ≡ 3) ↔ NoStep s)
    × (a.verdict ≤ 3)

-- Clean exactly when writing the data gives the word.
abbrev pub ByteClean : Type 0
ByteClean = (w : ℕ) → w < 2 ^ 30 → ((byte_read w).verdict ≡ 0) ↔ ((byte_written (w % 2 ^ 21)).word ≡ w)

-- Verdicts 0 and 3 give byte number 255 and the word as read.
abbrev pub ByteLeft : Type 0
ByteLeft =
    (w : ℕ) → w < 2 ^ 30 → ((byte_read w).verdict ≡ 0) ⊎ ((byte_read w).verdict ≡ 3)
    → ((byte_read w).byte ≡ byte_number 255) × ((byte_read w).word ≡ w)

-- Verdicts 1 and 2 give a clean word, the same as that read but for the byte that is named.
abbrev pub ByteMended : Type 0
ByteMended =
    (w : ℕ) → w < 2 ^ 30 → ((byte_read w).verdict ≡ 1) ⊎ ((byte_read w).verdict ≡ 2)
    → let put = (byte_read w).word in
    (put < 2 ^ 30) × ((byte_read put).verdict ≡ 0)
    × ((t : ℕ) → byte_number t ≢ (byte_read w).byte → byte_at put t ≡ byte_at w t)

-- In numbers: what is written for a single one in byte 0, 1 and 6 and for all ones; a word read clean, and wrong in bytes 0, 6, 7, 8 and
-- 9; and words that are wrong in two bytes and more.
abbrev pub ByteSamples : Type 0
ByteSamples =
    ((byte_written 1).word ≡ 153092097) × ((byte_written 8).word ≡ 572522504)
    × ((byte_written 262144).word ≡ 1025769472) × ((byte_written 2097151).word ≡ 16777215)
    × (byte_read 572522504 ≡ handing 0 255 572522504)
    × (byte_read 572522505 ≡ handing 1 0 572522504) × (byte_read 573833224 ≡ handing 1 6 572522504)
    × (byte_read 574619656 ≡ handing 2 7 572522504) × (byte_read 555745288 ≡ handing 2 8 572522504)
    × (byte_read 706740232 ≡ handing 2 9 572522504)
    × (byte_read 9 ≡ handing 3 255 9) × (byte_read 2097153 ≡ handing 3 255 2097153)
    × (byte_read 16777217 ≡ handing 3 255 16777217) × (byte_read 134217729 ≡ handing 3 255 134217729)
    × (byte_read 18874368 ≡ handing 3 255 18874368) × (byte_read 150994944 ≡ handing 3 255 150994944)
    × (byte_read 1073741823 ≡ handing 3 255 1073741823)

-- Any error within one byte is found, named and put right.
abbrev pub ByteOne : Type 0
ByteOne =
    (d t v : ℕ) → d < 2 ^ 21 → IsByte t → Pattern v
    → let w = (byte_written d).word in
    (t < 7 → byte_read (damaged w t v) ≡ handing 1 t w) × (7 ≤ t → byte_read (damaged w t v) ≡ handing 2 t w)

-- Any error within two different bytes is flagged, and the word left as read.
abbrev pub ByteTwo : Type 0
ByteTwo =
    (d s t u v : ℕ) → d < 2 ^ 21 → IsByte s → IsByte t → s ≢ t → Pattern u → Pattern v
    → let w = damaged (damaged (byte_written d).word s u) t v in
    byte_read w ≡ handing 3 255 w

-- ---- putting back

-- Refused by 12, and by 17 after it: nothing is put back, and no byte of the image is changed.
abbrev pub PutBackRefuses : Type 0
PutBackRefuses =
    (s : State)
    → (NoImage data_size s.image → (answer_back s ≡ back_with 12 0) × (image_back s ≡ s.image))
    × (Image data_size s.image → room s.journal < s.used → (answer_back s ≡ back_with 17 0) × (image_back s ≡ s.image))

-- Otherwise it is done, exactly when each entry in use matches where those behind it are put back; or it answers 18, exactly at the first
-- from the last that does not. As many as are told are put back, one after the other from the last.
abbrev pub PutBackExactly : Type 0
PutBackExactly =
    (s : State) → Image data_size s.image → s.used ≤ room s.journal
    → ((answer_back s ≡ back_with 0 s.used) ⊎ ((m : ℕ) × (answer_back s ≡ back_with 18 m)))
    × ((answer_back s ≡ back_with 0 s.used) ↔ LastMatch s s.used)
    × ((m : ℕ) → (answer_back s ≡ back_with 18 m) ↔ StopsAt s m)
    × (image_back s ≡ last_back s (answer_back s).count)

-- A record that none of the entries put back names is as it was, done or stopped.
abbrev pub PutBackOthers : Type 0
PutBackOthers =
    (s : State) → Image data_size s.image → s.used ≤ room s.journal
    → (length (image_back s) ≡ length s.image)
    × ((i : ℕ) → ((m : ℕ) → m < (answer_back s).count → (from_last s m).number ≢ i) → record_of (image_back s) i ≡ record_of s.image i)

-- THE PROMISE: after any passes from an empty journal, each under a code of its own and told the true count in use, refused passes among
-- them, the put-back restores the first image byte for byte; where that is an image, every entry in use is put back.
abbrev pub PutBackRestores : Type 0
PutBackRestores =
    (turns : List Turn) (s : State) → s.used ≡ 0
    → let t = turns_after turns s in
    (image_back t ≡ s.image) × (Image data_size s.image → answer_back t ≡ back_with 0 t.used)

-- The same passes again from there, with any journal as long as the first, leave the same image and the same entries.
abbrev pub PassedAgain : Type 0
PassedAgain =
    (turns : List Turn) (s : State) → s.used ≡ 0 → (journal : List ℕ) → length journal ≡ length s.journal
    → let t = turns_after turns s in
    let u = turns_after turns (state_of (image_back t) journal 0) in
    (u.image ≡ t.image) × (u.used ≡ t.used) × ((m : ℕ) → m < t.used → entry_bytes_at u.journal m ≡ entry_bytes_at t.journal m)

-- ---- places known to be bad

-- Recovering refuses in this order: the code's number and place; 7 for a stray bit; 22 for more than three bad places, a repeat, or a place
-- at n or above; 23, exactly when no code word is near enough (`RecoveredExactly`). Else its number is 0, and nothing is told.
abbrev pub RecoveringRefuses : Type 0
RecoveringRefuses =
    (code : Code) (low check : ℕ) (bad : List ℕ)
    → let a = recovered_of code low check bad in
    (Refused code → a ≡ refused_recovered (judgement_of code))
    × (Accepted code → (2 ^ code.k ≤ low) ⊎ (2 ^ code.r ≤ check) → a ≡ refused_recovered (only_number 7))
    × (Accepted code → low < 2 ^ code.k → check < 2 ^ code.r → WrongPlaces (places_of code) bad → a ≡ refused_recovered (only_number 22))
    × (Accepted code → low < 2 ^ code.k → check < 2 ^ code.r → ¬ (WrongPlaces (places_of code) bad)
    → (a ≡ refused_recovered (only_number 23)) ⊎ ((a.number ≡ 0) × (a.told ≡ 0)))

-- A word is handed back exactly when it is a code word that differs from that as read, outside the bad places, in at most one place where
-- none or one is bad, in none where two or three are; 23 exactly when there is no such word.
abbrev pub RecoveredExactly : Type 0
RecoveredExactly =
    (code : Code) → Accepted code → (w : ℕ) → Unstrayed code w → (bad : List ℕ) → ¬ (WrongPlaces (places_of code) bad)
    → ((u : ℕ) → (recover code w bad ≡ given_back code u) ↔ Recoverable code w bad u)
    × ((recover code w bad ≡ refused_recovered (only_number 23)) ↔ ((u : ℕ) → ¬ (Recoverable code w bad u)))

-- Where such a word exists it is the only one.
abbrev pub RecoveredOnly : Type 0
RecoveredOnly =
    (code : Code) → Accepted code → (w : ℕ) → Unstrayed code w → (bad : List ℕ) → ¬ (WrongPlaces (places_of code) bad)
    → (u v : ℕ) → Recoverable code w bad u → Recoverable code w bad v → u ≡ v

-- The reason: the exclusive or of one, two or three different columns is never 0.
abbrev pub ThreeColumns : Type 0
ThreeColumns =
    (code : Code) → Accepted code
    → let c = column (matrix_of code) in
    let n = places_of code in
    ((p : ℕ) → p < n → c p ≢ 0)
    × ((p q : ℕ) → p < n → q < n → p ≢ q → bit_xor (c p) (c q) ≢ 0)
    × ((p q s : ℕ) → p < n → q < n → s < n → p ≢ q → p ≢ s → q ≢ s → bit_xor (bit_xor (c p) (c q)) (c s) ≢ 0)

-- A code word of which only bad places were changed, and with at most one bad also one place more, is handed back.
abbrev pub RecoveredFromBad : Type 0
RecoveredFromBad =
    (code : Code) → Accepted code → (u w : ℕ) → Unstrayed code u → Clean code u → Unstrayed code w
    → (bad : List ℕ) → ¬ (WrongPlaces (places_of code) bad)
    → (((p : ℕ) → p < places_of code → ¬ (Memᴰ p bad) → bit_at u p ≡ bit_at w p) → recover code w bad ≡ given_back code u)
    × (length bad ≤ 1 → (q : ℕ) → ((p : ℕ) → p < places_of code → ¬ (Memᴰ p bad) → p ≢ q → bit_at u p ≡ bit_at w p)
    → recover code w bad ≡ given_back code u)

-- With none bad it agrees with reading: a clean or mended word is handed back as reading hands it back, a flagged one is 23.
abbrev pub RecoveredAsRead : Type 0
RecoveredAsRead =
    (code : Code) → Accepted code → (w : ℕ) → Unstrayed code w
    → ((read code w).verdict ≤ 2
    → recover code w [] ≡ record { number = 0; told = 0; «data» = (read code w).«data»; check = (read code w).check })
    × (3 ≤ (read code w).verdict → recover code w [] ≡ refused_recovered (only_number 23))

-- The order of the bad places does not matter.
abbrev pub RecoveredAnyOrder : Type 0
RecoveredAnyOrder =
    (code : Code) → Accepted code → (w : ℕ) → Unstrayed code w → (bad other : List ℕ)
    → ¬ (WrongPlaces (places_of code) bad) → ¬ (WrongPlaces (places_of code) other)
    → length bad ≡ length other → ((p : ℕ) → Memᴰ p bad ↔ Memᴰ p other)
    → recover code w bad ≡ recover code w other

-- The finder refuses in this order: the code's number and place; 7 for a stray bit in either read.
abbrev pub FindingRefuses : Type 0
FindingRefuses =
    (code : Code) (low check low' check' : ℕ)
    → let a = bad_places_of code low check low' check' in
    (Refused code → a ≡ refused_bad_places (judgement_of code))
    × (Accepted code → ((2 ^ code.k ≤ low) ⊎ (2 ^ code.r ≤ check)) ⊎ ((2 ^ code.k ≤ low') ⊎ (2 ^ code.r ≤ check'))
    → a ≡ refused_bad_places (only_number 7))
    × (Accepted code → low < 2 ^ code.k → check < 2 ^ code.r → low' < 2 ^ code.k → check' < 2 ^ code.r
    → (a.number ≡ 0) × (a.told ≡ 0))

-- Place p is a one in its answer exactly when it is below n and the two reads agree there.
abbrev pub FoundExactly : Type 0
FoundExactly =
    (code : Code) → Accepted code → (a b : ℕ) → Unstrayed code a → Unstrayed code b
    → (p : ℕ) → (bit_at (found_in code a b) p ≡ 1) ↔ ((p < places_of code) × (bit_at a p ≡ bit_at b p))

-- The ones of data places stand in the data, those of check places in the check bits.
abbrev pub FoundInParts : Type 0
FoundInParts =
    (code : Code) → Accepted code → (a b : ℕ) → Unstrayed code a → Unstrayed code b
    → let w = found_in code a b in
    ((find_bad code a b).«data» ≡ data_of code.k w) × ((find_bad code a b).check ≡ check_of code.k w)

-- If each place keeps what is written or is stuck, two reads after a pattern and its complement name exactly the stuck places.
abbrev pub StuckFound : Type 0
StuckFound =
    (code : Code) → Accepted code → (stuck held w a b : ℕ) → Unstrayed code stuck
    → ReadBack (places_of code) stuck held w a → ReadBack (places_of code) stuck held (complement (places_of code) w) b
    → found_in code a b ≡ stuck

-- And up to three stuck places that were found are recovered: a code word that was written and read back through them is handed back.
abbrev pub FoundRecovered : Type 0
FoundRecovered =
    (code : Code) → Accepted code → (stuck held w a b : ℕ) → Unstrayed code stuck
    → ReadBack (places_of code) stuck held w a → ReadBack (places_of code) stuck held (complement (places_of code) w) b
    → (u x : ℕ) → Unstrayed code u → Clean code u → ReadBack (places_of code) stuck held u x
    → (bad : List ℕ) → length bad ≤ 3 → ¬ (Repeated bad) → ((p : ℕ) → Memᴰ p bad ↔ (bit_at (found_in code a b) p ≡ 1))
    → recover code x bad ≡ given_back code u
