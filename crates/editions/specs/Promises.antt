-- THE PROMISES OF AN EDITION, whatever its places and sizes: what the desk promises of a code, of the words, lists and cards under it, and
-- of images and journals. Given.antt beside this page has the words. Each is a proposition about a code or an edition, proved once; crate
-- demands says which answers of the exported functions they are about. Assumes nothing.
use Rattle.std.specs.Prelude.{◌≡◌, ◌≢◌, ◌⊎◌, ◌↔◌, cond, ℕ, ◌+◌, ◌-◌, ◌*◌, ◌/◌, ◌^◌, ◌≤◌, ◌<◌, min, max, ltb, pos, ◌+ℤ◌, length, get_or, take, drop, Ok, Err}
use mathlib.Core.List.{List, [], ◌∷◌, Memᴰ}
use Rattle.std.specs.Int.Bits.{bit_xor}
use Rattle.std.specs.Int.Count.{ones}
use Rattle.parity.specs.Odd.{odd_ones, odd_in}
use Rattle.columns.specs.Mix.{column, mix, flipped}
use Rattle.columns.specs.Bits.{bit_at, row_bit}
use Rattle.judge.specs.declared.Flaw.TheVariants as flaw
use Rattle.judge.specs.Rule.{Sized, Limits, SaysOfCode}
use Rattle.row_judge.specs.declared.RowFlaw.TheVariants as row_flaw
use Rattle.row_judge.specs.Rule.{SaysOfRows}
use Rattle.families.specs.ByRows.{ByRows}
use Rattle.balance.specs.Balance.{row_ones, all_ones, sumℤ}
use Rattle.word.specs.declared.Word.{Word}
use Rattle.word.specs.Word.{word_of, as_number, in_parts}
use Rattle.record.specs.Bytes.{AllBytes}
use Rattle.record.specs.Layout.{record_size, entry_size, record_bytes, data_in, check_in, Entry, entry_bytes, entry_in}
use Rattle.record.specs.Run.{over}
use Rattle.record.specs.Journal.{applied_all}
use Rattle.record.specs.Tally.{tally_by}
use Rattle.listing.specs.Sets as sets
use Rattle.listing.specs.Sets.{flip_all, bytes_for}
use Rattle.explain.specs.Order.{SetOf, InOrder}
use Rattle.cards.specs.Cards.{card_at}
use Rattle.cards.specs.Rule.{CardProof, FirstWeak, flip_mask}
use Rattle.at_record.specs.Outcome.{word_in}
use Rattle.at_record.specs.Outcome as outcome
use Rattle.asked.specs.declared.Pass.{Pass}
use Rattle.asked.specs.Pass.{State, pass_over, state_of, stamp_at}
use Rattle.asked.specs.Asked.{Image, NoImage, Run, NoRun, GoesBack, Askable}
use Rattle.passes.specs.Twice.{added, tally_again}
use Rattle.orders.specs.Lists.{Rearranged}
use Rattle.orders.specs.Orders.{Ends, ends_of, InRun, AllDone, tallies_given, entries_since, SameEntries, LeftClean, Unmended}
use Rattle.recovered.specs.Named.{Repeated, WrongPlaces}
use Rattle.recovered.specs.Stuck.{ReadBack, complement}
use Rattle.least.specs.Order.{Before}
use Rattle.editions.specs.Given.{Edition, Given, HsiaoCode, given, ChosenCode, chosen_of, set_of, matrix_of, data_columns, places_of, Handed, Accepted, Refused, CodeOf}
use Rattle.editions.specs.Given.{check_bits_of, made_of, judgement_of, rows_of, written_of, read_of, explained_of, cards_of, IsMade, no_code}
use Rattle.editions.specs.Given.{cards_for, bits_of, Strays, Fits, Unstrayed, read, HandsBack, Clean, explanations, explanations_of}
use Rattle.editions.specs.Given.{told, only_number, refused_rows, refused_writing, refused_reading, refused_listing, refused_cards, all_zero}
use Rattle.editions.specs.Given.{record_of, entry_bytes_at, room, needed, entry_of, read_at, verdict_of, place_for, syndrome_for, InBytes}
use Rattle.editions.specs.Given.{answer_of, image_after, journal_after, Done, PassRefused, state_after, Stamped, Turn, turns_after, AllStamped}
use Rattle.editions.specs.Given.{new_entries, count_from, passed_of, needed_for_all, RunsApart, InSomeOrder, after_all, as_it_was}
use Rattle.editions.specs.Given.{recovered_of, bad_places_of, recover, given_back, refused_recovered, Recoverable, find_bad, found_in, refused_bad_places}
use Rattle.editions.specs.Given.{answer_back, image_back, back_with, from_last, last_back, LastMatch, StopsAt}

-- ---- records and entries

-- A record's bytes say data and check bits, and these the bytes; its data is the word's two halves as one number.
abbrev pub RecordsRead : Edition → Type 0
RecordsRead e =
    let d = e.bytes in
    ((rec : List ℕ) → AllBytes rec → length rec ≡ record_size d
    → (record_bytes d (data_in d rec) (check_in d rec) ≡ rec)
    × (bits_of (word_in d rec) ≡ data_in d rec) × ((word_in d rec).low < 2 ^ 64) × ((word_in d rec).check ≡ check_in d rec))
    × ((bits check : ℕ) → bits < 2 ^ e.places → check < 2 ^ 16
    → (data_in d (record_bytes d bits check) ≡ bits) × (check_in d (record_bytes d bits check) ≡ check))

-- An entry's bytes say a pass's stamp, a record's number, verdict, place and syndrome and its bytes before and after, and these the bytes.
abbrev pub EntriesRead : Edition → Type 0
EntriesRead e =
    let d = e.bytes in
    ((bytes : List ℕ) → AllBytes bytes → length bytes ≡ entry_size d → entry_bytes (entry_in d bytes) ≡ bytes)
    × ((x : Entry) → x.stamp < 2 ^ 32 → x.number < 2 ^ 16 → x.syndrome < 2 ^ 16
    → length x.before ≡ record_size d → length x.after ≡ record_size d
    → entry_in d (entry_bytes x) ≡ x)

-- ---- the code

-- Accepted exactly: k is 1 to the edition's places, r is 3 to 16, each data column is below 2 ^ r, of all n columns no two are equal and
-- each has an odd number of ones, and every place past k is 0.
abbrev pub AcceptedExactly : HsiaoCode → Type 0
AcceptedExactly code =
    Handed (given code)
    → ((judgement_of (given code)).number ≡ 0)
    ↔ (Limits code.edition.places code.k code.r
    × ((i : ℕ) → i < code.k → column (data_columns (given code)) i < 2 ^ code.r)
    × ((p q : ℕ) → p < places_of (given code) → q < places_of (given code)
    → column (matrix_of (given code)) p ≡ column (matrix_of (given code)) q → p ≡ q)
    × ((p : ℕ) → p < places_of (given code) → odd_ones (column (matrix_of (given code)) p) ≡ 1)
    × ((i : ℕ) → code.k ≤ i → i < code.edition.places → column code.columns i ≡ 0))

abbrev pub ThreeOnes : HsiaoCode → Type 0
ThreeOnes code = Accepted (given code) → (i : ℕ) → i < code.k → 3 ≤ ones (column (data_columns (given code)) i)

-- Refusals 1 to 6 and 21 exactly.
abbrev pub JudgedExactly : HsiaoCode → Type 0
JudgedExactly code =
    let says = SaysOfCode code.edition.places code.columns code.k code.r in
    ((judgement_of (given code) ≡ only_number 0) ↔ says (Ok tt))
    × ((judgement_of (given code) ≡ only_number 1) ↔ says (Err flaw.NoData))
    × ((judgement_of (given code) ≡ only_number 2) ↔ says (Err flaw.NoChecks))
    × ((i : ℕ) → (judgement_of (given code) ≡ told 3 i) ↔ says (Err (flaw.TooWide i)))
    × ((i : ℕ) → (judgement_of (given code) ≡ told 4 i) ↔ says (Err (flaw.EvenColumn i)))
    × ((i : ℕ) → (judgement_of (given code) ≡ told 5 i) ↔ says (Err (flaw.SingleOne i)))
    × ((i : ℕ) → (judgement_of (given code) ≡ told 6 i) ↔ says (Err (flaw.Repeated i)))
    × ((i : ℕ) → (judgement_of (given code) ≡ told 21 i) ↔ says (Err (flaw.Leftover i)))

-- Of codes with a chosen set of rows. Accepted exactly: k = n - r is 1 to the edition's places, r is 3 to 16, each of the n columns is
-- below 2 ^ r, the set is not empty and names no row at r or above, no column is zero and no two are equal, the last r are triangular with ones
-- on their diagonal, each column has an odd number of ones within the set, and every place past n is 0.
abbrev pub RowsKept : ChosenCode → Type 0
RowsKept code =
    let cs = code.columns in
    Limits code.edition.places (code.n - code.r) code.r
    × ((i : ℕ) → i < code.n → column cs i < 2 ^ code.r)
    × (code.rows ≢ 0) × (code.rows < 2 ^ code.r)
    × ((i : ℕ) → i < code.n → column cs i ≢ 0)
    × ((p q : ℕ) → p < code.n → q < code.n → column cs p ≡ column cs q → p ≡ q)
    × ByRows (take code.r (drop (code.n - code.r) cs))
    × ((i : ℕ) → i < code.n → odd_in code.rows (column cs i) ≡ 1)
    × ((i : ℕ) → code.n ≤ i → i < code.edition.places + 16 → column cs i ≡ 0)

abbrev pub AcceptedRowsExactly : ChosenCode → Type 0
AcceptedRowsExactly code = Handed (chosen_of code) → ((judgement_of (chosen_of code)).number ≡ 0) ↔ RowsKept code

-- Refusals 1, 2, 3, 20 with its four reasons, and 21 exactly.
abbrev pub JudgedRowsExactly : ChosenCode → Type 0
JudgedRowsExactly code =
    let says = SaysOfRows code.edition.places code.columns code.n code.r code.rows in
    let judgement = judgement_of (chosen_of code) in
    ((judgement ≡ only_number 0) ↔ says (Ok tt))
    × ((judgement ≡ only_number 1) ↔ says (Err row_flaw.NoData))
    × ((judgement ≡ only_number 2) ↔ says (Err row_flaw.NoChecks))
    × ((i : ℕ) → (judgement ≡ told 3 i) ↔ says (Err (row_flaw.TooWide i)))
    × ((judgement ≡ told 20 1) ↔ says (Err row_flaw.NoRows))
    × ((judgement ≡ told 20 2) ↔ says (Err row_flaw.Repeated))
    × ((judgement ≡ told 20 3) ↔ says (Err row_flaw.NotTriangular))
    × ((judgement ≡ told 20 4) ↔ says (Err row_flaw.EvenColumn))
    × ((i : ℕ) → (judgement ≡ told 21 i) ↔ says (Err (row_flaw.Leftover i)))

-- Check bits wanted is refused by 1 exactly for k 0 and k over the places, and hands back no bits then.
abbrev pub CheckBitsRefused : Edition → Type 0
CheckBitsRefused e =
    (k : ℕ)
    → (((check_bits_of e k).number ≡ 1) ↔ ((k ≡ 0) ⊎ (e.places < k)))
    × ((k ≡ 0) ⊎ (e.places < k) → check_bits_of e k ≡ record { number = 1; bits = 0 })

-- Else it is the smallest r for which an accepted code of k data bits exists.
abbrev pub CheckBitsLeast : Edition → Type 0
CheckBitsLeast e =
    (k : ℕ) → 1 ≤ k → k ≤ e.places
    → ((check_bits_of e k).number ≡ 0)
    × CodeOf e k (check_bits_of e k).bits
    × ((code : HsiaoCode) → Accepted (given code) → code.k ≡ k → (check_bits_of e k).bits ≤ code.r)

-- An accepted code of k data bits and r check bits exists just where k ≤ 2 ^ (r - 1) - r.
abbrev pub CheckBitsRoom : Edition → Type 0
CheckBitsRoom e = (k r : ℕ) → 1 ≤ k → k ≤ e.places → 3 ≤ r → r ≤ 16 → CodeOf e k r ↔ (k + r ≤ 2 ^ (r - 1))

-- Row balance is refused as the code is. Else its number is 0, and nothing is told.
abbrev pub BalanceRefuses : Given → Type 0
BalanceRefuses code =
    (Refused code → rows_of code ≡ refused_rows (judgement_of code))
    × ((judgement_of code).number ≡ 0 → ((rows_of code).number ≡ 0) × ((rows_of code).told ≡ 0))

-- The balance of row j below r is r times the ones in row j, less all ones of the n columns; from r on it is 0. There are 16 rows.
abbrev pub BalanceRows : Given → Type 0
BalanceRows code =
    Accepted code
    → (length (rows_of code).rows ≡ 16)
    × ((j : ℕ) → j < code.r
    → get_or (rows_of code).rows j (pos 0) +ℤ pos (all_ones (matrix_of code)) ≡ pos (code.r * row_ones (matrix_of code) j))
    × ((j : ℕ) → code.r ≤ j → j < 16 → get_or (rows_of code).rows j (pos 0) ≡ pos 0)

-- The balances of any code add up to 0.
abbrev pub BalancesAddUp : Given → Type 0
BalancesAddUp code = Handed code → sumℤ (rows_of code).rows ≡ pos 0

-- ---- making a code

-- Refused by 1, 2 and 15, each exactly when its row of the table holds and no earlier one, with a code of zeros; made, exactly when none
-- does.
abbrev pub MakingExactly : Edition → Type 0
MakingExactly e =
    (k r : ℕ)
    → ((made_of e k r ≡ no_code e 1) ↔ ((k ≡ 0) ⊎ (e.places < k)))
    × ((made_of e k r ≡ no_code e 2) ↔ (Sized e.places k × ((r < 3) ⊎ (16 < r))))
    × ((made_of e k r ≡ no_code e 15) ↔ (Limits e.places k r × (2 ^ (r - 1) - r < k)))
    × (IsMade e k r ↔ (Limits e.places k r × (k ≤ 2 ^ (r - 1) - r)))

-- What is made is an accepted code of k data bits and r check bits, of numbers of 16 bits; its places past k are 0.
abbrev pub MadeFor : HsiaoCode → ℕ → ℕ → Type 0
MadeFor code k r =
    Accepted (given code) × ((p : ℕ) → p < code.edition.places → column code.columns p < 2 ^ 16) × (code.k ≡ k) × (code.r ≡ r)
    × ((p : ℕ) → k ≤ p → p < code.edition.places → column code.columns p ≡ 0)

abbrev pub MadeAccepted : Edition → Type 0
MadeAccepted e = (k r : ℕ) → IsMade e k r → MadeFor (made_of e k r).code k r

-- Its columns stand in order, and nothing is left out.
abbrev pub Ordered : List ℕ → ℕ → ℕ → Type 0
Ordered columns k r =
    ((p q : ℕ) → p < q → q < k → Before (column columns p) (column columns q))
    × ((x : ℕ) → x < 2 ^ r → odd_ones x ≡ 1 → 3 ≤ ones x
    → ((p : ℕ) × (p < k) × (column columns p ≡ x)) ⊎ ((p : ℕ) → p < k → Before (column columns p) x))

abbrev pub MadeInOrder : Edition → Type 0
MadeInOrder e = (k r : ℕ) → IsMade e k r → Ordered (made_of e k r).code.columns k r

-- No accepted code of the same k and r has fewer ones in all its n columns; and for every accepted code one is made.
abbrev pub MadeLeast : HsiaoCode → Type 0
MadeLeast code =
    Accepted (given code)
    → let e = code.edition in
    IsMade e code.k code.r × (all_ones (matrix_of (given (made_of e code.k code.r).code)) ≤ all_ones (matrix_of (given code)))

-- Within the limits, 15 exactly when r is below the check bits wanted for k.
abbrev pub MakingWanted : Edition → Type 0
MakingWanted e = (k r : ℕ) → Limits e.places k r → ((made_of e k r).number ≡ 15) ↔ (r < (check_bits_of e k).bits)

-- ---- writing and reading one word

-- Writing refuses in this order: the code's number and place; 7 exactly for a data bit at k or above.
abbrev pub WritingRefuses : Given → Type 0
WritingRefuses code =
    (bits : ℕ)
    → (Refused code → written_of code bits ≡ refused_writing (judgement_of code))
    × ((judgement_of code).number ≡ 0 → 2 ^ code.k ≤ bits → written_of code bits ≡ refused_writing (only_number 7))
    × ((judgement_of code).number ≡ 0 → bits < 2 ^ code.k → ((written_of code bits).number ≡ 0) × ((written_of code bits).told ≡ 0))

-- Check bit j of writing is the exclusive or of those data bits whose column has bit j; there are r of them.
abbrev pub WritingBits : HsiaoCode → Type 0
WritingBits code =
    Accepted (given code) → (bits : ℕ) → bits < 2 ^ code.k
    → let check = (written_of (given code) bits).check in
    ((j : ℕ) → bit_at check j ≡ row_bit (data_columns (given code)) bits j) × (check < 2 ^ code.r)

-- Reading refuses in this order: the code's number and place; 7 exactly for a data bit at k or above or a check bit at r or above.
abbrev pub ReadingRefuses : Given → Type 0
ReadingRefuses code =
    (x : Word)
    → (Refused code → read_of code x ≡ refused_reading (judgement_of code))
    × (Accepted code → Strays code x → read_of code x ≡ refused_reading (only_number 7))
    × (Accepted code → Fits code x → ((read_of code x).number ≡ 0) × ((read_of code x).told ≡ 0))

-- A word without stray bits reads clean exactly when writing its data gives its check bits; it is then handed back as read, with place 255.
abbrev pub CleanExactly : Given → Type 0
CleanExactly code =
    Accepted code → (x : Word) → Fits code x → ((read_of code x).verdict ≡ 0) ↔ ((written_of code (bits_of x)).check ≡ x.check)

abbrev pub CleanAsRead : Given → Type 0
CleanAsRead code =
    Accepted code → (w : ℕ) → Unstrayed code w → Clean code w → ((read code w).place ≡ 255) × HandsBack code (read code w) w

-- The table of verdicts, with the syndrome as document 01 has it.
abbrev pub VerdictsExactly : HsiaoCode → Type 0
VerdictsExactly code =
    Accepted (given code) → (x : Word) → Fits (given code) x
    → let s = bit_xor (written_of (given code) (bits_of x)).check x.check in
    let v = (read_of (given code) x).verdict in
    ((v ≡ 0) ↔ (s ≡ 0))
    × ((v ≡ 1) ↔ ((p : ℕ) × (p < code.k) × (column (matrix_of (given code)) p ≡ s)))
    × ((v ≡ 2) ↔ ((p : ℕ) × (code.k ≤ p) × (p < places_of (given code)) × (column (matrix_of (given code)) p ≡ s)))
    × ((v ≡ 3) ↔ ((s ≢ 0) × (odd_ones s ≡ 0)))
    × ((v ≡ 4) ↔ ((odd_ones s ≡ 1) × ((p : ℕ) → p < places_of (given code) → column (matrix_of (given code)) p ≢ s)))

-- Verdicts 1 and 2 name the place whose column is the syndrome; the others name none, 255.
abbrev pub PlaceNamed : HsiaoCode → Type 0
PlaceNamed code =
    Accepted (given code) → (x : Word) → Fits (given code) x
    → let s = bit_xor (written_of (given code) (bits_of x)).check x.check in
    let a = read_of (given code) x in
    ((a.verdict ≡ 1) ⊎ (a.verdict ≡ 2) → (a.place < places_of (given code)) × (column (matrix_of (given code)) a.place ≡ s))
    × (a.verdict ≢ 1 → a.verdict ≢ 2 → a.place ≡ 255)

-- The syndrome handed back is document 01's; it is 0 exactly for clean, and for verdicts 1 and 2 the column of the place.
abbrev pub SyndromeTold : HsiaoCode → Type 0
SyndromeTold code =
    Accepted (given code) → (x : Word) → Fits (given code) x
    → let a = read_of (given code) x in
    (a.syndrome ≡ bit_xor (written_of (given code) (bits_of x)).check x.check)
    × ((a.syndrome ≡ 0) ↔ (a.verdict ≡ 0))
    × ((a.verdict ≡ 1) ⊎ (a.verdict ≡ 2) → column (matrix_of (given code)) a.place ≡ a.syndrome)

-- The table of verdicts by the syndrome, the exclusive or of the columns of all set bits, and by its ones within the set of rows.
abbrev pub VerdictsBySyndrome : Given → Type 0
VerdictsBySyndrome code =
    Accepted code → (x : Word) → Fits code x
    → let s = mix (matrix_of code) (as_number code.k x) in
    let v = (read_of code x).verdict in
    ((v ≡ 0) ↔ (s ≡ 0))
    × ((v ≡ 1) ↔ ((p : ℕ) × (p < code.k) × (column (matrix_of code) p ≡ s)))
    × ((v ≡ 2) ↔ ((p : ℕ) × (code.k ≤ p) × (p < places_of code) × (column (matrix_of code) p ≡ s)))
    × ((v ≡ 3) ↔ ((s ≢ 0) × (odd_in (set_of code) s ≡ 0)))
    × ((v ≡ 4) ↔ ((odd_in (set_of code) s ≡ 1) × ((p : ℕ) → p < places_of code → column (matrix_of code) p ≢ s)))

-- It is handed back; verdicts 1 and 2 name the place whose column it is, the others name none, 255.
abbrev pub SyndromeNamed : Given → Type 0
SyndromeNamed code =
    Accepted code → (x : Word) → Fits code x
    → let a = read_of code x in
    (a.syndrome ≡ mix (matrix_of code) (as_number code.k x))
    × ((a.verdict ≡ 1) ⊎ (a.verdict ≡ 2) → (a.place < places_of code) × (column (matrix_of code) a.place ≡ a.syndrome))
    × (a.verdict ≢ 1 → a.verdict ≢ 2 → a.place ≡ 255)

-- Writing solves for the check bits: there are r of them, the word with them has syndrome 0, and no other r check bits give that.
abbrev pub WritingSolves : Given → Type 0
WritingSolves code =
    Accepted code → (bits : ℕ) → bits < 2 ^ code.k
    → let c = (written_of code bits).check in
    (c < 2 ^ code.r)
    × (mix (matrix_of code) (word_of code.k bits c) ≡ 0)
    × ((d : ℕ) → d < 2 ^ code.r → mix (matrix_of code) (word_of code.k bits d) ≡ 0 → d ≡ c)

-- One flipped place of a clean word is found, 1 for a data bit and 2 for a check bit, named, and put right.
abbrev pub OneFlip : Given → Type 0
OneFlip code =
    Accepted code → (w : ℕ) → Unstrayed code w → Clean code w → (p : ℕ) → p < places_of code
    → ((read code (flipped w p)).verdict ≡ cond (ltb p code.k) 1 2)
    × ((read code (flipped w p)).place ≡ p)
    × HandsBack code (read code (flipped w p)) w

-- Two flipped places of a clean word are flagged, and the word is handed back as read.
abbrev pub TwoFlips : Given → Type 0
TwoFlips code =
    Accepted code → (w : ℕ) → Unstrayed code w → Clean code w
    → (p q : ℕ) → p < places_of code → q < places_of code → p ≢ q
    → ((read code (flipped (flipped w p) q)).verdict ≡ 3)
    × ((read code (flipped (flipped w p) q)).place ≡ 255)
    × HandsBack code (read code (flipped (flipped w p) q)) (flipped (flipped w p) q)

-- Verdicts 1 and 2, of any word: the word handed back differs from the word as read in exactly the named place, and reads clean.
abbrev pub MendedClean : Given → Type 0
MendedClean code =
    Accepted code → (w : ℕ) → Unstrayed code w → ((read code w).verdict ≡ 1) ⊎ ((read code w).verdict ≡ 2)
    → ((read code w).place < places_of code)
    × HandsBack code (read code w) (flipped w (read code w).place)
    × Clean code (flipped w (read code w).place)

-- Verdicts 3 and 4, of any word: it is handed back as read, and no single flip would make it clean.
abbrev pub LeftAsRead : Given → Type 0
LeftAsRead code =
    Accepted code → (w : ℕ) → Unstrayed code w → ((read code w).verdict ≡ 3) ⊎ ((read code w).verdict ≡ 4)
    → ((read code w).place ≡ 255)
    × HandsBack code (read code w) w
    × ((p : ℕ) → p < places_of code → ¬ (Clean code (flipped w p)))

-- ---- explanations

-- Explaining refuses in this order: the code's number and place; 7 for a stray bit; 11 for a limit over 2; 10, told the list's length,
-- where that is over half the lent bytes, rounded down. A refusal changes no byte. Else the lent bytes hold the list's entries, then what
-- they held.
abbrev pub ExplainingRefuses : Given → Type 0
ExplainingRefuses code =
    (x : Word) (limit : ℕ) (list : List ℕ)
    → let a = (explained_of code x limit list).answer in
    let after = (explained_of code x limit list).list in
    let sets = explanations_of code x limit in
    (Refused code → (a ≡ refused_listing (judgement_of code)) × (after ≡ list))
    × (Accepted code → Strays code x → (a ≡ refused_listing (only_number 7)) × (after ≡ list))
    × (Accepted code → bits_of x < 2 ^ code.k → x.check < 2 ^ code.r → 2 < limit
    → (a ≡ refused_listing (only_number 11)) × (after ≡ list))
    × (Accepted code → bits_of x < 2 ^ code.k → x.check < 2 ^ code.r → limit ≤ 2 → length list / 2 < length sets
    → (a ≡ refused_listing (told 10 (length sets))) × (after ≡ list))
    × (Accepted code → bits_of x < 2 ^ code.k → x.check < 2 ^ code.r → limit ≤ 2 → length sets ≤ length list / 2
    → (a ≡ record { number = 0; told = 0; length = length sets }) × (after ≡ over (bytes_for sets) list))

-- Entry i of a done list is set i: its lower place and its higher, 255 for none. The bytes past the entries stay.
abbrev pub ExplainedEntries : Given → Type 0
ExplainedEntries code =
    (x : Word) (limit : ℕ) (list : List ℕ) → (explained_of code x limit list).answer.number ≡ 0 → Accepted code
    → let after = (explained_of code x limit list).list in
    let listed = explanations_of code x limit in
    ((i : ℕ) → i < length listed → take 2 (drop (2 * i) after) ≡ sets.entry_of (get_or listed i []))
    × (drop (2 * length listed) after ≡ drop (2 * length listed) list)

-- An entry tells its set, since no place is 255.
abbrev pub EntryTells : Given → Type 0
EntryTells code =
    Accepted code → (ps qs : List ℕ) → SetOf (places_of code) 2 ps → SetOf (places_of code) 2 qs
    → sets.entry_of ps ≡ sets.entry_of qs → ps ≡ qs

-- A set of places stands in the list exactly when it has at most `limit` of the n places and flipping exactly those gives a word that
-- reads clean.
abbrev pub ExplainedExactly : Given → Type 0
ExplainedExactly code =
    Accepted code → (w : ℕ) → Unstrayed code w → (limit : ℕ) (ps : List ℕ)
    → Memᴰ ps (explanations code w limit) ↔ (SetOf (places_of code) limit ps × Clean code (flip_all w ps))

-- Each set once, fewer places first, then the lower first place; and never more than half as many as there are places: 40 with 64 data
-- bits, 72 with 128.
abbrev pub ExplainedOnce : Given → Type 0
ExplainedOnce code =
    Accepted code → (w : ℕ) → Unstrayed code w → (limit : ℕ) → limit ≤ 2
    → (i j : ℕ) → i < length (explanations code w limit) → j < length (explanations code w limit)
    → get_or (explanations code w limit) i [] ≡ get_or (explanations code w limit) j [] → i ≡ j

abbrev pub ExplainedInOrder : Given → Type 0
ExplainedInOrder code =
    Accepted code → (w : ℕ) → Unstrayed code w → (limit : ℕ) → limit ≤ 2
    → InOrder (explanations code w limit) × (length (explanations code w limit) ≤ (code.edition.places + 16) / 2)

-- From a clean word the list is the empty set alone; after one flip that place alone; after two flips it holds that pair.
abbrev pub ExplainedFlips : Given → Type 0
ExplainedFlips code =
    Accepted code → (w : ℕ) → Unstrayed code w → Clean code w
    → ((limit : ℕ) → limit ≤ 2 → explanations code w limit ≡ [] ∷ [])
    × ((limit : ℕ) → 1 ≤ limit → limit ≤ 2 → (p : ℕ) → p < places_of code → explanations code (flipped w p) limit ≡ (p ∷ []) ∷ [])
    × ((p q : ℕ) → p < places_of code → q < places_of code → p ≢ q
    → Memᴰ (min p q ∷ max p q ∷ []) (explanations code (flipped (flipped w p) q) 2))

-- ---- cards

-- Cards begin again at the first check place, and their numbers run on.
abbrev pub CardsBeginAgain : Given → Type 0
CardsBeginAgain code =
    (b : ℕ) → Accepted code
    → (length (cards_for code b) ≡ (code.k + (b - 1)) / b + (code.r + (b - 1)) / b)
    × ((t : ℕ) → t < (code.k + (b - 1)) / b
    → card_at (cards_for code b) t ≡ record { place = t * b; columns = take b (drop (t * b) (data_columns code)) })
    × ((t : ℕ) → t < (code.r + (b - 1)) / b
    → card_at (cards_for code b) ((code.k + (b - 1)) / b + t)
    ≡ record { place = code.k + t * b; columns = take b (drop (code.k + t * b) (matrix_of code)) })

-- The card check refuses in this order: the code's number and place; 8 for b below 2 or over 8; 9, told the first weak card and its
-- smallest mask, exactly when the code is not card-proof for b.
abbrev pub CardsRefuse : Given → Type 0
CardsRefuse code =
    (b : ℕ)
    → (Refused code → cards_of code b ≡ refused_cards (judgement_of code))
    × (Accepted code → (b < 2) ⊎ (8 < b) → cards_of code b ≡ refused_cards (only_number 8))
    × (Accepted code → 2 ≤ b → b ≤ 8 → (cards_of code b ≡ refused_cards (only_number 0)) ↔ CardProof (matrix_of code) (cards_for code b))
    × (Accepted code → 2 ≤ b → b ≤ 8 → (card mask : ℕ)
    → (cards_of code b ≡ record { number = 9; told = 0; card = card; mask = mask }) ↔ FirstWeak (matrix_of code) (cards_for code b) card mask)
    × (Accepted code → 2 ≤ b → b ≤ 8 → ((cards_of code b).number ≡ 0) ⊎ ((cards_of code b).number ≡ 9))

-- Under a card-proof code two or more flips within one card of a clean word are flagged, never mended and never clean.
abbrev pub CardFlagged : Given → Type 0
CardFlagged code =
    (b : ℕ) → Handed code → (cards_of code b).number ≡ 0
    → (w : ℕ) → Unstrayed code w → Clean code w
    → (t mask : ℕ) → mask < 2 ^ length (card_at (cards_for code b) t).columns → 2 ≤ ones mask
    → let u = flip_mask w (card_at (cards_for code b) t).place mask in
    (((read code u).verdict ≡ 3) ⊎ ((read code u).verdict ≡ 4)) × ((read code u).place ≡ 255) × HandsBack code (read code u) u

-- ---- the pass

-- A pass refuses in this order: the code's number and place; 12, 14, 17, 16, 13, told the entries needed. A refused pass has an all-zero
-- answer but for number and told, and changes no byte of image or journal. A done one hands back the count in use afterwards.
abbrev pub PassRefuses : Given → Type 0
PassRefuses code =
    (p : Pass) (s : State)
    → let d = code.edition.bytes in
    let left = room code.edition s.journal - s.used in
    let wanted = needed code s.image p.start p.end in
    (Refused code → PassRefused code p s (judgement_of code))
    × (Accepted code → NoImage d s.image → PassRefused code p s (only_number 12))
    × (Accepted code → Image d s.image → NoRun d s.image p.start p.end → PassRefused code p s (only_number 14))
    × (Accepted code → Image d s.image → Run d s.image p.start p.end → room code.edition s.journal < s.used
    → PassRefused code p s (only_number 17))
    × (Accepted code → Image d s.image → Run d s.image p.start p.end → s.used ≤ room code.edition s.journal
    → GoesBack d p.stamp s.journal s.used → PassRefused code p s (only_number 16))
    × (Accepted code → Askable d p s → left < wanted → PassRefused code p s (told 13 wanted))
    × (Accepted code → Askable d p s → wanted ≤ left
    → Done code p s × ((answer_of code p s).told ≡ 0) × ((answer_of code p s).used ≡ s.used + wanted))

-- Askable is that none of 12, 14, 17 and 16 holds.
abbrev pub AskableExactly : Edition → Type 0
AskableExactly e =
    (p : Pass) (s : State)
    → let d = e.bytes in
    Askable d p s
    ↔ (Image d s.image × Run d s.image p.start p.end × (s.used ≤ room e s.journal)
    × ((s.used ≡ 0) ⊎ (stamp_at d s.journal (s.used - 1) ≤ p.stamp)))

-- A run with equal ends is done: a tally of zeros, no byte changed, and as many entries in use.
abbrev pub PassEmpty : Given → Type 0
PassEmpty code =
    (a stamp : ℕ) (s : State) → Accepted code → Askable code.edition.bytes (pass_over a a stamp) s
    → let p = pass_over a a stamp in
    (answer_of code p s ≡ record { number = 0; told = 0; used = s.used; tally = all_zero })
    × (image_after code p s ≡ s.image)
    × (journal_after code p s ≡ s.journal)

-- Whatever is answered, the bytes outside the run stay, and the entries in use.
abbrev pub PassOutside : Given → Type 0
PassOutside code =
    (p : Pass) (s : State)
    → let size = record_size code.edition.bytes in
    let used = s.used * entry_size code.edition.bytes in
    (take (p.start * size) (image_after code p s) ≡ take (p.start * size) s.image)
    × (drop (p.end * size) (image_after code p s) ≡ drop (p.end * size) s.image)
    × (length (image_after code p s) ≡ length s.image)
    × (take used (journal_after code p s) ≡ take used s.journal)
    × (length (journal_after code p s) ≡ length s.journal)

-- Nor are the bytes outside the run judged: images of one length that agree on its records get the same answer and the same journal.
abbrev pub PassOfRun : Given → Type 0
PassOfRun code =
    (p : Pass) (s : State) (other : List ℕ) → length other ≡ length s.image
    → ((i : ℕ) → p.start ≤ i → i < p.end → record_of code.edition other i ≡ record_of code.edition s.image i)
    → let t = state_of other s.journal s.used in
    (answer_of code p t ≡ answer_of code p s) × (journal_after code p t ≡ journal_after code p s)

-- In a done pass only records of verdict 1 and 2 of the run change, each to the word that reading it hands back.
abbrev pub PassRecords : Given → Type 0
PassRecords code =
    (p : Pass) (s : State) → Done code p s
    → (i : ℕ) → p.start ≤ i → i < p.end
    → let v = verdict_of code s.image i in
    let e = code.edition in
    ((v ≡ 1) ⊎ (v ≡ 2) → record_of e (image_after code p s) i ≡ outcome.record_of e.bytes (read_at code s.image i).word)
    × (v ≢ 1 → v ≢ 2 → record_of e (image_after code p s) i ≡ record_of e s.image i)

-- Each record of the run with a verdict 1 to 5 has its entry, right behind those in use and those of the run's records before it: the
-- pass's stamp, number, verdict, place, the reading's syndrome, the bytes as read and the bytes as left. There are no other new entries,
-- and the journal's bytes past them stay.
abbrev pub PassEntries : Given → Type 0
PassEntries code =
    (p : Pass) (s : State) → Done code p s
    → let e = code.edition in
    let before = needed code s.image p.start in
    let end = (s.used + before p.end) * entry_size e.bytes in
    ((i : ℕ) → p.start ≤ i → i < p.end → verdict_of code s.image i ≢ 0
    → entry_bytes_at e (journal_after code p s) (s.used + before i)
    ≡ entry_of p.stamp i (verdict_of code s.image i) (place_for code s.image i) (syndrome_for code s.image i)
    (record_of e s.image i) (record_of e (image_after code p s) i))
    × ((m : ℕ) → m < before p.end
    → (i : ℕ) × (p.start ≤ i) × (i < p.end) × (verdict_of code s.image i ≢ 0) × (before i ≡ m))
    × (drop end (journal_after code p s) ≡ drop end s.journal)

-- The image as it is left is the image with the new entries applied in their order, each by its number and its bytes as left.
abbrev pub PassApplied : Given → Type 0
PassApplied code =
    (p : Pass) (s : State) → Stamped p → Done code p s
    → image_after code p s ≡ applied_all code.edition.bytes (new_entries code p s) s.image

-- Along a journal that passes have filled from empty, refused passes among them, stamps never fall; and the count in use is within the
-- room.
abbrev pub StampsRise : Edition → Type 0
StampsRise e =
    (turns : List Turn) (s : State) → AllStamped turns → s.used ≡ 0
    → let t = turns_after e turns s in
    (t.used ≤ room e t.journal)
    × ((i j : ℕ) → i ≤ j → j < t.used → stamp_at e.bytes t.journal i ≤ stamp_at e.bytes t.journal j)

-- Each count of a done pass is the number of the run's records with that verdict; the six add up to the run's length, the last five to
-- the new entries.
abbrev pub PassCounts : Given → Type 0
PassCounts code =
    (p : Pass) (s : State) → Done code p s
    → let t = (answer_of code p s).tally in
    (t ≡ tally_by (λ v. count_from code s.image v p.start (p.end - p.start)))
    × (t.clean + t.«data» + t.check + t.even + t.odd + t.stray ≡ p.end - p.start)
    × (needed code s.image p.start p.end ≡ t.«data» + t.check + t.even + t.odd + t.stray)

-- Passing over a done run again, with any stamp and journal that allow it, finds every mended record clean and the others as before, and
-- changes no byte of the image.
abbrev pub PassAgain : Given → Type 0
PassAgain code =
    Handed code → (p : Pass) (s : State) → InBytes code s.image → Done code p s
    → let d = code.edition.bytes in
    let t = (answer_of code p s).tally in
    let unmended = t.even + t.odd + t.stray in
    let left = image_after code p s in
    (stamp : ℕ) (journal : List ℕ) (used : ℕ) → used ≤ room code.edition journal
    → (used ≡ 0) ⊎ (stamp_at d journal (used - 1) ≤ stamp) → unmended ≤ room code.edition journal - used
    → let again = pass_over p.start p.end stamp in
    (answer_of code again (state_of left journal used) ≡ record { number = 0; told = 0; used = used + unmended; tally = tally_again t })
    × (image_after code again (state_of left journal used) ≡ left)

-- A pass over [a, b) and then one over [b, c) with the same stamp, told the count in use, are the pass over [a, c).
abbrev pub PassInTwo : Given → Type 0
PassInTwo code =
    (a b c stamp : ℕ) (s : State)
    → let first = pass_over a b stamp in
    let second = pass_over b c stamp in
    let whole = pass_over a c stamp in
    let mid = state_after code first s in
    (a ≤ b → b ≤ c → Done code whole s → Done code first s × Done code second mid)
    × (Done code first s → Done code second mid
    → (answer_of code whole s
    ≡ record {
      number = 0;
      told = 0;
      used = (answer_of code second mid).used;
      tally = added (answer_of code first s).tally (answer_of code second mid).tally;
    })
    × (image_after code whole s ≡ image_after code second mid)
    × (journal_after code whole s ≡ journal_after code second mid))

-- ---- any order of passes

-- Passes under one code over runs apart, with journal room for all, each told the true count in use, stamps given so that none goes back:
-- in whatever order, none is refused. So many entries more are in use as the runs need as they were at first, and those that were in use
-- stay.
abbrev pub OrderDone : Given → Type 0
OrderDone code =
    Accepted code → (runs : List Ends) (s : State) → RunsApart code runs s
    → (passes : List Pass) → InSomeOrder code.edition runs s passes
    → let t = after_all code passes s in
    let old = s.used * entry_size code.edition.bytes in
    AllDone (passed_of code) passes s
    × (t.used ≡ s.used + needed_for_all code s.image runs)
    × (take old t.journal ≡ take old s.journal)

-- Every order of them leaves the same image, and the same entries but for their order and stamps.
abbrev pub AnyOrder : Given → Type 0
AnyOrder code =
    Accepted code → (runs : List Ends) (s : State) → RunsApart code runs s
    → (passes others : List Pass) → InSomeOrder code.edition runs s passes → InSomeOrder code.edition runs s others
    → let t = after_all code passes s in
    let u = after_all code others s in
    let d = code.edition.bytes in
    (t.image ≡ u.image) × SameEntries (entries_since d s t) (entries_since d s u)

-- And each run has the same tally in every order.
abbrev pub OrderTallies : Given → Type 0
OrderTallies code =
    Accepted code → (runs : List Ends) (s : State) → RunsApart code runs s
    → (passes others : List Pass) → InSomeOrder code.edition runs s passes → InSomeOrder code.edition runs s others
    → Rearranged (tallies_given (passed_of code) passes s) (tallies_given (passed_of code) others s)

-- Of two clerks, in plain numbers: the run of one ends where that of the other starts or before, and there is room for the entries of both.
abbrev pub TwoClerks : Given → Type 0
TwoClerks code =
    let d = code.edition.bytes in
    Accepted code → (a b c e early late : ℕ) (s : State)
    → Askable d (pass_over a b early) s → Askable d (pass_over c e early) s → b ≤ c → early ≤ late → late < 2 ^ 32
    → s.used + (needed code s.image a b + needed code s.image c e) ≤ room code.edition s.journal
    → let low = state_after code (pass_over a b early) s in
    let high = state_after code (pass_over c e early) s in
    let t = state_after code (pass_over c e late) low in
    let u = state_after code (pass_over a b late) high in
    Done code (pass_over a b early) s
    × Done code (pass_over c e late) low
    × Done code (pass_over c e early) s
    × Done code (pass_over a b late) high
    × (t.image ≡ u.image)
    × SameEntries (entries_since d s t) (entries_since d s u)

-- A record that lies in the runs of two passes under one code, neither refused; others under that code, done or refused, may come between.
-- Mended, it is clean to the later pass, which enters nothing of it. Unmended, it is entered by both, with the same verdict, place,
-- syndrome and bytes.
abbrev pub SharedRecord : Given → Type 0
SharedRecord code =
    Handed code → (first last : Pass) (between : List Pass) (s : State) → InBytes code s.image → Stamped first → Stamped last
    → let t = after_all code between (state_after code first s) in
    Done code first s → Done code last t
    → (i : ℕ) → InRun (ends_of first) i → InRun (ends_of last) i
    → let d = code.edition.bytes in
    let v = verdict_of code s.image i in
    let entry = as_it_was code s.image i in
    let late = entries_since d t (state_after code last t) in
    (LeftClean v → (verdict_of code t.image i ≡ 0) × ((e : Entry) → Memᴰ e late → e.number ≢ i))
    × (Unmended v
    → Memᴰ (entry first.stamp) (entries_since d s (state_after code first s)) × Memᴰ (entry last.stamp) late)

-- ---- putting back

-- Refused by 12, and by 17 after it: nothing is put back, and no byte of the image is changed.
abbrev pub PutBackRefuses : Edition → Type 0
PutBackRefuses e =
    (s : State)
    → (NoImage e.bytes s.image → (answer_back e s ≡ back_with 12 0) × (image_back e s ≡ s.image))
    × (Image e.bytes s.image → room e s.journal < s.used → (answer_back e s ≡ back_with 17 0) × (image_back e s ≡ s.image))

-- Otherwise it is done, exactly when each entry in use matches where those behind it are put back; or it answers 18, exactly at the first
-- from the last that does not. As many as are told are put back, one after the other from the last.
abbrev pub PutBackExactly : Edition → Type 0
PutBackExactly e =
    (s : State) → Image e.bytes s.image → s.used ≤ room e s.journal
    → ((answer_back e s ≡ back_with 0 s.used) ⊎ ((m : ℕ) × (answer_back e s ≡ back_with 18 m)))
    × ((answer_back e s ≡ back_with 0 s.used) ↔ LastMatch e s s.used)
    × ((m : ℕ) → (answer_back e s ≡ back_with 18 m) ↔ StopsAt e s m)
    × (image_back e s ≡ last_back e s (answer_back e s).count)

-- A record that none of the entries put back names is as it was, done or stopped.
abbrev pub PutBackOthers : Edition → Type 0
PutBackOthers e =
    (s : State) → Image e.bytes s.image → s.used ≤ room e s.journal
    → (length (image_back e s) ≡ length s.image)
    × ((i : ℕ) → ((m : ℕ) → m < (answer_back e s).count → (from_last e s m).number ≢ i)
    → record_of e (image_back e s) i ≡ record_of e s.image i)

-- THE PROMISE: after any passes from an empty journal, all of one edition, each under a code of its own and told the true count in use,
-- refused passes among them, the put-back restores the first image byte for byte; where that is an image, every entry in use is put back.
abbrev pub PutBackRestores : Edition → Type 0
PutBackRestores e =
    (turns : List Turn) (s : State) → s.used ≡ 0
    → let t = turns_after e turns s in
    (image_back e t ≡ s.image) × (Image e.bytes s.image → answer_back e t ≡ back_with 0 t.used)

-- The same passes again from there, with any journal as long as the first, leave the same image and the same entries.
abbrev pub PassedAgain : Edition → Type 0
PassedAgain e =
    (turns : List Turn) (s : State) → s.used ≡ 0 → (journal : List ℕ) → length journal ≡ length s.journal
    → let t = turns_after e turns s in
    let u = turns_after e turns (state_of (image_back e t) journal 0) in
    (u.image ≡ t.image) × (u.used ≡ t.used) × ((m : ℕ) → m < t.used → entry_bytes_at e u.journal m ≡ entry_bytes_at e t.journal m)

-- ---- places known to be bad

-- Recovering refuses in this order: the code's number and place; 7 for a stray bit; 22 for more than three bad places, a repeat, or a place
-- at n or above; 23, exactly when no code word is near enough (`RecoveredExactly`). Else its number is 0, and nothing is told.
abbrev pub RecoveringRefuses : Given → Type 0
RecoveringRefuses code =
    (x : Word) (bad : List ℕ)
    → let a = recovered_of code x bad in
    (Refused code → a ≡ refused_recovered (judgement_of code))
    × (Accepted code → Strays code x → a ≡ refused_recovered (only_number 7))
    × (Accepted code → Fits code x → WrongPlaces (places_of code) bad → a ≡ refused_recovered (only_number 22))
    × (Accepted code → Fits code x → ¬ (WrongPlaces (places_of code) bad)
    → (a ≡ refused_recovered (only_number 23)) ⊎ ((a.number ≡ 0) × (a.told ≡ 0)))

-- A word is handed back exactly when it is a code word that differs from that as read, outside the bad places, in at most one place where
-- none or one is bad, in none where two or three are; 23 exactly when there is no such word.
abbrev pub RecoveredExactly : Given → Type 0
RecoveredExactly code =
    Accepted code → (w : ℕ) → Unstrayed code w → (bad : List ℕ) → ¬ (WrongPlaces (places_of code) bad)
    → ((u : ℕ) → (recover code w bad ≡ given_back code u) ↔ Recoverable code w bad u)
    × ((recover code w bad ≡ refused_recovered (only_number 23)) ↔ ((u : ℕ) → ¬ (Recoverable code w bad u)))

-- Where such a word exists it is the only one.
abbrev pub RecoveredOnly : Given → Type 0
RecoveredOnly code =
    Accepted code → (w : ℕ) → Unstrayed code w → (bad : List ℕ) → ¬ (WrongPlaces (places_of code) bad)
    → (u v : ℕ) → Recoverable code w bad u → Recoverable code w bad v → u ≡ v

-- The reason: the exclusive or of one, two or three different columns is never 0.
abbrev pub ThreeColumns : Given → Type 0
ThreeColumns code =
    Accepted code
    → let c = column (matrix_of code) in
    let n = places_of code in
    ((p : ℕ) → p < n → c p ≢ 0)
    × ((p q : ℕ) → p < n → q < n → p ≢ q → bit_xor (c p) (c q) ≢ 0)
    × ((p q s : ℕ) → p < n → q < n → s < n → p ≢ q → p ≢ s → q ≢ s → bit_xor (bit_xor (c p) (c q)) (c s) ≢ 0)

-- A code word of which only bad places were changed, and with at most one bad also one place more, is handed back.
abbrev pub RecoveredFromBad : Given → Type 0
RecoveredFromBad code =
    Accepted code → (u w : ℕ) → Unstrayed code u → Clean code u → Unstrayed code w
    → (bad : List ℕ) → ¬ (WrongPlaces (places_of code) bad)
    → (((p : ℕ) → p < places_of code → ¬ (Memᴰ p bad) → bit_at u p ≡ bit_at w p) → recover code w bad ≡ given_back code u)
    × (length bad ≤ 1 → (q : ℕ) → ((p : ℕ) → p < places_of code → ¬ (Memᴰ p bad) → p ≢ q → bit_at u p ≡ bit_at w p)
    → recover code w bad ≡ given_back code u)

-- With none bad it agrees with reading: a clean or mended word is handed back as reading hands it back, a flagged one is 23.
abbrev pub RecoveredAsRead : Given → Type 0
RecoveredAsRead code =
    Accepted code → (w : ℕ) → Unstrayed code w
    → ((read code w).verdict ≤ 2
    → recover code w [] ≡ record { number = 0; told = 0; word = (read code w).word })
    × (3 ≤ (read code w).verdict → recover code w [] ≡ refused_recovered (only_number 23))

-- The order of the bad places does not matter.
abbrev pub RecoveredAnyOrder : Given → Type 0
RecoveredAnyOrder code =
    Accepted code → (w : ℕ) → Unstrayed code w → (bad other : List ℕ)
    → ¬ (WrongPlaces (places_of code) bad) → ¬ (WrongPlaces (places_of code) other)
    → length bad ≡ length other → ((p : ℕ) → Memᴰ p bad ↔ Memᴰ p other)
    → recover code w bad ≡ recover code w other

-- The finder refuses in this order: the code's number and place; 7 for a stray bit in either read.
abbrev pub FindingRefuses : Given → Type 0
FindingRefuses code =
    (x y : Word)
    → let a = bad_places_of code x y in
    (Refused code → a ≡ refused_bad_places (judgement_of code))
    × (Accepted code → Strays code x ⊎ Strays code y → a ≡ refused_bad_places (only_number 7))
    × (Accepted code → Fits code x → Fits code y → (a.number ≡ 0) × (a.told ≡ 0))

-- Place p is a one in its answer exactly when it is below n and the two reads agree there.
abbrev pub FoundExactly : Given → Type 0
FoundExactly code =
    Accepted code → (a b : ℕ) → Unstrayed code a → Unstrayed code b
    → (p : ℕ) → (bit_at (found_in code a b) p ≡ 1) ↔ ((p < places_of code) × (bit_at a p ≡ bit_at b p))

-- The ones of data places stand in the data, those of check places in the check bits.
abbrev pub FoundInParts : Given → Type 0
FoundInParts code =
    Accepted code → (a b : ℕ) → Unstrayed code a → Unstrayed code b → (find_bad code a b).word ≡ in_parts code.k (found_in code a b)

-- If each place keeps what is written or is stuck, two reads after a pattern and its complement name exactly the stuck places.
abbrev pub StuckFound : Given → Type 0
StuckFound code =
    Accepted code → (stuck held w a b : ℕ) → Unstrayed code stuck
    → ReadBack (places_of code) stuck held w a → ReadBack (places_of code) stuck held (complement (places_of code) w) b
    → found_in code a b ≡ stuck

-- And up to three stuck places that were found are recovered: a code word that was written and read back through them is handed back.
abbrev pub FoundRecovered : Given → Type 0
FoundRecovered code =
    Accepted code → (stuck held w a b : ℕ) → Unstrayed code stuck
    → ReadBack (places_of code) stuck held w a → ReadBack (places_of code) stuck held (complement (places_of code) w) b
    → (u x : ℕ) → Unstrayed code u → Clean code u → ReadBack (places_of code) stuck held u x
    → (bad : List ℕ) → length bad ≤ 3 → ¬ (Repeated bad) → ((p : ℕ) → Memᴰ p bad ↔ (bit_at (found_in code a b) p ≡ 1))
    → recover code x bad ≡ given_back code u
