-- THE TWO EDITIONS (02's request 108): every promise of crate editions' Promises.antt, of codes as the exported functions take them, in 64
-- places and in 128; and that the answers there are those of the exported functions. Assumes nothing.
use Rattle.std.specs.Prelude.{◌≡◌, List, ℕ, ◌/◌, ◌≤◌, length}
use Rattle.code.specs.declared.Code.{Code}
use Rattle.code.specs.declared.WideCode.{WideCode}
use Rattle.make.specs.declared.Made.{Made}
use Rattle.make.specs.declared.WideMade.{WideMade}
use Rattle.word.specs.declared.Word.{Word}
use Rattle.word.specs.Word.{joined}
use Rattle.record.specs.Layout.{wide_size, record_size, entry_size, image_limit}
use Rattle.asked.specs.declared.Pass.{Pass}
use Rattle.asked.specs.Pass.{State}
use Rattle.editions.specs.Given.{Edition, ten_bytes, eighteen_bytes, Given, HsiaoCode, given, MadeCode}
use Rattle.editions.specs.Given as of_any
use Rattle.editions.specs.Promises as promises
use Rattle.desk.specs.Answers.{check_bits_of, made_of, judgement_of, rows_of, written_of, word_with, narrowed, read_of, explained_of, cards_of}
use Rattle.desk.specs.Answers.{passed_of, put_back_of, recovered_by, recovered_of, bad_places_by, bad_places_of}
use Rattle.desk.specs.Wide.{wide_check_bits_of, wide_made_of, wide_judgement_of, wide_rows_of, wide_written_of, wide_word, wide_read_of}
use Rattle.desk.specs.Wide.{wide_explained_of, wide_cards_of, wide_passed_of, wide_put_back_of, wide_recovered_of, wide_bad_places_of}

-- ---- codes as they are handed about

abbrev pub narrow_code : Code → HsiaoCode
narrow_code code = record { edition = ten_bytes; columns = code.columns; k = code.k; r = code.r }

abbrev pub wide_code : WideCode → HsiaoCode
wide_code code = record { edition = eighteen_bytes; columns = code.columns; k = code.k; r = code.r }

abbrev pub narrow : Code → Given
narrow code = given (narrow_code code)

abbrev pub wide : WideCode → Given
wide code = given (wide_code code)

abbrev pub narrow_made : Made → MadeCode
narrow_made made = record { number = made.number; code = narrow_code made.code }

abbrev pub wide_made : WideMade → MadeCode
wide_made made = record { number = made.number; code = wide_code made.code }

-- ---- all promises, of codes that are handed about as C: those of any family

pub record PromisedOfAny {C : Type 0} (given : C → Given) : Type 0 where
  pub balance_refuses : (code : C) → promises.BalanceRefuses (given code)
  pub balance_rows : (code : C) → promises.BalanceRows (given code)
  pub balances_add_up : (code : C) → promises.BalancesAddUp (given code)
  pub writing_refuses : (code : C) → promises.WritingRefuses (given code)
  pub writing_solves : (code : C) → promises.WritingSolves (given code)
  pub reading_refuses : (code : C) → promises.ReadingRefuses (given code)
  pub clean_exactly : (code : C) → promises.CleanExactly (given code)
  pub clean_as_read : (code : C) → promises.CleanAsRead (given code)
  pub verdicts_by_syndrome : (code : C) → promises.VerdictsBySyndrome (given code)
  pub syndrome-named : (code : C) → promises.SyndromeNamed (given code)
  pub one_flip : (code : C) → promises.OneFlip (given code)
  pub two_flips : (code : C) → promises.TwoFlips (given code)
  pub mended_clean : (code : C) → promises.MendedClean (given code)
  pub left-as_read : (code : C) → promises.LeftAsRead (given code)
  pub explaining_refuses : (code : C) → promises.ExplainingRefuses (given code)
  pub explained_entries : (code : C) → promises.ExplainedEntries (given code)
  pub entry_tells : (code : C) → promises.EntryTells (given code)
  pub explained_exactly : (code : C) → promises.ExplainedExactly (given code)
  pub explained_once : (code : C) → promises.ExplainedOnce (given code)
  pub explained_in_order : (code : C) → promises.ExplainedInOrder (given code)
  pub explained_flips : (code : C) → promises.ExplainedFlips (given code)
  pub cards_begin_again : (code : C) → promises.CardsBeginAgain (given code)
  pub cards_refuse : (code : C) → promises.CardsRefuse (given code)
  pub card_flagged : (code : C) → promises.CardFlagged (given code)
  pub pass_refuses : (code : C) → promises.PassRefuses (given code)
  pub pass_empty : (code : C) → promises.PassEmpty (given code)
  pub pass_outside : (code : C) → promises.PassOutside (given code)
  pub pass_of-run : (code : C) → promises.PassOfRun (given code)
  pub pass_records : (code : C) → promises.PassRecords (given code)
  pub pass_entries : (code : C) → promises.PassEntries (given code)
  pub pass_applied : (code : C) → promises.PassApplied (given code)
  pub pass_counts : (code : C) → promises.PassCounts (given code)
  pub pass_again : (code : C) → promises.PassAgain (given code)
  pub pass_in-two : (code : C) → promises.PassInTwo (given code)
  pub order_done : (code : C) → promises.OrderDone (given code)
  pub any_order : (code : C) → promises.AnyOrder (given code)
  pub order_tallies : (code : C) → promises.OrderTallies (given code)
  pub two_clerks : (code : C) → promises.TwoClerks (given code)
  pub shared_record : (code : C) → promises.SharedRecord (given code)
  pub recovering_refuses : (code : C) → promises.RecoveringRefuses (given code)
  pub recovered_exactly : (code : C) → promises.RecoveredExactly (given code)
  pub recovered_only : (code : C) → promises.RecoveredOnly (given code)
  pub three_columns : (code : C) → promises.ThreeColumns (given code)
  pub recovered_from_bad : (code : C) → promises.RecoveredFromBad (given code)
  pub recovered_as_read : (code : C) → promises.RecoveredAsRead (given code)
  pub recovered_any_order : (code : C) → promises.RecoveredAnyOrder (given code)
  pub finding_refuses : (code : C) → promises.FindingRefuses (given code)
  pub found_exactly : (code : C) → promises.FoundExactly (given code)
  pub found_in_parts : (code : C) → promises.FoundInParts (given code)
  pub stuck_found : (code : C) → promises.StuckFound (given code)
  pub found_recovered : (code : C) → promises.FoundRecovered (given code)

-- those of an edition, whose codes of Hsiao's family are handed about as C

pub record Promised {C : Type 0} (e : Edition) (own : C → HsiaoCode) : Type 0 where
  pub any : PromisedOfAny (λ code. given (own code))
  pub records-read : promises.RecordsRead e
  pub entries-read : promises.EntriesRead e
  pub accepted_exactly : (code : C) → promises.AcceptedExactly (own code)
  pub three_ones : (code : C) → promises.ThreeOnes (own code)
  pub judged_exactly : (code : C) → promises.JudgedExactly (own code)
  pub check_bits_refused : promises.CheckBitsRefused e
  pub check_bits_least : promises.CheckBitsLeast e
  pub check_bits_room : promises.CheckBitsRoom e
  pub making_exactly : promises.MakingExactly e
  pub made_accepted : promises.MadeAccepted e
  pub made_in_order : promises.MadeInOrder e
  pub made_least : (code : C) → promises.MadeLeast (own code)
  pub making_wanted : promises.MakingWanted e
  pub writing_bits : (code : C) → promises.WritingBits (own code)
  pub verdicts_exactly : (code : C) → promises.VerdictsExactly (own code)
  pub place_named : (code : C) → promises.PlaceNamed (own code)
  pub syndrome-told : (code : C) → promises.SyndromeTold (own code)
  pub askable_exactly : promises.AskableExactly e
  pub stamps_rise : promises.StampsRise e
  pub put_back_refuses : promises.PutBackRefuses e
  pub put_back_exactly : promises.PutBackExactly e
  pub put_back_others : promises.PutBackOthers e
  pub put_back_restores : promises.PutBackRestores e
  pub passed_again : promises.PassedAgain e

-- ---- the demands

-- Every promise holds in the ten-byte edition.
abbrev pub TenBytesPromised : Type 0
TenBytesPromised = Promised ten_bytes narrow_code

-- And every one in the wide edition.
abbrev pub WidePromised : Type 0
WidePromised = Promised eighteen_bytes wide_code

-- There records have 18 bytes, entries 46, and an image at most 65,520, which are 3,640 records.
abbrev pub WideSizes : Type 0
WideSizes =
    (record_size wide_size ≡ 18) × (entry_size wide_size ≡ 46) × (image_limit wide_size ≡ 65520)
    × (image_limit wide_size / record_size wide_size ≡ 3640)

-- A list has at most 72 entries.
abbrev pub WideLists : Type 0
WideLists =
    (code : WideCode) → of_any.Accepted (wide code) → (w : ℕ) → of_any.Unstrayed (wide code) w → (limit : ℕ) → limit ≤ 2
    → length (of_any.explanations (wide code) w limit) ≤ 72

-- 58 to 120 data bits want 8 check bits, 121 to 128 want 9.
abbrev pub WideCheckBits : Type 0
WideCheckBits =
    ((k : ℕ) → 58 ≤ k → k ≤ 120 → wide_check_bits_of k ≡ record { number = 0; bits = 8 })
    × ((k : ℕ) → 121 ≤ k → k ≤ 128 → wide_check_bits_of k ≡ record { number = 0; bits = 9 })

-- The promises are about what the exported functions answer, question by question: those of the ten-byte edition, whose words have nothing
-- in their high half.
pub record TenBytesAnswers : Type 0 where
  pub check_bits : (k : ℕ) → of_any.check_bits_of ten_bytes k ≡ check_bits_of k
  pub made : (k r : ℕ) → of_any.made_of ten_bytes k r ≡ narrow_made (made_of k r)
  pub judgement : (code : Code) → of_any.judgement_of (narrow code) ≡ judgement_of code
  pub rows : (code : Code) → of_any.rows_of (narrow code) ≡ rows_of code
  pub written : (code : Code) (low : ℕ) → of_any.written_of (narrow code) low ≡ written_of code low
  pub reading : (code : Code) (low check : ℕ) → narrowed (of_any.read_of (narrow code) (word_with low check)) ≡ read_of code low check
  pub explained : (code : Code) (low check limit : ℕ) (list : List ℕ)
      → of_any.explained_of (narrow code) (word_with low check) limit list ≡ explained_of code low check limit list
  pub cards : (code : Code) (b : ℕ) → of_any.cards_of (narrow code) b ≡ cards_of code b
  pub put_back : (image journal : List ℕ) (used : ℕ) → of_any.put_back_of ten_bytes image journal used ≡ put_back_of image journal used
  pub recovered : (code : Code) (low check : ℕ) (bad : List ℕ)
      → recovered_by (of_any.recovered_of (narrow code) (word_with low check) bad) ≡ recovered_of code low check bad
  pub found : (code : Code) (low check low' check' : ℕ)
      → bad_places_by (of_any.bad_places_of (narrow code) (word_with low check) (word_with low' check')) ≡ bad_places_of code low check low' check'
  pub passed : (code : Code) (p : Pass) (s : State) → of_any.passed_of (narrow code) p s ≡ passed_of code p s

-- And those of the wide edition.
pub record WideAnswers : Type 0 where
  pub check_bits : (k : ℕ) → of_any.check_bits_of eighteen_bytes k ≡ wide_check_bits_of k
  pub made : (k r : ℕ) → of_any.made_of eighteen_bytes k r ≡ wide_made (wide_made_of k r)
  pub judgement : (code : WideCode) → of_any.judgement_of (wide code) ≡ wide_judgement_of code
  pub rows : (code : WideCode) → of_any.rows_of (wide code) ≡ wide_rows_of code
  pub written : (code : WideCode) (low high : ℕ) → of_any.written_of (wide code) (joined low high) ≡ wide_written_of code low high
  pub reading : (code : WideCode) (low high check : ℕ)
      → of_any.read_of (wide code) (wide_word low high check) ≡ wide_read_of code low high check
  pub explained : (code : WideCode) (x : Word) (limit : ℕ) (list : List ℕ)
      → of_any.explained_of (wide code) x limit list ≡ wide_explained_of code x limit list
  pub cards : (code : WideCode) (b : ℕ) → of_any.cards_of (wide code) b ≡ wide_cards_of code b
  pub put_back : (image journal : List ℕ) (used : ℕ) → of_any.put_back_of eighteen_bytes image journal used ≡ wide_put_back_of image journal used
  pub recovered : (code : WideCode) (x : Word) (bad : List ℕ) → of_any.recovered_of (wide code) x bad ≡ wide_recovered_of code x bad
  pub found : (code : WideCode) (x y : Word) → of_any.bad_places_of (wide code) x y ≡ wide_bad_places_of code x y
  pub passed : (code : WideCode) (p : Pass) (s : State) → of_any.passed_of (wide code) p s ≡ wide_passed_of code p s
