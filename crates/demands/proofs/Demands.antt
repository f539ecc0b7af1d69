-- THE PROOFS of the demands: each named proposition of specs/Demands.antt in its order, then of Editions, Rows and Quick. Assumes nothing.
use mathlib.Core.Path.{refl}
use Rattle.demands.specs.Demands as demands
use Rattle.demands.proofs.OfTallies as tallies
use Rattle.demands.proofs.OfJudge as judge
use Rattle.demands.proofs.OfCodes as codes
use Rattle.demands.proofs.OfWords as words
use Rattle.demands.proofs.OfLists as lists
use Rattle.demands.proofs.OfCards as cards
use Rattle.demands.proofs.OfPasses as passes
use Rattle.demands.proofs.OfOrders as orders
use Rattle.demands.proofs.OfSheets as sheets
use Rattle.demands.proofs.OfMaking as making
use Rattle.demands.proofs.OfBytes as bytes
use Rattle.demands.proofs.OfPutBack as back
use Rattle.demands.proofs.OfBad as bad
use Rattle.demands.specs.Editions as of-editions
use Rattle.demands.specs.Rows as of-rows
use Rattle.demands.specs.Quick as of-quick
use Rattle.demands.proofs.OfEditions as editions
use Rattle.demands.proofs.OfRows as rows

pub sizes : demands.Sizes
sizes = tallies.sizes

pub records-read : demands.RecordsRead
records-read = tallies.records-read

pub entries-read : demands.EntriesRead
entries-read = tallies.entries-read

-- ---- the code

pub accepted_exactly : demands.AcceptedExactly
accepted_exactly = judge.accepted_exactly

pub three_ones : demands.ThreeOnes
three_ones = judge.three_ones

pub judged_exactly : demands.JudgedExactly
judged_exactly = judge.judged_exactly

pub check_bits_refused : demands.CheckBitsRefused
check_bits_refused = codes.check_bits_refused

pub check_bits_least : demands.CheckBitsLeast
check_bits_least = codes.check_bits_least

pub check_bits_room : demands.CheckBitsRoom
check_bits_room = codes.check_bits_room

pub balance_refuses : demands.BalanceRefuses
balance_refuses = codes.balance_refuses

pub balance_rows : demands.BalanceRows
balance_rows = codes.balance_rows

pub balances_add_up : demands.BalancesAddUp
balances_add_up = codes.balances_add_up

-- ---- writing and reading one word

pub writing_refuses : demands.WritingRefuses
writing_refuses = words.writing_refuses

pub writing_bits : demands.WritingBits
writing_bits = words.writing_bits

pub reading_refuses : demands.ReadingRefuses
reading_refuses = words.reading_refuses

pub clean_exactly : demands.CleanExactly
clean_exactly = words.clean_exactly

pub clean_as_read : demands.CleanAsRead
clean_as_read = words.clean_as_read

pub verdicts_exactly : demands.VerdictsExactly
verdicts_exactly = words.verdicts_exactly

pub place_named : demands.PlaceNamed
place_named = words.place_named

pub syndrome-told : demands.SyndromeTold
syndrome-told = words.syndrome-told

pub one_flip : demands.OneFlip
one_flip = words.one_flip

pub two_flips : demands.TwoFlips
two_flips = words.two_flips

pub mended_clean : demands.MendedClean
mended_clean = words.mended_clean

pub left-as_read : demands.LeftAsRead
left-as_read = words.left-as_read

-- ---- explanations

pub explaining_refuses : demands.ExplainingRefuses
explaining_refuses = lists.explaining_refuses

pub explained_entries : demands.ExplainedEntries
explained_entries = lists.explained_entries

pub entry_tells : demands.EntryTells
entry_tells = lists.entry_tells

pub explained_exactly : demands.ExplainedExactly
explained_exactly = lists.explained_exactly

pub explained_once : demands.ExplainedOnce
explained_once = lists.explained_once

pub explained_in_order : demands.ExplainedInOrder
explained_in_order = lists.explained_in_order

pub explained_flips : demands.ExplainedFlips
explained_flips = lists.explained_flips

-- ---- cards

pub cards_begin_again : demands.CardsBeginAgain
cards_begin_again = cards.cards_begin_again

pub cards_refuse : demands.CardsRefuse
cards_refuse = cards.cards_refuse

pub card_flagged : demands.CardFlagged
card_flagged = cards.flagged

-- ---- the tally and the pass

pub tally_counts : demands.TallyCounts
tally_counts = tallies.tally_counts

pub pass_refuses : demands.PassRefuses
pass_refuses = passes.pass_refuses

pub askable_exactly : demands.AskableExactly
askable_exactly = passes.askable_exactly

pub pass_empty : demands.PassEmpty
pass_empty = passes.pass_empty

pub pass_outside : demands.PassOutside
pass_outside = passes.pass_outside

pub pass_of-run : demands.PassOfRun
pass_of-run = passes.of_run

pub pass_records : demands.PassRecords
pass_records = passes.pass_records

pub pass_entries : demands.PassEntries
pass_entries = passes.pass_entries

pub pass_applied : demands.PassApplied
pass_applied = passes.pass_applied

pub stamps_rise : demands.StampsRise
stamps_rise = passes.stamps_rise

pub pass_counts : demands.PassCounts
pass_counts = passes.pass_counts

pub pass_again : demands.PassAgain
pass_again = passes.pass_again

pub pass_in-two : demands.PassInTwo
pass_in-two = passes.pass_in-two

-- ---- any order of passes

pub apart_exactly : demands.ApartExactly
apart_exactly = orders.apart_by_ends

pub order_done : demands.OrderDone
order_done = orders.order_done

pub any_order : demands.AnyOrder
any_order = orders.any_order

pub order_tallies : demands.OrderTallies
order_tallies = orders.order_tallies

pub two_clerks : demands.TwoClerks
two_clerks = orders.two_clerks

pub shared_record : demands.SharedRecord
shared_record = orders.shared_record

-- ---- station sheets

pub sheet_refuses : demands.SheetRefuses
sheet_refuses = sheets.sheet_refuses

pub sheet_made : demands.SheetMade
sheet_made = sheets.sheet_made

pub sheet_yes : demands.SheetYes
sheet_yes = sheets.sheet_yes

pub counts_exact : demands.CountsExact
counts_exact = sheets.counts_exact

pub share_nearest : demands.ShareNearest
share_nearest = sheets.share_nearest

pub share_between : demands.ShareBetween
share_between = sheets.share_between

pub share_ends : demands.ShareEnds
share_ends = sheets.share_ends

pub station_nearest : demands.StationNearest
station_nearest = sheets.station_nearest

-- ---- making a code

pub making_exactly : demands.MakingExactly
making_exactly = making.making_exactly

pub made_accepted : demands.MadeAccepted
made_accepted = making.made_accepted_code

pub made_in_order : demands.MadeInOrder
made_in_order = making.made_in_order

pub made_least : demands.MadeLeast
made_least = making.made_least_code

pub making_wanted : demands.MakingWanted
making_wanted = making.making_wanted

-- ---- words of ten bytes

pub matrix-t : demands.MatrixT
matrix-t = bytes.matrix-t

pub order_of_t : demands.OrderOfT
order_of_t = bytes.order_of_t

pub sums_inverted : demands.SumsInverted
sums_inverted = bytes.sums_inverted

pub byte_writing_refuses : demands.ByteWritingRefuses
byte_writing_refuses = bytes.byte_writing_refuses

pub byte_word_lem : demands.ByteWord
byte_word_lem = bytes.byte_word_lem

pub byte_checks : demands.ByteChecks
byte_checks = bytes.byte_checks

pub byte_reading_refuses : demands.ByteReadingRefuses
byte_reading_refuses = bytes.byte_reading_refuses

pub byte_steps : demands.ByteSteps
byte_steps = bytes.byte_steps

pub byte_clean : demands.ByteClean
byte_clean = bytes.byte_clean

pub byte_left : demands.ByteLeft
byte_left = bytes.byte_left

pub byte_mended : demands.ByteMended
byte_mended = bytes.byte_mended

pub byte_samples : demands.ByteSamples
byte_samples = bytes.byte_samples

pub byte_one : demands.ByteOne
byte_one = bytes.byte_one

pub byte_two : demands.ByteTwo
byte_two = bytes.byte_two

-- ---- putting back

pub put_back_refuses : demands.PutBackRefuses
put_back_refuses = back.put_back_refuses

pub put_back_exactly : demands.PutBackExactly
put_back_exactly = back.put_back_exactly

pub put_back_others : demands.PutBackOthers
put_back_others = back.put_back_others

pub put_back_restores : demands.PutBackRestores
put_back_restores = back.put_back_restores

pub passed_again : demands.PassedAgain
passed_again = back.passed_again

-- ---- places known to be bad

pub recovering_refuses : demands.RecoveringRefuses
recovering_refuses = bad.recovering_refuses

pub recovered_exactly : demands.RecoveredExactly
recovered_exactly = bad.recovered_exactly

pub recovered_only : demands.RecoveredOnly
recovered_only = bad.recovered_only

pub three_columns : demands.ThreeColumns
three_columns = bad.three_columns

pub recovered_from_bad : demands.RecoveredFromBad
recovered_from_bad = bad.recovered_from_bad

pub recovered_as_read : demands.RecoveredAsRead
recovered_as_read = bad.recovered_as_read

pub recovered_any_order : demands.RecoveredAnyOrder
recovered_any_order = bad.recovered_any_order

pub finding_refuses : demands.FindingRefuses
finding_refuses = bad.finding_refuses

pub found_exactly : demands.FoundExactly
found_exactly = bad.found_exactly

pub found_in_parts : demands.FoundInParts
found_in_parts = bad.found_in_parts

pub stuck_found : demands.StuckFound
stuck_found = bad.stuck_found

pub found_recovered : demands.FoundRecovered
found_recovered = bad.found_recovered

-- ---- the two editions

pub ten_bytes_promised : of-editions.TenBytesPromised
ten_bytes_promised = editions.ten_bytes_promised

pub wide_promised : of-editions.WidePromised
wide_promised = editions.wide_promised

pub wide_sizes : of-editions.WideSizes
wide_sizes = editions.wide_sizes

pub wide_lists : of-editions.WideLists
wide_lists = editions.wide_lists

pub wide_check_bits : of-editions.WideCheckBits
wide_check_bits = editions.wide_check_bits

pub ten_bytes_answers : of-editions.TenBytesAnswers
ten_bytes_answers = editions.ten_bytes_answers

pub wide_answers : of-editions.WideAnswers
wide_answers = editions.wide_answers

-- ---- codes with a chosen set of rows

pub accepted_rows_exactly : of-rows.AcceptedRowsExactly
accepted_rows_exactly = rows.accepted_rows_exactly

pub judged_rows_exactly : of-rows.JudgedRowsExactly
judged_rows_exactly = rows.judged_rows_exactly

pub rows_promised : of-rows.RowsPromised
rows_promised = rows.rows_promised

pub wide_rows_promised : of-rows.WideRowsPromised
wide_rows_promised = rows.wide_rows_promised

pub rows_answers : of-rows.RowsAnswers
rows_answers = rows.rows_answers

pub wide_rows_answers : of-rows.WideRowsAnswers
wide_rows_answers = rows.wide_rows_answers

pub same_answers : of-rows.SameAnswers
same_answers = rows.same_answers

pub same_wide_answers : of-rows.SameWideAnswers
same_wide_answers = rows.same_wide_answers

-- ---- the quick engine: its answers are said by the plain one's definition

pub quick_as_plain : of-quick.QuickAsPlain
quick_as_plain =
    record { ten = λ code p s. refl; wide = λ code p s. refl; rows = λ code p s. refl; wide_rows = λ code p s. refl }
