-- A CODE OF ANY EDITION, what is answered of it, and the words in which its promises are said. Assumes nothing.
use Prim.{Unit}
use Rattle.std.specs.Prelude.{◌≡◌, ◌⊎◌, cond, List, [], ◌∷◌, ◌++◌, ℕ, zero, suc, ◌+◌, ◌-◌, ◌*◌, ◌/◌, ◌%◌, ◌^◌, ◌≤◌, ◌<◌, eqb, ltb, pos, length, take, replicate}
use Rattle.parity.specs.Odd.{all_rows}
use Rattle.columns.specs.Mix.{column}
use Rattle.code.specs.declared.Opened.{Opened}
use Rattle.code.specs.declared.Refusal.{Refusal}
use Rattle.judge.specs.Judge.{judge_in}
use Rattle.judge.specs.Rule.{matrix}
use Rattle.code.specs.Opened.{Standing, standing_of, judgement_in, opened_by, columns_of}
use Rattle.row_judge.specs.Judge.{judge_rows_in}
use Rattle.rows.specs.Opened.{standing_of_rows}
use Rattle.wanted.specs.declared.CheckBits.{CheckBits}
use Rattle.wanted.specs.Wanted.{wanted_in}
use Rattle.balance.specs.declared.RowBalance.{RowBalance}
use Rattle.balance.specs.Balance.{balances_of}
use Rattle.make.specs.Made.{make_number, making_in}
use Rattle.word.specs.declared.Word.{Word}
use Rattle.reading.specs.declared.Reading.{Reading}
use Rattle.writing.specs.declared.CheckWord.{CheckWord}
use Rattle.word.specs.Word.{joined, as_number, in_parts}
use Rattle.writing.specs.Writing.{writing_of}
use Rattle.reading.specs.Reading.{reading_of}
use Rattle.explain.specs.declared.Listing.{Listing}
use Rattle.explain.specs.Explanations.{Explained, explain_of}
use Rattle.explain.specs.Explanations as explaining
use Rattle.card_check.specs.declared.CardCheck.{CardCheck}
use Rattle.cards.specs.Cards.{Card, all_cards}
use Rattle.card_check.specs.Checking.{carded_of}
use Rattle.record.specs.declared.Tally.{Tally}
use Rattle.record.specs.Bytes.{AllBytes}
use Rattle.record.specs.Layout.{data_size, wide_size, record_size, entry_size, Entry}
use Rattle.record.specs.Run.{record_at}
use Rattle.record.specs.Journal.{entries_from}
use Rattle.at_record.specs.Outcome.{word_in}
use Rattle.pass.specs.declared.PassAnswer.{PassAnswer}
use Rattle.asked.specs.declared.Pass.{Pass}
use Rattle.asked.specs.Pass.{State}
use Rattle.pass.specs.Pass.{After, after_pass, reader_of, needed_run}
use Rattle.passes.specs.Twice.{state_in}
use Rattle.orders.specs.Orders.{Ends, needed_by_all, Separate, OrderOf, passes_after}
use Rattle.put_back.specs.declared.PutBack.{PutBack}
use Rattle.put_back.specs.Back.{Returned}
use Rattle.put_back.specs.Back as backwards
use Rattle.history.specs.History as history
use Rattle.recover.specs.declared.Recovery.{Recovery}
use Rattle.recover.specs.Recover.{recover_of}
use Rattle.recovered.specs.Outside.{differing}
use Rattle.finder.specs.declared.Found.{Found}
use Rattle.finder.specs.Finder.{find_of}

-- ---- editions and codes

-- an edition: the places that a code keeps, so its most data bits, and the bytes of data in a record
pub record Edition : Type 0 where
  pub places : ℕ
  pub bytes : ℕ

abbrev pub ten_bytes : Edition
ten_bytes = record { places = 64; bytes = data_size }

abbrev pub eighteen_bytes : Edition
eighteen_bytes = record { places = 128; bytes = wide_size }

-- what both have in common: a word has two halves, and a record has room for the data bits
pub record Known (e : Edition) : Type 0 where
  pub most : e.places ≤ 128
  pub halves : 8 ≤ e.bytes
  pub held : e.places ≡ 8 * e.bytes

-- Hsiao's family, and codes that bring all n columns and a chosen set of rows
pub data Family : Type 0 where
  hsiao : Family
  chosen : ℕ → Family

-- a code of a family as it is handed about in an edition: its places, k data bits and r check bits
pub record Given : Type 0 where
  pub edition : Edition
  pub family : Family
  pub columns : List ℕ
  pub k : ℕ
  pub r : ℕ

-- how many places it keeps: those with check columns of their own keep 16 more
abbrev pub places_for : Family → ℕ → ℕ
places_for hsiao most = most
places_for (chosen rows) most = most + 16

-- what its judge says
abbrev pub standing_by : Family → ℕ → List ℕ → ℕ → ℕ → Standing
standing_by hsiao most columns k r = standing_of (judge_in most columns k r)
standing_by (chosen rows) most columns k r = standing_of_rows (judge_rows_in most columns (k + r) r rows)

-- its n columns, and its set of rows
abbrev pub matrix_by : Family → List ℕ → ℕ → ℕ → List ℕ
matrix_by hsiao columns k r = matrix (take k columns) r
matrix_by (chosen rows) columns k r = take (k + r) columns

abbrev pub rows_by : Family → ℕ → ℕ
rows_by hsiao r = all_rows r
rows_by (chosen rows) r = rows

abbrev pub kept_places : Given → ℕ
kept_places code = places_for code.family code.edition.places

abbrev pub standing_for : Given → Standing
standing_for code = standing_by code.family code.edition.places code.columns code.k code.r

abbrev pub matrix_of : Given → List ℕ
matrix_of code = matrix_by code.family code.columns code.k code.r

abbrev pub set_of : Given → ℕ
set_of code = rows_by code.family code.r

abbrev pub opened : Given → Opened
opened code = opened_by (standing_for code) (matrix_of code) code.k (set_of code)

-- its k data columns
abbrev pub data_columns : Given → List ℕ
data_columns code = take code.k code.columns

-- a code of Hsiao's family
pub record HsiaoCode : Type 0 where
  pub edition : Edition
  pub columns : List ℕ
  pub k : ℕ
  pub r : ℕ

abbrev pub given : HsiaoCode → Given
given code = record { edition = code.edition; family = hsiao; columns = code.columns; k = code.k; r = code.r }

abbrev pub places_of : Given → ℕ
places_of code = code.k + code.r

-- a code with a chosen set of rows: n columns, the last r of them check columns
pub record ChosenCode : Type 0 where
  pub edition : Edition
  pub columns : List ℕ
  pub n : ℕ
  pub r : ℕ
  pub rows : ℕ

abbrev pub chosen_of : ChosenCode → Given
chosen_of code =
    record { edition = code.edition; family = chosen code.rows; columns = code.columns; k = code.n - code.r; r = code.r }

-- ---- what is answered

abbrev pub check_bits_of : Edition → ℕ → CheckBits
check_bits_of e k = wanted_in e.places k

pub record MadeCode : Type 0 where
  pub number : ℕ
  pub code : HsiaoCode

abbrev pub made_with : Edition → ℕ → List ℕ → ℕ → ℕ → MadeCode
made_with e number columns k r = record { number = number; code = record { edition = e; columns = columns; k = k; r = r } }

abbrev pub made_of : Edition → ℕ → ℕ → MadeCode
made_of e k r = making_in (made_with e) e.places (make_number e.places k r) k r

abbrev pub judgement_of : Given → Refusal
judgement_of code = judgement_in (opened code)

abbrev pub rows_of : Given → RowBalance
rows_of code = balances_of (opened code)

abbrev pub written_of : Given → ℕ → CheckWord
written_of code bits = writing_of (opened code) bits

abbrev pub read_of : Given → Word → Reading
read_of code x = reading_of (opened code) x

abbrev pub explained_of : Given → Word → ℕ → List ℕ → Explained
explained_of code x limit list = explain_of (opened code) x limit list

abbrev pub cards_of : Given → ℕ → CardCheck
cards_of code b = carded_of (opened code) b

abbrev pub passed_of : Given → Pass → State → After
passed_of code p s = after_pass (opened code) code.edition.bytes p s

-- ---- accepted and refused

-- a code has all the places that its family keeps
pub record Handed (code : Given) : Type 0 where
  pub places : length code.columns ≡ kept_places code
  pub known : Known code.edition

pub record Accepted (code : Given) : Type 0 where
  pub handed : Handed code
  pub number : (judgement_of code).number ≡ 0

abbrev pub Refused : Given → Type 0
Refused code = ¬ ((judgement_of code).number ≡ 0)

-- an accepted code of k data bits and r check bits; each of its places holds a number of 16 bits
pub record CodeOf (e : Edition) (k r : ℕ) : Type 0 where
  pub columns : List ℕ
  pub stored : (p : ℕ) → p < e.places → column columns p < 2 ^ 16
  pub accepted : Accepted (record { edition = e; family = hsiao; columns = columns; k = k; r = r })

-- it is made; and a refusal: this number, and a code of k 0 and r 0 with zeros alone
abbrev pub IsMade : Edition → ℕ → ℕ → Type 0
IsMade e k r = (made_of e k r).number ≡ 0

abbrev pub no_code : Edition → ℕ → MadeCode
no_code e number = made_with e number (replicate e.places 0) 0 0

-- its cards of b places, by their numbers
abbrev pub cards_for : Given → ℕ → List Card
cards_for code b = all_cards b code.k (matrix_of code)

-- ---- words: data bits in two halves, and check bits

-- the data bits as one number
abbrev pub bits_of : Word → ℕ
bits_of x = joined x.low x.high

-- a stray bit
abbrev pub Strays : Given → Word → Type 0
Strays code x = (2 ^ code.k ≤ bits_of x) ⊎ (2 ^ code.r ≤ x.check)

-- halves of 64 bits, and no stray bit
pub record Fits (code : Given) (x : Word) : Type 0 where
  pub low_half : x.low < 2 ^ 64
  pub data_bits : bits_of x < 2 ^ code.k
  pub check_bits : x.check < 2 ^ code.r

-- a word as one number, whose binary digit p is place p: it has no stray bit
abbrev pub Unstrayed : Given → ℕ → Type 0
Unstrayed code w = w < 2 ^ places_of code

abbrev pub read : Given → ℕ → Reading
read code w = read_of code (in_parts code.k w)

-- a reading hands back the word u
abbrev pub HandsBack : Given → Reading → ℕ → Type 0
HandsBack code a u = a.word ≡ in_parts code.k u

-- it is answered, and clean
pub record Clean (code : Given) (w : ℕ) : Type 0 where
  pub number : (read code w).number ≡ 0
  pub verdict : (read code w).verdict ≡ 0

-- the explanations of a word
abbrev pub explanations : Given → ℕ → ℕ → List (List ℕ)
explanations code w limit = explaining.explanations (opened code).rows (columns_of (opened code)) (opened code).k w limit

abbrev pub explanations_of : Given → Word → ℕ → List (List ℕ)
explanations_of code x limit = explanations code (as_number code.k x) limit

-- ---- refused answers: a number, what is told, and 0 everywhere else

abbrev pub told : ℕ → ℕ → Refusal
told number what = record { number = number; told = what }

abbrev pub only_number : ℕ → Refusal
only_number number = told number 0

abbrev pub refused_rows : Refusal → RowBalance
refused_rows f = record { number = f.number; told = f.told; rows = replicate 16 (pos 0) }

abbrev pub refused_writing : Refusal → CheckWord
refused_writing f = record { number = f.number; told = f.told; check = 0 }

abbrev pub no_word : Word
no_word = record { low = 0; high = 0; check = 0 }

abbrev pub refused_reading : Refusal → Reading
refused_reading f = record { number = f.number; told = f.told; verdict = 0; place = 0; syndrome = 0; word = no_word }

abbrev pub refused_listing : Refusal → Listing
refused_listing f = record { number = f.number; told = f.told; length = 0 }

abbrev pub refused_cards : Refusal → CardCheck
refused_cards f = record { number = f.number; told = f.told; card = 0; mask = 0 }

abbrev pub all_zero : Tally
all_zero = record { clean = 0; «data» = 0; check = 0; even = 0; odd = 0; stray = 0 }

abbrev pub refused_pass : Refusal → PassAnswer
refused_pass f = record { number = f.number; told = f.told; used = 0; tally = all_zero }

-- ---- images and journals of an edition

abbrev pub record_of : Edition → List ℕ → ℕ → List ℕ
record_of e image i = record_at (record_size e.bytes) image i

abbrev pub entry_bytes_at : Edition → List ℕ → ℕ → List ℕ
entry_bytes_at e journal m = record_at (entry_size e.bytes) journal m

-- how many entries a journal has room for, and how many the run from a up to b needs
abbrev pub room : Edition → List ℕ → ℕ
room e journal = length journal / entry_size e.bytes

abbrev pub needed : Given → List ℕ → ℕ → ℕ → ℕ
needed code image a b = needed_run (reader_of (opened code) code.edition.bytes) image a b

-- the bytes of an entry: stamp and record number, low byte first, verdict, place, syndrome, low byte first, the record as read and as left
abbrev pub entry_of : ℕ → ℕ → ℕ → ℕ → ℕ → List ℕ → List ℕ → List ℕ
entry_of stamp i verdict place syndrome before after =
    (stamp % 256 ∷ stamp / 256 % 256 ∷ stamp / 256 / 256 % 256 ∷ stamp / 256 / 256 / 256 % 256
    ∷ i % 256 ∷ i / 256 % 256 ∷ verdict ∷ place ∷ syndrome % 256 ∷ syndrome / 256 % 256 ∷ [])
    ++ (before ++ after)

-- reading the word that the record i says
abbrev pub read_at : Given → List ℕ → ℕ → Reading
read_at code image i = read_of code (word_in code.edition.bytes (record_of code.edition image i))

-- its verdict and its place in a pass: those of the reading; a stray word has verdict 5 and place 255
abbrev pub verdict_of : Given → List ℕ → ℕ → ℕ
verdict_of code image i = cond (eqb (read_at code image i).number 7) 5 (read_at code image i).verdict

abbrev pub place_for : Given → List ℕ → ℕ → ℕ
place_for code image i = cond (eqb (read_at code image i).number 7) 255 (read_at code image i).place

-- and its syndrome: that of the reading, so 0 for a stray word
abbrev pub syndrome_for : Given → List ℕ → ℕ → ℕ
syndrome_for code image i = (read_at code image i).syndrome

-- an image is bytes; up to 64 data bits nothing depends on it
abbrev pub InBytes : Given → List ℕ → Type 0
InBytes code image = (code.k ≤ 64) ⊎ AllBytes image

-- a pass: its answer, image and journal afterwards, and that it is done
abbrev pub answer_of : Given → Pass → State → PassAnswer
answer_of code p s = (passed_of code p s).answer

abbrev pub image_after : Given → Pass → State → List ℕ
image_after code p s = (passed_of code p s).image

abbrev pub journal_after : Given → Pass → State → List ℕ
journal_after code p s = (passed_of code p s).journal

abbrev pub Done : Given → Pass → State → Type 0
Done code p s = (answer_of code p s).number ≡ 0

-- a refused pass: this number and what it tells, count in use and tally all zero, and no byte of image or journal changed
pub record PassRefused (code : Given) (p : Pass) (s : State) (f : Refusal) : Type 0 where
  pub answer : answer_of code p s ≡ refused_pass f
  pub same_image : image_after code p s ≡ s.image
  pub same_journal : journal_after code p s ≡ s.journal

-- what the next pass works on: image and journal as they are left, and the count in use, which a refused pass leaves
abbrev pub state_after : Given → Pass → State → State
state_after code p s = state_in s (passed_of code p s)

-- a stamp is a number of 32 bits
abbrev pub Stamped : Pass → Type 0
Stamped p = p.stamp < 2 ^ 32

-- passes in their order, each under a code of its own, of either family, and told the true count in use
pub record Turn : Type 0 where
  pub family : Family
  pub columns : List ℕ
  pub k : ℕ
  pub r : ℕ
  pub pass : Pass

abbrev pub code_in : Edition → Turn → Given
code_in e x = record { edition = e; family = x.family; columns = x.columns; k = x.k; r = x.r }

unfoldable pub turns_after : Edition → List Turn → State → State
turns_after e [] s = s
turns_after e (x ∷ xs) s = turns_after e xs (state_after (code_in e x) x.pass s)

unfoldable pub AllStamped : List Turn → Type 0
AllStamped [] = Unit
AllStamped (x ∷ xs) = Stamped x.pass × AllStamped xs

-- the new entries of a pass, as the journal says them
abbrev pub new_entries : Given → Pass → State → List Entry
new_entries code p s = entries_from code.edition.bytes (journal_after code p s) s.used ((answer_of code p s).used - s.used)

-- how many of the n records from a on have the verdict v: one for each, the newest last
unfoldable pub count_from : Given → List ℕ → ℕ → ℕ → ℕ → ℕ
count_from code image v a zero = 0
count_from code image v a (suc n) = count_from code image v a n + cond (eqb (verdict_of code image (a + n)) v) 1 0

-- ---- any order of passes (02's request 113)

-- how many entries all the runs need under this code
abbrev pub needed_for_all : Given → List ℕ → List Ends → ℕ
needed_for_all code image runs = needed_by_all (reader_of (opened code) code.edition.bytes) image runs

-- runs of an image of the code's edition, no record in two of them, and journal room for the entries of all
abbrev pub RunsApart : Given → List Ends → State → Type 0
RunsApart code runs s = Separate (reader_of (opened code) code.edition.bytes) runs s

-- an order of the runs: a pass for each, with stamps that do not go back
abbrev pub InSomeOrder : Edition → List Ends → State → List Pass → Type 0
InSomeOrder e runs s passes = OrderOf e.bytes runs s passes

-- image, journal and count in use after these passes under one code, each told the count in use
abbrev pub after_all : Given → List Pass → State → State
after_all code passes s = passes_after (passed_of code) passes s

-- the entry of a record that is left as it was read, by a pass with this stamp
abbrev pub as_it_was : Given → List ℕ → ℕ → ℕ → Entry
as_it_was code image i stamp =
    record {
      stamp = stamp;
      number = i;
      verdict = verdict_of code image i;
      place = place_for code image i;
      syndrome = syndrome_for code image i;
      before = record_of code.edition image i;
      after = record_of code.edition image i;
    }

-- ---- the put-back (02's request 104)

abbrev pub put_back_of : Edition → List ℕ → List ℕ → ℕ → Returned
put_back_of e image journal used = backwards.put_back_of e.bytes image journal used

-- of what passes left: its answer, and the image afterwards
abbrev pub answer_back : Edition → State → PutBack
answer_back e s = (put_back_of e s.image s.journal s.used).answer

abbrev pub image_back : Edition → State → List ℕ
image_back e s = (put_back_of e s.image s.journal s.used).image

-- a number, and how many entries were put back; nothing is told
abbrev pub back_with : ℕ → ℕ → PutBack
back_with number count = record { number = number; told = 0; count = count }

-- the entries in use, counted from the last; the image once the last m are put back; that each of them matched; that the next does not
abbrev pub from_last : Edition → State → ℕ → Entry
from_last e s m = history.from_last e.bytes s.journal s.used m

abbrev pub last_back : Edition → State → ℕ → List ℕ
last_back e s m = history.last_back e.bytes s.journal s.used m s.image

abbrev pub LastMatch : Edition → State → ℕ → Type 0
LastMatch e s m = history.LastMatch e.bytes s.journal s.used m s.image

abbrev pub StopsAt : Edition → State → ℕ → Type 0
StopsAt e s m = history.StopsAt e.bytes s.journal s.used m s.image

-- ---- places known to be bad (02's request 112)

abbrev pub recovered_of : Given → Word → List ℕ → Recovery
recovered_of code x bad = recover_of (opened code) x bad

abbrev pub bad_places_of : Given → Word → Word → Found
bad_places_of code x y = find_of (opened code) x y

-- recovering the word w, one number; and the word u is handed back
abbrev pub recover : Given → ℕ → List ℕ → Recovery
recover code w bad = recovered_of code (in_parts code.k w) bad

abbrev pub given_back : Given → ℕ → Recovery
given_back code u = record { number = 0; told = 0; word = in_parts code.k u }

abbrev pub refused_recovered : Refusal → Recovery
refused_recovered f = record { number = f.number; told = f.told; word = no_word }

-- u is a code word, and outside the bad places it differs from w in at most one place where none or one is bad, in none where more are
pub record Recoverable (code : Given) (w : ℕ) (bad : List ℕ) (u : ℕ) : Type 0 where
  pub fits : Unstrayed code u
  pub clean : Clean code u
  pub near : differing (places_of code) bad u w ≤ cond (ltb (length bad) 2) 1 0

-- the finder's answer for two words, each one number, and the word of ones in it
abbrev pub find_bad : Given → ℕ → ℕ → Found
find_bad code a b = bad_places_of code (in_parts code.k a) (in_parts code.k b)

abbrev pub found_in : Given → ℕ → ℕ → ℕ
found_in code a b = as_number code.k (find_bad code a b).word

abbrev pub refused_bad_places : Refusal → Found
refused_bad_places f = record { number = f.number; told = f.told; word = no_word }
