-- What each exported function answers: the question that its layer defines, asked of the opened code; a sheet, the maker and a word of ten
-- bytes have none. Assumes nothing.
use Rattle.std.specs.Prelude.{List, ℕ, Float}
use Rattle.code.specs.declared.Code.{Code}
use Rattle.code.specs.declared.Refusal.{Refusal}
use Rattle.code.specs.Opened.{judgement_in, opened_of}
use Rattle.wanted.specs.declared.CheckBits.{CheckBits}
use Rattle.wanted.specs.Wanted.{wanted_of}
use Rattle.balance.specs.declared.RowBalance.{RowBalance}
use Rattle.balance.specs.Balance.{balances_of}
use Rattle.word.specs.declared.Word.{Word}
use Rattle.reading.specs.declared.Reading.{Reading}
use Rattle.writing.specs.declared.CheckWord.{CheckWord}
use Rattle.writing.specs.Writing.{writing_of}
use Rattle.reading.specs.Reading.{reading_of}
use Rattle.record.specs.Layout.{data_size}
use Rattle.explain.specs.Explanations.{Explained, explain_of}
use Rattle.card_check.specs.declared.CardCheck.{CardCheck}
use Rattle.card_check.specs.Checking.{carded_of}
use Rattle.asked.specs.declared.Pass.{Pass}
use Rattle.asked.specs.Pass.{State}
use Rattle.pass.specs.Pass.{After, after_pass}
use Rattle.put_back.specs.Back.{Returned}
use Rattle.put_back.specs.Back as backwards
use Rattle.sheet.specs.declared.SheetAnswer.{SheetAnswer}
use Rattle.sheet.specs.declared.Limit.TheVariants.{Ceiling, Band, Open}
use Rattle.sheet.specs.Sheets.{asked, sheet_of}
use Rattle.make.specs.declared.Made.{Made}
use Rattle.make.specs.Made.{make_of}
use Rattle.byte_code.specs.declared.ByteWriting.{ByteWriting}
use Rattle.byte_code.specs.declared.ByteReading.{ByteReading}
use Rattle.byte_code.specs.Reading as bytes
use Rattle.recover.specs.declared.Recovery.{Recovery}
use Rattle.recover.specs.Recover.{recover_of}
use Rattle.finder.specs.declared.Found.{Found}
use Rattle.finder.specs.Finder.{find_of}
use Rattle.desk.specs.declared.ReadWord.{ReadWord}
use Rattle.desk.specs.declared.Recovered.{Recovered}
use Rattle.desk.specs.declared.BadPlaces.{BadPlaces}

-- the version of what a caller links: raised by each landing that changes a struct, a size or a meaning
abbrev pub version : ℕ
version = 5

abbrev pub check_bits_of : ℕ → CheckBits
check_bits_of k = wanted_of k

abbrev pub judgement_of : Code → Refusal
judgement_of code = judgement_in (opened_of code)

abbrev pub rows_of : Code → RowBalance
rows_of code = balances_of (opened_of code)

abbrev pub written_of : Code → ℕ → CheckWord
written_of code low = writing_of (opened_of code) low

-- a word of 64 data bits has nothing in its high half
abbrev pub word_with : ℕ → ℕ → Word
word_with low check = record { low = low; high = 0; check = check }

abbrev pub narrowed : Reading → ReadWord
narrowed a =
    record {
      number = a.number;
      told = a.told;
      verdict = a.verdict;
      place = a.place;
      «data» = a.word.low;
      check = a.word.check;
      syndrome = a.syndrome;
    }

abbrev pub read_of : Code → ℕ → ℕ → ReadWord
read_of code low check = narrowed (reading_of (opened_of code) (word_with low check))

-- the answer, and the lent list afterwards
abbrev pub explained_of : Code → ℕ → ℕ → ℕ → List ℕ → Explained
explained_of code low check limit list = explain_of (opened_of code) (word_with low check) limit list

abbrev pub cards_of : Code → ℕ → CardCheck
cards_of code b = carded_of (opened_of code) b

-- over a run, with a stamp, of an image, into a journal behind its entries in use: the answer, and image and journal afterwards
abbrev pub passed_of : Code → Pass → State → After
passed_of code p s = after_pass (opened_of code) data_size p s

-- the entries in use of a journal put back: the answer, and the image afterwards
abbrev pub put_back_of : List ℕ → List ℕ → ℕ → Returned
put_back_of image journal used = backwards.put_back_of data_size image journal used

-- a station's sheet: a function for each kind of limit
abbrev pub ceiling_sheet : Float → ℕ → ℕ → ℕ → Float → SheetAnswer
ceiling_sheet hours devices words mended high = sheet_of (asked hours devices words mended (Ceiling high))

abbrev pub band_sheet : Float → ℕ → ℕ → ℕ → Float → Float → SheetAnswer
band_sheet hours devices words mended low high = sheet_of (asked hours devices words mended (Band low high))

abbrev pub open_sheet : Float → ℕ → ℕ → ℕ → SheetAnswer
open_sheet hours devices words mended = sheet_of (asked hours devices words mended Open)

-- the code that is made for k and r
abbrev pub made_of : ℕ → ℕ → Made
made_of k r = make_of k r

-- a word under the byte-correcting code
abbrev pub byte_written : ℕ → ByteWriting
byte_written low = bytes.byte_writing_of low

abbrev pub byte_read : ℕ → ByteReading
byte_read word = bytes.byte_reading_of word

-- the code word that is recovered where some places are bad
abbrev pub recovered_by : Recovery → Recovered
recovered_by a = record { number = a.number; told = a.told; «data» = a.word.low; check = a.word.check }

abbrev pub recovered_of : Code → ℕ → ℕ → List ℕ → Recovered
recovered_of code low check bad = recovered_by (recover_of (opened_of code) (word_with low check) bad)

-- the bad places that two reads show, as ones
abbrev pub bad_places_by : Found → BadPlaces
bad_places_by a = record { number = a.number; told = a.told; «data» = a.word.low; check = a.word.check }

abbrev pub bad_places_of : Code → ℕ → ℕ → ℕ → ℕ → BadPlaces
bad_places_of code low check low' check' = bad_places_by (find_of (opened_of code) (word_with low check) (word_with low' check'))
