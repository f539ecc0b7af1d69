-- The words that Demands.antt uses, but for those that say the same in every edition: these are crate editions' (Given.antt). Assumes nothing.
use Prim.{Unit}
use Rattle.std.specs.Prelude.{◌≡◌, List, [], ◌∷◌, cond, ℕ, zero, suc, ◌+◌, ◌-◌, ◌/◌, ◌^◌, ◌<◌, eqb, length, take}
use Rattle.columns.specs.Mix.{column}
use Rattle.code.specs.declared.Code.{Code}
use Rattle.code.specs.declared.Refusal.{Refusal}
use Rattle.code.specs.Rule.{matrix_of}
use Rattle.code.specs.Opened.{opened_of, columns_of}
use Rattle.word.specs.Word.{word_of, data_of, check_of}
use Rattle.explain.specs.Explanations as explaining
use Rattle.cards.specs.Cards.{Card, all_cards}
use Rattle.record.specs.Layout.{data_size, record_size, entry_size, data_in, check_in, Entry}
use Rattle.record.specs.Run.{record_at}
use Rattle.record.specs.Journal.{entries_from}
use Rattle.pass.specs.declared.PassAnswer.{PassAnswer}
use Rattle.asked.specs.declared.Pass.{Pass}
use Rattle.asked.specs.Pass.{State}
use Rattle.pass.specs.Pass.{reader_of, needed_run}
use Rattle.passes.specs.Twice.{state_in}
use Rattle.editions.specs.Given.{refused_pass, Stamped}
use Rattle.desk.specs.declared.ReadWord.{ReadWord}
use Rattle.desk.specs.Answers.{judgement_of, read_of, passed_of}

-- ---- codes

-- a code as it is handed about has 64 places
abbrev pub Handed : Code → Type 0
Handed code = length code.columns ≡ 64

-- the desk accepts it, or refuses it
pub record Accepted (code : Code) : Type 0 where
  pub handed : Handed code
  pub number : (judgement_of code).number ≡ 0

abbrev pub Refused : Code → Type 0
Refused code = ¬ ((judgement_of code).number ≡ 0)

-- each of its places holds a number of 16 bits
abbrev pub Stored : Code → Type 0
Stored code = (p : ℕ) → p < 64 → column code.columns p < 2 ^ 16

-- its k data columns, and the number n of its places
abbrev pub data_columns : Code → List ℕ
data_columns code = take code.k code.columns

abbrev pub places_of : Code → ℕ
places_of code = code.k + code.r

-- its cards of b places, by their numbers
abbrev pub cards_for : Code → ℕ → List Card
cards_for code b = all_cards b code.k (matrix_of code)

-- ---- a word is one number: place p is its binary digit p, the data bits lowest

-- it has no stray bit
abbrev pub Unstrayed : Code → ℕ → Type 0
Unstrayed code w = w < 2 ^ places_of code

abbrev pub read : Code → ℕ → ReadWord
read code w = read_of code (data_of code.k w) (check_of code.k w)

-- a reading hands back the word u, its data bits and its check bits
pub record HandsBack (code : Code) (a : ReadWord) (u : ℕ) : Type 0 where
  pub data_bits : a.«data» ≡ data_of code.k u
  pub check_bits : a.check ≡ check_of code.k u

-- it is answered, and clean
pub record Clean (code : Code) (w : ℕ) : Type 0 where
  pub number : (read code w).number ≡ 0
  pub verdict : (read code w).verdict ≡ 0

-- the explanations of a word
abbrev pub explanations : Code → ℕ → ℕ → List (List ℕ)
explanations code w limit = explaining.explanations (opened_of code).rows (columns_of (opened_of code)) (opened_of code).k w limit

abbrev pub explanations_of : Code → ℕ → ℕ → ℕ → List (List ℕ)
explanations_of code low check limit = explanations code (word_of code.k low check) limit

-- a refused reading: a number, what is told, and 0 everywhere else
abbrev pub refused_reading : Refusal → ReadWord
refused_reading f = record { number = f.number; told = f.told; verdict = 0; place = 0; «data» = 0; check = 0; syndrome = 0 }

-- ---- images and journals, of records with 8 bytes of data

abbrev pub record_of : List ℕ → ℕ → List ℕ
record_of image i = record_at (record_size data_size) image i

abbrev pub entry_bytes_at : List ℕ → ℕ → List ℕ
entry_bytes_at journal m = record_at (entry_size data_size) journal m

-- how many entries a journal has room for, and how many the run from a up to b needs
abbrev pub room : List ℕ → ℕ
room journal = length journal / entry_size data_size

abbrev pub needed : Code → List ℕ → ℕ → ℕ → ℕ
needed code image a b = needed_run (reader_of (opened_of code) data_size) image a b

-- reading the word that the record i says
abbrev pub read_at : Code → List ℕ → ℕ → ReadWord
read_at code image i = read_of code (data_in data_size (record_of image i)) (check_in data_size (record_of image i))

-- its verdict and its place in a pass: those of the reading; a stray word has verdict 5 and place 255
abbrev pub verdict_of : Code → List ℕ → ℕ → ℕ
verdict_of code image i = cond (eqb (read_at code image i).number 7) 5 (read_at code image i).verdict

abbrev pub place_for : Code → List ℕ → ℕ → ℕ
place_for code image i = cond (eqb (read_at code image i).number 7) 255 (read_at code image i).place

-- and its syndrome: that of the reading, so 0 for a stray word
abbrev pub syndrome_for : Code → List ℕ → ℕ → ℕ
syndrome_for code image i = (read_at code image i).syndrome

-- a pass: its answer, image and journal afterwards, and that it is done
abbrev pub answer_of : Code → Pass → State → PassAnswer
answer_of code p s = (passed_of code p s).answer

abbrev pub image_after : Code → Pass → State → List ℕ
image_after code p s = (passed_of code p s).image

abbrev pub journal_after : Code → Pass → State → List ℕ
journal_after code p s = (passed_of code p s).journal

abbrev pub Done : Code → Pass → State → Type 0
Done code p s = (answer_of code p s).number ≡ 0

-- a refused pass: this number and what it tells, count in use and tally all zero, and no byte of image or journal changed
pub record PassRefused (code : Code) (p : Pass) (s : State) (f : Refusal) : Type 0 where
  pub answer : answer_of code p s ≡ refused_pass f
  pub same_image : image_after code p s ≡ s.image
  pub same_journal : journal_after code p s ≡ s.journal

-- what the next pass works on: image and journal as they are left, and the count in use, which a refused pass leaves
abbrev pub state_after : Code → Pass → State → State
state_after code p s = state_in s (passed_of code p s)

-- passes in their order, each under a code of its own and told the true count in use
pub record Turn : Type 0 where
  pub code : Code
  pub pass : Pass

unfoldable pub turns_after : List Turn → State → State
turns_after [] s = s
turns_after (x ∷ xs) s = turns_after xs (state_after x.code x.pass s)

unfoldable pub AllStamped : List Turn → Type 0
AllStamped [] = Unit
AllStamped (x ∷ xs) = Stamped x.pass × AllStamped xs

-- the new entries of a pass, as the journal says them
abbrev pub new_entries : Code → Pass → State → List Entry
new_entries code p s = entries_from data_size (journal_after code p s) s.used ((answer_of code p s).used - s.used)

-- how many of the n records from a on have the verdict v: one for each, the newest last
unfoldable pub count_from : Code → List ℕ → ℕ → ℕ → ℕ → ℕ
count_from code image v a zero = 0
count_from code image v a (suc n) = count_from code image v a n + cond (eqb (verdict_of code image (a + n)) v) 1 0
