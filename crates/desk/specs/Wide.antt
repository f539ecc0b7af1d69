-- THE WIDE EDITION (02's request 108): the same questions, asked of a code of 128 places, with words of two halves and records with 16
-- bytes of data. Assumes nothing.
use Rattle.std.specs.Prelude.{List, ℕ}
use Rattle.code.specs.declared.WideCode.{WideCode}
use Rattle.code.specs.declared.Refusal.{Refusal}
use Rattle.code.specs.Opened.{judgement_in, opened_wide}
use Rattle.wanted.specs.declared.CheckBits.{CheckBits}
use Rattle.wanted.specs.Wanted.{wanted_wide}
use Rattle.balance.specs.declared.RowBalance.{RowBalance}
use Rattle.balance.specs.Balance.{balances_of}
use Rattle.make.specs.declared.WideMade.{WideMade}
use Rattle.make.specs.Made.{make_wide}
use Rattle.word.specs.declared.Word.{Word}
use Rattle.reading.specs.declared.Reading.{Reading}
use Rattle.writing.specs.declared.CheckWord.{CheckWord}
use Rattle.word.specs.Word.{joined}
use Rattle.writing.specs.Writing.{writing_of}
use Rattle.reading.specs.Reading.{reading_of}
use Rattle.record.specs.Layout.{wide_size}
use Rattle.explain.specs.Explanations.{Explained, explain_of}
use Rattle.card_check.specs.declared.CardCheck.{CardCheck}
use Rattle.card_check.specs.Checking.{carded_of}
use Rattle.asked.specs.declared.Pass.{Pass}
use Rattle.asked.specs.Pass.{State}
use Rattle.put_back.specs.Back.{Returned}
use Rattle.recover.specs.declared.Recovery.{Recovery}
use Rattle.recover.specs.Recover.{recover_of}
use Rattle.finder.specs.declared.Found.{Found}
use Rattle.finder.specs.Finder.{find_of}
use Rattle.put_back.specs.Back as backwards
use Rattle.pass.specs.Pass.{After, after_pass}

abbrev pub wide_check_bits_of : ℕ → CheckBits
wide_check_bits_of k = wanted_wide k

abbrev pub wide_made_of : ℕ → ℕ → WideMade
wide_made_of k r = make_wide k r

abbrev pub wide_judgement_of : WideCode → Refusal
wide_judgement_of code = judgement_in (opened_wide code)

abbrev pub wide_rows_of : WideCode → RowBalance
wide_rows_of code = balances_of (opened_wide code)

-- data in two halves is one number
abbrev pub wide_written_of : WideCode → ℕ → ℕ → CheckWord
wide_written_of code low high = writing_of (opened_wide code) (joined low high)

abbrev pub wide_word : ℕ → ℕ → ℕ → Word
wide_word low high check = record { low = low; high = high; check = check }

abbrev pub wide_read_of : WideCode → ℕ → ℕ → ℕ → Reading
wide_read_of code low high check = reading_of (opened_wide code) (wide_word low high check)

-- the answer, and the lent list afterwards
abbrev pub wide_explained_of : WideCode → Word → ℕ → List ℕ → Explained
wide_explained_of code word limit list = explain_of (opened_wide code) word limit list

abbrev pub wide_cards_of : WideCode → ℕ → CardCheck
wide_cards_of code b = carded_of (opened_wide code) b

-- over a run, with a stamp, of an image, into a journal behind its entries in use: the answer, and image and journal afterwards
abbrev pub wide_passed_of : WideCode → Pass → State → After
wide_passed_of code p s = after_pass (opened_wide code) wide_size p s

-- the entries in use of a journal put back: the answer, and the image afterwards
abbrev pub wide_put_back_of : List ℕ → List ℕ → ℕ → Returned
wide_put_back_of image journal used = backwards.put_back_of wide_size image journal used

-- the code word that is recovered where some places are bad, and the bad places as ones
abbrev pub wide_recovered_of : WideCode → Word → List ℕ → Recovery
wide_recovered_of code word bad = recover_of (opened_wide code) word bad

abbrev pub wide_bad_places_of : WideCode → Word → Word → Found
wide_bad_places_of code first second = find_of (opened_wide code) first second
