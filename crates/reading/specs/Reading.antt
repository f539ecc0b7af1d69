-- Reading one word under an opened code: the code's refusal, 7 for a stray bit, or the verdict, its place, the syndrome and the word
-- handed back. Assumes nothing.
use Rattle.std.specs.Prelude.{ℕ, Result, Ok, Err}
use Rattle.code.specs.declared.Opened.{Opened}
use Rattle.code.specs.declared.Refusal.{Refusal}
use Rattle.code.specs.Opened.{Standing, only, columns_of}
use Rattle.word.specs.declared.Word.{Word}
use Rattle.verdict.specs.declared.Verdict.{Verdict}
use Rattle.verdict.specs.declared.Verdict.TheVariants.{Clean, Data, Check, Even, Odd, Stray}
use Rattle.reading.specs.declared.Reading.{Reading}
use Rattle.word.specs.Word.{flipped_in}
use Rattle.word.specs.Verdicts.{read_in, syndrome_in}
use Rattle.verdict.specs.Verdicts.{finding_of}

-- the word handed back: verdicts 1 and 2 flip the place that they name
abbrev pub mended_by : Verdict → ℕ → Word → Word
mended_by Clean k w = w
mended_by (Data p) k w = flipped_in k p w
mended_by (Check p) k w = flipped_in k p w
mended_by Even k w = w
mended_by Odd k w = w
mended_by Stray k w = w

abbrev pub refused_reading : Refusal → Reading
refused_reading f =
    record {
      number = f.number;
      told = f.told;
      verdict = 0;
      place = 0;
      syndrome = 0;
      word = record { low = 0; high = 0; check = 0 };
    }

abbrev pub given_reading : Verdict → ℕ → ℕ → Word → Reading
given_reading v s k w =
    record {
      number = 0;
      told = 0;
      verdict = (finding_of v).verdict;
      place = (finding_of v).place;
      syndrome = s;
      word = mended_by v k w;
    }

-- the answer to a verdict on the word w, whose syndrome is s: the five of document 01's table, and refusal 7
abbrev pub reading_by : Verdict → ℕ → ℕ → Word → Reading
reading_by Clean s k w = given_reading Clean s k w
reading_by (Data p) s k w = given_reading (Data p) s k w
reading_by (Check p) s k w = given_reading (Check p) s k w
reading_by Even s k w = given_reading Even s k w
reading_by Odd s k w = given_reading Odd s k w
reading_by Stray s k w = refused_reading (only 7)

-- an answer, or the refusal told as one
abbrev pub answered : Result Reading Refusal → Reading
answered (Ok a) = a
answered (Err f) = refused_reading f

-- how the code stands decides first
abbrev pub reading_as : Standing → Opened → Word → Reading
reading_as (Ok u) o w =
    reading_by (read_in o.rows (columns_of o) o.k w) (syndrome_in (columns_of o) o.k w) o.k w
reading_as (Err f) o w = refused_reading f

abbrev pub reading_of : Opened → Word → Reading
reading_of o w = reading_as o.standing o w
