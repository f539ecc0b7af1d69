-- Places known to be bad: the proper word that differs from a word as read in bad places and in few others. Rows 7, 22 and 23 of the
-- refusals. It speaks of words and places, not of syndromes. A proper word is 02's code word: one that reads
-- clean. Assumes nothing.
use Rattle.std.specs.Prelude.{cond, List, [], ◌∷◌, ◌++◌, map, ℕ, ◌-◌, ◌/◌, length, Option, Some, None, Result, Ok, Err}
use Rattle.columns.specs.Mix.{flipped}
use Rattle.code.specs.declared.Opened.{Opened}
use Rattle.code.specs.declared.Refusal.{Refusal}
use Rattle.code.specs.Opened.{Standing, only, columns_of}
use Rattle.word.specs.declared.Word.{Word}
use Rattle.word.specs.Word.{as_number, in_parts, stray_in}
use Rattle.listing.specs.Sets.{flip_all}
use Rattle.explain.specs.Explanations.{explanations}
use Rattle.recover.specs.declared.Recovery.{Recovery}
use Rattle.reach.specs.Places.{wrong_places}

-- how many flips go with e bad places: the most t with 2t + e < 4 (document 000), so 1 with none or one, 0 with two or three
abbrev pub flips_beside : ℕ → ℕ
flips_beside e = (3 - e) / 2

-- w with any of the bad places turned
unfoldable pub turnings : ℕ → List ℕ → List ℕ
turnings w [] = w ∷ []
turnings w (p ∷ ps) = turnings w ps ++ turnings (flipped w p) ps

-- ---- under the n columns cs, the first k of them data columns, with a set of rows

-- the words that come from u by at most `flips` flips and read clean: u with each of its explanations flipped
abbrev pub proper_near : ℕ → List ℕ → ℕ → ℕ → ℕ → List ℕ
proper_near rows cs k flips u = map (flip_all u) (explanations rows cs k u flips)

unfoldable pub proper_among : ℕ → List ℕ → ℕ → ℕ → List ℕ → List ℕ
proper_among rows cs k flips [] = []
proper_among rows cs k flips (u ∷ us) = proper_near rows cs k flips u ++ proper_among rows cs k flips us

-- THE PROPER WORDS WITHIN REACH of w
abbrev pub proper_words : ℕ → List ℕ → ℕ → ℕ → List ℕ → List ℕ
proper_words rows cs k w bad = proper_among rows cs k (flips_beside (length bad)) (turnings w bad)

-- the first of them, if there is one
abbrev pub first_of : ℕ → List ℕ → Option Word
first_of k [] = None
first_of k (u ∷ us) = Some (in_parts k u)

-- ---- the answer

abbrev pub refused_recovery : Refusal → Recovery
refused_recovery f = record { number = f.number; told = f.told; word = record { low = 0; high = 0; check = 0 } }

-- 23 exactly where there is none
abbrev pub recovered_by : Option Word → Recovery
recovered_by None = refused_recovery (only 23)
recovered_by (Some w) = record { number = 0; told = 0; word = w }

-- 7, 22, 23, in that order
unfoldable pub recover_in : ℕ → List ℕ → ℕ → Word → List ℕ → Recovery
recover_in rows cs k w bad =
    cond (stray_in (length cs) k w) (refused_recovery (only 7))
    (cond (wrong_places (length cs) bad) (refused_recovery (only 22))
    (recovered_by (first_of k (proper_words rows cs k (as_number k w) bad))))

-- an answer, or the refusal told as one
abbrev pub answered : Result Recovery Refusal → Recovery
answered (Ok a) = a
answered (Err f) = refused_recovery f

-- how the code stands decides first
abbrev pub recover_as : Standing → Opened → Word → List ℕ → Recovery
recover_as (Ok u) o w bad = recover_in o.rows (columns_of o) o.k w bad
recover_as (Err f) o w bad = refused_recovery f

abbrev pub recover_of : Opened → Word → List ℕ → Recovery
recover_of o w bad = recover_as o.standing o w bad
