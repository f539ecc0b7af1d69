-- Reading a word under an accepted code, from its verdict: what is answered, and the word handed back. Assumes nothing.
use mathlib.Core.Path.{◌≡◌, refl, sym, ap, ap₂, subst, ◌∙◌}
use mathlib.Core.Logic.{◌↔◌}
use mathlib.Core.List.{List}
use Prim.Native.Nat.{ℕ, ◌^◌, ◌<◌}
use lib.ListN.{length}
use Rattle.parity.specs.Odd.{odd_in}
use Rattle.columns.specs.Mix.{mix}
use Rattle.code.specs.declared.Opened.{Opened}
use Rattle.code.proofs.Laying.{laid_columns}
use Rattle.word.specs.declared.Word.{Word}
use Rattle.verdict.specs.declared.Verdict.{Verdict}
use Rattle.verdict.specs.declared.Verdict.TheVariants.{Clean, Data, Check, Even, Odd, Stray}
use Rattle.word.specs.Word.{in_parts}
use Rattle.verdict.specs.Verdicts.{verdict_on, finding_of}
use Rattle.word.specs.Verdicts.{read_in, syndrome_in}
use Rattle.verdict.specs.Table.{VerdictTable}
use Rattle.reading.specs.Reading.{given_reading, reading_by, reading_of}
use Rattle.verdict.proofs.Exactly.{RowOf, verdict_row, verdict-table}
use Rattle.mending.proofs.Reading.{mended_number, mended_parts, read_number, data_inside}
use Rattle.mending.proofs.Syndromes.{syndrome_number}
use Rattle.reading.specs.declared.Reading.{Reading}
use Rattle.editions.specs.Given.{Given, opened, set_of, matrix_of, Unstrayed, read, HandsBack}
use Rattle.editions.specs.Given as words
use Rattle.editions.proofs.Codes.{opened-is, places-length, sound_of}

-- what the verdict x on the word w is answered by
pub record Answered (code : Given) (w : ℕ) (a : Reading) (x : Verdict) : Type 0 where
  pub number : a.number ≡ 0
  pub told : a.told ≡ 0
  pub verdict : a.verdict ≡ (finding_of x).verdict
  pub place : a.place ≡ (finding_of x).place
  pub hands : HandsBack code a (mended_number x w)

module _ (code : Given) (a : words.Accepted code) where
  -- the verdict on a word's syndrome
  abbrev pub verdict_at : ℕ → Verdict
  verdict_at w = verdict_on (odd_in (set_of code)) (matrix_of code) code.k (mix (matrix_of code) w)

  pub reading_is : (x : Word)
      → reading_of (opened code) x
      ≡ reading_by (read_in (set_of code) (matrix_of code) code.k x) (syndrome_in (matrix_of code) code.k x) code.k x
  reading_is x =
      ap (λ (o : Opened). reading_of o x) (opened-is code a.number)
      ∙ ap (λ (cs : List ℕ). reading_by (read_in (set_of code) cs code.k x) (syndrome_in cs code.k x) code.k x)
      (laid_columns (matrix_of code))

  -- the row that holds of a word's syndrome
  abbrev RowAt : ℕ → Verdict → Type 0
  RowAt w x =
      RowOf (set_of code) (matrix_of code) code.k (data_inside (set_of code) (sound_of code a)) (sound_of code a).good
      (mix (matrix_of code) w) x

  -- every verdict but stray is an answer, and stray none of them is
  given : (w s : ℕ) (x : Verdict) → RowAt w x
      → reading_by x s code.k (in_parts code.k w) ≡ given_reading x s code.k (in_parts code.k w)
  given w s Clean r = refl
  given w s (Data p) r = refl
  given w s (Check p) r = refl
  given w s Even r = refl
  given w s Odd r = refl
  given w s Stray r = absurd r

  module _ (w : ℕ) (fits : Unstrayed code w) where
    inside : w < 2 ^ length (matrix_of code)
    inside = rw (places-length code a) fits

    row : RowAt w (verdict_at w)
    row =
        verdict_row (set_of code) (matrix_of code) code.k
        (data_inside (set_of code) (sound_of code a)) (sound_of code a).good
        (mix (matrix_of code) w)

    abbrev syndrome : ℕ
    syndrome = mix (matrix_of code) w

    read_is : read code w ≡ given_reading (verdict_at w) syndrome code.k (in_parts code.k w)
    read_is =
        reading_is (in_parts code.k w)
        ∙ ap₂ (λ (x : Verdict) (s : ℕ). reading_by x s code.k (in_parts code.k w))
        (read_number (set_of code) (matrix_of code) code.k w (data_inside (set_of code) (sound_of code a)) inside)
        (syndrome_number (set_of code) (matrix_of code) code.k w (data_inside (set_of code) (sound_of code a)) inside)
        ∙ given w syndrome (verdict_at w) row

    -- WHAT A READING ANSWERS: the number of the verdict on the syndrome, its place, and the word with that place flipped
    pub answered : Answered code w (read code w) (verdict_at w)
    answered =
        subst (λ (r : Reading). Answered code w r (verdict_at w)) (sym read_is)
        (record { number = refl; told = refl; verdict = refl; place = refl; hands = mended_parts (verdict_at w) code.k w })

    -- the syndrome is handed back
    pub syndrome-told : (read code w).syndrome ≡ mix (matrix_of code) w
    syndrome-told = ap (λ (r : Reading). r.syndrome) read_is

    -- the same where the verdict is known
    pub answered-as : (x : Verdict) → verdict_at w ≡ x → Answered code w (read code w) x
    answered-as x e = subst (Answered code w (read code w)) e answered

    pub table : VerdictTable (set_of code) (matrix_of code) code.k
        (mix (matrix_of code) w) (read code w).verdict (read code w).place
    table =
        subst (λ (n : ℕ). VerdictTable (set_of code) (matrix_of code) code.k (mix (matrix_of code) w) n (read code w).place)
        (sym answered.verdict)
        (subst
        (λ (n : ℕ). VerdictTable (set_of code) (matrix_of code) code.k (mix (matrix_of code) w) (finding_of (verdict_at w)).verdict n)
        (sym answered.place)
        (verdict-table (set_of code) (matrix_of code) code.k
        (data_inside (set_of code) (sound_of code a)) (sound_of code a).good
        (mix (matrix_of code) w)))

    -- CLEAN exactly when the syndrome is 0
    pub clean-zero : words.Clean code w ↔ (mix (matrix_of code) w ≡ 0)
    clean-zero = (λ c. table.clean.0 c.verdict, λ z. record { number = answered.number; verdict = table.clean.1 z })
