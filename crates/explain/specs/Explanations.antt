-- The explanations of a word: the sets of places whose flips give a word that reads clean. The answer that lists them, with rows 7, 11
-- and 10 of "When the desk says no", and the bytes of the lent list afterwards. Assumes nothing.
use Rattle.std.specs.Prelude.{Bool, true, false, cond, List, ℕ, ◌/◌, ltb, length, Result, Ok, Err}
use Rattle.code.specs.declared.Opened.{Opened}
use Rattle.code.specs.declared.Refusal.{Refusal}
use Rattle.code.specs.Opened.{Standing, refusal, only, columns_of}
use Rattle.word.specs.declared.Word.{Word}
use Rattle.verdict.specs.declared.Verdict.{Verdict}
use Rattle.verdict.specs.declared.Verdict.TheVariants.{Clean, Data, Check, Even, Odd, Stray}
use Rattle.word.specs.Word.{as_number, in_parts, stray_in}
use Rattle.word.specs.Verdicts.{read_in}
use Rattle.record.specs.Run.{over}
use Rattle.listing.specs.Sets.{flip_all, sets_up_to, those, bytes_for}
use Rattle.explain.specs.declared.Listing.{Listing}

-- whether a verdict is clean
abbrev pub is_clean : Verdict → Bool
is_clean Clean = true
is_clean (Data p) = false
is_clean (Check p) = false
is_clean Even = false
is_clean Odd = false
is_clean Stray = false

-- ---- under the n columns cs, the first k of them data columns, with a set of rows

-- a set of places explains w when flipping exactly those places gives a word that reads clean
abbrev pub explains : ℕ → List ℕ → ℕ → ℕ → List ℕ → Bool
explains rows cs k w ps = is_clean (read_in rows cs k (in_parts k (flip_all w ps)))

-- THE EXPLANATIONS: the sets of at most `limit` places that do, fewer places first, then the lower first place
unfoldable pub explanations : ℕ → List ℕ → ℕ → ℕ → ℕ → List (List ℕ)
explanations rows cs k w limit = those (explains rows cs k w) (sets_up_to (length cs) limit)

-- ---- the answer

-- how many entries go into a list of `size` bytes
abbrev pub room_in : ℕ → ℕ
room_in size = size / 2

abbrev pub refused_listing : Refusal → Listing
refused_listing f = record { number = f.number; told = f.told; length = 0 }

-- the answer, and the lent list afterwards
pub record Explained : Type 0 where
  pub answer : Listing
  pub list : List ℕ

-- a refusal changes no byte
abbrev pub refused_by : Refusal → List ℕ → Explained
refused_by f list = record { answer = refused_listing f; list = list }

-- a list of sets: 10, told its length, where that is over the room; else its entries, and behind them the bytes as they were
unfoldable pub listed_in : List (List ℕ) → List ℕ → Explained
listed_in sets list =
    cond (ltb (room_in (length list)) (length sets)) (refused_by (refusal 10 (length sets)) list)
    (record { answer = record { number = 0; told = 0; length = length sets }; list = over (bytes_for sets) list })

-- 7, 11, 10, in that order
unfoldable pub explain_in : ℕ → List ℕ → ℕ → Word → ℕ → List ℕ → Explained
explain_in rows cs k w limit list =
    cond (stray_in (length cs) k w) (refused_by (only 7) list)
    (cond (ltb 2 limit) (refused_by (only 11) list)
    (listed_in (explanations rows cs k (as_number k w) limit) list))

-- an answer, or the refusal told as one
abbrev pub answered : Result Listing Refusal → Listing
answered (Ok a) = a
answered (Err f) = refused_listing f

-- how the code stands decides first
abbrev pub explain_as : Standing → Opened → Word → ℕ → List ℕ → Explained
explain_as (Ok u) o w limit list = explain_in o.rows (columns_of o) o.k w limit list
explain_as (Err f) o w limit list = refused_by f list

abbrev pub explain_of : Opened → Word → ℕ → List ℕ → Explained
explain_of o w limit list = explain_as o.standing o w limit list
