-- The answers, row by row, for any opened code: the number, what is told, the list's length, and the lent list afterwards. Assumes nothing.
use mathlib.Core.Path.{◌≡◌, refl, sym, ap, ap₂, ◌∙◌}
use mathlib.Core.Logic.{◌⊎◌}
use mathlib.Core.List.{List, [], ◌∷◌}
use Prim.Native.Nat.{ℕ, ◌-◌, ◌/◌, ◌^◌, ◌≤◌, ◌<◌}
use native.Mathlib.Omega.{arith}
use borrow.Author.Tests.{lt-ltb, le-ltb}
use lib.ListN.{length}
use lib.Seq.{length-take-le}
use Rattle.std.proofs.Common.{Ok, Err}
use Rattle.code.specs.declared.Opened.{Opened}
use Rattle.code.specs.declared.Refusal.{Refusal}
use Rattle.code.specs.Opened.{columns_of, Laid}
use Rattle.word.specs.declared.Word.{Word}
use Rattle.word.specs.Word.{joined, as_number}
use Rattle.record.specs.Run.{over}
use Rattle.listing.specs.Sets.{bytes_for, written}
use Rattle.listing.proofs.Cases.{written-room, written_none}
use Rattle.explain.specs.declared.Listing.{Listing}
use Rattle.explain.specs.Explanations.{Explained, explanations, listed_in, explain_in, explain_as, explain_of}
use Rattle.mending.proofs.Strays.{stray_of, no_stray}

-- an answer, and the lent list with it
abbrev pub said : ℕ → ℕ → ℕ → List ℕ → Explained
said number told long list = record { answer = record { number = number; told = told; length = long }; list = list }

-- ---- in plain numbers: under a data column 7 and three rows a limit of 3 is refused, and check bit 3 is stray

pub limit_three : explain_in 7 (7 ∷ 1 ∷ 2 ∷ 4 ∷ []) 1 (record { low = 0; high = 0; check = 0 }) 3 [] ≡ said 11 0 0 []
unfolding explain_in
limit_three = refl

pub check_three : explain_in 7 (7 ∷ 1 ∷ 2 ∷ 4 ∷ []) 1 (record { low = 0; high = 0; check = 8 }) 3 [] ≡ said 7 0 0 []
unfolding explain_in
check_three = refl

-- one byte is no room for an entry
pub one_byte : listed_in ([] ∷ []) (0 ∷ []) ≡ said 10 1 0 (0 ∷ [])
unfolding listed_in
one_byte = refl

-- ---- for any opened code

-- the explanations of a word under an opened code
abbrev pub sets_of : Opened → Word → ℕ → List (List ℕ)
sets_of o word limit = explanations o.rows (columns_of o) o.k (as_number o.k word) limit

-- the n columns of an opened code are there
pub length_columns : (o : Opened) → Laid o → length o.columns ≡ 144 → length (columns_of o) ≡ o.n
length_columns o laid h = length-take-le o.n o.columns (omega (arith, laid.checks, laid.data_most))

-- ---- the answers

module _ (o : Opened) (word : Word) (limit : ℕ) (list : List ℕ) where
  pub answer_refused : (f : Refusal) → o.standing ≡ Err f → explain_of o word limit list ≡ said f.number f.told 0 list
  answer_refused f e = ap (λ s. explain_as s o word limit list) e

  module _ (taken : o.standing ≡ Ok tt) (long : length (columns_of o) ≡ o.n) where
    accepted : explain_of o word limit list ≡ explain_in o.rows (columns_of o) o.k word limit list
    accepted = ap (λ s. explain_as s o word limit list) taken

    -- a data bit at k or above, or a check bit at n - k or above
    pub answer-stray : (2 ^ o.k ≤ joined word.low word.high) ⊎ (2 ^ (o.n - o.k) ≤ word.check)
        → explain_of o word limit list ≡ said 7 0 0 list
    unfolding explain_in
    answer-stray h = accepted ∙ rw (long, stray_of o.n o.k word h)

    module _ (low_fits : joined word.low word.high < 2 ^ o.k) (high_fits : word.check < 2 ^ (o.n - o.k)) where
      pub answer-limit : 2 < limit → explain_of o word limit list ≡ said 11 0 0 list
      unfolding explain_in
      answer-limit h = accepted ∙ rw (long, no_stray o.n o.k word low_fits high_fits, lt-ltb 2 limit h)

      module _ (few : limit ≤ 2) where
        listed : explain_of o word limit list ≡ listed_in (sets_of o word limit) list
        unfolding explain_in
        listed = accepted ∙ rw (long, no_stray o.n o.k word low_fits high_fits, le-ltb 2 limit few)

        pub answer-no-room : length list / 2 < length (sets_of o word limit)
            → explain_of o word limit list ≡ said 10 (length (sets_of o word limit)) 0 list
        unfolding listed_in
        answer-no-room h = listed ∙ rw (lt-ltb (length list / 2) (length (sets_of o word limit)) h)

        pub answer-done : length (sets_of o word limit) ≤ length list / 2
            → explain_of o word limit list ≡ said 0 0 (length (sets_of o word limit)) (over (bytes_for (sets_of o word limit)) list)
        unfolding listed_in
        answer-done h = listed ∙ rw (le-ltb (length list / 2) (length (sets_of o word limit)) h)

        -- a list l of n entries that was written where there was room for it
        module _ (l : List (List ℕ)) (n : ℕ) (after : List ℕ) (is : sets_of o word limit ≡ l) (count : n ≡ length l)
            (put : after ≡ written l list) where
          size : n ≡ length (sets_of o word limit)
          size = count ∙ sym (ap length is)

          pub put-no-room : length list / 2 < n → explain_of o word limit list ≡ said 10 n 0 after
          put-no-room h =
              answer-no-room (rw (← size) h)
              ∙ ap₂ (λ (m : ℕ) (d : List ℕ). said 10 m 0 d) (sym size) (sym (put ∙ written_none l list n count h))

          pub put-done : n ≤ length list / 2 → explain_of o word limit list ≡ said 0 0 n after
          put-done h =
              answer-done (rw (← size) h)
              ∙ ap₂ (λ (m : ℕ) (d : List ℕ). said 0 0 m d) (sym size)
              (ap (λ (x : List (List ℕ)). over (bytes_for x) list) is ∙ sym (put ∙ written-room l list n count h))

-- an answer and a list are handed back as they are said
pub claims : {x y : Explained} (a : Listing) → x ≡ y → a ≡ y.answer → (a ≡ x.answer) × (y.list ≡ x.list)
claims a e f = (f ∙ sym (ap (λ z. z.answer) e), sym (ap (λ z. z.list) e))
