-- The answers, row by row, for any opened code. Assumes nothing.
use mathlib.Core.Path.{◌≡◌, ap}
use mathlib.Core.Bool.{true, false}
use mathlib.Core.List.{List}
use Prim.Native.Nat.{ℕ}
use lib.ListN.{length}
use Rattle.std.proofs.Common.{Ok, Err}
use Rattle.code.specs.declared.Opened.{Opened}
use Rattle.code.specs.declared.Refusal.{Refusal}
use Rattle.code.specs.Opened.{only, columns_of}
use Rattle.word.specs.declared.Word.{Word}
use Rattle.word.specs.Word.{as_number, stray_in}
use Rattle.reach.specs.Places.{wrong_places}
use Rattle.recover.specs.Recover.{proper_words, first_of, refused_recovery, recovered_by, recover_in, recover_as, recover_of}

module _ (rows : ℕ) (cs : List ℕ) (k : ℕ) (w : Word) (bad : List ℕ) where
  pub in_stray : stray_in (length cs) k w ≡ true → recover_in rows cs k w bad ≡ refused_recovery (only 7)
  unfolding recover_in
  in_stray e = simp e

  module _ (whole : stray_in (length cs) k w ≡ false) where
    pub in-wrong : wrong_places (length cs) bad ≡ true → recover_in rows cs k w bad ≡ refused_recovery (only 22)
    unfolding recover_in
    in-wrong e = rw (whole, e)

    pub in_reach : wrong_places (length cs) bad ≡ false
        → recover_in rows cs k w bad ≡ recovered_by (first_of k (proper_words rows cs k (as_number k w) bad))
    unfolding recover_in
    in_reach e = rw (whole, e)

module _ (o : Opened) (w : Word) (bad : List ℕ) where
  pub answer_refused : (f : Refusal) → o.standing ≡ Err f → recover_of o w bad ≡ refused_recovery f
  answer_refused f e = ap (λ s. recover_as s o w bad) e

  pub answer_accepted : o.standing ≡ Ok tt → recover_of o w bad ≡ recover_in o.rows (columns_of o) o.k w bad
  answer_accepted e = ap (λ s. recover_as s o w bad) e
