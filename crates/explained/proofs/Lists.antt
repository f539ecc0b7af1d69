-- The entries of a list of sets: which bytes are whose, which stay as they were, and that an entry tells its set. Assumes nothing.
use mathlib.Core.Path.{◌≡◌, refl, sym, ap, ap₂, ◌∙◌}
use mathlib.Core.Bool.{Bool, true, false, cond}
use mathlib.Core.List.{List, [], ◌∷◌, ◌++◌}
use Prim.Native.Nat.{ℕ, zero, suc, ◌*◌, ◌/◌, ◌≤◌, ◌<◌}
use native.Mathlib.Nat.{le_of_suc-le-suc, not-suc-le-zero}
use native.Mathlib.Omega.{arith}
use lib.Dec.{ltb}
use lib.ListN.{length, get_or, take, drop}
use Rattle.std.proofs.Common.{Ok}
use Rattle.code.specs.declared.Opened.{Opened}
use Rattle.code.specs.Opened.{columns_of}
use Rattle.word.specs.declared.Word.{Word}
use Rattle.word.specs.Word.{stray_in}
use Rattle.record.specs.Run.{over}
use Rattle.runs.proofs.Over.{drop-over}
use Rattle.listing.specs.Sets.{entry_of, bytes_for}
use Rattle.listing.proofs.Walk.{length-bytes}
use Rattle.explain.specs.Order.{SetOf}
use Rattle.explain.specs.Explanations.{Explained, listed_in, explain_in, explain_as, explain_of}
use Rattle.explain.proofs.Answers.{said, sets_of}

-- entry i of a list of sets, two bytes each
entry_in_lem : (l : List (List ℕ)) (rest : List ℕ) (i : ℕ) → i < length l → take 2 (drop (2 * i) (bytes_for l ++ rest)) ≡ entry_of (get_or l i [])
unfolding bytes_for
entry_in_lem [] rest i h = absurd (not-suc-le-zero h)
entry_in_lem (ps ∷ l) rest zero h = first ps
  where
    first : (ps : List ℕ) → take 2 ((entry_of ps ++ bytes_for l) ++ rest) ≡ entry_of ps
    first [] = refl
    first (p ∷ []) = refl
    first (p ∷ q ∷ ps) = refl
entry_in_lem (ps ∷ l) rest (suc i) h =
    let two : 2 * suc i ≡ suc (suc (2 * i)) = omega arith in
    ap (λ (m : ℕ). take 2 (drop m ((entry_of ps ++ bytes_for l) ++ rest))) two ∙ later ps ∙ entry_in_lem l rest i (le_of_suc-le-suc h)
  where
    later : (ps : List ℕ)
        → take 2 (drop (suc (suc (2 * i))) ((entry_of ps ++ bytes_for l) ++ rest)) ≡ take 2 (drop (2 * i) (bytes_for l ++ rest))
    later [] = refl
    later (p ∷ []) = refl
    later (p ∷ q ∷ ps) = refl

-- below 255 no place is taken for none: an entry tells its set
pub entry-apart : (n : ℕ) (ps qs : List ℕ) → n ≤ 255 → SetOf n 2 ps → SetOf n 2 qs → entry_of ps ≡ entry_of qs → ps ≡ qs
entry-apart n ps qs h s t e = go ps qs s t (ap (λ (l : List ℕ). get_or l 0 0) e) (ap (λ (l : List ℕ). get_or l 1 0) e)
  where
    go : (ps qs : List ℕ) → SetOf n 2 ps → SetOf n 2 qs → get_or (entry_of ps) 0 0 ≡ get_or (entry_of qs) 0 0
        → get_or (entry_of ps) 1 0 ≡ get_or (entry_of qs) 1 0 → ps ≡ qs
    go [] [] s t a b = refl
    go [] (q ∷ []) s t a b = absurd (omega (arith, t.rising.1))
    go [] (q ∷ r ∷ qs) s t a b = absurd (omega (arith, t.rising.1))
    go (p ∷ []) [] s t a b = absurd (omega (arith, s.rising.1))
    go (p ∷ []) (q ∷ []) s t a b = ap (λ (x : ℕ). x ∷ []) a
    go (p ∷ []) (q ∷ r ∷ qs) s t a b = absurd (omega (arith, t.rising.2.1))
    go (p ∷ r ∷ ps) [] s t a b = absurd (omega (arith, s.rising.1))
    go (p ∷ r ∷ ps) (q ∷ []) s t a b = absurd (omega (arith, s.rising.2.1))
    go (p ∷ r ∷ []) (q ∷ u ∷ []) s t a b = ap₂ (λ (x y : ℕ). x ∷ y ∷ []) a b
    go (p ∷ r ∷ []) (q ∷ u ∷ v ∷ qs) s t a b = absurd (omega (arith, t.few))
    go (p ∷ r ∷ v ∷ ps) (q ∷ u ∷ qs) s t a b = absurd (omega (arith, s.few))

module _ (sets : List (List ℕ)) (list : List ℕ) where
  -- bytes 2 i and 2 i + 1 are those of set i
  pub listed-entry : (i : ℕ) → i < length sets → take 2 (drop (2 * i) (over (bytes_for sets) list)) ≡ entry_of (get_or sets i [])
  listed-entry i h = entry_in_lem sets (drop (length (bytes_for sets)) list) i h

  -- bytes past the list stay
  pub listed-rest : drop (2 * length sets) (over (bytes_for sets) list) ≡ drop (2 * length sets) list
  listed-rest = drop-over (bytes_for sets) list (2 * length sets) (length-bytes sets)

-- ---- number 0 under an accepted code: the list is done

-- of the rows of the answer only the last has number 0
only-done : (s l m : Bool) (n : ℕ) (list : List ℕ) (done : Explained)
    → let x = cond s (said 7 0 0 list) (cond l (said 11 0 0 list) (cond m (said 10 n 0 list) done)) in x.answer.number ≡ 0 → x ≡ done
only-done true l m n list done h = absurd (omega arith)
only-done false true m n list done h = absurd (omega arith)
only-done false false true n list done h = absurd (omega arith)
only-done false false false n list done h = refl

pub done_of_zero : (o : Opened) (word : Word) (limit : ℕ) (list : List ℕ) → o.standing ≡ Ok tt
    → (explain_of o word limit list).answer.number ≡ 0
    → explain_of o word limit list ≡ said 0 0 (length (sets_of o word limit)) (over (bytes_for (sets_of o word limit)) list)
unfolding explain_in listed_in
done_of_zero o word limit list taken h =
    let e = ap (λ s. explain_as s o word limit list) taken in
    let n = length (sets_of o word limit) in
    e
    ∙ only-done (stray_in (length (columns_of o)) o.k word) (ltb 2 limit) (ltb (length list / 2) n) n list _
    (sym (ap (λ (x : Explained). x.answer.number) e) ∙ h)
