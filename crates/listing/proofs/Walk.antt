-- For a loop that walks the lower places: the pairs found so far, one place more, and their bytes. Assumes nothing.
use mathlib.Core.Path.{◌≡◌, refl, sym, ap, ◌∙◌}
use mathlib.Core.Bool.{Bool, true, false, cond}
use Rattle.std.proofs.Common.{Option, Some, None}
use Rattle.std.specs.Bool.{then_some}
use Rattle.std.specs.Option.{is_some}
use mathlib.Core.List.{List, [], ◌∷◌, ◌++◌, append_assoc, append-nil}
use Prim.Native.Nat.{ℕ, zero, suc, ◌+◌, ◌*◌, ◌-◌, ◌≤◌, ◌<◌}
use native.Mathlib.Omega.{arith}
use lib.Dec.{ltb}
use lib.ListN.{length, set, length-append}
use Rattle.record.specs.Run.{over}
use Rattle.record.proofs.Over.{over-two}
use Rattle.listing.specs.Sets.{entry_of, bytes_for}
use Rattle.listing.specs.BySyndrome.{below, partner_of, pair_at, pairs_from}

-- ---- bytes

pub length-bytes : (l : List (List ℕ)) → length (bytes_for l) ≡ 2 * length l
unfolding bytes_for
length-bytes [] = refl
length-bytes (ps ∷ l) = length-append (entry_of ps) (bytes_for l) ∙ omega (arith, length-bytes l, two ps)
  where
    two : (ps : List ℕ) → length (entry_of ps) ≡ 2
    two [] = refl
    two (p ∷ []) = refl
    two (p ∷ q ∷ ps) = refl

pub bytes-append : (a b : List (List ℕ)) → bytes_for (a ++ b) ≡ bytes_for a ++ bytes_for b
unfolding bytes_for
bytes-append [] b = refl
bytes-append (ps ∷ a) b =
    ap (λ (l : List ℕ). entry_of ps ++ l) (bytes-append a b) ∙ sym (append_assoc (entry_of ps) (bytes_for a) (bytes_for b))

-- a list of one entry
pub put_one : (l : List (List ℕ)) (then : List ℕ) (x y : ℕ) → bytes_for l ≡ x ∷ y ∷ [] → 2 * length l ≤ length then
    → set (set then 0 x) 1 y ≡ over (bytes_for l) then
put_one l then x y e h =
    let two : length (bytes_for l) ≡ 2 = ap length e in
    over-two [] then 0 x y refl (omega (arith, length-bytes l)) ∙ ap (λ (b : List ℕ). over b then) (sym e)

-- ---- the pairs of a part of the places

-- m places from p on: a of them, and the others from q on
pub pairs_split : (cs : List ℕ) (s a b m p q : ℕ) → a + b ≡ m → p + a ≡ q → pairs_from cs s m p ≡ pairs_from cs s a p ++ pairs_from cs s b q
unfolding pairs_from
pairs_split cs s zero b m p q e f =
    let g : m ≡ b = omega arith in
    let k : p ≡ q = omega arith in
    rw (g, k)
pairs_split cs s (suc a) b zero p q e f = absurd (omega arith)
pairs_split cs s (suc a) b (suc m) p q e f =
    ap (λ (l : List (List ℕ)). pair_at cs s p ++ l) (pairs_split cs s a b m (suc p) q (omega arith) (omega arith))
    ∙ sym (append_assoc (pair_at cs s p) (pairs_from cs s a (suc p)) (pairs_from cs s b q))

module _ (cs : List ℕ) (s p : ℕ) where
  next : pairs_from cs s (p + 1) 0 ≡ pairs_from cs s p 0 ++ pair_at cs s p
  unfolding pairs_from
  next =
      pairs_split cs s p 1 (p + 1) 0 p refl (omega arith)
      ∙ ap (λ (l : List (List ℕ)). pairs_from cs s p 0 ++ l) (append-nil (pair_at cs s p))

  -- one place more, with a partner and with none
  pub next_found : (q : ℕ) → below (length cs) (partner_of cs s p) ≡ Some q
      → pairs_from cs s (p + 1) 0 ≡ pairs_from cs s p 0 ++ ((p ∷ q ∷ []) ∷ [])
  unfolding pair_at
  next_found q e = next ∙ ap (λ (l : List (List ℕ)). pairs_from cs s p 0 ++ l) (go (ltb (partner_of cs s p) (length cs)) e)
    where
      go : (b : Bool) → then_some b (partner_of cs s p) ≡ Some q
          → cond b ((p ∷ partner_of cs s p ∷ []) ∷ []) [] ≡ (p ∷ q ∷ []) ∷ []
      go true e = cc
      go false e = cc

  pub next_missing : below (length cs) (partner_of cs s p) ≡ None → pairs_from cs s (p + 1) 0 ≡ pairs_from cs s p 0
  unfolding pair_at
  next_missing e =
      next ∙ ap (λ (l : List (List ℕ)). pairs_from cs s p 0 ++ l) (go (ltb (partner_of cs s p) (length cs)) e)
      ∙ append-nil (pairs_from cs s p 0)
    where
      go : (b : Bool) → then_some b (partner_of cs s p) ≡ None → cond b ((p ∷ partner_of cs s p ∷ []) ∷ []) [] ≡ []
      go true e = cc
      go false e = refl

  -- so many are there then
  pub count_found : (q : ℕ) → below (length cs) (partner_of cs s p) ≡ Some q
      → length (pairs_from cs s (p + 1) 0) ≡ length (pairs_from cs s p 0) + 1
  count_found q e = ap length (next_found q e) ∙ length-append (pairs_from cs s p 0) ((p ∷ q ∷ []) ∷ [])

  pub count_next : (b : Bool) → b ≡ is_some (below (length cs) (partner_of cs s p))
      → length (pairs_from cs s (p + 1) 0) ≡ length (pairs_from cs s p 0) + cond b 1 0
  count_next b e = go (below (length cs) (partner_of cs s p)) refl e
    where
      go : (r : Option ℕ) → below (length cs) (partner_of cs s p) ≡ r → b ≡ is_some r
          → length (pairs_from cs s (p + 1) 0) ≡ length (pairs_from cs s p 0) + cond b 1 0
      go (Some q) h e = rw e (count_found q h)
      go None h e = rw e (omega (arith, ap length (next_missing h)))

  module _ (q : ℕ) (found : below (length cs) (partner_of cs s p) ≡ Some q) where
    -- its two bytes written behind those that are there
    pub put_found : (now then : List ℕ) (a : ℕ) → now ≡ over (bytes_for (pairs_from cs s p 0)) then → a ≡ 2 * length (pairs_from cs s p 0)
        → a + 1 < length then → set (set now a p) (a + 1) q ≡ over (bytes_for (pairs_from cs s (p + 1) 0)) then
    unfolding bytes_for
    put_found now then a e f h =
        ap (λ (x : List ℕ). set (set x a p) (a + 1) q) e
        ∙ over-two (bytes_for (pairs_from cs s p 0)) then a p q (length-bytes (pairs_from cs s p 0) ∙ sym f) h
        ∙ ap (λ (x : List ℕ). over x then)
        (sym (bytes-append (pairs_from cs s p 0) ((p ∷ q ∷ []) ∷ [])) ∙ ap bytes_for (sym (next_found q found)))

-- no part has more than all
pub pairs_most : (cs : List ℕ) (s p m : ℕ) → p ≤ m → length (pairs_from cs s p 0) ≤ length (pairs_from cs s m 0)
pairs_most cs s p m h =
    omega (
      arith,
      ap length (pairs_split cs s p (m - p) m 0 p (omega arith) (omega arith))
          ∙ length-append (pairs_from cs s p 0) (pairs_from cs s (m - p) p),
    )

-- so there is room for a pair that is found, where there is room for all
pub room_found : (cs : List ℕ) (s p q size : ℕ) → below (length cs) (partner_of cs s p) ≡ Some q → p < length cs
    → 2 * length (pairs_from cs s (length cs) 0) ≤ size → 2 * length (pairs_from cs s p 0) + 2 ≤ size
room_found cs s p q size e l h = omega (arith, count_found cs s p q e, pairs_most cs s (p + 1) (length cs) (omega arith))
