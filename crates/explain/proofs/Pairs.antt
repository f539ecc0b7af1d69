-- The first place from p on with a given column, and the partner of a place in a pair. Assumes nothing.
use mathlib.Core.Path.{◌≡◌, sym, ◌∙◌}
use mathlib.Core.Logic.{◌≢◌}
use mathlib.Core.List.{List}
use Prim.Native.Nat.{ℕ, suc, ◌≤◌, ◌<◌}
use native.Mathlib.Numerals.{add-one}
use native.Mathlib.Omega.{arith}
use lib.Bits.{bit_xor, xor_comm}
use lib.ListN.{length, drop, length-drop}
use lib.Seq.{get_or-drop}
use Rattle.parity.specs.Odd.{Parity}
use Rattle.parity.proofs.Xor.{xor_undo}
use Rattle.columns.specs.Mix.{column, place_in}
use Rattle.columns.specs.Rule.{Good, Pair}
use Rattle.columns.proofs.Places.{place_hit, place_here, place_next}
use Rattle.columns.proofs.Errors.{pair_nonzero, pair-no-column}
use Rattle.listing.specs.BySyndrome.{place_from, partner_of}

pub from_zero : (cs : List ℕ) (s : ℕ) → place_from cs s 0 ≡ place_in cs s
unfolding place_from
from_zero cs s = omega arith

module _ (cs : List ℕ) (s p : ℕ) where
  pub from_here : p < length cs → column cs p ≡ s → place_from cs s p ≡ p
  unfolding place_from
  from_here h e = omega (arith, place_here cs s p h e)

  pub from_next : p < length cs → column cs p ≢ s → place_from cs s p ≡ place_from cs s (suc p)
  unfolding place_from
  from_next h e = omega (arith, rw (add-one p) at (place_next cs s p h e))

  pub from_least : p ≤ place_from cs s p
  unfolding place_from
  from_least = omega arith

  -- where there is one, its column is s
  pub from_hit : place_from cs s p < length cs → column cs (place_from cs s p) ≡ s
  unfolding place_from
  from_hit h =
      sym (get_or-drop p cs (place_in (drop p cs) s) 0)
      ∙ place_hit (drop p cs) s (omega (arith, length-drop p cs))

-- a place and its partner are a pair
pub partner_pair : (cs : List ℕ) (s p : ℕ) → partner_of cs s p < length cs → Pair cs s p (partner_of cs s p)
partner_pair cs s p h = record {
  order = from_least cs (bit_xor s (column cs p)) (suc p);
  inside = h;
  makes = rw (from_hit cs (bit_xor s (column cs p)) (suc p) h, xor_comm s (column cs p)) (xor_undo (column cs p) s);
}

module _ {odd : ℕ → ℕ} {cs : List ℕ} (g : Good odd cs) where
  -- no pair makes 0
  pub zero_no_pair : (p q : ℕ) → Pair cs 0 p q → ⊥
  zero_no_pair p q a = pair_nonzero g p q (omega arith) a.inside (λ e. omega arith) a.makes

  -- no pair makes a column
  pub column_no_pair : Parity odd → (s p q : ℕ) → place_in cs s < length cs → Pair cs s p q → ⊥
  column_no_pair o s p q h a = pair-no-column g o p q (place_in cs s) (omega arith) a.inside h (a.makes ∙ sym (place_hit cs s h))
