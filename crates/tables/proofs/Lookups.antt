-- Tables, as they are written and read: one byte's more, and those of a record in two parts. Assumes nothing.
use mathlib.Core.Path.{◌≡◌, refl, sym, ap, ap₂, ◌∙◌}
use mathlib.Core.Bool.{Bool, true, false}
use mathlib.Core.List.{List, [], ◌++◌}
use Prim.Native.Nat.{ℕ, zero, suc, ◌+◌, ◌-◌, ◌*◌, ◌/◌}
use native.Mathlib.Numerals.{add-one}
use native.Mathlib.Omega.{arith}
use borrow.Rule.Slice.PartMut.{put_mid}
use lib.Bits.{bit_xor}
use lib.ListN.{length, get_or, take, drop, length-append, length-drop}
use lib.Seq.{take_all}
use Rattle.columns.specs.Mix.{mix}
use Rattle.record.specs.Run.{over}
use Rattle.record.proofs.Over.{part_length, over-part, over_all, length_part}
use Rattle.tables.specs.Tables.{up_to, byte_table, values_in, tables, tables_of, byte_says, lookups}
use Rattle.tables.proofs.UpTo.{length-up_to}
use Rattle.tables.proofs.Widths.{values_none, values_step, values_both, values_parts}

pub length_byte : (h : Bool) (cs : List ℕ) → length (byte_table h cs) ≡ values_in h
length_byte true cs =
    let low = up_to (mix (take 4 cs)) 16 in
    let high = up_to (mix (take 4 (drop 4 cs))) 16 in
    length-append low high ∙ omega (arith, length-up_to (mix (take 4 cs)) 16, length-up_to (mix (take 4 (drop 4 cs))) 16)
length_byte false cs = length-up_to (mix (take 8 cs)) 256

-- the halves of a byte's table, written one behind the other
pub halves_filled : (l x y : List ℕ) → length l ≡ 32 → length x ≡ 16 → length y ≡ 16 → put_mid 16 16 (put_mid 0 16 l x) y ≡ x ++ y
halves_filled l x y all low high =
    ap (λ (z : List ℕ). put_mid 16 16 z y) (over-part [] l x 0 16 refl low)
    ∙ over-part x l y 16 16 low high
    ∙ over_all (x ++ y) l (length-append x y ∙ omega (arith, low, high, all))

pub length-tables : (h : Bool) (cs : List ℕ) (m : ℕ) → length (tables h cs m) ≡ values_in h * m
unfolding tables
length-tables h cs zero = sym (values_none h)
length-tables h cs (suc m) =
    let new = byte_table h (drop (8 * m) cs) in
    length-append (tables h cs m) new ∙ omega (arith, length-tables h cs m, length_byte h (drop (8 * m) cs), values_step h m)

-- one byte more
pub lookups-step : (h : Bool) (table bytes : List ℕ) (j : ℕ)
    → lookups h table bytes (j + 1) ≡ bit_xor (lookups h table bytes j) (byte_says h table (values_in h * j) (get_or bytes j 0))
unfolding lookups
lookups-step h table bytes j = rw (add-one j)

-- one byte's table more is written behind those before it
pub tables_next : (h : Bool) (cs d now ys : List ℕ) (j a n : ℕ) → now ≡ over (tables h cs j) d → a ≡ values_in h * j → n ≡ values_in h
    → ys ≡ byte_table h (drop (8 * j) cs) → put_mid a n now ys ≡ over (tables h cs (j + 1)) d
unfolding tables
tables_next h cs d now ys j a n e at m g =
    rw (e, add-one j, ← g)
    (over-part (tables h cs j) d ys a n (length-tables h cs j ∙ sym at) (ap length g ∙ length_byte h (drop (8 * j) cs) ∙ sym m))

-- the tables of the data, written as the first part u of the list l; those of the check bits as the other part v: they are a record's
module _ (h : Bool) (cs l u x : List ℕ) (k d a w : ℕ) (all : length l ≡ values_in h * (d + 2)) (at : a ≡ values_in h * d) (wide : w ≡ a)
    (low : length u ≡ w) (e : x ≡ tables h (take k cs) (length u / values_in h)) where
  front : x ≡ tables h (take k cs) d
  front = e ∙ ap (tables h (take k cs)) (values_parts h (length u) d (low ∙ wide ∙ at)).0

  front_length : length x ≡ w
  front_length = ap length front ∙ length-tables h (take k cs) d ∙ sym (wide ∙ at)

  pub back-length : (m : ℕ) → m ≡ values_in h * 2 → length (take m (drop a (put_mid 0 w l x))) ≡ values_in h * 2
  back-length m g =
      let long = length_part l x w front_length (omega (arith, values_both h d 2)) in
      part_length a m (put_mid 0 w l x) (omega (arith, long, values_both h d 2)) ∙ g

  pub record_filled : (v y : List ℕ) (m : ℕ) → m ≡ values_in h * 2 → length v ≡ values_in h * 2
      → y ≡ tables h (take (length cs - k) (drop k cs)) (length v / values_in h) → put_mid a m (put_mid 0 w l x) y ≡ tables_of h cs k d
  record_filled v y m g top f =
      let n = (values_parts h (length v) 2 top).0 in
      let back = f ∙ ap₂ (tables h) (take_all (length cs - k) (drop k cs) (omega (arith, length-drop k cs))) n in
      let b = ap length back ∙ length-tables h (drop k cs) 2 in
      let long : length y ≡ m = b ∙ sym g in
      ap (λ (z : List ℕ). put_mid a m z y) (over-part [] l x 0 w refl front_length)
      ∙ over-part x l y a m (front_length ∙ wide) long
      ∙ over_all (x ++ y) l (length-append x y ∙ omega (arith, front_length, b, values_both h d 2))
      ∙ ap₂ ◌++◌ front back
