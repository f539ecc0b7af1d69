-- `tables::fill_record` meets its contract: the two parts are all of the table. Assumes nothing.
use mathlib.Core.Path.{◌≡◌, ap}
use mathlib.Core.Bool.{Bool}
use Prim.Native.Nat.{ℕ, ◌+◌, ◌-◌, ◌*◌, ◌/◌}
use mathlib.Core.List.{List}
use native.Mathlib.Omega.{arith}
use borrow.Rule.Slice.PartMut.{put_mid}
use lib.ListN.{length, take, drop}
use Rattle.record.proofs.Over.{part_length}
use Rattle.tables.specs.Tables.{values_in, tables}
use Rattle.tables.proofs.Widths.{values_both}
use Rattle.tables.proofs.Lookups.{back-length, record_filled}
use Rattle.tables.proofs.fill_record.Goals as goal

-- so many tables of a byte, where a byte's has `size` values
times : (h : Bool) (d : ℕ) {size : ℕ} → size ≡ values_in h → size * d ≡ values_in h * d
times h d e = ap (λ (n : ℕ). n * d) e

-- both parts are all
all : (h : Bool) (d l : ℕ) {size : ℕ} → size ≡ values_in h → l ≡ values_in h * (d + 2) → size * d + size * 2 ≡ l
all h d l e g = omega (arith, times h d e, times h 2 e, values_both h d 2, g)

-- how wide the other part is
rest : (h : Bool) (d : ℕ) {size : ℕ} → size ≡ values_in h → size * d + size * 2 - size * d ≡ values_in h * 2
rest h d e = omega (arith, times h 2 e)

-- and how long it is once the first is filled
back : (h : Bool) (cs l x : List ℕ) (k d : ℕ) {size : ℕ} → size ≡ values_in h → length l ≡ values_in h * (d + 2)
    → x ≡ tables h (take k cs) (length (take (size * d - 0) (drop 0 l)) / values_in h)
    → length (take (size * d + size * 2 - size * d) (drop (size * d) (put_mid 0 (size * d - 0) l x))) ≡ values_in h * 2
back h cs l x k d {size} e g f =
    back-length h cs l (take (size * d - 0) (drop 0 l)) x k d (size * d) (size * d - 0) g (times h d e) (omega arith)
    (part_length 0 (size * d - 0) l (omega (arith, all h d (length l) e g))) f _ (rest h d e)

pub returns : goal.returns
returns c =
    let a = c.args in
    let e = c.values-size.ensures in
    let n : ℕ = c.values-size.result * a.d in
    let z : ℕ = c.values-size.result * 2 in
    let u : List ℕ = take (n - 0) (drop 0 a.table.now) in
    let y : List ℕ = take (n + z - n) (drop n (put_mid 0 (n - 0) a.table.now c.fill.new.table)) in
    let b = back a.halves a.columns.now a.table.now c.fill.new.table a.k a.d e c.requires.table_len c.fill.ensures in
    let low = part_length 0 (n - 0) a.table.now (omega (arith, all a.halves a.d (length a.table.now) e c.requires.table_len)) in
    let w : n - 0 ≡ n = omega arith in
    record_filled a.halves a.columns.now a.table.now u c.fill.new.table a.k a.d n (n - 0) c.requires.table_len (times a.halves a.d e) w low
    c.fill.ensures y c.fill-2.new.table (n + z - n) (rest a.halves a.d e) b c.fill-2.ensures
