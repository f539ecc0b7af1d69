-- `listing::partner` meets its contract: the columns above p are searched. Assumes nothing.
use Prim.Native.Nat.{◌+◌, ◌-◌}
use mathlib.Core.Path.{refl, ap, ◌∙◌}
use native.Mathlib.Numerals.{add-one}
use native.Mathlib.Omega.{arith}
use lib.Bits.{bit_xor}
use lib.ListN.{length}
use Rattle.columns.specs.Mix.{column}
use Rattle.listing.specs.BySyndrome.{place_from, below}
use Rattle.listing.proofs.Partners.{from-most, from-part}
use Rattle.listing.proofs.partner.Goals as goal

pub overflow_add-q : goal.overflow_add-q
overflow_add-q c =
    let a = c.args in
    let cs = a.columns.now in
    let t = bit_xor a.s (column cs a.p) in
    let e = from-part cs t (a.p + 1) (length cs - (a.p + 1)) c.place_in.result refl c.place_in.ensures in
    omega (arith, e, from-most cs t (a.p + 1) (omega arith))

pub returns : goal.returns
returns c =
    let a = c.args in
    let cs = a.columns.now in
    let t = bit_xor a.s (column cs a.p) in
    let e = from-part cs t (a.p + 1) (length cs - (a.p + 1)) c.place_in.result refl c.place_in.ensures
    ∙ ap (place_from cs t) (add-one a.p) in
    c.then_some.ensures ∙ ap (below (length cs)) e
