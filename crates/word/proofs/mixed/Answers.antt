-- `word::mixed` meets its contract: past 64 columns the list is cut at place 64; up to there the high half changes nothing. Assumes
-- nothing.
use mathlib.Core.Path.{sym, ap₂, ◌∙◌}
use native.Mathlib.Omega.{arith}
use lib.Bits.{bit_xor}
use lib.Seq.{length-take-le}
use Rattle.word.proofs.Halves.{mix_cut_part, mix_past}
use Rattle.word.proofs.mixed.Goals as goal

pub returns-then-columns-le64 : goal.returns-then-columns-le64
returns-then-columns-le64 c =
    let a = c.args in
    c.mixed.ensures ∙ sym (mix_past a.columns.now 64 a.low a.high (omega arith) c.ranges.low.fits)

pub slice_bounds-mixed-end : goal.slice_bounds-mixed-end
slice_bounds-mixed-end c = sym (length-take-le 64 c.args.columns.now (omega arith))

pub returns : goal.returns
returns c =
    let a = c.args in
    ap₂ bit_xor c.mixed-2.ensures c.mixed-3.ensures
    ∙ sym (mix_cut_part a.columns.now 64 a.low a.high (omega arith) c.ranges.low.fits)
