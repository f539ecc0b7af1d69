-- The demands on the judge: the promises of the ten-byte edition. Assumes nothing.
use Rattle.editions.proofs.OfJudge as of_any
use Rattle.demands.specs.Demands as demands
use Rattle.demands.specs.Editions.{narrow_code}
use Rattle.demands.proofs.Narrow.{handed, accepted}

pub accepted_exactly : demands.AcceptedExactly
accepted_exactly code h = of_any.accepted_exactly (narrow_code code) (handed code h)

pub three_ones : demands.ThreeOnes
three_ones code a = of_any.three_ones (narrow_code code) (accepted code a)

pub judged_exactly : demands.JudgedExactly
judged_exactly code = of_any.judged_exactly (narrow_code code)
