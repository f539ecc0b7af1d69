-- The demands on any order of passes: the promises of the ten-byte edition. Assumes nothing.
use mathlib.Core.Logic.{inl}
use Rattle.record.specs.Bytes.{number_of}
use Rattle.orders.proofs.Exactly.{apart_exactly}
use Rattle.editions.proofs.Codes.{limits_of}
use Rattle.editions.proofs.OfOrders as of_any
use Rattle.editions.proofs.OfPasses.{done_number}
use Rattle.demands.specs.Definitions.{Accepted}
use Rattle.demands.specs.Demands as demands
use Rattle.demands.specs.Editions.{narrow}
use Rattle.demands.proofs.Narrow.{handed, accepted}

pub apart_by_ends : demands.ApartExactly
apart_by_ends = apart_exactly

pub order_done : demands.OrderDone
order_done code a = of_any.order_done (narrow code) (accepted code a)

pub any_order : demands.AnyOrder
any_order code a = of_any.any_order (narrow code) (accepted code a)

pub order_tallies : demands.OrderTallies
order_tallies code a = of_any.order_tallies (narrow code) (accepted code a)

pub two_clerks : demands.TwoClerks
two_clerks code a = of_any.two_clerks (narrow code) (accepted code a)

pub shared_record : demands.SharedRecord
unfolding number_of
shared_record code h first last between s small tiny done =
    let a : Accepted code = record { handed = h; number = done_number (narrow code) first s done } in
    of_any.shared_record (narrow code) (handed code h) first last between s (inl (limits_of (narrow code) (accepted code a)).sized.few)
    small tiny done
