-- The places of a set flipped: a word stays within its places. Assumes nothing.
use mathlib.Core.List.{List, [], ◌∷◌}
use Prim.Native.Nat.{ℕ, suc, ◌^◌, ◌<◌}
use Rattle.columns.specs.Mix.{flipped}
use Rattle.columns.proofs.Words.{flip_lt}
use Rattle.listing.specs.Sets.{flip_all}
use Rattle.explain.specs.Order.{RisingFrom}

pub flip_all-lt : (n w p : ℕ) (ps : List ℕ) → w < 2 ^ n → RisingFrom n p ps → flip_all w ps < 2 ^ n
unfolding flip_all
flip_all-lt n w p [] h r = h
flip_all-lt n w p (q ∷ ps) h r = flip_all-lt n (flipped w q) (suc q) ps (flip_lt n w q h r.1) r.2
