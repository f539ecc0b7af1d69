-- The demands on the put-back: the promises of the ten-byte edition. Assumes nothing.
use Rattle.editions.specs.Given.{ten_bytes}
use Rattle.editions.proofs.OfPutBack as of_any
use Rattle.asked.specs.Pass.{state_of}
use Rattle.demands.specs.PutBack.{image_back}
use Rattle.demands.specs.Definitions.{turns_after}
use Rattle.demands.specs.Demands as demands
use Rattle.demands.proofs.OfPasses.{turns_of, same_after}

pub put_back_refuses : demands.PutBackRefuses
put_back_refuses = of_any.put_back_refuses ten_bytes

pub put_back_exactly : demands.PutBackExactly
put_back_exactly = of_any.put_back_exactly ten_bytes

pub put_back_others : demands.PutBackOthers
put_back_others = of_any.put_back_others ten_bytes

pub put_back_restores : demands.PutBackRestores
put_back_restores turns s none = rw (same_after turns s) (of_any.put_back_restores ten_bytes (turns_of turns) s none)

pub passed_again : demands.PassedAgain
passed_again turns s none journal long =
    rw (same_after turns (state_of (image_back (turns_after turns s)) journal 0), same_after turns s)
    (of_any.passed_again ten_bytes (turns_of turns) s none journal long)
