-- Passes one after the other: the state that a pass leaves, and many; two runs, and the same run again. Assumes nothing.
use Rattle.std.specs.Prelude.{cond, ◌||◌, List, [], ◌∷◌, ℕ, ◌+◌, eqb}
use Rattle.record.specs.declared.Tally.{Tally}
use Rattle.code.specs.declared.Opened.{Opened}
use Rattle.asked.specs.declared.Pass.{Pass}
use Rattle.asked.specs.Pass.{State}
use Rattle.pass.specs.Pass.{After, after_pass}

-- ---- the state that passes leave

-- image and journal as they are left, and the count in use: a refused pass leaves it
abbrev pub state_in : State → After → State
state_in s x =
    record { image = x.image; journal = x.journal; used = cond (eqb x.answer.number 0) x.answer.used s.used }

abbrev pub state_after : Opened → ℕ → Pass → State → State
state_after o d p s = state_in s (after_pass o d p s)

-- a pass and the opened code that it is under; and such passes in their order, each told the count in use
pub record Step : Type 0 where
  pub under : Opened
  pub pass : Pass

unfoldable pub steps_after : ℕ → List Step → State → State
steps_after d [] s = s
steps_after d (x ∷ xs) s = steps_after d xs (state_after x.under d x.pass s)

-- ---- tallies

-- the tallies of two runs, added count by count
abbrev pub added : Tally → Tally → Tally
added s t =
    record {
      clean = s.clean + t.clean;
      «data» = s.«data» + t.«data»;
      check = s.check + t.check;
      even = s.even + t.even;
      odd = s.odd + t.odd;
      stray = s.stray + t.stray;
    }

-- the verdict that a record has once it was passed over, and the tally that the same run gives again
abbrev pub verdict_again : ℕ → ℕ
verdict_again v = cond (eqb v 1 || eqb v 2) 0 v

abbrev pub tally_again : Tally → Tally
tally_again t = record { clean = t.clean + t.«data» + t.check; «data» = 0; check = 0; even = t.even; odd = t.odd; stray = t.stray }
