-- WHAT A PASS ANSWERS under any opened code, over records of any size: a row of "When the desk says no" each, with its number and what it
-- tells, and done. Assumes nothing.
use mathlib.Core.Path.{◌≡◌, ap, ◌∙◌}
use mathlib.Core.Logic.{◌≢◌}
use Prim.Native.Nat.{ℕ, ◌-◌, ◌≤◌, ◌<◌}
use native.Mathlib.Omega.{arith}
use Rattle.code.specs.declared.Opened.{Opened}
use Rattle.std.specs.Prelude.{Ok}
use Rattle.asked.specs.declared.Pass.{Pass}
use Rattle.asked.specs.Pass.{State, room_in, wrong_in}
use Rattle.pass.specs.Pass.{needed_run, reader_of, after_pass}
use Rattle.asked.specs.Asked.{Image, NoImage, Run, NoRun, GoesBack, Askable}
use Rattle.pass.proofs.Cases.{refused_with, done_with, refused-first, no_room, done, pass_accepted}
use Rattle.asked.proofs.Cases.{wrong_12, wrong-14, wrong-17, wrong-16, wrong_none}

module _ (o : Opened) (d : ℕ) (p : Pass) (s : State) (taken : o.standing ≡ Ok tt) where
  -- a number that refuses it before its records are looked at
  refused_as : (n : ℕ) → wrong_in d p s ≡ n → n ≢ 0 → after_pass o d p s ≡ refused_with n 0 s
  refused_as n e z =
      pass_accepted o d p s taken ∙ refused-first (reader_of o d) p s (λ x. z (omega (arith, x, e))) ∙ ap (λ m. refused_with m 0 s) e

  pub answer_12 : NoImage d s.image → after_pass o d p s ≡ refused_with 12 0 s
  answer_12 h = refused_as 12 (wrong_12 d p s h) (λ z. omega arith)

  module _ (i : Image d s.image) where
    pub answer-14 : NoRun d s.image p.start p.end → after_pass o d p s ≡ refused_with 14 0 s
    answer-14 h = refused_as 14 (wrong-14 d p s i h) (λ z. omega arith)

    module _ (r : Run d s.image p.start p.end) where
      pub answer-17 : room_in d s.journal < s.used → after_pass o d p s ≡ refused_with 17 0 s
      answer-17 h = refused_as 17 (wrong-17 d p s i r h) (λ z. omega arith)

      pub answer-16 : s.used ≤ room_in d s.journal → GoesBack d p.stamp s.journal s.used
          → after_pass o d p s ≡ refused_with 16 0 s
      answer-16 n h = refused_as 16 (wrong-16 d p s i r n h) (λ z. omega arith)

  module _ (q : Askable d p s) where
    abbrev wanted : ℕ
    wanted = needed_run (reader_of o d) s.image p.start p.end

    pub answer-13 : room_in d s.journal - s.used < wanted → after_pass o d p s ≡ refused_with 13 wanted s
    answer-13 h = pass_accepted o d p s taken ∙ no_room (reader_of o d) p s (wrong_none d p s q) h

    pub answer-done : wanted ≤ room_in d s.journal - s.used → after_pass o d p s ≡ done_with (reader_of o d) p s
    answer-done h = pass_accepted o d p s taken ∙ done (reader_of o d) p s (wrong_none d p s q) h
