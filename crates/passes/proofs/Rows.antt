-- EVERY QUESTION HAS ITS ROW: the code's refusal, 12, 14, 17, 16, 13, or done; and a pass under an accepted code whose number is 0 is done.
-- Assumes nothing.
use Rattle.code.specs.Opened.{Standing}
use mathlib.Core.Path.{◌≡◌, refl, sym, ap, ◌∙◌}
use mathlib.Core.Logic.{◌⊎◌, inl, inr}
use Prim.Native.Nat.{ℕ, ◌-◌, ◌≤◌, ◌<◌}
use native.Mathlib.Omega.{arith}
use Rattle.parity.proofs.Ones.{below_or_not}
use Rattle.code.specs.declared.Opened.{Opened}
use Rattle.code.specs.declared.Refusal.{Refusal}
use Rattle.std.specs.Prelude.{Ok, Err}
use Rattle.asked.specs.declared.Pass.{Pass}
use Rattle.asked.specs.Pass.{State, room_in}
use Rattle.pass.specs.Pass.{After, needed_run, reader_of, after_pass}
use Rattle.asked.specs.Asked.{Image, NoImage, Run, NoRun, GoesBack, Askable}
use Rattle.pass.proofs.Cases.{refused_with, done_with, pass_refused}
use Rattle.asked.proofs.Cases.{Wrong, wrong_row}
use Rattle.pass.proofs.Answers.{answer_12, answer-14, answer-17, answer-16, answer-13, answer-done}

pub data Row (o : Opened) (d : ℕ) (p : Pass) (s : State) : Type 0 where
  closed : (g : Refusal) → o.standing ≡ Err g → Row o d p s
  no-image : o.standing ≡ Ok tt → NoImage d s.image → Row o d p s
  no_run : o.standing ≡ Ok tt → Image d s.image → NoRun d s.image p.start p.end → Row o d p s
  too_many : o.standing ≡ Ok tt → Image d s.image → Run d s.image p.start p.end
      → room_in d s.journal < s.used → Row o d p s
  goes_back : o.standing ≡ Ok tt → Image d s.image → Run d s.image p.start p.end
      → s.used ≤ room_in d s.journal → GoesBack d p.stamp s.journal s.used → Row o d p s
  no_room : o.standing ≡ Ok tt → Askable d p s
      → room_in d s.journal - s.used < needed_run (reader_of o d) s.image p.start p.end → Row o d p s
  done : o.standing ≡ Ok tt → Askable d p s
      → needed_run (reader_of o d) s.image p.start p.end ≤ room_in d s.journal - s.used → Row o d p s

-- a pass is refused with a number, from which nothing changes, or it is done
pub data Ended (o : Opened) (d : ℕ) (p : Pass) (s : State) : Type 0 where
  by_code : (g : Refusal) → o.standing ≡ Err g → after_pass o d p s ≡ refused_with g.number g.told s → Ended o d p s
  refused : (number told : ℕ) → 0 < number → after_pass o d p s ≡ refused_with number told s → Ended o d p s
  finished : o.standing ≡ Ok tt → after_pass o d p s ≡ done_with (reader_of o d) p s → Ended o d p s

module _ (o : Opened) (d : ℕ) (p : Pass) (s : State) where
  abbrev needed : ℕ
  needed = needed_run (reader_of o d) s.image p.start p.end

  pub row_of : Row o d p s
  row_of = go o.standing refl
    where
      room_row : o.standing ≡ Ok tt → Askable d p s
          → (room_in d s.journal - s.used < needed) ⊎ (needed ≤ room_in d s.journal - s.used) → Row o d p s
      room_row e q (inl h) = no_room e q h
      room_row e q (inr h) = done e q h

      asked-row : o.standing ≡ Ok tt → Wrong d p s → Row o d p s
      asked-row e (Wrong.no-image h) = no-image e h
      asked-row e (Wrong.no_run i h) = no_run e i h
      asked-row e (Wrong.too_many i r h) = too_many e i r h
      asked-row e (Wrong.goes_back i r n h) = goes_back e i r n h
      asked-row e (Wrong.none q) = room_row e q (below_or_not (room_in d s.journal - s.used) needed)

      go : (x : Standing) → o.standing ≡ x → Row o d p s
      go (Err g) e = closed g e
      go (Ok u) e = asked-row e (wrong_row d p s)

  pub ended : Ended o d p s
  ended = go row_of
    where
      go : Row o d p s → Ended o d p s
      go (closed g e) = by_code g e (pass_refused o d p s g e)
      go (no-image e h) = refused 12 0 (omega arith) (answer_12 o d p s e h)
      go (no_run e i h) = refused 14 0 (omega arith) (answer-14 o d p s e i h)
      go (too_many e i r h) = refused 17 0 (omega arith) (answer-17 o d p s e i r h)
      go (goes_back e i r n h) = refused 16 0 (omega arith) (answer-16 o d p s e i r n h)
      go (no_room e q h) = refused 13 needed (omega arith) (answer-13 o d p s e q h)
      go (done e q h) = finished e (answer-done o d p s e q h)

  -- ---- a pass under an accepted code, whose number is 0

  module _ (taken : o.standing ≡ Ok tt) (zero-told : (after_pass o d p s).answer.number ≡ 0) where
    number_of : (x : After) → after_pass o d p s ≡ x → x.answer.number ≡ 0
    number_of x e = sym (ap (λ y. y.answer.number) e) ∙ zero-told

    pub done-asked : Askable d p s × (needed ≤ room_in d s.journal - s.used)
    done-asked = go row_of
      where
        go : Row o d p s → Askable d p s × (needed ≤ room_in d s.journal - s.used)
        go (closed g e) = cc
        go (no-image e h) = absurd (omega (arith, number_of (refused_with 12 0 s) (answer_12 o d p s e h)))
        go (no_run e i h) = absurd (omega (arith, number_of (refused_with 14 0 s) (answer-14 o d p s e i h)))
        go (too_many e i r h) = absurd (omega (arith, number_of (refused_with 17 0 s) (answer-17 o d p s e i r h)))
        go (goes_back e i r n h) = absurd (omega (arith, number_of (refused_with 16 0 s) (answer-16 o d p s e i r n h)))
        go (no_room e q h) = absurd (omega (arith, number_of (refused_with 13 needed s) (answer-13 o d p s e q h)))
        go (done e q h) = (q, h)

    pub done-is : after_pass o d p s ≡ done_with (reader_of o d) p s
    done-is = let q = done-asked in answer-done o d p s taken q.0 q.1
