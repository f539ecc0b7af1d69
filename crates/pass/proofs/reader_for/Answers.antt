-- `pass::reader_for` meets its contract: how the code stands refuses, then what is asked. Assumes nothing.
use mathlib.Core.Path.{◌≡◌, sym, ap, ◌∙◌}
use Rattle.std.specs.Prelude.{Result, Ok, Err, MatchResult}
use Rattle.std.specs.Result.{IsErrAnd}
use native.Mathlib.Omega.{arith}
use Rattle.code.specs.declared.Opened.{Opened}
use Rattle.code.specs.declared.Refusal.{Refusal}
use Rattle.code.specs.Refusals.{only}
use Rattle.asked.specs.declared.Pass.{Pass}
use Rattle.asked.specs.declared.Misasked.{Misasked}
use Rattle.asked.specs.declared.Misasked.TheVariants.{NoImage, NoRun, Overfull, Backdated}
use Rattle.asked.specs.Misasked.{number_of}
use Rattle.asked.specs.Pass.{State, state_of, wrong_in}
use Rattle.pass.specs.Pass.{refused_by, reader_of, after_pass}
use Rattle.pass.proofs.Cases.{refused_with, pass_refused, pass_accepted, refused-first}
use Rattle.pass.proofs.reader_for.Goals as goal

-- what went up by `?`
gone_up : {A B : Type 0} (r : Result A B) (P : A → Type 0) (Q R : B → Type 0) → IsErrAnd r R → ((f : B) → R f → Q f) → MatchResult r P Q
gone_up (Ok x) P Q R h k = absurd h
gone_up (Err f) P Q R h k = k f h

some_number : (m : Misasked) → number_of m ≡ 0 → ⊥
some_number NoImage e = omega (arith, e)
some_number NoRun e = omega (arith, e)
some_number Overfull e = omega (arith, e)
some_number Backdated e = omega (arith, e)

module _ (o : Opened) (d : _) (p : Pass) (s : State) where
  refused_code : (e f : Refusal) → o.standing ≡ Err e → f ≡ e → after_pass o d p s ≡ refused_by f s
  refused_code e f h k = pass_refused o d p s e h ∙ ap (λ (g : Refusal). refused_by g s) (sym k)

  misasked : (m : Misasked) (f : Refusal) → (u : _) → o.standing ≡ Ok u → number_of m ≡ wrong_in d p s → f ≡ only (number_of m)
      → after_pass o d p s ≡ refused_by f s
  misasked m f u h n k =
      pass_accepted o d p s h
      ∙ refused-first (reader_of o d) p s (λ z. some_number m (n ∙ z))
      ∙ ap (λ w. refused_with w 0 s) (sym n)
      ∙ ap (λ (g : Refusal). refused_by g s) (sym k)

pub returns-in_err-opened : goal.returns-in_err-opened
returns-in_err-opened c =
    let a = c.args in
    gone_up c.from_residual.result _ _ _ c.from_residual.ensures.1
    (λ f k. refused_code a.opened.now a.d a.over (state_of a.image.now a.journal.now a.used) _ f c.in_err-opened.was k)

pub returns-in_err-wrong_in : goal.returns-in_err-wrong_in
returns-in_err-wrong_in c =
    let a = c.args in
    gone_up c.from_residual-in_err-wrong_in.result _ _ _ c.from_residual-in_err-wrong_in.ensures.1
    (λ f k. misasked a.opened.now a.d a.over (state_of a.image.now a.journal.now a.used) _ f _ c.in_ok-opened.was c.in_err-wrong_in.ensures k)

pub returns : goal.returns
returns c =
    let a = c.args in
    (pass_accepted a.opened.now a.d a.over (state_of a.image.now a.journal.now a.used) c.in_ok-opened.was, sym c.in_ok-wrong_in.ensures)
