-- The demands on the maker: the promises of the ten-byte edition. Assumes nothing.
use mathlib.Core.Path.{◌≡◌, sym, ap, subst, ◌∙◌}
use mathlib.Core.Logic.{◌↔◌}
use Prim.Native.Nat.{ℕ, ◌≤◌}
use Rattle.code.specs.Rule.{matrix_of}
use Rattle.balance.specs.Balance.{all_ones}
use Rattle.make.specs.declared.Made.{Made}
use Rattle.editions.specs.Given.{ten_bytes, HsiaoCode, given, MadeCode}
use Rattle.editions.specs.Given as any
use Rattle.editions.specs.Promises as promises
use Rattle.editions.proofs.OfMaking as of_any
use Rattle.desk.specs.Answers.{made_of}
use Rattle.demands.specs.Making.{no_code}
use Rattle.demands.specs.Demands as demands
use Rattle.demands.specs.Editions.{narrow_code, narrow_made}
use Rattle.demands.proofs.Narrow.{accepted, accepted-back}
use Rattle.demands.proofs.OfEditions.{ten_known, ten_bytes_answers}

-- back to what is handed about
abbrev handed-back : MadeCode → Made
handed-back m = record { number = m.number; code = record { columns = m.code.columns; k = m.code.k; r = m.code.r } }

module _ (k r : ℕ) where
  made_is : any.made_of ten_bytes k r ≡ narrow_made (made_of k r)
  made_is = ten_bytes_answers.made k r

  number_is : (any.made_of ten_bytes k r).number ≡ (made_of k r).number
  number_is = ap (λ (m : MadeCode). m.number) made_is

  same_refusal : (n : ℕ) {P : Type 0} → ((any.made_of ten_bytes k r ≡ any.no_code ten_bytes n) ↔ P) → ((made_of k r ≡ no_code n) ↔ P)
  same_refusal n x = (λ e. x.0 (made_is ∙ ap narrow_made e), λ p. ap handed-back (sym made_is ∙ x.1 p))

  -- a fact of the code that is made
  of_made : (P : HsiaoCode → Type 0) → P (any.made_of ten_bytes k r).code → P (narrow_code (made_of k r).code)
  of_made P p = subst (λ (m : MadeCode). P m.code) made_is p

pub making_exactly : demands.MakingExactly
making_exactly k r =
    let x = of_any.making_exactly ten_bytes k r in (
      same_refusal k r 1 x.0,
      same_refusal k r 2 x.1,
      same_refusal k r 15 x.2,
      (λ e. x.3.0 (number_is k r ∙ e), λ t. sym (number_is k r) ∙ x.3.1 t),
    )

pub made_accepted_code : demands.MadeAccepted
made_accepted_code k r e =
    let y = of_any.made_accepted_code ten_bytes ten_known k r (number_is k r ∙ e) in
    let x = of_made k r (λ (made : HsiaoCode). promises.MadeFor made k r) y in
    (accepted-back (made_of k r).code x.0, x.1, x.2, x.3, x.4)

pub made_in_order : demands.MadeInOrder
made_in_order k r e =
    of_made k r (λ (made : HsiaoCode). promises.Ordered made.columns k r) (of_any.made_in_order ten_bytes k r (number_is k r ∙ e))

pub made_least_code : demands.MadeLeast
made_least_code code a =
    let k = code.k in
    let r = code.r in
    let x = of_any.made_least_code (narrow_code code) (accepted code a) in
    (sym (number_is k r) ∙ x.0, of_made k r (λ (made : HsiaoCode). all_ones (any.matrix_of (given made)) ≤ all_ones (matrix_of code)) x.1)

pub making_wanted : demands.MakingWanted
making_wanted k r limits =
    let x = of_any.making_wanted ten_bytes ten_known k r limits in
    (λ e. x.0 (number_is k r ∙ e), λ h. sym (number_is k r) ∙ x.1 h)
