-- `cards::first_weak` meets its contract: what the data cards come to, and where they are proof, what the check cards come to.
-- Assumes nothing.
use mathlib.Core.Path.{sym, ap₂, ◌∙◌}
use mathlib.Core.List.{List}
use Prim.Native.Nat.{ℕ, ◌-◌}
use native.Mathlib.Omega.{arith}
use lib.ListN.{length, drop, length-drop}
use lib.Seq.{take_all}
use Rattle.cards.specs.Cards.{cut, weak_card_in}
use Rattle.cards.proofs.Walk.{data_found, check_found}
use Rattle.cards.proofs.first_weak.Goals as goal

pub returns-in-Some : goal.returns-in-Some
returns-in-Some c =
    let a = c.args in
    data_found a.columns.now a.b a.k c.requires.2 c.in-Some.weak (sym c.weak_card_in.ensures ∙ c.in-Some.is)

pub returns : goal.returns
returns c =
    let a = c.args in
    let cs = a.columns.now in
    let checks = take_all (length cs - a.k) (drop a.k cs) (omega (arith, length-drop a.k cs)) in
    c.weak_card_in-2.ensures
    ∙ ap₂ (λ (n : ℕ) (part : List ℕ). weak_card_in cs n (cut a.b 0 part)) c.cards_in.ensures checks
    ∙ check_found cs a.b a.k c.requires.2 (sym c.weak_card_in.ensures ∙ c.in_default.is)
