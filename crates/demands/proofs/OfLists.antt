-- The demands on explanations: the promises of the ten-byte edition, for words with an empty high half. Assumes nothing.
use native.Mathlib.Nat.{add-zero}
use Rattle.editions.proofs.OfLists as of_any
use Rattle.listing.specs.Sets.{flip_all}
use Rattle.desk.specs.Answers.{word_with}
use Rattle.demands.specs.Demands as demands
use Rattle.demands.specs.Editions.{narrow}
use Rattle.demands.proofs.Narrow.{accepted, clean, clean_back}

pub explaining_refuses : demands.ExplainingRefuses
explaining_refuses code low check limit list =
    let x = rw (add-zero low) at (of_any.explaining_refuses (narrow code) (word_with low check) limit list) in (
      x.0,
      λ a. x.1 (accepted code a),
      λ a. x.2 (accepted code a),
      λ a. x.3 (accepted code a),
      λ a. x.4 (accepted code a),
    )

pub explained_entries : demands.ExplainedEntries
explained_entries code low check limit list done a =
    rw (add-zero low) at (of_any.explained_entries (narrow code) (word_with low check) limit list done (accepted code a))

pub entry_tells : demands.EntryTells
entry_tells code a = of_any.entry_tells (narrow code) (accepted code a)

pub explained_exactly : demands.ExplainedExactly
explained_exactly code a w fits limit ps =
    let x = of_any.explained_exactly (narrow code) (accepted code a) w fits limit ps in (
      λ m. let y = x.0 m in (y.0, clean_back code a (flip_all w ps) y.1),
      λ y. x.1 (y.0, clean code a (flip_all w ps) y.1),
    )

pub explained_once : demands.ExplainedOnce
explained_once code a = of_any.explained_once (narrow code) (accepted code a)

pub explained_in_order : demands.ExplainedInOrder
explained_in_order code a = of_any.explained_in_order (narrow code) (accepted code a)

pub explained_flips : demands.ExplainedFlips
explained_flips code a w fits c = of_any.explained_flips (narrow code) (accepted code a) w fits (clean code a w c)
