-- Bytes written from a place on: what lies before them stays, what lies behind them, and the records among them. Assumes nothing.
use mathlib.Core.Path.{◌≡◌, sym, ap, ◌∙◌}
use mathlib.Core.List.{List}
use Prim.Native.Nat.{ℕ, suc, ◌+◌, ◌*◌, ◌≤◌}
use native.Mathlib.Omega.{arith}
use lib.ListN.{length, take, drop, length-append, length-drop}
use lib.Seq.{take_at, drop_at, drop-drop, length-take-le}
use Rattle.record.specs.Run.{record_at, over}
use Rattle.runs.proofs.Over.{length_over, drop-over}
use Rattle.runs.proofs.Run.{record_append, record_drop}
use Rattle.pass.specs.Pass.{behind}

module _ (at : ℕ) (bytes journal : List ℕ) (fits : at ≤ length journal) where
  front : length (take at journal) ≡ at
  front = length-take-le at journal fits

  pub take_behind : take at (behind at bytes journal) ≡ take at journal
  take_behind = take_at (take at journal) (over bytes (drop at journal)) at front

  pub drop-behind : drop at (behind at bytes journal) ≡ over bytes (drop at journal)
  drop-behind = drop_at (take at journal) (over bytes (drop at journal)) at front

  pub past_behind : (n : ℕ) → length bytes ≡ n → drop (at + n) (behind at bytes journal) ≡ drop (at + n) journal
  past_behind n e =
      sym (drop-drop n at (behind at bytes journal))
      ∙ ap (drop n) drop-behind
      ∙ drop-over bytes (drop at journal) n e
      ∙ drop-drop n at journal

  pub length-behind : at + length bytes ≤ length journal → length (behind at bytes journal) ≡ length journal
  length-behind h =
      length-append (take at journal) (over bytes (drop at journal))
      ∙ omega (
        arith,
        front,
        length-drop at journal,
        length_over bytes (drop at journal) (omega (arith, length-drop at journal)),
      )

-- the entry m of those written behind u others
pub record_behind : (c u : ℕ) (bytes journal : List ℕ) (m : ℕ) → u * c ≤ length journal → suc m * c ≤ length bytes
    → record_at c (behind (u * c) bytes journal) (u + m) ≡ record_at c bytes m
record_behind c u bytes journal m fits room =
    sym (record_drop c (behind (u * c) bytes journal) u m)
    ∙ ap (λ (l : List ℕ). record_at c l m) (drop-behind (u * c) bytes journal fits)
    ∙ record_append c bytes (drop (length bytes) (drop (u * c) journal)) m room
