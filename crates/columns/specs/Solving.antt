-- Solving for the check bits whose columns make a syndrome: in as many turns as there are check columns, the rows that are missed are
-- flipped. Assumes nothing.
use Rattle.std.specs.Prelude.{List, ℕ, zero, suc, length}
use Rattle.std.specs.Int.Bits.{bit_xor}
use Rattle.columns.specs.Mix.{mix}

-- what check bits c miss of the syndrome s
abbrev pub missing : List ℕ → ℕ → ℕ → ℕ
missing checks s c = bit_xor (mix checks c) s

-- n turns from c on
unfoldable pub solve_from : List ℕ → ℕ → ℕ → ℕ → ℕ
solve_from checks s zero c = c
solve_from checks s (suc n) c = solve_from checks s n (bit_xor c (missing checks s c))

-- the check bits whose columns make s
unfoldable pub solve : List ℕ → ℕ → ℕ
solve checks s = solve_from checks s (length checks) 0
