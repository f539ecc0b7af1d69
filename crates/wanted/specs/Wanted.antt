-- Check bits wanted: document 01's bands of k, and 02's request 108 from 65 on. Assumes nothing.
use Rattle.std.specs.Prelude.{cond, ◌||◌, ℕ, eqb, ltb, leb, Option, Some, None}
use Rattle.wanted.specs.declared.CheckBits.{CheckBits}

-- 1 gives 3; 2 to 4 give 4; 5 to 11 give 5; 12 to 26 give 6; 27 to 57 give 7; 58 to 120 give 8; 121 and more give 9
unfoldable pub band_of : ℕ → ℕ
band_of k =
    cond (leb k 1) 3
    (cond (leb k 4) 4
    (cond (leb k 11) 5
    (cond (leb k 26) 6
    (cond (leb k 57) 7
    (cond (leb k 120) 8 9)))))

-- the question is refused by 1 where k is 0 or over `most`, and then hands back no bits
unfoldable pub wanted_in : ℕ → ℕ → CheckBits
wanted_in most k = cond (eqb k 0 || ltb most k) (record { number = 1; bits = 0 }) (record { number = 0; bits = band_of k })

-- the check bits, or that there are none, as they are handed out
abbrev pub handed_out : Option ℕ → CheckBits
handed_out (Some bits) = record { number = 0; bits = bits }
handed_out None = record { number = 1; bits = 0 }

-- for codes of 64 places, and of 128
abbrev pub wanted_of : ℕ → CheckBits
wanted_of k = wanted_in 64 k

abbrev pub wanted_wide : ℕ → CheckBits
wanted_wide k = wanted_in 128 k
