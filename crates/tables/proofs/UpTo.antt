-- Lists of a function's values, and how a table doubles. Assumes nothing.
use mathlib.Core.Path.{◌≡◌, refl, sym, ap, ap₂, ◌∙◌}
use mathlib.Core.List.{List, [], ◌∷◌, ◌++◌, append_assoc, append-nil}
use Prim.Native.Nat.{ℕ, zero, suc, ◌+◌, ◌≤◌, ◌<◌}
use native.Mathlib.Nat.{add-suc, add-zero, not-suc-le-zero}
use native.Mathlib.Numerals.{add-one}
use native.Mathlib.Decide.{dec_lt}
use native.Mathlib.Omega.{arith}
use lib.Bits.{bit_xor}
use lib.ListN.{length, get_or, take, set, length-append}
use lib.Seq.{take-suc-set, take-take, take_at, length-take-le, get_or_at, get_or-take, take-append-le}
use Rattle.tables.specs.Tables.{up_to}

pub up_to-step : (f : ℕ → ℕ) (n : ℕ) → up_to f (n + 1) ≡ up_to f n ++ (f n ∷ [])
unfolding up_to
up_to-step f n = rw (add-one n)

pub length-up_to : (f : ℕ → ℕ) (n : ℕ) → length (up_to f n) ≡ n
unfolding up_to
length-up_to f zero = refl
length-up_to f (suc n) = length-append (up_to f n) (f n ∷ []) ∙ omega (arith, length-up_to f n)

pub up_to_alike : (f g : ℕ → ℕ) (n : ℕ) → ((i : ℕ) → i < n → f i ≡ g i) → up_to f n ≡ up_to g n
unfolding up_to
up_to_alike f g zero h = refl
up_to_alike f g (suc n) h = ap₂ (λ (p : List ℕ) (x : ℕ). p ++ (x ∷ [])) (up_to_alike f g n (λ i l. h i (omega arith))) (h n (omega arith))

pub up_to-add : (f : ℕ → ℕ) (n m : ℕ) → up_to f (n + m) ≡ up_to f n ++ up_to (λ i. f (n + i)) m
unfolding up_to
up_to-add f n zero = rw (add-zero n) (sym (append-nil (up_to f n)))
up_to-add f n (suc m) =
    rw (add-suc n m, up_to-add f n m) (append_assoc (up_to f n) (up_to (λ i. f (n + i)) m) (f (n + m) ∷ []))

-- the value at i
pub up_to-at : (f : ℕ → ℕ) (n i : ℕ) → i < n → get_or (up_to f n) i 0 ≡ f i
unfolding up_to
up_to-at f zero i h = absurd (not-suc-le-zero h)
up_to-at f (suc n) i h =
    elim (dec_lt i n) as (λ d. get_or (up_to f n ++ (f n ∷ [])) i 0 ≡ f i) [
      | yes l ↦
          sym (get_or-take n (up_to f n ++ (f n ∷ [])) i 0 l)
          ∙ ap (λ (t : List ℕ). get_or t i 0) (take-append-le n (up_to f n) (f n ∷ []) (omega (arith, length-up_to f n)))
          ∙ get_or-take n (up_to f n) i 0 l
          ∙ up_to-at f n i l
      | no l ↦ let e : i ≡ n = omega arith in rw e (get_or_at (up_to f n) (f n) [] 0 n (length-up_to f n))
    ]

-- one value more is written behind those before it
pub up_to-turn : (f : ℕ → ℕ) (t : List ℕ) (i : ℕ) → i < length t → take i t ≡ up_to f i → take (i + 1) (set t i (f i)) ≡ up_to f (i + 1)
up_to-turn f t i h e = rw (up_to-step f i, add-one i, take-suc-set t i (f i) h, e)

-- ---- a loop that writes the upper half of a table from its lower half

module _ (t₀ t : List ℕ) (n b c : ℕ) (h : b < n) (old : n ≤ length t₀)
    (inv : take (n + b) t ≡ take n t₀ ++ up_to (λ i. bit_xor (get_or t₀ i 0) c) b) where
  -- what the loop has to read still stands
  lower_at : get_or t b 0 ≡ get_or t₀ b 0
  lower_at =
      let same : take n t ≡ take n t₀ =
      sym (take-take n (n + b) t (omega arith)) ∙ ap (take n) inv
      ∙ take_at (take n t₀) (up_to (λ i. bit_xor (get_or t₀ i 0) c) b) n (length-take-le n t₀ old) in
      sym (get_or-take n t b 0 h) ∙ ap (λ (l : List ℕ). get_or l b 0) same ∙ get_or-take n t₀ b 0 h

  pub bit_turn : n + b < length t → take (n + (b + 1)) (set t (n + b) (bit_xor (get_or t b 0) c))
      ≡ take n t₀ ++ up_to (λ i. bit_xor (get_or t₀ i 0) c) (b + 1)
  bit_turn k =
      let e : n + (b + 1) ≡ suc (n + b) = omega arith in
      rw (e, take-suc-set t (n + b) (bit_xor (get_or t b 0) c) k, inv, lower_at, up_to-step (λ i. bit_xor (get_or t₀ i 0) c) b)
      (append_assoc (take n t₀) (up_to (λ i. bit_xor (get_or t₀ i 0) c) b) (bit_xor (get_or t₀ b 0) c ∷ []))

-- a table of f for n values becomes one of g for twice as many
pub doubled : (f g : ℕ → ℕ) (c n : ℕ) (t u : List ℕ) → take n t ≡ up_to f n
    → take (n + n) u ≡ take n t ++ up_to (λ i. bit_xor (get_or t i 0) c) n
    → ((i : ℕ) → i < n → g i ≡ f i) → ((i : ℕ) → i < n → g (n + i) ≡ bit_xor (f i) c) → take (n + n) u ≡ up_to g (n + n)
doubled f g c n t u e w low high =
    w
    ∙ ap₂ (λ (p q : List ℕ). p ++ q)
    (e ∙ sym (up_to_alike g f n low))
    (up_to_alike (λ i. bit_xor (get_or t i 0) c) (λ i. g (n + i)) n
    (λ i h. ap (λ (x : ℕ). bit_xor x c) (sym (get_or-take n t i 0 h) ∙ ap (λ (l : List ℕ). get_or l i 0) e ∙ up_to-at f n i h) ∙ sym (high i h)))
    ∙ sym (up_to-add g n n)

-- a table of one value
pub first_value : (t : List ℕ) (f : ℕ → ℕ) → 0 < length t → f 0 ≡ 0 → take 1 (set t 0 0) ≡ up_to f 1
unfolding up_to
first_value [] f h e = absurd (not-suc-le-zero h)
first_value (x ∷ t) f h e = ap (λ (v : ℕ). v ∷ []) (sym e)
