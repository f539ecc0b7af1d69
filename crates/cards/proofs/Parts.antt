-- How a part is cut into cards, and which cards a code has: how many, and for each number the card's first place and its columns.
-- Assumes nothing.
use mathlib.Core.Path.{◌≡◌, refl, sym, ap, ◌∙◌}
use mathlib.Core.Logic.{⊎_elim}
use mathlib.Core.List.{List, [], ◌∷◌}
use Prim.Native.Nat.{ℕ, zero, suc, ◌+◌, ◌-◌, ◌*◌, ◌≤◌, ◌<◌}
use native.Mathlib.Nat.{add-div_right, div-eq_of_lt, div-eq_of_lt-le, suc-mul, zero-add, zero-mul, add-zero}
use native.Mathlib.Numerals.{add-one}
use native.Mathlib.Omega.{arith}
use lib.ListN.{length, take, drop, length-append, length-drop, get_or-append}
use lib.Seq.{drop-drop, length-take-le, get_or-append-add}
use Rattle.parity.proofs.Ones.{below_or_not}
use Rattle.cards.specs.Cards.{cards_in, cut_into, cut, all_cards, card_at}

-- ---- how many cards some places take: none where there are none, else one more than those behind the first b

cards_none : (b : ℕ) → 1 ≤ b → cards_in b 0 ≡ 0
cards_none b h = div-eq_of_lt (omega arith)

cards_next : (b places : ℕ) → 1 ≤ b → 1 ≤ places → cards_in b places ≡ suc (cards_in b (places - b))
cards_next b places h l =
    ⊎_elim
    (λ (s : places < b).
    let one : cards_in b places ≡ 1 = div-eq_of_lt-le b (omega arith) (omega arith) in
    let z : places - b ≡ 0 = omega arith in
    rw (one, z, cards_none b h))
    (λ (s : b ≤ places).
    let e : places + (b - 1) ≡ (places - b + (b - 1)) + b = omega arith in
    rw (e, add-div_right (places - b + (b - 1)) h, add-one))
    (below_or_not places b)

-- ---- a part as a loop walks it: no card where no place is left, else a card and those of the rest

pub cut_end : (b p : ℕ) (part : List ℕ) → 1 ≤ b → length part ≡ 0 → cut b p part ≡ []
unfolding cut_into
cut_end b p part h e = rw (e, cards_none b h)

pub cut_next : (b p : ℕ) (part : List ℕ) → 1 ≤ b → 1 ≤ length part
    → cut b p part ≡ record { place = p; columns = take b part } ∷ cut b (p + b) (drop b part)
unfolding cut_into
cut_next b p part h l = rw (cards_next b (length part) h l, length-drop b part)

-- ---- the cards by their numbers

pub cut-counted : (n b p : ℕ) (part : List ℕ) → length (cut_into n b p part) ≡ n
unfolding cut_into
cut-counted zero b p part = refl
cut-counted (suc n) b p part = ap suc (cut-counted n b (p + b) (drop b part))

pub cut_at : (n b p : ℕ) (part : List ℕ) (t : ℕ) → t < n
    → card_at (cut_into n b p part) t ≡ record { place = p + t * b; columns = take b (drop (t * b) part) }
unfolding cut_into
cut_at zero b p part t l = absurd (omega arith)
cut_at (suc n) b p part zero l = rw (zero-mul b, add-zero p)
cut_at (suc n) b p part (suc t) l =
    let e : b + t * b ≡ suc t * b = omega (arith, suc-mul t b) in
    let f : p + b + t * b ≡ p + suc t * b = omega (arith, suc-mul t b) in
    cut_at n b (p + b) (drop b part) t (omega arith)
    ∙ rw (drop-drop (t * b) b part, e, f)

-- ---- a code with k data places

module _ (b k : ℕ) (cs : List ℕ) (inside : k ≤ length cs) where
  pub data_counted : length (cut b 0 (take k cs)) ≡ cards_in b k
  data_counted = cut-counted (cards_in b (length (take k cs))) b 0 (take k cs) ∙ ap (cards_in b) (length-take-le k cs inside)

  pub all_counted : length (all_cards b k cs) ≡ cards_in b k + cards_in b (length cs - k)
  all_counted = simp (length-append, cut-counted, length-drop, length-take-le k cs inside)

  -- the data cards: b places each from place 0 on, the last what is left of the k
  pub data_card : (t : ℕ) → t < cards_in b k
      → card_at (all_cards b k cs) t ≡ record { place = t * b; columns = take b (drop (t * b) (take k cs)) }
  data_card t l =
      let few : t < length (cut b 0 (take k cs)) = omega (arith, data_counted) in
      get_or-append (cut b 0 (take k cs)) (cut b k (drop k cs)) (record { place = 0; columns = [] }) t few
      ∙ cut_at (cards_in b (length (take k cs))) b 0 (take k cs) t (rw (length-take-le k cs inside) l)
      ∙ rw (zero-add (t * b))

  -- the check cards: their numbers run on, and they begin again at place k
  pub check_card : (t : ℕ) → t < cards_in b (length cs - k)
      → card_at (all_cards b k cs) (cards_in b k + t) ≡ record { place = k + t * b; columns = take b (drop (k + t * b) cs) }
  check_card t l =
      ap (λ (n : ℕ). card_at (all_cards b k cs) (n + t)) (sym data_counted)
      ∙ get_or-append-add (cut b 0 (take k cs)) (cut b k (drop k cs)) t (record { place = 0; columns = [] })
      ∙ cut_at (cards_in b (length (drop k cs))) b k (drop k cs) t (rw (length-drop k cs) l)
      ∙ rw (drop-drop (t * b) k cs)

-- in plain numbers, 02's example: columns 7 and 11 with r 4, and cards of 3
pub cards_worked : all_cards 3 2 (7 ∷ 11 ∷ 1 ∷ 2 ∷ 4 ∷ 8 ∷ [])
    ≡ record { place = 0; columns = 7 ∷ 11 ∷ [] }
    ∷ record { place = 2; columns = 1 ∷ 2 ∷ 4 ∷ [] }
    ∷ record { place = 5; columns = 8 ∷ [] }
    ∷ []
unfolding cut_into
cards_worked = refl
