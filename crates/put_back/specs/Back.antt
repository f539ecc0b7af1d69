-- THE PUT-BACK (02's request 104): from the last entry in use to the first, each is put back where it matches. Over records with d bytes
-- of data. Assumes nothing.
use Rattle.std.specs.Prelude.{Bool, true, false, cond, List, ℕ, zero, suc, ltb, Result, Ok, Err}
use Rattle.put_back.specs.declared.PutBack.{PutBack}
use Rattle.put_back.specs.declared.Refusal.{Refusal}
use Rattle.put_back.specs.declared.Refusal.TheVariants.{NoImage, Overfull, NoMatch}
use Rattle.asked.specs.Pass.{no_image, room_in}
use Rattle.record.specs.Journal.{entry_at}
use Rattle.entry_back.specs.Entry.{matches, undone}

pub record Back : Type 0 where
  pub image : List ℕ
  pub count : ℕ
  pub stopped : Bool

-- from the entry n - 1 down to the entry 0, `done` others put back before them; it stops at the first that does not match
unfoldable pub back_from : ℕ → List ℕ → ℕ → ℕ → List ℕ → Back
back_from d journal zero done image = record { image = image; count = done; stopped = false }
back_from d journal (suc n) done image =
    cond (matches d (entry_at d journal n) image)
    (back_from d journal n (suc done) (undone d (entry_at d journal n) image))
    (record { image = image; count = done; stopped = true })

-- ---- the answer: 12, then 17, then 18 as it comes up

pub record Returned : Type 0 where
  pub answer : PutBack
  pub image : List ℕ

abbrev pub refused_back : ℕ → PutBack
refused_back number = record { number = number; told = 0; count = 0 }

-- how many are put back where all match, or how many where it stopped; and what is told of it, and of a refusal
abbrev pub answer_of : Back → Result ℕ Refusal
answer_of b = cond b.stopped (Err (NoMatch b.count)) (Ok b.count)

abbrev pub told_by : Result ℕ Refusal → PutBack
told_by (Ok count) = record { number = 0; told = 0; count = count }
told_by (Err NoImage) = refused_back 12
told_by (Err Overfull) = refused_back 17
told_by (Err (NoMatch count)) = record { number = 18; told = 0; count = count }

-- a refusal by 12 or 17 changes no byte
abbrev pub kept_by : ℕ → List ℕ → Returned
kept_by number image = record { answer = refused_back number; image = image }

-- done, or 18 where it stopped; those put back stay either way, and how many they are is handed back
abbrev pub returned_by : Back → Returned
returned_by b = record { answer = told_by (answer_of b); image = b.image }

unfoldable pub put_back_of : ℕ → List ℕ → List ℕ → ℕ → Returned
put_back_of d image journal used =
    cond (no_image d image) (kept_by 12 image)
    (cond (ltb (room_in d journal) used) (kept_by 17 image)
    (returned_by (back_from d journal used 0 image)))
