-- The promises on the put-back, proved from the layers' laws. Assumes nothing.
use Prim.{tt}
use mathlib.Core.Path.{◌≡◌, sym, ap, subst, ◌∙◌}
use mathlib.Core.Logic.{◌⊎◌, ◌↔◌}
use mathlib.Core.List.{List, [], ◌∷◌}
use Prim.Native.Nat.{ℕ, suc, ◌*◌, ◌≤◌, ◌<◌}
use native.Mathlib.Nat.{mul-le-mul_right}
use lib.ListN.{length, take}
use Rattle.record.specs.Layout.{record_size, entry_size}
use Rattle.record.specs.Run.{record_at}
use Rattle.runs.proofs.Run.{record_take}
use Rattle.asked.specs.Pass.{State, state_of}
use Rattle.asked.specs.Asked.{Image}
use Rattle.asked.proofs.Cases.{not_one, an_image}
use Rattle.put_back.specs.Back.{Returned, kept_by, returned_by, back_from}
use Rattle.put_back.proofs.Answers.{back_none, back-over, back-all}
use Rattle.history.proofs.Undone.{AllKnown}
use Rattle.history.proofs.Restored.{restored}
use Rattle.history.proofs.Exactly as exactly
use Rattle.history.proofs.Again.{Alike, steps_alike, fresh_alike}
use Rattle.editions.specs.Given.{Edition, Turn, code_in, turns_after, room, entry_bytes_at, put_back_of, answer_back, image_back, last_back, LastMatch, StopsAt}
use Rattle.editions.specs.Promises as promises
use Rattle.editions.proofs.OfPasses.{known, steps_of, same_after}

-- ---- its answers

pub put_back_refuses : (e : Edition) → promises.PutBackRefuses e
put_back_refuses e s = (
  λ h. said 12 (back_none e.bytes s.image s.journal s.used (not_one e.bytes s.image h)),
  λ i h. said 17 (back-over e.bytes s.image s.journal s.used (an_image e.bytes s.image i) h),
)
  where
    said : (n : ℕ) → put_back_of e s.image s.journal s.used ≡ kept_by n s.image
        → (answer_back e s ≡ record { number = n; told = 0; count = 0 }) × (image_back e s ≡ s.image)
    said n f = (ap (λ (r : Returned). r.answer) f, ap (λ (r : Returned). r.image) f)

module _ (e : Edition) (s : State) (i : Image e.bytes s.image) (h : s.used ≤ room e s.journal) where
  reaches : returned_by (back_from e.bytes s.journal s.used 0 s.image) ≡ put_back_of e s.image s.journal s.used
  reaches = sym (back-all e.bytes s.image s.journal s.used (an_image e.bytes s.image i) h)

pub put_back_exactly : (e : Edition) → promises.PutBackExactly e
put_back_exactly e s i h =
    let r = reaches e s i h in (
      subst (λ (r : Returned). (r.answer ≡ exactly.all_back s.used) ⊎ ((m : ℕ) × (r.answer ≡ exactly.stopped_behind m))) r
          (exactly.one_of_two e.bytes s.journal s.used s.image),
      subst (λ (r : Returned). (r.answer ≡ exactly.all_back s.used) ↔ LastMatch e s s.used) r
          (exactly.done_exactly e.bytes s.journal s.used s.image),
      λ m. subst (λ (r : Returned). (r.answer ≡ exactly.stopped_behind m) ↔ StopsAt e s m) r
          (exactly.stopped_exactly e.bytes s.journal s.used s.image m),
      subst (λ (r : Returned). r.image ≡ last_back e s r.answer.count) r
          (exactly.told_back e.bytes s.journal s.used s.image).0,
    )

pub put_back_others : (e : Edition) → promises.PutBackOthers e
put_back_others e s i h =
    let r = reaches e s i h in
    let told = exactly.told_back e.bytes s.journal s.used s.image in
    let image : image_back e s ≡ last_back e s (answer_back e s).count = (put_back_exactly e s i h).3 in
    let few : (answer_back e s).count ≤ s.used = subst (λ (r : Returned). r.answer.count ≤ s.used) r told.1 in
    let all : LastMatch e s (answer_back e s).count = subst (λ (r : Returned). LastMatch e s r.answer.count) r told.2 in (
      ap length image ∙ exactly.length_stays e.bytes s.journal s.used s.image h (answer_back e s).count few all,
      λ n apart. ap (λ l. record_at (record_size e.bytes) l n) image
          ∙ exactly.unnamed_stay e.bytes s.journal s.used s.image h (answer_back e s).count few all n apart,
    )

-- ---- histories

all_known : (e : Edition) (xs : List Turn) → AllKnown (steps_of e xs)
unfolding AllKnown
all_known e [] = tt
all_known e (x ∷ xs) = (known (code_in e x), all_known e xs)

pub put_back_restores : (e : Edition) → promises.PutBackRestores e
put_back_restores e turns s none =
    let r = restored e.bytes (steps_of e turns) s (all_known e turns) none in
    rw (same_after e turns s) r

pub passed_again : (e : Edition) → promises.PassedAgain e
passed_again e turns s none journal long =
    let first : state_of (image_back e (turns_after e turns s)) journal 0 ≡ state_of s.image journal 0 =
    ap (λ l. state_of l journal 0) (put_back_restores e turns s none).0 in
    let a : Alike e.bytes (turns_after e turns (state_of (image_back e (turns_after e turns s)) journal 0)) (turns_after e turns s) =
    subst (λ u. Alike e.bytes (turns_after e turns u) (turns_after e turns s)) (sym first)
    (rw (same_after e turns s, same_after e turns (state_of s.image journal 0))
    (steps_alike e.bytes (steps_of e turns) (state_of s.image journal 0) s (all_known e turns)
    (fresh_alike e.bytes s journal none long))) in (
      a.image,
      a.used,
      λ m h. same-entry _ _ _ a.entries m (subst (λ n. m < n) (sym a.used) h),
    )
  where
    same-entry : (n : ℕ) (x y : List ℕ) → take (n * entry_size e.bytes) x ≡ take (n * entry_size e.bytes) y → (m : ℕ) → m < n
        → entry_bytes_at e x m ≡ entry_bytes_at e y m
    same-entry n x y f m h =
        let size = entry_size e.bytes in
        let fits : suc m * size ≤ n * size = mul-le-mul_right size h in
        sym (record_take size (n * size) x m fits) ∙ ap (λ l. record_at size l m) f ∙ record_take size (n * size) y m fits
