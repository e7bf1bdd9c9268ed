-- What schedulers keep of their processes over a round.
use Rattle.std.proofs.Common.{◌≡◌, ◌↔◌, ℕ, All, List, get_or, length, slice_get, Some, Result, Ok, Err, IfOk, IsOk, OnOk, refl, subst, ◌∙◌, arith}
use Rattle.std.proofs.lemmas.Bool.{false≢true}
use Rattle.std.proofs.lemmas.Option.{slice_get-get_or, slice_get_within}
use Rattle.atomic_table.specs.Seated.{TableId}
use Rattle.term_core.specs.declared.atom.Mfa.{Mfa}
use Rattle.shared_words.specs.declared.opening.Opening.{Opening}
use Rattle.run_log.proofs.ListPlaces.{get_within}
use Rattle.word_run.specs.Places.{EachBecame}
use Rattle.word_run.specs.declared.scheduler.Slice.{Slice}
use Rattle.word_run.specs.declared.scheduler.Slice.TheVariants.{Idle}
use Rattle.word_run.specs.declared.scheduler.TheConstants.{SLICE_LAPS}
use Rattle.word_run.specs.declared.seat.Seat.{Seat}
use Rattle.word_run.specs.Rounds.{AreAllIdle, AreIdle, AreKept, CanGo, HadSlice, HasTakenTold, IsIdle}
use Rattle.word_run.specs.Schedulers.{Keeps}
use Rattle.word_run.specs.SliceTurns.{HadItsLaps}

-- ---- answers

pub on_if : {X E : Type 0} (P : Type 0) (r : Result X E) → OnOk r P → IfOk r (λ _. P)
on_if P (Ok x) h = h
on_if P (Err e) h = tt

pub if_at : {X E : Type 0} (P : X → Type 0) (r : Result X E) (x : X) → r ≡ Ok x → IfOk r P → P x
if_at {X} {E} P r x is h = subst (λ (a : Result X E). IfOk a P) is h

pub if_ok : {X E : Type 0} (P : Type 0) (r : Result X E) → IsOk r → IfOk r (λ _. P) → P
if_ok P (Ok x) ok h = h
if_ok P (Err e) ok h = absurd (false≢true ok)

-- a fact of each element
pub all_places : {X : Type 0} (P : X → Type 0) (xs : List X) → ((k : ℕ) (x : X) → slice_get xs k ≡ Some x → P x) → All P xs
all_places P xs each = λ k d below. each k (get_or xs k d) (slice_get-get_or xs k d below)

module _ {T I : Type 0} (functions : List Mfa) (table : TableId) (opening : Opening) where
  -- a slice as its answer tells of it
  pub had_slice : (before after : Seat T I) → after.scheduler.number ≡ before.scheduler.number → after.scheduler.taker.told ≡ before.scheduler.taker.told
      → OnOk after.answer (Keeps functions table opening after.scheduler) → OnOk after.answer (HadItsLaps functions SLICE_LAPS before.scheduler after.scheduler) → OnOk after.answer (HasTakenTold after.scheduler)
      → IfOk after.answer (λ slice. (slice ≡ Idle) ↔ IsIdle after.scheduler) → HadSlice functions table opening before after
  had_slice before after number told kept turns taken idle = record {
    number = number;
    told = told;
    kept = on_if (Keeps functions table opening after.scheduler) after.answer kept;
    turns = on_if (HadItsLaps functions SLICE_LAPS before.scheduler after.scheduler) after.answer turns;
    taken = on_if (HasTakenTold after.scheduler) after.answer taken;
    idle = idle;
  }

  -- ---- all schedulers

  -- they may have a slice
  pub kept_go : (count : ℕ) (seats : List (Seat T I)) → count ≡ length seats → AreKept functions table opening seats → All (CanGo functions table opening count) seats
  kept_go count seats many h = all_places (CanGo functions table opening count) seats (λ k seat at.
      let own = h k seat at in
      record { below = omega (arith, own.0, slice_get_within seats k seat at, many); kept = own.1 })

  -- each had a slice, and none met want of memory
  pub kept_sliced : (seats after : List (Seat T I)) → EachBecame (HadSlice functions table opening) seats after → ((k : ℕ) (seat : Seat T I) → slice_get after k ≡ Some seat → IsOk seat.answer)
      → AreKept functions table opening seats → AreKept functions table opening after
  kept_sliced seats after sliced ok h = λ k seat at.
      let before = get_within seats k (omega (arith, slice_get_within after k seat at, sliced.many)) in
      let had = sliced.each k before.0 seat before.1 at in
      (had.number ∙ (h k before.0 before.1).0, if_ok (Keeps functions table opening seat.scheduler) seat.answer (ok k seat at) had.kept)

  -- each was idle, so none has a process that goes on
  pub idle_sliced : (seats after : List (Seat T I)) → EachBecame (HadSlice functions table opening) seats after → AreIdle after → AreAllIdle after
  idle_sliced seats after sliced idle = λ k seat at.
      let before = get_within seats k (omega (arith, slice_get_within after k seat at, sliced.many)) in
      ((if_at (λ (slice : Slice). (slice ≡ Idle) ↔ IsIdle seat.scheduler) seat.answer Idle (idle k seat at) (sliced.each k before.0 seat before.1 at).idle).0 refl).rest
