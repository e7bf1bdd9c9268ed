-- A run over a round.
use Rattle.std.proofs.Common.{◌≡◌, ℕ, ◌<◌, All, Bool, List, get_or, length, slice_get, Option, Some, IsOk, sym, subst, ◌∙◌, arith}
use Rattle.std.proofs.lemmas.Option.{same_Some, slice_get-get_or, slice_get_within}
use Rattle.atomic_table.specs.Seated.{TableId}
use Rattle.term_core.specs.declared.atom.Mfa.{Mfa}
use Rattle.shared_words.specs.declared.opening.Opening.{Opening}
use Rattle.script_core.specs.declared.script.Script.{Script}
use Rattle.word_run.specs.declared.seat.Seat.{Seat}
use Rattle.word_run.specs.declared.sight.Sight.{Sight}
use Rattle.word_run.specs.Desks.{AddsInSlices, DeskState, HasHomes, IsSliceOf}
use Rattle.word_run.specs.Loaders.{AreAnswers, IsUnderLock}
use Rattle.word_run.specs.Places.{EachBecame}
use Rattle.word_run.specs.Rounds.{AreAllIdle, AreIdle, CanGo, HadSlice, IsRun}
use Rattle.word_run.proofs.RoundSeats.{idle_sliced, kept_go, kept_sliced}
use Rattle.word_run.proofs.Slices.{slices_none}

-- ---- a round

-- nothing was made yet
pub named_begins : (began : Option DeskState) (answered : ℕ → Bool → Type 0) (d : DeskState) → began ≡ Some d → AreAnswers began answered → IsUnderLock began answered d
named_begins began answered d is answers = record { since = subst (λ (o : Option DeskState). IsSliceOf o d) (sym is) (slices_none d); answers = answers }

pub named_homes : (began : Option DeskState) (d : DeskState) (count : ℕ) → began ≡ Some d → count ≡ length d.posted → HasHomes began count
named_homes began d count is homes = subst (λ (o : Option DeskState). HasHomes o count) (sym is) (sym homes)

pub named_adds : (began : Option DeskState) (d e : DeskState) → began ≡ Some d → IsSliceOf began e → AddsInSlices d e
named_adds began d e is h = subst (λ (o : Option DeskState). IsSliceOf o e) is h

-- ---- over a round

module _ {T I : Type 0} (functions : List Mfa) (table : TableId) (opening : Opening) where
  -- a round may begin
  pub round_go : (s : Script) (d : DeskState) (inboxes : List ℕ) (seats : List (Seat T I)) (sight : Sight) → IsRun functions s table opening d inboxes seats sight → All (CanGo functions table opening (length inboxes)) seats
  round_go s d inboxes seats sight run = kept_go functions table opening (length inboxes) seats run.many run.kept

  module _ (d e : DeskState) (inboxes : List ℕ) (seats after : List (Seat T I)) (sight : Sight) (run : IsRun functions d.book.plain.script table opening d inboxes seats sight) (adds : AddsInSlices d e) (sliced : EachBecame (HadSlice functions table opening) seats after) where
    sliced_run : ((k : ℕ) (seat : Seat T I) → slice_get after k ≡ Some seat → IsOk seat.answer) → IsRun functions d.book.plain.script table opening e inboxes after sight
    sliced_run ok = record {
      some = omega (arith, run.some, sliced.many);
      members = run.members ∙ sym sliced.many;
      inboxes_are = run.inboxes_are;
      many = run.many ∙ sym sliced.many;
      homes = adds.homes ∙ run.homes ∙ sym sliced.many;
      exports = run.exports;
      script_is = adds.goes.script;
      kept = kept_sliced functions table opening seats after sliced ok run.kept;
    }

    -- the run stands as it did, where no slice met want of memory
    pub round_run : (lent : List (Seat T I)) → lent ≡ after → ((k : ℕ) (seat : Seat T I) → slice_get lent k ≡ Some seat → IsOk seat.answer)
        → (others : List ℕ) → others ≡ inboxes → (other : Sight) → other ≡ sight → IsRun functions d.book.plain.script table opening e others after other
    round_run lent lent_is lent_ok others others_are other other_is =
        let ok = subst (λ (xs : List (Seat T I)). (k : ℕ) (seat : Seat T I) → slice_get xs k ≡ Some seat → IsOk seat.answer) lent_is lent_ok in
        subst (λ (xs : List ℕ). IsRun functions d.book.plain.script table opening e xs after other) (sym others_are)
        (subst (λ (x : Sight). IsRun functions d.book.plain.script table opening e inboxes after x) (sym other_is) (sliced_run ok))

  -- a round that leaves no process
  pub idle_round : (seats after lent : List (Seat T I)) → lent ≡ after → EachBecame (HadSlice functions table opening) seats after → AreIdle lent → AreAllIdle after
  idle_round seats after lent is sliced idle = idle_sliced functions table opening seats after sliced (subst (λ (xs : List (Seat T I)). AreIdle xs) is idle)

-- ---- each at its place

got : {X : Type 0} (xs : List X) (k : ℕ) (x d : X) → slice_get xs k ≡ Some x → get_or xs k d ≡ x
got xs k x d at = same_Some _ x (sym (slice_get-get_or xs k d (slice_get_within xs k x at)) ∙ at)

-- each element became another one, by places
pub became_by : {X : Type 0} (R : X → X → Type 0) (before after : List X) → length after ≡ length before → ((k : ℕ) (d : X) → k < length before → R (get_or before k d) (get_or after k d)) → EachBecame R before after
became_by {X} R before after many each = record {
  many = many;
  each = λ k a b at is. subst (λ (x : X). R x b) (got before k a a at) (subst (R (get_or before k a)) (got after k b a is) (each k a (slice_get_within before k a at)));
}

-- so it is where both are under other names
pub became_lent : {X : Type 0} (R : X → X → Type 0) (before lent left after : List X) → lent ≡ before → after ≡ left → EachBecame R lent left → EachBecame R before after
became_lent {X} R before lent left after lent_is after_is h = subst (λ (xs : List X). EachBecame R before xs) (sym after_is) (subst (λ (xs : List X). EachBecame R xs left) lent_is h)

-- a round may begin over what is lent
pub go_lent : {T I : Type 0} (functions : List Mfa) (table : TableId) (opening : Opening) (inboxes others : List ℕ) (seats lent : List (Seat T I)) → others ≡ inboxes → lent ≡ seats
    → All (CanGo functions table opening (length inboxes)) seats → All (CanGo functions table opening (length others)) lent
go_lent {T} {I} functions table opening inboxes others seats lent others_are lent_is h =
    subst (λ (xs : List (Seat T I)). All (CanGo functions table opening (length others)) xs) (sym lent_is) (subst (λ (ns : List ℕ). All (CanGo functions table opening (length ns)) seats) (sym others_are) h)
