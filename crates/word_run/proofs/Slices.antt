-- What a slice of a scheduler has of the desk since the round began, and of its processes.
use Rattle.std.proofs.Common.{◌≡◌, ℕ, Bool, List, length, Option, None, Some, refl, sym, subst, ◌∙◌}
use Rattle.atomic_table.specs.Seated.{TableId}
use Rattle.term_core.specs.declared.atom.Mfa.{Mfa}
use Rattle.shared_words.specs.declared.opening.Opening.{Opening}
use Rattle.run_law.specs.Newcomers.{SpawnedProcess}
use Rattle.inbox.specs.Ends.{Posting}
use Rattle.write_permit.specs.Book.{shown}
use Rattle.word_run.specs.declared.scheduler.Scheduler.{Scheduler}
use Rattle.word_run.specs.Desks.{AddsInSlices, DeskState, HasHomes, IsSliceOf, MakesOn}
use Rattle.word_run.specs.Loaders.{IsUnderLock}
use Rattle.word_run.specs.Schedulers.{Keeps}
use Rattle.word_run.proofs.Going.{goes_same, goes_through}

-- ---- the desk

-- no entry joined
pub slices_none : (d : DeskState) → AddsInSlices d d
slices_none d = record { goes = goes_same (shown d.book.plain) (shown d.book.plain) refl; homes = refl }

pub slices_same : (d e : DeskState) → e ≡ d → AddsInSlices d e
slices_same d e is = subst (AddsInSlices d) (sym is) (slices_none d)

slices_both : (a b c : DeskState) → AddsInSlices a b → AddsInSlices b c → AddsInSlices a c
slices_both a b c first second = record { goes = goes_through (shown a.book.plain) (shown b.book.plain) (shown c.book.plain) first.goes second.goes; homes = second.homes ∙ first.homes }

-- the ends were lent, and stand as they are given back
pub makes_lent : (d e : DeskState) (lent after : List (Posting SpawnedProcess)) → lent ≡ d.posted → e.posted ≡ after → MakesOn (shown d.book.plain) (shown e.book.plain) lent after
    → MakesOn (shown d.book.plain) (shown e.book.plain) d.posted e.posted
makes_lent d e lent after lent_is after_is h =
    subst (λ (xs : List (Posting SpawnedProcess)). MakesOn (shown d.book.plain) (shown e.book.plain) d.posted xs) (sym after_is) (subst (λ (xs : List (Posting SpawnedProcess)). MakesOn (shown d.book.plain) (shown e.book.plain) xs after) lent_is h)

since_on : (began : Option DeskState) (d e : DeskState) → IsSliceOf began d → AddsInSlices d e → IsSliceOf began e
since_on None d e h more = absurd h
since_on (Some b) d e h more = slices_both b d e h more

-- what lies under the lock does so still
pub slice_on : (began : Option DeskState) (answered : ℕ → Bool → Type 0) (d e : DeskState) → IsUnderLock began answered d → AddsInSlices d e → IsUnderLock began answered e
slice_on began answered d e h more = record { since = since_on began d e h.since more; answers = h.answers }

-- there are as many homes as when it began
pub slice_homes : (began : Option DeskState) (d : DeskState) (count : ℕ) → IsSliceOf began d → HasHomes began count → count ≡ length d.posted
slice_homes None d count h homes = absurd h
slice_homes (Some b) d count h homes = sym homes ∙ sym h.homes

-- ---- a scheduler

-- what its loaders answered is nothing of what it keeps
pub keeps_asked : {T : Type 0} {I : Type 0} (functions : List Mfa) (table : TableId) (opening : Opening) (s : Scheduler T I) (over : Bool) → Keeps functions table opening s → Keeps functions table opening (record s { over = over })
keeps_asked {T} {I} functions table opening s over h = record { inbox = h.inbox; token = h.token; there = h.there; by = h.by }
