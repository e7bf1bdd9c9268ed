-- Serials begin at 1, so no process of a run is killed by an instance of serial 0.
use Rattle.std.proofs.Common.{◌≡◌, ◌≢◌, ℕ, ◌<◌, ◌==◌, inl, false, List, [], ◌∷◌, length, Option, None, refl, sym, ap, subst, ◌∙◌, arith}
use Rattle.std.specs.Prelude.{IfSome, IsSomeAnd}
use Rattle.std.specs.List.{AllByRecursion}
use Rattle.std.proofs.lemmas.Bool.{both_ways, cond_both, false_from_ne_true}
use Rattle.term_core.specs.declared.atom.Mfa.{Mfa}
use Rattle.area_core.specs.declared.table.Published.{Published}
use Rattle.mod_core.specs.declared.code.Module.{Module}
use Rattle.server_core.specs.ServerState.{IsInstanceOf, IsSound, ServerState, code_of, empty_state, is_doomed}
use Rattle.machine_core.specs.declared.process.End.TheVariants.{Killed}
use Rattle.machine_core.specs.declared.process.TurnEnd.{TurnEnd}
use Rattle.machine_core.specs.declared.process.TurnEnd.TheVariants as turns
use Rattle.machine_core.specs.Reads.{Reads}
use Rattle.machine_core.specs.Turn.{turn_by}
use Rattle.machine_core.proofs.Killing.{killed_for}
use Rattle.run_log.specs.declared.logs.Entry.{Entry}
use Rattle.run_log.specs.Journal.{next_state, state_at}
use Rattle.run_log.proofs.Steps.{next_grows, next_is}
use Rattle.run_steps.specs.declared.phase.Phase.{Phase}
use Rattle.run_steps.specs.declared.phase.Phase.TheVariants.{Ended}
use Rattle.run_steps.specs.MadeTurns.{TurnsMade, turned_by}
use Rattle.run_steps.specs.Stands.{Stand, end_of, phase_after}
use Rattle.run_law.specs.Laws.{AreLearnt}
use Rattle.run_law.specs.Published.{IsJournal, states_of}
use Rattle.run_law.specs.Reading.{reads_under}
use Rattle.run_law.proofs.States.{journal_good}
use Rattle.run_law.proofs.Tied.{reads_tied}

-- ---- the journal

-- where no instance has serial 0 and the next serial is a later one, it stays so
none_comes : (texts : List Module) (s : ServerState) (journal : List Entry) (k : ℕ) → 0 < s.next_serial → code_of s 0 ≡ None → code_of (state_at texts s journal k) 0 ≡ None
none_comes texts s [] k later none = none
none_comes texts s (e ∷ journal) k later none =
    let t : ServerState = next_state texts s e.cmd in
    let grown = next_grows s t e.cmd (next_is texts s e.cmd) in
    let more = grown.serials in
    cond_both (s.generation == k) s (state_at texts t journal k) (λ (x : ServerState). code_of x 0 ≡ None) (λ here. none)
    (λ other. none_comes texts t journal k (omega (arith, later, more)) (grown.codes 0 (inl later) ∙ none))

-- so none of it is doomed
none_doomed : (s : ServerState) → IsSound s → code_of s 0 ≡ None → is_doomed s 0 ≡ false
none_doomed s sound none = false_from_ne_true (is_doomed s 0) (λ doomed.
    let old = sound.doomed 0 doomed in
    let there : IsInstanceOf s old.0 0 = subst (λ (o : Option ℕ). IfSome o (IsInstanceOf s old.0)) old.1 (sound.old old.0) in
    subst (λ (o : Option Module). IsSomeAnd o (λ m. m.name.0 ≡ old.0)) none there)

module _ (names : List Mfa) (texts : List Module) (journal : List Entry) where
  first_is_not_doomed : (k : ℕ) → IsJournal names texts journal → is_doomed (states_of texts journal k) 0 ≡ false
  first_is_not_doomed k j = none_doomed (states_of texts journal k) (journal_good names texts journal k j).sound (none_comes texts empty_state journal k (omega arith) refl)

-- ---- the turns

not_killed_by : (r : Reads) (generation : ℕ) (x : Stand) → r.doomed 0 ≡ false → (turned_by r generation x).phase ≢ Ended (Killed 0)
not_killed_by r generation x undoomed = by_end (turn_by r x.process).end refl
  where
    by_end : (e : TurnEnd) → (turn_by r x.process).end ≡ e → phase_after e ≢ Ended (Killed 0)
    by_end turns.Again at is = absurd (cc)
    by_end (turns.Ended end) at is = both_ways (r.doomed 0) undoomed (killed_for r x.process 0 (at ∙ ap (λ (p : Phase). turns.Ended (end_of p)) is)).doomed

not_killed : (reads : ℕ → Reads) (generations : List ℕ) (x y : Stand) → AllByRecursion (λ g. (reads g).doomed 0 ≡ false) generations → x.phase ≢ Ended (Killed 0) → TurnsMade reads generations x y → y.phase ≢ Ended (Killed 0)
not_killed reads [] x y each apart made = λ is. apart (ap (λ (z : Stand). z.phase) (sym made) ∙ is)
not_killed reads (g ∷ generations) x y each apart made = not_killed reads generations (turned_by (reads g) g x) y each.1 (not_killed_by (reads g) g x each.0) made.1

module _ (names : List Mfa) (texts : List Module) (journal : List Entry) (seen : List Published) (l : AreLearnt names texts journal seen) where
  undoomed_over : (generations : List ℕ) → AllByRecursion (λ g. g < length seen) generations → AllByRecursion (λ g. (reads_under names seen g).doomed 0 ≡ false) generations
  undoomed_over [] below = tt
  undoomed_over (g ∷ generations) below =
      (ap (λ (r : Reads). r.doomed 0) (reads_tied names texts journal seen l g below.0) ∙ first_is_not_doomed names texts journal g l.replayed, undoomed_over generations below.1)

-- so no process that had its turns under a journal's generations ended so
pub no_first_kill : (names : List Mfa) (texts : List Module) (journal : List Entry) (seen : List Published) (generations : List ℕ) (x y : Stand) → AreLearnt names texts journal seen
    → AllByRecursion (λ g. g < length seen) generations → x.phase ≢ Ended (Killed 0) → TurnsMade (reads_under names seen) generations x y → y.phase ≢ Ended (Killed 0)
no_first_kill names texts journal seen generations x y l below apart made =
    not_killed (reads_under names seen) generations x y (undoomed_over names texts journal seen l generations below) apart made
