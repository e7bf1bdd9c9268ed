-- What a scheduler keeps of processes that have ended is what a run owes of them.
use Rattle.std.proofs.Common.{◌≡◌, ◌≢◌, ℕ, zero, suc, true, ◌<◌, ◌%◌, ◌↔◌, ◌*◌, List, length, reverse, Option, Some, None, IsSome, refl, sym, ap, subst, ◌∙◌, arith}
use Rattle.std.specs.Prelude.{◌==◌, not, slice_get, get_or}
use Rattle.std.specs.List.{AllByRecursion}
use Rattle.std.proofs.lemmas.Bool.{and_parts, eq-eqb}
use Rattle.std.proofs.lemmas.Option.{none-some, slice_get-get_or}
use Rattle.term_core.specs.declared.atom.Mfa.{Mfa}
use Rattle.area_core.specs.declared.map.TheConstants.{PROCESSES}
use Rattle.area_core.specs.declared.table.Published.{Published}
use Rattle.area_core.specs.Blocks.{Among}
use Rattle.marks.specs.Names.{HasAnchor, tells_kill}
use Rattle.shared_words.specs.declared.opening.Opening.{Opening}
use Rattle.shared_words.specs.declared.view.MemberView.{MemberView}
use Rattle.shared_words.specs.declared.view.NoteNumber.{NoteNumber}
use Rattle.shared_words.specs.declared.view.ProcessSlot.{ProcessSlot}
use Rattle.shared_words.specs.Processes.{note_in, process_of as known_of, slot_in}
use Rattle.anchors.specs.Holds.{anchors_of}
use Rattle.machine_core.specs.declared.process.End.{End}
use Rattle.machine_core.specs.declared.process.End.TheVariants.{Killed}
use Rattle.mod_core.specs.declared.code.Module.{Module}
use Rattle.script_core.specs.Processes.{SpawnLine}
use Rattle.run_log.specs.declared.logs.Entry.{Entry}
use Rattle.run_steps.specs.declared.phase.Phase.TheVariants.{Ended, Going}
use Rattle.run_steps.specs.MadeTurns.{ArePlacedOver, TurnsMade, marks_made}
use Rattle.run_steps.specs.Stands.{IsEnd, Stand, end_of, going_stand, phase_of}
use Rattle.run_law.specs.Ended.{HasNotRun, HasRun, HasTurned}
use Rattle.run_law.specs.Laws.{AreLearnt}
use Rattle.run_law.specs.Newcomers.{IsTaken, SpawnedProcess, spawn_for}
use Rattle.run_law.specs.Reading.{MarksTell, reads_under}
use Rattle.word_lap.specs.declared.process_run.ProcessRun.{ProcessRun}
use Rattle.word_lap.specs.Laws.{HaveAllEnded, KnowsTheSame, log_of_run}
use Rattle.word_lap.specs.Reading.{stand_under}
use Rattle.word_lap.specs.Schedulers.{HasEnded, IsEmpty, IsHeld, IsHeldAt, KeepsProcesses, Rests, first_stand, rests_ended, rests_going}
use Rattle.word_lap.proofs.Arrivals.{none_kills}
use Rattle.word_lap.proofs.FirstSerials.{no_first_kill}

-- no anchor tells of serial 0
zero_untold : (serial word : ℕ) → serial ≡ 0 → tells_kill word serial ≡ true → ⊥
zero_untold serial word none told = no_truth (ap not (sym (eq-eqb serial 0 none)) ∙ (and_parts (word == serial * 4) (not (serial == 0)) told).1)
  where
    no_truth : not true ≡ true → ⊥
    no_truth e = absurd (cc)

-- ---- how it ended

is_over : (fin : Option End) → IsSome fin → IsEnd (phase_of fin)
is_over None some = absurd (cc)
is_over (Some end) some = tt

-- a kill is told exactly where the log tells it
killed_by : (fin : Option End) → IsSome fin → fin ≢ Some (Killed 0) → (anchors : List ℕ) → ((serial : ℕ) → 0 < serial → HasAnchor tells_kill anchors serial ↔ (fin ≡ Some (Killed serial)))
    → (serial : ℕ) → HasAnchor tells_kill anchors serial ↔ (end_of (phase_of fin) ≡ Killed serial)
killed_by None some other anchors told serial = absurd (cc)
killed_by (Some end) some other anchors told zero = (λ anchor. absurd (zero_untold 0 anchor.word refl anchor.passes), λ is. absurd (other (ap (λ (e : End). Some e) is)))
killed_by (Some end) some other anchors told (suc n) =
    let here = told (suc n) (omega arith) in
    (λ anchor. ap (λ (o : Option End). end_of (phase_of o)) (here.0 anchor), λ is. here.1 (ap (λ (e : End). Some e) is))

going_first : Going ≢ Ended (Killed 0)
going_first is = absurd (cc)

ended_there : (functions : List Mfa) (opening : Opening) (m : MemberView) (p : ℕ) (run : ProcessRun) → IsSome run.fin → Rests functions opening m p run → HasEnded m p run
ended_there functions opening m p run over (rests_going fin h) = absurd (none_some run.fin fin over)
  where
    none_some : (fin : Option End) → fin ≡ None → IsSome fin → ⊥
    none_some None is some = absurd (cc)
    none_some (Some end) is some = none-some end (sym is)
ended_there functions opening m p run over (rests_ended h) = h

-- ---- what the member knows of it

module _ (functions : List Mfa) (m last : MemberView) (same : KnowsTheSame m last) where
  same_known : (p : ℕ) → (known_of last p).marks ≡ (known_of m p).marks
  same_known p = ap (λ (slots : List ProcessSlot). (slot_in slots p).marks) same.slots

  same_anchors : (p : ℕ) → anchors_of last p ≡ anchors_of m p
  same_anchors p = ap (λ (slots : List ProcessSlot). (slot_in slots p).slot.anchors) same.slots

  turned_same : (p : ℕ) (first end : Stand) → HasTurned functions m p first end → HasTurned functions last p first end
  turned_same p first end h = record {
    generations = h.generations;
    made = subst (λ (seen : List Published). TurnsMade (reads_under functions seen) h.generations first end) (sym same.seen) h.made;
    placed = subst (λ (seen : List Published). ArePlacedOver (reads_under functions seen) h.generations first) (sym same.seen) h.placed;
    learnt = subst (λ (seen : List Published). AllByRecursion (λ g. g < length seen) h.generations) (sym same.seen) h.learnt;
    marks = subst (λ (seen : List Published). MarksTell (reverse (known_of last p).marks) (marks_made (reads_under functions seen) h.generations first)) (sym same.seen)
        (subst (λ xs. MarksTell (reverse xs) (marks_made (reads_under functions m.seen) h.generations first)) (sym (same_known p)) h.marks);
  }

  has_run : (opening : Opening) (texts : List Module) (journal : List Entry) (number : ℕ) (line : SpawnLine) (spawn : SpawnedProcess) (run : ProcessRun) → AreLearnt functions texts journal m.seen → spawn ≡ spawn_for journal number line → IsSome run.fin
      → IsHeld functions opening m number spawn run → HasRun functions journal last number line (log_of_run run)
  has_run opening texts journal number line spawn run learnt is over h =
      let target : run.process.target ≡ line.target = h.target ∙ ap (λ (x : SpawnedProcess). x.target) is in
      let args : run.process.args ≡ line.args = h.args ∙ ap (λ (x : SpawnedProcess). x.args) is in
      let first : first_stand run ≡ going_stand number line.target line.args = λ i. going_stand (h.number i) (target i) (args i) in
      let ended = ended_there functions opening m number run over h.rests in
      let other : run.fin ≢ Some (Killed 0) = λ fin.
      no_first_kill functions texts journal m.seen h.turns.generations (first_stand run) (stand_under m run) learnt h.turns.learnt going_first h.turns.made (ap phase_of fin) in
      record {
        noted = ap (λ (notes : List NoteNumber). note_in notes number) same.notes ∙ h.noted ∙ ap (λ (x : SpawnedProcess). Some x.published) is;
        last = stand_under m run;
        turned = turned_same number (going_stand number line.target line.args) (stand_under m run) (subst (λ (x : Stand). HasTurned functions m number x (stand_under m run)) first h.turns);
        over = is_over run.fin over;
        log_is = refl;
        killed = subst (λ (anchors : List ℕ). (serial : ℕ) → HasAnchor tells_kill anchors serial ↔ (end_of (phase_of run.fin) ≡ Killed serial)) (sym (same_anchors number))
            (killed_by run.fin over other (anchors_of m number) ended.killed);
      }

  has_not_run : (number : ℕ) → IsEmpty m number → HasNotRun last number
  has_not_run number h = record {
    marks = same_known number ∙ h.marks;
    killed = subst (λ (anchors : List ℕ). (serial : ℕ) → HasAnchor tells_kill anchors serial → ⊥) (sym (same_anchors number))
        (λ serial anchor. none_kills (anchors_of m number) h.empty anchor.place anchor.word serial anchor.at anchor.passes);
  }

-- ---- all places

module _ (functions : List Mfa) (opening : Opening) (m last : MemberView) (taken : List SpawnedProcess) (processes : List (Option ProcessRun)) (same : KnowsTheSame m last) (number : ℕ) where
  module _ (texts : List Module) (journal : List Entry) (line : SpawnLine) (learnt : AreLearnt functions texts journal m.seen) (own : number % opening.members ≡ m.member.number) (here : IsTaken journal number line taken) (ended : HaveAllEnded processes) where
    at_place : (place : Option ProcessRun) → slice_get processes number ≡ Some place → IsHeldAt functions opening m taken number place
        → (run : ProcessRun) × ((slice_get processes number ≡ Some (Some run)) × HasRun functions journal last number line (log_of_run run))
    at_place None at h = absurd (h.1 (spawn_for journal number line) here.among refl own)
    at_place (Some run) at h =
        (run, (at, has_run functions m last same opening texts journal number line h.0 run learnt (here.one h.0 h.1.0 h.1.1.0) (ended number run at) h.1.1.1))

    pub taken_has_run : KeepsProcesses functions opening m taken processes → number < PROCESSES → (run : ProcessRun) × ((slice_get processes number ≡ Some (Some run)) × HasRun functions journal last number line (log_of_run run))
    taken_has_run h below =
        let all = h.all in
        let at = slice_get-get_or processes number None (omega (arith, all, below)) in
        at_place (get_or processes number None) at (h.each number (get_or processes number None) at)

  module _ (none : (spawn : SpawnedProcess) → Among taken spawn → spawn.number ≢ number) where
    not_at_place : (place : Option ProcessRun) → IsHeldAt functions opening m taken number place → HasNotRun last number
    not_at_place None h = has_not_run functions m last same number h.0
    not_at_place (Some run) h = absurd (none h.0 h.1.0 h.1.1.0)

    pub other_has_not_run : KeepsProcesses functions opening m taken processes → number < PROCESSES → HasNotRun last number
    other_has_not_run h below =
        let all = h.all in
        let at = slice_get-get_or processes number None (omega (arith, all, below)) in
        not_at_place (get_or processes number None) (h.each number (get_or processes number None) at)
