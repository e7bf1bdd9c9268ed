-- What the writer kept of releases, purges and lingering processes is true of the turns in the log.
use Rattle.std.proofs.Common.{◌≡◌, ◌↔◌, ℕ, ◌<◌, ◌≤◌, Bool, true, nat_lt, List, length, slice_get, Some, None, IfSome, IsSomeAnd, inl, inr, refl, sym, ap, subst, ◌∙◌}
use Rattle.std.proofs.lemmas.Bool.{cases_Bool, eq-eqb, eqb-true, ltb-false, ltb-true}
use Rattle.std.proofs.lemmas.Option.{MatchOption-at_some, none-some}
use Rattle.std.specs.Bool.{⊤}
use Rattle.std.specs.List.{list_any}
use Rattle.std.specs.Prelude.{reverse}
use Rattle.term_core.specs.declared.atom.Mfa.{Mfa}
use Rattle.area_core.specs.declared.map.TheConstants.{PROCESSES}
use Rattle.area_core.specs.Blocks.{Among}
use Rattle.area_core.proofs.Tests.{passed_by, some_passes}
use Rattle.marks.specs.declared.kept.LookKind.{LookKind}
use Rattle.marks.specs.declared.kept.LookKind.TheVariants as looks
use Rattle.marks.specs.declared.kept.WriterKept.{WriterKept}
use Rattle.marks.specs.declared.mark.Mark as words
use Rattle.marks.specs.InOrder.{LingersAfter, last_turn_up_to}
use Rattle.marks.specs.Kept as slots
use Rattle.marks.specs.Names.{HasAnchor, tells_kill}
use Rattle.marks.proofs.InOrder.{answer_true, drop_true}
use Rattle.shared_words.specs.declared.view.MemberView.{MemberView}
use Rattle.shared_words.specs.declared.view.WriterView.{WriterView}
use Rattle.shared_words.specs.Processes.{process_of, under_of}
use Rattle.server_core.specs.declared.command.Cmd.{Cmd}
use Rattle.server_core.specs.declared.command.Cmd.TheVariants as cmds
use Rattle.server_core.specs.declared.command.Linger.{Linger}
use Rattle.server_core.specs.ServerState.{ServerState}
use Rattle.machine_core.specs.declared.process.End.{End}
use Rattle.machine_core.specs.declared.process.End.TheVariants.{Killed}
use Rattle.script_core.specs.declared.script.Script.{Script}
use Rattle.run_log.specs.declared.logs.Entry.{Entry}
use Rattle.run_log.specs.declared.logs.ProcessLog.{ProcessLog}
use Rattle.run_log.specs.declared.logs.RunLog.{RunLog}
use Rattle.run_log.specs.Legal.{Lingers, LingersTold, Mark, NamesNot, PurgedUnnamed, ReleasedUnnamed, StandsNotIn, dropped_by, is_killed_by, last_up_to, published_to, state_before, turns_in_log}
use Rattle.run_log.proofs.ListPlaces.{get_within}
use Rattle.run_log.proofs.SpanRuns.{some_at}
use Rattle.word_view.proofs.Anchoring.{agree}
use Rattle.run_law.specs.Answers.{AreAnswersKept, HasDrop, HasLingering, HasPurge, IsAnswerKept}
use Rattle.run_law.specs.Ended.{IsMemberOf}
use Rattle.run_law.specs.Ends.{IsOver}
use Rattle.run_law.proofs.Marks.{Tells, both_unnamed, frame_left, last_told, lingers_told, told_of}
use Rattle.run_law.proofs.Processes.{has_slot, known_in, line_of_process, member_of_process, ran, rests_in, told}

-- a process that an instance killed
killed_by : (serial : ℕ) (fin : End) → is_killed_by serial fin ≡ true → fin ≡ Killed serial
killed_by serial (Killed by) is = ap Killed (eqb-true by serial is)
killed_by serial fin is = absurd (cc)

-- what a command keeps of what it drops
drop_kept : (s : ServerState) (published : ℕ) (kept : WriterKept) (cmd : Cmd) (serial : ℕ) → dropped_by s cmd ≡ Some serial → IsAnswerKept s published kept cmd
    → HasDrop kept looks.Frame serial published
drop_kept s published kept (cmds.SoftPurge name None) serial is h = MatchOption-at_some ⊤ (λ n. HasDrop kept looks.Frame n published) serial is h
drop_kept s published kept (cmds.Purge name killed) serial is h = (MatchOption-at_some ⊤ (λ n. HasPurge kept n published killed) serial is h).dropped
drop_kept s published kept cmd serial is h = absurd (none-some serial is)

module _ (names : List Mfa) (s : Script) (log : RunLog) (w : WriterView) (over : IsOver names s log w)
    (answered : AreAnswersKept s.modules log.journal w.looks) where
  -- what the entry of this command keeps
  own_answer : (place : ℕ) (e : Entry) → slice_get log.journal place ≡ Some e → (cmd : Cmd) → e.cmd ≡ cmd
      → IsAnswerKept (state_before s.modules place log.journal) (published_to place log.journal) w.looks cmd
  own_answer place e at cmd is = subst (IsAnswerKept (state_before s.modules place log.journal) (published_to place log.journal) w.looks) is (answered place e at)

  -- ---- what was dropped

  -- the last turn of a process up to a drop has a mark that does not name what was dropped
  unmarked : (kind : LookKind) (serial published number : ℕ) (process : ProcessLog) (m : MemberView) → HasDrop w.looks kind serial published
      → slice_get log.processes number ≡ Some process → IsMemberOf w number m
      → IfSome (last_turn_up_to published (reverse (process_of m number).marks)) (slots.MarksNameNot kind serial)
  unmarked kind serial published number process m d at own =
      let line = line_of_process names s log w over number process at in
      let turns : List words.Mark = reverse (process_of m number).marks in
      let here = drop_true (under_of m) number (process_of m number) w.looks d.drop
      (known_in names s log w over number line.0 process m line.1 at own)
      (rests_in names s log w over number line.0 process m line.1 at own) d.among in
      subst (λ (n : ℕ). IfSome (last_turn_up_to n turns) (slots.MarksNameNot kind serial)) d.published_is
      (subst (λ (n : ℕ). IfSome (last_turn_up_to d.drop.generation turns) (slots.MarksNameNot kind n)) d.serial_is
      (subst (λ (k : LookKind). IfSome (last_turn_up_to d.drop.generation turns) (slots.MarksNameNot k d.drop.wait.serial)) d.kind_is here))

  -- so the turn of that mark does not either
  unnamed : (kind : LookKind) (serial published number : ℕ) (process : ProcessLog) (Q : Mark → Type 0)
      → ((m : words.Mark) (turn : Mark) → Tells m turn → slots.MarksNameNot kind serial m → Q turn) → HasDrop w.looks kind serial published
      → slice_get log.processes number ≡ Some process → IfSome (last_up_to published (turns_in_log s log number process)) Q
  unnamed kind serial published number process Q f d at =
      let m = member_of_process names s log w over number in
      let line = line_of_process names s log w over number process at in
      let turns : List words.Mark = reverse (process_of m.0 number).marks in
      told_of (slots.MarksNameNot kind serial) Q f (last_turn_up_to published turns) (last_up_to published (turns_in_log s log number process))
      (last_told published turns (turns_in_log s log number process) (told names s log w over number line.0 process m.0 line.1 at m.1).marks)
      (unmarked kind serial published number process m.0 d at m.1)

  pub released_unnamed : ReleasedUnnamed s log
  released_unnamed place serial number e process at is process_at =
      unnamed looks.Both serial (published_to place log.journal) number process (λ turn. NamesNot serial turn.process) (both_unnamed serial)
      (own_answer place e at (cmds.Release serial) is) process_at

  dropped_unnamed : (place serial number : ℕ) (e : Entry) (process : ProcessLog) → slice_get log.journal place ≡ Some e
      → dropped_by (state_before s.modules place log.journal) e.cmd ≡ Some serial
      → slice_get log.processes number ≡ Some process → IfSome (last_up_to (published_to place log.journal) (turns_in_log s log number process)) (λ m. StandsNotIn serial m.process)
  dropped_unnamed place serial number e process at is process_at =
      unnamed looks.Frame serial (published_to place log.journal) number process (λ turn. StandsNotIn serial turn.process) (frame_left serial)
      (drop_kept (state_before s.modules place log.journal) (published_to place log.journal) w.looks e.cmd serial is (answered place e at)) process_at

  -- ---- a process below 64, of the log or not

  -- what is so of the processes of the log, and of numbers that none has, is so of each
  by_number : (number : ℕ) (R : Type 0) → ((process : ProcessLog) → slice_get log.processes number ≡ Some process → R) → (length log.processes ≤ number → R) → R
  by_number number R of_log none =
      elim (cases_Bool (nat_lt number (length log.processes))) as (λ _. R) [
        | inl within ↦ let p = get_within log.processes number (ltb-true number (length log.processes) within) in of_log p.0 p.1
        | inr past ↦ none (ltb-false number (length log.processes) past)
      ]

  -- ---- who lingered

  lingering : (serial published : ℕ) (linger : Linger) → HasLingering w.looks serial published linger
      → IsSomeAnd (slice_get log.processes linger.process) (λ process. Lingers serial published linger.turn (turns_in_log s log linger.process process))
  lingering serial published linger kept =
      let m = member_of_process names s log w over linger.process in
      let marks : List words.Mark = reverse (process_of m.0 linger.process).marks in
      let known = over.come.known linger.process m.0 kept.below m.1 in
      let here = answer_true (under_of m.0) linger.process (process_of m.0 linger.process) w.looks kept.answer known kept.among kept.process_is in
      let lingered : LingersAfter serial published linger.turn marks =
      subst (λ (n : ℕ). LingersAfter serial published n marks) kept.turn_is
      (subst (λ (n : ℕ). LingersAfter serial n kept.answer.turns marks) kept.published_is
      (subst (λ (n : ℕ). LingersAfter n kept.answer.wait.generation kept.answer.turns marks) kept.serial_is here)) in
      by_number linger.process (IsSomeAnd (slice_get log.processes linger.process) (λ process. Lingers serial published linger.turn (turns_in_log s log linger.process process)))
      (λ process at.
      let line = line_of_process names s log w over linger.process process at in
      some_at (slice_get log.processes linger.process) (λ x. Lingers serial published linger.turn (turns_in_log s log linger.process x)) process at
      (lingers_told serial published linger.turn marks (turns_in_log s log linger.process process)
      (told names s log w over linger.process line.0 process m.0 line.1 at m.1).marks lingered))
      (λ past.
      let none = (over.run.others linger.process m.0 past kept.below m.1).marks in
      absurd (none-some lingered.mark (sym (ap (λ (ms : List words.Mark). slice_get (reverse ms) lingered.place) none) ∙ lingered.had)))

  pub lingering_told : LingersTold s log
  lingering_told place serial e name linger at is old =
      lingering serial (published_to place log.journal) linger
      (MatchOption-at_some ⊤ (λ n. HasLingering w.looks n (published_to place log.journal) linger) serial old (own_answer place e at (cmds.SoftPurge name (Some linger)) is))

  -- ---- who was killed

  killed_told : (serial published : ℕ) (killed : Bool) → HasPurge w.looks serial published killed → killed ≡ list_any (λ process. is_killed_by serial process.fin) log.processes
  killed_told serial published killed p = agree killed (list_any (λ process. is_killed_by serial process.fin) log.processes) there back
    where
      slot_told : (number : ℕ) (m : MemberView) → number < PROCESSES → IsMemberOf w number m
          → HasAnchor tells_kill (process_of m number).slot.anchors serial ↔ Among p.dropped.drop.killed number
      slot_told number m below own =
          subst (λ (n : ℕ). HasAnchor tells_kill (process_of m number).slot.anchors n ↔ Among p.dropped.drop.killed number) p.dropped.serial_is
          ((over.come.known number m below own).dropped p.dropped.drop p.dropped.among).told

      there : killed ≡ true → list_any (λ process. is_killed_by serial process.fin) log.processes ≡ true
      there yes_killed =
          let k = p.told.0 yes_killed in
          let m = member_of_process names s log w over k.0 in
          let anchor = (slot_told k.0 m.0 k.1.0 m.1).1 k.1.1 in
          by_number k.0 (list_any (λ process. is_killed_by serial process.fin) log.processes ≡ true)
          (λ process at.
          let line = line_of_process names s log w over k.0 process at in
          let fin = ((ran names s log w over k.0 line.0 process m.0 line.1 at m.1).killed serial).0 anchor in
          some_passes (λ (x : ProcessLog). is_killed_by serial x.fin) log.processes k.0 process at (ap (is_killed_by serial) fin ∙ eq-eqb serial serial refl))
          (λ past. absurd ((over.run.others k.0 m.0 past k.1.0 m.1).killed serial anchor))

      back : list_any (λ process. is_killed_by serial process.fin) log.processes ≡ true → killed ≡ true
      back some_killed =
          let q = passed_by (λ (x : ProcessLog). is_killed_by serial x.fin) log.processes some_killed in
          let m = member_of_process names s log w over q.1 in
          let line = line_of_process names s log w over q.1 q.0 q.2 in
          let below = has_slot names s log w over q.1 q.0 q.2 in
          let anchor = ((ran names s log w over q.1 line.0 q.0 m.0 line.1 q.2 m.1).killed serial).1 (killed_by serial (q.0).fin q.3) in
          p.told.1 (q.1, (below, (slot_told q.1 m.0 below m.1).0 anchor))

  pub purged_unnamed : PurgedUnnamed s log
  purged_unnamed = record {
    unnamed = dropped_unnamed;
    told = λ place serial e name killed at is old.
        killed_told serial (published_to place log.journal) killed
        (MatchOption-at_some ⊤ (λ n. HasPurge w.looks n (published_to place log.journal) killed) serial old (own_answer place e at (cmds.Purge name killed) is));
  }
