-- What is known of the processes of a run once its threads have ended: what the closed table tells, and what the schedulers kept.
-- Source: Erlang/OTP, the manual pages of the module code (check_process_code, purge) and of persistent_term; the words are this project's own.
use Rattle.std.specs.Prelude.{◌≡◌, ◌↔◌, ℕ, ◌<◌, ◌≤◌, ◌%◌, List, [], length, reverse, slice_get, Some}
use Rattle.std.specs.List.{AllByRecursion}
use Rattle.term_core.specs.declared.atom.Mfa.{Mfa}
use Rattle.area_core.specs.declared.map.TheConstants.{PROCESSES}
use Rattle.marks.specs.Kept.{IsKnown}
use Rattle.marks.specs.Names.{HasAnchor, tells_kill}
use Rattle.shared_words.specs.declared.seats.Member as tokens
use Rattle.shared_words.specs.declared.view.MemberView.{MemberView}
use Rattle.shared_words.specs.declared.view.WriterView.{WriterView}
use Rattle.shared_words.specs.Processes.{AreAtRest, note_in, process_of, under_of}
use Rattle.shared_words.specs.Rule.{IsBeginning}
use Rattle.shared_words.specs.Seats.{member_of}
use Rattle.machine_core.specs.declared.process.End.TheVariants.{Killed}
use Rattle.script_core.specs.declared.script.Script.{Script}
use Rattle.script_core.specs.Processes.{SpawnLine, spawns_of}
use Rattle.run_log.specs.declared.logs.Entry.{Entry}
use Rattle.run_log.specs.declared.logs.ProcessLog.{ProcessLog}
use Rattle.run_log.specs.declared.logs.RunLog.{RunLog}
use Rattle.run_log.specs.Journal.{published_before}
use Rattle.run_steps.specs.MadeTurns.{ArePlacedOver, TurnsMade, marks_made}
use Rattle.run_steps.specs.Stands.{IsEnd, Stand, going_stand, log_of}
use Rattle.run_law.specs.Reading.{MarksTell, reads_under}

-- ---- what the closed table tells

-- the process of this number is one of this member, who came in with what it knew
abbrev pub IsMemberOf : WriterView → ℕ → MemberView → Type 0
IsMemberOf w number m = slice_get w.members (number % length w.members) ≡ Some m

-- what each of these tokens has learnt of are the first of the generations that the writer has published
abbrev pub AreBeginnings : List tokens.Member → WriterView → Type 0
AreBeginnings members w = (k : ℕ) (token : tokens.Member) → slice_get members k ≡ Some token → IsBeginning (member_of token.seat.me.0).seen w.published

-- all members came in: each has learnt of the first generations, and of each process its marks, and what the writer keeps of looks and answers, are as
-- they must be
pub record HaveCome (w : WriterView) : Type 0 where
  pub staffed : 0 < length w.members
  pub learnt : (k : ℕ) (m : MemberView) → slice_get w.members k ≡ Some m → IsBeginning m.seen w.published
  pub known : (number : ℕ) (m : MemberView) → number < PROCESSES → IsMemberOf w number m → IsKnown (under_of m) number (process_of m number) w.looks

-- ---- what the schedulers kept

-- a process had turns, each by what was read of a generation that its member has learnt of, with the marks that they left in the words
pub record HasTurned (names : List Mfa) (m : MemberView) (number : ℕ) (first last : Stand) : Type 0 where
  pub generations : List ℕ
  pub made : TurnsMade (reads_under names m.seen) generations first last
  pub placed : ArePlacedOver (reads_under names m.seen) generations first
  pub learnt : AllByRecursion (λ g. g < length m.seen) generations
  pub marks : MarksTell (reverse (process_of m number).marks) (marks_made (reads_under names m.seen) generations first)

-- a process of a spawn line has ended: its note tells how many generations were published before its spawn, its turns are those of its log, and its slot
-- tells that an instance killed it exactly where one did
pub record HasRun (names : List Mfa) (journal : List Entry) (m : MemberView) (number : ℕ) (line : SpawnLine) (process : ProcessLog) : Type 0 where
  pub noted : note_in m.notes number ≡ Some (published_before line.loader line.place journal)
  pub last : Stand
  pub turned : HasTurned names m number (going_stand number line.target line.args) last
  pub over : IsEnd last.phase
  pub log_is : log_of last ≡ process
  pub killed : (serial : ℕ) → HasAnchor tells_kill (process_of m number).slot.anchors serial ↔ (process.fin ≡ Killed serial)

-- no process of this number has run: it has no turn, and its slot tells of no kill
pub record HasNotRun (m : MemberView) (number : ℕ) : Type 0 where
  pub marks : (process_of m number).marks ≡ []
  pub killed : (serial : ℕ) → HasAnchor tells_kill (process_of m number).slot.anchors serial → ⊥

-- each process of the script has ended and has its log, no turn is under way, and none of another number has run
pub record HaveRun (names : List Mfa) (s : Script) (log : RunLog) (w : WriterView) : Type 0 where
  pub many : length log.processes ≡ length (spawns_of 0 s.loaders)
  pub few : length log.processes ≤ PROCESSES
  pub rest : (k : ℕ) (m : MemberView) → slice_get w.members k ≡ Some m → AreAtRest m
  pub each : (number : ℕ) (line : SpawnLine) (process : ProcessLog) (m : MemberView)
      → slice_get (spawns_of 0 s.loaders) number ≡ Some line → slice_get log.processes number ≡ Some process → IsMemberOf w number m
      → HasRun names log.journal m number line process
  pub others : (number : ℕ) (m : MemberView) → length log.processes ≤ number → number < PROCESSES → IsMemberOf w number m → HasNotRun m number
