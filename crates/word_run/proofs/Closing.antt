-- The end of a run by what its calls tell: the tokens that come in are those of all members, and the log is a history.
use Rattle.std.proofs.Common.{◌≡◌, ◌<◌, ℕ, List, length, Option, refl, sym, subst}
use Rattle.std.specs.Prelude.{Vec}
use Rattle.std.specs.declared.alloc.Global.{Global}
use Rattle.atomic_table.specs.Seated.{TableId}
use Rattle.term_core.specs.declared.atom.Mfa.{Mfa}
use Rattle.shared_words.specs.declared.opening.Opening.{Opening}
use Rattle.shared_words.specs.declared.seats.Member as tokens
use Rattle.shared_words.specs.declared.seats.Writer as writers
use Rattle.shared_words.specs.declared.view.WriterView.{WriterView}
use Rattle.shared_words.specs.Closing.{AreAllMembers, HasAllMembers, HaveMarks}
use Rattle.progress_words.specs.Tokens.{IsWriterOf, written_by}
use Rattle.script_core.specs.declared.script.Script.{Script}
use Rattle.script_core.specs.Processes.{spawns_of}
use Rattle.script_core.specs.Sound.{IsScript}
use Rattle.run_log.specs.declared.logs.Entry.{Entry}
use Rattle.run_log.specs.declared.logs.ProcessLog.{ProcessLog}
use Rattle.run_log.specs.declared.logs.RunLog.{RunLog}
use Rattle.run_log.specs.declared.logs.Snapshot.{Snapshot}
use Rattle.run_law.specs.Ended.{AreBeginnings}
use Rattle.run_law.specs.Ends.{IsHistory}
use Rattle.run_law.specs.Laws.{JournalsAreSaid, RunsAreHistories, TablesTell}
use Rattle.run_law.specs.Newcomers.{SpawnedProcess}
use Rattle.run_law.specs.Observing.{HaveWatched}
use Rattle.inbox.specs.Ends.{Posting, Taking}
use Rattle.word_permit.specs.Books.{HasItsTables, KeepsRun}
use Rattle.word_permit.specs.Runs.{IsOverWords, Run}
use Rattle.word_permit.proofs.Runs.{over_words}
use Rattle.word_lap.specs.declared.process_run.ProcessRun.{ProcessRun}
use Rattle.word_lap.specs.Laws.{OthersHaveNotRun, TakenHaveRun}
use Rattle.word_run.specs.declared.seat.Seat.{Seat}
use Rattle.word_run.specs.declared.sight.Sight.{Sight}
use Rattle.word_run.specs.Desks.{DeskState, IsDesk}
use Rattle.word_run.specs.Finished.{AreLogged, AreParted, AreSettled}
use Rattle.word_run.specs.Rounds.{AreAllIdle, IsDone, IsRun}
use Rattle.word_run.proofs.Over as ended

module _ {T I : Type 0} (names : List Mfa) (s : Script) (table : TableId) (opening : Opening) (d : DeskState) (inboxes : List ℕ) (seats : List (Seat T I)) (sight : Sight) (run : IsRun names s table opening d inboxes seats sight) where
  own_run : IsRun names d.book.plain.script table opening d inboxes seats sight
  own_run = subst (λ (x : Script). IsRun names x table opening d inboxes seats sight) (sym run.script_is) run

  module _ (members : List tokens.Member) (takers : List (Taking SpawnedProcess)) (places : List (Vec (Option ProcessRun) Global)) (parted : AreParted seats members takers places) where
    pub all_members : AreAllMembers table opening.members members
    all_members = ended.all_members names table opening d inboxes seats sight own_run members takers places parted

    pub places_some : 0 < length places
    places_some = ended.places_some names table opening d inboxes seats sight own_run members takers places parted

  module _ (name : Option Run) (over : IsOverWords table opening name) (kept : KeepsRun names name d.book) where
    has : HasItsTables names table opening d.book
    has = (over_words names name table opening d.book over kept).has

    pub script_sound : IsScript s
    script_sound = subst IsScript run.script_is has.book.permit.script

    pub writer_token : (writer : writers.Writer) → writer ≡ d.book.tables.writer → IsWriterOf table opening writer
    writer_token writer is = subst (IsWriterOf table opening) (sym is) has.tables.token

    -- the log is a history
    pub finished : (members : List tokens.Member) (takers : List (Taking SpawnedProcess)) (places : List (Vec (Option ProcessRun) Global)) → AreParted seats members takers places
        → JournalsAreSaid → TablesTell → TakenHaveRun → OthersHaveNotRun → RunsAreHistories
        → IsDesk d → IsDone d → AreAllIdle seats → (ends : List (Posting SpawnedProcess)) → ends ≡ d.posted → AreSettled ends takers
        → (writer : writers.Writer) → writer ≡ d.book.tables.writer → (w : WriterView) → HasAllMembers members (written_by writer) w → HaveMarks members w → AreBeginnings members w
        → (logs : List ProcessLog) → AreLogged places (length (spawns_of 0 s.loaders)) logs
        → (shots : List (List Snapshot)) → ((log : RunLog) → log.observers ≡ shots → HaveWatched names s log w.published)
        → (journal : List Entry) → journal ≡ d.book.plain.journal
        → IsHistory names s (record { journal = journal; processes = logs; observers = shots }) w
    finished members takers places parted said tell taken others histories desk done idle ends ends_are settled writer writer_is w closed marked seen logs logged shots watched journal journal_is =
        let own_settled : AreSettled d.posted takers = subst (λ (xs : List (Posting SpawnedProcess)). AreSettled xs takers) ends_are settled in
        let own_closed : HasAllMembers members (written_by d.book.tables.writer) w = subst (λ (t : writers.Writer). HasAllMembers members (written_by t) w) writer_is closed in
        let own_logged : AreLogged places (length (spawns_of 0 d.book.plain.script.loaders)) logs = subst (λ (x : Script). AreLogged places (length (spawns_of 0 x.loaders)) logs) (sym run.script_is) logged in
        let log : RunLog = record { journal = d.book.plain.journal; processes = logs; observers = shots } in
        let own_watched : HaveWatched names d.book.plain.script log w.published = subst (λ (x : Script). HaveWatched names x log w.published) (sym run.script_is) (watched log refl) in
        let own : IsHistory names d.book.plain.script log w =
        ended.is_history names table opening d inboxes seats sight own_run members takers places parted desk own_settled has done w own_closed marked seen said tell taken others idle logs own_logged shots histories own_watched in
        subst (λ (x : Script). IsHistory names x (record { journal = journal; processes = logs; observers = shots }) w) run.script_is
        (subst (λ (j : List Entry). IsHistory names d.book.plain.script (record { journal = j; processes = logs; observers = shots }) w) (sym journal_is) own)
