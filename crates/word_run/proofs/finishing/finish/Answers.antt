use Rattle.std.proofs.Common.{refl, sym, ap, subst, ◌∙◌, arith}
use Rattle.progress_words.specs.Tokens.{IsWatcherOf}
use Rattle.shared_words.specs.Closing.{AreAllMembers, AreWatchers}
use Rattle.shared_words.specs.Seats.{IsWriterSeat}
use Rattle.word_run.proofs.Closing.{all_members, finished, places_some, script_sound, writer_token}
use Rattle.word_run.proofs.Watching.{have_watched, left_at, onlookers_observe}
use Rattle.word_run.proofs.finishing.finish.Goals as goal

-- each observer may look
pub end_run-requires-clause-observe : goal.end_run-requires-clause-observe
end_run-requires-clause-observe g c = onlookers_observe g.K.Naming.names c.args.functions.now c.args.run.shared.table.shared.table_id c.args.script.now.observers c.args.run.onlookers.items c.requires.onlookers

-- each inbox has its two ends
pub end_run-requires-clause-many : goal.end_run-requires-clause-many
end_run-requires-clause-many g c = omega (arith, c.requires.run.homes, c.requires.run.many)

pub end_run-requires-clause-inboxes : goal.end_run-requires-clause-inboxes
end_run-requires-clause-inboxes g c = c.requires.run.inboxes_are

pub end_run-requires-clause-takers : goal.end_run-requires-clause-takers
end_run-requires-clause-takers g c = λ k seat at. let kept = c.requires.run.kept k seat at in kept.1.inbox ∙ kept.0

-- the script is sound, and there is a scheduler
pub log_run-requires-clause-script : goal.log_run-requires-clause-script
log_run-requires-clause-script g c =
    let here = c.args.run.shared.table.shared in
    script_sound g.K.Naming.names c.args.script.now here.table_id here.key c.args.run.desk c.args.run.inboxes.items c.args.run.seats.items c.args.run.sight c.requires.run g.N.RunName.run c.requires.words c.in_ok-ended.ensures.gathered.kept

pub log_run-requires-clause-some : goal.log_run-requires-clause-some
log_run-requires-clause-some g c =
    let here = c.args.run.shared.table.shared in
    let had = c.in_ok-ended.ended.gathered in
    let is = c.in_ok-ended.ensures.gathered in
    places_some g.K.Naming.names c.args.script.now here.table_id here.key c.args.run.desk c.args.run.inboxes.items c.args.run.seats.items c.args.run.sight c.requires.run had.members.items is.takers had.processes.items is.parted

-- all tokens come in
pub close-requires-clause-token : goal.close-requires-clause-token
close-requires-clause-token g c =
    let here = c.args.run.shared.table.shared in
    let had = c.in_ok-ended.ended.gathered in
    let is = c.in_ok-ended.ensures.gathered in
    subst (λ s. IsWriterSeat s.table.shared.table_id s.table.shared.key had.writer.generation had.writer.seat) (sym c.in_ok-ended.ensures.shared)
    (writer_token g.K.Naming.names c.args.script.now here.table_id here.key c.args.run.desk c.args.run.inboxes.items c.args.run.seats.items c.args.run.sight c.requires.run g.N.RunName.run c.requires.words is.kept had.writer is.writer_is)

pub close-requires-clause-members : goal.close-requires-clause-members
close-requires-clause-members g c =
    let here = c.args.run.shared.table.shared in
    let had = c.in_ok-ended.ended.gathered in
    let is = c.in_ok-ended.ensures.gathered in
    subst (λ s. AreAllMembers s.table.shared.table_id s.table.shared.key.members had.members.items) (sym c.in_ok-ended.ensures.shared)
    (all_members g.K.Naming.names c.args.script.now here.table_id here.key c.args.run.desk c.args.run.inboxes.items c.args.run.seats.items c.args.run.sight c.requires.run had.members.items is.takers had.processes.items is.parted)

pub close-requires-clause-watchers : goal.close-requires-clause-watchers
close-requires-clause-watchers g c =
    let left = c.in_ok-ended.ended.watched in
    subst (λ s. AreWatchers s.table.shared.table_id left.watchers.items) (sym c.in_ok-ended.ensures.shared)
    (left_at g.K.Naming.names c.args.functions.now c.args.run.shared.table.shared.table_id c.args.run.onlookers.items left.watchers.items left.logs c.in_ok-ended.ensures.watched
    (λ token. IsWatcherOf c.args.run.shared.table.shared.table_id token) (λ o token shots h. h.token_of))

-- the log is a history
pub returns-clause-history : goal.returns-clause-history
returns-clause-history g c =
    let here = c.args.run.shared.table.shared in
    let d = c.args.run.desk in
    let had = c.in_ok-ended.ended.gathered in
    let is = c.in_ok-ended.ensures.gathered in
    let left = c.in_ok-ended.ended.watched in
    let log = c.in_ok-log.log in
    finished g.K.Naming.names c.args.script.now here.table_id here.key d c.args.run.inboxes.items c.args.run.seats.items c.args.run.sight c.requires.run g.N.RunName.run c.requires.words is.kept
    had.members.items is.takers had.processes.items is.parted
    c.journals_are_sound.ensures.said c.closed_tables_tell.ensures c.kept_processes_have_run.ensures.taken c.kept_processes_have_run.ensures.others c.runs_are_histories.ensures
    is.desk c.requires.done c.requires.idle d.posted refl is.settled
    had.writer is.writer_is _ c.in_ok-closed.ensures.members c.in_ok-closed.ensures.marks c.in_ok-closed.ensures.seen
    log.processes c.in_ok-log.ensures.processes
    log.observers
    (λ other is_other.
    have_watched g.K.Naming.names c.args.functions.now here.table_id c.args.run.onlookers.items left.watchers.items left.logs c.in_ok-ended.ensures.watched c.args.script.now c.args.script.now.observers refl c.requires.onlookers c.requires.functions _
    c.in_ok-closed.ensures.watched other (is_other ∙ c.in_ok-log.ensures.observers))
    log.journal (c.in_ok-log.ensures.journal ∙ is.journal_is)

pub returns-clause-table : goal.returns-clause-table
returns-clause-table g c = c.in_ok-closed.ensures.table ∙ ap (λ s. s.table.shared.table_id) c.in_ok-ended.ensures.shared

-- each member came in
pub returns-clause-members : goal.returns-clause-members
returns-clause-members g c =
    let here = c.args.run.shared.table.shared in
    let is = c.in_ok-ended.ensures.gathered in
    let token = writer_token g.K.Naming.names c.args.script.now here.table_id here.key c.args.run.desk c.args.run.inboxes.items c.args.run.seats.items c.args.run.sight c.requires.run g.N.RunName.run c.requires.words is.kept c.in_ok-ended.ended.gathered.writer is.writer_is in
    c.in_ok-closed.ensures.members.long ∙ token.made
