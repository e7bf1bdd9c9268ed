-- What a run is made of may cross threads: a seat, and what lies under the lock; and what schedulers share may be looked at from several threads.
-- A term reaches itself, so the search does not find these: each type is one lemma over those of its parts.
use denote.RattleType.{RattleType}
use denote.Param.Send.{IsSend, IsSync, sendable}
use Rattle.std.proofs.Crossing.{crosses, Vec-send}
use Rattle.std.proofs.MapsCrossing as maps
use Rattle.term_core.proofs.term.TermList.TheLaws.TheKnot as knot
use Rattle.term_core.specs.contracts.term.Term as Term
use Rattle.term_core.specs.contracts.term.TermList as TermList
use Rattle.term_core.specs.contracts.names.Names as Names
use Rattle.mod_core.specs.contracts.code.Operand as Operand
use Rattle.mod_core.specs.contracts.code.Instr as Instr
use Rattle.mod_core.specs.contracts.code.Function as Function
use Rattle.mod_core.specs.contracts.code.Module as Module
use Rattle.machine_core.specs.contracts.process.Value as Value
use Rattle.machine_core.specs.contracts.process.Frame as Frame
use Rattle.machine_core.specs.contracts.process.Process as Process
use Rattle.machine_core.specs.contracts.process.Line as Line
use Rattle.machine_core.specs.contracts.frames.FrameList as FrameList
use Rattle.machine_core.specs.contracts.registers.ValueList as ValueList
use Rattle.run_log.specs.contracts.logs.Snapshot as Snapshot
use Rattle.run_log.specs.contracts.logs.Span as Span
use Rattle.run_log.specs.contracts.logs.Entry as Entry
use Rattle.server_core.specs.contracts.instance.LoadedModule as LoadedModule
use Rattle.server_core.specs.contracts.stored_term.StoredTerm as StoredTerm
use Rattle.server_core.specs.contracts.areas.Area as Area
use Rattle.server_core.specs.contracts.areas.AreaTable as AreaTable
use Rattle.server_core.specs.contracts.keys.Held as Held
use Rattle.server_core.specs.contracts.keys.KeyTable as KeyTable
use Rattle.server_core.specs.contracts.versions.VersionTable as VersionTable
use Rattle.server_core.specs.contracts.server.Server as Server
use Rattle.server_core.specs.contracts.command.Applied as Applied
use Rattle.server_core.specs.contracts.command.Cmd as Cmd
use Rattle.server_core.specs.contracts.command.Reply as Reply
use Rattle.server_core.specs.contracts.change.Change as Change
use Rattle.script_core.specs.contracts.script.ScriptCmd as ScriptCmd
use Rattle.script_core.specs.contracts.script.Script as Script
use Rattle.module_table.specs.contracts.table.ModuleTable as ModuleTable
use Rattle.export_table.specs.contracts.table.ExportTable as ExportTable
use Rattle.atomic_table.proofs.shared.Seat.TheSendSync as seat
use Rattle.atomic_table.proofs.shared.Shared.TheSendSync as words
use Rattle.atomic_table.proofs.send_lease.SendLease.TheSendSync as lease
use Rattle.shared_words.specs.declared.law.Served as served
use Rattle.shared_words.specs.contracts.seats.Member as Member
use Rattle.shared_words.specs.contracts.seats.Note as Note
use Rattle.shared_words.specs.contracts.seats.Watcher as Watcher
use Rattle.shared_words.specs.contracts.seats.Writer as Writer
use Rattle.shared_words.specs.contracts.table.Shared as Shared
use Rattle.staging.specs.contracts.tables.Tables as Tables
use Rattle.staging.specs.contracts.stage.Stage as Stage
use Rattle.write_permit.specs.contracts.book.Book as Book
use Rattle.word_permit.specs.contracts.book.Decision as Decision
use Rattle.word_permit.specs.contracts.book.Waiting as Waiting
use Rattle.word_permit.specs.contracts.book.WordBook as WordBook
use Rattle.word_permit.specs.contracts.permit.Permit as Permit
use Rattle.word_permit.specs.declared.run_name.RunName as runs
use Rattle.code_law.specs.declared.naming.Naming as naming
use Rattle.inbox.specs.declared.names.InboxNames as inboxes
use Rattle.inbox.specs.contracts.ends.Poster as Poster
use Rattle.inbox.specs.contracts.ends.Taker as Taker
use Rattle.inbox.specs.contracts.queue.Inbox as Inbox
use Rattle.inbox.proofs.ends.Poster.TheSendSync as poster
use Rattle.inbox.proofs.ends.Taker.TheSendSync as taker
use Rattle.inbox.proofs.queue.Inbox.TheSendSync as inbox
use Rattle.word_lap.specs.declared.table_name.TableName as tables
use Rattle.word_lap.specs.contracts.newcomer.Newcomer as Newcomer
use Rattle.word_lap.specs.contracts.process_run.ProcessRun as ProcessRun
use Rattle.word_run.specs.declared.slicing.RoundName as rounds
use Rattle.word_run.specs.contracts.desk.Desk as Desk
use Rattle.word_run.specs.contracts.slicing.Slicing as Slicing
use Rattle.observers.specs.contracts.observer.Observer as Observer
use Rattle.word_run.specs.contracts.onlooker.Onlooker as Onlooker
use Rattle.word_run.specs.contracts.scheduler.Scheduler as Scheduler
use Rattle.word_run.specs.contracts.seat.Seat as Seat
use Rattle.word_run.specs.contracts.sight.Sight as Sight

-- ---- a term, and what holds terms
terms_send : IsSend TermList.the_row
terms_send = knot.send-TermList Vec-send (search sendable depth 20) (search sendable depth 20)

term_send : IsSend (Term.the_field).row
term_send = knot.send-Term (search sendable depth 20) (search sendable depth 20) terms_send

value_send : IsSend (Value.the_field).row
value_send = let t = term_send in search sendable depth 20

values_send : IsSend ValueList.the_row
values_send = let v = value_send in search (sendable, crosses) depth 20

frame_send : IsSend (Frame.the_field).row
frame_send = let v = values_send in search sendable depth 20

frames_send : IsSend FrameList.the_row
frames_send = let f = frame_send in let v = values_send in search (sendable, crosses) depth 20

process_send : IsSend (Process.the_field).row
process_send = let f = frames_send in let t = terms_send in search (sendable, crosses) depth 20

line_send : IsSend (Line.the_field).row
line_send = let t = term_send in let l = terms_send in search sendable depth 20

span_send : IsSend (Span.the_field).row
span_send = let l = line_send in search (sendable, crosses) depth 20

run_send : IsSend (ProcessRun.the_field).row
run_send = let p = process_send in let s = span_send in search (sendable, crosses) depth 20

-- ---- a server
operand_send : IsSend (Operand.the_field).row
operand_send = let t = term_send in search sendable depth 20

instr_send : IsSend (Instr.the_field).row
instr_send = let o = operand_send in search sendable depth 20

function_send : IsSend (Function.the_field).row
function_send = let i = instr_send in search (sendable, crosses) depth 20

module_send : IsSend (Module.the_field).row
module_send = let f = function_send in search (sendable, crosses) depth 20

loaded_send : IsSend LoadedModule.the_row
loaded_send = let m = module_send in search (sendable, crosses) depth 20

stored_send : IsSend StoredTerm.the_row
stored_send = search (sendable, crosses) depth 20

area_send : IsSend (Area.the_field).row
area_send = let l = loaded_send in let s = stored_send in search sendable depth 20

areas_send : IsSend AreaTable.the_row
areas_send = let a = area_send in search (sendable, crosses) depth 20

held_send : IsSend (Held.the_field).row
held_send = let t = term_send in search sendable depth 20

keys_send : IsSend KeyTable.the_row
keys_send = let h = held_send in search (sendable, crosses) depth 40

versions_send : IsSend VersionTable.the_row
versions_send = search (sendable, crosses) depth 40

server_send : IsSend Server.the_row
server_send = let a = areas_send in let k = keys_send in let v = versions_send in search (sendable, crosses) depth 30

-- ---- a book: script, journal and server
names_send : IsSend Names.the_row
names_send = search (sendable, crosses, maps.crosses) depth 40

command_send : IsSend (ScriptCmd.the_field).row
command_send = let t = term_send in let l = terms_send in search (sendable, crosses) depth 20

script_send : IsSend (Script.the_field).row
script_send = let n = names_send in let m = module_send in let c = command_send in search (sendable, crosses) depth 30

cmd_send : IsSend (Cmd.the_field).row
cmd_send = let t = term_send in let l = terms_send in search (sendable, crosses) depth 20

entry_send : IsSend (Entry.the_field).row
entry_send = let c = cmd_send in search (sendable, crosses) depth 20

modules_send : IsSend ModuleTable.the_row
modules_send = search (sendable, crosses) depth 40

book_send : IsSend (Book.the_field).row
book_send = let s = script_send in let v = server_send in let m = modules_send in let e = entry_send in search (sendable, crosses) depth 30

reply_send : IsSend (Reply.the_field).row
reply_send = search (sendable, crosses) depth 20

-- a change has many variants of several parts each, so more lemmas fit than elsewhere
change_send : IsSend (Change.the_field).row
change_send =
    let t = term_send in
    let l = loaded_send in
    let s = stored_send in
    let a = area_send in
    let h = held_send in
    let r = reply_send in
    search (sendable, crosses) depth 40 fits 20000

applied_send : IsSend (Applied.the_field).row
applied_send = let r = reply_send in search (sendable, crosses) depth 20

decision_send : IsSend (Decision.the_field).row
decision_send = let c = cmd_send in let d = change_send in let a = applied_send in search (sendable, crosses) depth 20

stage_send : IsSend (Stage.the_field).row
stage_send = search (sendable, crosses) depth 20

waiting_send : IsSend (Waiting.the_field).row
waiting_send = let d = decision_send in let s = stage_send in search (sendable, crosses) depth 20

-- ---- tokens and tables
writer_send : IsSend (Writer.the_field).row
writer_send = search (seat.the_send, sendable, crosses) depth 20

member_send : IsSend (Member.the_field).row
member_send = search (seat.the_send, sendable, crosses) depth 20

note_send : IsSend (Note.the_field).row
note_send = search (seat.the_send, sendable, crosses) depth 20

exports_send : IsSend ExportTable.the_row
exports_send = search (sendable, crosses) depth 40

pub exports_sync : IsSync ExportTable.the_row
exports_sync = search (sendable, crosses) depth 40

tables_send : IsSend (Tables.the_field).row
tables_send = let w = writer_send in let e = exports_send in search (sendable, crosses) depth 30

word_book_send : IsSend (WordBook.the_field).row
word_book_send = let b = book_send in let t = tables_send in let w = waiting_send in search (sendable, crosses) depth 30

-- ---- an observer
watcher_send : IsSend (Watcher.the_field).row
watcher_send = search (seat.the_send, sendable, crosses) depth 20

snapshot_send : IsSend (Snapshot.the_field).row
snapshot_send = search (sendable, crosses) depth 20

observer_send : IsSend (Observer.the_field).row
observer_send = let w = watcher_send in let s = snapshot_send in search (sendable, crosses) depth 20

pub onlooker_send : IsSend Onlooker.the_row
onlooker_send = let o = observer_send in search sendable depth 20

-- ---- what schedulers share
pub sight_sync : IsSync (Sight.the_field).row
sight_sync = let e = exports_sync in search (sendable, crosses) depth 30

pub shared_sync : (S : RattleType) (s : served.Ghosts S.Denot) → IsSync (Shared.the_row S s)
shared_sync S s = search (words.the_sync, lease.the_sync, sendable, crosses) depth 30

-- ---- a scheduler and its seat
module _ (T I : RattleType) (t : tables.Ghosts T.Denot) (i : inboxes.Ghosts I.Denot) where
  newcomer_send : IsSend T → IsSend (Newcomer.the_row T t)
  newcomer_send table = let l = terms_send in let n = note_send in search (sendable, crosses) depth 20

  taker_send : IsSend T → IsSend I → IsSend (Taker.the_row (Newcomer.the_row T t) I i)
  taker_send table names = let m = newcomer_send table in search (taker.the_send, sendable, crosses) depth 20

  poster_send : IsSend T → IsSend I → IsSend (Poster.the_row (Newcomer.the_row T t) I i)
  poster_send table names = let m = newcomer_send table in search (poster.the_send, sendable, crosses) depth 20

  scheduler_send : IsSend T → IsSend I → IsSend (Scheduler.the_field T I t i).row
  scheduler_send table names = let m = member_send in let k = taker_send table names in let r = run_send in search (sendable, crosses) depth 30

  pub seat_send : IsSend T → IsSend I → IsSend (Seat.the_row T I t i)
  seat_send table names = let s = scheduler_send table names in search sendable depth 20

  pub inbox_sync : IsSend T → IsSync I → IsSync (Inbox.the_row (Newcomer.the_row T t) I i)
  inbox_sync table names = let m = newcomer_send table in search (inbox.the_sync, sendable, crosses) depth 20

  -- ---- what lies under the lock
  module _ (K N E : RattleType) (k : naming.Ghosts K.Denot) (n : runs.Ghosts N.Denot) (e : rounds.Ghosts E.Denot) where
    permit_send : IsSend K → IsSend N → IsSend (Permit.the_row K N k n)
    permit_send names run = let b = word_book_send in search (sendable, crosses) depth 20

    desk_send : IsSend K → IsSend N → IsSend T → IsSend I → IsSend (Desk.the_row K N T I k n t i)
    desk_send names run table ends = let p = permit_send names run in let q = poster_send table ends in search (sendable, crosses) depth 20

    pub slicing_send : IsSend K → IsSend N → IsSend T → IsSend I → IsSend E → IsSend (Slicing.the_row K N T I E k n t i e)
    slicing_send names run table ends round = let d = desk_send names run table ends in search (sendable, crosses) depth 20
