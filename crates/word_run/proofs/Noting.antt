-- The note of a process that is posted.
use Rattle.std.proofs.Common.{◌≡◌, ℕ, ◌+◌, List, length, Option, None, Some, sym, ap, subst, ◌∙◌, arith}
use Rattle.atomic_table.specs.Seated.{TableId}
use Rattle.term_core.specs.declared.atom.Mfa.{Mfa}
use Rattle.term_core.specs.PlainTerm.{PlainTerm}
use Rattle.shared_words.specs.declared.opening.Opening.{Opening}
use Rattle.shared_words.specs.declared.view.NoteView.{NoteView}
use Rattle.shared_words.specs.declared.view.WriterView.{WriterView}
use Rattle.progress_words.specs.Tokens.{IsNoteOf, written_by}
use Rattle.server_core.specs.ServerState.{empty_state}
use Rattle.script_core.specs.declared.script.ScriptCmd.TheVariants as script
use Rattle.script_core.specs.Processes.{spawn_number}
use Rattle.run_log.specs.Journal.{published_count}
use Rattle.run_log.proofs.Journals.{counted}
use Rattle.write_permit.specs.Book.{IsPermit, shown}
use Rattle.write_permit.specs.Permit.{PermitState, done_of, next_of, spawned_by}
use Rattle.word_permit.specs.declared.answers.Spawned.{Spawned}
use Rattle.word_permit.specs.declared.book.WordBook.{WordBook}
use Rattle.word_permit.specs.Books.{KeepsRun}
use Rattle.word_permit.specs.Notes.{HandsOut, HasNote, next_spawned}
use Rattle.word_permit.specs.Runs.{IsOverWords, Run}
use Rattle.word_lap.specs.Newcomers.{IsNoted, IsNotedIn}
use Rattle.word_run.specs.Names.{HasTable}

-- as many generations were published as the journal has
pub generation_counted : (p : PermitState) → IsPermit p → p.server.generation ≡ published_count p.journal
generation_counted p permit = omega (arith, ap (λ s. s.generation) permit.log.server_is, counted p.script.modules empty_state p.journal permit.log.replays)

writer_counted : (names : List Mfa) (run : Option Run) (b : WordBook) → KeepsRun names run b → length (written_by b.tables.writer).published ≡ published_count b.plain.journal + 1
writer_counted names None b h = absurd h
writer_counted names (Some r) b h = h.0.has.published.many

-- the process of the spawn, with its note
handed : (p : PermitState) (who : ℕ) (target : Mfa) (args : List PlainTerm) (table : TableId) (w : WriterView) (s : Spawned) → next_of p who ≡ Some (script.Spawn target args) → HandsOut table w (next_spawned p who) (Some s)
    → HasNote table (spawn_number p.script.loaders who (done_of p.loaders who)) w s
handed p who target args table w s next h = subst (λ o. HandsOut table w o (Some s)) (ap (spawned_by p who) next) h

pub handed_number : (p : PermitState) (who : ℕ) (target : Mfa) (args : List PlainTerm) (table : TableId) (w : WriterView) (s : Spawned) → next_of p who ≡ Some (script.Spawn target args) → HandsOut table w (next_spawned p who) (Some s)
    → s.process ≡ spawn_number p.script.loaders who (done_of p.loaders who)
handed_number p who target args table w s next h = (handed p who target args table w s next h).process

noted_in : (table : TableId) (number published : ℕ) (w : WriterView) (s : Spawned) → length w.published ≡ published + 1 → HasNote table number w s → IsNotedIn table s.process published s.note
noted_in table number published w s many h = record {
  of = subst (λ n. IsNoteOf table n s.note) (sym h.process) h.token;
  told = omega (arith, many, ap (λ (n : NoteView). n.note.published) h.learnt);
  learnt = ap (λ (n : NoteView). length n.seen) h.learnt ∙ many;
}

-- the notes are of the words
pub named_table : (run : Option Run) (name : Option TableId) (table : TableId) (opening : Opening) → IsOverWords table opening run → HasTable run name → name ≡ Some table
named_table None name table opening over h = absurd h
named_table (Some r) name table opening over h = h ∙ ap Some over.0

pub handed_note : (names : List Mfa) (run : Option Run) (name : Option TableId) (table : TableId) (opening : Opening) (b : WordBook) (who : ℕ) (target : Mfa) (args : List PlainTerm) (s : Spawned) (published : ℕ)
    → IsOverWords table opening run → HasTable run name → KeepsRun names run b → IsPermit (shown b.plain) → published ≡ b.plain.server.generation → next_of (shown b.plain) who ≡ Some (script.Spawn target args)
    → HandsOut table (written_by b.tables.writer) (next_spawned (shown b.plain) who) (Some s) → IsNoted name s.process published s.note
handed_note names run name table opening b who target args s published over named kept permit is next h =
    subst (λ o. IsNoted o s.process published s.note) (sym (named_table run name table opening over named))
    (noted_in table _ published (written_by b.tables.writer) s (omega (arith, writer_counted names run b kept, is, generation_counted (shown b.plain) permit)) (handed (shown b.plain) who target args table (written_by b.tables.writer) s next h))
