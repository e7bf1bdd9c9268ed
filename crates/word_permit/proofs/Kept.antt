-- What a permit keeps goes on to hold where its book shows the same.
use Rattle.std.proofs.Common.{◌≡◌, ℕ, ◌+◌, ◌<◌, ◌^◌, List, [], length, None, Option, IfSome, IsSomeAnd, All, refl, sym, ap, subst, arith}
use Rattle.atomic_table.specs.Seated.{TableId}
use Rattle.term_core.specs.declared.atom.Mfa.{Mfa}
use Rattle.shared_words.specs.declared.opening.Opening.{Opening}
use Rattle.shared_words.specs.declared.view.WriterView.{WriterView}
use Rattle.progress_words.specs.Tokens.{written_by}
use Rattle.change_laws.specs.Names.{CommandsKeepNumbers, IsNumbered}
use Rattle.server_core.specs.declared.change.Change.{Change}
use Rattle.server_core.specs.Decided.{change_made}
use Rattle.server_core.specs.Generations.{AreNumbered}
use Rattle.server_core.specs.ServerState.{ServerState}
use Rattle.script_core.specs.declared.script.ScriptCmd.{ScriptCmd}
use Rattle.script_core.specs.declared.script.ScriptCmd.TheVariants.{Load, Delete, Put, Erase, Trace}
use Rattle.run_log.proofs.Journals.{counted}
use Rattle.staging.specs.declared.stage.Stage.{Stage}
use Rattle.staging.specs.declared.stage.Stage.TheVariants.{Untouched, Placed, Exported, Patching}
use Rattle.staging.specs.declared.tables.Tables.{Tables}
use Rattle.staging.specs.Stages.{AreAtRest, LeavesView, StageStands}
use Rattle.staging.specs.Whose.{AreTablesOf, KeepsKnown}
use Rattle.staging.proofs.Known.{known_same, known_words}
use Rattle.write_permit.specs.declared.book.Book.{Book}
use Rattle.write_permit.specs.declared.holder.Holder.TheVariants.{Held}
use Rattle.write_permit.specs.Agreement.{AgreesWithServer}
use Rattle.write_permit.specs.Book.{EndsBy, shown}
use Rattle.write_permit.specs.Permit.{PermitState, next_of, purged_code}
use Rattle.write_permit.proofs.BookKeeps.{book_by}
use Rattle.write_permit.proofs.EndBooks.{open_ends}
use Rattle.word_permit.specs.declared.book.AreaNeed.{AreaNeed}
use Rattle.word_permit.specs.declared.book.Decision.{Decision}
use Rattle.word_permit.specs.declared.book.WordBook.{WordBook}
use Rattle.word_permit.specs.Books.{HasItsTables, IsWordBook, PublishesNone}
use Rattle.word_permit.specs.Needs.{IsAwaited}
use Rattle.word_permit.specs.Answers.{AnswersAgree}
use Rattle.word_permit.specs.Notes.{AreThoseSpawned}
use Rattle.run_law.specs.Published.{ArePublished}
use Rattle.word_permit.specs.Waiting.{GoesOverWords, IsDecided, WordsStand}
use Rattle.word_permit.proofs.Awaiting.{need_still}
use Rattle.word_permit.proofs.Calls.{no_look}
use Rattle.word_permit.proofs.Resting.{IsNoTrace, rests_by}

-- ---- a book that shows the same

-- the writer keeps its notes and looks, and what it waits for
abbrev pub KeepsAllKnown : WordBook → WordBook → Type 0
KeepsAllKnown b c = KeepsKnown (written_by b.tables.writer) (written_by c.tables.writer)

-- a change that is given up leaves all but words
pub record LeavesKnown (a b : WriterView) : Type 0 where
  pub published : b.published ≡ a.published
  pub known : KeepsKnown a b

words_known : (a b : WriterView) → b ≡ record a { words = b.words } → LeavesKnown a b
words_known a b is = record { published = ap (λ (w : WriterView). w.published) is; known = known_words a b is }

pub known_abandoned : (stage : Stage) (a b : WriterView) → LeavesView stage a b → LeavesKnown a b
known_abandoned Patching a b is = words_known a b is
known_abandoned Untouched a b is = record { published = ap (λ (w : WriterView). w.published) is; known = known_same a b is }
known_abandoned (Placed areas) a b is = record { published = ap (λ (w : WriterView). w.published) is; known = known_same a b is }
known_abandoned (Exported areas) a b is = record { published = ap (λ (w : WriterView). w.published) is; known = known_same a b is }

pub has_same : (names : List Mfa) (table : TableId) (opening : Opening) (b c : WordBook) → HasItsTables names table opening b → shown c.plain ≡ shown b.plain → c.plain.modules.instances ≡ b.plain.modules.instances → AreTablesOf table opening c.tables
    → c.tables.exports ≡ names → PublishesNone b c → KeepsAllKnown b c → c.need ≡ b.need → HasItsTables names table opening c
has_same names table opening b c had same modules tables exports none known need = record {
  book = book_by c.plain (shown b.plain) same had.book.permit (subst (λ ms. AgreesWithServer ms c.plain.server) (sym modules) (subst (AgreesWithServer b.plain.modules.instances) (sym (ap (λ (x : PermitState). x.server) same)) had.book.agrees));
  texts = subst (λ (x : PermitState). All (IsNumbered names) x.script.modules) (sym same) had.texts;
  tables = tables;
  exports = exports;
  published = subst (λ (x : PermitState). ArePublished names x.script.modules x.journal (written_by c.tables.writer).published) (sym same) (subst (ArePublished names b.plain.script.modules b.plain.journal) (sym none) had.published);
  notes = subst (λ (x : PermitState). AreThoseSpawned x.script x.journal (written_by c.tables.writer).notes) (sym same) (subst (AreThoseSpawned b.plain.script b.plain.journal) (sym known.notes) had.notes);
  answered = subst (λ (x : PermitState). AnswersAgree x.script.modules x.journal (written_by c.tables.writer).looks) (sym same) (subst (AnswersAgree b.plain.script.modules b.plain.journal) (sym known.looks) had.answered);
  awaited = subst (λ (o : Option AreaNeed). IfSome o (IsAwaited (written_by c.tables.writer))) (sym need) (need_still (written_by b.tables.writer) (written_by c.tables.writer) b.need known.waits none had.awaited);
}

-- with the words at rest and nothing that waits it is all that a permit keeps
pub rests : (names : List Mfa) (table : TableId) (opening : Opening) (b c : WordBook) → HasItsTables names table opening b → shown c.plain ≡ shown b.plain → c.plain.modules.instances ≡ b.plain.modules.instances → AreTablesOf table opening c.tables
    → c.tables.exports ≡ names → PublishesNone b c → KeepsAllKnown b c → c.need ≡ b.need → c.waiting ≡ None → c.look ≡ None → IsNoTrace b.plain.holder → AreAtRest names c.plain.server c.tables → IsWordBook names table opening c
rests names table opening b c had same modules tables exports none known need waits look untraced rest = record {
  has = has_same names table opening b c had same modules tables exports none known need;
  words = subst (WordsStand names (shown c.plain) c.tables) (sym waits) (rests_by names c.plain.holder c.plain.server c.tables (subst (λ (x : PermitState). IsNoTrace x.holder) (sym same) untraced) rest);
  looked = no_look c look;
}

-- ---- a decided command

-- a command that is made over the words purges nothing
pub purges_none : (s : ServerState) (command : ScriptCmd) → GoesOverWords command → purged_code s command ≡ None
purges_none s (Load refs) h = refl
purges_none s (Delete name) h = refl
purges_none s (Put key term) h = refl
purges_none s (Erase key) h = refl
purges_none s (Trace target on) h = refl
purges_none s command h = absurd h

-- it ends the loader's next command
pub decided_ends : (b : Book) (who : ℕ) (d : Decision) → b.holder ≡ Held who → IsDecided (shown b) who d → IsSomeAnd (next_of (shown b) who) (λ command. EndsBy (shown b) b.holder command d.cmd)
decided_ends b who d held known = open_ends b who known.command [] d.cmd held known.next (purges_none b.server known.command known.goes) known.cmd_is

-- at each stage the names that are reached have numbers
pub stage_numbered : (names : List Mfa) (s : ServerState) (change : Change) (t : Tables) (stage : Stage) → StageStands names s change t stage → AreNumbered names s
stage_numbered names s change t Untouched h = h.stands.numbered
stage_numbered names s change t (Placed areas) h = h.0.stands.numbered
stage_numbered names s change t (Exported areas) h = h.placed.stands.numbered
stage_numbered names s change t Patching h = h.stands.numbered

-- and so they have once the command is made
pub made_numbered : (names : List Mfa) (table : TableId) (opening : Opening) (b : WordBook) (who : ℕ) (d : Decision) (stage : Stage) → CommandsKeepNumbers → HasItsTables names table opening b → IsDecided (shown b.plain) who d
    → StageStands names b.plain.server d.change b.tables stage → AreNumbered names (change_made b.plain.server d.change).state
made_numbered names table opening b who d stage law had known stands =
    law names b.plain.script.modules b.plain.server d.cmd (change_made b.plain.server d.change) had.book.permit.sound had.texts (stage_numbered names b.plain.server d.change b.tables stage stands) known.given

-- a generation more has room, where its number has
pub numbers_left : (names : List Mfa) (table : TableId) (opening : Opening) (b : WordBook) → HasItsTables names table opening b → b.plain.server.generation + 1 < 2 ^ 40 → length (written_by b.tables.writer).published < 2 ^ 40
numbers_left names table opening b had room =
    let is = ap (λ (s : ServerState). s.generation) had.book.permit.log.server_is in
    omega (arith, room, is, had.published.many, counted b.plain.script.modules _ b.plain.journal had.book.permit.log.replays)

-- as many generations are published as the server's number says, and generation 0
pub numbers_are : (names : List Mfa) (table : TableId) (opening : Opening) (b : WordBook) → HasItsTables names table opening b → length (written_by b.tables.writer).published ≡ b.plain.server.generation + 1
numbers_are names table opening b had =
    let is = ap (λ (s : ServerState). s.generation) had.book.permit.log.server_is in
    omega (arith, is, had.published.many, counted b.plain.script.modules _ b.plain.journal had.book.permit.log.replays)
