-- What the calls that store no word leave of a permit's book.
use Rattle.std.proofs.Common.{◌≡◌, ℕ, zero, suc, ◌⊎◌, inl, inr, false, true, List, [], ◌∷◌, ◌++◌, slice_get, Option, Some, None, is_some, IfSome, IsSomeAnd, All, if◌then◌else◌, option_and_then, refl, sym, ap, subst, ◌∙◌}
use Rattle.std.proofs.lemmas.Bool.{eq-eqb, false≢true}
use Rattle.std.proofs.lemmas.Option.{none-some, same_Some}
use Rattle.atomic_table.specs.Seated.{TableId}
use Rattle.term_core.specs.declared.atom.Mfa.{Mfa}
use Rattle.mod_core.specs.declared.code.Module.{Module}
use Rattle.area_core.specs.declared.table.Published.{Published}
use Rattle.area_core.specs.Step.{opening_published}
use Rattle.shared_words.specs.declared.opening.Opening.{Opening}
use Rattle.shared_words.specs.declared.view.NoteNumber.{NoteNumber}
use Rattle.shared_words.specs.Notes.{MaySplitNote}
use Rattle.progress_words.specs.Tokens.{written_by}
use Rattle.change_laws.specs.Names.{IsNumbered}
use Rattle.server_core.specs.declared.command.Applied.{Applied}
use Rattle.server_core.specs.declared.command.Cmd.{Cmd}
use Rattle.server_core.specs.declared.command.Cmd.TheVariants as cmds
use Rattle.server_core.specs.declared.command.Reply.TheVariants as replies
use Rattle.server_core.specs.CommandTable.{Outcome, answered, apply_of, unchanged}
use Rattle.server_core.specs.Decided.{Fits, change_made}
use Rattle.server_core.specs.ServerState.{empty_state, old_of}
use Rattle.script_core.specs.declared.script.Script.{Script}
use Rattle.script_core.specs.declared.script.ScriptCmd.{ScriptCmd}
use Rattle.script_core.specs.Processes.{spawn_number}
use Rattle.script_core.specs.declared.script.ScriptCmd.TheVariants.{CheckOld, Spawn}
use Rattle.run_log.specs.declared.logs.Entry.{Entry}
use Rattle.run_log.specs.declared.logs.Who.TheVariants.{Loader}
use Rattle.run_log.specs.Journal.{publishes}
use Rattle.run_log.specs.Legal.{PurgesGo, commands_in, ended_by}
use Rattle.run_log.proofs.Journals.{commands_own}
use Rattle.run_log.proofs.SpanRuns.{some_and}
use Rattle.staging.specs.declared.tables.Tables.{Tables}
use Rattle.staging.specs.Stages.{AreAtRest, StageStands}
use Rattle.staging.specs.Whose.{AreTablesOf}
use Rattle.write_permit.specs.declared.book.Book.{Book}
use Rattle.write_permit.specs.declared.holder.Holder.TheVariants.{Free, Held}
use Rattle.write_permit.specs.Book.{HoldsJust, IsBook, IsLog, IsPermit, shown}
use Rattle.write_permit.specs.Permit.{PermitState, PermitStep, at_once_of, counted_in, done_by, entered_by, half_of, holder_of, joined, needs_permission, next_of, command_opening, spawned_by}
use Rattle.write_permit.proofs.Kept.{holder_apart, next_kept}
use Rattle.word_permit.specs.declared.book.AreaNeed.{AreaNeed}
use Rattle.word_permit.specs.declared.book.Decision.{Decision}
use Rattle.word_permit.specs.declared.book.Waiting.{Waiting}
use Rattle.word_permit.specs.declared.book.WordBook.{WordBook}
use Rattle.word_permit.specs.Answers.{AnswersAgree}
use Rattle.word_permit.specs.Books.{HasTablesWith, IsKept, IsWordBook, JoinsQuietly, JoinsUnpublished, StageGoesOn, TellsNone}
use Rattle.word_permit.specs.Looks.{IsLookTaken}
use Rattle.word_permit.specs.Needs.{IsAwaited}
use Rattle.word_permit.specs.Notes.{AreOfSpawned, AreThoseSpawned, HasNoteIn, IsSpawnedIn}
use Rattle.run_law.specs.Published.{ArePublished, shown_at}
use Rattle.word_permit.specs.Waiting.{IsDecided, RestsBy, WordsStand}
use Rattle.word_permit.proofs.Answered.{agree_first, agree_quietly}
use Rattle.word_permit.proofs.Growing.{published_same}
use Rattle.word_permit.proofs.Resting.{IsNoTrace, free_no_trace, rest_by, rests_by}
use Rattle.word_permit.proofs.SpawnedBefore.{SpawnsNext, SpawnsNow, done_many, if_spawned, may_split, none_spawned, notes_later, spawned_by_entry, spawned_now, spawned_number, spawns_next, those_later}

-- ---- the first book

first_at : (names : List Mfa) (texts : List Module) (k : ℕ) (p : Published) → slice_get (opening_published ∷ []) k ≡ Some p → p.state ≡ shown_at names texts [] k
first_at names texts zero p h = ap (λ (x : Published). x.state) (sym (same_Some opening_published p h))
first_at names texts (suc k) p h = absurd (none-some p h)

-- before the first command generation 0 is published
pub published_first : (names : List Mfa) (texts : List Module) (journal : List Entry) (published : List Published) → journal ≡ [] → published ≡ opening_published ∷ [] → ArePublished names texts journal published
published_first names texts journal published begun command_opening =
    subst (λ js. ArePublished names texts js published) (sym begun) (subst (ArePublished names texts []) (sym command_opening) (record { many = refl; each = first_at names texts }))

-- nothing waited before
pub none_before : (old new : Option Waiting) → old ≡ None → StageGoesOn old new
none_before old new none = subst (λ (x : Option Waiting). StageGoesOn x new) (sym none) tt

-- no look is waited for
pub no_look : (b : WordBook) → b.look ≡ None → IfSome b.look (IsLookTaken (written_by b.tables.writer))
no_look b none = subst (λ (o : Option ℕ). IfSome o (IsLookTaken (written_by b.tables.writer))) (sym none) tt

pub begun_word_book : (names : List Mfa) (table : TableId) (command_opening : Opening) (b : WordBook) → IsBook b.plain → All (IsNumbered names) b.plain.script.modules → AreTablesOf table command_opening b.tables → b.tables.exports ≡ names → b.plain.journal ≡ []
    → b.plain.server ≡ empty_state → b.plain.holder ≡ Free → (written_by b.tables.writer).published ≡ opening_published ∷ [] → (written_by b.tables.writer).notes ≡ [] → (written_by b.tables.writer).looks.dropped ≡ [] → AreAtRest names empty_state b.tables → b.waiting ≡ None → b.need ≡ None → b.look ≡ None → IsWordBook names table command_opening b
begun_word_book names table command_opening b book texts tables exports journal server free published notes drops rest none needs look = record {
  has = record {
    book = book;
    texts = texts;
    tables = tables;
    exports = exports;
    published = published_first names b.plain.script.modules b.plain.journal (written_by b.tables.writer).published journal published;
    notes = subst (AreThoseSpawned b.plain.script b.plain.journal) (sym notes) (record { of = λ n among. absurd (none-some n among.1); each = λ process h. absurd (none_spawned b.plain.script b.plain.journal process journal h) });
    answered = agree_first b.plain.script.modules b.plain.journal (written_by b.tables.writer).looks journal drops;
    awaited = subst (λ (o : Option AreaNeed). IfSome o (IsAwaited (written_by b.tables.writer))) (sym needs) tt;
  };
  words = subst (WordsStand names (shown b.plain) b.tables) (sym none) (rests_by names b.plain.holder b.plain.server b.tables (free_no_trace b.plain.holder free) (subst (λ s. AreAtRest names s b.tables) (sym server) rest));
  looked = no_look b look;
}

-- ---- the permission is given

free_apart : (n : ℕ) → Free ≡ Held n → ⊥
free_apart n e = cc

-- while nobody has the permission no command waits
words_free : (names : List Mfa) (p q : PermitState) (t : Tables) (o : Option Waiting) → p.holder ≡ Free → IsNoTrace q.holder → q.server ≡ p.server → WordsStand names p t o → WordsStand names q t o
words_free names p q t None free untraced same h = rests_by names q.holder q.server t untraced (subst (λ s. AreAtRest names s t) (sym same) (rest_by names p.holder p.server t (free_no_trace p.holder free) h))
words_free names p q t (Some w) free untraced same h = absurd (free_apart h.who (sym free ∙ h.holder))

book_seized : (b : Book) (who : ℕ) → b.holder ≡ Free → IsSomeAnd (next_of (shown b) who) (λ command. needs_permission command ≡ true) → IsBook b → IsBook (record b { holder = Held who })
book_seized b who free needs known =
    let p = known.permit in
    record {
      permit = record {
        script = p.script;
        log = subst (λ h. IsLog b.script b.server b.journal (entered_by h b.loaders.items)) free p.log;
        sound = p.sound;
        purges = subst (λ h. PurgesGo b.script.modules empty_state None b.journal (half_of h)) free p.purges;
        holds = record { rest = subst (HoldsJust (shown b)) free p.holds; next = needs };
      };
      agrees = known.agrees;
    }

pub seized_kept : (b : WordBook) (who : ℕ) → b.plain.holder ≡ Free → IsSomeAnd (next_of (shown b.plain) who) (λ command. needs_permission command ≡ true) → IsKept b (record b { plain = record (b.plain) { holder = Held who } })
seized_kept b who free needs = record {
  tables = refl;
  script = refl;
  book = λ names table command_opening known. record {
    has = record {
      book = book_seized b.plain who free needs known.has.book;
      texts = known.has.texts;
      tables = known.has.tables;
      exports = known.has.exports;
      published = known.has.published;
      notes = known.has.notes;
      answered = known.has.answered;
      awaited = known.has.awaited;
    };
    words = words_free names (shown b.plain) (record (shown b.plain) { holder = Held who }) b.tables b.waiting free tt refl known.words;
    looked = known.looked;
  };
}

-- ---- a command that is made at once

-- what such a command leaves
pub record LeftAtOnce (p : PermitState) (who : ℕ) (command : ScriptCmd) (q : PermitState) : Type 0 where
  pub script : q.script ≡ p.script
  pub server : q.server ≡ p.server
  pub holder : q.holder ≡ p.holder
  pub journal : JoinsQuietly p.journal q.journal
  pub commands : commands_in who q.journal ≡ commands_in who p.journal ++ command ∷ []
  pub spawns : (process : ℕ) → IsSpawnedIn q.script q.journal process → IsSpawnedIn p.script p.journal process ⊎ SpawnsNext p.script p.journal who command process
  pub next : (by : ℕ) → (by ≡ who → ⊥) → next_of q by ≡ next_of p by

module _ (p : PermitState) (known : IsPermit p) (who : ℕ) (q : PermitState) (answer : Applied) where
  left_of : (command : ScriptCmd) → next_of p who ≡ Some command → (cmd : Cmd) (o : Outcome) → ended_by cmd ≡ command ∷ [] → o.state ≡ p.server → o.answer.published ≡ None → TellsNone cmd → LeftAtOnce p who command (record (joined p (Loader who) cmd o) { loaders = counted_in p.loaders who command })
  left_of command next cmd o ends same none quiet = record {
    script = refl;
    server = same;
    holder = refl;
    journal = (entry, (refl, (none, quiet)));
    commands = commands_own who p.journal entry (eq-eqb who who refl) ∙ ap (λ commands. commands_in who p.journal ++ commands) ends;
    spawns = λ process h. by_entry process (spawned_by_entry p.script p.journal entry process h);
    next = λ by n. next_kept p known who command next (joined p (Loader who) cmd o) refl by n;
  }
    where
      entry : Entry
      entry = record { who = Loader who; cmd = cmd; reply = o.answer.reply; published = o.answer.published }

      by_entry : (process : ℕ) → IsSpawnedIn p.script p.journal process ⊎ SpawnsNow p.script p.journal entry process → IsSpawnedIn p.script p.journal process ⊎ SpawnsNext p.script p.journal who command process
      by_entry process (inl was) = inl was
      by_entry process (inr now) = inr (spawns_next p.script p.journal entry who command process refl ends now)

  -- the state that is told is this one
  left_as : (command : ScriptCmd) (x y : PermitStep) → LeftAtOnce p who command x.state → Some x ≡ Some y → LeftAtOnce p who command y.state
  left_as command x y left h = subst (λ (s : PermitStep). LeftAtOnce p who command s.state) (same_Some x y h) left

  left_by : (command : ScriptCmd) → next_of p who ≡ Some command → needs_permission command ≡ false → done_by p who command (command_opening p.server [] command) ≡ Some (record { state = q; answer = answer }) → LeftAtOnce p who command q
  left_by (CheckOld name) next free h = left_as (CheckOld name) _ _ (left_of (CheckOld name) next (cmds.CheckOld name) (unchanged p.server (answered (is_some (old_of p.server name.0)))) refl refl refl tt) h
  left_by (Spawn target args) next free h = left_as (Spawn target args) _ _ (left_of (Spawn target args) next (cmds.Spawn target args) (unchanged p.server replies.Ok) refl refl refl tt) h
  left_by command next free h = absurd (false≢true (sym free))

  pub left_at_once : (command : ScriptCmd) → next_of p who ≡ Some command → needs_permission command ≡ false → at_once_of p who ≡ Some (record { state = q; answer = answer }) → LeftAtOnce p who command q
  left_at_once command next free h = left_by command next free (ap (option_and_then {U = PermitStep} (λ x. done_by p who x (command_opening p.server [] x))) (sym next) ∙ h)

-- a decided command stays so where the server and the loader's next command do
pub decided_moved : (p q : PermitState) (who : ℕ) (d : Decision) → q.server ≡ p.server → q.script ≡ p.script → next_of q who ≡ next_of p who → IsDecided p who d → IsDecided q who d
decided_moved p q who d server script next k = record {
  command = k.command;
  next = next ∙ k.next;
  goes = k.goes;
  cmd_is = k.cmd_is ∙ ap (λ s. command_opening s [] k.command) (sym server);
  fits = subst (λ s. Fits s d.change) (sym server) k.fits;
  given = subst (λ (x : Script). apply_of x.modules q.server d.cmd ≡ Some (change_made q.server d.change)) (sym script) (subst (λ s. apply_of p.script.modules s d.cmd ≡ Some (change_made s d.change)) (sym server) k.given);
  answer = subst (λ s. (change_made s d.change).answer ≡ d.applied) (sym server) k.answer;
}

words_at_once : (names : List Mfa) (p q : PermitState) (who : ℕ) (command : ScriptCmd) (t : Tables) (o : Option Waiting) → HoldsJust p p.holder → next_of p who ≡ Some command → needs_permission command ≡ false → LeftAtOnce p who command q
    → WordsStand names p t o → WordsStand names q t o
words_at_once names p q who command t None holds next free left h = subst (λ k. RestsBy names k q.server t) (sym left.holder) (subst (λ s. RestsBy names p.holder s t) (sym left.server) h)
words_at_once names p q who command t (Some w) holds next free left h = record {
  who = h.who;
  holder = left.holder ∙ h.holder;
  decided = decided_moved p q h.who w.decision left.server left.script (left.next h.who (holder_apart p p.holder who command holds next free h.who (ap holder_of h.holder))) h.decided;
  staged = h.staged;
  stands = subst (λ s. StageStands names s w.decision.change t w.stage) (sym left.server) h.stands;
}

-- an entry that publishes nothing counts for none
pub counts_none : (e : Entry) → e.published ≡ None → publishes e ≡ 0
counts_none e none = ap (λ yes. if yes then 1 else 0) (ap (λ (o : Option ℕ). is_some o) none)

-- a book to which an entry joined that publishes nothing, while the words stay
pub has_joined : (names : List Mfa) (table : TableId) (command_opening : Opening) (b c : WordBook) (Before After : Type 0) → HasTablesWith names table command_opening Before b → After → IsBook c.plain → c.plain.script ≡ b.plain.script → JoinsQuietly b.plain.journal c.plain.journal → c.tables ≡ b.tables → c.need ≡ b.need
    → HasTablesWith names table command_opening After c
has_joined names table command_opening b c Before After had after book script journal tables need = record {
  book = book;
  texts = subst (λ (x : Script). All (IsNumbered names) x.modules) (sym script) had.texts;
  tables = subst (AreTablesOf table command_opening) (sym tables) had.tables;
  exports = ap (λ (x : Tables). x.exports) tables ∙ had.exports;
  notes = after;
  awaited = subst (λ (o : Option AreaNeed). IfSome o (IsAwaited (written_by c.tables.writer))) (sym need) (subst (λ (x : Tables). IfSome b.need (IsAwaited (written_by x.writer))) (sym tables) had.awaited);
  answered = subst (λ (x : Tables). AnswersAgree c.plain.script.modules c.plain.journal (written_by x.writer).looks) (sym tables)
      (subst (λ (x : Script). AnswersAgree x.modules c.plain.journal (written_by b.tables.writer).looks) (sym script)
      (subst (λ js. AnswersAgree b.plain.script.modules js (written_by b.tables.writer).looks) (sym journal.1.0)
      (agree_quietly b.plain.script.modules b.plain.journal journal.0 (written_by b.tables.writer).looks had.answered journal.1.1.1)));
  published = subst (λ (x : Tables). ArePublished names c.plain.script.modules c.plain.journal (written_by x.writer).published) (sym tables)
      (subst (λ (x : Script). ArePublished names x.modules c.plain.journal (written_by b.tables.writer).published) (sym script)
      (subst (λ js. ArePublished names b.plain.script.modules js (written_by b.tables.writer).published) (sym journal.1.0)
      (published_same names b.plain.script.modules b.plain.journal journal.0 had.book.permit.log.replays (written_by b.tables.writer).published had.published (counts_none journal.0 journal.1.1.0))));
}

-- its notes are those of the processes that were spawned
pub those_joined : (b : WordBook) (plain : Book) → AreThoseSpawned b.plain.script b.plain.journal (written_by b.tables.writer).notes → plain.script ≡ b.plain.script → JoinsUnpublished b.plain.journal plain.journal → AreThoseSpawned plain.script plain.journal (written_by b.tables.writer).notes
those_joined b plain had script journal =
    subst (λ (x : Script). AreThoseSpawned x plain.journal (written_by b.tables.writer).notes) (sym script)
    (subst (λ js. AreThoseSpawned b.plain.script js (written_by b.tables.writer).notes) (sym journal.1.0) (those_later b.plain.script b.plain.journal journal.0 (written_by b.tables.writer).notes journal.1.1.1.1 had))

pub joins_quietly : (old new : List Entry) → JoinsUnpublished old new → JoinsQuietly old new
joins_quietly old new h = (h.0, (h.1.0, (h.1.1.0, h.1.1.1.0)))

-- a book that stands, of whose notes this is known
pub record StandsWith (names : List Mfa) (table : TableId) (command_opening : Opening) (Notes : Type 0) (b : WordBook) : Type 0 where
  pub has : HasTablesWith names table command_opening Notes b
  pub words : WordsStand names (shown b.plain) b.tables b.waiting
  pub looked : IfSome b.look (IsLookTaken (written_by b.tables.writer))

stands_at_once : (names : List Mfa) (table : TableId) (command_opening : Opening) (b : WordBook) (plain : Book) (who : ℕ) (command : ScriptCmd) → IsWordBook names table command_opening b → next_of (shown b.plain) who ≡ Some command → needs_permission command ≡ false → IsBook plain
    → LeftAtOnce (shown b.plain) who command (shown plain) → StandsWith names table command_opening (AreOfSpawned plain.script plain.journal (written_by b.tables.writer).notes) (record b { plain = plain })
stands_at_once names table command_opening b plain who command k next free book left = record {
  has = has_joined names table command_opening b (record b { plain = plain }) _ _ k.has
      (subst (λ (x : Script). AreOfSpawned x plain.journal (written_by b.tables.writer).notes) (sym left.script)
      (subst (λ js. AreOfSpawned b.plain.script js (written_by b.tables.writer).notes) (sym left.journal.1.0) (notes_later b.plain.script b.plain.journal left.journal.0 (written_by b.tables.writer).notes k.has.notes.of)))
      book left.script left.journal refl refl;
  words = words_at_once names (shown b.plain) (shown plain) who command b.tables b.waiting k.has.book.permit.holds next free left k.words;
  looked = k.looked;
}

-- a book that is as it was is kept
pub kept_as_is : (b : WordBook) → IsKept b b
kept_as_is b = record { tables = refl; script = refl; book = λ names table command_opening known. known }

-- a book that shows the same is kept
pub kept_shown : (b : WordBook) (plain : Book) → IsBook plain → shown plain ≡ shown b.plain → IsKept b (record b { plain = plain })
kept_shown b plain book same = record {
  tables = refl;
  script = ap (λ (x : PermitState). x.script) same;
  book = λ names table command_opening known. record {
    has = record {
      book = book;
      texts = subst (λ (x : PermitState). All (IsNumbered names) x.script.modules) (sym same) known.has.texts;
      tables = known.has.tables;
      exports = known.has.exports;
      published = subst (λ (x : PermitState). ArePublished names x.script.modules x.journal (written_by b.tables.writer).published) (sym same) known.has.published;
      notes = subst (λ (x : PermitState). AreThoseSpawned x.script x.journal (written_by b.tables.writer).notes) (sym same) known.has.notes;
      answered = subst (λ (x : PermitState). AnswersAgree x.script.modules x.journal (written_by b.tables.writer).looks) (sym same) known.has.answered;
      awaited = known.has.awaited;
    };
    words = subst (λ (x : PermitState). WordsStand names x b.tables b.waiting) (sym same) known.words;
    looked = known.looked;
  };
}

-- each process that was spawned has its note, but for the one that is spawned now
others_noted : (p : PermitState) (known : IsPermit p) (who : ℕ) (command : ScriptCmd) (q : PermitState) (notes : List NoteNumber) (told : Option ℕ) → next_of p who ≡ Some command → LeftAtOnce p who command q → spawned_by p who (Some command) ≡ told
    → ((process : ℕ) → IsSpawnedIn p.script p.journal process → HasNoteIn notes process) → (process : ℕ) → IsSpawnedIn q.script q.journal process → HasNoteIn notes process ⊎ (told ≡ Some process)
others_noted p known who command q notes told next left is each process h = by (left.spawns process h)
  where
    by : IsSpawnedIn p.script p.journal process ⊎ SpawnsNext p.script p.journal who command process → HasNoteIn notes process ⊎ (told ≡ Some process)
    by (inl was) = inl (each process was)
    by (inr now) =
        inr (sym is ∙ spawned_number p who command now.spawns ∙ ap (λ n. Some (spawn_number p.script.loaders who n)) (sym (done_many p known who command next now.spawns)) ∙ ap Some (sym now.number))

-- what a command leaves that is made at once, before the note of its process is split
pub record MadeAtOnce (names : List Mfa) (table : TableId) (command_opening : Opening) (b : WordBook) (plain : Book) (change_made : Option ℕ) : Type 0 where
  pub script : plain.script ≡ b.plain.script
  pub book : StandsWith names table command_opening (AreOfSpawned plain.script plain.journal (written_by b.tables.writer).notes) (record b { plain = plain })
  -- each process that was spawned has its note, but for this one
  pub others : (process : ℕ) → IsSpawnedIn plain.script plain.journal process → HasNoteIn (written_by b.tables.writer).notes process ⊎ (change_made ≡ Some process)
  pub may : IfSome change_made (MaySplitNote (written_by b.tables.writer))
  pub spawned : IfSome change_made (IsSpawnedIn plain.script plain.journal)

pub made_at_once : (names : List Mfa) (table : TableId) (command_opening : Opening) (b : WordBook) (plain : Book) (who : ℕ) (a : Applied × Option ℕ) → IsWordBook names table command_opening b → IsSomeAnd (next_of (shown b.plain) who) (λ command. needs_permission command ≡ false) → IsBook plain
    → at_once_of (shown b.plain) who ≡ Some (record { state = shown plain; answer = a.0 }) → a.1 ≡ spawned_by (shown b.plain) who (next_of (shown b.plain) who) → MadeAtOnce names table command_opening b plain a.1
made_at_once names table command_opening b plain who a known next book made_is told =
    let d = some_and (next_of (shown b.plain) who) (λ command. needs_permission command ≡ false) next in
    let permit : IsPermit (shown b.plain) = known.has.book.permit in
    let left = left_at_once (shown b.plain) permit who (shown plain) a.0 d.0 d.1.0 d.1.1 made_is in
    let is : spawned_by (shown b.plain) who (Some d.0) ≡ a.1 = ap (spawned_by (shown b.plain) who) (sym d.1.0) ∙ sym told in
    record {
      script = left.script;
      book = stands_at_once names table command_opening b plain who d.0 known d.1.0 d.1.1 book left;
      others = others_noted (shown b.plain) permit who d.0 (shown plain) (written_by b.tables.writer).notes a.1 d.1.0 left is known.has.notes.each;
      may = subst (λ o. IfSome o (MaySplitNote (written_by b.tables.writer))) is
          (if_spawned (shown b.plain) who d.0 (MaySplitNote (written_by b.tables.writer)) (λ spawns. may_split (shown b.plain) permit who d.0 d.1.0 spawns (written_by b.tables.writer) known.has.notes.of));
      spawned = subst (λ o. IfSome o (IsSpawnedIn plain.script plain.journal)) is
          (if_spawned (shown b.plain) who d.0 (IsSpawnedIn plain.script plain.journal) (λ spawns. spawned_now (shown b.plain) permit who d.0 d.1.0 spawns (shown plain) left.script left.commands));
    }
