-- An area is released: the words stand for the server that has released it, and what the journal tells is kept.
use Rattle.std.proofs.Common.{◌≡◌, ℕ, suc, ◌+◌, List, [], ◌∷◌, ◌++◌, Option, Some, None, IfSome, if◌then◌else◌, All, ◌⊎◌, inl, inr, refl, sym, ap, subst, ◌∙◌, arith}
use Rattle.std.specs.Prelude.{IsTrue}
use Rattle.std.proofs.lemmas.Option.{same_Some}
use Rattle.atomic_table.specs.Seated.{TableId}
use Rattle.term_core.specs.declared.atom.Mfa.{Mfa}
use Rattle.mod_core.specs.declared.code.Module.{Module}
use Rattle.area_core.specs.Blocks.{Among}
use Rattle.marks.specs.declared.kept.DroppedArea.{DroppedArea}
use Rattle.marks.specs.declared.kept.LookKind.TheVariants.{Both}
use Rattle.marks.specs.declared.kept.WriterKept.{WriterKept}
use Rattle.shared_words.specs.declared.opening.Opening.{Opening}
use Rattle.shared_words.specs.declared.view.WriterView.{WriterView}
use Rattle.shared_words.specs.Drops.{drop_of}
use Rattle.shared_words.specs.Slots.{IsClear}
use Rattle.progress_words.specs.Tokens.{written_by}
use Rattle.change_laws.specs.Names.{IsNumbered}
use Rattle.change_laws.specs.Releases.{DecidedStays}
use Rattle.server_core.specs.declared.change.Change.{Change}
use Rattle.server_core.specs.declared.change.Change.TheVariants.{BringIn, Nothing, MakeOld, HoldWord, HoldArea, Forget, SetTrace, ClearTrace}
use Rattle.server_core.specs.declared.command.Applied.{Applied}
use Rattle.server_core.specs.declared.command.Cmd.TheVariants as cmds
use Rattle.server_core.specs.declared.command.Reply.{Reply}
use Rattle.server_core.specs.declared.command.Reply.TheVariants as replies
use Rattle.server_core.specs.CommandTable.{unchanged, with_all, with_loaded, with_released}
use Rattle.server_core.specs.Decided.{IsNoRelease, StayFit, change_made}
use Rattle.server_core.specs.ServerState.{ServerState, is_retired}
use Rattle.script_core.specs.declared.script.ScriptCmd.{ScriptCmd}
use Rattle.script_core.specs.declared.script.ScriptCmd.TheVariants.{Load, Delete, Put, Erase, Trace}
use Rattle.run_log.specs.declared.logs.Entry.{Entry}
use Rattle.run_log.specs.declared.logs.Who.TheVariants.{Runtime}
use Rattle.run_log.specs.Journal.{published_count}
use Rattle.staging.specs.declared.tables.Tables.{Tables}
use Rattle.staging.specs.declared.stage.Stage.TheVariants.{Untouched}
use Rattle.staging.specs.Released.{ClearAreReleasable, IsReleasable, KeepsRelease, SettlingAreReleasable, SettlingReleased, StagesReleased, StandReleased}
use Rattle.staging.specs.Stages.{AreAtRest, IsCodeChange, IsKeyChange, IsStaged, StageStands}
use Rattle.staging.specs.Traced.{IsTraceChange}
use Rattle.staging.specs.Whose.{AreTablesOf}
use Rattle.write_permit.specs.declared.holder.Holder.{Holder}
use Rattle.write_permit.specs.declared.holder.Holder.TheVariants.{Free, Held, Purging, Tracing}
use Rattle.write_permit.specs.Book.{IsBook, shown}
use Rattle.write_permit.specs.Permit.{PermitState, joined, made_of, command_opening}
use Rattle.write_permit.proofs.BookKeeps.{was_made}
use Rattle.run_law.specs.Answers.{HasDrop}
use Rattle.run_law.specs.Published.{ArePublished}
use Rattle.word_permit.specs.declared.book.AreaNeed.{AreaNeed}
use Rattle.word_permit.specs.declared.book.Decision.{Decision}
use Rattle.word_permit.specs.declared.book.Waiting.{Waiting}
use Rattle.word_permit.specs.declared.book.WordBook.{WordBook}
use Rattle.word_permit.specs.Books.{IsWordBook}
use Rattle.word_permit.specs.Looks.{IsLookTaken}
use Rattle.word_permit.specs.Needs.{IsAwaited}
use Rattle.word_permit.specs.Answers.{AnswersAgree, IsDropAt}
use Rattle.word_permit.specs.Notes.{AreThoseSpawned}
use Rattle.word_permit.specs.Waiting.{GoesOverWords, IsDecided, RestsBy, WordsStand}
use Rattle.word_permit.proofs.Answered.{GrowsAnswers, agree_joined, drop_added}
use Rattle.word_permit.proofs.Awaiting.{need_still}
use Rattle.word_permit.proofs.Growing.{published_same}
use Rattle.word_permit.proofs.Looked.{if_still}
use Rattle.word_permit.proofs.SpawnedBefore.{those_later}

-- ---- the server

-- what the runtime's release leaves
pub record HasFreed (p : PermitState) (serial : ℕ) (q : PermitState) : Type 0 where
  pub state : q ≡ joined p Runtime (cmds.Release serial) (unchanged (with_released p.server serial) replies.Ok)

pub has_freed : (p q : PermitState) (serial : ℕ) (answer : Applied) → made_of p Runtime (cmds.Release serial) ≡ Some (record { state = q; answer = answer }) → IsTrue (is_retired p.server serial) → HasFreed p serial q
has_freed p q serial answer change_made waits =
    let w = was_made p Runtime (cmds.Release serial) q answer change_made in
    let is : unchanged (with_released p.server serial) replies.Ok ≡ w.outcome = same_Some _ w.outcome (sym (ap (λ b. if b then Some (unchanged (with_released p.server serial) replies.Ok) else None) waits) ∙ w.applied) in
    record { state = w.state ∙ ap (joined p Runtime (cmds.Release serial)) (sym is) }

-- the area may be released, whatever waits, where a look was clear of it
pub words_releasable : (names : List Mfa) (p : PermitState) (t : Tables) (o : Option Waiting) (serial : ℕ) → ClearAreReleasable names → SettlingAreReleasable names → WordsStand names p t o → IsTrue (is_retired p.server serial) → IsClear (written_by t.writer) Both serial
    → IsReleasable serial t.pools (written_by t.writer)
words_releasable names p t None serial law also h waits clear = by p.holder h
  where
    at_rest : AreAtRest names p.server t → IsReleasable serial t.pools (written_by t.writer)
    at_rest rest = law p.server (Nothing replies.Ok) Untouched t serial rest waits clear

    by : (holder : Holder) → RestsBy names holder p.server t → IsReleasable serial t.pools (written_by t.writer)
    by Free rest = at_rest rest
    by (Held n) rest = at_rest rest
    by (Purging n name) rest = at_rest rest
    by (Tracing n generation) rest = also p.server t serial rest.settling waits clear
words_releasable names p t (Some w) serial law also h waits clear = law p.server w.decision.change w.stage t serial h.stands waits clear

-- ---- a command that waits

staged_no_release : (change : Change) → IsStaged change → IsNoRelease change
staged_no_release change (inl code) = code_no change code
  where
    code_no : (change : Change) → IsCodeChange change → IsNoRelease change
    code_no (BringIn generation modules areas versions) h = tt
    code_no (MakeOld generation name) h = tt
    code_no change h = absurd h
staged_no_release change (inr key) = key_no change key
  where
    key_no : (change : Change) → IsKeyChange change → IsNoRelease change
    key_no (HoldWord generation key term keys retired) h = tt
    key_no (HoldArea generation key term stored areas keys retired) h = tt
    key_no (Forget generation key retired) h = tt
    key_no change h = absurd h

trace_no_release : (change : Change) → IsTraceChange change → IsNoRelease change
trace_no_release (SetTrace generation at traced) h = tt
trace_no_release (ClearTrace generation at) h = tt
trace_no_release change h = absurd h

waits_no_release : (change : Change) → IsStaged change ⊎ IsTraceChange change → IsNoRelease change
waits_no_release change (inl staged) = staged_no_release change staged
waits_no_release change (inr trace) = trace_no_release change trace

-- modules come in within one generation
loads_stay : (s : ServerState) (modules : List Module) → (with_all s modules).generation ≡ s.generation
loads_stay s [] = refl
loads_stay s (m ∷ modules) = loads_stay (with_loaded s m) modules

abbrev answered_at : Reply → ℕ → Applied
answered_at reply generation = record { reply = reply; published = Some (generation + 1) }

-- what it answers stays
answer_stays : (s : ServerState) (serial : ℕ) (change : Change) → IsStaged change → (change_made (with_released s serial) change).answer ≡ (change_made s change).answer
answer_stays s serial change (inl code) = by_code change code
  where
    by_code : (change : Change) → IsCodeChange change → (change_made (with_released s serial) change).answer ≡ (change_made s change).answer
    by_code (BringIn generation modules areas versions) h = ap (answered_at replies.Ok) (loads_stay (with_released s serial) modules.items ∙ sym (loads_stay s modules.items))
    by_code (MakeOld generation name) h = refl
    by_code change h = absurd h
answer_stays s serial change (inr key) = by_key change key
  where
    by_key : (change : Change) → IsKeyChange change → (change_made (with_released s serial) change).answer ≡ (change_made s change).answer
    by_key (HoldWord generation key term keys retired) h = refl
    by_key (HoldArea generation key term stored areas keys retired) h = refl
    by_key (Forget generation key retired) h = refl
    by_key change h = absurd h

trace_stays : (s : ServerState) (serial : ℕ) (change : Change) → IsTraceChange change → (change_made (with_released s serial) change).answer ≡ (change_made s change).answer
trace_stays s serial (SetTrace generation at traced) h = refl
trace_stays s serial (ClearTrace generation at) h = refl
trace_stays s serial change h = absurd h

waits_stay : (s : ServerState) (serial : ℕ) (change : Change) → IsStaged change ⊎ IsTraceChange change → (change_made (with_released s serial) change).answer ≡ (change_made s change).answer
waits_stay s serial change (inl staged) = answer_stays s serial change staged
waits_stay s serial change (inr trace) = trace_stays s serial change trace

opens_same : (s t : ServerState) (command : ScriptCmd) → GoesOverWords command → command_opening s [] command ≡ command_opening t [] command
opens_same s t (Load refs) h = refl
opens_same s t (Delete name) h = refl
opens_same s t (Put key term) h = refl
opens_same s t (Erase key) h = refl
opens_same s t (Trace target on) h = refl
opens_same s t command h = absurd h

decided_freed : (p q : PermitState) (serial who : ℕ) (d : Decision) → DecidedStays → StayFit → HasFreed p serial q → IsStaged d.change ⊎ IsTraceChange d.change → IsDecided p who d → IsDecided q who d
decided_freed p q serial who d decided fit freed staged k =
    subst (λ (x : PermitState). IsDecided x who d) (sym freed.state)
    (record {
      command = k.command;
      next = k.next;
      goes = k.goes;
      cmd_is = k.cmd_is ∙ opens_same p.server (with_released p.server serial) k.command k.goes;
      fits = fit p.server serial d.change (waits_no_release d.change staged) k.fits;
      given = decided p.script.modules p.server serial d.cmd d.change (waits_no_release d.change staged) k.given;
      answer = waits_stay p.server serial d.change staged ∙ k.answer;
    })

server_freed : (p q : PermitState) (serial : ℕ) → HasFreed p serial q → with_released p.server serial ≡ q.server
server_freed p q serial freed = ap (λ (x : PermitState). x.server) (sym freed.state)

words_freed : (names : List Mfa) (p q : PermitState) (serial : ℕ) (t u : Tables) (o : Option Waiting) → DecidedStays → StayFit → HasFreed p serial q → StandReleased names serial t u → StagesReleased names serial t u → SettlingReleased names serial t u → WordsStand names p t o → WordsStand names q u o
words_freed names p q serial t u None decided fit freed stands stages settles h =
    subst (λ k. RestsBy names k q.server u) (sym (ap (λ (x : PermitState). x.holder) freed.state)) (subst (λ s. RestsBy names p.holder s u) (server_freed p q serial freed) (by p.holder h))
  where
    by : (holder : Holder) → RestsBy names holder p.server t → RestsBy names holder (with_released p.server serial) u
    by Free rest = stands p.server rest
    by (Held n) rest = stands p.server rest
    by (Purging n name) rest = stands p.server rest
    by (Tracing n generation) rest = record { settling = settles p.server rest.settling; room = rest.room }
words_freed names p q serial t u (Some w) decided fit freed stands stages settles h = record {
  who = h.who;
  holder = ap (λ (x : PermitState). x.holder) freed.state ∙ h.holder;
  decided = decided_freed p q serial h.who w.decision decided fit freed h.staged h.decided;
  staged = h.staged;
  stands = subst (λ s. StageStands names s w.decision.change u w.stage) (server_freed p q serial freed) (stages p.server w.decision.change w.stage h.stands);
}

-- ---- the book

module _ (names : List Mfa) (table : TableId) (command_opening : Opening) (b c : WordBook) (serial : ℕ) (known : IsWordBook names table command_opening b) (book : IsBook c.plain) (freed : HasFreed (shown b.plain) serial (shown c.plain))
    (tables : AreTablesOf table command_opening c.tables) (exports : c.tables.exports ≡ b.tables.exports) (keeps : KeepsRelease serial (written_by b.tables.writer) (written_by c.tables.writer)) where
  abbrev before : WriterView
  before = written_by b.tables.writer

  abbrev after : WriterView
  after = written_by c.tables.writer

  abbrev entry : Entry
  entry = record { who = Runtime; cmd = cmds.Release serial; reply = replies.Ok; published = None }

  dropped : HasDrop after.looks Both serial (published_count b.plain.journal)
  dropped = record {
    drop = drop_of before Both serial;
    among = subst (λ (k : WriterKept). Among k.dropped (drop_of before Both serial)) (sym keeps.looks) (0, refl);
    kind_is = refl;
    serial_is = refl;
    published_is = omega (arith, known.has.published.many);
  }

  answers_grow : GrowsAnswers before.looks after.looks
  answers_grow = record {
    dropped = λ d had. subst (λ (k : WriterKept). Among k.dropped d) (sym keeps.looks) (suc had.0, had.1);
    lingering = λ l had. subst (λ (k : WriterKept). Among k.lingering l) (sym keeps.looks) had;
  }

  -- what is kept besides is this release
  drop_is : IsDropAt Both serial (published_count b.plain.journal) (drop_of before Both serial)
  drop_is = record { kind_is = refl; serial_is = refl; published_is = omega (arith, known.has.published.many) }

  abbrev IsThis : DroppedArea → Type 0
  IsThis d = IsDropAt Both serial (published_count b.plain.journal) d

  answers_joined : AnswersAgree b.plain.script.modules (b.plain.journal ++ entry ∷ []) after.looks
  answers_joined = agree_joined b.plain.script.modules b.plain.journal entry before.looks after.looks known.has.answered answers_grow (drop_added before.looks after.looks (drop_of before Both serial) IsThis keeps.looks drop_is) dropped

  pub freed_book : c.need ≡ b.need → c.look ≡ b.look → c.waiting ≡ b.waiting → DecidedStays → StayFit → StandReleased names serial b.tables c.tables → StagesReleased names serial b.tables c.tables → SettlingReleased names serial b.tables c.tables → IsWordBook names table command_opening c
  freed_book need look waiting decided fit stands stages settles = record {
    has = record {
      book = book;
      texts = subst (λ (x : PermitState). All (IsNumbered names) x.script.modules) (sym freed.state) known.has.texts;
      tables = tables;
      exports = exports ∙ known.has.exports;
      published = subst (λ (x : PermitState). ArePublished names x.script.modules x.journal after.published) (sym freed.state)
          (subst (ArePublished names b.plain.script.modules (b.plain.journal ++ entry ∷ [])) (sym keeps.published)
          (published_same names b.plain.script.modules b.plain.journal entry known.has.book.permit.log.replays before.published known.has.published refl));
      notes = subst (λ (x : PermitState). AreThoseSpawned x.script x.journal after.notes) (sym freed.state)
          (subst (AreThoseSpawned b.plain.script (b.plain.journal ++ entry ∷ [])) (sym keeps.notes) (those_later b.plain.script b.plain.journal entry before.notes tt known.has.notes));
      answered = subst (λ (x : PermitState). AnswersAgree x.script.modules x.journal after.looks) (sym freed.state) answers_joined;
      awaited = subst (λ (o : Option AreaNeed). IfSome o (IsAwaited after)) (sym need) (need_still before after b.need keeps.waits keeps.published known.has.awaited);
    };
    words = subst (WordsStand names (shown c.plain) c.tables) (sym waiting) (words_freed names (shown b.plain) (shown c.plain) serial b.tables c.tables b.waiting decided fit freed stands stages settles known.words);
    looked = subst (λ (o : Option ℕ). IfSome o (IsLookTaken after)) (sym look) (if_still before after b.look keeps.pairs keeps.published known.looked);
  }
