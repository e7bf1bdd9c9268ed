-- A command of the server that publishes is made: what the book keeps then, and how far its loader is.
use Rattle.std.proofs.Common.{◌≡◌, ℕ, suc, ◌≤◌, ◌⊎◌, true, List, [], ◌∷◌, ◌++◌, slice_get, Option, Some, None, is_some, IfSome, IsSomeAnd, IfOk, Result, Ok, Err, All, option_map, option_and_then, if◌then◌else◌, refl, sym, ap, subst, ◌∙◌, arith}
use Rattle.std.proofs.lemmas.Bool.{false≢true}
use Rattle.std.proofs.lemmas.Option.{none-some, same_Some}
use Rattle.atomic_table.specs.Seated.{TableId}
use Rattle.term_core.specs.declared.atom.AtomId.{AtomId}
use Rattle.term_core.specs.declared.atom.Mfa.{Mfa}
use Rattle.term_core.specs.declared.no_memory.NoMemory.{NoMemory}
use Rattle.mod_core.specs.declared.code.Module.{Module}
use Rattle.area_core.specs.declared.table.Published.{Published}
use Rattle.area_core.specs.Blocks.{Among}
use Rattle.marks.specs.declared.kept.DroppedArea.{DroppedArea}
use Rattle.marks.specs.declared.kept.LookKind.TheVariants.{Frame}
use Rattle.marks.specs.declared.kept.WriterKept.{WriterKept}
use Rattle.marks.specs.Steps.{with_drop_kept}
use Rattle.shared_words.specs.declared.opening.Opening.{Opening}
use Rattle.shared_words.specs.declared.view.WriterView.{WriterView}
use Rattle.shared_words.specs.Drops.{AgreesWithLooks, drop_of}
use Rattle.shared_words.specs.Slots.{IsClear}
use Rattle.shared_words.specs.Views.{newest_number}
use Rattle.progress_words.specs.Tokens.{written_by}
use Rattle.change_laws.specs.Names.{IsNumbered}
use Rattle.server_core.specs.declared.change.Change.{Change}
use Rattle.server_core.specs.declared.change.Change.TheVariants.{Condemn, DropOld}
use Rattle.server_core.specs.declared.command.Applied.{Applied}
use Rattle.server_core.specs.declared.command.Cmd.{Cmd}
use Rattle.server_core.specs.declared.command.Cmd.TheVariants as cmds
use Rattle.server_core.specs.CommandTable.{Outcome, apply_of}
use Rattle.server_core.specs.Decided.{Fits, change_made}
use Rattle.server_core.specs.Generations.{generation_of}
use Rattle.server_core.specs.ServerState.{IsSound, ServerState, empty_state, old_of}
use Rattle.script_core.specs.declared.script.Script.{Script}
use Rattle.script_core.specs.declared.script.ScriptCmd.{ScriptCmd}
use Rattle.script_core.specs.declared.script.ScriptCmd.TheVariants.{Purge}
use Rattle.run_log.specs.declared.logs.Entry.{Entry}
use Rattle.run_log.specs.declared.logs.Who.TheVariants.{Loader}
use Rattle.run_log.specs.Journal.{newest_state, published_count, publishes}
use Rattle.module_table.specs.Modules.{Modules}
use Rattle.staging.specs.declared.tables.Tables.{Tables}
use Rattle.staging.specs.Renewed.{IsClearOf, IsRenewal, KeepsDrop}
use Rattle.staging.specs.Whose.{AreTablesOf, KeepsWaits}
use Rattle.run_law.specs.Answers.{IsAnswerKept}
use Rattle.run_law.specs.Published.{ArePublished}
use Rattle.write_permit.specs.declared.book.Book.{Book}
use Rattle.write_permit.specs.declared.commands.OldCode.{OldCode}
use Rattle.write_permit.specs.declared.holder.Holder.TheVariants.{Free, Held, Purging}
use Rattle.write_permit.specs.declared.loader_run.LoaderRun.{LoaderRun}
use Rattle.write_permit.specs.Agreement.{AgreesWithServer, CanFollowNewest, new_modules, newest_followed, newest_of}
use Rattle.write_permit.specs.Book.{IsBook, shown}
use Rattle.write_permit.specs.Permit.{PermitState, PermitStep, counted_in, done_of, command_ended, entered_by, freed, holder_of, joined, loader_after, made_of, next_of}
use Rattle.write_permit.proofs.Agreement.{NewestFollows, newest_follows}
use Rattle.write_permit.proofs.EndBooks.{DoomMade, EndMade, doom_left, end_made}
use Rattle.write_permit.proofs.Entered.{counted_grows}
use Rattle.write_permit.proofs.Logs.{server_joined}
use Rattle.word_permit.specs.declared.book.AreaNeed.{AreaNeed}
use Rattle.word_permit.specs.declared.book.Decision.{Decision}
use Rattle.word_permit.specs.declared.book.WordBook.{WordBook}
use Rattle.word_permit.specs.Books.{HasItsTables, IsWordBook, SpawnsNone}
use Rattle.word_permit.specs.Needs.{IsAwaited}
use Rattle.word_permit.specs.Answers.{AnswersAgree, TellsDrop}
use Rattle.word_permit.specs.Notes.{AreThoseSpawned}
use Rattle.word_permit.specs.Purged.{DoomsCode, DropsCode, EndsNext, HasGrown, IsCodeDropped, IsDoomMade, IsMadeBy, IsToldBy, IsToldByDrop}
use Rattle.word_permit.specs.Settled.{IsFinished}
use Rattle.word_permit.specs.Waiting.{RestsBy, WordsStand}
use Rattle.word_permit.proofs.Answered.{GrowsAnswers, agree_joined, drop_added, none_added}
use Rattle.word_permit.proofs.Awaiting.{need_on}
use Rattle.word_permit.proofs.Calls.{no_look}
use Rattle.word_permit.proofs.Ended.{entry_for, told_entry}
use Rattle.word_permit.proofs.Growing.{published_more}
use Rattle.word_permit.proofs.SpawnedBefore.{those_later}

-- ---- the change that is decided

pub drops_renew : (change : Change) (serial : ℕ) → DropsCode change serial → IsRenewal change
drops_renew (DropOld generation name serial says retired) dropped h = tt
drops_renew change dropped h = absurd h

pub drops_clear : (change : Change) (serial : ℕ) (w : WriterView) → DropsCode change serial → IsClear w Frame serial → IsClearOf change w
drops_clear (DropOld generation name serial says retired) dropped w h clear = subst (IsClear w Frame) (sym h) clear
drops_clear change dropped w h clear = absurd h

pub drops_publish : (s : ServerState) (change : Change) (serial : ℕ) → DropsCode change serial → is_some (change_made s change).answer.published ≡ true
drops_publish s (DropOld generation name serial says retired) dropped h = refl
drops_publish s change dropped h = absurd h

-- the drop is kept, and what the command tells by it
pub record KeepsTold (s : ServerState) (old new : WriterView) (cmd : Cmd) : Type 0 where
  pub more : GrowsAnswers old.looks new.looks
  pub added : (x : DroppedArea) → Among new.looks.dropped x → Among old.looks.dropped x ⊎ TellsDrop s (newest_number old.published) x cmd
  pub told : IsToldBy s old new.looks cmd

pub drops_kept : (s : ServerState) (change : Change) (serial : ℕ) (old new : WriterView) (cmd : Cmd) → DropsCode change serial → IsToldByDrop s old serial cmd → KeepsDrop change old new → KeepsTold s old new cmd
drops_kept s (DropOld generation name serial says retired) dropped old new cmd h told keeps =
    let looks : new.looks ≡ with_drop_kept old.looks (drop_of old Frame dropped) = keeps.0 ∙ ap (λ n. with_drop_kept old.looks (drop_of old Frame n)) h in
    let agree : AgreesWithLooks old.looks (drop_of old Frame dropped) = subst (λ n. AgreesWithLooks old.looks (drop_of old Frame n)) h keeps.1 in
    record {
      more = record {
        dropped = λ d had. subst (λ (k : WriterKept). Among k.dropped d) (sym looks) (suc had.0, had.1);
        lingering = λ l had. subst (λ (k : WriterKept). Among k.lingering l) (sym looks) had;
      };
      added = drop_added old.looks new.looks (drop_of old Frame dropped) (λ x. TellsDrop s (newest_number old.published) x cmd) looks told.1;
      told = told.0 new.looks looks agree;
    }
drops_kept s change dropped old new cmd h told keeps = absurd h

-- of looks the drop is kept besides
pub drops_looks : (change : Change) (serial : ℕ) (old new : WriterView) → DropsCode change serial → KeepsDrop change old new → IsCodeDropped serial old new
drops_looks (DropOld generation name serial says retired) dropped old new h keeps = keeps.0 ∙ ap (λ n. with_drop_kept old.looks (drop_of old Frame n)) h
drops_looks change dropped old new h keeps = absurd h

pub dooms_renew : (change : Change) → DoomsCode change → IsRenewal change
dooms_renew (Condemn generation serial) h = tt
dooms_renew change h = absurd h

pub dooms_clear : (change : Change) (w : WriterView) → DoomsCode change → IsClearOf change w
dooms_clear (Condemn generation serial) w h = tt
dooms_clear change w h = absurd h

pub dooms_publish : (s : ServerState) (change : Change) → DoomsCode change → is_some (change_made s change).answer.published ≡ true
dooms_publish s (Condemn generation serial) h = refl
dooms_publish s change h = absurd h

pub dooms_kept : (s : ServerState) (change : Change) (old new : WriterView) (cmd : Cmd) → DoomsCode change → IsToldBy s old old.looks cmd → KeepsDrop change old new → KeepsTold s old new cmd
dooms_kept s (Condemn generation serial) old new cmd h told keeps = record {
  more = record {
    dropped = λ d had. subst (λ (k : WriterKept). Among k.dropped d) (sym keeps) had;
    lingering = λ l had. subst (λ (k : WriterKept). Among k.lingering l) (sym keeps) had;
  };
  added = none_added old.looks new.looks (λ x. TellsDrop s (newest_number old.published) x cmd) keeps;
  told = subst (λ (k : WriterKept). IsToldBy s old k cmd) (sym keeps) told;
}
dooms_kept s change old new cmd h told keeps = absurd h

-- ---- the entry of a decided command

abbrev made_to : PermitState → Applied → Option PermitStep
made_to q answer = Some (record { state = q; answer = answer })

module _ (p : Book) (book : IsBook p) (who : ℕ) (d : Decision) (known : IsMadeBy (shown p) d) where
  -- the state behind it
  pub state_behind : (change_made p.server d.change).state ≡ newest_state p.script.modules empty_state (p.journal ++ entry_for who d ∷ [])
  state_behind =
      server_joined p.script p.server p.journal (entered_by p.holder p.loaders.items) book.permit.log (Loader who) d.cmd (change_made p.server d.change) known.given
      ∙ ap (λ a. newest_state p.script.modules empty_state (p.journal ++ told_entry who d a ∷ [])) known.answer

  module _ (table : Modules) (same : table.instances ≡ p.modules.instances) (room : new_modules d.cmd ≤ table.room) (journal : List Entry) (more : journal ≡ p.journal ++ entry_for who d ∷ []) where
    follows_by : (s : ServerState) (answer : Applied) → change_made p.server d.change ≡ record { state = s; answer = answer } → NewestFollows table s journal
    follows_by s answer is =
        newest_follows p.script.modules table p.server s answer d.cmd p.journal journal (entry_for who d)
        (subst (λ ms. AgreesWithServer ms p.server) (sym same) book.agrees)
        (known.given ∙ ap Some is)
        room
        refl
        (ap (λ (a : Applied). a.published) (sym known.answer ∙ ap (λ (o : Outcome). o.answer) is))
        more

    pub may_follow : CanFollowNewest table (change_made p.server d.change).state (newest_of journal)
    may_follow = let f = follows_by (change_made p.server d.change).state (change_made p.server d.change).answer refl in f.can

    -- the book once the change is made, and the loader is as far as before
    module _ (server : ServerState) (applied : Applied) (made_is : change_made p.server d.change ≡ record { state = server; answer = applied }) (modules : Modules) (follows : modules.instances ≡ newest_followed table.instances server (newest_of journal)) where
      abbrev pub between : Book
      between = record p { server = server; journal = journal; modules = modules }

      pub made_between : made_of (shown p) (Loader who) d.cmd ≡ Some (record { state = shown between; answer = applied })
      made_between =
          ap (option_map {U = PermitStep} (λ o. record { state = joined (shown p) (Loader who) d.cmd o; answer = o.answer })) (known.given ∙ ap Some made_is)
          ∙ ap (λ (js : List Entry). made_to (record (shown p) { server = server; journal = js }) applied)
          (ap (λ a. p.journal ++ told_entry who d a ∷ []) (sym (ap (λ (o : Outcome). o.answer) made_is) ∙ known.answer) ∙ sym more)

      pub agrees_between : AgreesWithServer modules.instances server
      agrees_between = let f = follows_by server applied made_is in subst (λ ms. AgreesWithServer ms server) (sym follows) f.agrees

-- what publishes makes no process
publishes_spawnless : (texts : List Module) (s : ServerState) (cmd : Cmd) (o : Outcome) → apply_of texts s cmd ≡ Some o → is_some o.answer.published ≡ true → SpawnsNone cmd
publishes_spawnless texts s (cmds.Spawn target args) o given publishes = false≢true (ap (λ (x : Outcome). is_some x.answer.published) (same_Some _ o given) ∙ publishes)
publishes_spawnless texts s cmd o given publishes = tt

-- ---- the book once it is published

module _ (names : List Mfa) (table : TableId) (opening : Opening) (b : WordBook) (had : HasItsTables names table opening b) (who : ℕ) (d : Decision) (known : IsMadeBy (shown b.plain) d) (publishing : is_some (change_made b.plain.server d.change).answer.published ≡ true)
    (t : Tables) (of_table : AreTablesOf table opening t) (exports : t.exports ≡ names) (notes : (written_by t.writer).notes ≡ (written_by b.tables.writer).notes) (waits : KeepsWaits (written_by b.tables.writer) (written_by t.writer))
    (keeps : KeepsTold b.plain.server (written_by b.tables.writer) (written_by t.writer) d.cmd) (next : Published) (shows : next.state ≡ generation_of names (change_made b.plain.server d.change).state)
    (published : (written_by t.writer).published ≡ (written_by b.tables.writer).published ++ next ∷ []) where
  abbrev texts : List Module
  texts = b.plain.script.modules

  abbrev longer : List Entry
  longer = b.plain.journal ++ entry_for who d ∷ []

  counts_one : publishes (entry_for who d) ≡ 1
  counts_one = ap (λ yes. if yes then 1 else 0) (ap (λ (a : Applied). is_some a.published) (sym known.answer) ∙ publishing)

  published_longer : ArePublished names texts longer (written_by t.writer).published
  published_longer =
      subst (ArePublished names texts longer) (sym published)
      (published_more names texts b.plain.journal (entry_for who d) had.book.permit.log.replays (written_by b.tables.writer).published next had.published counts_one
      (shows ∙ ap (generation_of names) (state_behind b.plain had.book who d known)))

  newest_counts : newest_number (written_by b.tables.writer).published ≡ published_count b.plain.journal
  newest_counts = omega (arith, had.published.many)

  told_now : IsAnswerKept (newest_state texts empty_state b.plain.journal) (published_count b.plain.journal) (written_by t.writer).looks d.cmd
  told_now =
      subst (λ s. IsAnswerKept s (published_count b.plain.journal) (written_by t.writer).looks d.cmd) had.book.permit.log.server_is
      (subst (λ n. IsAnswerKept b.plain.server n (written_by t.writer).looks d.cmd) newest_counts keeps.told)

  added_now : (x : DroppedArea) → Among (written_by t.writer).looks.dropped x → Among (written_by b.tables.writer).looks.dropped x ⊎ TellsDrop (newest_state texts empty_state b.plain.journal) (published_count b.plain.journal) x d.cmd
  added_now x among =
      subst (λ s. Among (written_by b.tables.writer).looks.dropped x ⊎ TellsDrop s (published_count b.plain.journal) x d.cmd) had.book.permit.log.server_is
      (subst (λ n. Among (written_by b.tables.writer).looks.dropped x ⊎ TellsDrop b.plain.server n x d.cmd) newest_counts (keeps.added x among))

  answers_longer : AnswersAgree texts longer (written_by t.writer).looks
  answers_longer = agree_joined texts b.plain.journal (entry_for who d) (written_by b.tables.writer).looks (written_by t.writer).looks had.answered keeps.more added_now told_now

  notes_longer : AreThoseSpawned b.plain.script longer (written_by t.writer).notes
  notes_longer = subst (AreThoseSpawned b.plain.script longer) (sym notes) (those_later b.plain.script b.plain.journal (entry_for who d) (written_by b.tables.writer).notes (publishes_spawnless texts b.plain.server d.cmd (change_made b.plain.server d.change) known.given publishing) had.notes)

  pub published_book : (c : WordBook) → IsBook c.plain → c.plain.script ≡ b.plain.script → c.plain.journal ≡ longer → c.plain.server ≡ (change_made b.plain.server d.change).state → c.tables ≡ t → c.need ≡ b.need → c.look ≡ None → c.waiting ≡ None
      → RestsBy names c.plain.holder (change_made b.plain.server d.change).state t → IsWordBook names table opening c
  published_book c book script journal server tables_are need look waiting rests = record {
    has = record {
      book = book;
      texts = subst (λ (x : Script). All (IsNumbered names) x.modules) (sym script) had.texts;
      tables = subst (AreTablesOf table opening) (sym tables_are) of_table;
      exports = ap (λ (x : Tables). x.exports) tables_are ∙ exports;
      published = subst (λ (x : Tables). ArePublished names c.plain.script.modules c.plain.journal (written_by x.writer).published) (sym tables_are)
          (subst (λ js. ArePublished names c.plain.script.modules js (written_by t.writer).published) (sym journal)
          (subst (λ (x : Script). ArePublished names x.modules longer (written_by t.writer).published) (sym script) published_longer));
      notes = subst (λ (x : Tables). AreThoseSpawned c.plain.script c.plain.journal (written_by x.writer).notes) (sym tables_are)
          (subst (λ js. AreThoseSpawned c.plain.script js (written_by t.writer).notes) (sym journal)
          (subst (λ (x : Script). AreThoseSpawned x longer (written_by t.writer).notes) (sym script) notes_longer));
      answered = subst (λ (x : Tables). AnswersAgree c.plain.script.modules c.plain.journal (written_by x.writer).looks) (sym tables_are)
          (subst (λ js. AnswersAgree c.plain.script.modules js (written_by t.writer).looks) (sym journal)
          (subst (λ (x : Script). AnswersAgree x.modules longer (written_by t.writer).looks) (sym script) answers_longer));
      awaited = subst (λ (o : Option AreaNeed). IfSome o (IsAwaited (written_by c.tables.writer))) (sym need)
          (subst (λ (x : Tables). IfSome b.need (IsAwaited (written_by x.writer))) (sym tables_are)
          (need_on (written_by b.tables.writer) (written_by t.writer) (next ∷ []) b.need waits published had.awaited));
    };
    words = subst (WordsStand names (shown c.plain) c.tables) (sym waiting) (subst (λ s. RestsBy names c.plain.holder s c.tables) (sym server) (subst (RestsBy names c.plain.holder (change_made b.plain.server d.change).state) (sym tables_are) rests));
    looked = no_look c look;
  }

-- ---- how far the loader is

-- what the end of a command left
pub record WasEnded (p : PermitState) (who : ℕ) (cmd : Cmd) (q : PermitState) : Type 0 where
  pub command : ScriptCmd
  pub next : next_of p who ≡ Some command
  pub outcome : Outcome
  pub applied : apply_of p.script.modules p.server cmd ≡ Some outcome
  pub state : q ≡ record (joined p (Loader who) cmd outcome) { loaders = counted_in p.loaders who command; holder = Free }

abbrev pub advanced_as : PermitState → Applied → PermitStep
advanced_as q answer = record { state = q; answer = answer }

pub was_ended : (p q : PermitState) (who : ℕ) (cmd : Cmd) (answer : Applied) → command_ended p who cmd ≡ Some (record { state = q; answer = answer }) → WasEnded p who cmd q
was_ended p q who cmd answer h = by (next_of p who) (apply_of p.script.modules p.server cmd) refl refl h
  where
    by : (n : Option ScriptCmd) (o : Option Outcome) → next_of p who ≡ n → apply_of p.script.modules p.server cmd ≡ o
        → option_and_then {U = PermitStep} (λ command. option_map {U = PermitStep} freed (option_map {U = PermitStep} (λ s. record { state = record (s.state) { loaders = counted_in p.loaders who command }; answer = s.answer }) (option_map {U = PermitStep} (λ x. record { state = joined p (Loader who) cmd x; answer = x.answer }) o))) n
        ≡ Some (record { state = q; answer = answer }) → WasEnded p who cmd q
    by None o e f g = absurd (none-some _ g)
    by (Some command) None e f g = absurd (none-some _ g)
    by (Some command) (Some x) e f g =
        let s = same_Some (advanced_as (record (joined p (Loader who) cmd x) { loaders = counted_in p.loaders who command; holder = Free }) x.answer) (advanced_as q answer) g in
        record { command = command; next = e; outcome = x; applied = f; state = sym (ap (λ (a : PermitStep). a.state) s) }

-- entries join, and no loader has fewer commands done
pub ended_grown : (b c : Book) (who : ℕ) (cmd : Cmd) (answer : Applied) → command_ended (shown b) who cmd ≡ Some (record { state = shown c; answer = answer }) → HasGrown b c
ended_grown b c who cmd answer step =
    let e = was_ended (shown b) (shown c) who cmd answer step in
    record {
      script = ap (λ (x : PermitState). x.script) e.state;
      more = record { who = Loader who; cmd = cmd; reply = e.outcome.answer.reply; published = e.outcome.answer.published } ∷ [];
      journal = ap (λ (x : PermitState). x.journal) e.state;
      done = λ loader. subst (λ ls. done_of b.loaders.items loader ≤ done_of ls loader) (sym (ap (λ (x : PermitState). x.loaders) e.state)) (counted_grows b.loaders.items who e.command loader);
    }

-- ---- what is decided

-- put together
pub decided_made : (p : PermitState) (cmd : Cmd) (r : Result Decision NoMemory) → IfOk r (λ d. Fits p.server d.change) → IfOk r (λ d. apply_of p.script.modules p.server cmd ≡ Some (change_made p.server d.change)) → IfOk r (λ d. (change_made p.server d.change).answer ≡ d.applied)
    → IfOk r (λ d. d.cmd ≡ cmd) → IfOk r (IsMadeBy p)
decided_made p cmd (Ok d) fits given answer same = record { fits = fits; given = ap (apply_of p.script.modules p.server) same ∙ given; answer = answer }
decided_made p cmd (Err fault) fits given answer same = tt

-- a doom tells nothing of processes
pub doom_tells : (s : ServerState) (w : WriterView) (kept : WriterKept) (cmd : Cmd) (name : AtomId) → cmd ≡ cmds.Doom name → IsToldBy s w kept cmd
doom_tells s w kept cmd name is = subst (IsToldBy s w kept) (sym is) tt

-- the purge waits once the change is made
pub doom_finished : (who : ℕ) (name : AtomId) (change : Change) (old : Book) (server : ServerState) (modules : Modules) (applied : Applied) → change_made old.server change ≡ record { state = server; answer = applied } → IsSound server
    → modules.instances ≡ newest_followed old.modules.instances server (newest_of old.journal) → IsDoomMade who name change old (record old { server = server; modules = modules; holder = Purging who name })
doom_finished who name change old server modules applied made_is sound follows = record { applied = applied; made_is = made_is; state = refl; table = follows; sound = sound }

module _ (p : Book) (book : IsBook p) (who : ℕ) (d : Decision) (known : IsMadeBy (shown p) d) (table : Modules) (same : table.instances ≡ p.modules.instances) (room : new_modules d.cmd ≤ table.room) (journal : List Entry) (more : journal ≡ p.journal ++ entry_for who d ∷ []) where
  -- the drop ends the loader's command
  pub drop_made : holder_of p.holder ≡ Some who → EndsNext (shown p) who d.cmd → (c : Book) (after : LoaderRun) (applied : Applied) → IsFinished who d.change after (record p { journal = journal; modules = table }) c applied
      → IsSomeAnd (next_of (shown p) who) (λ command. option_map (loader_after command) (slice_get p.loaders.items who) ≡ Some after) → EndMade p c who d.cmd applied
  drop_made own ends c after applied finished counts =
      end_made p book who d.cmd ends (between p book who d known table same room journal more c.server applied finished.made_is c.modules finished.table) c applied after own counts
      (made_between p book who d known table same room journal more c.server applied finished.made_is c.modules finished.table) finished.state refl finished.sound
      (agrees_between p book who d known table same room journal more c.server applied finished.made_is c.modules finished.table)

  -- the doom begins the loader's purge
  pub doom_joined : (code : OldCode) → p.holder ≡ Held who → next_of (shown p) who ≡ Some (Purge code.«module») → old_of p.server code.«module».0 ≡ Some code.serial → d.cmd ≡ cmds.Doom code.«module» → (c : Book)
      → IsDoomMade who code.«module» d.change (record p { journal = journal; modules = table }) c → DoomMade p c who code
  doom_joined code held next old is c finished =
      doom_left p book who code held next old (between p book who d known table same room journal more c.server finished.applied finished.made_is c.modules finished.table) c finished.applied
      (subst (λ cmd. made_of (shown p) (Loader who) cmd ≡ made_to (shown (between p book who d known table same room journal more c.server finished.applied finished.made_is c.modules finished.table)) finished.applied) is
      (made_between p book who d known table same room journal more c.server finished.applied finished.made_is c.modules finished.table))
      finished.state refl finished.sound
      (agrees_between p book who d known table same room journal more c.server finished.applied finished.made_is c.modules finished.table)
