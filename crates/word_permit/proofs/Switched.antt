-- A trace up to the store of the root, and behind it: what its book is then.
use Rattle.std.proofs.Common.{◌≡◌, inl, inr, ℕ, ◌+◌, ◌<◌, ◌≤◌, ◌^◌, List, [], ◌∷◌, ◌++◌, length, is_some, Option, Some, None, IfSome, All, refl, sym, ap, subst, ◌∙◌, arith}
use Rattle.atomic_table.specs.Seated.{TableId}
use Rattle.term_core.specs.declared.atom.Mfa.{Mfa}
use Rattle.marks.specs.declared.kept.WriterKept.{WriterKept}
use Rattle.shared_words.specs.declared.opening.Opening.{Opening}
use Rattle.shared_words.specs.declared.view.WriterView.{WriterView}
use Rattle.shared_words.specs.Views.{newest_number}
use Rattle.progress_words.specs.declared.answers.NotYet as late
use Rattle.progress_words.specs.Tokens.{written_by}
use Rattle.area_core.specs.Blocks.{Among}
use Rattle.change_laws.specs.Names.{IsNumbered}
use Rattle.server_core.specs.declared.change.Change.{Change}
use Rattle.server_core.specs.declared.change.Change.TheVariants.{SetTrace, ClearTrace}
use Rattle.server_core.specs.declared.command.Applied.{Applied}
use Rattle.server_core.specs.declared.command.Reply.TheVariants as replies
use Rattle.server_core.specs.CommandTable.{Outcome}
use Rattle.server_core.specs.Decided.{change_made}
use Rattle.server_core.specs.ServerState.{IsSound, ServerState}
use Rattle.script_core.specs.declared.script.Script.{Script}
use Rattle.run_log.specs.declared.logs.Entry.{Entry}
use Rattle.run_log.specs.declared.logs.Who.TheVariants.{Loader}
use Rattle.module_table.specs.Modules.{Modules}
use Rattle.staging.specs.declared.stage.Stage.{Stage}
use Rattle.staging.specs.declared.stage.Step.{Step}
use Rattle.staging.specs.declared.stage.Step.TheVariants as steps
use Rattle.staging.specs.declared.tables.Tables.{Tables}
use Rattle.staging.specs.Stages.{AreAtRest, AreSettling, StageStands, stage_number}
use Rattle.staging.specs.Traced.{HasSwitched, IsPatchLate, IsTraceChange, NeedGoesOn, Settles, TraceAnswers}
use Rattle.staging.specs.Whose.{AreTablesOf, KeepsKnown}
use Rattle.staging.proofs.PatchNeeds.{late_from, need_on}
use Rattle.staging.proofs.TraceStages.{trace_placed}
use Rattle.write_permit.specs.declared.book.Book.{Book}
use Rattle.write_permit.specs.declared.loader_run.LoaderRun.{LoaderRun}
use Rattle.write_permit.specs.declared.holder.Holder.TheVariants.{Free, Held, Tracing}
use Rattle.write_permit.specs.Agreement.{new_modules, newest_followed, newest_of}
use Rattle.write_permit.specs.Book.{IsBook, shown}
use Rattle.write_permit.specs.Permit.{PermitState, made_of}
use Rattle.write_permit.proofs.EndBooks.{TraceMade, trace_left}
use Rattle.word_permit.specs.declared.answers.CommandStep.{CommandStep}
use Rattle.word_permit.specs.declared.answers.CommandStep.TheVariants as told
use Rattle.word_permit.specs.declared.book.Decision.{Decision}
use Rattle.word_permit.specs.declared.book.Waiting.{Waiting}
use Rattle.word_permit.specs.declared.book.WordBook.{WordBook}
use Rattle.word_permit.specs.Books.{HasEntered, HasItsTables, IsLateBy, IsWordBook, OpAnswers, PublishesNone, TellsNone}
use Rattle.word_permit.specs.Purged.{IsMadeBy}
use Rattle.word_permit.specs.Settled.{without_newest}
use Rattle.word_permit.specs.Traced.{IsEntered, IsTraceMade, SettleAnswers, SwitchAnswers, SwitchWaits}
use Rattle.word_permit.specs.Answers.{AnswersAgree, TellsDrop}
use Rattle.word_permit.specs.Notes.{AreThoseSpawned}
use Rattle.word_permit.specs.Waiting.{IsDecided, IsSwitching, RestsBy, WordsStand}
use Rattle.run_law.specs.Published.{ArePublished}
use Rattle.word_permit.proofs.Answered.{goes_quiet, none_added, none_told}
use Rattle.word_permit.proofs.Awaiting.{need_still}
use Rattle.word_permit.proofs.Calls.{no_look}
use Rattle.word_permit.proofs.Dropped.{KeepsTold, agrees_between, between, made_between, published_book}
use Rattle.word_permit.proofs.Ended.{entry_for}
use Rattle.word_permit.proofs.Grown.{both_ends}
use Rattle.word_permit.proofs.Kept.{numbers_are}
use Rattle.word_permit.proofs.Resting.{free_no_trace, none_traced, rests_by, traced_switching}
use Rattle.word_permit.proofs.TraceCode.{tells_true, trace_decided}
use Rattle.word_permit.proofs.Went.{late_waits, waiting_book}

-- ---- up to the store of the root

-- what the step left
pub record Switched (names : List Mfa) (table : TableId) (opening : Opening) (who : ℕ) (d : Decision) (b c : WordBook) (step : Step) : Type 0 where
  pub ok : SwitchAnswers who d b c step
  pub look : c.look ≡ None
  pub book : IsWordBook names table opening c

-- a trace waits for the value of its patch
late_patch : (change : Change) (old new : Tables) (answer : late.NotYet) → IsTraceChange change → IsPatchLate old new answer → IsLateBy change old new answer
late_patch (SetTrace generation at traced) old new answer h late_is = late_is
late_patch (ClearTrace generation at) old new answer h late_is = late_is
late_patch change old new answer h late_is = absurd h

-- the change is made, put together
pub trace_made : (who generation : ℕ) (change : Change) (old : Book) (server : ServerState) (modules : Modules) (applied : Applied) (new : Book) → change_made old.server change ≡ record { state = server; answer = applied } → IsSound server
    → modules.instances ≡ newest_followed old.modules.instances server (newest_of old.journal) → shown new ≡ record (shown old) { server = server; holder = Tracing who generation } → new.modules ≡ modules → IsTraceMade who generation change old new
trace_made who generation change old server modules applied new made_is sound follows state table =
    let same : server ≡ new.server = ap (λ (x : PermitState). x.server) (sym state) in
    record {
      applied = applied;
      made_is = made_is ∙ ap (λ (s : ServerState). record { state = s; answer = applied }) same;
      state = state ∙ ap (λ (s : ServerState). record (shown old) { server = s; holder = Tracing who generation }) same;
      table = ap (λ (m : Modules). m.instances) table ∙ follows ∙ ap (λ (s : ServerState). newest_followed old.modules.instances s (newest_of old.journal)) same;
      sound = subst IsSound same sound;
    }

-- what the writer keeps of processes, of which a trace tells nothing
keeps_told : (s : ServerState) (old new : WriterView) (who : ℕ) (p : PermitState) (d : Decision) → p.server ≡ s → IsDecided p who d → KeepsKnown old new → KeepsTold s old new d.cmd
keeps_told s old new who p d server known keeps = record {
  more = record {
    dropped = λ x had. subst (λ (k : WriterKept). Among k.dropped x) (sym keeps.looks) had;
    lingering = λ x had. subst (λ (k : WriterKept). Among k.lingering x) (sym keeps.looks) had;
  };
  added = none_added old.looks new.looks (λ x. TellsDrop s (newest_number old.published) x d.cmd) keeps.looks;
  told = none_told s (newest_number old.published) new.looks d.cmd (subst TellsNone (sym known.cmd_is) (goes_quiet p.server known.command known.goes));
}

module _ (names : List Mfa) (table : TableId) (opening : Opening) (b : WordBook) (had : HasItsTables names table opening b) (who : ℕ) (d : Decision) (held : b.plain.holder ≡ Held who) (known : IsDecided (shown b.plain) who d) (none : b.waiting ≡ None) (look : b.look ≡ None)
    (traces : IsTraceChange d.change) where
  module _ (modules : Modules) (same : modules.instances ≡ b.plain.modules.instances) (journal : List Entry) (t : Tables) (of_table : AreTablesOf table opening t) (exports : t.exports ≡ names)
      (keeps : KeepsKnown (written_by b.tables.writer) (written_by t.writer)) where
    abbrev stepped : WordBook
    stepped = record b { plain = record (b.plain) { journal = journal; modules = modules }; tables = t }

    -- it waits
    module _ (stage : Stage) (published : PublishesNone b stepped) (stands : StageStands names b.plain.server d.change t stage) where
      switch_waits : (c : WordBook) (answer : late.NotYet) → IsPatchLate b.tables t answer → c ≡ record (without_newest stepped b.plain.journal) { waiting = Some (record { decision = d; stage = stage }) } → Switched names table opening who d b c (steps.NotYet answer)
      switch_waits c answer why left =
          subst (λ x. Switched names table opening who d b x (steps.NotYet answer)) (sym left)
          (record {
            ok = record {
              waits = late_waits names table opening b had who d held known none look modules same journal t of_table exports keeps stage (inr traces) published stands answer (trace_placed names b.plain.server d.change t stage traces stands) (late_patch d.change b.tables t answer traces why);
              waiting = record { decision = d; stage = stage };
              is = refl;
              decision = refl;
            };
            look = look;
            book = waiting_book names table opening b had who d held known none look modules same journal t of_table exports keeps stage (inr traces) published stands;
          })

    -- it is published
    module _ (room : new_modules d.cmd ≤ modules.room) (numbers : b.plain.server.generation + 2 < 2 ^ 40) (more : journal ≡ b.plain.journal ++ entry_for who d ∷ []) where
      is_made : IsMadeBy (shown b.plain) d
      is_made = record { fits = known.fits; given = known.given; answer = known.answer }

      module _ (generation : ℕ) (switched : HasSwitched names (change_made b.plain.server d.change).state b.tables t generation) (need : NeedGoesOn b.tables t) (c : WordBook) (trace : IsTraceMade who generation d.change stepped.plain c.plain) (left : c ≡ record stepped { plain = c.plain }) where
        abbrev mid : Book
        mid = between b.plain had.book who d is_made modules same room journal more c.plain.server trace.applied trace.made_is c.plain.modules trace.table

        number_is : generation ≡ b.plain.server.generation + 1
        number_is = switched.number ∙ numbers_are names table opening b had

        answer_is : trace.applied ≡ record { reply = replies.True; published = Some generation }
        answer_is =
            let told_true = tells_true b.plain.server d.change traces in
            let reply : trace.applied.reply ≡ replies.True = ap (λ (o : Outcome). o.answer.reply) (sym trace.made_is) ∙ told_true.reply in
            let published : trace.applied.published ≡ Some generation = ap (λ (o : Outcome). o.answer.published) (sym trace.made_is) ∙ told_true.published ∙ ap Some (sym number_is) in
            (λ i. record { reply = reply i; published = published i })

        tables_are : c.tables ≡ t
        tables_are = ap (λ (x : WordBook). x.tables) left

        server_is : c.plain.server ≡ (change_made b.plain.server d.change).state
        server_is = ap (λ (o : Outcome). o.state) (sym trace.made_is)

        holder_is : c.plain.holder ≡ Tracing who generation
        holder_is = ap (λ (x : PermitState). x.holder) trace.state

        left_made : TraceMade b.plain c.plain who (trace_decided (shown b.plain) who d known traces).target (trace_decided (shown b.plain) who d known traces).on
        left_made =
            let k = trace_decided (shown b.plain) who d known traces in
            trace_left b.plain had.book who generation k.target k.on held k.next mid c.plain trace.applied answer_is
            (subst (λ cmd. made_of (shown b.plain) (Loader who) cmd ≡ Some (record { state = shown mid; answer = trace.applied })) k.cmd
            (made_between b.plain had.book who d is_made modules same room journal more c.plain.server trace.applied trace.made_is c.plain.modules trace.table))
            trace.state refl trace.sound
            (agrees_between b.plain had.book who d is_made modules same room journal more c.plain.server trace.applied trace.made_is c.plain.modules trace.table)

        switching : IsSwitching names (change_made b.plain.server d.change).state t
        switching =
            let told_true = tells_true b.plain.server d.change traces in
            record { settling = switched.settling; room = omega (arith, numbers, told_true.generation) }

        is_published : Switched names table opening who d b c (steps.Published generation)
        is_published =
            let k = trace_decided (shown b.plain) who d known traces in
            let m = left_made in
            let waiting : c.waiting ≡ None = ap (λ (x : WordBook). x.waiting) left ∙ none in
            let no : c.look ≡ None = ap (λ (x : WordBook). x.look) left ∙ look in
            record {
              ok = record {
                entered = record { target = k.target; on = k.on; holds = held; next = k.next; entered = m.ok };
                need = subst (NeedGoesOn b.tables) (sym tables_are) need;
                holder = holder_is;
                none = waiting;
              };
              look = no;
              book =
                  published_book names table opening b had who d is_made (ap is_some (ap (λ (o : Outcome). o.answer.published) trace.made_is ∙ ap (λ (a : Applied). a.published) answer_is)) t of_table exports keeps.notes keeps.waits
                  (keeps_told b.plain.server (written_by b.tables.writer) (written_by t.writer) who (shown b.plain) d refl known keeps) switched.next switched.shows switched.published c m.book
                  (ap (λ (x : PermitState). x.script) trace.state) (ap (λ (x : PermitState). x.journal) trace.state ∙ more) server_is tables_are (ap (λ (x : WordBook). x.need) left) no waiting
                  (subst (λ h. RestsBy names h (change_made b.plain.server d.change).state t) (sym holder_is) switching);
            }

      -- whatever the words answered
      pub switched_on : (c : WordBook) (stage : Stage) (step : Step) → IsEntered who d.change stage stepped c step → NeedGoesOn b.tables t → TraceAnswers names b.plain.server d.change b.tables t stage step → Switched names table opening who d b c step
      switched_on c stage (steps.Published generation) entered need ok = is_published generation ok need c entered.0 entered.1
      switched_on c stage (steps.NotYet answer) entered need ok = switch_waits stage ok.published ok.stands c answer ok.why (entered b.plain.journal (entry_for who d) more)
      switched_on c stage steps.AwaitRelease entered need ok = absurd ok

-- ---- behind it

-- a trace that is published and done in one call is a command that is done at once
pub entered_ends : (who generation : ℕ) (b m c : WordBook) (step : CommandStep) → IsBook b.plain → HasEntered who b m → NeedGoesOn b.tables m.tables → m.plain.holder ≡ Tracing who generation → c.waiting ≡ None → SettleAnswers who m c step → OpAnswers who b c step
entered_ends who generation b m c (told.Done applied) known entered need tracing none ends = both_ends who generation b.plain m.plain c.plain applied entered.target entered.on known entered.holds entered.next entered.entered tracing ends
entered_ends who generation b m c (told.NotYet answer) known entered need tracing none ends = inr (record {
  late = late_from b.tables m.tables c.tables answer need (need_on b.tables m.tables c.tables need ends.need) ends.late;
  none = none;
  since = inr (record { target = entered.target; on = entered.on; holds = entered.holds; next = entered.next; entered = entered.entered ∙ ap Some (sym ends.still.same) });
})
entered_ends who generation b m c told.AwaitRelease known entered need tracing none ends = absurd ends
entered_ends who generation b m c (told.Lingers process turn place word) known entered need tracing none ends = absurd ends

-- one that waits to be published
pub answers_switched : (who : ℕ) (d : Decision) (b c : WordBook) (answer : late.NotYet) → SwitchWaits d b c answer → OpAnswers who b c (told.NotYet answer)
answers_switched who d b c answer h = inl h.waits

pub decided_still : (d : Decision) (b c : WordBook) (answer : late.NotYet) → SwitchWaits d b c answer → IfSome c.waiting (λ w. w.decision ≡ d)
decided_still d b c answer h = subst (λ (o : Option Waiting). IfSome o (λ w. w.decision ≡ d)) (sym h.is) h.decision

pub none_decided : (c : WordBook) (d : Decision) → c.waiting ≡ None → IfSome c.waiting (λ w. w.decision ≡ d)
none_decided c d none = subst (λ (o : Option Waiting). IfSome o (λ w. w.decision ≡ d)) (sym none) tt

pub none_behind : (c : WordBook) (stage : Stage) → c.waiting ≡ None → IfSome c.waiting (λ w. stage_number stage ≤ stage_number w.stage)
none_behind c stage none = subst (λ (o : Option Waiting). IfSome o (λ w. stage_number stage ≤ stage_number w.stage)) (sym none) tt

-- one that goes on behind its publication
pub settles_answer : (who : ℕ) (b c : WordBook) (step : CommandStep) → c.waiting ≡ None → SettleAnswers who b c step → OpAnswers who b c step
settles_answer who b c (told.Done applied) none ends = ends
settles_answer who b c (told.NotYet answer) none ends = inr (record { late = ends.late; none = none; since = inl ends.still })
settles_answer who b c told.AwaitRelease none ends = absurd ends
settles_answer who b c (told.Lingers process turn place word) none ends = absurd ends

module _ (names : List Mfa) (table : TableId) (opening : Opening) (b : WordBook) (known : IsWordBook names table opening b) (look : b.look ≡ None) (who generation : ℕ) (holds : b.plain.holder ≡ Tracing who generation) where
  pub is_switching : IsSwitching names b.plain.server b.tables
  is_switching = traced_switching names (shown b.plain) b.tables b.waiting who generation holds known.words

  pub none_else : b.waiting ≡ None
  none_else = none_traced names (shown b.plain) b.tables b.waiting who generation holds known.words

  -- there is a number for one generation more
  pub settle_room : length (written_by b.tables.writer).published < 2 ^ 40
  settle_room =
      let k = is_switching in
      omega (arith, k.room, numbers_are names table opening b known.has)

  module _ (t : Tables) (of_table : AreTablesOf table opening t) (exports : t.exports ≡ b.tables.exports) (published : (written_by t.writer).published ≡ (written_by b.tables.writer).published) (keeps : KeepsKnown (written_by b.tables.writer) (written_by t.writer)) where
    -- what is kept, where the loaders alone go on
    has_gone_on : (plain : Book) → IsBook plain → plain.script ≡ b.plain.script → plain.journal ≡ b.plain.journal → HasItsTables names table opening (record b { plain = plain; tables = t })
    has_gone_on plain book script journal =
        let had = known.has in
        let new = written_by t.writer in
        record {
          book = book;
          texts = subst (λ (x : Script). All (IsNumbered names) x.modules) (sym script) had.texts;
          tables = of_table;
          exports = exports ∙ had.exports;
          published = subst (λ (x : Script). ArePublished names x.modules plain.journal new.published) (sym script)
              (subst (λ js. ArePublished names b.plain.script.modules js new.published) (sym journal) (subst (ArePublished names b.plain.script.modules b.plain.journal) (sym published) had.published));
          notes = subst (λ (x : Script). AreThoseSpawned x plain.journal new.notes) (sym script)
              (subst (λ js. AreThoseSpawned b.plain.script js new.notes) (sym journal) (subst (AreThoseSpawned b.plain.script b.plain.journal) (sym keeps.notes) had.notes));
          answered = subst (λ (x : Script). AnswersAgree x.modules plain.journal new.looks) (sym script)
              (subst (λ js. AnswersAgree b.plain.script.modules js new.looks) (sym journal) (subst (AnswersAgree b.plain.script.modules b.plain.journal) (sym keeps.looks) had.answered));
          awaited = need_still (written_by b.tables.writer) new b.need keeps.waits published had.awaited;
        }

    -- the switch waits
    pub settle_waits : (answer : late.NotYet) → NeedGoesOn b.tables t → ((s : ServerState) → AreSettling names s b.tables → Settles names s b.tables t answer) → SettleAnswers who b (record b { tables = t }) (told.NotYet answer)
    settle_waits answer need waits =
        let w = waits b.plain.server is_switching.settling in
        record { late = w.why; need = need; still = record { generation = generation; holds = holds; same = refl; published = published } }

    pub book_waits : (answer : late.NotYet) → ((s : ServerState) → AreSettling names s b.tables → Settles names s b.tables t answer) → IsWordBook names table opening (record b { tables = t })
    book_waits answer waits =
        let w = waits b.plain.server is_switching.settling in
        let k = is_switching in
        record {
          has = has_gone_on b.plain known.has.book refl refl;
          words = subst (WordsStand names (shown b.plain) t) (sym none_else) (subst (λ h. RestsBy names h b.plain.server t) (sym holds) (record { settling = w.settling; room = k.room }));
          looked = no_look (record b { tables = t }) look;
        }

    -- it is over
    pub book_settled : ((s : ServerState) → AreSettling names s b.tables → AreAtRest names s t) → (plain : Book) (loaders : List LoaderRun) → IsBook plain → shown plain ≡ record (shown b.plain) { loaders = loaders; holder = Free } → IsWordBook names table opening (record b { plain = plain; tables = t })
    book_settled rest plain loaders book state =
        let server : plain.server ≡ b.plain.server = ap (λ (x : PermitState). x.server) state in
        record {
          has = has_gone_on plain book (ap (λ (x : PermitState). x.script) state) (ap (λ (x : PermitState). x.journal) state);
          words = subst (WordsStand names (shown plain) t) (sym none_else)
              (rests_by names plain.holder plain.server t (free_no_trace plain.holder (ap (λ (x : PermitState). x.holder) state))
              (subst (λ s. AreAtRest names s t) (sym server) (rest b.plain.server is_switching.settling)));
          looked = no_look (record b { plain = plain; tables = t }) look;
        }
