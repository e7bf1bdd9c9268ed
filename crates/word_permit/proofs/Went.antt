-- What a step of a decided command leaves of a permit's book, by what the words answered.
use Rattle.std.proofs.Common.{◌≡◌, ℕ, ◌≤◌, ◌⊎◌, inl, inr, List, [], ◌∷◌, ◌++◌, length, slice_get, Option, Some, None, is_some, true, IfSome, IsSomeAnd, IfOk, OnErr, Result, Ok, Err, All, option_map, if◌then◌else◌, refl, sym, ap, subst, ◌∙◌}
use Rattle.atomic_table.specs.Seated.{TableId}
use Rattle.term_core.specs.declared.atom.Mfa.{Mfa}
use Rattle.term_core.specs.declared.no_memory.NoMemory.{NoMemory}
use Rattle.shared_words.specs.declared.opening.Opening.{Opening}
use Rattle.progress_words.specs.declared.answers.NotYet as late
use Rattle.progress_words.specs.Tokens.{written_by}
use Rattle.change_laws.specs.Changes.{incoming}
use Rattle.change_laws.specs.Names.{IsNumbered}
use Rattle.server_core.specs.declared.change.Change.{Change}
use Rattle.server_core.specs.declared.change.Change.TheVariants.{BringIn, MakeOld, HoldWord, HoldArea, Forget}
use Rattle.server_core.specs.declared.command.Applied.{Applied}
use Rattle.server_core.specs.CommandTable.{Outcome}
use Rattle.server_core.specs.Decided.{change_made}
use Rattle.server_core.specs.ServerState.{ServerState}
use Rattle.run_log.specs.declared.logs.Entry.{Entry}
use Rattle.run_log.specs.Journal.{publishes}
use Rattle.module_table.specs.Modules.{Modules}
use Rattle.staging.specs.declared.stage.Stage.{Stage}
use Rattle.staging.specs.declared.stage.Step.{Step}
use Rattle.staging.specs.declared.stage.Step.TheVariants as steps
use Rattle.staging.specs.declared.tables.Tables.{Tables}
use Rattle.staging.specs.Placed.{NextAwaitsRelease}
use Rattle.staging.specs.Stages.{AreAtRest, HasPublished, IsCodeChange, IsKeyChange, IsLateFor, IsStaged, LacksNone, StageStands, StepAnswers, areas_at}
use Rattle.staging.specs.Traced.{IsTraceChange}
use Rattle.server_core.specs.Generations.{generation_of}
use Rattle.staging.specs.Whose.{AreTablesOf, KeepsKnown}
use Rattle.write_permit.specs.declared.holder.Holder.TheVariants.{Held}
use Rattle.write_permit.specs.declared.loader_run.LoaderRun.{LoaderRun}
use Rattle.write_permit.specs.Agreement.{new_modules}
use Rattle.write_permit.specs.Book.{shown}
use Rattle.write_permit.specs.Permit.{PermitState, loader_after, next_of}
use Rattle.word_permit.specs.declared.answers.CommandStep.{CommandStep}
use Rattle.word_permit.specs.declared.answers.CommandStep.TheVariants.{Done, NotYet, AwaitRelease}
use Rattle.word_permit.specs.declared.book.AreaNeed.{AreaNeed}
use Rattle.word_permit.specs.declared.book.Decision.{Decision}
use Rattle.word_permit.specs.declared.book.Waiting.{Waiting}
use Rattle.word_permit.specs.declared.book.WordBook.{WordBook}
use Rattle.word_permit.specs.Books.{HasItsTables, HasTakenBack, HasWaited, IsLateBy, IsLateStill, IsWordBook, OpAnswers, PublishesNone, SpawnsNone, TellsNone}
use Rattle.word_permit.specs.Needs.{IsAwaited}
use Rattle.word_permit.specs.Notes.{AreThoseSpawned}
use Rattle.word_permit.specs.Answers.{AnswersAgree}
use Rattle.run_law.specs.Published.{ArePublished}
use Rattle.word_permit.specs.Settled.{IsFinished, IsSettled, waiting_with, without_newest}
use Rattle.word_permit.specs.Waiting.{IsDecided, RestsBy, WordsStand}
use Rattle.word_permit.proofs.Answered.{agree_quietly, goes_quiet, goes_spawnless}
use Rattle.word_permit.proofs.Awaiting.{need_on}
use Rattle.word_permit.proofs.Calls.{no_look, none_before}
use Rattle.word_permit.proofs.Ended.{PlainDone, entry_for, plain_done, state_joined}
use Rattle.word_permit.proofs.Growing.{published_more}
use Rattle.word_permit.proofs.Kept.{has_same, rests}
use Rattle.word_permit.proofs.Resting.{free_no_trace, held_no_trace, rests_by}
use Rattle.word_permit.proofs.SpawnedBefore.{those_later}

-- a change that goes by stages publishes
code_publishes : (s : ServerState) (change : Change) → IsCodeChange change → is_some (change_made s change).answer.published ≡ true
code_publishes s (BringIn generation modules areas versions) h = refl
code_publishes s (MakeOld generation name) h = refl
code_publishes s change h = absurd h

key_publishes : (s : ServerState) (change : Change) → IsKeyChange change → is_some (change_made s change).answer.published ≡ true
key_publishes s (HoldWord generation key term keys retired) h = refl
key_publishes s (HoldArea generation key term stored areas keys retired) h = refl
key_publishes s (Forget generation key retired) h = refl
key_publishes s change h = absurd h

staged_publishes : (s : ServerState) (change : Change) → IsStaged change → is_some (change_made s change).answer.published ≡ true
staged_publishes s change (inl code) = code_publishes s change code
staged_publishes s change (inr key) = key_publishes s change key

-- it waits for the value that it waited for before
late_by : (change : Change) (old new : Tables) (answer : late.NotYet) → IsStaged change → IsLateFor change old new answer → IsLateBy change old new answer
late_by change old new answer (inl code) why = by change code why
  where
    by : (change : Change) → IsCodeChange change → IsLateFor change old new answer → IsLateBy change old new answer
    by (BringIn generation modules areas versions) h is = is
    by (MakeOld generation name) h is = is
    by change h is = absurd h
late_by change old new answer (inr key) why = by change key why
  where
    by : (change : Change) → IsKeyChange change → IsLateFor change old new answer → IsLateBy change old new answer
    by (HoldWord generation key term keys retired) h is = is
    by (HoldArea generation key term stored areas keys retired) h is = is
    by (Forget generation key retired) h is = is
    by change h is = absurd h

-- what a step leaves
pub record Went (names : List Mfa) (table : TableId) (opening : Opening) (who : ℕ) (d : Decision) (b c : WordBook) (told : Result CommandStep NoMemory) : Type 0 where
  pub ok : IfOk told (OpAnswers who b c)
  pub decision : IfOk told (λ step. IfSome c.waiting (λ w. w.decision ≡ d))
  pub err : OnErr told (HasTakenBack b c)
  pub book : IsWordBook names table opening c

module _ (names : List Mfa) (table : TableId) (opening : Opening) (b : WordBook) (had : HasItsTables names table opening b) (who : ℕ) (d : Decision) (held : b.plain.holder ≡ Held who) (known : IsDecided (shown b.plain) who d) (none : b.waiting ≡ None) (look : b.look ≡ None) where
  module _ (modules : Modules) (same : modules.instances ≡ b.plain.modules.instances) (journal : List Entry) (t : Tables) (of_table : AreTablesOf table opening t) (exports : t.exports ≡ names)
      (keeps : KeepsKnown (written_by b.tables.writer) (written_by t.writer)) where
    abbrev stepped : WordBook
    stepped = record b { plain = record (b.plain) { journal = journal; modules = modules }; tables = t }

    -- want of memory: the words are at rest, and the journal is as before
    taken_back : (c : WordBook) (told : Result CommandStep NoMemory) (fault : NoMemory) → PublishesNone b stepped → AreAtRest names b.plain.server t → told ≡ Err fault → c ≡ without_newest stepped b.plain.journal → Went names table opening who d b c told
    taken_back c told fault published rest is left =
        subst (λ x. Went names table opening who d b x told) (sym left)
        (subst (Went names table opening who d b (without_newest stepped b.plain.journal)) (sym is)
        (record {
          ok = tt;
          decision = tt;
          err = record { same = refl; published = published; none = none };
          book = rests names table opening b (without_newest stepped b.plain.journal) had refl same of_table exports published keeps refl none look (held_no_trace b.plain.holder who held) rest;
        }))

    -- nothing is published: the command waits
    module _ (stage : Stage) (staged : IsStaged d.change ⊎ IsTraceChange d.change) (published : PublishesNone b stepped) (stands : StageStands names b.plain.server d.change t stage) where
      abbrev pub waiting : WordBook
      waiting = waiting_with stepped b.plain.journal (entry_for who d) d.change stage

      pub waiting_book : IsWordBook names table opening waiting
      waiting_book = record {
        has = has_same names table opening b waiting had refl same of_table exports published keeps refl;
        words = record { who = who; holder = held; decided = known; staged = staged; stands = stands };
        looked = no_look waiting look;
      }

      left_waiting : (c : WordBook) (told : Result CommandStep NoMemory) (answer : CommandStep) → OpAnswers who b waiting answer → told ≡ Ok answer → c ≡ waiting → Went names table opening who d b c told
      left_waiting c told answer why is left =
          subst (λ x. Went names table opening who d b x told) (sym left)
          (subst (Went names table opening who d b waiting) (sym is) (record { ok = why; decision = refl; err = tt; book = waiting_book }))

      as_decided : IfSome b.waiting (λ before. d ≡ before.decision)
      as_decided = subst (λ (o : Option Waiting). IfSome o (λ before. d ≡ before.decision)) (sym none) tt

      pub late_waits : (answer : late.NotYet) → length (areas_at stage) ≡ length (incoming d.change) → IsLateBy d.change b.tables t answer → HasWaited b waiting (IsLateStill b waiting answer)
      late_waits answer placed why = record { same = refl; published = published; waits = (_, refl); forward = none_before b.waiting waiting.waiting none; why = record { waiting = record { decision = d; stage = stage }; waits = refl; same = as_decided; placed = placed; late = why } }

      is_late : (c : WordBook) (told : Result CommandStep NoMemory) (answer : late.NotYet) → length (areas_at stage) ≡ length (incoming d.change) → IsLateBy d.change b.tables t answer → told ≡ Ok (NotYet answer) → c ≡ waiting → Went names table opening who d b c told
      is_late c told answer placed why = left_waiting c told (NotYet answer) (inl (late_waits answer placed why))

      awaits_release : (c : WordBook) (told : Result CommandStep NoMemory) → NextAwaitsRelease d.change t.pools (areas_at stage) → told ≡ Ok AwaitRelease → c ≡ waiting → Went names table opening who d b c told
      awaits_release c told why = left_waiting c told AwaitRelease (record { same = refl; published = published; waits = (_, refl); forward = none_before b.waiting waiting.waiting none; why = record { waiting = record { decision = d; stage = stage }; waits = refl; same = as_decided; lacks = why } })

    -- the change is published: the server makes it
    module _ (room : new_modules d.cmd ≤ modules.room) (more : journal ≡ b.plain.journal ++ entry_for who d ∷ []) (after : LoaderRun)
        (counts : IsSomeAnd (next_of (shown b.plain) who) (λ command. option_map (loader_after command) (slice_get b.plain.loaders.items who) ≡ Some after)) where
      module _ (publishing : is_some (change_made b.plain.server d.change).answer.published ≡ true) where
        publishes_one : publishes (entry_for who d) ≡ 1
        publishes_one = ap (λ yes. if yes then 1 else 0) (ap (λ (a : Applied). is_some a.published) (sym known.answer) ∙ publishing)

        module _ (generation : ℕ) (published : HasPublished names (change_made b.plain.server d.change).state b.tables t generation) (c : WordBook) (applied : Applied) (finished : IsFinished who d.change after stepped.plain c.plain applied)
            (left : c ≡ record stepped { plain = c.plain }) where
          done : PlainDone who b.plain c.plain applied
          done = plain_done b.plain had.book who d held known modules same room journal more c.plain after applied finished counts

          tables_are : c.tables ≡ t
          tables_are = ap (λ (x : WordBook). x.tables) left

          server_is : (change_made b.plain.server d.change).state ≡ c.plain.server
          server_is = ap (λ (o : Outcome). o.state) finished.made_is

          published_is : ArePublished names c.plain.script.modules c.plain.journal (written_by c.tables.writer).published
          published_is =
              subst (λ (x : PermitState). ArePublished names x.script.modules x.journal (written_by c.tables.writer).published) (sym finished.state)
              (subst (λ (x : Tables). ArePublished names b.plain.script.modules journal (written_by x.writer).published) (sym tables_are)
              (subst (ArePublished names b.plain.script.modules journal) (sym published.published)
              (subst (λ js. ArePublished names b.plain.script.modules js ((written_by b.tables.writer).published ++ published.next ∷ [])) (sym more)
              (published_more names b.plain.script.modules b.plain.journal (entry_for who d) had.book.permit.log.replays (written_by b.tables.writer).published published.next had.published publishes_one
              (published.shows ∙ ap (generation_of names) (state_joined b.plain had.book who d held known))))))

          notes_are : AreThoseSpawned c.plain.script c.plain.journal (written_by c.tables.writer).notes
          notes_are =
              subst (λ (x : PermitState). AreThoseSpawned x.script x.journal (written_by c.tables.writer).notes) (sym finished.state)
              (subst (λ (x : Tables). AreThoseSpawned b.plain.script journal (written_by x.writer).notes) (sym tables_are)
              (subst (AreThoseSpawned b.plain.script journal) (sym keeps.notes)
              (subst (λ js. AreThoseSpawned b.plain.script js (written_by b.tables.writer).notes) (sym more) (those_later b.plain.script b.plain.journal (entry_for who d) (written_by b.tables.writer).notes (subst SpawnsNone (sym known.cmd_is) (goes_spawnless b.plain.server known.command known.goes)) had.notes))))

          answers_are : AnswersAgree c.plain.script.modules c.plain.journal (written_by c.tables.writer).looks
          answers_are =
              subst (λ (x : PermitState). AnswersAgree x.script.modules x.journal (written_by c.tables.writer).looks) (sym finished.state)
              (subst (λ (x : Tables). AnswersAgree b.plain.script.modules journal (written_by x.writer).looks) (sym tables_are)
              (subst (AnswersAgree b.plain.script.modules journal) (sym keeps.looks)
              (subst (λ js. AnswersAgree b.plain.script.modules js (written_by b.tables.writer).looks) (sym more)
              (agree_quietly b.plain.script.modules b.plain.journal (entry_for who d) (written_by b.tables.writer).looks had.answered
              (subst TellsNone (sym known.cmd_is) (goes_quiet b.plain.server known.command known.goes))))))

          need_is : IfSome c.need (IsAwaited (written_by c.tables.writer))
          need_is =
              subst (λ (o : Option AreaNeed). IfSome o (IsAwaited (written_by c.tables.writer))) (sym (ap (λ (x : WordBook). x.need) left))
              (subst (λ (x : Tables). IfSome b.need (IsAwaited (written_by x.writer))) (sym tables_are)
              (need_on (written_by b.tables.writer) (written_by t.writer) (published.next ∷ []) b.need keeps.waits published.published had.awaited))

          done_has : HasItsTables names table opening c
          done_has = record {
            book = done.book;
            texts = subst (λ (x : PermitState). All (IsNumbered names) x.script.modules) (sym finished.state) had.texts;
            tables = subst (AreTablesOf table opening) (sym tables_are) of_table;
            exports = ap (λ (x : Tables). x.exports) tables_are ∙ exports;
            published = published_is;
            notes = notes_are;
            answered = answers_are;
            awaited = need_is;
          }

          done_rest : RestsBy names c.plain.holder c.plain.server c.tables
          done_rest =
              rests_by names c.plain.holder c.plain.server c.tables (free_no_trace c.plain.holder (ap (λ (x : PermitState). x.holder) finished.state))
              (subst (AreAtRest names c.plain.server) (sym tables_are) (subst (λ s. AreAtRest names s t) server_is published.rest))

          none_waits : IfSome c.waiting (λ w. w.decision ≡ d)
          none_waits = subst (λ (o : Option Waiting). IfSome o (λ w. w.decision ≡ d)) (sym (ap (λ (x : WordBook). x.waiting) left ∙ none)) tt

          is_done : (told : Result CommandStep NoMemory) → told ≡ Ok (Done applied) → Went names table opening who d b c told
          is_done told is =
              subst (Went names table opening who d b c) (sym is)
              (record {
                ok = done.ended;
                decision = none_waits;
                err = tt;
                book = record { has = done_has; words = subst (WordsStand names (shown c.plain) c.tables) (sym (ap (λ (x : WordBook). x.waiting) left ∙ none)) done_rest; looked = no_look c (ap (λ (x : WordBook). x.look) left ∙ look) };
              })

      -- whatever the words answered
      pub went_on : (staged : IsStaged d.change) (c : WordBook) (stage : Stage) (step : Result Step NoMemory) (told : Result CommandStep NoMemory) → IsSettled who d.change stage after stepped c step told
          → IfOk step (StepAnswers names b.plain.server d.change b.tables t stage) → IfOk step (LacksNone d.change stage) → OnErr step (AreAtRest names b.plain.server t) → OnErr step (PublishesNone b stepped) → Went names table opening who d b c told
      went_on staged c stage (Ok (steps.Published generation)) told settled ok placed rest same_published = is_done (staged_publishes b.plain.server d.change staged) generation ok c settled.0 settled.1.1.0 settled.1.1.1 told settled.1.0
      went_on staged c stage (Ok (steps.NotYet answer)) told settled ok placed rest same_published = is_late stage (inl staged) ok.published ok.stands c told answer placed (late_by d.change b.tables t answer staged ok.why) settled.0 (settled.1 b.plain.journal (entry_for who d) more)
      went_on staged c stage (Ok steps.AwaitRelease) told settled ok placed rest same_published = awaits_release stage (inl staged) ok.published ok.stands c told ok.why settled.0 (settled.1 b.plain.journal (entry_for who d) more)
      went_on staged c stage (Err fault) told settled ok placed rest same_published = taken_back c told fault same_published rest settled.0 (settled.1 b.plain.journal (entry_for who d) more)
