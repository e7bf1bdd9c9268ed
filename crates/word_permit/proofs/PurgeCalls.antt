-- Soft purges and purges: what each call leaves of a permit's book.
use Rattle.std.proofs.Common.{◌≡◌, ℕ, ◌≤◌, Bool, false, List, [], ◌∷◌, ◌++◌, Option, Some, None, IfSome, All, option_map, IfOk, IfErr, OnErr, OnOk, Result, Ok, Err, ◌⊎◌, inl, inr, refl, sym, ap, subst, ◌∙◌, arith}
use Rattle.std.specs.Prelude.{IsTrue}
use Rattle.std.proofs.lemmas.Option.{none-some, same_Some}
use Rattle.atomic_table.specs.Seated.{TableId}
use Rattle.term_core.specs.declared.atom.AtomId.{AtomId}
use Rattle.term_core.specs.declared.atom.Mfa.{Mfa}
use Rattle.term_core.specs.declared.no_memory.NoMemory.{NoMemory}
use Rattle.marks.specs.declared.kept.LookKind.TheVariants.{Frame}
use Rattle.shared_words.specs.declared.opening.Opening.{Opening}
use Rattle.shared_words.specs.declared.view.WriterView.{WriterView}
use Rattle.shared_words.specs.Rule.{is_gone}
use Rattle.shared_words.specs.Slots.{IsClear}
use Rattle.shared_words.specs.Views.{newest_number}
use Rattle.progress_words.specs.declared.answers.NotYet as late
use Rattle.progress_words.specs.Needs.{IsBelow}
use Rattle.progress_words.specs.Roots.{newest_of}
use Rattle.progress_words.specs.Tokens.{written_by}
use Rattle.breakpoints.specs.Patches.{LoadsCounter}
use Rattle.anchors.specs.declared.answers.Scan.{Scan}
use Rattle.anchors.specs.declared.answers.Scan.TheVariants as scans
use Rattle.server_core.specs.declared.command.Applied.{Applied}
use Rattle.server_core.specs.declared.command.Cmd.{Cmd}
use Rattle.server_core.specs.declared.command.Cmd.TheVariants as cmds
use Rattle.server_core.specs.declared.command.Linger.{Linger}
use Rattle.server_core.specs.CommandTable.{Outcome, apply_of}
use Rattle.server_core.specs.ServerState.{ServerState, empty_state, old_of}
use Rattle.script_core.specs.declared.script.ScriptCmd.{ScriptCmd}
use Rattle.script_core.specs.declared.script.ScriptCmd.TheVariants.{Purge}
use Rattle.run_log.specs.declared.logs.Entry.{Entry}
use Rattle.run_log.specs.declared.logs.Who.TheVariants.{Loader}
use Rattle.run_log.specs.Journal.{newest_state, published_count}
use Rattle.run_log.proofs.SpanRuns.{some_at}
use Rattle.change_laws.specs.Names.{IsNumbered}
use Rattle.script_core.specs.declared.script.Script.{Script}
use Rattle.run_law.specs.Answers.{HasLingering, IsAnswerKept}
use Rattle.run_law.specs.Published.{ArePublished}
use Rattle.staging.specs.declared.tables.Tables.{Tables}
use Rattle.staging.specs.Stages.{AreAtRest}
use Rattle.staging.proofs.Known.{longer_same}
use Rattle.write_permit.specs.declared.book.Book.{Book}
use Rattle.write_permit.specs.declared.holder.Holder.{Holder}
use Rattle.write_permit.specs.declared.holder.Holder.TheVariants.{Held, Purging}
use Rattle.write_permit.specs.Book.{IsBook, shown}
use Rattle.write_permit.specs.Permit.{PermitState, PermitStep, done_of, doomed_by, command_ended, joined, next_of}
use Rattle.word_permit.specs.declared.answers.CommandStep.{CommandStep}
use Rattle.word_permit.specs.declared.answers.CommandStep.TheVariants.{Done, NotYet, AwaitRelease, Lingers}
use Rattle.word_permit.specs.declared.book.WordBook.{WordBook}
use Rattle.word_permit.specs.Answers.{AnswersAgree}
use Rattle.word_permit.specs.Books.{HasGivenUp, HasTakenBack, IsWordBook, SpawnsNone}
use Rattle.word_permit.specs.Looks.{HasLooked, HasLookedFor, IsLookTaken, IsReached}
use Rattle.word_permit.specs.Notes.{AreThoseSpawned}
use Rattle.word_permit.specs.Purged.{AwaitsFound, EndAnswers, EndsByCode, EndsNext, EndsWith, HasBegun, HasDoomedCode, HasGrown, HasLeftCode, IsCodeDropped, IsEndLooked, IsEndedBy, IsLearntBehind, IsLingerKept, IsLookLate, IsOldCodeOf, IsToldBy, JustLooks, LeavesServer, LingersAs, LingersIn, LookAnswers, NamesCode, PurgeAnswers, StillWaits}
use Rattle.word_permit.specs.Waiting.{WordsStand}
use Rattle.word_permit.proofs.Answered.{agree_joined, grows_same}
use Rattle.word_permit.proofs.Calls.{counts_none}
use Rattle.word_permit.proofs.Dropped.{ended_grown, was_ended}
use Rattle.word_permit.proofs.Followed.{at_rest}
use Rattle.word_permit.proofs.Growing.{published_same}
use Rattle.word_permit.proofs.Looked.{still_longer}
use Rattle.word_permit.proofs.OldCode.{old_gone}
use Rattle.word_permit.proofs.Resting.{ends_no_trace, free_no_trace, none_waiting, rests_by, stands_by}
use Rattle.word_permit.proofs.SpawnedBefore.{those_later}

-- ---- a look

-- the look was clear
pub found_clear : (w : WriterView) (serial : ℕ) (killed : Bool) → HasLooked serial w (scans.Clear killed) → IsClear w Frame serial
found_clear w serial killed looked = looked.1.cause.1

module _ (b m : WordBook) (looks : JustLooks b m) where
  server_same : m.plain.server ≡ b.plain.server
  server_same = ap (λ (x : Book). x.server) looks.plain

  shown_same : shown m.plain ≡ shown b.plain
  shown_same = ap shown looks.plain

  -- what ended behind it
  pub ends_done : (who : ℕ) (cmd : Cmd) (c : WordBook) (applied : Applied) → EndsWith who cmd m c applied → EndsWith who cmd b c applied
  ends_done who cmd c applied h = record {
    ends = subst (λ p. EndsNext p who cmd) shown_same h.ends;
    step = subst (λ p. command_ended p who cmd ≡ Some (record { state = shown c.plain; answer = applied })) shown_same h.step;
    reply = h.reply;
    told = subst (λ s. IsToldBy s (written_by b.tables.writer) (written_by c.tables.writer).looks cmd) server_same
        (subst (λ n. IsAnswerKept m.plain.server n (written_by c.tables.writer).looks cmd) (ap newest_number looks.published) h.told);
    none = h.none;
  }

  pub taken_behind : (c : WordBook) (r : Result CommandStep NoMemory) → OnErr r (HasTakenBack m c) → OnErr r (HasTakenBack b c)
  taken_behind c (Ok step) h = tt
  taken_behind c (Err fault) h = record { same = h.same ∙ shown_same; published = h.published ∙ looks.published; none = h.none }

  -- behind a look, by what that found
  module _ (who serial : ℕ) (scan : Scan) (cmd : Cmd) (code : NamesCode b.plain.server serial cmd) (c : WordBook) where
    looks_behind : (step : CommandStep) → IsEndedBy serial scan (written_by b.tables.writer) (written_by c.tables.writer) cmd → EndAnswers who cmd m c step → LookAnswers who serial scan b c step
    looks_behind (Done applied) ends h = record { cmd = cmd; ended = ends_done who cmd c applied h; code = code; ends = ends }
    looks_behind (NotYet answer) ends h = absurd h
    looks_behind AwaitRelease ends h = absurd h
    looks_behind (Lingers process turn place word) ends h = absurd h

    pub looks_ok : (r : Result CommandStep NoMemory) → IfOk r (λ step. IsEndedBy serial scan (written_by b.tables.writer) (written_by c.tables.writer) cmd) → IfOk r (EndAnswers who cmd m c) → IfOk r (LookAnswers who serial scan b c)
    looks_ok (Ok step) ends h = looks_behind step ends h
    looks_ok (Err fault) ends h = tt

  -- the purge waits still
  pub late_behind : (who : ℕ) (answer : late.NotYet) → b.waiting ≡ None → HasBegun who b → IsLookLate m answer → IfSome b.look (λ value. value ≡ answer.need) → LoadsCounter (written_by b.tables.writer) (written_by m.tables.writer) → PurgeAnswers who b m (NotYet answer)
  late_behind who answer none begun is still loads = record { waits = is; none = looks.waiting ∙ none; since = inl (begun, record { same = shown_same; published = looks.published; still = still; loads = loads }) }

-- a purge that has begun waits
pub doom_waits : (who : ℕ) (b m c : WordBook) (name : AtomId) → b.plain.holder ≡ Held who → next_of (shown b.plain) who ≡ Some (Purge name) → doomed_by (shown b.plain) who name ≡ Some (shown m.plain) → m.waiting ≡ None → JustLooks m c → (answer : late.NotYet) → IsLookLate c answer
    → PurgeAnswers who b c (NotYet answer)
doom_waits who b m c name holds next doomed none looks answer is = record {
  waits = is;
  none = looks.waiting ∙ none;
  since = inr (record { name = name; holds = holds; next = next; doomed = doomed ∙ ap (λ (x : Book). Some (shown x)) (sym looks.plain) });
}

-- nothing was looked at
pub none_looked : (b : WordBook) → JustLooks b b
none_looked b = record { plain = refl; published = refl; waiting = refl; longer = longer_same (written_by b.tables.writer) (written_by b.tables.writer) refl }

pub two_looks : (b m c : WordBook) → JustLooks b m → JustLooks m c → JustLooks b c
two_looks b m c first second = record {
  plain = second.plain ∙ first.plain;
  published = second.published ∙ first.published;
  waiting = second.waiting ∙ first.waiting;
  longer = still_longer (written_by b.tables.writer) (written_by m.tables.writer) (written_by c.tables.writer) first.longer second.longer;
}

-- the old code is as it was
pub code_still : (b m : WordBook) (name serial : ℕ) → JustLooks b m → old_of b.plain.server name ≡ Some serial → old_of m.plain.server name ≡ Some serial
code_still b m name serial looks old = ap (λ (x : Book). old_of x.server name) looks.plain ∙ old

-- the loader's next command is as it was
pub next_still : (b m : WordBook) (who : ℕ) (command : ScriptCmd) → JustLooks b m → next_of (shown b.plain) who ≡ Some command → next_of (shown m.plain) who ≡ Some command
next_still b m who command looks next = ap (λ (x : Book). next_of (shown x) who) looks.plain ∙ next

pub holder_still : (b m : WordBook) (h : Holder) → JustLooks b m → b.plain.holder ≡ h → m.plain.holder ≡ h
holder_still b m h looks held = ap (λ (x : Book). x.holder) looks.plain ∙ held

-- old code is gone for frames in the newest generation
pub gone_now : (names : List Mfa) (table : TableId) (opening : Opening) (b : WordBook) (name serial : ℕ) → IsWordBook names table opening b → b.waiting ≡ None → old_of b.plain.server name ≡ Some serial → IsTrue (is_gone (newest_of (written_by b.tables.writer)) Frame serial)
gone_now names table opening b name serial known none old =
    let stands = stands_by names b.plain.holder b.plain.server b.tables (none_waiting names (shown b.plain) b.tables b.waiting none known.words) in
    old_gone names b.plain.server (newest_of (written_by b.tables.writer)) name serial stands.newest_is old

-- the value that was taken is reached
pub value_reached : {T : Type 0} (r : Result T late.NotYet) (w : WriterView) (need : ℕ) → IsLookTaken w need → OnOk r (need ≤ w.counter) → OnOk r (IsReached w)
value_reached (Ok x) w need taken reached = record { need = need; taken = taken; reached = reached }
value_reached (Err answer) w need taken reached = tt

-- or the counter is below it
pub value_late : {T : Type 0} (r : Result T late.NotYet) (c : WordBook) (need : ℕ) → c.look ≡ Some need → IsLookTaken (written_by c.tables.writer) need → IfErr r (IsBelow need (written_by c.tables.writer)) → IfErr r (IsLookLate c)
value_late (Ok x) c need look taken below = tt
value_late (Err answer) c need look taken below = record {
  looks = look ∙ ap Some (sym below.asked);
  taken = subst (IsLookTaken (written_by c.tables.writer)) (sym below.asked) taken;
  loaded = below.loaded;
  below = below.below;
}

-- the value that is waited for, by what the book keeps
pub value_taken : (names : List Mfa) (table : TableId) (opening : Opening) (c : WordBook) (need : ℕ) → IsWordBook names table opening c → c.look ≡ Some need → IsLookTaken (written_by c.tables.writer) need
value_taken names table opening c need known look = subst (λ (o : Option ℕ). IfSome o (IsLookTaken (written_by c.tables.writer))) look known.looked

-- what is learnt behind a look, by who holds the permission
pub held_learns : (b : WordBook) (who serial process turn place : ℕ) (new : WriterView) → b.plain.holder ≡ Held who → HasLeftCode serial process turn place (written_by b.tables.writer) new → IsLearntBehind b.plain.holder serial process turn place (written_by b.tables.writer) new
held_learns b who serial process turn place new holds left = subst (λ h. IsLearntBehind h serial process turn place (written_by b.tables.writer) new) (sym holds) left

pub doomed_learns : (b : WordBook) (who : ℕ) (name : AtomId) (serial process turn place : ℕ) → b.plain.holder ≡ Purging who name → IsLearntBehind b.plain.holder serial process turn place (written_by b.tables.writer) (written_by b.tables.writer)
doomed_learns b who name serial process turn place holds = subst (λ h. IsLearntBehind h serial process turn place (written_by b.tables.writer) (written_by b.tables.writer)) (sym holds) refl

-- the purge waits for whom the look of this call found
module _ (who : ℕ) (b m : WordBook) (command : ScriptCmd) (serial : ℕ) (scan : Scan) (begun : HasBegun who b) (next : next_of (shown b.plain) who ≡ Some command) (code : IsOldCodeOf b.plain.server command serial) (holds : LingersAs who b.plain.holder command) (looks : JustLooks b m)
    (found : HasLookedFor serial (written_by b.tables.writer) (written_by m.tables.writer) scan) where
  lingers_behind : (c : WordBook) (process turn place word : ℕ) → AwaitsFound serial scan m c process turn place word → LingersIn who b c process turn place word
  lingers_behind c process turn place word h = record {
    begun = begun;
    same = h.same ∙ ap shown looks.plain;
    published = h.published ∙ looks.published;
    none = h.none;
    serial = serial;
    code = some_at (next_of (shown b.plain) who) (λ x. IsOldCodeOf b.plain.server x serial) command next code;
    holds = some_at (next_of (shown b.plain) who) (LingersAs who b.plain.holder) command next holds;
    known = written_by m.tables.writer;
    found = subst (HasLookedFor serial (written_by b.tables.writer) (written_by m.tables.writer)) h.found found;
    learnt = subst (λ (x : Book). IsLearntBehind x.holder serial process turn place (written_by m.tables.writer) (written_by c.tables.writer)) looks.plain h.learnt;
  }

  -- or is done by it
  looked_behind : (c : WordBook) (cmd : Cmd) → NamesCode m.plain.server serial cmd → IsEndedBy serial scan (written_by m.tables.writer) (written_by c.tables.writer) cmd
      → IsEndLooked b.plain.server (written_by b.tables.writer) (written_by c.tables.writer) cmd
  looked_behind c (cmds.SoftPurge name linger) named ends =
      subst (λ (o : Option ℕ). EndsByCode o (cmds.SoftPurge name linger) (written_by b.tables.writer) (written_by c.tables.writer)) (sym (ap (λ (x : Book). old_of x.server name.0) (sym looks.plain) ∙ named))
      (record { known = written_by m.tables.writer; published = looks.published; scan = scan; found = found; ends = ends })
  looked_behind c (cmds.Purge name killed) named ends =
      subst (λ (o : Option ℕ). EndsByCode o (cmds.Purge name killed) (written_by b.tables.writer) (written_by c.tables.writer)) (sym (ap (λ (x : Book). old_of x.server name.0) (sym looks.plain) ∙ named))
      (record { known = written_by m.tables.writer; published = looks.published; scan = scan; found = found; ends = ends })
  looked_behind c cmd named ends = absurd named

  answers_behind : (c : WordBook) (step : CommandStep) → LookAnswers who serial scan m c step → PurgeAnswers who b c step
  answers_behind c (Done applied) h = record { cmd = h.cmd; ended = ends_done b m looks who h.cmd c applied h.ended; looked = looked_behind c h.cmd h.code h.ends }
  answers_behind c (NotYet answer) h = absurd h
  answers_behind c AwaitRelease h = absurd h
  answers_behind c (Lingers process turn place word) h = lingers_behind c process turn place word h

  pub found_ok : (c : WordBook) (r : Result CommandStep NoMemory) → IfOk r (LookAnswers who serial scan m c) → IfOk r (PurgeAnswers who b c)
  found_ok c (Ok step) h = answers_behind c step h
  found_ok c (Err fault) h = tt

-- where there is no old code, the command is done with no look
module _ (who : ℕ) (b c : WordBook) (cmd : Cmd) (looked : IsEndLooked b.plain.server (written_by b.tables.writer) (written_by c.tables.writer) cmd) where
  ends_none : (step : CommandStep) → EndAnswers who cmd b c step → PurgeAnswers who b c step
  ends_none (Done applied) h = record { cmd = cmd; ended = h; looked = looked }
  ends_none (NotYet answer) h = absurd h
  ends_none AwaitRelease h = absurd h
  ends_none (Lingers process turn place word) h = absurd h

  pub ends_ok : (r : Result CommandStep NoMemory) → IfOk r (EndAnswers who cmd b c) → IfOk r (PurgeAnswers who b c)
  ends_ok (Ok step) h = ends_none step h
  ends_ok (Err fault) h = tt

pub soft_unlooked : (s : ServerState) (b c : WordBook) (name : AtomId) → old_of s name.0 ≡ None → c.tables ≡ b.tables → IsEndLooked s (written_by b.tables.writer) (written_by c.tables.writer) (cmds.SoftPurge name None)
soft_unlooked s b c name none same =
    subst (λ (o : Option ℕ). EndsByCode o (cmds.SoftPurge name None) (written_by b.tables.writer) (written_by c.tables.writer)) (sym none) (ap (λ (t : Tables). written_by t.writer) same)

pub whole_unlooked : (s : ServerState) (b c : WordBook) (name : AtomId) → old_of s name.0 ≡ None → c.tables ≡ b.tables → IsEndLooked s (written_by b.tables.writer) (written_by c.tables.writer) (cmds.Purge name false)
whole_unlooked s b c name none same =
    subst (λ (o : Option ℕ). EndsByCode o (cmds.Purge name false) (written_by b.tables.writer) (written_by c.tables.writer)) (sym none) (ap (λ (t : Tables). written_by t.writer) same)

-- what a look found ends the command
module _ (serial : ℕ) (scan : Scan) (name : AtomId) where
  pub clear_soft : (known new : WriterView) (killed : Bool) (r : Result CommandStep NoMemory) → scan ≡ scans.Clear killed → IfOk r (λ step. IsCodeDropped serial known new) → IfOk r (λ step. IsEndedBy serial scan known new (cmds.SoftPurge name None))
  clear_soft known new killed (Ok step) is h = subst (λ x. IsEndedBy serial x known new (cmds.SoftPurge name None)) (sym is) h
  clear_soft known new killed (Err fault) is h = tt

  pub clear_whole : (known new : WriterView) (killed : Bool) (r : Result CommandStep NoMemory) → scan ≡ scans.Clear killed → IfOk r (λ step. IsCodeDropped serial known new) → IfOk r (λ step. IsEndedBy serial scan known new (cmds.Purge name killed))
  clear_whole known new killed (Ok step) is h = subst (λ x. IsEndedBy serial x known new (cmds.Purge name killed)) (sym is) (refl, h)
  clear_whole known new killed (Err fault) is h = tt

  pub named_soft : (known : WriterView) (m c : WordBook) (process turn place word : ℕ) (l : Linger) (r : Result CommandStep NoMemory) → scan ≡ scans.Named process turn place word → IsLingerKept serial process turn known (written_by m.tables.writer) l → c.tables ≡ m.tables
      → IfOk r (λ step. IsEndedBy serial scan known (written_by c.tables.writer) (cmds.SoftPurge name (Some l)))
  named_soft known m c process turn place word l (Ok step) is kept same =
      subst (λ x. IsEndedBy serial x known (written_by c.tables.writer) (cmds.SoftPurge name (Some l))) (sym is)
      (subst (λ (t : Tables). IsLingerKept serial process turn known (written_by t.writer) l) (sym same) kept)
  named_soft known m c process turn place word l (Err fault) is kept same = tt

-- what was found, by the scan's case
pub found_as : (w : WriterView) (serial : ℕ) (scan is : Scan) → scan ≡ is → HasLooked serial w scan → HasLooked serial w is
found_as w serial scan is same looked = subst (HasLooked serial w) same looked

-- the answer that was kept is one of the newest generation still
pub kept_still : (b m : WordBook) (serial : ℕ) (l : Linger) → JustLooks b m → HasLingering (written_by m.tables.writer).looks serial (newest_number (written_by b.tables.writer).published) l → HasLingering (written_by m.tables.writer).looks serial (newest_number (written_by m.tables.writer).published) l
kept_still b m serial l looks h = subst (λ n. HasLingering (written_by m.tables.writer).looks serial n l) (sym (ap newest_number looks.published)) h

-- ---- an end that leaves the server

pub quiet_end : (names : List Mfa) (table : TableId) (opening : Opening) (b : WordBook) (plain : Book) (who : ℕ) (cmd : Cmd) (answer : Applied) → IsWordBook names table opening b → b.waiting ≡ None → IsBook plain → EndsNext (shown b.plain) who cmd → command_ended (shown b.plain) who cmd ≡ Some (record { state = shown plain; answer = answer })
    → LeavesServer b.plain.script.modules b.plain.server cmd → IsToldBy b.plain.server (written_by b.tables.writer) (written_by b.tables.writer).looks cmd → SpawnsNone cmd → IsWordBook names table opening (record b { plain = plain; look = None })
quiet_end names table opening b plain who cmd answer known none book ends step leaves told spawnless =
    let e = was_ended (shown b.plain) (shown plain) who cmd answer step in
    let left = leaves e.outcome e.applied in
    let entry : Entry = record { who = Loader who; cmd = cmd; reply = e.outcome.answer.reply; published = e.outcome.answer.published } in
    let script : plain.script ≡ b.plain.script = ap (λ (x : PermitState). x.script) e.state in
    let journal : plain.journal ≡ b.plain.journal ++ entry ∷ [] = ap (λ (x : PermitState). x.journal) e.state in
    let server : plain.server ≡ b.plain.server = ap (λ (x : PermitState). x.server) e.state ∙ left.0 in
    let w = written_by b.tables.writer in
    let tells : IsAnswerKept (newest_state b.plain.script.modules empty_state b.plain.journal) (published_count b.plain.journal) w.looks cmd =
    subst (λ s. IsAnswerKept s (published_count b.plain.journal) w.looks cmd) known.has.book.permit.log.server_is
    (subst (λ n. IsAnswerKept b.plain.server n w.looks cmd) (omega (arith, known.has.published.many)) told) in
    record {
      has = record {
        book = book;
        texts = subst (λ (x : Script). All (IsNumbered names) x.modules) (sym script) known.has.texts;
        tables = known.has.tables;
        exports = known.has.exports;
        published = subst (λ (x : Script). ArePublished names x.modules plain.journal w.published) (sym script)
            (subst (λ js. ArePublished names b.plain.script.modules js w.published) (sym journal)
            (published_same names b.plain.script.modules b.plain.journal entry known.has.book.permit.log.replays w.published known.has.published (counts_none entry left.1)));
        notes = subst (λ (x : Script). AreThoseSpawned x plain.journal w.notes) (sym script)
            (subst (λ js. AreThoseSpawned b.plain.script js w.notes) (sym journal) (those_later b.plain.script b.plain.journal entry w.notes spawnless known.has.notes));
        answered = subst (λ (x : Script). AnswersAgree x.modules plain.journal w.looks) (sym script)
            (subst (λ js. AnswersAgree b.plain.script.modules js w.looks) (sym journal) (agree_joined b.plain.script.modules b.plain.journal entry w.looks w.looks known.has.answered (grows_same w.looks) (λ d among. inl among) tells));
        awaited = known.has.awaited;
      };
      words = subst (WordsStand names (shown plain) b.tables) (sym none)
          (rests_by names plain.holder plain.server b.tables (free_no_trace plain.holder (ap (λ (x : PermitState). x.holder) e.state))
          (subst (λ s. AreAtRest names s b.tables) (sym server) (at_rest names (shown b.plain) b.tables b.waiting none (ends_no_trace (shown b.plain) who cmd ends) known.words)));
      looked = tt;
    }

-- ---- what the calls leave together

pub append_none : {X : Type 0} (xs : List X) → xs ++ [] ≡ xs
append_none [] = refl
append_none (x ∷ xs) = ap (λ ys. x ∷ ys) (append_none xs)

pub grown_same : (b c : Book) → shown c ≡ shown b → HasGrown b c
grown_same b c same = record {
  script = ap (λ (x : PermitState). x.script) same;
  more = [];
  journal = ap (λ (x : PermitState). x.journal) same ∙ sym (append_none b.journal);
  done = λ loader. subst (λ ls. done_of b.loaders.items loader ≤ done_of ls loader) (sym (ap (λ (x : PermitState). x.loaders) same)) (omega arith);
}

-- what a doom left
record Doomed (p : PermitState) (who : ℕ) (q : PermitState) : Type 0 where
  pub entry : Entry
  pub script : q.script ≡ p.script
  pub journal : q.journal ≡ p.journal ++ entry ∷ []
  pub loaders : q.loaders ≡ p.loaders

was_doomed : (p q : PermitState) (who : ℕ) (name : AtomId) → doomed_by p who name ≡ Some q → Doomed p who q
was_doomed p q who name h = by (apply_of p.script.modules p.server (cmds.Doom name)) h
  where
    by : (o : Option Outcome) → option_map {U = PermitState} (λ (s : PermitStep). record (s.state) { holder = Purging who name }) (option_map {U = PermitStep} (λ x. record { state = joined p (Loader who) (cmds.Doom name) x; answer = x.answer }) o) ≡ Some q → Doomed p who q
    by None g = absurd (none-some q g)
    by (Some x) g =
        let is = same_Some (record (joined p (Loader who) (cmds.Doom name) x) { holder = Purging who name }) q g in
        record {
          entry = record { who = Loader who; cmd = cmds.Doom name; reply = x.answer.reply; published = x.answer.published };
          script = ap (λ (y : PermitState). y.script) (sym is);
          journal = ap (λ (y : PermitState). y.journal) (sym is);
          loaders = ap (λ (y : PermitState). y.loaders) (sym is);
        }

grown_doomed : (b c : Book) (who : ℕ) (name : AtomId) → doomed_by (shown b) who name ≡ Some (shown c) → HasGrown b c
grown_doomed b c who name h =
    let d = was_doomed (shown b) (shown c) who name h in
    record {
      script = d.script;
      more = d.entry ∷ [];
      journal = d.journal;
      done = λ loader. subst (λ ls. done_of b.loaders.items loader ≤ done_of ls loader) (sym d.loaders) (omega arith);
    }

pub grown_by : (who : ℕ) (b c : WordBook) (step : CommandStep) → PurgeAnswers who b c step → HasGrown b.plain c.plain
grown_by who b c (Done applied) h = ended_grown b.plain c.plain who h.cmd applied h.ended.step
grown_by who b c (NotYet answer) h = by h.since
  where
    by : (HasBegun who b × StillWaits b c answer.need) ⊎ HasDoomedCode who b c → HasGrown b.plain c.plain
    by (inl still) = grown_same b.plain c.plain still.1.same
    by (inr doomed) = grown_doomed b.plain c.plain who doomed.name doomed.doomed
grown_by who b c AwaitRelease h = absurd h
grown_by who b c (Lingers process turn place word) h = grown_same b.plain c.plain h.same

pub grown_given : (b c : WordBook) → HasGivenUp b c → HasGrown b.plain c.plain
grown_given b c h = record {
  script = ap (λ (x : PermitState). x.script) h.same;
  more = [];
  journal = ap (λ (x : PermitState). x.journal) h.same ∙ sym (append_none b.plain.journal);
  done = λ loader. subst (λ ls. done_of b.plain.loaders.items loader ≤ done_of ls loader) (sym (ap (λ (x : PermitState). x.loaders) h.same)) (omega arith);
}
