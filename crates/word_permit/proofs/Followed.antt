-- How the loader that has the permission goes on: what its book is before and after.
use Rattle.std.proofs.Common.{◌≡◌, ◌⊎◌, inl, inr, ℕ, ◌≤◌, List, [], Option, Some, None, IfSome, IsSomeAnd, IfOk, OnErr, Result, Ok, Err, refl, sym, ap, subst, ◌∙◌}
use Rattle.std.proofs.lemmas.Option.{same_Some}
use Rattle.atomic_table.specs.Seated.{TableId}
use Rattle.term_core.specs.declared.atom.AtomId.{AtomId}
use Rattle.term_core.specs.declared.atom.Mfa.{Mfa}
use Rattle.term_core.specs.declared.no_memory.NoMemory.{NoMemory}
use Rattle.shared_words.specs.declared.opening.Opening.{Opening}
use Rattle.progress_words.specs.declared.answers.NotYet as late
use Rattle.progress_words.specs.Tokens.{written_by}
use Rattle.server_core.specs.declared.change.Change.{Change}
use Rattle.server_core.specs.declared.change.Change.TheVariants.{Nothing}
use Rattle.server_core.specs.declared.command.Cmd.{Cmd}
use Rattle.server_core.specs.CommandTable.{apply_of}
use Rattle.server_core.specs.Decided.{Fits, change_made}
use Rattle.server_core.specs.ServerState.{ServerState}
use Rattle.script_core.specs.declared.script.ScriptCmd.{ScriptCmd}
use Rattle.script_core.specs.declared.script.ScriptCmd.TheVariants.{Purge}
use Rattle.staging.specs.declared.tables.Tables.{Tables}
use Rattle.staging.specs.Stages.{AreAtRest, IsStaged, StageStands, stage_number}
use Rattle.staging.specs.Traced.{IsPatchLate, IsTraceChange}
use Rattle.write_permit.specs.declared.book.Book.{Book}
use Rattle.write_permit.specs.declared.holder.Holder.TheVariants.{Free, Held}
use Rattle.write_permit.specs.Book.{IsBook, PurgeWaits, shown}
use Rattle.write_permit.specs.Permit.{PermitState, entered_trace, given_up, holder_of, next_of, command_opening}
use Rattle.write_permit.proofs.EndBooks.{book_given}
use Rattle.word_permit.specs.declared.answers.CommandStep.{CommandStep}
use Rattle.word_permit.specs.declared.answers.CommandStep.TheVariants.{Done, NotYet, AwaitRelease, Lingers}
use Rattle.word_permit.specs.declared.book.Decision.{Decision}
use Rattle.word_permit.specs.declared.book.Waiting.{Waiting}
use Rattle.word_permit.specs.declared.book.WordBook.{WordBook}
use Rattle.word_permit.specs.Books.{AwaitsPatch, HasEntered, HasGivenUp, HasItsTables, HasTakenBack, IsWordBook, JoinsUnpublished, OpAnswers, StageGoesOn, StillSettles, with_holder}
use Rattle.word_permit.specs.Waiting.{GoesOverWords, IsDecided, IsWaiting, LeavesState, WordsStand}
use Rattle.word_permit.proofs.Calls.{has_joined, joins_quietly, no_look, none_before, those_joined}
use Rattle.word_permit.proofs.Resting.{IsNoTrace, free_no_trace, none_waiting, rest_by, rests_by, rests_given}

-- ---- the command that waits is taken out of the book

abbrev with_waiting : WordBook → Option Waiting → WordBook
with_waiting b waiting = record b { waiting = waiting }

pub has_without : (names : List Mfa) (table : TableId) (command_opening : Opening) (b : WordBook) (o : Option Waiting) → HasItsTables names table command_opening b → HasItsTables names table command_opening (with_waiting b o)
has_without names table command_opening b o had = record { book = had.book; texts = had.texts; tables = had.tables; exports = had.exports; published = had.published; notes = had.notes; answered = had.answered; awaited = had.awaited }

-- what the words are about, where nothing waits
pub at_rest : (names : List Mfa) (p : PermitState) (t : Tables) (o : Option Waiting) → o ≡ None → IsNoTrace p.holder → WordsStand names p t o → AreAtRest names p.server t
at_rest names p t o is untraced h = rest_by names p.holder p.server t untraced (none_waiting names p t o is h)

-- and where a command does
pub record WaitsFor (names : List Mfa) (p : PermitState) (t : Tables) (who : ℕ) (w : Waiting) : Type 0 where
  pub decided : IsDecided p who w.decision
  pub staged : IsStaged w.decision.change ⊎ IsTraceChange w.decision.change
  pub stands : StageStands names p.server w.decision.change t w.stage

held_same : (a b : ℕ) → Held a ≡ Held b → a ≡ b
held_same a b e = same_Some a b (ap holder_of e)

pub waits_for : (names : List Mfa) (p : PermitState) (t : Tables) (o : Option Waiting) (who : ℕ) (w : Waiting) → p.holder ≡ Held who → o ≡ Some w → WordsStand names p t o → WaitsFor names p t who w
waits_for names p t o who w held is h =
    let k : IsWaiting names p t w = subst (WordsStand names p t) is h in
    record {
      decided = subst (λ n. IsDecided p n w.decision) (held_same k.who who (sym k.holder ∙ held)) k.decided;
      staged = k.staged;
      stands = k.stands;
    }

-- that a trace waits for its patch speaks of no command that waited before
patch_waits : (who : ℕ) (a b c : WordBook) (answer : late.NotYet) → b.plain ≡ a.plain → b.tables ≡ a.tables → AwaitsPatch who a c answer → AwaitsPatch who b c answer
patch_waits who a b c answer plain tables h = record { late = subst (λ (x : Tables). IsPatchLate x c.tables answer) (sym tables) h.late; none = h.none; since = by h.since }
  where
    by : StillSettles who a c ⊎ HasEntered who a c → StillSettles who b c ⊎ HasEntered who b c
    by (inl still) = inl (record {
      generation = still.generation;
      holds = ap (λ (x : Book). x.holder) plain ∙ still.holds;
      same = still.same ∙ ap shown (sym plain);
      published = still.published ∙ ap (λ (x : Tables). (written_by x.writer).published) (sym tables);
    })
    by (inr entered) = inr (record {
      target = entered.target;
      on = entered.on;
      holds = ap (λ (x : Book). x.holder) plain ∙ entered.holds;
      next = ap (λ (x : Book). next_of (shown x) who) plain ∙ entered.next;
      entered = ap (λ (x : Book). entered_trace (shown x) who entered.target entered.on) plain ∙ entered.entered;
    })

-- a change that waits and is not one of what is traced goes by stages
pub staged_left : (change : Change) → IsStaged change ⊎ IsTraceChange change → (IsTraceChange change → ⊥) → IsStaged change
staged_left change (inl staged) other = staged
staged_left change (inr trace) other = absurd (other trace)

-- what is said of a step speaks of the command that waited before by its decision and its stage alone
answers_without : (who : ℕ) (b : WordBook) (o : Option Waiting) (c : WordBook) (step : CommandStep) → ((w : Waiting) → c.waiting ≡ Some w → IfSome b.waiting (λ before. w.decision ≡ before.decision)) → StageGoesOn b.waiting c.waiting → OpAnswers who (with_waiting b o) c step → OpAnswers who b c step
answers_without who b o c (Done applied) same on h = h
answers_without who b o c (NotYet answer) same on (inl h) =
    inl (record { same = h.same; published = h.published; waits = h.waits; forward = on; why = record { waiting = h.why.waiting; waits = h.why.waits; same = same h.why.waiting h.why.waits; late = h.why.late; placed = h.why.placed } })
answers_without who b o c (NotYet answer) same on (inr h) = inr (patch_waits who (with_waiting b o) b c answer refl refl h)
answers_without who b o c AwaitRelease same on h =
    record { same = h.same; published = h.published; waits = h.waits; forward = on; why = record { waiting = h.why.waiting; waits = h.why.waits; same = same h.why.waiting h.why.waits; lacks = h.why.lacks } }
answers_without who b o c (Lingers process turn place word) same on h = h

-- where none waited
pub answers_begun : (who : ℕ) (b : WordBook) (o : Option Waiting) (c : WordBook) (r : Result CommandStep NoMemory) → b.waiting ≡ None → IfOk r (OpAnswers who (with_waiting b o) c) → IfOk r (OpAnswers who b c)
answers_begun who b o c (Ok step) none h = answers_without who b o c step (λ w is. subst (λ (x : Option Waiting). IfSome x (λ before. w.decision ≡ before.decision)) (sym none) tt) (none_before b.waiting c.waiting none) h
answers_begun who b o c (Err fault) none h = tt

-- and where one waits on as it was decided
pub answers_waiting : (who : ℕ) (b : WordBook) (o : Option Waiting) (c : WordBook) (r : Result CommandStep NoMemory) (before : Waiting) → b.waiting ≡ Some before → IfOk r (λ step. IfSome c.waiting (λ w. w.decision ≡ before.decision))
    → IfOk r (λ step. IfSome c.waiting (λ w. stage_number before.stage ≤ stage_number w.stage)) → IfOk r (OpAnswers who (with_waiting b o) c) → IfOk r (OpAnswers who b c)
answers_waiting who b o c (Ok step) before waited decision forward h =
    answers_without who b o c step
    (λ w is. subst (λ (x : Option Waiting). IfSome x (λ v. w.decision ≡ v.decision)) (sym waited) (subst (λ (x : Option Waiting). IfSome x (λ v. v.decision ≡ before.decision)) is decision))
    (subst (λ (x : Option Waiting). StageGoesOn x c.waiting) (sym waited) forward) h
answers_waiting who b o c (Err fault) before waited decision forward h = tt

pub taken_without : (b : WordBook) (o : Option Waiting) (c : WordBook) → HasTakenBack (with_waiting b o) c → HasTakenBack b c
taken_without b o c h = record { same = h.same; published = h.published; none = h.none }

-- a look that was waited for is forgotten
pub unlooked : (names : List Mfa) (table : TableId) (command_opening : Opening) (b : WordBook) → IsWordBook names table command_opening b → IsWordBook names table command_opening (record b { look = None })
unlooked names table command_opening b known =
    let had = known.has in
    record {
      has = record { book = had.book; texts = had.texts; tables = had.tables; exports = had.exports; published = had.published; notes = had.notes; answered = had.answered; awaited = had.awaited };
      words = known.words;
      looked = tt;
    }

pub answers_unlooked : (who : ℕ) (b c : WordBook) (step : CommandStep) → OpAnswers who (record b { look = None }) c step → OpAnswers who b c step
answers_unlooked who b c (Done applied) h = h
answers_unlooked who b c (NotYet answer) (inl h) =
    inl (record { same = h.same; published = h.published; waits = h.waits; forward = h.forward; why = record { waiting = h.why.waiting; waits = h.why.waits; same = h.why.same; late = h.why.late; placed = h.why.placed } })
answers_unlooked who b c (NotYet answer) (inr h) = inr (patch_waits who (record b { look = None }) b c answer refl refl h)
answers_unlooked who b c AwaitRelease h =
    record { same = h.same; published = h.published; waits = h.waits; forward = h.forward; why = record { waiting = h.why.waiting; waits = h.why.waits; same = h.why.same; lacks = h.why.lacks } }
answers_unlooked who b c (Lingers process turn place word) h = h

pub taken_unlooked : (b c : WordBook) → HasTakenBack (record b { look = None }) c → HasTakenBack b c
taken_unlooked b c h = record { same = h.same; published = h.published; none = h.none }

-- ---- a command that begins

-- its command is one that is made over the words
pub goes_next : (o : Option ScriptCmd) (command : ScriptCmd) → o ≡ Some command → IsSomeAnd o GoesOverWords → GoesOverWords command
goes_next o command is h = subst (λ x. IsSomeAnd x GoesOverWords) is h

-- and no purge waits then
pub purging_apart : (p : PermitState) (n who : ℕ) (name : AtomId) → PurgeWaits p n name → n ≡ who → IsSomeAnd (next_of p who) GoesOverWords → ⊥
purging_apart p n who name holds own goes = goes_next (next_of p who) (Purge name) (ap (next_of p) (sym own) ∙ holds.next) goes

-- what was decided of it, put together
pub decided_all : (p : PermitState) (who : ℕ) (command : ScriptCmd) (cmd : Cmd) (r : Result Decision NoMemory) → next_of p who ≡ Some command → GoesOverWords command → cmd ≡ command_opening p.server [] command
    → IfOk r (λ d. Fits p.server d.change) → IfOk r (λ d. apply_of p.script.modules p.server cmd ≡ Some (change_made p.server d.change)) → IfOk r (λ d. (change_made p.server d.change).answer ≡ d.applied) → IfOk r (λ d. d.cmd ≡ cmd) → IfOk r (IsDecided p who)
decided_all p who command cmd (Ok d) next goes is fits given answer same = record {
  command = command;
  next = next;
  goes = goes;
  cmd_is = same ∙ is;
  fits = fits;
  given = ap (apply_of p.script.modules p.server) same ∙ given;
  answer = answer;
}
decided_all p who command cmd (Err fault) next goes is fits given answer same = tt

-- ---- a change that leaves the server's state

pub record Leaves (s : ServerState) (change : Change) : Type 0 where
  pub state : (change_made s change).state ≡ s
  pub published : (change_made s change).answer.published ≡ None

pub leaves_state : (s : ServerState) (change : Change) → LeavesState change → Leaves s change
leaves_state s (Nothing reply) h = record { state = refl; published = refl }
leaves_state s change h = absurd h

-- the book after it, where the words stay
pub ended_book : (names : List Mfa) (table : TableId) (command_opening : Opening) (b : WordBook) (plain : Book) → HasItsTables names table command_opening b → AreAtRest names b.plain.server b.tables → b.waiting ≡ None → b.look ≡ None → IsBook plain → plain.script ≡ b.plain.script
    → plain.holder ≡ Free → plain.server ≡ b.plain.server → JoinsUnpublished b.plain.journal plain.journal → IsWordBook names table command_opening (record b { plain = plain })
ended_book names table command_opening b plain had rest none look book script free server journal = record {
  has = has_joined names table command_opening b (record b { plain = plain }) _ _ had (those_joined b plain had.notes script journal) book script (joins_quietly b.plain.journal plain.journal journal) refl refl;
  words = subst (WordsStand names (shown plain) b.tables) (sym none) (rests_by names plain.holder plain.server b.tables (free_no_trace plain.holder free) (subst (λ s. AreAtRest names s b.tables) (sym server) rest));
  looked = no_look b look;
}

-- the book where want of memory came before any word was stored
pub refused_book : (names : List Mfa) (table : TableId) (command_opening : Opening) (b : WordBook) → HasItsTables names table command_opening b → IsNoTrace b.plain.holder → AreAtRest names b.plain.server b.tables → b.waiting ≡ None → b.look ≡ None → IsWordBook names table command_opening b
refused_book names table command_opening b had untraced rest none look = record {
  has = had;
  words = subst (WordsStand names (shown b.plain) b.tables) (sym none) (rests_by names b.plain.holder b.plain.server b.tables untraced rest);
  looked = no_look b look;
}

-- ---- the permission is given up

pub given_word_book : (names : List Mfa) (table : TableId) (command_opening : Opening) (m c : WordBook) → IsWordBook names table command_opening m → m.waiting ≡ None → c ≡ with_holder m (given_up m.plain.holder) → IsWordBook names table command_opening c
given_word_book names table command_opening m c known none is =
    let h = given_up m.plain.holder in
    subst (IsWordBook names table command_opening) (sym is)
    (record {
      has = record {
        book = book_given m.plain (record (m.plain) { holder = h }) h known.has.book refl refl refl;
        texts = known.has.texts;
        tables = known.has.tables;
        exports = known.has.exports;
        published = known.has.published;
        notes = known.has.notes;
        answered = known.has.answered;
        awaited = known.has.awaited;
      };
      words = subst (WordsStand names (record (shown m.plain) { holder = h }) m.tables) (sym none) (rests_given names m.plain.holder m.plain.server m.tables (none_waiting names (shown m.plain) m.tables m.waiting none known.words));
      looked = known.looked;
    })

pub given_up_by : (b m c : WordBook) → HasTakenBack b m → c ≡ with_holder m (given_up m.plain.holder) → HasGivenUp b c
given_up_by b m c taken is =
    subst (HasGivenUp b) (sym is)
    (record {
      same = ap (λ (x : PermitState). record x { holder = given_up x.holder }) taken.same;
      published = taken.published;
      none = taken.none;
    })

-- after want of memory too
pub err_without : (r : Result CommandStep NoMemory) (b : WordBook) (o : Option Waiting) (c : WordBook) → OnErr r (HasTakenBack (with_waiting b o) c) → OnErr r (HasTakenBack b c)
err_without (Ok step) b o c h = tt
err_without (Err fault) b o c h = taken_without b o c h

-- what is so anyway is so after want of memory
pub after_any : {T E P : Type 0} (r : Result T E) → P → OnErr r P
after_any (Ok x) h = tt
after_any (Err fault) h = h
