-- What is waited for: it was taken while the newest generation had the area retired, and stays known.
use Rattle.std.proofs.Common.{◌≡◌, ℕ, Result, Ok, Err, OnOk, ◌<◌, ◌≤◌, inl, inr, List, ◌++◌, length, slice_get, Option, Some, None, unwrap_or, IfSome, sym, ap, subst, ◌∙◌, arith}
use Rattle.std.specs.Prelude.{IsTrue}
use Rattle.std.proofs.lemmas.Bool.{false≢true}
use Rattle.std.proofs.lemmas.Option.{same_Some, slice_get-get_or}
use Rattle.atomic_table.specs.Seated.{TableId}
use Rattle.term_core.specs.declared.atom.Mfa.{Mfa}
use Rattle.term_core.specs.declared.generation.Generation.{Generation}
use Rattle.area_core.specs.declared.table.Published.{Published}
use Rattle.area_core.specs.Blocks.{Among}
use Rattle.area_core.specs.Generations as generations
use Rattle.area_core.specs.Step.{opening_published}
use Rattle.marks.specs.declared.kept.LookKind.TheVariants.{Both}
use Rattle.shared_words.specs.declared.opening.Opening.{Opening}
use Rattle.shared_words.specs.declared.view.WriterView.{WriterView}
use Rattle.shared_words.specs.Slots.{LookMayBegin}
use Rattle.shared_words.specs.Views.{newest_number}
use Rattle.shared_words.proofs.ShownMembers.{still_at}
use Rattle.progress_words.specs.declared.answers.NotYet.{NotYet}
use Rattle.progress_words.specs.Needs.{HasLoadedCounter, HasTaken, IsBelow}
use Rattle.progress_words.specs.Roots.{newest_of}
use Rattle.progress_words.specs.Tokens.{written_by}
use Rattle.breakpoints.specs.Patches.{LoadsCounter}
use Rattle.server_core.specs.declared.change.Change.{Change}
use Rattle.server_core.specs.ServerState.{ServerState, is_retired}
use Rattle.literal_areas.specs.declared.areas.Areas.{Areas}
use Rattle.staging.specs.declared.stage.Stage.{Stage}
use Rattle.staging.specs.declared.stage.Stage.TheVariants.{Untouched, Placed, Exported, Patching}
use Rattle.staging.specs.declared.tables.Tables.{Tables}
use Rattle.staging.specs.Stages.{StageStands}
use Rattle.staging.specs.Standing.{StandFor}
use Rattle.staging.specs.Whose.{KeepsWaits}
use Rattle.write_permit.specs.Book.{shown}
use Rattle.write_permit.specs.Permit.{PermitState}
use Rattle.word_permit.specs.declared.book.AreaNeed.{AreaNeed}
use Rattle.word_permit.specs.declared.book.Waiting.{Waiting}
use Rattle.word_permit.specs.declared.book.WordBook.{WordBook}
use Rattle.word_permit.specs.Books.{IsWordBook}
use Rattle.word_permit.specs.Needs.{IsAwaited}
use Rattle.word_permit.specs.Pumped.{IsAwaitedStill}
use Rattle.word_permit.specs.Waiting.{WordsStand}
use Rattle.word_permit.proofs.Resting.{stands_by}

-- ---- what is retired

-- what waits for its release is retired in the newest generation
newest_retired : (names : List Mfa) (s : ServerState) (pools : Areas) (w : WriterView) (serial : ℕ) → StandFor names s pools w → IsTrue (is_retired s serial) → IsTrue (generations.is_retired_area (newest_of w) serial)
newest_retired names s pools w serial stands waits =
    let shown = stands.newest_is in
    let was : IsTrue (is_retired shown.stood serial) = shown.since.fewer serial waits in
    elim shown.shows as (λ _. IsTrue (generations.is_retired_area (newest_of w) serial)) [
      | inl is ↦ subst (λ (g : Generation). IsTrue (generations.has_serial g.retired serial)) (sym is) was
      | inr first ↦ absurd (false≢true (subst (λ (t : ServerState). IsTrue (is_retired t serial)) first.1 was))
    ]

stage_retired : (names : List Mfa) (s : ServerState) (change : Change) (t : Tables) (stage : Stage) (serial : ℕ) → StageStands names s change t stage → IsTrue (is_retired s serial) → IsTrue (generations.is_retired_area (newest_of (written_by t.writer)) serial)
stage_retired names s change t Untouched serial h = newest_retired names s t.pools (written_by t.writer) serial h.stands
stage_retired names s change t (Placed areas) serial h = newest_retired names s h.0.rest (written_by t.writer) serial h.0.stands
stage_retired names s change t (Exported areas) serial h = newest_retired names s h.placed.rest (written_by t.writer) serial h.placed.stands
stage_retired names s change t Patching serial h = newest_retired names s t.pools (written_by t.writer) serial h.stands

pub words_retired : (names : List Mfa) (p : PermitState) (t : Tables) (o : Option Waiting) (serial : ℕ) → WordsStand names p t o → IsTrue (is_retired p.server serial) → IsTrue (generations.is_retired_area (newest_of (written_by t.writer)) serial)
words_retired names p t None serial h = newest_retired names p.server t.pools (written_by t.writer) serial (stands_by names p.holder p.server t h)
words_retired names p t (Some w) serial h = stage_retired names p.server w.decision.change t w.stage serial h.stands

-- ---- what is waited for

-- loads of the counter forget none
pub waits_loaded : (old new : WriterView) → HasLoadedCounter old new → KeepsWaits old new
waits_loaded old new loaded pair had = subst (λ (w : WriterView). Among w.pairs pair) (sym loaded.view) (had.0, still_at old.pairs _ had.0 pair had.1)

pub counter_rises : (old new : WriterView) → HasLoadedCounter old new → old.counter ≤ new.counter
counter_rises old new loaded = subst (λ (w : WriterView). old.counter ≤ w.counter) (sym loaded.view) loaded.rising

newest_at : (published : List Published) → 0 < length published → slice_get published (newest_number published) ≡ Some (unwrap_or (slice_get published (newest_number published)) opening_published)
newest_at published some =
    let at = slice_get-get_or published (newest_number published) opening_published (omega (arith, some)) in
    at ∙ ap Some (sym (ap (λ (o : Option Published). unwrap_or o opening_published) at))

-- a value that is taken now is waited for, for each area that is retired now
pub awaited_now : (old new : WriterView) (n : AreaNeed) → 0 < length old.published → HasLoadedCounter old new → HasTaken new (newest_number old.published) n.value → IsTrue (generations.is_retired_area (newest_of old) n.serial) → IsAwaited new n
awaited_now old new n some loaded taken retired = record {
  generation = newest_number old.published;
  taken = taken;
  published = newest_of old;
  at = ap (λ (w : WriterView). slice_get w.published (newest_number old.published)) loaded.view ∙ newest_at old.published some;
  retired = retired;
}

-- and stays so
pub awaited_on : (old new : WriterView) (more : List Published) (n : AreaNeed) → KeepsWaits old new → new.published ≡ old.published ++ more → IsAwaited old n → IsAwaited new n
awaited_on old new more n waits published h = record {
  generation = h.generation;
  taken = waits _ h.taken;
  published = h.published;
  at = ap (λ (ps : List Published). slice_get ps h.generation) published ∙ still_at old.published more h.generation h.published h.at;
  retired = h.retired;
}

-- where nothing is published
pub awaited_still : (old new : WriterView) (n : AreaNeed) → KeepsWaits old new → new.published ≡ old.published → IsAwaited old n → IsAwaited new n
awaited_still old new n waits published h = record {
  generation = h.generation;
  taken = waits _ h.taken;
  published = h.published;
  at = ap (λ (ps : List Published). slice_get ps h.generation) published ∙ h.at;
  retired = h.retired;
}

pub need_on : (old new : WriterView) (more : List Published) (o : Option AreaNeed) → KeepsWaits old new → new.published ≡ old.published ++ more → IfSome o (IsAwaited old) → IfSome o (IsAwaited new)
need_on old new more None waits published h = tt
need_on old new more (Some n) waits published h = awaited_on old new more n waits published h

pub need_still : (old new : WriterView) (o : Option AreaNeed) → KeepsWaits old new → new.published ≡ old.published → IfSome o (IsAwaited old) → IfSome o (IsAwaited new)
need_still old new None waits published h = tt
need_still old new (Some n) waits published h = awaited_still old new n waits published h

-- the one that is kept is such a value
pub need_at : (w : WriterView) (o : Option AreaNeed) (n : AreaNeed) → o ≡ Some n → IfSome o (IsAwaited w) → IsAwaited w n
need_at w o n is h = subst (λ (x : Option AreaNeed). IfSome x (IsAwaited w)) is h

-- once the value is reached, a look may begin
pub look_may_begin : (w : WriterView) (n : AreaNeed) → IsAwaited w n → n.value ≤ w.counter → LookMayBegin w Both n.serial
look_may_begin w n h reached = record {
  generation = h.generation;
  ended = record { need = n.value; kept = h.taken; reached = reached; published = h.published; at = h.at; gone = h.retired };
}

-- ---- as the calls tell it

-- a value is taken for an area of the server that is retired
pub need_taken : (names : List Mfa) (table : TableId) (opening : Opening) (b : WordBook) (new : WriterView) (n : AreaNeed) → IsWordBook names table opening b → IsTrue (is_retired b.plain.server n.serial) → HasLoadedCounter (written_by b.tables.writer) new
    → HasTaken new (newest_number (written_by b.tables.writer).published) n.value → IsAwaited new n
need_taken names table opening b new n known waits loaded taken =
    let many = known.has.published.many in
    awaited_now (written_by b.tables.writer) new n (omega (arith, many)) loaded taken (words_retired names (shown b.plain) b.tables b.waiting n.serial known.words waits)

-- the value is reached, and so a look may begin
pub reached_begins : {T : Type 0} (r : Result T NotYet) (old new : WriterView) (n : AreaNeed) → IsAwaited old n → HasLoadedCounter old new → OnOk r (n.value ≤ new.counter) → OnOk r (LookMayBegin new Both n.serial)
reached_begins (Ok x) old new n h loaded reached = look_may_begin new n (awaited_still old new n (waits_loaded old new loaded) (ap (λ (w : WriterView). w.published) loaded.view) h) reached
reached_begins (Err answer) old new n h loaded reached = tt

-- or the counter is below it, and the value is awaited still
pub told_late : (b m c : WordBook) (need : AreaNeed) (answer : NotYet) → m.need ≡ Some need → c.need ≡ m.need → IsTrue (is_retired b.plain.server need.serial) → IsAwaited (written_by c.tables.writer) need
    → ((before : AreaNeed) → b.need ≡ Some before → IsTrue (is_retired b.plain.server before.serial) → Some need ≡ Some before) → LoadsCounter (written_by b.tables.writer) (written_by c.tables.writer) → IsBelow need.value (written_by c.tables.writer) answer → IsAwaitedStill b c answer
told_late b m c need answer taken kept waits awaited same loads below = record {
  need = need;
  kept = kept ∙ taken;
  waits = waits;
  taken = awaited;
  same = λ before had retired. same_Some need before (same before had retired);
  value = below.asked;
  below = record { loads = loads; loaded = below.loaded; below = below.below };
}
