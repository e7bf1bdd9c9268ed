-- The counter is loaded, or slots are looked through: what stood for the server stands still.
use Rattle.std.proofs.Common.{◌≡◌, ℕ, List, Option, Some, None, IfSome, refl, sym, ap, subst}
use Rattle.atomic_table.specs.Seated.{TableId}
use Rattle.prgr_core.specs.declared.member.Retirement.{Retirement}
use Rattle.term_core.specs.declared.area.AreaRef.{AreaRef}
use Rattle.term_core.specs.declared.atom.Mfa.{Mfa}
use Rattle.area_core.specs.declared.table.Published.{Published}
use Rattle.area_core.specs.Blocks.{Among}
use Rattle.marks.specs.declared.kept.DroppedArea.{DroppedArea}
use Rattle.marks.specs.declared.kept.LingeringFrame.{LingeringFrame}
use Rattle.marks.specs.declared.kept.WriterKept.{WriterKept}
use Rattle.shared_words.specs.declared.opening.Opening.{Opening}
use Rattle.shared_words.specs.declared.seats.Writer as writers
use Rattle.shared_words.specs.declared.view.NamedAnchor.{NamedAnchor}
use Rattle.shared_words.specs.declared.view.WriterView.{WriterView}
use Rattle.progress_words.specs.Needs.{HasLoadedCounter}
use Rattle.progress_words.specs.Tokens.{IsWriterOf, written_by}
use Rattle.anchors.specs.Scans.{LooksMore}
use Rattle.server_core.specs.declared.change.Change.{Change}
use Rattle.server_core.specs.ServerState.{ServerState}
use Rattle.breakpoints.proofs.Others.{counted_leaves}
use Rattle.code_index.specs.declared.index.Staging.{Staging}
use Rattle.code_index.specs.declared.index.Staging.TheVariants as staged_as
use Rattle.code_index.specs.Laws as indices
use Rattle.code_index.specs.Staging as indices_at
use Rattle.code_index.specs.Staging.{IsIndexOf, Stages}
use Rattle.term_table.specs.Laws as terms
use Rattle.term_table.specs.Tables.{GoesWith, IsTableOf, Terms}
use Rattle.literal_areas.specs.Laws as areas
use Rattle.literal_areas.specs.declared.areas.Areas.{Areas}
use Rattle.change_laws.specs.Changes.{Incoming, incoming}
use Rattle.staging.specs.declared.stage.Stage.{Stage}
use Rattle.staging.specs.declared.stage.Stage.TheVariants.{Untouched, Placed, Exported, Patching}
use Rattle.staging.specs.declared.tables.Tables.{Tables}
use Rattle.staging.specs.Placed.{ArePlaced}
use Rattle.staging.specs.Stages.{AreAtRest, AreSettling, HavePlaced, IsPatched, StageStands}
use Rattle.staging.specs.Standing.{StandFor}
use Rattle.staging.specs.Whose.{AreTablesOf}
use Rattle.staging.proofs.Known.{waits_same}
use Rattle.write_permit.specs.declared.holder.Holder.{Holder}
use Rattle.write_permit.specs.declared.holder.Holder.TheVariants.{Free, Held, Purging, Tracing}
use Rattle.write_permit.specs.Book.{shown}
use Rattle.write_permit.specs.Permit.{PermitState}
use Rattle.run_law.specs.Published.{ArePublished}
use Rattle.word_permit.specs.declared.book.AreaNeed.{AreaNeed}
use Rattle.word_permit.specs.declared.book.Waiting.{Waiting}
use Rattle.word_permit.specs.declared.book.WordBook.{WordBook}
use Rattle.word_permit.specs.Books.{IsWordBook}
use Rattle.word_permit.specs.Looks.{IsLookTaken}
use Rattle.word_permit.specs.Needs.{IsAwaited}
use Rattle.word_permit.specs.Notes.{AreThoseSpawned}
use Rattle.word_permit.specs.Waiting.{RestsBy, WordsStand}
use Rattle.word_permit.proofs.Answered.{KeepsAnswers, agree_more}
use Rattle.word_permit.proofs.Awaiting.{need_still, waits_loaded}
use Rattle.word_permit.proofs.Looked.{if_loaded, if_still}
use Rattle.word_permit.proofs.Patches.{patch_left, patch_looked}

-- ---- the words

module _ (pairs : List Retirement) (counter : ℕ) (looks : WriterKept) (named : List NamedAnchor) (w : WriterView) where
  abbrev now : WriterView
  now = record w { pairs = pairs; counter = counter; looks = looks; named = named }

  stands_now : (names : List Mfa) (s : ServerState) (pools : Areas) → StandFor names s pools w → StandFor names s pools now
  stands_now names s pools h = record {
    newest_is = h.newest_is;
    numbered = h.numbered;
    keys_once = h.keys_once;
    knows = h.knows;
    narrow = h.narrow;
    bp = h.bp;
    listed = h.listed;
    stay = h.stay;
    blocks = h.blocks;
    placed = h.placed;
    images = h.images;
    words = record { retire = h.words.retire; since = h.words.since; free = h.words.free; doom = h.words.doom };
    dropped = h.dropped;
  }

  placed_now : (comes : List Incoming) (rest pools : Areas) (taken : List AreaRef) → ArePlaced comes rest pools w taken → ArePlaced comes rest pools now taken
  placed_now comes rest pools taken h = record {
    few = h.few;
    taken_are = h.taken_are;
    pools_are = h.pools_are;
    each = λ place i area comes_in took.
        let x = h.each place i area comes_in took in
        record { small = x.small; first = x.first; last = x.last; room = x.room; unpublished = record { listed = x.unpublished.listed; kept = x.unpublished.kept }; written = x.written };
  }

-- the writer has loaded the counter or words of slots, and nothing else
abbrev pub IsQuiet : WriterView → WriterView → Type 0
IsQuiet old new = new ≡ record old { pairs = new.pairs; counter = new.counter; looks = new.looks; named = new.named }

pub quiet_loaded : (old new : WriterView) → HasLoadedCounter old new → IsQuiet old new
quiet_loaded old new loaded = subst (IsQuiet old) (sym loaded.view) refl

pub quiet_looked : (old new : WriterView) (looks : WriterKept) (named : List NamedAnchor) → new ≡ record old { looks = looks; named = named } → IsQuiet old new
quiet_looked old new looks named is = subst (IsQuiet old) (sym is) refl

-- ---- the tables

abbrev pub with_writer : Tables → writers.Writer → Tables
with_writer t writer = record t { writer = writer }

module _ (names : List Mfa) (s : ServerState) (t : Tables) (writer : writers.Writer) (quiet : IsQuiet (written_by t.writer) (written_by writer))
    (staged : (p : Published) → Stages t.index p (written_by t.writer) → Stages t.index p (written_by writer)) where
  abbrev before : WriterView
  before = written_by t.writer

  abbrev after : WriterView
  after = written_by writer

  rest_quiet : AreAtRest names s t → AreAtRest names s (with_writer t writer)
  rest_quiet h = record {
    stands = subst (StandFor names s t.pools) (sym quiet) (stands_now after.pairs after.counter after.looks after.named before names s t.pools h.stands);
    staged = record { index = h.staged.index; terms = h.staged.terms; patch = h.staged.patch };
  }

  settling_quiet : AreSettling names s t → AreSettling names s (with_writer t writer)
  settling_quiet h = record {
    stands = subst (StandFor names s t.pools) (sym quiet) (stands_now after.pairs after.counter after.looks after.named before names s t.pools h.stands);
    index = h.index;
    terms = h.terms;
    patch = h.patch;
    is = h.is;
    behind = h.behind;
  }

  by_quiet : (holder : Holder) → RestsBy names holder s t → RestsBy names holder s (with_writer t writer)
  by_quiet Free h = rest_quiet h
  by_quiet (Held by) h = rest_quiet h
  by_quiet (Purging by name) h = rest_quiet h
  by_quiet (Tracing by generation) h = record { settling = settling_quiet h.settling; room = h.room }

  patched_quiet : (change : Change) → IsPatched names s change t → IsPatched names s change (with_writer t writer)
  patched_quiet change h = record {
    stands = subst (StandFor names s t.pools) (sym quiet) (stands_now after.pairs after.counter after.looks after.named before names s t.pools h.stands);
    index = h.index;
    terms = h.terms;
    patch = h.patch;
    is = h.is;
    of = h.of;
    before = h.before;
  }

  areas_quiet : (change : Change) (taken : List AreaRef) → HavePlaced names s change t taken → HavePlaced names s change (with_writer t writer) taken
  areas_quiet change taken h = record {
    rest = h.rest;
    stands = subst (StandFor names s h.rest) (sym quiet) (stands_now after.pairs after.counter after.looks after.named before names s h.rest h.stands);
    placed = subst (λ v. ArePlaced (incoming change) h.rest t.pools v taken) (sym quiet) (placed_now after.pairs after.counter after.looks after.named before (incoming change) h.rest t.pools taken h.placed);
    terms = h.terms;
    patch = h.patch;
  }

  stage_quiet : (change : Change) (stage : Stage) → StageStands names s change t stage → StageStands names s change (with_writer t writer) stage
  stage_quiet change Untouched h = rest_quiet h
  stage_quiet change (Placed areas) h = (areas_quiet change areas.items h.0, h.1)
  stage_quiet change (Exported areas) h = record {
    code = h.code;
    placed = areas_quiet change areas.items h.placed;
    whole = h.whole;
    exported = λ p upcoming. staged p (h.exported p upcoming);
  }
  stage_quiet change Patching h = patched_quiet change h

words_quiet : (names : List Mfa) (p : PermitState) (t : Tables) (writer : writers.Writer) (o : Option Waiting) → IsQuiet (written_by t.writer) (written_by writer)
    → ((q : Published) → Stages t.index q (written_by t.writer) → Stages t.index q (written_by writer)) → WordsStand names p t o → WordsStand names p (with_writer t writer) o
words_quiet names p t writer None quiet staged h = by_quiet names p.server t writer quiet staged p.holder h
words_quiet names p t writer (Some w) quiet staged h = record {
  who = h.who;
  holder = h.holder;
  decided = h.decided;
  staged = h.staged;
  stands = stage_quiet names p.server t writer quiet staged w.decision.change w.stage h.stands;
}

-- ---- the book

-- with another value to wait for, or none
pub book_quiet : (names : List Mfa) (table : TableId) (opening : Opening) (b : WordBook) (writer : writers.Writer) (o : Option AreaNeed) (l : Option ℕ) → IsWordBook names table opening b → AreTablesOf table opening (with_writer b.tables writer)
    → IsQuiet (written_by b.tables.writer) (written_by writer) → ((q : Published) → Stages b.tables.index q (written_by b.tables.writer) → Stages b.tables.index q (written_by writer))
    → KeepsAnswers (written_by b.tables.writer).looks (written_by writer).looks → IfSome o (IsAwaited (written_by writer)) → IfSome l (IsLookTaken (written_by writer)) → IsWordBook names table opening (record b { tables = with_writer b.tables writer; need = o; look = l })
book_quiet names table opening b writer o l h tables quiet staged answers awaited looked = record {
  has = record {
    book = h.has.book;
    texts = h.has.texts;
    tables = tables;
    exports = h.has.exports;
    published = subst (λ (v : WriterView). ArePublished names b.plain.script.modules b.plain.journal v.published) (sym quiet) h.has.published;
    notes = subst (λ (v : WriterView). AreThoseSpawned b.plain.script b.plain.journal v.notes) (sym quiet) h.has.notes;
    answered = agree_more b.plain.script.modules b.plain.journal (written_by b.tables.writer).looks (written_by writer).looks h.has.answered answers;
    awaited = awaited;
  };
  words = words_quiet names (shown b.plain) b.tables writer b.waiting quiet staged h.words;
  looked = looked;
}

-- ---- the counter is loaded

answers_same : (old new : WriterKept) → new ≡ old → KeepsAnswers old new
answers_same old new is = record {
  grows = record {
    dropped = λ d had. subst (λ (k : WriterKept). Among k.dropped d) (sym is) had;
    lingering = λ l had. subst (λ (k : WriterKept). Among k.lingering l) (sym is) had;
  };
  none = λ d has. subst (λ (k : WriterKept). Among k.dropped d) is has;
}

module _ (names : List Mfa) (table : TableId) (opening : Opening) (b : WordBook) (writer : writers.Writer) (known : IsWordBook names table opening b) (by_index : indices.KeptByCounters) (by_terms : terms.KeptByCounters) (by_pools : areas.KeptByCounters)
    (token : IsWriterOf table opening writer) (loaded : HasLoadedCounter (written_by b.tables.writer) (written_by writer)) where
  pub book_loaded : (o : Option AreaNeed) (l : Option ℕ) → IfSome o (IsAwaited (written_by writer)) → IfSome l (IsLookTaken (written_by writer)) → IsWordBook names table opening (record b { tables = with_writer b.tables writer; need = o; look = l })
  book_loaded o l awaited looked =
      let index = by_index b.tables.index (written_by b.tables.writer) (written_by writer) loaded in
      let keys = by_terms b.tables.terms (written_by b.tables.writer) (written_by writer) loaded in
      book_quiet names table opening b writer o l known
      (record {
        token = token;
        index = index.owned known.has.tables.index;
        terms = keys.owned known.has.tables.terms;
        pools = by_pools b.tables.pools (written_by b.tables.writer) (written_by writer) loaded known.has.tables.pools;
        patch = patch_left b.tables.patch (written_by b.tables.writer) (written_by writer) (counted_leaves (written_by b.tables.writer) (written_by writer) loaded) known.has.tables.patch;
      })
      (quiet_loaded (written_by b.tables.writer) (written_by writer) loaded) index.staged (answers_same (written_by b.tables.writer).looks (written_by writer).looks (ap (λ (w : WriterView). w.looks) loaded.view)) awaited looked

  -- what is waited for before a look is so still
  pub look_asked : IfSome b.look (IsLookTaken (written_by writer))
  look_asked = if_loaded (written_by b.tables.writer) (written_by writer) b.look loaded known.looked

  need_asked : IfSome b.need (IsAwaited (written_by writer))
  need_asked = need_still (written_by b.tables.writer) (written_by writer) b.need (waits_loaded (written_by b.tables.writer) (written_by writer) loaded) (ap (λ (w : WriterView). w.published) loaded.view) known.has.awaited

  -- and so is all that is waited for
  pub book_asked : IsWordBook names table opening (record b { tables = with_writer b.tables writer })
  book_asked = book_loaded b.need b.look need_asked look_asked

  -- with another value to wait for before a look
  pub book_looking : (l : Option ℕ) → IfSome l (IsLookTaken (written_by writer)) → IsWordBook names table opening (record b { tables = with_writer b.tables writer; look = l })
  book_looking l looked = book_loaded b.need l need_asked looked

-- ---- slots are looked through

module _ (w : WriterView) (looks : WriterKept) (named : List NamedAnchor) where
  abbrev looked : WriterView
  looked = record w { looks = looks; named = named }

  goes_looked : (x : Staging) → indices_at.GoesWith x w → indices_at.GoesWith x looked
  goes_looked staged_as.Nothing goes = goes
  goes_looked (staged_as.Staged block) goes = goes
  goes_looked (staged_as.Committing block need) goes = goes

  index_looked : (x : Staging) → IsIndexOf x w → IsIndexOf x looked
  index_looked x own = record { all = own.all; areas = own.areas; fits = own.fits; active = own.active; free = own.free; staged = goes_looked x own.staged }

  stages_looked : (x : Staging) (p : Published) → Stages x p w → Stages x p looked
  stages_looked staged_as.Nothing p stages = stages
  stages_looked (staged_as.Staged block) p stages = stages
  stages_looked (staged_as.Committing block need) p stages = stages

  staged_looked : (staged : Option ℕ) → GoesWith staged w → GoesWith staged looked
  staged_looked None goes = goes
  staged_looked (Some table) goes = goes

  table_looked : (t : Terms) → IsTableOf t w → IsTableOf t looked
  table_looked t own = record {
    all = own.all;
    long = own.long;
    areas = own.areas;
    fits = own.fits;
    table = own.table;
    active = own.active;
    counted = own.counted;
    past = λ table g p fits differ at is. let past = own.past table g p fits differ at is in record { generation = past.generation; taken = past.taken; before = past.before };
    staged = staged_looked t.staged own.staged;
  }

module _ (names : List Mfa) (table : TableId) (opening : Opening) (b : WordBook) (writer : writers.Writer) (known : IsWordBook names table opening b) (by_pools : areas.KeptByLooks) (token : IsWriterOf table opening writer) where
  abbrev looked_from : WriterView
  looked_from = written_by b.tables.writer

  abbrev looked_to : WriterView
  looked_to = written_by writer

  -- the writer knows more of looks alone
  pub book_found : looked_to ≡ record looked_from { looks = looked_to.looks; named = looked_to.named } → KeepsAnswers looked_from.looks looked_to.looks → IsWordBook names table opening (record b { tables = with_writer b.tables writer })
  book_found same answers =
      book_quiet names table opening b writer b.need b.look known
      (record {
        token = token;
        index = subst (IsIndexOf b.tables.index) (sym same) (index_looked looked_from looked_to.looks looked_to.named b.tables.index known.has.tables.index);
        terms = subst (IsTableOf b.tables.terms) (sym same) (table_looked looked_from looked_to.looks looked_to.named b.tables.terms known.has.tables.terms);
        pools = by_pools b.tables.pools looked_from looked_to same known.has.tables.pools;
        patch = patch_looked b.tables.patch looked_from looked_to same known.has.tables.patch;
      })
      (quiet_looked looked_from looked_to looked_to.looks looked_to.named same)
      (λ q staged. subst (Stages b.tables.index q) (sym same) (stages_looked looked_from looked_to.looks looked_to.named b.tables.index q staged))
      answers
      (need_still looked_from looked_to b.need (waits_same looked_from looked_to (ap (λ (w : WriterView). w.pairs) same)) (ap (λ (w : WriterView). w.published) same) known.has.awaited)
      (if_still looked_from looked_to b.look (ap (λ (w : WriterView). w.pairs) same) (ap (λ (w : WriterView). w.published) same) known.looked)

pub book_looked : (names : List Mfa) (table : TableId) (opening : Opening) (b : WordBook) (writer : writers.Writer) → IsWordBook names table opening b → areas.KeptByLooks → IsWriterOf table opening writer → LooksMore (written_by b.tables.writer) (written_by writer)
    → IsWordBook names table opening (record b { tables = with_writer b.tables writer })
book_looked names table opening b writer known by_pools token more =
    book_found names table opening b writer known by_pools token more.same
    (record {
      grows = record {
        dropped = λ d had. subst (λ (ds : List DroppedArea). Among ds d) (sym more.dropped) had;
        lingering = λ l had. subst (λ (ls : List LingeringFrame). Among ls l) (sym more.lingering) had;
      };
      none = λ d has. subst (λ (ds : List DroppedArea). Among ds d) more.dropped has;
    })
