-- A note is split: what stood for the server stands still.
use Rattle.std.proofs.Common.{◌≡◌, ℕ, ◌⊎◌, inl, inr, List, Option, Some, None, IfSome, refl, sym, subst}
use Rattle.std.proofs.lemmas.Option.{none-some, same_Some}
use Rattle.atomic_table.specs.Seated.{TableId}
use Rattle.term_core.specs.declared.area.AreaRef.{AreaRef}
use Rattle.term_core.specs.declared.atom.Mfa.{Mfa}
use Rattle.shared_words.specs.declared.opening.Opening.{Opening}
use Rattle.shared_words.specs.declared.seats.Writer as writers
use Rattle.shared_words.specs.declared.view.WriterView.{WriterView}
use Rattle.shared_words.specs.Notes.{note_number, with_note}
use Rattle.progress_words.specs.Tokens.{IsWriterOf, written_by}
use Rattle.server_core.specs.declared.change.Change.{Change}
use Rattle.server_core.specs.ServerState.{ServerState}
use Rattle.code_index.specs.Laws as indices
use Rattle.code_index.specs.Staging.{IsIndexOf, Stages}
use Rattle.literal_areas.specs.declared.areas.Areas.{Areas}
use Rattle.literal_areas.specs.Laws as areas
use Rattle.literal_areas.specs.Owned.{AreOf}
use Rattle.term_table.specs.Laws as terms
use Rattle.term_table.specs.Tables.{IsTableOf}
use Rattle.change_laws.specs.Changes.{Incoming, incoming}
use Rattle.staging.specs.declared.stage.Stage.{Stage}
use Rattle.staging.specs.declared.stage.Stage.TheVariants.{Untouched, Placed, Exported, Patching}
use Rattle.staging.specs.declared.tables.Tables.{Tables}
use Rattle.staging.specs.Placed.{ArePlaced}
use Rattle.staging.specs.Stages.{AreAtRest, HavePlaced, IsPatched, StageStands}
use Rattle.staging.specs.Standing.{StandFor}
use Rattle.staging.specs.Whose.{AreTablesOf}
use Rattle.write_permit.specs.declared.holder.Holder.{Holder}
use Rattle.write_permit.specs.declared.holder.Holder.TheVariants.{Free, Held, Purging, Tracing}
use Rattle.write_permit.specs.Book.{shown}
use Rattle.write_permit.specs.Permit.{PermitState}
use Rattle.word_permit.specs.declared.book.Waiting.{Waiting}
use Rattle.word_permit.specs.declared.book.WordBook.{WordBook}
use Rattle.word_permit.specs.Answers.{AnswersAgree}
use Rattle.word_permit.specs.Books.{IsWordBook}
use Rattle.word_permit.specs.Looks.{IsLookTaken}
use Rattle.word_permit.specs.Needs.{IsAwaited}
use Rattle.word_permit.specs.Notes.{AreOfSpawned, AreThoseSpawned, HasNoteIn, IsSpawnedIn, noted_for}
use Rattle.run_law.specs.Published.{ArePublished}
use Rattle.word_permit.specs.Waiting.{RestsBy, WordsStand}
use Rattle.word_permit.proofs.Awaiting.{need_still}
use Rattle.word_permit.proofs.Calls.{StandsWith}
use Rattle.word_permit.proofs.Looked.{if_still}
use Rattle.word_permit.proofs.Patches.{patch_noted}
use Rattle.word_permit.proofs.SpawnedBefore.{those_more}

-- ---- the words

stands_noted : (names : List Mfa) (s : ServerState) (pools : Areas) (w : WriterView) (process : ℕ) → StandFor names s pools w → StandFor names s pools (with_note process w)
stands_noted names s pools w process h = record {
  newest_is = h.newest_is;
  numbered = h.numbered;
  keys_once = h.keys_once;
  knows = h.knows;
  narrow = h.narrow;
  bp = h.bp;
  listed = h.listed;
  stay = h.stay;
  blocks = h.blocks;
  placed = h.placed;
  images = h.images;
  words = record { retire = h.words.retire; since = h.words.since; free = h.words.free; doom = h.words.doom };
  dropped = h.dropped;
}

placed_noted : (comes : List Incoming) (rest pools : Areas) (w : WriterView) (taken : List AreaRef) (process : ℕ) → ArePlaced comes rest pools w taken → ArePlaced comes rest pools (with_note process w) taken
placed_noted comes rest pools w taken process h = record {
  few = h.few;
  taken_are = h.taken_are;
  pools_are = h.pools_are;
  each = λ place i area comes_in took.
      let x = h.each place i area comes_in took in
      record { small = x.small; first = x.first; last = x.last; room = x.room; unpublished = record { listed = x.unpublished.listed; kept = x.unpublished.kept }; written = x.written };
}

-- ---- the tables

abbrev with_writer : Tables → writers.Writer → Tables
with_writer t writer = record t { writer = writer }

module _ (names : List Mfa) (s : ServerState) (t : Tables) (writer : writers.Writer) (process : ℕ) (view : written_by writer ≡ with_note process (written_by t.writer)) (by_notes : indices.KeptByNotes) where
  rest_noted : AreAtRest names s t → AreAtRest names s (with_writer t writer)
  rest_noted h = record {
    stands = subst (StandFor names s t.pools) (sym view) (stands_noted names s t.pools (written_by t.writer) process h.stands);
    staged = record { index = h.staged.index; terms = h.staged.terms; patch = h.staged.patch };
  }

  by_noted : (holder : Holder) → RestsBy names holder s t → RestsBy names holder s (with_writer t writer)
  by_noted Free h = rest_noted h
  by_noted (Held by) h = rest_noted h
  by_noted (Purging by name) h = rest_noted h
  by_noted (Tracing by generation) h = record {
    settling = record {
      stands = subst (StandFor names s t.pools) (sym view) (stands_noted names s t.pools (written_by t.writer) process h.settling.stands);
      index = h.settling.index;
      terms = h.settling.terms;
      patch = h.settling.patch;
      is = h.settling.is;
      behind = h.settling.behind;
    };
    room = h.room;
  }

  patched_noted : (change : Change) → IsPatched names s change t → IsPatched names s change (with_writer t writer)
  patched_noted change h = record {
    stands = subst (StandFor names s t.pools) (sym view) (stands_noted names s t.pools (written_by t.writer) process h.stands);
    index = h.index;
    terms = h.terms;
    patch = h.patch;
    is = h.is;
    of = h.of;
    before = h.before;
  }

  areas_noted : (change : Change) (taken : List AreaRef) → HavePlaced names s change t taken → HavePlaced names s change (with_writer t writer) taken
  areas_noted change taken h = record {
    rest = h.rest;
    stands = subst (StandFor names s h.rest) (sym view) (stands_noted names s h.rest (written_by t.writer) process h.stands);
    placed = subst (λ v. ArePlaced (incoming change) h.rest t.pools v taken) (sym view) (placed_noted (incoming change) h.rest t.pools (written_by t.writer) taken process h.placed);
    terms = h.terms;
    patch = h.patch;
  }

  stage_noted : (change : Change) (stage : Stage) → StageStands names s change t stage → StageStands names s change (with_writer t writer) stage
  stage_noted change Untouched h = rest_noted h
  stage_noted change (Placed areas) h = (areas_noted change areas.items h.0, h.1)
  stage_noted change (Exported areas) h =
      let kept = by_notes t.index (written_by t.writer) process in
      record {
        code = h.code;
        placed = areas_noted change areas.items h.placed;
        whole = h.whole;
        exported = λ p upcoming. subst (Stages t.index p) (sym view) (kept.staged p (h.exported p upcoming));
      }
  stage_noted change Patching h = patched_noted change h

words_noted : (names : List Mfa) (p : PermitState) (t : Tables) (writer : writers.Writer) (process : ℕ) (o : Option Waiting) → written_by writer ≡ with_note process (written_by t.writer) → indices.KeptByNotes
    → WordsStand names p t o → WordsStand names p (with_writer t writer) o
words_noted names p t writer process None view by_notes h = by_noted names p.server t writer process view by_notes p.holder h
words_noted names p t writer process (Some w) view by_notes h = record {
  who = h.who;
  holder = h.holder;
  decided = h.decided;
  staged = h.staged;
  stands = stage_noted names p.server t writer process view by_notes w.decision.change w.stage h.stands;
}

module _ (names : List Mfa) (table : TableId) (opening : Opening) (b : WordBook) (writer : writers.Writer) (token : IsWriterOf table opening writer) (by_index : indices.KeptByNotes) (by_terms : terms.KeptByNotes) (by_pools : areas.KeptByNotes) where
  abbrev left : WordBook
  left = record b { tables = with_writer b.tables writer }

  tables_noted : (process : ℕ) → written_by writer ≡ with_note process (written_by b.tables.writer) → AreTablesOf table opening b.tables → AreTablesOf table opening (with_writer b.tables writer)
  tables_noted process view h =
      let index = by_index b.tables.index (written_by b.tables.writer) process in
      let keys = by_terms b.tables.terms (written_by b.tables.writer) process in
      record {
        token = token;
        index = subst (IsIndexOf b.tables.index) (sym view) (index.owned h.index);
        terms = subst (IsTableOf b.tables.terms) (sym view) (keys.owned h.terms);
        pools = subst (AreOf b.tables.pools) (sym view) (by_pools b.tables.pools (written_by b.tables.writer) process h.pools);
        patch = patch_noted b.tables.patch (written_by b.tables.writer) (written_by writer) process view h.patch;
      }

  -- of the notes it is known that each is of a process that was spawned
  abbrev Stands : Type 0
  Stands = StandsWith names table opening (AreOfSpawned b.plain.script b.plain.journal (written_by b.tables.writer).notes) b

  book_noted : (process : ℕ) → written_by writer ≡ with_note process (written_by b.tables.writer) → IsSpawnedIn b.plain.script b.plain.journal process
      → ((other : ℕ) → IsSpawnedIn b.plain.script b.plain.journal other → HasNoteIn (written_by b.tables.writer).notes other ⊎ (process ≡ other)) → Stands → IsWordBook names table opening left
  book_noted process view spawned others h = record {
    has = record {
      book = h.has.book;
      texts = h.has.texts;
      tables = tables_noted process view h.has.tables;
      exports = h.has.exports;
      published = subst (λ (v : WriterView). ArePublished names b.plain.script.modules b.plain.journal v.published) (sym view) h.has.published;
      notes = subst (λ (v : WriterView). AreThoseSpawned b.plain.script b.plain.journal v.notes) (sym view)
          (those_more b.plain.script b.plain.journal (written_by b.tables.writer).notes (note_number process (written_by b.tables.writer)) h.has.notes spawned others);
      answered = subst (λ (v : WriterView). AnswersAgree b.plain.script.modules b.plain.journal v.looks) (sym view) h.has.answered;
      awaited = subst (λ (v : WriterView). IfSome b.need (IsAwaited v)) (sym view) (need_still (written_by b.tables.writer) (with_note process (written_by b.tables.writer)) b.need (λ pair had. had) refl h.has.awaited);
    };
    words = words_noted names (shown b.plain) b.tables writer process b.waiting view by_index h.words;
    looked = subst (λ (v : WriterView). IfSome b.look (IsLookTaken v)) (sym view) (if_still (written_by b.tables.writer) (with_note process (written_by b.tables.writer)) b.look refl refl h.looked);
  }

  -- no note was split
  book_unnoted : writer ≡ b.tables.writer → ((process : ℕ) → IsSpawnedIn b.plain.script b.plain.journal process → HasNoteIn (written_by b.tables.writer).notes process) → Stands → IsWordBook names table opening left
  book_unnoted same each h =
      subst (λ x. IsWordBook names table opening (record b { tables = with_writer b.tables x })) (sym same)
      (record {
        has = record {
          book = h.has.book;
          texts = h.has.texts;
          tables = h.has.tables;
          exports = h.has.exports;
          published = h.has.published;
          notes = record { of = h.has.notes; each = each };
          answered = h.has.answered;
          awaited = h.has.awaited;
        };
        words = h.words;
        looked = h.looked;
      })

  others_none : (process : ℕ) → HasNoteIn (written_by b.tables.writer).notes process ⊎ (◌≡◌ {A = Option ℕ} None (Some process)) → HasNoteIn (written_by b.tables.writer).notes process
  others_none process (inl had) = had
  others_none process (inr now) = absurd (none-some process now)

  others_some : (made process : ℕ) → HasNoteIn (written_by b.tables.writer).notes process ⊎ (Some made ≡ Some process) → HasNoteIn (written_by b.tables.writer).notes process ⊎ (made ≡ process)
  others_some made process (inl had) = inl had
  others_some made process (inr now) = inr (same_Some made process now)

  pub book_after : (made : Option ℕ) → (made ≡ None → writer ≡ b.tables.writer) → written_by writer ≡ noted_for made (written_by b.tables.writer) → IfSome made (IsSpawnedIn b.plain.script b.plain.journal)
      → ((process : ℕ) → IsSpawnedIn b.plain.script b.plain.journal process → HasNoteIn (written_by b.tables.writer).notes process ⊎ (made ≡ Some process)) → Stands → IsWordBook names table opening left
  book_after None same view spawned others h = book_unnoted (same refl) (λ process was. others_none process (others process was)) h
  book_after (Some made) same view spawned others h = book_noted made view spawned (λ process was. others_some made process (others process was)) h
