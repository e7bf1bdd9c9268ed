-- Once the word of a change is stored, if it has one, the state that it leaves may be published over the blocks of the newest generation.
use Rattle.std.proofs.Common.{◌≡◌, ℕ, ◌<◌, Bool, List, length, length-set, Option, Some, None, refl, sym, ap, subst, ◌∙◌, arith}
use Rattle.std.specs.Prelude.{IsSomeAnd, IfSome, slice_set}
use Rattle.std.proofs.lemmas.Option.{none-some}
use Rattle.atomic_table.specs.Seated.{TableId}
use Rattle.term_core.specs.declared.area.AreaRef.{AreaRef}
use Rattle.term_core.specs.declared.atom.AtomId.{AtomId}
use Rattle.term_core.specs.declared.atom.Mfa.{Mfa}
use Rattle.area_core.specs.declared.table.Published.{Published}
use Rattle.area_core.specs.Map.{doom_place}
use Rattle.area_core.proofs.Places.{kind_doom, word_there}
use Rattle.marks.specs.declared.kept.LookKind.TheVariants.{Frame}
use Rattle.marks.specs.Steps.{with_drop_kept}
use Rattle.shared_words.specs.declared.opening.Opening.{Opening}
use Rattle.shared_words.specs.declared.view.WriterView.{WriterView}
use Rattle.shared_words.specs.Drops.{AgreesWithLooks, drop_of}
use Rattle.shared_words.specs.Publishing.{kept_left, with_next, with_word}
use Rattle.shared_words.specs.Slots.{IsClear}
use Rattle.progress_words.specs.Tokens.{IsWriterOf, written_by}
use Rattle.progress_words.proofs.Rooted.{some_published}
use Rattle.server_core.specs.declared.slots.RetiredRoom.{RetiredRoom}
use Rattle.server_core.specs.declared.change.Change.{Change}
use Rattle.server_core.specs.declared.change.Change.TheVariants.{Condemn, DropOld}
use Rattle.server_core.specs.Decided.{CanBeDoomed, Fits}
use Rattle.server_core.specs.ServerState.{IsSound, ServerState, code_of}
use Rattle.change_laws.specs.Changes.{changed_state}
use Rattle.change_laws.specs.Uses.{IsUsed}
use Rattle.code_index.specs.Laws as indices
use Rattle.code_index.specs.Staging.{IsIndexOf}
use Rattle.literal_areas.specs.declared.areas.Areas.{Areas}
use Rattle.literal_areas.specs.declared.blocks.BlockUse.TheVariants.{Live}
use Rattle.literal_areas.specs.Blocks as blocks
use Rattle.literal_areas.specs.Blocks.{IsLive, Stands, serial_at, use_of}
use Rattle.literal_areas.specs.Owned.{AreOf}
use Rattle.literal_areas.specs.Written.{IsPublished}
use Rattle.literal_areas.proofs.Serials.{serial_here}
use Rattle.literal_areas.proofs.Uses.{use_within}
use Rattle.term_table.specs.Laws as terms
use Rattle.term_table.specs.Tables.{IsTableOf, Terms}
use Rattle.staging.specs.declared.tables.Tables.{Tables}
use Rattle.staging.specs.Renewed.{AreAnnounced, HasAnnounced, HasDoomed, IsClearOf, IsDropOf, IsRenewal, IsSameButWords, KeepsDrop, with_drop_of}
use Rattle.staging.specs.Replaced.{HasRetired, IsLiveThere}
use Rattle.staging.specs.Stages.{AreAtRest}
use Rattle.staging.specs.Standing.{StandFor}
use Rattle.staging.specs.Whose.{AreTablesOf}
use Rattle.staging.proofs.Dooms.{doom_renewed, doomed_words}
use Rattle.staging.proofs.IndexStores.{front_elsewhere}
use Rattle.staging.proofs.KeyWords.{words_area}
use Rattle.staging.proofs.NextReads.{old_module}
use Rattle.staging.proofs.Patched.{StoresBeside, front_beside, patch_beside}
use Rattle.staging.proofs.Purges.{purge_renewed}
use Rattle.staging.proofs.Renewals.{IsRenewed}
use Rattle.staging.proofs.SetNames.{table_place}

-- ---- the area of a serial

pub found_live : (pools : Areas) (serial : ℕ) (r : Option AreaRef) → blocks.IsSound pools → (block : ℕ) × (use_of pools block ≡ Some (Live serial)) → IfSome r (λ area. Stands pools area × (area.serial ≡ serial)) → (r ≡ None → (block : ℕ) → block < 320 → serial_at pools block ≡ Some serial → ⊥)
    → IsSomeAnd r (λ area. IsLive pools area × (area.serial ≡ serial))
found_live pools serial None sound live some none = none refl live.0 (use_within pools live.0 (Live serial) sound.sizes live.1) (serial_here pools live.0 (Live serial) live.1)
found_live pools serial (Some area) sound live some none =
    let same : live.0 ≡ area.block = sound.apart live.0 area.block serial (serial_here pools live.0 (Live serial) live.1) (some.0 ∙ ap Some some.1) in
    (subst (λ (block : ℕ). use_of pools block ≡ Some (Live area.serial)) same (live.1 ∙ ap (λ (n : ℕ). Some (Live n)) (sym some.1)), some.1)

-- the area of a serial that is live and was published
pub live_block : (serial : ℕ) (pools : Areas) (w : WriterView) → IsLiveThere serial pools w → (block : ℕ) × (use_of pools block ≡ Some (Live serial))
live_block serial pools w there = (there.area.block, subst (λ n. use_of pools there.area.block ≡ Some (Live n)) there.serial_is there.live)

pub there_published : (serial : ℕ) (pools : Areas) (w : WriterView) (area : AreaRef) → blocks.IsSound pools → IsLiveThere serial pools w → IsLive pools area → area.serial ≡ serial → IsPublished w area
there_published serial pools w area sound there live is =
    let serial_is : there.area.serial ≡ area.serial = there.serial_is ∙ sym is in
    let block : there.area.block ≡ area.block =
    sound.apart there.area.block area.block area.serial (serial_here pools there.area.block (Live there.area.serial) there.live ∙ ap Some serial_is) (serial_here pools area.block (Live area.serial) live) in
    let same : there.area ≡ area = λ i. record { serial = serial_is i; block = block i } in
    subst (IsPublished w) same there.published

-- what is used is live in a block, and was published
pub used_there : (names : List Mfa) (s : ServerState) (pools : Areas) (w : WriterView) (serial : ℕ) → StandFor names s pools w → IsUsed s serial → IsLiveThere serial pools w
used_there names s pools w serial stands used =
    let found = stands.blocks.used serial used in
    let a : AreaRef = record { serial = serial; block = found.0 } in
    let kept = stands.images.areas a (serial_here pools found.0 (Live serial) found.1) in
    record { area = a; serial_is = refl; live = found.1; published = (record { area = a; words = kept.0 }, kept.1, refl) }

-- old code stands in a big block
pub old_big : (names : List Mfa) (s : ServerState) (pools : Areas) (w : WriterView) (serial : ℕ) (area : AreaRef) → IsSound s → CanBeDoomed s serial → StandFor names s pools w → IsLive pools area → area.serial ≡ serial → area.block < 64
old_big names s pools w serial area sound can stands live is =
    let of = old_module s sound can.old.0 serial can.old.1 in
    (stands.placed.instances area of.0 (serial_here pools area.block (Live area.serial) live) (ap (code_of s) is ∙ of.1)).last

-- ---- the doom word is stored

pub no_term : (block : ℕ) → block < 64 → terms.IsElsewhere (doom_place block)
no_term block few table at fits low same = let there = table_place table at fits in omega (arith, few, same, there)

doom_beside : (w : WriterView) (block since : ℕ) → block < 64 → length w.words ≡ 83413 → StoresBeside w (with_word (doom_place block) since w)
doom_beside w block since few all =
    front_beside w (with_word (doom_place block) since w) (length-set w.words (doom_place block) since) (λ place behind. word_there w.words (doom_place block) since place (λ same. omega (arith, behind, few, same)))
    (λ i. record w { words = slice_set w.words (doom_place block) since; kept = kept_left w since (kind_doom block few i) })

pub tables_doomed : (table : TableId) (opening : Opening) (old new : Tables) (area : AreaRef) (since : ℕ) → indices.KeptByStores → terms.KeptByStores → AreTablesOf table opening old → area.block < 64 → IsWriterOf table opening new.writer → AreOf new.pools (written_by new.writer)
    → written_by new.writer ≡ with_word (doom_place area.block) since (written_by old.writer) → new.index ≡ old.index → new.terms ≡ old.terms → new.patch ≡ old.patch → AreTablesOf table opening new
tables_doomed table opening old new area since by_index by_terms was few token owned stored index_is terms_are patch_is = record {
  token = token;
  index = subst (λ x. IsIndexOf x (written_by new.writer)) (sym index_is) (subst (IsIndexOf old.index) (sym stored) ((by_index old.index (written_by old.writer) (doom_place area.block) since (front_elsewhere (doom_place area.block) (omega (arith, few))) was.index).owned was.index));
  terms = subst (λ x. IsTableOf x (written_by new.writer)) (sym terms_are) (subst (IsTableOf old.terms) (sym stored) ((by_terms old.terms (written_by old.writer) (doom_place area.block) since (no_term area.block few) was.terms).owned was.terms));
  pools = owned;
  patch = patch_beside old.patch new.patch (written_by old.writer) (written_by new.writer) patch_is (subst (StoresBeside (written_by old.writer)) (sym stored) (doom_beside (written_by old.writer) area.block since few was.pools.all)) was.patch;
}

-- the word of the change is stored, or it has none
pub announced : (names : List Mfa) (s : ServerState) (change : Change) (old new : Tables) → AreAtRest names s old → AreOf old.pools (written_by old.writer) → new.index ≡ old.index → new.terms ≡ old.terms → new.patch ≡ old.patch → HasAnnounced change old.pools (written_by old.writer) new.pools (written_by new.writer)
    → AreAnnounced names s change new
announced names s change old new rest owned index terms patch said = record {
  pools = old.pools;
  view = written_by old.writer;
  stands = rest.stands;
  owned = owned;
  announced = said;
  staged = record { index = index ∙ rest.staged.index; terms = ap (λ (x : Terms). x.staged) terms ∙ rest.staged.terms; patch = patch ∙ rest.staged.patch };
}

-- a change is one of the two; it drops no instance
abbrev NoDrop : Change → Type 0
NoDrop change = (generation : ℕ) (name : AtomId) (serial : ℕ) (says : Bool) (retired : RetiredRoom) → change ≡ DropOld generation name serial says retired → ⊥

pub none_else : (change : Change) → IsRenewal change → ((generation serial : ℕ) → change ≡ Condemn generation serial → ⊥) → NoDrop change → ⊥
none_else (Condemn generation serial) is other keeps = other generation serial refl
none_else (DropOld generation name serial says retired) is other keeps = keeps generation name serial says retired refl
none_else change is other keeps = is

-- the writer knows else what it knew
pub doomed_same : (serial : ℕ) (pools : Areas) (before after : WriterView) → AreOf pools before → HasDoomed serial pools before after → IsSameButWords before after
doomed_same serial pools before after own d = (doomed_words serial pools before after own.all d).same

pub retired_same : (table : TableId) (opening : Opening) (serial : ℕ) (old new : Tables) → AreTablesOf table opening old → HasRetired serial old.pools (written_by old.writer) new.pools (written_by new.writer) → IsSameButWords (written_by old.writer) (written_by new.writer)
retired_same table opening serial old new own d =
    let told = words_area old.pools (written_by old.writer) d.area (length (written_by old.writer).published) d.live own.pools.sound.sizes own.pools.all (some_published table opening old.writer own.token) in
    subst (IsSameButWords (written_by old.writer)) (sym d.stored) told.same

-- ---- the state that is published

module _ (names : List Mfa) (s : ServerState) (table : TableId) (opening : Opening) (t : Tables) (sound : IsSound s) (own : AreTablesOf table opening t) where
  abbrev now : WriterView
  now = written_by t.writer

  pub announced_renewed : (change : Change) → Fits s change → IsRenewal change → AreAnnounced names s change t → IsRenewed names s (changed_state s change) t.pools now
  announced_renewed (Condemn generation serial) fits is a =
      let d : HasDoomed serial a.pools a.view now = a.announced.1 in
      let some : 0 < length a.view.published = subst (λ (ps : List Published). 0 < length ps) (ap (λ (w : WriterView). w.published) d.stored) (some_published table opening t.writer own.token) in
      subst (λ (p : Areas). IsRenewed names s (changed_state s (Condemn generation serial)) p now) (sym a.announced.0)
      (doom_renewed names s generation serial a.pools a.view now sound fits a.stands a.owned (subst (λ (p : Areas). AreOf p now) a.announced.0 own.pools) some d)
  announced_renewed (DropOld generation name serial says retired) fits is a =
      let d : HasRetired serial a.pools a.view t.pools now = a.announced in
      let some : 0 < length a.view.published = subst (λ (ps : List Published). 0 < length ps) (ap (λ (w : WriterView). w.published) d.stored) (some_published table opening t.writer own.token) in
      purge_renewed names s generation name serial says retired a.pools t.pools a.view now sound fits a.stands a.owned d some own.pools
  announced_renewed change fits is a = absurd is

-- ---- the drop

-- a look that was clear is so over stores of words
pub clear_still : (change : Change) (before after : WriterView) → IsSameButWords before after → IsClearOf change before → IsClearOf change after
clear_still (DropOld generation name serial says retired) before after same clear = subst (λ (w : WriterView). IsClear w Frame serial) (sym same) (clear_words before after.words serial clear)
  where
    clear_words : (w : WriterView) (words : List ℕ) (n : ℕ) → IsClear w Frame n → IsClear (record w { words = words }) Frame n
    clear_words w words n is =
        record { generation = is.generation; over = record { need = is.over.need; kept = is.over.kept; reached = is.over.reached; published = is.over.published; at = is.over.at; gone = is.over.gone }; looked = is.looked }
clear_still change before after same clear = tt

-- the look that is asked for
pub clear_of : (change : Change) (dropped : Option AreaRef) (w : WriterView) → IsDropOf change dropped → IsClearOf change w → IfSome dropped (λ area. IsClear w Frame area.serial)
clear_of change None w is clear = tt
clear_of (DropOld generation name serial says retired) (Some area) w is clear = subst (IsClear w Frame) (sym is) clear
clear_of change (Some area) w is clear = absurd (none-some area (sym is))

-- what is kept of looks may be more, and nothing else
same_but : (dropped : Option AreaRef) (before next : WriterView) → with_drop_of dropped before next ≡ record next { looks = (with_drop_of dropped before next).looks }
same_but None before next = refl
same_but (Some area) before next = refl

pub but_looks : (dropped : Option AreaRef) (before next after : WriterView) → after ≡ with_drop_of dropped before next → after ≡ record next { looks = after.looks }
but_looks dropped before next after is = is ∙ same_but dropped before next ∙ ap (λ (w : WriterView). record next { looks = w.looks }) (sym is)

pub keeps_drop : (change : Change) (dropped : Option AreaRef) (before after : WriterView) (p : Published) → IsDropOf change dropped → after ≡ with_drop_of dropped before (with_next p before) → IfSome dropped (λ area. AgreesWithLooks before.looks (drop_of before Frame area.serial)) → KeepsDrop change before after
keeps_drop (DropOld generation name serial says retired) None before after p is stored agree = absurd is
keeps_drop (DropOld generation name serial says retired) (Some area) before after p is stored agree =
    subst (λ (n : ℕ). (after.looks ≡ with_drop_kept before.looks (drop_of before Frame n)) × AgreesWithLooks before.looks (drop_of before Frame n)) is (ap (λ (w : WriterView). w.looks) stored, agree)
keeps_drop change None before after p is stored agree = ap (λ (w : WriterView). w.looks) stored
keeps_drop change (Some area) before after p is stored agree = absurd (none-some area (sym is))

-- a drop that is kept since a word was stored is kept since before
pub keeps_from : (change : Change) (first before after : WriterView) → IsSameButWords first before → KeepsDrop change before after → KeepsDrop change first after
keeps_from change first before after same kept = by change first before.words after (subst (λ (w : WriterView). KeepsDrop change w after) same kept)
  where
    by : (change : Change) (w : WriterView) (words : List ℕ) (after : WriterView) → KeepsDrop change (record w { words = words }) after → KeepsDrop change w after
    by (DropOld generation name serial says retired) w words after kept = kept
    by change w words after kept = kept
