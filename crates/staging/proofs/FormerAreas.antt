-- The area of what a key holds is found, and retired.
use Rattle.std.proofs.Common.{◌≡◌, ◌≢◌, ℕ, ◌<◌, length, Option, Some, None, option_and_then, refl, sym, ap, subst, ◌∙◌, arith}
use Rattle.std.specs.Prelude.{IfSome, MatchOption}
use Rattle.atomic_table.specs.Seated.{TableId}
use Rattle.term_core.specs.declared.area.AreaRef.{AreaRef}
use Rattle.term_core.specs.declared.area.Found.{Found}
use Rattle.term_core.specs.declared.area.Found.TheVariants as founds
use Rattle.term_core.specs.PlainTerm.{PlainTerm}
use Rattle.area_core.specs.Map.{retire_place}
use Rattle.shared_words.specs.declared.opening.Opening.{Opening}
use Rattle.shared_words.specs.declared.view.WriterView.{WriterView}
use Rattle.shared_words.specs.Publishing.{with_word}
use Rattle.progress_words.specs.Tokens.{IsWriterOf, written_by}
use Rattle.server_core.specs.ServerState.{Persistent, ServerState, found_as, found_in, found_of, key_area, key_found, persistent_of, whole_area}
use Rattle.code_index.specs.Laws as indices
use Rattle.code_index.specs.Staging.{IsIndexOf}
use Rattle.literal_areas.specs.declared.areas.Areas.{Areas}
use Rattle.literal_areas.specs.declared.blocks.BlockUse.TheVariants.{Live}
use Rattle.literal_areas.specs.Blocks.{IsLive, IsSound, Stands, serial_at, use_of, with_retired}
use Rattle.literal_areas.specs.Owned.{AreOf}
use Rattle.literal_areas.specs.Written.{IsPublished}
use Rattle.literal_areas.proofs.Serials.{serial_here}
use Rattle.literal_areas.proofs.Uses.{use_within}
use Rattle.term_table.specs.Laws as terms
use Rattle.term_table.specs.Tables.{IsTableOf}
use Rattle.staging.specs.declared.tables.Tables.{Tables}
use Rattle.staging.specs.Replaced.{FormerRetired, IsFormerArea, IsLiveThere}
use Rattle.staging.specs.Whose.{AreTablesOf}
use Rattle.staging.proofs.IndexStores.{front_elsewhere}
use Rattle.staging.proofs.KeyWords.{RetiresWords, words_area}
use Rattle.staging.proofs.Patched.{StoresBeside, front_beside, patch_beside}
use Rattle.staging.proofs.SetNames.{table_place}

-- ---- what the server says

held_by_term : (term : PlainTerm) (area : Option ℕ) (n : ℕ) → whole_area n ≡ found_in term area → area ≡ Some n
held_by_term term None n e = absurd (cc)
held_by_term term (Some m) n e = let same : n ≡ m = cc in ap Some (sym same)

held_by : (o : Option Persistent) (n : ℕ) → whole_area n ≡ found_of o → option_and_then (λ p. p.area) o ≡ Some n
held_by None n e = absurd (cc)
held_by (Some p) n e = held_by_term p.term p.area n e

pub found_area : (s : ServerState) (key : ℕ) (f : Found) (a : AreaRef) → found_as f ≡ key_found s key → f ≡ founds.Area a → key_area s key ≡ Some a.serial
found_area s key f a e is = held_by (persistent_of s key) a.serial (sym (ap found_as is) ∙ e)

none_by_term : (term : PlainTerm) (area : Option ℕ) (f : Found) → found_as f ≡ found_in term area → ((a : AreaRef) → f ≡ founds.Area a → ⊥) → area ≡ None
none_by_term term None f e other = refl
none_by_term term (Some n) founds.Absent e other = absurd (cc)
none_by_term term (Some n) (founds.Word word) e other = absurd (cc)
none_by_term term (Some n) (founds.Area a) e other = absurd (other a refl)

none_by : (o : Option Persistent) (f : Found) → found_as f ≡ found_of o → ((a : AreaRef) → f ≡ founds.Area a → ⊥) → option_and_then (λ p. p.area) o ≡ None
none_by None f e other = refl
none_by (Some p) f e other = none_by_term p.term p.area f e other

pub found_none : (s : ServerState) (key : ℕ) (f : Found) → found_as f ≡ key_found s key → ((a : AreaRef) → f ≡ founds.Area a → ⊥) → key_area s key ≡ None
found_none s key f e other = none_by (persistent_of s key) f e other

-- ---- its block

pub former_found : (s : ServerState) (key : ℕ) (pools : Areas) (serial : ℕ) (r : Option AreaRef) → IsSound pools → ((n : ℕ) → key_area s key ≡ Some n → (block : ℕ) × (use_of pools block ≡ Some (Live n))) → key_area s key ≡ Some serial
    → IfSome r (λ area. Stands pools area × (area.serial ≡ serial)) → (r ≡ None → (block : ℕ) → block < 320 → serial_at pools block ≢ Some serial) → MatchOption r (key_area s key ≡ None) (IsFormerArea s key pools)
former_found s key pools serial None sound stand held some none =
    let live = stand serial held in
    absurd (none refl live.0 (use_within pools live.0 (Live serial) sound.sizes live.1) (serial_here pools live.0 (Live serial) live.1))
former_found s key pools serial (Some area) sound stand held some none =
    let live = stand serial held in
    let same : live.0 ≡ area.block = sound.apart live.0 area.block serial (serial_here pools live.0 (Live serial) live.1) (some.0 ∙ ap Some some.1) in
    record { held = held ∙ ap Some (sym some.1); live = subst (λ (block : ℕ). use_of pools block ≡ Some (Live area.serial)) same (live.1 ∙ ap (λ (n : ℕ). Some (Live n)) (sym some.1)) }

-- it was published
pub former_published : (s : ServerState) (key : ℕ) (pools : Areas) (w : WriterView) (area : AreaRef) → IsSound pools → ((n : ℕ) → key_area s key ≡ Some n → IsLiveThere n pools w) → IsFormerArea s key pools area → IsPublished w area
former_published s key pools w area sound there is =
    let live = there area.serial is.held in
    let block : live.area.block ≡ area.block =
    sound.apart live.area.block area.block area.serial (serial_here pools live.area.block (Live live.area.serial) live.live ∙ ap Some live.serial_is) (serial_here pools area.block (Live area.serial) is.live) in
    let same : live.area ≡ area = λ i. record { serial = live.serial_is i; block = block i } in
    subst (IsPublished w) same live.published

-- ---- it is retired

pub no_table : (block : ℕ) → block < 320 → terms.IsElsewhere (retire_place block)
no_table block few table at fits low same = let there = table_place table at fits in omega (arith, few, same, there)

pub tables_retired : (table : TableId) (opening : Opening) (old new : Tables) (area : AreaRef) (since : ℕ) → indices.KeptByStores → terms.KeptByStores → AreTablesOf table opening old → IsLive old.pools area → IsWriterOf table opening new.writer → AreOf new.pools (written_by new.writer)
    → written_by new.writer ≡ with_word (retire_place area.block) since (written_by old.writer) → new.index ≡ old.index → new.terms ≡ old.terms → new.patch ≡ old.patch → 0 < since → AreTablesOf table opening new
tables_retired table opening old new area since by_index by_terms was live token owned stored index_is terms_are patch_is some =
    let few : area.block < 320 = use_within old.pools area.block (Live area.serial) was.pools.sound.sizes live in
    record {
      token = token;
      index = subst (λ x. IsIndexOf x (written_by new.writer)) (sym index_is) (subst (IsIndexOf old.index) (sym stored) ((by_index old.index (written_by old.writer) (retire_place area.block) since (front_elsewhere (retire_place area.block) (omega (arith, few))) was.index).owned was.index));
      terms = subst (λ x. IsTableOf x (written_by new.writer)) (sym terms_are) (subst (IsTableOf old.terms) (sym stored) ((by_terms old.terms (written_by old.writer) (retire_place area.block) since (no_table area.block few) was.terms).owned was.terms));
      pools = owned;
      patch = patch_beside old.patch new.patch (written_by old.writer) (written_by new.writer) patch_is (subst (StoresBeside (written_by old.writer)) (sym stored) beside) was.patch;
    }
  where
    told : RetiresWords old.pools (with_retired area since old.pools) (written_by old.writer) (with_word (retire_place area.block) since (written_by old.writer))
    told = words_area old.pools (written_by old.writer) area since live was.pools.sound.sizes was.pools.all some

    beside : StoresBeside (written_by old.writer) (with_word (retire_place area.block) since (written_by old.writer))
    beside = front_beside (written_by old.writer) (with_word (retire_place area.block) since (written_by old.writer)) told.long (λ place behind. told.others place (λ block few same. omega (arith, behind, few, same))) told.same

pub was_retired : (held : Option ℕ) (old new : Areas) (before after : WriterView) (area : AreaRef) → held ≡ Some area.serial → IsLive old area → new ≡ with_retired area (length before.published) old → after ≡ with_word (retire_place area.block) (length before.published) before → FormerRetired held old before new after
was_retired held old new before after area is live pools stored =
    subst (λ (o : Option ℕ). FormerRetired o old before new after) (sym is) (record { area = area; serial_is = refl; live = live; pools = pools; stored = stored })

pub none_retired : (held : Option ℕ) (pools : Areas) (w : WriterView) → held ≡ None → FormerRetired held pools w pools w
none_retired held pools w is = subst (λ (o : Option ℕ). FormerRetired o pools w pools w) (sym is) (refl, refl)
