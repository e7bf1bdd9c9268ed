-- The tables are the writer's still once an area is released, and the words stand for the state that has released it.
use Rattle.std.proofs.Common.{◌≡◌, ℕ, ◌+◌, ◌<◌, ◌⊎◌, inl, inr, true, false, List, length, Some, refl, sym, ap, subst, ◌∙◌, arith}
use Rattle.std.specs.Prelude.{Option}
use Rattle.std.proofs.lemmas.Bool.{cases_eq, cases_lt, le-ltb, lt-ltb}
use Rattle.atomic_table.specs.Seated.{TableId}
use Rattle.prgr_core.specs.declared.member.Retirement.{Retirement}
use Rattle.prgr_core.proofs.Parts.{some_same}
use Rattle.term_core.specs.declared.area.AreaRef.{AreaRef}
use Rattle.term_core.specs.declared.atom.Mfa.{Mfa}
use Rattle.area_core.specs.declared.table.KeptArea.{KeptArea}
use Rattle.area_core.specs.declared.table.Published.{Published}
use Rattle.area_core.specs.Blocks.{Among, IsForInstances}
use Rattle.area_core.specs.Generations.{is_instance, is_key_area, is_retired_area}
use Rattle.area_core.specs.Step.{opening_published}
use Rattle.area_core.specs.Map.{block_place, breakpoint_at, breakpoint_place, doom_place, image_entry_at, retire_place, word_at}
use Rattle.area_core.specs.Stores.{is_released_at}
use Rattle.marks.specs.declared.kept.LookKind.TheVariants.{Both}
use Rattle.marks.specs.Steps.{with_drop_kept}
use Rattle.shared_words.specs.declared.opening.Opening.{Opening}
use Rattle.shared_words.specs.declared.view.WriterView.{WriterView}
use Rattle.shared_words.specs.Drops.{drop_of}
use Rattle.shared_words.specs.Publishing.{is_released, with_word}
use Rattle.shared_words.specs.Views.{newest_number}
use Rattle.shared_words.proofs.ShownMembers.{there_is}
use Rattle.progress_words.specs.Roots.{newest_of}
use Rattle.progress_words.specs.Tokens.{IsWriterOf, written_by}
use Rattle.server_core.specs.CommandTable.{with_released}
use Rattle.server_core.specs.ServerState.{ServerState}
use Rattle.breakpoints.specs.Laws.{HasNoDecisions, IsCalledByNone, IsUncalled, LeavesDecisions}
use Rattle.code_index.specs.Laws as indices
use Rattle.code_index.specs.declared.index.Staging.{Staging}
use Rattle.code_index.specs.Staging.{IsIndexOf, Stages}
use Rattle.literal_areas.specs.declared.areas.Areas.{Areas}
use Rattle.literal_areas.specs.declared.blocks.BlockUse.TheVariants.{Retired}
use Rattle.literal_areas.specs.Blocks as blocks
use Rattle.literal_areas.specs.Blocks.{Stands, serial_at, use_of, without_area}
use Rattle.literal_areas.specs.Owned.{AreOf}
use Rattle.literal_areas.specs.Released.{MayRelease, area_released, words_cleared}
use Rattle.literal_areas.proofs.Serials.{serial_here}
use Rattle.literal_areas.proofs.Uses.{use_within}
use Rattle.term_table.specs.Laws as terms
use Rattle.term_table.specs.Tables.{IsTableOf, Terms}
use Rattle.staging.specs.declared.tables.Tables.{Tables}
use Rattle.staging.specs.Released.{IsReleasable, KeepsRelease, StandReleased}
use Rattle.staging.specs.Standing.{StandFor}
use Rattle.staging.specs.Whose.{AreTablesOf}
use Rattle.staging.proofs.Announced.{no_term}
use Rattle.staging.proofs.FormerAreas.{no_table}
use Rattle.staging.proofs.Frames.{block_behind}
use Rattle.staging.proofs.GivenBack.{get_at}
use Rattle.staging.proofs.IndexStores.{front_elsewhere}
use Rattle.staging.proofs.Known.{waits_same}
use Rattle.staging.proofs.Looked.{index_looked, stages_looked, table_looked}
use Rattle.staging.proofs.Patched.{patch_leaves}
use Rattle.staging.proofs.Releasable.{left_off}
use Rattle.staging.proofs.ReleasedWords.{KeepsOthers, ReleasesWords, keeps_others, released_looks, releases_words}
use Rattle.staging.proofs.Releases.{released_after}

-- ---- the area

-- it is found by its serial
pub none_found : (serial : ℕ) (pools : Areas) (w : WriterView) → blocks.IsSound pools → IsReleasable serial pools w → ((block : ℕ) → block < 320 → serial_at pools block ≡ Some serial → ⊥) → ⊥
none_found serial pools w sound is none =
    let here = serial_here pools is.area.block (Retired is.area.serial is.may.since) is.may.retired in
    none is.area.block (use_within pools is.area.block (Retired is.area.serial is.may.since) sound.sizes is.may.retired) (here ∙ ap Some is.serial_is)

-- the area that is found is the one that may be released
found_is : (serial : ℕ) (pools : Areas) (w : WriterView) (found : AreaRef) → blocks.IsSound pools → (is : IsReleasable serial pools w) → Stands pools found → found.serial ≡ serial → is.area ≡ found
found_is serial pools w found sound is stands same =
    let here = serial_here pools is.area.block (Retired is.area.serial is.may.since) is.may.retired in
    let serial_is : is.area.serial ≡ found.serial = is.serial_is ∙ sym same in
    let block : is.area.block ≡ found.block = sound.apart is.area.block found.block found.serial (here ∙ ap Some serial_is) stands in
    λ i. record { serial = serial_is i; block = block i }

pub found_releasable : (serial : ℕ) (pools : Areas) (w : WriterView) (found : AreaRef) → blocks.IsSound pools → IsReleasable serial pools w → Stands pools found → found.serial ≡ serial → MayRelease pools w found
found_releasable serial pools w found sound is stands same = subst (MayRelease pools w) (found_is serial pools w found sound is stands same) is.may

pub found_called : (serial : ℕ) (pools : Areas) (w : WriterView) (found : AreaRef) → blocks.IsSound pools → IsReleasable serial pools w → Stands pools found → found.serial ≡ serial → IsCalledByNone w found.block
found_called serial pools w found sound is stands same = subst (λ (a : AreaRef). IsCalledByNone w a.block) (found_is serial pools w found sound is stands same) is.called

pub found_uncalled : (serial : ℕ) (pools : Areas) (w : WriterView) (found : AreaRef) → blocks.IsSound pools → IsReleasable serial pools w → Stands pools found → found.serial ≡ serial → IsUncalled w found.block
found_uncalled serial pools w found sound is stands same = subst (λ (a : AreaRef). IsUncalled w a.block) (found_is serial pools w found sound is stands same) is.uncalled

-- ---- whose tables they are

-- the index and the term tables are those of the writer, and what was staged is
pub record AreStill (x : Staging) (t : Terms) (before after : WriterView) : Type 0 where
  pub index : IsIndexOf x after
  pub staged : (p : Published) → Stages x p before → Stages x p after
  pub terms : IsTableOf t after

module _ (x : Staging) (t : Terms) (w : WriterView) (area : AreaRef) (by_index : indices.KeptByStores) (by_terms : terms.KeptByStores) (within : area.block < 320) (index : IsIndexOf x w) (tables : IsTableOf t w) where
  first : AreStill x t w (with_word (retire_place area.block) 0 w)
  first =
      let keeps = by_index x w (retire_place area.block) 0 (front_elsewhere (retire_place area.block) (omega (arith, within))) index in
      record { index = keeps.owned index; staged = keeps.staged; terms = (by_terms t w (retire_place area.block) 0 (no_table area.block within) tables).owned tables }

  both : area.block < 64 → AreStill x t w (with_word (doom_place area.block) 0 (with_word (retire_place area.block) 0 w))
  both big =
      let keeps = by_index x (with_word (retire_place area.block) 0 w) (doom_place area.block) 0 (front_elsewhere (doom_place area.block) (omega (arith, big))) first.index in
      record {
        index = keeps.owned first.index;
        staged = λ p stages. keeps.staged p (first.staged p stages);
        terms = (by_terms t (with_word (retire_place area.block) 0 w) (doom_place area.block) 0 (no_term area.block big) first.terms).owned first.terms;
      }

  cleared : AreStill x t w (words_cleared area.block w)
  cleared =
      elim (cases_lt area.block 64) as (λ _. AreStill x t w (words_cleared area.block w)) [
        | inl big ↦
            let is : words_cleared area.block w ≡ with_word (doom_place area.block) 0 (with_word (retire_place area.block) 0 w) = rw (lt-ltb area.block 64 big) refl in
            subst (AreStill x t w) (sym is) (both big)
        | inr small ↦
            let is : words_cleared area.block w ≡ with_word (retire_place area.block) 0 w = rw (le-ltb area.block 64 small) refl in
            subst (AreStill x t w) (sym is) first
      ]

  pub still_released : AreStill x t w (area_released area w)
  still_released = record {
    index = index_looked (words_cleared area.block w) (area_released area w).looks x cleared.index;
    staged = λ p stages. stages_looked (words_cleared area.block w) (area_released area w).looks x p (cleared.staged p stages);
    terms = table_looked (words_cleared area.block w) (area_released area w).looks t cleared.terms;
  }

-- ---- what is kept, and the decisions

module _ (pools : Areas) (w : WriterView) (area : AreaRef) (own : AreOf pools w) (may : MayRelease pools w area) where
  pub within : area.block < 320
  within = use_within pools area.block (Retired area.serial may.since) own.sound.sizes may.retired

  -- what is kept in the block is released by the store
  released_here : (k : KeptArea) → Among w.kept k → k.area.block ≡ area.block → is_released w 0 k ≡ true
  released_here k among same =
      let some = may.published in
      let found = get_at w.published (newest_number w.published) (omega (arith, some)) in
      let serial : k.area.serial ≡ area.serial = some_same k.area.serial area.serial (sym (own.kept k among) ∙ ap (serial_at pools) same ∙ serial_here pools area.block (Retired area.serial may.since) may.retired) in
      let told = own.since area.block area.serial may.since (newest_number w.published) found.0 may.retired (omega (arith, some)) found.1 in
      ap (λ (o : Option Published). is_released_at o 0 k) found.1 ∙ ap (is_retired_area found.0) serial ∙ told.retired

  pub told : ReleasesWords area.block w (area_released area w)
  told = releases_words w area within own.all

  pub keeps : KeepsOthers area.block w.kept (area_released area w).kept
  keeps = subst (KeepsOthers area.block w.kept) (sym told.kept) (keeps_others w area.block released_here)

  -- the decisions on functions of other blocks stay, and its own block has none
  pub released_leaves : length (area_released area w).words ≡ length w.words → (IsForInstances area.block → HasNoDecisions w area.block) → LeavesDecisions w (area_released area w)
  released_leaves long cleared = record {
    long = long;
    published = ap (λ (v : WriterView). v.published) told.same;
    decisions = λ block function for few. inl (λ bp fits. decision_still bp block function);
    entries = λ k function among has.
        let fits = within in
        let behind = block_behind k.area.block (image_entry_at function) in
        told.others (block_place k.area.block (image_entry_at function)) (λ same. omega (arith, same, behind, fits)) (λ big same. omega (arith, same, behind, big));
    kept = λ k among. keeps.was k among;
    dropped = dropped;
    more = λ pair among. subst (λ (pairs : List Retirement). Among pairs pair) (sym (ap (λ (v : WriterView). v.pairs) told.same)) among;
    rising = (let same = ap (λ (v : WriterView). v.counter) told.same in omega (arith, same));
  }
    where
      decision_still : (bp block function : ℕ) → word_at (area_released area w).words (breakpoint_place bp block function) ≡ word_at w.words (breakpoint_place bp block function)
      decision_still bp block function =
          let fits = within in
          let behind = block_behind (3 + bp) (breakpoint_at block function) in
          told.others (breakpoint_place bp block function) (λ same. omega (arith, same, behind, fits)) (λ big same. omega (arith, same, behind, big))

      unused : (serial : ℕ) → serial ≡ area.serial → is_instance (newest_of w) serial ≡ false
      unused serial same =
          let some = may.published in
          let there = there_is w.published (newest_number w.published) opening_published (omega (arith, some)) in
          let gone = own.since area.block area.serial may.since (newest_number w.published) (newest_of w) may.retired (omega (arith, some)) there in
          ap (is_instance (newest_of w)) same ∙ left_off (is_instance (newest_of w) area.serial) (is_key_area (newest_of w) area.serial) gone.unused

      dropped : (k : KeptArea) → Among w.kept k → Among (area_released area w).kept k ⊎ ((IsForInstances k.area.block → HasNoDecisions (area_released area w) k.area.block) × (is_instance (newest_of w) k.area.serial ≡ false))
      dropped k among =
          elim (cases_eq k.area.block area.block) as (λ _. Among (area_released area w).kept k ⊎ ((IsForInstances k.area.block → HasNoDecisions (area_released area w) k.area.block) × (is_instance (newest_of w) k.area.serial ≡ false))) [
            | inl same ↦
                let serial : k.area.serial ≡ area.serial = some_same k.area.serial area.serial (sym (own.kept k among) ∙ ap (serial_at pools) same ∙ serial_here pools area.block (Retired area.serial may.since) may.retired) in
                inr ((λ for bp function fits few. decision_still bp k.area.block function ∙ ap (λ (b : ℕ). word_at w.words (breakpoint_place bp b function)) same ∙ cleared (subst IsForInstances same for) bp function fits few), unused k.area.serial serial)
            | inr differ ↦ inl (keeps.still k among differ)
          ]

pub tables_released : (table : TableId) (opening : Opening) (old new : Tables) (area : AreaRef) → indices.KeptByStores → terms.KeptByStores → AreTablesOf table opening old → MayRelease old.pools (written_by old.writer) area → IsWriterOf table opening new.writer → AreOf new.pools (written_by new.writer)
    → written_by new.writer ≡ area_released area (written_by old.writer) → new.index ≡ old.index → new.terms ≡ old.terms → new.patch ≡ old.patch → (IsForInstances area.block → HasNoDecisions (written_by old.writer) area.block) → AreTablesOf table opening new
tables_released table opening old new area by_index by_terms was may token owned stored index_is terms_are patch_is cleared =
    let within = use_within old.pools area.block (Retired area.serial may.since) was.pools.sound.sizes may.retired in
    let still = still_released old.index old.terms (written_by old.writer) area by_index by_terms within was.index was.terms in
    record {
      token = token;
      index = subst (λ x. IsIndexOf x (written_by new.writer)) (sym index_is) (subst (IsIndexOf old.index) (sym stored) still.index);
      terms = subst (λ x. IsTableOf x (written_by new.writer)) (sym terms_are) (subst (IsTableOf old.terms) (sym stored) still.terms);
      pools = owned;
      patch = patch_leaves old.patch new.patch (written_by old.writer) (written_by new.writer) patch_is
          (subst (LeavesDecisions (written_by old.writer)) (sym stored)
          (released_leaves old.pools (written_by old.writer) area was.pools may (ap (λ (w : WriterView). length w.words) (sym stored) ∙ owned.all ∙ sym was.pools.all) cleared)) was.patch;
    }

-- ---- what the words stand for

module _ (pools : Areas) (w : WriterView) (area : AreaRef) (own : AreOf pools w) (may : MayRelease pools w area) where
  -- over any pools in which it is retired
  pub stands_beside : (names : List Mfa) (s : ServerState) (serial : ℕ) (rest : Areas) → area.serial ≡ serial → use_of rest area.block ≡ Some (Retired serial may.since) → ((a b n : ℕ) → serial_at rest a ≡ Some n → serial_at rest b ≡ Some n → a ≡ b) → StandFor names s rest w
      → StandFor names (with_released s serial) (without_area area rest) (area_released area w)
  stands_beside names s serial rest is at apart stands =
      subst (StandFor names (with_released s serial) (without_area area rest)) (sym (told pools w area own may).same)
      (released_after names s serial rest area may.since is at apart w (area_released area w).words (area_released area w).kept (area_released area w).looks stands (within pools w area own may) (keeps pools w area own may) (subst (ReleasesWords area.block w) (told pools w area own may).same (told pools w area own may)))

  pub retired_here : (serial : ℕ) → area.serial ≡ serial → use_of pools area.block ≡ Some (Retired serial may.since)
  retired_here serial is = may.retired ∙ ap (λ (n : ℕ). Some (Retired n may.since)) is

  pub stands_released : (names : List Mfa) (s : ServerState) (serial : ℕ) → area.serial ≡ serial → StandFor names s pools w → StandFor names (with_released s serial) (without_area area pools) (area_released area w)
  stands_released names s serial is stands = stands_beside names s serial pools is (retired_here serial is) own.sound.apart stands

pub rest_released : (names : List Mfa) (serial : ℕ) (old new : Tables) (area : AreaRef) → AreOf old.pools (written_by old.writer) → MayRelease old.pools (written_by old.writer) area → area.serial ≡ serial → new.pools ≡ without_area area old.pools → written_by new.writer ≡ area_released area (written_by old.writer)
    → new.index ≡ old.index → new.terms ≡ old.terms → new.patch ≡ old.patch → StandReleased names serial old new
rest_released names serial old new area own may is pools stored index terms patch s rest = record {
  stands = subst (λ (z : Areas × WriterView). StandFor names (with_released s serial) z.0 z.1) (λ i. (sym pools i, sym stored i)) (stands_released old.pools (written_by old.writer) area own may names s serial is rest.stands);
  staged = record { index = index ∙ rest.staged.index; terms = ap (λ (x : Terms). x.staged) terms ∙ rest.staged.terms; patch = patch ∙ rest.staged.patch };
}

pub keeps_release : (serial : ℕ) (pools : Areas) (before after : WriterView) (area : AreaRef) → AreOf pools before → MayRelease pools before area → area.serial ≡ serial → after ≡ area_released area before → KeepsRelease serial before after
keeps_release serial pools before after area own may is stored =
    let told = releases_words before area (use_within pools area.block (Retired area.serial may.since) own.sound.sizes may.retired) own.all in
    record {
      looks = ap (λ (w : WriterView). w.looks) stored ∙ released_looks before area (use_within pools area.block (Retired area.serial may.since) own.sound.sizes may.retired) own.all ∙ ap (λ (n : ℕ). with_drop_kept before.looks (drop_of before Both n)) is;
      published = ap (λ (w : WriterView). w.published) (stored ∙ told.same);
      notes = ap (λ (w : WriterView). w.notes) (stored ∙ told.same);
      waits = waits_same before after (ap (λ (w : WriterView). w.pairs) (stored ∙ told.same));
      pairs = ap (λ (w : WriterView). w.pairs) (stored ∙ told.same);
    }
