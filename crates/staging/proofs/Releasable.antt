-- An area that is retired, and of which a look was clear, may be released.
use Rattle.std.proofs.Common.{◌≡◌, ℕ, ◌<◌, Bool, true, false, ◌||◌, List, length, Some, refl, ap, ◌∙◌, arith}
use Rattle.std.specs.Prelude.{IsTrue}
use Rattle.std.proofs.lemmas.Bool.{true≢false}
use Rattle.term_core.specs.declared.area.AreaRef.{AreaRef}
use Rattle.term_core.specs.declared.atom.Mfa.{Mfa}
use Rattle.area_core.specs.declared.table.Published.{Published}
use Rattle.area_core.specs.Blocks.{Among}
use Rattle.area_core.specs.Generations.{is_instance, is_key_area}
use Rattle.area_core.specs.Step.{opening_published}
use Rattle.marks.specs.declared.kept.LookKind.TheVariants.{Both}
use Rattle.shared_words.specs.declared.view.WriterView.{WriterView}
use Rattle.shared_words.specs.Slots.{IsClear}
use Rattle.shared_words.specs.Views.{newest_number}
use Rattle.shared_words.proofs.ShownMembers.{there_is, within_get}
use Rattle.progress_words.specs.Roots.{newest_of}
use Rattle.progress_words.specs.Tokens.{written_by}
use Rattle.server_core.specs.declared.change.Change.{Change}
use Rattle.server_core.specs.ServerState.{ServerState, is_retired}
use Rattle.literal_areas.specs.declared.areas.Areas.{Areas}
use Rattle.literal_areas.specs.declared.blocks.BlockUse.TheVariants.{Retired}
use Rattle.literal_areas.specs.Blocks.{use_of}
use Rattle.staging.specs.declared.tables.Tables.{Tables}
use Rattle.staging.specs.declared.stage.Stage.TheVariants.{Untouched, Placed, Exported, Patching}
use Rattle.staging.specs.Released.{ClearAreReleasable, IsReleasable, SettlingAreReleasable}
use Rattle.staging.specs.Stages.{HavePlaced}
use Rattle.staging.specs.Standing.{IsGoneFrom, StandFor}
use Rattle.staging.proofs.BlockUses.{retired_some}
use Rattle.staging.proofs.TakenUses.{used_stays}

-- a generation that has done with an area calls none in its block
pub left_off : (a b : Bool) → (a || b) ≡ false → a ≡ false
left_off true b e = absurd (true≢false e)
left_off false b e = refl

gone_uncalled : (p : Published) (block serial : ℕ) → IsGoneFrom p block serial → (a : AreaRef) → Among p.areas a → a.block ≡ block → is_instance p a.serial ≡ false
gone_uncalled p block serial gone a among same = ap (is_instance p) (gone.alone a among same) ∙ left_off (is_instance p serial) (is_key_area p serial) gone.unused

-- over pools in which what is retired is so
releasable : (names : List Mfa) (s : ServerState) (rest pools : Areas) (w : WriterView) (serial : ℕ) → StandFor names s rest w → ((block since : ℕ) → use_of rest block ≡ Some (Retired serial since) → use_of pools block ≡ Some (Retired serial since)) → IsTrue (is_retired s serial) → IsClear w Both serial
    → IsReleasable serial pools w
releasable names s rest pools w serial stands still retired clear =
    let found = stands.blocks.waiting serial retired in
    let since = stands.words.since found.0 serial found.1.0 found.1.1 in
    let later = since.2 clear.generation clear.over.published clear.over.at clear.over.gone in
    let within = within_get w.published clear.generation clear.over.published clear.over.at in
    record {
      area = record { serial = serial; block = found.0 };
      serial_is = refl;
      may = record {
        since = found.1.0;
        retired = still found.0 found.1.0 found.1.1;
        published = omega (arith, later, within);
        pair = record { generation = clear.generation; need = clear.over.need };
        taken = clear.over.kept;
        later = later;
        reached = clear.over.reached;
        clear = clear;
      };
      called = λ g p may at a among same.
          let far = may (record { generation = clear.generation; need = clear.over.need }) clear.over.kept clear.over.reached in
          gone_uncalled p found.0 serial (since.3 g p at (omega (arith, later, far))) a among same;
      uncalled = λ a among same.
          let some : 0 < length w.published = omega (arith, within) in
          gone_uncalled (newest_of w) found.0 serial (since.3 (newest_number w.published) (newest_of w) (there_is w.published (newest_number w.published) opening_published (omega (arith, some))) (omega (arith, later, within))) a among same;
    }

placed_releasable : (names : List Mfa) (s : ServerState) (change : Change) (t : Tables) (taken : List AreaRef) (serial : ℕ) → HavePlaced names s change t taken → IsTrue (is_retired s serial) → IsClear (written_by t.writer) Both serial → IsReleasable serial t.pools (written_by t.writer)
placed_releasable names s change t taken serial had =
    releasable names s had.rest t.pools (written_by t.writer) serial had.stands
    (λ block since at. ap (λ (p : Areas). use_of p block) had.placed.pools_are ∙ used_stays taken had.rest block (Retired serial since) had.placed.taken_are (retired_some serial since) at)

pub clear_releasable : (names : List Mfa) → ClearAreReleasable names
clear_releasable names s change Untouched t serial had = releasable names s t.pools t.pools (written_by t.writer) serial had.stands (λ block since at. at)
clear_releasable names s change (Placed areas) t serial had = placed_releasable names s change t areas.items serial had.0
clear_releasable names s change (Exported areas) t serial had = placed_releasable names s change t areas.items serial had.placed
clear_releasable names s change Patching t serial had = releasable names s t.pools t.pools (written_by t.writer) serial had.stands (λ block since at. at)

pub settling_releasable : (names : List Mfa) → SettlingAreReleasable names
settling_releasable names s t serial had = releasable names s t.pools t.pools (written_by t.writer) serial had.stands (λ block since at. at)
