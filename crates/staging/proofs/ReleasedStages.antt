-- What a command that waits has placed and staged stands still once an area is released.
use Rattle.std.proofs.Common.{◌≡◌, ◌≢◌, ℕ, zero, suc, ◌+◌, ◌-◌, ◌<◌, ◌≤◌, ◌⊎◌, inl, inr, List, [], ◌∷◌, Some, refl, sym, ap, subst, ◌∙◌, arith}
use Rattle.std.specs.Prelude.{slice_set}
use Rattle.std.proofs.lemmas.Bool.{cases_lt, le-ltb, lt-ltb}
use Rattle.prgr_core.proofs.Parts.{some_same}
use Rattle.term_core.specs.declared.area.AreaRef.{AreaRef}
use Rattle.term_core.specs.declared.atom.Mfa.{Mfa}
use Rattle.area_core.specs.declared.table.Published.{Published}
use Rattle.area_core.specs.Blocks.{Among}
use Rattle.area_core.specs.Map.{block_place}
use Rattle.shared_words.specs.declared.view.WriterView.{WriterView}
use Rattle.progress_words.specs.Tokens.{written_by}
use Rattle.server_core.specs.Generations.{generation_of}
use Rattle.server_core.specs.declared.change.Change.{Change}
use Rattle.server_core.specs.declared.change.Change.TheVariants.{BringIn, MakeOld}
use Rattle.server_core.specs.CommandTable.{Outcome, with_released}
use Rattle.server_core.specs.Decided.{IsNoRelease, change_made}
use Rattle.server_core.specs.ServerState.{ServerState, dispatch_of}
use Rattle.change_laws.specs.Changes.{Incoming, incoming, changed_state}
use Rattle.change_laws.specs.Uses.{IsUsed}
use Rattle.change_laws.proofs.AfterRelease.{later_made}
use Rattle.change_laws.proofs.AreaUses.{used_stood}
use Rattle.code_index.specs.declared.index.Staging.{Staging}
use Rattle.code_index.specs.Exports.{KeepsExport}
use Rattle.code_index.specs.Laws as indices
use Rattle.code_index.specs.Staging.{IsIndexOf, Stages}
use Rattle.literal_areas.specs.declared.areas.Areas.{Areas}
use Rattle.literal_areas.specs.declared.blocks.BlockUse.{BlockUse}
use Rattle.literal_areas.specs.declared.blocks.BlockUse.TheVariants.{Free, Live, Retired}
use Rattle.literal_areas.specs.Blocks.{serial_at, use_of, with_area, with_use, without_area}
use Rattle.literal_areas.specs.Owned.{AreOf}
use Rattle.literal_areas.specs.Released.{MayRelease, area_released}
use Rattle.literal_areas.proofs.Serials.{serial_other}
use Rattle.literal_areas.proofs.Uses.{use_other, use_there}
use Rattle.term_table.specs.Laws as terms
use Rattle.term_table.specs.Tables.{IsTableOf, Terms}
use Rattle.staging.specs.declared.tables.Tables.{Tables}
use Rattle.staging.specs.declared.stage.Stage.TheVariants.{Untouched, Placed, Exported, Patching}
use Rattle.staging.specs.Placed.{ArePlaced, AreTaken, IsAreaOf, with_areas}
use Rattle.staging.specs.Released.{SettlingReleased, StagesReleased}
use Rattle.staging.specs.Stages.{HaveExported, HavePlaced, IsCodeChange}
use Rattle.staging.specs.Standing.{StandFor}
use Rattle.staging.specs.Upcoming.{IsUpcoming, areas_in}
use Rattle.staging.proofs.AreasIn.{listed_stands, stands_listed}
use Rattle.staging.proofs.BlockUses.{retired_live, retired_some}
use Rattle.staging.proofs.Frames.{block_behind}
use Rattle.staging.proofs.KeptExports.{exported}
use Rattle.staging.proofs.ReleasedTables.{keeps, rest_released, retired_here, stands_beside, stands_released, still_released, told, within}
use Rattle.staging.proofs.Releases.{other_block, used_differ}
use Rattle.staging.proofs.StagedKey.{stands_with}
use Rattle.staging.proofs.StagedNames.{reached_used}
use Rattle.staging.proofs.TakenUses.{IsTakenAt, used_after}

-- ---- two blocks apart

set_apart : (xs : List BlockUse) (i j : ℕ) (x y : BlockUse) → (i ≡ j → ⊥) → slice_set (slice_set xs i x) j y ≡ slice_set (slice_set xs j y) i x
set_apart [] i j x y differ = refl
set_apart (z ∷ zs) zero zero x y differ = absurd (differ refl)
set_apart (z ∷ zs) zero (suc j) x y differ = refl
set_apart (z ∷ zs) (suc i) zero x y differ = refl
set_apart (z ∷ zs) (suc i) (suc j) x y differ = ap (λ (us : List BlockUse). z ∷ us) (set_apart zs i j x y (λ same. differ (ap suc same)))

uses_apart : (pools : Areas) (a b : ℕ) (x y : BlockUse) → 9 ≤ a → 9 ≤ b → (a ≡ b → ⊥) → with_use a x (with_use b y pools) ≡ with_use b y (with_use a x pools)
uses_apart pools a b x y some also differ =
    elim (cases_lt a 64) as (λ _. with_use a x (with_use b y pools) ≡ with_use b y (with_use a x pools)) [
      | inl low ↦
          elim (cases_lt b 64) as (λ _. with_use a x (with_use b y pools) ≡ with_use b y (with_use a x pools)) [
            | inl also_low ↦ rw (lt-ltb a 64 low, lt-ltb b 64 also_low) (ap (λ (us : List BlockUse). record pools { big = us }) (set_apart pools.big (b - 9) (a - 9) y x (λ same. differ (omega (arith, same, some, also)))))
            | inr high ↦ rw (lt-ltb a 64 low, le-ltb b 64 high) refl
          ]
      | inr high ↦
          elim (cases_lt b 64) as (λ _. with_use a x (with_use b y pools) ≡ with_use b y (with_use a x pools)) [
            | inl low ↦ rw (le-ltb a 64 high, lt-ltb b 64 low) refl
            | inr also_high ↦ rw (le-ltb a 64 high, le-ltb b 64 also_high) (ap (λ (us : List BlockUse). record pools { small = us }) (set_apart pools.small (b - 64) (a - 64) y x (λ same. differ (omega (arith, same, high, also_high)))))
          ]
    ]

-- areas are taken beside the block that is freed
pub taken_beside : (taken : List AreaRef) (pools : Areas) (area : AreaRef) (n since : ℕ) → use_of pools area.block ≡ Some (Retired n since) → AreTaken taken pools
    → AreTaken taken (without_area area pools) × (with_areas taken (without_area area pools) ≡ without_area area (with_areas taken pools))
taken_beside [] pools area n since at were = (tt, refl)
taken_beside (a ∷ taken) pools area n since at were =
    let differ : a.block ≡ area.block → ⊥ = λ same. retired_some n since (some_same (Retired n since) Free (sym at ∙ ap (use_of pools) (sym same) ∙ were.1)) in
    let commute : with_area a (without_area area pools) ≡ without_area area (with_area a pools) =
    uses_apart (record pools { next = pools.next + 1 }) a.block area.block (Live a.serial) Free (use_there pools a.block Free were.1) (use_there pools area.block (Retired n since) at) differ in
    let behind = taken_beside taken (with_area a pools) area n since (use_other (record pools { next = pools.next + 1 }) a.block area.block Free (Live a.serial) were.1 (λ same. differ (sym same)) ∙ at) were.2 in
    ((were.0, use_other pools area.block a.block (Retired n since) Free at differ ∙ were.1, subst (AreTaken taken) (sym commute) behind.0), ap (with_areas taken) commute ∙ behind.1)

-- ---- the stages

module _ (pools : Areas) (w : WriterView) (area : AreaRef) (own : AreOf pools w) (may : MayRelease pools w area) (names : List Mfa) (serial : ℕ) (is : area.serial ≡ serial) where
  abbrev later : WriterView
  later = area_released area w

  abbrev freed : Areas
  freed = without_area area pools

  -- an area that is placed stands still
  each_still : (i : Incoming) (a : AreaRef) → IsAreaOf w i a → IsAreaOf (record w { words = later.words; kept = later.kept; looks = later.looks }) i a
  each_still i a was = record {
    small = was.small;
    first = was.first;
    last = was.last;
    room = was.room;
    unpublished = record { listed = was.unpublished.listed; kept = λ k among. was.unpublished.kept k ((keeps pools w area own may).was k among) };
    written = λ at value there.
        let behind = block_behind a.block at in
        let few = within pools w area own may in
        (told pools w area own may).others (block_place a.block at) (λ same. omega (arith, same, behind, few)) (λ big same. omega (arith, same, behind, big)) ∙ was.written at value there;
  }

  module _ (s : ServerState) (change : Change) (rest : Areas) (taken : List AreaRef) (placed : ArePlaced (incoming change) rest pools w taken) where
    here : use_of rest area.block ≡ Some (Retired serial may.since)
    here = by (used_after taken rest area.block (Retired serial may.since) placed.taken_are (sym (ap (λ (p : Areas). use_of p area.block) placed.pools_are) ∙ retired_here pools w area own may serial is))
      where
        by : (use_of rest area.block ≡ Some (Retired serial may.since)) ⊎ IsTakenAt taken area.block (Retired serial may.since) → use_of rest area.block ≡ Some (Retired serial may.since)
        by (inl was) = was
        by (inr taken_at) = absurd (retired_live serial may.since taken_at.area.serial taken_at.used)

    with_taken : (b n : ℕ) → serial_at rest b ≡ Some n → serial_at pools b ≡ Some n
    with_taken b n there = subst (λ (p : Areas). serial_at p b ≡ Some n) (sym placed.pools_are) (stands_with taken rest b n placed.taken_are there)

    apart : (a b n : ℕ) → serial_at rest a ≡ Some n → serial_at rest b ≡ Some n → a ≡ b
    apart a b n first second = own.sound.apart a b n (with_taken a n first) (with_taken b n second)

    beside : AreTaken taken (without_area area rest) × (with_areas taken (without_area area rest) ≡ without_area area (with_areas taken rest))
    beside = taken_beside taken rest area serial may.since here placed.taken_are

    placed_still : ArePlaced (incoming change) (without_area area rest) freed later taken
    placed_still =
        subst (λ (v : WriterView). ArePlaced (incoming change) (without_area area rest) freed v taken) (sym (told pools w area own may).same)
        (record {
          few = placed.few;
          taken_are = beside.0;
          pools_are = ap (without_area area) placed.pools_are ∙ sym beside.1;
          each = λ place i a at there. each_still i a (placed.each place i a at there);
        })

    module _ (stands : StandFor names s rest w) where
      pub stands_still : StandFor names (with_released s serial) (without_area area rest) later
      stands_still = stands_beside pools w area own may names s serial rest is here apart stands

      -- ---- exports

      known : serial < s.next_serial
      known =
          let stood = stands.newest_is.stood in
          let below = (stands.newest_is.sound.retired serial (stands.newest_is.since.fewer serial (stands.blocks.retired area.block serial may.since here))).known in
          subst (λ (t : ServerState). serial < t.next_serial) (sym stands.newest_is.since.same) below

      -- what the state uses that the change leaves is another area
      after_differ : (n : ℕ) → IsUsed (changed_state s change) n → n ≢ serial
      after_differ n used = by (used_stood s change n used)
        where
          by : IsUsed s n ⊎ (s.next_serial ≤ n) → n ≢ serial
          by (inl stood) same = used_differ names s serial rest area may.since is here apart w w.words w.kept w.looks stands n stood same
          by (inr past) same = let low = known in omega (arith, low, past, same)

      module _ (other : IsNoRelease change) (p : Published) (up : IsUpcoming names (change_made (with_released s serial) change).state freed p) where
        abbrev q : Published
        q = record p { state = generation_of names (change_made s change).state; areas = areas_in pools }

        calls : (to : Mfa) → dispatch_of (change_made (with_released s serial) change).state to ≡ dispatch_of (change_made s change).state to
        calls to = ap (λ (o : Outcome). dispatch_of o.state to) (later_made s serial change other)

        export_kept : (k : ℕ) → KeepsExport q p k
        export_kept k = record {
          same = exported names (change_made s change).state (change_made (with_released s serial) change).state p up.state calls k ∙ sym (exported names (change_made s change).state (change_made s change).state q refl (λ to. refl) k);
          placed = λ to a at among same.
              let there = listed_stands pools own.sound.sizes a among in
              let used = reached_used names (change_made s change).state k to a.serial (sym (exported names (change_made s change).state (change_made (with_released s serial) change).state p up.state calls k) ∙ at) same in
              let apart_here = own.sound.apart in
              let off = other_block names s serial pools area may.since is (retired_here pools w area own may serial is) apart_here a.block a.serial (after_differ a.serial used) there in
              subst (λ (areas : List AreaRef). Among areas a) (sym up.areas) (stands_listed freed a (serial_other pools area.block a.block (Retired serial may.since) Free (retired_here pools w area own may serial is) off ∙ there));
        }

        pub stages_still : (x : Staging) → indices.KeptByExports → (Stages x q w) → ((r : Published) → Stages x r w → Stages x r later) → Stages x p later
        stages_still x alike staged still = still p (alike x w q p export_kept staged)

-- a change of code releases none
no_release : (change : Change) → IsCodeChange change → IsNoRelease change
no_release (BringIn generation modules areas versions) code = tt
no_release (MakeOld generation name) code = tt
no_release change code = absurd code

module _ (names : List Mfa) (serial : ℕ) (old new : Tables) (area : AreaRef) (own : AreOf old.pools (written_by old.writer)) (may : MayRelease old.pools (written_by old.writer) area) (is : area.serial ≡ serial) (pools : new.pools ≡ without_area area old.pools)
    (stored : written_by new.writer ≡ area_released area (written_by old.writer)) (index : new.index ≡ old.index) (tables : new.terms ≡ old.terms) (patch : new.patch ≡ old.patch) where
  now_stands : (s : ServerState) → StandFor names s old.pools (written_by old.writer) → StandFor names (with_released s serial) new.pools (written_by new.writer)
  now_stands s stands = subst (λ (z : Areas × WriterView). StandFor names (with_released s serial) z.0 z.1) (λ i. (sym pools i, sym stored i)) (stands_released old.pools (written_by old.writer) area own may names s serial is stands)

  placed_released : (s : ServerState) (change : Change) (taken : List AreaRef) → HavePlaced names s change old taken → HavePlaced names (with_released s serial) change new taken
  placed_released s change taken had = record {
    rest = without_area area had.rest;
    stands = subst (StandFor names (with_released s serial) (without_area area had.rest)) (sym stored) (stands_still old.pools (written_by old.writer) area own may names serial is s change had.rest taken had.placed had.stands);
    placed = subst (λ (z : Areas × WriterView). ArePlaced (incoming change) (without_area area had.rest) z.0 z.1 taken) (λ i. (sym pools i, sym stored i)) (placed_still old.pools (written_by old.writer) area own may names serial is s change had.rest taken had.placed);
    terms = ap (λ (x : Terms). x.staged) tables ∙ had.terms;
    patch = patch ∙ had.patch;
  }

  exported_released : indices.KeptByExports → indices.KeptByStores → terms.KeptByStores → IsIndexOf old.index (written_by old.writer) → IsTableOf old.terms (written_by old.writer) → (s : ServerState) (change : Change) (taken : List AreaRef) → HaveExported names s change old taken
      → HaveExported names (with_released s serial) change new taken
  exported_released alike by_index by_terms index_own terms_own s change taken had = record {
    code = had.code;
    placed = placed_released s change taken had.placed;
    whole = had.whole;
    exported = λ p up.
        let freed_up = subst (λ (x : Areas). IsUpcoming names (change_made (with_released s serial) change).state x p) pools up in
        let still = still_released old.index old.terms (written_by old.writer) area by_index by_terms (within old.pools (written_by old.writer) area own may) index_own terms_own in
        subst (λ (z : Staging × WriterView). Stages z.0 p z.1) (λ i. (sym index i, sym stored i))
        (stages_still old.pools (written_by old.writer) area own may names serial is s change had.placed.rest taken had.placed.placed had.placed.stands (no_release change had.code) p freed_up old.index alike
        (had.exported (record p { state = generation_of names (change_made s change).state; areas = areas_in old.pools }) (record { state = refl; areas = refl })) still.staged);
  }

  pub stages_released : indices.KeptByExports → indices.KeptByStores → terms.KeptByStores → IsIndexOf old.index (written_by old.writer) → IsTableOf old.terms (written_by old.writer) → StagesReleased names serial old new
  stages_released alike by_index by_terms index_own terms_own s change Untouched had = rest_released names serial old new area own may is pools stored index tables patch s had
  stages_released alike by_index by_terms index_own terms_own s change (Placed areas) had = (placed_released s change areas.items had.0, index ∙ had.1)
  stages_released alike by_index by_terms index_own terms_own s change (Exported areas) had = exported_released alike by_index by_terms index_own terms_own s change areas.items had
  stages_released alike by_index by_terms index_own terms_own s change Patching had = record {
    stands = now_stands s had.stands;
    index = index ∙ had.index;
    terms = ap (λ (x : Terms). x.staged) tables ∙ had.terms;
    patch = had.patch;
    is = patch ∙ had.is;
    of = had.of;
    before = had.before;
  }

  pub settling_released : SettlingReleased names serial old new
  settling_released s had = record {
    stands = now_stands s had.stands;
    index = index ∙ had.index;
    terms = ap (λ (x : Terms). x.staged) tables ∙ had.terms;
    patch = had.patch;
    is = patch ∙ had.is;
    behind = had.behind;
  }
