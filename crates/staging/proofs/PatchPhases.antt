-- The phases of the patch of a change of what is traced, and what a step leaves that publishes nothing.
use Rattle.std.proofs.Common.{◌≡◌, ℕ, ◌<◌, Bool, true, false, List, [], ◌∷◌, ◌++◌, Some, None, refl, sym, ap, subst, ◌∙◌, arith}
use Rattle.atomic_table.specs.Seated.{TableId}
use Rattle.term_core.specs.declared.area.CodeRef.{CodeRef}
use Rattle.term_core.specs.declared.atom.Mfa.{Mfa}
use Rattle.area_core.specs.Blocks.{Among, IsForInstances}
use Rattle.shared_words.specs.declared.opening.Opening.{Opening}
use Rattle.shared_words.specs.declared.view.WriterView.{WriterView}
use Rattle.progress_words.specs.Tokens.{IsWriterOf, written_by}
use Rattle.server_core.specs.declared.change.Change.{Change}
use Rattle.server_core.specs.declared.change.Change.TheVariants.{SetTrace, ClearTrace}
use Rattle.server_core.specs.ServerState.{ServerState, dispatch_of}
use Rattle.breakpoints.specs.declared.patch.Patch.{Patch}
use Rattle.breakpoints.specs.declared.patch.Phase.{Phase}
use Rattle.breakpoints.specs.declared.patch.Phase.TheVariants.{Begun, Staged, Entered, Published as IsSwitched, Restored, Finished}
use Rattle.breakpoints.specs.Patches.{HasPatched, IsLastPhase, IsSettling, IsUnpublished, MovesTo, PhaseStands}
use Rattle.breakpoints.proofs.Standing.{patch_for}
use Rattle.change_laws.specs.Changes.{changed_state}
use Rattle.code_index.specs.declared.index.Staging.TheVariants as indices
use Rattle.code_index.specs.Laws as index_laws
use Rattle.code_index.specs.Staging.{IsIndexOf}
use Rattle.literal_areas.specs.declared.areas.Areas.{Areas}
use Rattle.literal_areas.specs.Owned.{AreOf}
use Rattle.term_table.specs.Laws as table_laws
use Rattle.term_table.specs.Tables.{IsTableOf}
use Rattle.staging.specs.declared.tables.Tables.{Tables}
use Rattle.staging.specs.Stages.{IsPatchFor}
use Rattle.staging.specs.Standing.{StandFor}
use Rattle.staging.specs.Traced.{phases_to}
use Rattle.staging.specs.Whose.{AreTablesOf, KeepsKnown, PatchStands}
use Rattle.staging.proofs.Known.{known_on, known_words}
use Rattle.staging.proofs.PatchStores.{AreIdle, idle_later, idle_stored, known_later, patch_later, patch_stores, stands_later, stands_stored}

-- ---- phases

-- the function of a patch that is not finished stands in a block for instances
pub phase_for : (at : CodeRef) (on : Bool) (phase : Phase) (w : WriterView) → (phase ≡ Finished → ⊥) → PhaseStands at on phase w → IsForInstances at.area.block × (at.function < 16)
phase_for at on Begun w unfinished h = patch_for None w at h.0.indices h.1
phase_for at on Finished w unfinished h = absurd (unfinished refl)
phase_for at on phase w unfinished h = patch_for (Some at) w at h.0.indices h.0.patchable

pub unpublished_unfinished : (phase : Phase) → IsUnpublished phase → phase ≡ Finished → ⊥
unpublished_unfinished phase is same = subst IsUnpublished same is

pub moves_before : (on : Bool) (before after : Phase) → IsUnpublished before → MovesTo on before after → IsUnpublished after × (phases_to after < phases_to before)
moves_before true Begun (Staged need) is moves = (tt, omega (arith))
moves_before false Begun (Staged need) is moves = (tt, omega (arith))
moves_before true (Staged n) (Entered need) is moves = (tt, omega (arith))
moves_before false (IsSwitched n) (Restored need) is moves = absurd is
moves_before on before after is moves = absurd moves

pub not_last : (on : Bool) (phase : Phase) → IsUnpublished phase → IsLastPhase on phase → ⊥
not_last true (IsSwitched need) is last = is
not_last false (Restored need) is last = is
not_last on phase is last = last

pub settling_switched : (phase : Phase) (need : ℕ) → phase ≡ IsSwitched need → IsSettling phase
settling_switched phase need is = subst IsSettling (sym is) tt

-- ---- lists

pub none_is : {X : Type 0} (xs : List X) → ((x : X) → Among xs x → ⊥) → xs ≡ []
none_is [] none = refl
none_is (x ∷ xs) none = absurd (none x (0, refl))

pub append_none : {X : Type 0} (xs : List X) → xs ++ [] ≡ xs
append_none [] = refl
append_none (x ∷ xs) = ap (λ ys. x ∷ ys) (append_none xs)

-- ---- what a change of what is traced leaves of calls and keys

pub calls_stay : (s : ServerState) (change : Change) (x : Patch) → IsPatchFor change x → (to : Mfa) → dispatch_of (changed_state s change) to ≡ dispatch_of s to
calls_stay s (SetTrace generation at traced) x of to = refl
calls_stay s (ClearTrace generation at) x of to = refl
calls_stay s change x of to = absurd of

pub keys_same : (s : ServerState) (change : Change) (x : Patch) → IsPatchFor change x → (changed_state s change).keys ≡ s.keys
keys_same s (SetTrace generation at traced) x of = refl
keys_same s (ClearTrace generation at) x of = refl
keys_same s change x of = absurd of

-- a patch with the same function, on or off as well, is that of the change too
pub patch_for_too : (change : Change) (x y : Patch) → y.at ≡ x.at → y.on ≡ x.on → IsPatchFor change x → IsPatchFor change y
patch_for_too change x y at on of = subst (IsPatchFor change) (λ i. record { at = sym at i; on = sym on i; phase = y.phase }) (by change of)
  where
    by : (c : Change) → IsPatchFor c x → IsPatchFor c (record { at = x.at; on = x.on; phase = y.phase })
    by (SetTrace generation f traced) of = of
    by (ClearTrace generation f) of = of
    by c of = absurd of

-- ---- the tables

pub tables_idle : (table : TableId) (opening : Opening) (t new : Tables) → t.index ≡ indices.Nothing → new.index ≡ t.index → new.terms ≡ t.terms → new.pools ≡ t.pools → IsWriterOf table opening new.writer → AreIdle t.terms t.pools (written_by new.writer) → PatchStands new.patch (written_by new.writer) → AreTablesOf table opening new
tables_idle table opening t new nothing index terms pools token idle patch = record {
  token = token;
  index = subst (λ i. IsIndexOf i (written_by new.writer)) (sym (index ∙ nothing)) idle.index;
  terms = subst (λ x. IsTableOf x (written_by new.writer)) (sym terms) idle.terms;
  pools = subst (λ (x : Areas). AreOf x (written_by new.writer)) (sym pools) idle.pools;
  patch = patch;
}

-- what a step leaves that publishes nothing
pub record HasStepped (names : List Mfa) (s : ServerState) (t : Tables) (v : WriterView) : Type 0 where
  pub idle : AreIdle t.terms t.pools v
  pub stands : StandFor names s t.pools v
  pub known : KeepsKnown (written_by t.writer) v
  pub published : v.published ≡ (written_by t.writer).published

pub stepped : (names : List Mfa) (s : ServerState) (t : Tables) (at : CodeRef) (v : WriterView) → index_laws.KeptByWrites → table_laws.KeptByWrites → IsForInstances at.area.block → at.function < 16 → AreIdle t.terms t.pools (written_by t.writer) → StandFor names s t.pools (written_by t.writer) → HasPatched at (written_by t.writer) v → HasStepped names s t v
stepped names s t at v by_index by_terms for few idle stands patched =
    let w = written_by t.writer in
    let m : WriterView = record w { words = v.words } in
    let stores = patch_stores at w v for few patched in
    let later = patch_later at w v for few patched in
    record {
      idle = idle_later t.terms t.pools m v later (idle_stored by_index by_terms t.terms t.pools w m stores idle);
      stands = stands_later names s t.pools m v later (stands_stored names s t.pools w m stores stands);
      known = known_on w m v (known_words w m refl) (known_later m v later);
      published = ap (λ (u : WriterView). u.published) patched.view;
    }
