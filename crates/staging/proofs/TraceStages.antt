-- A change of what is traced brings nothing in: before its patch the words are at rest.
use Rattle.std.proofs.Common.{◌≡◌, ◌≤◌, List, [], ◌∷◌, length, Global, refl, sym, ap, subst, arith}
use Rattle.std.specs.Prelude.{Vec}
use Rattle.term_core.specs.declared.area.AreaRef.{AreaRef}
use Rattle.term_core.specs.declared.atom.Mfa.{Mfa}
use Rattle.progress_words.specs.Tokens.{written_by}
use Rattle.server_core.specs.declared.change.Change.{Change}
use Rattle.server_core.specs.declared.change.Change.TheVariants.{SetTrace, ClearTrace}
use Rattle.server_core.specs.ServerState.{ServerState}
use Rattle.change_laws.specs.Changes.{Incoming, incoming}
use Rattle.literal_areas.specs.declared.areas.Areas.{Areas}
use Rattle.staging.specs.declared.stage.Stage.{Stage}
use Rattle.staging.specs.declared.stage.Stage.TheVariants.{Untouched, Placed, Exported, Patching}
use Rattle.staging.specs.declared.tables.Tables.{Tables}
use Rattle.staging.specs.Stages.{AreAtRest, HavePlaced, IsCodeChange, StageStands, areas_at}
use Rattle.staging.specs.Standing.{StandFor}
use Rattle.staging.specs.Traced.{IsTraceChange}

pub none_exported : (change : Change) → IsTraceChange change → IsCodeChange change → ⊥
none_exported (SetTrace generation at traced) is code = code
none_exported (ClearTrace generation at) is code = code
none_exported change is code = is

none_comes : (change : Change) → IsTraceChange change → incoming change ≡ []
none_comes (SetTrace generation at traced) is = refl
none_comes (ClearTrace generation at) is = refl
none_comes change is = absurd is

-- nothing was placed
none_placed : (names : List Mfa) (s : ServerState) (change : Change) (t : Tables) (taken : List AreaRef) → incoming change ≡ [] → (had : HavePlaced names s change t taken) → t.pools ≡ had.rest
none_placed names s change t [] none had = had.placed.pools_are
none_placed names s change t (a ∷ taken) none had = absurd (let few = subst (λ (comes : List Incoming). length (a ∷ taken) ≤ length comes) none had.placed.few in omega (arith, few))

-- so the words are at rest
pub rest_placed : (names : List Mfa) (s : ServerState) (change : Change) (t : Tables) (areas : Vec AreaRef Global) → IsTraceChange change → StageStands names s change t (Placed areas) → AreAtRest names s t
rest_placed names s change t areas is had = record {
  stands = subst (λ (x : Areas). StandFor names s x (written_by t.writer)) (sym (none_placed names s change t areas.items (none_comes change is) had.0)) had.0.stands;
  staged = record { index = had.1; terms = had.0.terms; patch = had.0.patch };
}

-- where nothing comes in, as many have their areas
few_placed : (taken : List AreaRef) (comes : List Incoming) → length taken ≤ length comes → comes ≡ [] → length taken ≡ length comes
few_placed taken comes few none =
    let many = ap length none in
    omega (arith, few, many)

-- and all that it brings in has its area, as that is nothing
pub trace_placed : (names : List Mfa) (s : ServerState) (change : Change) (t : Tables) (stage : Stage) → IsTraceChange change → StageStands names s change t stage → length (areas_at stage) ≡ length (incoming change)
trace_placed names s change t Untouched is had = ap length (sym (none_comes change is))
trace_placed names s change t (Placed areas) is had = few_placed areas.items (incoming change) had.0.placed.few (none_comes change is)
trace_placed names s change t (Exported areas) is had = had.whole
trace_placed names s change t Patching is had = ap length (sym (none_comes change is))
