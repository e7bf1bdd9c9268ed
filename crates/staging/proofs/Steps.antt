-- What a step goes on from.
use Rattle.std.proofs.Common.{◌≡◌, inl, inr, List, refl, subst}
use Rattle.term_core.specs.declared.atom.Mfa.{Mfa}
use Rattle.area_core.specs.declared.table.Published.{Published}
use Rattle.area_core.specs.Step.{opening_published}
use Rattle.progress_words.specs.Tokens.{written_by}
use Rattle.server_core.specs.declared.change.Change.{Change}
use Rattle.server_core.specs.declared.change.Change.TheVariants.{BringIn, MakeOld, HoldWord, HoldArea, Forget}
use Rattle.server_core.specs.Decided.{change_made}
use Rattle.server_core.specs.Generations.{generation_of}
use Rattle.server_core.specs.ServerState.{ServerState}
use Rattle.breakpoints.specs.declared.patch.Patch.{Patch}
use Rattle.code_index.specs.declared.index.Staging.{Staging}
use Rattle.code_index.specs.declared.index.Staging.TheVariants.{Nothing}
use Rattle.code_index.specs.Staging.{Stages}
use Rattle.staging.specs.declared.tables.Tables.{Tables}
use Rattle.staging.specs.Exported.{AreExported}
use Rattle.staging.specs.Stages.{IsCodeChange, IsKeyChange, IsPatchFor, IsStaged}
use Rattle.staging.specs.Upcoming.{areas_in}

-- a change that goes by stages, and is none of code, is one of a key
pub key_left : (change : Change) → IsStaged change → (IsCodeChange change → ⊥) → IsKeyChange change
key_left change staged other =
    elim staged as (λ _. IsKeyChange change) [
      | inl code ↦ absurd (other code)
      | inr key ↦ key
    ]

-- the generation that comes next, over some root
abbrev next_of : List Mfa → ServerState → Change → Tables → Published
next_of names s change t = record opening_published { state = generation_of names (change_made s change).state; areas = areas_in t.pools }

-- where exports are staged, something is
pub exports_staged : (names : List Mfa) (s : ServerState) (change : Change) (t : Tables) → AreExported names s change t → t.index ≡ Nothing → ⊥
exports_staged names s change t exported nothing = subst (λ (x : Staging). Stages x (next_of names s change t) (written_by t.writer)) nothing (exported (next_of names s change t) (record { state = refl; areas = refl }))

-- a patch is one of a change of what is traced
pub code_unpatched : (change : Change) (patch : Patch) → IsCodeChange change → IsPatchFor change patch → ⊥
code_unpatched (BringIn generation modules areas versions) patch code of = of
code_unpatched (MakeOld generation name) patch code of = of
code_unpatched change patch code of = code

pub key_unpatched : (change : Change) (patch : Patch) → IsKeyChange change → IsPatchFor change patch → ⊥
key_unpatched (HoldWord generation key term keys retired) patch of_key of = of
key_unpatched (HoldArea generation key term kept areas keys retired) patch of_key of = of
key_unpatched (Forget generation key retired) patch of_key of = of
key_unpatched change patch of_key of = of_key
