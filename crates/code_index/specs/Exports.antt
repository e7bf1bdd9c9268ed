-- What a call of the name of a function reaches in a generation, and the words of a code index that stand for it.
-- Source: Erlang/OTP erts internal documentation, CodeLoading, on export entries; the words are this project's own.
use Rattle.std.specs.Prelude.{◌≡◌, ◌≢◌, ℕ, ◌+◌, ◌*◌, ◌<◌, List, Option, Some, None, slice_get, IsTrue}
use Rattle.std.specs.Option.{option_map, option_and_then}
use Rattle.term_core.specs.declared.area.AreaRef.{AreaRef}
use Rattle.term_core.specs.declared.area.CodeRef.{CodeRef}
use Rattle.term_core.specs.declared.generation.FunctionRef.{FunctionRef}
use Rattle.area_core.specs.declared.map.TheConstants.{EXPORT_ENTRIES}
use Rattle.area_core.specs.declared.table.Published.{Published}
use Rattle.area_core.specs.Map.{word_at, block_place}
use Rattle.area_core.specs.Generations.{is_code_word}
use Rattle.area_core.specs.Blocks.{Among}

-- what the name of this number reaches, if it is exported
abbrev pub export_at : Published → ℕ → Option FunctionRef
export_at p entry = option_and_then (λ e. e) (slice_get p.state.exports entry)

-- the words of a block lead each name to what the generation exports
abbrev pub LeadTo : List ℕ → ℕ → Published → Type 0
LeadTo words block p =
    (entry : ℕ) → entry < EXPORT_ENTRIES → IsTrue (is_code_word p (slice_get p.state.exports entry) (word_at words (block_place block entry)))

-- the word that leads to a function of the instance in its block, or to nothing
abbrev pub code_word : Option CodeRef → ℕ
code_word None = 0
code_word (Some at) = 1 + at.area.block * 16 + at.function

-- the function, by the serial of its instance
abbrev pub function_ref_of : CodeRef → FunctionRef
function_ref_of at = record { serial = at.area.serial; function = at.function }

-- a generation leads a name to what another leads it to, in the same block
pub record KeepsExport (p q : Published) (entry : ℕ) : Type 0 where
  pub same : export_at q entry ≡ export_at p entry
  pub placed : (to : FunctionRef) (a : AreaRef) → export_at q entry ≡ Some to → Among p.areas a → a.serial ≡ to.serial → Among q.areas a

-- a generation leads one name to this function, whose instance has its block, and each other name to what another generation
-- leads it to
pub record ExportsWith (entry : ℕ) (to : Option CodeRef) (p q : Published) : Type 0 where
  pub here : export_at q entry ≡ option_map function_ref_of to
  pub placed : (at : CodeRef) → to ≡ Some at → Among q.areas at.area
  pub others : (other : ℕ) → other ≢ entry → KeepsExport p q other
