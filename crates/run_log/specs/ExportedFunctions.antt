-- The functions that the module texts of a script export.
-- Source: this project's report text, whose exports stand by the names of their modules, then by their own names, then by their arities.
use Rattle.std.specs.Prelude.{ℕ, List, map, filter, Contains}
use Rattle.std.specs.List.Sorted.{IsStrictlySortedBy}
use Rattle.term_core.specs.declared.atom.AtomId.{AtomId}
use Rattle.term_core.specs.declared.atom.Mfa.{Mfa}
use Rattle.mod_core.specs.declared.code.Function.{Function}
use Rattle.mod_core.specs.declared.code.Module.{Module}
use Rattle.run_log.specs.Snapshots.{mfa_cmp}
use Rattle.run_log.specs.InstanceTexts.{IsExportedAmong}

-- these are the functions that some of the modules export, in order, each once, and all of them
pub record AreExportedFunctions (names : List (List ℕ)) (texts : List Module) (functions : List Mfa) : Type 0 where
  pub sorted : IsStrictlySortedBy (mfa_cmp names) functions
  pub exported : (to : Mfa) → Contains functions to → IsExportedAmong texts to
  pub whole : (to : Mfa) → IsExportedAmong texts to → Contains functions to

-- the full name of a function of a module
abbrev pub full_name : AtomId → Function → Mfa
full_name module_name f = record { «module» = module_name; name = f.name; arity = f.arity }

-- the functions that a module exports, in the order of its text
abbrev pub exports_in : Module → List Mfa
exports_in m = map (full_name m.name) (filter (λ f. f.exported) m.functions)
