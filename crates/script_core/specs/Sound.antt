-- What every script has that is the value of some text.
-- Source: this project's limits of a script.
use Rattle.std.specs.Prelude.{◌≡◌, ℕ, ◌<◌, ◌≤◌, List, length, All, IsTrue, is_some}
use Rattle.std.specs.List.{AllByRecursion}
use Rattle.term_core.specs.Names.{IsNames}
use Rattle.term_core.specs.declared.term_text.TheConstants.{MOST_WORDS}
use Rattle.term_core.specs.Plain.{plain}
use Rattle.term_core.specs.PlainTerm.{PlainTerm, EachLeaf, term_words}
use Rattle.term_core.specs.Written.{IsTermInteger}
use Rattle.mod_core.specs.declared.code.Module.{Module}
use Rattle.mod_core.specs.HeldNames.{IsModuleHeld}
use Rattle.server_core.specs.declared.command.ModRef.{ModRef}
use Rattle.server_core.specs.CommandTable.{AreTexts, text_of}
use Rattle.script_core.specs.declared.script.TheConstants.{MOST_LOADERS, MOST_PROCESSES, MOST_OBSERVERS, MOST_SNAPSHOTS}
use Rattle.script_core.specs.declared.script.ScriptCmd.{ScriptCmd}
use Rattle.script_core.specs.declared.script.ScriptCmd.TheVariants.{Load, Delete, SoftPurge, Purge, CheckOld, Put, Erase, Trace, Spawn}
use Rattle.script_core.specs.declared.script.Script.{Script}
use Rattle.script_core.specs.Processes.{processes_of}

-- a term of at most 64 words, its integers of 60 bits, its atoms named
pub record IsTermOf (names : List (List ℕ)) (term : PlainTerm) : Type 0 where
  pub leaves : EachLeaf IsTermInteger (λ atom. atom < length names) term
  pub short : term_words term ≤ MOST_WORDS

-- a put of a term under a key that has a name
pub record IsPutOf (names : List (List ℕ)) (key : ℕ) (term : PlainTerm) : Type 0 where
  pub key_named : key < length names
  pub is_term : IsTermOf names term

-- a load of at least one module, each of which is given
pub record IsLoadOf (texts : List Module) (refs : List ModRef) : Type 0 where
  pub some : 0 < length refs
  pub given : AllByRecursion (λ r. IsTrue (is_some (text_of texts r))) refs

-- a breakpoint of a function whose atoms have names
pub record IsTraceOf (names : List (List ℕ)) (m f arity : ℕ) : Type 0 where
  pub module_named : m < length names
  pub name_named : f < length names
  pub few : arity ≤ 15

-- a spawn of a function whose atoms have names, with as many arguments as its arity, each a term within the limits
pub record IsSpawnOf (names : List (List ℕ)) (m f arity : ℕ) (args : List PlainTerm) : Type 0 where
  pub module_named : m < length names
  pub name_named : f < length names
  pub arity_is : arity ≡ length args
  pub few : arity ≤ 15
  pub each : AllByRecursion (IsTermOf names) args

-- a command that can be made: what a load, a put or a spawn needs; and a module, a function or a key that is named
abbrev pub IsCmdOf : List (List ℕ) → List Module → ScriptCmd → Type 0
IsCmdOf names texts (Load refs) = IsLoadOf texts refs
IsCmdOf names texts (Delete m) = m.0 < length names
IsCmdOf names texts (SoftPurge m) = m.0 < length names
IsCmdOf names texts (Purge m) = m.0 < length names
IsCmdOf names texts (CheckOld m) = m.0 < length names
IsCmdOf names texts (Put key term) = IsPutOf names key.0 (plain term)
IsCmdOf names texts (Erase key) = key.0 < length names
IsCmdOf names texts (Trace target on) = IsTraceOf names target.«module».0 target.name.0 target.arity
IsCmdOf names texts (Spawn target args) = IsSpawnOf names target.«module».0 target.name.0 target.arity args

-- a script that is the value of some text: its modules can be loaded, their atoms have names, each load and each spawn can be made, and it is within
-- the limits of loaders, processes and observers
pub record IsScript (s : Script) : Type 0 where
  pub names : IsNames s.names
  pub texts : AreTexts s.modules
  pub held : All (IsModuleHeld s.names) s.modules
  pub commands : AllByRecursion (λ commands. AllByRecursion (IsCmdOf s.names s.modules) commands) s.loaders
  pub few_loaders : length s.loaders ≤ MOST_LOADERS
  pub few_processes : processes_of s ≤ MOST_PROCESSES
  pub few_observers : length s.observers ≤ MOST_OBSERVERS
  pub snapshots : AllByRecursion (λ n. (0 < n) × (n ≤ MOST_SNAPSHOTS)) s.observers
