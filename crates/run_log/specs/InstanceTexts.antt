-- Where the code of a server's instances is from: the module texts of a script, whose exported functions are then all that an instance can export.
-- Source: the manual page `code`, where what is loaded is a file that is there. The definitions speak of a state, however it came about.
use Rattle.std.specs.Prelude.{◌≡◌, ℕ, List, IfSome, IsSome, Contains}
use Rattle.std.specs.List.{Any}
use Rattle.term_core.specs.declared.atom.Mfa.{Mfa}
use Rattle.mod_core.specs.declared.code.Module.{Module}
use Rattle.server_core.specs.ServerState.{ServerState, code_of, export_of}

-- each instance of the state, of whatever age, is of one of these modules
abbrev pub AreOfTexts : List Module → ServerState → Type 0
AreOfTexts texts s = (serial : ℕ) → IfSome (code_of s serial) (λ m. Contains texts m)

-- the function is one that this module exports
pub record IsExportedBy (to : Mfa) (m : Module) : Type 0 where
  pub here : m.name ≡ to.«module»
  pub exported : IsSome (export_of m to)

-- some version among these modules exports the function
abbrev pub IsExportedAmong : List Module → Mfa → Type 0
IsExportedAmong texts to = Any (IsExportedBy to) texts
