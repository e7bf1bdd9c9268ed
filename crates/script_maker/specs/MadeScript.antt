-- The script that a seed and a size make: two modules in eight versions each, no observers, and two loaders, one for each module, that share
-- the commands. Nothing is deleted or purged hard, so each process prints eight lines and ends as normal.
-- Source: this project's generator of scripts. The code builds the lists from the front.
use Rattle.std.specs.Prelude.{ℕ, ◌+◌, ◌/◌, ◌%◌, ◌&&◌, ◌==◌, nat_lt, Bool, true, false, pos, List, [], ◌∷◌, ◌++◌, map, codes, if◌then◌else◌}
use Rattle.std.specs.List.{range_with_len}
use Rattle.term_core.specs.declared.atom.AtomId.{AtomId}
use Rattle.term_core.specs.declared.atom.Mfa.{Mfa}
use Rattle.term_core.specs.declared.term.Term.TheVariants.{Int, Tuple}
use Rattle.term_core.specs.Names.{given_names}
use Rattle.term_core.specs.PlainTerm.{integer_leaf}
use Rattle.term_core.specs.TermText.{number_in}
use Rattle.mod_core.specs.declared.code.Operand.TheVariants.{Reg, Const}
use Rattle.mod_core.specs.declared.code.Instr.{Instr}
use Rattle.mod_core.specs.declared.code.Instr.TheVariants.{CallExt, Print, PgetOr, Yield, Add, Less, Ret}
use Rattle.mod_core.specs.declared.code.Function.{Function}
use Rattle.mod_core.specs.declared.code.Module.{Module}
use Rattle.script_core.specs.declared.script.ScriptCmd.{ScriptCmd}
use Rattle.script_core.specs.declared.script.ScriptCmd.TheVariants.{Load, SoftPurge, CheckOld, Put, Erase, Trace, Spawn}
use Rattle.script_core.specs.declared.script.Script.{Script}
use Rattle.script_maker.specs.declared.subject.Subject.{Subject}
use Rattle.script_maker.specs.declared.modules.TheConstants.{VERSIONS, PRINTS}
use Rattle.script_maker.specs.declared.commands.TheConstants.{SPAWNING, PERIOD}
use Rattle.script_maker.specs.Generator.{number_after, picked}

-- ---- names

-- the names of a made script, in the order in which its text first has them
abbrev pub made_names : List (List ℕ)
made_names = given_names ++ codes "m0" ∷ codes "main" ∷ codes "ver" ∷ codes "k0" ∷ codes "m1" ∷ codes "k1" ∷ []

-- the atom with a text that is one of these names
abbrev pub atom_of : List ℕ → AtomId
atom_of text = record { 0 = number_in made_names text }

-- `mJ` and `kJ`: the module and the key of loader J, which is 0 or 1
abbrev pub subject_of : ℕ → Subject
subject_of loader =
    if loader == 0 then record { «module» = atom_of (codes "m0"); key = atom_of (codes "k0") }
    else record { «module» = atom_of (codes "m1"); key = atom_of (codes "k1") }

-- `mJ:main/0`, which each process enters
abbrev pub main_of : Subject → Mfa
main_of about = record { «module» = about.«module»; name = atom_of (codes "main"); arity = 0 }

-- `mJ:ver/0`, which gives the version of its module
abbrev pub version_of : Subject → Mfa
version_of about = record { «module» = about.«module»; name = atom_of (codes "ver"); arity = 0 }

-- ---- modules

-- the code of `main/0`: eight times it prints the current version and looks at the key, and ends its turn. The label `l0` is place 0.
abbrev pub main_code : Subject → List Instr
main_code about =
    CallExt (version_of about) 1
    ∷ Print (Reg 1)
    ∷ PgetOr about.key (Const (Int (pos 0))) 2
    ∷ Yield
    ∷ Add (Reg 0) (Const (Int (pos 1))) 0
    ∷ Less (Reg 0) (Const (Int PRINTS)) 0
    ∷ []

-- `main/0`
abbrev pub main_function : Subject → Function
main_function about = record { name = atom_of (codes "main"); arity = 0; exported = true; code = main_code about }

-- `ver/0`: it gives the version
abbrev pub version_function : ℕ → Function
version_function version = record { name = atom_of (codes "ver"); arity = 0; exported = true; code = Ret (Const (Int (pos version))) ∷ [] }

-- version V of a module
abbrev pub made_module : Subject → ℕ → Module
made_module about version = record { name = about.«module»; version = version; functions = main_function about ∷ version_function version ∷ [] }

-- the versions 1 to 8 of a module
abbrev pub made_versions : Subject → List Module
made_versions about = map (made_module about) (range_with_len 1 VERSIONS)

-- ---- commands

-- the version that a command at a place names: 1 to 8 in turn
abbrev pub version_at : ℕ → ℕ
version_at place = 1 + place % PERIOD

-- a place at which a process is spawned: every eighth one of the first 256
abbrev pub spawns_at : ℕ → Bool
spawns_at place = nat_lt place SPAWNING && place % PERIOD == 7

-- the load of a version
abbrev pub made_load : Subject → ℕ → ScriptCmd
made_load about version = Load ((record { name = about.«module»; version = version }) ∷ [])

-- the put of a place and a version
abbrev pub put_by_maker : Subject → ℕ → ℕ → ScriptCmd
put_by_maker about place version = Put about.key (Tuple (integer_leaf (pos place) ∷ integer_leaf (pos version) ∷ []))

-- the command of a kind at a place
abbrev pub command_of_kind : Subject → ℕ → ℕ → ScriptCmd
command_of_kind about place kind =
    if kind == 0 then made_load about (version_at place)
    else if kind == 1 then SoftPurge about.«module»
    else if kind == 2 then CheckOld about.«module»
    else if kind == 3 then put_by_maker about place (version_at place)
    else if kind == 4 then Erase about.key
    else if kind == 5 then Trace (version_of about) true
    else Trace (version_of about) false

-- the command at a place, counted from 0, where the generator has this number: the first case that holds
abbrev pub made_command : Subject → ℕ → ℕ → ScriptCmd
made_command about place number =
    if place == 0 then made_load about 1
    else if spawns_at place then Spawn (main_of about) []
    else command_of_kind about place (picked number)

-- the command of a loader at a place: the generator makes one step before each command
abbrev pub command_at : ℕ → ℕ → ℕ → ScriptCmd
command_at seed loader place = made_command (subject_of loader) place (number_after seed loader (place + 1))

-- so many commands of a loader
abbrev pub made_commands : ℕ → ℕ → ℕ → List ScriptCmd
made_commands seed loader count = map (command_at seed loader) (range_with_len 0 count)

-- ---- the script

-- the script that a seed and a size make: loader 0 has one command more where the size is odd
abbrev pub made_script : ℕ → ℕ → Script
made_script seed size = record {
  names = made_names;
  modules = made_versions (subject_of 0) ++ made_versions (subject_of 1);
  observers = [];
  loaders = made_commands seed 0 ((size + 1) / 2) ∷ made_commands seed 1 (size / 2) ∷ [];
}
