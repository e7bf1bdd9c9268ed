-- The name of a function that a key of the hash table stands for.
use Rattle.term_core.specs.declared.atom.Mfa.{Mfa}
use Rattle.export_table.specs.declared.names.FunctionKey.{FunctionKey}

-- the name, by the numbers of its atoms
abbrev pub name_of_key : FunctionKey → Mfa
name_of_key k = record { «module» = record { 0 = k.«module» }; name = record { 0 = k.name }; arity = k.arity }
