-- So many commands are made, and the generator has made as many steps.
use Rattle.std.proofs.Common.{◌≡◌}
use Rattle.script_maker.specs.Generator.{number_after}
use Rattle.script_maker.specs.MadeScript.{made_commands}
use Rattle.script_maker.proofs.commands.made_commands.Given as goal

abbrev pub invariant-loop-place : goal.invariant-loop-place
invariant-loop-place l = record {
  commands : l.commands ≡ made_commands l.seed l.loader l.place;
  number : l.number ≡ number_after l.seed l.loader l.place;
}
