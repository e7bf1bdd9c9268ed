use Rattle.script_text.proofs.Common.{◌≡◌, drop, length, map}
use Rattle.script_text.proofs.Forms.{kept_argument, argument_named, each_named}
use Rattle.script_text.proofs.NamingLoops.{with_front}
use Rattle.script_text.proofs.reading.naming.name_arguments.Given as goal

-- what was named, in front of what is left, is the whole
abbrev pub invariant-loop-argument : goal.invariant-loop-argument
invariant-loop-argument l = record {
  so_far : with_front l.terms (each_named argument_named l.names (map kept_argument (drop l.argument-index l.args))) ≡ each_named argument_named l.initial.names (map kept_argument l.args);
  count : length l.terms ≡ l.argument-index;
}
