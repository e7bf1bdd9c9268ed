-- So many versions stand behind the modules that were there.
use Rattle.std.proofs.Common.{◌≡◌, ◌++◌, map}
use Rattle.std.specs.List.{range_with_len}
use Rattle.script_maker.specs.MadeScript.{made_module}
use Rattle.script_maker.proofs.modules.add_versions.Given as goal

abbrev pub invariant-loop-earlier : goal.invariant-loop-earlier
invariant-loop-earlier l = l.modules ≡ l.fn.modules ++ map (made_module l.about) (range_with_len 1 l.earlier)
