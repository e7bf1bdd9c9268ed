-- The parts of a module, one after the other.
use Rattle.mod_text.proofs.Common.{◌≡◌, ◌++◌, subst, flat_map}
use Rattle.mod_text.proofs.Forms.{lines_written, function_lines}
use Rattle.mod_text.proofs.PrintedText.{module_written, few_places}
use Rattle.mod_text.proofs.printing.write_module.Goals as goal

pub returns-clause-ok : goal.returns-clause-ok
returns-clause-ok c = module_written c.extend_from_slice.result c.args.names.now c.args.«module».now c.args.out.now c.write_title.new.out c.write_functions.new.out c.extend_from_slice.new.self c.in_ok-write_title.ensures.ok (subst (λ fs. c.write_functions.new.out ≡ c.write_title.new.out ++ flat_map (λ f. lines_written (function_lines c.args.names.now fs f)) fs) c.as_slice.ensures c.in_ok-write_functions.ensures.ok) c.extend_from_slice.ensures.ok

pub write_functions-requires : goal.write_functions-requires
write_functions-requires c = record { short = few_places c.args.«module».now c.as_slice.result.now c.as_slice.ensures c.requires.valid }
