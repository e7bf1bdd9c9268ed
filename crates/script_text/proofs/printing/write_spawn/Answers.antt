use Rattle.script_text.proofs.Common.{arith, common_steps}
use Rattle.script_text.proofs.printing.write_spawn.Goals as goal
use Rattle.std.specs.Io.{StartsWith}
use Rattle.term_core.proofs.Text.Starts.{starts_more}

-- what was appended before and the part of the last call
pub returns-in_err-write_terms-clause-kept : goal.returns-in_err-write_terms-clause-kept
returns-in_err-write_terms-clause-kept c = let p : StartsWith c.push-2.new.self c.args.out.now = grind (arith, common_steps) in starts_more _ _ _ p c.in_err-write_terms.ensures.kept
