use Rattle.std.proofs.Common.{arith}
use Rattle.std.proofs.lemmas.Grind.{common_steps}
use Rattle.std.specs.Io.{StartsWith}
use Rattle.run_log.proofs.RenderingText.{starts_more}
use Rattle.run_log.proofs.rendering.write_entry.Goals as goal

-- what was appended before and the part of the last call
pub returns-in_err-write_published-clause-kept : goal.returns-in_err-write_published-clause-kept
returns-in_err-write_published-clause-kept c = let p : StartsWith c.push-2.new.self c.args.out.now = grind (arith, common_steps) in starts_more _ _ _ p c.in_err-write_published.ensures.kept
