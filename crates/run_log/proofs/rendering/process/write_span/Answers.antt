use Rattle.std.proofs.Common.{arith}
use Rattle.std.proofs.lemmas.Grind.{common_steps}
use Rattle.std.specs.Io.{StartsWith}
use Rattle.run_log.proofs.RenderingText.{starts_more}
use Rattle.run_log.proofs.rendering.process.write_span.Goals as goal

-- what was appended before and the part of the last call
pub returns-clause-kept : goal.returns-clause-kept
returns-clause-kept c = let p : StartsWith c.push-2.new.self c.args.out.now = grind (arith, common_steps) in starts_more _ _ _ p c.write_lines.ensures.kept
