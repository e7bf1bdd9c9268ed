use Rattle.std.proofs.Common.{arith, append_assoc}
use Rattle.std.proofs.lemmas.Grind.{common_steps}
use Rattle.std.proofs.lemmas.Result.{IfOk-equal}
use Rattle.std.specs.Io.{StartsWith}
use Rattle.run_log.proofs.RenderingText.{plain_texts, starts_more}
use Rattle.run_log.proofs.rendering.name.write_call.Goals as goal

-- what was appended before and the part of the last call
pub returns-in_err-write_terms-clause-kept : goal.returns-in_err-write_terms-clause-kept
returns-in_err-write_terms-clause-kept c = let p : StartsWith c.push-2.new.self c.args.out.now = grind (arith, common_steps) in starts_more _ _ _ p c.in_err-write_terms.ensures.kept

-- the text of the call
pub returns-clause-ok : goal.returns-clause-ok
returns-clause-ok c =
    let texts = plain_texts c.args.names.now c.as_slice.result.now c.args.args.now c.as_slice.ensures in
    IfOk-equal _ _ _ _ c.push-3.ensures.ok (rw (c.in_ok-write_terms.ensures.ok, c.in_ok-push-2.ensures.ok, c.in_ok-print_atom-2.ensures.ok, c.in_ok-push.ensures.ok, c.in_ok-print_atom.ensures.ok, texts) (simp append_assoc))
