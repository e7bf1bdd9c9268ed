use Rattle.std.proofs.Common.{append_assoc}
use Rattle.std.proofs.lemmas.Result.{IfOk-equal}
use Rattle.run_log.proofs.RenderingText.{starts_own, starts_more}
use Rattle.run_log.proofs.rendering.reply.write_reply.Goals as goal

-- the text of the reply
pub returns-in_ok-write_atoms-in-NotPurged-clause-ok : goal.returns-in_ok-write_atoms-in-NotPurged-clause-ok
returns-in_ok-write_atoms-in-NotPurged-clause-ok c =
    IfOk-equal _ _ _ _ c.push.ensures.ok (rw (c.in-NotPurged.is, c.in_ok-write_atoms-in-NotPurged.ensures.ok, c.in_ok-extend_from_slice-in-NotPurged.ensures.ok) (simp append_assoc))

-- the text of the reply
pub returns-in_ok-extend_from_slice-in-Duplicated-clause-ok : goal.returns-in_ok-extend_from_slice-in-Duplicated-clause-ok
returns-in_ok-extend_from_slice-in-Duplicated-clause-ok c =
    IfOk-equal _ _ _ _ c.print_atom.ensures.ok (rw (c.in-Duplicated.is, c.in_ok-extend_from_slice-in-Duplicated.ensures.ok) (simp append_assoc))

-- what was appended before and the part of the last call
pub returns-in_ok-extend_from_slice-in-SystemLimit-clause-kept : goal.returns-in_ok-extend_from_slice-in-SystemLimit-clause-kept
returns-in_ok-extend_from_slice-in-SystemLimit-clause-kept c =
    starts_more _ _ _ (starts_own _ _ _ c.in_ok-extend_from_slice-in-SystemLimit.ensures.ok) c.write_limit.ensures.kept
