use Rattle.std.proofs.Common.{arith, append_assoc}
use Rattle.std.proofs.lemmas.Grind.{common_steps}
use Rattle.std.proofs.lemmas.Result.{IfOk-equal}
use Rattle.std.specs.Io.{StartsWith}
use Rattle.run_log.proofs.RenderingText.{starts_own, starts_either, starts_more}
use Rattle.run_log.proofs.rendering.write_report.Goals as goal

-- what was appended before and the part of the last call
pub returns-in_err-write_entries-clause-kept : goal.returns-in_err-write_entries-clause-kept
returns-in_err-write_entries-clause-kept c =
    let p : StartsWith c.push.new.self c.args.out.now = grind (arith, common_steps) in
    starts_more _ _ _ p c.in_err-write_entries.ensures.kept

-- what was appended before and the part of the last call
pub returns-in_err-write_processes-clause-kept : goal.returns-in_err-write_processes-clause-kept
returns-in_err-write_processes-clause-kept c =
    let p : StartsWith c.push.new.self c.args.out.now = grind (arith, common_steps) in
    starts_more _ _ _ p (starts_more _ _ _ (starts_own _ _ _ c.in_ok-write_entries.ensures.ok) c.in_err-write_processes.ensures.kept)

-- what was appended before and the part of the last call
pub returns-in_err-write_observers-clause-kept : goal.returns-in_err-write_observers-clause-kept
returns-in_err-write_observers-clause-kept c =
    let p : StartsWith c.push.new.self c.args.out.now = grind (arith, common_steps) in
    let q = starts_own _ _ _ c.in_ok-write_entries.ensures.ok in
    let r = starts_own _ _ _ c.in_ok-write_processes.ensures.ok in
    starts_more _ _ _ p (starts_more _ _ _ q (starts_more _ _ _ r c.in_err-write_observers.ensures.kept))

-- the text of the log
pub returns-clause-ok : goal.returns-clause-ok
returns-clause-ok c =
    IfOk-equal _ _ _ _ c.extend_from_slice-2.ensures.ok (rw (c.in_ok-write_observers.ensures.ok, c.in_ok-write_processes.ensures.ok, c.in_ok-write_entries.ensures.ok, c.in_ok-push.ensures.ok, c.in_ok-print_number.ensures.ok, c.in_ok-extend_from_slice.ensures.ok, c.published_count.ensures) (simp append_assoc))

-- what was appended before and the part of the last call
pub returns-clause-kept : goal.returns-clause-kept
returns-clause-kept c =
    let p : StartsWith c.push.new.self c.args.out.now = grind (arith, common_steps) in
    let q = starts_own _ _ _ c.in_ok-write_entries.ensures.ok in
    let r = starts_own _ _ _ c.in_ok-write_processes.ensures.ok in
    let s = starts_own _ _ _ c.in_ok-write_observers.ensures.ok in
    let t : StartsWith c.extend_from_slice-2.new.self c.write_observers.new.out = starts_either _ _ _ _ c.extend_from_slice-2.ensures.ok c.extend_from_slice-2.ensures.err in
    starts_more _ _ _ p (starts_more _ _ _ q (starts_more _ _ _ r (starts_more _ _ _ s t)))
