-- What was staged is taken back; where nothing was, the indices are at rest.
use Rattle.progress_words.specs.Tokens.{written_by}
use Rattle.breakpoints.specs.declared.patch.Phase.TheVariants.{Begun, Staged, Entered}
use Rattle.breakpoints.proofs.PatchCalls.{at_phase}
use Rattle.breakpoints.proofs.TakenBack.{none_later, nothing_patched}
use Rattle.breakpoints.proofs.patch.Patch.take_back.Goals as goal

pub returns-in-Begun-clause-rest : goal.returns-in-Begun-clause-rest
returns-in-Begun-clause-rest g c = (at_phase c.args.self (written_by c.args.writer.now) Begun c.in-Begun.is c.requires.patch).0

pub returns-in-Begun-clause-patched : goal.returns-in-Begun-clause-patched
returns-in-Begun-clause-patched g c = nothing_patched c.args.self.at (written_by c.args.writer.now)

pub unstage-requires-clause-patchable : goal.unstage-requires-clause-patchable
unstage-requires-clause-patchable g c = (at_phase c.args.self (written_by c.args.writer.now) (Staged c.in-Staged.need) c.in-Staged.is c.requires.patch).0.patchable

pub unstage-requires-clause-indices : goal.unstage-requires-clause-indices
unstage-requires-clause-indices g c = (at_phase c.args.self (written_by c.args.writer.now) (Staged c.in-Staged.need) c.in-Staged.is c.requires.patch).0.indices

pub unstage-requires-clause-unread : goal.unstage-requires-clause-unread
unstage-requires-clause-unread g c = (at_phase c.args.self (written_by c.args.writer.now) (Staged c.in-Staged.need) c.in-Staged.is c.requires.patch).1.unread

pub unstage-requires-in-Entered-clause-patchable : goal.unstage-requires-in-Entered-clause-patchable
unstage-requires-in-Entered-clause-patchable g c = (at_phase c.args.self (written_by c.args.writer.now) (Entered c.in-Entered.need) c.in-Entered.is c.requires.patch).0.patchable

pub unstage-requires-in-Entered-clause-indices : goal.unstage-requires-in-Entered-clause-indices
unstage-requires-in-Entered-clause-indices g c = (at_phase c.args.self (written_by c.args.writer.now) (Entered c.in-Entered.need) c.in-Entered.is c.requires.patch).0.indices

pub unstage-requires-in-Entered-clause-unread : goal.unstage-requires-in-Entered-clause-unread
unstage-requires-in-Entered-clause-unread g c = (at_phase c.args.self (written_by c.args.writer.now) (Entered c.in-Entered.need) c.in-Entered.is c.requires.patch).1.unread

pub unreachable-requires : goal.unreachable-requires
unreachable-requires g c = none_later c.args.self.phase c.requires.unpublished c.in_default.not-Begun c.in_default.not-Staged c.in_default.not-Entered
