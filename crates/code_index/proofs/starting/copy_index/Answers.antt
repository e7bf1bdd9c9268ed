-- One more word is copied.
use Rattle.std.proofs.Common.{sym, ap, ◌∙◌}
use Rattle.code_index.specs.Staging.{staging_index}
use Rattle.code_index.proofs.Copying.{copies_more}
use Rattle.code_index.proofs.starting.copy_index.Goals as goal

pub loop-entry-preserved : goal.loop-entry-preserved
loop-entry-preserved g c =
    let done = c.loop-entry.invariant in
    copies_more _ _ c.args.block c.loop-entry.entry c.args.writer.now c.loop-entry.writer c.copy_word.new.writer done (c.requires.staging ∙ sym (ap staging_index done.copied.same)) c.loop-entry-test.true
    c.copy_word.ensures.token c.copy_word.ensures.same c.copy_word.ensures.copied
