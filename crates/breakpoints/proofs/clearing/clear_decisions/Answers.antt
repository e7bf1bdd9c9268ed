-- Both indices are cleared.
use Rattle.progress_words.specs.Tokens.{written_by}
use Rattle.breakpoints.proofs.Clears.{areas_still, both_cleared, called_still}
use Rattle.breakpoints.proofs.clearing.clear_decisions.Goals as goal

pub clear_index-requires-2-clause-areas : goal.clear_index-requires-2-clause-areas
clear_index-requires-2-clause-areas g c =
    areas_still 0 c.args.block 16 (written_by c.args.writer.now) (written_by c.clear_index.new.writer) c.clear_index.ensures.cleared c.requires.areas

pub clear_index-requires-2-clause-called : goal.clear_index-requires-2-clause-called
clear_index-requires-2-clause-called g c =
    called_still 0 c.args.block 16 (written_by c.args.writer.now) (written_by c.clear_index.new.writer) c.clear_index.ensures.cleared c.requires.called

pub returns-clause-cleared : goal.returns-clause-cleared
returns-clause-cleared g c =
    both_cleared c.args.block (written_by c.args.writer.now) (written_by c.clear_index.new.writer) (written_by c.clear_index-2.new.writer) c.requires.block c.clear_index.ensures.cleared c.clear_index-2.ensures.cleared
