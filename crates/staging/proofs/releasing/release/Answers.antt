-- The area is found, its block is cleared, and it is released.
use Rattle.std.proofs.Common.{refl, subst}
use Rattle.progress_words.specs.Tokens.{written_by}
use Rattle.staging.specs.Released.{KeepsRelease, SettlingReleased, StagesReleased, StandReleased}
use Rattle.staging.proofs.ReleasedTables.{found_called, found_releasable, found_uncalled, none_found}
use Rattle.staging.proofs.ReleasedWhole.{drop_whole, rest_whole, settling_whole, stages_whole}
use Rattle.staging.proofs.releasing.release.Goals as goal

pub unreachable-requires : goal.unreachable-requires
unreachable-requires g c = none_found c.args.serial c.args.tables.now.pools (written_by c.args.tables.now.writer) c.requires.tables.pools.sound c.requires.may (c.in_default.ensures.none refl)

pub clear_block-requires-clause-may : goal.clear_block-requires-clause-may
clear_block-requires-clause-may g c = found_releasable c.args.serial c.args.tables.now.pools (written_by c.args.tables.now.writer) c.in-Some.area c.requires.tables.pools.sound c.requires.may c.in-Some.ensures.some.0 c.in-Some.ensures.some.1

pub clear_block-requires-clause-called : goal.clear_block-requires-clause-called
clear_block-requires-clause-called g c = found_called c.args.serial c.args.tables.now.pools (written_by c.args.tables.now.writer) c.in-Some.area c.requires.tables.pools.sound c.requires.may c.in-Some.ensures.some.0 c.in-Some.ensures.some.1

pub clear_block-requires-clause-uncalled : goal.clear_block-requires-clause-uncalled
clear_block-requires-clause-uncalled g c = found_uncalled c.args.serial c.args.tables.now.pools (written_by c.args.tables.now.writer) c.in-Some.area c.requires.tables.pools.sound c.requires.may c.in-Some.ensures.some.0 c.in-Some.ensures.some.1

pub returns-clause-stands : goal.returns-clause-stands
returns-clause-stands g c =
    rest_whole g.K.Naming.names c.args.tables.now c.clear_block.new.tables c.free_block.new.tables c.args.serial (subst (λ n. StandReleased g.K.Naming.names n c.clear_block.new.tables c.free_block.new.tables) c.in-Some.ensures.some.1 c.free_block.ensures.stands) c.clear_block.ensures.stands

pub returns-clause-stages : goal.returns-clause-stages
returns-clause-stages g c =
    stages_whole g.K.Naming.names c.args.tables.now c.clear_block.new.tables c.free_block.new.tables c.args.serial (subst (λ n. StagesReleased g.K.Naming.names n c.clear_block.new.tables c.free_block.new.tables) c.in-Some.ensures.some.1 c.free_block.ensures.stages) c.clear_block.ensures.stands

pub returns-clause-settling : goal.returns-clause-settling
returns-clause-settling g c =
    settling_whole g.K.Naming.names c.args.tables.now c.clear_block.new.tables c.free_block.new.tables c.args.serial (subst (λ n. SettlingReleased g.K.Naming.names n c.clear_block.new.tables c.free_block.new.tables) c.in-Some.ensures.some.1 c.free_block.ensures.settling) c.clear_block.ensures.stands

pub returns-clause-drop : goal.returns-clause-drop
returns-clause-drop g c =
    drop_whole c.args.serial (written_by c.args.tables.now.writer) (written_by c.clear_block.new.tables.writer) (written_by c.free_block.new.tables.writer) c.clear_block.ensures.same
    (subst (λ n. KeepsRelease n (written_by c.clear_block.new.tables.writer) (written_by c.free_block.new.tables.writer)) c.in-Some.ensures.some.1 c.free_block.ensures.drop)
