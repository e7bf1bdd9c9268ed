-- The word of the change may be stored, and tells of it.
use Rattle.std.proofs.Common.{inl, inr, refl, sym, subst}
use Rattle.std.specs.Prelude.{None, Some}
use Rattle.progress_words.specs.Tokens.{written_by}
use Rattle.server_core.specs.Decided.{Fits}
use Rattle.staging.specs.Renewed.{HasAnnounced, IsDropOf}
use Rattle.staging.proofs.Announced.{announced, doomed_same, none_else, old_big, retired_same, used_there}
use Rattle.staging.proofs.Dooms.{undoomed_before}
use Rattle.staging.proofs.renewing.announce.Goals as goal

pub doom_instance-requires-clause-live : goal.doom_instance-requires-clause-live
doom_instance-requires-clause-live g c =
    let fits = subst (Fits c.args.server.now) c.in-Condemn.is c.requires.fits in
    used_there g.K.Naming.names c.args.server.now c.args.tables.now.pools (written_by c.args.tables.now.writer) c.in-Condemn.serial c.requires.rest.stands (inr (inl fits.1.old))

pub doom_instance-requires-clause-big : goal.doom_instance-requires-clause-big
doom_instance-requires-clause-big g c = λ area live is.
    let fits = subst (Fits c.args.server.now) c.in-Condemn.is c.requires.fits in
    old_big g.K.Naming.names c.args.server.now c.args.tables.now.pools (written_by c.args.tables.now.writer) c.in-Condemn.serial area c.generation-generation.ensures.sound fits.1 c.requires.rest.stands live is

pub doom_instance-requires-clause-undoomed : goal.doom_instance-requires-clause-undoomed
doom_instance-requires-clause-undoomed g c = λ area is.
    let fits = subst (Fits c.args.server.now) c.in-Condemn.is c.requires.fits in
    undoomed_before g.K.Naming.names c.args.server.now c.in-Condemn.serial fits.1 c.args.tables.now.pools (written_by c.args.tables.now.writer) area c.requires.rest.stands is

pub retire_instance-requires-clause-live : goal.retire_instance-requires-clause-live
retire_instance-requires-clause-live g c =
    let fits = subst (Fits c.args.server.now) c.in-DropOld.is c.requires.fits in
    used_there g.K.Naming.names c.args.server.now c.args.tables.now.pools (written_by c.args.tables.now.writer) c.in-DropOld.serial c.requires.rest.stands (inr (inl (_, fits.1.old)))

pub returns-in-Condemn-clause-announced : goal.returns-in-Condemn-clause-announced
returns-in-Condemn-clause-announced g c =
    announced g.K.Naming.names c.args.server.now c.args.change.now c.args.tables.now c.doom_instance.new.tables c.requires.rest c.requires.tables.pools c.doom_instance.ensures.index c.doom_instance.ensures.terms c.doom_instance.ensures.patch
    (subst (λ change. HasAnnounced change c.args.tables.now.pools (written_by c.args.tables.now.writer) c.doom_instance.new.tables.pools (written_by c.doom_instance.new.tables.writer)) (sym c.in-Condemn.is) (c.doom_instance.ensures.pools, c.doom_instance.ensures.doomed))

pub returns-in-Condemn-clause-dropped : goal.returns-in-Condemn-clause-dropped
returns-in-Condemn-clause-dropped g c = subst (λ change. IsDropOf change None) (sym c.in-Condemn.is) refl

pub returns-in-Condemn-clause-same : goal.returns-in-Condemn-clause-same
returns-in-Condemn-clause-same g c =
    doomed_same c.in-Condemn.serial c.args.tables.now.pools (written_by c.args.tables.now.writer) (written_by c.doom_instance.new.tables.writer) c.requires.tables.pools c.doom_instance.ensures.doomed

pub returns-in-DropOld-clause-announced : goal.returns-in-DropOld-clause-announced
returns-in-DropOld-clause-announced g c =
    announced g.K.Naming.names c.args.server.now c.args.change.now c.args.tables.now c.retire_instance.new.tables c.requires.rest c.requires.tables.pools c.retire_instance.ensures.index c.retire_instance.ensures.terms c.retire_instance.ensures.patch
    (subst (λ change. HasAnnounced change c.args.tables.now.pools (written_by c.args.tables.now.writer) c.retire_instance.new.tables.pools (written_by c.retire_instance.new.tables.writer)) (sym c.in-DropOld.is) c.retire_instance.ensures.retired)

pub returns-in-DropOld-clause-dropped : goal.returns-in-DropOld-clause-dropped
returns-in-DropOld-clause-dropped g c = subst (λ change. IsDropOf change (Some c.retire_instance.result)) (sym c.in-DropOld.is) c.retire_instance.ensures.serial

pub returns-in-DropOld-clause-same : goal.returns-in-DropOld-clause-same
returns-in-DropOld-clause-same g c =
    retired_same c.args.shared.now.table.shared.table_id c.args.shared.now.table.shared.key c.in-DropOld.serial c.args.tables.now c.retire_instance.new.tables c.requires.tables c.retire_instance.ensures.retired

pub unreachable-requires : goal.unreachable-requires
unreachable-requires g c = none_else c.args.change.now c.requires.renewal c.in_default.not-Condemn c.in_default.not-DropOld
