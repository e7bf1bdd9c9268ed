-- A key that is staged is published behind the retirement of its former area.
use Rattle.std.proofs.Common.{sym, ap, subst, ◌∙◌, length, arith}
use Rattle.progress_words.specs.Tokens.{written_by}
use Rattle.server_core.specs.Decided.{change_made}
use Rattle.server_core.specs.ServerState.{key_area}
use Rattle.staging.specs.Replaced.{FormerRetired, HaveReplaced}
use Rattle.staging.specs.Stages.{HavePlaced}
use Rattle.staging.proofs.KeyPublished.{known_retired, published_retired}
use Rattle.staging.proofs.Known.{known_on}
use Rattle.staging.proofs.KeyReplaced.{former_lives, have_replaced}
use Rattle.staging.proofs.StagedEnds.{published_from}
use Rattle.staging.proofs.keying.publish_staged.Goals as goal

pub stage_key-requires-clause-placed : goal.stage_key-requires-clause-placed
stage_key-requires-clause-placed g c = subst (HavePlaced g.K.Naming.names c.args.server.now c.args.change.now c.args.tables.now) (sym c.as_slice.ensures.value) c.requires.placed

pub stage_key-requires-clause-whole : goal.stage_key-requires-clause-whole
stage_key-requires-clause-whole g c = ap length c.as_slice.ensures.value ∙ c.requires.whole

pub retire_former-requires-clause-live : goal.retire_former-requires-clause-live
retire_former-requires-clause-live g c =
    former_lives _ _ g.K.Naming.names c.args.server.now c.args.change.now c.stage_key.new.tables c.as_slice.result.now c.generation-generation.ensures.sound c.requires.key c.stage_key.ensures.tables c.in-Ok.ensures.keyed c.in-Ok.key.0 c.in-Ok.ensures.former

pub publish_key-generation-requires-clause-replaced : goal.publish_key-generation-requires-clause-replaced
publish_key-generation-requires-clause-replaced g c =
    subst (HaveReplaced g.K.Naming.names c.args.server.now c.args.change.now c.retire_former.new.tables) (c.as_slice.ensures.value ∙ sym c.as_slice-in-Ok.ensures.value)
    (have_replaced _ _ g.K.Naming.names c.args.server.now c.args.change.now c.stage_key.new.tables c.as_slice.result.now c.generation-generation.ensures.sound c.requires.key c.stage_key.ensures.tables c.in-Ok.ensures.keyed
    c.retire_former.new.tables c.retire_former.ensures.terms c.retire_former.ensures.patch
    (subst (λ o. FormerRetired o c.stage_key.new.tables.pools (written_by c.stage_key.new.tables.writer) c.retire_former.new.tables.pools (written_by c.retire_former.new.tables.writer)) (sym c.in-Ok.ensures.former) c.retire_former.ensures.retired))

pub publish_key-generation-requires-clause-room : goal.publish_key-generation-requires-clause-room
publish_key-generation-requires-clause-room g c =
    let same = ap length (published_retired (key_area c.args.server.now c.in-Ok.key.0) _ _ _ _ c.retire_former.ensures.retired ∙ c.stage_key.ensures.published) in
    let room = c.requires.room in
    omega (arith, same, room)

pub returns-in-Ok-clause-ok : goal.returns-in-Ok-clause-ok
returns-in-Ok-clause-ok g c =
    published_from g.K.Naming.names (change_made c.args.server.now c.args.change.now).state c.args.tables.now c.retire_former.new.tables c.publish_key-generation.new.tables c.publish_key-generation.result
    (published_retired (key_area c.args.server.now c.in-Ok.key.0) _ _ _ _ c.retire_former.ensures.retired ∙ c.stage_key.ensures.published) c.publish_key-generation.ensures.published

pub returns-in-Err-clause-ok : goal.returns-in-Err-clause-ok
returns-in-Err-clause-ok g c = record {
  published = c.stage_key.ensures.published;
  stands = (subst (HavePlaced g.K.Naming.names c.args.server.now c.args.change.now c.stage_key.new.tables) c.as_slice.ensures.value c.in-Err.ensures.placed, c.stage_key.ensures.index ∙ c.requires.index);
  why = c.in-Err.ensures.late;
}

pub returns-in-Ok-clause-known : goal.returns-in-Ok-clause-known
returns-in-Ok-clause-known g c =
    known_on (written_by c.args.tables.now.writer) (written_by c.stage_key.new.tables.writer) (written_by c.publish_key-generation.new.tables.writer) c.stage_key.ensures.known
    (known_on (written_by c.stage_key.new.tables.writer) (written_by c.retire_former.new.tables.writer) (written_by c.publish_key-generation.new.tables.writer)
    (known_retired (key_area c.args.server.now c.in-Ok.key.0) _ _ _ _ c.retire_former.ensures.retired) c.publish_key-generation.ensures.known)
