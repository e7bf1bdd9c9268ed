use Rattle.script_text.proofs.Common.{◌≡◌, ◌∷◌, [], ◌++◌, ◌∙◌}
use Rattle.script_text.proofs.Forms.{onto_last}
use Rattle.script_text.proofs.KeySets.{put_back, put_first, on_ok}
use Rattle.script_text.proofs.reading.adding.push_command.Goals.{in-Some, in-None}
use Rattle.script_text.proofs.reading.adding.push_command.Goals as goal

-- the block that was taken out is put back with the command
pub returns : goal.returns
returns c =
    let joined : c.pop.new.self ++ c.push.new.self ∷ [] ≡ onto_last c.args.loaders.now c.args.command = elim c.match-pop.branch [
      | in-Some w ↦ put_back c.args.loaders.now c.pop.new.self c.match-pop.block w.in-Some.block c.push.new.self c.args.command w.in-Some.ensures w.block-is c.in_ok-push.ensures.ok
      | in-None w ↦ put_first c.args.loaders.now c.pop.new.self c.match-pop.block c.push.new.self c.args.command w.in-None.ensures.0 w.in-None.ensures.1 (w.block-is ∙ w.new-block.ensures) c.in_ok-push.ensures.ok
    ] in
    on_ok _ _ c.push-2.result (λ is. is ∙ joined) c.push-2.ensures.ok
