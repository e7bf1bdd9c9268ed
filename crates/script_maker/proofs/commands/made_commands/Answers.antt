-- One command more stands at the end, after one step more of the generator.
use Rattle.std.proofs.Common.{◌≡◌, ◌+◌, sym, ap, ◌∙◌}
use Rattle.script_maker.specs.Generator.{next_number, number_after}
use Rattle.script_maker.proofs.Growing.{commands_more, number_more}
use Rattle.script_maker.proofs.commands.made_commands.Goals as goal

pub loop-place-preserved : goal.loop-place-preserved
loop-place-preserved c =
    let number : c.next_number-number.result ≡ number_after c.args.seed c.args.loader (c.loop-place.place + 1) =
    c.next_number-number.ensures ∙ ap next_number c.loop-place.invariant.number ∙ sym (number_more c.args.seed c.args.loader c.loop-place.place) in
    record {
      commands =
          commands_more c.args.seed c.args.loader c.loop-place.place c.next_number-number.result c.of_loader-about.result c.loop-place.commands c.push.new.self c.in_ok-command_of.field-0 c.of_loader-about.ensures c.loop-place.invariant.commands c.in_ok-push.ensures.ok number c.in_ok-command_of.ensures;
      number = number;
    }
