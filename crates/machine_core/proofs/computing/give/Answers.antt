-- The register gets the term.
use Rattle.std.proofs.Common.{◌+◌, ◌∙◌, ap, sym}
use Rattle.machine_core.specs.declared.process.Value.TheVariants.{Owned}
use Rattle.machine_core.specs.Process.{frame_of, values_shown}
use Rattle.machine_core.proofs.Computed.{given}
use Rattle.machine_core.proofs.StoredValues.{set_shown}
use Rattle.machine_core.proofs.computing.give.Goals as goal

pub returns-in-Ok-clause-ok : goal.returns-in-Ok-clause-ok
returns-in-Ok-clause-ok c = λ words held below made i len.
    given held made (frame_of words c.args.top.now) _ below i c.args.to c.args.value c.in-Ok.term c.in-Ok.is len
    (ap (λ vs. record { serial = c.args.top.now.code.area.serial; function = c.args.top.now.code.function; place = c.args.top.now.place + 4; back = c.args.top.now.back; registers = vs })
    (sym (ap (values_shown words) c.set.ensures ∙ set_shown words c.args.top.now.registers c.args.to (Owned c.in-Ok.term))))
