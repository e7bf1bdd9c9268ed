-- The areas that the process names are few, and the server's state is sound.
use Rattle.std.proofs.Common.{◌∙◌, ap, arith, length}
use Rattle.machine_core.specs.Holds.{serials_of}
use Rattle.machine_core.specs.Process.{area_holds, area_serials, names_of, process_of}
use Rattle.machine_core.specs.View.{server_words}
use Rattle.machine_core.proofs.AreaLists.{same_holds}
use Rattle.machine_core.proofs.CodeNames.{process_named}
use Rattle.machine_core.proofs.HoldLists.{few_frames_of, few_literals_of}
use Rattle.machine_core.proofs.Viewing.{is_lawful}
use Rattle.machine_core.proofs.plain.PlainView.new.Goals as goal

pub serials_in-requires : goal.serials_in-requires
serials_in-requires c =
    let few = few_frames_of c.in_ok-areas.areas.frames c.in_ok-areas.areas.literals (names_of (process_of (server_words c.args.server.now) c.args.process.now)) (process_named (server_words c.args.server.now) c.args.process.now c.in_ok-areas.areas c.as_slice.result.now c.in_ok-areas.ensures.names c.as_slice.ensures) c.requires in
    omega (arith, few, ap (λ areas. length (serials_of (area_serials areas))) c.as_slice-2.ensures)

pub serials_in-requires-2 : goal.serials_in-requires-2
serials_in-requires-2 c =
    let few = few_literals_of c.in_ok-areas.areas.frames c.in_ok-areas.areas.literals (names_of (process_of (server_words c.args.server.now) c.args.process.now)) (process_named (server_words c.args.server.now) c.args.process.now c.in_ok-areas.areas c.as_slice.result.now c.in_ok-areas.ensures.names c.as_slice.ensures) c.requires in
    omega (arith, few, ap (λ areas. length (serials_of (area_serials areas))) c.as_slice-3.ensures)

pub returns-clause-held : goal.returns-clause-held
returns-clause-held c =
    same_holds (record { frames = c.in_ok-frames.frames; literals = c.in_ok-literals.literals }) (area_holds c.in_ok-areas.areas)
    (c.in_ok-frames.ensures ∙ ap (λ areas. serials_of (area_serials areas)) c.as_slice-2.ensures) (c.in_ok-literals.ensures ∙ ap (λ areas. serials_of (area_serials areas)) c.as_slice-3.ensures)
    ∙ process_named (server_words c.args.server.now) c.args.process.now c.in_ok-areas.areas c.as_slice.result.now c.in_ok-areas.ensures.names c.as_slice.ensures

pub returns-clause-lawful : goal.returns-clause-lawful
returns-clause-lawful c = is_lawful c.args.server.now c.generation-generation.ensures.sound
