-- A change in place keeps the number of instructions.
use Rattle.std.proofs.Common.{◌≡◌, ◌++◌, length, map, take, drop, sym, ap, ◌∙◌}
use Rattle.std.proofs.Math.Seq.{take-append_seam}
use Rattle.std.proofs.lemmas.List.{length-map}
use Rattle.mod_core.specs.ModuleImage.{placed}
use Rattle.mod_core.specs.Decoding.{number_at}
use Rattle.mod_core.proofs.code_reading.numbered.Goals as goal

pub returns : goal.returns
returns c =
    let f = placed (number_at c.args.places.now) in
    let new = c.set_targets.new.instrs in
    let rest = drop (length new) c.args.instrs.items in
    let new_is : new ≡ map f c.args.instrs.items = c.set_targets.ensures ∙ ap (map f) c.deref_mut.ensures.value in
    let long : c.args.instrs.len ≡ length new = c.args.instrs.ok.0 ∙ sym (ap length new_is ∙ length-map c.args.instrs.items f) in
    c.from_vec.ensures ∙ ap (λ n. take n (new ++ rest)) long ∙ take-append_seam new rest ∙ new_is
