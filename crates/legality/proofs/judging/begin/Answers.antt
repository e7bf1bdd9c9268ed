use Rattle.std.proofs.Common.{◌≡◌, ◌∙◌, List, None, ap, length, refl, replicate, rules, subst}
use Rattle.run_log.specs.declared.logs.ProcessLog.{ProcessLog}
use Rattle.legality.specs.declared.sweep.Sweep.{Sweep}
use Rattle.legality.specs.Sweeps.{AreBegun}
use Rattle.legality.proofs.Begins.{made_begin}
use Rattle.legality.proofs.judging.begin.Goals as goal

-- nothing is judged
pub returns : goal.returns
returns c = λ s watched.
    let sweep : Sweep = record { server = c.in_ok-server.server; half = None; standings = c.in_ok-stand_first.field-0; seen = c.in_ok-vec.field-0 } in
    let zeros : c.in_ok-vec.field-0.items ≡ replicate c.len.result 0 = let h = c.in_ok-vec.ensures.items_if_clones_equal in search rules in
    made_begin s c.args.log.now watched sweep c.in_ok-server.ensures.empty c.generation-generation.ensures.sound refl
    (subst (λ (ps : List ProcessLog). AreBegun ps (length ps) sweep.standings.items) c.as_slice.ensures c.in_ok-stand_first.ensures) (zeros ∙ ap (λ n. replicate n 0) c.len.ensures)
