-- Each place is behind the words of the instructions before it, and none is past the end.
use Rattle.std.proofs.Common.{◌≡◌, ◌+◌, length, map, ap, ◌∙◌, arith}
use Rattle.std.specs.List.{range_with_len}
use Rattle.mod_core.specs.ModuleImage.{instr_len, place_in}
use Rattle.mod_core.proofs.Coding.{place_next, place_within, places_more}
use Rattle.mod_core.proofs.image.function.places_from.Goals as goal

pub overflow_add-place : goal.overflow_add-place
overflow_add-place c =
    omega (arith, place_within c.args.start c.args.code.now c.loop-instr.instr-index c.instr-item.result c.instr_len-place.result (omega arith) (c.instr_len-place.ensures ∙ ap instr_len c.instr-item.is))

pub loop-instr-preserved : goal.loop-instr-preserved
loop-instr-preserved c = record {
  kept = places_more c.args.start c.args.code.now _ _ c.loop-instr.instr-index c.loop-instr.place c.loop-instr.invariant.kept c.loop-instr.invariant.next c.in_ok-push.ensures.ok;
  next = omega (arith, place_next c.args.start c.args.code.now c.loop-instr.instr-index c.instr-item.result c.instr_len-place.result (omega arith) (c.instr_len-place.ensures ∙ ap instr_len c.instr-item.is));
}

pub returns : goal.returns
returns c =
    places_more c.args.start c.args.code.now _ _ c.loop-instr.instr-index c.loop-instr.place c.loop-instr.invariant.kept c.loop-instr.invariant.next c.in_ok-push-2.ensures.ok
    ∙ ap (λ n. map (place_in c.args.start c.args.code.now) (range_with_len 0 (n + 1))) (let end : c.loop-instr.instr-index ≡ length c.args.code.now = omega arith in end)
