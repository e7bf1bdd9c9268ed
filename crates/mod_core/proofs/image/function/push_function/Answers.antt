-- The places that are looked up are those of the targets.
use Rattle.std.proofs.Common.{refl}
use Rattle.std.proofs.lemmas.Result.{on_ok_weaker}
use Rattle.mod_core.proofs.Coding.{among_places, function_written}
use Rattle.mod_core.proofs.image.function.push_function.Goals as goal

pub push_code-requires-clause-are_placed : goal.push_code-requires-clause-are_placed
push_code-requires-clause-are_placed c = among_places c.len.result c.args.function.now.code c.as_slice-code.result.now c.in_ok-places.places c.as_slice.result.now c.as_slice-code.ensures c.as_slice.ensures c.in_ok-places.ensures c.requires.are_placed

pub returns : goal.returns
returns c =
    on_ok_weaker c.push-2.result
    (λ written. function_written c.args.draft.now c.push_code.new.draft _ c.args.function.now c.len.result c.as_slice-code.result.now c.in_ok-places.places c.as_slice.result.now c.push.new.self c.word.result
    c.len.ensures c.as_slice-code.ensures c.as_slice.ensures c.in_ok-places.ensures c.requires.are_placed c.in_ok-push_code.ensures c.in_ok-push.ensures.ok c.word.ensures written refl refl)
    c.push-2.ensures.ok
