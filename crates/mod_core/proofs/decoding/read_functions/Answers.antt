-- Each function is read behind those before it, until there are as many as the head of the image tells.
use Rattle.std.proofs.Common.{◌<◌, get_or, slice_index, refl, arith}
use Rattle.std.proofs.lemmas.Result.{err_from_is_err_and}
use Rattle.mod_core.proofs.Heads.{all_read, first_function, most_read, next_is, none_read, one_more_read}
use Rattle.mod_core.proofs.decoding.read_functions.Goals as goal

pub loop-number-init : goal.loop-number-init
loop-number-init c = λ m is image. none_read c.args.words.now m is image c.new-functions.result _ c.new-functions.ensures refl

pub loop-number-preserved : goal.loop-number-preserved
loop-number-preserved c = λ m is image.
    let so_far = c.loop-number.invariant m is image in
    let below : c.loop-number.number < slice_index c.args.words.now 3 = omega (arith, c.word_at-count.ensures) in
    let f = get_or m.functions c.loop-number.number first_function in
    let h = next_is c.args.words.now m is image c.loop-number.number below in
    one_more_read c.args.words.now m is image c.loop-number.number c.loop-number.functions c.push.new.self c.loop-number.left c.read_function.new.left c.in_ok-function.function below so_far (c.in_ok-function.ensures.function m f h so_far.left_is) c.in_ok-push.ensures.ok (c.in_ok-function.ensures.left m f h so_far.left_is)

pub returns-then-number-count : goal.returns-then-number-count
returns-then-number-count c = λ m is image. all_read c.args.words.now m is image c.loop-number.number c.loop-number.functions c.loop-number.left (omega (arith, c.word_at-count.ensures)) (c.loop-number.invariant m is image)

pub returns-in_err-function : goal.returns-in_err-function
returns-in_err-function c =
    let p = err_from_is_err_and c.from_residual.result c.from_residual.ensures.1 in
    rw (p.1, p.2) (λ m is image.
    let so_far = c.loop-number.invariant m is image in
    let below : c.loop-number.number < slice_index c.args.words.now 3 = omega (arith, c.word_at-count.ensures) in
    c.in_err-function.ensures.function m (get_or m.functions c.loop-number.number first_function) (next_is c.args.words.now m is image c.loop-number.number below) so_far.left_is)

pub returns : goal.returns
returns c = λ m is image. most_read c.args.words.now m is image c.loop-number.number c.loop-number.functions c.loop-number.left (omega arith) (c.loop-number.invariant m is image)
