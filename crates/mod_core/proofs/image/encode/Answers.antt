-- The code begins behind the table of functions, and an image ends behind the images of its constants.
use Rattle.std.proofs.Common.{◌≡◌, ◌++◌, length, refl, ap, arith}
use Rattle.std.proofs.lemmas.Result.{IfOk-weaker}
use Rattle.mod_core.specs.declared.image.Draft.{Draft}
use Rattle.mod_core.specs.ModuleImage.{constants_len, constants_of, constants_start, module_image, place_from}
use Rattle.mod_core.proofs.Coding.{heads_end, image_written}
use Rattle.mod_core.proofs.Lengths.{image_end}
use Rattle.mod_core.proofs.image.encode.Goals as goal

pub push_heads-requires : goal.push_heads-requires
push_heads-requires c = omega (arith, image_end c.args.module.now, c.requires.short, ap constants_start c.as_slice-functions.ensures)

pub push_functions-requires-clause-room : goal.push_functions-requires-clause-room
push_functions-requires-clause-room c =
    let start = heads_end c.args.module.now c.as_slice-functions.result.now c.new-words.result c.push_title.new.words c.push_heads.new.words c.as_slice-functions.ensures c.new-words.ensures c.in_ok-push_title.ensures c.in_ok-constants_start.ensures.table in
    let end : place_from (length c.push_heads.new.words) c.as_slice-functions.result.now (length c.as_slice-functions.result.now) ≡ constants_start c.args.module.now.functions =
    λ i. place_from (start i) (c.as_slice-functions.ensures i) (length (c.as_slice-functions.ensures i)) in
    omega (arith, image_end c.args.module.now, c.requires.short)

pub push_functions-requires-clause-constants : goal.push_functions-requires-clause-constants
push_functions-requires-clause-constants c =
    omega (arith, image_end c.args.module.now, c.requires.short, ap length c.new.ensures, c.in_ok-constants_start.ensures.end, ap constants_start c.as_slice-functions.ensures, ap (λ fs. constants_len (constants_of fs)) c.as_slice-functions.ensures)

pub returns : goal.returns
returns c =
    let old : Draft = record { words = c.push_heads.new.words; constants = c.new.result; constants_start = c.in_ok-constants_start.constants_start } in
    let new : Draft = c.push_functions.new.draft in
    IfOk-weaker c.close.result (λ words. words ≡ new.words ++ new.constants) (λ words. words ≡ module_image c.args.module.now)
    (image_written c.args.module.now c.as_slice-functions.result.now c.new-words.result c.push_title.new.words c.push_heads.new.words old new
    c.as_slice-functions.ensures c.new-words.ensures c.in_ok-push_title.ensures c.in_ok-constants_start.ensures.table refl c.new.ensures c.in_ok-constants_start.ensures.end c.in_ok-push_functions.ensures)
    c.close.ensures
