-- The words without their marks are the module's image where the words are its image but for these.
use Rattle.std.proofs.Common.{◌≡◌, sym, ◌∙◌}
use Rattle.std.proofs.lemmas.Result.{IfOk-weaker}
use Rattle.mod_core.specs.Module.{IsModule}
use Rattle.mod_core.specs.ModuleImage.{IsImageOfModule, module_image}
use Rattle.mod_core.proofs.Marks.{marked_is, not_bad, unmarked_is}
use Rattle.mod_core.proofs.decoding.decode.Goals as goal

pub returns-clause-ok : goal.returns-clause-ok
returns-clause-ok c =
    IfOk-weaker c.decode_unmarked.result (λ m. IsModule m × (c.as_slice.result.now ≡ module_image m)) (λ m. IsModule m × IsImageOfModule m c.args.words.now)
    (λ m h. (h.0, marked_is c.args.words.now c.in_ok-unmarked.unmarked m c.in_ok-unmarked.ensures (sym c.as_slice.ensures ∙ h.1)))
    c.decode_unmarked.ensures.ok

pub returns-clause-only : goal.returns-clause-only
returns-clause-only c = λ m is image. c.decode_unmarked.ensures.only m is (c.as_slice.ensures ∙ unmarked_is c.args.words.now c.in_ok-unmarked.unmarked m c.in_ok-unmarked.ensures image)

pub returns-clause-cause : goal.returns-clause-cause
returns-clause-cause c = λ bad m is image.
    not_bad c.decode_unmarked.result m (c.decode_unmarked.ensures.only m is (c.as_slice.ensures ∙ unmarked_is c.args.words.now c.in_ok-unmarked.unmarked m c.in_ok-unmarked.ensures image)) bad
