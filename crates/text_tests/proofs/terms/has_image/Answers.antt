-- A term that was read has an image.
use Rattle.std.proofs.lemmas.Result.{IfOk-at_ok}
use Rattle.term_core.specs.TermText.{TermText}
use Rattle.term_core.proofs.TermTexts.{integers_fit_read}
use Rattle.text_tests.proofs.terms.has_image.Goals as goal

-- since its integers have 60 bits
pub image-requires : goal.image-requires
image-requires g c =
    let term = c.expect-term.result in
    integers_fit_read c.expect-names.result c.args.text.now term c.read_term.new.names (IfOk-at_ok (λ t. TermText c.expect-names.result c.args.text.now t c.read_term.new.names) c.expect-term.ensures c.read_term.ensures.ok)
