-- What is left to do for a text with no fault.
use Rattle.std.proofs.Common.{sym, ◌∙◌, arith}
use Rattle.term_core.proofs.Readings.{readable_if, built_as}
use Rattle.term_core.proofs.reading.read_text.Goals as goal

-- it is a term's
pub build_term-requires : goal.build_term-requires
build_term-requires c = readable_if c.args.text.now (sym c.in_ok-at.ensures ∙ c.in_default.is) (sym c.outside_at.ensures ∙ c.in_default-outside_at.is)

-- what building answers is what it is read as
pub returns-clause-reads : goal.returns-clause-reads
returns-clause-reads c =
    built_as c.args.names.now c.args.text.now c.build_term.result c.build_term.new.names (sym c.in_ok-at.ensures ∙ c.in_default.is) (sym c.outside_at.ensures ∙ c.in_default-outside_at.is)
    (omega (arith, c.words_in.ensures)) c.build_term.ensures.sound c.build_term.ensures.ok c.build_term.ensures.named c.build_term.ensures.fault
