-- One more look may begin.
use Rattle.std.proofs.Common.{sym, subst}
use Rattle.term_core.specs.declared.area.AreaRef.{AreaRef}
use Rattle.marks.specs.declared.kept.LookKind.TheVariants.{Both}
use Rattle.shared_words.specs.Slots.{LookMayBegin}
use Rattle.progress_words.specs.Tokens.{written_by}
use Rattle.area_tests.proofs.Silent.{clear_begins}
use Rattle.area_tests.proofs.writing.look_once.Goals as goal

pub scan-requires-clause-may : goal.scan-requires-clause-may
scan-requires-clause-may c = subst (λ (a : AreaRef). LookMayBegin (written_by c.args.writer.now) Both a.serial) (sym c.area_of-area.ensures) (clear_begins c.args.at c.args.count (written_by c.args.writer.now) c.requires.few.0 c.requires.clear)
