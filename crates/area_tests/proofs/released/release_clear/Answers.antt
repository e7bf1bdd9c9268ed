-- A look may begin, and once it was clear the area may be released; else all is as it was.
use Rattle.std.proofs.Common.{sym, ap, subst, ◌∙◌}
use Rattle.term_core.specs.declared.area.AreaRef.{AreaRef}
use Rattle.marks.specs.declared.kept.LookKind.TheVariants.{Both}
use Rattle.shared_words.specs.Slots.{LookMayBegin, IsClear}
use Rattle.progress_words.specs.Tokens.{written_by}
use Rattle.literal_areas.specs.Blocks.{without_area}
use Rattle.literal_areas.specs.Released.{MayRelease, area_released}
use Rattle.area_tests.proofs.Looked.{may_look, may_release, released_looked, one_released}
use Rattle.area_tests.proofs.released.release_clear.Goals as goal

pub scan-requires-clause-may : goal.scan-requires-clause-may
scan-requires-clause-may c = subst (λ (a : AreaRef). LookMayBegin (written_by c.args.writer.now) Both a.serial) (sym c.area_of-area.ensures) (may_look c.args.at c.args.areas c.args.need c.args.pools.now (written_by c.args.writer.now) c.requires.few.0 c.requires.released)

pub release-requires-clause-owned : goal.release-requires-clause-owned
release-requires-clause-owned c = (released_looked c.args.at c.args.areas c.args.need c.args.pools.now (written_by c.args.writer.now) (written_by c.scan.new.writer) c.scan.ensures.more c.requires.released).gone.owned

pub release-requires-clause-may : goal.release-requires-clause-may
release-requires-clause-may c =
    subst (MayRelease c.args.pools.now (written_by c.scan.new.writer)) (sym c.area_of-area.ensures)
    (may_release c.args.at c.args.areas c.args.need c.args.pools.now (written_by c.scan.new.writer) c.requires.few.0
    (released_looked c.args.at c.args.areas c.args.need c.args.pools.now (written_by c.args.writer.now) (written_by c.scan.new.writer) c.scan.ensures.more c.requires.released) (subst (λ (a : AreaRef). IsClear (written_by c.scan.new.writer) Both a.serial) c.area_of-area.ensures c.in-Clear.ensures.cause.1))

pub returns-in-Clear-clause-released : goal.returns-in-Clear-clause-released
returns-in-Clear-clause-released c = λ done.
    one_released c.args.at c.args.areas c.args.need c.args.pools.now c.release.new.self (written_by c.scan.new.writer) (written_by c.release.new.writer)
    (released_looked c.args.at c.args.areas c.args.need c.args.pools.now (written_by c.args.writer.now) (written_by c.scan.new.writer) c.scan.ensures.more c.requires.released) (subst (λ (a : AreaRef). IsClear (written_by c.scan.new.writer) Both a.serial) c.area_of-area.ensures c.in-Clear.ensures.cause.1) c.requires.few.0
    (c.release.ensures.released ∙ ap (λ (a : AreaRef). without_area a c.args.pools.now) c.area_of-area.ensures) (c.release.ensures.stored ∙ ap (λ (a : AreaRef). area_released a (written_by c.scan.new.writer)) c.area_of-area.ensures) c.release.ensures.owned

pub returns-in-Named-clause-stays : goal.returns-in-Named-clause-stays
returns-in-Named-clause-stays c = λ named. released_looked c.args.at c.args.areas c.args.need c.args.pools.now (written_by c.args.writer.now) (written_by c.scan.new.writer) c.scan.ensures.more c.requires.released
