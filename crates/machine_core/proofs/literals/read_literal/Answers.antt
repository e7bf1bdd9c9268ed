-- The words are those of the literal's image.
use Rattle.std.proofs.Common.{◌∙◌, ◌≤◌, arith, ap, sym, subst, length, take, drop, ◌-◌}
use Rattle.term_core.proofs.ImagePlaces.{within-at}
use Rattle.machine_core.specs.View.{IsReadable, Shown}
use Rattle.machine_core.proofs.ImageSteps.{literal_images, literal_end, literal_read, literal_readable}
use Rattle.machine_core.proofs.literals.read_literal.Goals as goal

pub place_behind-end-requires-clause-images : goal.place_behind-end-requires-clause-images
place_behind-end-requires-clause-images g c = literal_images (g.V.CodeView.shown c.args.view.now) c.args.at c.requires.usable.0

pub words_between-requires-clause-order : goal.words_between-requires-clause-order
words_between-requires-clause-order g c =
    let end = c.place_behind-end.ensures.value ∙ literal_end (g.V.CodeView.shown c.args.view.now) c.args.at c.requires.usable.0 in omega (arith, end)

pub words_between-requires-clause-within : goal.words_between-requires-clause-within
words_between-requires-clause-within g c =
    let shown = g.V.CodeView.shown c.args.view.now in
    let h = c.requires.usable.0 in
    let end = c.place_behind-end.ensures.value ∙ literal_end shown c.args.at h in
    subst (λ (v : Shown). c.place_behind-end.result ≤ length (v.words c.args.at.area.serial)) (sym c.place_behind-end.ensures.same) (omega (arith, end, within-at (shown.words c.args.at.area.serial) c.args.at.at h.term h.image))

pub words_between-requires-clause-readable : goal.words_between-requires-clause-readable
words_between-requires-clause-readable g c = λ place from to.
    let shown = g.V.CodeView.shown c.args.view.now in
    let h = c.requires.usable.0 in
    let end = c.place_behind-end.ensures.value ∙ literal_end shown c.args.at h in
    subst (λ (v : Shown). IsReadable v c.args.at.area.serial place) (sym c.place_behind-end.ensures.same) (literal_readable shown c.args.at h place from (omega (arith, end)))

pub returns-in-Ok-clause-ok : goal.returns-in-Ok-clause-ok
returns-in-Ok-clause-ok g c =
    let shown = g.V.CodeView.shown c.args.view.now in
    let h = c.requires.usable.0 in
    literal_read shown c.args.at h c.as_slice.result.now c.place_behind-end.result c.in-Ok.term (c.place_behind-end.ensures.value ∙ literal_end shown c.args.at h)
    (c.as_slice.ensures ∙ c.in_ok-words.ensures.ok ∙ ap (λ (v : Shown). take (c.place_behind-end.result - c.args.at.at) (drop c.args.at.at (v.words c.args.at.area.serial))) c.place_behind-end.ensures.same)
    c.in-Ok.ensures.value
