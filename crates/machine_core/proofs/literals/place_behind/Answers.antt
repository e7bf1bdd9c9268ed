-- The next word is one of the images that are needed.
use Rattle.std.proofs.Common.{◌≡◌, ◌∙◌, ◌-◌, ◌+◌, refl, arith, ap, sym, subst, slice_index, drop, unwrap_or}
use Rattle.term_core.specs.Image.{images_len, parts_of_word}
use Rattle.machine_core.specs.View.{IsReadable, Shown}
use Rattle.machine_core.specs.Stand.{AreImages, images_end}
use Rattle.machine_core.proofs.ImageSteps.{image_step}
use Rattle.machine_core.proofs.literals.place_behind.Goals as goal

pub word-word-requires-clause-readable : goal.word-word-requires-clause-readable
word-word-requires-clause-readable g c =
    let shown = g.V.CodeView.shown c.args.view.now in
    let step = image_step shown c.args.area.serial c.loop-needed.place c.loop-needed.needed _ c.requires.lawful c.loop-needed.invariant.images c.loop-needed-test.true refl in
    subst (λ (v : Shown). IsReadable v c.args.area.serial c.loop-needed.place) (sym c.loop-needed.invariant.shown) step.readable

pub overflow_add-needed : goal.overflow_add-needed
overflow_add-needed g c =
    let shown = g.V.CodeView.shown c.args.view.now in
    let word : c.word-word.result ≡ slice_index (shown.words c.args.area.serial) c.loop-needed.place =
    c.word-word.ensures.value ∙ ap (λ (v : Shown). slice_index (v.words c.args.area.serial) c.loop-needed.place) c.loop-needed.invariant.shown in
    let step = image_step shown c.args.area.serial c.loop-needed.place c.loop-needed.needed c.word-word.result c.requires.lawful c.loop-needed.invariant.images c.loop-needed-test.true word in
    omega (arith, step.few, c.parts_of_word.ensures)

pub overflow_add-place : goal.overflow_add-place
overflow_add-place g c =
    let shown = g.V.CodeView.shown c.args.view.now in
    let step = image_step shown c.args.area.serial c.loop-needed.place c.loop-needed.needed _ c.requires.lawful c.loop-needed.invariant.images c.loop-needed-test.true refl in
    omega (arith, step.low)

pub loop-needed-preserved : goal.loop-needed-preserved
loop-needed-preserved g c =
    let shown = g.V.CodeView.shown c.args.view.now in
    let word : c.word-word.result ≡ slice_index (shown.words c.args.area.serial) c.loop-needed.place =
    c.word-word.ensures.value ∙ ap (λ (v : Shown). slice_index (v.words c.args.area.serial) c.loop-needed.place) c.loop-needed.invariant.shown in
    let step = image_step shown c.args.area.serial c.loop-needed.place c.loop-needed.needed c.word-word.result c.requires.lawful c.loop-needed.invariant.images c.loop-needed-test.true word in
    let needed : c.loop-needed.needed - 1 + parts_of_word c.word-word.result ≡ c.loop-needed.needed - 1 + c.parts_of_word.result = ap (λ n. c.loop-needed.needed - 1 + n) (sym c.parts_of_word.ensures) in
    record {
      shown = c.word-word.ensures.same ∙ c.loop-needed.invariant.shown;
      held = c.word-word.ensures.holds ∙ c.loop-needed.invariant.held;
      images = subst (AreImages shown c.args.area.serial (c.loop-needed.place + 1)) needed step.next;
      end = ap (images_end (shown.words c.args.area.serial) (c.loop-needed.place + 1)) (sym needed) ∙ step.end ∙ c.loop-needed.invariant.end;
    }

pub loop-needed-smaller : goal.loop-needed-smaller
loop-needed-smaller g c =
    let shown = g.V.CodeView.shown c.args.view.now in
    let word : c.word-word.result ≡ slice_index (shown.words c.args.area.serial) c.loop-needed.place =
    c.word-word.ensures.value ∙ ap (λ (v : Shown). slice_index (v.words c.args.area.serial) c.loop-needed.place) c.loop-needed.invariant.shown in
    let step = image_step shown c.args.area.serial c.loop-needed.place c.loop-needed.needed c.word-word.result c.requires.lawful c.loop-needed.invariant.images c.loop-needed-test.true word in
    let needed : c.loop-needed.needed - 1 + parts_of_word c.word-word.result ≡ c.loop-needed.needed - 1 + c.parts_of_word.result = ap (λ n. c.loop-needed.needed - 1 + n) (sym c.parts_of_word.ensures) in
    omega (arith, step.less, ap (λ n. unwrap_or (images_len n (drop (c.loop-needed.place + 1) (shown.words c.args.area.serial))) 0) needed)
