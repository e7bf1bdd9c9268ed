-- Each word may be asked for, and comes behind those before it.
use Rattle.std.proofs.Common.{◌∙◌, arith, ap, subst, sym, slice_index}
use Rattle.machine_core.specs.View.{IsReadable, Shown}
use Rattle.machine_core.proofs.ImageSteps.{more_words}
use Rattle.machine_core.proofs.literals.words_between.Goals as goal

pub word-requires-clause-readable : goal.word-requires-clause-readable
word-requires-clause-readable g c =
    subst (λ (v : Shown). IsReadable v c.args.area.serial c.loop-place.place) (sym c.loop-place.invariant.shown) (c.requires.readable c.loop-place.place (omega arith) (omega arith))

pub loop-place-preserved : goal.loop-place-preserved
loop-place-preserved g c =
    let shown = g.V.CodeView.shown c.args.view.now in
    record {
      shown = c.word.ensures.same ∙ c.loop-place.invariant.shown;
      held = c.word.ensures.holds ∙ c.loop-place.invariant.held;
      words =
          more_words (shown.words c.args.area.serial) c.loop-place.words c.push.new.self c.args.from c.loop-place.place c.word.result (omega arith) (omega arith) c.loop-place.invariant.words
          (c.word.ensures.value ∙ ap (λ (v : Shown). slice_index (v.words c.args.area.serial) c.loop-place.place) c.loop-place.invariant.shown) c.in_ok-push.ensures.ok;
    }
