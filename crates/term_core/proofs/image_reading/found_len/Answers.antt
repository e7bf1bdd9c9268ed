-- What each word leaves to be found.
use Rattle.std.proofs.Common.{get_or, drop, ◌+◌, ◌-◌, refl, sym, ◌∙◌, arith}
use Rattle.term_core.proofs.ImageTerms.{found_behind, found_all}
use Rattle.term_core.proofs.image_reading.found_len.Goals as goal

-- where no term is needed any more, the image ends
pub returns-then-needed-eq0 : goal.returns-then-needed-eq0
returns-then-needed-eq0 c =
    let word = get_or c.args.words.now c.loop-at.at 0 in
    sym (found_all (c.loop-at.at + 1) (c.loop-at.needed - 1 + c.parts_of_word.result) (drop (c.loop-at.at + 1) c.args.words.now) c.if-needed-eq0.true)
    ∙ sym (found_behind c.args.words.now c.loop-at.at c.loop-at.needed word c.parts_of_word.result refl c.loop-at-test.true c.loop-at.invariant.some (sym c.is_image_word.ensures.value ∙ c.if-not-is_image_word.false) c.parts_of_word.ensures)
    ∙ c.loop-at.invariant.whole

-- else it ends behind
pub loop-at-preserved : goal.loop-at-preserved
loop-at-preserved c =
    let word = get_or c.args.words.now c.loop-at.at 0 in
    let few = c.is_image_word.ensures.few c.if-not-is_image_word.false in
    record {
      whole = sym (found_behind c.args.words.now c.loop-at.at c.loop-at.needed word c.parts_of_word.result refl c.loop-at-test.true c.loop-at.invariant.some (sym c.is_image_word.ensures.value ∙ c.if-not-is_image_word.false) c.parts_of_word.ensures)
          ∙ c.loop-at.invariant.whole;
      some = grind arith;
      few = omega arith;
    }
