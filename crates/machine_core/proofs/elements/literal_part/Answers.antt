-- The part stands behind those before it.
use Rattle.std.proofs.Common.{◌+◌, ◌∙◌, ap, sym, subst, arith, option_map, slice_index}
use Rattle.machine_core.specs.Process.{value_shown}
use Rattle.machine_core.specs.Stand.{AreImages, images_end}
use Rattle.machine_core.specs.Values.{part_value}
use Rattle.machine_core.specs.View.{IsReadable, Shown}
use Rattle.machine_core.specs.declared.process.Value.TheVariants.{Literal}
use Rattle.machine_core.proofs.ImageSteps.{readable_low}
use Rattle.machine_core.proofs.LiteralParts.{first_readable, no_part, part_of_literal, part_shows}
use Rattle.machine_core.proofs.elements.literal_part.Goals as goal

pub word-word-requires-clause-readable : goal.word-word-requires-clause-readable
word-word-requires-clause-readable g c = first_readable (g.V.CodeView.shown c.args.view.now) c.args.at c.requires.usable.0

pub returns-then-place-parts_of_word-clause-value : goal.returns-then-place-parts_of_word-clause-value
returns-then-place-parts_of_word-clause-value g c =
    let shown = g.V.CodeView.shown c.args.view.now in
    ap (option_map (part_value (value_shown shown.words (Literal c.args.at)))) (sym (no_part shown c.args.at c.requires.usable.0 c.args.place c.word-word.result c.parts_of_word.result c.word-word.ensures.value c.parts_of_word.ensures c.if-place-parts_of_word.true))

pub overflow_add-at : goal.overflow_add-at
overflow_add-at g c =
    let shown = g.V.CodeView.shown c.args.view.now in
    omega (arith, readable_low shown c.args.at.area.serial c.args.at.at c.requires.lawful (first_readable shown c.args.at c.requires.usable.0))

pub place_behind-requires-clause-images : goal.place_behind-requires-clause-images
place_behind-requires-clause-images g c =
    let shown = g.V.CodeView.shown c.args.view.now in
    let p = part_of_literal shown c.args.at c.requires.usable.0 c.args.place c.word-word.result c.parts_of_word.result c.word-word.ensures.value c.parts_of_word.ensures c.if-place-parts_of_word.false in
    subst (λ (v : Shown). AreImages v c.args.at.area.serial (c.args.at.at + 1) c.args.place) (sym c.word-word.ensures.same) p.images

pub word-first-requires-clause-readable : goal.word-first-requires-clause-readable
word-first-requires-clause-readable g c =
    let shown = g.V.CodeView.shown c.args.view.now in
    let p = part_of_literal shown c.args.at c.requires.usable.0 c.args.place c.word-word.result c.parts_of_word.result c.word-word.ensures.value c.parts_of_word.ensures c.if-place-parts_of_word.false in
    let end = c.place_behind.ensures.value ∙ ap (λ (v : Shown). images_end (v.words c.args.at.area.serial) (c.args.at.at + 1) c.args.place) c.word-word.ensures.same ∙ p.end in
    subst (λ (v : Shown). IsReadable v c.args.at.area.serial c.place_behind.result) (sym (c.place_behind.ensures.same ∙ c.word-word.ensures.same))
    (subst (IsReadable shown c.args.at.area.serial) (sym end) (first_readable shown (record { area = c.args.at.area; at = c.args.at.at + 1 + p.skip }) p.part))

pub returns-clause-value : goal.returns-clause-value
returns-clause-value g c =
    let shown = g.V.CodeView.shown c.args.view.now in
    let p = part_of_literal shown c.args.at c.requires.usable.0 c.args.place c.word-word.result c.parts_of_word.result c.word-word.ensures.value c.parts_of_word.ensures c.if-place-parts_of_word.false in
    let end = c.place_behind.ensures.value ∙ ap (λ (v : Shown). images_end (v.words c.args.at.area.serial) (c.args.at.at + 1) c.args.place) c.word-word.ensures.same ∙ p.end in
    let first = c.word-first.ensures.value ∙ ap (λ (v : Shown). slice_index (v.words c.args.at.area.serial) c.place_behind.result) (c.place_behind.ensures.same ∙ c.word-word.ensures.same) in
    (part_shows shown (g.V.CodeView.held c.args.view.now) c.args.at c.args.place c.place_behind.result c.word-first.result c.part_at.result p c.requires.usable.1 end first c.part_at.ensures).0

pub returns-clause-usable : goal.returns-clause-usable
returns-clause-usable g c =
    let shown = g.V.CodeView.shown c.args.view.now in
    let p = part_of_literal shown c.args.at c.requires.usable.0 c.args.place c.word-word.result c.parts_of_word.result c.word-word.ensures.value c.parts_of_word.ensures c.if-place-parts_of_word.false in
    let end = c.place_behind.ensures.value ∙ ap (λ (v : Shown). images_end (v.words c.args.at.area.serial) (c.args.at.at + 1) c.args.place) c.word-word.ensures.same ∙ p.end in
    let first = c.word-first.ensures.value ∙ ap (λ (v : Shown). slice_index (v.words c.args.at.area.serial) c.place_behind.result) (c.place_behind.ensures.same ∙ c.word-word.ensures.same) in
    (part_shows shown (g.V.CodeView.held c.args.view.now) c.args.at c.args.place c.place_behind.result c.word-first.result c.part_at.result p c.requires.usable.1 end first c.part_at.ensures).1
