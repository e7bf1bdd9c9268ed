use Rattle.std.proofs.Common.{sym, subst, ◌∙◌, refl}
use Rattle.std.proofs.lemmas.Bool.{false≢true}
use Rattle.legality.specs.Observers.{SeesMore}
use Rattle.legality.proofs.Seeing.{seen_all, seen_first, seen_next, seen_up_to, sees_other}
use Rattle.legality.proofs.observers.see.Goals as goal

pub loop-place-init : goal.loop-place-init
loop-place-init c = (refl, seen_first c.args.script.now.names c.args.server.now c.args.shots.now c.args.seen.now)

pub returns-then-shot-generation : goal.returns-then-shot-generation
returns-then-shot-generation c =
    subst (SeesMore c.args.script.now.names c.args.server.now c.args.shots.now c.args.seen.now) (sym c.loop-place.invariant.0)
    (seen_up_to c.args.script.now.names c.args.server.now c.args.shots.now c.args.seen.now c.loop-place.place c.loop-place.invariant.1 c.index-shots-place.result c.loop-place-test.true c.index-shots-place.is
    (λ h. c.if-shot-generation.true (h ∙ sym c.generation-generation.ensures.value)))

pub returns-then-not-branch : goal.returns-then-not-branch
returns-then-not-branch c =
    sees_other c.args.script.now.names c.args.server.now c.args.shots.now c.args.seen.now c.loop-place.place c.loop-place.invariant.1 c.index-shots-place.result c.loop-place-test.true c.index-shots-place.is
    (c.if-shot-generation.false ∙ c.generation-generation.ensures.value) (λ h. false≢true (sym c.if-not-branch.true ∙ c.in_ok-is_true.ensures.1 h))

pub loop-place-preserved : goal.loop-place-preserved
loop-place-preserved c = (
  refl,
  seen_next c.args.script.now.names c.args.server.now c.args.shots.now c.args.seen.now c.loop-place.place c.loop-place.invariant.1 c.index-shots-place.result c.loop-place-test.true c.index-shots-place.is
      (c.if-shot-generation.false ∙ c.generation-generation.ensures.value) (c.in_ok-is_true.ensures.0 c.if-not-branch.false),
)

pub returns : goal.returns
returns c =
    subst (SeesMore c.args.script.now.names c.args.server.now c.args.shots.now c.args.seen.now) (sym c.loop-place.invariant.0)
    (seen_all c.args.script.now.names c.args.server.now c.args.shots.now c.args.seen.now c.loop-place.place c.loop-place.invariant.1 c.loop-place-test.false (c.loop-place.auto.place-end c.requires.within))
