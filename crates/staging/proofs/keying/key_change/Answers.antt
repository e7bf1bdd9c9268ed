-- The word of the change has room.
use Rattle.std.proofs.Common.{sym, ap, subst, ◌∙◌, arith}
use Rattle.std.specs.Option.{option_copied}
use Rattle.staging.specs.Keyed.{HasKeyWord}
use Rattle.staging.proofs.keying.key_change.Goals as goal

pub word-requires : goal.word-requires
word-requires c = subst (λ change. HasKeyWord change c.args.taken.now) c.in-HoldWord.is c.requires

pub area_word-requires-clause-serial : goal.area_word-requires-clause-serial
area_word-requires-clause-serial c =
    let has = subst (λ change. HasKeyWord change c.args.taken.now) c.in-HoldArea.is c.requires in
    (has c.in_ok-area-in-HoldArea.area.now (sym c.first.ensures.value ∙ ap option_copied c.in_ok-area-in-HoldArea.was)).0

pub area_word-requires-clause-block : goal.area_word-requires-clause-block
area_word-requires-clause-block c =
    let has = subst (λ change. HasKeyWord change c.args.taken.now) c.in-HoldArea.is c.requires in
    let low = (has c.in_ok-area-in-HoldArea.area.now (sym c.first.ensures.value ∙ ap option_copied c.in_ok-area-in-HoldArea.was)).1 in
    omega (arith, low)
