-- What each term that is taken leaves.
use Rattle.std.proofs.Common.{◌+◌, List, map, refl, sym, ap, ◌∙◌, subst}
use Rattle.term_core.specs.Plain.{plain}
use Rattle.term_core.specs.PlainTerm.{PlainTerm}
use Rattle.term_core.proofs.TakenTerms.{IsTaken, taken_more, taken_none}
use Rattle.term_core.proofs.image_reading.take_terms.Goals.{in-Some+in_ok-push, in_default}
use Rattle.term_core.proofs.image_reading.take_terms.Goals as goal

-- at the start none is taken
pub loop-init : goal.loop-init
loop-init c = record { taken = c.new-row.ensures; rest = refl }

-- one more, or none
pub loop-preserved : goal.loop-preserved
loop-preserved c =
    let before : List PlainTerm = map plain c.args.terms.now in
    let terms : List PlainTerm = map plain c.loop.terms in
    let left : List PlainTerm = map plain c.pop.new.self in
    elim c.match-pop.branch [
      | in-Some+in_ok-push w ↦
          let row = w.row-is ∙ w.in_ok-push.ensures.ok in
          subst (λ (xs : List PlainTerm). IsTaken before xs left (c.loop.counter + 1)) (sym row)
          (taken_more before c.loop.row terms left (plain w.in-Some.term) c.loop.counter c.loop.invariant (ap (map plain) w.in-Some.ensures))
      | in_default w ↦
          let none = taken_none before c.loop.row terms c.loop.counter c.loop.invariant (ap (map plain) w.in_default.ensures.0) in
          record { taken = w.row-is ∙ none.taken; rest = ap (map plain) w.in_default.ensures.1 ∙ none.rest }
    ]
