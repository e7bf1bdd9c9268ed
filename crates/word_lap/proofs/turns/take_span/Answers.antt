use Rattle.std.proofs.Common.{◌∙◌}
use Rattle.word_lap.proofs.Spans.{none_there, put_back}
use Rattle.word_lap.proofs.turns.take_span.Goals.{in-Some+else-span-generation+in_ok-push, in_default}
use Rattle.word_lap.proofs.turns.take_span.Goals as goal

-- a new span
pub returns : goal.returns
returns c =
    elim c.match-pop.branch [
      | in-Some+else-span-generation+in_ok-push w ↦ put_back _ _ _ _ _ _ w.in-Some.ensures w.if-span-generation.false (w.spans-is ∙ w.in_ok-push.ensures.ok) c.new.ensures
      | in_default w ↦ none_there _ _ _ _ w.in_default.ensures.0 (w.spans-is ∙ w.in_default.ensures.1) c.new.ensures
    ]
