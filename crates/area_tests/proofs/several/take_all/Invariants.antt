use Rattle.shared_words.specs.declared.view.WriterView.{WriterView}
use Rattle.literal_areas.specs.Owned.{AreOf}
use Rattle.area_tests.specs.Several.{AreTaken}
use Rattle.area_tests.proofs.several.take_all.Given as goal

-- so many are taken, and the pools are the writer's still
abbrev pub invariant-loop-at : goal.invariant-loop-at
invariant-loop-at l = AreTaken l.at l.pools × ((w : WriterView) → AreOf l.fn.pools w → AreOf l.pools w)
