use Rattle.area_tests.proofs.players.names_area.Given as goal

-- nothing is known of the anchors before
abbrev pub invariant-loop-place : goal.invariant-loop-place
invariant-loop-place l = Unit {0}
