-- The labels so far are those of the lines so far.
use Rattle.mod_text.proofs.Common.{take}
use Rattle.mod_text.proofs.Forms.{forms_of}
use Rattle.mod_text.proofs.PlaceTables.{PlacesSoFar}
use Rattle.mod_text.proofs.labels.places_of.Given as goal

abbrev pub invariant-loop-line : goal.invariant-loop-line
invariant-loop-line l = PlacesSoFar l.places l.number (forms_of (take l.line-index l.body))
