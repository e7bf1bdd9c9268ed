-- The places of the instructions passed are kept, and the next place is behind their words.
use Rattle.std.proofs.Common.{◌≡◌, map}
use Rattle.std.specs.List.{range_with_len}
use Rattle.mod_core.specs.ModuleImage.{place_in}
use Rattle.mod_core.proofs.image.function.places_from.Given as goal

abbrev pub invariant-loop-instr : goal.invariant-loop-instr
invariant-loop-instr l = record {
  kept : l.places ≡ map (place_in l.start l.code) (range_with_len 0 l.instr-index);
  next : l.place ≡ place_in l.start l.code l.instr-index;
}
