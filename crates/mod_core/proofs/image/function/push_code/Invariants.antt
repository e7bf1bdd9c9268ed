-- What is written and what is left make up the words of all the instructions and the images of all their constants.
use Rattle.std.proofs.Common.{◌+◌, ◌≤◌, drop, map, slice_index}
use Rattle.mod_core.specs.declared.image.Draft.{Draft}
use Rattle.mod_core.specs.Draft.{Wrote, next_place}
use Rattle.mod_core.specs.ModuleImage.{code_constants, code_words, constants_len, placed}
use Rattle.mod_core.proofs.image.function.push_code.Given as goal

abbrev pub invariant-loop-instr : goal.invariant-loop-instr
invariant-loop-instr l = record {
  completes : (new : Draft) → Wrote l.draft new (code_words (next_place l.draft) (map (placed (slice_index l.places)) (drop l.instr-index l.code))) (code_constants (drop l.instr-index l.code)) →
      Wrote l.initial.draft new (code_words (next_place l.initial.draft) (map (placed (slice_index l.places)) l.code)) (code_constants l.code);
  room : next_place l.draft + constants_len (code_constants (drop l.instr-index l.code)) ≤ 1024;
}
