-- What is written and what is left make up the whole code and the images of all constants, which end where they would.
use Rattle.std.proofs.Common.{◌+◌, ◌≤◌, drop, length}
use Rattle.mod_core.specs.declared.image.Draft.{Draft}
use Rattle.mod_core.specs.Draft.{Wrote, next_place}
use Rattle.mod_core.specs.ModuleImage.{constants_len, constants_of, functions_words, place_from}
use Rattle.mod_core.proofs.image.function.push_functions.Given as goal

abbrev pub invariant-loop-function : goal.invariant-loop-function
invariant-loop-function l = record {
  completes : (new : Draft) → Wrote l.draft new (functions_words (length l.draft.words) (next_place l.draft) (drop l.function-index l.functions)) (constants_of (drop l.function-index l.functions)) →
      Wrote l.initial.draft new (functions_words (length l.initial.draft.words) (next_place l.initial.draft) l.functions) (constants_of l.functions);
  code : place_from (length l.draft.words) (drop l.function-index l.functions) (length (drop l.function-index l.functions)) ≤ 1024;
  room : next_place l.draft + constants_len (constants_of (drop l.function-index l.functions)) ≤ 1024;
}
