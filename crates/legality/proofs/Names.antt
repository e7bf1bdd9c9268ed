-- What a process names, by its frames.
use Rattle.std.proofs.Common.{◌≡◌, ◌||◌, ℕ, Bool, [], sym, ap, ◌∙◌}
use Rattle.machine_core.specs.Holds.{Holds, is_among, is_area_held}
use Rattle.machine_core.specs.Process.{Words, code_names, names_of, process_of}
use Rattle.machine_core.proofs.CodeNames.{code_names-shown}
use Rattle.span_check.specs.declared.standing.Standing.{Standing}
use Rattle.legality.specs.Looks.{names_area, stands_in}

module _ (standing : Standing) (serial : ℕ) (b : Bool) where
  shown : code_names standing.process.frames ≡ names_of (process_of (λ n. []) standing.process)
  shown = code_names-shown (λ n. []) standing.process.frames

  -- whatever the words of the areas are
  pub stands_by : ((words : Words) → b ≡ is_among (names_of (process_of words standing.process)).frames serial) → b ≡ stands_in serial standing
  stands_by h = h (λ n. []) ∙ ap (λ (x : Holds). is_among x.frames serial) (sym shown)

  pub names_by : ((words : Words) → b ≡ (is_among (names_of (process_of words standing.process)).frames serial || is_among (names_of (process_of words standing.process)).literals serial)) → b ≡ names_area serial standing
  names_by h = h (λ n. []) ∙ ap (λ (x : Holds). is_area_held x serial) (sym shown)
