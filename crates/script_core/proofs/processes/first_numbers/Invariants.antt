use Rattle.std.proofs.Common.{◌≡◌, ℕ, ◌<◌, length, slice_index}
use Rattle.script_core.specs.declared.script.TheConstants.{MOST_LOADERS}
use Rattle.script_core.specs.Processes.{first_number}
use Rattle.script_core.proofs.processes.first_numbers.Given as goal

-- the numbers of the loaders so far, and the next one
abbrev pub invariant-loop-loader : goal.invariant-loop-loader
invariant-loop-loader l = record {
  numbers : (k : ℕ) → k < l.loader → slice_index l.numbers k ≡ first_number l.loaders k;
  long : length l.numbers ≡ MOST_LOADERS;
  next : l.next ≡ first_number l.loaders l.loader;
}
