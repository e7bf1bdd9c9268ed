-- Each text made so far is a module, and its place tells its name and version.
use Rattle.std.proofs.Common.{◌≡◌, ℕ, ◌+◌, ◌/◌, ◌%◌, length, All, Some, slice_get}
use Rattle.mod_core.specs.declared.code.Module.{Module}
use Rattle.mod_core.specs.Module.{IsModule}
use Rattle.server_tests.proofs.steps.texts.Given as goal

abbrev pub invariant-loop-k : goal.invariant-loop-k
invariant-loop-k l = record {
  sound : All IsModule l.texts;
  placed : (i : ℕ) (m : Module) → slice_get l.texts i ≡ Some m → (m.name.0 ≡ 3 + i / 3) × (m.version ≡ 1 + i % 3);
  len : length l.texts ≡ l.k;
}
