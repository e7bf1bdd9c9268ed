-- What was spawned is what was taken.
use Rattle.std.proofs.Common.{◌≡◌, ℕ, ◌<◌, ◌%◌, List, slice_get, Some, refl, sym, ap, ◌∙◌, arith}
use Rattle.std.proofs.lemmas.Option.{same_Some, slice_get_within}
use Rattle.script_core.specs.declared.script.Script.{Script}
use Rattle.script_core.specs.Processes.{SpawnLine, spawns_of}
use Rattle.run_log.specs.declared.logs.Entry.{Entry}
use Rattle.run_log.specs.Legal.{commands_of}
use Rattle.run_steps.proofs.Ends.{line_text}
use Rattle.run_law.specs.Newcomers.{AreAllDone, ArePosted, AreTaken, IsTaken, SpawnedProcess, spawn_for}

pub spawn_taken : (s : Script) (done : ℕ → ℕ) (journal : List Entry) (homes home : ℕ) (put taken : List SpawnedProcess)
    → AreAllDone s done → ArePosted s done journal homes home put → AreTaken put taken
    → (number : ℕ) (line : SpawnLine) → slice_get (spawns_of 0 s.loaders) number ≡ Some line → number % homes ≡ home → IsTaken journal number line taken
spawn_taken s done journal homes home put taken all posted are number line at own = record {
  among = are.all (spawn_for journal number line) (posted.whole number (spawn_for journal number line) own (record { line = line; at = at; was_done = past; is = refl }));
  one = λ spawn there same.
      let from = (posted.sound spawn (are.only spawn there)).0 in
      let lines : from.line ≡ line = same_Some from.line line (sym from.at ∙ ap (slice_get (spawns_of 0 s.loaders)) same ∙ at) in
      from.is ∙ ap (λ (n : ℕ). spawn_for journal n from.line) same ∙ ap (spawn_for journal number) lines;
}
  where
    past : line.place < done line.loader
    past = omega (arith, slice_get_within (commands_of s line.loader) line.place _ (line_text s number line at).0, all line.loader)
