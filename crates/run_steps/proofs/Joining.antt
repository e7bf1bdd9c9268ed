-- A longer journal keeps what is known of a process.
use Rattle.std.proofs.Common.{◌≡◌, ℕ, ◌<◌, ◌≤◌, List, arith}
use Rattle.server_core.specs.ServerState.{ServerState}
use Rattle.machine_core.specs.Process.{new_process}
use Rattle.script_core.specs.Processes.{SpawnLine}
use Rattle.run_log.specs.declared.logs.Entry.{Entry}
use Rattle.run_log.specs.Journal.{published_before}
use Rattle.run_log.proofs.ListPlaces.{all_weaker}
use Rattle.run_log.proofs.SpanRuns.{follow_under, go_under}
use Rattle.run_steps.specs.declared.phase.Phase.{Phase}
use Rattle.run_steps.specs.declared.phase.Phase.TheVariants.{Waiting, Going, Ended}
use Rattle.run_steps.specs.Stands.{Stand}
use Rattle.run_steps.specs.Standing.{StandsIn, WasSpawned}

-- what a longer journal keeps of a process
pub record IsLonger (journal longer : List Entry) (states others : ℕ → ServerState) (top higher done more : ℕ) (line : SpawnLine) : Type 0 where
  pub same : (g : ℕ) → g ≤ top → others g ≡ states g
  pub later : top ≤ higher
  pub before : line.place < done → published_before line.loader line.place longer ≡ published_before line.loader line.place journal
  pub as_many : done ≤ more

module _ (journal longer : List Entry) (states others : ℕ → ServerState) (top higher done more number : ℕ) (line : SpawnLine) (x : Stand) (l : IsLonger journal longer states others top higher done more line) where
  was_kept : WasSpawned top done number journal line x → WasSpawned higher more number longer line x
  was_kept was = record {
    spawned = omega (arith, was.spawned, l.as_many);
    numbered = was.numbered;
    target = was.target;
    args = was.args;
    started = rw (l.before was.spawned) was.started;
    known = all_weaker (λ span. span.generation ≤ top) (λ span. span.generation ≤ higher) (λ span h. omega (arith, h, l.later)) x.spans was.known;
    whole = was.whole;
  }

  -- where a process stands it stands under a longer journal too; one that waits still waits
  pub stands_kept : (phase : Phase) → (done ≤ line.place → more ≤ line.place) → StandsIn journal states top done number line x phase → StandsIn longer others higher more number line x phase
  stands_kept Waiting still w = record { process = w.process; spans = w.spans; still = still w.still }
  stands_kept Going still g = record { was = was_kept g.was; follow = go_under states others top l.same (new_process number line.target line.args) x.spans x.process g.was.known g.follow }
  stands_kept (Ended fin) still o = record { was = was_kept o.was; follow = follow_under states others top l.same (new_process number line.target line.args) x.spans fin o.was.known o.follow }
