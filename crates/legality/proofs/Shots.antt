-- The snapshots of a generation, judged: what is then known, and that none errs where they are true.
use Rattle.std.proofs.Common.{◌≡◌, ◌≢◌, ◌⊎◌, inl, inr, ℕ, zero, suc, ◌+◌, ◌<◌, ◌≤◌, List, [], ◌∷◌, slice_get, Some, sym, ap, subst, ◌∙◌, arith}
use Rattle.std.proofs.lemmas.Bool.{cases_lt}
use Rattle.std.proofs.lemmas.Option.{none-some, same_Some, slice_get_within}
use Rattle.std.specs.List.{AllByRecursion}
use Rattle.server_core.specs.ServerState.{ServerState, empty_state}
use Rattle.script_core.specs.declared.script.Script.{Script}
use Rattle.run_log.specs.declared.logs.RunLog.{RunLog}
use Rattle.run_log.specs.declared.logs.Snapshot.{Snapshot}
use Rattle.run_log.specs.Journal.{state_at}
use Rattle.run_log.specs.Legal.{AreRising, SnapshotsTrue}
use Rattle.run_log.specs.Snapshots.{AreExports}
use Rattle.run_log.proofs.ListPlaces.{get_within}
use Rattle.legality.specs.Observers.{AllSee, IsSnapshotOfSweep, OneErrs, SeesMore}
use Rattle.legality.specs.Sweeps.{AreSeen, IsSeen, IsTrueShot}
use Rattle.legality.proofs.Answers.{if_some_at}
use Rattle.legality.proofs.Ends.{all_at}

-- ---- generations that never fall

rises_first : (first shot : Snapshot) (shots : List Snapshot) (k : ℕ) → AreRising (first ∷ shots) → slice_get (first ∷ shots) k ≡ Some shot → first.generation ≤ shot.generation
rises_first first shot shots zero rising at = let e = ap (λ (x : Snapshot). x.generation) (same_Some first shot at) in omega (arith, e)
rises_first first shot [] (suc k) rising at = absurd (none-some shot at)
rises_first first shot (next ∷ shots) (suc k) rising at = let rest = rises_first next shot shots k rising.1 at in omega (arith, rising.0, rest)

rising_rest : (first : Snapshot) (shots : List Snapshot) → AreRising (first ∷ shots) → AreRising shots
rising_rest first [] rising = tt
rising_rest first (next ∷ shots) rising = rising.1

rises : (shots : List Snapshot) (i k : ℕ) (one other : Snapshot) → AreRising shots → i ≤ k → slice_get shots i ≡ Some one → slice_get shots k ≡ Some other → one.generation ≤ other.generation
rises [] i k one other rising low at is = absurd (none-some one at)
rises (first ∷ shots) zero k one other rising low at is =
    let e = ap (λ (x : Snapshot). x.generation) (same_Some first one at) in
    let h = rises_first first other shots k rising is in
    omega (arith, e, h)
rises (first ∷ shots) (suc i) zero one other rising low at is = absurd (omega (arith, low))
rises (first ∷ shots) (suc i) (suc k) one other rising low at is = rises shots i k one other (rising_rest first shots rising) (omega (arith, low)) at is

module _ (s : Script) (log : RunLog) (server : ServerState) (first : state_at s.modules empty_state log.journal server.generation ≡ server) where
  abbrev states : ℕ → ServerState
  states = state_at s.modules empty_state log.journal

  -- a true snapshot of the server's generation
  shot_true : (shot : Snapshot) → IsSnapshotOfSweep s.names server shot → IsTrueShot s log shot
  shot_true shot h =
      subst (λ g. AreExports s.names (states g) shot.exports) (sym h.generation) (subst (λ (x : ServerState). AreExports s.names x shot.exports) (sym first) h.exports)

  shot_exports : (shot : Snapshot) → shot.generation ≡ server.generation → IsTrueShot s log shot → AreExports s.names server shot.exports
  shot_exports shot is h = subst (λ (x : ServerState). AreExports s.names x shot.exports) (ap states is ∙ first) h

  module _ (shots : List Snapshot) (from to : ℕ) (seen : IsSeen s log server.generation shots from) (more : SeesMore s.names server shots from to) (rising : AreRising shots) where
    each_seen : (k : ℕ) (shot : Snapshot) → k < to → slice_get shots k ≡ Some shot → IsTrueShot s log shot
    each_seen k shot low at = by (cases_lt k from)
      where
        by : (k < from) ⊎ (from ≤ k) → IsTrueShot s log shot
        by (inl before) = seen.each k shot before at
        by (inr high) = shot_true shot (more.each k shot high low at)

    -- those behind are of later generations
    later_behind : (k : ℕ) (shot : Snapshot) → to ≤ k → slice_get shots k ≡ Some shot → server.generation + 1 ≤ shot.generation
    later_behind k shot low at =
        let next = get_within shots to (let h = slice_get_within shots k shot at in omega (arith, h, low)) in
        let other = if_some_at (slice_get shots to) (λ (x : Snapshot). x.generation ≢ server.generation) next.0 next.1 more.behind in
        let late = seen.behind to next.0 more.low next.1 in
        let h = rises shots to k next.0 shot rising low next.1 at in
        omega (arith, other, late, h)

    seen_next : IsSeen s log (server.generation + 1) shots to
    seen_next = record { within = more.within; each = each_seen; behind = later_behind }

  -- all snapshots of the generation are seen
  pub all_seen : (before after : List ℕ) → AreSeen s log server.generation before → AllSee s.names server log.observers before after → AllByRecursion AreRising log.observers → AreSeen s log (server.generation + 1) after
  all_seen before after seen more rising = record {
    many = more.many ∙ seen.many;
    each = λ observer to shots at is.
        let from = get_within before observer (omega (arith, slice_get_within after observer to is, more.many)) in
        seen_next shots from.0 to (seen.each observer from.0 shots at from.1) (more.each observer from.0 to shots at from.1 is) (all_at AreRising log.observers observer shots rising at);
  }

  -- where the snapshots are true, none errs
  pub none_errs : SnapshotsTrue s log → OneErrs s.names server log.observers → ⊥
  none_errs holds h =
      h.other.other
      (shot_exports h.other.shot h.other.generation
      (all_at (IsTrueShot s log) h.shots h.other.place h.other.shot
      (all_at (λ shots. AllByRecursion (IsTrueShot s log) shots) log.observers h.observer h.shots holds.exports h.at) h.other.at))
