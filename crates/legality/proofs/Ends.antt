-- Before the first entry, and after the last one.
use Rattle.std.proofs.Common.{◌≡◌, ◌⊎◌, inl, inr, ℕ, zero, suc, ◌+◌, ◌<◌, ◌≤◌, Bool, true, false, List, [], ◌∷◌, length, take, drop, slice_get, Some, None, All, refl, sym, ap, subst, ◌∙◌, arith}
use Rattle.std.proofs.lemmas.Bool.{cases_lt, false≢true}
use Rattle.std.proofs.lemmas.List.{take_all}
use Rattle.std.proofs.lemmas.List.Elements.{All-from_recursion, recursion_from_All}
use Rattle.std.proofs.lemmas.Option.{none-some, same_Some, slice_get_within}
use Rattle.std.specs.List.{AllByRecursion}
use Rattle.server_core.specs.ServerState.{ServerState, empty_state}
use Rattle.machine_core.specs.Process.{process_of}
use Rattle.machine_core.specs.View.{server_words}
use Rattle.script_core.specs.declared.script.Script.{Script}
use Rattle.run_log.specs.declared.logs.ProcessLog.{ProcessLog}
use Rattle.run_log.specs.declared.logs.RunLog.{RunLog}
use Rattle.run_log.specs.declared.logs.Snapshot.{Snapshot}
use Rattle.run_log.specs.declared.logs.Span.{Span}
use Rattle.run_log.specs.Journal.{newest_state, published_count, state_at}
use Rattle.run_log.specs.Legal.{PurgesGo, Replays, SpansFollow, TurnsFollow}
use Rattle.run_log.proofs.ListPlaces.{get_within}
use Rattle.legality.specs.Shape.{IsShaped}
use Rattle.span_check.specs.declared.standing.Standing.{Standing}
use Rattle.span_check.specs.Standings.{StandsSo, first_of}
use Rattle.span_check.proofs.StandingLaws.{still_goes}
use Rattle.legality.specs.declared.sweep.Sweep.{Sweep}
use Rattle.legality.specs.declared.breach.Clause.{Clause}
use Rattle.legality.specs.declared.breach.Clause.TheVariants as clauses
use Rattle.legality.specs.Breaches.{ClauseHolds, ClausesHold}
use Rattle.legality.specs.Entries.{half_before, half_over}
use Rattle.legality.specs.Sweeps.{HasEnded, IsLeft, IsSeen, IsSwept, IsTrueShot}
use Rattle.legality.proofs.Locals.{half_last, purges_before, replays_before}
use Rattle.legality.proofs.Places.{published_now}

-- ---- lists

-- what holds at each place holds of each element
pub all_from : {X : Type 0} (P : X → Type 0) (xs : List X) → ((k : ℕ) (x : X) → slice_get xs k ≡ Some x → P x) → AllByRecursion P xs
all_from P [] h = tt
all_from P (x ∷ xs) h = (h 0 x refl, all_from P xs (λ k y e. h (suc k) y e))

pub all_at : {X : Type 0} (P : X → Type 0) (xs : List X) (k : ℕ) (x : X) → AllByRecursion P xs → slice_get xs k ≡ Some x → P x
all_at P [] k x h e = absurd (none-some x e)
all_at P (y ∷ xs) zero x h e = subst P (same_Some y x e) h.0
all_at P (y ∷ xs) (suc k) x h e = all_at P xs k x h.1 e

-- of what passes such bounds none is left
none_behind : {X : Type 0} (f : X → ℕ) (g n : ℕ) (xs : List X) → AllByRecursion (λ x. f x ≤ g) xs → AllByRecursion (λ x. g + 1 ≤ f x) (drop n xs) → length xs ≤ n
none_behind f g zero [] low high = omega arith
none_behind f g zero (x ∷ xs) low high = absurd (omega (arith, low.0, high.0))
none_behind f g (suc n) [] low high = omega arith
none_behind f g (suc n) (x ∷ xs) low high = let rest = none_behind f g n xs low.1 high in omega (arith, rest)

-- ---- the end

module _ (s : Script) (log : RunLog) (watched : Bool) (sweep : Sweep) (swept : IsSwept s log watched (length log.journal) sweep) (shaped : IsShaped s log) where
  abbrev states : ℕ → ServerState
  states = state_at s.modules empty_state log.journal

  abbrev top : ℕ
  top = sweep.server.generation

  whole : take (length log.journal) log.journal ≡ log.journal
  whole = take_all (length log.journal) log.journal (omega arith)

  -- the server has the newest state
  pub newest_is : sweep.server ≡ newest_state s.modules empty_state log.journal
  newest_is = swept.here.server_is ∙ ap (newest_state s.modules empty_state) whole

  counted_all : published_count log.journal ≡ top
  counted_all =
      let n = published_now s log (length log.journal) swept.here.meet in
      ap published_count (sym whole) ∙ n ∙ ap (λ x. x.generation) (sym swept.here.server_is)

  spans_within : (number : ℕ) (process : ProcessLog) → slice_get log.processes number ≡ Some process → AllByRecursion (λ span. span.generation ≤ top) process.spans
  spans_within number process at =
      subst (λ g. AllByRecursion (λ span. span.generation ≤ g) process.spans) counted_all
      (recursion_from_All (λ span. span.generation ≤ published_count log.journal) process.spans
      (all_at (λ (x : ProcessLog). All (λ span. span.generation ≤ published_count log.journal) x.spans) log.processes number process
      (recursion_from_All (λ (x : ProcessLog). All (λ span. span.generation ≤ published_count log.journal) x.spans) log.processes shaped.complete.generations) at))

  -- no span is left
  all_gone : (number : ℕ) (process : ProcessLog) (standing : Standing) → slice_get log.processes number ≡ Some process → slice_get sweep.standings.items number ≡ Some standing → length process.spans ≤ standing.gone
  all_gone number process standing at is =
      none_behind (λ (x : Span). x.generation) top standing.gone process.spans (spans_within number process at) (swept.standings.each number process standing at is).reached.behind

  follows_so : (number : ℕ) (process : ProcessLog) (standing : Standing) (ended : Bool) → ended ≡ true → StandsSo states number process standing.gone (process_of (server_words sweep.server) standing.process) ended
      → SpansFollow states (first_of number process) process.spans process.fin
  follows_so number process standing true is h = h.follow
  follows_so number process standing false is h = absurd (false≢true is)

  -- where turns follow each process has ended
  has_ended : TurnsFollow s log → (number : ℕ) (standing : Standing) → slice_get sweep.standings.items number ≡ Some standing → standing.ended ≡ false → ⊥
  has_ended follow number standing is going =
      let process = get_within log.processes number (omega (arith, slice_get_within sweep.standings.items number standing is, swept.standings.many)) in
      let it = swept.standings.each number process.0 standing process.1 is in
      still_goes states (server_words sweep.server) number process.0 standing going (let h = all_gone number process.0 standing process.1 is in omega (arith, h, it.reached.within)) it.stands
      (follow number process.0 process.1)

  shots_true : (observer count : ℕ) (shots : List Snapshot) → slice_get log.observers observer ≡ Some shots → IsSeen s log (top + 1) shots count → AllByRecursion (IsTrueShot s log) shots
  shots_true observer count shots at seen = all_from (IsTrueShot s log) shots (λ k shot is. by k shot is (cases_lt k count))
    where
      by : (k : ℕ) (shot : Snapshot) → slice_get shots k ≡ Some shot → (k < count) ⊎ (count ≤ k) → IsTrueShot s log shot
      by k shot is (inl low) = seen.each k shot low is
      by k shot is (inr high) =
          let known =
          all_at (λ (x : Snapshot). x.generation ≤ published_count log.journal) shots k shot
          (all_at (λ xs. AllByRecursion (λ x. x.generation ≤ published_count log.journal) xs) log.observers observer shots shaped.complete.snapshots at) is in
          absurd (omega (arith, known, counted_all, seen.behind k shot high is))

  exports_true : AllByRecursion (λ shots. AllByRecursion (IsTrueShot s log) shots) log.observers
  exports_true =
      all_from (λ shots. AllByRecursion (IsTrueShot s log) shots) log.observers
      (λ observer shots at.
      let count = get_within sweep.seen.items observer (omega (arith, slice_get_within log.observers observer shots at, swept.seen.many)) in
      shots_true observer count.0 shots at (swept.seen.each observer count.0 shots at count.1))

  not_going : (b : Bool) → (b ≡ false → ⊥) → b ≡ true
  not_going true h = refl
  not_going false h = absurd (h refl)

  -- where something waits a clause does not hold
  pub left_broken : (clause : Clause) → IsLeft sweep clause → ClauseHolds clause s log → ⊥
  left_broken clauses.LoadersInOrder left holds = left (swept.here.half_is ∙ ap (half_over None) whole ∙ half_last s.modules empty_state None None log.journal holds.purges)
  left_broken clauses.TurnsFollow left holds =
      left
      (All-from_recursion (λ (x : Standing). x.ended ≡ true) sweep.standings.items
      (all_from (λ (x : Standing). x.ended ≡ true) sweep.standings.items (λ number standing is. not_going standing.ended (has_ended holds number standing is))))
  left_broken clauses.NothingRetired left holds = left (ap (λ x. x.retired) newest_is ∙ holds)
  left_broken clause left holds = left

  -- where nothing waits and each process has ended each clause holds that was watched
  module _ (over : HasEnded sweep) where
    turns_at_end : TurnsFollow s log
    turns_at_end number process at =
        let standing = get_within sweep.standings.items number (omega (arith, slice_get_within log.processes number process at, swept.standings.many)) in
        follows_so number process standing.0 standing.0.ended
        (all_at (λ (x : Standing). x.ended ≡ true) sweep.standings.items number standing.0 (recursion_from_All (λ (x : Standing). x.ended ≡ true) sweep.standings.items over.ended) standing.1)
        (swept.standings.each number process standing.0 at standing.1).stands

    pub clauses_at_end : ClausesHold watched s log
    clauses_at_end clauses.Replays is = subst (Replays s.modules empty_state) whole (replays_before s log (length log.journal) swept.here.meet)
    clauses_at_end clauses.LoadersInOrder is = record {
      commands = shaped.commands;
      purges =
          subst (PurgesGo s.modules empty_state None log.journal) (sym swept.here.half_is ∙ over.half)
          (subst (λ j. PurgesGo s.modules empty_state None j (half_before (length log.journal) log.journal)) whole (purges_before s log (length log.journal) swept.here.meet));
    }
    clauses_at_end clauses.SpawnBeforeTurns is = shaped.spawns
    clauses_at_end clauses.TurnsFollow is = turns_at_end
    clauses_at_end clauses.ReleasedUnnamed is = λ place serial number e process at cmd known. (swept.here.meet place e (slice_get_within log.journal place e at) at).released serial number process cmd known
    clauses_at_end clauses.LingersTold is = λ place serial e name linger at cmd old. swept.linger (is refl) place e (slice_get_within log.journal place e at) at serial name linger cmd old
    clauses_at_end clauses.PurgedUnnamed is = record {
      unnamed = λ place serial number e process at drops known. (swept.here.meet place e (slice_get_within log.journal place e at) at).unnamed serial number process drops known;
      told = λ place serial e name killed at cmd old. (swept.here.meet place e (slice_get_within log.journal place e at) at).told serial name killed cmd old;
    }
    clauses_at_end clauses.SnapshotsTrue is = record { counts = shaped.fit.counts; exports = exports_true; rising = shaped.fit.rising }
    clauses_at_end clauses.NothingRetired is = ap (λ x. x.retired) (sym newest_is) ∙ over.retired
    clauses_at_end clauses.Complete is = shaped.complete

-- at the end of the journal
pub swept_over : (s : Script) (log : RunLog) (watched : Bool) (place end : ℕ) (sweep : Sweep) → IsSwept s log watched place sweep → end ≡ length log.journal → end ≤ place → IsSwept s log watched (length log.journal) sweep
swept_over s log watched place end sweep swept is over =
    let same : place ≡ length log.journal = omega (arith, is, over, swept.here.within) in
    subst (λ n. IsSwept s log watched n sweep) same swept
