-- What a lap keeps of a scheduler.
use Rattle.std.proofs.Common.{◌≡◌, ℕ, ◌+◌, ◌<◌, Bool, false, List, length, get_or, Option, Some, IfOk, Result, Ok, refl, sym, ap, subst, ◌∙◌}
use Rattle.std.proofs.lemmas.Option.{slice_get-get_or}
use Rattle.std.proofs.lemmas.List.{with_items_is}
use Rattle.std.specs.Prelude.{Vec}
use Rattle.std.specs.Vec.{with_items}
use Rattle.std.specs.declared.alloc.Global.{Global}
use Rattle.atomic_table.specs.Seated.{TableId}
use Rattle.term_core.specs.declared.atom.Mfa.{Mfa}
use Rattle.term_core.specs.declared.no_memory.NoMemory.{NoMemory}
use Rattle.shared_words.specs.declared.opening.Opening.{Opening}
use Rattle.shared_words.specs.declared.seats.Member as tokens
use Rattle.shared_words.specs.declared.view.MemberView.{MemberView}
use Rattle.progress_words.specs.Reports.{HoldsReported}
use Rattle.anchors.specs.Holds.{view_of}
use Rattle.code_law.specs.Served.{IsServed}
use Rattle.inbox.specs.Ends.{Taking}
use Rattle.run_law.specs.Newcomers.{SpawnedProcess}
use Rattle.word_lap.specs.declared.process_run.ProcessRun.{ProcessRun}
use Rattle.word_lap.specs.LapTurns.{HadTurns, HoldsAsBefore}
use Rattle.word_lap.specs.Laps.{HasTried}
use Rattle.word_lap.specs.Laws.{AttemptsKeepProcesses, ReportsKeepProcesses}
use Rattle.word_lap.specs.Schedulers.{IsBetweenTurns, IsToken, KeepsProcesses}
use Rattle.word_lap.specs.Taking.{KeepsWhatCame}
use Rattle.word_run.specs.declared.scheduler.Scheduler.{Scheduler}
use Rattle.word_run.specs.Loaders.{AreInboxes}
use Rattle.word_run.specs.Schedulers.{Keeps, KeepsBy}
use Rattle.word_run.proofs.Waiting.{keeps_token, report_seen}

-- ---- the member in a lap, with what it keeps

-- an awake member with its processes, over its own view
pub record IsInLap (functions : List Mfa) (table : TableId) (opening : Opening) (number generation : ℕ) (token : tokens.Member) (taken : List SpawnedProcess) (processes : List (Option ProcessRun)) : Type 0 where
  pub token_is : IsToken table token
  pub between : IsBetweenTurns (view_of token)
  pub own : token.number ≡ number
  pub held : (view_of token).member.generation ≡ generation
  pub learnt : length (view_of token).seen ≡ generation + 1
  pub kept : KeepsProcesses functions opening (view_of token) taken processes

pub in_lap : (functions : List Mfa) (table : TableId) (opening : Opening) (number generation : ℕ) (token : tokens.Member) (taken : List SpawnedProcess) (processes : List (Option ProcessRun))
    → KeepsBy functions table opening number false generation token taken processes → IsInLap functions table opening number generation token taken processes
in_lap functions table opening number generation token taken processes h =
    let seated = h.seated in
    let is : seated.before ≡ view_of token = seated.stands.1.1 in
    record {
      token_is = seated.stands.0;
      between = seated.stands.1.0;
      own = seated.own;
      held = ap (λ (m : MemberView). m.member.generation) (sym is) ∙ seated.held;
      learnt = ap (λ (m : MemberView). length m.seen) (sym is) ∙ seated.learnt;
      kept = subst (λ (m : MemberView). KeepsProcesses functions opening m taken processes) is h.kept;
    }

pub of_lap : (functions : List Mfa) (table : TableId) (opening : Opening) (number generation : ℕ) (token : tokens.Member) (taken : List SpawnedProcess) (processes : List (Option ProcessRun))
    → IsInLap functions table opening number generation token taken processes → KeepsBy functions table opening number false generation token taken processes
of_lap functions table opening number generation token taken processes h = record {
  seated = record { own = h.own; before = view_of token; stands = (h.token_is, (h.between, refl)); held = h.held; learnt = h.learnt };
  kept = h.kept;
}

module _ {T : Type 0} {I : Type 0} (functions : List Mfa) (table : TableId) (opening : Opening) (s : Scheduler T I) (member : tokens.Member) (is : s.member ≡ Some member) (awake : s.waits ≡ false) where
  -- what is known of the member that was taken out
  pub lap_of : Keeps functions table opening s → IsInLap functions table opening s.number s.generation member s.taker.taken s.processes.items
  lap_of h = in_lap functions table opening s.number s.generation member s.taker.taken s.processes.items (keeps_token functions table opening s false member is awake h)

  -- ---- arrivals

  -- the inbox was taken, and the member reported
  pub arrived : (mid new : tokens.Member) (generation : ℕ) (taken : List SpawnedProcess) (processes : List (Option ProcessRun)) → ReportsKeepProcesses
      → IsToken table mid → mid.number ≡ member.number → KeepsWhatCame functions opening (view_of member) (view_of mid) s.taker.taken taken s.processes.items processes
      → IsToken table new → new.number ≡ mid.number → IsBetweenTurns (view_of new) → HoldsReported (IsServed functions) (view_of mid) (view_of new) generation
      → Keeps functions table opening s → KeepsBy functions table opening s.number false generation new taken processes
  arrived mid new generation taken processes law token same came token' same' between r h =
      let lap = lap_of h in
      let seen = report_seen functions (view_of mid) (view_of new) generation r in
      of_lap functions table opening s.number generation new taken processes (record {
        token_is = token';
        between = between;
        own = same' ∙ same ∙ lap.own;
        held = seen.0;
        learnt = seen.1;
        kept = law functions opening (view_of mid) (view_of new) generation taken processes token.rooted.learnt between.awake r (came lap.kept);
      })

  -- the places were lent, and stand as they are given back
  pub arrives : (mid new : tokens.Member) (generation : ℕ) (taker : Taking SpawnedProcess) (lent processes : List (Option ProcessRun)) → ReportsKeepProcesses → taker.number ≡ s.number
      → lent ≡ s.processes.items → length processes ≡ length s.processes.items
      → IsToken table mid → mid.number ≡ member.number → KeepsWhatCame functions opening (view_of member) (view_of mid) s.taker.taken taker.taken lent processes
      → IsToken table new → new.number ≡ mid.number → IsBetweenTurns (view_of new) → HoldsReported (IsServed functions) (view_of mid) (view_of new) generation
      → (emptied : Bool) → Keeps functions table opening s → Keeps functions table opening (record s { member = Some new; generation = generation; taker = taker; emptied = emptied; processes = with_items s.processes processes })
  arrives mid new generation taker lent processes law inbox lent_is long token same came token' same' between r emptied h = record {
    inbox = inbox;
    token = new;
    there = refl;
    by = subst (KeepsBy functions table opening s.number s.waits generation new taker.taken) (sym (with_items_is s.processes processes (long ∙ sym s.processes.ok.0)))
        (subst (λ (b : Bool). KeepsBy functions table opening s.number b generation new taker.taken processes) (sym awake)
        (arrived mid new generation taker.taken processes law token same (subst (λ xs. KeepsWhatCame functions opening (view_of member) (view_of mid) s.taker.taken taker.taken xs processes) lent_is came) token' same' between r h));
  }

  -- ---- turns

  -- each process had its turn, and the member tried to lead: it has learnt of the same generations
  pub turned : (mid new : tokens.Member) (processes : List (Option ProcessRun)) → AttemptsKeepProcesses
      → mid.number ≡ member.number → (view_of mid).seen ≡ (view_of member).seen → (view_of mid).member.generation ≡ (view_of member).member.generation
      → HadTurns functions opening (view_of member) (view_of mid) s.processes.items processes
      → IsToken table new → new.number ≡ mid.number → IsBetweenTurns (view_of new) → HasTried (view_of mid) (view_of new)
      → Keeps functions table opening s → KeepsBy functions table opening s.number false s.generation new s.taker.taken processes
  turned mid new processes law same seen held had token same' between tried h =
      let lap = lap_of h in
      of_lap functions table opening s.number s.generation new s.taker.taken processes (record {
        token_is = token;
        between = between;
        own = same' ∙ same ∙ lap.own;
        held = tried.generation ∙ held ∙ lap.held;
        learnt = ap length (tried.seen ∙ seen) ∙ lap.learnt;
        kept = law functions opening (view_of mid) (view_of new) s.taker.taken processes tried (had s.taker.taken lap.kept);
      })

-- what an answer says that is not want of memory
ok_says : {X : Type 0} (P : Type 0) (r : Result X NoMemory) (x : X) → r ≡ Ok x → IfOk r (λ y. P) → P
ok_says P r x is h = subst (λ (o : Result _ NoMemory). IfOk o (λ y. P)) is h

module _ {T : Type 0} {I : Type 0} (functions : List Mfa) (table : TableId) (opening : Opening) (s : Scheduler T I) (member : tokens.Member) (is : s.member ≡ Some member) (awake : s.waits ≡ false) (exports : List Mfa) (exports_are : exports ≡ functions) where
  -- the turns had no want of memory, and the member tried to lead
  pub keeps_turned : {X : Type 0} (r : Result X NoMemory) (x : X) (mid new : tokens.Member) (processes : Vec (Option ProcessRun) Global) → r ≡ Ok x → AttemptsKeepProcesses
      → IfOk r (λ y. mid.number ≡ member.number) → IfOk r (λ y. HoldsAsBefore (view_of member) (view_of mid)) → IfOk r (λ y. HadTurns exports opening (view_of member) (view_of mid) s.processes.items processes.items)
      → IsToken table new → new.number ≡ mid.number → IsBetweenTurns (view_of new) → HasTried (view_of mid) (view_of new)
      → Keeps functions table opening s → Keeps functions table opening (record s { member = Some new; processes = processes })
  keeps_turned r x mid new processes ok law number holds had token own between tried h =
      let held = ok_says _ r x ok holds in
      let turns = subst (λ (fs : List Mfa). HadTurns fs opening (view_of member) (view_of mid) s.processes.items processes.items) exports_are (ok_says _ r x ok had) in
      record {
        inbox = h.inbox;
        token = new;
        there = refl;
        by = subst (λ (b : Bool). KeepsBy functions table opening s.number b s.generation new s.taker.taken processes.items) (sym awake)
            (turned functions table opening s member is awake mid new processes.items law (ok_says _ r x ok number) held.seen held.generation turns token own between tried h);
      }

-- the inbox at a place has its number
pub inbox_there : (inboxes : List ℕ) (home x : ℕ) → AreInboxes inboxes → home < length inboxes → x ≡ get_or inboxes home x → x ≡ home
inbox_there inboxes home x are within is = are home x (slice_get-get_or inboxes home x within ∙ ap Some (sym is))
