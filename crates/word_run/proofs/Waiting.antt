-- What a wait between two slices keeps.
use Rattle.std.proofs.Common.{◌≡◌, ℕ, ◌+◌, Bool, true, false, List, length, Option, Some, refl, sym, ap, subst, ◌∙◌, arith}
use Rattle.std.proofs.lemmas.Option.{same_Some}
use Rattle.atomic_table.specs.Seated.{TableId}
use Rattle.term_core.specs.declared.atom.Mfa.{Mfa}
use Rattle.shared_words.specs.declared.opening.Opening.{Opening}
use Rattle.shared_words.specs.declared.seats.Member as tokens
use Rattle.shared_words.specs.declared.view.MemberView.{MemberView}
use Rattle.shared_words.specs.Views.{newest_number}
use Rattle.progress_words.specs.Reports.{HoldsReported}
use Rattle.anchors.specs.Holds.{view_of}
use Rattle.code_law.specs.Served.{IsServed}
use Rattle.run_law.specs.Newcomers.{SpawnedProcess}
use Rattle.word_lap.specs.declared.process_run.ProcessRun.{ProcessRun}
use Rattle.word_lap.specs.Laws.{ReportsKeepProcesses}
use Rattle.word_lap.specs.Schedulers.{IsBetweenTurns, IsToken, KeepsProcesses}
use Rattle.word_lap.specs.Waiting.{WaitsAfter}
use Rattle.word_run.specs.declared.scheduler.Scheduler.{Scheduler}
use Rattle.word_run.specs.Schedulers.{Keeps, KeepsBy}

-- what is learnt of by a report
pub report_seen : (functions : List Mfa) (old new : MemberView) (generation : ℕ) → HoldsReported (IsServed functions) old new generation → (new.member.generation ≡ generation) × (length new.seen ≡ generation + 1)
report_seen functions old new generation r =
    let held : new.member.generation ≡ newest_number new.seen = ap (λ (m : MemberView). m.member.generation) r.view in
    (held ∙ sym r.newest, omega (arith, r.newest, r.some))

module _ (functions : List Mfa) (table : TableId) (opening : Opening) (number : ℕ) where
  -- the member wakes
  pub kept_awake : (held generation : ℕ) (old new : tokens.Member) (taken : List SpawnedProcess) (processes : List (Option ProcessRun))
      → ReportsKeepProcesses → IsToken table new → new.number ≡ old.number → IsBetweenTurns (view_of new)
      → ((before : MemberView) → WaitsAfter table before old → HoldsReported (IsServed functions) before (view_of new) generation)
      → KeepsBy functions table opening number true held old taken processes → KeepsBy functions table opening number false generation new taken processes
  kept_awake held generation old new taken processes law token same between reported h =
      let seated = h.seated in
      let r = reported seated.before seated.stands in
      let seen = report_seen functions seated.before (view_of new) generation r in
      record {
        seated = record { own = same ∙ seated.own; before = view_of new; stands = (token, (between, refl)); held = seen.0; learnt = seen.1 };
        kept = law functions opening seated.before (view_of new) generation taken processes (omega (arith, seated.held, seated.learnt)) between.awake r h.kept;
      }

  -- the member begins to wait
  pub kept_waiting : (held : ℕ) (old new : tokens.Member) (taken : List SpawnedProcess) (processes : List (Option ProcessRun))
      → new.number ≡ old.number → WaitsAfter table (view_of old) new → KeepsBy functions table opening number false held old taken processes → KeepsBy functions table opening number true held new taken processes
  kept_waiting held old new taken processes same waits h =
      let seated = h.seated in
      let is : seated.before ≡ view_of old = seated.stands.1.1 in
      record {
        seated = record { own = same ∙ seated.own; before = view_of old; stands = waits; held = ap (λ (m : MemberView). m.member.generation) (sym is) ∙ seated.held; learnt = ap (λ (m : MemberView). length m.seen) (sym is) ∙ seated.learnt };
        kept = subst (λ (m : MemberView). KeepsProcesses functions opening m taken processes) is h.kept;
      }

-- ---- a scheduler

module _ {T : Type 0} {I : Type 0} (functions : List Mfa) (table : TableId) (opening : Opening) (s : Scheduler T I) where
  -- with the token that was taken out
  pub keeps_token : (waits : Bool) (member : tokens.Member) → s.member ≡ Some member → s.waits ≡ waits → Keeps functions table opening s
      → KeepsBy functions table opening s.number waits s.generation member s.taker.taken s.processes.items
  keeps_token waits member is state h =
      subst (λ (t : tokens.Member). KeepsBy functions table opening s.number waits s.generation t s.taker.taken s.processes.items) (same_Some h.token member (sym h.there ∙ is))
      (subst (λ (b : Bool). KeepsBy functions table opening s.number b s.generation h.token s.taker.taken s.processes.items) state h.by)

  pub goes_waiting : (old new : tokens.Member) → s.member ≡ Some old → s.waits ≡ false → new.number ≡ old.number → WaitsAfter table (view_of old) new
      → Keeps functions table opening s → Keeps functions table opening (record s { member = Some new; waits = true })
  goes_waiting old new is state same waits h = record {
    inbox = h.inbox;
    token = new;
    there = refl;
    by = kept_waiting functions table opening s.number s.generation old new s.taker.taken s.processes.items same waits (keeps_token false old is state h);
  }

  pub goes_awake : (old new : tokens.Member) (generation : ℕ) → ReportsKeepProcesses → s.member ≡ Some old → s.waits ≡ true → IsToken table new → new.number ≡ old.number → IsBetweenTurns (view_of new)
      → ((before : MemberView) → WaitsAfter table before old → HoldsReported (IsServed functions) before (view_of new) generation)
      → Keeps functions table opening s → Keeps functions table opening (record s { member = Some new; waits = false; generation = generation })
  goes_awake old new generation law is state token same between reported h = record {
    inbox = h.inbox;
    token = new;
    there = refl;
    by = kept_awake functions table opening s.number s.generation generation old new s.taker.taken s.processes.items law token same between reported (keeps_token true old is state h);
  }
