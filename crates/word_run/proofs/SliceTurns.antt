-- The turns of a scheduler's processes over its calls.
use Rattle.std.proofs.Common.{◌≡◌, ℕ, ◌+◌, Bool, true, false, List, [], length, Option, Some, IfOk, OnOk, Result, Ok, Err, refl, sym, ap, subst, ◌∙◌}
use Rattle.std.proofs.lemmas.List.{append-nil, with_items_is}
use Rattle.std.proofs.lemmas.Option.{same_Some}
use Rattle.std.specs.Prelude.{Vec}
use Rattle.std.specs.Vec.{with_items}
use Rattle.std.specs.declared.alloc.Global.{Global}
use Rattle.atomic_table.specs.Seated.{TableId}
use Rattle.term_core.specs.declared.atom.Mfa.{Mfa}
use Rattle.term_core.specs.declared.no_memory.NoMemory.{NoMemory}
use Rattle.shared_words.specs.declared.opening.Opening.{Opening}
use Rattle.shared_words.specs.declared.seats.Member as tokens
use Rattle.shared_words.specs.declared.view.MemberView.{MemberView}
use Rattle.shared_words.specs.Processes.{note_in}
use Rattle.progress_words.specs.Reports.{HoldsReported}
use Rattle.anchors.specs.Holds.{view_of}
use Rattle.code_law.specs.Served.{IsServed}
use Rattle.inbox.specs.Ends.{Taking}
use Rattle.run_law.specs.Newcomers.{SpawnedProcess}
use Rattle.word_lap.specs.declared.process_run.ProcessRun.{ProcessRun}
use Rattle.word_lap.specs.LapTurns.{HaveGoneOn, HoldsAsBefore}
use Rattle.word_lap.specs.Laps.{HasTried}
use Rattle.word_lap.specs.Laws.{ReportsKeepProcesses}
use Rattle.word_lap.specs.RowTurns.{HadLaps}
use Rattle.word_lap.specs.Schedulers.{IsBetweenTurns, IsToken}
use Rattle.word_lap.specs.Taking.{HaveCome, TurnsNone}
use Rattle.word_lap.specs.Waiting.{WaitsAfter}
use Rattle.word_lap.proofs.RowTurns.{HaveStood, kept_stood, laps_on, none_reported, no_laps, one_lap, reported_now, waiting_stood, went_tried}
use Rattle.word_lap.proofs.Welcomes.{come_reported}
use Rattle.word_run.specs.declared.scheduler.Scheduler.{Scheduler}
use Rattle.word_run.specs.Schedulers.{Keeps, KeepsBy}
use Rattle.word_run.specs.SliceTurns.{HadOneTurn, HadItsLaps, HasArrived}
use Rattle.word_run.proofs.Waiting.{goes_awake, goes_waiting, keeps_token}

pub ok_two : {X E : Type 0} (r : Result X E) (P Q : Type 0) → OnOk r P → OnOk r Q → OnOk r (P × Q)
ok_two (Ok x) P Q p q = (p, q)
ok_two (Err e) P Q p q = tt

-- what is known of processes by the token of their member, whether it waits or not
stood_by : (functions : List Mfa) (table : TableId) (opening : Opening) (number : ℕ) (waits : Bool) (generation : ℕ) (token : tokens.Member) (taken : List SpawnedProcess) (processes : List (Option ProcessRun))
    → KeepsBy functions table opening number waits generation token taken processes → HaveStood functions (view_of token) processes
stood_by functions table opening number true generation token taken processes h = waiting_stood functions h.seated.before (view_of token) processes h.seated.stands.waits (kept_stood functions opening h.seated.before taken processes h.kept)
stood_by functions table opening number false generation token taken processes h =
    subst (λ (m : MemberView). HaveStood functions m processes) h.seated.stands.1.1 (kept_stood functions opening h.seated.before taken processes h.kept)

module _ {T : Type 0} {I : Type 0} (functions : List Mfa) (table : TableId) (opening : Opening) where
  stood : (s : Scheduler T I) (token : tokens.Member) → s.member ≡ Some token → Keeps functions table opening s → HaveStood functions (view_of token) s.processes.items
  stood s token is h = stood_by functions table opening s.number s.waits s.generation token s.taker.taken s.processes.items (keeps_token functions table opening s s.waits token is refl h)

  -- ---- no turn

  module _ (s : Scheduler T I) where
    -- the member made a step that is none of a turn
    no_turns : (t : Scheduler T I) (old new : tokens.Member) → s.member ≡ Some old → t.member ≡ Some new → s.processes ≡ t.processes → TurnsNone (view_of old) (view_of new) → Keeps functions table opening s → Keeps functions table opening t → HadItsLaps functions 0 s t
    no_turns t old new was is same none before now = record {
      since = old;
      now = new;
      was = was;
      is = is;
      laps_are = subst (λ (ps : Vec (Option ProcessRun) Global). HadLaps functions 0 (view_of old) (view_of new) s.processes.items ps.items) same
          (no_laps functions (view_of old) (view_of new) s.processes.items (stood s old was before)
          (subst (λ (ps : Vec (Option ProcessRun) Global). HaveStood functions (view_of new) ps.items) (sym same) (stood t new is now)) none);
    }

    pub turns_same : Keeps functions table opening s → HadItsLaps functions 0 s s
    turns_same h = no_turns s h.token h.token h.there h.there refl (record { slots = refl; learnt = ([], sym (append-nil (view_of h.token).seen)); notes = λ p published at. at; number = refl }) h h

    pub turns_awake : (old new : tokens.Member) (generation : ℕ) → ReportsKeepProcesses → s.member ≡ Some old → s.waits ≡ true → IsToken table new → new.number ≡ old.number → IsBetweenTurns (view_of new)
        → ((before : MemberView) → WaitsAfter table before old → HoldsReported (IsServed functions) before (view_of new) generation)
        → Keeps functions table opening s → HadItsLaps functions 0 s (record s { member = Some new; waits = false; generation = generation })
    turns_awake old new generation law is state token same between reported h =
        let seated = (keeps_token functions table opening s true old is state h).seated in
        no_turns (record s { member = Some new; waits = false; generation = generation }) old new is refl refl
        (none_reported (IsServed functions) seated.before (view_of old) (view_of new) generation seated.stands.waits (reported seated.before seated.stands)) h
        (goes_awake functions table opening s old new generation law is state token same between reported h)

    pub turns_waiting : (old new : tokens.Member) → s.member ≡ Some old → s.waits ≡ false → new.number ≡ old.number → WaitsAfter table (view_of old) new
        → Keeps functions table opening s → HadItsLaps functions 0 s (record s { member = Some new; waits = true })
    turns_waiting old new is state same waits h =
        no_turns (record s { member = Some new; waits = true }) old new is refl refl
        (record {
          slots = ap (λ (m : MemberView). m.slots) waits.waits;
          learnt = ([], ap (λ (m : MemberView). m.seen) waits.waits ∙ sym (append-nil (view_of old).seen));
          notes = λ p published at. ap (λ (m : MemberView). note_in m.notes p) waits.waits ∙ at;
          number = ap (λ (m : MemberView). m.member.number) waits.waits;
        }) h
        (goes_waiting functions table opening s old new is state same waits h)

  -- ---- a lap

  -- what arrived had its turn with the others
  pub lap_turns : (s t u : Scheduler T I) (over : Bool) → Keeps functions table opening s → Keeps functions table opening t → Keeps functions table opening u → HasArrived functions s t → HadOneTurn functions (record t { over = over }) u → HadItsLaps functions 1 s u
  lap_turns s t u over before between now a h =
      let same : a.now ≡ h.since = same_Some a.now h.since (sym a.is ∙ h.was) in
      record {
        since = a.since;
        now = h.now;
        was = a.was;
        is = h.is;
        laps_are = one_lap functions (view_of a.since) (view_of a.now) (view_of h.now) s.processes.items t.processes.items u.processes.items (stood s a.since a.was before) (stood t a.now a.is between) (stood u h.now h.is now)
            a.come a.reported (subst (λ (x : tokens.Member). HoldsAsBefore (view_of x) (view_of h.now)) (sym same) h.same)
            (subst (λ (x : tokens.Member). HaveGoneOn functions (view_of x) (view_of h.now) t.processes.items u.processes.items) (sym same) h.went)
            (now.by.kept.all ∙ sym before.by.kept.all);
      }

module _ {T : Type 0} {I : Type 0} (functions : List Mfa) where
  -- so many laps, and so many more
  pub turns_on : (n k : ℕ) (s t u : Scheduler T I) → HadItsLaps functions n s t → HadItsLaps functions k t u → HadItsLaps functions (n + k) s u
  turns_on n k s t u one two =
      let same : two.since ≡ one.now = same_Some two.since one.now (sym two.was ∙ one.is) in
      record {
        since = one.since;
        now = two.now;
        was = one.was;
        is = two.is;
        laps_are = laps_on functions n k (view_of one.since) (view_of one.now) (view_of two.now) s.processes.items t.processes.items u.processes.items one.laps_are
            (subst (λ (x : tokens.Member). HadLaps functions k (view_of x) (view_of two.now) t.processes.items u.processes.items) same two.laps_are);
      }

  module _ (s : Scheduler T I) (member : tokens.Member) (is : s.member ≡ Some member) where
    -- the places were lent, and stand as they are given back
    pub arrives_none : (mid new : tokens.Member) (generation : ℕ) (taker : Taking SpawnedProcess) (lent processes : List (Option ProcessRun)) (emptied : Bool) → lent ≡ s.processes.items → length processes ≡ length s.processes.items
        → HaveCome (view_of member) (view_of mid) lent processes → HoldsReported (IsServed functions) (view_of mid) (view_of new) generation
        → HasArrived functions s (record s { member = Some new; generation = generation; taker = taker; emptied = emptied; processes = with_items s.processes processes })
    arrives_none mid new generation taker lent processes emptied lent_is long came reported = record {
      since = member;
      now = new;
      was = is;
      is = refl;
      come = subst (HaveCome (view_of member) (view_of new) s.processes.items) (sym (with_items_is s.processes processes (long ∙ sym s.processes.ok.0)))
          (subst (λ (xs : List (Option ProcessRun)). HaveCome (view_of member) (view_of new) xs processes) lent_is (come_reported (IsServed functions) (view_of member) (view_of mid) (view_of new) generation lent processes came reported));
      reported = reported_now functions (view_of member) (view_of mid) (view_of new) generation came.none reported;
    }

    -- each had one turn, and the member tried to lead
    pub turned_once : (exports : List Mfa) → exports ≡ functions → (r : Result (Unit {0}) NoMemory) (x : Unit {0}) (mid new : tokens.Member) (processes : Vec (Option ProcessRun) Global) → r ≡ Ok x
        → IfOk r (λ _. HoldsAsBefore (view_of member) (view_of mid)) → IfOk r (λ _. HaveGoneOn exports (view_of member) (view_of mid) s.processes.items processes.items) → HasTried (view_of mid) (view_of new)
        → HadOneTurn functions s (record s { member = Some new; processes = processes })
    turned_once exports exports_are r x mid new processes ok same went tried =
        let held : HoldsAsBefore (view_of member) (view_of mid) = subst (λ (a : Result (Unit {0}) NoMemory). IfOk a (λ _. HoldsAsBefore (view_of member) (view_of mid))) ok same in
        let gone : HaveGoneOn exports (view_of member) (view_of mid) s.processes.items processes.items = subst (λ (a : Result (Unit {0}) NoMemory). IfOk a (λ _. HaveGoneOn exports (view_of member) (view_of mid) s.processes.items processes.items)) ok went in
        record {
          since = member;
          now = new;
          was = is;
          is = refl;
          same = record { seen = tried.seen ∙ held.seen; notes = tried.notes ∙ held.notes; number = tried.number ∙ held.number; generation = tried.generation ∙ held.generation };
          went = went_tried functions (view_of member) (view_of mid) (view_of new) s.processes.items processes.items tried
              (subst (λ (fs : List Mfa). HaveGoneOn fs (view_of member) (view_of mid) s.processes.items processes.items) exports_are gone);
        }
