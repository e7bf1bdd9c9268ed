-- A run that has nothing left to do, once its table is closed: what the laws on the end of a run ask of it.
use Rattle.std.proofs.Common.{◌≡◌, ℕ, zero, suc, ◌<◌, ◌≤◌, ◌%◌, Bool, true, false, List, [], ◌∷◌, length, Option, None, Some, IsSome, slice_get, refl, sym, ap, subst, ◌∙◌, arith}
use Rattle.std.specs.Prelude.{Vec}
use Rattle.std.specs.declared.alloc.Global.{Global}
use Rattle.std.proofs.lemmas.List.{take_all}
use Rattle.std.proofs.lemmas.Nat.{mod_below}
use Rattle.std.proofs.lemmas.Option.{none-some, same_Some, slice_get_within}
use Rattle.atomic_table.specs.Seated.{TableId}
use Rattle.term_core.specs.declared.atom.Mfa.{Mfa}
use Rattle.area_core.specs.declared.map.TheConstants.{PROCESSES}
use Rattle.area_core.specs.declared.table.Published.{Published}
use Rattle.area_core.specs.Blocks.{Among}
use Rattle.anchors.specs.Holds.{view_of}
use Rattle.shared_words.specs.declared.opening.Opening.{Opening}
use Rattle.shared_words.specs.declared.seats.Member as tokens
use Rattle.shared_words.specs.declared.view.MemberView.{MemberView}
use Rattle.shared_words.specs.declared.view.WriterView.{WriterView}
use Rattle.shared_words.specs.Closing.{AreAllMembers, HasAllMembers, HaveMarks}
use Rattle.shared_words.specs.Processes.{AreAtRest}
use Rattle.shared_words.specs.Rule.{IsBeginning}
use Rattle.shared_words.specs.Seats.{IsMemberSeat}
use Rattle.progress_words.specs.Tokens.{written_by}
use Rattle.server_core.specs.ServerState.{ServerState, empty_state}
use Rattle.machine_core.specs.declared.process.End.{End}
use Rattle.script_core.specs.declared.script.Script.{Script}
use Rattle.script_core.specs.declared.script.ScriptCmd.TheVariants as script
use Rattle.script_core.specs.Processes.{SpawnLine, spawns_of}
use Rattle.script_core.proofs.SpawnLines.{all_counted}
use Rattle.run_log.specs.declared.logs.Entry.{Entry}
use Rattle.run_log.specs.declared.logs.ProcessLog.{ProcessLog}
use Rattle.run_log.specs.declared.logs.RunLog.{RunLog}
use Rattle.run_log.specs.declared.logs.Snapshot.{Snapshot}
use Rattle.run_log.specs.Legal.{LoadersInOrder, PurgesGo, commands_in, commands_of}
use Rattle.run_log.proofs.ListPlaces.{get_within}
use Rattle.run_law.specs.Answers.{AreAnswersKept}
use Rattle.run_law.specs.Ended.{AreBeginnings, HasNotRun, HasRun, HaveCome, HaveRun, IsMemberOf}
use Rattle.run_law.specs.Ends.{HasItsRest, IsHistory, IsOver}
use Rattle.run_law.specs.Laws.{AreLearnt, JournalsAreSaid, RunsAreHistories, TablesTell}
use Rattle.run_law.specs.Newcomers.{IsTaken, SpawnedProcess, spawn_for}
use Rattle.run_law.specs.Observing.{HaveWatched}
use Rattle.run_law.specs.Published.{ArePublished, IsJournal}
use Rattle.inbox.specs.Ends.{Taking}
use Rattle.write_permit.specs.declared.holder.Holder.{Holder}
use Rattle.write_permit.specs.declared.holder.Holder.TheVariants.{Free, Held, Purging, Tracing}
use Rattle.write_permit.specs.Book.{HoldsJust, IsPermit, shown}
use Rattle.write_permit.specs.Permit.{PermitState, done_of, half_of, next_of}
use Rattle.write_permit.proofs.Entered.{log_over}
use Rattle.word_permit.specs.Books.{HasItsTables}
use Rattle.word_lap.specs.declared.process_run.ProcessRun.{ProcessRun}
use Rattle.word_lap.specs.Laws.{HaveAllEnded, KnowsTheSame, OthersHaveNotRun, TakenHaveRun, log_of_run}
use Rattle.word_run.specs.declared.seat.Seat.{Seat}
use Rattle.word_run.specs.declared.sight.Sight.{Sight}
use Rattle.word_run.specs.Desks.{DeskState, IsDesk, WasSpawned}
use Rattle.word_run.specs.Finished.{AreLogged, AreParted, AreSettled}
use Rattle.word_run.specs.Rounds.{AreAllIdle, IsDone, IsRun, NoneGoOn}
use Rattle.word_run.specs.Schedulers.{Keeps, StandsBy}

-- ---- the journal

none_past : {X : Type 0} (xs : List X) (k : ℕ) → slice_get xs k ≡ None → length xs ≤ k
none_past [] k h = omega arith
none_past (x ∷ xs) zero h = absurd (none-some x (sym h))
none_past (x ∷ xs) (suc k) h = let r = none_past xs k h in omega (arith, r)

no_half : (p : PermitState) (h : Holder) → HoldsJust p h → ((who : ℕ) → next_of p who ≡ None) → half_of h ≡ None
no_half p Free holds none = refl
no_half p (Held by) holds none = refl
no_half p (Purging by name) holds none = absurd (none-some (script.Purge name) (sym (none by) ∙ holds.next))
no_half p (Tracing by generation) holds none = refl

module _ (p : PermitState) (permit : IsPermit p) (none : (who : ℕ) → next_of p who ≡ None) where
  -- the entries of each loader are all its commands
  pub in_order : (loader : ℕ) → commands_in loader p.journal ≡ commands_of p.script loader
  in_order loader =
      let log = log_over p permit none in
      log.in_order loader ∙ take_all (done_of p.loaders loader) (commands_of p.script loader) (none_past (commands_of p.script loader) (done_of p.loaders loader) (none loader))

  -- and no purge waits
  pub loaders_done : LoadersInOrder p.script p.journal
  loaders_done = record {
    commands = in_order;
    purges = subst (PurgesGo p.script.modules empty_state None p.journal) (no_half p p.holder permit.holds none) permit.purges;
  }

-- ---- the token of a scheduler's member

module _ (table : TableId) (number : ℕ) (generation : ℕ) (token : tokens.Member) where
  seat_of_token : (waits : Bool) (before : MemberView) → StandsBy waits table before token → IsMemberSeat table token.number token.seat
  seat_of_token true before stands = stands.seat
  seat_of_token false before stands = stands.0.seat

  rest_of_token : (waits : Bool) (before : MemberView) → StandsBy waits table before token → AreAtRest (view_of token)
  rest_of_token true before stands = subst AreAtRest (sym stands.waits) stands.between.rest
  rest_of_token false before stands = stands.1.0.rest

  same_of_token : (waits : Bool) (before : MemberView) → StandsBy waits table before token → KnowsTheSame before (view_of token)
  same_of_token true before stands = record {
    seen = ap (λ (m : MemberView). m.seen) stands.waits;
    notes = ap (λ (m : MemberView). m.notes) stands.waits;
    slots = ap (λ (m : MemberView). m.slots) stands.waits;
  }
  same_of_token false before stands = record {
    seen = ap (λ (m : MemberView). m.seen) (sym stands.1.1);
    notes = ap (λ (m : MemberView). m.notes) (sym stands.1.1);
    slots = ap (λ (m : MemberView). m.slots) (sym stands.1.1);
  }

  number_of_token : (waits : Bool) (before : MemberView) → StandsBy waits table before token → before.member.number ≡ (view_of token).member.number
  number_of_token true before stands = ap (λ (m : MemberView). m.member.number) (sym stands.waits)
  number_of_token false before stands = ap (λ (m : MemberView). m.member.number) stands.1.1

-- ---- processes that have ended

some_fin : (fin : Option End) → (fin ≡ None → ⊥) → IsSome fin
some_fin None h = absurd (h refl)
some_fin (Some end) h = refl

all_ended : (processes : List (Option ProcessRun)) → NoneGoOn processes → HaveAllEnded processes
all_ended processes none p run at = some_fin run.fin (none p (Some run) at)

same_run : (place : Option (Option ProcessRun)) (found stood : ProcessRun) → place ≡ Some (Some found) → place ≡ Some (Some stood) → found ≡ stood
same_run place found stood found_at stood_at = same_Some found stood (same_Some (Some found) (Some stood) (sym found_at ∙ stood_at))

-- the process that stands at the place of its number has run as its log tells
stood_ran : (names : List Mfa) (journal : List Entry) (known shown : MemberView) (number : ℕ) (line : SpawnLine) (process : ProcessLog) (processes : List (Option ProcessRun)) (stood : ProcessRun)
    → slice_get processes number ≡ Some (Some stood) → process ≡ log_of_run stood → known ≡ shown
    → (run : ProcessRun) × ((slice_get processes number ≡ Some (Some run)) × HasRun names journal known number line (log_of_run run))
    → HasRun names journal shown number line process
stood_ran names journal known shown number line process processes stood stands log same had =
    subst (λ (v : MemberView). HasRun names journal v number line process) same
    (subst (HasRun names journal known number line) (ap log_of_run (same_run (slice_get processes number) had.0 stood had.1.0 stands) ∙ sym log) had.1.1)

-- ---- a run

module _ {T I : Type 0} (names : List Mfa) (table : TableId) (opening : Opening) (d : DeskState) (inboxes : List ℕ) (seats : List (Seat T I)) (sight : Sight)
    (run : IsRun names d.book.plain.script table opening d inboxes seats sight) (members : List tokens.Member) (takers : List (Taking SpawnedProcess)) (places : List (Vec (Option ProcessRun) Global)) (parted : AreParted seats members takers places) where
  abbrev p : PermitState
  p = shown d.book.plain

  abbrev s : Script
  s = d.book.plain.script

  -- a scheduler by its number
  record HasSeat (k : ℕ) : Type 0 where
    seat : Seat T I
    at : slice_get seats k ≡ Some seat
    number : seat.scheduler.number ≡ k
    keeps : Keeps names table opening seat.scheduler
    member_at : slice_get members k ≡ Some keeps.token
    taker_at : slice_get takers k ≡ Some seat.scheduler.taker
    place_at : slice_get places k ≡ Some seat.scheduler.processes

  seat_by : (k : ℕ) → k < length seats → HasSeat k
  seat_by k low =
      let there = get_within seats k low in
      let kept = run.kept k there.0 there.1 in
      let parts = parted.each k there.0 there.1 in
      record {
        seat = there.0;
        at = there.1;
        number = kept.0;
        keeps = kept.1;
        member_at = parts.member_is ∙ kept.1.there;
        taker_at = parts.taker_is;
        place_at = parts.place_is;
      }

  member_seat : (k : ℕ) (x : HasSeat k) → IsMemberSeat table k x.keeps.token.seat
  member_seat k x =
      let by = x.keeps.by.seated in
      subst (λ (n : ℕ). IsMemberSeat table n x.keeps.token.seat) (by.own ∙ x.number) (seat_of_token table x.seat.scheduler.number x.seat.scheduler.generation x.keeps.token x.seat.scheduler.waits by.before by.stands)

  -- the tokens are those of all members
  pub all_members : AreAllMembers table opening.members members
  all_members = record {
    all = omega (arith, parted.members_are, run.members);
    each = λ k token at.
        let x = seat_by k (omega (arith, slice_get_within members k token at, parted.members_are)) in
        subst (λ (t : tokens.Member). IsMemberSeat table k t.seat) (same_Some x.keeps.token token (sym x.member_at ∙ at)) (member_seat k x);
  }

  pub places_some : 0 < length places
  places_some = omega (arith, parted.places_are, run.some)

  module _ (desk : IsDesk d) (settled : AreSettled d.posted takers) where
    -- what was taken was spawned
    taken_spawned : (k : ℕ) (x : HasSeat k) (spawn : SpawnedProcess) → Among x.seat.scheduler.taker.taken spawn → WasSpawned p spawn
    taken_spawned k x spawn among =
        let low = slice_get_within seats k x.seat x.at in
        let end = get_within d.posted k (omega (arith, low, run.homes)) in
        let put : (end.0).put ≡ x.seat.scheduler.taker.taken = settled k end.0 x.seat.scheduler.taker end.1 x.taker_at in
        desk.posted.each k end.0 end.1 spawn (among.0, ap (λ (xs : List SpawnedProcess). slice_get xs among.0) put ∙ among.1)

    taken_one : (k : ℕ) (x : HasSeat k) (number : ℕ) (line : SpawnLine) → slice_get (spawns_of 0 s.loaders) number ≡ Some line → (spawn : SpawnedProcess) → Among x.seat.scheduler.taker.taken spawn → spawn.number ≡ number → spawn ≡ spawn_for p.journal number line
    taken_one k x number line at spawn among same =
        let from = taken_spawned k x spawn among in
        let lines : from.line ≡ line = same_Some from.line line (sym from.at ∙ ap (slice_get (spawns_of 0 s.loaders)) same ∙ at) in
        from.is ∙ ap (λ (n : ℕ). spawn_for p.journal n from.line) same ∙ ap (spawn_for p.journal number) lines

    -- the process of a line whose place has one was taken
    is_taken : (k : ℕ) (x : HasSeat k) (number : ℕ) (line : SpawnLine) (stood : ProcessRun) → slice_get (spawns_of 0 s.loaders) number ≡ Some line → slice_get x.seat.scheduler.processes.items number ≡ Some (Some stood)
        → IsTaken p.journal number line x.seat.scheduler.taker.taken
    is_taken k x number line stood at there =
        let held = x.keeps.by.kept.each number (Some stood) there in
        let same = taken_one k x number line at held.0 held.1.0 held.1.1.0 in
        record { among = (held.1.0.0, held.1.0.1 ∙ ap Some same); one = taken_one k x number line at }

    module _ (has : HasItsTables names table opening d.book) (done : IsDone d) (w : WriterView) (closed : HasAllMembers members (written_by d.book.tables.writer) w) (marked : HaveMarks members w) (seen : AreBeginnings members w)
        (said : JournalsAreSaid) (tell : TablesTell) where
      permit : IsPermit p
      permit = has.book.permit

      journal : IsJournal names s.modules p.journal
      journal = said names s p.journal permit.script has.texts permit.log.replays (in_order p permit done.commands)

      published_same : w.published ≡ (written_by d.book.tables.writer).published
      published_same = ap (λ (x : WriterView). x.published) closed.same

      published : ArePublished names s.modules p.journal w.published
      published = subst (ArePublished names s.modules p.journal) (sym published_same) has.published

      members_made : length (written_by d.book.tables.writer).members ≡ opening.members
      members_made = has.tables.token.made

      have_come : HaveCome w
      have_come =
          tell table members (written_by d.book.tables.writer) w (omega (arith, members_made, run.members, run.some))
          (subst (λ (n : ℕ). AreAllMembers table n members) (sym members_made) all_members) closed marked seen

      many_members : length w.members ≡ length seats
      many_members = omega (arith, closed.long, members_made, run.members)

      shown_member : (k : ℕ) (x : HasSeat k) (m : MemberView) → slice_get w.members k ≡ Some m → view_of x.keeps.token ≡ m
      shown_member k x m at = same_Some (view_of x.keeps.token) m (sym (closed.each k x.keeps.token x.member_at) ∙ at)

      learnt : (k : ℕ) (x : HasSeat k) → AreLearnt names s.modules p.journal x.keeps.by.seated.before.seen
      learnt k x =
          let by = x.keeps.by.seated in
          let same = same_of_token table x.seat.scheduler.number x.seat.scheduler.generation x.keeps.token x.seat.scheduler.waits by.before by.stands in
          let begins : IsBeginning by.before.seen w.published = subst (λ (xs : List Published). IsBeginning xs w.published) same.seen (seen k x.keeps.token x.member_at) in
          record {
            replayed = journal;
            published = w.published;
            beginning = begins;
            are = published;
          }

      module _ (taken : TakenHaveRun) (others : OthersHaveNotRun) (idle : AreAllIdle seats) (logs : List ProcessLog) (logged : AreLogged places (length (spawns_of 0 s.loaders)) logs) where
        few_logs : length logs ≤ PROCESSES
        few_logs = omega (arith, logged.many, all_counted 0 s.loaders, permit.script.few_processes)

        home_low : (number : ℕ) → number % length w.members < length seats
        home_low number = omega (arith, mod_below number (length w.members) (omega (arith, many_members, run.some)), many_members)

        -- each process of the script has run
        each_run : (number : ℕ) (line : SpawnLine) (process : ProcessLog) (m : MemberView) → slice_get (spawns_of 0 s.loaders) number ≡ Some line → slice_get logs number ≡ Some process → IsMemberOf w number m
            → HasRun names p.journal m number line process
        each_run number line process m line_at log_at member_at =
            let k = number % length w.members in
            let x = seat_by k (home_low number) in
            let by = x.keeps.by.seated in
            let log = logged.each number process log_at in
            let home : number % length places ≡ k = ap (λ (n : ℕ). number % n) (parted.places_are ∙ sym many_members) in
            let homed : log.home ≡ x.seat.scheduler.processes = same_Some log.home x.seat.scheduler.processes (sym log.homed ∙ ap (slice_get places) home ∙ x.place_at) in
            let stands : slice_get x.seat.scheduler.processes.items number ≡ Some (Some log.run) = ap (λ (v : Vec (Option ProcessRun) Global). slice_get v.items number) (sym homed) ∙ log.stands in
            let own : by.before.member.number ≡ k =
            number_of_token table x.seat.scheduler.number x.seat.scheduler.generation x.keeps.token x.seat.scheduler.waits by.before by.stands ∙ (member_seat k x).numbered in
            let mine : number % opening.members ≡ by.before.member.number = ap (λ (n : ℕ). number % n) (run.members ∙ sym many_members) ∙ sym own in
            stood_ran names p.journal (view_of x.keeps.token) m number line process x.seat.scheduler.processes.items log.run stands log.is (shown_member k x m member_at)
            (taken names opening by.before (view_of x.keeps.token) x.seat.scheduler.taker.taken x.seat.scheduler.processes.items s.modules p.journal number line x.keeps.by.kept
            (all_ended x.seat.scheduler.processes.items (idle k x.seat x.at)) (same_of_token table x.seat.scheduler.number x.seat.scheduler.generation x.keeps.token x.seat.scheduler.waits by.before by.stands) (learnt k x)
            (omega (arith, slice_get_within logs number process log_at, few_logs)) mine (is_taken k x number line log.run line_at stands))

        -- and no other
        none_else : (number : ℕ) (m : MemberView) → length logs ≤ number → number < PROCESSES → IsMemberOf w number m → HasNotRun m number
        none_else number m high low member_at =
            let k = number % length w.members in
            let x = seat_by k (home_low number) in
            let by = x.keeps.by.seated in
            subst (λ (v : MemberView). HasNotRun v number) (shown_member k x m member_at)
            (others names opening by.before (view_of x.keeps.token) x.seat.scheduler.taker.taken x.seat.scheduler.processes.items number x.keeps.by.kept
            (same_of_token table x.seat.scheduler.number x.seat.scheduler.generation x.keeps.token x.seat.scheduler.waits by.before by.stands) low
            (λ spawn among same.
            let from = taken_spawned k x spawn among in
            absurd (omega (arith, slice_get_within (spawns_of 0 s.loaders) spawn.number from.line from.at, same, high, logged.many))))

        have_run : (shots : List (List Snapshot)) → HaveRun names s (record { journal = p.journal; processes = logs; observers = shots }) w
        have_run shots = record {
          many = logged.many;
          few = few_logs;
          rest = λ k m at.
              let x = seat_by k (omega (arith, slice_get_within w.members k m at, many_members)) in
              let by = x.keeps.by.seated in
              subst AreAtRest (shown_member k x m at) (rest_of_token table x.seat.scheduler.number x.seat.scheduler.generation x.keeps.token x.seat.scheduler.waits by.before by.stands);
          each = each_run;
          others = none_else;
        }

        -- the run is over
        pub is_over : (shots : List (List Snapshot)) → IsOver names s (record { journal = p.journal; processes = logs; observers = shots }) w
        is_over shots = record {
          journal = journal;
          published = published;
          come = have_come;
          run = have_run shots;
        }

        module _ (shots : List (List Snapshot)) where
          abbrev the_log : RunLog
          the_log = record { journal = p.journal; processes = logs; observers = shots }

          pub has_rest : HasItsRest s the_log
          has_rest = record {
            loaders_in_order = loaders_done p permit done.commands;
            nothing_retired = ap (λ (x : ServerState). x.retired) (sym permit.log.server_is) ∙ done.retired;
          }

          answers : AreAnswersKept s.modules p.journal w.looks
          answers = subst (AreAnswersKept s.modules p.journal) (sym (ap (λ (x : WriterView). x.looks) closed.same)) has.answered.kept

          -- so its log is a history
          pub is_history : RunsAreHistories → HaveWatched names s the_log w.published → IsHistory names s the_log w
          is_history histories watched = histories names s the_log w (is_over shots) answers watched has_rest
