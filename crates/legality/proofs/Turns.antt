-- The spans of a generation, judged: what is then known, and that a lawful log is not refused.
use Rattle.std.proofs.Common.{◌≡◌, ℕ, ◌+◌, ◌≤◌, ◌-◌, Bool, List, [], drop, slice_get, Option, Some, IsSomeAnd, sym, ap, subst, ◌∙◌, arith}
use Rattle.std.proofs.lemmas.Option.{none-some, slice_get_within}
use Rattle.term_core.specs.declared.atom.AtomId.{AtomId}
use Rattle.server_core.specs.declared.command.Cmd.TheVariants as cmds
use Rattle.server_core.specs.declared.command.Linger.{Linger}
use Rattle.server_core.specs.ServerState.{ServerState, empty_state, old_of}
use Rattle.script_core.specs.declared.script.Script.{Script}
use Rattle.run_log.specs.declared.logs.Entry.{Entry}
use Rattle.run_log.specs.declared.logs.ProcessLog.{ProcessLog}
use Rattle.run_log.specs.declared.logs.RunLog.{RunLog}
use Rattle.run_log.specs.Journal.{state_at}
use Rattle.run_log.specs.Legal.{Legal, Lingers, TurnsFollow, published_to, state_before, turns_in_log}
use Rattle.run_log.proofs.ListPlaces.{get_within}
use Rattle.span_check.specs.declared.standing.Standing.{Standing}
use Rattle.span_check.specs.declared.watch.Watch.{Watch}
use Rattle.legality.specs.declared.sweep.Sweep.{Sweep}
use Rattle.legality.specs.Entries.{MeetBefore}
use Rattle.legality.specs.Sweeps.{AllTaken, AreStanding, IsMade, IsStanding, IsTakenWith, LingersAhead, SomeRefused, stretch, watch_in}
use Rattle.legality.proofs.Locals.{legal_meets}
use Rattle.legality.proofs.Places.{published_now}
use Rattle.legality.proofs.Watching.{IsAhead, IsWatched, ahead_has, ahead_only, all_given, given_at, old_stays, watch_is, watch_made, watches_hold, watches_told}

-- a lawful log meets its clauses before each place
pub legal_before : (s : Script) (log : RunLog) → Legal s log → (place : ℕ) → MeetBefore s log place
legal_before s log legal place k e below at = legal_meets s log legal k e at

some_here : {X : Type 0} (o : Option X) (P : X → Type 0) (x : X) → o ≡ Some x → IsSomeAnd o P → P x
some_here o P x e h = subst (λ y. IsSomeAnd y P) e h

module _ (s : Script) (log : RunLog) (watched : Bool) (place : ℕ) (sweep : Sweep) (made : IsMade s log watched place sweep) where
  abbrev states : ℕ → ServerState
  states = state_at s.modules empty_state log.journal

  abbrev server : ServerState
  server = sweep.server

  now_is : published_to place log.journal ≡ server.generation
  now_is = published_now s log place made.here.meet ∙ ap (λ x. x.generation) (sym made.here.server_is)

  module _ (ahead : List Entry) (after : List Standing) (taken : AllTaken server ahead log.processes sweep.standings.items after) where
    -- what stood before
    stood : (number : ℕ) (a : Standing) → slice_get after number ≡ Some a → (b : Standing) × (slice_get sweep.standings.items number ≡ Some b)
    stood number a is = get_within sweep.standings.items number (omega (arith, slice_get_within after number a is, taken.many))

    stands_next : (number : ℕ) (process : ProcessLog) (b a : Standing) → slice_get log.processes number ≡ Some process → IsStanding s log server server.generation number process b → IsTakenWith server ahead number process b a
        → IsStanding s log server (server.generation + 1) number process a
    stands_next number process b a at was t = record {
      stands = t.taken.stands states number made.first was.stands;
      reached = t.taken.reached;
      ready = t.taken.ready;
      named = t.taken.named;
    }

    -- each process stands behind the generation
    pub standings_next : AreStanding s log server (server.generation + 1) after
    standings_next = record {
      many = taken.many ∙ made.standings.many;
      each = λ number process a at is.
          let b = stood number a is in
          stands_next number process b.0 a at (made.standings.each number process b.0 at b.1) (taken.each number process b.0 a at b.1 is);
    }

    told_at : ahead ≡ stretch (drop place log.journal) → (k serial : ℕ) (e : Entry) (name : AtomId) (linger : Linger) (process : ProcessLog) (b : Standing) → place ≤ k → slice_get log.journal k ≡ Some e → published_to k log.journal ≡ server.generation
        → e.cmd ≡ cmds.SoftPurge name (Some linger) → old_of server name.0 ≡ Some serial → IsStanding s log server server.generation linger.process process b → (a : Standing) → IsTakenWith server ahead linger.process process b a
        → Lingers serial server.generation linger.turn (turns_in_log s log linger.process process)
    told_at ahead_is k serial e name linger process b low at now is old was a t =
        given_at (λ watch. Lingers watch.serial server.generation watch.turn (turns_in_log s log linger.process process)) (λ (x : Entry). watch_in server linger.process x.cmd) ahead (k - place) e
        (record { turn = linger.turn; serial = serial })
        (watches_told (λ watch. Lingers watch.serial server.generation watch.turn (turns_in_log s log linger.process process)) server linger.process ahead t.watches t.are (t.taken.told states linger.process made.first was.stands))
        (ap (λ xs. slice_get xs (k - place)) ahead_is ∙ ahead_has log.journal place k e low at (now ∙ sym now_is)) (watch_made server e.cmd name linger serial is old)

    -- and what is told of processes that linger is so
    pub lingers_next : ahead ≡ stretch (drop place log.journal) → LingersAhead s log server place
    lingers_next ahead_is k serial e name linger process low at now is old known =
        let a = get_within after linger.process (omega (arith, slice_get_within log.processes linger.process process known, taken.many, made.standings.many)) in
        let b = stood linger.process a.0 a.1 in
        told_at ahead_is k serial e name linger process b.0 low at now is old (made.standings.each linger.process process b.0 known b.1) a.0 (taken.each linger.process process b.0 a.0 known b.1 a.1)

  module _ (legal : Legal s log) where
    -- what a lawful log tells of a process that lingers
    old_ahead : (e : Entry) (a : IsAhead log.journal place e) (name serial : ℕ) → old_of server name ≡ Some serial → old_of (state_before s.modules a.k log.journal) name ≡ Some serial
    old_ahead e a name serial old =
        let n = published_now s log a.k (legal_before s log legal a.k) in
        let m = published_now s log place (legal_before s log legal place) in
        old_stays s.modules log.journal place a.k name a.low (sym n ∙ a.same ∙ m) ∙ ap (λ x. old_of x name) (sym made.here.server_is) ∙ old

    lingers_legal : (number : ℕ) (process : ProcessLog) (e : Entry) (watch : Watch) → slice_get log.processes number ≡ Some process → IsAhead log.journal place e → IsWatched server number e.cmd watch
        → Lingers watch.serial server.generation watch.turn (turns_in_log s log number process)
    lingers_legal number process e watch known a w =
        let told = legal.lingers_told a.k watch.serial e w.name w.linger a.at w.cmd_is (old_ahead e a w.name.0 watch.serial w.old) in
        let here =
        some_here (slice_get log.processes number) (λ x. Lingers watch.serial (published_to a.k log.journal) w.linger.turn (turns_in_log s log number x)) process known
        (subst (λ n. IsSomeAnd (slice_get log.processes n) (λ x. Lingers watch.serial (published_to a.k log.journal) w.linger.turn (turns_in_log s log n x))) w.process_is told) in
        subst (λ n. Lingers watch.serial n watch.turn (turns_in_log s log number process)) (a.same ∙ now_is)
        (subst (λ n. Lingers watch.serial (published_to a.k log.journal) n (turns_in_log s log number process)) (sym w.turn_is) here)

    abbrev ahead : List Entry
    ahead = stretch (drop place log.journal)

    -- a lawful log is not refused
    pub not_refused : SomeRefused server ahead log.processes sweep.standings.items → ⊥
    not_refused r =
        r.refused.no states r.number made.first (made.standings.each r.number r.process r.standing r.process_at r.standing_at).stands (legal.turns_follow r.number r.process r.process_at)
        (watches_hold (λ watch. Lingers watch.serial server.generation watch.turn (turns_in_log s log r.number r.process)) server r.number ahead r.watches r.are
        (all_given (λ watch. Lingers watch.serial server.generation watch.turn (turns_in_log s log r.number r.process)) (λ (x : Entry). watch_in server r.number x.cmd) ahead
        (λ k e watch at is. lingers_legal r.number r.process e watch r.process_at (ahead_only log.journal place k e at) (watch_is server r.number e.cmd watch is))))

  -- where turns follow, a log is not refused as long as it is not watched who lingers
  pub not_refused_unwatched : TurnsFollow s log → SomeRefused server [] log.processes sweep.standings.items → ⊥
  not_refused_unwatched follow r =
      r.refused.no states r.number made.first (made.standings.each r.number r.process r.standing r.process_at r.standing_at).stands (follow r.number r.process r.process_at)
      (watches_hold (λ watch. Lingers watch.serial server.generation watch.turn (turns_in_log s log r.number r.process)) server r.number [] r.watches r.are
      (all_given (λ watch. Lingers watch.serial server.generation watch.turn (turns_in_log s log r.number r.process)) (λ (x : Entry). watch_in server r.number x.cmd) []
      (λ k e watch at is. absurd (none-some e at))))
