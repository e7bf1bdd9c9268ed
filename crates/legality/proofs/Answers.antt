-- What a look at the processes tells is what a lawful log says of the entry.
use Rattle.std.proofs.Common.{◌≡◌, ◌↔◌, ◌||◌, ℕ, zero, suc, ◌+◌, ◌<◌, Bool, true, false, List, [], ◌∷◌, length, slice_get, Option, Some, None, IfSome, IsSomeAnd, refl, sym, ap, subst, ◌∙◌, arith}
use Rattle.std.proofs.lemmas.Bool.{false≢true}
use Rattle.std.proofs.lemmas.Option.{none-some, same_Some, slice_get_within}
use Rattle.std.specs.List.{list_any}
use Rattle.term_core.proofs.Lists.{none_passes}
use Rattle.server_core.specs.declared.command.Cmd.{Cmd}
use Rattle.server_core.specs.declared.command.Cmd.TheVariants as cmds
use Rattle.server_core.specs.ServerState.{ServerState, empty_state, old_of}
use Rattle.machine_core.specs.Holds.{Holds, is_among, is_area_held}
use Rattle.machine_core.specs.Process.{PlainProcess, code_names, names_of, process_of}
use Rattle.machine_core.specs.View.{server_words}
use Rattle.machine_core.proofs.CodeNames.{code_names-shown}
use Rattle.script_core.specs.declared.script.Script.{Script}
use Rattle.run_log.specs.declared.logs.Entry.{Entry}
use Rattle.run_log.specs.declared.logs.ProcessLog.{ProcessLog}
use Rattle.run_log.specs.declared.logs.RunLog.{RunLog}
use Rattle.run_log.specs.Journal.{state_at}
use Rattle.run_log.specs.Legal.{EntryFollows, Lingers, MayStand, NamesNot, PurgedUnnamed, StandsNotIn, dropped_by, last_up_to, published_to, state_before, turns_in_log}
use Rattle.run_log.proofs.ListPlaces.{get_within}
use Rattle.span_check.specs.declared.standing.Standing.{Standing}
use Rattle.span_check.proofs.StandingLaws.{names_not, stands_not}
use Rattle.legality.specs.Breaches.{ClauseHolds}
use Rattle.legality.specs.Entries.{EntryLingers, EntryMeets, half_before}
use Rattle.legality.specs.Looks.{IsPurged, IsTold, names_area, some_names, some_stands, stands_in}
use Rattle.legality.specs.Sweeps.{AreStanding, IsStanding, LingersAhead, told_by}

-- ---- lists

either_false : (a b : Bool) → (a || b) ≡ false → (a ≡ false) × (b ≡ false)
either_false true b h = absurd (false≢true (sym h))
either_false false b h = (refl, h)

-- where none passes, each fails
pub none_each : {X : Type 0} (f : X → Bool) (xs : List X) (k : ℕ) (x : X) → list_any f xs ≡ false → slice_get xs k ≡ Some x → f x ≡ false
none_each f [] k x h at = absurd (none-some x at)
none_each f (y ∷ xs) zero x h at = ap f (sym (same_Some y x at)) ∙ (either_false (f y) (list_any f xs) h).0
none_each f (y ∷ xs) (suc k) x h at = none_each f xs k x (either_false (f y) (list_any f xs) h).1 at

-- ---- one process

module _ (s : ServerState) (serial : ℕ) (standing : Standing) where
  abbrev shown : PlainProcess
  shown = process_of (server_words s) standing.process

  shown_names : code_names standing.process.frames ≡ names_of shown
  shown_names = code_names-shown (server_words s) standing.process.frames

  stands_apart : stands_in serial standing ≡ false → StandsNotIn serial shown
  stands_apart h = ap (λ (x : Holds). is_among x.frames serial) (sym shown_names) ∙ h

  stands_apart_back : StandsNotIn serial shown → stands_in serial standing ≡ false
  stands_apart_back h = ap (λ (x : Holds). is_among x.frames serial) shown_names ∙ h

  names_apart : names_area serial standing ≡ false → NamesNot serial shown
  names_apart h =
      let held = code_names standing.process.frames in
      let both = either_false (is_among held.frames serial) (is_among held.literals serial) h in
      record { frames = ap (λ (x : Holds). is_among x.frames serial) (sym shown_names) ∙ both.0; literals = ap (λ (x : Holds). is_among x.literals serial) (sym shown_names) ∙ both.1 }

  names_apart_back : NamesNot serial shown → names_area serial standing ≡ false
  names_apart_back h =
      ap (λ (x : Holds). is_area_held x serial) shown_names
      ∙ ap (λ b. b || is_among (names_of shown).literals serial) h.frames
      ∙ h.literals

module _ (s : Script) (log : RunLog) (place : ℕ) (server : ServerState) (standings : List Standing) (are : AreStanding s log server (server.generation + 1) standings) (now_is : published_to place log.journal ≡ server.generation) where
  module _ (serial number : ℕ) (process : ProcessLog) (standing : Standing) (at : slice_get log.processes number ≡ Some process) (is : slice_get standings number ≡ Some standing) where
    abbrev it : IsStanding s log server (server.generation + 1) number process standing
    it = are.each number process standing at is

    -- no frame is of the instance after its last turn up to now exactly where none is now
    stands_both : IfSome (last_up_to (published_to place log.journal) (turns_in_log s log number process)) (λ m. StandsNotIn serial m.process) ↔ StandsNotIn serial (process_of (server_words server) standing.process)
    stands_both =
        subst (λ n. IfSome (last_up_to n (turns_in_log s log number process)) (λ m. StandsNotIn serial m.process) ↔ StandsNotIn serial (process_of (server_words server) standing.process)) (sym now_is)
        (stands_not (state_at s.modules empty_state log.journal) (server_words server) number process standing server.generation it.reached it.stands serial)

    -- nor is the area named
    names_both : IfSome (last_up_to (published_to place log.journal) (turns_in_log s log number process)) (λ m. NamesNot serial m.process) ↔ NamesNot serial (process_of (server_words server) standing.process)
    names_both =
        subst (λ n. IfSome (last_up_to n (turns_in_log s log number process)) (λ m. NamesNot serial m.process) ↔ NamesNot serial (process_of (server_words server) standing.process)) (sym now_is)
        (names_not (state_at s.modules empty_state log.journal) (server_words server) number process standing server.generation it.reached it.stands serial)

  standing_for : (number : ℕ) (process : ProcessLog) → slice_get log.processes number ≡ Some process → (standing : Standing) × (slice_get standings number ≡ Some standing)
  standing_for number process at = get_within standings number (omega (arith, slice_get_within log.processes number process at, are.many))

  process_for : (number : ℕ) (standing : Standing) → slice_get standings number ≡ Some standing → (process : ProcessLog) × (slice_get log.processes number ≡ Some process)
  process_for number standing is = get_within log.processes number (omega (arith, slice_get_within standings number standing is, are.many))

  -- where no process stands in an instance, none stood in it
  pub none_stood : (serial : ℕ) → some_stands serial standings ≡ false → (number : ℕ) (process : ProcessLog) → slice_get log.processes number ≡ Some process
      → IfSome (last_up_to (published_to place log.journal) (turns_in_log s log number process)) (λ m. StandsNotIn serial m.process)
  none_stood serial none number process at =
      let x = standing_for number process at in
      (stands_both serial number process x.0 at x.1).1 (stands_apart server serial x.0 (none_each (stands_in serial) standings number x.0 none x.1))

  pub none_stands : (serial : ℕ) → ((number : ℕ) (process : ProcessLog) → slice_get log.processes number ≡ Some process → IfSome (last_up_to (published_to place log.journal) (turns_in_log s log number process)) (λ m. StandsNotIn serial m.process))
      → some_stands serial standings ≡ false
  none_stands serial h =
      none_passes (stands_in serial) standings
      (λ k x is. let p = process_for k x is in stands_apart_back server serial x ((stands_both serial k p.0 x p.1 is).0 (h k p.0 p.1)))

  -- where no process names an area, none named it
  pub none_named : (serial : ℕ) → some_names serial standings ≡ false → (number : ℕ) (process : ProcessLog) → slice_get log.processes number ≡ Some process
      → IfSome (last_up_to (published_to place log.journal) (turns_in_log s log number process)) (λ m. NamesNot serial m.process)
  none_named serial none number process at =
      let x = standing_for number process at in
      (names_both serial number process x.0 at x.1).1 (names_apart server serial x.0 (none_each (names_area serial) standings number x.0 none x.1))

  pub none_names : (serial : ℕ) → ((number : ℕ) (process : ProcessLog) → slice_get log.processes number ≡ Some process → IfSome (last_up_to (published_to place log.journal) (turns_in_log s log number process)) (λ m. NamesNot serial m.process))
      → some_names serial standings ≡ false
  none_names serial h =
      none_passes (names_area serial) standings
      (λ k x is. let p = process_for k x is in names_apart_back server serial x ((names_both serial k p.0 x p.1 is).0 (h k p.0 p.1)))

-- what is known of a value, if it is there
pub if_some_at : {X : Type 0} (o : Option X) (P : X → Type 0) (x : X) → o ≡ Some x → IfSome o P → P x
if_some_at o P x e h = subst (λ y. IfSome y P) e h

pub if_some_by : {X : Type 0} (o : Option X) (P : X → Type 0) → ((x : X) → o ≡ Some x → P x) → IfSome o P
if_some_by None P f = tt
if_some_by (Some x) P f = f x refl

within_some : {X : Type 0} (xs : List X) (k : ℕ) (P : X → Type 0) → IsSomeAnd (slice_get xs k) P → k < length xs
within_some [] k P h = absurd h
within_some (x ∷ xs) zero P h = omega arith
within_some (x ∷ xs) (suc k) P h = let rest = within_some xs k P h in omega (arith, rest)

-- where an instance is dropped, no process stands in it
dropped_told : (server : ServerState) (standings : List Standing) (processes : List ProcessLog) (cmd : Cmd) (serial : ℕ) → IsTold server standings processes cmd → dropped_by server cmd ≡ Some serial → some_stands serial standings ≡ false
dropped_told server standings processes (cmds.SoftPurge name None) serial told h = if_some_at (old_of server name.0) (λ n. some_stands n standings ≡ false) serial h told
dropped_told server standings processes (cmds.Purge name killed) serial told h = (if_some_at (old_of server name.0) (IsPurged standings processes killed) serial h told).unnamed
dropped_told server standings processes cmd serial told h = absurd (none-some serial h)

module _ (s : Script) (log : RunLog) (place : ℕ) (server : ServerState) (standings : List Standing) (are : AreStanding s log server (server.generation + 1) standings) (now_is : published_to place log.journal ≡ server.generation)
    (server_is : server ≡ state_before s.modules place log.journal) (e : Entry) where
  before_is : (name : ℕ) → old_of server name ≡ old_of (state_before s.modules place log.journal) name
  before_is name = ap (λ x. old_of x name) server_is

  -- what it tells of a process that lingers is so
  pub lingers_here : IsTold server standings log.processes e.cmd → LingersAhead s log server place → slice_get log.journal place ≡ Some e → EntryLingers s log place e
  lingers_here told ahead at serial name linger is old =
      let here = before_is name.0 ∙ old in
      let known = if_some_at (old_of server name.0) (λ n. linger.process < length log.processes) serial here (subst (IsTold server standings log.processes) is told) in
      let process = get_within log.processes linger.process known in
      subst (λ o. IsSomeAnd o (λ x. Lingers serial (published_to place log.journal) linger.turn (turns_in_log s log linger.process x))) (sym process.1)
      (subst (λ n. Lingers serial n linger.turn (turns_in_log s log linger.process process.0)) (sym now_is)
      (ahead place serial e name linger process.0 (omega arith) at now_is is here process.1))

  -- what a look tells is what a lawful log says of the entry
  pub meets_by : IsTold server standings log.processes e.cmd → EntryFollows s.modules (state_before s.modules place log.journal) e
      → MayStand (state_before s.modules place log.journal) (half_before place log.journal) e → EntryMeets s log place e
  meets_by told follows stands = record {
    follows = follows;
    stands = stands;
    released = λ serial number process is known. none_named s log place server standings are now_is serial (subst (IsTold server standings log.processes) is told) number process known;
    unnamed = λ serial number process drops known.
        none_stood s log place server standings are now_is serial (dropped_told server standings log.processes e.cmd serial told (ap (λ x. dropped_by x e.cmd) server_is ∙ drops)) number process known;
    told = λ serial name killed is old.
        (if_some_at (old_of server name.0) (IsPurged standings log.processes killed) serial (before_is name.0 ∙ old) (subst (IsTold server standings log.processes) is told)).told;
  }

  -- and the other way round: it is so where the clause holds that it would break
  module _ (at : slice_get log.journal place ≡ Some e) where
    none_then : (serial : ℕ) → PurgedUnnamed s log → (cmd : Cmd) → e.cmd ≡ cmd → dropped_by server cmd ≡ Some serial → some_stands serial standings ≡ false
    none_then serial holds cmd is drops =
        none_stands s log place server standings are now_is serial
        (λ number process known. holds.unnamed place serial number e process at (ap (dropped_by (state_before s.modules place log.journal)) is ∙ sym (ap (λ x. dropped_by x cmd) server_is) ∙ drops) known)

    so_told : (cmd : Cmd) → e.cmd ≡ cmd → ClauseHolds (told_by cmd) s log → IsTold server standings log.processes cmd
    so_told (cmds.SoftPurge name None) is holds = if_some_by (old_of server name.0) (λ serial. some_stands serial standings ≡ false) (λ serial old. none_then serial holds (cmds.SoftPurge name None) is old)
    so_told (cmds.SoftPurge name (Some linger)) is holds =
        if_some_by (old_of server name.0) (λ serial. linger.process < length log.processes)
        (λ serial old. within_some log.processes linger.process _ (holds place serial e name linger at is (sym (before_is name.0) ∙ old)))
    so_told (cmds.Purge name killed) is holds =
        if_some_by (old_of server name.0) (IsPurged standings log.processes killed)
        (λ serial old. record {
          unnamed = none_then serial holds (cmds.Purge name killed) is old;
          told = holds.told place serial e name killed at is (sym (before_is name.0) ∙ old);
        })
    so_told (cmds.Release serial) is holds = none_names s log place server standings are now_is serial (λ number process known. holds place serial number e process at is known)
    so_told cmd is holds = tt

    pub is_told_where : ClauseHolds (told_by e.cmd) s log → IsTold server standings log.processes e.cmd
    is_told_where holds = so_told e.cmd refl holds
