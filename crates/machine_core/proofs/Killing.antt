-- When a turn ends a process as killed, and that what goes on stands in no doomed code.
use Rattle.std.proofs.Common.{◌≡◌, ◌==◌, ◌∙◌, ℕ, refl, ap, arith, subst, Bool, true, false, List, [], ◌∷◌, find, Some, IsTrue, if◌then◌else◌}
use Rattle.std.proofs.lemmas.Bool.Decides.{nat_tests}
use Rattle.std.proofs.lemmas.Bool.{or_right}
use Rattle.term_core.specs.declared.hold.Kind.TheVariants.{Frame}
use Rattle.server_core.specs.ServerState.{Entry}
use Rattle.machine_core.specs.declared.process.End.{End}
use Rattle.machine_core.specs.declared.process.End.TheVariants.{Killed, SystemLimit}
use Rattle.machine_core.specs.declared.process.TheConstants.{MOST_TURNS}
use Rattle.machine_core.specs.declared.process.TurnEnd.{TurnEnd}
use Rattle.machine_core.specs.declared.process.TurnEnd.TheVariants.{Ended}
use Rattle.machine_core.specs.Holds.{Holds, is_among, is_held}
use Rattle.machine_core.specs.Process.{PlainFrame, PlainProcess, PlainValue, first_registers, frame_names, names_of, owned_values}
use Rattle.machine_core.specs.Turn.{Ran, Step, begun, copied, doomed_serial, ended_with, executed, ran_of, step_of, turn_by}
use Rattle.machine_core.specs.TurnEnds.{IsKilledFor}
use Rattle.machine_core.proofs.NamedAreas.{instance_serials}
use Rattle.machine_core.proofs.OwnEnds.{IsOwnEnd, IsOwnTurnEnd}
use Rattle.machine_core.proofs.RunLaws.{IsKept, KeepsSo, ran_kept}
use Rattle.machine_core.proofs.SerialLists.{among-serials_of, same_first}
use Rattle.machine_core.proofs.StepCases.{Came, it_calls, it_calls_out, it_ends, IsCalled, call_refused, call_stacks, IsCalledOut, out_reaches, out_refused, called_out_is, came}
use Rattle.machine_core.proofs.Turns.{is_below}
use Rattle.machine_core.specs.Reads.{Reads, instr_at}

-- a serial that is one of these, and passes
abbrev Passes : (ℕ → Bool) → List ℕ → ℕ → Type 0
Passes test serials n = (test n ≡ true) × (is_among serials n ≡ true)

found_or : (test : ℕ → Bool) (k n : ℕ) (ks : List ℕ) (b : Bool) → test k ≡ b → (find test ks ≡ Some n → Passes test ks n) → (if b then Some k else find test ks) ≡ Some n → Passes test (k ∷ ks) n
found_or test k n ks true t r h = let same : k ≡ n = cc in subst (Passes test (k ∷ ks)) same (t, same_first k (is_among ks k))
found_or test k n ks false t r h = ((r h).0, or_right (k == n) (is_among ks n) (r h).1)

-- what is found is one of the serials, and passes
found_is : (test : ℕ → Bool) (serials : List ℕ) (n : ℕ) → find test serials ≡ Some n → Passes test serials n
found_is test [] n e = absurd (cc)
found_is test (k ∷ ks) n e = found_or test k n ks (test k) refl (found_is test ks n) e

-- why a process was killed: its turn counted, and the topmost of its frames that stands in doomed code names this instance
pub record HasKiller (s : Reads) (p : PlainProcess) (serial : ℕ) : Type 0 where
  pub below : p.turns ≡ MOST_TURNS → ⊥
  pub topmost : doomed_serial s p.frames ≡ Some serial
  pub doomed : IsTrue (s.doomed serial)
  pub named : IsTrue (is_held (names_of p) serial Frame)

killer_of : (s : Reads) (p : PlainProcess) (serial : ℕ) → (p.turns ≡ MOST_TURNS → ⊥) → doomed_serial s p.frames ≡ Some serial → HasKiller s p serial
killer_of s p serial t d =
    let f = found_is s.doomed (instance_serials p.frames) serial d in record { below = t; topmost = d; doomed = f.0; named = among-serials_of (instance_serials p.frames) serial ∙ f.1 }

module _ (s : Reads) (p : PlainProcess) where
  HasItsKiller : Ran → Type 0
  HasItsKiller ran = (serial : ℕ) → ran.end ≡ Ended (Killed serial) → HasKiller s p serial

  abbrev StepOwn : Holds → Step → Type 0
  StepOwn held step = KeepsSo s (λ _ _. Unit {0}) IsOwnEnd HasItsKiller held step

  called_own : (standing : List PlainFrame) (held : Holds) (e : Entry) (back : ℕ) (registers : List PlainValue) (step : Step) → IsCalled s standing held e back registers step → StepOwn held step
  called_own standing held e back registers step (call_refused end own) = own
  called_own standing held e back registers step (call_stacks line room) = tt

  called_out_own : (standing : List PlainFrame) (held : Holds) (back : ℕ) (registers : List PlainValue) (step : Step) → IsCalledOut s standing held back registers step → StepOwn held step
  called_out_own standing held back registers step (out_refused end own) = own
  called_out_own standing held back registers step (out_reaches e same current to known called) = called_own standing held e back registers step called

  came_own : (f : PlainFrame) (below : List PlainFrame) (held : Holds) (step : Step) → Came s f below held step → StepOwn held step
  came_own f below held step (it_ends end own) = own
  came_own f below held step (it_calls place e back registers same is from called) = called_own (record f { place = place } ∷ below) held e back registers step called
  came_own f below held step (it_calls_out place back registers same from called) = called_out_own (record f { place = place } ∷ below) held back registers step called
  came_own f below held step goes = tt

  step_own : (frames : List PlainFrame) (held : Holds) → StepOwn held (step_of s frames held)
  step_own [] held = tt
  step_own (f ∷ below) held = came_own f below held (executed s f below held (instr_at s f)) (came s f below held (instr_at s f))

  begun_own : (held : Holds) (frames : List PlainFrame) → StepOwn held (begun s p.target p.args held frames)
  begun_own held [] = called_out_own [] held 0 (first_registers (owned_values p.args)) _ (called_out_is s [] held p.target 0 (owned_values p.args))
  begun_own held (f ∷ below) = tt

  not_killed : (end : End) (serial : ℕ) → IsOwnEnd end → ◌≡◌ {A = TurnEnd} (Ended end) (Ended (Killed serial)) → ⊥
  not_killed end serial own e = subst IsOwnTurnEnd e own

  own_kept : IsKept s (λ _ _. Unit {0}) IsOwnEnd HasItsKiller
  unfolding HasItsKiller
  own_kept = record { step = λ frames held h. step_own frames held; pause = λ frames held made h serial e. absurd (cc); end = λ held made end own serial e. absurd (not_killed end serial own e) }

  killer_found : (serial found : ℕ) → (p.turns == MOST_TURNS) ≡ false → doomed_serial s p.frames ≡ Some found → ◌≡◌ {A = TurnEnd} (Ended (Killed found)) (Ended (Killed serial)) → HasKiller s p serial
  killer_found serial found t d e = let same : found ≡ serial = cc in killer_of s p serial (λ h. grind (arith, nat_tests)) (d ∙ ap (λ n. Some n) same)

  ran_killer : HasItsKiller (ran_of s p)
  unfolding HasItsKiller
  ran_killer =
      ran_kept s (λ _ _. Unit {0}) IsOwnEnd HasItsKiller p own_kept (begun_own (frame_names (copied s p.frames)) (copied s p.frames)) (λ found t d serial e. killer_found serial found t d e)
      (λ serial e. absurd (not_killed SystemLimit serial tt e))

-- a process is killed only so
pub killed_by_doomed : (s : Reads) (p : PlainProcess) (serial : ℕ) → (turn_by s p).end ≡ Ended (Killed serial) → HasKiller s p serial
unfolding HasItsKiller
killed_by_doomed s p serial e = ran_killer s p serial e

ran_killed : (s : Reads) (p : PlainProcess) (serial : ℕ) → (p.turns == MOST_TURNS) ≡ false → doomed_serial s p.frames ≡ Some serial → ran_of s p ≡ ended_with (names_of p) [] (Killed serial)
ran_killed s p serial t d = rw (t, d) refl

-- and what is held for it then is what it named
pub killed_for : (s : Reads) (p : PlainProcess) (serial : ℕ) → (turn_by s p).end ≡ Ended (Killed serial) → IsKilledFor s p serial
killed_for s p serial e =
    let k = killed_by_doomed s p serial e in
    let ran = ran_killed s p serial (is_below p.turns k.below) k.topmost in
    record { doomed = k.doomed; held = ap (λ (left : Ran). is_among left.held.frames serial) ran ∙ k.named }
