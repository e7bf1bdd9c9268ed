-- What of retired areas a turn reads: whether those that its process names for literals are retired.
use Rattle.std.proofs.Common.{◌≡◌, ◌==◌, ◌∙◌, ℕ, zero, suc, refl, ap, Bool, true, false, IsTrue, All, List, [], ◌∷◌, ◌++◌, map, Option, Some, None, if◌then◌else◌}
use Rattle.std.proofs.lemmas.List.Elements.{All-head, All-tail}
use Rattle.term_core.specs.declared.hold.Kind.TheVariants.{Literal}
use Rattle.server_core.specs.ServerState.{ServerState, is_retired, is_serial_in}
use Rattle.machine_core.specs.declared.process.Line.{Line}
use Rattle.machine_core.specs.declared.process.TheConstants.{MOST_TURNS, TURN_INSTRUCTIONS}
use Rattle.machine_core.specs.Holds.{Holds, is_held}
use Rattle.machine_core.specs.Process.{PlainFrame, PlainProcess, PlainValue, frame_names, literal, literal_serials, names_of, owned}
use Rattle.machine_core.specs.Turn.{Ran, Step, after_step, begun, copied, copied_frame, copied_value, counted, doomed_serial, ends, goes_on, ran_copied, ran_of, ran_unless_doomed, run_of, step_of, turn_by, turn_from, turn_of, yields}
use Rattle.machine_core.proofs.NamedAreas.{AreWithin, HasArea, frames_within}
use Rattle.machine_core.proofs.SerialLists.{among-serials_of}
use Rattle.machine_core.specs.Reads.{Reads}
use Rattle.machine_core.specs.ServerReads.{reads_of}

-- the same with other areas retired
abbrev pub with_retired : Reads → (ℕ → Bool) → Reads
with_retired s retired = record s { retired = retired }

-- the state with other areas retired and released
abbrev pub with_dropped : ServerState → List ℕ → List ℕ → ServerState
with_dropped s retired released = record s { retired = retired; released = released }

-- the instructions that are left decide
after_same : (rest other : List PlainFrame → Holds → List Line → Ran) (held : Holds) (made : List Line) (step : Step) → ((frames : List PlainFrame) (now : Holds) (lines : List Line) → rest frames now lines ≡ other frames now lines) →
    after_step rest held made step ≡ after_step other held made step
after_same rest other held made (goes_on frames now line) same = same frames now (made ++ line)
after_same rest other held made (yields frames) same = refl
after_same rest other held made (ends end) same = refl

module _ (s : Reads) (retired : ℕ → Bool) where
  step_same : (frames : List PlainFrame) (held : Holds) → step_of (with_retired s retired) frames held ≡ step_of s frames held
  step_same [] held = refl
  step_same (f ∷ below) held = refl

  run_same : (n : ℕ) (frames : List PlainFrame) (held : Holds) (made : List Line) → run_of (with_retired s retired) n frames held made ≡ run_of s n frames held made
  unfolding run_of
  run_same zero frames held made = refl
  run_same (suc n) frames held made =
      ap (after_step (run_of (with_retired s retired) n) held made) (step_same frames held) ∙ after_same (run_of (with_retired s retired) n) (run_of s n) held made (step_of s frames held) (run_same n)

  begun_same : (p : PlainProcess) (held : Holds) (frames : List PlainFrame) → begun (with_retired s retired) p.target p.args held frames ≡ begun s p.target p.args held frames
  begun_same p held [] = refl
  begun_same p held (f ∷ below) = refl

  ran_same : (p : PlainProcess) (frames : List PlainFrame) → ran_copied (with_retired s retired) p frames ≡ ran_copied s p frames
  ran_same p frames =
      ap (after_step (run_of (with_retired s retired) TURN_INSTRUCTIONS) (frame_names frames) []) (begun_same p (frame_names frames) frames)
      ∙ after_same (run_of (with_retired s retired) TURN_INSTRUCTIONS) (run_of s TURN_INSTRUCTIONS) (frame_names frames) [] (begun s p.target p.args (frame_names frames) frames) (run_same TURN_INSTRUCTIONS)

  -- an area that is retired in both states or in neither
  abbrev IsAgreed : ℕ → Type 0
  IsAgreed serial = retired serial ≡ s.retired serial

  value_copied : (value : PlainValue) → HasArea IsAgreed value → copied_value (with_retired s retired) value ≡ copied_value s value
  value_copied (owned term) h = refl
  value_copied (literal serial term) h = ap (λ b. if b then owned term else literal serial term) h

  registers_copied : (registers : List PlainValue) → All (HasArea IsAgreed) registers → map (copied_value (with_retired s retired)) registers ≡ map (copied_value s) registers
  registers_copied [] h = refl
  registers_copied (value ∷ values) h =
      ap (λ v. v ∷ map (copied_value (with_retired s retired)) values) (value_copied value (All-head (HasArea IsAgreed) value values h))
      ∙ ap (λ vs. copied_value s value ∷ vs) (registers_copied values (All-tail (HasArea IsAgreed) value values h))

  frames_copied : (frames : List PlainFrame) → AreWithin (λ _. Unit {0}) IsAgreed frames → copied (with_retired s retired) frames ≡ copied s frames
  frames_copied [] h = refl
  frames_copied (f ∷ below) h =
      ap (λ rs. record f { registers = rs } ∷ copied (with_retired s retired) below) (registers_copied f.registers h.1) ∙ ap (λ fs. copied_frame s f ∷ fs) (frames_copied below h.2)

  -- the areas that the process names for literals are retired in both states or in neither
  abbrev pub AgreesBy : PlainProcess → Type 0
  AgreesBy p = (serial : ℕ) → IsTrue (is_held (names_of p) serial Literal) → retired serial ≡ s.retired serial

  copied_same : (p : PlainProcess) → AgreesBy p → copied (with_retired s retired) p.frames ≡ copied s p.frames
  copied_same p agrees = frames_copied p.frames (frames_within (λ _. Unit {0}) IsAgreed p.frames (λ n e. tt) (λ n e. agrees n (among-serials_of (literal_serials p.frames) n ∙ e)))

  unless_same : (p : PlainProcess) (o : Option ℕ) → AgreesBy p → ran_unless_doomed (with_retired s retired) p o ≡ ran_unless_doomed s p o
  unless_same p None agrees = ap (ran_copied (with_retired s retired) p) (copied_same p agrees) ∙ ran_same p (copied s p.frames)
  unless_same p (Some serial) agrees = refl

  limit_same : (p : PlainProcess) (b : Bool) → (p.turns == MOST_TURNS) ≡ b → AgreesBy p → ran_of (with_retired s retired) p ≡ ran_of s p
  limit_same p true e agrees = rw e refl
  limit_same p false e agrees = rw e (unless_same p (doomed_serial s p.frames) agrees)

  -- a turn is the same where they are
  pub turn_agrees_by : (p : PlainProcess) → AgreesBy p → turn_by (with_retired s retired) p ≡ turn_by s p
  turn_agrees_by p agrees = ap (turn_from (counted p)) (limit_same p (p.turns == MOST_TURNS) refl agrees)

module _ (s : ServerState) (retired released : List ℕ) where
  -- the areas that the process names for literals are retired in both states or in neither
  abbrev pub Agrees : PlainProcess → Type 0
  Agrees p = (serial : ℕ) → IsTrue (is_held (names_of p) serial Literal) → is_retired (with_dropped s retired released) serial ≡ is_retired s serial

  -- a turn is the same under states where they are
  pub turn_agrees : (p : PlainProcess) → Agrees p → turn_of (with_dropped s retired released) p ≡ turn_of s p
  turn_agrees p agrees = turn_agrees_by (reads_of s) (is_serial_in retired) p agrees
