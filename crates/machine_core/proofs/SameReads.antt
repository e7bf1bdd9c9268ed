-- That a turn asks no more than it has to: where two records agree on what a process at lawful places asks, its turn is the same by both.
use Rattle.std.proofs.Common.{◌≡◌, ◌==◌, ◌∙◌, ℕ, zero, suc, refl, ap, Bool, true, false, List, [], ◌∷◌, ◌++◌, find, length, map, nat_le, Option, Some, None, unwrap_or, if◌then◌else◌}
use Rattle.term_core.specs.declared.atom.Mfa.{Mfa}
use Rattle.term_core.specs.PlainTerm.{PlainTerm}
use Rattle.mod_core.specs.declared.code.Instr.{Instr}
use Rattle.mod_core.specs.declared.code.Instr.TheVariants as instrs
use Rattle.server_core.specs.ServerState.{Entry}
use Rattle.machine_core.specs.declared.process.Line.{Line}
use Rattle.machine_core.specs.declared.process.Line.TheVariants as lines
use Rattle.machine_core.specs.declared.process.TheConstants.{MOST_FRAMES, MOST_TURNS, TURN_INSTRUCTIONS}
use Rattle.machine_core.specs.Holds.{Holds, is_full}
use Rattle.machine_core.specs.Process.{PlainFrame, PlainProcess, PlainValue, arguments_at, first_registers, frame_names, literal, owned, owned_values}
use Rattle.machine_core.specs.Reads.{HasFunction, Reads, dispatched, entry_at, instr_at, mfa_of}
use Rattle.machine_core.specs.Stand.{AreStanding}
use Rattle.machine_core.specs.Turn.{ArePlaced, IsPlaceIn, IsPlaced, Step, after_step, begun, called, called_by_name, called_out, copied, copied_frame, copied_value, doomed_serial, ends, entered, executed, goes_on, moved_past, put_found, put_value, ran_copied, ran_of, ran_unless_doomed, run_of, stacked, step_of, terms_of, trace_of, yields}
use Rattle.machine_core.specs.Values.{value_of}
use Rattle.machine_core.specs.View.{IsLawful, Shown}
use Rattle.machine_core.proofs.Calling.{reached_known}
use Rattle.machine_core.proofs.CopiedFrames.{copied_placed}
use Rattle.machine_core.proofs.NamedAreas.{names_held}
use Rattle.machine_core.proofs.Placing.{Keeps, KeepsStanding, MayCall, Reaches, keeps_standing, next_calls}

-- two records say the same of a function, and of the instructions at its places
pub record IsSameFunction (r q : Reads) (e : Entry) : Type 0 where
  pub name : mfa_of q e ≡ mfa_of r e
  pub first : q.first e ≡ r.first e
  pub traced : q.traced e ≡ r.traced e
  pub instr : (place : ℕ) → IsPlaceIn (r.first e) (r.instr e) place → q.instr e place ≡ r.instr e place

-- the second says what the first says of calls, keys, what is doomed and retired, and of each function that the first has
pub record AgreesWith (r q : Reads) : Type 0 where
  pub calls : (to : Mfa) → dispatched q to ≡ dispatched r to
  pub keys : (key : ℕ) → q.key key ≡ r.key key
  pub doomed : (serial : ℕ) → q.doomed serial ≡ r.doomed serial
  pub retired : (serial : ℕ) → q.retired serial ≡ r.retired serial
  pub functions : (e : Entry) → HasFunction r e → IsSameFunction r q e

module _ (r q : Reads) (same : AgreesWith r q) where
  trace_same : (e : Entry) (to : Mfa) (args : List PlainValue) → IsSameFunction r q e → trace_of q e to args ≡ trace_of r e to args
  trace_same e to args is = ap (λ b. if b then lines.Trace to (terms_of args) ∷ [] else []) is.traced

  entered_same : (standing : ℕ) (held : Holds) (e : Entry) (back : ℕ) (registers : List PlainValue) → IsSameFunction r q e → entered q standing held e back registers ≡ entered r standing held e back registers
  entered_same standing held e back registers is =
      ap (λ place. if nat_le MOST_FRAMES standing then None else if is_full held e.serial then None else Some (record { serial = e.serial; function = e.function; place = place; back = back; registers = registers })) is.first

  called_same : (frames : List PlainFrame) (held : Holds) (e : Entry) (to : Mfa) (back : ℕ) (args : List PlainValue) → IsSameFunction r q e → called q frames held e to back args ≡ called r frames held e to back args
  called_same frames held e to back args is =
      ap (λ line. stacked frames held e.serial line (entered q (length frames) held e back (first_registers args))) (trace_same e to args is)
      ∙ ap (stacked frames held e.serial (trace_of r e to args)) (entered_same (length frames) held e back (first_registers args) is)

  by_name_same : (frames : List PlainFrame) (held : Holds) (to : Mfa) (back : ℕ) (args : List PlainValue) (o : Option Entry) → Reaches r → dispatched r to ≡ o →
      called_by_name q frames held to back args o ≡ called_by_name r frames held to back args o
  by_name_same frames held to back args None reach d = refl
  by_name_same frames held to back args (Some e) reach d = called_same frames held e to back args (same.functions e (reach to e d))

  out_same : (frames : List PlainFrame) (held : Holds) (to : Mfa) (back : ℕ) (args : List PlainValue) → Reaches r → called_out q frames held to back args ≡ called_out r frames held to back args
  out_same frames held to back args reach = ap (called_by_name q frames held to back args) (same.calls to) ∙ by_name_same frames held to back args (dispatched r to) reach refl

  executed_same : (f : PlainFrame) (below : List PlainFrame) (held : Holds) (i : Instr) → Reaches r → MayCall r f i → executed q f below held i ≡ executed r f below held i
  executed_same f below held (instrs.Call function at) reach c =
      let e : Entry = record { serial = f.serial; function = function } in
      let standing = moved_past f (instrs.Call function at) ∷ below in
      let is = same.functions e c.0 in
      ap (λ (to : Mfa). called q standing held e to at (arguments_at f.registers at to.arity)) is.name ∙ called_same standing held e (mfa_of r e) at (arguments_at f.registers at (r.arity e)) is
  executed_same f below held (instrs.CallExt to at) reach c = out_same (moved_past f (instrs.CallExt to at) ∷ below) held to at (arguments_at f.registers at to.arity) reach
  executed_same f below held (instrs.Pget key to) reach c = ap (put_found f below held (instrs.Pget key to) to) (same.keys key.0)
  executed_same f below held (instrs.PgetOr key other to) reach c = ap (λ o. put_value f below held (instrs.PgetOr key other to) to (unwrap_or o (value_of f other))) (same.keys key.0)
  executed_same f below held i reach c = refl

  module _ (reach : Reaches r) (may : (f : PlainFrame) → IsPlaced r f → MayCall r f (instr_at r f)) (keeps : KeepsStanding r) where
    step_same : (frames : List PlainFrame) (held : Holds) → ArePlaced r frames → step_of q frames held ≡ step_of r frames held
    step_same [] held h = refl
    step_same (f ∷ below) held h =
        let is = same.functions (entry_at f) h.0.known in
        ap (executed q f below held) (is.instr f.place h.0.at) ∙ executed_same f below held (instr_at r f) reach (may f h.0)

    after_same : (n : ℕ) (held : Holds) (made : List Line) (step : Step) → Keeps r held step →
        ((frames : List PlainFrame) (now : Holds) (lines : List Line) → AreStanding r now frames → run_of q n frames now lines ≡ run_of r n frames now lines) →
        after_step (run_of q n) held made step ≡ after_step (run_of r n) held made step
    unfolding Keeps
    after_same n held made (goes_on frames now line) k next = next frames now (made ++ line) k
    after_same n held made (yields frames) k next = refl
    after_same n held made (ends end) k next = refl

    run_same : (n : ℕ) (frames : List PlainFrame) (held : Holds) (made : List Line) → AreStanding r held frames → run_of q n frames held made ≡ run_of r n frames held made
    unfolding run_of
    run_same zero frames held made h = refl
    run_same (suc n) frames held made h =
        ap (after_step (run_of q n) held made) (step_same frames held h.placed) ∙ after_same n held made (step_of r frames held) (keeps.step held frames h) (run_same n)

    begun_same : (target : Mfa) (args : List PlainTerm) (held : Holds) (frames : List PlainFrame) → begun q target args held frames ≡ begun r target args held frames
    begun_same target args held [] = out_same [] held target 0 (owned_values args) reach
    begun_same target args held (f ∷ below) = refl

    value_same : (value : PlainValue) → copied_value q value ≡ copied_value r value
    value_same (owned term) = refl
    value_same (literal serial term) = ap (λ b. if b then owned term else literal serial term) (same.retired serial)

    values_same : (values : List PlainValue) → map (copied_value q) values ≡ map (copied_value r) values
    values_same [] = refl
    values_same (value ∷ values) = ap (λ v. v ∷ map (copied_value q) values) (value_same value) ∙ ap (λ vs. copied_value r value ∷ vs) (values_same values)

    copied_same : (frames : List PlainFrame) → copied q frames ≡ copied r frames
    copied_same [] = refl
    copied_same (f ∷ below) = ap (λ values. record f { registers = values } ∷ copied q below) (values_same f.registers) ∙ ap (λ fs. copied_frame r f ∷ fs) (copied_same below)

    doomed_same : (serials : List ℕ) → find q.doomed serials ≡ find r.doomed serials
    doomed_same [] = refl
    doomed_same (n ∷ serials) = ap (λ b. if b then Some n else find q.doomed serials) (same.doomed n) ∙ ap (λ o. if r.doomed n then Some n else o) (doomed_same serials)

    copied_run : (p : PlainProcess) (frames : List PlainFrame) → ArePlaced r frames → ran_copied q p frames ≡ ran_copied r p frames
    copied_run p frames h =
        ap (after_step (run_of q TURN_INSTRUCTIONS) (frame_names frames) []) (begun_same p.target p.args (frame_names frames) frames)
        ∙ after_same TURN_INSTRUCTIONS (frame_names frames) [] (begun r p.target p.args (frame_names frames) frames) (keeps.begun p.target p.args (frame_names frames) frames h (names_held frames)) (run_same TURN_INSTRUCTIONS)

    unless_same : (p : PlainProcess) (o : Option ℕ) → ArePlaced r p.frames → ran_unless_doomed q p o ≡ ran_unless_doomed r p o
    unless_same p None h = ap (ran_copied q p) (copied_same p.frames) ∙ copied_run p (copied r p.frames) (copied_placed r p.frames h)
    unless_same p (Some serial) h = refl

    limit_same : (p : PlainProcess) (b : Bool) → (p.turns == MOST_TURNS) ≡ b → ArePlaced r p.frames → ran_of q p ≡ ran_of r p
    limit_same p true e h = rw e refl
    limit_same p false e h = rw e (ap (ran_unless_doomed q p) (doomed_same (map (λ f. f.serial) p.frames)) ∙ unless_same p (doomed_serial r p.frames) h)

-- what a lawful view shows, and any record that agrees with it where a process at its places asks, let a turn do the same
pub same_ran : (shown : Shown) (q : Reads) (p : PlainProcess) → IsLawful shown → AgreesWith shown.reads q → ArePlaced shown.reads p.frames → ran_of q p ≡ ran_of shown.reads p
same_ran shown q p lawful same h =
    limit_same shown.reads q same (λ to e d. reached_known shown to e lawful d) (λ f placed. next_calls shown f lawful placed) (keeps_standing shown lawful) p (p.turns == MOST_TURNS) refl h
