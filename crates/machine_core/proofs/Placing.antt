-- That a step leaves each frame at an instruction, and holds what the frames name.
use Rattle.std.proofs.Common.{◌≡◌, ◌<◌, ◌+◌, ℕ, refl, arith, sym, ap, ◌∙◌, subst, Bool, true, false, List, [], ◌∷◌, length, slice_get, slice_set, Option, Some, None, IsSomeAnd, Result, Ok, Err}
use Rattle.std.proofs.lemmas.Option.{slice_get_within}
use Rattle.term_core.specs.declared.atom.Mfa.{Mfa}
use Rattle.term_core.specs.declared.term.Term.{Term}
use Rattle.term_core.specs.PlainTerm.{PlainTerm}
use Rattle.mod_core.specs.declared.code.Function.{Function}
use Rattle.mod_core.specs.declared.code.Instr.{Instr}
use Rattle.mod_core.specs.declared.code.Instr.TheVariants as instrs
use Rattle.mod_core.specs.declared.code.Module.{Module}
use Rattle.mod_core.specs.Module.{IsCallPlace, IsInstr}
use Rattle.mod_core.specs.ModuleImage.{function_place, instr_len, place_in, placed}
use Rattle.mod_core.proofs.Places.{numbered}
use Rattle.server_core.specs.ServerState.{Entry}
use Rattle.machine_core.specs.declared.process.End.{End}
use Rattle.machine_core.specs.Holds.{Holds}
use Rattle.machine_core.specs.Process.{PlainFrame, PlainValue, first_registers, owned_values}
use Rattle.machine_core.specs.Turn.{ArePlaced, IsPlaceIn, IsPlaced, Step, begun, branched, called, computed, ends, executed, frame_at, goes_on, goes_past, held_with, moved_past, put_found, returned, stands_at, stands_behind, stands_first, step_of, stored, target_of, tested, with_register, yields}
use Rattle.machine_core.specs.Values.{element_of, is_same, less_of, difference_of, operand_term, sum_of, value_of}
use Rattle.machine_core.specs.Stand.{AreHeld, AreStanding}
use Rattle.machine_core.proofs.Calling.{reached_known}
use Rattle.machine_core.proofs.NextInstr.{is_instr, is_next}
use Rattle.machine_core.proofs.HeldSteps.{KeepsHeld, begun_held, step_held}
use Rattle.machine_core.proofs.StepCases.{IsCalled, IsCalledOut, call_refused, call_stacks, called_is, called_out_is, out_reaches, out_refused}
use Rattle.machine_core.specs.Reads.{HasFunction, Reads, dispatched, entry_at, instr_at}
use Rattle.machine_core.specs.View.{IsLawful, IsOfModule, Shown}

module _ (s : Reads) where
  -- a frame at another place of its function, with other registers
  placed_at : (f : PlainFrame) (place : ℕ) (registers : List PlainValue) → IsPlaced s f → IsPlaceIn (s.first (entry_at f)) (s.instr (entry_at f)) place → IsPlaced s (record f { place = place; registers = registers })
  placed_at f place registers p at = record { known = p.known; at = at; back = p.back }

  -- the registers do not say where a frame stands
  pub placed_with : (f : PlainFrame) (registers : List PlainValue) → IsPlaced s f → IsPlaced s (record f { registers = registers })
  placed_with f registers p = record { known = p.known; at = p.at; back = p.back }

  -- past an instruction that does not leave the frame stands the next
  moved_with : (f : PlainFrame) (i : Instr) (registers : List PlainValue) → IsPlaced s f → instr_at s f ≡ i → goes_past i ≡ true → IsPlaced s (record f { place = f.place + instr_len i; registers = registers })
  moved_with f i registers p e goes =
      placed_at f (f.place + instr_len i) registers p
      (subst (λ j. IsPlaceIn (s.first (entry_at f)) (s.instr (entry_at f)) (f.place + instr_len j)) e (stands_behind f.place p.at (ap goes_past e ∙ goes)))

  -- a target is a place of the function
  target_at : (f : PlainFrame) (i : Instr) (target : ℕ) → IsPlaced s f → instr_at s f ≡ i → target_of i ≡ Some target → IsPlaced s (record f { place = target })
  target_at f i target p e goes = placed_at f target f.registers p (stands_at f.place target p.at (ap target_of e ∙ goes))

  -- a function that is entered stands at its first instruction
  entered_at : (e : Entry) (back : ℕ) (registers : List PlainValue) → HasFunction s e → back < 16 → IsPlaced s (frame_at s e back registers)
  entered_at e back registers h b = record { known = h; at = stands_first; back = b }

  -- what a step keeps
  unfoldable pub Keeps : Holds → Step → Type 0
  Keeps held (goes_on frames now line) = AreStanding s now frames
  Keeps held (yields frames) = AreStanding s held frames
  Keeps held (ends end) = Unit {0}

  -- some frames, each at an instruction
  record ArePlacedSome (frames : List PlainFrame) : Type 0 where
    some : frames ≡ [] → ⊥
    placed : ArePlaced s frames

  -- what a step keeps of this
  abbrev KeepsPlaces : Step → Type 0
  KeepsPlaces (goes_on frames now line) = ArePlacedSome frames
  KeepsPlaces (yields frames) = ArePlacedSome frames
  KeepsPlaces (ends end) = Unit {0}

  keeps_both : (held : Holds) (step : Step) → KeepsPlaces step → KeepsHeld held step → Keeps held step
  unfolding Keeps
  keeps_both held (goes_on frames now line) p h = record { some = p.some; placed = p.placed; named = h }
  keeps_both held (yields frames) p h = record { some = p.some; placed = p.placed; named = h }
  keeps_both held (ends end) p h = tt

  some_placed : (f : PlainFrame) (below : List PlainFrame) → IsPlaced s f → ArePlaced s below → ArePlacedSome (f ∷ below)
  some_placed f below p ps = record { some = λ e. cc; placed = (p, ps) }

  -- what a name reaches is a function of its instance
  abbrev pub Reaches : Type 0
  Reaches = (to : Mfa) (e : Entry) → dispatched s to ≡ Some e → HasFunction s e

  called_places : (standing : List PlainFrame) (held : Holds) (e : Entry) (back : ℕ) (registers : List PlainValue) (step : Step) → ArePlaced s standing → HasFunction s e → back < 16 →
      IsCalled s standing held e back registers step → KeepsPlaces step
  called_places standing held e back registers step ps h b (call_refused end own) = tt
  called_places standing held e back registers step ps h b (call_stacks line room) = some_placed (frame_at s e back registers) standing (entered_at e back registers h b) ps

  called_out_places : (standing : List PlainFrame) (held : Holds) (back : ℕ) (registers : List PlainValue) (step : Step) → Reaches → ArePlaced s standing → back < 16 →
      IsCalledOut s standing held back registers step → KeepsPlaces step
  called_out_places standing held back registers step reach ps b (out_refused end own) = tt
  called_out_places standing held back registers step reach ps b (out_reaches e same current to known called) = called_places standing held e back registers step ps (reach to e known) b called

  stored_places : (f : PlainFrame) (below : List PlainFrame) (o : Option Holds) → IsPlaced s f → ArePlaced s below → KeepsPlaces (stored f below o)
  stored_places f below None p ps = tt
  stored_places f below (Some now) p ps = some_placed f below p ps

  returned_places : (below : List PlainFrame) (held : Holds) (back : ℕ) (value : PlainValue) → ArePlaced s below → KeepsPlaces (returned below held back value)
  returned_places [] held back value ps = tt
  returned_places (caller ∷ below) held back value ps =
      stored_places (record caller { registers = slice_set caller.registers back value }) below (held_with held value) (placed_with caller (slice_set caller.registers back value) ps.0) ps.1

  computed_places : (f : PlainFrame) (below : List PlainFrame) (held : Holds) (i : Instr) (to : ℕ) (r : Result Term End) →
      ((registers : List PlainValue) → IsPlaced s (record f { place = f.place + instr_len i; registers = registers })) → ArePlaced s below → KeepsPlaces (computed f below held i to r)
  computed_places f below held i to (Ok term) p ps = some_placed (record f { place = f.place + instr_len i; registers = _ }) below (p _) ps
  computed_places f below held i to (Err end) p ps = tt

  found_places : (f : PlainFrame) (below : List PlainFrame) (held : Holds) (i : Instr) (to : ℕ) (o : Option PlainValue) →
      ((registers : List PlainValue) → IsPlaced s (record f { place = f.place + instr_len i; registers = registers })) → ArePlaced s below → KeepsPlaces (put_found f below held i to o)
  found_places f below held i to None p ps = tt
  found_places f below held i to (Some value) p ps = stored_places (with_register f i to value) below (held_with held value) (p (slice_set f.registers to value)) ps

  branched_places : (f : PlainFrame) (below : List PlainFrame) (i : Instr) (target : ℕ) (b : Bool) → IsPlaced s (moved_past f i) → IsPlaced s (record f { place = target }) → ArePlaced s below →
      ArePlacedSome (branched f i target b ∷ below)
  branched_places f below i target true past there ps = some_placed (record f { place = target }) below there ps
  branched_places f below i target false past there ps = some_placed (moved_past f i) below past ps

  tested_places : (f : PlainFrame) (below : List PlainFrame) (held : Holds) (i : Instr) (target : ℕ) (r : Result Bool End) → IsPlaced s (moved_past f i) → IsPlaced s (record f { place = target }) → ArePlaced s below →
      KeepsPlaces (tested f below held i target r)
  tested_places f below held i target (Ok b) past there ps = branched_places f below i target b past there ps
  tested_places f below held i target (Err end) past there ps = tt

  -- what a call asks: a local one that there is its function, and each that its value comes into a register
  abbrev pub MayCall : PlainFrame → Instr → Type 0
  MayCall f (instrs.Call function at) = HasFunction s (record { serial = f.serial; function = function }) × (at < 16)
  MayCall f (instrs.CallExt to at) = at < 16
  MayCall f i = Unit {0}

  -- the next instruction leaves frames that stand so
  instr_places : (f : PlainFrame) (below : List PlainFrame) (held : Holds) (i : Instr) → Reaches → IsPlaced s f → ArePlaced s below → instr_at s f ≡ i → MayCall f i → KeepsPlaces (executed s f below held i)
  instr_places f below held (instrs.Move from to) reach p ps e c =
      stored_places (with_register f (instrs.Move from to) to (value_of f from)) below (held_with held (value_of f from)) (moved_with f (instrs.Move from to) _ p e refl) ps
  instr_places f below held (instrs.Add a b to) reach p ps e c =
      computed_places f below held (instrs.Add a b to) to (sum_of (operand_term f a) (operand_term f b)) (λ registers. moved_with f (instrs.Add a b to) registers p e refl) ps
  instr_places f below held (instrs.Sub a b to) reach p ps e c =
      computed_places f below held (instrs.Sub a b to) to (difference_of (operand_term f a) (operand_term f b)) (λ registers. moved_with f (instrs.Sub a b to) registers p e refl) ps
  instr_places f below held (instrs.Eq a b target) reach p ps e c =
      tested_places f below held (instrs.Eq a b target) target (Ok (is_same (operand_term f a) (operand_term f b)))
      (moved_with f (instrs.Eq a b target) f.registers p e refl) (target_at f (instrs.Eq a b target) target p e refl) ps
  instr_places f below held (instrs.Less a b target) reach p ps e c =
      tested_places f below held (instrs.Less a b target) target (less_of (operand_term f a) (operand_term f b))
      (moved_with f (instrs.Less a b target) f.registers p e refl) (target_at f (instrs.Less a b target) target p e refl) ps
  instr_places f below held (instrs.Jump target) reach p ps e c = some_placed (record f { place = target }) below (target_at f (instrs.Jump target) target p e refl) ps
  instr_places f below held (instrs.Call function at) reach p ps e c =
      called_places (moved_past f (instrs.Call function at) ∷ below) held (record { serial = f.serial; function = function }) at _ _ (moved_with f (instrs.Call function at) f.registers p e refl, ps) c.0 c.1
      (called_is s (moved_past f (instrs.Call function at) ∷ below) held (record { serial = f.serial; function = function }) _ at _)
  instr_places f below held (instrs.CallExt to at) reach p ps e c =
      called_out_places (moved_past f (instrs.CallExt to at) ∷ below) held at _ _ reach (moved_with f (instrs.CallExt to at) f.registers p e refl, ps) c
      (called_out_is s (moved_past f (instrs.CallExt to at) ∷ below) held to at _)
  instr_places f below held (instrs.Ret value) reach p ps e c = returned_places below held f.back (value_of f value) ps
  instr_places f below held (instrs.Pget key to) reach p ps e c =
      found_places f below held (instrs.Pget key to) to (s.key key.0) (λ registers. moved_with f (instrs.Pget key to) registers p e refl) ps
  instr_places f below held (instrs.PgetOr key other to) reach p ps e c =
      stored_places (with_register f (instrs.PgetOr key other to) to _) below _ (moved_with f (instrs.PgetOr key other to) _ p e refl) ps
  instr_places f below held (instrs.Elem index from to) reach p ps e c =
      found_places f below held (instrs.Elem index from to) to (element_of (operand_term f index) (value_of f from)) (λ registers. moved_with f (instrs.Elem index from to) registers p e refl) ps
  instr_places f below held (instrs.Print value) reach p ps e c = some_placed (moved_past f (instrs.Print value)) below (moved_with f (instrs.Print value) f.registers p e refl) ps
  instr_places f below held instrs.Yield reach p ps e c = some_placed (moved_past f instrs.Yield) below (moved_with f instrs.Yield f.registers p e refl) ps

  begun_places : (target : Mfa) (args : List PlainTerm) (held : Holds) (frames : List PlainFrame) → Reaches → ArePlaced s frames → KeepsPlaces (begun s target args held frames)
  begun_places target args held [] reach ps = called_out_places [] held 0 (first_registers (owned_values args)) _ reach tt (omega arith) (called_out_is s [] held target 0 (owned_values args))
  begun_places target args held (f ∷ below) reach ps = some_placed f below ps.0 ps.1

  -- a step keeps frames that stand so, and a turn begins with such
  pub record KeepsStanding : Type 0 where
    pub step : (held : Holds) (frames : List PlainFrame) → AreStanding s held frames → Keeps held (step_of s frames held)
    pub begun : (target : Mfa) (args : List PlainTerm) (held : Holds) (frames : List PlainFrame) → ArePlaced s frames → AreHeld held frames → Keeps held (begun s target args held frames)

  step_keeps : (held : Holds) (frames : List PlainFrame) → Reaches → ((f : PlainFrame) → IsPlaced s f → MayCall f (instr_at s f)) → AreStanding s held frames → Keeps held (step_of s frames held)
  step_keeps held [] reach calls h = absurd (h.some refl)
  step_keeps held (f ∷ below) reach calls h =
      keeps_both held (step_of s (f ∷ below) held) (instr_places f below held (instr_at s f) reach h.placed.0 h.placed.1 refl (calls f h.placed.0)) (step_held s held (f ∷ below) h.named)

  keeping : Reaches → ((f : PlainFrame) → IsPlaced s f → MayCall f (instr_at s f)) → KeepsStanding
  keeping reach calls = record {
    step = λ held frames h. step_keeps held frames reach calls h;
    begun = λ target args held frames ps hs. keeps_both held (begun s target args held frames) (begun_places target args held frames reach ps) (begun_held s target args held frames hs);
  }

-- ---- under a lawful view

callee_in : (shown : Shown) (serial function at : ℕ) (m : Module) (o : Option Function) → IsOfModule shown serial m → slice_get m.functions function ≡ o →
    IsSomeAnd o (λ g. IsCallPlace at g.arity) → HasFunction shown.reads (record { serial = serial; function = function }) × (at < 16)
callee_in shown serial function at m None is e h = absurd h
callee_in shown serial function at m (Some g) is e h = (let count = is.count in omega (arith, count, slice_get_within m.functions function g e), h.back)

-- an instruction of a module's function is one that may be run
may_call : (shown : Shown) (f : PlainFrame) (m : Module) (len : ℕ) (place : ℕ → ℕ) (i : Instr) → IsOfModule shown f.serial m → IsInstr m.functions len i → MayCall shown.reads f (placed place i)
may_call shown f m len place (instrs.Call function at) is h = callee_in shown f.serial function at m (slice_get m.functions function) is refl h
may_call shown f m len place (instrs.CallExt to at) is h = h.1.back
may_call shown f m len place i is h = tt

-- so may the next instruction of a placed frame
pub next_calls : (shown : Shown) (f : PlainFrame) → IsLawful shown → IsPlaced shown.reads f → MayCall shown.reads f (instr_at shown.reads f)
next_calls shown f lawful p =
    let n = is_next shown f lawful p in
    subst (MayCall shown.reads f) (sym n.instr)
    (may_call shown f n.m (length n.function.code) (place_in (function_place n.m f.function) n.function.code) (numbered n.function.code n.number) n.loaded (is_instr shown f n))

-- what a lawful view shows keeps frames at instructions
pub keeps_standing : (shown : Shown) → IsLawful shown → KeepsStanding shown.reads
keeps_standing shown lawful = keeping shown.reads (λ to e h. reached_known shown to e lawful h) (λ f p. next_calls shown f lawful p)
