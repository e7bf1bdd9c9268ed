-- That a step holds what its frames name: what was held stays so, and what is newly named is held first.
use Rattle.std.proofs.Common.{◌≡◌, ◌==◌, ◌∙◌, ℕ, sym, subst, Bool, true, false, IsTrue, All, List, [], ◌∷◌, Some, None, if◌then◌else◌}
use Rattle.std.proofs.lemmas.List.Elements.{All-set}
use Rattle.std.proofs.lemmas.Bool.{or_right}
use Rattle.term_core.specs.declared.atom.Mfa.{Mfa}
use Rattle.term_core.specs.declared.hold.Kind.TheVariants.{Frame, Literal}
use Rattle.term_core.specs.PlainTerm.{PlainTerm}
use Rattle.server_core.specs.ServerState.{Entry}
use Rattle.machine_core.specs.Holds.{Holds, is_among, is_full, is_held, with_hold}
use Rattle.machine_core.specs.Process.{PlainFrame, PlainValue, first_registers, literal, owned, owned_values}
use Rattle.machine_core.specs.Stand.{AreHeld, IsValueHeld}
use Rattle.machine_core.specs.Turn.{Step, begun, ends, executed, goes_on, held_with, step_of, yields}
use Rattle.machine_core.proofs.NamedAreas.{HasArea, IsLiteralHeld, area_held, held_area, register_area}
use Rattle.machine_core.proofs.SerialLists.{among-with, same_first}
use Rattle.machine_core.proofs.StepCases.{Came, it_calls, it_calls_out, it_ends, it_moves, it_pauses, it_returns, it_stores, IsCalled, call_refused, call_stacks, IsCalledOut, out_reaches, out_refused, IsRegisterArea, called_out_is, came, owned_area}
use Rattle.machine_core.specs.Reads.{Reads, instr_at}

-- what is held is held still
pub record IsMore (held now : Holds) : Type 0 where
  pub frames : (n : ℕ) → is_among held.frames n ≡ true → is_among now.frames n ≡ true
  pub literals : (n : ℕ) → is_among held.literals n ≡ true → is_among now.literals n ≡ true

more_same : (held : Holds) → IsMore held held
more_same held = record { frames = λ n e. e; literals = λ n e. e }

more_frame : (held : Holds) (serial : ℕ) → IsMore held (with_hold held serial Frame)
more_frame held serial = record { frames = λ n e. among-with held.frames serial n ∙ or_right (serial == n) (is_among held.frames n) e; literals = λ n e. e }

more_literal : (held : Holds) (serial : ℕ) → IsMore held (with_hold held serial Literal)
more_literal held serial = record { frames = λ n e. e; literals = λ n e. among-with held.literals serial n ∙ or_right (serial == n) (is_among held.literals n) e }

-- what was just held is
pub frame_first : (held : Holds) (serial : ℕ) → IsTrue (is_held (with_hold held serial Frame) serial Frame)
frame_first held serial = among-with held.frames serial serial ∙ same_first serial (is_among held.frames serial)

literal_first : (held : Holds) (serial : ℕ) → IsTrue (is_held (with_hold held serial Literal) serial Literal)
literal_first held serial = among-with held.literals serial serial ∙ same_first serial (is_among held.literals serial)

-- what a value's hold leaves
pub record IsHeldWith (held now : Holds) (value : PlainValue) : Type 0 where
  pub more : IsMore held now
  pub first : IsValueHeld now value

literal_case : (held now : Holds) (serial : ℕ) (b : Bool) → (if b then None else Some (with_hold held serial Literal)) ≡ Some now → now ≡ with_hold held serial Literal
literal_case held now serial true e = absurd (cc)
literal_case held now serial false e = cc

pub held_with_is : (held now : Holds) (value : PlainValue) → held_with held value ≡ Some now → IsHeldWith held now value
held_with_is held now (owned term) e = let same : held ≡ now = cc in record { more = subst (IsMore held) same (more_same held); first = tt }
held_with_is held now (literal serial term) e =
    let same : now ≡ with_hold held serial Literal = literal_case held now serial (is_full held serial) e in
    record {
      more = subst (IsMore held) (sym same) (more_literal held serial);
      first = subst (λ (x : Holds). IsTrue (is_held x serial Literal)) (sym same) (literal_first held serial);
    }

value_more : (held now : Holds) → IsMore held now → (value : PlainValue) → IsValueHeld held value → IsValueHeld now value
value_more held now m (owned term) h = tt
value_more held now m (literal serial term) h = m.literals serial h

registers_more : (held now : Holds) (registers : List PlainValue) → IsMore held now → All (IsValueHeld held) registers → All (IsValueHeld now) registers
registers_more held now registers m h k d l = value_more held now m _ (h k d l)

-- so frames stay held
pub held_more : (held now : Holds) (frames : List PlainFrame) → IsMore held now → AreHeld held frames → AreHeld now frames
held_more held now [] m h = tt
held_more held now (f ∷ below) m h = (m.frames f.serial h.0, registers_more held now f.registers m h.1, held_more held now below m h.2)

-- values whose areas a frame's registers name are held where these are
from_registers : (held : Holds) (f : PlainFrame) → All (IsValueHeld held) f.registers → (value : PlainValue) → HasArea (IsRegisterArea f) value → IsValueHeld held value
from_registers held f h (owned term) g = tt
from_registers held f h (literal serial term) g = register_area (IsLiteralHeld held) f.registers serial (λ k d l. held_area held _ (h k d l)) g

all_from_registers : (held : Holds) (f : PlainFrame) (registers : List PlainValue) → All (IsValueHeld held) f.registers → All (HasArea (IsRegisterArea f)) registers → All (IsValueHeld held) registers
all_from_registers held f registers h g k d l = from_registers held f h _ (g k d l)

-- what a step keeps
abbrev pub KeepsHeld : Holds → Step → Type 0
KeepsHeld held (goes_on frames now line) = AreHeld now frames
KeepsHeld held (yields frames) = AreHeld held frames
KeepsHeld held (ends end) = Unit {0}

module _ (s : Reads) where
  called_held : (standing : List PlainFrame) (held : Holds) (e : Entry) (back : ℕ) (registers : List PlainValue) (step : Step) → AreHeld held standing → All (IsValueHeld held) registers →
      IsCalled s standing held e back registers step → KeepsHeld held step
  called_held standing held e back registers step h r (call_refused end own) = tt
  called_held standing held e back registers step h r (call_stacks line room) =
      let more = more_frame held e.serial in
      (frame_first held e.serial, registers_more held (with_hold held e.serial Frame) registers more r, held_more held (with_hold held e.serial Frame) standing more h)

  called_out_held : (standing : List PlainFrame) (held : Holds) (back : ℕ) (registers : List PlainValue) (step : Step) → AreHeld held standing → All (IsValueHeld held) registers →
      IsCalledOut s standing held back registers step → KeepsHeld held step
  called_out_held standing held back registers step h r (out_refused end own) = tt
  called_out_held standing held back registers step h r (out_reaches e same current to known called) = called_held standing held e back registers step h r called

  came_held : (f : PlainFrame) (below : List PlainFrame) (held : Holds) (step : Step) → AreHeld held (f ∷ below) → Came s f below held step → KeepsHeld held step
  came_held f below held step h (it_ends end own) = tt
  came_held f below held step h (it_pauses place) = h
  came_held f below held step h (it_moves place line) = h
  came_held f below held step h (it_stores place to value now fetched) =
      let w = held_with_is held now value fetched.holds in
      (w.more.frames f.serial h.0, All-set (IsValueHeld now) f.registers to value w.first (registers_more held now f.registers w.more h.1), held_more held now below w.more h.2)
  came_held f below held step h (it_returns caller rest back value now is fetched) =
      let w = held_with_is held now value fetched.holds in
      let g : AreHeld now (caller ∷ rest) = held_more held now (caller ∷ rest) w.more (subst (AreHeld held) is h.2) in
      (g.0, All-set (IsValueHeld now) caller.registers back value w.first g.1, g.2)
  came_held f below held step h (it_calls place e back registers same is from called) =
      called_held (record f { place = place } ∷ below) held e back registers step h (all_from_registers held f registers h.1 from) called
  came_held f below held step h (it_calls_out place back registers same from called) =
      called_out_held (record f { place = place } ∷ below) held back registers step h (all_from_registers held f registers h.1 from) called

  -- a step holds what its frames name
  pub step_held : (held : Holds) (frames : List PlainFrame) → AreHeld held frames → KeepsHeld held (step_of s frames held)
  step_held held [] h = tt
  step_held held (f ∷ below) h = came_held f below held (executed s f below held (instr_at s f)) h (came s f below held (instr_at s f))

  -- so does what a turn begins with
  pub begun_held : (target : Mfa) (args : List PlainTerm) (held : Holds) (frames : List PlainFrame) → AreHeld held frames → KeepsHeld held (begun s target args held frames)
  begun_held target args held [] h =
      called_out_held [] held 0 (first_registers (owned_values args)) _ tt (λ k d l. area_held held _ (owned_area (IsLiteralHeld held) args k d l)) (called_out_is s [] held target 0 (owned_values args))
  begun_held target args held (f ∷ below) h = h
