-- What an instruction comes to, by the ways in which it changes frames and holds: each further law on steps is a line for each way.
use Rattle.std.proofs.Common.{◌≡◌, ◌⊎◌, ◌+◌, ℕ, zero, suc, refl, ap, inl, inr, Bool, true, false, IsTrue, All, List, [], ◌∷◌, length, nat_le, slice_set, Option, Some, None, Result, Ok, Err, option_and_then, option_map, unwrap_or, if◌then◌else◌}
use Rattle.std.proofs.lemmas.List.Elements.{All-cons, All-drop, All-head, All-nil, All-tail, All-take}
use Rattle.term_core.specs.declared.atom.Mfa.{Mfa}
use Rattle.term_core.specs.declared.hold.Kind.TheVariants.{Frame}
use Rattle.term_core.specs.declared.term.Term.{Term}
use Rattle.term_core.specs.Image.{is_immediate}
use Rattle.term_core.specs.Plain.{plain, term_of as plain_to_term}
use Rattle.term_core.specs.PlainTerm.{PlainTerm}
use Rattle.mod_core.specs.declared.code.Operand.{Operand}
use Rattle.mod_core.specs.declared.code.Operand.TheVariants.{Reg, Const}
use Rattle.mod_core.specs.declared.code.Instr.{Instr}
use Rattle.mod_core.specs.declared.code.Instr.TheVariants as instrs
use Rattle.mod_core.specs.ModuleImage.{instr_len}
use Rattle.server_core.specs.ServerState.{Entry}
use Rattle.machine_core.specs.declared.process.End.{End}
use Rattle.machine_core.specs.declared.process.Line.{Line}
use Rattle.machine_core.specs.declared.process.TheConstants.{MOST_FRAMES}
use Rattle.machine_core.specs.Holds.{Holds, is_among, is_full, with_hold}
use Rattle.machine_core.specs.Process.{PlainFrame, PlainValue, arguments_at, first_registers, literal, owned, owned_values, register_of, register_serials}
use Rattle.machine_core.specs.Turn.{Step, branched, called, called_by_name, called_out, computed, ends, executed, frame_at, goes_on, held_with, moved_past, put_found, put_value, returned, stacked, stored, tested, trace_of, with_register, yields}
use Rattle.machine_core.specs.Values.{difference_of, element_at, element_of, integer_of, is_same, less_of, operand_term, part_value, parts_of, sum_of, term_of, value_of}
use Rattle.machine_core.proofs.Calling.{dispatch_reaches}
use Rattle.machine_core.proofs.NamedAreas.{HasArea, all_first, registers_within}
use Rattle.machine_core.proofs.OwnEnds.{IsOwnEnd, IsOwnFault, difference_own, less_own, sum_own}
use Rattle.machine_core.specs.Reach.{IsKeyArea}
use Rattle.machine_core.specs.Reads.{IsCurrent, Reads, area_of, dispatched}

-- the area of one of a frame's literals
abbrev pub IsRegisterArea : PlainFrame → ℕ → Type 0
IsRegisterArea f serial = IsTrue (is_among (register_serials f.registers) serial)

-- an area with a term that may come into a register: that of one of the frame's literals, the frame's instance, or a key's
abbrev pub IsAtHand : Reads → PlainFrame → ℕ → Type 0
IsAtHand s f serial = IsRegisterArea f serial ⊎ ((serial ≡ f.serial) ⊎ IsKeyArea s serial)

-- a function is entered on these frames, or the process ends
pub data IsCalled (s : Reads) (standing : List PlainFrame) (held : Holds) (e : Entry) (back : ℕ) (registers : List PlainValue) : Step → Type 0 where
  call_refused : (end : End) → IsOwnEnd end → IsCalled s standing held e back registers (ends end)
  call_stacks : (line : List Line) → is_full held e.serial ≡ false → IsCalled s standing held e back registers (goes_on (frame_at s e back registers ∷ standing) (with_hold held e.serial Frame) line)

-- the same of a name: it reaches no function, or one of a current instance
pub data IsCalledOut (s : Reads) (standing : List PlainFrame) (held : Holds) (back : ℕ) (registers : List PlainValue) : Step → Type 0 where
  out_refused : (end : End) → IsOwnEnd end → IsCalledOut s standing held back registers (ends end)
  out_reaches : (e : Entry) (step : Step) → IsCurrent s e.serial → (to : Mfa) → dispatched s to ≡ Some e → IsCalled s standing held e back registers step → IsCalledOut s standing held back registers step

-- a value from these areas comes into a register, where its own area can be held
pub record Fetched (s : Reads) (f : PlainFrame) (held now : Holds) (value : PlainValue) : Type 0 where
  pub at_hand : HasArea (IsAtHand s f) value
  pub holds : held_with held value ≡ Some now

-- what an instruction of a frame on others comes to
pub data Came (s : Reads) (f : PlainFrame) (below : List PlainFrame) (held : Holds) : Step → Type 0 where
  it_ends : (end : End) → IsOwnEnd end → Came s f below held (ends end)
  it_pauses : (place : ℕ) → Came s f below held (yields (record f { place = place } ∷ below))
  it_moves : (place : ℕ) (line : List Line) → Came s f below held (goes_on (record f { place = place } ∷ below) held line)
  it_stores : (place to : ℕ) (value : PlainValue) (now : Holds) → Fetched s f held now value →
      Came s f below held (goes_on (record f { place = place; registers = slice_set f.registers to value } ∷ below) now [])
  it_returns : (caller : PlainFrame) (rest : List PlainFrame) (back : ℕ) (value : PlainValue) (now : Holds) → below ≡ caller ∷ rest → Fetched s f held now value →
      Came s f below held (goes_on (record caller { registers = slice_set caller.registers back value } ∷ rest) now [])
  it_calls : (place : ℕ) (e : Entry) (back : ℕ) (registers : List PlainValue) (step : Step) → e.serial ≡ f.serial → All (HasArea (IsRegisterArea f)) registers →
      IsCalled s (record f { place = place } ∷ below) held e back registers step → Came s f below held step
  it_calls_out : (place back : ℕ) (registers : List PlainValue) (step : Step) → All (HasArea (IsRegisterArea f)) registers →
      IsCalledOut s (record f { place = place } ∷ below) held back registers step → Came s f below held step

module _ (s : Reads) where
  called_case : (frames : List PlainFrame) (held : Holds) (e : Entry) (back : ℕ) (registers : List PlainValue) (line : List Line) (b c : Bool) → is_full held e.serial ≡ c →
      IsCalled s frames held e back registers (stacked frames held e.serial line (if b then None else if c then None else Some (frame_at s e back registers)))
  called_case frames held e back registers line true c full = call_refused _ tt
  called_case frames held e back registers line false true full = call_refused _ tt
  called_case frames held e back registers line false false full = call_stacks line full

  -- a call of an instance's function
  pub called_is : (frames : List PlainFrame) (held : Holds) (e : Entry) (to : Mfa) (back : ℕ) (args : List PlainValue) → IsCalled s frames held e back (first_registers args) (called s frames held e to back args)
  called_is frames held e to back args = called_case frames held e back (first_registers args) (trace_of s e to args) (nat_le MOST_FRAMES (length frames)) (is_full held e.serial) refl

  by_name_case : (frames : List PlainFrame) (held : Holds) (to : Mfa) (back : ℕ) (args : List PlainValue) (o : Option Entry) → dispatched s to ≡ o →
      IsCalledOut s frames held back (first_registers args) (called_by_name s frames held to back args o)
  by_name_case frames held to back args None d = out_refused _ tt
  by_name_case frames held to back args (Some e) d = out_reaches e _ (dispatch_reaches s to e d).current to d (called_is frames held e to back args)

  -- an external call
  pub called_out_is : (frames : List PlainFrame) (held : Holds) (to : Mfa) (back : ℕ) (args : List PlainValue) → IsCalledOut s frames held back (first_registers args) (called_out s frames held to back args)
  called_out_is frames held to back args = by_name_case frames held to back args (dispatched s to) refl

module _ (Area : ℕ → Type 0) where
  -- a constant's area
  value_in_area : (serial : ℕ) (term : Term) (b : Bool) → Area serial → HasArea Area (if b then owned term else literal serial term)
  value_in_area serial term true h = tt
  value_in_area serial term false h = h

  register_area_of : (registers : List PlainValue) (register : ℕ) → All (HasArea Area) registers → HasArea Area (register_of registers register)
  register_area_of [] register h = tt
  register_area_of (value ∷ values) zero h = All-head (HasArea Area) value values h
  register_area_of (value ∷ values) (suc register) h = register_area_of values register (All-tail (HasArea Area) value values h)

  arguments_within : (registers : List PlainValue) (at count : ℕ) → All (HasArea Area) registers → All (HasArea Area) (first_registers (arguments_at registers at count))
  arguments_within registers at count h = all_first (HasArea Area) (arguments_at registers at count) tt (All-take (HasArea Area) count _ (All-drop (HasArea Area) at registers h))

  part_area : (value : PlainValue) (part : PlainTerm) → HasArea Area value → HasArea Area (part_value value part)
  part_area (owned term) part h = tt
  part_area (literal serial term) part h = value_in_area serial (plain_to_term part) (is_immediate (plain (plain_to_term part))) h

module _ (Area : ℕ → Type 0) where
  owned_all : (args : List PlainTerm) → All (HasArea Area) (owned_values args)
  owned_all [] = All-nil (HasArea Area)
  owned_all (term ∷ terms) = All-cons (HasArea Area) (owned (plain_to_term term)) (owned_values terms) tt (owned_all terms)

  -- a target's registers hold no literal
  pub owned_area : (args : List PlainTerm) → All (HasArea Area) (first_registers (owned_values args))
  owned_area args = all_first (HasArea Area) (owned_values args) tt (owned_all args)

module _ (s : Reads) (f : PlainFrame) where
  register_kept : (n : ℕ) → is_among (register_serials f.registers) n ≡ true → IsAtHand s f n
  register_kept n h = inl h

  -- a value that an operand is
  operand_at_hand : (operand : Operand) → HasArea (IsAtHand s f) (value_of f operand)
  operand_at_hand (Reg register) = register_area_of (IsAtHand s f) f.registers register (registers_within (IsAtHand s f) f.registers register_kept)
  operand_at_hand (Const term) = value_in_area (IsAtHand s f) f.serial term (is_immediate (plain term)) (inr (inl refl))

  arguments_from : (at count : ℕ) → All (HasArea (IsRegisterArea f)) (first_registers (arguments_at f.registers at count))
  arguments_from at count = arguments_within (IsRegisterArea f) f.registers at count (registers_within (IsRegisterArea f) f.registers (λ n h. h))

  -- a value that is there
  abbrev AreAtHand : Option PlainValue → Type 0
  AreAtHand None = Unit {0}
  AreAtHand (Some value) = HasArea (IsAtHand s f) value

  key_at_hand : (key : ℕ) (o : Option PlainValue) → s.key key ≡ o → AreAtHand o
  key_at_hand key None e = tt
  key_at_hand key (Some (owned term)) e = tt
  key_at_hand key (Some (literal serial term)) e = inr (inr (key, ap (option_and_then area_of) e))

  other_at_hand : (o : Option PlainValue) (other : PlainValue) → AreAtHand o → HasArea (IsAtHand s f) other → HasArea (IsAtHand s f) (unwrap_or o other)
  other_at_hand None other h g = g
  other_at_hand (Some value) other h g = h

  element_at_hand : (value : PlainValue) (o : Option PlainTerm) → HasArea (IsAtHand s f) value → AreAtHand (option_map (part_value value) o)
  element_at_hand value None h = tt
  element_at_hand value (Some part) h = part_area (IsAtHand s f) value part h

module _ (s : Reads) (f : PlainFrame) (below : List PlainFrame) (held : Holds) where
  computed_came : (i : Instr) (to : ℕ) (r : Result Term End) → IsOwnFault r → Came s f below held (computed f below held i to r)
  computed_came i to (Ok term) h = it_stores (f.place + instr_len i) to (owned term) held (record { at_hand = tt; holds = refl })
  computed_came i to (Err end) h = it_ends end h

  branched_came : (i : Instr) (target : ℕ) (b : Bool) → Came s f below held (goes_on (branched f i target b ∷ below) held [])
  branched_came i target true = it_moves target []
  branched_came i target false = it_moves (f.place + instr_len i) []

  tested_came : (i : Instr) (target : ℕ) (r : Result Bool End) → IsOwnFault r → Came s f below held (tested f below held i target r)
  tested_came i target (Ok b) h = branched_came i target b
  tested_came i target (Err end) h = it_ends end h

  stored_came : (i : Instr) (to : ℕ) (value : PlainValue) (o : Option Holds) → HasArea (IsAtHand s f) value → held_with held value ≡ o → Came s f below held (stored (with_register f i to value) below o)
  stored_came i to value None h e = it_ends _ tt
  stored_came i to value (Some now) h e = it_stores (f.place + instr_len i) to value now (record { at_hand = h; holds = e })

  put_came : (i : Instr) (to : ℕ) (value : PlainValue) → HasArea (IsAtHand s f) value → Came s f below held (put_value f below held i to value)
  put_came i to value h = stored_came i to value (held_with held value) h refl

  found_came : (i : Instr) (to : ℕ) (o : Option PlainValue) → AreAtHand s f o → Came s f below held (put_found f below held i to o)
  found_came i to None h = it_ends _ tt
  found_came i to (Some value) h = put_came i to value h

  given_back : (caller : PlainFrame) (rest : List PlainFrame) (back : ℕ) (value : PlainValue) (o : Option Holds) → below ≡ caller ∷ rest → HasArea (IsAtHand s f) value → held_with held value ≡ o →
      Came s f below held (stored (record caller { registers = slice_set caller.registers back value }) rest o)
  given_back caller rest back value None b h e = it_ends _ tt
  given_back caller rest back value (Some now) b h e = it_returns caller rest back value now b (record { at_hand = h; holds = e })

  returned_came : (callers : List PlainFrame) (back : ℕ) (value : PlainValue) → below ≡ callers → HasArea (IsAtHand s f) value → Came s f below held (returned callers held back value)
  returned_came [] back value b h = it_ends _ tt
  returned_came (caller ∷ rest) back value b h = given_back caller rest back value (held_with held value) b h refl

  -- what each instruction comes to is one of these
  pub came : (i : Instr) → Came s f below held (executed s f below held i)
  came (instrs.Move from to) = put_came (instrs.Move from to) to (value_of f from) (operand_at_hand s f from)
  came (instrs.Add a b to) = computed_came (instrs.Add a b to) to (sum_of (operand_term f a) (operand_term f b)) (sum_own (operand_term f a) (operand_term f b))
  came (instrs.Sub a b to) = computed_came (instrs.Sub a b to) to (difference_of (operand_term f a) (operand_term f b)) (difference_own (operand_term f a) (operand_term f b))
  came (instrs.Eq a b target) = tested_came (instrs.Eq a b target) target (Ok (is_same (operand_term f a) (operand_term f b))) tt
  came (instrs.Less a b target) = tested_came (instrs.Less a b target) target (less_of (operand_term f a) (operand_term f b)) (less_own (operand_term f a) (operand_term f b))
  came (instrs.Jump target) = it_moves target []
  came (instrs.Call function at) =
      it_calls (f.place + instr_len (instrs.Call function at)) (record { serial = f.serial; function = function }) at _ _ refl (arguments_from s f at _)
      (called_is s (moved_past f (instrs.Call function at) ∷ below) held (record { serial = f.serial; function = function }) _ at _)
  came (instrs.CallExt to at) =
      it_calls_out (f.place + instr_len (instrs.CallExt to at)) at _ _ (arguments_from s f at to.arity) (called_out_is s (moved_past f (instrs.CallExt to at) ∷ below) held to at _)
  came (instrs.Ret value) = returned_came below f.back (value_of f value) refl (operand_at_hand s f value)
  came (instrs.Pget key to) = found_came (instrs.Pget key to) to (s.key key.0) (key_at_hand s f key.0 (s.key key.0) refl)
  came (instrs.PgetOr key other to) =
      put_came (instrs.PgetOr key other to) to _ (other_at_hand s f (s.key key.0) (value_of f other) (key_at_hand s f key.0 (s.key key.0) refl) (operand_at_hand s f other))
  came (instrs.Elem index from to) =
      found_came (instrs.Elem index from to) to (element_of (operand_term f index) (value_of f from))
      (element_at_hand s f (value_of f from) (element_at (parts_of (term_of (value_of f from))) (integer_of (operand_term f index))) (operand_at_hand s f from))
  came (instrs.Print value) = it_moves (f.place + instr_len (instrs.Print value)) _
  came instrs.Yield = it_pauses (f.place + instr_len instrs.Yield)
