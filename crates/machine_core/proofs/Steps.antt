-- That what a part of the machine says of an instruction is what is asked of the whole.
use Rattle.std.proofs.Common.{◌≡◌, ◌∙◌, ◌+◌, ℕ, sym, ap, subst, All, List, [], ◌∷◌, ◌++◌, slice_set, Some, Result, Ok, Err, IfOk, OnOk, inl}
use Rattle.std.proofs.lemmas.List.Elements.{All-cons, All-head, All-nil, All-tail}
use Rattle.term_core.specs.declared.atom.Mfa.{Mfa}
use Rattle.term_core.specs.declared.no_memory.NoMemory.{NoMemory}
use Rattle.mod_core.specs.declared.code.Instr.{Instr}
use Rattle.mod_core.specs.declared.code.Instr.TheVariants as instrs
use Rattle.server_core.specs.ServerState.{Entry}
use Rattle.machine_core.specs.declared.op.Op.{Op}
use Rattle.machine_core.specs.declared.outcome.Outcome.{Outcome}
use Rattle.machine_core.specs.declared.process.Frame.{Frame as CodeFrame}
use Rattle.machine_core.specs.declared.process.Line.{Line}
use Rattle.machine_core.specs.declared.process.Value.{Value}
use Rattle.machine_core.specs.declared.process.Value.TheVariants.{Owned, Literal}
use Rattle.machine_core.specs.Decode.{instr_shown}
use Rattle.machine_core.specs.Holds.{Holds}
use Rattle.machine_core.specs.View.{AreValues, HasValues, IsLawful, IsValue, Shown}
use Rattle.machine_core.specs.Process.{PlainFrame, PlainValue, arguments_at, frame_of, frames_of, value_shown, values_shown}
use Rattle.machine_core.specs.Turn.{IsPlaced, called, called_by_name, executed, held_with, returned, stored}
use Rattle.machine_core.specs.Stand.{AreReady, ComesTo, HasCallee, IsReadyFrame, IsUsable, IsValueHeld, Stand, stand_after, stand_of}
use Rattle.machine_core.proofs.CodeNames.{frames_of-push}
use Rattle.machine_core.proofs.Placing.{MayCall, next_calls}
use Rattle.machine_core.specs.Reads.{Reads, dispatched, instr_at, mfa_of}

-- ---- instructions

-- of an instruction that the topmost frame and the holds alone show
pub comes_to : (r : Result Outcome NoMemory) (shown : Shown) (held now : Holds) (top after : CodeFrame) (op other : Op) (below : List PlainFrame) (made : List Line) → other ≡ op →
    IfOk r (λ o. ComesTo shown held top op o after now) →
    IfOk r (λ o. stand_after held made (executed shown.reads (frame_of shown.words top) below held (instr_shown (shown.words top.code.area.serial) other)) ≡ stand_of o (frame_of shown.words after ∷ below) now made)
comes_to (Ok o) shown held now top after op other below made e h = ap (λ p. stand_after held made (executed shown.reads (frame_of shown.words top) below held (instr_shown (shown.words top.code.area.serial) p))) e ∙ h below made
comes_to (Err refused) shown held now top after op other below made e h = tt

-- of one that holds what was held
pub comes_still : (r : Result Outcome NoMemory) (shown : Shown) (held now : Holds) (top after : CodeFrame) (op other : Op) (below : List PlainFrame) (made : List Line) → other ≡ op → now ≡ held →
    IfOk r (λ o. ComesTo shown held top op o after held) →
    IfOk r (λ o. stand_after held made (executed shown.reads (frame_of shown.words top) below held (instr_shown (shown.words top.code.area.serial) other)) ≡ stand_of o (frame_of shown.words after ∷ below) now made)
comes_still (Ok o) shown held now top after op other below made e n h =
    ap (λ p. stand_after held made (executed shown.reads (frame_of shown.words top) below held (instr_shown (shown.words top.code.area.serial) p))) e ∙ h below made ∙ ap (λ k. stand_of o (frame_of shown.words after ∷ below) k made) (sym n)
comes_still (Err refused) shown held now top after op other below made e n h = tt

-- of the same instruction
pub comes_same : (r : Result Outcome NoMemory) (shown : Shown) (held : Holds) (top : CodeFrame) (op other : Op) (below : List PlainFrame) (made : List Line) (stand : Outcome → Stand) → other ≡ op →
    IfOk r (λ o. stand_after held made (executed shown.reads (frame_of shown.words top) below held (instr_shown (shown.words top.code.area.serial) op)) ≡ stand o) →
    IfOk r (λ o. stand_after held made (executed shown.reads (frame_of shown.words top) below held (instr_shown (shown.words top.code.area.serial) other)) ≡ stand o)
comes_same (Ok o) shown held top op other below made stand e h = ap (λ p. stand_after held made (executed shown.reads (frame_of shown.words top) below held (instr_shown (shown.words top.code.area.serial) p))) e ∙ h
comes_same (Err refused) shown held top op other below made stand e h = tt

-- of one that makes a line
pub comes_printed : (r : Result Outcome NoMemory) (shown : Shown) (held now : Holds) (top after : CodeFrame) (op other : Op) (below : List PlainFrame) (made lines : List Line) → other ≡ op → now ≡ held →
    IfOk r (λ o. stand_after held made (executed shown.reads (frame_of shown.words top) below held (instr_shown (shown.words top.code.area.serial) op)) ≡ stand_of o (frame_of shown.words after ∷ below) held lines) →
    IfOk r (λ o. stand_after held made (executed shown.reads (frame_of shown.words top) below held (instr_shown (shown.words top.code.area.serial) other)) ≡ stand_of o (frame_of shown.words after ∷ below) now lines)
comes_printed (Ok o) shown held now top after op other below made lines e n h =
    ap (λ p. stand_after held made (executed shown.reads (frame_of shown.words top) below held (instr_shown (shown.words top.code.area.serial) p))) e ∙ h ∙ ap (λ k. stand_of o (frame_of shown.words after ∷ below) k lines) (sym n)
comes_printed (Err refused) shown held now top after op other below made lines e n h = tt

-- what holds anyway holds of an answer
pub on_any : {T E : Type 0} (r : Result T E) (P : Type 0) → P → OnOk r P
on_any (Ok x) P h = h
on_any (Err e) P h = tt

-- an instruction that was read from a view, which shows and holds what it did
pub executes_read : (r : Result Outcome NoMemory) (shown seen : Shown) (held still now : Holds) (top after : CodeFrame) (below left : List CodeFrame) (op : Op) (i : Instr) (made lines : List Line) → seen ≡ shown → still ≡ held →
    instr_shown (shown.words top.code.area.serial) op ≡ i →
    IfOk r (λ o. stand_after still made (executed seen.reads (frame_of seen.words top) (frames_of seen.words below) still (instr_shown (seen.words top.code.area.serial) op)) ≡ stand_of o (frame_of seen.words after ∷ frames_of seen.words left) now lines) →
    IfOk r (λ o. stand_after held made (executed shown.reads (frame_of shown.words top) (frames_of shown.words below) held i) ≡ stand_of o (frame_of shown.words after ∷ frames_of shown.words left) now lines)
executes_read (Ok o) shown seen held still now top after below left op i made lines s h e is =
    ap (λ j. stand_after held made (executed shown.reads (frame_of shown.words top) (frames_of shown.words below) held j)) (sym e)
    ∙ subst (λ (v : Shown). stand_after held made (executed v.reads (frame_of v.words top) (frames_of v.words below) held (instr_shown (v.words top.code.area.serial) op)) ≡ stand_of o (frame_of v.words after ∷ frames_of v.words left) now lines) s
    (subst (λ (k : Holds). stand_after k made (executed seen.reads (frame_of seen.words top) (frames_of seen.words below) k (instr_shown (seen.words top.code.area.serial) op)) ≡ stand_of o (frame_of seen.words after ∷ frames_of seen.words left) now lines) h is)
executes_read (Err refused) shown seen held still now top after below left op i made lines s h e is = tt

-- ---- calls

-- what a call that was made of a function leaves
abbrev pub Calls : Shown → Holds → CodeFrame → List CodeFrame → Entry → Mfa → ℕ → Result Outcome NoMemory → (Shown → Outcome → Stand) → List Line → Type 0
Calls shown held top below e to at r stand made =
    IfOk r (λ o. stand_after held made (called shown.reads (record (frame_of shown.words top) { place = top.place + 3 } ∷ frames_of shown.words below) held e to at (arguments_at (values_shown shown.words top.registers) at to.arity)) ≡ stand shown o)

calls_seen : (r : Result Outcome NoMemory) (shown seen : Shown) (held still : Holds) (top : CodeFrame) (below : List CodeFrame) (e : Entry) (to : Mfa) (at : ℕ) (stand : Shown → Outcome → Stand) (made : List Line) → seen ≡ shown → still ≡ held →
    Calls seen still top below e to at r stand made → Calls shown held top below e to at r stand made
calls_seen r shown seen held still top below e to at stand made s h is =
    subst (λ (v : Shown). Calls v held top below e to at r stand made) s (subst (λ (k : Holds). Calls seen k top below e to at r stand made) h is)

-- an external call
pub called_outside : (r : Result Outcome NoMemory) (shown seen : Shown) (held still : Holds) (top : CodeFrame) (below : List CodeFrame) (e : Entry) (to : Mfa) (at : ℕ) (stand : Shown → Outcome → Stand) (made : List Line) → seen ≡ shown → still ≡ held →
    Some e ≡ dispatched shown.reads to → Calls seen still top below e to at r stand made →
    IfOk r (λ o. stand_after held made (executed shown.reads (frame_of shown.words top) (frames_of shown.words below) held (instrs.CallExt to at)) ≡ stand shown o)
called_outside (Ok o) shown seen held still top below e to at stand made s h d is =
    ap (λ x. stand_after held made (called_by_name shown.reads (record (frame_of shown.words top) { place = top.place + 3 } ∷ frames_of shown.words below) held to at (arguments_at (values_shown shown.words top.registers) at to.arity) x)) (sym d)
    ∙ calls_seen (Ok o) shown seen held still top below e to at stand made s h is
called_outside (Err refused) shown seen held still top below e to at stand made s h d is = tt

-- a local one
pub called_inside : (r : Result Outcome NoMemory) (shown seen : Shown) (held still : Holds) (top : CodeFrame) (below : List CodeFrame) (function : ℕ) (to : Mfa) (at : ℕ) (stand : Shown → Outcome → Stand) (made : List Line) → seen ≡ shown → still ≡ held →
    to ≡ mfa_of shown.reads (record { serial = top.code.area.serial; function = function }) → Calls seen still top below (record { serial = top.code.area.serial; function = function }) to at r stand made →
    IfOk r (λ o. stand_after held made (executed shown.reads (frame_of shown.words top) (frames_of shown.words below) held (instrs.Call function at)) ≡ stand shown o)
called_inside (Ok o) shown seen held still top below function to at stand made s h d is =
    ap (λ (t : Mfa). stand_after held made (called shown.reads (record (frame_of shown.words top) { place = top.place + 3 } ∷ frames_of shown.words below) held (record { serial = top.code.area.serial; function = function }) t at (arguments_at (values_shown shown.words top.registers) at t.arity))) (sym d)
    ∙ calls_seen (Ok o) shown seen held still top below (record { serial = top.code.area.serial; function = function }) to at stand made s h is
called_inside (Err refused) shown seen held still top below function to at stand made s h d is = tt

-- ---- returns

-- the frame below the topmost gets the value
pub leaves_to : (r : Result Outcome NoMemory) (shown : Shown) (held now : Holds) (caller after : CodeFrame) (below rest : List CodeFrame) (back : ℕ) (value : Value) (other : PlainValue) (made : List Line) → below ≡ rest ++ caller ∷ [] → value_shown shown.words value ≡ other →
    ((left : List PlainFrame) (made : List Line) → IfOk r (λ o. stand_after held made (stored (record (frame_of shown.words caller) { registers = slice_set (values_shown shown.words caller.registers) back (value_shown shown.words value) }) left (held_with held (value_shown shown.words value))) ≡ stand_of o (frame_of shown.words after ∷ left) now made)) →
    IfOk r (λ o. stand_after held made (returned (frames_of shown.words below) held back other) ≡ stand_of o (frame_of shown.words after ∷ frames_of shown.words rest) now made)
leaves_to (Ok o) shown held now caller after below rest back value other made b v h =
    ap (λ fs. stand_after held made (returned fs held back other)) (ap (frames_of shown.words) b ∙ frames_of-push shown.words rest caller)
    ∙ ap (λ w. stand_after held made (stored (record (frame_of shown.words caller) { registers = slice_set (values_shown shown.words caller.registers) back w }) (frames_of shown.words rest) (held_with held w))) (sym v)
    ∙ h (frames_of shown.words rest) made
leaves_to (Err refused) shown held now caller after below rest back value other made b v h = tt

popped : (P : CodeFrame → Type 0) (fs : List CodeFrame) (f : CodeFrame) → All P (fs ++ f ∷ []) → All P fs × P f
popped P [] f h = (All-nil P, All-head P f [] h)
popped P (g ∷ fs) f h = let r = popped P fs f (All-tail P g (fs ++ f ∷ []) h) in (All-cons P g fs (All-head P g (fs ++ f ∷ []) h) r.0, r.1)

-- frames and the last of them have values
pub values_popped : (shown : Shown) (below rest : List CodeFrame) (caller : CodeFrame) → below ≡ rest ++ caller ∷ [] → AreValues shown below → AreValues shown rest × HasValues shown caller
values_popped shown below rest caller e h = popped (HasValues shown) rest caller (subst (AreValues shown) e h)

-- ---- a frame that is ready

usable_one : (shown : Shown) (held : Holds) (value : Value) → IsValue shown value → IsValueHeld held (value_shown shown.words value) → IsUsable shown held value
usable_one shown held (Owned term) is here = tt
usable_one shown held (Literal at) is here = (is, inl here)

pub all_held_usable : (shown : Shown) (held : Holds) (values : List Value) → All (IsValue shown) values → All (IsValueHeld held) (values_shown shown.words values) → All (IsUsable shown held) values
all_held_usable shown held [] is here = All-nil (IsUsable shown held)
all_held_usable shown held (v ∷ vs) is here =
    All-cons (IsUsable shown held) v vs
    (usable_one shown held v (All-head (IsValue shown) v vs is) (All-head (IsValueHeld held) (value_shown shown.words v) (values_shown shown.words vs) here))
    (all_held_usable shown held vs (All-tail (IsValue shown) v vs is) (All-tail (IsValueHeld held) (value_shown shown.words v) (values_shown shown.words vs) here))

-- the topmost frame is
pub top_ready : (shown seen : Shown) (held still : Holds) (top : CodeFrame) (below : List CodeFrame) → seen ≡ shown → still ≡ held → AreReady shown held top below → IsReadyFrame seen still top
top_ready shown seen held still top below s h ready =
    let named = ready.frames.named in
    subst (λ (v : Shown). IsReadyFrame v still top) (sym s) (subst (λ (k : Holds). IsReadyFrame shown k top) (sym h)
    (record { standing = named.0; stands = ready.top_values.0; registers = all_held_usable shown held top.registers ready.top_values.1 named.1 }))

-- ---- local calls

-- where a local call goes, there is a function
callee_of : (r : Reads) (f : PlainFrame) (i : Instr) → MayCall r f i → HasCallee r f i
callee_of r f (instrs.Call function at) h = h.0
callee_of r f i h = tt

-- the same of the instruction that was read
pub callee_read : (shown seen : Shown) (top : CodeFrame) (op : Op) → IsLawful shown → IsPlaced shown.reads (frame_of shown.words top) → seen ≡ shown → instr_shown (shown.words top.code.area.serial) op ≡ instr_at shown.reads (frame_of shown.words top) →
    HasCallee seen.reads (frame_of seen.words top) (instr_shown (seen.words top.code.area.serial) op)
callee_read shown seen top op lawful p s e =
    subst (λ (v : Shown). HasCallee v.reads (frame_of v.words top) (instr_shown (v.words top.code.area.serial) op)) (sym s)
    (subst (HasCallee shown.reads (frame_of shown.words top)) (sym e) (callee_of shown.reads (frame_of shown.words top) (instr_at shown.reads (frame_of shown.words top)) (next_calls shown (frame_of shown.words top) lawful p)))
