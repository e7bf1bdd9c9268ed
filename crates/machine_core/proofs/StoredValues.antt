-- What a value that comes into a register leaves, and that a frame's values stay values.
use Rattle.std.proofs.Common.{◌≡◌, ◌∙◌, ◌+◌, ℕ, zero, suc, refl, sym, ap, Bool, true, false, List, [], ◌∷◌, ◌++◌, slice_set, Option, Some, None, Result, Ok, Err, IfOk, if◌then◌else◌}
use Rattle.std.proofs.lemmas.List.{append-nil}
use Rattle.std.proofs.Common.{subst, option_map, unwrap_or}
use Rattle.term_core.specs.declared.no_memory.NoMemory.{NoMemory}
use Rattle.term_core.specs.declared.term.Term.{Term}
use Rattle.mod_core.specs.declared.code.Instr.{Instr}
use Rattle.mod_core.specs.ModuleImage.{instr_len}
use Rattle.machine_core.specs.declared.op.Op.{Op}
use Rattle.machine_core.specs.declared.op.Source.{Source}
use Rattle.machine_core.specs.declared.outcome.Outcome.{Outcome}
use Rattle.machine_core.specs.declared.process.End.TheVariants.{SystemLimit}
use Rattle.machine_core.specs.declared.process.Frame.{Frame}
use Rattle.machine_core.specs.declared.process.Line.{Line}
use Rattle.machine_core.specs.declared.process.Value.{Value}
use Rattle.machine_core.specs.Decode.{instr_shown, operand_shown}
use Rattle.machine_core.specs.Holds.{Holds}
use Rattle.machine_core.specs.Process.{PlainFrame, PlainValue, Words, frame_of, value_shown, values_shown}
use Rattle.machine_core.specs.Stand.{ComesTo, IsReadyFrame, IsSource, IsValueOf, over, runs, stand_after, stand_of, stored_found}
use Rattle.machine_core.specs.Turn.{Step, executed, held_with, put_found, stored}
use Rattle.machine_core.specs.Values.{element_of, value_of}
use Rattle.machine_core.specs.View.{Shown}

-- a register of the code's that is set is one that is set
pub set_shown : (words : Words) (values : List Value) (register : ℕ) (value : Value) → values_shown words (slice_set values register value) ≡ slice_set (values_shown words values) register (value_shown words value)
set_shown words [] register value = refl
set_shown words (v ∷ vs) zero value = refl
set_shown words (v ∷ vs) (suc register) value = ap (λ us. value_shown words v ∷ us) (set_shown words vs register value)

-- a value whose area is one too many
pub store_refused : (held now : Holds) (made : List Line) (f : PlainFrame) (below : List PlainFrame) (o : Option Holds) (kept : Bool) → o ≡ (if kept then Some now else None) → kept ≡ false → now ≡ held →
    stand_after held made (stored f below o) ≡ over SystemLimit now made
store_refused held now made f below o kept e k h =
    ap (λ x. stand_after held made (stored f below x)) (e ∙ ap (λ b. if b then Some now else None) k) ∙ ap (λ x. over SystemLimit x made) (sym h)

-- a value that is kept
pub store_kept : (held now : Holds) (made : List Line) (f g : PlainFrame) (below : List PlainFrame) (o : Option Holds) (kept : Bool) → o ≡ (if kept then Some now else None) → kept ≡ true → f ≡ g →
    stand_after held made (stored f below o) ≡ runs (g ∷ below) now made
store_kept held now made f g below o kept e k h =
    ap (λ x. stand_after held made (stored f below x)) (e ∙ ap (λ b. if b then Some now else None) k) ∙ ap (λ x. runs (x ∷ below) now (made ++ [])) h ∙ ap (runs (g ∷ below) now) (append-nil made)

-- ---- instructions that give a register a value

-- what is said of a value that is stored
abbrev pub Stores : Shown → Holds → Frame → ℕ → ℕ → PlainValue → Result Outcome NoMemory → Frame → Holds → Type 0
Stores shown held top len to value r after now = (below : List PlainFrame) (made : List Line) →
    IfOk r (λ o. stand_after held made (stored (record (frame_of shown.words top) { place = top.place + len; registers = slice_set (values_shown shown.words top.registers) to value }) below (held_with held value)) ≡ stand_of o (frame_of shown.words after ∷ below) now made)

-- and of one that was found
abbrev pub StoresFound : Shown → Holds → Frame → ℕ → ℕ → Option PlainValue → Result Outcome NoMemory → Frame → Holds → Type 0
StoresFound shown held top len to value r after now = (below : List PlainFrame) (made : List Line) →
    IfOk r (λ o. stand_after held made (stored_found (frame_of shown.words top) (top.place + len) to below held value) ≡ stand_of o (frame_of shown.words after ∷ below) now made)

-- an instruction comes to what its step does
pub comes : (r : Result Outcome NoMemory) (shown : Shown) (held now : Holds) (top after : Frame) (op : Op) (step : List PlainFrame → Step) →
    ((below : List PlainFrame) → executed shown.reads (frame_of shown.words top) below held (instr_shown (shown.words top.code.area.serial) op) ≡ step below) →
    ((below : List PlainFrame) (made : List Line) → IfOk r (λ o. stand_after held made (step below) ≡ stand_of o (frame_of shown.words after ∷ below) now made)) →
    IfOk r (λ o. ComesTo shown held top op o after now)
comes (Ok o) shown held now top after op step e h = λ below made. ap (stand_after held made) (e below) ∙ h below made
comes (Err refused) shown held now top after op step e h = tt

-- so does one that stores a value
pub comes_stored : (r : Result Outcome NoMemory) (shown : Shown) (held now : Holds) (top after : Frame) (op : Op) (len to : ℕ) (value other : PlainValue) →
    ((below : List PlainFrame) → executed shown.reads (frame_of shown.words top) below held (instr_shown (shown.words top.code.area.serial) op)
    ≡ stored (record (frame_of shown.words top) { place = top.place + len; registers = slice_set (values_shown shown.words top.registers) to other }) below (held_with held other)) →
    value ≡ other → Stores shown held top len to value r after now → IfOk r (λ o. ComesTo shown held top op o after now)
comes_stored r shown held now top after op len to value other e same h =
    comes r shown held now top after op (λ below. stored (record (frame_of shown.words top) { place = top.place + len; registers = slice_set (values_shown shown.words top.registers) to value }) below (held_with held value))
    (λ below. e below ∙ ap (λ v. stored (record (frame_of shown.words top) { place = top.place + len; registers = slice_set (values_shown shown.words top.registers) to v }) below (held_with held v)) (sym same)) h

found_step : (f : PlainFrame) (below : List PlainFrame) (held : Holds) (i : Instr) (to : ℕ) (o : Option PlainValue) → put_found f below held i to o ≡ stored_found f (f.place + instr_len i) to below held o
found_step f below held i to None = refl
found_step f below held i to (Some value) = refl

-- and one that stores what was found
pub comes_found : (r : Result Outcome NoMemory) (shown : Shown) (held now : Holds) (top after : Frame) (op : Op) (i : Instr) (len to : ℕ) (value other : Option PlainValue) → instr_len i ≡ len →
    ((below : List PlainFrame) → executed shown.reads (frame_of shown.words top) below held (instr_shown (shown.words top.code.area.serial) op) ≡ put_found (frame_of shown.words top) below held i to other) →
    value ≡ other → StoresFound shown held top len to value r after now → IfOk r (λ o. ComesTo shown held top op o after now)
comes_found r shown held now top after op i len to value other l e same h =
    comes r shown held now top after op (λ below. stored_found (frame_of shown.words top) (top.place + len) to below held value)
    (λ below. e below ∙ found_step (frame_of shown.words top) below held i to other ∙ ap (λ n. stored_found (frame_of shown.words top) (top.place + n) to below held other) l
    ∙ ap (stored_found (frame_of shown.words top) (top.place + len) to below held) (sym same)) h

-- the same where the view shows and holds what it did
pub stores_seen : (r : Result Outcome NoMemory) (shown seen : Shown) (held still now : Holds) (top after : Frame) (len to : ℕ) (value : Value) → seen ≡ shown → still ≡ held →
    Stores seen still top len to (value_shown seen.words value) r after now → Stores shown held top len to (value_shown shown.words value) r after now
stores_seen r shown seen held still now top after len to value s h is =
    subst (λ (v : Shown). Stores v held top len to (value_shown v.words value) r after now) s (subst (λ (k : Holds). Stores seen k top len to (value_shown seen.words value) r after now) h is)

pub found_seen : (r : Result Outcome NoMemory) (shown seen : Shown) (held still now : Holds) (top after : Frame) (len to : ℕ) (value : Option Value) → seen ≡ shown → still ≡ held →
    StoresFound seen still top len to (option_map (value_shown seen.words) value) r after now → StoresFound shown held top len to (option_map (value_shown shown.words) value) r after now
found_seen r shown seen held still now top after len to value s h is =
    subst (λ (v : Shown). StoresFound v held top len to (option_map (value_shown v.words) value) r after now) s
    (subst (λ (k : Holds). StoresFound seen k top len to (option_map (value_shown seen.words) value) r after now) h is)

-- a value that was found is stored
pub stores_found : (r : Result Outcome NoMemory) (shown : Shown) (held now : Holds) (top after : Frame) (len to : ℕ) (found : Option Value) (value : Value) → found ≡ Some value →
    Stores shown held top len to (value_shown shown.words value) r after now → StoresFound shown held top len to (option_map (value_shown shown.words) found) r after now
stores_found r shown held now top after len to found value e h = subst (λ (o : Option Value). StoresFound shown held top len to (option_map (value_shown shown.words) o) r after now) (sym e) h

-- ---- what is read for it

-- the other value where a key holds none
pub key_or : (r : Result Value NoMemory) (shown : Shown) (held : Holds) (f : Frame) (other : Source) (key : ℕ) → None ≡ shown.reads.key key → IsReadyFrame shown held f → IsSource shown f.code.area other →
    IfOk r (λ value. (shown : Shown) (held : Holds) → IsReadyFrame shown held f → IsSource shown f.code.area other → IsValueOf shown held f other value) →
    IfOk r (λ value. value_shown shown.words value ≡ unwrap_or (shown.reads.key key) (value_of (frame_of shown.words f) (operand_shown (shown.words f.code.area.serial) other)))
key_or (Ok value) shown held f other key none ready is h = (h shown held ready is).shows ∙ ap (λ o. unwrap_or o (value_of (frame_of shown.words f) (operand_shown (shown.words f.code.area.serial) other))) none
key_or (Err refused) shown held f other key none ready is h = tt

-- the element of two sources
pub element_read : (r : Result (Option Value) NoMemory) (shown seen : Shown) (index : Term) (index_term : Term) (from : Value) (value : PlainValue) → seen ≡ shown → index ≡ index_term → value_shown shown.words from ≡ value →
    IfOk r (λ found. option_map (value_shown seen.words) found ≡ element_of index (value_shown seen.words from)) → IfOk r (λ found. option_map (value_shown shown.words) found ≡ element_of index_term value)
element_read (Ok found) shown seen index index_term from value s i v h =
    let k : option_map (value_shown shown.words) found ≡ element_of index (value_shown shown.words from) = subst (λ (w : Shown). option_map (value_shown w.words) found ≡ element_of index (value_shown w.words from)) s h in
    k ∙ ap (λ t. element_of t (value_shown shown.words from)) i ∙ ap (element_of index_term) v
element_read (Err refused) shown seen index index_term from value s i v h = tt
