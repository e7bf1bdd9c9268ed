-- A view of one generation of the code server: what a turn reads of it, and the words of each area.
-- It is lawful where what it reads is true of sound modules and terms, and the words are their images, apart from the entry words, which breakpoints change.
-- Source: erts internal documentation, CodeLoading, and the manual page `persistent_term`; the layout of an image is this project's own.
use Rattle.std.specs.Prelude.{◌≡◌, ℕ, ◌+◌, ◌*◌, ◌<◌, ◌≤◌, ◌≢◌, ◌⊎◌, true, All, List, [], length, slice_get, slice_index, Option, Some, None, unwrap_or}
use Rattle.term_core.specs.declared.area.AreaRef.{AreaRef}
use Rattle.term_core.specs.declared.area.Found.{Found}
use Rattle.term_core.specs.declared.area.Found.TheVariants.{Absent, Word, Area}
use Rattle.term_core.specs.declared.atom.Mfa.{Mfa}
use Rattle.term_core.specs.declared.term.Term.{Term}
use Rattle.term_core.specs.Image.{IsImageAt, IsPlainTerm, image_of, is_immediate}
use Rattle.term_core.specs.Plain.{term_of}
use Rattle.term_core.specs.PlainTerm.{PlainTerm, term_words}
use Rattle.mod_core.specs.declared.code.Function.{Function}
use Rattle.mod_core.specs.declared.code.Module.{Module}
use Rattle.mod_core.specs.Module.{IsModule}
use Rattle.mod_core.specs.ModuleImage.{function_place, module_image, place_in}
use Rattle.server_core.specs.ServerState.{Entry, IsShortTerm, ServerState, words_of_area}
use Rattle.machine_core.specs.declared.process.Frame.{Frame}
use Rattle.machine_core.specs.declared.process.LitRef.{LitRef}
use Rattle.machine_core.specs.declared.process.Value.{Value}
use Rattle.machine_core.specs.declared.process.Value.TheVariants.{Owned, Literal}
use Rattle.machine_core.specs.Holds.{Holds}
use Rattle.machine_core.specs.Process.{PlainValue, Words, literal, owned}
use Rattle.machine_core.specs.Reads.{Reads}
use Rattle.machine_core.specs.ServerReads.{module_instr, reads_of}

-- what a view shows: what a turn reads of its generation, the words of the area with a serial, and in which block they stand
pub record Shown : Type 0 where
  pub reads : Reads
  pub words : Words
  pub block : ℕ → ℕ

-- the area stands in its block
abbrev pub IsInBlock : Shown → AreaRef → Type 0
IsInBlock shown area = area.block ≡ shown.block area.serial

-- what is found of a key stands in its block, if it is an area
abbrev pub IsFoundInBlock : Shown → Found → Type 0
IsFoundInBlock shown Absent = Unit {0}
IsFoundInBlock shown (Word word) = Unit {0}
IsFoundInBlock shown (Area area) = IsInBlock shown area

-- a place in the image of a module that is no entry word
pub record IsImagePlace (m : Module) (at : ℕ) : Type 0 where
  pub within : at < length (module_image m)
  pub no_entry : (i : ℕ) → i < length m.functions → at ≢ 4 + 4 * i + 2

-- no function of the area has its entry word at this place
abbrev pub IsNoEntry : Reads → ℕ → ℕ → Type 0
IsNoEntry r serial at = (i : ℕ) → i < r.functions serial → at ≢ 4 + 4 * i + 2

-- a place of the area that may be asked for: one of its words that is no entry word; a term has none
pub record IsReadable (shown : Shown) (serial at : ℕ) : Type 0 where
  pub within : at < length (shown.words serial)
  pub no_entry : (shown.reads.is_term serial ≡ true) ⊎ IsNoEntry shown.reads serial at

-- these words are the module's image, apart from the serial and the entry words
pub record IsImageOf (m : Module) (words : List ℕ) : Type 0 where
  pub whole : length words ≡ length (module_image m)
  pub same : (at : ℕ) → IsImagePlace m at → 1 ≤ at → slice_index words at ≡ slice_index (module_image m) at

-- what is read of a function of an instance is what its module says of it
pub record IsReadFunction (r : Reads) (e : Entry) (m : Module) (f : Function) : Type 0 where
  pub name : r.function_name e ≡ f.name
  pub arity : r.arity e ≡ f.arity
  pub first : r.first e ≡ function_place m e.function
  pub instrs : (number : ℕ) → number ≤ length f.code → r.instr e (place_in (function_place m e.function) f.code number) ≡ module_instr m e.function (place_in (function_place m e.function) f.code number)

-- what is read of an instance is what this sound module says, and its words are the module's image
pub record IsOfModule (shown : Shown) (serial : ℕ) (m : Module) : Type 0 where
  pub sound : IsModule m
  pub name : shown.reads.module_name serial ≡ m.name
  pub count : shown.reads.functions serial ≡ length m.functions
  pub functions : (i : ℕ) (f : Function) → slice_get m.functions i ≡ Some f → IsReadFunction shown.reads (record { serial = serial; function = i }) m f
  pub image : IsImageOf m (shown.words serial)

-- the instance is one of a sound module
pub record IsLoaded (shown : Shown) (serial : ℕ) : Type 0 where
  pub m : Module
  pub is : IsOfModule shown serial m

-- an integer or an atom of 60 bits
pub record IsWordTerm (term : Term) : Type 0 where
  pub plain : PlainTerm
  pub is : term ≡ term_of plain
  pub immediate : is_immediate plain ≡ true
  pub fits : IsPlainTerm plain

-- the area of a complex term, whose words are its image
pub record IsTermIn (shown : Shown) (serial : ℕ) (term : Term) : Type 0 where
  pub plain : PlainTerm
  pub is : term ≡ term_of plain
  pub sound : IsShortTerm plain
  pub area : shown.reads.is_term serial ≡ true
  pub image : shown.words serial ≡ image_of plain

-- what a key holds: an integer or an atom, or a complex term that stands in its area
abbrev pub IsKeyValue : Shown → Option PlainValue → Type 0
IsKeyValue shown None = Unit {0}
IsKeyValue shown (Some (owned term)) = IsWordTerm term
IsKeyValue shown (Some (literal serial term)) = IsTermIn shown serial term

-- what is read is true of sound modules and terms, and the words of each area are their images
pub record IsLawful (shown : Shown) : Type 0 where
  pub instances : (serial : ℕ) → 0 < shown.reads.functions serial → IsLoaded shown serial
  pub exports : (serial : ℕ) (to : Mfa) (i : ℕ) → shown.reads.export serial to ≡ Some i → i < shown.reads.functions serial
  pub keys : (key : ℕ) → IsKeyValue shown (shown.reads.key key)
  pub short : (serial : ℕ) → length (shown.words serial) ≤ 1024

-- the words of each area of the server, with no breakpoint set
abbrev pub server_words : ServerState → ℕ → List ℕ
server_words s serial = unwrap_or (words_of_area s serial) []

-- what a view shows whose words are the images of the areas, with no breakpoint set, where the areas stand in these blocks
abbrev pub shown_at : (ℕ → ℕ) → ServerState → Shown
shown_at block s = record { reads = reads_of s; words = server_words s; block = block }

-- the same of the plain server, whose areas all stand in block 0
abbrev pub shown_of : ServerState → Shown
shown_of s = shown_at (λ serial. 0) s

-- ---- literals

-- the area of a literal stands in its block, and its place begins the image of a term, none of whose words is an entry word
pub record IsLiteral (shown : Shown) (at : LitRef) : Type 0 where
  pub stands : IsInBlock shown at.area
  pub term : PlainTerm
  pub image : IsImageAt (shown.words at.area.serial) at.at term
  pub readable : (i : ℕ) → i < term_words term → IsReadable shown at.area.serial (at.at + i)

-- a value is a term, or a literal whose place begins the image of one
abbrev pub IsValue : Shown → Value → Type 0
IsValue shown (Owned term) = Unit {0}
IsValue shown (Literal at) = IsLiteral shown at

-- so is each value of a frame, and its instance stands in its block
abbrev pub HasValues : Shown → Frame → Type 0
HasValues shown f = IsInBlock shown f.code.area × All (IsValue shown) f.registers

-- and each of frames
abbrev pub AreValues : Shown → List Frame → Type 0
AreValues shown frames = All (HasValues shown) frames

-- what the plain view shows: the state of its server, and what is held
pub record Viewed : Type 0 where
  pub state : ServerState
  pub held : Holds
