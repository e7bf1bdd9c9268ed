-- What a turn reads of a generation in plain numbers: code is words here, read by the total decoders, and names, arities and places come from the images.
-- Source: erts internal documentation, CodeLoading, for what a call reaches; the layout of an image is this project's own.
use Rattle.std.specs.Prelude.{ℕ, ◌+◌, ◌*◌, ◌/◌, ◌==◌, ◌&&◌, Bool, List, [], ◌∷◌, length, find, slice_get, slice_index, Option, Some, None, option_map, option_and_then, unwrap_or, if◌then◌else◌}
use Rattle.std.specs.List.{list_any}
use Rattle.term_core.specs.declared.area.AreaRef.{AreaRef}
use Rattle.term_core.specs.declared.atom.Mfa.{Mfa}
use Rattle.term_core.specs.declared.generation.AreaWords.{AreaWords}
use Rattle.term_core.specs.declared.generation.FunctionRef.{FunctionRef}
use Rattle.term_core.specs.declared.generation.Generation.{Generation}
use Rattle.term_core.specs.declared.generation.Holding.{Holding}
use Rattle.term_core.specs.declared.generation.Holding.TheVariants.{Word, Area}
use Rattle.term_core.specs.declared.generation.KeyTerm.{KeyTerm}
use Rattle.term_core.specs.Image.{term_at, term_of_word}
use Rattle.term_core.specs.ImageWords.{found_len}
use Rattle.term_core.specs.Plain.{term_of}
use Rattle.mod_core.specs.declared.code.Instr.{Instr}
use Rattle.server_core.specs.Generations.{is_serial, number_of_name}
use Rattle.server_core.specs.ServerState.{Entry, KeyFound, absent, is_serial_in, one_word, whole_area}
use Rattle.machine_core.specs.Decode.{instr_shown, op_at}
use Rattle.machine_core.specs.Process.{PlainValue, literal, owned}
use Rattle.machine_core.specs.Reads.{Reads}
use Rattle.machine_core.specs.View.{Shown}

-- ---- areas

-- the image of the area with a serial among these
abbrev pub image_among : List AreaWords → ℕ → Option (List ℕ)
image_among [] serial = None
image_among (a ∷ areas) serial = if a.serial == serial then Some a.words else image_among areas serial

-- the words of the area with a serial; none where it is released
abbrev pub words_in : Generation → ℕ → List ℕ
words_in g serial = unwrap_or (image_among g.areas serial) []

-- the block of the area with a serial among these; 0 where there is none
abbrev pub block_among : List AreaRef → ℕ → ℕ
block_among [] serial = 0
block_among (a ∷ areas) serial = if a.serial == serial then a.block else block_among areas serial

-- whether words are the image of a term; those of an instance never are, since 0 stands among them
abbrev pub is_term_image : List ℕ → Bool
is_term_image words = is_serial (found_len 1 words) (length words)

-- how many functions the instance with these words has; a term has none
abbrev pub function_count : List ℕ → ℕ
function_count words = if is_term_image words then 0 else slice_index words 3

-- ---- functions

-- where the row of a function stands in the table of its instance: name, arity and export, entry word, place of the first instruction
abbrev pub function_row : Entry → ℕ
function_row e = 4 + 4 * e.function

-- the instruction of an instance at a place
abbrev pub instr_under : Generation → Entry → ℕ → Instr
instr_under g e place = instr_shown (words_in g e.serial) (op_at (words_in g e.serial) place)

-- whether the plain numbers are those of a function
abbrev pub is_function : Entry → FunctionRef → Bool
is_function e f = f.serial == e.serial && f.function == e.function

-- what the export table has at the number of a name; nothing where the name has none
abbrev pub exported_under : List Mfa → Generation → Mfa → Option FunctionRef
exported_under names g to = option_and_then (λ n. unwrap_or (slice_get g.exports n) None) (number_of_name names to)

-- the place of a function, if it is one of this instance
abbrev pub place_within : ℕ → FunctionRef → Option ℕ
place_within serial f = if f.serial == serial then Some f.function else None

-- ---- keys

-- what a key holds among these
abbrev pub holding_among : List KeyTerm → ℕ → Option Holding
holding_among [] key = None
holding_among (k ∷ ks) key = if k.key.0 == key then Some k.holding else holding_among ks key

-- what a reader finds of what a key holds in plain numbers: nothing, the word of an integer or an atom, or the area of another term
abbrev pub found_held : Option Holding → KeyFound
found_held None = absent
found_held (Some (Word word)) = one_word word
found_held (Some (Area serial)) = whole_area serial

-- what a key holds, as a value: the term whose image is the area is a literal there
abbrev pub held_value : Generation → Holding → PlainValue
held_value g (Word word) = owned (term_of_word word)
held_value g (Area serial) = literal serial (term_of (term_at (words_in g serial) 0))

-- ---- the whole

-- what a turn reads of a generation, by these numbers of names
abbrev pub reads_in : List Mfa → Generation → Reads
reads_in names g =
    record {
      current = λ name. find (λ serial. slice_index (words_in g serial) 1 == name) g.current;
      export = λ serial to. option_and_then (place_within serial) (exported_under names g to);
      functions = λ serial. function_count (words_in g serial);
      module_name = λ serial. record { 0 = slice_index (words_in g serial) 1 };
      function_name = λ e. record { 0 = slice_index (words_in g e.serial) (function_row e) };
      arity = λ e. slice_index (words_in g e.serial) (function_row e + 1) / 2;
      first = λ e. slice_index (words_in g e.serial) (function_row e + 3);
      instr = instr_under g;
      traced = λ e. list_any (is_function e) g.traced;
      key = λ key. option_map (held_value g) (holding_among g.keys key);
      is_term = λ serial. is_term_image (words_in g serial);
      doomed = is_serial_in g.doomed;
      retired = is_serial_in g.retired;
    }

-- what a view of a generation shows, whose areas stand in these blocks
abbrev pub shown_in : List Mfa → (ℕ → ℕ) → Generation → Shown
shown_in names block g = record { reads = reads_in names g; words = words_in g; block = block }
