-- What a module's title and its functions may be, each told alone.
-- Source: this project's call machine. The image's length is counted here; a module's own definition says the image.
use Rattle.std.specs.Prelude.{ℕ, ◌+◌, ◌*◌, ◌<◌, ◌≤◌, List, length, All, sum_by}
use Rattle.term_core.specs.declared.names.TheConstants.{MOST_NAMES}
use Rattle.mod_core.specs.declared.code.TheConstants.{GREATEST_VERSION, MOST_FUNCTIONS, LONGEST_IMAGE}
use Rattle.mod_core.specs.declared.code.Function.{Function}
use Rattle.mod_core.specs.declared.code.Module.{Module}
use Rattle.mod_core.specs.Module.{IsFunction, SameFunction}
use Rattle.mod_core.specs.ModuleImage.{code_constants, function_len, constants_len, constants_of}

-- how many words of an image a function takes: its head, its code and the images of its constants
abbrev pub function_words_with : Function → ℕ
function_words_with f = 4 + (function_len f + constants_len (code_constants f.code))

-- how many words the image of a module with these functions has
abbrev pub words_with : List Function → ℕ
words_with fs = 4 + (4 * length fs + (sum_by function_len fs + constants_len (constants_of fs)))

-- the functions of some module
pub record AreFunctions (fs : List Function) : Type 0 where
  pub few : length fs ≤ MOST_FUNCTIONS
  pub functions : All (IsFunction fs) fs
  pub apart : (i j : ℕ) → i < j → SameFunction fs i j → ⊥
  pub short : words_with fs ≤ LONGEST_IMAGE

-- a module named by an atom, with a version within the limits
pub record HasTitle (m : Module) : Type 0 where
  pub named : m.name.0 < MOST_NAMES
  pub least_version : 1 ≤ m.version
  pub greatest_version : m.version ≤ GREATEST_VERSION
