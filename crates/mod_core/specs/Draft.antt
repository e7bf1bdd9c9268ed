-- An image that is being written: its code goes on at its end, and the images of its constants stand apart until the code is whole.
use Rattle.std.specs.Prelude.{◌≡◌, ℕ, ◌+◌, List, ◌++◌, length}
use Rattle.term_core.specs.PlainTerm.{PlainTerm}
use Rattle.mod_core.specs.declared.image.Draft.{Draft}
use Rattle.mod_core.specs.ModuleImage.{constants_words}

-- the place that the next complex constant's image gets
abbrev pub next_place : Draft → ℕ
next_place d = d.constants_start + length d.constants

-- these words of code were written, and the images of these constants
pub record Wrote (old new : Draft) (code : List ℕ) (terms : List PlainTerm) : Type 0 where
  pub code_is : new.words ≡ old.words ++ code
  pub images_are : new.constants ≡ old.constants ++ constants_words terms
  pub start_stays : new.constants_start ≡ old.constants_start
