-- The words of each area once a change is made.
-- Source: this project's own; an image stands as it is from when it comes in.
use Rattle.std.specs.Prelude.{◌≡◌, ℕ, ◌+◌, ◌<◌, List, Option, None, Some, slice_get}
use Rattle.term_core.specs.Image.{image_of}
use Rattle.mod_core.specs.declared.code.Module.{Module}
use Rattle.server_core.specs.declared.change.Change.{Change}
use Rattle.server_core.specs.ServerState.{IsSound, ServerState, code_of, instance_image, words_of_area}
use Rattle.change_laws.specs.Changes.{Incoming, incoming, instance, changed_state, stored}

-- the words of what comes in with a serial: the image of an instance has the serial in its first word
abbrev pub words_of : ℕ → Incoming → List ℕ
words_of serial (instance m) = instance_image serial m
words_of serial (stored term) = image_of term

-- the module of what comes in: a term has none
abbrev pub incoming_module : Incoming → Option Module
incoming_module (instance m) = Some m
incoming_module (stored term) = None

-- areas that came in before stay the instances that they are, or none
abbrev pub CodeStays : Type 0
CodeStays = (s : ServerState) (change : Change) (serial : ℕ) → serial < s.next_serial → code_of (changed_state s change) serial ≡ code_of s serial

-- what comes in is an instance of its module under the next serial and its place, or none
abbrev pub CodeComesIn : Type 0
CodeComesIn = (s : ServerState) (change : Change) (place : ℕ) (comes : Incoming) → IsSound s → slice_get (incoming change) place ≡ Some comes → code_of (changed_state s change) (s.next_serial + place) ≡ incoming_module comes

-- areas that came in before keep their words
abbrev pub ImagesStay : Type 0
ImagesStay = (s : ServerState) (change : Change) (serial : ℕ) → serial < s.next_serial → words_of_area (changed_state s change) serial ≡ words_of_area s serial

-- what comes in has its words, under the next serial and its place
abbrev pub ImagesComeIn : Type 0
ImagesComeIn = (s : ServerState) (change : Change) (place : ℕ) (comes : Incoming) → IsSound s → slice_get (incoming change) place ≡ Some comes
    → words_of_area (changed_state s change) (s.next_serial + place) ≡ Some (words_of (s.next_serial + place) comes)
