-- That what is read of the plain server is true of its instances and terms, and that the words which it gives are their images.
use Rattle.std.proofs.Common.{◌≡◌, ◌<◌, ◌≤◌, ◌+◌, ◌*◌, ◌∙◌, ℕ, zero, suc, false, refl, sym, subst, arith, ap, List, [], ◌++◌, length, length-append, slice_get, slice_index, unwrap_or, get_or, Option, Some, None, option_map, option_and_then, IfSome}
use Rattle.std.proofs.lemmas.Option.{slice_get-get_or, slice_get_within, unwrap_or-slice_get}
use Rattle.std.proofs.lemmas.List.Quantifiers.{position-Some}
use Rattle.term_core.specs.declared.atom.Mfa.{Mfa}
use Rattle.term_core.specs.Image.{image_of}
use Rattle.term_core.specs.Plain.{term_of}
use Rattle.term_core.specs.PlainTerm.{PlainTerm}
use Rattle.term_core.proofs.ImageTerms.{length-image}
use Rattle.mod_core.specs.declared.code.Function.{Function}
use Rattle.mod_core.specs.declared.code.Module.{Module}
use Rattle.mod_core.specs.Module.{IsModule}
use Rattle.mod_core.specs.ModuleImage.{module_image, function_place, function_words}
use Rattle.mod_core.proofs.Constants.{constants_place}
use Rattle.mod_core.proofs.Places.{function_stands, place_word}
use Rattle.server_core.specs.ServerState.{Entry, HasItsArea, IsPersistent, IsShortTerm, IsSound, IsTermArea, Persistent, ServerState, code_of, export_of, first_words, instance_image, is_export, persistent_of, term_of_area, word_of, words_of_area}
use Rattle.machine_core.specs.Reads.{HasFunction}
use Rattle.machine_core.specs.ServerReads.{persistent_value, place_of, reads_of}
use Rattle.machine_core.specs.View.{IsReadFunction, IsImageOf, IsKeyValue, IsLawful, IsLoaded, IsOfModule, IsTermIn, Shown, server_words, shown_of}

-- ---- what is read of a state

-- the words of an instance
pub module_words : (s : ServerState) (serial : ℕ) (m : Module) → code_of s serial ≡ Some m → server_words s serial ≡ instance_image serial m
module_words s serial m c = rw c refl

image_len : (serial : ℕ) (m : Module) → length (instance_image serial m) ≡ length (module_image m)
image_len serial m = refl

image_word : (serial at : ℕ) (m : Module) → 1 ≤ at → slice_index (instance_image serial m) at ≡ slice_index (module_image m) at
image_word serial zero m h = absurd (omega arith)
image_word serial (suc at) m h = refl

instance_is : (serial : ℕ) (m : Module) → IsImageOf m (instance_image serial m)
instance_is serial m = record { whole = image_len serial m; same = λ at place h. image_word serial at m h }

function_is : (s : ServerState) (serial : ℕ) (m : Module) (i : ℕ) (f : Function) → code_of s serial ≡ Some m → slice_get m.functions i ≡ Some f → IsReadFunction (reads_of s) (record { serial = serial; function = i }) m f
function_is s serial m i f c found = record { name = rw (c, found) refl; arity = rw (c, found) refl; first = rw c refl; instrs = λ number within. rw c refl }

pub is_of_module : (s : ServerState) (serial : ℕ) (m : Module) → IsModule m → code_of s serial ≡ Some m → IsOfModule (shown_of s) serial m
is_of_module s serial m sound c = record {
  sound = sound;
  name = rw c refl;
  count = rw c refl;
  functions = λ i f found. function_is s serial m i f c found;
  image = subst (IsImageOf m) (sym (module_words s serial m c)) (instance_is serial m);
}

is_loaded : (s : ServerState) (serial : ℕ) (o : Option Module) → code_of s serial ≡ o → IfSome o (λ m. IsModule m × (serial < s.next_serial)) → 0 < unwrap_or (option_map (λ m. length m.functions) o) 0 → IsLoaded (shown_of s) serial
is_loaded s serial None c sound h = absurd (omega (arith, h))
is_loaded s serial (Some m) c sound h = record { m = m; is = is_of_module s serial m sound.0 c }

exported_in : (to : Mfa) (i : ℕ) (o : Option Module) → option_and_then (λ m. export_of m to) o ≡ Some i → i < unwrap_or (option_map (λ m. length m.functions) o) 0
exported_in to i None e = absurd (cc)
exported_in to i (Some m) e = (position-Some (is_export to) m.functions i (record { name = to.name; arity = 0; exported = false; code = [] }) e).0

-- the words of a term's area
term_words_are : (s : ServerState) (serial : ℕ) (t : PlainTerm) → code_of s serial ≡ None → term_of_area s serial ≡ Some t → server_words s serial ≡ image_of t
term_words_are s serial t c e = rw (c, e) refl

pub held_term : (s : ServerState) (serial : ℕ) (t : PlainTerm) (o : Option PlainTerm) → term_of_area s serial ≡ o → IfSome o (IsTermArea s serial) → o ≡ Some t → IsTermIn (shown_of s) serial (term_of t)
held_term s serial t None e sound h = absurd (cc)
held_term s serial t (Some u) e sound h =
    let k : u ≡ t = cc in
    record { plain = u; is = ap term_of (sym k); sound = sound.sound; area = rw e refl; image = term_words_are s serial u sound.no_code e }

key_term : (s : ServerState) (t : PlainTerm) (area : Option ℕ) → IsSound s → IsShortTerm t → HasItsArea s t area → IsKeyValue (shown_of s) (Some (persistent_value t area))
key_term s t None sound short has = record { plain = t; is = refl; immediate = has; fits = short.fits }
key_term s t (Some serial) sound short has = held_term s serial t (term_of_area s serial) refl (sound.terms serial) has

key_in : (s : ServerState) (o : Option Persistent) → IsSound s → IfSome o (IsPersistent s) → IsKeyValue (shown_of s) (option_map (λ p. persistent_value p.term p.area) o)
key_in s None sound h = tt
key_in s (Some p) sound h = key_term s p.term p.area sound h.sound h.area

short_words : (s : ServerState) (serial : ℕ) (o : Option Module) (r : Option PlainTerm) → IfSome o (λ m. IsModule m × (serial < s.next_serial)) → IfSome r (IsTermArea s serial) →
    length (unwrap_or (first_words (option_map (instance_image serial) o) (option_map image_of r)) []) ≤ 1024
short_words s serial (Some m) r sound h = let short = sound.0.short in omega (arith, image_len serial m)
short_words s serial None (Some t) sound h = let short = h.sound.short in omega (arith, length-image t)
short_words s serial None None sound h = omega arith

-- the server's state and images are those of a lawful view
pub is_lawful : (s : ServerState) → IsSound s → IsLawful (shown_of s)
is_lawful s sound = record {
  instances = λ serial h. is_loaded s serial (code_of s serial) refl (sound.modules serial) h;
  exports = λ serial to i e. exported_in to i (code_of s serial) e;
  keys = λ key. key_in s (persistent_of s key) sound (sound.keys key);
  short = λ serial. short_words s serial (code_of s serial) (term_of_area s serial) (sound.modules serial) (sound.terms serial);
}

word_among : (at : ℕ) (o : Option (List ℕ)) → unwrap_or (option_and_then (λ words. slice_get words at) o) 0 ≡ slice_index (unwrap_or o []) at
word_among at None = refl
word_among at (Some words) = unwrap_or-slice_get words at 0

-- a word of the server is one that the view shows
pub shown_word : (s : ServerState) (serial at : ℕ) → unwrap_or (word_of s serial at) 0 ≡ slice_index ((shown_of s).words serial) at
shown_word s serial at = word_among at (words_of_area s serial)

-- where a function of an instance is entered
pub record IsEntry (shown : Shown) (e : Entry) : Type 0 where
  pub few : e.function < 16
  pub word : slice_index (shown.words e.serial) (4 + 4 * e.function + 3) ≡ shown.reads.first e
  pub within : shown.reads.first e ≤ 1024

place_within : (m : Module) (i : ℕ) (f : Function) → slice_get m.functions i ≡ Some f → function_place m i ≤ length (module_image m)
place_within m i f found =
    let at = function_stands m i f found in
    omega (arith, ap length at.whole_is, at.place_is, length-append at.before (function_words (function_place m i) (constants_place m i) f ++ at.rest))

pub entry_at : (shown : Shown) (e : Entry) (m : Module) (f : Function) → IsOfModule shown e.serial m → e.function < length m.functions → slice_get m.functions e.function ≡ Some f → IsEntry shown e
entry_at shown e m f is h found =
    let first = (is.functions e.function f found).first in
    let word = place_word m e.function h in
    let within = slice_get_within (module_image m) (4 + 4 * e.function + 3) (function_place m e.function) word in
    record {
      few = omega (arith, is.sound.few);
      word =
          is.image.same (4 + 4 * e.function + 3) (record { within = within; no_entry = λ j below k. omega arith }) (omega arith)
          ∙ (sym (unwrap_or-slice_get (module_image m) (4 + 4 * e.function + 3) 0) ∙ ap (λ o. unwrap_or o 0) word ∙ sym first);
      within = omega (arith, first, is.sound.short, place_within m e.function f found);
    }

-- the words of a lawful view have the place of each function of its instances
pub is_entry : (shown : Shown) (e : Entry) → IsLawful shown → HasFunction shown.reads e → IsEntry shown e
is_entry shown e lawful h =
    let l = lawful.instances e.serial (omega (arith, h)) in
    let none : Function = record { name = l.m.name; arity = 0; exported = false; code = [] } in
    let within : e.function < length l.m.functions = omega (arith, h, l.is.count) in
    entry_at shown e l.m (get_or l.m.functions e.function none) l.is within (slice_get-get_or l.m.functions e.function none within)

-- so what the server answers is that place
pub entry_answered : (s inner : ServerState) (e : Entry) (o : Option ℕ) (answer : ℕ) → IsEntry (shown_of s) e → inner ≡ s → o ≡ word_of inner e.serial (4 + 4 * e.function + 3) → answer ≡ unwrap_or o 0 →
    answer ≡ place_of s e
entry_answered s inner e o answer is same word end =
    end ∙ ap (λ o. unwrap_or o 0) (word ∙ ap (λ t. word_of t e.serial (4 + 4 * e.function + 3)) same) ∙ shown_word s e.serial (4 + 4 * e.function + 3) ∙ is.word
