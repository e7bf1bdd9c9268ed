-- That the words of an instance say its module's name, and the name and the arity of each of its functions.
use Rattle.std.proofs.Common.{◌≡◌, ◌<◌, ◌≤◌, ◌+◌, ◌*◌, ◌/◌, ◌∙◌, ℕ, zero, suc, Bool, true, false, refl, sym, ap, arith, List, [], ◌∷◌, ◌++◌, length, length-append, slice_get, slice_index, get_or, Some, unwrap_or, subst, if◌then◌else◌}
use Rattle.std.proofs.lemmas.Option.{same_Some, slice_get-get_or, unwrap_or-slice_get}
use Rattle.mod_core.specs.declared.code.Function.{Function}
use Rattle.mod_core.specs.declared.code.Module.{Module}
use Rattle.mod_core.specs.ModuleImage.{code_start, constants_of, constants_start, constants_words, function_heads, function_len, functions_words, module_image}
use Rattle.mod_core.proofs.Lengths.{heads_len}
use Rattle.server_core.specs.ServerState.{Entry}
use Rattle.machine_core.specs.View.{IsImagePlace, IsLawful, IsOfModule, IsReadable, Shown}
use Rattle.machine_core.proofs.Fetching.{readable_at, view_word}
use Rattle.machine_core.proofs.NextInstr.{sound_function}
use Rattle.machine_core.specs.Reads.{HasFunction}

-- the word of arity and export
abbrev pub export_word : Function → ℕ
export_word f = f.arity * 2 + (if f.exported then 1 else 0)

-- the first two words of a head in the table of functions
record IsHead (words : List ℕ) (place : ℕ) (f : Function) : Type 0 where
  name : slice_get words place ≡ Some f.name.0
  arity : slice_get words (suc place) ≡ Some (export_word f)

first_head : (f g : Function) (place : ℕ) (fs : List Function) (rest : List ℕ) → f ≡ g → IsHead (function_heads place (f ∷ fs) ++ rest) 0 g
first_head f g place fs rest e = record { name = ap (λ h. Some h.name.0) e; arity = ap (λ h. Some (export_word h)) e }

head_at : (fs : List Function) (place i : ℕ) (rest : List ℕ) (f : Function) → slice_get fs i ≡ Some f → IsHead (function_heads place fs ++ rest) (4 * i) f
head_at [] place i rest f h = absurd (cc)
head_at (g ∷ fs) place zero rest f h = first_head g f place fs rest (same_Some g f h)
head_at (g ∷ fs) place (suc i) rest f h =
    let later = head_at fs (place + function_len g) i rest f h in
    let e : 4 * suc i ≡ suc (suc (suc (suc (4 * i)))) = omega arith in
    rw e (record { name = later.name; arity = later.arity })

head_in_image : (m : Module) (i : ℕ) (f : Function) → slice_get m.functions i ≡ Some f → IsHead (module_image m) (4 + 4 * i) f
head_in_image m i f h =
    let first = head_at m.functions (code_start m.functions) i (functions_words (code_start m.functions) (constants_start m.functions) m.functions ++ constants_words (constants_of m.functions)) f h in
    let e : 4 + 4 * i ≡ suc (suc (suc (suc (4 * i)))) = omega arith in
    rw e (record { name = first.name; arity = first.arity })

image_within : (m : Module) (i : ℕ) → i < length m.functions → 4 + 4 * i + 3 < length (module_image m)
image_within m i h = omega (arith, heads_len (code_start m.functions) m.functions, length-append (function_heads (code_start m.functions) m.functions) (functions_words (code_start m.functions) (constants_start m.functions) m.functions ++ constants_words (constants_of m.functions)))

module_place : (m : Module) → 0 < length m.functions → IsImagePlace m 1
module_place m h = record { within = omega (arith, image_within m 0 h); no_entry = λ j below e. omega arith }

name_place : (m : Module) (i : ℕ) → i < length m.functions → IsImagePlace m (4 + 4 * i)
name_place m i h = record { within = omega (arith, image_within m i h); no_entry = λ j below e. omega arith }

arity_place : (m : Module) (i : ℕ) → i < length m.functions → IsImagePlace m (4 + 4 * i + 1)
arity_place m i h = record { within = omega (arith, image_within m i h); no_entry = λ j below e. omega arith }

index_of : (words : List ℕ) (at word : ℕ) → slice_get words at ≡ Some word → slice_index words at ≡ word
index_of words at word h = sym (unwrap_or-slice_get words at 0) ∙ ap (λ o. unwrap_or o 0) h

-- a word of an instance, as the view shows it
pub record IsWordOf (shown : Shown) (serial at word : ℕ) : Type 0 where
  pub readable : IsReadable shown serial at
  pub value : slice_index (shown.words serial) at ≡ word

word_of_image : (shown : Shown) (serial at word : ℕ) (m : Module) → IsOfModule shown serial m → IsImagePlace m at → 1 ≤ at → slice_get (module_image m) at ≡ Some word →
    IsWordOf shown serial at word
word_of_image shown serial at word m is p h w = record {
  readable = readable_at shown serial at m is p;
  value = view_word shown serial at m is p h ∙ index_of (module_image m) at word w;
}

halved : (n : ℕ) (b : Bool) → (n * 2 + (if b then 1 else 0)) / 2 ≡ n
halved n true = omega arith
halved n false = omega arith

-- what the words of an instance say of one of its functions
pub record IsNamed (shown : Shown) (e : Entry) : Type 0 where
  pub module_word : IsWordOf shown e.serial 1 (shown.reads.module_name e.serial).0
  pub name_word : IsWordOf shown e.serial (4 + 4 * e.function) (shown.reads.function_name e).0
  pub arity_readable : IsReadable shown e.serial (4 + 4 * e.function + 1)
  pub arity_value : slice_index (shown.words e.serial) (4 + 4 * e.function + 1) / 2 ≡ shown.reads.arity e
  pub module_few : (shown.reads.module_name e.serial).0 < 4096
  pub name_few : (shown.reads.function_name e).0 < 4096
  pub arity_few : shown.reads.arity e ≤ 15

pub named_from : (shown : Shown) (e : Entry) (m : Module) (f : Function) → IsOfModule shown e.serial m → slice_get m.functions e.function ≡ Some f → e.function < length m.functions → IsNamed shown e
named_from shown e m f is found h =
    let head = head_in_image m e.function f found in
    let sound = sound_function m.functions m.functions e.function f is.sound.functions found in
    let read = is.functions e.function f found in
    let next : suc (4 + 4 * e.function) ≡ 4 + 4 * e.function + 1 = omega arith in
    let export = subst (λ k. slice_get (module_image m) k ≡ Some (export_word f)) next head.arity in
    let at = word_of_image shown e.serial (4 + 4 * e.function + 1) (export_word f) m is (arity_place m e.function h) (omega arith) export in
    record {
      module_word = subst (λ a. IsWordOf shown e.serial 1 a.0) (sym is.name) (word_of_image shown e.serial 1 m.name.0 m is (module_place m (omega arith)) (omega arith) refl);
      name_word = subst (λ a. IsWordOf shown e.serial (4 + 4 * e.function) a.0) (sym read.name) (word_of_image shown e.serial (4 + 4 * e.function) f.name.0 m is (name_place m e.function h) (omega arith) head.name);
      arity_readable = at.readable;
      arity_value = ap (λ n. n / 2) at.value ∙ (halved f.arity f.exported ∙ sym read.arity);
      module_few = subst (λ a. a.0 < 4096) (sym is.name) is.sound.named;
      name_few = subst (λ a. a.0 < 4096) (sym read.name) sound.named;
      arity_few = subst (λ n. n ≤ 15) (sym read.arity) sound.arity;
    }

-- a lawful view shows the name of each function of its instances
pub named_at : (shown : Shown) (e : Entry) → IsLawful shown → HasFunction shown.reads e → IsNamed shown e
named_at shown e lawful h =
    let l = lawful.instances e.serial (omega (arith, h)) in
    let none : Function = record { name = l.m.name; arity = 0; exported = false; code = [] } in
    let within : e.function < length l.m.functions = omega (arith, h, l.is.count) in
    named_from shown e l.m (get_or l.m.functions e.function none) l.is (slice_get-get_or l.m.functions e.function none within) within
