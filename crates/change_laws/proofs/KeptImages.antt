-- The words of areas: those of before, and those of what comes in.
use Rattle.std.proofs.Common.{◌≡◌, ℕ, zero, suc, ◌+◌, ◌<◌, false, cond, nat_eq, List, [], ◌∷◌, ◌++◌, map, Option, Some, None, option_map, refl, sym, ap, ◌∙◌, arith}
use Rattle.std.specs.Prelude.{slice_get}
use Rattle.std.proofs.lemmas.Bool.Decides.{nat_tests}
use Rattle.term_core.specs.Image.{image_of}
use Rattle.term_core.specs.Plain.{plain}
use Rattle.term_core.specs.PlainTerm.{PlainTerm}
use Rattle.mod_core.specs.declared.code.Module.{Module}
use Rattle.server_core.specs.declared.change.Change.{Change}
use Rattle.server_core.specs.declared.change.Change.TheVariants.{BringIn, HoldArea}
use Rattle.server_core.specs.CommandTable.{with_all, with_complex}
use Rattle.server_core.specs.ServerState.{IsSound, ServerState, TermArea, code_of, first_words, instance_image, term_among, term_of_area, words_of_area}
use Rattle.server_core.proofs.KeyChanges.{no_code_next, no_term_next, term_new}
use Rattle.server_core.proofs.Loads.{with_all_parts}
use Rattle.change_laws.specs.Changes.{Incoming, incoming, instance, changed_state, stored}
use Rattle.change_laws.specs.Images.{incoming_module, words_of}
use Rattle.change_laws.proofs.LoadedCode.{code_before, code_new, no_code_from}

-- ---- areas of before

-- a term behind these is not sought at a serial before its own
term_pushed_before : (ts : List TermArea) (n serial : ℕ) (term : PlainTerm) → serial < n → term_among (ts ++ record { serial = n; term = term } ∷ []) serial ≡ term_among ts serial
term_pushed_before [] n serial term before = let other : nat_eq n serial ≡ false = grind (arith, nat_tests) in ap (λ b. cond b (Some term) None) other
term_pushed_before (a ∷ ts) n serial term before = ap (cond (nat_eq a.serial serial) (Some a.term)) (term_pushed_before ts n serial term before)

-- an area has the same words where it is the same instance or the same term
pub words_same : (s t : ServerState) (serial : ℕ) → code_of t serial ≡ code_of s serial → term_of_area t serial ≡ term_of_area s serial → words_of_area t serial ≡ words_of_area s serial
words_same s t serial code term = λ i. first_words (option_map (instance_image serial) (code i)) (option_map image_of (term i))

-- a load leaves terms
pub terms_loaded : (s : ServerState) (ms : List Module) (serial : ℕ) → term_of_area (with_all s ms) serial ≡ term_of_area s serial
terms_loaded s ms serial = ap (λ (t : ServerState). term_of_area t serial) (with_all_parts s ms)

pub code_stays : (s : ServerState) (change : Change) (serial : ℕ) → serial < s.next_serial → code_of (changed_state s change) serial ≡ code_of s serial
code_stays s (BringIn generation modules areas versions) serial known = code_before s modules.items serial known
code_stays s change serial known = refl

pub images_before : (s : ServerState) (change : Change) (serial : ℕ) → serial < s.next_serial → words_of_area (changed_state s change) serial ≡ words_of_area s serial
images_before s (BringIn generation modules areas versions) serial known = words_same s (with_all s modules.items) serial (code_before s modules.items serial known) (terms_loaded s modules.items serial)
images_before s (HoldArea generation key term kept areas keys retired) serial known = words_same s (with_complex s key.0 (plain term)) serial refl (term_pushed_before s.terms s.next_serial serial (plain term) known)
images_before s change serial known = refl

-- ---- what comes in

-- at a place of a row of modules as what comes in stands the module of that place
pub module_at : (ms : List Module) (place : ℕ) (comes : Incoming) → slice_get (map instance ms) place ≡ Some comes → (m : Module) × (slice_get ms place ≡ Some m) × (instance m ≡ comes)
module_at [] place comes at = absurd (cc)
module_at (m ∷ ms) zero comes at = (m, refl, cc)
module_at (m ∷ ms) (suc place) comes at = module_at ms place comes at

module_image_new : (s : ServerState) (ms : List Module) (place : ℕ) (m : Module) → IsSound s → slice_get ms place ≡ Some m → words_of_area (with_all s ms) (s.next_serial + place) ≡ Some (instance_image (s.next_serial + place) m)
module_image_new s ms place m sound at =
    let term = term_of_area (with_all s ms) (s.next_serial + place) in
    ap (λ (o : Option Module). first_words (option_map (instance_image (s.next_serial + place)) o) (option_map image_of term)) (code_new s ms place m sound at)

term_image_new : (s : ServerState) (key : ℕ) (term : PlainTerm) → IsSound s → words_of_area (with_complex s key term) s.next_serial ≡ Some (image_of term)
term_image_new s key term sound =
    ap (λ (o : Option Module). first_words (option_map (instance_image s.next_serial) o) (option_map image_of (term_of_area (with_complex s key term) s.next_serial))) (no_code_next s sound)
    ∙ ap (option_map image_of) (term_new s.terms s.next_serial term (no_term_next s sound))

pub images_new : (s : ServerState) (change : Change) (place : ℕ) (comes : Incoming) → IsSound s → slice_get (incoming change) place ≡ Some comes → words_of_area (changed_state s change) (s.next_serial + place) ≡ Some (words_of (s.next_serial + place) comes)
images_new s (BringIn generation modules areas versions) place comes sound at =
    let found = module_at modules.items place comes at in
    module_image_new s modules.items place found.0 sound found.1 ∙ ap (λ c. Some (words_of (s.next_serial + place) c)) found.2
images_new s (HoldArea generation key term kept areas keys retired) zero comes sound at =
    let same : stored (plain term) ≡ comes = cc in
    let first : s.next_serial ≡ s.next_serial + 0 = omega arith in
    ap (words_of_area (with_complex s key.0 (plain term))) (sym first) ∙ term_image_new s key.0 (plain term) sound ∙ ap (λ c. Some (words_of (s.next_serial + 0) c)) same
images_new s change place comes sound at = absurd (cc)

pub code_comes : (s : ServerState) (change : Change) (place : ℕ) (comes : Incoming) → IsSound s → slice_get (incoming change) place ≡ Some comes → code_of (changed_state s change) (s.next_serial + place) ≡ incoming_module comes
code_comes s (BringIn generation modules areas versions) place comes sound at =
    let found = module_at modules.items place comes at in
    code_new s modules.items place found.0 sound found.1 ∙ ap incoming_module found.2
code_comes s (HoldArea generation key term kept areas keys retired) zero comes sound at =
    let same : stored (plain term) ≡ comes = cc in
    no_code_from s (s.next_serial + 0) sound (omega arith) ∙ ap incoming_module same
code_comes s change place comes sound at = absurd (cc)
