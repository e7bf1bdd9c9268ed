-- That a generation of a sound state of the server says what the state says, wherever a process that stands at places asks.
use Rattle.std.proofs.Common.{◌≡◌, ◌<◌, ◌≤◌, ◌∙◌, ◌==◌, ◌||◌, ℕ, Bool, true, false, refl, sym, ap, subst, arith, List, [], ◌∷◌, length, map, Option, Some, None, option_and_then, option_map, if◌then◌else◌, unwrap_or}
use Rattle.std.specs.List.{list_any}
use Rattle.std.proofs.lemmas.Bool.Decides.{nat_tests}
use Rattle.std.proofs.lemmas.List.Quantifiers.{position-Some}
use Rattle.term_core.specs.declared.atom.Mfa.{Mfa}
use Rattle.mod_core.specs.declared.code.Function.{Function}
use Rattle.mod_core.specs.declared.code.Module.{Module}
use Rattle.mod_core.specs.Module.{IsModule}
use Rattle.server_core.specs.Generations.{AreNumbered, function_ref, generation_of}
use Rattle.server_core.specs.ServerState.{Entry, IsSound, ServerState, code_of, current_of, export_of, is_export, is_same_entry, is_serial_in, words_of_area}
use Rattle.machine_core.specs.GenerationReads.{function_count, is_function, place_within, reads_in, shown_in, words_in}
use Rattle.machine_core.specs.Process.{PlainFrame, PlainProcess}
use Rattle.machine_core.specs.Reads.{HasFunction, entry_at}
use Rattle.machine_core.specs.ServerReads.{reads_of}
use Rattle.machine_core.specs.GenerationLaws.{AreInKept, IsTurnOfState, PlacesAgree}
use Rattle.machine_core.specs.Turn.{ArePlaced, IsPlaced, counted, ran_of, turn_from}
use Rattle.machine_core.specs.View.{IsKeyValue, IsLawful, IsOfModule, Shown, shown_of}
use Rattle.machine_core.proofs.GenerationAreas.{current_kept, instance_words, kept_instance, of_module, some_of}
use Rattle.machine_core.proofs.GenerationExports.{dispatched_is, dispatched_read, exported_is}
use Rattle.machine_core.proofs.GenerationKeys.{key_holds, key_is}
use Rattle.machine_core.proofs.GenerationPlaces.{placed_same, same_function}
use Rattle.machine_core.proofs.ImageKinds.{instance_functions}
use Rattle.machine_core.proofs.KeptAreas.{words_kept}
use Rattle.machine_core.proofs.SameReads.{AgreesWith, IsSameFunction, same_ran}
use Rattle.machine_core.proofs.Viewing.{is_lawful, is_of_module}

-- a function is traced in plain numbers where it is
same_test : (e x : Entry) → is_function e (function_ref x) ≡ is_same_entry e x
same_test e x = grind (arith, nat_tests)

traced_is : (e : Entry) (es : List Entry) → list_any (is_function e) (map function_ref es) ≡ list_any (is_same_entry e) es
traced_is e [] = refl
traced_is e (x ∷ es) = ap (λ b. b || list_any (is_function e) (map function_ref es)) (same_test e x) ∙ ap (λ b. is_same_entry e x || b) (traced_is e es)

module _ (names : List Mfa) (s : ServerState) (sound : IsSound s) (numbered : AreNumbered names s) where
  -- the function that a name reaches is one of an instance's
  function_there : (to : Mfa) (serial i : ℕ) (c : Option ℕ) → current_of s to.«module».0 ≡ c →
      option_and_then (place_within serial) (option_map function_ref (option_and_then (λ n. option_and_then (λ m. option_map (λ i. record { serial = n; function = i }) (export_of m to)) (code_of s n)) c)) ≡ Some i →
      i < function_count (words_in (generation_of names s) serial)
  function_there to serial i None current e = absurd (cc)
  function_there to serial i (Some n) current e = in_code (code_of s n) refl e
    where
      in_instance : (m : Module) (k : ℕ) (b : Bool) → code_of s n ≡ Some m → export_of m to ≡ Some k → (n == serial) ≡ b → (if b then Some k else None) ≡ Some i → i < function_count (words_in (generation_of names s) serial)
      in_instance m k false code exports own e = absurd (cc)
      in_instance m k true code exports own e =
          let none : Function = record { name = m.name; arity = 0; exported = false; code = [] } in
          let found = position-Some (is_export to) m.functions k none exports in
          let same : n ≡ serial = grind (arith, nat_tests) in
          let place : k ≡ i = cc in
          let words = instance_words names s sound n m code (current_kept names s sound to.«module».0 n current) in
          let count : function_count (words_in (generation_of names s) serial) ≡ length m.functions = ap (λ q. function_count (words_in (generation_of names s) q)) (sym same) ∙ ap function_count words ∙ instance_functions n m in
          omega (arith, found.0, place, count)

      in_exports : (m : Module) (o : Option ℕ) → code_of s n ≡ Some m → export_of m to ≡ o →
          option_and_then (place_within serial) (option_map function_ref (option_map (λ i. record { serial = n; function = i }) o)) ≡ Some i → i < function_count (words_in (generation_of names s) serial)
      in_exports m None code exports e = absurd (cc)
      in_exports m (Some k) code exports e = in_instance m k (n == serial) code exports refl e

      in_code : (o : Option Module) → code_of s n ≡ o →
          option_and_then (place_within serial) (option_map function_ref (option_and_then (λ m. option_map (λ i. record { serial = n; function = i }) (export_of m to)) o)) ≡ Some i →
          i < function_count (words_in (generation_of names s) serial)
      in_code None code e = absurd (cc)
      in_code (Some m) code e = in_exports m (export_of m to) code refl e

  short_by : (serial : ℕ) (b : Bool) → length (unwrap_or (words_of_area s serial) []) ≤ 1024 → length (unwrap_or (if b then None else words_of_area s serial) []) ≤ 1024
  short_by serial true h = omega arith
  short_by serial false h = h

  -- a view of the generation is lawful
  pub generation_lawful : (block : ℕ → ℕ) → IsLawful (shown_in names block (generation_of names s))
  generation_lawful block = record {
    instances = λ serial h. let k = kept_instance names s sound serial h in record { m = k.m; is = of_module names s sound block serial k.m k.code k.kept };
    exports = λ serial to i e. function_there to serial i (current_of s to.«module».0) refl (ap (option_and_then (place_within serial)) (sym (exported_is names s numbered to)) ∙ e);
    keys = λ key. subst (λ o. IsKeyValue (shown_in names block (generation_of names s)) o) (sym (key_is names s sound key)) (key_holds names s sound block key);
    short = λ serial. subst (λ words. length words ≤ 1024) (sym (words_kept s names serial sound)) (short_by serial (is_serial_in s.released serial) ((is_lawful s sound).short serial));
  }

  -- what the generation says, whatever the blocks are
  abbrev shown : Shown
  shown = shown_in names (λ serial. 0) (generation_of names s)

  module_shown : (serial : ℕ) (m : Module) → code_of s serial ≡ Some m → is_serial_in s.released serial ≡ false → IsOfModule shown serial m
  module_shown serial m code kept = of_module names s sound (λ serial. 0) serial m code kept

  of_state : (serial : ℕ) (m : Module) → code_of s serial ≡ Some m → IsOfModule (shown_of s) serial m
  of_state serial m code = is_of_module s serial m (some_of (λ m. IsModule m × (serial < s.next_serial)) (code_of s serial) m (sound.modules serial) code).0 code

  functions_same : (e : Entry) → HasFunction (reads_in names (generation_of names s)) e → IsSameFunction (reads_in names (generation_of names s)) (reads_of s) e
  functions_same e h =
      let k = kept_instance names s sound e.serial (omega (arith, h)) in
      same_function shown (shown_of s) e k.m (module_shown e.serial k.m k.code k.kept) (of_state e.serial k.m k.code) h (sym (traced_is e s.traced))

  -- the state says what its generation says of calls, keys, what is doomed and retired, and of each function that the generation has
  pub generation_agrees : AgreesWith (reads_in names (generation_of names s)) (reads_of s)
  generation_agrees = record {
    calls = λ to. dispatched_read s to ∙ sym (dispatched_is names s sound numbered to);
    keys = λ key. sym (key_is names s sound key);
    doomed = λ serial. refl;
    retired = λ serial. refl;
    functions = functions_same;
  }

  -- so a turn does the same
  pub generation_ran : (p : PlainProcess) → ArePlaced (reads_in names (generation_of names s)) p.frames → IsTurnOfState names s p
  generation_ran p placed =
      let same : ran_of (reads_in names (generation_of names s)) p ≡ ran_of (reads_of s) p = sym (same_ran shown (reads_of s) p (generation_lawful (λ serial. 0)) generation_agrees placed) in
      record { turn = ap (turn_from (counted p)) same; held = ap (λ ran. ran.held) same }

  frame_kept : (f : PlainFrame) → IsPlaced (reads_in names (generation_of names s)) f → IsPlaced (reads_of s) f × (is_serial_in s.released f.serial ≡ false)
  frame_kept f p =
      let k = kept_instance names s sound f.serial (let known = p.known in omega (arith, known)) in
      (placed_same shown (shown_of s) f k.m (module_shown f.serial k.m k.code k.kept) (of_state f.serial k.m k.code) (sym (traced_is (entry_at f) s.traced)) p, k.kept)

  frame_stands : (f : PlainFrame) (o : Option Module) → code_of s f.serial ≡ o → f.function < unwrap_or (option_map (λ m. length m.functions) o) 0 → is_serial_in s.released f.serial ≡ false →
      IsPlaced (reads_of s) f → IsPlaced (reads_in names (generation_of names s)) f
  frame_stands f None code known kept p = absurd (omega (arith, known))
  frame_stands f (Some m) code known kept p = placed_same (shown_of s) shown f m (of_state f.serial m code) (module_shown f.serial m code kept) (traced_is (entry_at f) s.traced) p

  by_state : (frames : List PlainFrame) → ArePlaced (reads_in names (generation_of names s)) frames → ArePlaced (reads_of s) frames × AreInKept s frames
  by_state [] h = (tt, tt)
  by_state (f ∷ below) h =
      let one = frame_kept f h.0 in
      let more = by_state below h.1 in
      ((one.0, more.0), (one.1, more.1))

  by_generation : (frames : List PlainFrame) → ArePlaced (reads_of s) frames → AreInKept s frames → ArePlaced (reads_in names (generation_of names s)) frames
  by_generation [] h kept = tt
  by_generation (f ∷ below) h kept = (frame_stands f (code_of s f.serial) refl h.0.known kept.0 h.0, by_generation below h.1 kept.1)

  -- frames stand by the one where they stand by the other
  pub places_agree : PlacesAgree names s
  places_agree frames = (by_state frames, λ h. by_generation frames h.0 h.1)
