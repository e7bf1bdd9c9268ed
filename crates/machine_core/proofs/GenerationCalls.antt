-- That a generation tells what a call reaches: by the name of each current instance's module, and by the export table's entry at the number of a name.
use Rattle.std.proofs.Common.{◌≡◌, ◌<◌, ◌≤◌, ◌∙◌, ◌==◌, ℕ, zero, suc, Bool, true, false, cond, refl, sym, ap, arith, List, [], ◌∷◌, find, nat_lt, slice_index, Option, Some, None, IsSomeAnd, option_map, unwrap_or, if◌then◌else◌}
use Rattle.std.specs.Option.{option_or}
use Rattle.std.proofs.lemmas.Bool.Decides.{nat_tests}
use Rattle.std.proofs.lemmas.List.Folds.{find-append}
use Rattle.term_core.specs.declared.atom.Mfa.{Mfa}
use Rattle.mod_core.specs.declared.code.Module.{Module}
use Rattle.mod_core.specs.Module.{IsModule}
use Rattle.server_core.specs.Generations.{generation_of, is_current_code, is_serial, serials_below}
use Rattle.server_core.specs.ServerState.{IsInstanceOf, IsSound, ServerState, code_of, current_of}
use Rattle.machine_core.specs.GenerationReads.{reads_in, words_in}
use Rattle.machine_core.proofs.GenerationAreas.{current_kept, instance_words, some_of}
use Rattle.machine_core.proofs.ImageKinds.{found_number}

-- ---- the one serial that passes

module _ (test passes : ℕ → Bool) where
  last_of : (n : ℕ) (b : Bool) → test n ≡ b → (test n ≡ true → passes n ≡ false) → find passes (if b then n ∷ [] else []) ≡ None
  last_of n true e h = ap (λ b. cond b (Some n) None) (h e)
  last_of n false e h = refl

  found_none : (n : ℕ) → ((k : ℕ) → k < n → test k ≡ true → passes k ≡ false) → find passes (serials_below test n) ≡ None
  found_none zero h = refl
  found_none (suc n) h =
      find-append passes (serials_below test n) (if test n then n ∷ [] else [])
      ∙ ap (λ o. option_or o (find passes (if test n then n ∷ [] else []))) (found_none n (λ k l. h k (omega arith)))
      ∙ last_of n (test n) refl (h n (omega arith))

  not_other : (k x : ℕ) (b : Bool) → passes k ≡ b → k < x → (passes k ≡ true → k ≡ x) → b ≡ false
  not_other k x false e l h = refl
  not_other k x true e l h = let same = h e in absurd (omega (arith, l, same))

  found_step : (x n : ℕ) (b : Bool) → nat_lt x n ≡ b → x < suc n → test x ≡ true → passes x ≡ true → ((k : ℕ) → test k ≡ true → passes k ≡ true → k ≡ x) →
      (x < n → find passes (serials_below test n) ≡ Some x) → find passes (serials_below test (suc n)) ≡ Some x
  found_step x n true e l tested passed only before =
      let less : x < n = grind (arith, nat_tests) in
      find-append passes (serials_below test n) (if test n then n ∷ [] else [])
      ∙ ap (λ o. option_or o (find passes (if test n then n ∷ [] else []))) (before less)
  found_step x n false e l tested passed only before =
      let past : n ≤ x = grind (arith, nat_tests) in
      let same : x ≡ n = omega arith in
      find-append passes (serials_below test n) (if test n then n ∷ [] else [])
      ∙ ap (λ o. option_or o (find passes (if test n then n ∷ [] else []))) (found_none n (λ k less t. not_other k x (passes k) refl (omega arith) (only k t)))
      ∙ ap (λ b. find passes (if b then n ∷ [] else [])) (sym (ap test same) ∙ tested)
      ∙ ap (λ b. cond b (Some n) None) (sym (ap passes same) ∙ passed) ∙ ap Some (sym same)

  found_one : (x n : ℕ) → x < n → test x ≡ true → passes x ≡ true → ((k : ℕ) → test k ≡ true → passes k ≡ true → k ≡ x) → find passes (serials_below test n) ≡ Some x
  found_one x zero l tested passed only = absurd (omega arith)
  found_one x (suc n) l tested passed only = found_step x n (nat_lt x n) refl l tested passed only (λ less. found_one x n less tested passed only)

-- ---- current instances

name_is : (word number name : ℕ) → word ≡ number → (word == name) ≡ true → number ≡ name
name_is word number name e passes = grind (arith, nat_tests)

passes_name : (word number name : ℕ) → word ≡ number → number ≡ name → (word == name) ≡ true
passes_name word number name e same = grind (arith, nat_tests)

module _ (names : List Mfa) (s : ServerState) (sound : IsSound s) where
  -- an instance that is the current code of its module
  record IsCurrentCode (serial : ℕ) : Type 0 where
    m : Module
    code : code_of s serial ≡ Some m
    current : current_of s m.name.0 ≡ Some serial

  current_code : (serial : ℕ) (o : Option Module) → code_of s serial ≡ o → unwrap_or (option_map (λ m. is_serial (current_of s m.name.0) serial) o) false ≡ true → IsCurrentCode serial
  current_code serial None code e = absurd (cc)
  current_code serial (Some m) code e = record { m = m; code = code; current = found_number (current_of s m.name.0) serial e }

  -- whether the words of an area begin as those of an instance of this module
  abbrev named : ℕ → ℕ → Bool
  named name serial = slice_index (words_in (generation_of names s) serial) 1 == name

  name_word : (serial : ℕ) (c : IsCurrentCode serial) → slice_index (words_in (generation_of names s) serial) 1 ≡ c.m.name.0
  name_word serial c = ap (λ words. slice_index words 1) (instance_words names s sound serial c.m c.code (current_kept names s sound c.m.name.0 serial c.current))

  is_it : (name serial : ℕ) → is_current_code s serial ≡ true → named name serial ≡ true → current_of s name ≡ Some serial
  is_it name serial e passes =
      let c = current_code serial (code_of s serial) refl e in
      let word = name_word serial c in
      ap (current_of s) (sym (name_is (slice_index (words_in (generation_of names s) serial) 1) c.m.name.0 name word passes)) ∙ c.current

  no_such : (name serial : ℕ) (b : Bool) → named name serial ≡ b → current_of s name ≡ None → is_current_code s serial ≡ true → b ≡ false
  no_such name serial false passes none e = refl
  no_such name serial true passes none e = absurd (let k = is_it name serial e passes in cc)

  same_serial : (n k : ℕ) → ◌≡◌ {A = Option ℕ} (Some n) (Some k) → k ≡ n
  same_serial n k e = cc

  its_code : (name serial : ℕ) (o : Option Module) → code_of s serial ≡ o → IsSomeAnd o (λ m. m.name.0 ≡ name) → current_of s name ≡ Some serial →
      (m : Module) × (code_of s serial ≡ Some m) × (m.name.0 ≡ name)
  its_code name serial None code h e = absurd h
  its_code name serial (Some m) code h e = (m, code, h)

  current_by : (name : ℕ) (o : Option ℕ) → current_of s name ≡ o → find (named name) (serials_below (is_current_code s) s.next_serial) ≡ o
  current_by name None e = found_none (is_current_code s) (named name) s.next_serial (λ k less t. no_such name k (named name k) refl e t)
  current_by name (Some serial) e =
      let its = its_code name serial (code_of s serial) refl (some_of (IsInstanceOf s name) (current_of s name) serial (sound.current name) e) e in
      let m = its.0 in
      let known = (some_of (λ m. IsModule m × (serial < s.next_serial)) (code_of s serial) m (sound.modules serial) its.1).1 in
      let current : current_of s m.name.0 ≡ Some serial = ap (current_of s) its.2 ∙ e in
      let word = name_word serial (record { m = m; code = its.1; current = current }) in
      let own : (serial == serial) ≡ true = grind (arith, nat_tests) in
      let tested : is_current_code s serial ≡ true = rw (its.1, current) own in
      let passed : named name serial ≡ true = passes_name (slice_index (words_in (generation_of names s) serial) 1) m.name.0 name word its.2 in
      found_one (is_current_code s) (named name) serial s.next_serial known tested passed (λ k t p. same_serial serial k (sym e ∙ is_it name k t p))

  -- the current instance of a name
  pub current_is : (name : ℕ) → (reads_in names (generation_of names s)).current name ≡ current_of s name
  current_is name = current_by name (current_of s name) refl
