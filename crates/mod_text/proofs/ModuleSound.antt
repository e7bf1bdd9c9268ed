-- The module that a text says is one: within every limit, and each name in it stands for something.
use Rattle.std.proofs.Common.{◌≡◌, ℕ, zero, suc, ◌+◌, ◌<◌, ◌≤◌, Bool, true, false, cond, not, ◌&&◌, ◌||◌, ◌^◌, nat_lt, nat_le, List, [], ◌∷◌}
use Rattle.std.proofs.Common.{◌++◌, length, map, Option, Some, None, option_map, is_some, position, unwrap_or, bytes_eq, decimal}
use Rattle.std.proofs.Common.{◌⊎◌, inl, inr, add-one, refl, sym, ap, ◌∙◌, subst, arith, length-append, append_assoc}
use Rattle.mod_text.proofs.Common.{All, IsSomeAnd, list_any, and_parts, and_from, or_parts, or_cases}
use Rattle.mod_text.proofs.Common.{or_right, decimal_digit, decimal-digits_value, slice_get_within, Texts}
use Rattle.mod_text.proofs.Common.{slice_get-map, list_any-append, nat_tests, append-nil, length-map, All-nil, All-cons, All-head, All-tail}
use Rattle.std.specs.Prelude.{slice_get}
use Rattle.mod_text.proofs.Types.{AtomId, Function, Module}
use Rattle.mod_text.proofs.Texts.{number_of, names_with, is_atom_text, number_in, names_with_all}
use Rattle.mod_text.proofs.Texts.{is_positive_text, own, Positive-from}
use Rattle.mod_text.proofs.Texts.{slice_get-number_of, position-cons, is_some-position, all_at}
use Rattle.mod_text.proofs.Texts.{is_number_text, number_value, some_is, same_bytes, bytes_are}
use Rattle.term_core.proofs.Truths.{not_both}
use Rattle.mod_core.specs.Module.{IsOperand, IsCallPlace, IsInstr, IsFunction, SameFunction, IsModule}
use Rattle.mod_core.specs.ModuleImage.{module_image}
use Rattle.mod_text.specs.ModuleLine.{OperandForm, register, constant, InstrForm, move, add, sub, eq, less, jump}
use Rattle.mod_text.specs.ModuleLine.{call, call_ext, ret, pget, pget_or, elem, print, yield, LineForm, title, header, label}
use Rattle.mod_text.specs.ModuleLine.{instr, end, is_version_text, is_arity_text, is_operand_form, is_function_form}
use Rattle.mod_text.specs.ModuleValue.{FunctionForm, HeaderForm, body_of, functions_in, headers_in, instrs_in, is_header}
use Rattle.mod_text.specs.ModuleValue.{label_number, function_number, operand_in, target_in, instr_in, function_in, title_of}
use Rattle.mod_text.specs.ModuleValue.{module_of, IsTitled, is_settled, unsettled_at, unsettled_in, earlier, first_unsettled}
use Rattle.mod_text.specs.LineFaults.{last_line, is_high, has_high_operand, is_high_call, has_high_register}
use Rattle.mod_text.specs.LineFaults.{is_wide_operand, has_wide_integer, is_long_operand, has_long_term, names_after}
use Rattle.mod_text.specs.LineFaults.{overfills_names, is_seventeenth, ends_too_long, is_repeated, fault_of_line, line_atoms}
use Rattle.mod_text.specs.declared.fault.LineFault.TheVariants as faults
use Rattle.mod_text.proofs.Forms.{FollowOn, names_behind, AreModuleLines, ModuleText, RowFrom, IsKept, IsKeptInstr}
use Rattle.mod_text.proofs.CanonicalParts.{IsSound, constant_is}
use Rattle.mod_text.proofs.LineNames.{image_words, kept_sound}
use Rattle.mod_text.proofs.Keepings.{headers_in-append, last_line-push}
use Rattle.mod_text.proofs.Settles.{kept_body}
use Rattle.mod_text.proofs.LineReaders.{arity_few, version_bounds}
use Rattle.mod_text.proofs.TextLaws.{titled_is}

-- ---- the limits that a line was within

-- the tests of a line that has no fault
pub record PassesAll (names : Texts) (before : List LineForm) (line : LineForm) : Type 0 where
  pub low : has_high_register line ≡ false
  pub narrow : has_wide_integer line ≡ false
  pub long : has_long_term line ≡ false
  pub room : overfills_names names line ≡ false
  pub few : is_seventeenth before line ≡ false
  pub short : ends_too_long names before line ≡ false
  pub new : is_repeated before line ≡ false

module _ (names : Texts) (before : List LineForm) (line : LineForm) where
  passes_by : (a b l c d e f : Bool) → has_high_register line ≡ a → has_wide_integer line ≡ b → has_long_term line ≡ l → overfills_names names line ≡ c → is_seventeenth before line ≡ d → ends_too_long names before line ≡ e → is_repeated before line ≡ f → cond a (Some faults.Register) (cond b (Some faults.Int) (cond l (Some faults.Term) (cond c (Some faults.Names) (cond d (Some faults.TooManyFunctions) (cond e (Some faults.TooLong) (cond f (Some faults.Duplicate) None)))))) ≡ None → PassesAll names before line
  passes_by false false false false false false false ha hb hl hc hd he hf none = record { low = ha; narrow = hb; long = hl; room = hc; few = hd; short = he; new = hf }
  passes_by a b l c d e f ha hb hl hc hd he hf none = absurd cc

  pub passes : fault_of_line names before line ≡ None → PassesAll names before line
  passes none = passes_by _ _ _ _ _ _ _ refl refl refl refl refl refl refl none

-- ---- names

-- the names after lines are no more than there is room for
pub names_room : (names : Texts) (before lines : List LineForm) → length names ≤ 4096 → FollowOn names before lines → length (names_behind names lines) ≤ 4096
names_room names before [] room follow = room
names_room names before (line ∷ lines) room follow =
    let over : nat_lt 4096 (length (names_after names line)) ≡ false = (passes names before line follow.0.within).room in
    names_room (names_after names line) (before ++ line ∷ []) lines (grind (arith, nat_tests)) follow.1

number_by : (names : Texts) (text : List ℕ) (o : Option ℕ) → number_of names text ≡ o → length names ≤ 4096 → unwrap_or o 0 < 4096
number_by names text None is room = omega arith
number_by names text (Some n) is room = let within = slice_get_within names n text (slice_get-number_of names text n is) in omega arith

-- each atom is one of 4,096
pub atom_small : (names : Texts) (text : List ℕ) → length names ≤ 4096 → number_in names text < 4096
atom_small names text room = number_by names text _ refl room

-- ---- operands and instructions

low_register : (digits : List ℕ) → is_high digits ≡ false → number_value digits < 16
low_register digits h = grind (arith, nat_tests)

operand_is : (names : Texts) (o : OperandForm) → length names ≤ 4096 → is_operand_form o ≡ true → has_high_operand o ≡ false → is_wide_operand o ≡ false → is_long_operand o ≡ false → IsOperand (operand_in names o)
operand_is names (register digits) room sound low narrow short = low_register digits low
operand_is names (constant form) room sound low narrow short = constant_is names form sound narrow short (λ t. atom_small names t room)

-- a call within the registers
call_place : (arity at : List ℕ) → is_high_call arity at ≡ false → IsCallPlace (number_value at) (number_value arity)
call_place arity at h =
    let parts = or_parts _ _ h in
    let fits : not (nat_le (number_value at + number_value arity) 16) ≡ false = parts.1 in
    record { back = low_register at parts.0; arguments = grind (arith, nat_tests) }

-- what stands at a place that passed
pub record FoundAt {X : Type 0} (p : X → Bool) (xs : List X) (k : ℕ) : Type 0 where
  pub value : X
  pub at : slice_get xs k ≡ Some value
  pub passed : p value ≡ true

found_by : {X : Type 0} (p : X → Bool) (x : X) (xs : List X) (k : ℕ) (t : Bool) (o : Option ℕ) → p x ≡ t → ((j : ℕ) → o ≡ Some j → FoundAt p xs j) → cond t (Some 0) (option_map (λ i. i + 1) o) ≡ Some k → FoundAt p (x ∷ xs) k
found_by p x xs k true o is more e = let first : 0 ≡ k = cc in subst (FoundAt p _) first (record { value = x; at = refl; passed = is })
found_by p x xs k false (Some j) is more e =
    let found = more j refl in
    subst (FoundAt p _) (sym (add-one j) ∙ cc) (record { value = found.value; at = found.at; passed = found.passed })
found_by p x xs k false None is more e = absurd cc

pub position-found : {X : Type 0} (p : X → Bool) (xs : List X) (k : ℕ) → position p xs ≡ Some k → FoundAt p xs k
position-found p [] k e = absurd cc
position-found p (x ∷ xs) k e = found_by p x xs k _ _ refl (position-found p xs) (sym (position-cons p x xs) ∙ e)

-- ---- labels

label_by : (t : Bool) (o : Option ℕ) (n bound : ℕ) → (o ≡ Some n → n ≤ bound) → cond t (Some 0) o ≡ Some n → n ≤ bound
label_by true o n bound more e = let first : 0 ≡ n = cc in omega arith
label_by false o n bound more e = more e

suc_by : (o : Option ℕ) (n bound : ℕ) → ((k : ℕ) → o ≡ Some k → k ≤ bound) → option_map suc o ≡ Some n → n ≤ suc bound
suc_by (Some k) n bound more e = let next : suc k ≡ n = cc in omega (arith, more k refl)
suc_by None n bound more e = absurd cc

module _ (wanted : List ℕ) where
  -- a label's instruction is one of its function's, or the place behind them
  pub label_within : (body : List LineForm) (n : ℕ) → label_number wanted body ≡ Some n → n ≤ length (instrs_in body)
  label_within [] n e = absurd cc
  label_within (label name ∷ lines) n e = label_by _ _ n _ (label_within lines n) e
  label_within (instr i ∷ lines) n e = suc_by _ n _ (label_within lines) e
  label_within (line ∷ lines) n e = label_within lines n e

  target_by : (body : List LineForm) (o : Option ℕ) → label_number wanted body ≡ o → unwrap_or o 0 ≤ length (instrs_in body)
  target_by body None is = omega arith
  target_by body (Some n) is = label_within body n is

  target_within : (body : List LineForm) → target_in body wanted ≤ length (instrs_in body)
  target_within body = target_by body _ refl

-- ---- functions

-- the header of a function's form
abbrev pub head_of : FunctionForm → HeaderForm
head_of f = (f.name, f.arity)

-- what each function of a text has
pub record IsForm (headers : List HeaderForm) (f : FunctionForm) : Type 0 where
  pub sound : is_function_form f.name f.arity ≡ true
  pub kept : All IsKept f.body
  pub settled : unsettled_in headers f.body ≡ None

both_none : (a b : Option ℕ) → option_map suc (earlier a b) ≡ None → (a ≡ None) × (b ≡ None)
both_none None None h = (refl, refl)
both_none a b h = absurd cc

pub forms_are : (headers : List HeaderForm) (lines : List LineForm) → All IsKept lines → first_unsettled headers lines ≡ None → All (IsForm headers) (functions_in lines)
forms_are headers [] kept none = All-nil _
forms_are headers (header exported name arity ∷ lines) kept none =
    let settled = both_none (unsettled_in headers (body_of lines)) (first_unsettled headers lines) none in
    let rest = All-tail IsKept (header exported name arity) lines kept in
    All-cons (IsForm headers) (record { exported = exported; name = name; arity = arity; body = body_of lines }) (functions_in lines)
    (record { sound = (All-head IsKept (header exported name arity) lines kept).sound; kept = kept_body lines rest; settled = settled.0 })
    (forms_are headers lines rest settled.1)
forms_are headers (line ∷ lines) kept none = forms_are _ lines (All-tail IsKept line lines kept) (both_none None _ none).1

-- each line was within its own limits
pub kept_lines : (names : Texts) (before lines : List LineForm) → FollowOn names before lines → All IsKept lines
kept_lines names before [] follow = All-nil IsKept
kept_lines names before (line ∷ lines) follow =
    let tests = passes names before line follow.0.within in
    All-cons IsKept line lines (record { sound = follow.0.stands.is_text.sound; low = tests.low; narrow = tests.narrow; short = tests.long }) (kept_lines (names_after names line) (before ++ line ∷ []) lines follow.1)

-- ---- in a module of these functions

module _ (names : Texts) (forms : List FunctionForm) (room : length names ≤ 4096) where
  abbrev heads : List HeaderForm
  heads = map head_of forms

  -- the functions that the forms say
  abbrev made : List Function
  made = map (function_in names heads) forms

  call_found : (name arity at : List ℕ) (k : ℕ) → IsCallPlace (number_value at) (number_value arity) → function_number name arity heads ≡ Some k → IsSomeAnd (slice_get made k) (λ f. IsCallPlace (number_value at) f.arity)
  call_found name arity at k place e =
      let found = position-found _ heads k e in
      by_form _ refl found (sym (slice_get-map head_of forms k) ∙ found.at)
    where
      by_form : (o : Option FunctionForm) → slice_get forms k ≡ o → (found : FoundAt (is_header name arity) heads k) → option_map head_of (slice_get forms k) ≡ Some found.value → IsSomeAnd (slice_get made k) (λ f. IsCallPlace (number_value at) f.arity)
      by_form None is found same = absurd (let none : option_map head_of None ≡ Some found.value = ap (option_map head_of) (sym is) ∙ same in cc)
      by_form (Some f) is found same =
          let head : ◌≡◌ {A = Option HeaderForm} (Some (head_of f)) (Some found.value) = ap (option_map head_of) (sym is) ∙ same in
          let arity_is : f.arity ≡ arity = ap (λ h. h.1) (some_is _ _ head) ∙ bytes_are _ arity (and_parts _ _ found.passed).1 in
          let at_k : slice_get made k ≡ Some (function_in names heads f) = slice_get-map _ forms k ∙ ap (option_map (function_in names heads)) is in
          subst (λ o. IsSomeAnd o (λ g. IsCallPlace (number_value at) g.arity)) (sym at_k) (subst (λ a. IsCallPlace (number_value at) (number_value a)) (sym arity_is) place)

  call_by : (name arity at : List ℕ) (o : Option ℕ) → IsCallPlace (number_value at) (number_value arity) → function_number name arity heads ≡ o → is_some o ≡ true → IsSomeAnd (slice_get made (unwrap_or o 0)) (λ f. IsCallPlace (number_value at) f.arity)
  call_by name arity at None place is some = absurd cc
  call_by name arity at (Some k) place is some = call_found name arity at k place is

  -- two operands of an instruction that was kept
  two_are : (a b : OperandForm) (rest : Bool) → (is_operand_form a && (is_operand_form b && rest)) ≡ true → has_high_operand a ≡ false → has_high_operand b ≡ false → (is_wide_operand a || is_wide_operand b) ≡ false → (is_long_operand a || is_long_operand b) ≡ false → IsOperand (operand_in names a) × IsOperand (operand_in names b)
  two_are a b rest sound low_a low_b wide long =
      let first = and_parts _ _ sound in
      let narrow = or_parts _ _ wide in
      let short = or_parts _ _ long in
      (operand_is names a room first.0 low_a narrow.0 short.0, operand_is names b room (and_parts _ rest first.1).0 low_b narrow.1 short.1)

  -- two operands and a register of an instruction that was kept
  sum_is : (a b : OperandForm) (to : List ℕ) → (is_operand_form a && (is_operand_form b && is_number_text to)) ≡ true → (has_high_operand a || (has_high_operand b || is_high to)) ≡ false → (is_wide_operand a || is_wide_operand b) ≡ false → (is_long_operand a || is_long_operand b) ≡ false → IsOperand (operand_in names a) × IsOperand (operand_in names b) × (number_value to < 16)
  sum_is a b to sound low wide long =
      let first = or_parts _ _ low in
      let second = or_parts _ (is_high to) first.1 in
      let both = two_are a b (is_number_text to) sound first.0 second.0 wide long in
      (both.0, both.1, low_register to second.1)

  instr_is : (body : List LineForm) (i : InstrForm) → IsKeptInstr i → is_settled heads body i ≡ true → IsInstr made (length (instrs_in body)) (instr_in names heads body i)
  instr_is body (move from to) kept settled =
      let low = or_parts _ _ kept.low in
      (operand_is names from room (and_parts _ _ kept.sound).0 low.0 kept.narrow kept.short, low_register to low.1)
  instr_is body (add a b to) kept settled = sum_is a b to kept.sound kept.low kept.narrow kept.short
  instr_is body (sub a b to) kept settled = sum_is a b to kept.sound kept.low kept.narrow kept.short
  instr_is body (eq a b target) kept settled =
      let low = or_parts (has_high_operand a) (has_high_operand b) kept.low in
      let both = two_are a b (is_atom_text target) kept.sound low.0 low.1 kept.narrow kept.short in
      (both.0, both.1, target_within target body)
  instr_is body (less a b target) kept settled =
      let low = or_parts (has_high_operand a) (has_high_operand b) kept.low in
      let both = two_are a b (is_atom_text target) kept.sound low.0 low.1 kept.narrow kept.short in
      (both.0, both.1, target_within target body)
  instr_is body (jump target) kept settled = target_within _ body
  instr_is body (call name arity at) kept settled = call_by name arity at (function_number name arity heads) (call_place arity at kept.low) refl settled
  instr_is body (call_ext name function arity at) kept settled =
      let third = and_parts _ _ (and_parts _ _ (and_parts _ _ kept.sound).1).0 in
      (record { module_named = atom_small names name room; name_named = atom_small names _ room; arity = arity_few arity third.1 }, call_place arity at kept.low)
  instr_is body (ret value) kept settled = operand_is names value room kept.sound kept.low kept.narrow kept.short
  instr_is body (pget key to) kept settled = (atom_small names key room, low_register to kept.low)
  instr_is body (pget_or key other to) kept settled =
      let sound = and_parts _ _ (and_parts _ _ kept.sound).1 in
      let low = or_parts _ _ kept.low in
      (atom_small names key room, operand_is names other room sound.0 low.0 kept.narrow kept.short, low_register to low.1)
  instr_is body (elem index from to) kept settled = sum_is index from to kept.sound kept.low kept.narrow kept.short
  instr_is body (print value) kept settled = operand_is names value room kept.sound kept.low kept.narrow kept.short
  instr_is body yield kept settled = tt

  settled_by : (t : Bool) (o : Option ℕ) → cond t (option_map suc o) (Some 0) ≡ None → (t ≡ true) × (o ≡ None)
  settled_by true None h = (refl, refl)
  settled_by t o h = absurd cc

  code_is : (body rest : List LineForm) → All IsKept rest → unsettled_at heads body rest ≡ None → All (IsInstr made (length (instrs_in body))) (map (instr_in names heads body) (instrs_in rest))
  code_is body [] kept none = All-nil _
  code_is body (instr i ∷ rest) kept none =
      let both = settled_by (is_settled heads body i) (unsettled_at heads body rest) none in
      let is = All-head IsKept (instr i) rest kept in
      All-cons (IsInstr made (length (instrs_in body))) (instr_in names heads body i) (map (instr_in names heads body) (instrs_in rest))
      (instr_is body i (record { sound = is.sound; low = is.low; narrow = is.narrow; short = is.short }) both.0)
      (code_is body rest (All-tail IsKept (instr i) rest kept) both.1)
  code_is body (line ∷ rest) kept none = code_is body rest (All-tail IsKept line rest kept) (settled_by true (unsettled_at heads body rest) none).1

  function_is : (f : FunctionForm) → IsForm heads f → IsFunction made (function_in names heads f)
  function_is f is =
      let parts = and_parts (is_atom_text f.name) (is_arity_text f.arity) is.sound in
      let code = map (instr_in names heads f.body) (instrs_in f.body) in
      record {
        named = atom_small names f.name room;
        arity = arity_few f.arity parts.1;
        code = subst (λ (n : ℕ). All (IsInstr made n) code) (sym (length-map (instrs_in f.body) (instr_in names heads f.body))) (code_is f.body f.body is.kept is.settled);
      }

  all_functions : (fs : List FunctionForm) → All (IsForm heads) fs → All (IsFunction made) (map (function_in names heads) fs)
  all_functions [] all = All-nil _
  all_functions (f ∷ fs) all =
      All-cons (IsFunction made) (function_in names heads f) (map (function_in names heads) fs)
      (function_is f (All-head (IsForm heads) f fs all)) (all_functions fs (All-tail (IsForm heads) f fs all))

-- ---- how many functions there are, and that no two are one

-- after a line there are at most sixteen headers, where it was no seventeenth
few_after : (before : List LineForm) (line : LineForm) → is_seventeenth before line ≡ false → length (headers_in before) ≤ 16 → length (headers_in before ++ headers_in (line ∷ [])) ≤ 16
few_after before (header exported name arity) h few =
    let below : nat_le 16 (length (headers_in before)) ≡ false = h in
    let one_more : length (headers_in before) + 1 ≤ 16 = grind (arith, nat_tests) in
    omega (arith, one_more, length-append (headers_in before) ((name, arity) ∷ []))
few_after before line h few = omega (arith, length-append (headers_in before) [])

pub heads_few : (names : Texts) (before lines : List LineForm) → FollowOn names before lines → length (headers_in before) ≤ 16 → length (headers_in (before ++ lines)) ≤ 16
heads_few names before [] follow few = subst (λ ls. length (headers_in ls) ≤ 16) (sym (append-nil before)) few
heads_few names before (line ∷ lines) follow few =
    let tests = passes names before line follow.0.within in
    let more : length (headers_in (before ++ line ∷ [])) ≤ 16 = subst (λ hs. length hs ≤ 16) (sym (headers_in-append before (line ∷ []))) (few_after before line tests.few few) in
    subst (λ ls. length (headers_in ls) ≤ 16) (append_assoc before (line ∷ []) lines) (heads_few (names_after names line) (before ++ line ∷ []) lines follow.1 more)

-- no two headers are one
pub HeadsApart : List HeaderForm → Type 0
HeadsApart hs = (i j : ℕ) (a b : HeaderForm) → i < j → slice_get hs i ≡ Some a → slice_get hs j ≡ Some b → a ≡ b → ⊥

none_passes : {X : Type 0} (p : X → Bool) (xs : List X) (i : ℕ) (x : X) → list_any p xs ≡ false → slice_get xs i ≡ Some x → p x ≡ false
none_passes p [] i x h e = absurd cc
none_passes p (y ∷ ys) zero x h e = let same = some_is y x e in ap p (sym same) ∙ (or_parts (p y) (list_any p ys) h).0
none_passes p (y ∷ ys) (suc i) x h e = none_passes p ys i x (or_parts (p y) (list_any p ys) h).1 e

-- where a list goes on by one
slice_get-push_at : {X : Type 0} (xs : List X) (y : X) (j : ℕ) (x : X) → slice_get (xs ++ y ∷ []) j ≡ Some x → (slice_get xs j ≡ Some x) ⊎ ((j ≡ length xs) × (x ≡ y))
slice_get-push_at [] y zero x e = inr (refl, sym (some_is y x e))
slice_get-push_at [] y (suc j) x e = absurd cc
slice_get-push_at (z ∷ zs) y zero x e = inl e
slice_get-push_at (z ∷ zs) y (suc j) x e =
    elim (slice_get-push_at zs y j x e) as (λ _. (slice_get zs j ≡ Some x) ⊎ ((suc j ≡ suc (length zs)) × (x ≡ y))) [
      | inl before ↦ inl before
      | inr last ↦ inr (ap suc last.0, last.1)
    ]

header_same : (h : HeaderForm) → is_header h.0 h.1 h ≡ true
header_same h = and_from _ _ (same_bytes h.0) (same_bytes h.1)

apart_more : (hs : List HeaderForm) (h : HeaderForm) → HeadsApart hs → list_any (is_header h.0 h.1) hs ≡ false → HeadsApart (hs ++ h ∷ [])
unfolding HeadsApart
apart_more hs h apart new = λ i j a b below at_i at_j same.
    elim (slice_get-push_at hs h j b at_j) as (λ _. ⊥) [
      | inl there ↦
          elim (slice_get-push_at hs h i a at_i) as (λ _. ⊥) [
            | inl here ↦ apart i j a b below here there same
            | inr last ↦ let end_at = last.0 in omega (arith, slice_get_within hs j b there)
          ]
      | inr last ↦
          elim (slice_get-push_at hs h i a at_i) as (λ _. ⊥) [
            | inl here ↦
                not_both (is_header h.0 h.1 a) (ap (is_header h.0 h.1) (same ∙ last.1) ∙ header_same h) (none_passes _ hs i a new here)
            | inr too ↦ let too_at = too.0 in omega (arith, last.0)
          ]
    ]

apart_after : (before : List LineForm) (line : LineForm) → is_repeated before line ≡ false → HeadsApart (headers_in before) → HeadsApart (headers_in before ++ headers_in (line ∷ []))
apart_after before (header exported name arity) new apart = apart_more _ _ apart new
apart_after before line new apart = subst HeadsApart (sym (append-nil _)) apart

pub heads_apart : (names : Texts) (before lines : List LineForm) → FollowOn names before lines → HeadsApart (headers_in before) → HeadsApart (headers_in (before ++ lines))
heads_apart names before [] follow apart = subst (λ ls. HeadsApart (headers_in ls)) (sym (append-nil before)) apart
heads_apart names before (line ∷ lines) follow apart =
    let tests = passes names before line follow.0.within in
    let more : HeadsApart (headers_in (before ++ line ∷ [])) = subst HeadsApart (sym (headers_in-append before (line ∷ []))) (apart_after before line tests.new apart) in
    subst (λ ls. HeadsApart (headers_in ls)) (append_assoc before (line ∷ []) lines) (heads_apart (names_after names line) (before ++ line ∷ []) lines follow.1 more)

-- ---- names that are held

-- a text is among the names
abbrev pub IsNamed : Texts → List ℕ → Type 0
IsNamed names text = is_some (number_of names text) ≡ true

module _ (names : Texts) (text other : List ℕ) where
  named_by : (t : Bool) → is_some (number_of names other) ≡ t → IsNamed names text → IsNamed (cond t names (names ++ other ∷ [])) text
  named_by true is named = named
  named_by false is named =
      is_some-position (bytes_eq text) (names ++ other ∷ []) ∙ list_any-append _ names (other ∷ [])
      ∙ ap (λ t. t || list_any (bytes_eq text) (other ∷ [])) (sym (is_some-position _ names) ∙ named)

  named_after : IsNamed names text → IsNamed (names_with names other) text
  named_after named = named_by _ refl named

named_new : (names : Texts) (text : List ℕ) (t : Bool) → is_some (number_of names text) ≡ t → IsNamed (cond t names (names ++ text ∷ [])) text
named_new names text true is = is
named_new names text false is =
    is_some-position (bytes_eq text) (names ++ text ∷ []) ∙ list_any-append _ names (text ∷ [])
    ∙ ap (λ t. list_any (bytes_eq text) names || (t || false)) (same_bytes text) ∙ or_right _ true refl

named_all : (names texts : Texts) (text : List ℕ) → IsNamed names text → IsNamed (names_with_all names texts) text
named_all names [] text named = named
named_all names (other ∷ texts) text named = named_all (names_with names other) texts text (named_after names text other named)

pub named_behind : (names : Texts) (lines : List LineForm) (text : List ℕ) → IsNamed names text → IsNamed (names_behind names lines) text
named_behind names [] text named = named
named_behind names (line ∷ lines) text named = named_behind (names_after names line) lines text (named_all names (line_atoms line) text named)

pub heads_named : (names : Texts) (lines : List LineForm) → All (λ h. IsNamed (names_behind names lines) h.0) (headers_in lines)
heads_named names [] = All-nil (λ h. IsNamed names h.0)
heads_named names (title name version ∷ lines) = heads_named (names_after names (title name version)) lines
heads_named names (header exported name arity ∷ lines) =
    All-cons (λ h. IsNamed (names_behind (names_with names name) lines) h.0) _ _ (named_behind _ lines name (named_new names name _ refl)) (heads_named _ lines)
heads_named names (label name ∷ lines) = heads_named names lines
heads_named names (instr i ∷ lines) = heads_named _ lines
heads_named names (end ∷ lines) = heads_named names lines

one_name : (names : Texts) (a b : List ℕ) (o p : Option ℕ) → number_of names a ≡ o → number_of names b ≡ p → is_some o ≡ true → is_some p ≡ true → unwrap_or o 0 ≡ unwrap_or p 0 → a ≡ b
one_name names a b (Some n) (Some k) is_a is_b some_a some_b same =
    some_is a b (sym (slice_get-number_of names a n is_a) ∙ ap (slice_get names) same ∙ slice_get-number_of names b k is_b)
one_name names a b o p is_a is_b some_a some_b same = absurd cc

-- texts with one number are one
pub names_one : (names : Texts) (a b : List ℕ) → IsNamed names a → IsNamed names b → number_in names a ≡ number_in names b → a ≡ b
names_one names a b named_a named_b same = one_name names a b _ _ refl refl named_a named_b same

-- ---- numbers that are one have one text

number_text_by : (text : List ℕ) → (text ≡ 48 ∷ []) ⊎ (is_positive_text text ≡ true) → number_value text < 2 ^ 64 → text ≡ decimal (number_value text)
number_text_by text (inl nought) small = nought ∙ sym (ap (λ t. decimal (number_value t)) nought ∙ decimal_digit 0 (omega arith))
number_text_by text (inr positive) small =
    let p = Positive-from text positive in
    sym (decimal-digits_value own text p.digits p.some (λ z. absurd (omega (arith, p.low))) small)

number_text_is : (text : List ℕ) → is_number_text text ≡ true → number_value text < 2 ^ 64 → text ≡ decimal (number_value text)
number_text_is text h small =
    number_text_by text
    (elim (or_cases (bytes_eq text (48 ∷ [])) (is_positive_text text) h) as (λ _. (text ≡ 48 ∷ []) ⊎ (is_positive_text text ≡ true)) [ inl nought ↦ inl (bytes_are text (48 ∷ []) nought) | inr positive ↦ inr positive ]) small

pub arities_one : (a b : List ℕ) → is_arity_text a ≡ true → is_arity_text b ≡ true → number_value a ≡ number_value b → a ≡ b
arities_one a b is_a is_b same =
    let small_a : number_value a < 2 ^ 64 = omega (arith, arity_few a is_a) in
    number_text_is a (and_parts _ _ is_a).0 small_a ∙ ap decimal same ∙ sym (number_text_is b (and_parts _ _ is_b).0 (omega (arith, arity_few b is_b)))

-- ---- the image

row_of : (names : Texts) (before lines : List LineForm) → FollowOn names before lines → RowFrom (last_line before) lines
row_of names before [] follow = tt
row_of names before (line ∷ lines) follow =
    (follow.0.stands.place, subst (λ o. RowFrom o lines) (last_line-push before line) (row_of (names_after names line) (before ++ line ∷ []) lines follow.1))

-- the test of the end line
record ShortAt (whole : List LineForm) : Type 0 where
  names : Texts
  before : List LineForm
  short : ends_too_long names before end ≡ false
  lines_are : before ++ end ∷ [] ≡ whole

short_of : (names : Texts) (before : List LineForm) (line : LineForm) (lines : List LineForm) → FollowOn names before (line ∷ lines) → last_line (before ++ line ∷ lines) ≡ Some end → ShortAt (before ++ line ∷ lines)
short_of names before line [] follow closed =
    let is_end_line : line ≡ end = some_is line end (sym (last_line-push before line) ∙ closed) in
    let tests = passes names before line follow.0.within in
    record { names = names; before = before; short = ap (ends_too_long names before) (sym is_end_line) ∙ tests.short; lines_are = ap (λ l. before ++ l ∷ []) (sym is_end_line) }
short_of names before line (next ∷ lines) follow closed =
    let whole = append_assoc before (line ∷ []) (next ∷ lines) in
    subst ShortAt whole (short_of (names_after names line) (before ++ line ∷ []) next lines follow.1 (ap last_line whole ∙ closed))

image_short : (names after : Texts) (lines : List LineForm) → RowFrom None lines → All IsSound lines → ShortAt lines → length (module_image (module_of after lines)) ≤ 1024
image_short names after lines row sound short =
    let over : nat_lt 1024 (length (module_image (module_of short.names (short.before ++ end ∷ [])))) ≡ false = short.short in
    let same = ap (λ ls. length (module_image (module_of short.names ls))) short.lines_are ∙ image_words _ lines row sound ∙ sym (image_words after lines row sound) in
    subst (λ n. n ≤ 1024) same (grind (arith, nat_tests))

-- ---- the whole

-- what the title of a module has
version_is : (lines : List LineForm) → IsTitled lines → All IsKept lines → (1 ≤ number_value (title_of lines).1) × (number_value (title_of lines).1 ≤ 999999)
version_is (title name version ∷ lines) titled kept = version_bounds version (and_parts (is_atom_text name) (is_version_text version) (All-head IsKept (title name version) lines kept).sound).1
version_is lines titled kept = absurd titled

functions_apart : (names : Texts) (headers : List HeaderForm) (forms : List FunctionForm) → All (IsForm headers) forms → All (λ h. IsNamed names h.0) (map head_of forms) → HeadsApart (map head_of forms) → (i j : ℕ) → i < j → SameFunction (map (function_in names headers) forms) i j → ⊥
unfolding HeadsApart
functions_apart names headers forms are named apart i j below same = by_forms _ refl _ refl
  where
    by_forms : (o : Option FunctionForm) → slice_get forms i ≡ o → (p : Option FunctionForm) → slice_get forms j ≡ p → ⊥
    by_forms None at_i p at_j = let none : ◌≡◌ {A = Option Function} None (Some same.first) = sym (slice_get-map _ forms i ∙ ap (option_map (function_in names headers)) at_i) ∙ same.first_at in absurd cc
    by_forms (Some f) at_i None at_j = let none : ◌≡◌ {A = Option Function} None (Some same.second) = sym (slice_get-map _ forms j ∙ ap (option_map (function_in names headers)) at_j) ∙ same.second_at in absurd cc
    by_forms (Some f) at_i (Some g) at_j =
        let first : function_in names headers f ≡ same.first = some_is (function_in names headers f) same.first (sym (slice_get-map (function_in names headers) forms i ∙ ap (option_map (function_in names headers)) at_i) ∙ same.first_at) in
        let second : function_in names headers g ≡ same.second = some_is (function_in names headers g) same.second (sym (slice_get-map (function_in names headers) forms j ∙ ap (option_map (function_in names headers)) at_j) ∙ same.second_at) in
        let name_is : number_in names f.name ≡ number_in names g.name = ap (λ (x : Function). x.name.0) first ∙ ap (λ (a : AtomId). a.0) same.name ∙ sym (ap (λ (x : Function). x.name.0) second) in
        let arity_is : number_value f.arity ≡ number_value g.arity = ap (λ (x : Function). x.arity) first ∙ same.arity ∙ sym (ap (λ (x : Function). x.arity) second) in
        let form_f = all_at (IsForm headers) forms i f are at_i in
        let form_g = all_at (IsForm headers) forms j g are at_j in
        let head_i = slice_get-map head_of forms i ∙ ap (option_map head_of) at_i in
        let head_j = slice_get-map head_of forms j ∙ ap (option_map head_of) at_j in
        let names_are = names_one names f.name g.name (all_at (λ h. IsNamed names h.0) (map head_of forms) i (head_of f) named head_i) (all_at (λ h. IsNamed names h.0) (map head_of forms) j (head_of g) named head_j) name_is in
        let arities_are = arities_one f.arity g.arity (and_parts (is_atom_text f.name) (is_arity_text f.arity) form_f.sound).1 (and_parts (is_atom_text g.name) (is_arity_text g.arity) form_g.sound).1 arity_is in
        apart i j (head_of f) (head_of g) below head_i head_j (λ k. (names_are k, arities_are k))

lines_closed : (names : Texts) (lines : List LineForm) → AreModuleLines names lines → last_line lines ≡ Some end → ShortAt lines
lines_closed names [] follow closed = absurd cc
lines_closed names (line ∷ lines) follow closed = short_of names [] line lines follow closed

no_heads : HeadsApart []
unfolding HeadsApart
no_heads = λ i j a b below at_i at_j same. absurd cc

-- the module of a text is one
pub module_is_sound : (before : Texts) (bytes : List ℕ) (m : Module) (after : Texts) → length before ≤ 4096 → ModuleText before bytes m after → IsModule m
module_is_sound before bytes m after room text =
    let lines = text.lines in
    let follow = text.faultless in
    let kept = kept_lines before [] lines follow in
    let forms = functions_in lines in
    let behind : length (names_behind before lines) ≤ 4096 = names_room before [] lines room follow in
    let room_after : length after ≤ 4096 = subst (λ ns. length ns ≤ 4096) (sym text.named) behind in
    let titled = titled_is before lines follow text.closed in
    let version = version_is lines titled kept in
    let are : All (IsForm (map head_of forms)) forms = forms_are (headers_in lines) lines kept text.settled in
    let few : length (map head_of forms) ≤ 16 = heads_few before [] lines follow (omega arith) in
    let apart : HeadsApart (map head_of forms) = heads_apart before [] lines follow no_heads in
    let named : All (λ h. IsNamed after h.0) (map head_of forms) = subst (λ ns. All (λ h. IsNamed ns h.0) (headers_in lines)) (sym text.named) (heads_named before lines) in
    subst IsModule (sym text.value)
    (record {
      named = atom_small after (title_of lines).0 room_after;
      least_version = version.0;
      greatest_version = version.1;
      functions = all_functions after forms room_after forms are;
      few = omega (arith, few, length-map forms head_of, length-map forms (function_in after (map head_of forms)));
      apart = functions_apart after (map head_of forms) forms are named apart;
      short = image_short before after lines (row_of before [] lines follow) (kept_sound lines kept) (lines_closed before lines follow text.closed);
    })
