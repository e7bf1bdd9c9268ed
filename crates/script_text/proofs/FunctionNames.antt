-- The functions that lines name, by their texts and by their numbers, and the table of them that grows line by line.
use Rattle.std.proofs.Common.{◌≡◌, ℕ, ◌+◌, ◌≤◌, ◌&&◌, Bool, true, false, cond, not, nat_le, List, [], ◌∷◌, ◌++◌, map, length, Option}
use Rattle.std.proofs.Common.{Some, None, Result, Ok, Err, refl, sym, ap, ◌∙◌, arith, append_assoc, append-nil, length-append}
use Rattle.script_text.proofs.Common.{fold, if◌then◌else◌, list_any, nat_tests, map-append, fold-append, Texts}
use Rattle.script_text.proofs.Types.{Mfa, LineCause}
use Rattle.script_text.proofs.Texts.{Extends, number_value, HasNumber}
use Rattle.script_text.proofs.Modules.{LineForm, InstrForm, move, call_ext, title, header, instr}
use Rattle.script_text.proofs.Modules.{atom_in, title_of, line_atoms, called_name, counted_name}
use Rattle.server_core.specs.Generations.{is_same_name}
use Rattle.script_text.proofs.Forms.{ScriptLine, code, spawn, script_line_atoms, mfas_with, counted_added, spawned_in}
use Rattle.script_text.proofs.StepMoves.{ok_is, IsCommand}
use Rattle.script_text.proofs.HeldNames.{number_in-after}
use Rattle.script_text.proofs.ModuleNames.{AreHeld}
use Rattle.script_text.specs.declared.reading.cause.LineCause.TheVariants as causes
use Rattle.script_text.specs.declared.fault.Which.TheVariants as which

-- ---- by their texts

-- a function's name, as it is written: module and function, with the number of its arguments
pub record FunctionForm : Type 0 where
  pub «module» : List ℕ
  pub name : List ℕ
  pub arity : ℕ

-- the function that an instruction calls from outside
abbrev pub instr_functions : InstrForm → List FunctionForm
instr_functions (call_ext «module» name arity at) = record { «module» = «module»; name = name; arity = number_value arity } ∷ []
instr_functions i = []

-- the function that a line of the text of this module exports, or calls from outside
abbrev pub line_functions : List ℕ → LineForm → List FunctionForm
line_functions home (header exported name arity) = if exported then record { «module» = home; name = name; arity = number_value arity } ∷ [] else []
line_functions home (instr i) = instr_functions i
line_functions home line = []

-- the function that a line exports, calls from outside or spawns, behind the title of this module
abbrev pub script_line_functions : List ℕ → ScriptLine → List FunctionForm
script_line_functions home (code line) = line_functions home line
script_line_functions home (spawn «module» name args) = record { «module» = «module»; name = name; arity = length args } ∷ []
script_line_functions home line = []

-- the module of the last title, after a line of a module's text
abbrev pub home_after_line : List ℕ → LineForm → List ℕ
home_after_line home (title name version) = name
home_after_line home line = home

-- the same, after any line
abbrev pub home_after : List ℕ → ScriptLine → List ℕ
home_after home (code line) = home_after_line home line
home_after home line = home

-- after lines
abbrev pub home_of : List ℕ → List ScriptLine → List ℕ
home_of home [] = home
home_of home (line ∷ lines) = home_of (home_after home line) lines

-- the functions that lines name, in order, behind the title of this module
abbrev pub functions_named : List ℕ → List ScriptLine → List FunctionForm
functions_named home [] = []
functions_named home (line ∷ lines) = script_line_functions home line ++ functions_named (home_after home line) lines

pub functions_named-append : (home : List ℕ) (xs ys : List ScriptLine) → functions_named home (xs ++ ys) ≡ functions_named home xs ++ functions_named (home_of home xs) ys
functions_named-append home [] ys = refl
functions_named-append home (x ∷ xs) ys =
    ap (λ (fs : List FunctionForm). script_line_functions home x ++ fs) (functions_named-append _ xs ys)
    ∙ sym (append_assoc (script_line_functions home x) (functions_named (home_after home x) xs) (functions_named (home_of (home_after home x) xs) ys))

pub home_of-append : (home : List ℕ) (xs ys : List ScriptLine) → home_of home (xs ++ ys) ≡ home_of (home_of home xs) ys
home_of-append home [] ys = refl
home_of-append home (x ∷ xs) ys = home_of-append _ xs ys

-- ---- by their numbers

abbrev pub mfa_named : Texts → FunctionForm → Mfa
mfa_named names f = record { «module» = atom_in names f.«module»; name = atom_in names f.name; arity = f.arity }

-- a table with functions more
abbrev pub mfas_on : Texts → List Mfa → List FunctionForm → List Mfa
mfas_on names fs forms = fold mfas_with fs (map (mfa_named names) forms)

pub mfas_on-append : (names : Texts) (fs : List Mfa) (xs ys : List FunctionForm) → mfas_on names fs (xs ++ ys) ≡ mfas_on names (mfas_on names fs xs) ys
mfas_on-append names fs xs ys = ap (λ (ms : List Mfa). fold mfas_with fs ms) (map-append (mfa_named names) xs ys) ∙ fold-append mfas_with fs (map (mfa_named names) xs) (map (mfa_named names) ys)

-- the table of all functions that lines name, with a line more
pub mfas_on-line : (names : Texts) (fs : List Mfa) (home : List ℕ) (lines : List ScriptLine) (line : ScriptLine) → mfas_on names fs (functions_named home (lines ++ line ∷ [])) ≡ mfas_on names (mfas_on names fs (functions_named home lines)) (script_line_functions (home_of home lines) line)
mfas_on-line names fs home lines line =
    ap (mfas_on names fs) (functions_named-append home lines _ ∙ ap (λ (xs : List FunctionForm). functions_named home lines ++ xs) (append-nil _))
    ∙ mfas_on-append names fs (functions_named home lines) (script_line_functions (home_of home lines) line)

-- ---- a function more, if there is one

abbrev pub counted_with : List Mfa → Option Mfa → List Mfa
counted_with fs None = fs
counted_with fs (Some f) = mfas_with fs f

with_more : (fs : List Mfa) (f : Mfa) (t : Bool) → length fs ≤ length (cond t fs (fs ++ f ∷ []))
with_more fs f true = omega arith
with_more fs f false = omega (arith, length-append fs (f ∷ []))

pub mfas_more : (fs gs : List Mfa) → length fs ≤ length (fold mfas_with fs gs)
mfas_more fs [] = omega arith
mfas_more fs (g ∷ gs) = omega (arith, with_more fs g (list_any (is_same_name g) fs), mfas_more (mfas_with fs g) gs)

-- where the functions stay few enough, one more is added
pub added_few : (fs : List Mfa) (o : Option Mfa) → length (counted_with fs o) ≤ 1024 → counted_added fs o ≡ Ok (counted_with fs o)
added_few fs None few = refl
added_few fs (Some f) few = by_same _ few
  where
    by_bound : (b : Bool) → cond {A = Result (List Mfa) LineCause} (b && false) (Err (causes.Limit which.Exports)) (Ok fs) ≡ Ok fs
    by_bound true = refl
    by_bound false = refl

    by_same : (t : Bool) → length (cond t fs (fs ++ f ∷ [])) ≤ 1024 → cond {A = Result (List Mfa) LineCause} (nat_le 1024 (length fs) && not t) (Err (causes.Limit which.Exports)) (Ok (cond t fs (fs ++ f ∷ []))) ≡ Ok (cond t fs (fs ++ f ∷ []))
    by_same true few = by_bound _
    by_same false few =
        let small : nat_le 1024 (length fs) ≡ false = let more = length-append fs (f ∷ []) in grind (arith, nat_tests, more) in
        ap (λ b. cond {A = Result (List Mfa) LineCause} (b && true) (Err (causes.Limit which.Exports)) (Ok (fs ++ f ∷ []))) small

-- and where one was added, they are
pub added_is : (fs : List Mfa) (o : Option Mfa) (next : List Mfa) → counted_added fs o ≡ Ok next → length fs ≤ 1024 → (next ≡ counted_with fs o) × (length next ≤ 1024)
added_is fs None next e few = let same = ok_is fs next e in (sym same, omega (arith, ap length same))
added_is fs (Some f) next e few = by_same _ _ refl e
  where
    by_same : (t b : Bool) → nat_le 1024 (length fs) ≡ b → cond {A = Result (List Mfa) LineCause} (b && not t) (Err (causes.Limit which.Exports)) (Ok (cond t fs (fs ++ f ∷ []))) ≡ Ok next → (next ≡ cond t fs (fs ++ f ∷ [])) × (length next ≤ 1024)
    by_same true true full e = let same = ok_is fs next e in (sym same, omega (arith, ap length same, few))
    by_same true false room e = let same = ok_is fs next e in (sym same, omega (arith, ap length same, few))
    by_same false true full e = absurd cc
    by_same false false room e =
        let same = ok_is (fs ++ f ∷ []) next e in
        let more = length-append fs (f ∷ []) in
        let small : length fs + 1 ≤ 1024 = grind (arith, nat_tests) in
        (sym same, omega (arith, ap length same, more, small))

-- ---- the function of a line, under names that grow

named_after : (names after : Texts) (m f : List ℕ) (arity : ℕ) → Extends names after → HasNumber names m → HasNumber names f → mfa_named names (record { «module» = m; name = f; arity = arity }) ≡ mfa_named after (record { «module» = m; name = f; arity = arity })
named_after names after m f arity e h k =
    let p = sym (number_in-after names after m e h) in
    λ i. record { «module» = record { 0 = p i }; name = record { 0 = (sym (number_in-after names after f e k)) i }; arity = arity }

header_counted : (names after : Texts) (fs : List Mfa) (home name : List ℕ) (arity : ℕ) (exported : Bool) → Extends names after → HasNumber names home → HasNumber names name →
    counted_with fs (cond exported (Some (mfa_named names (record { «module» = home; name = name; arity = arity }))) None) ≡ mfas_on after fs (cond exported (record { «module» = home; name = name; arity = arity } ∷ []) [])
header_counted names after fs home name arity true e h k = ap (mfas_with fs) (named_after names after home name arity e h k)
header_counted names after fs home name arity false e h k = refl

module _ (names after : Texts) (fs : List Mfa) where
  instr_counted : (i : InstrForm) → Extends names after → AreHeld names (line_atoms (instr i)) → counted_with fs (called_name names i) ≡ mfas_on after fs (instr_functions i)
  instr_counted (move from to) e held = refl
  instr_counted (call_ext m name arity at) e held = ap (mfas_with fs) (named_after names after m name _ e held.0 held.1.0)
  instr_counted i e held = refl

  -- the function that a line of a module's text is counted by is the one that it names
  pub counted_line : (lines : List LineForm) (line : LineForm) → Extends names after → HasNumber names (title_of lines).0 → AreHeld names (line_atoms line) → counted_with fs (counted_name names lines line) ≡ mfas_on after fs (line_functions (title_of lines).0 line)
  counted_line lines (header exported name arity) e home held = header_counted names after fs _ name _ _ e home held.0
  counted_line lines (instr i) e home held = instr_counted i e held
  counted_line lines line e home held = refl

  -- so is the function that a command spawns
  pub counted_command : (home : List ℕ) (line : ScriptLine) → Extends names after → AreHeld names (script_line_atoms line) → IsCommand line → counted_with fs (spawned_in names line) ≡ mfas_on after fs (script_line_functions home line)
  counted_command home (spawn m f args) e held is = ap (mfas_with fs) (named_after names after m f _ e held.0 held.1.0)
  counted_command home (code line) e held is = absurd is
  counted_command home line e held is = refl
