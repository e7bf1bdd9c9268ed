-- What canonical lines say: the module that they were written of, with every label and local function found.
use Rattle.std.proofs.Common.{◌≡◌, ℕ, ◌<◌, ◌≤◌, true, false, List, [], ◌∷◌, ◌++◌, length, map, decimal, Some, bytes_eq, slice_get, All, refl}
use Rattle.std.proofs.Common.{◌∙◌, arith, zero, suc, ◌+◌, ◌^◌, Bool, cond, option_map, sym, ap, subst, append_assoc, None}
use Rattle.mod_text.proofs.Common.{and_parts, and_from, false_from_ne_true, or_from, decimal_injective, list_any}
use Rattle.mod_text.proofs.Common.{flat_map, append-nil, list_any-append, All-head, All-tail, Texts}
use Rattle.mod_text.proofs.Common.{All-weaker}
use Rattle.mod_text.proofs.Texts.{IsNames, atom_text, position-map, all_at, same_bytes, bytes_are, some, passed, failed, decimal-writes}
use Rattle.mod_text.proofs.Types.{Function, Instr}
use Rattle.mod_core.specs.Module.{SameFunction}
use Rattle.mod_text.specs.ModuleValue.{HeaderForm, is_header, body_of, functions_in, headers_in, instrs_in, label_number, FunctionForm}
use Rattle.mod_text.specs.ModuleValue.{instr_in, function_in, is_settled, unsettled_at, unsettled_in, earlier, first_unsettled}
use Rattle.mod_text.proofs.CanonicalParts.{position-at, held_apart, labels_differ, atom_back}
use Rattle.mod_text.proofs.CanonicalInstrs.{AreCalled, IsInstrBack}
use Rattle.mod_text.proofs.Forms.{label_text, written_instr, goes_to, labels_at, lines_from, function_lines}
use Rattle.mod_text.proofs.Forms.{is_in_function, last_line, LineForm, label, instr, header, end}
use Rattle.mod_text.proofs.Keepings.{last_line-push}

-- the one behind the front
pub slice_get-behind : {X : Type 0} (xs : List X) (y : X) (ys : List X) → slice_get (xs ++ y ∷ ys) (length xs) ≡ Some y
slice_get-behind [] y ys = refl
slice_get-behind (x ∷ xs) y ys = slice_get-behind xs y ys

-- a function whose name is held, of few arguments
pub record IsNamed (names : Texts) (f : Function) : Type 0 where
  pub held : f.name.0 < length names
  pub few : f.arity ≤ 15

-- the header of a function, as it is written
abbrev pub header_form : Texts → Function → HeaderForm
header_form names f = (atom_text names f.name.0, decimal f.arity)

-- no two of these functions are one
abbrev pub AreApart : List Function → Type 0
AreApart fs = (i j : ℕ) → i < j → SameFunction fs i j → ⊥

module _ (names : Texts) (fs : List Function) (i j : ℕ) (f g : Function) (sound : IsNames names) where
  same_function : IsNamed names f → IsNamed names g → slice_get fs i ≡ Some f → slice_get fs j ≡ Some g → is_header (atom_text names g.name.0) (decimal g.arity) (header_form names f) ≡ true → SameFunction fs i j
  same_function first second here there same =
      let parts = and_parts _ _ same in
      record {
        first = f;
        second = g;
        first_at = here;
        second_at = there;
        name = λ k. record { 0 = (held_apart names _ _ sound first.held second.held (bytes_are _ _ parts.0)) k };
        arity = decimal_injective _ _ (omega (arith, first.few)) (omega (arith, second.few)) (bytes_are _ _ parts.1);
      }

  -- the header of one before is another
  pub other_header : AreApart fs → All (IsNamed names) fs → i < j → slice_get fs i ≡ Some f → slice_get fs j ≡ Some g → is_header (atom_text names g.name.0) (decimal g.arity) (header_form names f) ≡ false
  other_header apart named less here there =
      false_from_ne_true _
      (λ same. apart i j less (same_function (all_at (IsNamed names) fs i f named here) (all_at (IsNamed names) fs j g named there) here there same))

-- each function is called by the text of its name and its arity
pub are_called : (names : Texts) (fs : List Function) → IsNames names → AreApart fs → All (IsNamed names) fs → AreCalled names (map (header_form names) fs) fs
are_called names fs sound apart named k f here =
    let own = all_at (IsNamed names) fs k f named here in
    let test = is_header (atom_text names f.name.0) (decimal f.arity) in
    record {
      held = own.held;
      arity = own.few;
      number =
          position-map test (header_form names) fs
          ∙ position-at (λ g. test (header_form names g)) fs k f here (and_from (bytes_eq (atom_text names f.name.0) (atom_text names f.name.0)) (bytes_eq (decimal f.arity) (decimal f.arity)) (same_bytes (atom_text names f.name.0)) (same_bytes (decimal f.arity)))
          (λ j g less there. other_header names fs j k g f sound apart named less there here);
    }

-- ---- the lines of a function's body: its labels stand where its instructions go, each once, with the number of the instruction

-- ---- labels and instructions

-- each of these lines is a label or an instruction
abbrev pub IsBody : List LineForm → Type 0
IsBody [] = Unit {0}
IsBody (label name ∷ lines) = IsBody lines
IsBody (instr i ∷ lines) = IsBody lines
IsBody _ = ⊥

label_body : (t : Bool) (text : List ℕ) (lines : List LineForm) → IsBody lines → IsBody (cond t (label text ∷ []) [] ++ lines)
label_body true text lines is = is
label_body false text lines is = is

-- such are the lines of a function below its header
pub lines_are_body : (names : Texts) (fs : List Function) (code : List Instr) (number : ℕ) (is : List Instr) → IsBody (lines_from names fs code number is)
lines_are_body names fs code number [] = subst IsBody (append-nil (labels_at code number)) (label_body (list_any (goes_to number) code) (label_text number) [] tt)
lines_are_body names fs code number (i ∷ is) = label_body (list_any (goes_to number) code) (label_text number) (instr (written_instr names fs i) ∷ lines_from names fs code (number + 1) is) (lines_are_body names fs code (number + 1) is)

pub body_of-body : (body rest : List LineForm) → IsBody body → body_of rest ≡ [] → body_of (body ++ rest) ≡ body
body_of-body [] rest is stops = stops
body_of-body (label name ∷ body) rest is stops = ap (λ l. label name ∷ l) (body_of-body body rest is stops)
body_of-body (instr i ∷ body) rest is stops = ap (λ l. instr i ∷ l) (body_of-body body rest is stops)
body_of-body body rest is stops = absurd is

-- they begin no function
pub functions_in-body : (body rest : List LineForm) → IsBody body → functions_in (body ++ rest) ≡ functions_in rest
functions_in-body [] rest is = refl
functions_in-body (label name ∷ body) rest is = functions_in-body body rest is
functions_in-body (instr i ∷ body) rest is = functions_in-body body rest is
functions_in-body body rest is = absurd is

pub headers_in-body : (body rest : List LineForm) → IsBody body → headers_in (body ++ rest) ≡ headers_in rest
headers_in-body [] rest is = refl
headers_in-body (label name ∷ body) rest is = headers_in-body body rest is
headers_in-body (instr i ∷ body) rest is = headers_in-body body rest is
headers_in-body body rest is = absurd is

-- behind them the function is still open
pub in_function-body : (before body : List LineForm) → IsBody body → is_in_function (last_line before) ≡ true → is_in_function (last_line (before ++ body)) ≡ true
in_function-body before [] is opened = ap (λ ls. is_in_function (last_line ls)) (append-nil before) ∙ opened
in_function-body before (label name ∷ body) is opened =
    ap (λ ls. is_in_function (last_line ls)) (sym (append_assoc before (label name ∷ []) body)) ∙ in_function-body (before ++ label name ∷ []) body is (ap is_in_function (last_line-push before (label name)))
in_function-body before (instr i ∷ body) is opened =
    ap (λ ls. is_in_function (last_line ls)) (sym (append_assoc before (instr i ∷ []) body)) ∙ in_function-body (before ++ instr i ∷ []) body is (ap is_in_function (last_line-push before (instr i)))
in_function-body before body is opened = absurd is

-- ---- the instructions of a body

instrs_behind_label : (t : Bool) (text : List ℕ) (lines : List LineForm) → instrs_in (cond t (label text ∷ []) [] ++ lines) ≡ instrs_in lines
instrs_behind_label true text lines = refl
instrs_behind_label false text lines = refl

-- ---- labels

-- the label that is wanted stands in front
label_here : (t : Bool) (text : List ℕ) (lines : List LineForm) → t ≡ true → label_number text (cond t (label text ∷ []) [] ++ lines) ≡ Some 0
label_here true text lines h = passed (bytes_eq text text) (some 0) (label_number text lines) (same_bytes text)
label_here false text lines h = absurd cc

-- it is another that stands there, or none
label_later : (t : Bool) (text wanted : List ℕ) (lines : List LineForm) → bytes_eq text wanted ≡ false → label_number wanted (cond t (label text ∷ []) [] ++ lines) ≡ label_number wanted lines
label_later true text wanted lines h = failed _ _ _ h
label_later false text wanted lines h = refl

module _ (names : Texts) (fs : List Function) (code : List Instr) where
  pub instrs_in-lines : (number : ℕ) (is : List Instr) → instrs_in (lines_from names fs code number is) ≡ map (written_instr names fs) is
  instrs_in-lines number [] = ap instrs_in (sym (append-nil (labels_at code number))) ∙ instrs_behind_label (list_any (goes_to number) code) (label_text number) []
  instrs_in-lines number (i ∷ is) =
      instrs_behind_label (list_any (goes_to number) code) (label_text number) (instr (written_instr names fs i) ∷ lines_from names fs code (number + 1) is)
      ∙ ap (λ l. written_instr names fs i ∷ l) (instrs_in-lines (number + 1) is)

  -- the label of a target has its number
  pub label_number-lines : (number : ℕ) (is : List Instr) (k : ℕ) → number + length is < 2 ^ 64 → k ≤ length is → list_any (goes_to (number + k)) code ≡ true → label_number (label_text (number + k)) (lines_from names fs code number is) ≡ Some k
  label_number-lines number [] (suc k) small within goes = absurd (omega arith)
  label_number-lines number [] zero small within goes =
      let same : number + 0 ≡ number = omega arith in
      ap (λ n. label_number (label_text n) (labels_at code number)) same
      ∙ ap (label_number (label_text number)) (sym (append-nil (labels_at code number)))
      ∙ label_here (list_any (goes_to number) code) (label_text number) [] (ap (λ n. list_any (goes_to n) code) (sym same) ∙ goes)
  label_number-lines number (i ∷ is) zero small within goes =
      let same : number + 0 ≡ number = omega arith in
      let rest = instr (written_instr names fs i) ∷ lines_from names fs code (number + 1) is in
      ap (λ n. label_number (label_text n) (labels_at code number ++ rest)) same ∙ label_here _ _ rest (ap (λ n. list_any (goes_to n) code) (sym same) ∙ goes)
  label_number-lines number (i ∷ is) (suc k) small within goes =
      let same : number + suc k ≡ number + 1 + k = omega arith in
      let rest = lines_from names fs code (number + 1) is in
      label_later (list_any (goes_to number) code) (label_text number) (label_text (number + suc k)) (instr (written_instr names fs i) ∷ rest) (labels_differ number (number + suc k) (omega arith) (omega arith) (λ e. omega arith))
      ∙ ap (λ n. option_map suc (label_number (label_text n) rest)) same
      ∙ ap (option_map suc) (label_number-lines (number + 1) is k (omega arith) (omega arith) (ap (λ n. list_any (goes_to n) code) (sym same) ∙ goes))

-- no label from this number on is among these
abbrev pub NewFrom : ℕ → Texts → Type 0
NewFrom number labels = (later : ℕ) → number ≤ later → later < 2 ^ 64 → list_any (bytes_eq (label_text later)) labels ≡ false

-- the next one is new where this one is added
pub new_label : (number : ℕ) (labels : Texts) → number < 2 ^ 64 → NewFrom number labels → NewFrom (number + 1) (labels ++ label_text number ∷ [])
new_label number labels small new later less fits =
    list_any-append (bytes_eq (label_text later)) labels (label_text number ∷ []) ∙ or_from _ _ (new later (omega arith) fits)
    (or_from _ false (labels_differ later _ fits small (λ e. omega arith)) refl)

-- ---- what canonical lines say: the module that they were written of, with every label and local function found

-- the lines of a function below its header
abbrev pub own_lines : Texts → List Function → Function → List LineForm
own_lines names fs f = lines_from names fs f.code 0 f.code

-- an instruction of a function comes back from its line
abbrev pub IsBackIn : Texts → List Function → List HeaderForm → Function → Instr → Type 0
IsBackIn names fs headers f i = IsInstrBack names headers (own_lines names fs f) (written_instr names fs i) i

-- a function comes back from its lines
pub record IsFunctionBack (names : Texts) (fs : List Function) (headers : List HeaderForm) (f : Function) : Type 0 where
  pub named : IsNamed names f
  pub short : length f.code < 2 ^ 64
  pub code : All (IsBackIn names fs headers f) f.code

-- a function, as it is written
abbrev pub function_form : Texts → List Function → Function → FunctionForm
function_form names fs f = record { exported = f.exported; name = atom_text names f.name.0; arity = decimal f.arity; body = own_lines names fs f }

-- ---- one function

module _ (names : Texts) (fs : List Function) (headers : List HeaderForm) where
  code_back : (f : Function) (is : List Instr) → All (IsBackIn names fs headers f) is → map (instr_in names headers (own_lines names fs f)) (map (written_instr names fs) is) ≡ is
  code_back f [] back = refl
  code_back f (i ∷ is) back = λ j. (All-head (IsBackIn names fs headers f) i is back).value j ∷ code_back f is (All-tail (IsBackIn names fs headers f) i is back) j

  function_back : (f : Function) → IsNames names → IsFunctionBack names fs headers f → function_in names headers (function_form names fs f) ≡ f
  function_back f sound back =
      let w = decimal-writes _ (omega (arith, back.named.few)) in
      let code = ap (map _) (instrs_in-lines names fs f.code 0 _) ∙ code_back f _ back.code in
      λ j. record { name = atom_back names _ sound back.named.held j; arity = w.value j; exported = f.exported; code = code j }

  pub functions_back : (gs : List Function) → IsNames names → All (IsFunctionBack names fs headers) gs → map (function_in names headers) (map (function_form names fs) gs) ≡ gs
  functions_back [] sound back = refl
  functions_back (g ∷ gs) sound back = λ j.
      function_back g sound (All-head (IsFunctionBack names fs headers) g gs back) j ∷ functions_back gs sound (All-tail (IsFunctionBack names fs headers) g gs back) j

-- ---- the lines of functions, and the end

-- the lines of functions to the end of the text
abbrev pub lines_to_end : Texts → List Function → List Function → List LineForm
lines_to_end names fs gs = flat_map (function_lines names fs) gs ++ end ∷ []

module _ (names : Texts) (fs : List Function) where
  -- those of the first function, and of the others
  lines_cons : (g : Function) (gs : List Function) → lines_to_end names fs (g ∷ gs) ≡ header g.exported (atom_text names g.name.0) (decimal g.arity) ∷ (own_lines names fs g ++ lines_to_end names fs gs)
  lines_cons g gs = append_assoc (function_lines names fs g) (flat_map (function_lines names fs) gs) (end ∷ [])

  -- they do not go on with the function before
  lines_stop : (gs : List Function) → body_of (lines_to_end names fs gs) ≡ []
  lines_stop [] = refl
  lines_stop (g ∷ gs) = refl

  body_is : (g : Function) (gs : List Function) → body_of (own_lines names fs g ++ lines_to_end names fs gs) ≡ own_lines names fs g
  body_is g gs = body_of-body _ _ (lines_are_body names fs g.code 0 g.code) (lines_stop gs)

  -- the headers are those of the functions
  pub headers_are : (gs : List Function) → headers_in (lines_to_end names fs gs) ≡ map (header_form names) gs
  headers_are [] = refl
  headers_are (g ∷ gs) =
      ap headers_in (lines_cons g gs)
      ∙ ap (λ hs. header_form names g ∷ hs) (headers_in-body (own_lines names fs g) (lines_to_end names fs gs) (lines_are_body names fs g.code 0 g.code) ∙ headers_are gs)

  -- and so are the functions
  pub functions_are : (gs : List Function) → functions_in (lines_to_end names fs gs) ≡ map (function_form names fs) gs
  functions_are [] = refl
  functions_are (g ∷ gs) =
      let rest = functions_in-body (own_lines names fs g) (lines_to_end names fs gs) (lines_are_body names fs g.code 0 g.code) ∙ functions_are gs in
      ap functions_in (lines_cons g gs)
      ∙ (λ j. record { exported = g.exported; name = atom_text names g.name.0; arity = decimal g.arity; body = body_is g gs j } ∷ rest j)

-- ---- nothing is lacking

label_settled : (headers : List HeaderForm) (body : List LineForm) (t : Bool) (text : List ℕ) (lines : List LineForm) → unsettled_at headers body lines ≡ None → unsettled_at headers body (cond t (label text ∷ []) [] ++ lines) ≡ None
label_settled headers body true text lines none = ap (option_map suc) none
label_settled headers body false text lines none = none

-- labels and instructions begin no function that lacks something
body_settled : (headers : List HeaderForm) (body rest : List LineForm) → IsBody body → first_unsettled headers rest ≡ None → first_unsettled headers (body ++ rest) ≡ None
body_settled headers [] rest is none = none
body_settled headers (label name ∷ body) rest is none = ap (option_map suc) (body_settled _ body rest is none)
body_settled headers (instr i ∷ body) rest is none = ap (option_map suc) (body_settled _ body rest is none)
body_settled headers body rest is none = absurd is

module _ (names : Texts) (fs : List Function) (headers : List HeaderForm) where
  lines_settled : (body : List LineForm) (code : List Instr) (number : ℕ) (is : List Instr) → All (λ i. is_settled headers body (written_instr names fs i) ≡ true) is → unsettled_at headers body (lines_from names fs code number is) ≡ None
  lines_settled body code number [] settled =
      ap (unsettled_at headers body) (sym (append-nil (labels_at code number))) ∙ label_settled headers body (list_any (goes_to number) code) (label_text number) [] refl
  lines_settled body code number (i ∷ is) settled =
      let rest = lines_from names fs code (number + 1) is in
      label_settled headers body (list_any (goes_to number) code) (label_text number) (instr (written_instr names fs i) ∷ rest)
      (ap (λ t. cond t (option_map suc (unsettled_at headers body rest)) (Some 0)) (All-head (λ x. is_settled headers body (written_instr names fs x) ≡ true) i is settled)
      ∙ ap (option_map suc) (lines_settled body code (number + 1) is (All-tail (λ x. is_settled headers body (written_instr names fs x) ≡ true) i is settled)))

  -- every label and every local function is found
  pub all_settled : (gs : List Function) → All (IsFunctionBack names fs headers) gs → first_unsettled headers (lines_to_end names fs gs) ≡ None
  all_settled [] back = refl
  all_settled (g ∷ gs) back =
      let own = own_lines names fs g in
      let rest = lines_to_end names fs gs in
      let first = All-head (IsFunctionBack names fs headers) g gs back in
      let here : unsettled_in headers (body_of (own ++ rest)) ≡ None =
      ap (unsettled_in headers) (body_is names fs g gs)
      ∙ lines_settled own g.code 0 g.code (All-weaker (IsBackIn names fs headers g) (λ i. is_settled headers own (written_instr names fs i) ≡ true) (λ i b. b.settled) g.code first.code) in
      let later : first_unsettled headers (own ++ rest) ≡ None = body_settled headers own rest (lines_are_body names fs g.code 0 g.code) (all_settled gs (All-tail (IsFunctionBack names fs headers) g gs back)) in
      ap (first_unsettled headers) (lines_cons names fs g gs) ∙ (λ j. option_map suc (earlier (here j) (later j)))
