-- The code and the functions that lines say, line by line.
use Rattle.std.proofs.Common.{◌≡◌, ℕ, suc, ◌+◌, ◌-◌, ◌<◌, ◌≤◌, Bool, true, false, cond, ◌^◌, List, [], ◌∷◌}
use Rattle.std.proofs.Common.{◌++◌, length, take, drop, get_or, map, Option, Some, None, option_map, refl, sym, ap, ◌∙◌}
use Rattle.std.proofs.Common.{subst, arith, add-one, add-zero, append_assoc, drop-cons, length-drop}
use Rattle.mod_text.proofs.Common.{Bor, All, append-nil, length-map, get_or-map, drop-map, take_more, take_all}
use Rattle.mod_text.proofs.Common.{drop_all, map-append, All-get_or, All-drop, All-nil, All-cons, Texts}
use Rattle.mod_text.proofs.Common.{All-head, All-tail, and_parts}
use Rattle.mod_text.proofs.LineReaders.{version_number, version_bounds}
use Rattle.std.specs.Bool.{OnTrue}
use Rattle.mod_text.proofs.Texts.{is_atom_text, is_number_text, number_value}
use Rattle.mod_text.proofs.Types.{AtomId, Instr, Function, FinishFault}
use Rattle.mod_text.specs.declared.fault.FinishFault.TheVariants.{Missing, NoMemory}
use Rattle.mod_text.proofs.Forms.{form_of, forms_of, InstrForm, LineForm, title, header, label, instr}
use Rattle.mod_text.proofs.Forms.{is_line_form, is_version_text, HeaderForm, body_of, functions_in, instrs_in}
use Rattle.mod_text.proofs.Forms.{instr_in, function_in, is_settled, is_settled_line, unsettled_at}
use Rattle.mod_text.proofs.Forms.{unsettled_in, unsettled_below, earlier, first_unsettled, atom_in, title_of}
use Rattle.mod_text.proofs.Forms.{IsTitled, IsKept, settled_instr, later_by, function_at}
use Rattle.mod_text.proofs.Forms.{is_body_line, IsUnsettled, IsUnsettledBelow, IsLater}

-- ---- lines

module _ (lines : List (Bor (List ℕ))) (i : ℕ) (d : Bor (List ℕ)) (within : i < length lines) where
  -- the lines from a place on
  pub forms_at : forms_of (drop i lines) ≡ form_of (get_or lines i d) ∷ forms_of (drop (i + 1) lines)
  forms_at = ap forms_of (drop-cons lines i d within) ∙ ap (λ n. form_of (get_or lines i d) ∷ forms_of (drop n lines)) (sym (add-one i))

  -- each line that was kept is within its limits
  pub kept_at : All IsKept (forms_of lines) → IsKept (form_of (get_or lines i d))
  kept_at kept =
      subst IsKept (get_or-map form_of lines i d (form_of d) within) (All-get_or IsKept (forms_of lines) i (form_of d) (omega (arith, within, length-map lines form_of)) kept)

pub kept_behind : (lines : List (Bor (List ℕ))) (i : ℕ) → All IsKept (forms_of lines) → All IsKept (forms_of (drop i lines))
kept_behind lines i kept = subst (All IsKept) (drop-map _ i lines) (All-drop IsKept i _ kept)

-- a line of the body goes to its front
pub body_goes_on : (line : LineForm) (lines : List LineForm) → is_body_line line ≡ true → body_of (line ∷ lines) ≡ line ∷ body_of lines
body_goes_on (label name) lines h = refl
body_goes_on (instr i) lines h = refl
body_goes_on line lines h = absurd cc

pub body_ends : (line : LineForm) (lines : List LineForm) → is_body_line line ≡ false → body_of (line ∷ lines) ≡ []
body_ends (label name) lines h = absurd cc
body_ends (instr i) lines h = absurd cc
body_ends line lines h = refl

module _ (lines : List (Bor (List ℕ))) (i : ℕ) (d : Bor (List ℕ)) (within : i < length lines) (so_far : body_of (forms_of lines) ≡ forms_of (take i lines) ++ body_of (forms_of (drop i lines))) where
  -- the body so far, where the next line is none of it
  pub body_stops : false ≡ is_body_line (form_of (get_or lines i d)) → forms_of (take i lines) ≡ body_of (forms_of lines)
  body_stops here =
      sym (so_far ∙ ap (λ ls. forms_of (take i lines) ++ body_of ls) (forms_at lines i d within) ∙ ap (λ ls. forms_of (take i lines) ++ ls) (body_ends (form_of (get_or lines i d)) (forms_of (drop (i + 1) lines)) (sym here)) ∙ append-nil (forms_of (take i lines)))

  pub body_more : true ≡ is_body_line (form_of (get_or lines i d)) → body_of (forms_of lines) ≡ forms_of (take (i + 1) lines) ++ body_of (forms_of (drop (i + 1) lines))
  body_more here =
      let line = form_of (get_or lines i d) in
      let rest = forms_of (drop (i + 1) lines) in
      so_far ∙ ap (λ ls. forms_of (take i lines) ++ body_of ls) (forms_at lines i d within) ∙ ap (λ ls. forms_of (take i lines) ++ ls) (body_goes_on line rest (sym here))
      ∙ sym (append_assoc (forms_of (take i lines)) (line ∷ []) (body_of rest))
      ∙ ap (λ ls. ls ++ body_of rest) (sym (ap forms_of (take_more lines i d within) ∙ map-append form_of (take i lines) (get_or lines i d ∷ [])))

pub body_is_whole : (lines : List (Bor (List ℕ))) (i : ℕ) → length lines ≤ i → body_of (forms_of lines) ≡ forms_of (take i lines) ++ body_of (forms_of (drop i lines)) → forms_of lines ≡ body_of (forms_of lines)
body_is_whole lines i past so_far = sym (so_far ∙ (λ j. forms_of (take_all i lines past j) ++ body_of (forms_of (drop_all i lines past j))) ∙ append-nil _)

-- ---- numbers of lines

later-zero : (o : Option ℕ) → o ≡ later_by 0 o
later-zero None = refl
later-zero (Some n) = ap (λ k. Some k) (omega arith)

later-suc : (n : ℕ) (o : Option ℕ) → later_by n (option_map suc o) ≡ later_by (n + 1) o
later-suc n None = refl
later-suc n (Some k) = ap (λ j. Some j) (omega arith)

-- a clause on what is true
pub on_true : (b : Bool) (P : Type 0) → OnTrue b P → b ≡ true → P
on_true true P h e = h
on_true false P h e = absurd cc

-- the lines of a body were kept where all were
pub kept_body : (lines : List LineForm) → All IsKept lines → All IsKept (body_of lines)
kept_body [] kept = kept
kept_body (label name ∷ lines) kept = All-cons IsKept _ _ (All-head IsKept _ lines kept) (kept_body lines (All-tail IsKept _ lines kept))
kept_body (instr i ∷ lines) kept = All-cons IsKept _ _ (All-head IsKept _ lines kept) (kept_body lines (All-tail IsKept _ lines kept))
kept_body lines kept = All-nil IsKept

-- a version is small
pub version_small : (name version : List ℕ) → is_line_form (title name version) ≡ true → number_value version < 2 ^ 32
version_small name version sound = let high = (version_bounds version (and_parts (is_atom_text name) (is_version_text version) sound).1).1 in omega arith

-- what the title of a module has
pub record HasVersion (text : List ℕ) : Type 0 where
  pub number : is_number_text text ≡ true
  pub small : number_value text < 2 ^ 32

pub title_version : (lines : List LineForm) → IsTitled lines → All IsKept lines → HasVersion (title_of lines).1
title_version (title name version ∷ lines) titled kept =
    let sound = (All-head IsKept (title name version) lines kept).sound in
    record { number = version_number version (and_parts (is_atom_text name) (is_version_text version) sound).1; small = version_small name version sound }
title_version lines titled kept = absurd titled

module _ (names : Texts) (headers : List HeaderForm) (behind body : List LineForm) (exported : Bool) (name arity : List ℕ) (atom : AtomId) (number : ℕ) (code : List Instr) where
  -- the function of a header
  pub header_function : atom ≡ atom_in names name → number ≡ number_value arity → code ≡ map (instr_in names headers body) (instrs_in body) → body ≡ body_of behind → ◌≡◌ {A = List Function} (record { name = atom; arity = number; exported = exported; code = code } ∷ []) (map (function_in names headers) (function_at (header exported name arity) behind))
  header_function atom_is number_is code_is body_is = λ j.
      record { name = atom_is j; arity = number_is j; exported = exported; code = (code_is ∙ ap (λ b. map (instr_in names headers b) (instrs_in b)) body_is) j } ∷ []

-- ---- the code of a function

instrs_in-append : (xs ys : List LineForm) → instrs_in (xs ++ ys) ≡ instrs_in xs ++ instrs_in ys
instrs_in-append [] ys = refl
instrs_in-append (instr i ∷ xs) ys = ap (λ l. i ∷ l) (instrs_in-append xs ys)
instrs_in-append (line ∷ xs) ys = instrs_in-append xs ys

-- what the loop over a body keeps
pub record CodeSoFar (names : Texts) (headers : List HeaderForm) (body : List (Bor (List ℕ))) (i : ℕ) (code : List Instr) : Type 0 where
  pub code_is : code ≡ map (instr_in names headers (forms_of body)) (instrs_in (forms_of (take i body)))
  pub settled : unsettled_in headers (forms_of body) ≡ later_by i (unsettled_at headers (forms_of body) (forms_of (drop i body)))

module _ (names : Texts) (headers : List HeaderForm) (body : List (Bor (List ℕ))) where
  pub code_starts : (code : List Instr) → code ≡ [] → CodeSoFar names headers body 0 code
  code_starts code none = record { code_is = none; settled = later-zero _ }

  pub code_more : (i : ℕ) (d : Bor (List ℕ)) (code new : List Instr) → i < length body → CodeSoFar names headers body i code → true ≡ is_settled_line headers (forms_of body) (form_of (get_or body i d)) → new ≡ code ++ map (instr_in names headers (forms_of body)) (instrs_in (form_of (get_or body i d) ∷ [])) → CodeSoFar names headers body (i + 1) new
  code_more i d code new within so_far here pushed =
      let line = form_of (get_or body i d) in
      let f = instr_in names headers (forms_of body) in
      let rest = forms_of (drop (i + 1) body) in
      record {
        code_is =
            pushed ∙ ap (λ c. c ++ map f (instrs_in (line ∷ []))) so_far.code_is ∙ sym (map-append f (instrs_in (forms_of (take i body))) (instrs_in (line ∷ [])))
            ∙ ap (map f) (sym (instrs_in-append (forms_of (take i body)) (line ∷ [])))
            ∙ ap (λ ls. map f (instrs_in ls)) (sym (ap forms_of (take_more body i d within) ∙ map-append form_of (take i body) (get_or body i d ∷ [])));
        settled =
            so_far.settled ∙ ap (λ ls. later_by i (unsettled_at headers (forms_of body) ls)) (forms_at body i d within)
            ∙ ap (λ t. later_by i (cond t (option_map suc (unsettled_at headers (forms_of body) rest)) (Some 0))) (sym here)
            ∙ later-suc i (unsettled_at headers (forms_of body) rest);
      }

  pub code_stops : (i : ℕ) (d : Bor (List ℕ)) (code : List Instr) → i < length body → CodeSoFar names headers body i code → false ≡ is_settled_line headers (forms_of body) (form_of (get_or body i d)) → unsettled_in headers (forms_of body) ≡ Some i
  code_stops i d code within so_far here =
      so_far.settled ∙ ap (λ ls. later_by i (unsettled_at headers (forms_of body) ls)) (forms_at body i d within)
      ∙ ap (λ t. later_by i (cond t (option_map suc (unsettled_at headers (forms_of body) (forms_of (drop (i + 1) body)))) (Some 0))) (sym here)
      ∙ ap (λ k. Some k) (add-zero i)

  pub code_is_whole : (i : ℕ) (code : List Instr) → length body ≤ i → CodeSoFar names headers body i code → code ≡ map (instr_in names headers (forms_of body)) (instrs_in (forms_of body))
  code_is_whole i code past so_far = so_far.code_is ∙ ap (λ ls. map (instr_in names headers (forms_of body)) (instrs_in (forms_of ls))) (take_all i body past)

  pub code_is_settled : (i : ℕ) (code : List Instr) → length body ≤ i → CodeSoFar names headers body i code → unsettled_in headers (forms_of body) ≡ None
  code_is_settled i code past so_far = so_far.settled ∙ ap (λ ls. later_by i (unsettled_at headers (forms_of body) (forms_of ls))) (drop_all i body past)

some_if : {X : Type 0} (t : Bool) (x y : X) → Some x ≡ cond t (Some y) None → (t ≡ true) × (x ≡ y)
some_if true x y e = (refl, cc)
some_if false x y e = absurd cc

-- an instruction that is settled
pub settled_is : (names : Texts) (headers : List HeaderForm) (body : List LineForm) (i : InstrForm) (x : Instr) → Some x ≡ settled_instr names headers body i → (is_settled headers body i ≡ true) × (x ≡ instr_in names headers body i)
settled_is names headers body i x is = some_if _ x _ is

-- ---- the functions of a module

functions_at : (line : LineForm) (lines : List LineForm) → functions_in (line ∷ lines) ≡ function_at line lines ++ functions_in lines
functions_at (title name version) lines = refl
functions_at line lines = refl

-- what the loop over the lines keeps
pub record FunctionsSoFar (names : Texts) (headers : List HeaderForm) (lines : List (Bor (List ℕ))) (i : ℕ) (list : List Function) : Type 0 where
  pub functions : list ++ map (function_in names headers) (functions_in (forms_of (drop i lines))) ≡ map (function_in names headers) (functions_in (forms_of lines))
  pub settled : first_unsettled headers (forms_of lines) ≡ later_by i (first_unsettled headers (forms_of (drop i lines)))

module _ (names : Texts) (headers : List HeaderForm) (lines : List (Bor (List ℕ))) where
  pub functions_start : (list : List Function) → list ≡ [] → FunctionsSoFar names headers lines 0 list
  functions_start list none = record {
    functions = ap (λ l. l ++ map (function_in names headers) (functions_in (forms_of lines))) none;
    settled = later-zero (first_unsettled headers (forms_of lines));
  }

  pub functions_more : (i : ℕ) (d : Bor (List ℕ)) (list new : List Function) → i < length lines → FunctionsSoFar names headers lines i list → unsettled_below headers (form_of (get_or lines i d)) (forms_of (drop (i + 1) lines)) ≡ None → new ≡ list ++ map (function_in names headers) (function_at (form_of (get_or lines i d)) (forms_of (drop (i + 1) lines))) → FunctionsSoFar names headers lines (i + 1) new
  functions_more i d list new within so_far here pushed =
      let line = form_of (get_or lines i d) in
      let f = function_in names headers in
      let rest = forms_of (drop (i + 1) lines) in
      record {
        functions =
            ap (λ l. l ++ map f (functions_in rest)) pushed ∙ append_assoc list (map f (function_at line rest)) (map f (functions_in rest))
            ∙ ap (λ l. list ++ l) (sym (map-append f (function_at line rest) (functions_in rest)) ∙ ap (map f) (sym (functions_at line rest)))
            ∙ ap (λ ls. list ++ map f (functions_in ls)) (sym (forms_at lines i d within)) ∙ so_far.functions;
        settled =
            so_far.settled ∙ ap (λ ls. later_by i (first_unsettled headers ls)) (forms_at lines i d within)
            ∙ ap (λ o. later_by i (option_map suc (earlier o (first_unsettled headers rest)))) here ∙ later-suc i (first_unsettled headers rest);
      }

  pub functions_stop : (i : ℕ) (d : Bor (List ℕ)) (list : List Function) (n : ℕ) → i < length lines → FunctionsSoFar names headers lines i list → unsettled_below headers (form_of (get_or lines i d)) (forms_of (drop (i + 1) lines)) ≡ Some n → first_unsettled headers (forms_of lines) ≡ Some (i + 1 + n)
  functions_stop i d list n within so_far here =
      so_far.settled ∙ ap (λ ls. later_by i (first_unsettled headers ls)) (forms_at lines i d within)
      ∙ ap (λ o. later_by i (option_map suc (earlier o (first_unsettled headers (forms_of (drop (i + 1) lines)))))) here ∙ ap (λ k. Some k) (omega arith)

  pub functions_are_whole : (i : ℕ) (list : List Function) → length lines ≤ i → FunctionsSoFar names headers lines i list → list ≡ map (function_in names headers) (functions_in (forms_of lines))
  functions_are_whole i list past so_far =
      sym (ap (λ ls. list ++ map (function_in names headers) (functions_in (forms_of ls))) (drop_all i lines past) ∙ append-nil list) ∙ so_far.functions

  pub functions_are_settled : (i : ℕ) (list : List Function) → length lines ≤ i → FunctionsSoFar names headers lines i list → first_unsettled headers (forms_of lines) ≡ None
  functions_are_settled i list past so_far = so_far.settled ∙ ap (λ ls. later_by i (first_unsettled headers (forms_of ls))) (drop_all i lines past)

  -- the same where the lines behind have a name
  pub functions_go_on : (i : ℕ) (d : Bor (List ℕ)) (list new : List Function) (behind : List (Bor (List ℕ))) → i < length lines → FunctionsSoFar names headers lines i list → behind ≡ drop (i + 1) lines → unsettled_below headers (form_of (get_or lines i d)) (forms_of behind) ≡ None → new ≡ list ++ map (function_in names headers) (function_at (form_of (get_or lines i d)) (forms_of behind)) → FunctionsSoFar names headers lines (i + 1) new
  functions_go_on i d list new behind within so_far is here pushed =
      functions_more i d list new within so_far
      (ap (λ ls. unsettled_below headers (form_of (get_or lines i d)) (forms_of ls)) (sym is) ∙ here)
      (pushed ∙ ap (λ ls. list ++ map (function_in names headers) (function_at (form_of (get_or lines i d)) (forms_of ls))) is)

  pub functions_stop_at : (i : ℕ) (d : Bor (List ℕ)) (list : List Function) (n : ℕ) (behind : List (Bor (List ℕ))) → i < length lines → FunctionsSoFar names headers lines i list → behind ≡ drop (i + 1) lines → unsettled_below headers (form_of (get_or lines i d)) (forms_of behind) ≡ Some n → first_unsettled headers (forms_of lines) ≡ Some (i + 1 + n)
  functions_stop_at i d list n behind within so_far is here =
      functions_stop i d list n within so_far (ap (λ ls. unsettled_below headers (form_of (get_or lines i d)) (forms_of ls)) (sym is) ∙ here)

  pub functions_stop_later : (i : ℕ) (d : Bor (List ℕ)) (list : List Function) (fault later : FinishFault) (behind : List (Bor (List ℕ))) → i < length lines → FunctionsSoFar names headers lines i list → behind ≡ drop (i + 1) lines → IsUnsettled (unsettled_below headers (form_of (get_or lines i d)) (forms_of behind)) fault → IsLater (i + 1) fault later → IsUnsettled (first_unsettled headers (forms_of lines)) later
  functions_stop_later i d list (Missing n) later behind within so_far is here is_later =
      subst (IsUnsettled (first_unsettled headers (forms_of lines))) (sym is_later) (functions_stop_at i d list n behind within so_far is here)
  functions_stop_later i d list NoMemory later behind within so_far is here is_later =
      subst (IsUnsettled (first_unsettled headers (forms_of lines))) (sym is_later) tt

-- the number of a line behind a place fits
pub later_fits : (lines : List (Bor (List ℕ))) (i : ℕ) (behind : List (Bor (List ℕ))) (fault : FinishFault) → length lines < 2 ^ 64 → i < length lines → behind ≡ drop (i + 1) lines → IsUnsettledBelow (length behind) fault → IsUnsettledBelow (2 ^ 64 - (i + 1)) fault
later_fits lines i behind (Missing n) small within is below = omega (arith, ap length is, length-drop (i + 1) lines)
later_fits lines i behind NoMemory small within is below = tt
