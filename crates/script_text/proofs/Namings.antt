-- The names of a line, one after another: all get their numbers where the table has room for all of them.
use Rattle.script_text.proofs.Common.{◌≡◌, ℕ, ◌≤◌, Bool, true, false, cond, not, ◌&&◌, ◌||◌, nat_lt, List, [], ◌∷◌, length, Some, None, is_some}
use Rattle.script_text.proofs.Common.{Result, Ok, Err, refl, sym, ap, Texts, ◌∙◌, arith, map, list_all, list_any, flat_map, and_parts, and_from}
use Rattle.script_text.proofs.Common.{or_parts, le-ltb, nat_tests, length-map}
use Rattle.std.proofs.lemmas.List.Concat.{flat_map_single}
use Rattle.script_text.proofs.Types.{Mfa, ModRef, LineCause}
use Rattle.script_text.proofs.Texts.{Extends, is_atom_text, names_with, PlainTerm, integer_leaf, atom_leaf}
use Rattle.script_text.proofs.Texts.{tuple_of, list_of, atoms_of, term_in, number_in, names_with_all}
use Rattle.script_text.proofs.Texts.{WrittenTerm, written, integer_of, form_is, number_value, test_not_lt}
use Rattle.script_text.proofs.Modules.{atom_in, mfa_in, names_with_all-append, more_names_all}
use Rattle.script_text.proofs.Forms.{RefForm, is_ref_form, is_term_form, PutForm, TraceForm, CallForm, ref_in}
use Rattle.script_text.proofs.Forms.{argument_in, is_wide_term, is_long_term, ref_words, trace_words}
use Rattle.script_text.proofs.Forms.{ArgumentWords, integer, complex, argument_words, put_words, call_words, ◌>>=◌}
use Rattle.script_text.specs.Naming.{atom_named, each_named, ref_named, refs_named, trace_named, argument_named}
use Rattle.script_text.specs.Naming.{arguments_named, is_wide_word, is_long_word, key_with_term, put_named, target_named, call_named}
use Rattle.script_text.specs.declared.fault.Which.TheVariants as which
use Rattle.script_text.specs.declared.reading.cause.LineCause.TheVariants as causes
use Rattle.script_text.proofs.HeldNames.{held_with, held_all, Extends-all, number_in-after}
use Rattle.script_text.proofs.Modules.{text_of_form}
use Rattle.script_text.proofs.TermLines.{term_after}

-- what comes of names, if they are not too many
abbrev pub or_limit : {Y : Type 0} → Texts → Result Y LineCause → Result Y LineCause
or_limit after x = cond (nat_lt 4096 (length after)) (Err (causes.Limit which.Names)) x

-- a value by the names, with them
abbrev pub or_full : {Y : Type 0} → (Texts → Y) → Texts → Result (Y × Texts) LineCause
or_full value after = or_limit after (Ok (value after, after))

over_stays : (a b : ℕ) → a ≤ b → nat_lt 4096 a ≡ true → nat_lt 4096 b ≡ true
over_stays a b le h = grind (arith, nat_tests)

-- the first names are named, and then more of them
named_next : {X Y : Type 0} (between more : Texts) (x : Result (X × Texts) LineCause) (value : X) (f : X × Texts → Result Y LineCause) (goal : Result Y LineCause) → x ≡ or_limit between (Ok (value, between)) → (length between ≤ 4096 → f (value, between) ≡ or_limit (names_with_all between more) goal) → (x >>= f) ≡ or_limit (names_with_all between more) goal
named_next {X = X} between more x value f goal is rest = ap (λ (r : Result (X × Texts) LineCause). r >>= f) is ∙ by_room _ refl
  where
    by_room : (t : Bool) → nat_lt 4096 (length between) ≡ t → (cond t (Err (causes.Limit which.Names)) (Ok (value, between)) >>= f) ≡ or_limit (names_with_all between more) goal
    by_room true e = sym (ap (λ t. cond t (Err (causes.Limit which.Names)) goal) (over_stays (length between) _ (more_names_all between more) e))
    by_room false e = rest (test_not_lt 4096 _ e)

-- all are named
last_named : {Y : Type 0} (after : Texts) (x y : Result Y LineCause) → length after ≤ 4096 → x ≡ y → x ≡ or_limit after y
last_named after x y room e = e ∙ sym (ap (λ t. cond t (Err (causes.Limit which.Names)) y) (le-ltb 4096 _ room))

limit_then : {X Y : Type 0} (after : Texts) (z : X) (f : X → Result Y LineCause) → (or_limit after (Ok z) >>= f) ≡ or_limit after (f z)
limit_then after z f = by_test _
  where
    by_test : (t : Bool) → (cond t (Err (causes.Limit which.Names)) (Ok z) >>= f) ≡ cond t (Err (causes.Limit which.Names)) (f z)
    by_test true = refl
    by_test false = refl

pub atom_named-is : (names : Texts) (text : List ℕ) → is_atom_text text ≡ true → atom_named names text ≡ or_full (λ after. number_in after text) (names_with names text)
atom_named-is names text h = ap (λ t. cond (not t) (Err causes.Syntax) (or_full (λ after. number_in after text) (names_with names text))) h

-- how an item is named: its atoms in order, and then its value by the names
pub record IsNamer {A X Y : Type 0} (step : Texts → X → Result (Y × Texts) LineCause) (words : A → X) (atoms : A → Texts) (value : Texts → A → Y) (ok : A → Bool) : Type 0 where
  pub one : (names : Texts) (a : A) → ok a ≡ true → length names ≤ 4096 → step names (words a) ≡ or_full (λ after. value after a) (names_with_all names (atoms a))
  pub stays : (names after : Texts) (a : A) → ok a ≡ true → Extends (names_with_all names (atoms a)) after → value after a ≡ value (names_with_all names (atoms a)) a

abbrev in_front : {Y : Type 0} → Y → List Y × Texts → Result (List Y × Texts) LineCause
in_front y ys = Ok (y ∷ ys.0, ys.1)

abbrev and_others : {X Y : Type 0} → (Texts → X → Result (Y × Texts) LineCause) → List X → Y × Texts → Result (List Y × Texts) LineCause
and_others step xs y = each_named step y.1 xs >>= in_front y.0

-- all items are named, or one finds the table full
pub each_named-is : {A X Y : Type 0} (step : Texts → X → Result (Y × Texts) LineCause) (words : A → X) (atoms : A → Texts) (value : Texts → A → Y) (ok : A → Bool) → IsNamer step words atoms value ok → (names : Texts) (xs : List A) → list_all ok xs ≡ true → length names ≤ 4096 → each_named step names (map words xs) ≡ or_full (λ after. map (value after) xs) (names_with_all names (flat_map atoms xs))
unfolding each_named
each_named-is step words atoms value ok n names [] h room = last_named names _ _ room refl
each_named-is step words atoms value ok n names (x ∷ xs) h room =
    let p = and_parts (ok x) (list_all ok xs) h in
    let between = names_with_all names (atoms x) in
    let after = names_with_all between (flat_map atoms xs) in
    named_next between (flat_map atoms xs) (step names (words x)) (value between x) (and_others step (map words xs)) (Ok (map (value after) (x ∷ xs), after)) (n.one names x p.0 room)
    (λ le.
    ap (λ (r : Result (List _ × Texts) LineCause). r >>= in_front (value between x)) (each_named-is step words atoms value ok n between xs p.1 le)
    ∙ limit_then after (map (value after) xs, after) (in_front (value between x))
    ∙ ap (λ y. or_limit after (Ok (y ∷ map (value after) xs, after))) (sym (n.stays names after x p.0 (Extends-all between (flat_map atoms xs)))))
    ∙ ap (λ (after : Texts). or_full (λ ns. map (value ns) (x ∷ xs)) after) (sym (names_with_all-append names (atoms x) (flat_map atoms xs)))

-- ---- versions of modules

-- an atom's number and the names after it
abbrev pub Numbered : Type 0
Numbered = ℕ × Texts

abbrev ref_of : ℕ → Numbered → Result (ModRef × Texts) LineCause
ref_of version a = Ok (record { name = record { 0 = a.0 }; version = version }, a.1)

abbrev leaf_of : Numbered → Result (PlainTerm × Texts) LineCause
leaf_of a = Ok (atom_leaf a.0, a.1)

ref_one : (names : Texts) (r : RefForm) → is_ref_form r ≡ true → ref_named names (ref_words r) ≡ or_full (λ after. ref_in after r) (names_with names r.name)
ref_one names r h =
    let after = names_with names r.name in
    ap (λ (x : Result Numbered LineCause). x >>= ref_of (number_value r.version)) (atom_named-is names _ (and_parts _ _ h).0) ∙ limit_then after _ _

ref_stays : (names after : Texts) (r : RefForm) → Extends (names_with names r.name) after → ref_in after r ≡ ref_in (names_with names r.name) r
ref_stays names after r e = ap (λ (n : ℕ). let to : ModRef = record { name = record { 0 = n }; version = number_value r.version } in to) (number_in-after _ after _ e (held_with names r.name))

ref_namer : IsNamer ref_named ref_words (λ (r : RefForm). r.name ∷ []) ref_in is_ref_form
ref_namer = record { one = λ names r h room. ref_one names r h; stays = λ names after r h e. ref_stays names after r e }

pub refs_named-is : (names : Texts) (refs : List RefForm) → list_all is_ref_form refs ≡ true → length names ≤ 4096 → refs_named names (map ref_words refs) ≡ or_full (λ after. map (ref_in after) refs) (names_with_all names (map (λ r. r.name) refs))
refs_named-is names refs h room =
    each_named-is ref_named ref_words (λ (r : RefForm). r.name ∷ []) ref_in is_ref_form ref_namer names refs h room
    ∙ ap (λ (texts : Texts). or_full (λ after. map (ref_in after) refs) (names_with_all names texts)) (flat_map_single (λ (r : RefForm). r.name) refs)

-- ---- breakpoints

-- the function of a breakpoint, by the names
abbrev pub traced_in : Texts → TraceForm → Mfa
traced_in names t = mfa_in names t.«module» t.name t.arity

abbrev with_function : ℕ → ℕ → Numbered → Result (Mfa × Texts) LineCause
with_function arity m f = Ok (record { «module» = record { 0 = m }; name = record { 0 = f.0 }; arity = arity }, f.1)

abbrev after_module : TraceForm → Numbered → Result (Mfa × Texts) LineCause
after_module t m = atom_named m.1 t.name >>= with_function (number_value t.arity) m.0

-- it is named, or one of its names finds the table full
pub trace_named-is : (names : Texts) (t : TraceForm) → is_atom_text t.«module» ≡ true → is_atom_text t.name ≡ true → trace_named names (trace_words t) ≡ or_full (λ after. traced_in after t) (names_with_all names (t.«module» ∷ t.name ∷ []))
unfolding trace_named
trace_named-is names t m_is f_is =
    let one = names_with names t.«module» in
    let two = names_with one t.name in
    let kept : number_in two t.«module» ≡ number_in one t.«module» = number_in-after one two t.«module» (Extends-all one (t.name ∷ [])) (held_with names t.«module») in
    let goal : Result (Mfa × Texts) LineCause = Ok (traced_in two t, two) in
    named_next one (t.name ∷ []) (atom_named names t.«module») (number_in one t.«module») (after_module t) goal (atom_named-is names t.«module» m_is)
    (λ le. named_next two [] (atom_named one t.name) (number_in two t.name) (with_function (number_value t.arity) (number_in one t.«module»)) goal (atom_named-is one t.name f_is)
    (λ few. last_named two _ goal few (ap (λ (m : ℕ). with_function (number_value t.arity) m (number_in two t.name, two)) (sym kept))))

-- ---- arguments

-- an argument with no integer that is too wide
abbrev pub is_narrow : WrittenTerm → Bool
is_narrow t = is_term_form t && not (is_wide_term t)

complex_one : (names : Texts) (t : WrittenTerm) → is_term_form t ≡ true → argument_named names (complex (written t)) ≡ or_full (λ after. argument_in after t) (names_with_all names (atoms_of t))
complex_one names t h =
    let is = form_is _ t (text_of_form t h) in
    let after = names_with_all names (atoms_of t) in
    ap (λ (atoms : Texts). or_full (λ ns. term_in ns (written t)) (names_with_all names atoms)) is.atoms
    ∙ ap (λ (u : PlainTerm). cond {A = Result (PlainTerm × Texts) LineCause} (nat_lt 4096 (length after)) (Err (causes.Limit which.Names)) (Ok (u, after))) (is.value after)

pub argument_one : (names : Texts) (t : WrittenTerm) → is_narrow t ≡ true → length names ≤ 4096 → argument_named names (argument_words t) ≡ or_full (λ after. argument_in after t) (names_with_all names (atoms_of t))
argument_one names (integer_leaf text) h room = by_fit _ (and_parts _ _ h).1
  where
    by_fit : (b : Bool) → not (is_some {T = ℕ} (cond b None (Some 0))) ≡ true → argument_named names (integer (cond b (Some (integer_of text)) None)) ≡ or_full (λ after. integer_leaf (integer_of text)) names
    by_fit true e =
        let room : nat_lt 4096 (length names) ≡ false = grind (arith, nat_tests) in
        sym (ap (λ t. cond {A = Result _ LineCause} t (Err (causes.Limit which.Names)) (Ok (integer_leaf (integer_of text), names))) room)
    by_fit false e = absurd cc
argument_one names (atom_leaf text) h room =
    ap (λ (x : Result Numbered LineCause). x >>= leaf_of) (atom_named-is names text (and_parts _ _ h).0) ∙ limit_then (names_with names text) _ _
argument_one names (tuple_of row) h room = complex_one names (tuple_of row) (and_parts (is_term_form (tuple_of row)) _ h).0
argument_one names (list_of row) h room = complex_one names (list_of row) (and_parts (is_term_form (list_of row)) _ h).0

argument_stays : (names after : Texts) (t : WrittenTerm) → is_narrow t ≡ true → Extends (names_with_all names (atoms_of t)) after → argument_in after t ≡ argument_in (names_with_all names (atoms_of t)) t
argument_stays names after t h e = term_after _ after t e (held_all names _)

argument_namer : IsNamer argument_named argument_words atoms_of argument_in is_narrow
argument_namer = record { one = argument_one; stays = argument_stays }

pub arguments_named-is : (names : Texts) (args : List WrittenTerm) → list_all is_narrow args ≡ true → length names ≤ 4096 → arguments_named names (map argument_words args) ≡ or_full (λ after. map (argument_in after) args) (names_with_all names (flat_map atoms_of args))
arguments_named-is names args h room = each_named-is _ _ _ _ _ argument_namer names args h room

-- ---- calls

-- the target and the arguments of a call, by the names
abbrev pub target_in : Texts → CallForm → Mfa
target_in names c = record { «module» = atom_in names c.«module»; name = atom_in names c.name; arity = length c.args }

abbrev pub Called : Type 0
Called = Mfa × List PlainTerm × Texts

abbrev pub call_or_full : Texts → CallForm → Result Called LineCause
call_or_full after c = cond (nat_lt 4096 (length after)) (Err (causes.Limit which.Names)) (Ok (target_in after c, map (argument_in after) c.args, after))

abbrev with_target : ℕ → ℕ → List PlainTerm × Texts → Result Called LineCause
with_target m f args = Ok (record { «module» = record { 0 = m }; name = record { 0 = f }; arity = length args.0 }, args.0, args.1)

abbrev with_module : List ArgumentWords → ℕ → Numbered → Result Called LineCause
with_module args m name = arguments_named name.1 args >>= with_target m name.0

abbrev with_call : List ℕ → List ArgumentWords → Numbered → Result Called LineCause
with_call f args target = atom_named target.1 f >>= with_module args target.0

-- the names after a call's
abbrev pub names_after_call : Texts → CallForm → Texts
names_after_call names c = names_with_all names (c.«module» ∷ c.name ∷ flat_map atoms_of c.args)

pub target_named-is : (names : Texts) (c : CallForm) → is_atom_text c.«module» ≡ true → is_atom_text c.name ≡ true → list_all is_narrow c.args ≡ true → length names ≤ 4096 → target_named names (call_words c) ≡ call_or_full (names_after_call names c) c
unfolding target_named
target_named-is names c m_text f_is args_are room =
    let words = map argument_words c.args in
    let atoms = flat_map atoms_of c.args in
    let one = names_with names c.«module» in
    let two = names_with one c.name in
    let after = names_with_all two atoms in
    let terms = map (argument_in after) c.args in
    let m_is : number_in one c.«module» ≡ number_in after c.«module» = sym (number_in-after one after c.«module» (Extends-all one (c.name ∷ atoms)) (held_with names c.«module»)) in
    let f_in : number_in two c.name ≡ number_in after c.name = sym (number_in-after two after c.name (Extends-all two atoms) (held_with one c.name)) in
    let len : length terms ≡ length c.args = length-map c.args (argument_in after) in
    let goal : Result Called LineCause = Ok (target_in after c, terms, after) in
    named_next one (c.name ∷ atoms) (atom_named names c.«module») (number_in one c.«module») (with_call c.name words) goal (atom_named-is names c.«module» m_text)
    (λ le. named_next two atoms (atom_named one c.name) (number_in two c.name) (with_module words (number_in one c.«module»)) goal (atom_named-is one c.name f_is)
    (λ few. named_next after [] (arguments_named two words) terms (with_target (number_in one c.«module») (number_in two c.name)) goal (arguments_named-is two c.args args_are few)
    (λ all. last_named after _ goal all (λ i. Ok (record { «module» = record { 0 = m_is i }; name = record { 0 = f_in i }; arity = len i }, terms, after)))))

-- ---- limits of terms

wide_word : (t : WrittenTerm) → is_term_form t ≡ true → is_wide_term t ≡ is_wide_word (argument_words t)
wide_word (integer_leaf text) h = by_fit _
  where
    by_fit : (b : Bool) → is_some {T = ℕ} (cond b None (Some 0)) ≡ is_wide_word (integer (cond b (Some (integer_of text)) None))
    by_fit true = refl
    by_fit false = refl
wide_word (atom_leaf text) h = refl
wide_word (tuple_of row) h = sym (form_is _ (tuple_of row) (text_of_form _ h)).wide
wide_word (list_of row) h = sym (form_is _ (list_of row) (text_of_form _ h)).wide

long_word : (t : WrittenTerm) → is_term_form t ≡ true → is_long_term t ≡ is_long_word (argument_words t)
long_word (integer_leaf text) h = refl
long_word (atom_leaf text) h = refl
long_word (tuple_of row) h = ap (nat_lt 64) (sym (form_is _ (tuple_of row) (text_of_form _ h)).words)
long_word (list_of row) h = ap (nat_lt 64) (sym (form_is _ (list_of row) (text_of_form _ h)).words)

-- a test of forms is that of their words
any_word : (test : WrittenTerm → Bool) (word_test : ArgumentWords → Bool) → ((t : WrittenTerm) → is_term_form t ≡ true → test t ≡ word_test (argument_words t)) → (ts : List WrittenTerm) → list_all is_term_form ts ≡ true → list_any test ts ≡ list_any word_test (map argument_words ts)
any_word test word_test same [] h = refl
any_word test word_test same (t ∷ ts) h =
    let p = and_parts _ _ h in
    let first = same t p.0 in
    let more = any_word test _ same ts p.1 in
    λ i. first i || more i

all_narrow : (args : List WrittenTerm) → list_all is_term_form args ≡ true → list_any is_wide_term args ≡ false → list_all is_narrow args ≡ true
all_narrow [] h k = refl
all_narrow (t ∷ ts) h k =
    let p = and_parts _ _ h in
    let q = or_parts _ _ k in
    and_from _ _ (and_from _ _ p.0 (ap not q.0)) (all_narrow ts p.1 q.1)

-- ---- calls and their limits

-- behind the limits of terms two answers are one that are one where no integer is too wide
limits_then : {X : Type 0} (wide long : Bool) (a b : Result X LineCause) → (wide ≡ false → a ≡ b) → cond wide (Err (causes.Limit which.Integer)) (cond long (Err (causes.Limit which.Term)) a) ≡ cond wide (Err (causes.Limit which.Integer)) (cond long (Err (causes.Limit which.Term)) b)
limits_then true long a b same = refl
limits_then false long a b same = ap (cond long (Err (causes.Limit which.Term))) (same refl)

-- a call is named, or has an integer that is too wide, or a term that is too long, or finds the table full
pub call_named-is : (names : Texts) (c : CallForm) → is_atom_text c.«module» ≡ true → is_atom_text c.name ≡ true → list_all is_term_form c.args ≡ true → length names ≤ 4096 →
    call_named names (call_words c) ≡ cond (list_any is_wide_term c.args) (Err (causes.Limit which.Integer)) (cond (list_any is_long_term c.args) (Err (causes.Limit which.Term)) (call_or_full (names_after_call names c) c))
call_named-is names c m_is f_is args_are room =
    let wide = sym (any_word is_wide_term is_wide_word wide_word c.args args_are) in
    let long = sym (any_word is_long_term is_long_word long_word c.args args_are) in
    (λ i. cond (wide i) (Err (causes.Limit which.Integer)) (cond (long i) (Err (causes.Limit which.Term)) (target_named names (call_words c))))
    ∙ limits_then (list_any is_wide_term c.args) (list_any is_long_term c.args) _ _ (λ e. target_named-is names c m_is f_is (all_narrow c.args args_are e) room)

-- ---- puts

abbrev pub Keyed : Type 0
Keyed = ℕ × PlainTerm × Texts

-- the names after those of a put
abbrev pub names_after_put : Texts → PutForm → Texts
names_after_put names p = names_with_all names (p.key ∷ atoms_of p.term)

abbrev pub put_or_full : Texts → PutForm → Result Keyed LineCause
put_or_full after p = cond (nat_lt 4096 (length after)) (Err (causes.Limit which.Names)) (Ok (number_in after p.key, argument_in after p.term, after))

abbrev with_value : ℕ → PlainTerm × Texts → Result Keyed LineCause
with_value key term = Ok (key, term.0, term.1)

abbrev with_key : ArgumentWords → Numbered → Result Keyed LineCause
with_key term key = argument_named key.1 term >>= with_value key.0

key_named-is : (names : Texts) (p : PutForm) → is_atom_text p.key ≡ true → is_narrow p.term ≡ true → key_with_term names (put_words p) ≡ put_or_full (names_after_put names p) p
unfolding key_with_term
key_named-is names p key_is narrow =
    let one = names_with names p.key in
    let after = names_with_all one (atoms_of p.term) in
    let term = argument_in after p.term in
    let kept : number_in after p.key ≡ number_in one p.key = number_in-after one after p.key (Extends-all one (atoms_of p.term)) (held_with names p.key) in
    let goal : Result Keyed LineCause = Ok (number_in after p.key, term, after) in
    named_next one (atoms_of p.term) (atom_named names p.key) (number_in one p.key) (with_key (argument_words p.term)) goal (atom_named-is names p.key key_is)
    (λ le. named_next after [] (argument_named one (argument_words p.term)) term (with_value (number_in one p.key)) goal (argument_one one p.term narrow le)
    (λ few. last_named after _ goal few (ap (λ (n : ℕ). let so : Result Keyed LineCause = Ok (n, term, after) in so) (sym kept))))

-- a put is named, or has an integer that is too wide, or a term that is too long, or finds the table full
pub put_named-is : (names : Texts) (p : PutForm) → is_atom_text p.key ≡ true → is_term_form p.term ≡ true →
    put_named names (put_words p) ≡ cond (is_wide_term p.term) (Err (causes.Limit which.Integer)) (cond (is_long_term p.term) (Err (causes.Limit which.Term)) (put_or_full (names_after_put names p) p))
put_named-is names p key_is form =
    let wide = sym (wide_word p.term form) in
    let long = sym (long_word p.term form) in
    (λ i. cond (wide i) (Err (causes.Limit which.Integer)) (cond (long i) (Err (causes.Limit which.Term)) (key_with_term names (put_words p))))
    ∙ limits_then (is_wide_term p.term) (is_long_term p.term) _ _ (λ e. key_named-is names p key_is (and_from (is_term_form p.term) (not (is_wide_term p.term)) form (ap not e)))
