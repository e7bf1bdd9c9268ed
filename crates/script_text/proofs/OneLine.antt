-- The readers of the words of a script's lines; a text is that of one line of a script at most.
use Rattle.script_text.proofs.Common.{◌≡◌, true, List, [], ◌∷◌, refl, ap, ◌∙◌, arith, ℕ, ◌<◌, Bool, false, cond, ◌&&◌, ◌==◌, nat_le, ◌++◌, length}
use Rattle.script_text.proofs.Common.{Some, None, codes, sym, subst, length-append, map, list_all, join_with_byte, AllByRecursion, and_parts}
use Rattle.script_text.proofs.Common.{and_from, nat_tests, Option, option_map, Result, Ok, bytes_eq}
use Rattle.script_text.proofs.Texts.{tuple_of, row_of, parts_of_terms, joined, WrittenTerm, written, parted, behind, is_atom_text, is_term_byte}
use Rattle.script_text.proofs.Texts.{is_term_text-form, nonempty-is_term_text, ◌>>=◌, text_tested, each_reading, some, some_is, bind_some, bind_at}
use Rattle.script_text.proofs.Texts.{guard_some, passed, failed, lacks, bytes_are, lacks-append, lacks-cons, cut_here, cut_is, atom_lacks}
use Rattle.script_text.proofs.Texts.{number_lacks, nothing, cut_at, switch_is, switch_again, map_some}
use Rattle.term_core.proofs.PartedTerms.{parts_of_parted, joined_parts_of_terms, joined_written}
use Rattle.term_core.proofs.TokenLaws.{terms_of-row_of}
use Rattle.term_core.proofs.Text.Items.{IsItem, each_again, each_is, join-flat, all_pass, pass_all}
use Rattle.script_text.proofs.Modules.{is_version_text, is_arity_text, is_function_form, spaced, LineForm, parts_reading}
use Rattle.script_text.proofs.Modules.{sound_reading, line_reading, text_again, line_is}
use Rattle.mod_text.proofs.LineReaders.{IsApart, space_apart, version_number, name, function, titled, external_lacks}
use Rattle.mod_text.proofs.Readers.{Reader, fitting, pair, made, row, passing}
use Rattle.script_text.proofs.Types.{LineCause}
use Rattle.script_text.specs.Causes.{◌>>=◌ as ◌>>!◌}
use Rattle.script_text.proofs.Forms.{is_term_form, is_row_form, RefForm, load, put, trace, spawn, ref_written, call_written, trace_written}
use Rattle.script_text.proofs.Forms.{is_ref_form, is_script_line, script_line_written, arguments_reading, CallForm, closed_arguments}
use Rattle.script_text.proofs.Forms.{argument_reading, PutForm, put_reading, PutWords, put_words, TraceForm, Fails, or_syntax, AtomCommand, delete}
use Rattle.script_text.proofs.Forms.{soft_purge, purge, check_old, erase, command_word, command_reading, ScriptLine, head, code, observer, loader}
use Rattle.script_text.proofs.Forms.{on_atom, go, is_snapshots_text, IsLine, refs_reading, trace_reading, call_reading}
use Rattle.script_text.specs.KeptTerm.{ArgumentWords, argument_words}
use Rattle.script_text.specs.declared.reading.cause.LineCause.TheVariants as causes
use Rattle.script_text.proofs.Modules.{leaf_texts, text_of_form, term_lacks}
use Rattle.script_text.proofs.TermLines.{IsTermForm, argument, argument_again, argument_is}

row_form : (ts : List WrittenTerm) → list_all is_term_form ts ≡ true → is_row_form (row_of ts) ≡ true
row_form [] h = refl
row_form (t ∷ ts) h = let p = and_parts _ _ h in and_from _ _ p.0 (row_form ts p.1)

-- written terms with commas between them have their texts for their parts
pub parts_of_written : (t : WrittenTerm) (ts : List WrittenTerm) → list_all is_term_form (t ∷ ts) ≡ true → parts_of_terms (parted (row_of (t ∷ ts))) ≡ map written (t ∷ ts)
parts_of_written t ts h =
    let row = row_of (t ∷ ts) in
    parts_of_parted row (leaf_texts (tuple_of row) (row_form (t ∷ ts) h)) (omega arith) ∙ ap (map written) (terms_of-row_of (t ∷ ts))

-- ---- versions of modules

abbrev pub reference : Reader RefForm
reference = made titled (λ x. record { name = x.0; version = x.1 }) (λ r. (r.name, r.version)) ref_written (λ r. is_ref_form r ≡ true) (λ r. refl) (λ x h. refl) (λ r h. refl) (λ x h. and_from _ _ h.0 h.1) (λ r h. and_parts (is_atom_text r.name) (is_version_text r.version) h)

pub ref_lacks : (byte : ℕ) (r : RefForm) → IsApart byte → (46 == byte) ≡ false → is_ref_form r ≡ true → lacks byte (ref_written r) ≡ true
ref_lacks byte r apart dot h =
    let p = and_parts _ _ h in
    lacks-append byte r.name (46 ∷ r.version) (atom_lacks byte r.name apart.name p.0) (lacks-cons byte 46 r.version dot (number_lacks byte r.version apart.digit (version_number r.version p.1)))

abbrev pub references : Reader (List RefForm)
references = row 32 reference (λ r h. ref_lacks 32 r space_apart refl h)

pub load_is : (rs : List RefForm) → 0 < length rs → codes "load" ++ 32 ∷ join_with_byte 32 (map ref_written rs) ≡ script_line_written (load rs)
load_is [] h = absurd (omega arith)
load_is (r ∷ rs) h = ap (λ (t : List ℕ). codes "load" ++ t) (join-flat _ 32 r rs)

pub load_sound : (rs : List RefForm) → (0 < length rs) × AllByRecursion (λ r. is_ref_form r ≡ true) rs → is_script_line (load rs) ≡ true
load_sound [] h = absurd (omega (arith, h.0))
load_sound (r ∷ rs) h = pass_all is_ref_form (r ∷ rs) h.1

pub load_fits : (rs : List RefForm) → is_script_line (load rs) ≡ true → (0 < length rs) × AllByRecursion (λ r. is_ref_form r ≡ true) rs
load_fits [] h = absurd cc
load_fits (r ∷ rs) h = (omega arith, all_pass is_ref_form (r ∷ rs) h)

-- ---- calls

some_text : (t : WrittenTerm) (ts : List WrittenTerm) → is_term_form t ≡ true → 0 < length (parted (row_of (t ∷ ts)))
some_text t ts h = omega (arith, length-append (written t) (behind (row_of ts)), nonempty-is_term_text (written t) (is_term_text-form (written t) t (text_of_form t h)))

arguments_again : (ts : List WrittenTerm) → list_all is_term_form ts ≡ true → arguments_reading (parted (row_of ts)) ≡ Some ts
arguments_again [] h = refl
arguments_again (t ∷ ts) h =
    let some_bytes = some_text t ts (and_parts (is_term_form t) (list_all is_term_form ts) h).0 in
    let long : (length (parted (row_of (t ∷ ts))) == 0) ≡ false = grind (arith, nat_tests) in
    failed (length (parted (row_of (t ∷ ts))) == 0) (some []) _ long
    ∙ ap (each_reading argument_reading) (parts_of_written t ts h)
    ∙ each_again written argument_reading IsTermForm argument_again (t ∷ ts) (all_pass is_term_form (t ∷ ts) h)

arguments_cases : (text : List ℕ) (ts : List WrittenTerm) (b : Bool) → (length text == 0) ≡ b → cond b (Some []) (each_reading argument_reading (parts_of_terms text)) ≡ Some ts → (text ≡ parted (row_of ts)) × (list_all is_term_form ts ≡ true)
arguments_cases text ts true is e = let none : [] ≡ ts = some_is [] ts e in subst (λ us. (text ≡ parted (row_of us)) × (list_all is_term_form us ≡ true)) none (nothing text is, refl)
arguments_cases text ts false is e =
    let a = each_is _ _ IsTermForm argument_is _ ts e in
    (sym (joined_parts_of_terms text) ∙ ap joined a.texts ∙ joined_written ts, pass_all _ ts a.fit)

arguments_is : (text : List ℕ) (ts : List WrittenTerm) → arguments_reading text ≡ Some ts → (text ≡ parted (row_of ts)) × (list_all is_term_form ts ≡ true)
arguments_is text ts e = arguments_cases text ts _ refl e

-- what stands in brackets lacks the closing one
behind_lacks : (byte : ℕ) (ts : List WrittenTerm) → is_term_byte byte ≡ false → (44 == byte) ≡ false → list_all is_term_form ts ≡ true → lacks byte (behind (row_of ts)) ≡ true
behind_lacks byte [] apart comma h = refl
behind_lacks byte (t ∷ ts) apart comma h =
    let p = and_parts _ _ h in
    lacks-cons byte 44 _ comma (lacks-append byte _ _ (term_lacks byte t apart p.0) (behind_lacks byte ts apart comma p.1))

parted_lacks : (byte : ℕ) (ts : List WrittenTerm) → is_term_byte byte ≡ false → (44 == byte) ≡ false → list_all is_term_form ts ≡ true → lacks byte (parted (row_of ts)) ≡ true
parted_lacks byte [] apart comma h = refl
parted_lacks byte (t ∷ ts) apart comma h =
    let p = and_parts _ _ h in
    lacks-append byte _ _ (term_lacks byte t apart p.0) (behind_lacks byte ts apart comma p.1)

-- arguments of a call
abbrev pub AreArguments : List WrittenTerm → Type 0
AreArguments ts = (nat_le (length ts) 15 ≡ true) × (list_all is_term_form ts ≡ true)

closed_is : (x : List ℕ × List ℕ) (ts : List WrittenTerm) → closed_arguments x ≡ Some ts → (x.0 ++ 41 ∷ x.1 ≡ parted (row_of ts) ++ 41 ∷ []) × (nat_le (length ts) 15 ≡ true) × (list_all is_term_form ts ≡ true)
closed_is x ts e =
    let a = bind_some _ (λ args. cond (length x.1 == 0 && nat_le (length args) 15) (Some args) None) ts e in
    let g = guard_some _ a.0 ts a.2 in
    let tests = and_parts _ _ g.0 in
    let is = arguments_is x.0 a.0 a.1 in
    subst (λ us. (x.0 ++ 41 ∷ x.1 ≡ parted (row_of us) ++ 41 ∷ []) × (nat_le (length us) 15 ≡ true) × (list_all is_term_form us ≡ true)) g.1
    (ap (λ (l : List ℕ). x.0 ++ 41 ∷ l) (nothing x.1 tests.0) ∙ ap (λ (l : List ℕ). l ++ 41 ∷ []) is.0, tests.1, is.1)

pub inside_is : (text : List ℕ) (ts : List WrittenTerm) → (cut_at 41 text >>= closed_arguments) ≡ Some ts → IsItem (λ us. parted (row_of us) ++ 41 ∷ []) AreArguments text ts
inside_is text ts e =
    let x = bind_some _ _ ts e in
    let is = closed_is x.0 ts x.2 in
    record { text_is = (cut_is 41 text x.0 x.1).whole ∙ is.0; fits = (is.1, is.2) }

pub inside_again : (ts : List WrittenTerm) → AreArguments ts → (cut_at 41 (parted (row_of ts) ++ 41 ∷ []) >>= closed_arguments) ≡ Some ts
inside_again ts h =
    let text = parted (row_of ts) in
    bind_at (cut_at 41 (text ++ 41 ∷ [])) closed_arguments (text, []) (some ts) (cut_here 41 text [] (parted_lacks 41 ts refl refl h.1))
    (bind_at (arguments_reading text) (λ args. cond (true && nat_le (length args) 15) (Some args) None) ts (some ts) (arguments_again ts h.1) (passed (nat_le (length ts) 15) (some ts) None h.0))

abbrev inside : Reader (List WrittenTerm)
inside = fitting (λ ts. parted _ ++ 41 ∷ []) AreArguments (λ text. cut_at 41 text >>= closed_arguments) inside_is inside_again

abbrev called : Reader (List ℕ × (List ℕ × List WrittenTerm))
called = pair 58 name (pair 40 name inside (λ n h. atom_lacks 40 n refl h)) (λ n h. atom_lacks 58 n refl h)

abbrev pub call_text : CallForm → List ℕ
call_text c = call_written c.«module» c.name c.args

-- the call of a spawn is of its form
abbrev pub IsCall : CallForm → Type 0
IsCall c = is_script_line (spawn c.«module» c.name c.args) ≡ true

pub call_fits : (c : CallForm) → IsCall c → called.Fits (c.«module», (c.name, c.args))
call_fits c h =
    let p = and_parts (is_atom_text c.«module») _ h in
    let q = and_parts (is_atom_text c.name) _ p.1 in
    (p.0, (q.0, and_parts (nat_le (length c.args) 15) (list_all is_term_form c.args) q.1))

abbrev pub call_reader : Reader CallForm
call_reader = made called (λ p. record { «module» = p.0; name = p.1.0; args = p.1.1 }) (λ c. (c.«module», (c.name, c.args))) call_text IsCall (λ c. refl) (λ x h. refl) (λ c h. refl) (λ x h. and_from _ _ h.0 (and_from _ _ h.1.0 (and_from _ _ h.1.1.0 h.1.1.1))) call_fits

-- ---- commands of one atom

word_or : (word key : List ℕ) (k c : AtomCommand) (rest : Option AtomCommand) → key ≡ command_word k → (rest ≡ Some c → word ≡ command_word c) → (t : Bool) → bytes_eq word key ≡ t → cond t (Some k) rest ≡ Some c → word ≡ command_word c
word_or word key k c rest is more true b e = bytes_are word key b ∙ is ∙ ap command_word (some_is k c e)
word_or word key k c rest is more false b e = more e

-- a word that names a command is its word
pub word_is : (word : List ℕ) (c : AtomCommand) → command_reading word ≡ Some c → word ≡ command_word c
word_is word c e =
    word_or word _ delete c _ refl (word_or word _ soft_purge c _ refl (word_or word _ purge c _ refl (word_or word _ check_old c _ refl
    (word_or word _ erase c None refl (λ none. absurd cc) _ refl)
    _ refl)
    _ refl)
    _ refl)
    _ refl e

pub word_lacks : (c : AtomCommand) → lacks 32 (command_word c) ≡ true
word_lacks delete = refl
word_lacks c = refl

-- ---- breakpoints

abbrev switch : Reader Bool
switch = fitting _ (λ _. Unit {0}) _ (λ text on e. record { text_is = switch_is text on e; fits = tt }) (λ on _. switch_again on)

abbrev traced : Reader ((List ℕ × (List ℕ × List ℕ)) × Bool)
traced = pair 32 (pair 58 name function (λ n h. atom_lacks 58 n refl h)) switch (λ p h. external_lacks 32 p.0 p.1.0 p.1.1 space_apart refl refl h.0 (and_from _ _ h.1.0 h.1.1))

pub trace_fits : (t : TraceForm) → is_script_line (trace t.«module» t.name t.arity t.on) ≡ true → traced.Fits ((t.«module», (t.name, t.arity)), t.on)
trace_fits t h = let p = and_parts (is_atom_text t.«module») (is_function_form t.name t.arity) h in ((p.0, and_parts (is_atom_text t.name) (is_arity_text t.arity) p.1), tt)

abbrev pub trace_reader : Reader TraceForm
trace_reader = made traced (λ p. record { «module» = p.0.0; name = p.0.1.0; arity = p.0.1.1; on = p.1 }) (λ t. ((t.«module», (t.name, t.arity)), t.on)) (λ t. trace_written t.«module» t.name t.arity t.on) (λ t. is_script_line (trace t.«module» t.name t.arity t.on) ≡ true) (λ t. refl) (λ x h. refl) (λ t h. refl) (λ x h. and_from _ _ h.0.0 (and_from _ _ h.0.1.0 h.0.1.1)) trace_fits

-- ---- puts

abbrev put_made : List ℕ × WrittenTerm → Option PutForm
put_made p = Some (record { key = p.0; term = p.1 })

abbrev pub put_reader : Reader PutForm
put_reader = made (pair 32 name argument (λ n h. atom_lacks 32 n refl h)) (λ p. record { key = p.0; term = p.1 }) (λ p. (p.key, p.term)) (λ p. spaced p.key (written p.term)) (λ p. is_script_line (put p.key p.term) ≡ true) (λ p. refl) (λ x h. refl) (λ p h. refl) (λ x h. and_from _ _ h.0 h.1) (λ p h. and_parts (is_atom_text p.key) (is_term_form p.term) h)

-- ---- the order of reading a put

abbrev pub with_key : List ℕ → ArgumentWords → Result PutWords LineCause
with_key key term = Ok (record { key = key; term = term })

words_of : (key : List ℕ) (o : Option WrittenTerm) → or_syntax (option_map put_words (o >>= (λ t. Some (key, t)) >>= put_made)) ≡ (or_syntax (option_map argument_words o) >>! with_key key)
words_of key None = refl
words_of key (Some t) = refl

-- behind the key a put is read as its term is
pub put_at : (text front rest key : List ℕ) → cut_at 32 text ≡ Some (front, rest) → text_tested is_atom_text front ≡ Some key → or_syntax (option_map put_words (put_reading text)) ≡ (or_syntax (option_map argument_words (argument_reading rest)) >>! with_key key)
put_at text front rest key cut named =
    ap (λ o. or_syntax (option_map put_words (o >>= put_made)))
    (bind_at _ (λ x. text_tested is_atom_text x.0 >>= λ k. argument_reading x.1 >>= λ t. Some _) _ _ cut
    (bind_at _ (λ k. argument_reading rest >>= λ t. Some _) key _ named refl)) ∙ words_of key _

-- a step that is refused refuses what comes behind it
pub fails_on : {A B : Type 0} (r : Result A LineCause) (f : A → Result B LineCause) (cause : LineCause) → Fails r cause → Fails (r >>! f) cause
fails_on r f causes.NoMemory h = tt
fails_on r f cause h = ap (λ x. x >>! f) h

pub put_stops : (text front rest key : List ℕ) (cause : LineCause) → cut_at 32 text ≡ Some (front, rest) → text_tested is_atom_text front ≡ Some key → Fails (or_syntax (option_map argument_words (argument_reading rest))) cause → Fails (or_syntax (option_map put_words (put_reading text))) cause
put_stops text front rest key cause cut named h = subst (λ r. Fails r cause) (sym (put_at text front rest key cut named)) (fails_on _ _ cause h)

-- ---- a text is that of one line of a script at most

-- ---- a line by its text

abbrev pub spawn_of : CallForm → ScriptLine
spawn_of c = spawn c.«module» c.name c.args

abbrev pub put_of : PutForm → ScriptLine
put_of p = put p.key p.term

abbrev pub trace_of : TraceForm → ScriptLine
trace_of t = trace t.«module» t.name t.arity t.on

-- the line of a command of one atom, or another
abbrev pub by_word : Option AtomCommand → List ℕ → Option ScriptLine → Option ScriptLine
by_word None rest other = other
by_word (Some c) rest other = option_map (λ n. on_atom c n) (text_tested is_atom_text rest)

-- the line of none of the words that have a step of their own
abbrev pub by_other : List ℕ → List ℕ × List ℕ → Option ScriptLine
by_other text parts =
    cond (bytes_eq parts.0 (codes "trace")) (option_map trace_of (trace_reading parts.1))
    (cond (bytes_eq parts.0 (codes "put")) (option_map put_of (put_reading parts.1)) (by_word (command_reading parts.0) parts.1 (option_map (λ l. code l) (line_reading text))))

-- a line that is no observer's
abbrev pub by_command : List ℕ → List ℕ × List ℕ → Option ScriptLine
by_command text parts =
    cond (bytes_eq parts.0 (codes "load")) (option_map (λ refs. load refs) (refs_reading parts.1))
    (cond (bytes_eq parts.0 (codes "spawn")) (option_map spawn_of (call_reading parts.1)) (by_other text parts))

-- the line of an observer, behind its word
abbrev pub observer_of : List ℕ → Option ScriptLine
observer_of rest = option_map (λ count. observer count) (text_tested is_snapshots_text rest)

abbrev pub by_parts : List ℕ → Option (List ℕ × List ℕ) → Option ScriptLine
by_parts text None = option_map (λ l. code l) (line_reading text)
by_parts text (Some parts) = cond (bytes_eq parts.0 (codes "observer")) (observer_of parts.1) (by_command text parts)

abbrev pub form_reading : List ℕ → Option ScriptLine
form_reading text =
    cond (bytes_eq text (codes "beam script 1")) (Some head)
    (cond (bytes_eq text (codes "loader")) (Some loader)
    (cond (bytes_eq text (codes "go")) (Some go)
    (by_parts text (cut_at 32 text))))

-- ---- which texts are no words

other_text : (text key : List ℕ) → (text ≡ key → ⊥) → bytes_eq text key ≡ false
other_text text key differ = by_test _ refl
  where
    by_test : (t : Bool) → bytes_eq text key ≡ t → t ≡ false
    by_test true e = absurd (differ (bytes_are text key e))
    by_test false e = refl

-- a text that is none of the three words
pub record IsOther (text : List ℕ) : Type 0 where
  pub no_head : text ≡ codes "beam script 1" → ⊥
  pub no_loader : text ≡ codes "loader" → ⊥
  pub no_go : text ≡ codes "go" → ⊥

pub by_others : (text : List ℕ) → IsOther text → form_reading text ≡ by_parts text (cut_at 32 text)
by_others text o = failed _ _ _ (other_text text _ o.no_head) ∙ failed _ _ _ (other_text text _ o.no_loader) ∙ failed _ _ _ (other_text text _ o.no_go)

-- a text that is cut at a space, where the word before it is not `beam`
worded : (text word rest : List ℕ) → cut_at 32 text ≡ Some (word, rest) → bytes_eq (codes "beam") word ≡ false → IsOther text
worded text word rest e other = record {
  no_head = λ is. let same = some_is (codes "beam", codes "script 1") (word, rest) (sym (ap (cut_at 32) is) ∙ e) in let yes : bytes_eq (codes "beam") word ≡ true = ap (λ (p : List ℕ × List ℕ). bytes_eq (codes "beam") p.0) (sym same) in absurd cc;
  no_loader = λ is. let no_cut = sym (ap (cut_at 32) is) ∙ e in absurd cc;
  no_go = λ is. let no_cut = sym (ap (cut_at 32) is) ∙ e in absurd cc;
}

code_other : (text : List ℕ) (line : LineForm) → line_reading text ≡ Some line → IsOther text
code_other text line e = record {
  no_head = λ is. let none = sym (ap line_reading is) ∙ e in absurd cc;
  no_loader = λ is. let none = sym (ap line_reading is) ∙ e in absurd cc;
  no_go = λ is. let none = sym (ap line_reading is) ∙ e in absurd cc;
}

-- a line that is read is one by its words
split_by : (t : Bool) (found line : LineForm) → cond t (Some found) None ≡ Some line → Some found ≡ Some line
split_by true found line e = e
split_by false found line e = absurd cc

split_is : (o : Option LineForm) (line : LineForm) → sound_reading o ≡ Some line → o ≡ Some line
split_is None line e = absurd cc
split_is (Some found) line e = split_by _ found line e

-- a line of a module's text has neither word
code_parts : (text : List ℕ) (line : LineForm) → line_reading text ≡ Some line → by_parts text (cut_at 32 text) ≡ Some (code line)
code_parts text line e = by_cut _ refl
  where
    -- which is none of the words of a module's text
    no_code : (word rest : List ℕ) (c : AtomCommand) → word ≡ command_word c → parts_reading text (Some (word, rest)) ≡ Some line → ⊥
    no_code word rest delete is read = let none = sym (ap (λ (w : List ℕ). parts_reading text (Some (w, rest))) is) ∙ read in absurd cc
    no_code word rest c is read = let none = sym (ap (λ (w : List ℕ). parts_reading text (Some (w, rest))) is) ∙ read in absurd cc

    by_atom : (parts : List ℕ × List ℕ) (o : Option AtomCommand) → parts_reading text (Some parts) ≡ Some line → command_reading parts.0 ≡ o → by_word o parts.1 (option_map (λ l. code l) (line_reading text)) ≡ Some (code line)
    by_atom parts None read f = ap (option_map (λ l. code l)) e
    by_atom parts (Some c) read f = absurd (no_code parts.0 parts.1 c (word_is parts.0 c f) read)

    -- the word in front is none that has a step of its own
    by_key : (key : List ℕ) (parts : List ℕ × List ℕ) (x y : Option ScriptLine) (t : Bool) → parts_reading text (Some parts) ≡ Some line → bytes_eq parts.0 key ≡ t → parts_reading text (Some (key, parts.1)) ≡ None → y ≡ Some (code line) → cond t x y ≡ Some (code line)
    by_key key parts x y true read f none rest =
        let both : None ≡ Some line = sym none ∙ ap (λ (w : List ℕ). parts_reading text (Some (w, parts.1))) (sym (bytes_are parts.0 key f)) ∙ read in
        absurd cc
    by_key key parts x y false read f none rest = rest

    by_keys : (parts : List ℕ × List ℕ) → parts_reading text (Some parts) ≡ Some line → by_parts text (Some parts) ≡ Some (code line)
    by_keys parts read =
        by_key _ parts _ _ _ read refl refl (by_key _ parts (option_map (λ refs. load refs) (refs_reading parts.1)) _ _ read refl refl
        (by_key _ parts _ _ _ read refl refl (by_key _ parts _ _ _ read refl refl (by_key _ parts _ _ _ read refl refl (by_atom parts _ read refl)))))

    by_cut : (o : Option (List ℕ × List ℕ)) → cut_at 32 text ≡ o → by_parts text o ≡ Some (code line)
    by_cut None cut = ap (option_map (λ l. code l)) e
    by_cut (Some parts) cut = by_keys parts (sym (ap (parts_reading text) cut) ∙ split_is _ line e)

-- ---- the one line

-- a line that begins with a word of its own
word_reads : {A : Type 0} (r : Reader A) (make : A → ScriptLine) (word : List ℕ) (x : A) (text : List ℕ) → text ≡ word ++ 32 ∷ r.write x → lacks 32 word ≡ true → bytes_eq (codes "beam") word ≡ false → by_parts text (Some (word, r.write x)) ≡ option_map make (r.read (r.write x)) → r.Fits x → form_reading text ≡ Some (make x)
word_reads r make word x text whole apart other shape fits =
    let cut = ap (cut_at 32) whole ∙ cut_here 32 word _ apart in
    by_others text (worded text word _ cut other) ∙ ap (by_parts text) cut ∙ shape ∙ ap (option_map make) (r.again x fits)

-- ---- behind a word

made_line : {A : Type 0} (r : Reader A) (make : A → ScriptLine) (key : List ℕ) → ((x : A) → r.Known x → key ++ 32 ∷ r.write x ≡ script_line_written (make x)) → ((x : A) → r.Known x → is_script_line (make x) ≡ true) → (text rest : List ℕ) (line : ScriptLine) → text ≡ key ++ 32 ∷ rest → option_map make (r.read rest) ≡ Some line → IsLine text line
made_line r make key shape fit text rest line whole e =
    let m = map_some make _ line e in
    let is = r.is rest m.0 m.1 in
    subst (IsLine text) m.2 (record { text_is = whole ∙ ap (λ (t : List ℕ). key ++ 32 ∷ t) is.text_is ∙ shape m.0 is.fits; sound = fit m.0 is.fits })

module _ (text : List ℕ) where
  pub reads : (line : ScriptLine) → IsLine text line → form_reading text ≡ Some line
  reads (code line) is =
      let e = text_again text line (record { text_is = is.text_is; sound = is.sound }) in
      by_others text (code_other text line e) ∙ code_parts text line e
  reads (observer count) is = word_reads (passing is_snapshots_text) (λ n. observer n) (codes "observer") count text is.text_is refl refl refl is.sound
  reads (load refs) is = let fits = load_fits refs is.sound in word_reads references (λ rs. load rs) (codes "load") refs text (is.text_is ∙ sym (load_is refs fits.0)) refl refl refl fits
  reads (on_atom command n) is = word_reads name (λ m. on_atom command m) _ n text is.text_is (word_lacks _) (no_beam _) (by_atom _) is.sound
    where
      no_beam : (c : AtomCommand) → bytes_eq (codes "beam") (command_word c) ≡ false
      no_beam delete = refl
      no_beam c = refl

      by_atom : (c : AtomCommand) → by_parts text (Some (command_word c, n)) ≡ option_map (λ m. on_atom c m) (text_tested is_atom_text n)
      by_atom delete = refl
      by_atom c = refl
  reads (put key term) is = word_reads put_reader put_of (codes "put") (record { key = key; term = term }) text is.text_is refl refl refl is.sound
  reads (trace n f arity on) is = word_reads trace_reader trace_of (codes "trace") (record { «module» = n; name = f; arity = arity; on = on }) text is.text_is refl refl refl is.sound
  reads (spawn n f args) is = word_reads call_reader spawn_of (codes "spawn") (record { «module» = n; name = f; args = args }) text is.text_is refl refl refl is.sound
  reads line is = ap form_reading is.text_is

  -- a text that begins with the word of an observer is read as an observer's
  pub observer_reading : (rest : List ℕ) → cut_at 32 text ≡ Some (codes "observer", rest) → form_reading text ≡ observer_of rest
  observer_reading rest cut = by_others text (worded text _ rest cut refl) ∙ ap (by_parts text) cut

  -- two lines with one text are one
  pub one_line : (a b : ScriptLine) → IsLine text a → IsLine text b → a ≡ b
  one_line a b p q = some_is a b (sym (reads a p) ∙ reads b q)

  -- ---- what a text is read as is its line

  -- ---- a text without parts

  -- a text that is this word, or what else it is read as
  word_line : (key : List ℕ) (found line : ScriptLine) (rest : Option ScriptLine) → key ≡ script_line_written found → is_script_line found ≡ true → (rest ≡ Some line → IsLine text line) → (t : Bool) → bytes_eq text key ≡ t → cond t (Some found) rest ≡ Some line → IsLine text line
  word_line key found line rest is sound more true b e = subst (IsLine text) (some_is found line e) (record { text_is = bytes_are text key b ∙ is; sound = sound })
  word_line key found line rest is sound more false b e = more e

  code_line : (line : ScriptLine) → option_map (λ l. code l) (line_reading text) ≡ Some line → IsLine text line
  code_line line e =
      let m = map_some (λ l. code l) _ line e in
      let is = line_is text m.0 m.1 in
      subst (IsLine text) m.2 (record { text_is = is.text_is; sound = is.sound })

  atom_line : (word rest : List ℕ) (line : ScriptLine) → cut_at 32 text ≡ Some (word, rest) → (o : Option AtomCommand) → command_reading word ≡ o → by_word o rest (option_map (λ l. code l) (line_reading text)) ≡ Some line → IsLine text line
  atom_line word rest line cut None f e = code_line line e
  atom_line word rest line cut (Some c) f e =
      made_line name (λ n. on_atom c n) _ (λ n h. refl) (λ n h. h) text rest line ((cut_is 32 text _ cut).whole ∙ ap (λ (w : List ℕ). w ++ 32 ∷ rest) (word_is word c f)) e

  -- a line behind its word, or another
  behind_word : (word rest key : List ℕ) (x y : Option ScriptLine) (line : ScriptLine) → cut_at 32 text ≡ Some (word, rest) → (text ≡ key ++ 32 ∷ rest → x ≡ Some line → IsLine text line) → (y ≡ Some line → IsLine text line) → (t : Bool) → bytes_eq word key ≡ t → cond t x y ≡ Some line → IsLine text line
  behind_word word rest key x y line cut here more true b e = here ((cut_is 32 text _ cut).whole ∙ ap (λ (w : List ℕ). w ++ 32 ∷ rest) (bytes_are word key b)) e
  behind_word word rest key x y line cut here more false b e = more e

  parts_line : (line : ScriptLine) (o : Option (List ℕ × List ℕ)) → cut_at 32 text ≡ o → by_parts text o ≡ Some line → IsLine text line
  parts_line line None cut e = code_line line e
  parts_line line (Some (word, rest)) cut e =
      behind_word word rest _ _ _ line cut (made_line (passing is_snapshots_text) (λ n. observer n) (codes "observer") (λ n h. refl) (λ n h. h) text rest line)
      (behind_word word rest (codes "load") (option_map (λ refs. load refs) (refs_reading rest)) _ line cut (made_line references (λ rs. load rs) (codes "load") (λ rs h. load_is rs h.0) (λ rs h. load_sound rs h) text rest line)
      (behind_word word rest (codes "spawn") _ _ line cut (made_line call_reader spawn_of (codes "spawn") (λ c h. refl) (λ c h. h) text rest line)
      (behind_word word rest (codes "trace") _ _ line cut (made_line trace_reader trace_of (codes "trace") (λ t h. refl) (λ t h. h) text rest line)
      (behind_word word rest (codes "put") _ (by_word (command_reading word) rest (option_map (λ l. code l) (line_reading text))) line cut (made_line put_reader put_of (codes "put") (λ p h. refl) (λ p h. h) text rest line)
      (atom_line word rest line cut _ refl)
      _ refl)
      _ refl)
      _ refl)
      _ refl)
      _ refl e

  -- ---- a text

  -- what is read has this text
  pub form_is : (line : ScriptLine) → form_reading text ≡ Some line → IsLine text line
  form_is line e =
      word_line (codes "beam script 1") head line _ refl refl
      (word_line (codes "loader") loader line _ refl refl
      (word_line (codes "go") go line _ refl refl (parts_line line (cut_at 32 text) refl)
      (bytes_eq text (codes "go")) refl)
      (bytes_eq text (codes "loader")) refl)
      (bytes_eq text (codes "beam script 1")) refl e
