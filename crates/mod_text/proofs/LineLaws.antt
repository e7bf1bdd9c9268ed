-- A line is read as the form whose text it has, and no other text is read; the text of each line is read as that line.
use Rattle.mod_text.proofs.Common.{◌≡◌, ℕ, Bool, true, false, cond, ◌&&◌, List, ◌∷◌, ◌++◌, Option, Some, None}
use Rattle.mod_text.proofs.Common.{option_map, codes, refl, sym, ◌∙◌, subst, ap, and_parts, and_from}
use Rattle.mod_text.proofs.Common.{[], IfSome, IsTrue}
use Rattle.mod_text.specs.declared.written.WrittenLine.{WrittenLine}
use Rattle.mod_text.proofs.Forms.{line_form, instr_reading, lone_reading, instr_line_reading, keyed_reading, parts_reading}
use Rattle.mod_text.proofs.Forms.{line_split, is_sound_operand, has_sound_operands, operands_of, each_operand}
use Rattle.mod_text.proofs.Forms.{has_sound_terms, sound_reading, line_reading}
use Rattle.mod_text.proofs.Texts.{◌>>=◌, cut_at, some_is, map_some, some, passed, cut_is, atom_lacks, number_lacks}
use Rattle.mod_text.proofs.Texts.{lacks, lacks-append, lacks-cons, IsItem, is_atom_text}
use Rattle.mod_text.proofs.Texts.{is_number_text}
use Rattle.mod_text.specs.ModuleLine.{OperandForm, InstrForm, move, add, sub, eq, less, jump, call, call_ext, ret, pget}
use Rattle.mod_text.specs.ModuleLine.{pget_or, elem, print, yield, LineForm, title, header, label, instr, end, instr_written}
use Rattle.mod_text.specs.ModuleLine.{line_written, is_operand_form, is_instr_form, is_line_form, LineText, constant, parted_by}
use Rattle.mod_text.specs.ModuleLine.{spaced, function_written, is_version_text, is_arity_text, is_function_form}
use Rattle.mod_text.proofs.Readers.{Reader, name_is, word_is, made_again}
use Rattle.mod_text.proofs.LineReaders.{IsSplit as IsSplitOperand, operand, name, function, titled, one_operand, two_operands, branch}
use Rattle.mod_text.proofs.LineReaders.{local_call, external_call, one_key, key_or, line_feed_apart, line_feed_outside, slot, operand_name}
use Rattle.mod_text.proofs.WrittenTerms.{sound_term}
use Rattle.mod_text.proofs.LineReaders.{external, operands_form, operand_lacks, function_lacks, external_lacks, version_number}

-- ---- what is read has this text

-- what is known of an instruction
abbrev IsKnown : InstrForm → Type 0
IsKnown i = has_sound_operands i ≡ true → is_instr_form i ≡ true

operands_known : (a b : OperandForm) (last : Bool) → IsSplitOperand a → IsSplitOperand b → last ≡ true → (is_sound_operand a && is_sound_operand b) ≡ true → (is_operand_form a && (is_operand_form b && last)) ≡ true
operands_known a b last h k l sound = let both = and_parts (is_sound_operand a) (is_sound_operand b) sound in and_from _ _ (h both.0) (and_from _ _ (k both.1) l)

instr_is : (word rest : List ℕ) (i : InstrForm) → instr_reading word rest ≡ Some i → IsItem instr_written IsKnown (word ++ 32 ∷ rest) i
instr_is word rest i e =
    word_is one_operand (λ p. move p.0 p.1) instr_written IsKnown (codes "move") (λ p h. refl) (λ p h. λ s. and_from _ _ (h.0 s) h.1) word rest _ i e
    (λ e1. word_is two_operands (λ x. add x.0 x.1.0 x.1.1) instr_written IsKnown (codes "add") (λ p h. refl) (λ x h. operands_known x.0 x.1.0 _ h.0 h.1.0 h.1.1) word rest _ i e1
    (λ e2. word_is two_operands (λ x. sub x.0 x.1.0 x.1.1) instr_written IsKnown (codes "sub") (λ p h. refl) (λ x h. operands_known x.0 x.1.0 _ h.0 h.1.0 h.1.1) word rest _ i e2
    (λ e3. word_is branch (λ x. eq x.0 x.1.0 x.1.1) instr_written IsKnown (codes "eq") (λ p h. refl) (λ x h. operands_known x.0 x.1.0 _ h.0 h.1.0 h.1.1) word rest _ i e3
    (λ e4. word_is branch (λ x. less x.0 x.1.0 x.1.1) instr_written IsKnown (codes "less") (λ p h. refl) (λ x h. operands_known x.0 x.1.0 _ h.0 h.1.0 h.1.1) word rest _ i e4
    (λ e5. word_is name (λ t. jump t) instr_written IsKnown (codes "jump") (λ p h. refl) (λ t h. λ _. h) word rest _ i e5
    (λ e6. word_is local_call (λ p. call p.0.0 p.0.1 p.1) instr_written IsKnown (codes "call") (λ p h. refl) (λ p h. λ _. and_from _ _ (and_from _ _ h.0.0 h.0.1) h.1) word rest _ i e6
    (λ e7. word_is external_call (λ p. call_ext p.0.0 p.0.1.0 p.0.1.1 p.1) instr_written IsKnown (codes "call_ext") (λ p h. refl) (λ p h. λ _. and_from _ _ h.0.0 (and_from _ _ (and_from _ _ h.0.1.0 h.0.1.1) h.1)) word rest _ i e7
    (λ e8. word_is operand (λ o. ret o) instr_written IsKnown (codes "ret") (λ p h. refl) (λ o h. h) word rest _ i e8
    (λ e9. word_is one_key (λ p. pget p.0 p.1) instr_written IsKnown (codes "pget") (λ p h. refl) (λ p h. λ _. and_from _ _ h.0 h.1) word rest _ i e9
    (λ e10. word_is key_or (λ p. pget_or p.0 p.1.0 p.1.1) instr_written IsKnown (codes "pget_or") (λ p h. refl) (λ p h. λ s. and_from _ _ h.0 (and_from _ _ (h.1.0 s) h.1.1)) word rest _ i e10
    (λ e11. word_is two_operands (λ x. elem x.0 x.1.0 x.1.1) instr_written IsKnown (codes "elem") (λ p h. refl) (λ x h. operands_known x.0 x.1.0 _ h.0 h.1.0 h.1.1) word rest _ i e11
    (λ e12. word_is operand (λ o. print o) instr_written IsKnown (codes "print") (λ p h. refl) (λ o h. h) word rest None i e12
    (λ no. absurd cc)))))))))))))

-- what is known of a line
abbrev IsKnownLine : LineForm → Type 0
IsKnownLine line = has_sound_terms line ≡ true → is_line_form line ≡ true

instr_line_is : (word rest : List ℕ) (line : LineForm) → instr_line_reading word rest ≡ Some line → IsItem line_written IsKnownLine (word ++ 32 ∷ rest) line
instr_line_is word rest line e =
    let m = map_some (λ i. instr i) _ line e in
    let is = instr_is word rest m.0 m.1 in
    subst (IsItem line_written IsKnownLine (word ++ 32 ∷ rest)) m.2 (record { text_is = is.text_is; fits = is.fits })

keyed_is : (word rest : List ℕ) (line : LineForm) → keyed_reading word rest ≡ Some line → IsItem line_written IsKnownLine (word ++ 32 ∷ rest) line
keyed_is word rest line e =
    word_is name (λ n. label n) line_written IsKnownLine (codes "label") (λ n h. refl) (λ n h. λ _. h) word rest _ line e
    (λ e1. word_is titled (λ x. title x.0 x.1) line_written IsKnownLine (codes "module") (λ x h. refl) (λ x h. λ _. and_from _ _ h.0 h.1) word rest _ line e1
    (λ e2. word_is function (λ x. header true x.0 x.1) line_written IsKnownLine (codes "export") (λ x h. refl) (λ x h. λ _. and_from _ _ h.0 h.1) word rest _ line e2
    (λ e3. word_is function (λ x. header false x.0 x.1) line_written IsKnownLine (codes "local") (λ x h. refl) (λ x h. λ _. and_from _ _ h.0 h.1) word rest _ line e3
    (instr_line_is word rest line))))

lone_is : (word : List ℕ) (line : LineForm) → lone_reading word ≡ Some line → IsItem line_written IsKnownLine word line
lone_is word line e =
    name_is (λ w. w) line_written IsKnownLine (codes "yield") (instr yield) refl (λ _. refl) word _ line e
    (λ e1. name_is (λ w. w) line_written IsKnownLine (codes "end") end refl (λ _. refl) word None line e1 (λ no. absurd cc))

-- what is known of a line whose tuples and lists were not looked into
IsSplit : List ℕ → LineForm → Type 0
IsSplit text line = (text ≡ line_written line) × (has_sound_terms line ≡ true → is_line_form line ≡ true)

parts_are : (text : List ℕ) (o : Option (List ℕ × List ℕ)) (line : LineForm) → cut_at 32 text ≡ o → parts_reading text o ≡ Some line → IsSplit text line
unfolding IsSplit
parts_are text None line cut e = let is = lone_is text line e in (is.text_is, is.fits)
parts_are text (Some parts) line cut e =
    let is = keyed_is _ _ line e in
    ((cut_is 32 text parts cut).whole ∙ is.text_is, is.fits)

-- what is cut as a line has the line's text
split_is : (text : List ℕ) (line : LineForm) → line_split text ≡ Some line → IsSplit text line
split_is text line e = parts_are text _ line refl e

-- a line that was read is one that was cut, and its terms are terms
pub record IsSoundly (split : Option LineForm) (line : LineForm) : Type 0 where
  pub same : split ≡ Some line
  pub terms : has_sound_terms line ≡ true

soundly_by : (found line : LineForm) (t : Bool) → has_sound_terms found ≡ t → cond t (Some found) None ≡ Some line → IsSoundly (Some found) line
soundly_by found line true is e = subst (IsSoundly (Some found)) (some_is found line e) (record { same = refl; terms = is })
soundly_by found line false is e = absurd cc

pub soundly : (split : Option LineForm) (line : LineForm) → sound_reading split ≡ Some line → IsSoundly split line
soundly None line e = absurd cc
soundly (Some found) line e = soundly_by found line _ refl e

-- what is read as a line is the line's text
pub line_is : (text : List ℕ) (line : LineForm) → line_reading text ≡ Some line → LineText text line
unfolding IsSplit
line_is text line e =
    let s = soundly _ line e in
    let is = split_is text line s.same in
    record { text_is = is.0; sound = is.1 s.terms }

-- a line whose words are slices has the parts of its form, where its terms are terms
pub sound_by : (text : List ℕ) (result : Option WrittenLine) → option_map line_form result ≡ line_split text → IfSome result (λ line. has_sound_terms (line_form line) ≡ true → IsTrue (is_line_form (line_form line)))
unfolding IsSplit
sound_by text None e = tt
sound_by text (Some line) e = (split_is text _ (sym e)).1

-- ---- the text of each line is read as that line

-- ---- lines

-- three tests in a row
three : (a b c : Bool) → (a && (b && c)) ≡ true → (a ≡ true) × ((b ≡ true) × (c ≡ true))
three a b c h = let p = and_parts a _ h in (p.0, and_parts b c p.1)

as_line : {o : Option InstrForm} {i : InstrForm} → o ≡ Some i → option_map (λ j. instr j) o ≡ Some (instr i)
as_line e = ap (option_map (λ j. instr j)) e

-- ---- bytes: no line feed is among them

lacks_word : (word rest : List ℕ) → lacks 10 word ≡ true → lacks 10 rest ≡ true → lacks 10 (spaced word rest) ≡ true
lacks_word word rest h k = lacks-append 10 word _ h (lacks-cons 10 32 rest refl k)

-- what a reader writes of what fits has none
abbrev Lacks : {A : Type 0} → Reader A → Type 0
Lacks r = (x : _) → r.Fits x → lacks 10 (r.write x) ≡ true

beside : {A B : Type 0} (a : Reader A) (b : Reader B) → Lacks a → Lacks b → (p : A × B) → a.Fits p.0 × b.Fits p.1 → lacks 10 (a.write p.0 ++ 32 ∷ b.write p.1) ≡ true
beside a b h k p fits = lacks_word (a.write p.0) (b.write p.1) (h p.0 fits.0) (k p.1 fits.1)

name_lacks : Lacks name
name_lacks n h = atom_lacks 10 n refl h

any_lacks : Lacks operand
any_lacks o h = operand_lacks 10 o line_feed_outside h

slot_lacks : Lacks slot
slot_lacks digits h = lacks-cons 10 36 digits refl (number_lacks 10 digits refl h)

one_lacks : Lacks one_operand
one_lacks = beside operand slot any_lacks slot_lacks

two_lacks : Lacks two_operands
two_lacks = beside operand one_operand any_lacks one_lacks

branch_lacks : Lacks branch
branch_lacks = beside operand operand_name any_lacks (beside operand name any_lacks name_lacks)

local_lacks : Lacks local_call
local_lacks = beside function slot (λ f h. function_lacks 10 f.0 f.1 line_feed_apart refl (and_from _ _ h.0 h.1)) slot_lacks

away_lacks : Lacks external_call
away_lacks = beside external slot (λ f h. external_lacks 10 f.0 f.1.0 f.1.1 line_feed_apart refl refl h.0 (and_from _ _ h.1.0 h.1.1)) slot_lacks

key_lacks : Lacks one_key
key_lacks = beside name slot name_lacks slot_lacks

or_lacks : Lacks key_or
or_lacks = beside name one_operand name_lacks one_lacks

-- the line of an instruction is cut from its text, in which there is no line feed
record IsSaid (i : InstrForm) : Type 0 where
  again : line_split (instr_written i) ≡ Some (instr i)
  apart : lacks 10 (instr_written i) ≡ true

said : {A : Type 0} (r : Reader A) (make : A → InstrForm) (word : List ℕ) (x : A) → Lacks r → lacks 10 word ≡ true → instr_written (make x) ≡ word ++ 32 ∷ r.write x → line_split (instr_written (make x)) ≡ option_map (λ j. instr j) (r.read (r.write x) >>= λ y. Some (make y)) → r.Fits x → IsSaid (make x)
said r make word x apart lacking shape split fits = record { again = split ∙ as_line (made_again r make x fits); apart = ap (lacks 10) shape ∙ lacks_word word _ lacking (apart x fits) }

instr_said : (i : InstrForm) → is_instr_form i ≡ true → IsSaid i
instr_said (move from to) h = said one_operand (λ p. move p.0 p.1) (codes "move") (from, to) one_lacks refl refl refl (and_parts (is_operand_form from) (is_number_text to) h)
instr_said (add a b to) h = said two_operands (λ x. add x.0 x.1.0 x.1.1) (codes "add") (a, (b, to)) two_lacks refl refl refl (three (is_operand_form a) (is_operand_form b) (is_number_text to) h)
instr_said (sub a b to) h = said two_operands (λ x. sub x.0 x.1.0 x.1.1) (codes "sub") (a, (b, to)) two_lacks refl refl refl (three (is_operand_form a) (is_operand_form b) (is_number_text to) h)
instr_said (eq a b target) h = said branch (λ x. eq x.0 x.1.0 x.1.1) (codes "eq") (a, (b, target)) branch_lacks refl refl refl (three (is_operand_form a) (is_operand_form b) (is_atom_text target) h)
instr_said (less a b target) h = said branch (λ x. less x.0 x.1.0 x.1.1) (codes "less") (a, (b, target)) branch_lacks refl refl refl (three (is_operand_form a) (is_operand_form b) (is_atom_text target) h)
instr_said (jump target) h = said name (λ t. jump t) (codes "jump") target name_lacks refl refl refl h
instr_said (call f arity at) h =
    let q = and_parts (is_function_form f arity) (is_number_text at) h in
    said local_call (λ p. call p.0.0 p.0.1 p.1) (codes "call") ((f, arity), at) local_lacks refl refl refl (and_parts (is_atom_text f) (is_arity_text arity) q.0, q.1)
instr_said (call_ext m f arity at) h =
    let q = three (is_atom_text m) (is_function_form f arity) (is_number_text at) h in
    said external_call (λ p. call_ext p.0.0 p.0.1.0 p.0.1.1 p.1) (codes "call_ext") ((m, (f, arity)), at) away_lacks refl refl refl ((q.0, and_parts (is_atom_text f) (is_arity_text arity) q.1.0), q.1.1)
instr_said (ret value) h = said operand (λ o. ret o) (codes "ret") value any_lacks refl refl refl h
instr_said (pget key to) h = said one_key (λ p. pget p.0 p.1) (codes "pget") (key, to) key_lacks refl refl refl (and_parts (is_atom_text key) (is_number_text to) h)
instr_said (pget_or key other to) h = said key_or (λ p. pget_or p.0 p.1.0 p.1.1) (codes "pget_or") (key, (other, to)) or_lacks refl refl refl (three (is_atom_text key) (is_operand_form other) (is_number_text to) h)
instr_said (elem index from to) h = said two_operands (λ x. elem x.0 x.1.0 x.1.1) (codes "elem") (index, (from, to)) two_lacks refl refl refl (three (is_operand_form index) (is_operand_form from) (is_number_text to) h)
instr_said (print value) h = said operand (λ o. print o) (codes "print") value any_lacks refl refl refl h
instr_said yield h = record { again = refl; apart = refl }

-- each line is cut from its text
split_again : (line : LineForm) → is_line_form line ≡ true → line_split (line_written line) ≡ Some line
split_again (title n version) h = made_again titled (λ x. title x.0 x.1) (n, version) (and_parts (is_atom_text n) (is_version_text version) h)
split_again (header true n arity) h = made_again function (λ x. header true x.0 x.1) (n, arity) (and_parts (is_atom_text n) (is_arity_text arity) h)
split_again (header false n arity) h = made_again function (λ x. header false x.0 x.1) (n, arity) (and_parts (is_atom_text n) (is_arity_text arity) h)
split_again (label n) h = made_again name (λ x. label x) n h
split_again (instr i) h = (instr_said i h).again
split_again end h = refl

-- the terms of a line are terms
sound_operand : (o : OperandForm) → is_operand_form o ≡ true → is_sound_operand o ≡ true
sound_operand (constant term) h = sound_term term h
sound_operand o h = refl

sound_each : (os : List OperandForm) → each_operand is_operand_form os ≡ true → each_operand is_sound_operand os ≡ true
sound_each [] h = refl
sound_each (o ∷ []) h = sound_operand o h
sound_each (o ∷ p ∷ os) h = let both = and_parts (is_operand_form o) (each_operand is_operand_form (p ∷ os)) h in and_from _ _ (sound_operand o both.0) (sound_each (p ∷ os) both.1)

pub sound_terms : (line : LineForm) → is_line_form line ≡ true → has_sound_terms line ≡ true
sound_terms (instr i) h = sound_each (operands_of i) (operands_form i h)
sound_terms line h = refl

-- each line is read from its text
pub line_again : (line : LineForm) → is_line_form line ≡ true → line_reading (line_written line) ≡ Some line
line_again line h = ap sound_reading (split_again line h) ∙ passed (has_sound_terms line) (some line) None (sound_terms line h)

-- a text is read as the line that it is
pub text_again : (text : List ℕ) (line : LineForm) → LineText text line → line_reading text ≡ Some line
text_again text line is = ap line_reading is.text_is ∙ line_again line is.sound

-- no line has a line feed in its text
pub line_lacks : (line : LineForm) → is_line_form line ≡ true → lacks 10 (line_written line) ≡ true
line_lacks (title name version) h =
    let parts = and_parts (is_atom_text name) (is_version_text version) h in
    lacks_word (codes "module") (parted_by 46 name version) refl (lacks-append 10 name (46 ∷ version) (atom_lacks 10 name refl parts.0) (lacks-cons 10 46 version refl (number_lacks 10 version refl (version_number version parts.1))))
line_lacks (header true name arity) h = lacks_word (codes "export") (function_written name arity) refl (function_lacks 10 name arity line_feed_apart refl h)
line_lacks (header false name arity) h = lacks_word (codes "local") (function_written name arity) refl (function_lacks 10 name arity line_feed_apart refl h)
line_lacks (label name) h = lacks_word (codes "label") name refl (atom_lacks 10 name refl h)
line_lacks (instr i) h = (instr_said i h).apart
line_lacks end h = refl
