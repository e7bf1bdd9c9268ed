-- Atoms, numbers and terms of a report's line, and texts cut at the last such byte.
use Rattle.std.proofs.Common.{◌≡◌, ℕ, ◌+◌, ◌-◌, ◌<◌, Bool, true, false, ◌==◌, not, List, [], ◌∷◌, ◌++◌, length, get_or, take, drop, Option, Some}
use Rattle.std.proofs.Common.{None, refl, sym, ap, ◌∙◌, subst, arith, add-one, drop-cons, length-drop, ◌≤◌, ◌^◌, cond, nat_le, nat_lt}
use Rattle.std.proofs.Common.{decimal, option_map, slice_get, unwrap_or, bytes_eq, append_assoc, append-nil, length-take, IsSome}
use Rattle.report_text.proofs.Common.{and_parts, not-true, and_from, Decides-eqb, nat_tests, take-append-drop, take_all, slice_get-get_or}
use Rattle.report_text.proofs.Common.{slice_get_within, Texts, map, AllByRecursion, join_with_byte, list_all, length-map}
use Rattle.report_text.proofs.Texts.{with_first, some, some_is, passed, failed, map_some, guard_some, guarded, lacks, atom_lacks, number_lacks}
use Rattle.report_text.proofs.Texts.{IsNames, number_of, is_atom_text, is_name_byte, atom_text, slice_get-number_of, texts_are_atoms, IsItem}
use Rattle.report_text.proofs.Texts.{number_reading, narrow_reading, decimal_again, test_lt, passes_lt, term_of, PlainTerm, EachLeaf, row_of}
use Rattle.report_text.proofs.Texts.{term_words, map_leaves, row_count, parts_of_terms, joined, IsTerm, term_text, number_in, parts_of_parted}
use Rattle.report_text.proofs.Texts.{joined_parts_of_terms, joined_written, plain-term_of, is_term_byte, term_bytes-term_text, is_some_at, none_by}
use Rattle.report_text.proofs.Texts.{same_bytes, bytes_are, lacks-all, lacks-append, lacks-cons, each_reading, each_again, each_is, each_count}
use Rattle.report_text.proofs.Texts.{joined_lacks}
use Rattle.report_text.proofs.Forms.{cut_or, cut_last, version_reading, arity_reading, atom_numbered, atom_reading, is_short_text, named_term}
use Rattle.report_text.proofs.Forms.{plain_reading, some_terms, terms_reading}
use Rattle.std.specs.Char.{is_ascii_digit}
use Rattle.report_text.proofs.Types.{AtomId, Mfa, Call}
use Rattle.term_core.proofs.GrownNames.{number_of-at}
use Rattle.term_core.specs.Text.Numbers.{is_number_text, number_value}
use Rattle.term_core.proofs.Text.Numbers.{decimal-writes}
use Rattle.report_text.proofs.Logs.{IsWide, IsNarrow, IsNamed, IsTermOf, mfa_text, plain_text, call_text, IsFunctionOf, IsCallOf}
use Rattle.mod_text.proofs.CanonicalParts.{arity_writes, version_writes}
use Rattle.mod_text.proofs.LineReaders.{arity_number, arity_few, version_number, version_bounds}
use Rattle.mod_text.specs.ModuleLine.{is_version_text, is_arity_text}
use Rattle.mod_text.proofs.Readers.{Reader, fitting, pair, made, closed}
use Rattle.term_core.specs.TermForms.{is_term_text, is_wide_text, term_in, text_words, tree_of}
use Rattle.term_core.specs.Written.{WrittenTerm, written, parted, IsTermInteger, integer_of, IntegersFit}
use Rattle.term_core.proofs.LeafFacts.{EachLeaf-weaker, EachLeaf-map, term_words-map}
use Rattle.term_core.proofs.Ranges.{fits_of_none}
use Rattle.term_core.proofs.TermForms.{printed_is, tree_is, nonempty-is_term_text}
use Rattle.term_core.proofs.TokenLaws.{terms_of-row_of}
use Rattle.term_core.proofs.WrittenTokens.{RowHasLeafTexts}

no_sides : {P : Type 0} (x : List ℕ × List ℕ) → ◌≡◌ {A = Option (List ℕ × List ℕ)} None (Some x) → P
no_sides x h = absurd cc

-- ---- from behind

-- a text at a place
parts_at : (text : List ℕ) (place : ℕ) → place < length text → drop place text ≡ get_or text place 0 ∷ drop (place + 1) text
parts_at text place h = rw (add-one, drop-cons text place 0)

module _ (byte : ℕ) where
  cut_other : (b : ℕ) (bs : List ℕ) (o : Option (List ℕ × List ℕ)) → o ≡ None → (b == byte) ≡ false → cut_or byte b bs o ≡ None
  cut_other b bs o none h = ap (cut_or byte b bs) none ∙ failed _ _ None h

  -- what lacks the byte is not cut
  pub uncut_last : (text : List ℕ) → lacks byte text ≡ true → cut_last byte text ≡ None
  uncut_last [] h = refl
  uncut_last (b ∷ bs) h =
      let parts = and_parts (not (b == byte)) (lacks byte bs) h in
      cut_other b bs (cut_last byte bs) (uncut_last bs parts.1) (not-true (b == byte) parts.0)

  -- a text is cut in front of what lacks the byte
  pub cut_last_here : (a b : List ℕ) → lacks byte b ≡ true → cut_last byte (a ++ byte ∷ b) ≡ Some (a, b)
  cut_last_here [] b h = ap (cut_or byte byte b) (uncut_last b h) ∙ passed (byte == byte) (some ([], b)) None ((Decides-eqb byte byte).1 refl)
  cut_last_here (x ∷ a) b h = ap (cut_or byte x (a ++ byte ∷ b)) (cut_last_here a b h)

  -- the text is two sides of the byte
  cut_last_step : (b : ℕ) (bs : List ℕ) (o : Option (List ℕ × List ℕ)) (x : List ℕ × List ℕ) → ((y : List ℕ × List ℕ) → o ≡ Some y → bs ≡ y.0 ++ byte ∷ y.1) → (t : Bool) → (b == byte) ≡ t → cut_or byte b bs o ≡ Some x → b ∷ bs ≡ x.0 ++ byte ∷ x.1
  cut_last_step b bs (Some y) x more t e h = subst (λ (z : List ℕ × List ℕ). b ∷ bs ≡ z.0 ++ byte ∷ z.1) (some_is (with_first b y) x h) (ap (λ (l : List ℕ). b ∷ l) (more y refl))
  cut_last_step b bs None x more true e h =
      subst (λ (z : List ℕ × List ℕ). b ∷ bs ≡ z.0 ++ byte ∷ z.1) (some_is ([], bs) x (sym (passed (b == byte) (some ([], bs)) None e) ∙ h)) (ap (λ k. k ∷ bs) ((Decides-eqb b byte).0 e))
  cut_last_step b bs None x more false e h = no_sides x (sym (failed _ _ None e) ∙ h)

  pub cut_last_is : (text : List ℕ) (x : List ℕ × List ℕ) → cut_last byte text ≡ Some x → text ≡ x.0 ++ byte ∷ x.1
  cut_last_is [] x h = absurd cc
  cut_last_is (b ∷ bs) x h = cut_last_step b bs (cut_last byte bs) x (cut_last_is bs) (b == byte) refl h

  -- the byte stands there, and behind it no more
  pub cut_there : (text : List ℕ) (place end : ℕ) → place + 1 ≡ end → place < length text → get_or text place 0 ≡ byte → lacks byte (drop end text) ≡ true → cut_last byte text ≡ Some (take place text, drop end text)
  cut_there text place end e h is l =
      let behind : drop place text ≡ byte ∷ drop end text = parts_at text place h ∙ ap (λ b. b ∷ drop (place + 1) text) is ∙ ap (λ n. byte ∷ drop n text) e in
      ap (cut_last byte) (sym (take-append-drop place text) ∙ ap (λ (t : List ℕ). take place text ++ t) behind) ∙ cut_last_here (take place text) (drop end text) l

-- the rest of a text, as a slice gives it
pub rest_is : (text : List ℕ) (end : ℕ) → take (length text - end) (drop end text) ≡ drop end text
rest_is text end = take_all (length text - end) (drop end text) (omega (arith, length-drop end text))

-- it is nowhere
pub lacks_all : (byte : ℕ) (text : List ℕ) (end : ℕ) → end ≡ 0 → lacks byte (drop end text) ≡ true → cut_last byte text ≡ None
lacks_all byte text end e h = uncut_last byte text (ap (λ n. lacks byte (drop n text)) (sym e) ∙ h)

-- ---- atoms and numbers of a report's line

-- ---- atoms

module _ (names : Texts) where
  named_at : (n : ℕ) → n < length names → slice_get names n ≡ Some (atom_text names n)
  named_at n h = let at = slice_get-get_or names n [] h in at ∙ ap (λ (o : Option (List ℕ)). some (unwrap_or o [])) (sym at)

  pub atom_again : IsNames names → (a : AtomId) → IsNamed names a → atom_reading names (atom_text names a.0) ≡ Some a
  atom_again sound a h = ap (option_map atom_numbered) (number_of-at names (atom_text names a.0) a.0 sound (named_at a.0 h))

  pub atom_is : (text : List ℕ) (a : AtomId) → atom_reading names text ≡ Some a → IsItem (λ (m : AtomId). atom_text names m.0) (IsNamed names) text a
  atom_is text a e =
      let m = map_some atom_numbered (number_of names text) a e in
      let at = slice_get-number_of names text m.0 m.1 in
      subst (IsItem (λ (b : AtomId). atom_text names b.0) (IsNamed names) text) m.2 (record { text_is = sym (ap (λ (o : Option (List ℕ)). unwrap_or o []) at); fits = slice_get_within names m.0 text at })

  abbrev pub atom : IsNames names → Reader AtomId
  atom sound = fitting (λ (m : AtomId). atom_text names m.0) (IsNamed names) _ atom_is (atom_again sound)

  pub atom_is_text : (a : AtomId) → IsNames names → IsNamed names a → is_atom_text (atom_text names a.0) ≡ true
  atom_is_text a sound h = texts_are_atoms names (atom_text names a.0) a.0 sound (named_at a.0 h)

pub named_lacks : (byte : ℕ) (names : Texts) (a : AtomId) → IsNames names → is_name_byte byte ≡ false → IsNamed names a → lacks byte (atom_text names a.0) ≡ true
named_lacks byte names a sound apart h = atom_lacks byte (atom_text names a.0) apart (atom_is_text names a sound h)

-- ---- numbers

-- a number's text that is read below a limit
abbrev below_reading : ℕ → List ℕ → Option ℕ
below_reading limit text = cond (is_number_text text) (cond (nat_lt (number_value text) limit) (Some (number_value text)) None) None

below_again : (limit n : ℕ) → n < limit → IsWide n → below_reading limit (decimal n) ≡ Some n
below_again limit n h wide =
    let w = decimal-writes n wide in
    passed (is_number_text (decimal n)) _ None w.form
    ∙ ap (λ (k : ℕ). cond (nat_lt k limit) (some k) None) w.value
    ∙ passed (nat_lt n limit) (some n) None (passes_lt n limit h)

below_is : (limit : ℕ) (text : List ℕ) (n : ℕ) → limit ≤ 2 ^ 64 → below_reading limit text ≡ Some n → IsItem decimal (λ k. k < limit) text n
below_is limit text n wide e =
    let form = guarded (is_number_text text) (cond (nat_lt (number_value text) limit) (Some (number_value text)) None) n e in
    let small = guard_some (nat_lt (number_value text) limit) (number_value text) n form.1 in
    let below = test_lt (number_value text) limit small.0 in
    subst (IsItem decimal (λ k. k < limit) text) small.1 (record { text_is = sym (decimal_again text form.0 (omega arith)); fits = below })

pub number_again : (n : ℕ) → IsWide n → number_reading (decimal n) ≡ Some n
number_again n h = below_again (2 ^ 64) n h h

pub number_is : (text : List ℕ) (n : ℕ) → number_reading text ≡ Some n → IsItem decimal IsWide text n
number_is text n e = below_is (2 ^ 64) text n (omega arith) e

abbrev pub number : Reader ℕ
number = fitting _ IsWide _ number_is number_again

pub narrow_again : (n : ℕ) → IsNarrow n → narrow_reading (decimal n) ≡ Some n
narrow_again n h = below_again (2 ^ 32) n h (omega arith)

pub narrow_is : (text : List ℕ) (n : ℕ) → narrow_reading text ≡ Some n → IsItem decimal IsNarrow text n
narrow_is text n e = below_is (2 ^ 32) text n (omega arith) e

abbrev pub narrow : Reader ℕ
narrow = fitting _ IsNarrow _ narrow_is narrow_again

pub narrow_wide : (n : ℕ) → IsNarrow n → IsWide n
narrow_wide n h = omega arith

pub decimal_lacks : (byte n : ℕ) → is_ascii_digit byte ≡ false → IsWide n → lacks byte (decimal n) ≡ true
decimal_lacks byte n apart h = number_lacks byte (decimal n) apart (decimal-writes n h).form

-- what stands in no name is no digit
pub digit_apart : (byte : ℕ) → is_name_byte byte ≡ false → is_ascii_digit byte ≡ false
digit_apart byte h = grind (arith, nat_tests)

-- ---- numbers that pass a test

-- a text that passes a test, as the number that its digits write
abbrev passing : (List ℕ → Bool) → List ℕ → Option ℕ
passing test text = cond (test text) (some (number_value text)) None

passing_again : (test : List ℕ → Bool) (n : ℕ) → IsWide n → test (decimal n) ≡ true → passing test (decimal n) ≡ Some n
passing_again test n wide h = passed (test (decimal n)) (some (number_value (decimal n))) None h ∙ ap some (decimal-writes n wide).value

passing_is : (test : List ℕ → Bool) (Fits : ℕ → Type 0) (text : List ℕ) (n : ℕ) → (test text ≡ true → (is_number_text text ≡ true) × (number_value text < 2 ^ 64) × Fits (number_value text)) → passing test text ≡ Some n → IsItem decimal Fits text n
passing_is test Fits text n fit e =
    let g = guard_some (test text) (number_value text) n e in
    let f = fit g.0 in
    subst (IsItem decimal Fits text) g.1 (record { text_is = sym (decimal_again text f.0 f.1); fits = f.2 })

-- a version
abbrev pub IsVersion : ℕ → Type 0
IsVersion n = (0 < n) × (n ≤ 999999)

pub version_again : (n : ℕ) → IsVersion n → version_reading (decimal n) ≡ Some n
version_again n h = let low = h.0 in let high = h.1 in passing_again is_version_text n (omega arith) (version_writes n (omega arith) high)

pub version_is : (text : List ℕ) (n : ℕ) → version_reading text ≡ Some n → IsItem decimal IsVersion text n
version_is text n e = passing_is is_version_text IsVersion text n (λ h. let b = version_bounds text h in let low = b.0 in let high = b.1 in (version_number text h, omega arith, (omega arith, high))) e

abbrev pub version : Reader ℕ
version = fitting _ IsVersion _ version_is version_again

-- an arity
pub arity_again : (n : ℕ) → n ≤ 15 → arity_reading (decimal n) ≡ Some n
arity_again n high = passing_again is_arity_text n (omega arith) (arity_writes n high)

pub arity_is : (text : List ℕ) (n : ℕ) → arity_reading text ≡ Some n → IsItem decimal (λ k. k ≤ 15) text n
arity_is text n e = passing_is is_arity_text (λ k. k ≤ 15) text n (λ h. let few = arity_few text h in (arity_number text h, omega arith, few)) e

abbrev pub arity : Reader ℕ
arity = fitting _ (λ n. n ≤ 15) _ arity_is arity_again

-- ---- terms, functions and calls of a report's line

-- ---- terms

held_at : (names : Texts) (atom : ℕ) → atom < length names → IsSome (slice_get names atom)
held_at names atom h = is_some_at (slice_get names atom) _ (slice_get-get_or names atom [] h)

-- what a term's text is read as
pub record IsTextBack (names : Texts) (p : PlainTerm) : Type 0 where
  pub is_text : is_term_text (plain_text names p) ≡ true
  pub short : is_short_text (plain_text names p) ≡ true
  pub value : term_in names (plain_text names p) ≡ p
  pub bytes : list_all is_term_byte (plain_text names p) ≡ true

at_most : (n : ℕ) → n ≤ 64 → nat_le n 64 ≡ true
at_most n h = grind (arith, nat_tests)

module _ (names : Texts) (p : PlainTerm) where
  term_held : IsTermOf names p → IsTerm names (term_of p)
  term_held h =
      subst (EachLeaf IsTermInteger (λ atom. IsSome (slice_get names atom))) (sym (plain-term_of p))
      (EachLeaf-weaker IsTermInteger IsTermInteger (λ atom. atom < length names) (λ atom. IsSome (slice_get names atom)) (λ z k. k) (held_at names) p h.leaves)

  pub text_of_it : term_text names (term_of p) ≡ plain_text names p
  text_of_it = ap (plain_text names) (plain-term_of p)

  pub text_back : IsNames names → IsTermOf names p → IsTextBack names p
  text_back sound h =
      let it = printed_is names (term_of p) sound (term_held h) in
      let same = text_of_it in
      let back = plain-term_of p in
      let is_text : is_term_text (plain_text names p) ≡ true = ap is_term_text (sym same) ∙ it.is_text in
      let narrow : is_wide_text (plain_text names p) ≡ false = ap is_wide_text (sym same) ∙ it.narrow in
      let words : text_words (plain_text names p) ≡ term_words p = ap text_words (sym same) ∙ it.words ∙ ap term_words back in
      record {
        is_text = is_text;
        short = and_from _ _ is_text (and_from _ _ (ap not narrow) (ap (λ (n : ℕ). nat_le n 64) words ∙ at_most (term_words p) h.short));
        value = ap (term_in names) (sym same) ∙ it.value ∙ back;
        bytes = ap (list_all is_term_byte) (sym same) ∙ term_bytes-term_text names (term_of p) sound (term_held h);
      }

  -- the text of a term is read as it
  pub plain_again : IsNames names → IsTermOf names p → plain_reading names (plain_text names p) ≡ Some p
  plain_again sound h =
      let back = text_back sound h in
      passed (is_short_text (plain_text names p)) _ None back.short
      ∙ ap (named_term names (plain_text names p)) back.value
      ∙ passed (bytes_eq (plain_text names p) (plain_text names p)) (some p) None (same_bytes (plain_text names p))

pub plain_lacks : (byte : ℕ) (names : Texts) (p : PlainTerm) → IsNames names → is_term_byte byte ≡ false → IsTermOf names p → lacks byte (plain_text names p) ≡ true
plain_lacks byte names p sound apart h = lacks-all is_term_byte byte (plain_text names p) apart (text_back names p sound h).bytes

-- a table has a name
some_names : (names : Texts) → IsNames names → 0 < length names
some_names names sound = omega (arith, length-take 3 names, ap length sound.given)

number_within : (names : Texts) (text : List ℕ) (o : Option ℕ) → IsNames names → number_of names text ≡ o → unwrap_or o 0 < length names
number_within names text None sound e = some_names names sound
number_within names text (Some n) sound e = slice_get_within names n text (slice_get-number_of names text n e)

few_words : (n : ℕ) → nat_le n 64 ≡ true → n ≤ 64
few_words n h = grind (arith, nat_tests)

-- what is read of any short text is a term
read_is_term : (names : Texts) (text : List ℕ) → IsNames names → is_short_text text ≡ true → IsTermOf names (term_in names text)
read_is_term names text sound h =
    let p = and_parts (is_term_text text) _ h in
    let q = and_parts (not (is_wide_text text)) (nat_le (text_words text) 64) p.1 in
    let form = tree_is text p.0 in
    let fits : IntegersFit (tree_of text) = fits_of_none (tree_of text) (none_by _ (sym form.wide ∙ not-true (is_wide_text text) q.0)) in
    let leaves = EachLeaf-weaker (λ t. IsTermInteger (integer_of t)) (λ t. IsTermInteger (integer_of t)) (λ _. Unit {0}) (λ t. number_in names t < length names) (λ t k. k) (λ t k. number_within names t (number_of names t) sound refl) (tree_of text) fits in
    let read : IsTermOf names (map_leaves integer_of (number_in names) (tree_of text)) = record {
      leaves = EachLeaf-map IsTermInteger (λ atom. atom < length names) _ _ (tree_of text) leaves;
      short = let same = term_words-map integer_of (number_in names) (tree_of text) in let words = form.words in let few = few_words (text_words text) q.1 in omega arith;
    } in
    subst (IsTermOf names) (sym (form.value names)) read

-- ---- terms with commas between them

-- the written forms of terms
forms : (names : Texts) → List PlainTerm → List WrittenTerm
forms names [] = []
forms names (p ∷ ps) = tree_of (plain_text names p) ∷ forms names ps

joined-join : (part : List ℕ) (parts : Texts) → joined (part ∷ parts) ≡ join_with_byte 44 (part ∷ parts)
joined-join part [] = append-nil part
joined-join part (next ∷ parts) = ap (λ (t : List ℕ). part ++ 44 ∷ t) (joined-join next parts)

some_row : (names : Texts) (p : PlainTerm) (ps : List PlainTerm) → 0 < row_count (row_of (forms names (p ∷ ps)))
unfolding forms
some_row names p ps = omega arith

module _ (names : Texts) (sound : IsNames names) where
  -- what is read is a term with this text
  pub plain_is : (text : List ℕ) (p : PlainTerm) → plain_reading names text ≡ Some p → IsItem (plain_text names) (IsTermOf names) text p
  plain_is text p e =
      let short = guarded (is_short_text text) (named_term names text (term_in names text)) p e in
      let named = guard_some (bytes_eq (plain_text names (term_in names text)) text) (term_in names text) p short.1 in
      subst (IsItem (plain_text names) (IsTermOf names) text) named.1 (record {
        text_is = sym (bytes_are (plain_text names (term_in names text)) text named.0);
        fits = read_is_term names text sound short.0;
      })

  forms_texts : (ps : List PlainTerm) → AllByRecursion (IsTermOf names) ps → map written (forms names ps) ≡ map (plain_text names) ps
  unfolding forms
  forms_texts [] h = refl
  forms_texts (p ∷ ps) h =
      let form = tree_is (plain_text names p) (text_back names p sound h.0).is_text in
      ap (λ (t : List ℕ). t ∷ map written (forms names ps)) (sym form.is_text.whole) ∙ ap (λ (ts : Texts). plain_text names p ∷ ts) (forms_texts ps h.1)

  forms_leaves : (ps : List PlainTerm) → AllByRecursion (IsTermOf names) ps → RowHasLeafTexts (row_of (forms names ps))
  unfolding forms
  forms_leaves [] h = tt
  forms_leaves (p ∷ ps) h = ((tree_is (plain_text names p) (text_back names p sound h.0).is_text).is_text.leaves, forms_leaves ps h.1)

  -- terms have their texts for parts
  terms_parted : (p : PlainTerm) (ps : List PlainTerm) → AllByRecursion (IsTermOf names) (p ∷ ps) → parts_of_terms (join_with_byte 44 (map (plain_text names) (p ∷ ps))) ≡ map (plain_text names) (p ∷ ps)
  terms_parted p ps h =
      let fs = forms names (p ∷ ps) in
      let texts = forms_texts (p ∷ ps) h in
      let whole : parted (row_of fs) ≡ join_with_byte 44 (map (plain_text names) (p ∷ ps)) = sym (joined_written fs) ∙ ap joined texts ∙ joined-join (plain_text names p) (map (plain_text names) ps) in
      ap parts_of_terms (sym whole) ∙ parts_of_parted (row_of fs) (forms_leaves (p ∷ ps) h) (some_row names p ps) ∙ ap (map written) (terms_of-row_of fs) ∙ texts

-- the text of arguments
abbrev pub terms_text : Texts → List PlainTerm → List ℕ
terms_text names ps = join_with_byte 44 (map (plain_text names) ps)

some_terms_at : (names : Texts) (text : List ℕ) (c : ℕ) (rest : List ℕ) (o : Option (List PlainTerm)) → text ≡ c ∷ rest → some_terms names text ≡ o → terms_reading names text ≡ o
some_terms_at names text c rest o e h = ap (terms_reading names) e ∙ ap (some_terms names) (sym e) ∙ h

-- a text that is not empty has a first byte
nonempty_by : {P : Type 0} (text : List ℕ) → 0 < length text → ((c : ℕ) (rest : List ℕ) → text ≡ c ∷ rest → P) → P
nonempty_by [] h k = absurd (omega arith)
nonempty_by (c ∷ rest) h k = k c rest refl

join_nonempty : (part : List ℕ) (parts : Texts) → 0 < length part → 0 < length (join_with_byte 44 (part ∷ parts))
join_nonempty [] [] h = h
join_nonempty (c ∷ part) [] h = h
join_nonempty [] (next ∷ parts) h = absurd (omega arith)
join_nonempty (c ∷ part) (next ∷ parts) h = omega arith

few_at : (n : ℕ) → n ≤ 15 → nat_le n 15 ≡ true
few_at n h = grind (arith, nat_tests)

-- at most 15 terms
abbrev pub AreFewTerms : Texts → List PlainTerm → Type 0
AreFewTerms names ps = (length ps ≤ 15) × AllByRecursion (IsTermOf names) ps

joined_texts : (names : Texts) (text : List ℕ) (ps : List PlainTerm) → parts_of_terms text ≡ map (plain_text names) ps → text ≡ terms_text names ps
joined_texts names text [] e = sym (joined_parts_of_terms text) ∙ ap joined e
joined_texts names text (p ∷ ps) e = sym (joined_parts_of_terms text) ∙ ap joined e ∙ joined-join (plain_text names p) (map (plain_text names) ps)

pub few_is : (n : ℕ) → nat_le n 15 ≡ true → n ≤ 15
few_is n h = grind (arith, nat_tests)

pub terms_lack : (byte : ℕ) (names : Texts) (ps : List PlainTerm) → IsNames names → is_term_byte byte ≡ false → (44 == byte) ≡ false → AllByRecursion (IsTermOf names) ps → lacks byte (terms_text names ps) ≡ true
terms_lack byte names ps sound apart comma h = joined_lacks (plain_text names) (IsTermOf names) 44 byte comma (λ p k. plain_lacks byte names p sound apart k) ps h

module _ (names : Texts) (sound : IsNames names) where
  -- the text of arguments is read as them
  pub terms_again : (ps : List PlainTerm) → AreFewTerms names ps → terms_reading names (terms_text names ps) ≡ Some ps
  terms_again [] h = refl
  terms_again (p ∷ ps) h =
      let text = terms_text names (p ∷ ps) in
      let parts = terms_parted names sound p ps h.1 in
      let count : length (parts_of_terms text) ≡ length (p ∷ ps) = ap length parts ∙ length-map (p ∷ ps) (plain_text names) in
      let read : some_terms names text ≡ Some (p ∷ ps) = passed (nat_le (length (parts_of_terms text)) 15) _ None (few_at (length (parts_of_terms text)) (omega (arith, h.0)))
      ∙ ap (each_reading (plain_reading names)) parts ∙ each_again (plain_text names) (plain_reading names) (IsTermOf names) (λ q k. plain_again names q sound k) (p ∷ ps) h.1 in
      nonempty_by text (join_nonempty (plain_text names p) (map (plain_text names) ps) (nonempty-is_term_text (plain_text names p) (text_back names p sound h.1.0).is_text)) (λ c rest e. some_terms_at names text c rest (some (p ∷ ps)) e read)

  some_terms_are : (text : List ℕ) (ps : List PlainTerm) → some_terms names text ≡ Some ps → IsItem (terms_text names) (AreFewTerms names) text ps
  some_terms_are text ps e =
      let g = guarded (nat_le (length (parts_of_terms text)) 15) (each_reading (plain_reading names) (parts_of_terms text)) ps e in
      let is = each_is (plain_text names) (plain_reading names) (IsTermOf names) (plain_is names sound) (parts_of_terms text) ps g.1 in
      let count = each_count (plain_reading names) (parts_of_terms text) ps g.1 in
      record { text_is = joined_texts names text ps is.texts; fits = (omega (arith, few_is (length (parts_of_terms text)) g.0), is.fit) }

  -- what is read are terms with this text
  pub terms_are : (text : List ℕ) (ps : List PlainTerm) → terms_reading names text ≡ Some ps → IsItem (terms_text names) (AreFewTerms names) text ps
  terms_are [] ps e = subst (IsItem (terms_text names) (AreFewTerms names) []) (some_is [] ps e) (record { text_is = refl; fits = (omega arith, tt) })
  terms_are (c ∷ text) ps e = some_terms_are (c ∷ text) ps e

  -- ---- readers

  abbrev pub term : Reader PlainTerm
  term = fitting _ (IsTermOf names) _ (plain_is names sound) (λ p h. plain_again names p sound h)

  -- arguments in front of a bracket
  abbrev pub arguments : Reader (List PlainTerm)
  arguments = closed 41 (fitting (terms_text names) (AreFewTerms names) (terms_reading names) terms_are terms_again) (λ ps h. terms_lack 41 names ps sound refl refl h.1)

pub grouped : (a : List ℕ) (c : ℕ) (b : List ℕ) (d : ℕ) (e : List ℕ) → (a ++ c ∷ b) ++ d ∷ e ≡ a ++ c ∷ (b ++ d ∷ e)
grouped a c b d e = append_assoc a (c ∷ b) (d ∷ e)

-- two names with a byte between them, and what stands behind another byte
abbrev pub named : {A : Type 0} (names : Texts) → IsNames names → (byte : ℕ) → is_name_byte byte ≡ false → Reader A → Reader (AtomId × (AtomId × A))
named names sound byte apart r = pair 58 (atom names sound) (pair byte (atom names sound) r (λ a h. named_lacks byte names a sound apart h)) (λ a h. named_lacks 58 names a sound refl h)

abbrev pub function : (names : Texts) → IsNames names → Reader Mfa
function names sound = made (named names sound 47 refl arity) (λ p. record { «module» = p.0; name = p.1.0; arity = p.1.1 }) (λ to. (to.«module», (to.name, to.arity))) (mfa_text names) (IsFunctionOf names)
    (λ to. grouped (atom_text names to.«module».0) 58 (atom_text names to.name.0) 47 (decimal to.arity)) (λ p h. refl) (λ to h. refl)
    (λ p h. record { module_named = h.0; name_named = h.1.0; few = h.1.1 }) (λ to h. (h.module_named, (h.name_named, h.few)))

pub function_lacks : (byte : ℕ) (names : Texts) (to : Mfa) → IsNames names → is_name_byte byte ≡ false → (58 == byte) ≡ false → (47 == byte) ≡ false → IsFunctionOf names to → lacks byte (mfa_text names to) ≡ true
function_lacks byte names to sound apart colon slash h =
    lacks-append byte (atom_text names to.«module».0 ++ 58 ∷ atom_text names to.name.0) (47 ∷ decimal to.arity)
    (lacks-append byte (atom_text names to.«module».0) (58 ∷ atom_text names to.name.0) (named_lacks byte names to.«module» sound apart h.module_named) (lacks-cons byte 58 (atom_text names to.name.0) colon (named_lacks byte names to.name sound apart h.name_named)))
    (lacks-cons byte 47 (decimal to.arity) slash (decimal_lacks byte to.arity (digit_apart byte apart) (omega (arith, h.few))))

-- the call of a function with arguments
abbrev pub call_of : Mfa → List PlainTerm → Call
call_of to args = record { target = to; args = args }

abbrev pub made_call : AtomId × (AtomId × List PlainTerm) → Call
made_call p = call_of (record { «module» = p.0; name = p.1.0; arity = length p.1.1 }) p.1.1

pub call_grouped : (names : Texts) (c : Call) → call_text names c.target c.args ≡ atom_text names c.target.«module».0 ++ 58 ∷ (atom_text names c.target.name.0 ++ 40 ∷ (terms_text names c.args ++ 41 ∷ []))
call_grouped names c = simp append_assoc

pub made_is_call : (c : Call) → length c.args ≡ c.target.arity → made_call (c.target.«module», (c.target.name, c.args)) ≡ c
made_is_call c e = ap (λ (n : ℕ). call_of (record { «module» = c.target.«module»; name = c.target.name; arity = n }) c.args) e

abbrev pub IsCall : Texts → Call → Type 0
IsCall names c = IsCallOf names c.target c.args

pub few_arguments : (names : Texts) (c : Call) → IsCall names c → length c.args ≤ 15
few_arguments names c h = omega (arith, h.arity_is, h.function.few)

abbrev pub call : (names : Texts) → IsNames names → Reader Call
call names sound = made (named names sound 40 refl (arguments names sound)) made_call (λ c. (c.target.«module», (c.target.name, c.args))) (λ c. call_text names c.target c.args) (IsCall names)
    (call_grouped names) (λ p h. refl) (λ c h. made_is_call c h.arity_is)
    (λ p h. record { function = record { module_named = h.0; name_named = h.1.0; few = h.1.1.0 }; arity_is = refl; each = h.1.1.1 })
    (λ c h. (h.function.module_named, (h.function.name_named, (few_arguments names c h, h.each))))
