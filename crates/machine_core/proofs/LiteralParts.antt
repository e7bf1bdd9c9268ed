-- The parts of a literal, and what a key holds, as values.
use Rattle.std.proofs.Common.{◌≡◌, ◌<◌, ◌≤◌, ◌+◌, ◌∙◌, ℕ, zero, suc, refl, sym, ap, subst, arith, Bool, true, false, ℤ, pos, negsuc, List, ◌++◌, length, drop, get_or, slice_get, slice_index, Option, Some, None, option_map, unwrap_or, if◌then◌else◌, inl, inr, cond}
use Rattle.std.proofs.lemmas.List.{drop-drop}
use Rattle.std.proofs.lemmas.Option.{slice_get-get_or, slice_get_past}
use Rattle.std.proofs.Common.{◌⊎◌, Result, Ok, Err, IfOk}
use Rattle.term_core.specs.declared.no_memory.NoMemory.{NoMemory}
use Rattle.term_core.specs.declared.term.Term.{Term}
use Rattle.term_core.specs.declared.term.Term.TheVariants.{Tuple, List as ListOf}
use Rattle.term_core.specs.declared.hold.Kind.TheVariants.{Literal as for_literals}
use Rattle.term_core.specs.Image.{IsImageAt, images_len, is_immediate, low_bits, parts_of_word, row_image, term_at, term_of_word}
use Rattle.term_core.specs.Plain.{plain, term_of}
use Rattle.term_core.specs.PlainTerm.{RowOf, PlainTerm, integer_leaf, atom_leaf, tuple_of, list_of, no_terms, term_then, row_count, term_words, terms_of}
use Rattle.term_core.proofs.ImagePlaces.{first_word, first_word-at, first_word-parts, part_at, part_count, row_in, term_at-is, term_of_word-first_word}
use Rattle.term_core.proofs.ImageTerms.{some_words}
use Rattle.term_core.proofs.PlainTerms.{plain-term_of}
use Rattle.machine_core.specs.declared.process.LitRef.{LitRef}
use Rattle.machine_core.specs.declared.process.Value.{Value}
use Rattle.machine_core.specs.declared.process.Value.TheVariants.{Owned, Literal}
use Rattle.machine_core.specs.Holds.{Holds}
use Rattle.machine_core.specs.Process.{PlainValue, literal, owned, value_shown}
use Rattle.machine_core.specs.Stand.{AreImages, IsUsable, images_end, is_immediate_word, place_number}
use Rattle.machine_core.specs.Values.{element_at, element_of, integer_of, part_value, parts_of, term_of as value_term, value_in}
use Rattle.machine_core.specs.View.{IsLiteral, IsReadable, Shown}
use Rattle.machine_core.proofs.LiteralPlaces.{part_within}
use Rattle.machine_core.proofs.OwnedTerms.{term_of-plain}
use Rattle.machine_core.specs.Reach.{MayHold}
use Rattle.machine_core.proofs.Decoding.{tag_of}

-- ---- elements by their place

element_by : (ts : List PlainTerm) (o : Option ℤ) (place : ℕ) → place_number o ≡ Some place → element_at ts o ≡ slice_get ts place
element_by ts (Some (pos (suc n))) place e = let k : n ≡ place = cc in ap (slice_get ts) k
element_by ts (Some (pos zero)) place e = absurd (cc)
element_by ts (Some (negsuc n)) place e = absurd (cc)
element_by ts None place e = absurd (cc)

-- the element of a value is the part at its place
pub element_placed : (index : Term) (value : PlainValue) (place : ℕ) → place_number (integer_of index) ≡ Some place → element_of index value ≡ option_map (part_value value) (slice_get (parts_of (value_term value)) place)
element_placed index value place e = ap (option_map (part_value value)) (element_by (parts_of (value_term value)) (integer_of index) place e)

-- ---- parts of a literal

-- the first word tells an integer and an atom from the others
pub immediate_first : (t : PlainTerm) → is_immediate_word (first_word t) ≡ is_immediate t
immediate_first (integer_leaf z) = rw (tag_of (low_bits z) 1 (omega arith)) refl
immediate_first (atom_leaf a) = rw (tag_of a 2 (omega arith)) refl
immediate_first (tuple_of row) = rw (tag_of (row_count row) 3 (omega arith)) refl
immediate_first (list_of row) = rw (tag_of (row_count row) 4 (omega arith)) refl

parts_row : (t : PlainTerm) → parts_of (term_of t) ≡ terms_of (row_in t)
parts_row (integer_leaf z) = refl
parts_row (atom_leaf a) = refl
parts_row (tuple_of row) = refl
parts_row (list_of row) = refl

count_row : (t : PlainTerm) → part_count t ≡ row_count (row_in t)
count_row (integer_leaf z) = refl
count_row (atom_leaf a) = refl
count_row (tuple_of row) = refl
count_row (list_of row) = refl

terms_len : (row : RowOf ℤ ℕ) → length (terms_of row) ≡ row_count row
terms_len no_terms = refl
terms_len (term_then t row) = omega (arith, terms_len row)

-- the words of a part are among those behind the first
part_ends : (words : List ℕ) (at : ℕ) (t : PlainTerm) (place : ℕ) (u : PlainTerm) (skip : ℕ) → IsImageAt words at t → slice_get (terms_of (row_in t)) place ≡ Some u → images_len place (drop (at + 1) words) ≡ Some skip →
    1 + skip + term_words u ≤ term_words t
part_ends words at (integer_leaf z) place u skip h found len = absurd (cc)
part_ends words at (atom_leaf a) place u skip h found len = absurd (cc)
part_ends words at (tuple_of row) place u skip h found len =
    let rest : drop (at + 1) words ≡ row_image row ++ h.rest = sym (drop-drop 1 at words) ∙ ap (λ ws. drop 1 ws) h.whole in
    omega (arith, part_within row h.rest place u skip found (ap (images_len place) (sym rest) ∙ len))
part_ends words at (list_of row) place u skip h found len =
    let rest : drop (at + 1) words ≡ row_image row ++ h.rest = sym (drop-drop 1 at words) ∙ ap (λ ws. drop 1 ws) h.whole in
    omega (arith, part_within row h.rest place u skip found (ap (images_len place) (sym rest) ∙ len))

-- a part of a literal: the literal that stands for it, behind the parts before it
pub record IsPartOf (shown : Shown) (at : LitRef) (place : ℕ) : Type 0 where
  pub skip : ℕ
  pub images : AreImages shown at.area.serial (at.at + 1) place
  pub end : images_end (shown.words at.area.serial) (at.at + 1) place ≡ at.at + 1 + skip
  pub part : IsLiteral shown (record { area = at.area; at = at.at + 1 + skip })
  pub found : slice_get (parts_of (term_of (term_at (shown.words at.area.serial) at.at))) place ≡ Some part.term

part_stands : (shown : Shown) (at : LitRef) (h : IsLiteral shown at) (place : ℕ) (u : PlainTerm) → slice_get (terms_of (row_in h.term)) place ≡ Some u → IsPartOf shown at place
part_stands shown at h place u found =
    let words = shown.words at.area.serial in
    let p = part_at words at.at h.term place u h.image found in
    let ends = part_ends words at.at h.term place u p.skip h.image found p.behind in
    record {
      skip = p.skip;
      images = record { len = p.skip; is = p.behind; readable = λ i l. subst (IsReadable shown at.area.serial) (omega arith) (h.readable (1 + i) (omega arith)) };
      end = ap (λ o. at.at + 1 + unwrap_or o 0) p.behind;
      part = record { stands = h.stands; term = u; image = p.stands; readable = λ i l. subst (IsReadable shown at.area.serial) (omega arith) (h.readable (1 + p.skip + i) (omega arith)) };
      found = ap (λ t. slice_get (parts_of (term_of t)) place) (term_at-is words at.at h.term h.image) ∙ ap (λ ts. slice_get ts place) (parts_row h.term) ∙ found;
    }

-- as many parts as its first word counts
parts_len : (shown : Shown) (at : LitRef) (h : IsLiteral shown at) (word : ℕ) → word ≡ slice_index (shown.words at.area.serial) at.at → parts_of_word word ≡ length (terms_of (row_in h.term))
parts_len shown at h word e =
    ap parts_of_word (e ∙ first_word-at (shown.words at.area.serial) at.at h.term h.image) ∙ first_word-parts h.term ∙ count_row h.term ∙ sym (terms_len (row_in h.term))

pub part_of_literal : (shown : Shown) (at : LitRef) (h : IsLiteral shown at) (place word parts : ℕ) → word ≡ slice_index (shown.words at.area.serial) at.at → parts ≡ parts_of_word word → place < parts → IsPartOf shown at place
part_of_literal shown at h place word parts e p less =
    let len = parts_len shown at h word e in
    part_stands shown at h place (get_or (terms_of (row_in h.term)) place (integer_leaf (pos 0))) (slice_get-get_or (terms_of (row_in h.term)) place (integer_leaf (pos 0)) (omega (arith, len)))

pub no_part : (shown : Shown) (at : LitRef) (h : IsLiteral shown at) (place word parts : ℕ) → word ≡ slice_index (shown.words at.area.serial) at.at → parts ≡ parts_of_word word → parts ≤ place →
    slice_get (parts_of (term_of (term_at (shown.words at.area.serial) at.at))) place ≡ None
no_part shown at h place word parts e p past =
    ap (λ t. slice_get (parts_of (term_of t)) place) (term_at-is (shown.words at.area.serial) at.at h.term h.image) ∙ ap (λ ts. slice_get ts place) (parts_row h.term)
    ∙ slice_get_past (terms_of (row_in h.term)) place (omega (arith, parts_len shown at h word e))

-- the first word of a literal may be asked for
pub first_readable : (shown : Shown) (at : LitRef) → IsLiteral shown at → IsReadable shown at.area.serial at.at
first_readable shown at h = subst (IsReadable shown at.area.serial) (omega arith) (h.readable 0 (omega (arith, some_words h.term)))

-- the value of a literal by its first word
record IsPartValue (shown : Shown) (held : Holds) (at : LitRef) (t : PlainTerm) (value : Value) : Type 0 where
  shows : value_shown shown.words value ≡ value_in at.area.serial (term_of t)
  usable : IsUsable shown held value

value_by : (shown : Shown) (held : Holds) (at : LitRef) (h : IsLiteral shown at) (first : ℕ) (b : Bool) → MayHold shown.reads held at.area.serial for_literals → first ≡ first_word h.term → is_immediate h.term ≡ b →
    IsPartValue shown held at h.term (if b then Owned (term_of_word first) else Literal at)
value_by shown held at h first true may e is = record {
  shows =
      ap owned (ap term_of_word e ∙ term_of_word-first_word h.term is h.image.fits)
      ∙ ap (λ b. cond b (owned (term_of h.term)) (literal at.area.serial (term_of h.term))) (sym (ap is_immediate (plain-term_of h.term) ∙ is));
  usable = tt;
}
value_by shown held at h first false may e is = record {
  shows =
      ap (λ t. literal at.area.serial (term_of t)) (term_at-is (shown.words at.area.serial) at.at h.term h.image)
      ∙ ap (λ b. cond b (owned (term_of h.term)) (literal at.area.serial (term_of h.term))) (sym (ap is_immediate (plain-term_of h.term) ∙ is));
  usable = (h, may);
}

literal_value : (shown : Shown) (held : Holds) (at : LitRef) (h : IsLiteral shown at) (first : ℕ) (value : Value) → MayHold shown.reads held at.area.serial for_literals → first ≡ slice_index (shown.words at.area.serial) at.at →
    value ≡ (if is_immediate_word first then Owned (term_of_word first) else Literal at) → IsPartValue shown held at h.term value
literal_value shown held at h first value may e v =
    let word = e ∙ first_word-at (shown.words at.area.serial) at.at h.term h.image in
    let test : is_immediate_word first ≡ is_immediate h.term = ap is_immediate_word word ∙ immediate_first h.term in
    subst (IsPartValue shown held at h.term) (sym (v ∙ ap (λ b. if b then Owned (term_of_word first) else Literal at) test)) (value_by shown held at h first (is_immediate h.term) may word refl)

-- so a part of a literal is the part that its value has
pub part_shows : (shown : Shown) (held : Holds) (at : LitRef) (place at_part first : ℕ) (value : Value) (p : IsPartOf shown at place) → MayHold shown.reads held at.area.serial for_literals → at_part ≡ at.at + 1 + p.skip →
    first ≡ slice_index (shown.words at.area.serial) at_part → value ≡ (if is_immediate_word first then Owned (term_of_word first) else Literal (record { area = at.area; at = at_part })) →
    (option_map (value_shown shown.words) (Some value) ≡ option_map (part_value (value_shown shown.words (Literal at))) (slice_get (parts_of (term_of (term_at (shown.words at.area.serial) at.at))) place))
    × IsUsable shown held value
part_shows shown held at place at_part first value p may here e v =
    let word = e ∙ ap (slice_index (shown.words at.area.serial)) here in
    let is = v ∙ ap (λ k. if is_immediate_word first then Owned (term_of_word first) else Literal (record { area = at.area; at = k })) here in
    let one = literal_value shown held (record { area = at.area; at = at.at + 1 + p.skip }) p.part first value may word is in
    (ap Some one.shows ∙ ap (option_map (part_value (value_shown shown.words (Literal at)))) (sym p.found), one.usable)

-- ---- parts of a term of the process's own

pub owned_found : (words : ℕ → List ℕ) (term part copy : Term) (place : ℕ) → copy ≡ part → Some (plain part) ≡ slice_get (parts_of term) place →
    option_map (value_shown words) (Some (Owned copy)) ≡ option_map (part_value (owned term)) (slice_get (parts_of term) place)
owned_found words term part copy place e found =
    ap (λ t. Some (owned t)) (e ∙ sym (term_of-plain part)) ∙ ap (option_map (part_value (owned term))) found

-- the same of an answer that may want memory, where the number has that place
pub owned_element : (r : Result (Option Value) NoMemory) (words : ℕ → List ℕ) (index : Term) (from : Value) (term : Term) (place : ℕ) → from ≡ Owned term → Some place ≡ place_number (integer_of index) →
    IfOk r (λ found. option_map (value_shown words) found ≡ option_map (part_value (owned term)) (slice_get (parts_of term) place)) →
    IfOk r (λ found. option_map (value_shown words) found ≡ element_of index (value_shown words from))
owned_element (Ok found) words index from term place e p h =
    h ∙ sym (element_placed index (owned term) place (sym p)) ∙ ap (λ v. element_of index (value_shown words v)) (sym e)
owned_element (Err refused) words index from term place e p h = tt

-- the terms of a tuple or a list are its parts
pub parts_either : (term : Term) (terms : List PlainTerm) → (term ≡ Tuple terms) ⊎ (term ≡ ListOf terms) → terms ≡ parts_of term
parts_either term terms (inl e) = sym (ap parts_of e)
parts_either term terms (inr e) = sym (ap parts_of e)
