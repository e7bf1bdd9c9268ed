-- The place of the leftmost integer that is no term, in a text and in its written term.
use Rattle.std.proofs.Common.{◌≡◌, ℕ, ◌+◌, Bool, true, false, cond, not, ◌&&◌, List, [], ◌∷◌, ◌++◌, length, Option, None, Some, refl, sym, ap, ◌∙◌, arith, length-append}
use Rattle.std.specs.List.{list_all}
use Rattle.std.proofs.lemmas.List.{append_assoc, append-nil}
use Rattle.term_core.specs.declared.byte_kind.Bracket.{Bracket}
use Rattle.term_core.specs.declared.byte_kind.Bracket.TheVariants.{Curly, Square}
use Rattle.term_core.specs.declared.byte_kind.ByteKind.{ByteKind}
use Rattle.term_core.specs.declared.byte_kind.ByteKind.TheVariants.{Open, Close, Comma}
use Rattle.term_core.specs.Bytes.{kind_of, is_leaf_kind, leaf_front}
use Rattle.term_core.specs.PlainTerm.{TermOf, RowOf, integer_leaf, atom_leaf, tuple_of, list_of, no_terms, term_then}
use Rattle.term_core.specs.Tokens.{begins, is_outside, outside_at}
use Rattle.term_core.specs.Written.{WrittenTerm, written, parted, behind, is_integer_text, integer_of, is_term_integer, HasLeafTexts, place_or, outside_of, outside_in}
use Rattle.term_core.proofs.ByteKinds.{closing}
use Rattle.term_core.proofs.Lefts.{place_or-twice}
use Rattle.term_core.proofs.LeafTexts.{is_leaf_byte, LeafText, IsDelimited, LeafText-integer, LeafText-atom, front_text}
use Rattle.term_core.proofs.Shapes.{no_integer_text}
use Rattle.term_core.proofs.WrittenTokens.{RowHasLeafTexts, delimited_behind}
use Rattle.std.proofs.lemmas.Bool.{and_parts}

-- inside of a leaf no integer begins
inside_none : (kind : ByteKind) → (b : Bool) → (begins true kind && b) ≡ false
inside_none (Open c) b = refl
inside_none kind b = refl

-- nor with a byte between terms
between_none : (kind : ByteKind) → is_leaf_kind kind ≡ false → (b : Bool) → (begins false kind && b) ≡ false
between_none (Open c) h b = refl
between_none (Close c) h b = refl
between_none Comma h b = refl
between_none kind h b = cc

-- with a byte of a leaf one begins where the leaf is outside
leaf_begins : (kind : ByteKind) → is_leaf_kind kind ≡ true → (b : Bool) → (begins false kind && b) ≡ b
leaf_begins (Open c) h b = cc
leaf_begins (Close c) h b = cc
leaf_begins Comma h b = cc
leaf_begins kind h b = refl

-- one byte further
step_none : (inside : Bool) (c : ℕ) (rest : List ℕ) → (begins inside (kind_of c) && is_outside (leaf_front (c ∷ rest))) ≡ false → outside_at inside (c ∷ rest) ≡ place_or None 1 (outside_at (is_leaf_byte c) rest)
step_none inside c rest h = ap (λ b. cond b (Some 0) (place_or None 1 (outside_at (is_leaf_byte c) rest))) h

-- behind a leaf it makes no difference
outside_delimited : (rest : List ℕ) → IsDelimited rest → outside_at true rest ≡ outside_at false rest
outside_delimited [] d = refl
outside_delimited (c ∷ rest) d =
    step_none true c rest (inside_none (kind_of c) (is_outside (leaf_front (c ∷ rest)))) ∙ sym (step_none false c rest (between_none (kind_of c) d (is_outside (leaf_front (c ∷ rest)))))

-- no shift is none
shift_none : (o : Option ℕ) → o ≡ place_or None 0 o
shift_none None = refl
shift_none (Some i) = ap Some (omega arith)

-- inside of a leaf there is none
outside_inside : (text rest : List ℕ) → list_all is_leaf_byte text ≡ true → IsDelimited rest → outside_at true (text ++ rest) ≡ place_or None (length text) (outside_at false rest)
outside_inside [] rest h d = outside_delimited rest d ∙ shift_none (outside_at false rest)
outside_inside (c ∷ text) rest h d =
    let parts = and_parts (is_leaf_byte c) (list_all is_leaf_byte text) h in
    step_none true c (text ++ rest) (inside_none (kind_of c) (is_outside (leaf_front (c ∷ (text ++ rest)))))
    ∙ ap (λ b. place_or None 1 (outside_at b (text ++ rest))) parts.0 ∙ ap (place_or None 1) (outside_inside text rest parts.1 d)
    ∙ place_or-twice 1 (length text) (outside_at false rest) ∙ ap (λ n. place_or None n (outside_at false rest)) (omega arith)

-- by whether the leaf is outside
leaf_choice : (b : Bool) (n : ℕ) (later : Option ℕ) → cond b (Some 0) (place_or None n later) ≡ place_or (cond b (Some 0) None) n later
leaf_choice true n later = refl
leaf_choice false n later = refl

-- a leaf is at its own place
outside_leaf : (text rest : List ℕ) → LeafText text → IsDelimited rest → outside_at false (text ++ rest) ≡ place_or (cond (is_outside text) (Some 0) None) (length text) (outside_at false rest)
outside_leaf [] rest h d = absurd (omega (arith, h.some))
outside_leaf (c ∷ text) rest h d =
    let parts = and_parts (is_leaf_byte c) (list_all is_leaf_byte text) h.bytes in
    ap (λ b. cond b (Some 0) (place_or None 1 (outside_at (is_leaf_byte c) (text ++ rest))))
    (leaf_begins (kind_of c) parts.0 (is_outside (leaf_front (c ∷ (text ++ rest)))) ∙ ap is_outside (front_text (c ∷ text) rest h.bytes d))
    ∙ ap (λ b. cond (is_outside (c ∷ text)) (Some 0) (place_or None 1 (outside_at b (text ++ rest)))) parts.0
    ∙ ap (λ o. cond (is_outside (c ∷ text)) (Some 0) (place_or None 1 o)) (outside_inside text rest parts.1 d)
    ∙ ap (λ o. cond (is_outside (c ∷ text)) (Some 0) o) (place_or-twice 1 (length text) (outside_at false rest))
    ∙ ap (λ n. cond (is_outside (c ∷ text)) (Some 0) (place_or None n (outside_at false rest))) (omega arith)
    ∙ leaf_choice (is_outside (c ∷ text)) (length (c ∷ text)) (outside_at false rest)

-- the same of an integer's text
integer_choice : (i b : Bool) → i ≡ true → cond {A = Option ℕ} (i && not b) (Some 0) None ≡ cond {A = Option ℕ} b None (Some 0)
integer_choice true true h = refl
integer_choice true false h = refl
integer_choice false b h = cc

-- behind the brackets
shut_in : (o later : Option ℕ) (n m : ℕ) → m ≡ 1 + n → place_or None 1 (place_or o n later) ≡ place_or (place_or None 1 o) m later
shut_in None (Some i) n m e = ap Some (omega (arith, e))
shut_in o later n m e = refl

-- a term, and those behind it
row_places : (front row later : Option ℕ) (n k m : ℕ) → m ≡ n + k → place_or front n (place_or (place_or None 1 row) k later) ≡ place_or (place_or front (n + 1) row) m later
row_places None (Some i) later n k m e = ap Some (omega arith)
row_places None None (Some i) n k m e = ap Some (omega (arith, e))
row_places front row later n k m e = refl

-- a closing bracket stands at no integer
outside_closing : (b : Bracket) (rest : List ℕ) → outside_at false (closing b ∷ rest) ≡ place_or None 1 (outside_at false rest)
outside_closing Curly rest = refl
outside_closing Square rest = refl

-- the place in a text is that in its written term
mutual
  pub outside_written : (t : TermOf (List ℕ) (List ℕ)) → HasLeafTexts t → (rest : List ℕ) → IsDelimited rest → outside_at false (written t ++ rest) ≡ place_or (outside_of t) (length (written t)) (outside_at false rest)
  outside_written (integer_leaf text) h rest d =
      outside_leaf text rest (LeafText-integer text h) d ∙ ap (λ o. place_or o (length text) (outside_at false rest)) (integer_choice (is_integer_text text) (is_term_integer (integer_of text)) h)
  outside_written (atom_leaf text) h rest d =
      outside_leaf text rest (LeafText-atom text h) d ∙ ap (λ b. place_or (cond (b && not (is_term_integer (integer_of text))) (Some 0) None) (length text) (outside_at false rest)) (no_integer_text text h)
  outside_written (tuple_of row) h rest d =
      ap (λ r. place_or None 1 (outside_at false r)) (append_assoc (parted row) (125 ∷ []) rest) ∙ ap (place_or None 1) (outside_parted row h Curly rest)
      ∙ shut_in (outside_in row) (outside_at false rest) (length (parted row) + 1) (length (written (tuple_of row))) (omega (arith, length-append (parted row) (125 ∷ [])))
  outside_written (list_of row) h rest d =
      ap (λ r. place_or None 1 (outside_at false r)) (append_assoc (parted row) (93 ∷ []) rest) ∙ ap (place_or None 1) (outside_parted row h Square rest)
      ∙ shut_in (outside_in row) (outside_at false rest) (length (parted row) + 1) (length (written (list_of row))) (omega (arith, length-append (parted row) (93 ∷ [])))

  -- the same of a row and its closing bracket
  outside_parted : (row : RowOf (List ℕ) (List ℕ)) → RowHasLeafTexts row → (b : Bracket) (rest : List ℕ) → outside_at false (parted row ++ closing b ∷ rest) ≡ place_or (outside_in row) (length (parted row) + 1) (outside_at false rest)
  outside_parted no_terms h b rest = outside_closing b rest
  outside_parted (term_then t row) h b rest =
      ap (outside_at false) (append_assoc (written t) (behind row) (closing b ∷ rest)) ∙ outside_written t h.0 (behind row ++ closing b ∷ rest) (delimited_behind row b rest)
      ∙ ap (place_or (outside_of t) (length (written t))) (outside_behind row h.1 b rest)
      ∙ row_places (outside_of t) (outside_in row) (outside_at false rest) (length (written t)) (length (behind row) + 1) (length (parted (term_then t row)) + 1) (omega (arith, length-append (written t) (behind row)))

  -- and of a row behind a term
  outside_behind : (row : RowOf (List ℕ) (List ℕ)) → RowHasLeafTexts row → (b : Bracket) (rest : List ℕ) → outside_at false (behind row ++ closing b ∷ rest) ≡ place_or (place_or None 1 (outside_in row)) (length (behind row) + 1) (outside_at false rest)
  outside_behind no_terms h b rest = outside_closing b rest
  outside_behind (term_then t row) h b rest =
      ap (λ r. place_or None 1 (outside_at false r)) (append_assoc (written t) (behind row) (closing b ∷ rest))
      ∙ ap (place_or None 1) (outside_written t h.0 (behind row ++ closing b ∷ rest) (delimited_behind row b rest))
      ∙ ap (λ o. place_or None 1 (place_or (outside_of t) (length (written t)) o)) (outside_behind row h.1 b rest)
      ∙ ap (place_or None 1) (row_places (outside_of t) (outside_in row) (outside_at false rest) (length (written t)) (length (behind row) + 1) (length (written t) + (length (behind row) + 1)) refl)
      ∙ shut_in (outside_in (term_then t row)) (outside_at false rest) (length (written t) + (length (behind row) + 1)) (length (behind (term_then t row)) + 1) (omega (arith, length-append (written t) (behind row)))

-- of a whole text
alone : (o : Option ℕ) (n : ℕ) → place_or o n None ≡ o
alone None n = refl
alone (Some i) n = refl

-- so the place is that of the written term
pub outside_is : (form : WrittenTerm) → HasLeafTexts form → outside_at false (written form) ≡ outside_of form
outside_is form h = ap (outside_at false) (sym (append-nil (written form))) ∙ outside_written form h [] tt ∙ alone (outside_of form) (length (written form))
