-- The scan accepts the text of each written term.
use Rattle.std.proofs.Common.{◌≡◌, ℕ, true, List, [], ◌∷◌, ◌++◌, Option, refl, sym, ap, ◌∙◌, arith}
use Rattle.std.specs.List.{list_all}
use Rattle.std.proofs.lemmas.List.{append_assoc, append-nil}
use Rattle.term_core.specs.declared.byte_kind.Bracket.{Bracket}
use Rattle.term_core.specs.declared.byte_kind.Bracket.TheVariants.{Curly, Square}
use Rattle.term_core.specs.declared.byte_kind.ByteKind.{ByteKind}
use Rattle.term_core.specs.declared.byte_kind.ByteKind.TheVariants.{Open, Close, Comma}
use Rattle.term_core.specs.declared.scan.Place.TheVariants.{TermStart, AfterOpen, AfterTerm}
use Rattle.term_core.specs.Bytes.{kind_of, is_leaf_kind}
use Rattle.term_core.specs.PlainTerm.{TermOf, RowOf, integer_leaf, atom_leaf, tuple_of, list_of, no_terms, term_then}
use Rattle.term_core.specs.Scanning.{next}
use Rattle.term_core.specs.Tops.{top_of}
use Rattle.term_core.specs.Written.{WrittenTerm, written, parted, behind, HasLeafTexts}
use Rattle.term_core.proofs.ByteKinds.{closing}
use Rattle.term_core.proofs.LeafTexts.{is_leaf_byte, LeafText, IsDelimited, LeafText-integer, LeafText-atom}
use Rattle.term_core.proofs.Scanning.Runs.{accepts, accepts_moved, accepts_integer, accepts_atom}
use Rattle.term_core.proofs.WrittenTokens.{RowHasLeafTexts, delimited_behind}
use Rattle.std.proofs.lemmas.Bool.{and_parts}

-- a leaf begins behind a bracket as it does elsewhere
leaf_start : (kind : ByteKind) (top : Option Bracket) → is_leaf_kind kind ≡ true → next AfterOpen top kind ≡ next TermStart top kind
leaf_start (Open b) top h = cc
leaf_start (Close b) top h = cc
leaf_start Comma top h = cc
leaf_start kind top h = refl

-- so does each leaf
start_leaf : (brackets : List Bracket) (text rest : List ℕ) → LeafText text → accepts AfterOpen brackets (text ++ rest) ≡ accepts TermStart brackets (text ++ rest)
start_leaf brackets [] rest h = absurd (omega (arith, h.some))
start_leaf brackets (c ∷ text) rest h = ap (λ move. accepts_moved brackets move (text ++ rest)) (leaf_start (kind_of c) (top_of brackets) (and_parts (is_leaf_byte c) (list_all is_leaf_byte text) h.bytes).0)

-- and each term
start_term : (brackets : List Bracket) (t : WrittenTerm) (rest : List ℕ) → HasLeafTexts t → accepts AfterOpen brackets (written t ++ rest) ≡ accepts TermStart brackets (written t ++ rest)
start_term brackets (integer_leaf text) rest h = start_leaf brackets text rest (LeafText-integer text h)
start_term brackets (atom_leaf text) rest h = start_leaf brackets text rest (LeafText-atom text h)
start_term brackets t rest h = refl

-- a closing bracket behind the opening one
accepts_none : (b : Bracket) (outer : List Bracket) (rest : List ℕ) → accepts AfterOpen (b ∷ outer) (closing b ∷ rest) ≡ accepts AfterTerm outer rest
accepts_none Curly outer rest = refl
accepts_none Square outer rest = refl

-- and behind a term
accepts_closing : (b : Bracket) (outer : List Bracket) (rest : List ℕ) → accepts AfterTerm (b ∷ outer) (closing b ∷ rest) ≡ accepts AfterTerm outer rest
accepts_closing Curly outer rest = refl
accepts_closing Square outer rest = refl

-- each written term is passed
mutual
  pub accepts_written : (t : TermOf (List ℕ) (List ℕ)) → HasLeafTexts t → (brackets : List Bracket) (rest : List ℕ) → IsDelimited rest → accepts TermStart brackets (written t ++ rest) ≡ accepts AfterTerm brackets rest
  accepts_written (integer_leaf text) h brackets rest d = accepts_integer brackets text rest h d
  accepts_written (atom_leaf text) h brackets rest d = accepts_atom brackets text rest h d
  accepts_written (tuple_of row) h brackets rest d = ap (accepts AfterOpen (Curly ∷ brackets)) (append_assoc (parted row) (125 ∷ []) rest) ∙ accepts_parted row h Curly brackets rest
  accepts_written (list_of row) h brackets rest d = ap (accepts AfterOpen (Square ∷ brackets)) (append_assoc (parted row) (93 ∷ []) rest) ∙ accepts_parted row h Square brackets rest

  -- the same of a row behind its opening bracket
  accepts_parted : (row : RowOf (List ℕ) (List ℕ)) → RowHasLeafTexts row → (b : Bracket) (outer : List Bracket) (rest : List ℕ) → accepts AfterOpen (b ∷ outer) (parted row ++ closing b ∷ rest) ≡ accepts AfterTerm outer rest
  accepts_parted no_terms h b outer rest = accepts_none b outer rest
  accepts_parted (term_then t row) h b outer rest =
      ap (accepts AfterOpen (b ∷ outer)) (append_assoc (written t) (behind row) (closing b ∷ rest)) ∙ start_term (b ∷ outer) t (behind row ++ closing b ∷ rest) h.0
      ∙ accepts_written t h.0 (b ∷ outer) (behind row ++ closing b ∷ rest) (delimited_behind row b rest) ∙ accepts_behind row h.1 b outer rest

  -- and of a row behind a term
  accepts_behind : (row : RowOf (List ℕ) (List ℕ)) → RowHasLeafTexts row → (b : Bracket) (outer : List Bracket) (rest : List ℕ) → accepts AfterTerm (b ∷ outer) (behind row ++ closing b ∷ rest) ≡ accepts AfterTerm outer rest
  accepts_behind no_terms h b outer rest = accepts_closing b outer rest
  accepts_behind (term_then t row) h b outer rest =
      ap (accepts TermStart (b ∷ outer)) (append_assoc (written t) (behind row) (closing b ∷ rest))
      ∙ accepts_written t h.0 (b ∷ outer) (behind row ++ closing b ∷ rest) (delimited_behind row b rest) ∙ accepts_behind row h.1 b outer rest

-- and so a whole text
pub accepts_is : (form : WrittenTerm) → HasLeafTexts form → accepts TermStart [] (written form) ≡ true
accepts_is form h = ap (accepts TermStart []) (sym (append-nil (written form))) ∙ accepts_written form h [] [] tt
