-- Commas outside of brackets: the text of a term has none, so they part the terms of a row.
use Rattle.std.proofs.Common.{◌≡◌, ℕ, ◌+◌, ◌-◌, ◌<◌, Bool, true, false, cond, ◌&&◌, ◌||◌, ◌==◌, List, [], ◌∷◌, ◌++◌, map, None, Some, Option, refl, sym, ap, ◌∙◌, arith}
use Rattle.std.specs.List.{list_all}
use Rattle.std.proofs.lemmas.Bool.Decides.{nat_tests, Decides-eqb}
use Rattle.std.proofs.lemmas.List.{append-nil}
use Rattle.term_core.specs.PlainTerm.{TermOf, RowOf, integer_leaf, atom_leaf, tuple_of, list_of, no_terms, term_then, terms_of, row_of, row_count}
use Rattle.term_core.specs.TermParts.{depth_behind, is_part_end, with_byte, cut_at_depth, cut_part, in_first, parts_at_depth, parts_of_terms, joined_behind, joined, parts_of_rest}
use Rattle.term_core.specs.Written.{WrittenTerm, WrittenRow, written, parted, behind, HasLeafTexts}
use Rattle.term_core.proofs.LeafTexts.{is_leaf_byte, LeafText-integer, LeafText-atom}
use Rattle.term_core.proofs.Truths.{false_is_no_true}
use Rattle.term_core.proofs.WrittenTokens.{RowHasLeafTexts}
use Rattle.std.proofs.lemmas.Bool.{and_parts, false_from_ne_true}

-- how many brackets are open behind a text
abbrev pub depth_after : ℕ → List ℕ → ℕ
depth_after depth [] = depth
depth_after depth (c ∷ rest) = depth_after (depth_behind depth c) rest

-- whether no comma of a text is outside of all brackets
abbrev pub has_no_end : ℕ → List ℕ → Bool
has_no_end depth [] = true
has_no_end depth (c ∷ rest) = cond (is_part_end depth c) false (has_no_end (depth_behind depth c) rest)

-- a text that leaves as many brackets open as were, with no comma outside of all
pub record IsPassed (depth : ℕ) (text : List ℕ) : Type 0 where
  pub no_end : has_no_end depth text ≡ true
  pub same : depth_after depth text ≡ depth

-- of two texts
depth_after-append : (depth : ℕ) (xs ys : List ℕ) → depth_after depth (xs ++ ys) ≡ depth_after (depth_after depth xs) ys
depth_after-append depth [] ys = refl
depth_after-append depth (c ∷ xs) ys = depth_after-append (depth_behind depth c) xs ys

-- where a test is false and the rest is true
past_test : (b : Bool) (rest : Bool) → cond b false rest ≡ true → (b ≡ false) × (rest ≡ true)
past_test true rest h = cc
past_test false rest h = (refl, h)

-- neither has such a comma
no_end-append : (depth : ℕ) (xs ys : List ℕ) → has_no_end depth xs ≡ true → has_no_end (depth_after depth xs) ys ≡ true → has_no_end depth (xs ++ ys) ≡ true
no_end-append depth [] ys h k = k
no_end-append depth (c ∷ xs) ys h k =
    let parts = past_test (is_part_end depth c) (has_no_end (depth_behind depth c) xs) h in
    ap (λ b. cond b false (has_no_end (depth_behind depth c) (xs ++ ys))) parts.0 ∙ no_end-append (depth_behind depth c) xs ys parts.1 k

-- two texts are passed one after the other
passed-append : (depth : ℕ) (xs ys : List ℕ) → IsPassed depth xs → IsPassed depth ys → IsPassed depth (xs ++ ys)
passed-append depth xs ys h k = record {
  no_end = no_end-append depth xs ys h.no_end (ap (λ d. has_no_end d ys) h.same ∙ k.no_end);
  same = depth_after-append depth xs ys ∙ ap (λ d. depth_after d ys) h.same ∙ k.same;
}

-- a byte that stands in an integer or atom is no bracket and no comma
no_other : (c other : ℕ) → is_leaf_byte c ≡ true → is_leaf_byte other ≡ false → (c == other) ≡ false
no_other c other h k = false_from_ne_true (c == other) (λ e. false_is_no_true (sym k ∙ ap is_leaf_byte (sym ((Decides-eqb c other).0 e)) ∙ h))

-- so it changes nothing
leaf_depth : (depth c : ℕ) → is_leaf_byte c ≡ true → depth_behind depth c ≡ depth
leaf_depth depth c h =
    ap (λ b. cond (b || (c == 91)) (depth + 1) (cond ((c == 125) || (c == 93)) (depth - 1) depth)) (no_other c 123 h refl)
    ∙ ap (λ b. cond b (depth + 1) (cond ((c == 125) || (c == 93)) (depth - 1) depth)) (no_other c 91 h refl)
    ∙ ap (λ b. cond (b || (c == 93)) (depth - 1) depth) (no_other c 125 h refl) ∙ ap (λ b. cond b (depth - 1) depth) (no_other c 93 h refl)

-- and ends no part
leaf_no_end : (depth c : ℕ) → is_leaf_byte c ≡ true → is_part_end depth c ≡ false
leaf_no_end depth c h = ap (λ b. b && (depth == 0)) (no_other c 44 h refl)

-- so are all bytes of a leaf
passed_bytes : (depth : ℕ) (text : List ℕ) → list_all is_leaf_byte text ≡ true → IsPassed depth text
passed_bytes depth [] h = record { no_end = refl; same = refl }
passed_bytes depth (c ∷ rest) h =
    let parts = and_parts (is_leaf_byte c) (list_all is_leaf_byte rest) h in
    let later = passed_bytes depth rest parts.1 in
    record {
      no_end = ap (λ b. cond b false (has_no_end (depth_behind depth c) rest)) (leaf_no_end depth c parts.0) ∙ ap (λ d. has_no_end d rest) (leaf_depth depth c parts.0) ∙ later.no_end;
      same = ap (λ d. depth_after d rest) (leaf_depth depth c parts.0) ∙ later.same;
    }

-- inside of brackets a comma ends no part
inside_no_end : (depth : ℕ) → is_part_end (depth + 1) 44 ≡ false
inside_no_end depth = grind (arith, nat_tests)

-- what is passed inside of brackets is passed with them
passed_between : (depth opens shuts : ℕ) (text : List ℕ) → depth_behind depth opens ≡ depth + 1 → is_part_end depth opens ≡ false → depth_behind (depth + 1) shuts ≡ depth → is_part_end (depth + 1) shuts ≡ false →
    IsPassed (depth + 1) text → IsPassed depth (opens ∷ (text ++ shuts ∷ []))
passed_between depth opens shuts text up no_end down no_later h =
    let end : has_no_end (depth + 1) (shuts ∷ []) ≡ true = ap (λ b. cond b false true) no_later in
    record {
      no_end = ap (λ b. cond b false (has_no_end (depth_behind depth opens) (text ++ shuts ∷ []))) no_end ∙ ap (λ d. has_no_end d (text ++ shuts ∷ [])) up
          ∙ no_end-append (depth + 1) text (shuts ∷ []) h.no_end (ap (λ d. has_no_end d (shuts ∷ [])) h.same ∙ end);
      same = ap (λ d. depth_after d (text ++ shuts ∷ [])) up ∙ depth_after-append (depth + 1) text (shuts ∷ []) ∙ ap (λ d. depth_after d (shuts ∷ [])) h.same ∙ down;
    }

-- the text of a written term is passed at any depth
mutual
  pub passed_written : (depth : ℕ) (t : TermOf (List ℕ) (List ℕ)) → HasLeafTexts t → IsPassed depth (written t)
  passed_written depth (integer_leaf text) h = passed_bytes depth text (LeafText-integer text h).bytes
  passed_written depth (atom_leaf text) h = passed_bytes depth text (LeafText-atom text h).bytes
  passed_written depth (tuple_of row) h = passed_between depth 123 125 (parted row) refl refl (omega arith) refl (passed_parted depth row h)
  passed_written depth (list_of row) h = passed_between depth 91 93 (parted row) refl refl (omega arith) refl (passed_parted depth row h)

  -- and so are terms parted by commas, inside of brackets
  passed_parted : (depth : ℕ) (row : RowOf (List ℕ) (List ℕ)) → RowHasLeafTexts row → IsPassed (depth + 1) (parted row)
  passed_parted depth no_terms h = record { no_end = refl; same = refl }
  passed_parted depth (term_then t row) h = passed-append (depth + 1) (written t) (behind row) (passed_written (depth + 1) t h.0) (passed_behind depth row h.1)

  -- with a comma before each
  passed_behind : (depth : ℕ) (row : RowOf (List ℕ) (List ℕ)) → RowHasLeafTexts row → IsPassed (depth + 1) (behind row)
  passed_behind depth no_terms h = record { no_end = refl; same = refl }
  passed_behind depth (term_then t row) h =
      let more = passed-append (depth + 1) (written t) (behind row) (passed_written (depth + 1) t h.0) (passed_behind depth row h.1) in
      record {
        no_end = ap (λ b. cond b false (has_no_end (depth + 1) (written t ++ behind row))) (inside_no_end depth) ∙ more.no_end;
        same = more.same;
      }

-- ---- cuts

-- ---- parts

-- a text in front of the first of some texts
abbrev front_first : List ℕ → List (List ℕ) → List (List ℕ)
front_first text [] = text ∷ []
front_first text (part ∷ parts) = (text ++ part) ∷ parts

-- a byte more
first_more : (c : ℕ) (text : List ℕ) (parts : List (List ℕ)) → in_first c (front_first text parts) ≡ front_first (c ∷ text) parts
first_more c text [] = refl
first_more c text (part ∷ parts) = refl

-- there is a part of any text
some_part : (b : Bool) (c : ℕ) (later here : List (List ℕ)) → front_first [] (cond b ([] ∷ later) (in_first c here)) ≡ cond b ([] ∷ later) (in_first c here)
some_part true c later here = refl
some_part false c later [] = refl
some_part false c later (part ∷ parts) = refl

-- so no text in front is none
none_first : (depth : ℕ) (rest : List ℕ) → front_first [] (parts_at_depth depth rest) ≡ parts_at_depth depth rest
none_first depth [] = refl
none_first depth (c ∷ rest) = some_part (is_part_end depth c) c (parts_at_depth 0 rest) (parts_at_depth (depth_behind depth c) rest)

-- what is passed stands in the first part
parts_passed : (depth : ℕ) (text rest : List ℕ) → has_no_end depth text ≡ true → parts_at_depth depth (text ++ rest) ≡ front_first text (parts_at_depth (depth_after depth text) rest)
parts_passed depth [] rest h = sym (none_first depth rest)
parts_passed depth (c ∷ text) rest h =
    let parts = past_test (is_part_end depth c) (has_no_end (depth_behind depth c) text) h in
    ap (λ b. cond b ([] ∷ parts_at_depth 0 (text ++ rest)) (in_first c (parts_at_depth (depth_behind depth c) (text ++ rest)))) parts.0
    ∙ ap (in_first c) (parts_passed (depth_behind depth c) text rest parts.1) ∙ first_more c text (parts_at_depth (depth_after (depth_behind depth c) text) rest)

-- the parts of a row of terms are their texts
parts_row : (t : WrittenTerm) (row : WrittenRow) → HasLeafTexts t → RowHasLeafTexts row → parts_at_depth 0 (written t ++ behind row) ≡ written t ∷ map written (terms_of row)
parts_row t no_terms h k =
    let p = passed_written 0 t h in
    parts_passed 0 (written t) [] p.no_end ∙ ap (λ text. text ∷ []) (append-nil (written t))
parts_row t (term_then u row) h k =
    let p = passed_written 0 t h in
    parts_passed 0 (written t) (44 ∷ (written u ++ behind row)) p.no_end ∙ ap (λ d. front_first (written t) (parts_at_depth d (44 ∷ (written u ++ behind row)))) p.same
    ∙ ap (λ text. text ∷ parts_at_depth 0 (written u ++ behind row)) (append-nil (written t)) ∙ ap (λ parts. written t ∷ parts) (parts_row u row k.0 k.1)

-- so of any row that is not empty
pub parts_of_parted : (row : WrittenRow) → HasLeafTexts (tuple_of row) → 0 < row_count row → parts_of_terms (parted row) ≡ map written (terms_of row)
unfolding parts_of_terms
parts_of_parted no_terms h some = absurd (omega (arith, some))
parts_of_parted (term_then t row) h some = parts_row t row h.0 h.1

-- a byte that ends a part is a comma
end_is_comma : (depth c : ℕ) → is_part_end depth c ≡ true → c ≡ 44
end_is_comma depth c h = (Decides-eqb c 44).0 (and_parts (c == 44) (depth == 0) h).0

-- a byte in front of the first part is in front of the whole
joined_more : (c : ℕ) (parts : List (List ℕ)) → joined (in_first c parts) ≡ c ∷ joined parts
joined_more c [] = refl
joined_more c (part ∷ parts) = refl

-- by whether the first byte ends a part
comma_by : (b : Bool) (c : ℕ) (later here : List (List ℕ)) → joined_behind (cond b ([] ∷ later) (in_first c here)) ≡ 44 ∷ joined (cond b ([] ∷ later) (in_first c here))
comma_by true c later here = refl
comma_by false c later [] = refl
comma_by false c later (part ∷ parts) = refl

-- texts behind a comma, where there is one
joined_comma : (depth : ℕ) (rest : List ℕ) → joined_behind (parts_at_depth depth rest) ≡ 44 ∷ joined (parts_at_depth depth rest)
joined_comma depth [] = refl
joined_comma depth (c ∷ rest) = comma_by (is_part_end depth c) c (parts_at_depth 0 rest) (parts_at_depth (depth_behind depth c) rest)

-- by the first byte
joined_by : (depth c : ℕ) (rest : List ℕ) (b : Bool) → is_part_end depth c ≡ b → joined (parts_at_depth 0 rest) ≡ rest → joined (parts_at_depth (depth_behind depth c) rest) ≡ rest →
    joined (cond b ([] ∷ parts_at_depth 0 rest) (in_first c (parts_at_depth (depth_behind depth c) rest))) ≡ c ∷ rest
joined_by depth c rest true end h k = joined_comma 0 rest ∙ ap (λ text. 44 ∷ text) h ∙ ap (λ b. b ∷ rest) (sym (end_is_comma depth c end))
joined_by depth c rest false end h k = joined_more c (parts_at_depth (depth_behind depth c) rest) ∙ ap (λ text. c ∷ text) k

-- the parts with commas between them are the text
pub joined_parts : (depth : ℕ) (text : List ℕ) → joined (parts_at_depth depth text) ≡ text
joined_parts depth [] = refl
joined_parts depth (c ∷ rest) = joined_by depth c rest (is_part_end depth c) refl (joined_parts 0 rest) (joined_parts (depth_behind depth c) rest)

-- of the whole
pub joined_parts_of_terms : (text : List ℕ) → joined (parts_of_terms text) ≡ text
unfolding parts_of_terms
joined_parts_of_terms text = joined_parts 0 text

-- the parts of what stands behind, if anything does
abbrev rest_parts : Option (List ℕ) → List (List ℕ)
rest_parts None = []
rest_parts (Some rest) = parts_at_depth 0 rest

-- by the first byte
parts_cut_by : (depth c : ℕ) (rest : List ℕ) (b : Bool) → parts_at_depth (depth_behind depth c) rest ≡ (cut_at_depth (depth_behind depth c) rest).front ∷ rest_parts (cut_at_depth (depth_behind depth c) rest).rest →
    cond b ([] ∷ parts_at_depth 0 rest) (in_first c (parts_at_depth (depth_behind depth c) rest))
    ≡ (cond b (record { front = []; rest = Some rest }) (with_byte c (cut_at_depth (depth_behind depth c) rest))).front ∷ rest_parts (cond b (record { front = []; rest = Some rest }) (with_byte c (cut_at_depth (depth_behind depth c) rest))).rest
parts_cut_by depth c rest true h = refl
parts_cut_by depth c rest false h = ap (in_first c) h

-- the parts are what is cut off, and those of the rest
parts_cut : (depth : ℕ) (text : List ℕ) → parts_at_depth depth text ≡ (cut_at_depth depth text).front ∷ rest_parts (cut_at_depth depth text).rest
parts_cut depth [] = refl
parts_cut depth (c ∷ rest) = parts_cut_by depth c rest (is_part_end depth c) (parts_cut (depth_behind depth c) rest)

-- the same of what stands behind, if anything does
rest_parts_are : (o : Option (List ℕ)) → rest_parts o ≡ parts_of_rest o
unfolding parts_of_terms
rest_parts_are None = refl
rest_parts_are (Some rest) = refl

-- of the whole
pub parts_by_cut : (text : List ℕ) → parts_of_terms text ≡ (cut_part text).front ∷ parts_of_rest (cut_part text).rest
unfolding parts_of_terms cut_part
parts_by_cut text = parts_cut 0 text ∙ ap (λ parts. (cut_at_depth 0 text).front ∷ parts) (rest_parts_are (cut_at_depth 0 text).rest)

-- texts of terms with a comma before each
joined_behind_written : (terms : List WrittenTerm) → joined_behind (map written terms) ≡ behind (row_of terms)
joined_behind_written [] = refl
joined_behind_written (t ∷ terms) = ap (λ rest. 44 ∷ (written t ++ rest)) (joined_behind_written terms)

-- the texts of terms with commas between them are those of their row
pub joined_written : (terms : List WrittenTerm) → joined (map written terms) ≡ parted (row_of terms)
joined_written [] = refl
joined_written (t ∷ terms) = ap (λ rest. written t ++ rest) (joined_behind_written terms)
