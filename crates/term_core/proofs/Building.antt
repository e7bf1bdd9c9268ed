-- Lemmas on the terms and names that the tokens of a text make, as the loop takes them.
use Rattle.std.proofs.Common.{◌≡◌, ℕ, ◌+◌, ◌-◌, ◌<◌, ◌≤◌, Bool, true, false, cond, List, [], ◌∷◌, ◌++◌, length, drop, take, get_or, refl, sym, ap, ◌∙◌, arith}
use Rattle.term_core.specs.declared.byte_kind.ByteKind.{ByteKind}
use Rattle.term_core.specs.declared.byte_kind.ByteKind.TheVariants.{Open, Close, Comma}
use Rattle.term_core.specs.Bytes.{kind_of, is_leaf_kind, leaf_front}
use Rattle.term_core.specs.Names.{Extends, is_atom_text, names_with}
use Rattle.term_core.specs.TermText.{names_with_all}
use Rattle.term_core.specs.Tokens.{Token, leaf, begins, token_at, tokens_in, atoms_among, IsLeaf, AreLeaves, names_with_leaf}
use Rattle.term_core.proofs.GrownNames.{Extends-refl, names_with-Extends}
use Rattle.term_core.proofs.Lefts.{left_byte, rest_is}
use Rattle.term_core.proofs.Numbers.{names_with_all-Extends, names_with_all-append, length-Extends}

-- what begins with a byte is a leaf where each token is
pub begun_leaf : (inside : Bool) (kind : ByteKind) (front : List ℕ) → begins inside kind ≡ true → AreLeaves (token_at inside kind front) → IsLeaf front
begun_leaf inside (Open b) front begun h = cc
begun_leaf inside (Close b) front begun h = cc
begun_leaf inside Comma front begun h = cc
begun_leaf false kind front begun h = h.0
begun_leaf true kind front begun h = cc

-- by whether a leaf is an atom
leaf_joins : (b : Bool) (names : List (List ℕ)) (text : List ℕ) → Extends names (cond b (names_with names text) names)
leaf_joins true names text = names_with-Extends names text
leaf_joins false names text = Extends-refl names

-- a leaf keeps the names before
pub names_with_leaf-Extends : (names : List (List ℕ)) (text : List ℕ) → Extends names (names_with_leaf names text)
names_with_leaf-Extends names text = leaf_joins (is_atom_text text) names text

-- by the test of an atom
atom_first : (b : Bool) (text : List ℕ) (xs ys : List (List ℕ)) → cond b (text ∷ (xs ++ ys)) (xs ++ ys) ≡ cond b (text ∷ xs) xs ++ ys
atom_first true text xs ys = refl
atom_first false text xs ys = refl

-- the atoms of two rows of tokens
pub atoms_among-append : (tokens more : List Token) → atoms_among (tokens ++ more) ≡ atoms_among tokens ++ atoms_among more
atoms_among-append [] more = refl
atoms_among-append (leaf text ∷ tokens) more =
    ap (λ xs. cond (is_atom_text text) (text ∷ xs) xs) (atoms_among-append tokens more) ∙ atom_first (is_atom_text text) text (atoms_among tokens) (atoms_among more)
atoms_among-append (one ∷ tokens) more = atoms_among-append tokens more

-- the leaves of the first row
pub AreLeaves-front : (tokens more : List Token) → AreLeaves (tokens ++ more) → AreLeaves tokens
AreLeaves-front [] more h = tt
AreLeaves-front (leaf text ∷ tokens) more h = (h.0, AreLeaves-front tokens more h.1)
AreLeaves-front (one ∷ tokens) more h = AreLeaves-front tokens more h

-- and of the second
pub AreLeaves-back : (tokens more : List Token) → AreLeaves (tokens ++ more) → AreLeaves more
AreLeaves-back [] more h = h
AreLeaves-back (leaf text ∷ tokens) more h = AreLeaves-back tokens more h.1
AreLeaves-back (one ∷ tokens) more h = AreLeaves-back tokens more h

-- what is left begins with the token of the first byte
pub tokens_behind : (text : List ℕ) (at c : ℕ) (inside later : Bool) (kind : ByteKind) → c ≡ get_or text at 0 → at < length text → kind ≡ kind_of c → later ≡ is_leaf_kind kind →
    tokens_in inside (drop at text) ≡ token_at inside kind (leaf_front (take (length text - at) (drop at text))) ++ tokens_in later (drop (at + 1) text)
tokens_behind text at c inside later kind is less e f =
    let left = left_byte text at c is less in
    ap (tokens_in inside) left
    ∙ ap (λ k. token_at inside k (leaf_front (c ∷ drop (at + 1) text)) ++ tokens_in (is_leaf_kind k) (drop (at + 1) text)) (sym e)
    ∙ ap (λ b. token_at inside kind (leaf_front (c ∷ drop (at + 1) text)) ++ tokens_in b (drop (at + 1) text)) (sym f)
    ∙ ap (λ rest. token_at inside kind (leaf_front rest) ++ tokens_in later (drop (at + 1) text)) (sym left ∙ sym (rest_is text at))

-- the names after some tokens and more
pub names_behind : (names after : List (List ℕ)) (tokens more : List Token) → after ≡ names_with_all names (atoms_among tokens) → names_with_all names (atoms_among (tokens ++ more)) ≡ names_with_all after (atoms_among more)
names_behind names after tokens more e =
    ap (names_with_all names) (atoms_among-append tokens more) ∙ names_with_all-append names (atoms_among tokens) (atoms_among more) ∙ ap (λ ns. names_with_all ns (atoms_among more)) (sym e)

-- are as many at least as those after the first
pub names_grow : (names : List (List ℕ)) (tokens more : List Token) → length (names_with_all names (atoms_among tokens)) ≤ length (names_with_all names (atoms_among (tokens ++ more)))
names_grow names tokens more =
    let grown = length-Extends (names_with_all names (atoms_among tokens)) (names_with_all (names_with_all names (atoms_among tokens)) (atoms_among more)) (names_with_all-Extends (names_with_all names (atoms_among tokens)) (atoms_among more)) in
    omega (arith, grown, ap length (names_behind names (names_with_all names (atoms_among tokens)) tokens more refl))
