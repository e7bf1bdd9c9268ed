-- Lemmas on the tokens of a text, as a loop goes over its bytes.
use Rattle.std.proofs.Common.{◌≡◌, ℕ, ◌+◌, ◌<◌, Bool, true, false, cond, ◌&&◌, List, [], ◌∷◌, ◌++◌, length, drop, get_or, None, Some, refl, sym, ap, ◌∙◌, arith}
use Rattle.term_core.specs.declared.byte_kind.ByteKind.{ByteKind}
use Rattle.term_core.specs.declared.byte_kind.ByteKind.TheVariants.{Open, Close}
use Rattle.term_core.specs.Bytes.{kind_of, is_leaf_kind, leaf_front}
use Rattle.term_core.specs.Tokens.{Token, leaf, begins, is_outside, outside_at, word_at, token_at, tokens_in, starts}
use Rattle.term_core.specs.Written.{place_or}
use Rattle.term_core.proofs.Lefts.{left_byte, place_or-twice}

-- where no such integer begins, the first is behind
pub outside_behind : (text : List ℕ) (at c : ℕ) (inside later : Bool) (kind : ByteKind) → c ≡ get_or text at 0 → at < length text → kind ≡ kind_of c → later ≡ is_leaf_kind kind →
    (begins inside kind && is_outside (leaf_front (drop at text))) ≡ false → place_or None at (outside_at inside (drop at text)) ≡ place_or None (at + 1) (outside_at later (drop (at + 1) text))
outside_behind text at c inside later kind is less e f none_here =
    let left = left_byte text at c is less in
    ap (λ rest. place_or None at (outside_at inside rest)) left
    ∙ ap (λ k. place_or None at (cond (begins inside k && is_outside (leaf_front (c ∷ drop (at + 1) text))) (Some 0) (place_or None 1 (outside_at (is_leaf_kind k) (drop (at + 1) text))))) (sym e)
    ∙ ap (λ b. place_or None at (cond b (Some 0) (place_or None 1 (outside_at (is_leaf_kind kind) (drop (at + 1) text))))) (ap (λ rest. begins inside kind && is_outside (leaf_front rest)) (sym left) ∙ none_here)
    ∙ place_or-twice at 1 (outside_at (is_leaf_kind kind) (drop (at + 1) text))
    ∙ ap (λ b. place_or None (at + 1) (outside_at b (drop (at + 1) text))) (sym f)

-- a leaf counts for one word
leaf_word : (b : Bool) (front : List ℕ) (tokens : List Token) → starts (cond b (leaf front ∷ []) [] ++ tokens) ≡ cond b 1 0 + starts tokens
leaf_word true front tokens = refl
leaf_word false front tokens = omega arith

-- the token of a byte counts for as many words as the byte
pub starts-token : (inside : Bool) (kind : ByteKind) (front : List ℕ) (tokens : List Token) → starts (token_at inside kind front ++ tokens) ≡ word_at inside kind + starts tokens
starts-token inside (Open b) front tokens = refl
starts-token inside (Close b) front tokens = omega arith
starts-token inside kind front tokens = leaf_word (begins inside kind) front tokens

-- the words of a byte and of what is behind it
pub words_behind : (text : List ℕ) (at c : ℕ) (inside later : Bool) (kind : ByteKind) → c ≡ get_or text at 0 → at < length text → kind ≡ kind_of c → later ≡ is_leaf_kind kind →
    starts (tokens_in inside (drop at text)) ≡ word_at inside kind + starts (tokens_in later (drop (at + 1) text))
words_behind text at c inside later kind is less e f =
    ap (λ rest. starts (tokens_in inside rest)) (left_byte text at c is less)
    ∙ starts-token inside (kind_of c) (leaf_front (c ∷ drop (at + 1) text)) (tokens_in (is_leaf_kind (kind_of c)) (drop (at + 1) text))
    ∙ ap (λ k. word_at inside k + starts (tokens_in (is_leaf_kind k) (drop (at + 1) text))) (sym e)
    ∙ ap (λ b. word_at inside kind + starts (tokens_in b (drop (at + 1) text))) (sym f)
