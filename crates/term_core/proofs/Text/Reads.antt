-- The loops that read the parts of a line: what was read, in front of what is still to be read, is the whole.
use Rattle.std.proofs.Common.{◌≡◌, ℕ, ◌+◌, ◌<◌, List, [], ◌∷◌, ◌++◌, length, Option, Some, None, option_map, refl, sym, ap, ◌∙◌, subst, append_assoc, append-nil}
use Rattle.std.specs.Prelude.{map}
use Rattle.term_core.specs.Text.Steps.{◌>>=◌}
use Rattle.term_core.specs.Text.Parts.{each_reading}
use Rattle.term_core.proofs.Text.Options.{some}
use Rattle.term_core.proofs.Text.Parts.{left_of}

-- with these in front
abbrev pub with_read : {X : Type 0} → List X → Option (List X) → Option (List X)
with_read front None = None
with_read front (Some xs) = Some (front ++ xs)

pub with_read_none : {X : Type 0} (o : Option (List X)) → with_read [] o ≡ o
with_read_none None = refl
with_read_none (Some xs) = refl

first_read : {X : Type 0} (front : List X) (o : Option X) (rest : Option (List X)) → with_read front (o >>= λ x. rest >>= λ xs. Some (x ∷ xs)) ≡ (o >>= λ x. with_read (front ++ x ∷ []) rest)
first_read front None rest = refl
first_read front (Some x) None = refl
first_read front (Some x) (Some xs) = ap (λ l. some l) (sym (append_assoc front (x ∷ []) xs))

-- a loop over what is left, where its first part is read, and more may stand behind it
pub split : {X : Type 0} (parts : Option (List ℕ) → List (List ℕ)) (read : List ℕ → Option X) (front : List X) (o behind : Option (List ℕ)) (left part : List ℕ) (whole : Option (List X)) → o ≡ Some left → parts (Some left) ≡ part ∷ parts behind → with_read front (each_reading read (parts o)) ≡ whole → (read part >>= λ x. with_read (front ++ x ∷ []) (each_reading read (parts behind))) ≡ whole
split parts read front o behind left part whole is e so_far = sym (first_read front (read part) (each_reading read (parts behind))) ∙ ap (λ ps. with_read front (each_reading read ps)) (sym (ap parts is ∙ e)) ∙ so_far

-- the first part is read
pub reads_on : {X : Type 0} (parts : Option (List ℕ) → List (List ℕ)) (read : List ℕ → Option X) (front : List X) (o behind : Option (List ℕ)) (left part : List ℕ) (x : X) (whole : Option (List X)) → o ≡ Some left → parts (Some left) ≡ part ∷ parts behind → read part ≡ Some x → with_read front (each_reading read (parts o)) ≡ whole → with_read (front ++ x ∷ []) (each_reading read (parts behind)) ≡ whole
reads_on parts read front o behind left part x whole is e read_is so_far = ap (λ p. p >>= λ y. with_read (front ++ y ∷ []) (each_reading read (parts behind))) (sym read_is) ∙ split parts read front o behind left part whole is e so_far

-- what is left of the loop is less
pub less_left : (o behind : Option (List ℕ)) (left : List ℕ) → o ≡ Some left → left_of behind < length left + 1 → left_of behind < left_of o
less_left o behind left is less = subst (λ p. left_of behind < left_of p) (sym is) less

-- all parts are
pub reads_end : {X : Type 0} (read : List ℕ → Option X) (front : List X) (whole : Option (List X)) → with_read front (each_reading read []) ≡ whole → whole ≡ Some front
reads_end read front whole so_far = sym so_far ∙ ap (λ (l : List _). some l) (append-nil front)

-- what is read of each part, seen by words, is read so of each part
seen : {X W : Type 0} (words : X → W) (o : Option X) (rest : Option (List X)) → option_map (map words) (o >>= λ x. rest >>= λ xs. Some (x ∷ xs)) ≡ (option_map words o >>= λ w. option_map (map words) rest >>= λ ws. Some (w ∷ ws))
seen words None rest = refl
seen words (Some x) None = refl
seen words (Some x) (Some xs) = refl

pub each_seen : {X W : Type 0} (words : X → W) (read : List ℕ → Option X) (parts : List (List ℕ)) → option_map (map words) (each_reading read parts) ≡ each_reading (λ part. option_map words (read part)) parts
each_seen words read [] = refl
each_seen words read (part ∷ parts) =
    seen words (read part) (each_reading read parts) ∙ ap (λ (o : Option (List _)). option_map words (read part) >>= λ w. o >>= λ ws. Some (w ∷ ws)) (each_seen words read parts)
