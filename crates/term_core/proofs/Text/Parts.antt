-- A text that is cut at a byte or at a comma outside of all brackets: its parts and its lines, and that what is left gets shorter.
use Rattle.std.proofs.Common.{◌≡◌, ℕ, ◌+◌, ◌<◌, Bool, true, false, cond, ◌==◌, List, [], ◌∷◌, ◌++◌, length, Option, Some, None, option_map, refl, sym, ap, ◌∙◌, subst, arith}
use Rattle.std.specs.List.{AllByRecursion, onto_first, join_with_byte}
use Rattle.std.proofs.lemmas.List.{length-append}
use Rattle.std.proofs.lemmas.List.Splits.{join_with_byte-slice_split}
use Rattle.term_core.specs.TermParts.{depth_behind, is_part_end, CutText, with_byte, cut_at_depth, cut_part, parts_of_terms, parts_of_rest}
use Rattle.term_core.specs.Text.Cuts.{with_first, cut_at, lines, before_lines, lines_of_text}
use Rattle.term_core.specs.Text.Parts.{parts_between, part_of_cut, first_part}
use Rattle.term_core.proofs.PartedTerms.{parts_by_cut}
use Rattle.term_core.proofs.Text.Options.{some_is}
use Rattle.term_core.proofs.Text.Cuts.{lacks, lacks-cons, cut_here, cut_is, uncut}

-- what is behind the byte is shorter
pub shorter_rest : (byte : ℕ) (text part behind : List ℕ) → cut_at byte text ≡ Some (part, behind) → length behind < length text
shorter_rest byte text part behind e = omega (arith, ap length ((cut_is byte text (part, behind) e).whole), length-append part (byte ∷ behind))

-- ---- parts

parts_from : ℕ → List ℕ → Option (List ℕ × List ℕ) → List (List ℕ)
parts_from byte text None = text ∷ []
parts_from byte text (Some x) = x.0 ∷ parts_between byte x.1

onto_parts : (byte b : ℕ) (rest : List ℕ) (o : Option (List ℕ × List ℕ)) → onto_first b (parts_from byte rest o) ≡ parts_from byte (b ∷ rest) (option_map (with_first b) o)
unfolding parts_from
onto_parts byte b rest None = refl
onto_parts byte b rest (Some y) = refl

parts-cut : (byte : ℕ) (text : List ℕ) → parts_between byte text ≡ parts_from byte text (cut_at byte text)
unfolding parts_from
parts-cut byte [] = refl
parts-cut byte (b ∷ rest) =
    elim (b == byte) as (λ t. cond t ([] ∷ parts_between byte rest) (onto_first b (parts_between byte rest)) ≡ parts_from byte (b ∷ rest) (cond t (Some ([], rest)) (option_map (with_first b) (cut_at byte rest)))) [
      | true ↦ refl
      | false ↦ ap (onto_first b) (parts-cut byte rest) ∙ onto_parts byte b rest (cut_at byte rest)
    ]

-- the first part of a text that is cut, and the other parts
pub parts-cut_some : (byte : ℕ) (text : List ℕ) (x : List ℕ × List ℕ) → cut_at byte text ≡ Some x → parts_between byte text ≡ x.0 ∷ parts_between byte x.1
unfolding parts_from
parts-cut_some byte text x e = parts-cut byte text ∙ ap (parts_from byte text) e

-- a text that is not cut is one part
pub parts-cut_none : (byte : ℕ) (text : List ℕ) → cut_at byte text ≡ None → parts_between byte text ≡ text ∷ []
unfolding parts_from
parts-cut_none byte text e = parts-cut byte text ∙ ap (parts_from byte text) e

pub parts_at : (byte : ℕ) (a b : List ℕ) → lacks byte a ≡ true → parts_between byte (a ++ byte ∷ b) ≡ a ∷ parts_between byte b
parts_at byte a b h = parts-cut_some byte (a ++ byte ∷ b) (a, b) (cut_here byte a b h)

pub parts_whole : (byte : ℕ) (a : List ℕ) → lacks byte a ≡ true → parts_between byte a ≡ a ∷ []
parts_whole byte a h = parts-cut_none byte a (uncut byte a h)

some_parts : (byte : ℕ) (text : List ℕ) (o : Option (List ℕ × List ℕ)) → 0 < length (parts_from byte text o)
unfolding parts_from
some_parts byte text None = omega arith
some_parts byte text (Some x) = omega arith

-- there is always a part
pub parts_are_some : (byte : ℕ) (text : List ℕ) → 0 < length (parts_between byte text)
parts_are_some byte text = rw (parts-cut byte text) (some_parts byte text (cut_at byte text))

pub join-parts : (byte : ℕ) (text : List ℕ) → join_with_byte byte (parts_between byte text) ≡ text
join-parts byte text = join_with_byte-slice_split byte text

-- ---- the cut and the parts

-- the parts by what was cut
pub parts_cut : (text part : List ℕ) (o : Option (List ℕ)) → part ≡ (cut_part text).front → o ≡ (cut_part text).rest → parts_of_terms text ≡ part ∷ parts_of_rest o
parts_cut text part o e f = parts_by_cut text ∙ ap (λ p. p ∷ parts_of_rest (cut_part text).rest) (sym e) ∙ ap (λ r. part ∷ parts_of_rest r) (sym f)

-- what is behind a cut is shorter
shorter_step : (t : Bool) (c : ℕ) (more rest : List ℕ) (cut : CutText) → (cond t (record { front = []; rest = Some more }) (with_byte c cut)).rest ≡ Some rest → (cut.rest ≡ Some rest → length rest < length more) → length rest < length (c ∷ more)
shorter_step true c more rest cut e later = let same = some_is more rest e in omega (arith, ap length same)
shorter_step false c more rest cut e later = let shorter = later e in omega (arith, shorter)

shorter_at : (depth : ℕ) (text rest : List ℕ) → (cut_at_depth depth text).rest ≡ Some rest → length rest < length text
shorter_at depth [] rest e = absurd cc
shorter_at depth (c ∷ more) rest e = shorter_step (is_part_end depth c) c more rest (cut_at_depth (depth_behind depth c) more) e (λ f. shorter_at (depth_behind depth c) more rest f)

shorter_behind : (text rest : List ℕ) → (cut_part text).rest ≡ Some rest → length rest < length text
unfolding cut_part
shorter_behind text rest e = shorter_at 0 text rest e

-- what is left to be cut, and one for the part that there is at least
abbrev pub left_of : Option (List ℕ) → ℕ
left_of None = 0
left_of (Some rest) = length rest + 1

term_less : (text : List ℕ) (o : Option (List ℕ)) → (cut_part text).rest ≡ o → left_of o < length text + 1
term_less text None e = omega arith
term_less text (Some rest) e = let shorter = shorter_behind text rest e in omega (arith, shorter)

-- it is less behind a part
pub left_behind : (text : List ℕ) (o : Option (List ℕ)) → o ≡ (cut_part text).rest → left_of o < length text + 1
left_behind text o e = term_less text o (sym e)

-- ---- parts between bytes

-- the parts of what is left
abbrev pub byte_parts : ℕ → Option (List ℕ) → List (List ℕ)
byte_parts byte None = []
byte_parts byte (Some rest) = parts_between byte rest

first_of : (byte : ℕ) (text : List ℕ) (o : Option (List ℕ × List ℕ)) → cut_at byte text ≡ o → parts_between byte text ≡ (part_of_cut text o).front ∷ byte_parts byte (part_of_cut text o).rest
first_of byte text None e = parts-cut_none byte text e
first_of byte text (Some x) e = parts-cut_some byte text x e

-- the first part, and those behind it
pub byte_cut : (byte : ℕ) (text part : List ℕ) (o : Option (List ℕ)) → part ≡ (first_part byte text).front → o ≡ (first_part byte text).rest → parts_between byte text ≡ part ∷ byte_parts byte o
byte_cut byte text part o e f = first_of byte text (cut_at byte text) refl ∙ ap (λ p. p ∷ byte_parts byte (first_part byte text).rest) (sym e) ∙ ap (λ r. part ∷ byte_parts byte r) (sym f)

byte_less : (byte : ℕ) (text : List ℕ) (o : Option (List ℕ × List ℕ)) → cut_at byte text ≡ o → left_of (part_of_cut text o).rest < length text + 1
byte_less byte text None e = omega arith
byte_less byte text (Some x) e = let shorter = shorter_rest byte text x.0 x.1 e in omega (arith, shorter)

pub byte_left : (byte : ℕ) (text : List ℕ) (o : Option (List ℕ)) → o ≡ (first_part byte text).rest → left_of o < length text + 1
byte_left byte text o f = subst (λ r. left_of r < length text + 1) (sym f) (byte_less byte text (cut_at byte text) refl)

-- ---- lines

-- no line of a text has a line feed in it
abbrev pub LackLineFeed : List (List ℕ) → Type 0
LackLineFeed texts = AllByRecursion (λ line. lacks 10 line ≡ true) texts

before_ended : (b : ℕ) (ended : List (List ℕ)) (tail : List ℕ) → (b == 10) ≡ false → LackLineFeed ended → LackLineFeed (before_lines b ended tail).ended
before_ended b [] tail other h = tt
before_ended b (line ∷ others) tail other h = (lacks-cons 10 b line other h.0, h.1)

ended_by : (b : ℕ) (ended : List (List ℕ)) (tail : List ℕ) (t : Bool) → (b == 10) ≡ t → LackLineFeed ended → LackLineFeed (cond t (lines ([] ∷ ended) tail) (before_lines b ended tail)).ended
ended_by b ended tail true is h = (refl, h)
ended_by b ended tail false is h = before_ended b ended tail is h

pub ended_lack : (text : List ℕ) → LackLineFeed (lines_of_text text).ended
ended_lack [] = tt
ended_lack (b ∷ bytes) = ended_by b (lines_of_text bytes).ended (lines_of_text bytes).tail (b == 10) refl (ended_lack bytes)
