-- A text cut at a byte, and cut into lines.
use Rattle.std.proofs.Common.{◌≡◌, ℕ, Bool, true, false, cond, not, ◌==◌, List, [], ◌∷◌, ◌++◌, Option, Some, None, option_map, refl, ap, ◌∙◌, subst}
use Rattle.std.specs.List.{list_all}
use Rattle.std.proofs.lemmas.Bool.{and_parts, and_from, not-true}
use Rattle.std.proofs.lemmas.Bool.Decides.{Decides-eqb}
use Rattle.std.proofs.lemmas.List.Folds.{list_all-append}
use Rattle.std.specs.Char.{is_ascii_digit}
use Rattle.term_core.specs.Names.{is_name_byte, is_atom_text}
use Rattle.term_core.specs.Text.Cuts.{with_first, cut_at, Lines, lines, before_lines, lines_of_text}
use Rattle.term_core.specs.Text.Numbers.{is_number_text}
use Rattle.term_core.proofs.TermBytes.{name_bytes-atom}
use Rattle.term_core.proofs.Text.Numbers.{number_digits}
use Rattle.term_core.proofs.Text.Options.{some, some_is, passed, failed}

-- ---- a byte that a text lacks

-- no byte of the text is this one
abbrev pub lacks : ℕ → List ℕ → Bool
lacks byte text = list_all (λ b. not (b == byte)) text

other : (p : ℕ → Bool) (byte b : ℕ) (t : Bool) → (b == byte) ≡ t → p byte ≡ false → p b ≡ true → not t ≡ true
other p byte b true e misses passes = let same : b ≡ byte = (Decides-eqb b byte).0 e in let is = ap p same in absurd cc
other p byte b false e misses passes = refl

-- a text whose bytes all pass lacks a byte that does not
pub lacks-all : (p : ℕ → Bool) (byte : ℕ) (text : List ℕ) → p byte ≡ false → list_all p text ≡ true → lacks byte text ≡ true
lacks-all p byte [] misses h = refl
lacks-all p byte (b ∷ rest) misses h =
    let parts = and_parts (p b) (list_all p rest) h in
    and_from (not (b == byte)) (lacks byte rest) (other p byte b (b == byte) refl misses parts.0) (lacks-all p byte rest misses parts.1)

pub lacks-append : (byte : ℕ) (a b : List ℕ) → lacks byte a ≡ true → lacks byte b ≡ true → lacks byte (a ++ b) ≡ true
lacks-append byte a b h k = list_all-append (λ c. not (c == byte)) a b ∙ and_from (lacks byte a) (lacks byte b) h k

pub lacks-cons : (byte b : ℕ) (a : List ℕ) → (b == byte) ≡ false → lacks byte a ≡ true → lacks byte (b ∷ a) ≡ true
lacks-cons byte b a h k = and_from (not (b == byte)) (lacks byte a) (ap not h) k

-- of an atom's text
pub atom_lacks : (byte : ℕ) (text : List ℕ) → is_name_byte byte ≡ false → is_atom_text text ≡ true → lacks byte text ≡ true
atom_lacks byte text apart h = lacks-all is_name_byte byte text apart (name_bytes-atom text h)

-- and of a number's
pub number_lacks : (byte : ℕ) (text : List ℕ) → is_ascii_digit byte ≡ false → is_number_text text ≡ true → lacks byte text ≡ true
number_lacks byte text apart h = lacks-all is_ascii_digit byte text apart (number_digits text h).digits

-- ---- cutting

-- a text is cut behind what lacks the byte
pub cut_here : (byte : ℕ) (a b : List ℕ) → lacks byte a ≡ true → cut_at byte (a ++ byte ∷ b) ≡ Some (a, b)
cut_here byte [] b h = passed (byte == byte) (some ([], b)) _ ((Decides-eqb byte byte).1 refl)
cut_here byte (x ∷ a) b h =
    let parts = and_parts (not (x == byte)) (lacks byte a) h in
    failed (x == byte) (some ([], a ++ byte ∷ b)) _ (not-true (x == byte) parts.0) ∙ ap (option_map (with_first x)) (cut_here byte a b parts.1)

-- the text is two sides of the byte, and the first lacks it
pub record IsCut (byte : ℕ) (text : List ℕ) (x : List ℕ × List ℕ) : Type 0 where
  pub whole : text ≡ x.0 ++ byte ∷ x.1
  pub first : lacks byte x.0 ≡ true

cut_step : (t : Bool) (b byte : ℕ) (rest : List ℕ) (o : Option (List ℕ × List ℕ)) (x : List ℕ × List ℕ) → (b == byte) ≡ t → ((y : List ℕ × List ℕ) → o ≡ Some y → IsCut byte rest y) → cond t (Some ([], rest)) (option_map (with_first b) o) ≡ Some x → IsCut byte (b ∷ rest) x
cut_step true b byte rest o x e more h = subst (IsCut byte (b ∷ rest)) (some_is ([], rest) x h) (record { whole = ap (λ k. k ∷ rest) ((Decides-eqb b byte).0 e); first = refl })
cut_step false b byte rest (Some y) x e more h =
    let is = more y refl in
    subst (IsCut byte (b ∷ rest)) (some_is (with_first b y) x h) (record { whole = ap (λ l. b ∷ l) is.whole; first = lacks-cons byte b y.0 e is.first })
cut_step false b byte rest None x e more h = absurd cc

-- what was cut are the two sides of the first such byte
pub cut_is : (byte : ℕ) (text : List ℕ) (x : List ℕ × List ℕ) → cut_at byte text ≡ Some x → IsCut byte text x
cut_is byte [] x h = absurd cc
cut_is byte (b ∷ rest) x h = cut_step (b == byte) b byte rest (cut_at byte rest) x refl (cut_is byte rest) h

uncut_step : (t : Bool) (b byte : ℕ) (rest : List ℕ) (o : Option (List ℕ × List ℕ)) → (b == byte) ≡ t → (o ≡ None → lacks byte rest ≡ true) → cond t (Some ([], rest)) (option_map (with_first b) o) ≡ None → lacks byte (b ∷ rest) ≡ true
uncut_step false b byte rest None e more h = lacks-cons byte b rest e (more refl)
uncut_step t b byte rest o e more h = absurd cc

-- what is not cut lacks the byte
pub uncut_is : (byte : ℕ) (text : List ℕ) → cut_at byte text ≡ None → lacks byte text ≡ true
uncut_is byte [] h = refl
uncut_is byte (b ∷ rest) h = uncut_step (b == byte) b byte rest (cut_at byte rest) refl (uncut_is byte rest) h

pub uncut : (byte : ℕ) (a : List ℕ) → lacks byte a ≡ true → cut_at byte a ≡ None
uncut byte [] h = refl
uncut byte (x ∷ a) h =
    let parts = and_parts (not (x == byte)) (lacks byte a) h in
    failed (x == byte) (some ([], a)) _ (not-true (x == byte) parts.0) ∙ ap (option_map (with_first x)) (uncut byte a parts.1)

-- ---- lines

-- the lines of a text that begins with a line
pub lines_behind : (line rest : List ℕ) → lacks 10 line ≡ true → lines_of_text (line ++ 10 ∷ rest) ≡ lines (line ∷ (lines_of_text rest).ended) (lines_of_text rest).tail
lines_behind [] rest h = refl
lines_behind (b ∷ line) rest h =
    let parts = and_parts (not (b == 10)) (lacks 10 line) h in
    failed (b == 10) (lines ([] ∷ (lines_of_text (line ++ 10 ∷ rest)).ended) (lines_of_text (line ++ 10 ∷ rest)).tail) (before_lines b (lines_of_text (line ++ 10 ∷ rest)).ended (lines_of_text (line ++ 10 ∷ rest)).tail) (not-true (b == 10) parts.0)
    ∙ ap (λ (w : Lines). before_lines b w.ended w.tail) (lines_behind line rest parts.1)

-- a text with no line feed is a tail
pub lines_of_tail : (text : List ℕ) → lacks 10 text ≡ true → lines_of_text text ≡ lines [] text
lines_of_tail [] h = refl
lines_of_tail (b ∷ text) h =
    let parts = and_parts (not (b == 10)) (lacks 10 text) h in
    failed (b == 10) (lines ([] ∷ (lines_of_text text).ended) (lines_of_text text).tail) (before_lines b (lines_of_text text).ended (lines_of_text text).tail) (not-true (b == 10) parts.0)
    ∙ ap (λ (w : Lines). before_lines b w.ended w.tail) (lines_of_tail text parts.1)

-- the first line of a text is where it is cut
pub lines_of_cut : (text : List ℕ) (p : List ℕ × List ℕ) → cut_at 10 text ≡ Some p → lines_of_text text ≡ lines (p.0 ∷ (lines_of_text p.1).ended) (lines_of_text p.1).tail
lines_of_cut text p e = let is = cut_is 10 text p e in ap lines_of_text is.whole ∙ lines_behind p.0 p.1 is.first
