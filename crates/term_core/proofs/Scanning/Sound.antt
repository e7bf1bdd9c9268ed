-- What the scan accepts is the text of a written term.
use Rattle.std.proofs.Common.{◌≡◌, ℕ, ◌+◌, ◌<◌, Bool, true, false, cond, ◌&&◌, nat_lt, List, [], ◌∷◌, ◌++◌, Option, None, Some, refl, sym, ap, ◌∙◌, arith}
use Rattle.std.specs.Char.{is_ascii_digit}
use Rattle.std.specs.List.{list_all}
use Rattle.std.proofs.lemmas.Bool.Decides.{nat_tests}
use Rattle.std.proofs.lemmas.List.{append_assoc, append-nil}
use Rattle.term_core.specs.declared.byte_kind.Bracket.{Bracket}
use Rattle.term_core.specs.declared.byte_kind.ByteKind.{ByteKind}
use Rattle.term_core.specs.declared.byte_kind.ByteKind.TheVariants.{Close, Zero, Digit, Letter, NameByte}
use Rattle.term_core.specs.declared.scan.Place.{Place}
use Rattle.term_core.specs.declared.scan.Place.TheVariants.{TermStart, AfterOpen, AfterMinus, InDigits, InName, AfterTerm}
use Rattle.term_core.specs.declared.scan.Move.TheVariants.{To}
use Rattle.term_core.specs.Bytes.{kind_of}
use Rattle.term_core.specs.Faults.{IsTextOf}
use Rattle.term_core.specs.Names.{is_name_byte}
use Rattle.term_core.specs.PlainTerm.{no_terms, term_then}
use Rattle.term_core.specs.Scanning.{Scanned, after_open, after_minus, after_digit, after_name, stepped, run, ends, is_end, is_end_place}
use Rattle.term_core.specs.Tops.{top_of}
use Rattle.term_core.specs.Written.{WrittenTerm, written, behind, is_positive_text}
use Rattle.term_core.proofs.ByteKinds.{closing, IsOfKind, kind_is, is_digit_kind, is_name_kind, digit_kind, name_kind}
use Rattle.term_core.proofs.Scanning.Runs.{accepts}
use Rattle.term_core.proofs.Scanning.Rests.{TermThen, RowThen, LeafThen, NameMore, Rest, RestOn, RestMoved, begun_back, closed_back, ended_back, no_more, one_more}
use Rattle.term_core.proofs.Truths.{false_is_no_true}

-- a term behind an opening bracket is the first of a row
row_back : (brackets : List Bracket) (text : List ℕ) → TermThen brackets text → RowThen brackets text
row_back [] text h = h
row_back (b ∷ outer) text h =
    let more = h.closes in
    (term_then h.form more.0, more.1, (h.leaves, more.2), h.whole ∙ ap (λ t. written h.form ++ t) more.3 ∙ sym (append_assoc (written h.form) (behind more.0) (closing b ∷ more.1)), more.4)

-- what stands behind an opening bracket
open_back : (brackets : List Bracket) (kind : ByteKind) (c : ℕ) (rest : List ℕ) → IsOfKind c kind → RestMoved brackets (after_open (top_of brackets) kind) rest → RowThen brackets (c ∷ rest)
open_back [] (Close d) c rest is h = absurd h
open_back (b ∷ outer) (Close d) c rest is h = let back = closed_back b d outer c rest is h in (no_terms, rest, tt, back.0, back.1)
open_back brackets kind c rest is h = row_back brackets (c ∷ rest) (begun_back brackets kind c rest is h)

-- what stands behind a minus
minus_back : (brackets : List Bracket) (kind : ByteKind) (c : ℕ) (rest : List ℕ) → IsOfKind c kind → RestMoved brackets (after_minus kind) rest → LeafThen (λ digits. is_positive_text digits ≡ true) brackets (c ∷ rest)
minus_back brackets Digit c rest is h = one_more (λ digits. list_all is_ascii_digit digits ≡ true) (λ digits. is_positive_text digits ≡ true) brackets c rest (λ digits all. ap (λ b. b && list_all is_ascii_digit digits) is ∙ all) h
minus_back brackets kind c rest is h = absurd h

-- digits that may follow
abbrev AllDigits : List ℕ → Type 0
AllDigits digits = list_all is_ascii_digit digits ≡ true

-- a digit and what follows
digit_back : (brackets : List Bracket) (c : ℕ) (rest : List ℕ) → is_ascii_digit c ≡ true → LeafThen AllDigits brackets rest → LeafThen AllDigits brackets (c ∷ rest)
digit_back brackets c rest is h = one_more AllDigits AllDigits brackets c rest (λ digits all. ap (λ b. b && list_all is_ascii_digit digits) is ∙ all) h

-- what stands behind a digit
digits_back : (brackets : List Bracket) (kind : ByteKind) (c : ℕ) (rest : List ℕ) → IsOfKind c kind → is_ascii_digit c ≡ is_digit_kind kind → RestMoved brackets (after_digit (top_of brackets) kind) rest → LeafThen AllDigits brackets (c ∷ rest)
digits_back brackets Zero c rest is digit h = digit_back brackets c rest digit h
digits_back brackets Digit c rest is digit h = digit_back brackets c rest digit h
digits_back brackets kind c rest is digit h = no_more AllDigits brackets (c ∷ rest) refl (ended_back brackets kind c rest is h)

-- no byte more
no_name : (count : ℕ) → NameMore count []
no_name count = record { all = refl; room = omega arith }

-- the test of the room
less_of : (count : ℕ) → nat_lt count 32 ≡ true → count < 32
less_of count test = grind (arith, nat_tests)

-- one byte more, by the test of the room
named_back : (brackets : List Bracket) (count c : ℕ) (rest : List ℕ) → is_name_byte c ≡ true → (b : Bool) → nat_lt count 32 ≡ b → RestMoved brackets (cond b (Some (To (InName (count + 1)))) None) rest → LeafThen (NameMore count) brackets (c ∷ rest)
named_back brackets count c rest is true test h =
    let less : count < 32 = less_of count test in
    one_more (NameMore (count + 1)) (NameMore count) brackets c rest (λ bytes more. record { all = ap (λ b. b && list_all is_name_byte bytes) is ∙ more.all; room = omega (arith, more.room, less) }) h
named_back brackets count c rest is false test h = absurd h

-- what stands behind a byte of a name
name_back : (brackets : List Bracket) (count : ℕ) (kind : ByteKind) (c : ℕ) (rest : List ℕ) → IsOfKind c kind → is_name_byte c ≡ is_name_kind kind → RestMoved brackets (after_name (top_of brackets) count kind) rest → LeafThen (NameMore count) brackets (c ∷ rest)
name_back brackets count Zero c rest is name h = named_back brackets count c rest name (nat_lt count 32) refl h
name_back brackets count Digit c rest is name h = named_back brackets count c rest name (nat_lt count 32) refl h
name_back brackets count Letter c rest is name h = named_back brackets count c rest name (nat_lt count 32) refl h
name_back brackets count NameByte c rest is name h = named_back brackets count c rest name (nat_lt count 32) refl h
name_back brackets count kind c rest is name h = no_more (NameMore count) brackets (c ∷ rest) (no_name count) (ended_back brackets kind c rest is h)

-- a byte, and what may follow it, may follow
step_back : (place : Place) (brackets : List Bracket) (c : ℕ) (rest : List ℕ) → RestOn (stepped place brackets c) rest → Rest place brackets (c ∷ rest)
step_back TermStart brackets c rest h = begun_back brackets (kind_of c) c rest (kind_is c) h
step_back AfterOpen brackets c rest h = open_back brackets (kind_of c) c rest (kind_is c) h
step_back AfterMinus brackets c rest h = minus_back brackets (kind_of c) c rest (kind_is c) h
step_back InDigits brackets c rest h = digits_back brackets (kind_of c) c rest (kind_is c) (digit_kind c) h
step_back (InName count) brackets c rest h = name_back brackets count (kind_of c) c rest (kind_is c) (name_kind c) h
step_back AfterTerm brackets c rest h = ended_back brackets (kind_of c) c rest (kind_is c) h

-- the end may follow where a term ends
end_back : (place : Place) → is_end_place place ≡ true → Rest place [] []
end_back InDigits h = no_more AllDigits [] [] refl refl
end_back (InName count) h = no_more (NameMore count) [] [] (no_name count) refl
end_back AfterTerm h = refl
end_back place h = cc

-- where it has stopped, nothing is accepted
pub run-none : (text : List ℕ) → run None text ≡ None
run-none [] = refl
run-none (c ∷ rest) = run-none rest

-- nor is anything at the end that leaves a bracket open
accepted_end : (place : Place) (brackets : List Bracket) → is_end place brackets ≡ true → Rest place brackets []
accepted_end place [] h = end_back place h
accepted_end place (b ∷ outer) h = cc

-- what is accepted may follow, where it does behind a byte
accepted_on : (rest : List ℕ) → ((place : Place) (brackets : List Bracket) → accepts place brackets rest ≡ true → Rest place brackets rest) → (s : Option Scanned) → ends (run s rest) ≡ true → RestOn s rest
accepted_on rest later None h = absurd (false_is_no_true (sym (ap ends (run-none rest)) ∙ h))
accepted_on rest later (Some s) h = later s.place s.brackets h

-- what is accepted may follow
pub accepted : (text : List ℕ) (place : Place) (brackets : List Bracket) → accepts place brackets text ≡ true → Rest place brackets text
accepted [] place brackets h = accepted_end place brackets h
accepted (c ∷ rest) place brackets h = step_back place brackets c rest (accepted_on rest (accepted rest) (stepped place brackets c) h)

-- the written term of a text
pub record FormOf (text : List ℕ) : Type 0 where
  pub form : WrittenTerm
  pub is_text : IsTextOf text form

-- what is accepted from the start is a term's text
pub accepted_text : (text : List ℕ) → accepts TermStart [] text ≡ true → FormOf text
accepted_text text h =
    let all = accepted text TermStart [] h in
    record { form = all.form; is_text = record { whole = all.whole ∙ ap (λ t. written all.form ++ t) all.closes ∙ append-nil (written all.form); leaves = all.leaves } }
