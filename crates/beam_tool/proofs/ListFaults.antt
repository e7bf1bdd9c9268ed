-- The first line of another form of a text that is no list of events: there is one such line.
use Rattle.std.proofs.Common.{◌≡◌, ℕ, ◌-◌, ◌≤◌, List, [], ◌∷◌, ◌++◌, take, drop, Result, Ok, Err, refl, sym, ◌∙◌, ap, subst, arith, ◌⊎◌, inl, inr}
use Rattle.std.proofs.lemmas.Bool.{cases_lt}
use Rattle.std.proofs.lemmas.List.{take-append-drop, take-take}
use Rattle.prgr_core.specs.EventText.{EventText, line_then}
use Rattle.prgr_core.specs.Reading.{event_lines_of, reading}
use Rattle.prgr_core.specs.Faults.{IsFirstFault, IsLast, IsOfNoForm, IsUnended, Opens, joined}
use Rattle.prgr_core.proofs.FirstFaults.{first_fault}
use Rattle.prgr_core.proofs.Grammars.{reading_complete}
use Rattle.beam_tool.specs.TopCall.{IsListFault}

-- two answers to one text differ
apart : {A B : Type 0} {a : A} {b : B} (r : Result A B) → r ≡ Ok a → r ≡ Err b → ⊥
apart r e f = cc

joined_more : (ls more : List (List ℕ)) (rest : List ℕ) → joined (ls ++ more) rest ≡ joined ls (joined more rest)
joined_more [] more rest = refl
joined_more (line ∷ ls) more rest = ap (line_then line) (joined_more ls more rest)

opens_front : (ls more : List (List ℕ)) → Opens (ls ++ more) → Opens ls
opens_front ls more opens = (opens.0, joined more opens.1, subst (λ (x : List ℕ). EventText x opens.0) (joined_more ls more opens.1) opens.2)

-- what begins with lines begins with fewer of them
opens_less : (ls : List (List ℕ)) (m n : ℕ) → m ≤ n → Opens (take n ls) → Opens (take m ls)
opens_less ls m n fewer opens =
    opens_front (take m ls) (drop m (take n ls))
    (subst (λ (x : List (List ℕ)). Opens (x ++ drop m (take n ls))) (take-take m n ls fewer) (subst Opens (sym (take-append-drop m (take n ls))) opens))

all_less : (ls : List (List ℕ)) (m : ℕ) → Opens ls → Opens (take m ls)
all_less ls m opens = opens_front (take m ls) (drop m ls) (subst Opens (sym (take-append-drop m ls)) opens)

-- where the lines up to this one begin no text, no later line is the first of another form
no_later : (text : List ℕ) (m n : ℕ) → IsOfNoForm (event_lines_of text) m → Opens (take (n - 1) (event_lines_of text).ended) → n ≤ m
no_later text m n none opens = elim (cases_lt m n) as (λ _. n ≤ m) [
  | inl fewer ↦ absurd (none.1 (opens_less (event_lines_of text).ended m (n - 1) (omega (arith, fewer)) opens))
  | inr more ↦ more
]

-- where all lines begin a text, so do those up to each of them
none_last : (text : List ℕ) (m n : ℕ) → IsOfNoForm (event_lines_of text) m → IsLast (event_lines_of text) n → ⊥
none_last text m n none last = none.1 (all_less (event_lines_of text).ended m last.2)

-- one way in which a line is at fault
abbrev Kind : List ℕ → ℕ → Type 0
Kind text line = IsOfNoForm (event_lines_of text) line ⊎ (IsUnended (event_lines_of text) line ⊎ IsLast (event_lines_of text) line)

same_line : (text : List ℕ) (m n : ℕ) → IsFirstFault text m → IsFirstFault text n → Kind text m → Kind text n → m ≡ n
same_line text m n f g (inl a) (inl b) = omega (arith, no_later text m n a g.before, no_later text n m b f.before)
same_line text m n f g (inl a) (inr (inl v)) = absurd (omega (arith, no_later text m n a g.before, a.0, v.0))
same_line text m n f g (inl a) (inr (inr l)) = absurd (none_last text m n a l)
same_line text m n f g (inr (inl u)) (inl b) = absurd (omega (arith, no_later text n m b f.before, b.0, u.0))
same_line text m n f g (inr (inl u)) (inr (inl v)) = omega (arith, u.0, v.0)
same_line text m n f g (inr (inl u)) (inr (inr l)) = absurd (omega (arith, u.1, l.1))
same_line text m n f g (inr (inr k)) (inl b) = absurd (none_last text n m b k)
same_line text m n f g (inr (inr k)) (inr (inl v)) = absurd (omega (arith, k.1, v.1))
same_line text m n f g (inr (inr k)) (inr (inr l)) = k.0 ∙ sym l.0

-- a text has one first line of another form
pub one_fault : (text : List ℕ) (m n : ℕ) → IsFirstFault text m → IsFirstFault text n → m ≡ n
one_fault text m n f g = same_line text m n f g f.fault g.fault

-- what the reader refuses is no list of events, and this is its first line of another form
pub list_fault : (text : List ℕ) (line : ℕ) → reading text ≡ Err line → IsListFault text line
list_fault text line e = record {
  none = λ events t. apart (reading text) (reading_complete text events t) e;
  first = first_fault text line e;
  only = λ other f. one_fault text other line f (first_fault text line e);
}
