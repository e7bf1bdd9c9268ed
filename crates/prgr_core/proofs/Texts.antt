-- A text cut into lines, and the events of its lines one by one.
use Rattle.std.proofs.Common.{◌≡◌, ℕ, ◌+◌, ◌<◌, Bool, true, false, List, [], ◌∷◌, ◌++◌, length, Option, Some, None, Result, Ok, Err, refl, sym, ◌∙◌, ap, subst, arith, codes, length-append}
use Rattle.std.specs.Prelude.{option_map, if◌then◌else◌, ◌==◌}
use Rattle.std.specs.Str.{bytes_eq}
use Rattle.std.proofs.lemmas.Bool.{eqb-true}
use Rattle.prgr_core.specs.declared.event.PrgrEvent.{PrgrEvent}
use Rattle.prgr_core.specs.declared.fault.EventFault.{EventFault}
use Rattle.prgr_core.specs.declared.fault.EventFault.TheVariants as faults
use Rattle.prgr_core.specs.EventText.{line_feed}
use Rattle.prgr_core.specs.Reading.{◌>>=◌, Fails, with_first, cut_at, LinesOfEvents, ended_lines, event_lines_of, before_lines, line_by, or_fault, event_of, event_at, at_end, list_on}
use Rattle.prgr_core.proofs.Parts.{some_same}

-- the lines of a text that begins with this line
behind_line : (b : ℕ) (line : List ℕ) (others : List (List ℕ)) (tail : List ℕ) (whole : LinesOfEvents) → whole ≡ ended_lines (line ∷ others) tail → before_lines b whole.ended whole.tail ≡ ended_lines ((b ∷ line) ∷ others) tail
behind_line b line others tail whole is = ap (λ (w : LinesOfEvents). before_lines b w.ended w.tail) is

-- how a cut of one byte more comes from that of the rest
cut_some : (b : ℕ) (o : Option (List ℕ × List ℕ)) (p : List ℕ × List ℕ) → option_map (with_first b) o ≡ Some p → (q : List ℕ × List ℕ) × (o ≡ Some q) × (p ≡ with_first b q)
cut_some b None p e = absurd (cc)
cut_some b (Some q) p e = (q, refl, sym (some_same _ _ e))

cut_none : (b : ℕ) (o : Option (List ℕ × List ℕ)) → option_map (with_first b) o ≡ None → o ≡ None
cut_none b None e = refl
cut_none b (Some q) e = absurd (cc)

-- a cut parts the text at the byte
pub cut_parts : (c : ℕ) (text : List ℕ) (p : List ℕ × List ℕ) → cut_at c text ≡ Some p → text ≡ p.0 ++ c ∷ p.1
cut_parts c [] p e = absurd (cc)
cut_parts c (b ∷ bs) p e =
    elim (b == c) as (λ (t : Bool). (b == c) ≡ t → (if t then Some ([], bs) else option_map (with_first b) (cut_at c bs)) ≡ Some p → b ∷ bs ≡ p.0 ++ c ∷ p.1) [
      | true ↦ λ is found. let at = eqb-true b c is in let same = some_same ([], bs) p found in subst (λ (q : List ℕ × List ℕ). b ∷ bs ≡ q.0 ++ c ∷ q.1) same (ap (λ x. x ∷ bs) at)
      | false ↦ λ _ found. let more = cut_some b (cut_at c bs) p found in subst (λ (q : List ℕ × List ℕ). b ∷ bs ≡ q.0 ++ c ∷ q.1) (sym more.2) (ap (λ (l : List ℕ). b ∷ l) (cut_parts c bs more.0 more.1))
    ] refl e

-- the first line of a text is where it is cut
pub lines_of_cut : (text : List ℕ) (p : List ℕ × List ℕ) → cut_at line_feed text ≡ Some p → event_lines_of text ≡ ended_lines (p.0 ∷ (event_lines_of p.1).ended) (event_lines_of p.1).tail
lines_of_cut [] p e = absurd (cc)
lines_of_cut (b ∷ bs) p e =
    elim (b == line_feed) as (λ (t : Bool). (if t then Some ([], bs) else option_map (with_first b) (cut_at line_feed bs)) ≡ Some p → (if t then ended_lines ([] ∷ (event_lines_of bs).ended) (event_lines_of bs).tail else before_lines b (event_lines_of bs).ended (event_lines_of bs).tail) ≡ ended_lines (p.0 ∷ (event_lines_of p.1).ended) (event_lines_of p.1).tail) [
      | true ↦ λ found. let same = some_same ([], bs) p found in subst (λ (q : List ℕ × List ℕ). ended_lines ([] ∷ (event_lines_of bs).ended) (event_lines_of bs).tail ≡ ended_lines (q.0 ∷ (event_lines_of q.1).ended) (event_lines_of q.1).tail) same refl
      | false ↦ λ found. let more = cut_some b (cut_at line_feed bs) p found in subst (λ (q : List ℕ × List ℕ). before_lines b (event_lines_of bs).ended (event_lines_of bs).tail ≡ ended_lines (q.0 ∷ (event_lines_of q.1).ended) (event_lines_of q.1).tail) (sym more.2) (behind_line b more.0.0 (event_lines_of more.0.1).ended (event_lines_of more.0.1).tail (event_lines_of bs) (lines_of_cut bs more.0 more.1))
    ] e

-- a text with no line feed is a tail
pub lines_of_tail : (text : List ℕ) → cut_at line_feed text ≡ None → event_lines_of text ≡ ended_lines [] text
lines_of_tail [] e = refl
lines_of_tail (b ∷ bs) e =
    elim (b == line_feed) as (λ (t : Bool). (if t then Some ([], bs) else option_map (with_first b) (cut_at line_feed bs)) ≡ None → (if t then ended_lines ([] ∷ (event_lines_of bs).ended) (event_lines_of bs).tail else before_lines b (event_lines_of bs).ended (event_lines_of bs).tail) ≡ ended_lines [] (b ∷ bs)) [
      | true ↦ λ found. absurd (cc)
      | false ↦ λ found. ap (λ (w : LinesOfEvents). before_lines b w.ended w.tail) (lines_of_tail bs (cut_none b (cut_at line_feed bs) found))
    ] e

-- ---- one line of events

abbrev pub lines_on : ℕ → ℕ → ℕ → List PrgrEvent → List ℕ → Result (List PrgrEvent) ℕ
lines_on members watchers number events text = list_on members watchers number events (event_lines_of text).ended (event_lines_of text).tail

-- the list behind one line
abbrev pub one_line : ℕ → ℕ → ℕ → List PrgrEvent → List ℕ → Option PrgrEvent → Result (List PrgrEvent) ℕ
one_line members watchers number events rest None = at_end (number + 1) events (event_lines_of rest).ended (event_lines_of rest).tail
one_line members watchers number events rest (Some event) = lines_on members watchers (number + 1) (events ++ event ∷ []) rest

-- what the event of the first line says of the rest
abbrev pub GoesOn : ℕ → ℕ → ℕ → List PrgrEvent → List ℕ → Result (Option PrgrEvent × List ℕ) ℕ → Type 0
GoesOn members watchers number events text (Err line) = lines_on members watchers number events text ≡ Err line
GoesOn members watchers number events text (Ok p) = (length p.1 < length text) × (lines_on members watchers number events text ≡ one_line members watchers number events p.1 p.0)

by_event : (members watchers number : ℕ) (events : List PrgrEvent) (text line rest : List ℕ) (o : Option PrgrEvent) → length rest < length text → lines_on members watchers number events text ≡ (or_fault number o >>= (λ event. list_on members watchers (number + 1) (events ++ event ∷ []) (event_lines_of rest).ended (event_lines_of rest).tail)) → GoesOn members watchers number events text (or_fault number o >>= (λ event. Ok (Some event, rest)))
by_event members watchers number events text line rest None shorter is = is
by_event members watchers number events text line rest (Some event) shorter is = (shorter, is)

by_go : (members watchers number : ℕ) (events : List PrgrEvent) (text line rest : List ℕ) (b : Bool) → length rest < length text → lines_on members watchers number events text ≡ (if b then at_end (number + 1) events (event_lines_of rest).ended (event_lines_of rest).tail else (or_fault number (event_of members watchers line) >>= (λ event. list_on members watchers (number + 1) (events ++ event ∷ []) (event_lines_of rest).ended (event_lines_of rest).tail))) → GoesOn members watchers number events text (if b then Ok (None, rest) else (or_fault number (event_of members watchers line) >>= (λ event. Ok (Some event, rest))))
by_go members watchers number events text line rest true shorter is = (shorter, is)
by_go members watchers number events text line rest false shorter is = by_event members watchers number events text line rest (event_of members watchers line) shorter is

goes_by : (members watchers number : ℕ) (events : List PrgrEvent) (text : List ℕ) (o : Option (List ℕ × List ℕ)) → cut_at line_feed text ≡ o → GoesOn members watchers number events text (line_by number text o >>= (λ p. if bytes_eq p.0 (codes "go") then Ok (None, p.1) else (or_fault number (event_of members watchers p.0) >>= (λ event. Ok (Some event, p.1)))))
goes_by members watchers number events text None is = ap (λ (w : LinesOfEvents). list_on members watchers number events w.ended w.tail) (lines_of_tail text is)
goes_by members watchers number events text (Some p) is =
    let parts = cut_parts line_feed text p is in
    let shorter : length p.1 < length text = rw parts (simp length-append (omega arith)) in
    by_go members watchers number events text p.0 p.1 (bytes_eq p.0 (codes "go")) shorter (ap (λ (w : LinesOfEvents). list_on members watchers number events w.ended w.tail) (lines_of_cut text p is))

-- the event at the front of a text leads on to the rest of it
pub goes_on : (members watchers number : ℕ) (events : List PrgrEvent) (text : List ℕ) → GoesOn members watchers number events text (event_at members watchers number text)
goes_on members watchers number events text = goes_by members watchers number events text (cut_at line_feed text) refl

-- nothing may follow the last line
behind_end : (number b : ℕ) (events : List PrgrEvent) (others : List (List ℕ)) (tail : List ℕ) → at_end number events (before_lines b others tail).ended (before_lines b others tail).tail ≡ Err number
behind_end number b events [] tail = refl
behind_end number b events (line ∷ others) tail = refl

pub at_end_more : (number : ℕ) (events : List PrgrEvent) (text : List ℕ) → 0 < length text → at_end number events (event_lines_of text).ended (event_lines_of text).tail ≡ Err number
at_end_more number events [] some = absurd (omega arith)
at_end_more number events (b ∷ bs) some =
    elim (b == line_feed) as (λ (t : Bool). at_end number events (if t then ended_lines ([] ∷ (event_lines_of bs).ended) (event_lines_of bs).tail else before_lines b (event_lines_of bs).ended (event_lines_of bs).tail).ended (if t then ended_lines ([] ∷ (event_lines_of bs).ended) (event_lines_of bs).tail else before_lines b (event_lines_of bs).ended (event_lines_of bs).tail).tail ≡ Err number) [
      | true ↦ refl
      | false ↦ behind_end number b events (event_lines_of bs).ended (event_lines_of bs).tail
    ]

pub at_end_none : (number : ℕ) (events : List PrgrEvent) (text : List ℕ) → length text ≡ 0 → at_end number events (event_lines_of text).ended (event_lines_of text).tail ≡ Ok events
at_end_none number events [] none = refl
at_end_none number events (b ∷ bs) none = absurd (omega arith)

-- a fault of one line is that of the whole
pub fault_of_line : (members watchers number : ℕ) (events : List PrgrEvent) (text : List ℕ) (fault : EventFault) (whole : Result (List PrgrEvent) ℕ) → lines_on members watchers number events text ≡ whole → Fails fault (event_at members watchers number text) → Fails fault whole
fault_of_line members watchers number events text (faults.Syntax line) whole is e = sym is ∙ subst (GoesOn members watchers number events text) e (goes_on members watchers number events text)
fault_of_line members watchers number events text faults.NoMemory whole is e = tt

-- an event leads on, to a shorter rest
pub event_leads : (members watchers number : ℕ) (events : List PrgrEvent) (text rest : List ℕ) (event : PrgrEvent) → event_at members watchers number text ≡ Ok (Some event, rest) → (length rest < length text) × (lines_on members watchers number events text ≡ lines_on members watchers (number + 1) (events ++ event ∷ []) rest)
event_leads members watchers number events text rest event e = subst (GoesOn members watchers number events text) e (goes_on members watchers number events text)

-- `go` ends the list, unless something follows
pub go_ends : (members watchers number : ℕ) (events : List PrgrEvent) (text rest : List ℕ) → event_at members watchers number text ≡ Ok (None, rest) → lines_on members watchers number events text ≡ at_end (number + 1) events (event_lines_of rest).ended (event_lines_of rest).tail
go_ends members watchers number events text rest e = let goes : GoesOn members watchers number events text (Ok (None, rest)) = subst (GoesOn members watchers number events text) e (goes_on members watchers number events text) in goes.1

-- what was found, named
pub event_is : (o : Option PrgrEvent) (read : Result (Option PrgrEvent × List ℕ) ℕ) (rest : List ℕ) (e : Option PrgrEvent) → read ≡ Ok (o, rest) → o ≡ e → read ≡ Ok (e, rest)
event_is o read rest e is same = subst (λ (x : Option PrgrEvent). read ≡ Ok (x, rest)) same is
