-- The fault of the scan is the least place at which no term's text goes on.
use Rattle.std.proofs.Common.{◌≡◌, ℕ, suc, ◌+◌, ◌<◌, ◌⊎◌, inl, inr, Bool, true, false, cond, List, [], ◌∷◌, ◌++◌, length, take, drop, Option, None, Some, refl, sym, ap, ◌∙◌, subst, arith, add-one}
use Rattle.term_core.specs.declared.byte_kind.Bracket.{Bracket}
use Rattle.term_core.specs.declared.byte_kind.Bracket.TheVariants.{Curly, Square}
use Rattle.term_core.specs.declared.scan.Place.{Place}
use Rattle.term_core.specs.declared.scan.Place.TheVariants.{TermStart, AfterOpen, AfterMinus, InDigits, InName, AfterTerm}
use Rattle.term_core.specs.Faults.{IsTextOf, BeginsTermText, SyntaxAt}
use Rattle.term_core.specs.Scanning.{Scanned, stepped, stepped_on, run, ends, at_start, place_behind, syntax_fault}
use Rattle.term_core.specs.Written.{WrittenTerm, place_or}
use Rattle.term_core.proofs.ByteKinds.{closing}
use Rattle.term_core.proofs.LeafTexts.{IsDelimited}
use Rattle.term_core.proofs.Scanning.Runs.{accepts, accepts_digits_end, accepts_name_end}
use Rattle.term_core.proofs.Scanning.Sound.{run-none, FormOf, accepted_text}
use Rattle.term_core.proofs.Scanning.Terms.{accepts_is}
use Rattle.term_core.proofs.WrittenTokens.{delimited_closing}
use Rattle.term_core.proofs.Truths.{false_is_no_true}
use Rattle.term_core.proofs.Text.Options.{some_is}

-- two texts are run one after the other
pub run-append : (s : Option Scanned) (text more : List ℕ) → run s (text ++ more) ≡ run (run s text) more
run-append s [] more = refl
run-append s (c ∷ text) more = run-append (stepped_on s c) text more

-- the closing brackets of open ones
closers : List Bracket → List ℕ
closers [] = []
closers (b ∷ outer) = closing b ∷ closers outer

-- they delimit
delimited_closers : (brackets : List Bracket) → IsDelimited (closers brackets)
unfolding closers
delimited_closers [] = tt
delimited_closers (b ∷ outer) = delimited_closing b (closers outer)

-- they are accepted behind a term
accepts_closers : (brackets : List Bracket) → accepts AfterTerm brackets (closers brackets) ≡ true
unfolding closers
accepts_closers [] = refl
accepts_closers (Curly ∷ outer) = accepts_closers outer
accepts_closers (Square ∷ outer) = accepts_closers outer

-- something that is accepted
record Accepted (place : Place) (brackets : List Bracket) : Type 0 where
  rest : List ℕ
  passes : accepts place brackets rest ≡ true

-- behind an opening bracket
after_open_goes_on : (brackets : List Bracket) → Accepted AfterOpen brackets
after_open_goes_on [] = record { rest = 48 ∷ []; passes = refl }
after_open_goes_on (Curly ∷ outer) = record { rest = 125 ∷ closers outer; passes = accepts_closers outer }
after_open_goes_on (Square ∷ outer) = record { rest = 93 ∷ closers outer; passes = accepts_closers outer }

-- at each place some text goes on
goes_on : (place : Place) (brackets : List Bracket) → Accepted place brackets
goes_on TermStart brackets = record { rest = 48 ∷ closers brackets; passes = accepts_closers brackets }
goes_on AfterOpen brackets = after_open_goes_on brackets
goes_on AfterMinus brackets = record { rest = 49 ∷ closers brackets; passes = accepts_digits_end brackets (closers brackets) (delimited_closers brackets) ∙ accepts_closers brackets }
goes_on InDigits brackets = record { rest = closers brackets; passes = accepts_digits_end brackets (closers brackets) (delimited_closers brackets) ∙ accepts_closers brackets }
goes_on (InName count) brackets = record { rest = closers brackets; passes = accepts_name_end brackets count (closers brackets) (delimited_closers brackets) ∙ accepts_closers brackets }
goes_on AfterTerm brackets = record { rest = closers brackets; passes = accepts_closers brackets }

-- a term's text is accepted
pub text_accepted : (text : List ℕ) (form : WrittenTerm) → IsTextOf text form → ends (run at_start text) ≡ true
text_accepted text form h = ap (λ t. ends (run at_start t)) h.whole ∙ accepts_is form h.leaves

-- where the scan has not stopped, some term's text begins so
pub begins_if : (front : List ℕ) (s : Scanned) → run at_start front ≡ Some s → BeginsTermText front
begins_if front s h =
    let more = goes_on s.place s.brackets in
    let all = accepted_text (front ++ more.rest) (ap ends (run-append at_start front more.rest) ∙ ap (λ o. ends (run o more.rest)) h ∙ more.passes) in
    record { rest = more.rest; form = all.form; is_text = all.is_text }

-- where it has stopped, none does
pub begins_not : (front : List ℕ) → run at_start front ≡ None → BeginsTermText front → ⊥
begins_not front h b =
    false_is_no_true (sym (ap ends (run-append at_start front b.rest) ∙ ap (λ o. ends (run o b.rest)) h ∙ ap ends (run-none b.rest)) ∙ text_accepted (front ++ b.rest) b.form b.is_text)

-- where a scan stops in a text: it goes on up to there, and no further
pub record Stops (s : Option Scanned) (text : List ℕ) (at : ℕ) : Type 0 where
  pub last : Scanned
  pub goes : run s (take at text) ≡ Some last
  pub stops : ((at ≡ length text) × (ends (run s text) ≡ false)) ⊎ ((at < length text) × (run s (take (at + 1) text) ≡ None))

-- the same at an equal place
stops_at : (s : Option Scanned) (text : List ℕ) (i j : ℕ) → i ≡ j → Stops s text i → Stops s text j
stops_at s text i j e h = subst (Stops s text) e h

-- one byte further
stops_next : (s t : Scanned) (c : ℕ) (rest : List ℕ) (j : ℕ) → stepped s.place s.brackets c ≡ Some t → Stops (Some t) rest j → Stops (Some s) (c ∷ rest) (suc j)
stops_next s t c rest j step h = record {
  last = h.last;
  goes = ap (λ o. run o (take j rest)) step ∙ h.goes;
  stops = elim h.stops [
    | inl e ↦ inl (omega (arith, e.0), ap (λ o. ends (run o rest)) step ∙ e.1)
    | inr l ↦ inr (omega (arith, l.0), ap (λ n. run (Some s) (take n (c ∷ rest))) (add-one (suc j)) ∙ ap (λ n. run (stepped s.place s.brackets c) (take n rest)) (sym (add-one j)) ∙ ap (λ o. run o (take (j + 1) rest)) step ∙ l.1)
  ];
}

-- a shifted place
shifted : (o : Option ℕ) (i : ℕ) → place_or None 1 o ≡ Some i → (j : ℕ) × (o ≡ Some j) × (suc j ≡ i)
shifted None i e = cc
shifted (Some j) i e = (j, refl, omega (arith, some_is (1 + j) i e))

-- no byte is taken
stops_first : (s : Scanned) (c : ℕ) (rest : List ℕ) → stepped s.place s.brackets c ≡ None → Stops (Some s) (c ∷ rest) 0
stops_first s c rest step = record { last = s; goes = refl; stops = inr (omega arith, step) }

-- at the end
stops_end : (s : Scanned) → ends (Some s) ≡ false → Stops (Some s) [] 0
stops_end s e = record { last = s; goes = refl; stops = inl (refl, e) }

-- the fault at the end
end_fault : (s : Scanned) (b : Bool) (i : ℕ) → ends (Some s) ≡ b → cond {A = Option ℕ} b None (Some 0) ≡ Some i → Stops (Some s) [] i
end_fault s true i e h = cc
end_fault s false i e h = stops_at (Some s) [] 0 i (some_is 0 i h) (stops_end s e)

-- behind a byte
fault_behind : (rest : List ℕ) → ((t : Scanned) (j : ℕ) → syntax_fault (Some t) rest ≡ Some j → Stops (Some t) rest j) → (s : Scanned) (c i : ℕ) (o : Option Scanned) → stepped s.place s.brackets c ≡ o → place_behind o (syntax_fault o rest) ≡ Some i → Stops (Some s) (c ∷ rest) i
fault_behind rest later s c i None step h = stops_at (Some s) (c ∷ rest) 0 i (some_is 0 i h) (stops_first s c rest step)
fault_behind rest later s c i (Some t) step h =
    let at = shifted (syntax_fault (Some t) rest) i h in
    stops_at (Some s) (c ∷ rest) (suc at.0) i at.2 (stops_next s t c rest at.0 step (later t at.0 at.1))

-- the fault is where the scan stops
pub fault_stops : (text : List ℕ) (s : Scanned) (i : ℕ) → syntax_fault (Some s) text ≡ Some i → Stops (Some s) text i
fault_stops [] s i h = end_fault s (ends (Some s)) i refl h
fault_stops (c ∷ rest) s i h = fault_behind rest (λ t j. fault_stops rest t j) s c i (stepped s.place s.brackets c) refl h

-- no fault at the end
end_passes : (s : Scanned) (b : Bool) → ends (Some s) ≡ b → cond {A = Option ℕ} b None (Some 0) ≡ None → ends (Some s) ≡ true
end_passes s true e h = e
end_passes s false e h = cc

-- no shifted place is none
shifted_none : (o : Option ℕ) → place_or None 1 o ≡ None → o ≡ None
shifted_none None h = refl
shifted_none (Some i) h = cc

-- behind a byte
passes_behind : (rest : List ℕ) → ((t : Scanned) → syntax_fault (Some t) rest ≡ None → ends (run (Some t) rest) ≡ true) → (o : Option Scanned) → place_behind o (syntax_fault o rest) ≡ None → ends (run o rest) ≡ true
passes_behind rest later None h = cc
passes_behind rest later (Some t) h = later t (shifted_none (syntax_fault (Some t) rest) h)

-- where there is no fault, the text is accepted
pub no_fault : (text : List ℕ) (s : Scanned) → syntax_fault (Some s) text ≡ None → ends (run (Some s) text) ≡ true
no_fault [] s h = end_passes s (ends (Some s)) refl h
no_fault (c ∷ rest) s h = passes_behind rest (λ t. no_fault rest t) (stepped s.place s.brackets c) h

-- what is cut off behind some place is what it was cut from
pub cut_again : (at : ℕ) (text : List ℕ) → take at text ++ drop at text ≡ text
cut_again (suc at) (c ∷ rest) = ap (λ t. c ∷ t) (cut_again at rest)
cut_again at text = refl

-- where it stops before the end, the text is not accepted
pub not_accepted : (text : List ℕ) (at : ℕ) → Stops at_start text at → ends (run at_start text) ≡ true → ⊥
not_accepted text at s passes = elim s.stops [
  | inl e ↦ false_is_no_true (sym e.1 ∙ passes)
  | inr l ↦
      let whole = cut_again (at + 1) text in
      false_is_no_true (sym (ap (λ t. ends (run at_start t)) (sym whole) ∙ ap ends (run-append at_start (take (at + 1) text) (drop (at + 1) text)) ∙ ap (λ o. ends (run o (drop (at + 1) text))) l.1 ∙ ap ends (run-none (drop (at + 1) text))) ∙ passes)
]

-- the start
abbrev pub start : Scanned
start = record { place = TermStart; brackets = [] }

-- so it is a term's
pub text_if : (text : List ℕ) → syntax_fault at_start text ≡ None → FormOf text
text_if text h = accepted_text text (no_fault text start h)

-- the place of the fault of a text that is none
pub SyntaxAt-fault : (text : List ℕ) (at : ℕ) → syntax_fault at_start text ≡ Some at → SyntaxAt text at
SyntaxAt-fault text at h =
    let s = fault_stops text start at h in
    record {
      no_form = λ form is_text. not_accepted text at s (text_accepted text form is_text);
      goes_on = begins_if (take at text) s.last s.goes;
      stops = elim s.stops [
        | inl e ↦ inl e.0
        | inr l ↦ inr (l.0, begins_not (take (at + 1) text) l.1)
      ];
    }
