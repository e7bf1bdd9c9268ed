-- The reading line by line, and the fault of the lines of events: the line that is refused whatever follows it, or the last.
use Rattle.std.proofs.Common.{◌≡◌, ℕ, suc, ◌+◌, ◌-◌, ◌<◌, Bool, true, false, List, [], ◌∷◌, ◌++◌, length, take, Option, Some, None, Result, Ok, Err, refl, sym, ◌∙◌, ap, arith, codes, ◌⊎◌, inl, inr}
use Rattle.std.specs.Prelude.{if◌then◌else◌, nat_lt, ◌&&◌}
use Rattle.std.specs.List.{AllByRecursion}
use Rattle.std.specs.Str.{bytes_eq}
use Rattle.std.proofs.lemmas.Bool.{ne_eqb, lt-ltb}
use Rattle.prgr_core.specs.declared.member.TheConstants.{MOST_MEMBERS}
use Rattle.prgr_core.specs.declared.watcher.TheConstants.{MOST_WATCHERS}
use Rattle.prgr_core.specs.declared.event.Events.{Events}
use Rattle.prgr_core.specs.declared.event.PrgrEvent.{PrgrEvent}
use Rattle.prgr_core.specs.EventText.{space, line_feed, event_text, line_then, list_text, IsAllowed}
use Rattle.prgr_core.specs.Reading.{◌>>=◌, cut_at, LinesOfEvents, event_lines_of, event_of, count_by, end_fault, line_by, line_at, or_fault, count_at, at_end, list_on, list_at, reading}
use Rattle.prgr_core.specs.Faults.{joined}
use Rattle.prgr_core.proofs.Texts.{lines_of_cut, lines_of_tail}
use Rattle.prgr_core.proofs.EventLines.{event_of_sound, same_bytes}

-- ---- the reading, line by line

abbrev pub whole : ℕ → ℕ → List PrgrEvent → Events
whole members watchers list = record { members = members; watchers = watchers; list = list }

abbrev pub list_stage : ℕ → ℕ → List (List ℕ) → List ℕ → Result Events ℕ
list_stage m w ls tail = list_on m w 4 [] ls tail >>= (λ list. Ok (whole m w list))

abbrev pub count_of : ℕ → List ℕ → ℕ → ℕ → List ℕ → Result ℕ ℕ
count_of number word least most line = or_fault number (count_by word least most (cut_at space line))

-- a line that gives a count, and then the others
abbrev pub counted : ℕ → List ℕ → ℕ → ℕ → (ℕ → List (List ℕ) → List ℕ → Result Events ℕ) → List (List ℕ) → List ℕ → Result Events ℕ
counted number word least most g [] tail = Err (end_fault number tail)
counted number word least most g (line ∷ others) tail = count_of number word least most line >>= (λ n. g n others tail)

abbrev pub watchers_on : ℕ → List (List ℕ) → List ℕ → Result Events ℕ
watchers_on m = counted 3 (codes "watchers") 0 MOST_WATCHERS (list_stage m)

abbrev pub members_on : List (List ℕ) → List ℕ → Result Events ℕ
members_on = counted 2 (codes "members") 1 MOST_MEMBERS watchers_on

abbrev pub head_on : List (List ℕ) → List ℕ → Result Events ℕ
head_on [] tail = Err (end_fault 1 tail)
head_on (line ∷ others) tail = if bytes_eq line (codes "beam progress 1") then members_on others tail else Err 1

bind_bind : {A B C : Type 0} (r : Result A ℕ) (f : A → Result B ℕ) (g : B → Result C ℕ) → ((r >>= f) >>= g) ≡ (r >>= (λ x. f x >>= g))
bind_bind (Ok x) f g = refl
bind_bind (Err line) f g = refl

bind_if : {A B : Type 0} (b : Bool) (x : A) (line : ℕ) (g : A → Result B ℕ) → ((if b then Ok x else Err line) >>= g) ≡ (if b then g x else Err line)
bind_if true x line g = refl
bind_if false x line g = refl

-- one line of a text is the first of its lines
stage : (number : ℕ) (text : List ℕ) (f : List ℕ × List ℕ → Result Events ℕ) (g : List (List ℕ) → List ℕ → Result Events ℕ) → ((tail : List ℕ) → Err (end_fault number tail) ≡ g [] tail) → ((p : List ℕ × List ℕ) → f p ≡ g (p.0 ∷ (event_lines_of p.1).ended) (event_lines_of p.1).tail) → (line_at number text >>= f) ≡ g (event_lines_of text).ended (event_lines_of text).tail
stage number text f g ends goes =
    elim (cut_at line_feed text) as (λ (o : Option (List ℕ × List ℕ)). cut_at line_feed text ≡ o → (line_by number text o >>= f) ≡ g (event_lines_of text).ended (event_lines_of text).tail) [
      | None ↦ λ cut. ends text ∙ ap (λ (w : LinesOfEvents). g w.ended w.tail) (sym (lines_of_tail text cut))
      | Some p ↦ λ cut. goes p ∙ ap (λ (w : LinesOfEvents). g w.ended w.tail) (sym (lines_of_cut text p cut))
    ] refl

count_stage : (number : ℕ) (word : List ℕ) (least most : ℕ) (f : ℕ × List ℕ → Result Events ℕ) (g : ℕ → List (List ℕ) → List ℕ → Result Events ℕ) → ((n : ℕ) (rest : List ℕ) → f (n, rest) ≡ g n (event_lines_of rest).ended (event_lines_of rest).tail) → (text : List ℕ) → (count_at number word least most text >>= f) ≡ counted number word least most g (event_lines_of text).ended (event_lines_of text).tail
count_stage number word least most f g goes text =
    bind_bind (line_at number text) _ _
    ∙ stage number text _ (counted number word least most g) (λ tail. refl) (λ p. behind (count_by word least most (cut_at space p.0)) p.1)
  where
    behind : (o : Option ℕ) (rest : List ℕ) → ((or_fault number o >>= (λ n. Ok (n, rest))) >>= f) ≡ (or_fault number o >>= (λ n. g n (event_lines_of rest).ended (event_lines_of rest).tail))
    behind None rest = refl
    behind (Some n) rest = goes n rest

watchers_stage : (m : ℕ) (text : List ℕ) → (count_at 3 (codes "watchers") 0 MOST_WATCHERS text >>= (λ p. list_at m p.0 p.1 >>= (λ list. Ok (whole m p.0 list)))) ≡ watchers_on m (event_lines_of text).ended (event_lines_of text).tail
watchers_stage m text = count_stage 3 (codes "watchers") 0 MOST_WATCHERS _ (list_stage m) (λ w rest. refl) text

members_stage : (text : List ℕ) → (count_at 2 (codes "members") 1 MOST_MEMBERS text >>= (λ q. count_at 3 (codes "watchers") 0 MOST_WATCHERS q.1 >>= (λ p. list_at q.0 p.0 p.1 >>= (λ list. Ok (whole q.0 p.0 list))))) ≡ members_on (event_lines_of text).ended (event_lines_of text).tail
members_stage text = count_stage 2 (codes "members") 1 MOST_MEMBERS _ watchers_on (λ m rest. watchers_stage m rest) text

-- the reading is that of the lines
pub by_lines : (text : List ℕ) → reading text ≡ head_on (event_lines_of text).ended (event_lines_of text).tail
by_lines text =
    bind_bind (line_at 1 text) _ _
    ∙ stage 1 text _ head_on (λ tail. refl) (λ p. bind_if (bytes_eq p.0 (codes "beam progress 1")) p.1 1 _ ∙ ap (λ (r : Result Events ℕ). if bytes_eq p.0 (codes "beam progress 1") then r else Err 1) (members_stage p.1))

-- ---- the fault of the lines of events

pub err_same : {A : Type 0} (m n : ℕ) → ◌≡◌ {A = Result A ℕ} (Err m) (Err n) → m ≡ n
err_same m n e = (cc)

pub ok_err : {A : Type 0} (x : A) (n : ℕ) → ◌≡◌ {A = Result A ℕ} (Ok x) (Err n) → ⊥
ok_err x n e = (cc)

pub end_fault_none : (number : ℕ) → 1 < number → end_fault number [] ≡ number - 1
end_fault_none number more = ap (λ (t : Bool). if t then number - 1 else number) (lt-ltb 1 number more)

pub end_fault_some : (number b : ℕ) (bs : List ℕ) → end_fault number (b ∷ bs) ≡ number
end_fault_some number b bs = let some : suc (length bs) ≡ 0 → ⊥ = λ e. omega (arith, e) in ap (λ (t : Bool). if t && nat_lt 1 number then number - 1 else number) (ne_eqb (suc (length bs)) 0 some)

-- the lines of some events, and `go`, begin with these
abbrev pub ListOpens : ℕ → ℕ → List (List ℕ) → Type 0
ListOpens members watchers ls = (more : List PrgrEvent) × (rest : List ℕ) × AllByRecursion (IsAllowed members watchers) more × (joined ls rest ≡ list_text more)

-- the line at this place is refused, whatever follows it
pub record ListRefused (members watchers number : ℕ) (ls : List (List ℕ)) (n : ℕ) : Type 0 where
  pub place : ℕ
  pub within : place < length ls
  pub line : n ≡ number + place
  pub opens : ListOpens members watchers (take place ls)
  pub always : (events : List PrgrEvent) (more : List (List ℕ)) (tail : List ℕ) → list_on members watchers number events (take (suc place) ls ++ more) tail ≡ Err n

-- the last line has no line feed
pub record ListUnended (members watchers number : ℕ) (ls : List (List ℕ)) (tail : List ℕ) (n : ℕ) : Type 0 where
  pub line : n ≡ number + length ls
  pub some : 0 < length tail
  pub opens : ListOpens members watchers ls

-- the lines end before `go`
pub record ListLast (members watchers number : ℕ) (ls : List (List ℕ)) (tail : List ℕ) (n : ℕ) : Type 0 where
  pub line : n + 1 ≡ number + length ls
  pub none : length tail ≡ 0
  pub opens : ListOpens members watchers ls

-- what is at fault
abbrev pub ListFault : ℕ → ℕ → ℕ → List (List ℕ) → List ℕ → ℕ → Type 0
ListFault members watchers number ls tail n = ListRefused members watchers number ls n ⊎ (ListUnended members watchers number ls tail n ⊎ ListLast members watchers number ls tail n)

pub no_lines : (members watchers : ℕ) → ListOpens members watchers []
no_lines members watchers = ([], list_text [], tt, refl)

go_line : (members watchers : ℕ) (line : List ℕ) → line ≡ codes "go" → ListOpens members watchers (line ∷ [])
go_line members watchers line is = ([], [], tt, ap (λ (x : List ℕ). line_then x []) is)

list_ends : (members watchers number : ℕ) (tail : List ℕ) (n : ℕ) → 1 < number → end_fault number tail ≡ n → ListFault members watchers number [] tail n
list_ends members watchers number [] n more e = let is = sym (end_fault_none number more) ∙ e in inr (inr (record { line = omega (arith, is, more); none = refl; opens = no_lines members watchers }))
list_ends members watchers number (b ∷ bs) n more e = let is = sym (end_fault_some number b bs) ∙ e in inr (inl (record { line = omega (arith, is); some = omega arith; opens = no_lines members watchers }))

behind_go : (members watchers number : ℕ) (events : List PrgrEvent) (line : List ℕ) (others : List (List ℕ)) (tail : List ℕ) (n : ℕ) → bytes_eq line (codes "go") ≡ true → at_end (number + 1) events others tail ≡ Err n → ListFault members watchers number (line ∷ others) tail n
behind_go members watchers number events line [] [] n go e = absurd (ok_err events n e)
behind_go members watchers number events line [] (b ∷ bs) n go e = let is = err_same (number + 1) n e in inr (inl (record { line = sym is; some = omega arith; opens = go_line members watchers line (same_bytes line (codes "go") go) }))
behind_go members watchers number events line (next ∷ others) tail n go e =
    let is = err_same (number + 1) n e in
    inl (record {
      place = 1;
      within = omega arith;
      line = sym is;
      opens = go_line members watchers line (same_bytes line (codes "go") go);
      always = λ made more end. ap (λ (t : Bool). if t then at_end (number + 1) made (next ∷ more) end else (or_fault number (event_of members watchers line) >>= (λ e. list_on members watchers (number + 1) (made ++ e ∷ []) (next ∷ more) end))) go ∙ ap (λ (x : ℕ). Err x) is;
    })

refused_here : (members watchers number : ℕ) (line : List ℕ) (others : List (List ℕ)) (tail : List ℕ) (n : ℕ) → bytes_eq line (codes "go") ≡ false → event_of members watchers line ≡ None → number ≡ n → ListFault members watchers number (line ∷ others) tail n
refused_here members watchers number line others tail n go none is =
    inl (record {
      place = 0;
      within = omega arith;
      line = omega (arith, is);
      opens = no_lines members watchers;
      always = λ made more end.
          ap (λ (t : Bool). if t then at_end (number + 1) made more end else (or_fault number (event_of members watchers line) >>= (λ e. list_on members watchers (number + 1) (made ++ e ∷ []) more end))) go
          ∙ ap (λ (o : Option PrgrEvent). or_fault number o >>= (λ e. list_on members watchers (number + 1) (made ++ e ∷ []) more end)) none
          ∙ ap (λ (x : ℕ). Err x) is;
    })

opens_more : (members watchers : ℕ) (line : List ℕ) (event : PrgrEvent) (ls : List (List ℕ)) → event_of members watchers line ≡ Some event → ListOpens members watchers ls → ListOpens members watchers (line ∷ ls)
opens_more members watchers line event ls is opens =
    let says = event_of_sound members watchers line event is in
    (event ∷ opens.0, opens.1, (says.1, opens.2), ap (λ (x : List ℕ). line_then x (joined ls opens.1)) says.0 ∙ ap (line_then (event_text event)) opens.3)

one_more : (members watchers number : ℕ) (line : List ℕ) (event : PrgrEvent) (others : List (List ℕ)) (tail : List ℕ) (n : ℕ) → bytes_eq line (codes "go") ≡ false → event_of members watchers line ≡ Some event → ListFault members watchers (number + 1) others tail n → ListFault members watchers number (line ∷ others) tail n
one_more members watchers number line event others tail n go is fault =
    elim fault as (λ _. ListFault members watchers number (line ∷ others) tail n) [
      | inl refused ↦
          let at = refused.line in
          let within = refused.within in
          inl (record {
            place = suc refused.place;
            within = omega (arith, within);
            line = omega (arith, at);
            opens = opens_more members watchers line event (take refused.place others) is refused.opens;
            always = λ made more end.
                ap (λ (t : Bool). if t then at_end (number + 1) made (take (suc refused.place) others ++ more) end else (or_fault number (event_of members watchers line) >>= (λ e. list_on members watchers (number + 1) (made ++ e ∷ []) (take (suc refused.place) others ++ more) end))) go
                ∙ ap (λ (o : Option PrgrEvent). or_fault number o >>= (λ e. list_on members watchers (number + 1) (made ++ e ∷ []) (take (suc refused.place) others ++ more) end)) is
                ∙ refused.always (made ++ event ∷ []) more end;
          })
      | inr ended ↦ elim ended as (λ _. ListFault members watchers number (line ∷ others) tail n) [
        | inl unended ↦ let at = unended.line in inr (inl (record { line = omega (arith, at); some = unended.some; opens = opens_more members watchers line event others is unended.opens }))
        | inr last ↦ let at = last.line in inr (inr (record { line = omega (arith, at); none = last.none; opens = opens_more members watchers line event others is last.opens }))
      ]
    ]

-- a fault of the reading is one of these
pub list_fault : (members watchers number : ℕ) (events : List PrgrEvent) (ls : List (List ℕ)) (tail : List ℕ) (n : ℕ) → 1 < number → list_on members watchers number events ls tail ≡ Err n → ListFault members watchers number ls tail n
list_fault members watchers number events [] tail n more e = list_ends members watchers number tail n more (err_same (end_fault number tail) n e)
list_fault members watchers number events (line ∷ others) tail n more e =
    elim (bytes_eq line (codes "go")) as (λ (t : Bool). bytes_eq line (codes "go") ≡ t → (if t then at_end (number + 1) events others tail else (or_fault number (event_of members watchers line) >>= (λ e. list_on members watchers (number + 1) (events ++ e ∷ []) others tail))) ≡ Err n → ListFault members watchers number (line ∷ others) tail n) [
      | true ↦ λ go err. behind_go members watchers number events line others tail n go err
      | false ↦ λ go err.
          elim (event_of members watchers line) as (λ (o : Option PrgrEvent). event_of members watchers line ≡ o → (or_fault number o >>= (λ e. list_on members watchers (number + 1) (events ++ e ∷ []) others tail)) ≡ Err n → ListFault members watchers number (line ∷ others) tail n) [
            | None ↦ λ none refused. refused_here members watchers number line others tail n go none (err_same number n refused)
            | Some event ↦ λ is rest. one_more members watchers number line event others tail n go is (list_fault members watchers (number + 1) (events ++ event ∷ []) others tail n (omega (arith, more)) rest)
          ] refl err
    ] refl e
