-- What is read is a text of the grammar, and every text of the grammar is read.
use Rattle.std.proofs.Common.{◌≡◌, ℕ, ◌+◌, ◌<◌, ◌≤◌, ◌^◌, Bool, true, false, List, [], ◌∷◌, ◌++◌, Option, Some, None, Result, Ok, Err, refl, sym, ◌∙◌, ap, subst, arith, decimal, codes, ◌⊎◌, inl, inr, append_assoc, ◌&&◌}
use Rattle.std.specs.Prelude.{if◌then◌else◌, nat_le, ◌==◌, IfOk}
use Rattle.prgr_core.specs.declared.fault.EventFault.{EventFault}
use Rattle.std.specs.List.{AllByRecursion}
use Rattle.std.specs.Option.{option_and_then}
use Rattle.std.specs.Str.{bytes_eq}
use Rattle.std.proofs.lemmas.Bool.{eqb-true, leb-true, le-leb, and_parts}
use Rattle.std.proofs.lemmas.List.{append-nil}
use Rattle.std.proofs.lemmas.Slice.Eq.{bytes_eq-Decides}
use Rattle.prgr_core.specs.declared.member.TheConstants.{MOST_MEMBERS}
use Rattle.prgr_core.specs.declared.watcher.TheConstants.{MOST_WATCHERS}
use Rattle.prgr_core.specs.declared.event.Events.{Events}
use Rattle.prgr_core.specs.declared.event.PrgrEvent.{PrgrEvent}
use Rattle.prgr_core.specs.EventText.{space, line_feed, worded, event_text, line_then, list_text, IsAllowed, EventText}
use Rattle.prgr_core.specs.Reading.{◌>>=◌, Gives, cut_at, LinesOfEvents, ended_lines, before_lines, event_lines_of, event_number, event_of, count_by, line_by, line_at, expected, or_fault, count_at, at_end, list_on, list_at, reading}
use Rattle.prgr_core.specs.Faults.{joined}
use Rattle.prgr_core.proofs.Parts.{and_then_some}
use Rattle.prgr_core.proofs.Numerals.{number_of_sound, number_of_decimal, Lacks}
use Rattle.prgr_core.proofs.Texts.{cut_parts, lines_of_cut}
use Rattle.prgr_core.proofs.EventLines.{cut_here, lacks_plain, worded_lacks, IsFew, event_read, event_lacks, not_go, event_of_sound, same_bytes}
use Rattle.std.proofs.lemmas.Option.{cond_some}

-- ---- what is read is a text of the grammar

pub bind_ok : {A B : Type 0} (r : Result A ℕ) (f : A → Result B ℕ) (y : B) → (r >>= f) ≡ Ok y → (x : A) × (r ≡ Ok x) × (f x ≡ Ok y)
bind_ok (Ok x) f y e = (x, refl, e)
bind_ok (Err line) f y e = absurd (cc)

pub ok_same : {A : Type 0} (x y : A) → ◌≡◌ {A = Result A ℕ} (Ok x) (Ok y) → x ≡ y
ok_same x y e = (cc)

pub or_fault_ok : {A : Type 0} (line : ℕ) (o : Option A) (x : A) → or_fault line o ≡ Ok x → o ≡ Some x
or_fault_ok line None x e = absurd (cc)
or_fault_ok line (Some y) x e = ap (λ z. Some z) (ok_same y x e)

line_by_ok : (number : ℕ) (text : List ℕ) (o : Option (List ℕ × List ℕ)) (p : List ℕ × List ℕ) → cut_at line_feed text ≡ o → line_by number text o ≡ Ok p → text ≡ line_then p.0 p.1
line_by_ok number text None p cut e = absurd (cc)
line_by_ok number text (Some q) p cut e = cut_parts line_feed text p (cut ∙ ap (λ (x : List ℕ × List ℕ). Some x) (ok_same q p e))

line_at_ok : (number : ℕ) (text : List ℕ) (p : List ℕ × List ℕ) → line_at number text ≡ Ok p → text ≡ line_then p.0 p.1
line_at_ok number text p e = line_by_ok number text (cut_at line_feed text) p refl e

pub choice_ok : {A : Type 0} (b : Bool) (x y : A) (line : ℕ) → (if b then Ok x else Err line) ≡ Ok y → (b ≡ true) × (x ≡ y)
choice_ok true x y line e = (refl, ok_same x y e)
choice_ok false x y line e = absurd (cc)

expected_ok : (number : ℕ) (wanted text rest : List ℕ) → expected number wanted text ≡ Ok rest → text ≡ line_then wanted rest
expected_ok number wanted text rest e =
    let found = bind_ok (line_at number text) (λ p. if bytes_eq p.0 wanted then Ok p.1 else Err number) rest e in
    let p = found.0 in
    let made = choice_ok (bytes_eq p.0 wanted) p.1 rest number found.2 in
    line_at_ok number text p found.1 ∙ ap (λ (x : List ℕ). line_then x p.1) (same_bytes p.0 wanted made.0) ∙ ap (line_then wanted) made.1

-- how many a line may give, from least to most
abbrev pub IsCount : ℕ → ℕ → ℕ → Type 0
IsCount least most n = (least ≤ n) × (n ≤ most)

count_ok : (b : Bool) (o : Option ℕ) (n : ℕ) → (if b then o else None) ≡ Some n → (b ≡ true) × (o ≡ Some n)
count_ok true o n e = (refl, e)
count_ok false o n e = absurd (cc)

pub count_by_ok : (word : List ℕ) (least most : ℕ) (line : List ℕ) (o : Option (List ℕ × List ℕ)) (n : ℕ) → cut_at space line ≡ o → count_by word least most o ≡ Some n → (line ≡ worded word n) × IsCount least most n
count_by_ok word least most line None n cut e = absurd (cc)
count_by_ok word least most line (Some p) n cut e =
    let made = count_ok (bytes_eq p.0 word) _ n e in
    let found = and_then_some (λ m. if nat_le least m && nat_le m most then Some m else None) (event_number p.1) n made.1 in
    let range = cond_some (nat_le least found.0 && nat_le found.0 most) found.0 n found.2 in
    let both = and_parts (nat_le least found.0) (nat_le found.0 most) range.0 in
    let number = (number_of_sound p.1 found.0 found.1).0 ∙ ap decimal range.1 in (
      cut_parts space line p cut ∙ ap (λ (x : List ℕ). x ++ space ∷ p.1) (same_bytes p.0 word made.0) ∙ ap (λ (x : List ℕ). word ++ space ∷ x) number,
      subst (IsCount least most) range.1 (leb-true least found.0 both.0, leb-true found.0 most both.1),
    )

count_at_ok : (number : ℕ) (word : List ℕ) (least most : ℕ) (text : List ℕ) (n : ℕ) (rest : List ℕ) → count_at number word least most text ≡ Ok (n, rest) → (text ≡ line_then (worded word n) rest) × IsCount least most n
count_at_ok number word least most text n rest e =
    let found = bind_ok (line_at number text) (λ p. or_fault number (count_by word least most (cut_at space p.0)) >>= (λ m. Ok (m, p.1))) (n, rest) e in
    let p = found.0 in
    let count = bind_ok (or_fault number (count_by word least most (cut_at space p.0))) (λ m. Ok (m, p.1)) (n, rest) found.2 in
    let same : ◌≡◌ {A = ℕ × List ℕ} (count.0, p.1) (n, rest) = ok_same (count.0, p.1) (n, rest) count.2 in
    let line = count_by_ok word least most p.0 (cut_at space p.0) count.0 refl (or_fault_ok number (count_by word least most (cut_at space p.0)) count.0 count.1) in
    subst (λ (q : ℕ × List ℕ). (text ≡ line_then (worded word q.0) q.1) × IsCount least most q.0) same
    (line_at_ok number text p found.1 ∙ ap (λ (x : List ℕ). line_then x p.1) line.0, line.1)

joined_before : (b : ℕ) (ended : List (List ℕ)) (tail : List ℕ) → joined (before_lines b ended tail).ended (before_lines b ended tail).tail ≡ b ∷ joined ended tail
joined_before b [] tail = refl
joined_before b (line ∷ others) tail = refl

joined_lines : (text : List ℕ) → joined (event_lines_of text).ended (event_lines_of text).tail ≡ text
joined_lines [] = refl
joined_lines (b ∷ bs) =
    elim (b == line_feed) as (λ (t : Bool). (b == line_feed) ≡ t → joined (if t then ended_lines ([] ∷ (event_lines_of bs).ended) (event_lines_of bs).tail else before_lines b (event_lines_of bs).ended (event_lines_of bs).tail).ended (if t then ended_lines ([] ∷ (event_lines_of bs).ended) (event_lines_of bs).tail else before_lines b (event_lines_of bs).ended (event_lines_of bs).tail).tail ≡ b ∷ bs) [
      | true ↦ λ is. ap (λ (x : ℕ). x ∷ joined (event_lines_of bs).ended (event_lines_of bs).tail) (sym (eqb-true b line_feed is)) ∙ ap (λ (l : List ℕ). b ∷ l) (joined_lines bs)
      | false ↦ λ _. joined_before b (event_lines_of bs).ended (event_lines_of bs).tail ∙ ap (λ (l : List ℕ). b ∷ l) (joined_lines bs)
    ] refl

-- more events follow those that were read, and their lines are these
pub record ReadsOn (members watchers : ℕ) (events all : List PrgrEvent) (text : List ℕ) : Type 0 where
  pub more : List PrgrEvent
  pub whole : all ≡ events ++ more
  pub allowed : AllByRecursion (IsAllowed members watchers) more
  pub spelled : text ≡ list_text more

at_end_ok : (members watchers number : ℕ) (events : List PrgrEvent) (others : List (List ℕ)) (tail : List ℕ) (all : List PrgrEvent) (line : List ℕ) → line ≡ codes "go" → at_end number events others tail ≡ Ok all → ReadsOn members watchers events all (line_then line (joined others tail))
at_end_ok members watchers number events [] [] all line is e = record { more = []; whole = sym (ok_same events all e) ∙ sym (append-nil events); allowed = tt; spelled = ap (λ (x : List ℕ). line_then x []) is }
at_end_ok members watchers number events others tail all line is e = absurd (cc)

choice_either : {A : Type 0} (b : Bool) (x y : Result A ℕ) (z : A) → (if b then x else y) ≡ Ok z → ((b ≡ true) × (x ≡ Ok z)) ⊎ (y ≡ Ok z)
choice_either true x y z e = inl (refl, e)
choice_either false x y z e = inr e

list_on_ok : (members watchers number : ℕ) (events : List PrgrEvent) (ended : List (List ℕ)) (tail : List ℕ) (all : List PrgrEvent) → list_on members watchers number events ended tail ≡ Ok all → ReadsOn members watchers events all (joined ended tail)
list_on_ok members watchers number events [] tail all e = absurd (cc)
list_on_ok members watchers number events (line ∷ others) tail all e =
    elim (choice_either (bytes_eq line (codes "go")) _ _ all e) as (λ _. ReadsOn members watchers events all (line_then line (joined others tail))) [
      | inl go ↦ at_end_ok members watchers (number + 1) events others tail all line (same_bytes line (codes "go") go.0) go.1
      | inr event ↦
          let found = bind_ok (or_fault number (event_of members watchers line)) _ all event in
          let says = event_of_sound members watchers line found.0 (or_fault_ok number (event_of members watchers line) found.0 found.1) in
          let rest = list_on_ok members watchers (number + 1) (events ++ found.0 ∷ []) others tail all found.2 in
          record {
            more = found.0 ∷ rest.more;
            whole = rest.whole ∙ append_assoc events (found.0 ∷ []) rest.more;
            allowed = (says.1, rest.allowed);
            spelled = ap (λ (x : List ℕ). line_then x (joined others tail)) says.0 ∙ ap (line_then (event_text found.0)) rest.spelled;
          }
    ]

list_at_ok : (members watchers : ℕ) (text : List ℕ) (all : List PrgrEvent) → list_at members watchers text ≡ Ok all → (text ≡ list_text all) × AllByRecursion (IsAllowed members watchers) all
list_at_ok members watchers text all e =
    let read = list_on_ok members watchers 4 [] (event_lines_of text).ended (event_lines_of text).tail all e in
    (sym (joined_lines text) ∙ read.spelled ∙ ap list_text (sym read.whole), subst (AllByRecursion (IsAllowed members watchers)) (sym read.whole) read.allowed)

-- what is read is a text of the grammar
pub reading_sound : (text : List ℕ) (events : Events) → reading text ≡ Ok events → EventText text events
reading_sound text events e =
    let head = bind_ok (expected 1 (codes "beam progress 1") text) _ events e in
    let members = bind_ok (count_at 2 (codes "members") 1 MOST_MEMBERS head.0) _ events head.2 in
    let watchers = bind_ok (count_at 3 (codes "watchers") 0 MOST_WATCHERS members.0.1) _ events members.2 in
    let list = bind_ok (list_at members.0.0 watchers.0.0 watchers.0.1) _ events watchers.2 in
    let same = ok_same _ events list.2 in
    let second = count_at_ok 2 (codes "members") 1 MOST_MEMBERS head.0 members.0.0 members.0.1 members.1 in
    let third = count_at_ok 3 (codes "watchers") 0 MOST_WATCHERS members.0.1 watchers.0.0 watchers.0.1 watchers.1 in
    let events_are = list_at_ok members.0.0 watchers.0.0 watchers.0.1 list.0 list.1 in
    subst (EventText text) same (record {
      some_member = second.1.0;
      few_members = second.1.1;
      few_watchers = third.1.1;
      allowed = events_are.1;
      spelled =
          expected_ok 1 (codes "beam progress 1") text head.0 head.1
          ∙ ap (line_then (codes "beam progress 1"))
          (second.0 ∙ ap (line_then (worded (codes "members") members.0.0))
          (third.0 ∙ ap (line_then (worded (codes "watchers") watchers.0.0)) events_are.0));
    })

-- ---- every text of the grammar is read

line_here : (number : ℕ) (line rest : List ℕ) → Lacks line_feed line → line_at number (line_then line rest) ≡ Ok (line, rest)
line_here number line rest lacks = ap (line_by number (line_then line rest)) (cut_here line_feed line rest lacks)

expected_here : (number : ℕ) (wanted rest : List ℕ) → Lacks line_feed wanted → expected number wanted (line_then wanted rest) ≡ Ok rest
expected_here number wanted rest lacks =
    ap (λ (r : Result (List ℕ × List ℕ) ℕ). r >>= (λ p. if bytes_eq p.0 wanted then Ok p.1 else Err number)) (line_here number wanted rest lacks)
    ∙ ap (λ (t : Bool). if t then Ok rest else Err number) ((bytes_eq-Decides wanted wanted).1 refl)

count_read : (word : List ℕ) (least most n : ℕ) → Lacks space word → IsCount least most n → n < 2 ^ 64 → count_by word least most (cut_at space (worded word n)) ≡ Some n
count_read word least most n lacks is small =
    let digits = decimal n in
    ap (count_by word least most) (cut_here space word digits lacks)
    ∙ ap (λ (t : Bool). if t then option_and_then (λ m. if nat_le least m && nat_le m most then Some m else None) (event_number digits) else None) ((bytes_eq-Decides word word).1 refl)
    ∙ ap (option_and_then (λ m. if nat_le least m && nat_le m most then Some m else None)) (number_of_decimal n small)
    ∙ ap (λ (t : Bool). if t && nat_le n most then Some n else None) (le-leb least n is.0)
    ∙ ap (λ (t : Bool). if t then Some n else None) (le-leb n most is.1)

count_here : (number : ℕ) (word : List ℕ) (least most n : ℕ) (rest : List ℕ) → Lacks space word → Lacks line_feed (worded word n) → IsCount least most n → n < 2 ^ 64 → count_at number word least most (line_then (worded word n) rest) ≡ Ok (n, rest)
count_here number word least most n rest lacks lacks_too is small =
    ap (λ (r : Result (List ℕ × List ℕ) ℕ). r >>= (λ p. or_fault number (count_by word least most (cut_at space p.0)) >>= (λ m. Ok (m, p.1)))) (line_here number (worded word n) rest lacks_too)
    ∙ ap (λ (o : Option ℕ). or_fault number o >>= (λ m. Ok (m, rest))) (count_read word least most n lacks is small)

list_here : (members watchers number : ℕ) (events more : List PrgrEvent) → IsFew members → IsFew watchers → AllByRecursion (IsAllowed members watchers) more → list_on members watchers number events (event_lines_of (list_text more)).ended (event_lines_of (list_text more)).tail ≡ Ok (events ++ more)
list_here members watchers number events [] few few_too allowed = ap (λ (x : List PrgrEvent). Ok x) (sym (append-nil events))
list_here members watchers number events (event ∷ more) few few_too allowed =
    let rest = list_text more in
    let others = (event_lines_of rest).ended in
    let tail = (event_lines_of rest).tail in
    let cut = cut_here line_feed (event_text event) rest (event_lacks members watchers event few few_too allowed.0) in
    ap (λ (w : LinesOfEvents). list_on members watchers number events w.ended w.tail) (lines_of_cut (line_then (event_text event) rest) (event_text event, rest) cut)
    ∙ ap (λ (t : Bool). if t then at_end (number + 1) events others tail else (or_fault number (event_of members watchers (event_text event)) >>= (λ e. list_on members watchers (number + 1) (events ++ e ∷ []) others tail))) (not_go event)
    ∙ ap (λ (o : Option PrgrEvent). or_fault number o >>= (λ e. list_on members watchers (number + 1) (events ++ e ∷ []) others tail)) (event_read members watchers event few few_too allowed.0)
    ∙ list_here members watchers (number + 1) (events ++ event ∷ []) more few few_too allowed.1
    ∙ ap (λ (x : List PrgrEvent). Ok x) (append_assoc events (event ∷ []) more)

-- the second line is read, the third and the list
members_here : (n : ℕ) (rest : List ℕ) → IsCount 1 MOST_MEMBERS n → count_at 2 (codes "members") 1 MOST_MEMBERS (line_then (worded (codes "members") n) rest) ≡ Ok (n, rest)
members_here n rest is =
    let small : n < 2 ^ 64 = omega (arith, is) in
    count_here 2 (codes "members") 1 MOST_MEMBERS n rest (lacks_plain space (codes "members") refl) (worded_lacks (codes "members") n refl small) is small

watchers_here : (n : ℕ) (rest : List ℕ) → n ≤ MOST_WATCHERS → count_at 3 (codes "watchers") 0 MOST_WATCHERS (line_then (worded (codes "watchers") n) rest) ≡ Ok (n, rest)
watchers_here n rest few =
    let small : n < 2 ^ 64 = omega (arith, few) in
    count_here 3 (codes "watchers") 0 MOST_WATCHERS n rest (lacks_plain space (codes "watchers") refl) (worded_lacks (codes "watchers") n refl small) (omega arith, few) small

abbrev behind_watchers : ℕ → ℕ × List ℕ → Result Events ℕ
behind_watchers members p = list_at members p.0 p.1 >>= (λ list. Ok (record { members = members; watchers = p.0; list = list }))

abbrev behind_members : ℕ × List ℕ → Result Events ℕ
behind_members p = count_at 3 (codes "watchers") 0 MOST_WATCHERS p.1 >>= behind_watchers p.0

abbrev behind_head : List ℕ → Result Events ℕ
behind_head text = count_at 2 (codes "members") 1 MOST_MEMBERS text >>= behind_members

-- every text of the grammar is read
pub reading_complete : (text : List ℕ) (events : Events) → EventText text events → reading text ≡ Ok events
reading_complete text events is =
    let m = events.members in
    let w = events.watchers in
    let third = line_then (worded (codes "watchers") w) (list_text events.list) in
    let second = line_then (worded (codes "members") m) third in
    let few : IsFew m = omega (arith, is.few_members) in
    let few_too : IsFew w = omega (arith, is.few_watchers) in
    ap reading is.spelled
    ∙ ap (λ (r : Result (List ℕ) ℕ). r >>= behind_head) (expected_here 1 (codes "beam progress 1") second (lacks_plain line_feed (codes "beam progress 1") refl))
    ∙ ap (λ (r : Result (ℕ × List ℕ) ℕ). r >>= behind_members) (members_here m third (is.some_member, is.few_members))
    ∙ ap (λ (r : Result (ℕ × List ℕ) ℕ). r >>= behind_watchers m) (watchers_here w (list_text events.list) is.few_watchers)
    ∙ ap (λ (r : Result (List PrgrEvent) ℕ). r >>= (λ list. Ok (record { members = m; watchers = w; list = list }))) (list_here m w 4 [] events.list few few_too is.allowed)

-- ---- what a call answered

pub found_by : (text : List ℕ) (result : Result Events EventFault) → Gives (λ read. read) result (reading text) → IfOk result (λ events. EventText text events)
found_by text (Ok events) is = reading_sound text events is
found_by text (Err fault) is = tt

pub only_by : (text : List ℕ) (result : Result Events EventFault) (events : Events) → EventText text events → Gives (λ read. read) result (reading text) → Gives (λ read. read) result (Ok events)
only_by text result events is gives = subst (Gives (λ read. read) result) (reading_complete text events is) gives
