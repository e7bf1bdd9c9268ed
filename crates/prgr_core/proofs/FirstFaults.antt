-- The line of a fault is the first of another form.
use Rattle.std.proofs.Common.{◌≡◌, ℕ, suc, ◌+◌, ◌-◌, ◌<◌, ◌≤◌, max, Bool, true, false, List, [], ◌∷◌, ◌++◌, length, take, drop, Option, Some, None, Result, Ok, Err, refl, sym, ◌∙◌, ap, subst, arith, codes, ◌⊎◌, inl, inr}
use Rattle.std.specs.Prelude.{if◌then◌else◌, ◌==◌, IfErr}
use Rattle.std.specs.Str.{bytes_eq}
use Rattle.std.proofs.lemmas.Bool.{eqb-false}
use Rattle.prgr_core.specs.declared.member.TheConstants.{MOST_MEMBERS}
use Rattle.prgr_core.specs.declared.watcher.TheConstants.{MOST_WATCHERS}
use Rattle.prgr_core.specs.declared.fault.EventFault.{EventFault}
use Rattle.prgr_core.specs.declared.fault.EventFault.TheVariants as faults
use Rattle.prgr_core.specs.declared.event.Events.{Events}
use Rattle.prgr_core.specs.declared.event.PrgrEvent.{PrgrEvent}
use Rattle.prgr_core.specs.EventText.{space, line_feed, worded, line_then, EventText}
use Rattle.prgr_core.specs.Reading.{◌>>=◌, Gives, cut_at, LinesOfEvents, ended_lines, before_lines, event_lines_of, count_by, end_fault, or_fault, list_on, reading}
use Rattle.prgr_core.specs.Faults.{joined, Opens, IsFirstFault, IsFaultOf}
use Rattle.prgr_core.proofs.Numerals.{Lacks}
use Rattle.prgr_core.proofs.Texts.{lines_of_cut}
use Rattle.prgr_core.proofs.EventLines.{cut_here, same_bytes}
use Rattle.prgr_core.proofs.Grammars.{IsCount, count_by_ok, reading_complete}
use Rattle.prgr_core.proofs.LineFaults.{whole, list_stage, watchers_on, members_on, head_on, by_lines, err_same, ok_err, end_fault_none, end_fault_some, ListOpens, ListFault, no_lines, list_fault}

-- ---- the fault of all lines

opens_list : (m w : ℕ) → IsCount 1 MOST_MEMBERS m → w ≤ MOST_WATCHERS → (first second third : List ℕ) → first ≡ codes "beam progress 1" → second ≡ worded (codes "members") m → third ≡ worded (codes "watchers") w → (ls : List (List ℕ)) → ListOpens m w ls → Opens (first ∷ second ∷ third ∷ ls)
opens_list m w is few first second third a b d ls opens = (
  whole m w opens.0,
  opens.1,
  record {
    some_member = is.0;
    few_members = is.1;
    few_watchers = few;
    allowed = opens.2;
    spelled =
        ap (λ (x : List ℕ). line_then x (line_then second (line_then third (joined ls opens.1)))) a
        ∙ ap (λ (x : List ℕ). line_then (codes "beam progress 1") (line_then x (line_then third (joined ls opens.1)))) b
        ∙ ap (λ (x : List ℕ). line_then (codes "beam progress 1") (line_then (worded (codes "members") m) (line_then x (joined ls opens.1)))) d
        ∙ ap (λ (x : List ℕ). line_then (codes "beam progress 1") (line_then (worded (codes "members") m) (line_then (worded (codes "watchers") w) x))) opens.3;
  },
)

joined_more : (ls more : List (List ℕ)) (rest : List ℕ) → joined (ls ++ more) rest ≡ joined ls (joined more rest)
joined_more [] more rest = refl
joined_more (line ∷ ls) more rest = ap (line_then line) (joined_more ls more rest)

opens_front : (ls more : List (List ℕ)) → Opens (ls ++ more) → Opens ls
opens_front ls more opens = (opens.0, joined more opens.1, subst (λ (x : List ℕ). EventText x opens.0) (joined_more ls more opens.1) opens.2)

opens_two : (m : ℕ) → IsCount 1 MOST_MEMBERS m → (first second : List ℕ) → first ≡ codes "beam progress 1" → second ≡ worded (codes "members") m → Opens (first ∷ second ∷ [])
opens_two m is first second a b = opens_front (first ∷ second ∷ []) (worded (codes "watchers") 0 ∷ []) (opens_list m 0 is (omega arith) first second (worded (codes "watchers") 0) a b refl [] (no_lines m 0))

opens_one : (first : List ℕ) → first ≡ codes "beam progress 1" → Opens (first ∷ [])
opens_one first a = opens_front (first ∷ []) (worded (codes "members") 1 ∷ []) (opens_two 1 (omega arith, omega arith) first (worded (codes "members") 1) a refl)

opens_none : Opens []
opens_none = opens_front [] (codes "beam progress 1" ∷ []) (opens_one (codes "beam progress 1") refl)

record Refused (ls : List (List ℕ)) (n : ℕ) : Type 0 where
  place : ℕ
  within : place < length ls
  line : n ≡ suc place
  opens : Opens (take place ls)
  always : (more : List (List ℕ)) (tail : List ℕ) → head_on (take (suc place) ls ++ more) tail ≡ Err n

record Ends (ls : List (List ℕ)) (tail : List ℕ) (n : ℕ) : Type 0 where
  opens : Opens ls
  kind : ((n ≡ length ls + 1) × (0 < length tail)) ⊎ ((n ≡ max 1 (length ls)) × (length tail ≡ 0))

abbrev Fault : List (List ℕ) → List ℕ → ℕ → Type 0
Fault ls tail n = Refused ls n ⊎ Ends ls tail n

ends_none : (number : ℕ) (ls : List (List ℕ)) (n : ℕ) → number ≡ length ls + 1 → end_fault number [] ≡ n → n ≡ max 1 (length ls)
ends_none number [] n is e = let one : number ≡ 1 = omega (arith, is) in sym (subst (λ (x : ℕ). end_fault x [] ≡ n) one e)
ends_none number (line ∷ others) n is e =
    let more : 1 < number = omega (arith, is) in
    let at = sym (end_fault_none number more) ∙ e in
    omega (arith, at, is)

ends_at : (number : ℕ) (ls : List (List ℕ)) (tail : List ℕ) (n : ℕ) → number ≡ length ls + 1 → Opens ls → end_fault number tail ≡ n → Fault ls tail n
ends_at number ls [] n is opens e = inr (record { opens = opens; kind = inr (ends_none number ls n is e, refl) })
ends_at number ls (b ∷ bs) n is opens e = let at = sym (end_fault_some number b bs) ∙ e in inr (record { opens = opens; kind = inl (omega (arith, at, is), omega arith) })

bind_err : {A B : Type 0} (r : Result A ℕ) (f : A → B) (n : ℕ) → (r >>= (λ x. Ok (f x))) ≡ Err n → r ≡ Err n
bind_err (Ok x) f n e = absurd (ok_err (f x) n e)
bind_err (Err line) f n e = ap (λ m. Err m) (err_same line n e)

-- behind a first line in form
module _ (first : List ℕ) (named : bytes_eq first (codes "beam progress 1") ≡ true) where
  head_is : first ≡ codes "beam progress 1"
  head_is = same_bytes first (codes "beam progress 1") named

  behind_head : (ls : List (List ℕ)) (tail : List ℕ) → head_on (first ∷ ls) tail ≡ members_on ls tail
  behind_head ls tail = ap (λ (t : Bool). if t then members_on ls tail else Err 1) named

  -- and a second
  module _ (second : List ℕ) (m : ℕ) (members : count_by (codes "members") 1 MOST_MEMBERS (cut_at space second) ≡ Some m) where
    members_are : (second ≡ worded (codes "members") m) × IsCount 1 MOST_MEMBERS m
    members_are = count_by_ok (codes "members") 1 MOST_MEMBERS second (cut_at space second) m refl members

    behind_members : (ls : List (List ℕ)) (tail : List ℕ) → head_on (first ∷ second ∷ ls) tail ≡ watchers_on m ls tail
    behind_members ls tail = behind_head (second ∷ ls) tail ∙ ap (λ (o : Option ℕ). or_fault 2 o >>= (λ n. watchers_on n ls tail)) members

    opens_second : Opens (first ∷ second ∷ [])
    opens_second = opens_two m members_are.1 first second head_is members_are.0

    -- and a third
    module _ (third : List ℕ) (w : ℕ) (watchers : count_by (codes "watchers") 0 MOST_WATCHERS (cut_at space third) ≡ Some w) where
      watchers_are : (third ≡ worded (codes "watchers") w) × IsCount 0 MOST_WATCHERS w
      watchers_are = count_by_ok (codes "watchers") 0 MOST_WATCHERS third (cut_at space third) w refl watchers

      behind_watchers : (ls : List (List ℕ)) (tail : List ℕ) → head_on (first ∷ second ∷ third ∷ ls) tail ≡ list_stage m w ls tail
      behind_watchers ls tail = behind_members (third ∷ ls) tail ∙ ap (λ (o : Option ℕ). or_fault 3 o >>= (λ n. list_stage m n ls tail)) watchers

      opens_third : (ls : List (List ℕ)) → ListOpens m w ls → Opens (first ∷ second ∷ third ∷ ls)
      opens_third ls = opens_list m w members_are.1 watchers_are.1.1 first second third head_is members_are.0 watchers_are.0 ls

      of_list : (ls : List (List ℕ)) (tail : List ℕ) (n : ℕ) → ListFault m w 4 ls tail n → Fault (first ∷ second ∷ third ∷ ls) tail n
      of_list ls tail n fault =
          elim fault as (λ _. Fault (first ∷ second ∷ third ∷ ls) tail n) [
            | inl refused ↦
                let at = refused.line in
                let within = refused.within in
                inl (record {
                  place = suc (suc (suc refused.place));
                  within = omega (arith, within);
                  line = omega (arith, at);
                  opens = opens_third (take refused.place ls) refused.opens;
                  always = λ more end. behind_watchers (take (suc refused.place) ls ++ more) end ∙ ap (λ (r : Result (List PrgrEvent) ℕ). r >>= (λ list. Ok (whole m w list))) (refused.always [] more end);
                })
            | inr ended ↦ elim ended as (λ _. Fault (first ∷ second ∷ third ∷ ls) tail n) [
              | inl unended ↦ let at = unended.line in inr (record { opens = opens_third ls unended.opens; kind = inl (omega (arith, at), unended.some) })
              | inr last ↦ let at = last.line in inr (record { opens = opens_third ls last.opens; kind = inr (omega (arith, at), last.none) })
            ]
          ]

    watchers_fault : (ls : List (List ℕ)) (tail : List ℕ) (n : ℕ) → watchers_on m ls tail ≡ Err n → Fault (first ∷ second ∷ ls) tail n
    watchers_fault [] tail n e = ends_at 3 (first ∷ second ∷ []) tail n refl opens_second (err_same (end_fault 3 tail) n e)
    watchers_fault (third ∷ ls) tail n e =
        elim (count_by (codes "watchers") 0 MOST_WATCHERS (cut_at space third)) as (λ (o : Option ℕ). count_by (codes "watchers") 0 MOST_WATCHERS (cut_at space third) ≡ o → (or_fault 3 o >>= (λ w. list_stage m w ls tail)) ≡ Err n → Fault (first ∷ second ∷ third ∷ ls) tail n) [
          | None ↦ λ is refused. inl (record {
            place = 2;
            within = omega arith;
            line = sym (err_same {A = Events} 3 n refused);
            opens = opens_second;
            always = λ more end. behind_members (third ∷ more) end ∙ ap (λ (o : Option ℕ). or_fault 3 o >>= (λ w. list_stage m w more end)) is ∙ ap (λ (x : ℕ). Err x) (err_same {A = Events} 3 n refused);
          })
          | Some w ↦ λ is rest. of_list third w is ls tail n (list_fault m w 4 [] ls tail n (omega arith) (bind_err (list_on m w 4 [] ls tail) (whole m w) n rest))
        ] refl e

  members_fault : (ls : List (List ℕ)) (tail : List ℕ) (n : ℕ) → members_on ls tail ≡ Err n → Fault (first ∷ ls) tail n
  members_fault [] tail n e = ends_at 2 (first ∷ []) tail n refl (opens_one first head_is) (err_same (end_fault 2 tail) n e)
  members_fault (second ∷ ls) tail n e =
      elim (count_by (codes "members") 1 MOST_MEMBERS (cut_at space second)) as (λ (o : Option ℕ). count_by (codes "members") 1 MOST_MEMBERS (cut_at space second) ≡ o → (or_fault 2 o >>= (λ m. watchers_on m ls tail)) ≡ Err n → Fault (first ∷ second ∷ ls) tail n) [
        | None ↦ λ is refused. inl (record {
          place = 1;
          within = omega arith;
          line = sym (err_same {A = Events} 2 n refused);
          opens = opens_one first head_is;
          always = λ more end. behind_head (second ∷ more) end ∙ ap (λ (o : Option ℕ). or_fault 2 o >>= (λ m. watchers_on m more end)) is ∙ ap (λ (x : ℕ). Err x) (err_same {A = Events} 2 n refused);
        })
        | Some m ↦ λ is rest. watchers_fault second m is ls tail n rest
      ] refl e

head_fault : (ls : List (List ℕ)) (tail : List ℕ) (n : ℕ) → head_on ls tail ≡ Err n → Fault ls tail n
head_fault [] tail n e = ends_at 1 [] tail n refl opens_none (err_same (end_fault 1 tail) n e)
head_fault (first ∷ ls) tail n e =
    elim (bytes_eq first (codes "beam progress 1")) as (λ (t : Bool). bytes_eq first (codes "beam progress 1") ≡ t → (if t then members_on ls tail else Err 1) ≡ Err n → Fault (first ∷ ls) tail n) [
      | true ↦ λ is rest. members_fault first is ls tail n rest
      | false ↦ λ is refused. inl (record {
        place = 0;
        within = omega arith;
        line = sym (err_same {A = Events} 1 n refused);
        opens = opens_none;
        always = λ more end. ap (λ (t : Bool). if t then members_on more end else Err 1) is ∙ ap (λ (x : ℕ). Err x) (err_same {A = Events} 1 n refused);
      })
    ] refl e

-- ---- of texts

-- each line lacks a line feed
abbrev AllLack : List (List ℕ) → Type 0
AllLack [] = Unit {0}
AllLack (line ∷ others) = Lacks line_feed line × AllLack others

before_lack : (b : ℕ) (ended : List (List ℕ)) (tail : List ℕ) → (b ≡ line_feed → ⊥) → AllLack ended → AllLack (before_lines b ended tail).ended
before_lack b [] tail other all = tt
before_lack b (line ∷ others) tail other all = ((other, all.0), all.1)

lines_lack : (text : List ℕ) → AllLack (event_lines_of text).ended
lines_lack [] = tt
lines_lack (b ∷ bs) =
    elim (b == line_feed) as (λ (t : Bool). (b == line_feed) ≡ t → AllLack (if t then ended_lines ([] ∷ (event_lines_of bs).ended) (event_lines_of bs).tail else before_lines b (event_lines_of bs).ended (event_lines_of bs).tail).ended) [
      | true ↦ λ _. (tt, lines_lack bs)
      | false ↦ λ is. before_lack b (event_lines_of bs).ended (event_lines_of bs).tail (eqb-false b line_feed is) (lines_lack bs)
    ] refl

take_lack : (n : ℕ) (ls : List (List ℕ)) → AllLack ls → AllLack (take n ls)
take_lack (suc n) (line ∷ others) all = (all.0, take_lack n others all.1)
take_lack n ls all = tt

lines_of_joined : (ls : List (List ℕ)) (rest : List ℕ) → AllLack ls → event_lines_of (joined ls rest) ≡ ended_lines (ls ++ (event_lines_of rest).ended) (event_lines_of rest).tail
lines_of_joined [] rest all = refl
lines_of_joined (line ∷ others) rest all =
    lines_of_cut (line_then line (joined others rest)) (line, joined others rest) (cut_here line_feed line (joined others rest) all.0)
    ∙ ap (λ (w : LinesOfEvents). ended_lines (line ∷ w.ended) w.tail) (lines_of_joined others rest all.1)

-- what is refused whatever follows begins no text of the grammar
no_form : (text : List ℕ) (n : ℕ) (refused : Refused (event_lines_of text).ended n) → Opens (take n (event_lines_of text).ended) → ⊥
no_form text n refused opens =
    let front = take n (event_lines_of text).ended in
    let read = reading_complete (joined front opens.1) opens.0 opens.2 in
    let at = lines_of_joined front opens.1 (take_lack n (event_lines_of text).ended (lines_lack text)) in
    let always : head_on (front ++ (event_lines_of opens.1).ended) (event_lines_of opens.1).tail ≡ Err n =
    subst (λ (k : ℕ). head_on (take k (event_lines_of text).ended ++ (event_lines_of opens.1).ended) (event_lines_of opens.1).tail ≡ Err n) (sym refused.line) (refused.always (event_lines_of opens.1).ended (event_lines_of opens.1).tail) in
    ok_err opens.0 n (sym read ∙ by_lines (joined front opens.1) ∙ ap (λ (w : LinesOfEvents). head_on w.ended w.tail) at ∙ always)

take_drop : {A : Type 0} (n : ℕ) (xs : List A) → take n xs ++ drop n xs ≡ xs
take_drop (suc n) (x ∷ xs) = ap (λ l. x ∷ l) (take_drop n xs)
take_drop n xs = refl

one_less : (n k : ℕ) → n ≡ suc k → n - 1 ≡ k
one_less n k e = omega (arith, e)

-- the line of a fault is the first of another form
pub first_fault : (text : List ℕ) (n : ℕ) → reading text ≡ Err n → IsFirstFault text n
first_fault text n e =
    let ended = (event_lines_of text).ended in
    elim (head_fault ended (event_lines_of text).tail n (sym (by_lines text) ∙ e)) as (λ _. IsFirstFault text n) [
      | inl refused ↦
          let at = refused.line in
          let within = refused.within in
          record {
            counted = omega (arith, at);
            before = subst (λ (k : ℕ). Opens (take k ended)) (sym (one_less n refused.place at)) refused.opens;
            fault = inl (omega (arith, at, within), no_form text n refused);
          }
      | inr ends ↦
          let opens : Opens (take (n - 1) ended) = opens_front (take (n - 1) ended) (drop (n - 1) ended) (subst Opens (sym (take_drop (n - 1) ended)) ends.opens) in
          elim ends.kind as (λ _. IsFirstFault text n) [
            | inl unended ↦ let at = unended.0 in record { counted = omega (arith, at); before = opens; fault = inr (inl unended) }
            | inr last ↦ let at = last.0 in record { counted = omega (arith, at); before = opens; fault = inr (inr (last.0, last.1, ends.opens)) }
          ]
    ]

pub first_by : (text : List ℕ) (result : Result Events EventFault) → Gives (λ read. read) result (reading text) → IfErr result (IsFaultOf text)
first_by text (Err (faults.Syntax line)) is = first_fault text line is
first_by text result is = tt
