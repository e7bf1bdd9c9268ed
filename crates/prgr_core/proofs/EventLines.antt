-- The line of an event is read as the event, and no other line is.
use Rattle.std.proofs.Common.{◌≡◌, ℕ, ◌<◌, ◌≤◌, ◌^◌, Bool, true, false, List, [], ◌∷◌, ◌++◌, Option, Some, None, refl, ◌∙◌, ap, subst, arith, decimal, codes, eqb, not}
use Rattle.std.specs.Prelude.{if◌then◌else◌, nat_lt, ◌==◌, option_map}
use Rattle.std.specs.List.{list_all}
use Rattle.std.specs.Option.{option_and_then}
use Rattle.std.specs.Str.{bytes_eq}
use Rattle.std.proofs.lemmas.Bool.{ltb-true, lt-ltb, eqb-false, ne_eqb, and_parts}
use Rattle.std.proofs.lemmas.Slice.Eq.{bytes_eq-Decides}
use Rattle.prgr_core.specs.declared.watcher.TheConstants.{DELAY_COUNTS}
use Rattle.prgr_core.specs.declared.event.PrgrEvent.{PrgrEvent}
use Rattle.prgr_core.specs.declared.event.PrgrEvent.TheVariants.{LoadCounter, LoadRoot, Report, Lead, Scan, ScanDelay, Advance, GiveUp, Wait, Enter, Publish, Retire, Release, WatchLoad, WatchAdd, WatchRoot, WatchSub}
use Rattle.prgr_core.specs.EventText.{space, line_feed, worded, worded_twice, event_text, IsAllowed}
use Rattle.prgr_core.specs.Reading.{with_first, cut_at, event_number, number_below, numbers_by, numbers_below, member_words, by_word, worded_event, event_by, event_of}
use Rattle.prgr_core.proofs.Parts.{and_then_some, some_same}
use Rattle.prgr_core.proofs.Numerals.{number_of_sound, number_of_decimal, Lacks, decimal_lacks}
use Rattle.prgr_core.proofs.Texts.{cut_parts}
use Rattle.std.proofs.lemmas.Option.{cond_some}

-- a number is equal to itself
eqb-not_same : (c : ℕ) → eqb c c ≡ false → ⊥
eqb-not_same c e = eqb-false c c e refl

-- a text that lacks the byte is cut behind itself
pub cut_here : (c : ℕ) (front rest : List ℕ) → Lacks c front → cut_at c (front ++ c ∷ rest) ≡ Some (front, rest)
cut_here c [] rest lacks = elim (c == c) as (λ (t : Bool). (c == c) ≡ t → (if t then Some ([], rest) else option_map (with_first c) (cut_at c rest)) ≡ Some ([], rest)) [
  | true ↦ λ _. refl
  | false ↦ λ e. absurd (eqb-not_same c e)
] refl
cut_here c (b ∷ bs) rest lacks = rw (ne_eqb b c lacks.0) (ap (option_map (with_first b)) (cut_here c bs rest lacks.1))

pub lacks_append : (c : ℕ) (xs ys : List ℕ) → Lacks c xs → Lacks c ys → Lacks c (xs ++ ys)
lacks_append c [] ys first second = second
lacks_append c (x ∷ xs) ys first second = (first.0, lacks_append c xs ys first.1 second)

not_true : (b : Bool) → not b ≡ true → b ≡ false
not_true false e = refl
not_true true e = absurd (cc)

-- a text lacks a byte that is none of its bytes
pub lacks_plain : (c : ℕ) (xs : List ℕ) → list_all (λ b. not (eqb b c)) xs ≡ true → Lacks c xs
lacks_plain c [] e = tt
lacks_plain c (x ∷ xs) e =
    let both = and_parts (not (eqb x c)) (list_all (λ b. not (eqb b c)) xs) e in
    (eqb-false x c (not_true (eqb x c) both.0), lacks_plain c xs both.1)

-- a word and a number have no line feed
pub worded_lacks : (word : List ℕ) (n : ℕ) → list_all (λ b. not (eqb b line_feed)) word ≡ true → n < 2 ^ 64 → Lacks line_feed (worded word n)
worded_lacks word n plain small = lacks_append line_feed word (space ∷ decimal n) (lacks_plain line_feed word plain) (λ e. (cc), decimal_lacks line_feed n (omega arith) small)

-- nor have a word and two numbers
worded_twice_lacks : (word : List ℕ) (n k : ℕ) → list_all (λ b. not (eqb b line_feed)) word ≡ true → n < 2 ^ 64 → k < 2 ^ 64 → Lacks line_feed (worded_twice word n k)
worded_twice_lacks word n k plain small small_too =
    lacks_append line_feed word (space ∷ (decimal n ++ space ∷ decimal k)) (lacks_plain line_feed word plain)
    (λ e. (cc), lacks_append line_feed (decimal n) (space ∷ decimal k) (decimal_lacks line_feed n (omega arith) small) (λ e. (cc), decimal_lacks line_feed k (omega arith) small_too))

-- ---- from an event to its line and back

number_read : (count n : ℕ) → n < count → n < 2 ^ 64 → number_below count (decimal n) ≡ Some n
number_read count n below small = ap (option_and_then (λ m. if nat_lt m count then Some m else None)) (number_of_decimal n small) ∙ ap (λ (t : Bool). if t then Some n else None) (lt-ltb n count below)

numbers_read : (first second n k : ℕ) → n < first → k < second → n < 2 ^ 64 → k < 2 ^ 64 → numbers_below first second (decimal n ++ space ∷ decimal k) ≡ Some (n, k)
numbers_read first second n k below below_too small small_too =
    ap (numbers_by first second) (cut_here space (decimal n) (decimal k) (decimal_lacks space n (omega arith) small))
    ∙ ap (option_and_then (λ m. option_map (λ (j : ℕ). (m, j)) (number_below second (decimal k)))) (number_read first n below small)
    ∙ ap (option_map (λ (j : ℕ). (n, j))) (number_read second k below_too small_too)

-- there are no more than the numbers that a text may have
abbrev pub IsFew : ℕ → Type 0
IsFew count = count ≤ 2 ^ 64

small_below : (count n : ℕ) → IsFew count → n < count → n < 2 ^ 64
small_below count n few below = omega (arith, few, below)

small_delay : (k : ℕ) → k < DELAY_COUNTS → k < 2 ^ 64
small_delay k below = omega (arith, below)

-- the line of an event that a list may have is read as the event
pub event_read : (members watchers : ℕ) (event : PrgrEvent) → IsFew members → IsFew watchers → IsAllowed members watchers event → event_of members watchers (event_text event) ≡ Some event
event_read members watchers event few few_too is = elim event as (λ (e : PrgrEvent). IsAllowed members watchers e → event_of members watchers (event_text e) ≡ Some e) [
  | LoadCounter m ↦ λ below. by_member (codes "load_counter") m below
  | LoadRoot m ↦ λ below. by_member (codes "load_root") m below
  | Report m ↦ λ below. by_member (codes "report") m below
  | Lead m ↦ λ below. by_member (codes "lead") m below
  | Scan m k ↦ λ below. ap (option_map (λ (p : ℕ × ℕ). Scan p.0 p.1)) (numbers_read members members m k below.0 below.1 (small_below members m few below.0) (small_below members k few below.1))
  | ScanDelay m ↦ λ below. by_member (codes "scan_delay") m below
  | Advance m ↦ λ below. by_member (codes "advance") m below
  | GiveUp m ↦ λ below. by_member (codes "give_up") m below
  | Wait m ↦ λ below. by_member (codes "wait") m below
  | Enter m ↦ λ below. by_member (codes "enter") m below
  | Publish ↦ λ _. refl
  | Retire ↦ λ _. refl
  | Release g ↦ λ small. ap (option_map (λ n. Release n)) (number_of_decimal g small)
  | WatchLoad w ↦ λ below. ap (option_map (λ n. WatchLoad n)) (number_read watchers w below (small_below watchers w few_too below))
  | WatchAdd w k ↦ λ below. ap (option_map (λ (p : ℕ × ℕ). WatchAdd p.0 p.1)) (by_delay w k below.0 below.1)
  | WatchRoot w ↦ λ below. ap (option_map (λ n. WatchRoot n)) (number_read watchers w below (small_below watchers w few_too below))
  | WatchSub w k ↦ λ below. ap (option_map (λ (p : ℕ × ℕ). WatchSub p.0 p.1)) (by_delay w k below.0 below.1)
] is
  where
    by_member : (word : List ℕ) (m : ℕ) → m < members → option_and_then (by_word member_words word) (number_below members (decimal m)) ≡ by_word member_words word m
    by_member word m below = ap (option_and_then (by_word member_words word)) (number_read members m below (small_below members m few below))

    by_delay : (w k : ℕ) → w < watchers → k < DELAY_COUNTS → numbers_below watchers DELAY_COUNTS (decimal w ++ space ∷ decimal k) ≡ Some (w, k)
    by_delay w k below below_too = numbers_read watchers DELAY_COUNTS w k below below_too (small_below watchers w few_too below) (small_delay k below_too)

-- the line of an event has no line feed
pub event_lacks : (members watchers : ℕ) (event : PrgrEvent) → IsFew members → IsFew watchers → IsAllowed members watchers event → Lacks line_feed (event_text event)
event_lacks members watchers (LoadCounter m) few few_too below = worded_lacks (codes "load_counter") m refl (small_below members m few below)
event_lacks members watchers (LoadRoot m) few few_too below = worded_lacks (codes "load_root") m refl (small_below members m few below)
event_lacks members watchers (Report m) few few_too below = worded_lacks (codes "report") m refl (small_below members m few below)
event_lacks members watchers (Lead m) few few_too below = worded_lacks (codes "lead") m refl (small_below members m few below)
event_lacks members watchers (Scan m k) few few_too below = worded_twice_lacks (codes "scan") m k refl (small_below members m few below.0) (small_below members k few below.1)
event_lacks members watchers (ScanDelay m) few few_too below = worded_lacks (codes "scan_delay") m refl (small_below members m few below)
event_lacks members watchers (Advance m) few few_too below = worded_lacks (codes "advance") m refl (small_below members m few below)
event_lacks members watchers (GiveUp m) few few_too below = worded_lacks (codes "give_up") m refl (small_below members m few below)
event_lacks members watchers (Wait m) few few_too below = worded_lacks (codes "wait") m refl (small_below members m few below)
event_lacks members watchers (Enter m) few few_too below = worded_lacks (codes "enter") m refl (small_below members m few below)
event_lacks members watchers Publish few few_too below = lacks_plain line_feed (codes "publish") refl
event_lacks members watchers Retire few few_too below = lacks_plain line_feed (codes "retire") refl
event_lacks members watchers (Release g) few few_too below = worded_lacks (codes "release") g refl below
event_lacks members watchers (WatchLoad w) few few_too below = worded_lacks (codes "watch_load") w refl (small_below watchers w few_too below)
event_lacks members watchers (WatchAdd w k) few few_too below = worded_twice_lacks (codes "watch_add") w k refl (small_below watchers w few_too below.0) (small_delay k below.1)
event_lacks members watchers (WatchRoot w) few few_too below = worded_lacks (codes "watch_root") w refl (small_below watchers w few_too below)
event_lacks members watchers (WatchSub w k) few few_too below = worded_twice_lacks (codes "watch_sub") w k refl (small_below watchers w few_too below.0) (small_delay k below.1)

-- no event has the line `go`
pub not_go : (event : PrgrEvent) → bytes_eq (event_text event) (codes "go") ≡ false
not_go (LoadCounter m) = refl
not_go event = refl

-- ---- from a line to its event and back

-- the line says the event, and a list may have it
abbrev pub Says : ℕ → ℕ → List ℕ → PrgrEvent → Type 0
Says members watchers line event = (line ≡ event_text event) × IsAllowed members watchers event

-- a choice that gives an event gives it on one of its sides
by_choice : {P : Type 0} (b : Bool) (x y : Option PrgrEvent) (event : PrgrEvent) → (b ≡ true → x ≡ Some event → P) → (y ≡ Some event → P) → (if b then x else y) ≡ Some event → P
by_choice true x y event here later e = here refl e
by_choice false x y event here later e = later e

pub same_bytes : (xs ys : List ℕ) → bytes_eq xs ys ≡ true → xs ≡ ys
same_bytes xs ys e = (bytes_eq-Decides xs ys).0 e

map_some : {T U : Type 0} (f : T → U) (o : Option T) (u : U) → option_map f o ≡ Some u → (x : T) × (o ≡ Some x) × (f x ≡ u)
map_some f None u e = absurd (cc)
map_some f (Some x) u e = (x, refl, some_same (f x) u e)

number_some : (count : ℕ) (text : List ℕ) (n : ℕ) → number_below count text ≡ Some n → (text ≡ decimal n) × (n < count)
number_some count text n e =
    let found = and_then_some (λ m. if nat_lt m count then Some m else None) (event_number text) n e in
    let made = cond_some (nat_lt found.0 count) found.0 n found.2 in
    let text_is = (number_of_sound text found.0 found.1).0 in
    (text_is ∙ ap decimal made.1, subst (λ m. m < count) made.1 (ltb-true found.0 count made.0))

numbers_some : (first second : ℕ) (text : List ℕ) (o : Option (List ℕ × List ℕ)) (p : ℕ × ℕ) → cut_at space text ≡ o → numbers_by first second o ≡ Some p → (text ≡ decimal p.0 ++ space ∷ decimal p.1) × (p.0 < first) × (p.1 < second)
numbers_some first second text None p cut e = absurd (cc)
numbers_some first second text (Some q) p cut e =
    let front = and_then_some (λ n. option_map (λ (k : ℕ). (n, k)) (number_below second q.1)) (number_below first q.0) p e in
    let behind = map_some (λ (k : ℕ). (front.0, k)) (number_below second q.1) p front.2 in
    let n = number_some first q.0 front.0 front.1 in
    let k = number_some second q.1 behind.0 behind.1 in
    let text_is : text ≡ decimal front.0 ++ space ∷ decimal behind.0 = cut_parts space text q cut ∙ ap (λ (x : List ℕ). x ++ space ∷ q.1) n.0 ∙ ap (λ (x : List ℕ). decimal front.0 ++ space ∷ x) k.0 in
    subst (λ (r : ℕ × ℕ). (text ≡ decimal r.0 ++ space ∷ decimal r.1) × (r.0 < first) × (r.1 < second)) behind.2 (text_is, n.1, k.1)

plain_says : (members watchers : ℕ) (line : List ℕ) (event : PrgrEvent) → (if bytes_eq line (codes "publish") then Some Publish else (if bytes_eq line (codes "retire") then Some Retire else None)) ≡ Some event → Says members watchers line event
plain_says members watchers line event e =
    by_choice (bytes_eq line (codes "publish")) (Some Publish) (if bytes_eq line (codes "retire") then Some Retire else None) event
    (λ named is. subst (Says members watchers line) (some_same Publish event is) (same_bytes line (codes "publish") named, tt))
    (λ other. let retire = cond_some (bytes_eq line (codes "retire")) Retire event other in subst (Says members watchers line) retire.1 (same_bytes line (codes "retire") retire.0, tt))
    e

-- a line of a word and more
module _ (members watchers : ℕ) (line word rest : List ℕ) (parts : line ≡ word ++ space ∷ rest) where
  -- the line, once word and numbers are known
  line_is : (name numbers : List ℕ) → bytes_eq word name ≡ true → rest ≡ numbers → line ≡ name ++ space ∷ numbers
  line_is name numbers named is = parts ∙ ap (λ (x : List ℕ). x ++ space ∷ rest) (same_bytes word name named) ∙ ap (λ (x : List ℕ). name ++ space ∷ x) is

  release_says : (event : PrgrEvent) → bytes_eq word (codes "release") ≡ true → option_map (λ g. Release g) (event_number rest) ≡ Some event → Says members watchers line event
  release_says event named e =
      let found = map_some (λ g. Release g) (event_number rest) event e in
      let number = number_of_sound rest found.0 found.1 in
      subst (Says members watchers line) found.2 (line_is (codes "release") (decimal found.0) named number.0, number.1)

  number_says : (name : List ℕ) (count : ℕ) (form : ℕ → PrgrEvent) (event : PrgrEvent) → ((n : ℕ) → n < count → Says members watchers (worded name n) (form n)) → bytes_eq word name ≡ true → option_map form (number_below count rest) ≡ Some event → Says members watchers line event
  number_says name count form event says named e =
      let found = map_some form (number_below count rest) event e in
      let number = number_some count rest found.0 found.1 in
      let said = says found.0 number.1 in
      subst (Says members watchers line) found.2 (line_is name (decimal found.0) named number.0 ∙ said.0, said.1)

  numbers_say : (name : List ℕ) (first second : ℕ) (form : ℕ → ℕ → PrgrEvent) (event : PrgrEvent) → ((n k : ℕ) → n < first → k < second → Says members watchers (worded_twice name n k) (form n k)) → bytes_eq word name ≡ true → option_map (λ p. form p.0 p.1) (numbers_below first second rest) ≡ Some event → Says members watchers line event
  numbers_say name first second form event says named e =
      let found = map_some (λ (p : ℕ × ℕ). form p.0 p.1) (numbers_below first second rest) event e in
      let numbers = numbers_some first second rest (cut_at space rest) found.0 refl found.1 in
      let said = says found.0.0 found.0.1 numbers.1 numbers.2 in
      subst (Says members watchers line) found.2 (line_is name (decimal found.0.0 ++ space ∷ decimal found.0.1) named numbers.0 ∙ said.0, said.1)

  -- each word of a table is that of its event
  abbrev IsTable : List (List ℕ × (ℕ → PrgrEvent)) → Type 0
  IsTable [] = Unit {0}
  IsTable (row ∷ rows) = ((m : ℕ) → m < members → Says members watchers (worded row.0 m) (row.1 m)) × IsTable rows

  words_are_table : IsTable member_words
  words_are_table = (λ m below. (refl, below), (λ m below. (refl, below), (λ m below. (refl, below), (λ m below. (refl, below), (λ m below. (refl, below), (λ m below. (refl, below), (λ m below. (refl, below), (λ m below. (refl, below), (λ m below. (refl, below), tt)))))))))

  table_says : (rows : List (List ℕ × (ℕ → PrgrEvent))) → IsTable rows → (m : ℕ) (event : PrgrEvent) → rest ≡ decimal m → m < members → by_word rows word m ≡ Some event → Says members watchers line event
  table_says [] table m event is below e = absurd (cc)
  table_says (row ∷ rows) table m event is below e =
      by_choice (bytes_eq word row.0) (Some (row.1 m)) (by_word rows word m) event
      (λ named here. let says = table.0 m below in subst (Says members watchers line) (some_same (row.1 m) event here) (line_is row.0 (decimal m) named is ∙ says.0, says.1))
      (λ later. table_says rows table.1 m event is below later)
      e

  member_says : (event : PrgrEvent) → option_and_then (by_word member_words word) (number_below members rest) ≡ Some event → Says members watchers line event
  member_says event e =
      let found = and_then_some (by_word member_words word) (number_below members rest) event e in
      let m = number_some members rest found.0 found.1 in
      table_says member_words words_are_table found.0 event m.0 m.1 found.2

  worded_says : (event : PrgrEvent) → worded_event members watchers word rest ≡ Some event → Says members watchers line event
  worded_says event e =
      by_choice _ _ _ event (λ named is. release_says event named is)
      (λ e. by_choice _ _ _ event (λ named is. numbers_say (codes "scan") members members (λ m k. Scan m k) event (λ m k below below_too. (refl, (below, below_too))) named is)
      (λ e. by_choice _ _ _ event (λ named is. number_says (codes "watch_load") watchers (λ w. WatchLoad w) event (λ w below. (refl, below)) named is)
      (λ e. by_choice _ _ _ event (λ named is. numbers_say (codes "watch_add") watchers DELAY_COUNTS (λ w k. WatchAdd w k) event (λ w k below below_too. (refl, (below, below_too))) named is)
      (λ e. by_choice _ _ _ event (λ named is. number_says (codes "watch_root") watchers (λ w. WatchRoot w) event (λ w below. (refl, below)) named is)
      (λ e. by_choice _ _ _ event (λ named is. numbers_say (codes "watch_sub") watchers DELAY_COUNTS (λ w k. WatchSub w k) event (λ w k below below_too. (refl, (below, below_too))) named is)
      (member_says event) e) e) e) e) e) e

event_says : (members watchers : ℕ) (line : List ℕ) (o : Option (List ℕ × List ℕ)) (event : PrgrEvent) → cut_at space line ≡ o → event_by members watchers line o ≡ Some event → Says members watchers line event
event_says members watchers line None event cut e = plain_says members watchers line event e
event_says members watchers line (Some p) event cut e = worded_says members watchers line p.0 p.1 (cut_parts space line p cut) event e

-- what is read as an event is its line
pub event_of_sound : (members watchers : ℕ) (line : List ℕ) (event : PrgrEvent) → event_of members watchers line ≡ Some event → Says members watchers line event
event_of_sound members watchers line event e = event_says members watchers line (cut_at space line) event refl e
