-- The lingering answers that are told before the next generation, as watches, and what a lawful log says of them.
use Rattle.std.proofs.Common.{◌≡◌, ◌==◌, ℕ, zero, suc, ◌+◌, ◌-◌, ◌<◌, ◌≤◌, Bool, true, false, cond, is_some, List, [], ◌∷◌, ◌++◌, length, take, drop, get_or, slice_get, Option, Some, None, IfSome, if◌then◌else◌, refl, sym, ap, subst, ◌∙◌, arith}
use Rattle.std.proofs.lemmas.Bool.{cond-true, eqb-true, eq-eqb}
use Rattle.std.proofs.lemmas.Option.{none-some, same_Some}
use Rattle.std.proofs.lemmas.List.{take_all, take_more}
use Rattle.std.proofs.lemmas.List.Elements.{All-from_recursion, filter_map-append, recursion_from_All}
use Rattle.std.proofs.lemmas.List.Sorted.{All-permutation, IsPermutation-sym}
use Rattle.std.specs.List.{AllByRecursion, filter_map, cons_option}
use Rattle.std.specs.List.Sorted.{IsNonDecreasingBy, IsPermutation}
use Rattle.std.specs.Option.{option_to_list}
use Rattle.span_check.specs.Watches.{AreInOrder, first_turn}
use Rattle.term_core.specs.declared.atom.AtomId.{AtomId}
use Rattle.mod_core.specs.declared.code.Module.{Module}
use Rattle.server_core.specs.declared.command.Cmd.{Cmd}
use Rattle.server_core.specs.declared.command.Cmd.TheVariants as cmds
use Rattle.server_core.specs.declared.command.Linger.{Linger}
use Rattle.server_core.specs.ServerState.{ServerState, empty_state, old_of}
use Rattle.run_log.specs.declared.logs.Entry.{Entry}
use Rattle.run_log.specs.Journal.{next_state, newest_state, published_count, publishes, state_at}
use Rattle.run_log.specs.Legal.{published_to, state_before}
use Rattle.run_log.proofs.Journals.{count-cons, newest_at}
use Rattle.run_log.proofs.StatesForTurns.{for_turns}
use Rattle.span_check.specs.declared.watch.Watch.{Watch}
use Rattle.legality.specs.Sweeps.{AreWatches, stretch, watch_for, watch_in, watches_in}
use Rattle.legality.proofs.Places.{state_first}

-- ---- the entries up to the next generation

module _ (place : ℕ) where
  -- what stands behind a place
  pub get_behind : {X : Type 0} (xs : List X) (j : ℕ) → slice_get (drop place xs) j ≡ slice_get xs (place + j)
  get_behind xs j = behind place xs
    where
      behind : {X : Type 0} (n : ℕ) (xs : List X) → slice_get (drop n xs) j ≡ slice_get xs (n + j)
      behind zero xs = ap (slice_get xs) (omega arith)
      behind (suc n) [] = refl
      behind (suc n) (x ∷ xs) = let e : suc n + j ≡ suc (n + j) = omega arith in behind n xs ∙ ap (slice_get (x ∷ xs)) (sym e)

take_none : {X : Type 0} (n : ℕ) → take {A = X} n [] ≡ []
take_none zero = refl
take_none (suc n) = refl

-- the generations that entries in two parts make
count_parts : (place j : ℕ) (journal : List Entry) → published_count (take (place + j) journal) ≡ published_count (take place journal) + published_count (take j (drop place journal))
count_parts zero j journal =
    let n : 0 + j ≡ j = omega arith in
    let a : published_count (take (0 + j) journal) ≡ published_count (take j journal) = ap (λ k. published_count (take k journal)) n in
    omega (arith, a)
count_parts (suc place) j [] =
    let a : published_count (take (suc place + j) []) ≡ 0 = ap published_count (take_none (suc place + j)) in
    let b : published_count (take j []) ≡ 0 = ap published_count (take_none j) in
    omega (arith, a, b)
count_parts (suc place) j (e ∷ journal) =
    let n : suc place + j ≡ suc (place + j) = omega arith in
    let a : published_count (take (suc place + j) (e ∷ journal)) ≡ published_count (e ∷ take (place + j) journal) = ap (λ k. published_count (take k (e ∷ journal))) n in
    let b = count-cons e (take (place + j) journal) in
    let c = count-cons e (take place journal) in
    omega (arith, a, b, c, count_parts place j journal)

-- the state after entries in two parts
newest_parts : (texts : List Module) (s : ServerState) (place j : ℕ) (journal : List Entry) → newest_state texts s (take (place + j) journal) ≡ newest_state texts (newest_state texts s (take place journal)) (take j (drop place journal))
newest_parts texts s zero j journal = let n : 0 + j ≡ j = omega arith in ap (λ k. newest_state texts s (take k journal)) n
newest_parts texts s (suc place) j [] = ap (newest_state texts s) (take_none (suc place + j)) ∙ sym (ap (newest_state texts s) (take_none j))
newest_parts texts s (suc place) j (e ∷ journal) =
    let n : suc place + j ≡ suc (place + j) = omega arith in
    ap (λ k. newest_state texts s (take k (e ∷ journal))) n ∙ newest_parts texts (next_state texts s e.cmd) place j journal

-- where no generation is made, the versions of the modules stay
same_versions : (texts : List Module) (s : ServerState) (journal : List Entry) (name : ℕ) → (newest_state texts s journal).generation ≡ s.generation → old_of (newest_state texts s journal) name ≡ old_of s name
same_versions texts s journal name h =
    let first = ap (λ k. for_turns (state_at texts s journal k)) h ∙ ap for_turns (state_first texts s journal) in
    ap (λ (x : ServerState). old_of x name) (sym (newest_at texts s journal) ∙ first)

pub old_stays : (texts : List Module) (journal : List Entry) (place k name : ℕ) → place ≤ k → (state_before texts k journal).generation ≡ (state_before texts place journal).generation
    → old_of (state_before texts k journal) name ≡ old_of (state_before texts place journal) name
old_stays texts journal place k name low h =
    let j = k - place in
    let n : k ≡ place + j = omega (arith, low) in
    let parts : state_before texts k journal ≡ newest_state texts (state_before texts place journal) (take j (drop place journal)) = ap (λ m. state_before texts m journal) n ∙ newest_parts texts empty_state place j journal in
    ap (λ x. old_of x name) parts ∙ same_versions texts (state_before texts place journal) (take j (drop place journal)) name (sym (ap (λ (x : ServerState). x.generation) parts) ∙ h)

-- an entry up to the next generation
stretch_step : (made : Bool) (x e : Entry) (journal rest : List Entry) (j : ℕ) → (if made then 1 else 0) + published_count (take j journal) ≡ 0 → slice_get rest j ≡ Some e → slice_get (cond made (x ∷ []) (x ∷ rest)) (suc j) ≡ Some e
stretch_step true x e journal rest j none at = absurd (omega (arith, none))
stretch_step false x e journal rest j none at = at

stretch_first : (made : Bool) (x : Entry) (rest : List Entry) → slice_get (cond made (x ∷ []) (x ∷ rest)) 0 ≡ Some x
stretch_first true x rest = refl
stretch_first false x rest = refl

stretch_has : (journal : List Entry) (j : ℕ) (e : Entry) → slice_get journal j ≡ Some e → published_count (take j journal) ≡ 0 → slice_get (stretch journal) j ≡ Some e
stretch_has [] j e at none = at
stretch_has (x ∷ journal) zero e at none = stretch_first (is_some x.published) x (stretch journal) ∙ at
stretch_has (x ∷ journal) (suc j) e at none =
    let n = count-cons x (take j journal) in
    stretch_step (is_some x.published) x e journal (stretch journal) j (omega (arith, n, none)) (stretch_has journal j e at (omega (arith, n, none)))

-- what stands in the stretch
record StandsAhead (journal : List Entry) (j : ℕ) (e : Entry) : Type 0 where
  at : slice_get journal j ≡ Some e
  none : published_count (take j journal) ≡ 0

ahead_step : (made : Bool) (x e : Entry) (journal rest : List Entry) (j : ℕ) → publishes x ≡ (if made then 1 else 0) → (slice_get rest j ≡ Some e → StandsAhead journal j e) → slice_get (cond made (x ∷ []) (x ∷ rest)) (suc j) ≡ Some e → StandsAhead (x ∷ journal) (suc j) e
ahead_step true x e journal rest j is next at = absurd (none-some e at)
ahead_step false x e journal rest j is next at = let h = next at in record { at = h.at; none = (let n = count-cons x (take j journal) in omega (arith, n, h.none, is)) }

stretch_only : (journal : List Entry) (j : ℕ) (e : Entry) → slice_get (stretch journal) j ≡ Some e → StandsAhead journal j e
stretch_only [] j e at = absurd (none-some e at)
stretch_only (x ∷ journal) zero e at = record { at = sym (stretch_first (is_some x.published) x (stretch journal)) ∙ at; none = refl }
stretch_only (x ∷ journal) (suc j) e at = ahead_step (is_some x.published) x e journal (stretch journal) j refl (stretch_only journal j e) at

-- by its place in the journal
pub ahead_has : (journal : List Entry) (place k : ℕ) (e : Entry) → place ≤ k → slice_get journal k ≡ Some e → published_to k journal ≡ published_to place journal → slice_get (stretch (drop place journal)) (k - place) ≡ Some e
ahead_has journal place k e low at same =
    let j = k - place in
    let n : k ≡ place + j = omega (arith, low) in
    let c = count_parts place j journal in
    let k_is : published_to k journal ≡ published_to (place + j) journal = ap (λ m. published_to m journal) n in
    stretch_has (drop place journal) j e (get_behind place journal j ∙ ap (slice_get journal) (sym n) ∙ at) (omega (arith, c, same, k_is))

pub record IsAhead (journal : List Entry) (place : ℕ) (e : Entry) : Type 0 where
  pub k : ℕ
  pub low : place ≤ k
  pub at : slice_get journal k ≡ Some e
  pub same : published_to k journal ≡ published_to place journal

pub ahead_only : (journal : List Entry) (place j : ℕ) (e : Entry) → slice_get (stretch (drop place journal)) j ≡ Some e → IsAhead journal place e
ahead_only journal place j e h =
    let a = stretch_only (drop place journal) j e h in
    let c = count_parts place j journal in
    record { k = place + j; low = omega arith; at = sym (get_behind place journal j) ∙ a.at; same = omega (arith, c, a.none) }

-- ---- watches

-- what a function gives of elements, one by one
given_first : {Y : Type 0} (P : Y → Type 0) (o : Option Y) (ys : List Y) (y : Y) → o ≡ Some y → AllByRecursion P (cons_option o ys) → P y
given_first P None ys y e h = absurd (none-some y e)
given_first P (Some x) ys y e h = subst P (same_Some x y e) h.0

given_rest : {Y : Type 0} (P : Y → Type 0) (o : Option Y) (ys : List Y) → AllByRecursion P (cons_option o ys) → AllByRecursion P ys
given_rest P None ys h = h
given_rest P (Some x) ys h = h.1

pub given_at : {X Y : Type 0} (P : Y → Type 0) (f : X → Option Y) (xs : List X) (k : ℕ) (x : X) (y : Y) → AllByRecursion P (filter_map f xs) → slice_get xs k ≡ Some x → f x ≡ Some y → P y
given_at P f [] k x y h at e = absurd (none-some x at)
given_at P f (z ∷ xs) zero x y h at e = given_first P (f z) (filter_map f xs) y (ap f (same_Some z x at) ∙ e) h
given_at P f (z ∷ xs) (suc k) x y h at e = given_at P f xs k x y (given_rest P (f z) (filter_map f xs) h) at e

all_cons : {Y : Type 0} (P : Y → Type 0) (o : Option Y) (ys : List Y) → ((y : Y) → o ≡ Some y → P y) → AllByRecursion P ys → AllByRecursion P (cons_option o ys)
all_cons P None ys f h = h
all_cons P (Some y) ys f h = (f y refl, h)

pub all_given : {X Y : Type 0} (P : Y → Type 0) (f : X → Option Y) (xs : List X) → ((k : ℕ) (x : X) (y : Y) → slice_get xs k ≡ Some x → f x ≡ Some y → P y) → AllByRecursion P (filter_map f xs)
all_given P f [] h = tt
all_given P f (x ∷ xs) h = all_cons P (f x) (filter_map f xs) (λ y e. h 0 x y refl e) (all_given P f xs (λ k z y at e. h (suc k) z y at e))

-- a command that makes something to be watched
pub record IsWatched (s : ServerState) (number : ℕ) (cmd : Cmd) (watch : Watch) : Type 0 where
  pub name : AtomId
  pub linger : Linger
  pub cmd_is : cmd ≡ cmds.SoftPurge name (Some linger)
  pub process_is : linger.process ≡ number
  pub old : old_of s name.0 ≡ Some watch.serial
  pub turn_is : watch.turn ≡ linger.turn

watch_by : (s : ServerState) (number : ℕ) (name : AtomId) (linger : Linger) (watch : Watch) (same : Bool) (old : Option ℕ) → (linger.process == number) ≡ same → old_of s name.0 ≡ old → (if same then watch_for old linger else None) ≡ Some watch
    → IsWatched s number (cmds.SoftPurge name (Some linger)) watch
watch_by s number name linger watch true None is at h = absurd (none-some watch h)
watch_by s number name linger watch true (Some serial) is at h =
    let w = same_Some (record { turn = linger.turn; serial = serial }) watch h in
    record {
      name = name;
      linger = linger;
      cmd_is = refl;
      process_is = eqb-true linger.process number is;
      old = at ∙ ap (λ (x : Watch). Some x.serial) w;
      turn_is = ap (λ (x : Watch). x.turn) (sym w);
    }
watch_by s number name linger watch false old is at h = absurd (none-some watch h)

pub watch_is : (s : ServerState) (number : ℕ) (cmd : Cmd) (watch : Watch) → watch_in s number cmd ≡ Some watch → IsWatched s number cmd watch
watch_is s number (cmds.SoftPurge name (Some linger)) watch h = watch_by s number name linger watch (linger.process == number) (old_of s name.0) refl refl h
watch_is s number cmd watch h = absurd (none-some watch h)

-- a lingering answer makes its turn to be watched
pub watch_made : (s : ServerState) (cmd : Cmd) (name : AtomId) (linger : Linger) (serial : ℕ) → cmd ≡ cmds.SoftPurge name (Some linger) → old_of s name.0 ≡ Some serial → watch_in s linger.process cmd ≡ Some (record { turn = linger.turn; serial = serial })
watch_made s cmd name linger serial is old =
    ap (watch_in s linger.process) is
    ∙ cond-true (linger.process == linger.process) (watch_for (old_of s name.0) linger) None (eq-eqb linger.process linger.process refl)
    ∙ ap (λ o. watch_for o linger) old

-- what holds of the watches in order holds of them as they are told, and the other way round
pub watches_told : (P : Watch → Type 0) (s : ServerState) (number : ℕ) (journal : List Entry) (watches : List Watch) → AreWatches s number journal watches → AllByRecursion P watches → AllByRecursion P (watches_in s number journal)
watches_told P s number journal watches are h =
    recursion_from_All P (watches_in s number journal) (All-permutation P watches (watches_in s number journal) (IsPermutation-sym (watches_in s number journal) watches are.all) (All-from_recursion P watches h))

pub watches_hold : (P : Watch → Type 0) (s : ServerState) (number : ℕ) (journal : List Entry) (watches : List Watch) → AreWatches s number journal watches → AllByRecursion P (watches_in s number journal) → AllByRecursion P watches
watches_hold P s number journal watches are h =
    recursion_from_All P watches (All-permutation P (watches_in s number journal) watches are.all (All-from_recursion P (watches_in s number journal) h))

-- ---- a loop that makes a list of what a function gives

one_given : {Y : Type 0} (o : Option Y) → cons_option o [] ≡ option_to_list o
one_given None = refl
one_given (Some y) = refl

pub given_next : {X Y : Type 0} (f : X → Option Y) (xs : List X) (i : ℕ) (x : X) (before after : List Y) (o : Option Y) → before ≡ filter_map f (take i xs) → i < length xs → x ≡ get_or xs i x → o ≡ f x → after ≡ before ++ option_to_list o
    → after ≡ filter_map f (take (i + 1) xs)
given_next f xs i x before after o so_far below is gives h =
    h ∙ ap (λ ys. ys ++ option_to_list o) so_far
    ∙ ap (λ p. filter_map f (take i xs) ++ option_to_list p) gives
    ∙ ap (λ ys. filter_map f (take i xs) ++ ys) (sym (one_given (f x)))
    ∙ sym (filter_map-append f (take i xs) (x ∷ []))
    ∙ ap (λ y. filter_map f (take i xs ++ y ∷ [])) is
    ∙ ap (filter_map f) (sym (take_more xs i x below))

-- watches in order of their turns
in_order : (watches : List Watch) → ((i j : ℕ) (d : Watch) → i ≤ j → j < length watches → (get_or watches i d).turn ≤ (get_or watches j d).turn) → AreInOrder watches
in_order [] h = tt
in_order (watch ∷ watches) h = (first watches (λ d below. h 0 1 d (omega arith) (omega (arith, below))), in_order watches (λ i j d low below. let n : suc i ≤ suc j = omega (arith, low) in h (suc i) (suc j) d n (omega (arith, below))))
  where
    first : (rest : List Watch) → ((d : Watch) → 0 < length rest → watch.turn ≤ (get_or (watch ∷ rest) 1 d).turn) → IfSome (first_turn rest) (λ turn. watch.turn ≤ turn)
    first [] f = tt
    first (next ∷ rest) f = f watch (omega arith)

pub are_watches : (s : ServerState) (number : ℕ) (journal : List Entry) (made watches : List Watch) (end : ℕ) → made ≡ watches_in s number (take end journal) → length journal ≤ end → IsPermutation made watches → IsNonDecreasingBy (λ (watch : Watch). watch.turn) watches
    → AreWatches s number journal watches
are_watches s number journal made watches end is over moved sorted = record {
  order = in_order watches sorted;
  all = subst (λ xs. IsPermutation xs watches) (is ∙ ap (watches_in s number) (take_all end journal over)) moved;
}
