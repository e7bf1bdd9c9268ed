-- That a process that names at most 16 areas does so after its turn.
use Rattle.std.proofs.Common.{◌≡◌, ◌<◌, ◌≤◌, ◌+◌, ◌==◌, ◌||◌, ◌&&◌, ◌∙◌, ℕ, refl, sym, ap, arith, subst, not, Bool, cond, true, false, List, [], ◌∷◌, ◌++◌, filter, length, length-append, Some, None, if◌then◌else◌}
use Rattle.std.proofs.lemmas.Bool.Decides.{nat_tests}
use Rattle.std.proofs.lemmas.Bool.{or_right}
use Rattle.term_core.specs.declared.hold.Kind.TheVariants.{Frame, Literal}
use Rattle.server_core.specs.ServerState.{Entry, ServerState}
use Rattle.machine_core.specs.Holds.{Holds, IsIncreasing, area_count, is_among, is_full, other_areas, with_hold, without_serial}
use Rattle.machine_core.specs.Process.{PlainFrame, PlainProcess, PlainValue, first_registers, frame_names, literal, literal_serials, names_of, owned, owned_values}
use Rattle.machine_core.specs.Stand.{AreHeld}
use Rattle.machine_core.specs.Turn.{Ran, Step, begun, copied, ends, executed, goes_on, held_with, step_of, turn_by, turn_of, yields}
use Rattle.machine_core.proofs.CopiedFrames.{IsKeptArea, copied_within}
use Rattle.machine_core.proofs.HeldSteps.{KeepsHeld, begun_held, step_held}
use Rattle.machine_core.proofs.NamedAreas.{IsFrameHeld, IsLiteralHeld, among_append, frames_held, held_within, instance_serials, literals_held, names_held, within_held, within_wider}
use Rattle.machine_core.proofs.RunLaws.{IsKept, KeepsSo, ran_kept}
use Rattle.machine_core.proofs.SerialLists.{among-filter, among-with, among-without, increasing-serials_of, increasing-with, length-taken, above_among, same_first}
use Rattle.machine_core.proofs.StepCases.{Came, it_calls, it_calls_out, it_ends, it_moves, it_pauses, it_returns, it_stores, IsCalled, call_refused, call_stacks, IsCalledOut, out_reaches, out_refused, called_out_is, came}
use Rattle.machine_core.specs.Reads.{Reads, instr_at}
use Rattle.machine_core.specs.ServerReads.{reads_of}

-- ---- how many serials there are

-- no serial stands among those behind it
abbrev AreApart : List ℕ → Type 0
AreApart [] = Unit {0}
AreApart (n ∷ ns) = (is_among ns n ≡ false) × AreApart ns

increasing_apart : (ns : List ℕ) → IsIncreasing ns → AreApart ns
increasing_apart [] i = tt
increasing_apart (n ∷ ns) i = (above_among n n ns i.0 (omega arith), increasing_apart ns i.1)

filter_apart : (p : ℕ → Bool) (ns : List ℕ) → AreApart ns → AreApart (filter p ns)
filter_apart p [] a = tt
filter_apart p (n ∷ ns) a = elim (p n) as (λ b. AreApart (cond b (n ∷ filter p ns) (filter p ns))) [
  | true ↦ (among-filter p ns n ∙ ap (λ b. b && p n) a.0, filter_apart p ns a.1)
  | false ↦ filter_apart p ns a.1
]

append_apart : (ms ns : List ℕ) → AreApart ms → AreApart ns → ((q : ℕ) → is_among ms q ≡ true → is_among ns q ≡ false) → AreApart (ms ++ ns)
append_apart [] ns a b h = b
append_apart (m ∷ ms) ns a b h =
    (among_append ms ns m ∙ ap (λ c. c || is_among ns m) a.0 ∙ h m (same_first m (is_among ms m)), append_apart ms ns a.1 b (λ q e. h q (or_right (m == q) (is_among ms q) e)))

-- serials apart that are all among others are no more than these
length_apart : (ms ns : List ℕ) → AreApart ms → ((q : ℕ) → is_among ms q ≡ true → is_among ns q ≡ true) → length ms ≤ length ns
length_apart [] ns a all = omega arith
length_apart (m ∷ ms) ns a all =
    let taken = length-taken ns m (all m (first_among m ms)) in
    let rest = length_apart ms (without_serial ns m) a.1 (λ q h. still_there q h (m == q) refl) in
    omega (arith, taken, rest)
  where
    first_among : (n : ℕ) (ns : List ℕ) → is_among (n ∷ ns) n ≡ true
    first_among n ns = grind (arith, nat_tests)

    later_among : (q : ℕ) → is_among ms q ≡ true → is_among (m ∷ ms) q ≡ true
    later_among q h = grind (arith, nat_tests)

    still_there : (q : ℕ) → is_among ms q ≡ true → (b : Bool) → (m == q) ≡ b → is_among (without_serial ns m) q ≡ true
    still_there q h true e = let same : m ≡ q = grind (arith, nat_tests) in let none : is_among ms q ≡ false = subst (λ n. is_among ms n ≡ false) same a.0 in absurd (cc)
    still_there q h false e = let other : (q == m) ≡ false = grind (arith, nat_tests) in among-without ns m q ∙ (rw other (all q (later_among q h)))

-- ---- how many areas are held

-- the areas that are held, those of frames first
abbrev areas_of : Holds → List ℕ
areas_of held = held.frames ++ filter (λ n. not (is_among held.frames n)) held.literals

-- whether an area is held for a frame or for literals
abbrev is_held_either : Holds → ℕ → Bool
is_held_either held serial = is_among held.frames serial || is_among held.literals serial

areas_len : (held : Holds) → length (areas_of held) ≡ area_count held
areas_len held = length-append held.frames (filter (λ n. not (is_among held.frames n)) held.literals)

areas_among : (held : Holds) (q : ℕ) → is_among (areas_of held) q ≡ is_held_either held q
areas_among held q =
    among_append held.frames (filter (λ n. not (is_among held.frames n)) held.literals) q
    ∙ ap (λ b. is_among held.frames q || b) (among-filter (λ n. not (is_among held.frames n)) held.literals q) ∙ either_or (is_among held.frames q) (is_among held.literals q)
  where
    either_or : (a b : Bool) → (a || (b && not a)) ≡ (a || b)
    either_or true true = refl
    either_or true false = refl
    either_or false true = refl
    either_or false false = refl

-- both kinds as sets
pub record AreSets (held : Holds) : Type 0 where
  pub frames : IsIncreasing held.frames
  pub literals : IsIncreasing held.literals

areas_apart : (held : Holds) → AreSets held → AreApart (areas_of held)
areas_apart held sets =
    append_apart held.frames (filter (λ n. not (is_among held.frames n)) held.literals) (increasing_apart held.frames sets.frames)
    (filter_apart (λ n. not (is_among held.frames n)) held.literals (increasing_apart held.literals sets.literals))
    (λ q e. among-filter (λ n. not (is_among held.frames n)) held.literals q ∙ ap (λ b. is_among held.literals q && not b) e ∙ and_false (is_among held.literals q))
  where
    and_false : (b : Bool) → (b && false) ≡ false
    and_false true = refl
    and_false false = refl

or_each : (a b c d : Bool) → (a ≡ true → c ≡ true) → (b ≡ true → d ≡ true) → (a || b) ≡ true → (c || d) ≡ true
or_each true b true d f g e = refl
or_each true b false d f g e = let h = f refl in absurd (cc)
or_each false b true d f g e = refl
or_each false b false d f g e = g e

-- where all that one holds another holds too, the one holds no more areas
pub fewer_areas : (some all : Holds) → AreSets some → ((q : ℕ) → is_among some.frames q ≡ true → is_among all.frames q ≡ true) → ((q : ℕ) → is_among some.literals q ≡ true → is_among all.literals q ≡ true) → area_count some ≤ area_count all
fewer_areas some all sets f l =
    let short = length_apart (areas_of some) (areas_of all) (areas_apart some sets)
    (λ q e. areas_among all q ∙ or_each (is_among some.frames q) (is_among some.literals q) (is_among all.frames q) (is_among all.literals q) (f q) (l q) (sym (areas_among some q) ∙ e)) in
    omega (arith, short, areas_len some, areas_len all)

-- the other areas that are held
abbrev others_of : Holds → ℕ → List ℕ
others_of held serial = without_serial held.frames serial ++ filter (λ n. not (n == serial) && not (is_among held.frames n)) held.literals

others_len : (held : Holds) (serial : ℕ) → length (others_of held serial) ≡ other_areas held serial
others_len held serial = length-append (without_serial held.frames serial) (filter (λ n. not (n == serial) && not (is_among held.frames n)) held.literals)

-- an area that is held is this one or one of the others
other_or : (held : Holds) (serial q : ℕ) → is_held_either held q ≡ true → is_among (serial ∷ others_of held serial) q ≡ true
other_or held serial q h = other_case (serial == q) refl
  where
    other_parts : (f l : Bool) → (f || l) ≡ true → (f || (l && not f)) ≡ true
    other_parts true l e = refl
    other_parts false true e = refl
    other_parts false false e = e

    other_case : (b : Bool) → (serial == q) ≡ b → (b || is_among (others_of held serial) q) ≡ true
    other_case true e = refl
    other_case false e =
        let apart : (q == serial) ≡ false = grind (arith, nat_tests) in
        among_append (without_serial held.frames serial) (filter (λ n. not (n == serial) && not (is_among held.frames n)) held.literals) q
        ∙ ap (λ b. b || is_among (filter (λ n. not (n == serial) && not (is_among held.frames n)) held.literals) q) (among-without held.frames serial q ∙ ap (λ b. not b && is_among held.frames q) apart)
        ∙ ap (λ b. is_among held.frames q || b) (among-filter (λ n. not (n == serial) && not (is_among held.frames n)) held.literals q ∙ ap (λ b. is_among held.literals q && (not b && not (is_among held.frames q))) apart)
        ∙ other_parts (is_among held.frames q) (is_among held.literals q) h

-- what is held with one area more is one more than the others at most
one_more : (held now : Holds) (serial : ℕ) → AreSets now → ((q : ℕ) → is_held_either now q ≡ true → (serial == q || is_held_either held q) ≡ true) → area_count now ≤ other_areas held serial + 1
one_more held now serial sets h =
    let short = length_apart (areas_of now) (serial ∷ others_of held serial) (areas_apart now sets) (λ q e. this_or q (serial == q) refl (h q (sym (areas_among now q) ∙ e))) in
    omega (arith, short, areas_len now, others_len held serial)
  where
    this_or : (q : ℕ) (b : Bool) → (serial == q) ≡ b → (b || is_held_either held q) ≡ true → is_among (serial ∷ others_of held serial) q ≡ true
    this_or q true e g = ap (λ b. b || is_among (others_of held serial) q) e
    this_or q false e g = other_or held serial q g

-- at most 16 areas
pub record IsFew (held : Holds) : Type 0 where
  pub sets : AreSets held
  pub few : area_count held ≤ 16

room_for : (held : Holds) (serial : ℕ) → is_full held serial ≡ false → other_areas held serial < 16
room_for held serial full = grind (arith, nat_tests)

-- they are as few with one more that could be held
frame_few : (held : Holds) (serial : ℕ) → IsFew held → is_full held serial ≡ false → IsFew (with_hold held serial Frame)
frame_few held serial f full =
    let sets : AreSets (with_hold held serial Frame) = record { frames = increasing-with held.frames serial f.sets.frames; literals = f.sets.literals } in
    let more = one_more held (with_hold held serial Frame) serial sets (λ q e. moved (serial == q) (is_among held.frames q) (is_among held.literals q) (sym (ap (λ b. b || is_among held.literals q) (among-with held.frames serial q)) ∙ e)) in
    record { sets = sets; few = omega (arith, more, room_for held serial full) }
  where
    moved : (a b c : Bool) → ((a || b) || c) ≡ true → (a || (b || c)) ≡ true
    moved true b c e = refl
    moved false b c e = e

literal_few : (held : Holds) (serial : ℕ) → IsFew held → is_full held serial ≡ false → IsFew (with_hold held serial Literal)
literal_few held serial f full =
    let sets : AreSets (with_hold held serial Literal) = record { frames = f.sets.frames; literals = increasing-with held.literals serial f.sets.literals } in
    let more = one_more held (with_hold held serial Literal) serial sets (λ q e. moved (serial == q) (is_among held.frames q) (is_among held.literals q) (sym (ap (λ b. is_among held.frames q || b) (among-with held.literals serial q)) ∙ e)) in
    record { sets = sets; few = omega (arith, more, room_for held serial full) }
  where
    moved : (a b c : Bool) → (b || (a || c)) ≡ true → (a || (b || c)) ≡ true
    moved true b c e = refl
    moved false b c e = e

value_case : (held now : Holds) (serial : ℕ) (b : Bool) → is_full held serial ≡ b → IsFew held → (if b then None else Some (with_hold held serial Literal)) ≡ Some now → IsFew now
value_case held now serial true full f e = absurd (cc)
value_case held now serial false full f e = let same : with_hold held serial Literal ≡ now = cc in subst IsFew same (literal_few held serial f full)

value_few : (held now : Holds) (value : PlainValue) → IsFew held → held_with held value ≡ Some now → IsFew now
value_few held now (owned term) f e = let same : held ≡ now = cc in subst IsFew same f
value_few held now (literal serial term) f e = value_case held now serial (is_full held serial) refl f e

-- ---- turns

module _ (s : Reads) where
  StandsFew : List PlainFrame → Holds → Type 0
  StandsFew frames held = IsFew held × AreHeld held frames

  LeavesFew : Ran → Type 0
  LeavesFew ran = area_count (frame_names ran.frames) ≤ 16

  abbrev StepFew : Holds → Step → Type 0
  StepFew held step = KeepsSo s StandsFew (λ _. Unit {0}) LeavesFew held step

  -- what a step leaves held is few
  abbrev HoldsFew : Step → Type 0
  HoldsFew (goes_on frames now line) = IsFew now
  HoldsFew (yields frames) = Unit {0}
  HoldsFew (ends end) = Unit {0}

  both_few : (held : Holds) (step : Step) → IsFew held → HoldsFew step → KeepsHeld held step → StepFew held step
  unfolding StandsFew
  both_few held (goes_on frames now line) f few h = (few, h)
  both_few held (yields frames) f few h = (f, h)
  both_few held (ends end) f few h = tt

  called_few : (standing : List PlainFrame) (held : Holds) (e : Entry) (back : ℕ) (registers : List PlainValue) (step : Step) → IsFew held → IsCalled s standing held e back registers step → HoldsFew step
  called_few standing held e back registers step f (call_refused end own) = tt
  called_few standing held e back registers step f (call_stacks line room) = frame_few held e.serial f room

  called_out_few : (standing : List PlainFrame) (held : Holds) (back : ℕ) (registers : List PlainValue) (step : Step) → IsFew held → IsCalledOut s standing held back registers step → HoldsFew step
  called_out_few standing held back registers step f (out_refused end own) = tt
  called_out_few standing held back registers step f (out_reaches e same current to known called) = called_few standing held e back registers step f called

  came_few : (f : PlainFrame) (below : List PlainFrame) (held : Holds) (step : Step) → IsFew held → Came s f below held step → HoldsFew step
  came_few f below held step few (it_ends end own) = tt
  came_few f below held step few (it_pauses place) = tt
  came_few f below held step few (it_moves place line) = few
  came_few f below held step few (it_stores place to value now fetched) = value_few held now value few fetched.holds
  came_few f below held step few (it_returns caller rest back value now is fetched) = value_few held now value few fetched.holds
  came_few f below held step few (it_calls place e back registers same is from called) = called_few (record f { place = place } ∷ below) held e back registers step few called
  came_few f below held step few (it_calls_out place back registers same from called) = called_out_few (record f { place = place } ∷ below) held back registers step few called

  step_few : (frames : List PlainFrame) (held : Holds) → IsFew held → HoldsFew (step_of s frames held)
  step_few [] held few = tt
  step_few (f ∷ below) held few = came_few f below held (executed s f below held (instr_at s f)) few (came s f below held (instr_at s f))

  begun_few : (p : PlainProcess) (held : Holds) (frames : List PlainFrame) → IsFew held → HoldsFew (begun s p.target p.args held frames)
  begun_few p held [] few = called_out_few [] held 0 (first_registers (owned_values p.args)) _ few (called_out_is s [] held p.target 0 (owned_values p.args))
  begun_few p held (f ∷ below) few = few

  names_sets : (frames : List PlainFrame) → AreSets (frame_names frames)
  names_sets frames = record { frames = increasing-serials_of (instance_serials frames); literals = increasing-serials_of (literal_serials frames) }

  names_few : (frames : List PlainFrame) (held : Holds) → IsFew held → AreHeld held frames → area_count (frame_names frames) ≤ 16
  names_few frames held f h =
      let fewer = fewer_areas (frame_names frames) held (names_sets frames) (λ q. frames_held held frames q h) (λ q. literals_held held frames q h) in
      omega (arith, fewer, f.few)

  few_kept : IsKept s StandsFew (λ _. Unit {0}) LeavesFew
  unfolding StandsFew LeavesFew
  few_kept = record {
    step = λ frames held h. both_few held (step_of s frames held) h.0 (step_few frames held h.0) (step_held s held frames h.1);
    pause = λ frames held made h. names_few frames held h.0 h.1;
    end = λ held made end h. omega arith;
  }

  -- a process that names few areas holds few once its literals of retired areas are copied
  copied_few : (frames : List PlainFrame) → area_count (frame_names frames) ≤ 16 → IsFew (frame_names (copied s frames))
  copied_few frames h =
      let held : AreHeld (frame_names frames) (copied s frames) =
      within_held (frame_names frames) (copied s frames)
      (within_wider (IsFrameHeld (frame_names frames)) (IsKeptArea s (IsLiteralHeld (frame_names frames))) (IsLiteralHeld (frame_names frames)) (copied s frames) (λ n k. k.0)
      (copied_within s (IsFrameHeld (frame_names frames)) (IsLiteralHeld (frame_names frames)) frames (held_within (frame_names frames) frames (names_held frames)))) in
      let fewer = fewer_areas (frame_names (copied s frames)) (frame_names frames) (names_sets (copied s frames)) (λ q. frames_held (frame_names frames) (copied s frames) q held) (λ q. literals_held (frame_names frames) (copied s frames) q held) in
      record { sets = names_sets (copied s frames); few = omega (arith, fewer, h) }

  -- a turn leaves a process that names at most 16 areas
  pub turn_few_by : (p : PlainProcess) → area_count (names_of p) ≤ 16 → area_count (names_of (turn_by s p).process) ≤ 16
  unfolding LeavesFew
  turn_few_by p h =
      let held = frame_names (copied s p.frames) in
      let few = copied_few p.frames h in
      ran_kept s StandsFew (λ _. Unit {0}) LeavesFew p few_kept
      (both_few held (begun s p.target p.args held (copied s p.frames)) few (begun_few p held (copied s p.frames) few) (begun_held s p.target p.args held (copied s p.frames) (names_held (copied s p.frames))))
      (λ serial t d. omega arith) (omega arith)

-- the same under a state of the server
pub turn_few : (s : ServerState) (p : PlainProcess) → area_count (names_of p) ≤ 16 → area_count (names_of (turn_of s p).process) ≤ 16
turn_few s p h = turn_few_by (reads_of s) p h
