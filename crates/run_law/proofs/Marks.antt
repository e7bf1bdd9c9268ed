-- Marks in the words and the turns that they tell of: of the same generations, in the same order, and naming the same.
use Rattle.std.proofs.Common.{◌≡◌, ℕ, zero, suc, ◌+◌, ◌<◌, ◌≤◌, Bool, true, false, List, [], ◌∷◌, ◌++◌, Option, Some, None, is_some, map, if◌then◌else◌, refl, sym, ap, subst, ◌∙◌, arith}
use Rattle.std.proofs.lemmas.Bool.{false_from_ne_true, or_left, or_right}
use Rattle.std.proofs.lemmas.Grind.{reverse_onto}
use Rattle.std.proofs.lemmas.List.{map-append}
use Rattle.std.proofs.lemmas.Option.{none-some, same_Some}
use Rattle.std.specs.List.{AllByRecursion}
use Rattle.std.specs.Option.{IfSome}
use Rattle.std.specs.Prelude.{nat_le, reverse, slice_get}
use Rattle.term_core.specs.declared.hold.Kind.TheVariants.{Frame, Literal}
use Rattle.area_core.specs.Generations.{names_frame, names_literal}
use Rattle.marks.specs.declared.kept.LookKind.TheVariants as looks
use Rattle.marks.specs.declared.mark.Mark as words
use Rattle.marks.specs.InOrder as slots
use Rattle.marks.specs.Kept as slots_kept
use Rattle.marks.specs.Kept.{AreFalling}
use Rattle.marks.specs.Names.{HasAnchor}
use Rattle.machine_core.specs.Holds.{Holds, is_among}
use Rattle.machine_core.specs.Process.{names_of}
use Rattle.machine_core.specs.Reads.{Reads}
use Rattle.machine_core.proofs.SerialLists.{among-serials_of}
use Rattle.run_log.specs.Legal.{Lingers, Mark, NamesNot, StandsNotIn, last_up_to}
use Rattle.run_steps.specs.MadeTurns.{AreBetween, marks_made, turned_by}
use Rattle.run_steps.specs.Stands.{Stand}
use Rattle.word_view.specs.Anchored.{holds_by, named_for}
use Rattle.word_view.proofs.Anchoring.{held_names, named_among}
use Rattle.run_law.specs.Reading.{MarksTell}

-- ---- generations

-- the generation of a mark
abbrev generation_in : words.Mark → ℕ
generation_in m = m.generation

-- marks of turns that were made are of the generations under which these were
pub made_generations : (reads : ℕ → Reads) (generations : List ℕ) (x : Stand) (marks : List words.Mark) → MarksTell marks (marks_made reads generations x)
    → map generation_in marks ≡ generations
made_generations reads [] x [] h = refl
made_generations reads [] x (m ∷ marks) h = absurd h
made_generations reads (g ∷ generations) x [] h = absurd h
made_generations reads (g ∷ generations) x (m ∷ marks) h =
    ap (λ (n : ℕ). n ∷ map generation_in marks) h.0 ∙ ap (λ (ns : List ℕ). g ∷ ns) (made_generations reads generations (turned_by (reads g) g x) marks h.1.1)

between_more : (first high : ℕ) (gs : List ℕ) → first ≤ high → AreBetween first high gs → AreBetween first high (gs ++ high ∷ [])
between_more first high [] low h = (low, (omega arith, tt))
between_more first high (g ∷ gs) low h = (h.0, (h.1.0, between_more g high gs h.1.0 h.1.1))

between_raised : (first high top : ℕ) (gs : List ℕ) → high ≤ top → AreBetween first high gs → AreBetween first top gs
between_raised first high top [] more h = tt
between_raised first high top (g ∷ gs) more h = (h.0, (omega (arith, more, h.1.0), between_raised g high top gs more h.1.1))

-- generations that are all below a number
pub between_within : (first high top count : ℕ) (gs : List ℕ) → count ≤ top + 1 → AreBetween first high gs → AllByRecursion (λ g. g < count) gs → AreBetween first top gs
between_within first high top count [] few h all = tt
between_within first high top count (g ∷ gs) few h all = (h.0, (omega (arith, all.0, few), between_within g high top count gs few h.1.1 all.1))

-- marks that fall from the newest on rise from the oldest on
pub rising : (first high : ℕ) (marks : List words.Mark) → AreFalling high marks → ((i : ℕ) (m : words.Mark) → slice_get marks i ≡ Some m → first ≤ m.generation)
    → AreBetween first high (map generation_in (reverse marks))
rising first high [] falling noted = tt
rising first high (m ∷ marks) falling noted =
    let rest = rising first m.generation marks falling.1 (λ i n at. noted (suc i) n at) in
    let more = between_more first m.generation (map generation_in (reverse marks)) (noted 0 m refl) rest in
    subst (AreBetween first high) (sym (ap (map generation_in) (reverse_onto marks m []) ∙ map-append generation_in (reverse marks) (m ∷ [])))
    (between_raised first m.generation high (map generation_in (reverse marks) ++ m.generation ∷ []) falling.0 more)

-- ---- turns

-- a mark is that of a turn
abbrev pub Tells : words.Mark → Mark → Type 0
Tells m turn = (m.generation ≡ turn.generation) × (holds_by m.anchors ≡ names_of turn.process)

-- so it is of a mark that may be there: the turn is there with it
abbrev pub MayTell : Option words.Mark → Option Mark → Type 0
MayTell None None = Unit {0}
MayTell None (Some turn) = ⊥
MayTell (Some m) None = ⊥
MayTell (Some m) (Some turn) = Tells m turn

-- what is so of a mark is so of its turn
pub told_of : (P : words.Mark → Type 0) (Q : Mark → Type 0) → ((m : words.Mark) (turn : Mark) → Tells m turn → P m → Q turn) → (m : Option words.Mark) (turn : Option Mark)
    → MayTell m turn → IfSome m P → IfSome turn Q
told_of P Q f None None h p = tt
told_of P Q f None (Some turn) h p = absurd h
told_of P Q f (Some m) None h p = absurd h
told_of P Q f (Some m) (Some turn) h p = f m turn h p

-- the turn of a mark that is there
turn_told : (m : Option words.Mark) (turn : Option Mark) → MayTell m turn → (n : words.Mark) → m ≡ Some n → (t : Mark) × ((turn ≡ Some t) × Tells n t)
turn_told None turn h n is = absurd (none-some n is)
turn_told (Some m) None h n is = absurd h
turn_told (Some m) (Some turn) h n is = (turn, (refl, subst (λ (x : words.Mark). Tells x turn) (same_Some m n is) h))

-- at each place stands the mark of the turn
place_told : (marks : List words.Mark) (turns : List Mark) → MarksTell marks turns → (k : ℕ) → MayTell (slice_get marks k) (slice_get turns k)
place_told [] [] h k = tt
place_told [] (turn ∷ turns) h k = absurd h
place_told (m ∷ marks) [] h k = absurd h
place_told (m ∷ marks) (turn ∷ turns) h zero = (h.0, h.1.0)
place_told (m ∷ marks) (turn ∷ turns) h (suc k) = place_told marks turns h.1.1 k

later_told : (a : Option words.Mark) (b : Option Mark) (c : Option words.Mark) (d : Option Mark) → MayTell a b → MayTell c d
    → MayTell (if is_some a then a else c) (if is_some b then b else d)
later_told None None c d h k = k
later_told None (Some turn) c d h k = absurd h
later_told (Some m) None c d h k = absurd h
later_told (Some m) (Some turn) c d h k = h

first_told : (g : ℕ) (m : words.Mark) (turn : Mark) → Tells m turn → MayTell (if nat_le m.generation g then Some m else None) (if nat_le turn.generation g then Some turn else None)
first_told g m turn h = subst (λ (n : ℕ). MayTell (if nat_le m.generation g then Some m else None) (if nat_le n g then Some turn else None)) h.0 (by (nat_le m.generation g))
  where
    by : (b : Bool) → MayTell (if b then Some m else None) (if b then Some turn else None)
    by true = h
    by false = tt

-- the last mark up to a generation is that of the last turn up to it
pub last_told : (g : ℕ) (marks : List words.Mark) (turns : List Mark) → MarksTell marks turns → MayTell (slots.last_turn_up_to g marks) (last_up_to g turns)
last_told g [] [] h = tt
last_told g [] (turn ∷ turns) h = absurd h
last_told g (m ∷ marks) [] h = absurd h
last_told g (m ∷ marks) (turn ∷ turns) h =
    later_told (slots.last_turn_up_to g marks) (last_up_to g turns) (if nat_le m.generation g then Some m else None) (if nat_le turn.generation g then Some turn else None)
    (last_told g marks turns h.1.1) (first_told g m turn (h.0, h.1.0))

-- ---- names

-- what no anchor names for a frame is not among the instances that are held
frame_unnamed : (anchors : List ℕ) (serial : ℕ) (held : Holds) → holds_by anchors ≡ held → (HasAnchor names_frame anchors serial → ⊥) → is_among held.frames serial ≡ false
frame_unnamed anchors serial held is none =
    false_from_ne_true (is_among held.frames serial) (λ e. none (held_names Frame anchors serial (ap (λ (h : Holds). is_among h.frames serial) is ∙ e)))

literal_unnamed : (anchors : List ℕ) (serial : ℕ) (held : Holds) → holds_by anchors ≡ held → (HasAnchor names_literal anchors serial → ⊥) → is_among held.literals serial ≡ false
literal_unnamed anchors serial held is none =
    false_from_ne_true (is_among held.literals serial) (λ e. none (held_names Literal anchors serial (ap (λ (h : Holds). is_among h.literals serial) is ∙ e)))

-- and what one names is
frame_named : (anchors : List ℕ) (serial : ℕ) (held : Holds) → holds_by anchors ≡ held → HasAnchor names_frame anchors serial → is_among held.frames serial ≡ true
frame_named anchors serial held is h =
    ap (λ (x : Holds). is_among x.frames serial) (sym is) ∙ among-serials_of (named_for Frame anchors) serial ∙ named_among Frame serial anchors h.place h.word h.at h.passes

-- a process whose mark does not name an area names it in no way
pub both_unnamed : (serial : ℕ) (m : words.Mark) (turn : Mark) → Tells m turn → slots_kept.MarksNameNot looks.Both serial m → NamesNot serial turn.process
both_unnamed serial m turn told none = record {
  frames = frame_unnamed m.anchors serial (names_of turn.process) told.1
      (λ h. none (record { place = h.place; word = h.word; at = h.at; passes = or_left (names_frame h.word serial) (names_literal h.word serial) h.passes }));
  literals = literal_unnamed m.anchors serial (names_of turn.process) told.1
      (λ h. none (record { place = h.place; word = h.word; at = h.at; passes = or_right (names_frame h.word serial) (names_literal h.word serial) h.passes }));
}

-- and one whose mark does not name an instance for a frame does not stand in it
pub frame_left : (serial : ℕ) (m : words.Mark) (turn : Mark) → Tells m turn → slots_kept.MarksNameNot looks.Frame serial m → StandsNotIn serial turn.process
frame_left serial m turn told none = frame_unnamed m.anchors serial (names_of turn.process) told.1 none

-- a process that lingered by its marks did so by its turns
pub lingers_told : (serial published turn : ℕ) (marks : List words.Mark) (turns : List Mark) → MarksTell marks turns → slots.LingersAfter serial published turn marks
    → Lingers serial published turn turns
lingers_told serial published turn marks turns told l =
    let t = turn_told (slice_get marks l.place) (slice_get turns l.place) (place_told marks turns told l.place) l.mark l.had in
    record {
      place = l.place;
      mark = t.0;
      counted = l.counted;
      had = t.1.0;
      seen = subst (λ (n : ℕ). n ≤ published) t.1.1.0 l.seen;
      stands = frame_named l.mark.anchors serial (names_of (t.0).process) t.1.1.1 l.stands;
      later = told_of (λ m. published ≤ m.generation) (λ m. published ≤ m.generation) (λ m n both h. subst (λ (k : ℕ). published ≤ k) both.0 h)
          (slice_get marks (l.place + 1)) (slice_get turns (l.place + 1)) (place_told marks turns told (l.place + 1)) l.next;
    }
