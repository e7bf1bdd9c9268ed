-- A process may have its next turn under a later generation, where the areas that it names have their words and blocks still.
use Rattle.std.proofs.Common.{◌≡◌, ◌≢◌, ℕ, ◌+◌, ◌*◌, ◌<◌, ◌⊎◌, All, Bool, true, false, List, [], ◌∷◌, length, map, reverse, Option, refl, sym, ap, subst, ◌∙◌}
use Rattle.std.specs.Prelude.{◌==◌, ◌||◌, slice_index, unwrap_or}
use Rattle.std.specs.List.{flat_map}
use Rattle.std.proofs.lemmas.Bool.{eq-eqb, or_left, or_right}
use Rattle.std.proofs.lemmas.List.Elements.{All-cons, All-head, All-nil, All-tail}
use Rattle.term_core.specs.declared.atom.Mfa.{Mfa}
use Rattle.term_core.specs.Image.{IsImageAt, term_at}
use Rattle.term_core.specs.Plain.{term_of}
use Rattle.area_core.specs.declared.table.Published.{Published}
use Rattle.area_core.specs.Generations as tests
use Rattle.area_core.specs.Roots.{serial_image}
use Rattle.marks.specs.Names.{HasAnchor}
use Rattle.shared_words.specs.declared.seats.Member as tokens
use Rattle.shared_words.specs.declared.view.MemberView.{MemberView}
use Rattle.shared_words.specs.Processes.{held_by_view}
use Rattle.progress_words.specs.Reports.{HoldsReported}
use Rattle.anchors.specs.Holds.{anchors_of, view_of}
use Rattle.machine_core.specs.declared.process.Frame.{Frame}
use Rattle.machine_core.specs.declared.process.LitRef.{LitRef}
use Rattle.machine_core.specs.declared.process.Process.{Process}
use Rattle.machine_core.specs.declared.process.Value.{Value}
use Rattle.machine_core.specs.declared.process.Value.TheVariants.{Literal, Owned}
use Rattle.machine_core.specs.Decode.{instr_shown, op_at}
use Rattle.machine_core.specs.GenerationReads.{block_among, function_count, is_term_image, function_row, words_in}
use Rattle.machine_core.specs.Holds.{Holds, is_among, is_area_held}
use Rattle.machine_core.specs.Process.{PlainFrame, code_names, frame_of, frames_of, literal, process_of, value_areas, value_shown, values_shown}
use Rattle.machine_core.specs.Reads.{entry_at}
use Rattle.machine_core.specs.Stand.{AreHeld}
use Rattle.machine_core.specs.Turn.{ArePlaced, IsPlaceIn, IsPlaced, MayTurn}
use Rattle.machine_core.specs.View.{AreValues, HasValues, IsLiteral, IsReadable, IsValue}
use Rattle.machine_core.proofs.CodeNames.{code_names-shown}
use Rattle.machine_core.proofs.NamedAreas.{among_append, names_held as all_held}
use Rattle.machine_core.proofs.SerialLists.{among-serials_of}
use Rattle.word_view.specs.Anchored.{holds_by}
use Rattle.code_law.specs.Served.{IsServed}
use Rattle.word_view.specs.Views.{IsView, StandsIn, Viewed, held_of_view, shown_by, shown_of_view}
use Rattle.word_view.proofs.Coming.{block_listed, names_held}
use Rattle.code_law.proofs.ServedAreas.{image_same}

module _ (names : List Mfa) (p q : Published) where
  -- the area has the words and the block still
  pub record IsSame (serial : ℕ) : Type 0 where
    pub words : words_in p.state serial ≡ words_in q.state serial
    pub block : block_among p.areas serial ≡ block_among q.areas serial

  -- ---- literals

  readable_on : (serial at : ℕ) → IsSame serial → IsReadable (shown_by names p) serial at → IsReadable (shown_by names q) serial at
  readable_on serial at same h = record {
    within = subst (λ (words : List ℕ). at < length words) same.words h.within;
    no_entry = subst (λ (words : List ℕ). (is_term_image words ≡ true) ⊎ ((i : ℕ) → i < function_count words → at ≢ 4 + 4 * i + 2)) same.words h.no_entry;
  }

  literal_on : (at : LitRef) → IsSame at.area.serial → IsLiteral (shown_by names p) at → IsLiteral (shown_by names q) at
  literal_on at same l = record {
    stands = l.stands ∙ same.block;
    term = l.term;
    image = subst (λ (words : List ℕ). IsImageAt words at.at l.term) same.words l.image;
    readable = λ i h. readable_on at.area.serial (at.at + i) same (l.readable i h);
  }

  value_on : (value : Value) → ((n : ℕ) → is_among (value_areas (value ∷ [])) n ≡ true → IsSame n) → IsValue (shown_by names p) value → (value_shown (words_in p.state) value ≡ value_shown (words_in q.state) value) × IsValue (shown_by names q) value
  value_on (Owned term) same h = (refl, tt)
  value_on (Literal at) same h =
      let here : IsSame at.area.serial = same at.area.serial (or_left (at.area.serial == at.area.serial) (is_among [] at.area.serial) (eq-eqb at.area.serial at.area.serial refl)) in
      (ap (λ (words : List ℕ). literal at.area.serial (term_of (term_at words at.at))) here.words, literal_on at here h)

  values_on : (values : List Value) → ((n : ℕ) → is_among (value_areas values) n ≡ true → IsSame n) → All (IsValue (shown_by names p)) values → (values_shown (words_in p.state) values ≡ values_shown (words_in q.state) values) × All (IsValue (shown_by names q)) values
  values_on [] same h = (refl, All-nil (IsValue (shown_by names q)))
  values_on (value ∷ values) same h =
      let first = value_on value (λ n own. same n (among_front value values n own)) (All-head (IsValue (shown_by names p)) value values h) in
      let rest = values_on values (λ n own. same n (among_behind value values n own)) (All-tail (IsValue (shown_by names p)) value values h) in
      (λ i. first.0 i ∷ rest.0 i, All-cons (IsValue (shown_by names q)) value values first.1 rest.1)
    where
      among_front : (value : Value) (values : List Value) (n : ℕ) → is_among (value_areas (value ∷ [])) n ≡ true → is_among (value_areas (value ∷ values)) n ≡ true
      among_front (Owned term) values n own = absurd (cc)
      among_front (Literal at) values n own = or_left (at.area.serial == n) (is_among (value_areas values) n) (last (at.area.serial == n) own)
        where
          last : (b : Bool) → (b || is_among [] n) ≡ true → b ≡ true
          last true e = refl
          last false e = absurd (cc)

      among_behind : (value : Value) (values : List Value) (n : ℕ) → is_among (value_areas values) n ≡ true → is_among (value_areas (value ∷ values)) n ≡ true
      among_behind (Owned term) values n own = own
      among_behind (Literal at) values n own = or_right (at.area.serial == n) (is_among (value_areas values) n) own

  -- ---- frames

  abbrev instances : List Frame → List ℕ
  instances fs = map (λ f. f.code.area.serial) fs

  abbrev literals : List Frame → List ℕ
  literals fs = flat_map (λ f. value_areas f.registers) fs

  frames_on : (fs : List Frame) → ((n : ℕ) → is_among (instances fs) n ≡ true → IsSame n) → ((n : ℕ) → is_among (literals fs) n ≡ true → IsSame n) → AreValues (shown_by names p) fs
      → (map (frame_of (words_in p.state)) fs ≡ map (frame_of (words_in q.state)) fs) × AreValues (shown_by names q) fs
  frames_on [] own lit h = (refl, All-nil (HasValues (shown_by names q)))
  frames_on (f ∷ fs) own lit h =
      let head = All-head (HasValues (shown_by names p)) f fs h in
      let here : IsSame f.code.area.serial = own f.code.area.serial (or_left (f.code.area.serial == f.code.area.serial) (is_among (instances fs) f.code.area.serial) (eq-eqb f.code.area.serial f.code.area.serial refl)) in
      let first = values_on f.registers (λ n among. lit n (among_append (value_areas f.registers) (literals fs) n ∙ or_left (is_among (value_areas f.registers) n) (is_among (literals fs) n) among)) head.1 in
      let rest = frames_on fs (λ n among. own n (or_right (f.code.area.serial == n) (is_among (instances fs) n) among))
      (λ n among. lit n (among_append (value_areas f.registers) (literals fs) n ∙ or_right (is_among (value_areas f.registers) n) (is_among (literals fs) n) among)) (All-tail (HasValues (shown_by names p)) f fs h) in (
        λ i. record { serial = f.code.area.serial; function = f.code.function; place = f.place; back = f.back; registers = first.0 i } ∷ rest.0 i,
        All-cons (HasValues (shown_by names q)) f fs (head.0 ∙ here.block, first.1) rest.1,
      )

  -- ---- places

  placed_on : (f : PlainFrame) → IsSame f.serial → IsPlaced (shown_by names p).reads f → IsPlaced (shown_by names q).reads f
  placed_on f same h = record {
    known = subst (λ (words : List ℕ). f.function < function_count words) same.words h.known;
    at = subst (λ (words : List ℕ). IsPlaceIn (slice_index words (function_row (entry_at f) + 3)) (λ place. instr_shown words (op_at words place)) f.place) same.words h.at;
    back = h.back;
  }

  all_placed : (held : Holds) (frames : List PlainFrame) → ((n : ℕ) → is_among held.frames n ≡ true → IsSame n) → AreHeld held frames → ArePlaced (shown_by names p).reads frames → ArePlaced (shown_by names q).reads frames
  all_placed held [] own h placed = tt
  all_placed held (f ∷ below) own h placed = (placed_on f (own f.serial h.0) placed.0, all_placed held below own h.2 placed.1)

  -- ---- the process

  -- where the areas that a process names are the same, so is what its frames stand for, and it may have a turn by either
  module _ (held : Holds) (process : Process) (same : (serial : ℕ) → is_area_held held serial ≡ true → IsSame serial) (h : MayTurn (shown_by names p) held process) where
    named : held ≡ code_names process.frames
    named = h.names ∙ sym (code_names-shown (words_in p.state) process.frames)

    own : (n : ℕ) → is_among held.frames n ≡ true → IsSame n
    own n among = same n (or_left (is_among held.frames n) (is_among held.literals n) among)

    lit : (n : ℕ) → is_among held.literals n ≡ true → IsSame n
    lit n among = same n (or_right (is_among held.frames n) (is_among held.literals n) among)

    both : (map (frame_of (words_in p.state)) process.frames ≡ map (frame_of (words_in q.state)) process.frames) × AreValues (shown_by names q) process.frames
    both =
        frames_on process.frames (λ n among. own n (ap (λ (x : Holds). is_among x.frames n) named ∙ among-serials_of (instances process.frames) n ∙ among))
        (λ n among. lit n (ap (λ (x : Holds). is_among x.literals n) named ∙ among-serials_of (literals process.frames) n ∙ among)) h.values

    pub frames_stay : frames_of (words_in p.state) process.frames ≡ frames_of (words_in q.state) process.frames
    frames_stay = ap reverse both.0

    pub may_go_on : MayTurn (shown_by names q) held process
    may_go_on =
        let frames : List PlainFrame = frames_of (words_in p.state) process.frames in
        record {
          going = subst (λ (fs : List PlainFrame). fs ≡ [] → process.turns ≡ 0) frames_stay h.going;
          names = named ∙ code_names-shown (words_in q.state) process.frames;
          placed = subst (ArePlaced (shown_by names q).reads) frames_stay
              (all_placed held frames own (subst (λ (x : Holds). AreHeld x frames) (sym h.names) (all_held frames)) h.placed);
          values = both.1;
        }

-- ---- over a report

module _ (v : Viewed) (b : tokens.Member) (generation : ℕ) (h : IsView v) (r : HoldsReported (IsServed v.names) (view_of v.token) (view_of b) generation) where
  abbrev m : MemberView
  m = view_of v.token

  abbrev p : Published
  p = held_by_view m

  abbrev q : Published
  q = held_by_view (view_of b)

  same_area : (serial : ℕ) → is_area_held (held_of_view v) serial ≡ true → IsSame v.names p q serial
  same_area serial held =
      let anchor = names_held v.names v.opening v.process m h.reader serial held in
      let s : StandsIn p serial = h.reader.named serial anchor in
      let there = r.named s.area (v.process, subst (HasAnchor tests.anchor_names_area (anchors_of m v.process)) (sym s.is) anchor) s.stands.listed in
      record {
        words = ap (λ (o : Option (List ℕ)). unwrap_or o [])
            (sym (image_same p.state.areas serial) ∙ ap (serial_image p.state.areas) (sym s.is) ∙ sym there.image ∙ ap (serial_image q.state.areas) s.is ∙ image_same q.state.areas serial);
        block = ap (block_among p.areas) (sym s.is) ∙ block_listed p.areas h.reader.areas s.area s.stands.listed ∙ sym (block_listed q.areas r.areas.apart s.area there.listed) ∙ ap (block_among q.areas) s.is;
      }

  pub goes_on : (process : Process) → MayTurn (shown_of_view v) (held_of_view v) process → MayTurn (shown_by v.names q) (holds_by (anchors_of (view_of b) v.process)) process
  goes_on process ready =
      subst (λ (held : Holds). MayTurn (shown_by v.names q) held process) (sym (ap (λ (x : MemberView). holds_by (anchors_of x v.process)) r.view))
      (may_go_on v.names p q (held_of_view v) process same_area ready)

  -- and it stands for what it stood for
  pub stands_on : (process : Process) → MayTurn (shown_of_view v) (held_of_view v) process → process_of (shown_of_view v).words process ≡ process_of (shown_by v.names q).words process
  stands_on process ready =
      ap (λ (frames : List PlainFrame). record { number = process.number; target = process.target; args = process.args; turns = process.turns; frames = frames })
      (frames_stay v.names p q (held_of_view v) process same_area ready)
