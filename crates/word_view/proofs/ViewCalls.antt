-- What the calls of a view ask of its parts, and what they find, by what it shows.
use Rattle.std.proofs.Common.{◌≡◌, ℕ, ◌+◌, ◌*◌, ◌<◌, ◌≤◌, ◌≢◌, ◌^◌, inl, Bool, true, false, length, Option, Some, None, Result, Ok, Err, ◌↔◌, sym, ap, subst, ◌∙◌, arith}
use Rattle.std.specs.Prelude.{IfSome, IsErr, OnErr, OnOk, slice_index, option_map, IsTrue}
use Rattle.std.proofs.lemmas.Bool.{false_from_ne_true, or_right}
use Rattle.std.proofs.lemmas.Option.{slice_get_within}
use Rattle.term_core.specs.declared.area.AreaRef.{AreaRef}
use Rattle.term_core.specs.declared.area.CodeRef.{CodeRef}
use Rattle.term_core.specs.declared.area.Found.{Found}
use Rattle.term_core.specs.declared.area.Found.TheVariants as founds
use Rattle.term_core.specs.declared.atom.Mfa.{Mfa}
use Rattle.term_core.specs.declared.hold.Full.{Full}
use Rattle.term_core.specs.declared.hold.Kind.{Kind}
use Rattle.term_core.specs.declared.hold.Kind.TheVariants.{Frame}
use Rattle.mod_core.specs.ModuleImage.{function_place, module_image}
use Rattle.mod_core.proofs.Places.{place_word}
use Rattle.area_core.specs.declared.table.Published.{Published}
use Rattle.area_core.specs.Generations.{has_serial, is_doomed_area, is_retired_area, is_traced_function}
use Rattle.shared_words.specs.declared.seats.Member as tokens
use Rattle.shared_words.specs.declared.view.MemberView.{MemberView}
use Rattle.shared_words.specs.Processes.{AreCopied, held_by_view}
use Rattle.shared_words.specs.Seats.{IsMemberSeat}
use Rattle.anchors.specs.Drops.{AnchorsStored, HasDropped}
use Rattle.anchors.specs.Holds as slots
use Rattle.anchors.specs.Holds.{AreOthers, HasHeld, anchors_of, view_of}
use Rattle.anchors.proofs.Stored.{hold_stored}
use Rattle.breakpoints.specs.Decisions.{MayDecide}
use Rattle.term_table.specs.Keys.{HasPlainWords}
use Rattle.server_core.specs.Generations.{number_of_name}
use Rattle.server_core.specs.ServerState.{Entry, entry_of, found_as}
use Rattle.machine_core.specs.GenerationReads.{found_held, holding_among}
use Rattle.machine_core.specs.Holds.{is_area_held, is_full, is_held, with_hold, without_hold}
use Rattle.machine_core.specs.Reach.{MayHold, MayRead}
use Rattle.machine_core.specs.Reads.{HasFunction, dispatched, found_of}
use Rattle.machine_core.specs.View.{IsFoundInBlock, IsInBlock, IsLawful, IsReadable, Shown}
use Rattle.machine_core.proofs.Fetching.{readable_at as place_readable}
use Rattle.machine_core.proofs.Viewing.{IsEntry, is_entry}
use Rattle.word_view.specs.Anchored.{holds_by}
use Rattle.word_view.specs.Loaded.{HasRead, IsCodeOf, IsFoundIn, IsNamedAt, IsReadAt, IsWordThere, LeadsOn, export_at}
use Rattle.word_view.specs.Views.{IsView, Viewed, held_of_view, shown_by, shown_of_view}
use Rattle.word_view.proofs.Anchoring.{held_less, held_more, held_names}
use Rattle.word_view.proofs.Calls.{export_stands, export_value, leads_callable, nothing_reached}
use Rattle.word_view.proofs.Coming.{block_listed, may_hold, named_at, read_value, readable_at, stands_held}
use Rattle.word_view.proofs.Deciding.{may_decide, small_untraced}
use Rattle.word_view.proofs.Fullness.{full_iff}
use Rattle.word_view.proofs.Keys.{served_plain}
use Rattle.word_view.proofs.HoldsKept.{hold_kept, refused_kept}
use Rattle.word_view.proofs.Reading.{held_still}
use Rattle.code_law.proofs.ServedAreas.{doomed_old, retired_not_doomed, serial_fits}
use Rattle.code_law.proofs.States.{served_keys}

-- the place of a function's first instruction stands at a place that may be asked for
row_readable : (shown : Shown) (e : Entry) → IsLawful shown → HasFunction shown.reads e → IsReadable shown e.serial (4 + 4 * e.function + 3)
row_readable shown e lawful h =
    let l = lawful.instances e.serial (omega (arith, h)) in
    let within : e.function < length l.m.functions = omega (arith, h, l.is.count) in
    place_readable shown e.serial (4 + 4 * e.function + 3) l.m l.is
    (record { within = slice_get_within (module_image l.m) (4 + 4 * e.function + 3) (function_place l.m e.function) (place_word l.m e.function within); no_entry = λ i below. apart e.function i })
  where
    apart : (f i : ℕ) → 4 + 4 * f + 3 ≢ 4 + 4 * i + 2
    apart f i same = omega (arith, same)

module _ (v old : Viewed) (is : v ≡ old) (h : IsView v) where
  abbrev m : MemberView
  m = view_of v.token

  abbrev p : Published
  p = held_by_view m

  -- ---- what stays

  pub same_shown : (b : tokens.Member) → HasRead v.token b → shown_of_view (record v { token = b }) ≡ shown_of_view old
  same_shown b read = ap (shown_by v.names) (held_still v.token b read) ∙ ap shown_of_view is

  pub same_held : (b : tokens.Member) → HasRead v.token b → held_of_view (record v { token = b }) ≡ held_of_view old
  same_held b read = ap (λ (x : MemberView). holds_by (anchors_of x v.process)) read.view ∙ ap held_of_view is

  -- ---- calls by names

  pub leads : (to : Mfa) (n : ℕ) → number_of_name v.names to ≡ Some n → LeadsOn m (export_at p n)
  leads to n number = leads_callable v.names v.opening v.process m h.reader to n number

  pub export_none : (to : Mfa) → number_of_name v.names to ≡ None → None ≡ dispatched (shown_of_view old).reads to
  export_none to none = sym (nothing_reached v.names v.opening v.process m h.reader to none) ∙ ap (λ (x : Viewed). dispatched (shown_of_view x).reads to) is

  pub export_found : (to : Mfa) (n : ℕ) (r : Option CodeRef) → number_of_name v.names to ≡ Some n → IsCodeOf p (export_at p n) r → option_map entry_of r ≡ dispatched (shown_of_view old).reads to
  export_found to n r number code = export_value v.names v.opening v.process m h.reader to n r number code ∙ ap (λ (x : Viewed). dispatched (shown_of_view x).reads to) is

  pub export_in_block : (to : Mfa) (n : ℕ) (r : Option CodeRef) → IsCodeOf p (export_at p n) r → IfSome r (λ at. IsInBlock (shown_of_view old) at.area)
  export_in_block to n r code = subst (λ (x : Viewed). IfSome r (λ at. IsInBlock (shown_of_view x) at.area)) is (export_stands v.names v.opening v.process m h.reader to n r code)

  -- ---- words

  module _ (area : AreaRef) (at : ℕ) (block : IsInBlock (shown_of_view old) area) (readable : IsReadable (shown_of_view old) area.serial at) (reached : MayRead (shown_of_view old).reads (held_of_view old) area.serial) where
    own_block : IsInBlock (shown_of_view v) area
    own_block = subst (λ (x : Viewed). IsInBlock (shown_of_view x) area) (sym is) block

    own_readable : IsReadable (shown_of_view v) area.serial at
    own_readable = subst (λ (x : Viewed). IsReadable (shown_of_view x) area.serial at) (sym is) readable

    own_reached : MayRead (shown_of_view v).reads (held_of_view v) area.serial
    own_reached = subst (λ (x : Viewed). MayRead (shown_of_view x).reads (held_of_view x) area.serial) (sym is) reached

    pub word_may : IsReadAt m area.block at
    word_may = readable_at v.names v.opening v.process m h.reader area at own_block own_readable own_reached

    pub word_value : (found : ℕ) → IsWordThere m area.block at found → found ≡ slice_index ((shown_of_view old).words area.serial) at
    word_value found there =
        read_value v.names v.opening v.process m h.reader area at found own_block own_readable own_reached there ∙ ap (λ (x : Viewed). slice_index ((shown_of_view x).words area.serial) at) is

  -- ---- the first places of functions

  module _ (code : CodeRef) (lawful : IsLawful (shown_of_view old)) (block : IsInBlock (shown_of_view old) code.area) (known : HasFunction (shown_of_view old).reads (entry_of code)) (reached : MayHold (shown_of_view old).reads (held_of_view old) code.area.serial Frame) where
    entry : IsEntry (shown_of_view old) (entry_of code)
    entry = is_entry (shown_of_view old) (entry_of code) lawful known

    pub entry_may : IsReadAt m code.area.block (4 + 4 * code.function + 3)
    entry_may = word_may code.area (4 + 4 * code.function + 3) block (row_readable (shown_of_view old) (entry_of code) lawful known) (inl reached)

    pub entry_value : (found : ℕ) → IsWordThere m code.area.block (4 + 4 * code.function + 3) found → found ≡ (shown_of_view old).reads.first (entry_of code)
    entry_value found there = word_value code.area (4 + 4 * code.function + 3) block (row_readable (shown_of_view old) (entry_of code) lawful known) (inl reached) found there ∙ entry.word

    pub entry_fits : (found : ℕ) → IsWordThere m code.area.block (4 + 4 * code.function + 3) found → found ≤ 1024
    entry_fits found there = subst (λ (n : ℕ). n ≤ 1024) (sym (entry_value found there)) entry.within

    -- ---- breakpoints

    own_lawful : IsLawful (shown_of_view v)
    own_lawful = subst (λ (x : Viewed). IsLawful (shown_of_view x)) (sym is) lawful

    own_stands : IsInBlock (shown_of_view v) code.area
    own_stands = subst (λ (x : Viewed). IsInBlock (shown_of_view x) code.area) (sym is) block

    own_known : HasFunction (shown_of_view v).reads (entry_of code)
    own_known = subst (λ (x : Viewed). HasFunction (shown_of_view x).reads (entry_of code)) (sym is) known

    own_come : MayHold (shown_of_view v).reads (held_of_view v) code.area.serial Frame
    own_come = subst (λ (x : Viewed). MayHold (shown_of_view x).reads (held_of_view x) code.area.serial Frame) (sym is) reached

    pub decision_may : code.area.block < 64 → MayDecide v.token.root m code
    decision_may big = may_decide v.names v.opening v.process m h.reader code own_lawful own_stands own_known own_come v.token.root h.reading big

    pub decision_value : (b : Bool) → b ≡ is_traced_function p code.area.serial code.function → b ≡ (shown_of_view old).reads.traced (entry_of code)
    decision_value b told = told ∙ ap (λ (x : Viewed). (shown_of_view x).reads.traced (entry_of code)) is

    -- what has a small block has no breakpoint
    pub small_decided : 64 ≤ code.area.block → false ≡ (shown_of_view old).reads.traced (entry_of code)
    small_decided small = decision_value false (sym (small_untraced v.names v.opening v.process m h.reader code own_lawful own_stands own_known own_come small))

  -- ---- what is told of areas

  module _ (area : AreaRef) (block : IsInBlock (shown_of_view old) area) (held : IsTrue (is_area_held (held_of_view old) area.serial)) where
    pub told_named : IsNamedAt m area
    told_named =
        named_at v.names v.opening v.process m h.reader area (subst (λ (x : Viewed). IsInBlock (shown_of_view x) area) (sym is) block) (subst (λ (x : Viewed). IsTrue (is_area_held (held_of_view x) area.serial)) (sym is) held)

    pub retired_value : (b : Bool) → b ≡ is_retired_area p area.serial → b ≡ (shown_of_view old).reads.retired area.serial
    retired_value b told = told ∙ ap (λ (x : Viewed). (shown_of_view x).reads.retired area.serial) is

    pub doomed_value : (b : Bool) → b ≡ is_doomed_area p area.serial → b ≡ (shown_of_view old).reads.doomed area.serial
    doomed_value b told = told ∙ ap (λ (x : Viewed). (shown_of_view x).reads.doomed area.serial) is

    -- what is retired is not doomed
    pub retired_stays : is_retired_area p area.serial ≡ true → false ≡ is_doomed_area p area.serial
    retired_stays retired = sym (retired_not_doomed v.names p.state h.reader.served.of area.serial retired)

    -- and neither is what has a small block
    pub small_stays : 64 ≤ area.block → false ≡ is_doomed_area p area.serial
    small_stays small =
        sym (false_from_ne_true (is_doomed_area p area.serial) (λ doomed.
        let old_code = doomed_old v.names p.state h.reader.served.of area.serial doomed in
        let last = (h.reader.placed area told_named.stands.listed (or_right (has_serial p.state.current area.serial) (has_serial p.state.old area.serial) old_code)).last in
        absurd (omega (arith, small, last))))

  -- ---- holds

  module _ (serial : ℕ) (kind : Kind) (reached : MayHold (shown_of_view old).reads (held_of_view old) serial kind) where
    own_hold : MayHold (shown_of_view v).reads (held_of_view v) serial kind
    own_hold = subst (λ (x : Viewed). MayHold (shown_of_view x).reads (held_of_view x) serial kind) (sym is) reached

    pub hold_may : slots.MayHold v.process kind serial m
    hold_may = may_hold v.names v.opening v.process m h.reader serial kind own_hold

    -- its serial has room in an anchor
    pub hold_room : serial < 2 ^ 62
    hold_room =
        let s = stands_held v.names v.opening v.process m h.reader serial kind own_hold in
        subst (λ (n : ℕ). n < 2 ^ 62) s.is (serial_fits v.names p.state h.reader.served.of s.area.serial s.words s.stands.image)

    -- what is true of the view stays true, whether it is refused or not
    pub hold_view : (b : tokens.Member) (r : Result (Unit {0}) Full) → b.root ≡ v.token.root → IsMemberSeat v.table b.number b.seat → AreCopied b.anchors.items (view_of b) → OnOk r (HasHeld v.process kind serial m (view_of b)) → OnErr r (view_of b ≡ m) → IsView (record v { token = b })
    hold_view b (Ok u) root token copied held same = hold_kept v b kind serial h root token copied (stands_held v.names v.opening v.process m h.reader serial kind own_hold) held
    hold_view b (Err f) root token copied held same = refused_kept v b h root token copied same

  -- it is refused where 16 other areas are held
  pub full_of : (serial : ℕ) (r : Result (Unit {0}) Full) → OnOk r (AreOthers (anchors_of m v.process) serial → ⊥) → OnErr r (AreOthers (anchors_of m v.process) serial) → IsErr r ↔ IsTrue (is_full (held_of_view old) serial)
  full_of serial r room full =
      subst (λ (x : Viewed). IsErr r ↔ IsTrue (is_full (held_of_view x) serial)) is (full_iff r (anchors_of m v.process) serial (h.copied.wide v.process h.reader.run.below) h.reader.apart room full)

  -- what is held then
  pub held_then : (b : tokens.Member) (serial : ℕ) (kind : Kind) (r : Result (Unit {0}) Full) → OnOk r (HasHeld v.process kind serial m (view_of b)) → OnOk r (held_of_view (record v { token = b }) ≡ with_hold (held_of_view old) serial kind)
  held_then b serial kind (Ok u) held = held_more m (view_of b) v.process kind serial held ∙ ap (λ (x : Viewed). with_hold (held_of_view x) serial kind) is
  held_then b serial kind (Err f) held = tt

  pub refused_then : (b : tokens.Member) (r : Result (Unit {0}) Full) → OnErr r (view_of b ≡ m) → OnErr r (held_of_view (record v { token = b }) ≡ held_of_view old)
  refused_then b (Ok u) same = tt
  refused_then b (Err f) same = ap (λ (x : MemberView). holds_by (anchors_of x v.process)) same ∙ ap held_of_view is

  shown_stored : (b : tokens.Member) → AnchorsStored v.process m (view_of b) → shown_of_view (record v { token = b }) ≡ shown_of_view old
  shown_stored b stored = ap (λ (x : MemberView). shown_by v.names (held_by_view x)) stored.same ∙ ap shown_of_view is

  pub hold_shown : (b : tokens.Member) (serial : ℕ) (kind : Kind) (r : Result (Unit {0}) Full) → OnOk r (HasHeld v.process kind serial m (view_of b)) → OnErr r (view_of b ≡ m) → shown_of_view (record v { token = b }) ≡ shown_of_view old
  hold_shown b serial kind (Ok u) held same = shown_stored b (hold_stored v.process m (view_of b) held.stored)
  hold_shown b serial kind (Err f) held same = ap (λ (x : MemberView). shown_by v.names (held_by_view x)) same ∙ ap shown_of_view is

  -- ---- drops

  pub drop_may : (serial : ℕ) (kind : Kind) → IsTrue (is_held (held_of_view old) serial kind) → slots.HoldsAnchors kind (anchors_of m v.process) serial
  drop_may serial kind held = held_names kind (anchors_of m v.process) serial (subst (λ (x : Viewed). IsTrue (is_held (held_of_view x) serial kind)) (sym is) held)

  pub dropped_held : (b : tokens.Member) (serial : ℕ) (kind : Kind) → HasDropped v.process kind serial m (view_of b) → held_of_view (record v { token = b }) ≡ without_hold (held_of_view old) serial kind
  dropped_held b serial kind dropped = held_less m (view_of b) v.process kind serial dropped ∙ ap (λ (x : Viewed). without_hold (held_of_view x) serial kind) is

  pub drop_shown : (b : tokens.Member) (serial : ℕ) (kind : Kind) → HasDropped v.process kind serial m (view_of b) → shown_of_view (record v { token = b }) ≡ shown_of_view old
  drop_shown b serial kind dropped = shown_stored b dropped.stored

  -- ---- keys

  pub keys_plain : HasPlainWords p
  keys_plain = served_plain v.names p h.reader.served.of

  pub term_value : (key : ℕ) (r : Found) → found_as r ≡ found_held (holding_among p.state.keys key) → found_as r ≡ found_of ((shown_of_view old).reads.key key)
  term_value key r is_found =
      is_found ∙ served_keys v.names p.state h.reader.served.of key ∙ ap (λ (x : Viewed). found_of ((shown_of_view x).reads.key key)) is

  pub term_stands : (r : Found) → IsFoundIn p r → IsFoundInBlock (shown_of_view old) r
  term_stands r listed = subst (λ (x : Viewed). IsFoundInBlock (shown_of_view x) r) is (in_block r listed)
    where
      in_block : (r : Found) → IsFoundIn p r → IsFoundInBlock (shown_of_view v) r
      in_block founds.Absent listed = tt
      in_block (founds.Word word) listed = tt
      in_block (founds.Area area) listed = sym (block_listed p.areas h.reader.areas area listed)
