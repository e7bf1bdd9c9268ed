-- What a turn asks for is among what its member may read: current instances, areas of keys, and what the slot names.
use Rattle.std.proofs.Common.{◌≡◌, ℕ, zero, suc, ◌+◌, ◌-◌, ◌*◌, ◌/◌, ◌%◌, ◌<◌, ◌≤◌, ◌≢◌, inl, inr, Bool, true, false, cond, List, [], ◌∷◌, length, Option, Some, None, refl, sym, ap, subst, ◌∙◌, arith}
use Rattle.std.specs.Prelude.{◌==◌, ◌&&◌, nat_lt, nat_le, find, slice_get, slice_index, unwrap_or, option_map, option_and_then, if◌then◌else◌, IsTrue}
use Rattle.std.specs.List.{list_any}
use Rattle.std.proofs.lemmas.Bool.{and_parts, cases_Bool, eq-eqb, eqb-true, false_from_ne_true, leb-true, ltb-true, or_cases, or_left, or_right, true≢false}
use Rattle.std.proofs.lemmas.Bool.Decides.{nat_tests}
use Rattle.term_core.specs.declared.area.AreaRef.{AreaRef}
use Rattle.term_core.specs.declared.atom.Mfa.{Mfa}
use Rattle.term_core.specs.declared.generation.Holding.{Holding}
use Rattle.term_core.specs.declared.generation.Holding.TheVariants.{Word, Area}
use Rattle.term_core.specs.declared.generation.KeyTerm.{KeyTerm}
use Rattle.term_core.specs.declared.hold.Kind.{Kind}
use Rattle.term_core.specs.declared.hold.Kind.TheVariants.{Frame, Literal}
use Rattle.area_core.specs.declared.table.Published.{Published}
use Rattle.area_core.specs.Blocks.{Among}
use Rattle.area_core.specs.Generations as tests
use Rattle.area_core.specs.Generations.{holds_area, is_current, is_entry_word, is_key_area}
use Rattle.area_core.specs.Roots.{serial_image}
use Rattle.marks.specs.Names.{HasAnchor}
use Rattle.shared_words.specs.declared.opening.Opening.{Opening}
use Rattle.shared_words.specs.declared.view.MemberView.{MemberView}
use Rattle.shared_words.specs.Processes.{held_by_view}
use Rattle.shared_words.specs.Rule.{AreAreasApart}
use Rattle.anchors.specs.Holds as slots
use Rattle.machine_core.specs.GenerationReads.{block_among, held_value, holding_among, is_term_image, words_in}
use Rattle.machine_core.specs.Holds.{is_area_held, is_held}
use Rattle.machine_core.specs.Reach.{IsKeyArea, MayHold, MayRead}
use Rattle.machine_core.specs.Reads.{IsCurrent, area_of}
use Rattle.machine_core.specs.View.{IsInBlock, IsReadable}
use Rattle.word_view.specs.Anchored.{holds_by}
use Rattle.word_view.specs.Loaded.{IsNamedAt, IsReadAt, IsWordThere, MayCome}
use Rattle.word_view.specs.Views.{AreOnce, IsAreaOf, IsReader, StandsIn, shown_by}
use Rattle.word_view.proofs.Anchoring.{held_names, named_any}
use Rattle.word_view.proofs.KeptHere.{reached_current, used_reached}
use Rattle.code_law.proofs.ServedAreas.{image_same, images_once}

-- ---- blocks

-- an area that is listed has the block that is found of its serial
pub block_listed : (areas : List AreaRef) → ((a b : AreaRef) → Among areas a → Among areas b → a.serial ≡ b.serial → a ≡ b) → (a : AreaRef) → Among areas a → block_among areas a.serial ≡ a.block
block_listed [] apart a (i, at) = absurd (cc)
block_listed (b ∷ areas) apart a (i, at) = choose (b.serial == a.serial) refl (block_listed areas (λ x y (j, u) (k, w) same. apart x y (suc j, u) (suc k, w) same) a)
  where
    first : Among (b ∷ areas) b
    first = (0, refl)

    behind : (i : ℕ) → slice_get (b ∷ areas) i ≡ Some a → (b.serial ≡ a.serial → ⊥) → Among areas a
    behind zero at differ = absurd (let same : b ≡ a = cc in differ (ap (λ (x : AreaRef). x.serial) same))
    behind (suc j) at differ = (j, at)

    choose : (t : Bool) → (b.serial == a.serial) ≡ t → (Among areas a → block_among areas a.serial ≡ a.block) → (if t then b.block else block_among areas a.serial) ≡ a.block
    choose true e rest = ap (λ (x : AreaRef). x.block) (apart b a first (i, at) (eqb-true b.serial a.serial e))
    choose false e rest = rest (behind i at (λ same. true≢false (sym (eq-eqb b.serial a.serial same) ∙ e)))

-- so what stands in its block is that area
pub area_in_block : (p : Published) → AreAreasApart p → (serial : ℕ) (s : StandsIn p serial) (block : ℕ) → block ≡ block_among p.areas serial → s.area ≡ record { serial = serial; block = block }
area_in_block p apart serial s block is =
    let here = block_listed p.areas apart s.area s.stands.listed in
    λ i. record { serial = s.is i; block = sym (is ∙ ap (block_among p.areas) (sym s.is) ∙ here) i }

-- ---- what is reached

found_among : (p : ℕ → Bool) (xs : List ℕ) (x : ℕ) → find p xs ≡ Some x → list_any (λ y. y == x) xs ≡ true
found_among p [] x e = absurd (cc)
found_among p (y ∷ ys) x e = choose (p y) e (found_among p ys x)
  where
    same_some : (y x : ℕ) → ◌≡◌ {A = Option ℕ} (Some y) (Some x) → y ≡ x
    same_some y x e = cc

    choose : (b : Bool) → cond b (Some y) (find p ys) ≡ Some x → (find p ys ≡ Some x → list_any (λ z. z == x) ys ≡ true) → list_any (λ z. z == x) (y ∷ ys) ≡ true
    choose true e rest = or_left (y == x) (list_any (λ z. z == x) ys) (eq-eqb y x (same_some y x e))
    choose false e rest = or_right (y == x) (list_any (λ z. z == x) ys) (rest e)

-- an instance that is current by its words is current
pub current_there : (names : List Mfa) (p : Published) (serial : ℕ) → IsCurrent (shown_by names p).reads serial → is_current p serial ≡ true
current_there names p serial (name, is) = found_among (λ n. slice_index (words_in p.state n) 1 == name) p.state.current serial is

key_held : (keys : List KeyTerm) (key serial : ℕ) → holding_among keys key ≡ Some (Area serial) → list_any (λ k. holds_area serial k.holding) keys ≡ true
key_held [] key serial e = absurd (cc)
key_held (k ∷ ks) key serial e = choose (k.key.0 == key) e (key_held ks key serial)
  where
    own : (h : Holding) → ◌≡◌ {A = Option Holding} (Some h) (Some (Area serial)) → holds_area serial h ≡ true
    own (Word value) e = absurd (cc)
    own (Area held) e = let same : held ≡ serial = cc in eq-eqb held serial same

    choose : (b : Bool) → (if b then Some k.holding else holding_among ks key) ≡ Some (Area serial) → (holding_among ks key ≡ Some (Area serial) → list_any (λ x. holds_area serial x.holding) ks ≡ true) → list_any (λ x. holds_area serial x.holding) (k ∷ ks) ≡ true
    choose true e rest = or_left (holds_area serial k.holding) (list_any (λ x. holds_area serial x.holding) ks) (own k.holding e)
    choose false e rest = or_right (holds_area serial k.holding) (list_any (λ x. holds_area serial x.holding) ks) (rest e)

-- the area of a key by its value is that of a key
pub key_there : (names : List Mfa) (p : Published) (serial : ℕ) → IsKeyArea (shown_by names p).reads serial → is_key_area p serial ≡ true
key_there names p serial (key, is) = by_holding (holding_among p.state.keys key) refl is
  where
    by_holding : (o : Option Holding) → holding_among p.state.keys key ≡ o → option_and_then area_of (option_map (held_value p.state) o) ≡ Some serial → is_key_area p serial ≡ true
    by_holding None e is = absurd (cc)
    by_holding (Some (Word value)) e is = absurd (cc)
    by_holding (Some (Area held)) e is = key_held p.state.keys key serial (e ∙ ap (λ (n : ℕ). Some (Area n)) (same is))
      where
        same : ◌≡◌ {A = Option ℕ} (Some held) (Some serial) → held ≡ serial
        same e = cc

module _ (names : List Mfa) (opening : Opening) (process : ℕ) (m : MemberView) (h : IsReader names opening process m) where
  abbrev p : Published
  p = held_by_view m

  abbrev anchors : List ℕ
  anchors = slots.anchors_of m process

  -- it has one area and one image of each serial
  pub once : AreOnce p
  once = record { areas = h.areas; images = images_once names p.state h.served.of }

  -- what may be held, the call of a slot may hold
  pub may_hold : (serial : ℕ) (kind : Kind) → MayHold (shown_by names p).reads (holds_by anchors) serial kind → slots.MayHold process kind serial m
  may_hold serial Frame (inl held) = inl (held_names Frame anchors serial held)
  may_hold serial Frame (inr current) = inr (current_there names p serial current)
  may_hold serial Literal (inl held) = inl (held_names Literal anchors serial held)
  may_hold serial Literal (inr (inl key)) = inr (inl (key_there names p serial key))
  may_hold serial Literal (inr (inr frame)) = inr (inr (held_names Frame anchors serial frame))

  -- a turn may come to what may be held
  may_come : (serial : ℕ) (kind : Kind) → MayHold (shown_by names p).reads (holds_by anchors) serial kind → MayCome m serial
  may_come serial kind (inl held) = inr (process, named_any kind anchors serial (held_names kind anchors serial held))
  may_come serial Frame (inr current) = inl (reached_current p serial (current_there names p serial current))
  may_come serial Literal (inr (inl key)) = inl (or_right (is_current p serial) (is_key_area p serial) (key_there names p serial key))
  may_come serial Literal (inr (inr frame)) = inr (process, named_any Frame anchors serial (held_names Frame anchors serial frame))

  pub may_come_read : (serial : ℕ) → MayRead (shown_by names p).reads (holds_by anchors) serial → MayCome m serial
  may_come_read serial (inl frame) = may_come serial Frame frame
  may_come_read serial (inr literal) = may_come serial Literal literal

  -- what a hold newly names stands in the generation
  pub stands_held : (serial : ℕ) (kind : Kind) → MayHold (shown_by names p).reads (holds_by anchors) serial kind → StandsIn p serial
  stands_held serial kind (inl held) = h.named serial (named_any kind anchors serial (held_names kind anchors serial held))
  stands_held serial Frame (inr current) = h.used serial (used_reached p serial (reached_current p serial (current_there names p serial current)))
  stands_held serial Literal (inr (inl key)) = h.used serial (used_reached p serial (or_right (is_current p serial) (is_key_area p serial) (key_there names p serial key)))
  stands_held serial Literal (inr (inr frame)) = h.named serial (named_any Frame anchors serial (held_names Frame anchors serial frame))

  pub stands_read : (serial : ℕ) → MayRead (shown_by names p).reads (holds_by anchors) serial → StandsIn p serial
  stands_read serial (inl frame) = stands_held serial Frame frame
  stands_read serial (inr literal) = stands_held serial Literal literal

  -- an area that is held is named
  pub names_held : (serial : ℕ) → IsTrue (is_area_held (holds_by anchors) serial) → HasAnchor tests.anchor_names_area anchors serial
  names_held serial held =
      elim (or_cases (is_held (holds_by anchors) serial Frame) (is_held (holds_by anchors) serial Literal) held) as (λ _. HasAnchor tests.anchor_names_area anchors serial) [
        | inl frame ↦ named_any Frame anchors serial (held_names Frame anchors serial frame)
        | inr literal ↦ named_any Literal anchors serial (held_names Literal anchors serial literal)
      ]

  -- and stands in its block
  pub named_at : (area : AreaRef) → IsInBlock (shown_by names p) area → IsTrue (is_area_held (holds_by anchors) area.serial) → IsNamedAt m area
  named_at area block held =
      let named = names_held area.serial held in
      let s = h.named area.serial named in
      let same = (area_in_block p h.areas area.serial s area.block block) in
      record { named = (process, named); words = s.words; stands = subst (λ (a : AreaRef). IsAreaOf p a s.words) same s.stands }

  -- the words that it shows of an area that stands
  shown_words : (serial : ℕ) (s : StandsIn p serial) → (shown_by names p).words serial ≡ s.words
  shown_words serial s = ap (λ (o : Option (List ℕ)). unwrap_or o []) (sym (image_same p.state.areas serial) ∙ ap (serial_image p.state.areas) (sym s.is) ∙ s.stands.image)

  -- a place that may be asked for may be read
  pub readable_at : (area : AreaRef) (at : ℕ) → IsInBlock (shown_by names p) area → IsReadable (shown_by names p) area.serial at → MayRead (shown_by names p).reads (holds_by anchors) area.serial → IsReadAt m area.block at
  readable_at area at block readable reached =
      let s = stands_read area.serial reached in
      let same = (area_in_block p h.areas area.serial s area.block block) in
      record {
        area = area;
        words = s.words;
        may = may_come_read area.serial reached;
        stands = subst (λ (a : AreaRef). IsAreaOf p a s.words) same s.stands;
        once = once;
        block_is = refl;
        within = subst (λ (w : List ℕ). at < length w) (shown_words area.serial s) readable.within;
      }

  -- and has no entry word
  pub no_entry_at : (area : AreaRef) (at : ℕ) (block : IsInBlock (shown_by names p) area) (readable : IsReadable (shown_by names p) area.serial at) (reached : MayRead (shown_by names p).reads (holds_by anchors) area.serial) →
      is_entry_word (record { area = area; words = (readable_at area at block readable reached).words }) at ≡ false
  unfolding readable_at
  no_entry_at area at block readable reached =
      let r = readable_at area at block readable reached in
      let s = stands_read area.serial reached in
      let same = shown_words area.serial s in
      elim (cases_Bool (is_term_image (words_in p.state area.serial))) as (λ _. is_entry_word (record { area = area; words = s.words }) at ≡ false) [
        | inl term ↦ small at area.block (unwrap_or (slice_get s.words 3) 0) (h.served.terms area r.stands.listed term)
        | inr instance ↦
            elim readable.no_entry as (λ _. is_entry_word (record { area = area; words = s.words }) at ≡ false) [
              | inl term ↦ absurd (true≢false (sym term ∙ instance))
              | inr none ↦
                  let count : (shown_by names p).reads.functions area.serial ≡ slice_index s.words 3 = ap (λ (b : Bool). if b then 0 else slice_index (words_in p.state area.serial) 3) instance ∙ ap (λ (w : List ℕ). slice_index w 3) same in
                  other at area.block (unwrap_or (slice_get s.words 3) 0) (λ i less. none i (subst (λ (n : ℕ). i < n) (sym (count ∙ third s.words)) less))
            ]
      ]
    where
      third : (words : List ℕ) → slice_index words 3 ≡ unwrap_or (slice_get words 3) 0
      third [] = refl
      third (a ∷ []) = refl
      third (a ∷ b ∷ []) = refl
      third (a ∷ b ∷ d ∷ []) = refl
      third (a ∷ b ∷ d ∷ e ∷ words) = refl

      small : (at block count : ℕ) → 64 ≤ block → (nat_le 6 at && (at % 4 == 2) && (nat_lt block 64 && nat_lt (at / 4 - 1) count)) ≡ false
      small at block count high = grind (arith, nat_tests)

      other : (at block count : ℕ) → ((i : ℕ) → i < count → at ≢ 4 + 4 * i + 2) → (nat_le 6 at && (at % 4 == 2) && (nat_lt block 64 && nat_lt (at / 4 - 1) count)) ≡ false
      other at block count none =
          false_from_ne_true (nat_le 6 at && (at % 4 == 2) && (nat_lt block 64 && nat_lt (at / 4 - 1) count)) (λ is.
          let parts = and_parts (nat_le 6 at && (at % 4 == 2)) (nat_lt block 64 && nat_lt (at / 4 - 1) count) is in
          let front = and_parts (nat_le 6 at) (at % 4 == 2) parts.0 in
          let back = and_parts (nat_lt block 64) (nat_lt (at / 4 - 1) count) parts.1 in
          let low = leb-true 6 at front.0 in
          let rest = eqb-true (at % 4) 2 front.1 in
          none (at / 4 - 1) (ltb-true (at / 4 - 1) count back.1) (omega (arith, low, rest)))

  -- so what is read there is what it shows
  pub read_value : (area : AreaRef) (at found : ℕ) (block : IsInBlock (shown_by names p) area) (readable : IsReadable (shown_by names p) area.serial at) (reached : MayRead (shown_by names p).reads (holds_by anchors) area.serial) →
      IsWordThere m area.block at found → found ≡ slice_index ((shown_by names p).words area.serial) at
  unfolding readable_at
  read_value area at found block readable reached there =
      let r = readable_at area at block readable reached in
      let s = stands_read area.serial reached in
      there r (slice_index s.words at) (at_place s.words at r.within) (no_entry_at area at block readable reached) ∙ ap (λ (w : List ℕ). slice_index w at) (sym (shown_words area.serial s))
    where
      at_place : (words : List ℕ) (at : ℕ) → at < length words → slice_get words at ≡ Some (slice_index words at)
      at_place [] at less = absurd (omega (arith, less))
      at_place (x ∷ words) zero less = refl
      at_place (x ∷ words) (suc at) less = at_place words at (omega (arith, less))
