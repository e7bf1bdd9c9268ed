-- What is known of a process stays known at each step of its member.
use Rattle.std.proofs.Common.{◌≡◌, ℕ, zero, suc, ◌+◌, ◌<◌, ◌≤◌, Bool, true, false, List, [], ◌∷◌, Option, Some, None, length, ◌⊎◌, inl, inr, sym, ap, ◌∙◌, subst, arith}
use Rattle.std.specs.Prelude.{slice_get, slice_set, nat_le}
use Rattle.std.proofs.lemmas.Bool.{both_ways, cases_Bool, cases_eq}
use Rattle.std.proofs.lemmas.List.{length-set}
use Rattle.prgr_core.proofs.Parts.{slice_get-slice_set}
use Rattle.area_core.specs.Generations.{names_frame, names_literal}
use Rattle.area_core.specs.Blocks.{Among}
use Rattle.marks.specs.declared.kept.LookKind.{LookKind}
use Rattle.marks.specs.declared.kept.LookKind.TheVariants.{Frame, Both}
use Rattle.marks.specs.declared.kept.LookedAnchor.{LookedAnchor}
use Rattle.marks.specs.declared.kept.DroppedArea.{DroppedArea}
use Rattle.marks.specs.declared.kept.LingeringFrame.{LingeringFrame}
use Rattle.marks.specs.declared.kept.WriterKept.{WriterKept}
use Rattle.marks.specs.declared.mark.Mark.{Mark}
use Rattle.marks.specs.declared.mark.ProcessView.{ProcessView}
use Rattle.marks.specs.Names.{names_in, tells_kill, HasAnchor, MarkNames, last_names, IsAtRest}
use Rattle.marks.specs.Kept.{Under, comes_to, mark_now, last_mark_up_to, MarksNameNot, IsAsLooked, StaysIn, IsDropped, LingersByMarks, IsNoted, IsKnown, IsBacked, AreOverFor}
use Rattle.marks.specs.Steps.{with_anchor, with_turn, with_note, HasNote, MayBecome, IsNextTurn}
use Rattle.marks.proofs.Anchors.{frame_in, literals_in, no_frame, stays_elsewhere, named_before, named_still}
use Rattle.marks.proofs.Dropped.{first_or_rest, falling_from, beneath_now, dropped_rest}

-- ---- the store of an anchor

module _ (u : Under) (process : ℕ) (p : ProcessView) (place old new : ℕ) (at : slice_get p.slot.anchors place ≡ Some old) (may : MayBecome u old new) where
  -- what did not name the area does not name it after the store
  clear_still : (kind : LookKind) (serial : ℕ) → comes_to u kind serial ≡ false → names_in kind old serial ≡ false → names_in kind new serial ≡ false
  clear_still kind serial gone clear =
      elim (cases_Bool (names_in kind new serial)) as (λ _. names_in kind new serial ≡ false) [
        | inl named ↦
            elim (may.newly kind serial named) as (λ _. names_in kind new serial ≡ false) [
              | inl before ↦ absurd (both_ways (names_in kind old serial) clear before)
              | inr comes ↦ absurd (both_ways (comes_to u kind serial) gone comes)
            ]
        | inr not_so ↦ not_so
      ]

  -- where the area was not named, the new word tells of no kill
  no_kill : (kind : LookKind) (serial : ℕ) → names_in kind old serial ≡ false → tells_kill new serial ≡ false
  no_kill kind serial clear =
      elim (cases_Bool (tells_kill new serial)) as (λ _. tells_kill new serial ≡ false) [
        | inl told ↦ absurd (both_ways (names_in kind old serial) clear (frame_in kind old serial (may.kills serial told)))
        | inr not_so ↦ not_so
      ]

  looked_stored : (l : LookedAnchor) → comes_to u l.wait.kind l.wait.serial ≡ false → IsAsLooked l p.slot.anchors → IsAsLooked l (slice_set p.slot.anchors place new)
  looked_stored l gone looked = record {
    clear = λ word there. elim (slice_get-slice_set p.slot.anchors place new l.place word there) as (λ _. names_in l.wait.kind word l.wait.serial ≡ false) [
      | inl here ↦ ap (λ (w : ℕ). names_in l.wait.kind w l.wait.serial) here.1 ∙ clear_still l.wait.kind l.wait.serial gone (looked.clear old (ap (slice_get p.slot.anchors) here.0 ∙ at))
      | inr other ↦ looked.clear word other.1
    ];
    told = λ word there. elim (slice_get-slice_set p.slot.anchors place new l.place word there) as (λ _. tells_kill word l.wait.serial ≡ l.told) [
      | inl here ↦
          let own = ap (slice_get p.slot.anchors) here.0 ∙ at in
          ap (λ (w : ℕ). tells_kill w l.wait.serial) here.1 ∙ no_kill l.wait.kind l.wait.serial (looked.clear old own) ∙ sym (may.stays l.wait.serial) ∙ looked.told old own
      | inr other ↦ looked.told word other.1
    ];
  }

  dropped_stored : (d : DroppedArea) → comes_to u d.wait.kind d.wait.serial ≡ false → IsDropped u.generation process d p → IsDropped u.generation process d (with_anchor p place new)
  dropped_stored d gone dropped = record {
    slot = unnamed;
    marks = first_or_rest (nat_le u.generation d.generation) (mark_now u.generation (with_anchor p place new)) (last_mark_up_to d.generation p.marks) (MarksNameNot d.wait.kind d.wait.serial) (λ _. unnamed)
        (λ beyond. beneath_now d p u.generation dropped.marks beyond);
    told = (told_before, told_after);
  }
    where
      unnamed : MarkNames d.wait.kind (slice_set p.slot.anchors place new) d.wait.serial → ⊥
      unnamed n = dropped.slot (named_still u p.slot.anchors place old new at may d.wait.kind d.wait.serial gone n)

      told_before : HasAnchor tells_kill (slice_set p.slot.anchors place new) d.wait.serial → Among d.killed process
      told_before h =
          elim (slice_get-slice_set p.slot.anchors place new h.place h.word h.at) as (λ _. Among d.killed process) [
            | inl here ↦
                let frame = may.kills d.wait.serial (ap (λ (w : ℕ). tells_kill w d.wait.serial) (sym here.1) ∙ h.passes) in
                absurd (dropped.slot (record { place = place; word = old; at = at; passes = frame_in d.wait.kind old d.wait.serial frame }))
            | inr other ↦ dropped.told.0 (record { place = h.place; word = h.word; at = other.1; passes = h.passes })
          ]

      same_word : (anchors : List ℕ) (i j a b : ℕ) → i ≡ j → slice_get anchors i ≡ Some a → slice_get anchors j ≡ Some b → a ≡ b
      same_word anchors i j a b same one other = cc

      told_after : Among d.killed process → HasAnchor tells_kill (slice_set p.slot.anchors place new) d.wait.serial
      told_after among =
          let h = dropped.told.1 among in
          elim (cases_eq h.place place) as (λ _. HasAnchor tells_kill (slice_set p.slot.anchors place new) d.wait.serial) [
            | inl here ↦ absurd (both_ways (tells_kill old d.wait.serial) (may.stays d.wait.serial) (ap (λ (w : ℕ). tells_kill w d.wait.serial) (sym (same_word p.slot.anchors h.place place h.word old here h.at at)) ∙ h.passes))
            | inr differs ↦ record { place = h.place; word = h.word; at = stays_elsewhere p.slot.anchors place new h.place h.word differs h.at; passes = h.passes }
          ]

noted_stored : (note : Option ℕ) (u : Under) (p : ProcessView) (place new : ℕ) → HasNote note u → IsNoted note u p → IsNoted note u (with_anchor p place new)
noted_stored None u p place new has noted = absurd has
noted_stored (Some n) u p place new has noted = (noted.0, inr has)

pub anchor_stored : (u : Under) (process : ℕ) (p : ProcessView) (k : WriterKept) (place old new : ℕ) → IsKnown u process p k → IsBacked k → AreOverFor u k → u.awake ≡ true → HasNote p.note u → slice_get p.slot.anchors place ≡ Some old → MayBecome u old new → IsKnown u process (with_anchor p place new) k
anchor_stored u process p k place old new s backed over awake has at may = record {
  wide = length-set p.slot.anchors place new ∙ s.wide;
  rest = inr awake;
  current = λ serial n. elim (named_before u p.slot.anchors place old new at may Frame serial n) as (λ _. HasAnchor names_frame (last_names p.marks) serial ⊎ (u.frames serial ≡ true)) [ inl before ↦ s.current serial before | inr comes ↦ inr comes ];
  falling = s.falling;
  counted = s.counted;
  looked = λ l among own. looked_stored u process p place old new at may l (over l.wait (backed.anchors l among)).gone (s.looked l among own);
  read = λ t among own n.
      let gone = (over t.wait (backed.turns t among)).gone in
      elim (named_before u p.slot.anchors place old new at may Frame t.wait.serial n) as (λ _. StaysIn t.wait.serial t.wait.generation t.turns p.marks) [
        | inl before ↦ s.read t among own before
        | inr comes ↦ absurd (no_frame u t.wait.kind t.wait.serial gone comes)
      ];
  dropped = λ d among. dropped_stored u process p place old new at may d (over d.wait (backed.dropped d among)).gone (s.dropped d among);
  lingering = s.lingering;
  noted = noted_stored p.note u p place new has s.noted;
}

-- ---- the store of the turns done

module _ (u : Under) (p : ProcessView) (turns : ℕ) where
  -- where a slot names the instance for a frame, one more mark of it does
  stays_more : (serial generation done : ℕ) → generation ≤ u.generation → HasAnchor names_frame p.slot.anchors serial → StaysIn serial generation done p.marks → StaysIn serial generation done (mark_now u.generation p ∷ p.marks)
  stays_more serial generation done reached n stays = record {
    some = stays.some;
    most = omega (arith, stays.most);
    named = named;
    later = later;
  }
    where
      named : (i : ℕ) (m : Mark) → slice_get (mark_now u.generation p ∷ p.marks) i ≡ Some m → i + done ≤ length (mark_now u.generation p ∷ p.marks) → HasAnchor names_frame m.anchors serial
      named zero m at within = let same : mark_now u.generation p ≡ m = cc in subst (λ (x : Mark). HasAnchor names_frame x.anchors serial) same n
      named (suc i) m at within = stays.named i m at (omega (arith, within))

      later : (i : ℕ) (m : Mark) → slice_get (mark_now u.generation p ∷ p.marks) i ≡ Some m → i + done < length (mark_now u.generation p ∷ p.marks) → generation ≤ m.generation
      later zero m at within = let same : mark_now u.generation p ≡ m = cc in subst (λ (x : Mark). generation ≤ x.generation) same reached
      later (suc i) m at within = stays.later i m at (omega (arith, within))

  -- one more mark leaves that the process lingered
  lingers_more : (l : LingeringFrame) → l.wait.generation ≤ u.generation → LingersByMarks l p.marks → LingersByMarks l (mark_now u.generation p ∷ p.marks)
  lingers_more l reached lingers = record {
    some = lingers.some;
    place = suc lingers.place;
    mark = lingers.mark;
    counted = omega (arith, lingers.counted);
    at = lingers.at;
    seen = lingers.seen;
    named = lingers.named;
    later = later;
  }
    where
      later : (i : ℕ) (m : Mark) → slice_get (mark_now u.generation p ∷ p.marks) i ≡ Some m → i + l.turns < length (mark_now u.generation p ∷ p.marks) → l.wait.generation ≤ m.generation
      later zero m at within = let same : mark_now u.generation p ≡ m = cc in subst (λ (x : Mark). l.wait.generation ≤ x.generation) same reached
      later (suc i) m at within = lingers.later i m at (omega (arith, within))

  -- after the store the process is at rest
  turn_rests : IsAtRest (with_turn p u.generation turns)
  turn_rests = record { frames = λ serial. (λ n. n, λ n. n); literals = λ serial. (λ n. n, λ n. n) }

  noted_turn : (note : Option ℕ) → HasNote note u → IsNoted note u p → IsNoted note u (with_turn p u.generation turns)
  noted_turn None has noted = absurd has
  noted_turn (Some n) has noted = (each, inl turn_rests)
    where
      each : (i : ℕ) (m : Mark) → slice_get (mark_now u.generation p ∷ p.marks) i ≡ Some m → n ≤ m.generation
      each zero m at = let same : mark_now u.generation p ≡ m = cc in subst (λ (x : Mark). n ≤ x.generation) same has
      each (suc i) m at = noted.0 i m at

  dropped_turn : (process : ℕ) (d : DroppedArea) → IsDropped u.generation process d p → IsDropped u.generation process d (with_turn p u.generation turns)
  dropped_turn process d dropped = record {
    slot = dropped.slot;
    marks = first_or_rest (nat_le u.generation d.generation) (mark_now u.generation p) (last_mark_up_to d.generation (mark_now u.generation p ∷ p.marks)) (MarksNameNot d.wait.kind d.wait.serial) (λ _. dropped.slot) (λ _. dropped.marks);
    told = dropped.told;
  }

pub turn_stored : (u : Under) (process : ℕ) (p : ProcessView) (k : WriterKept) (turns : ℕ) → IsKnown u process p k → IsBacked k → AreOverFor u k → HasNote p.note u → IsNextTurn p turns → IsKnown u process (with_turn p u.generation turns) k
turn_stored u process p k turns s backed over has next = record {
  wide = s.wide;
  rest = inl (turn_rests u p turns);
  current = λ serial n. inl n;
  falling = (omega (arith), s.falling);
  counted = elim next as (λ _. (turns ≡ length (mark_now u.generation p ∷ p.marks)) ⊎ ((turns ≤ length (mark_now u.generation p ∷ p.marks)) × ((kind : LookKind) (serial : ℕ) → MarkNames kind p.slot.anchors serial → ⊥))) [
    | inl one ↦ inl (omega (arith, one))
    | inr fewer ↦ inr (omega (arith, fewer.0), fewer.1)
  ];
  looked = s.looked;
  read = λ t among own n. stays_more u p turns t.wait.serial t.wait.generation t.turns (over t.wait (backed.turns t among)).reached n (s.read t among own n);
  dropped = λ d among. dropped_turn u p turns process d (s.dropped d among);
  lingering = λ l among own. lingers_more u p turns l (over l.wait (backed.lingering l among)).reached (s.lingering l among own);
  noted = noted_turn u p turns p.note has s.noted;
}

-- ---- steps between turns

noted_rest : (note : Option ℕ) (u v : Under) (p : ProcessView) → IsAtRest p → IsNoted note u p → IsNoted note v p
noted_rest None u v p rest noted = noted
noted_rest (Some n) u v p rest noted = (noted.0, inl rest)

pub known_at_rest : (u v : Under) (process : ℕ) (p : ProcessView) (k : WriterKept) → IsKnown u process p k → IsAtRest p → u.generation ≤ v.generation → IsKnown v process p k
known_at_rest u v process p k s rest later = record {
  wide = s.wide;
  rest = inl rest;
  current = λ serial n. inl ((rest.frames serial).0 n);
  falling = falling_from u.generation v.generation p.marks later s.falling;
  counted = s.counted;
  looked = s.looked;
  read = s.read;
  dropped = λ d among. record {
    slot = (s.dropped d among).slot;
    marks = first_or_rest (nat_le v.generation d.generation) (mark_now v.generation p) (last_mark_up_to d.generation p.marks) (MarksNameNot d.wait.kind d.wait.serial) (λ _. (s.dropped d among).slot)
        (λ _. dropped_rest d p u.generation process s.falling rest (s.dropped d among));
    told = (s.dropped d among).told;
  };
  lingering = s.lingering;
  noted = noted_rest p.note u v p rest s.noted;
}

-- ---- the join of a note

pub note_joined : (u : Under) (process : ℕ) (p : ProcessView) (k : WriterKept) (n : ℕ) → IsKnown u process p k → p.note ≡ None → IsKnown u process (with_note p n) k
note_joined u process p k n s none = record {
  wide = s.wide;
  rest = inl at_rest;
  current = s.current;
  falling = s.falling;
  counted = s.counted;
  looked = s.looked;
  read = s.read;
  dropped = λ d among. record { slot = (s.dropped d among).slot; marks = (s.dropped d among).marks; told = (s.dropped d among).told };
  lingering = s.lingering;
  noted = (λ i m at. absurd (no_mark i m (ap (λ (xs : List Mark). slice_get xs i) (sym noted.0) ∙ at)), inl at_rest);
}
  where
    noted : IsNoted None u p
    noted = subst (λ (note : Option ℕ). IsNoted note u p) none s.noted

    no_mark : (i : ℕ) (m : Mark) → slice_get {X = Mark} [] i ≡ Some m → ⊥
    no_mark i m at = absurd (cc)

    unnamed : (test : ℕ → ℕ → Bool) (serial : ℕ) → HasAnchor test (last_names p.marks) serial → ⊥
    unnamed test serial h = nothing h.place h.word (ap (λ (xs : List Mark). slice_get (last_names xs) h.place) (sym noted.0) ∙ h.at)
      where
        nothing : (i word : ℕ) → slice_get {X = ℕ} [] i ≡ Some word → ⊥
        nothing i word at = absurd (cc)

    at_rest : IsAtRest (with_note p n)
    at_rest = record {
      frames = λ serial. (λ h. absurd (noted.1 Frame serial h), λ h. absurd (unnamed names_frame serial h));
      literals = λ serial. (λ h. absurd (noted.1 Both serial (literals_in p.slot.anchors serial h)), λ h. absurd (unnamed names_literal serial h));
    }
