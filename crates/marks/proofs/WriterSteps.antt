-- What is known of a process stays known at each step of the writer, which adds to what it keeps.
use Rattle.std.proofs.Common.{◌≡◌, ℕ, zero, suc, ◌+◌, ◌-◌, ◌<◌, ◌≤◌, Bool, true, false, List, [], ◌∷◌, Some, length, inl, inr, refl, sym, ◌∙◌, subst, arith}
use Rattle.std.specs.Prelude.{slice_get, nat_le, ◌↔◌}
use Rattle.std.proofs.lemmas.Bool.{both_ways, leb-false}
use Rattle.std.proofs.lemmas.Option.{slice_get_within}
use Rattle.area_core.specs.declared.map.TheConstants.{ANCHORS}
use Rattle.area_core.specs.Generations.{names_frame}
use Rattle.area_core.specs.Blocks.{Among}
use Rattle.marks.specs.declared.kept.LookKind.TheVariants.{Frame}
use Rattle.marks.specs.declared.kept.EndedWait.{EndedWait}
use Rattle.marks.specs.declared.kept.LookedAnchor.{LookedAnchor}
use Rattle.marks.specs.declared.kept.ReadTurn.{ReadTurn}
use Rattle.marks.specs.declared.kept.DroppedArea.{DroppedArea}
use Rattle.marks.specs.declared.kept.LingeringFrame.{LingeringFrame}
use Rattle.marks.specs.declared.kept.WriterKept.{WriterKept}
use Rattle.marks.specs.declared.mark.Mark.{Mark}
use Rattle.marks.specs.declared.mark.ProcessView.{ProcessView}
use Rattle.marks.specs.Names.{names_in, tells_kill, HasAnchor, MarkNames, last_names}
use Rattle.marks.specs.Kept.{Under, mark_now, last_mark_up_to, MarksNameNot, IsAsLooked, StaysIn, IsAsRead, IsDropped, LingersByMarks, IsKnown, IsBacked, IsOverFor}
use Rattle.marks.specs.Steps.{with_wait, with_looked, with_read, with_drop_kept, with_lingering, IsLookedThrough, ToldOfKill}
use Rattle.marks.proofs.Anchors.{no_frame, each_cons, has_element}
use Rattle.marks.proofs.Dropped.{first_or_rest, falling_each}

-- ---- waits and looks

pub wait_kept : (u : Under) (process : ℕ) (p : ProcessView) (k : WriterKept) (w : EndedWait) → IsKnown u process p k → IsKnown u process p (with_wait k w)
wait_kept u process p k w s = record {
  wide = s.wide;
  rest = s.rest;
  current = s.current;
  falling = s.falling;
  counted = s.counted;
  looked = s.looked;
  read = s.read;
  dropped = s.dropped;
  lingering = s.lingering;
  noted = s.noted;
}

pub look_kept : (u : Under) (process : ℕ) (p : ProcessView) (k : WriterKept) (l : LookedAnchor) → IsKnown u process p k → (l.process ≡ process → (word : ℕ) → slice_get p.slot.anchors l.place ≡ Some word → (names_in l.wait.kind word l.wait.serial ≡ false) × (tells_kill word l.wait.serial ≡ l.told)) → IsKnown u process p (with_looked k l)
look_kept u process p k l s clear = record {
  wide = s.wide;
  rest = s.rest;
  current = s.current;
  falling = s.falling;
  counted = s.counted;
  looked = each_cons (λ (x : LookedAnchor). x.process ≡ process → IsAsLooked x p.slot.anchors) k.anchors l (λ own. record { clear = λ word at. (clear own word at).0; told = λ word at. (clear own word at).1 }) s.looked;
  read = s.read;
  dropped = s.dropped;
  lingering = s.lingering;
  noted = s.noted;
}

-- ---- turn words

-- an instance that the last mark names for a frame stays named, where the turn word counts the marks
stays_last : (serial generation turns : ℕ) (marks : List Mark) → HasAnchor names_frame (last_names marks) serial → turns ≡ length marks → StaysIn serial generation turns marks
stays_last serial generation turns [] n counted = absurd (nothing n.place n.word n.at)
  where
    nothing : (i word : ℕ) → slice_get {X = ℕ} [] i ≡ Some word → ⊥
    nothing i word at = absurd (cc)
stays_last serial generation turns (m ∷ marks) n counted = record {
  some = omega (arith, counted);
  most = omega (arith, counted);
  named = named;
  later = λ i x at within. absurd (omega (arith, counted, within));
}
  where
    named : (i : ℕ) (x : Mark) → slice_get (m ∷ marks) i ≡ Some x → i + turns ≤ length (m ∷ marks) → HasAnchor names_frame x.anchors serial
    named zero x at within = let same : m ≡ x = cc in subst (λ (y : Mark). HasAnchor names_frame y.anchors serial) same n
    named (suc i) x at within = absurd (omega (arith, counted, within))

-- the turn word that was read has the marks it stands for
read_now : (u : Under) (process : ℕ) (p : ProcessView) (k : WriterKept) (t : ReadTurn) → IsKnown u process p k → IsOverFor u t.wait → t.turns ≡ p.slot.turns → IsAsRead t p
read_now u process p k t s over own n =
    elim (s.current t.wait.serial n) as (λ _. StaysIn t.wait.serial t.wait.generation t.turns p.marks) [
      | inl last ↦
          elim s.counted as (λ _. StaysIn t.wait.serial t.wait.generation t.turns p.marks) [
            | inl counted ↦ stays_last t.wait.serial t.wait.generation t.turns p.marks last (own ∙ counted)
            | inr fewer ↦ absurd (fewer.1 Frame t.wait.serial last)
          ]
      | inr comes ↦ absurd (no_frame u t.wait.kind t.wait.serial over.gone comes)
    ]

pub read_kept : (u : Under) (process : ℕ) (p : ProcessView) (k : WriterKept) (t : ReadTurn) → IsKnown u process p k → IsOverFor u t.wait → (t.process ≡ process → t.turns ≡ p.slot.turns) → IsKnown u process p (with_read k t)
read_kept u process p k t s over own = record {
  wide = s.wide;
  rest = s.rest;
  current = s.current;
  falling = s.falling;
  counted = s.counted;
  looked = s.looked;
  read = each_cons (λ (x : ReadTurn). x.process ≡ process → IsAsRead x p) k.turns t (λ same. read_now u process p k t s over (own same)) s.read;
  dropped = s.dropped;
  lingering = s.lingering;
  noted = s.noted;
}

-- ---- drops

module _ (u : Under) (process : ℕ) (p : ProcessView) (k : WriterKept) (w : EndedWait) (s : IsKnown u process p k) (through : IsLookedThrough k w process) where
  -- a slot that was looked through does not name the area
  pub looked_clear : MarkNames w.kind p.slot.anchors w.serial → ⊥
  looked_clear n =
      let look = through n.place within in
      both_ways (names_in w.kind n.word w.serial) ((s.looked (record { wait = w; process = process; place = n.place; told = look.0 }) look.1 refl).clear n.word n.at) n.passes
    where
      within : n.place < ANCHORS
      within = let below = slice_get_within p.slot.anchors n.place n.word n.at in omega (arith, below, s.wide)

  -- it tells of a kill where it told of one when it was looked at
  told_still : HasAnchor tells_kill p.slot.anchors w.serial → ToldOfKill k w process
  told_still h =
      let look = through h.place within in
      let told = sym ((s.looked (record { wait = w; process = process; place = h.place; told = look.0 }) look.1 refl).told h.word h.at) ∙ h.passes in
      (h.place, within, subst (λ (b : Bool). Among k.anchors (record { wait = w; process = process; place = h.place; told = b })) told look.1)
    where
      within : h.place < ANCHORS
      within = let below = slice_get_within p.slot.anchors h.place h.word h.at in omega (arith, below, s.wide)

  tells_still : ToldOfKill k w process → HasAnchor tells_kill p.slot.anchors w.serial
  tells_still (place, within, among) =
      let there = has_element p.slot.anchors place (omega (arith, within, s.wide)) in
      record { place = place; word = there.0; at = there.1; passes = (s.looked (record { wait = w; process = process; place = place; told = true }) among refl).told there.0 there.1 }

dropped_now : (u : Under) (process : ℕ) (p : ProcessView) (k : WriterKept) (d : DroppedArea) → IsKnown u process p k → IsLookedThrough k d.wait process → u.generation ≤ d.generation → (ToldOfKill k d.wait process ↔ Among d.killed process) → IsDropped u.generation process d p
dropped_now u process p k d s through newest told = record {
  slot = unnamed;
  marks = first_or_rest (nat_le u.generation d.generation) (mark_now u.generation p) (last_mark_up_to d.generation p.marks) (MarksNameNot d.wait.kind d.wait.serial) (λ _. unnamed)
      (λ beyond. absurd (let above = leb-false u.generation d.generation beyond in omega (arith, above, newest)));
  told = (λ h. told.0 (told_still u process p k d.wait s through h), λ among. tells_still u process p k d.wait s through (told.1 among));
}
  where
    unnamed : MarkNames d.wait.kind p.slot.anchors d.wait.serial → ⊥
    unnamed n = looked_clear u process p k d.wait s through n

pub drop_kept : (u : Under) (process : ℕ) (p : ProcessView) (k : WriterKept) (d : DroppedArea) → IsKnown u process p k → IsLookedThrough k d.wait process → u.generation ≤ d.generation → (ToldOfKill k d.wait process ↔ Among d.killed process) → IsKnown u process p (with_drop_kept k d)
drop_kept u process p k d s through newest told = record {
  wide = s.wide;
  rest = s.rest;
  current = s.current;
  falling = s.falling;
  counted = s.counted;
  looked = s.looked;
  read = s.read;
  dropped = each_cons (λ (x : DroppedArea). IsDropped u.generation process x p) k.dropped d (dropped_now u process p k d s through newest told) s.dropped;
  lingering = s.lingering;
  noted = s.noted;
}

-- ---- answers that a process lingers

lingers_now : (u : Under) (process : ℕ) (p : ProcessView) (k : WriterKept) (l : LingeringFrame) → IsKnown u process p k → l.process ≡ process → Among k.turns (record { wait = l.wait; process = l.process; turns = l.turns }) → HasAnchor names_frame p.slot.anchors l.wait.serial → u.generation ≤ l.wait.generation → LingersByMarks l p.marks
lingers_now u process p k l s own among n newest = record {
  some = stays.some;
  place = length p.marks - l.turns;
  mark = there.0;
  counted = counted;
  at = there.1;
  seen = let below = falling_each u.generation p.marks (length p.marks - l.turns) there.0 s.falling there.1 in omega (arith, below, newest);
  named = stays.named (length p.marks - l.turns) there.0 there.1 (omega (arith, counted));
  later = stays.later;
}
  where
    stays : StaysIn l.wait.serial l.wait.generation l.turns p.marks
    stays = s.read (record { wait = l.wait; process = l.process; turns = l.turns }) among own n

    counted : length p.marks - l.turns + l.turns ≡ length p.marks
    counted = omega (arith, stays.most)

    there : (m : Mark) × (slice_get p.marks (length p.marks - l.turns) ≡ Some m)
    there = has_element p.marks (length p.marks - l.turns) (omega (arith, stays.some, stays.most))

pub answer_kept : (u : Under) (process : ℕ) (p : ProcessView) (k : WriterKept) (l : LingeringFrame) → IsKnown u process p k → (l.process ≡ process → Among k.turns (record { wait = l.wait; process = l.process; turns = l.turns }) × HasAnchor names_frame p.slot.anchors l.wait.serial × (u.generation ≤ l.wait.generation)) → IsKnown u process p (with_lingering k l)
answer_kept u process p k l s found = record {
  wide = s.wide;
  rest = s.rest;
  current = s.current;
  falling = s.falling;
  counted = s.counted;
  looked = s.looked;
  read = s.read;
  dropped = s.dropped;
  lingering = each_cons (λ (x : LingeringFrame). x.process ≡ process → LingersByMarks x p.marks) k.lingering l (λ own. let f = found own in lingers_now u process p k l s own f.0 f.1 f.2) s.lingering;
  noted = s.noted;
}

-- ---- what is kept stands on waits that are over

among_more : {X : Type 0} (xs : List X) (x y : X) → Among xs y → Among (x ∷ xs) y
among_more xs x y (i, at) = (suc i, at)

module _ (k : WriterKept) (b : IsBacked k) where
  pub wait_backed : (w : EndedWait) → IsBacked (with_wait k w)
  wait_backed w = record {
    anchors = λ l among. among_more k.waits w l.wait (b.anchors l among);
    turns = λ t among. among_more k.waits w t.wait (b.turns t among);
    dropped = λ d among. among_more k.waits w d.wait (b.dropped d among);
    lingering = λ l among. among_more k.waits w l.wait (b.lingering l among);
  }

  pub look_backed : (l : LookedAnchor) → Among k.waits l.wait → IsBacked (with_looked k l)
  look_backed l over = record { anchors = each_cons (λ (x : LookedAnchor). Among k.waits x.wait) k.anchors l over b.anchors; turns = b.turns; dropped = b.dropped; lingering = b.lingering }

  pub read_backed : (t : ReadTurn) → Among k.waits t.wait → IsBacked (with_read k t)
  read_backed t over = record { anchors = b.anchors; turns = each_cons (λ (x : ReadTurn). Among k.waits x.wait) k.turns t over b.turns; dropped = b.dropped; lingering = b.lingering }

  pub drop_backed : (d : DroppedArea) → Among k.waits d.wait → IsBacked (with_drop_kept k d)
  drop_backed d over = record { anchors = b.anchors; turns = b.turns; dropped = each_cons (λ (x : DroppedArea). Among k.waits x.wait) k.dropped d over b.dropped; lingering = b.lingering }

  pub answer_backed : (l : LingeringFrame) → Among k.waits l.wait → IsBacked (with_lingering k l)
  answer_backed l over = record { anchors = b.anchors; turns = b.turns; dropped = b.dropped; lingering = each_cons (λ (x : LingeringFrame). Among k.waits x.wait) k.lingering l over b.lingering }
