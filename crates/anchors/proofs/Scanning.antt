-- A look through one slot, anchor by anchor.
use Rattle.std.proofs.Common.{◌≡◌, ℕ, zero, suc, ◌+◌, ◌-◌, ◌≤◌, ⊎_elim, Bool, true, false, cond, ◌||◌, List, [], ◌∷◌, ◌++◌, length, length-append, append_assoc, Some, refl, sym, ap, subst, ◌∙◌, arith}
use Rattle.std.specs.Prelude.{slice_get}
use Rattle.prgr_core.proofs.Parts.{slice_get-push_at}
use Rattle.area_core.specs.Blocks.{Among}
use Rattle.area_core.proofs.Joined.{any_joined}
use Rattle.marks.specs.declared.kept.LookKind.{LookKind}
use Rattle.marks.specs.declared.kept.EndedWait.{EndedWait}
use Rattle.marks.specs.declared.kept.LookedAnchor.{LookedAnchor}
use Rattle.marks.specs.declared.kept.ReadTurn.{ReadTurn}
use Rattle.marks.specs.Names.{names_in, tells_kill}
use Rattle.marks.specs.Steps.{with_wait, with_looked}
use Rattle.shared_words.specs.declared.view.WriterView.{WriterView}
use Rattle.shared_words.specs.Slots.{wait_for, wait_looked, anchor_found}
use Rattle.shared_words.proofs.ShownMembers.{still_at}
use Rattle.anchors.specs.Scans.{tells_any, LooksMore, IsLoaded, AreFound, IsSlotNamed}

-- ---- what the writer keeps more

-- a look leaves the wait that the next load stands on
pub same_wait : (old new : WriterView) (kind : LookKind) (serial : ℕ) → LooksMore old new → wait_for new kind serial ≡ wait_for old kind serial
same_wait old new kind serial more = ap (λ (w : WriterView). wait_for w kind serial) more.same

pub none_more : (w : WriterView) → LooksMore w w
none_more w = record { same = refl; anchors = ([], refl); turns = ([], refl); dropped = refl; lingering = refl }

pub more_again : (a b c : WriterView) → LooksMore a b → LooksMore b c → LooksMore a c
more_again a b c first second = record {
  same = second.same ∙ ap (λ (w : WriterView). record w { looks = c.looks; named = c.named }) first.same;
  anchors = (second.anchors.0 ++ first.anchors.0, second.anchors.1 ∙ ap (λ (ls : List LookedAnchor). second.anchors.0 ++ ls) first.anchors.1 ∙ sym (append_assoc second.anchors.0 first.anchors.0 a.looks.anchors));
  turns = (second.turns.0 ++ first.turns.0, second.turns.1 ∙ ap (λ (ts : List ReadTurn). second.turns.0 ++ ts) first.turns.1 ∙ sym (append_assoc second.turns.0 first.turns.0 a.looks.turns));
  dropped = second.dropped ∙ first.dropped;
  lingering = second.lingering ∙ first.lingering;
}

-- ---- what was loaded since

pub among_front : {X : Type 0} (xs ys : List X) (x : X) → Among xs x → Among (xs ++ ys) x
among_front xs ys x among = (among.0, still_at xs ys among.0 x among.1)

pub among_behind : {X : Type 0} (xs ys : List X) (x : X) → Among ys x → Among (xs ++ ys) x
among_behind [] ys x among = among
among_behind (y ∷ xs) ys x among = let behind = among_behind xs ys x among in (suc behind.0, behind.1)

pub loaded_kept : (old new : WriterView) (l : LookedAnchor) → IsLoaded old new l → Among new.looks.anchors l
loaded_kept old new l h = subst (λ (ls : List LookedAnchor). Among ls l) (sym h.kept) (among_front h.since old.looks.anchors l h.among)

-- what was loaded since a later time was loaded since an earlier one
pub loaded_since : (a b c : WriterView) (l : LookedAnchor) → LooksMore a b → IsLoaded b c l → IsLoaded a c l
loaded_since a b c l more h = record {
  since = h.since ++ more.anchors.0;
  kept = h.kept ∙ ap (λ (ls : List LookedAnchor). h.since ++ ls) more.anchors.1 ∙ sym (append_assoc h.since more.anchors.0 a.looks.anchors);
  among = among_front h.since more.anchors.0 l h.among;
}

-- and stays so
pub loaded_still : (a b c : WriterView) (l : LookedAnchor) → LooksMore b c → IsLoaded a b l → IsLoaded a c l
loaded_still a b c l more h = record {
  since = more.anchors.0 ++ h.since;
  kept = more.anchors.1 ∙ ap (λ (ls : List LookedAnchor). more.anchors.0 ++ ls) h.kept ∙ sym (append_assoc more.anchors.0 h.since a.looks.anchors);
  among = among_behind more.anchors.0 h.since l h.among;
}

-- ---- one anchor

module _ (wait : EndedWait) (process place found : ℕ) (w : WriterView) where
  abbrev looked : LookedAnchor
  looked = record { wait = wait; process = process; place = place; told = tells_kill found wait.serial }

  abbrev after : Bool → WriterView
  after named = record w { looks = cond named (with_wait w.looks wait) (with_looked (with_wait w.looks wait) looked); named = cond named (anchor_found wait process place found w.looks.turns ∷ w.named) w.named }

  after_more : (named : Bool) → LooksMore w (after named)
  after_more true = record { same = refl; anchors = ([], refl); turns = ([], refl); dropped = refl; lingering = refl }
  after_more false = record { same = refl; anchors = (looked ∷ [], refl); turns = ([], refl); dropped = refl; lingering = refl }

-- ---- the anchors so far

-- the anchors before this place, counted from 1, were found clear, after the turn word
pub record SlotLooked (wait : EndedWait) (process turn : ℕ) (old : WriterView) (count : ℕ) (killed : Bool) (new : WriterView) : Type 0 where
  pub more : LooksMore old new
  pub words : List ℕ
  pub all : length words + 1 ≡ count
  pub found : AreFound wait process words old new
  pub told : killed ≡ tells_any wait.serial words
  pub named : new.named ≡ old.named
  pub turn_read : (more : List ReadTurn) × (new.looks.turns ≡ record { wait = wait; process = process; turns = turn } ∷ (more ++ old.looks.turns))

-- none at first
pub turn_looked : (wait : EndedWait) (process turn : ℕ) (old new : WriterView) → new ≡ wait_looked wait process 0 turn old → SlotLooked wait process turn old 1 false new
turn_looked wait process turn old new is = subst (SlotLooked wait process turn old 1 false) (sym is) (record {
  more = record { same = refl; anchors = ([], refl); turns = (record { wait = wait; process = process; turns = turn } ∷ [], refl); dropped = refl; lingering = refl };
  words = [];
  all = refl;
  found = record { clear = λ place word at. absurd (cc); loaded = λ place word at. absurd (cc) };
  told = refl;
  named = refl;
  turn_read = ([], refl);
})

pub or_none : (b : Bool) → (b || false) ≡ b
or_none true = refl
or_none false = refl

module _ (wait : EndedWait) (process turn : ℕ) (old mid : WriterView) (place word : ℕ) (killed : Bool) (h : SlotLooked wait process turn old (suc place) killed mid) where
  many : length h.words ≡ place
  many = let all = h.all in omega (arith, all)

  -- one more
  next_clear : names_in wait.kind word wait.serial ≡ false → (killed' : Bool) → killed' ≡ (killed || tells_kill word wait.serial) → SlotLooked wait process turn old (suc place + 1) killed' (after wait process place word mid false)
  next_clear clear killed' is = record {
    more = more_again old mid (after wait process place word mid false) h.more (after_more wait process place word mid false);
    words = h.words ++ word ∷ [];
    all = (let long = length-append h.words (word ∷ []) in omega (arith, long, many));
    found = record {
      clear = λ p x at. ⊎_elim (λ (before : slice_get h.words p ≡ Some x). h.found.clear p x before) (λ (last : (p ≡ length h.words) × (x ≡ word)). ap (λ (y : ℕ). names_in wait.kind y wait.serial) last.1 ∙ clear) (slice_get-push_at h.words word p x at);
      loaded = λ p x at. ⊎_elim (λ (before : slice_get h.words p ≡ Some x). loaded_still old mid (after wait process place word mid false) _ (after_more wait process place word mid false) (h.found.loaded p x before))
          (λ (last : (p ≡ length h.words) × (x ≡ word)). loaded_since old mid (after wait process place word mid false) _ h.more (record {
            since = looked wait process place word mid ∷ [];
            kept = refl;
            among = (0, (λ i. Some (record { wait = wait; process = process; place = sym (last.0 ∙ many) i; told = tells_kill (sym last.1 i) wait.serial })));
          }))
          (slice_get-push_at h.words word p x at);
    };
    told = is ∙ (λ i. h.told i || sym (or_none (tells_kill word wait.serial)) i) ∙ sym (any_joined (λ y. tells_kill y wait.serial) h.words (word ∷ []));
    named = h.named;
    turn_read = h.turn_read;
  }

  -- the first that names the area
  next_named : names_in wait.kind word wait.serial ≡ true → suc place ≤ 16 → IsSlotNamed wait process turn (suc place) word old (after wait process place word mid true) × LooksMore old (after wait process place word mid true)
  next_named names last =
      let back : place ≡ suc place - 1 = omega arith in
      let behind : slice_get mid.looks.turns 0 ≡ Some (record { wait = wait; process = process; turns = turn }) = ap (λ (ts : List ReadTurn). slice_get ts 0) h.turn_read.1 in (
        record {
          first = omega arith;
          last = last;
          names = names;
          found = (λ i. record { wait = wait; process = process; place = back i; word = word; behind = behind i } ∷ h.named i);
          turn_read = h.turn_read;
        },
        more_again old mid (after wait process place word mid true) h.more (after_more wait process place word mid true),
      )

-- what the load of an anchor leaves, by whether it names the area
loaded_is : (wait : EndedWait) (process place word : ℕ) (mid : WriterView) (named : Bool) → names_in wait.kind word wait.serial ≡ named → wait_looked wait process (suc place) word mid ≡ after wait process place word mid named
loaded_is wait process place word mid named is =
    ap (λ (b : Bool). record mid { looks = cond b (with_wait mid.looks wait) (with_looked (with_wait mid.looks wait) (record { wait = wait; process = process; place = place; told = tells_kill word wait.serial })); named = cond b (anchor_found wait process place word mid.looks.turns ∷ mid.named) mid.named }) is

pub anchor_clear : (wait : EndedWait) (process turn : ℕ) (old mid new : WriterView) (place word : ℕ) (killed killed' : Bool) → SlotLooked wait process turn old place killed mid → new ≡ wait_looked wait process place word mid → names_in wait.kind word wait.serial ≡ false → killed' ≡ (killed || tells_kill word wait.serial) → SlotLooked wait process turn old (place + 1) killed' new
anchor_clear wait process turn old mid new zero word killed killed' h is clear told = absurd (let all = h.all in omega (arith, all))
anchor_clear wait process turn old mid new (suc place) word killed killed' h is clear told =
    subst (SlotLooked wait process turn old (suc place + 1) killed') (sym (is ∙ loaded_is wait process place word mid false clear)) (next_clear wait process turn old mid place word killed h clear killed' told)

pub anchor_named : (wait : EndedWait) (process turn : ℕ) (old mid new : WriterView) (place word : ℕ) (killed : Bool) → SlotLooked wait process turn old place killed mid → new ≡ wait_looked wait process place word mid → names_in wait.kind word wait.serial ≡ true → place ≤ 16 → IsSlotNamed wait process turn place word old new × LooksMore old new
anchor_named wait process turn old mid new zero word killed h is names last = absurd (let all = h.all in omega (arith, all))
anchor_named wait process turn old mid new (suc place) word killed h is names last =
    subst (λ (w : WriterView). IsSlotNamed wait process turn (suc place) word old w × LooksMore old w) (sym (is ∙ loaded_is wait process place word mid true names)) (next_named wait process turn old mid place word killed h names last)
