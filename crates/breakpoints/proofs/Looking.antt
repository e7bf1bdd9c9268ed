-- What a member may read of a function, and what a load leaves of its token.
use Rattle.std.proofs.Common.{◌≡◌, ℕ, ◌+◌, ◌*◌, ◌/◌, ◌%◌, ◌<◌, ◌≤◌, inl, inr, Bool, true, false, cond, length, Option, Some, None, refl, sym, ap, subst, ◌∙◌, arith}
use Rattle.std.specs.Prelude.{◌==◌, ◌&&◌, ◌||◌, nat_lt, if◌then◌else◌, slice_get, unwrap_or, IsTrue}
use Rattle.std.proofs.lemmas.Bool.{and_from, eq-eqb}
use Rattle.std.proofs.lemmas.Bool.Decides.{nat_tests}
use Rattle.atomic_table.specs.Seated.{TableId}
use Rattle.prgr_core.specs.declared.member.TheConstants.{ENTERING}
use Rattle.prgr_core.specs.Members.{is_value}
use Rattle.term_core.specs.declared.area.AreaRef.{AreaRef}
use Rattle.term_core.specs.declared.area.CodeRef.{CodeRef}
use Rattle.area_core.specs.declared.map.WordKind.{WordKind}
use Rattle.area_core.specs.declared.map.WordKind.TheVariants.{InBlock, Retire}
use Rattle.area_core.specs.declared.table.Published.{Published}
use Rattle.area_core.specs.Generations.{is_current, is_instance, is_key_area, is_reached}
use Rattle.area_core.specs.Map.{block_place, breakpoint_at, breakpoint_place, image_entry_at, kind_at, retire_place}
use Rattle.area_core.specs.Readers.{has_instance_in, has_root, held_by_member, is_read_under, reaches_block, reads_in_block, reads_word}
use Rattle.area_core.specs.Step.{opening_published}
use Rattle.area_core.proofs.Frames.{big_room, breakpoint_fits}
use Rattle.area_core.proofs.Places.{kind_block, kind_retire}
use Rattle.area_core.proofs.Tests.{some_passes}
use Rattle.shared_words.specs.declared.seats.Member as tokens
use Rattle.shared_words.specs.declared.view.MemberView.{MemberView}
use Rattle.shared_words.specs.declared.view.View.{View}
use Rattle.shared_words.specs.declared.view.View.TheVariants.{Member}
use Rattle.shared_words.specs.Processes.{NamesArea, held_by_view}
use Rattle.shared_words.specs.Publishing.{MayLoadWord, ReadsHeld, WordTells, is_of_block, with_block_word, word_found}
use Rattle.shared_words.specs.Seats.{IsMemberSeat, IsSameSeat, SeatPlace, member_of}
use Rattle.shared_words.proofs.ShownMembers.{there_is}
use Rattle.progress_words.specs.Tokens.{view_of}
use Rattle.breakpoints.specs.Decisions.{HasLookedUp, IsWordFound, MayDecide}

-- ---- who may read

-- a member that is awake holds its generation
held_awake : (m : MemberView) → IsTrue (is_value m.member.word) → held_by_member m.member ≡ Some m.member.generation
held_awake m awake = choose (is_value m.member.word) ((m.member.word == ENTERING) && has_root m.member.loaded) awake
  where
    choose : (a b : Bool) → a ≡ true → cond (a || b) (Some m.member.generation) None ≡ Some m.member.generation
    choose true b is = refl
    choose false b is = absurd (cc)

-- the generation stands at its number
held_there : (m : MemberView) → m.member.generation < length m.seen → slice_get m.seen m.member.generation ≡ Some (held_by_view m)
held_there m learnt = there_is m.seen m.member.generation opening_published learnt

-- what it finds is a word under the generation
pub found_under : (m : MemberView) → IsTrue (is_value m.member.word) → m.member.generation < length m.seen → (word found : ℕ) → WordTells (Member m) word found → IsWordFound m word found
found_under m awake learnt word found tells = tells m.member.generation (held_by_view m) (held_awake m awake) (held_there m learnt)

module _ (root : ℕ) (m : MemberView) (at : CodeRef) (h : MayDecide root m at) where
  -- it may load a word that the generation reads
  may_by_generation : (word : ℕ) (kind : WordKind) → kind_at word ≡ kind → reads_word kind (held_by_view m) ≡ true → MayLoadWord word (Member m)
  may_by_generation word kind is reads = inl (subst (ReadsHeld word m.seen) (sym (held_awake m h.awake)) read)
    where
      read : is_read_under (kind_at word) (slice_get m.seen m.member.generation) ≡ true
      read = ap (is_read_under (kind_at word)) (held_there m h.rooted.learnt) ∙ ap (λ (k : WordKind). reads_word k (held_by_view m)) is ∙ reads

  -- and one of an area that a slot names
  may_by_name : (word : ℕ) (kind : WordKind) → kind_at word ≡ kind → is_of_block kind at.area.block ≡ true → NamesArea m at.area.serial → MayLoadWord word (Member m)
  may_by_name word kind is of named = inr (record {
    area = at.area;
    named = named;
    listed = h.listed;
    of = ap (λ (k : WordKind). is_of_block k at.area.block) is ∙ of;
  })

  -- so it may load a word of the instance
  may_either : (word : ℕ) (kind : WordKind) → kind_at word ≡ kind → is_of_block kind at.area.block ≡ true → (is_current (held_by_view m) at.area.serial ≡ true → reads_word kind (held_by_view m) ≡ true) → MayLoadWord word (Member m)
  may_either word kind is of reads =
      elim h.come as (λ _. MayLoadWord word (Member m)) [
        | inl current ↦ may_by_generation word kind is (reads current)
        | inr named ↦ may_by_name word kind is of named
      ]

  -- the generation reaches the block of what is current
  reached_here : is_current (held_by_view m) at.area.serial ≡ true → reaches_block (held_by_view m) at.area.block ≡ true
  reached_here current =
      let p : Published = held_by_view m in
      some_passes (λ (a : AreaRef). (a.block == at.area.block) && is_reached p a.serial) p.areas h.listed.0 at.area h.listed.1
      (and_from (at.area.block == at.area.block) (is_reached p at.area.serial) (eq-eqb at.area.block at.area.block refl) (choose (is_current p at.area.serial) (is_key_area p at.area.serial) current))
    where
      choose : (c k : Bool) → c ≡ true → (c || k) ≡ true
      choose true k e = refl
      choose false k e = absurd (cc)

  -- the entry word
  pub may_entry : MayLoadWord (block_place at.area.block (image_entry_at at.function)) (Member m)
  may_entry =
      let few = h.few in
      may_either (block_place at.area.block (image_entry_at at.function)) (InBlock at.area.block (image_entry_at at.function))
      (kind_block at.area.block (image_entry_at at.function) (let last = h.placed.last in omega (arith, last)) (big_room at.area.block (image_entry_at at.function) h.placed.last (omega (arith, few))))
      (eq-eqb at.area.block at.area.block refl)
      (λ current. behind ∙ reached_here current)
    where
      late : (n : ℕ) (x y z w : Bool) → 9 ≤ n → (if nat_lt n 3 then x else if nat_lt n 5 then y else if nat_lt n 9 then z else w) ≡ w
      late n x y z w low = grind (arith, nat_tests)

      behind : reads_in_block (held_by_view m) at.area.block (image_entry_at at.function) ≡ reaches_block (held_by_view m) at.area.block
      behind =
          let p : Published = held_by_view m in
          late at.area.block (at.area.block == p.root.code) ((at.area.block == 3 + p.root.bp) && has_instance_in p (9 + image_entry_at at.function / 16)) (at.area.block == 5 + p.root.term) (reaches_block p at.area.block) h.placed.first

  -- the retire word
  pub may_retire : MayLoadWord (retire_place at.area.block) (Member m)
  may_retire =
      may_either (retire_place at.area.block) (Retire at.area.block)
      (kind_retire at.area.block (let last = h.placed.last in omega (arith, last)))
      (eq-eqb at.area.block at.area.block refl)
      reached_here

  -- and the decision, where the instance is one of the generation
  pub may_decision : IsTrue (is_instance (held_by_view m) at.area.serial) → MayLoadWord (breakpoint_place (held_by_view m).root.bp at.area.block at.function) (Member m)
  may_decision instance =
      let p : Published = held_by_view m in
      let place = breakpoint_at at.area.block at.function in
      let fits = h.rooted.fits.bp in
      may_by_generation (breakpoint_place p.root.bp at.area.block at.function) (InBlock (3 + p.root.bp) place)
      (kind_block (3 + p.root.bp) place (omega (arith, fits)) (big_room (3 + p.root.bp) place (omega (arith, fits)) (breakpoint_fits at.area.block at.function h.placed h.few)))
      (index p.root.bp (3 + p.root.bp == p.root.code) (has_instance_in p (9 + place / 16)) (3 + p.root.bp == 5 + p.root.term) (reaches_block p (3 + p.root.bp)) fits (ap (has_instance_in p) (back at.area.block at.function h.placed.first h.few) ∙ here))
    where
      index : (n : ℕ) (x y z w : Bool) → n < 2 → y ≡ true → (if nat_lt (3 + n) 3 then x else if nat_lt (3 + n) 5 then (3 + n == 3 + n) && y else if nat_lt (3 + n) 9 then z else w) ≡ true
      index n x y z w low is = grind (arith, nat_tests)

      back : (b f : ℕ) → 9 ≤ b → f < 16 → 9 + breakpoint_at b f / 16 ≡ b
      back b f low few = omega (arith, low, few)

      here : has_instance_in (held_by_view m) at.area.block ≡ true
      here =
          let p : Published = held_by_view m in
          some_passes (λ (a : AreaRef). (a.block == at.area.block) && is_instance p a.serial) p.areas h.listed.0 at.area h.listed.1
          (and_from (at.area.block == at.area.block) (is_instance p at.area.serial) (eq-eqb at.area.block at.area.block refl) instance)

-- ---- the root word

module _ (root : ℕ) (m : MemberView) (at : CodeRef) (h : MayDecide root m at) where
  -- it tells the breakpoint index
  pub index_of_root : root / 4 % 2 ≡ (held_by_view m).root.bp
  index_of_root =
      parts root (held_by_view m).root.code (held_by_view m).root.bp (held_by_view m).root.term m.member.generation h.rooted.held h.rooted.fits.code h.rooted.fits.bp
    where
      parts : (root code bp term g : ℕ) → root ≡ code + 4 * bp + 8 * term + 32 * g → code < 3 → bp < 2 → root / 4 % 2 ≡ bp
      parts root code bp term g is low few = omega (arith, is, low, few)

  -- and the number of the generation
  pub generation_of_root : root / 32 ≡ m.member.generation
  generation_of_root =
      parts root (held_by_view m).root.code (held_by_view m).root.bp (held_by_view m).root.term m.member.generation h.rooted.held h.rooted.fits.code h.rooted.fits.bp h.rooted.fits.term
    where
      parts : (root code bp term g : ℕ) → root ≡ code + 4 * bp + 8 * term + 32 * g → code < 3 → bp < 2 → term < 4 → root / 32 ≡ g
      parts root code bp term g is low also few = omega (arith, is, low, also, few)

-- ---- what a load leaves

pub token_read : (table : TableId) (number after : ℕ) (old new : SeatPlace) (word found : ℕ) → IsMemberSeat table number old → IsSameSeat old new → after ≡ number → new.me.0 ≡ word_found word found old.me.0 → IsMemberSeat table after new
token_read table number after old new word found h same numbered view =
    let is : new.me.0 ≡ Member (with_block_word word found (member_of old.me.0)) = view ∙ ap (word_found word found) h.view in
    record {
      few = (let few = h.few in omega (arith, few, numbered));
      of_table = record { same_table = same.same_table ∙ h.of_table.same_table; no_slots = same.same_slots ∙ h.of_table.no_slots };
      view = is ∙ sym (ap (λ (v : View). Member (member_of v)) is);
      numbered = ap (λ (v : View). (member_of v).member.number) is ∙ h.numbered ∙ sym numbered;
    }

pub read_one : (table : TableId) (old new : tokens.Member) (word found : ℕ) → IsMemberSeat table old.number old.seat → IsSameSeat old.seat new.seat → new.number ≡ old.number → ◌≡◌ {A = Option ℕ} (Some new.root) (Some old.root) → new.anchors.items ≡ old.anchors.items
    → new.seat.me.0 ≡ word_found word found old.seat.me.0 → HasLookedUp old new
read_one table old new word found h same numbered rooted anchors view = record {
  seat = same;
  number = numbered;
  root = ap (λ (o : Option ℕ). unwrap_or o 0) rooted;
  anchors = anchors;
  blocks = (with_block_word word found (view_of old)).blocks;
  view = ap member_of (view ∙ ap (word_found word found) h.view);
}

-- some words and then some more
pub read_more : (a b c : tokens.Member) → HasLookedUp a b → HasLookedUp b c → HasLookedUp a c
read_more a b c first second = record {
  seat = record {
    same_table = second.seat.same_table ∙ first.seat.same_table;
    same_number = second.seat.same_number ∙ first.seat.same_number;
    same_slots = second.seat.same_slots ∙ first.seat.same_slots;
  };
  number = second.number ∙ first.number;
  root = second.root ∙ first.root;
  anchors = second.anchors ∙ first.anchors;
  blocks = second.blocks;
  view = second.view ∙ ap (λ (m : MemberView). record m { blocks = second.blocks }) first.view;
}

module _ (a b : tokens.Member) (read : HasLookedUp a b) where
  -- the member holds what it held
  pub held_still : held_by_view (view_of b) ≡ held_by_view (view_of a)
  held_still = ap held_by_view read.view

  -- and may ask what it might ask
  pub may_still : (at : CodeRef) → MayDecide a.root (view_of a) at → MayDecide b.root (view_of b) at
  may_still at h =
      subst (λ (z : ℕ × MemberView). MayDecide z.0 z.1 at) (λ i. (sym read.root i, sym read.view i))
      (record {
        awake = h.awake;
        rooted = record { learnt = h.rooted.learnt; fits = h.rooted.fits; held = h.rooted.held };
        listed = h.listed;
        apart = h.apart;
        placed = h.placed;
        few = h.few;
        has = h.has;
        come = h.come;
        live = h.live;
        gone = h.gone;
      })
