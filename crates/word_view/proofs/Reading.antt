-- What a member may read of the generation that it holds, and what a load leaves of its token.
use Rattle.std.proofs.Common.{◌≡◌, ℕ, ◌+◌, ◌*◌, ◌/◌, ◌%◌, ◌<◌, ◌≤◌, inl, inr, Bool, true, false, cond, List, length, Option, Some, None, refl, sym, ap, subst, ◌∙◌, arith}
use Rattle.std.specs.Prelude.{◌==◌, ◌&&◌, ◌||◌, nat_lt, if◌then◌else◌, slice_get, unwrap_or, IsTrue}
use Rattle.std.proofs.lemmas.Bool.{and_from, eq-eqb}
use Rattle.std.proofs.lemmas.Bool.Decides.{nat_tests}
use Rattle.atomic_table.specs.Seated.{TableId}
use Rattle.prgr_core.specs.declared.member.TheConstants.{ENTERING}
use Rattle.prgr_core.specs.Members.{is_value}
use Rattle.term_core.specs.declared.area.AreaRef.{AreaRef}
use Rattle.area_core.specs.declared.map.WordKind.{WordKind}
use Rattle.area_core.specs.declared.map.WordKind.TheVariants.{InBlock}
use Rattle.area_core.specs.declared.table.Published.{Published}
use Rattle.area_core.specs.Blocks.{Among}
use Rattle.area_core.specs.Generations.{is_reached}
use Rattle.area_core.specs.Map.{block_place, doom_place, kind_at, retire_place, room_of}
use Rattle.area_core.specs.Readers.{has_instance_in, has_root, held_by_member, is_read_under, reaches_block, reads_in_block, reads_word}
use Rattle.area_core.specs.Step.{opening_published}
use Rattle.area_core.proofs.Frames.{big_room}
use Rattle.area_core.proofs.Places.{kind_block, kind_doom, kind_retire}
use Rattle.area_core.proofs.Tests.{some_passes}
use Rattle.shared_words.specs.declared.seats.Member as tokens
use Rattle.shared_words.specs.declared.view.MemberView.{MemberView}
use Rattle.shared_words.specs.declared.view.View.{View}
use Rattle.shared_words.specs.declared.view.View.TheVariants.{Member}
use Rattle.shared_words.specs.Processes.{AreCopied, held_by_view}
use Rattle.shared_words.specs.Publishing.{MayLoadWord, ReadsHeld, WordTells, is_of_block, with_block_word, word_found}
use Rattle.shared_words.specs.Seats.{IsMemberSeat, IsSameSeat, SeatPlace, member_of}
use Rattle.shared_words.proofs.ShownMembers.{there_is}
use Rattle.anchors.specs.Holds.{view_of}
use Rattle.word_view.specs.Loaded.{HasRead, IsFound, IsNamedAt, IsReadAt, IsWordThere}
use Rattle.word_view.specs.Views.{IsReader, IsReading, IsView, Viewed}

-- ---- who may read

-- a member that is awake holds its generation
pub held_awake : (m : MemberView) → IsTrue (is_value m.member.word) → held_by_member m.member ≡ Some m.member.generation
held_awake m awake = choose (is_value m.member.word) ((m.member.word == ENTERING) && has_root m.member.loaded) awake
  where
    choose : (a b : Bool) → a ≡ true → cond (a || b) (Some m.member.generation) None ≡ Some m.member.generation
    choose true b is = refl
    choose false b is = absurd (cc)

-- the generation stands at its number
pub held_there : (m : MemberView) → m.member.generation < length m.seen → slice_get m.seen m.member.generation ≡ Some (held_by_view m)
held_there m learnt = there_is m.seen m.member.generation opening_published learnt

module _ (m : MemberView) (awake : IsTrue (is_value m.member.word)) (learnt : m.member.generation < length m.seen) where
  -- it may load a word that the generation reads
  pub may_by_generation : (word : ℕ) (kind : WordKind) → kind_at word ≡ kind → reads_word kind (held_by_view m) ≡ true → MayLoadWord word (Member m)
  may_by_generation word kind is reads = inl (subst (ReadsHeld word m.seen) (sym (held_awake m awake)) read)
    where
      read : is_read_under (kind_at word) (slice_get m.seen m.member.generation) ≡ true
      read = ap (is_read_under (kind_at word)) (held_there m learnt) ∙ ap (λ (k : WordKind). reads_word k (held_by_view m)) is ∙ reads

  -- what it finds is a word under the generation
  pub found_under : (word found : ℕ) → WordTells (Member m) word found → IsFound m word found
  found_under word found tells = tells m.member.generation (held_by_view m) (held_awake m awake) (held_there m learnt)

  -- a word of the active code index
  pub may_code : (entry : ℕ) → (held_by_view m).root.code < 3 → entry < 1024 → MayLoadWord (block_place (held_by_view m).root.code entry) (Member m)
  may_code entry fits few =
      let code = (held_by_view m).root.code in
      may_by_generation (block_place code entry) (InBlock code entry) (kind_block code entry (omega (arith, fits)) (big_room code entry (omega (arith, fits)) few)) own
    where
      chosen : (n : ℕ) (y z w : Bool) → n < 3 → (if nat_lt n 3 then n == n else if nat_lt n 5 then y else if nat_lt n 9 then z else w) ≡ true
      chosen n y z w low = grind (arith, nat_tests)

      own : reads_in_block (held_by_view m) (held_by_view m).root.code entry ≡ true
      own =
          let p : Published = held_by_view m in
          chosen p.root.code ((p.root.code == 3 + p.root.bp) && has_instance_in p (9 + entry / 16)) (p.root.code == 5 + p.root.term) (reaches_block p p.root.code) fits

  -- a word of an area that the generation reaches
  pub may_reached : (a : AreaRef) (at : ℕ) → Among (held_by_view m).areas a → is_reached (held_by_view m) a.serial ≡ true → 9 ≤ a.block → a.block < 320 → at < room_of a.block → MayLoadWord (block_place a.block at) (Member m)
  may_reached a at listed reached low high room =
      may_by_generation (block_place a.block at) (InBlock a.block at) (kind_block a.block at high room) (behind ∙ here)
    where
      last : (n : ℕ) (x y z w : Bool) → 9 ≤ n → (if nat_lt n 3 then x else if nat_lt n 5 then y else if nat_lt n 9 then z else w) ≡ w
      last n x y z w late = grind (arith, nat_tests)

      behind : reads_in_block (held_by_view m) a.block at ≡ reaches_block (held_by_view m) a.block
      behind =
          let p : Published = held_by_view m in
          last a.block (a.block == p.root.code) ((a.block == 3 + p.root.bp) && has_instance_in p (9 + at / 16)) (a.block == 5 + p.root.term) (reaches_block p a.block) low

      here : reaches_block (held_by_view m) a.block ≡ true
      here =
          some_passes (λ (x : AreaRef). (x.block == a.block) && is_reached (held_by_view m) x.serial) (held_by_view m).areas listed.0 a listed.1
          (and_from (a.block == a.block) (is_reached (held_by_view m) a.serial) (eq-eqb a.block a.block refl) reached)

  -- a word of an area that a turn may come to
  pub may_area : (block at : ℕ) → IsReadAt m block at → MayLoadWord (block_place block at) (Member m)
  may_area block at r =
      subst (λ (n : ℕ). MayLoadWord (block_place n at) (Member m)) r.block_is
      (elim r.may as (λ _. MayLoadWord (block_place r.area.block at) (Member m)) [
        | inl reached ↦ may_reached r.area at r.stands.listed reached r.stands.fits.first r.stands.fits.last (room_at r)
        | inr named ↦ inr (record {
          area = r.area;
          named = named;
          listed = r.stands.listed;
          of = ap (λ (k : WordKind). is_of_block k r.area.block) (kind_block r.area.block at r.stands.fits.last (room_at r)) ∙ eq-eqb r.area.block r.area.block refl;
        })
      ])
    where
      less : (a b c : ℕ) → a < b → b ≤ c → a < c
      less a b c low high = omega (arith, low, high)

      room_at : (r : IsReadAt m block at) → at < room_of r.area.block
      room_at r = less at (length r.words) (room_of r.area.block) r.within r.stands.fits.room

  -- the retire word of an area that a slot names
  pub may_retire : (a : AreaRef) → IsNamedAt m a → MayLoadWord (retire_place a.block) (Member m)
  may_retire a n = inr (record {
    area = a;
    named = n.named;
    listed = n.stands.listed;
    of = ap (λ (k : WordKind). is_of_block k a.block) (kind_retire a.block n.stands.fits.last) ∙ eq-eqb a.block a.block refl;
  })

  -- its doom word, where it has one
  pub may_doom : (a : AreaRef) → IsNamedAt m a → a.block < 64 → MayLoadWord (doom_place a.block) (Member m)
  may_doom a n big = inr (record {
    area = a;
    named = n.named;
    listed = n.stands.listed;
    of = ap (λ (k : WordKind). is_of_block k a.block) (kind_doom a.block big) ∙ eq-eqb a.block a.block refl;
  })

-- ---- the root word

-- it tells the active code index
pub code_of_root : (root : ℕ) (m : MemberView) → IsReading root m → root % 4 ≡ (held_by_view m).root.code
code_of_root root m h = parts root (held_by_view m).root.code (held_by_view m).root.bp (held_by_view m).root.term m.member.generation h.rooted.held h.rooted.fits.code
  where
    parts : (root code bp term g : ℕ) → root ≡ code + 4 * bp + 8 * term + 32 * g → code < 3 → root % 4 ≡ code
    parts root code bp term g is low = omega (arith, is, low)

-- and the number of the generation
pub generation_of_root : (root : ℕ) (m : MemberView) → IsReading root m → root / 32 ≡ m.member.generation
generation_of_root root m h = parts root (held_by_view m).root.code (held_by_view m).root.bp (held_by_view m).root.term m.member.generation h.rooted.held h.rooted.fits.code h.rooted.fits.bp h.rooted.fits.term
  where
    parts : (root code bp term g : ℕ) → root ≡ code + 4 * bp + 8 * term + 32 * g → code < 3 → bp < 2 → term < 4 → root / 32 ≡ g
    parts root code bp term g is low also few = omega (arith, is, low, also, few)

-- ---- what a load leaves

pub token_read : (table : TableId) (number after : ℕ) (old new : SeatPlace) (word found : ℕ) → IsMemberSeat table number old → IsSameSeat old new → after ≡ number → new.me.0 ≡ word_found word found old.me.0 → IsMemberSeat table after new
token_read table number after old new word found h same numbered view =
    let is : new.me.0 ≡ Member (with_block_word word found (member_of old.me.0)) = view ∙ ap (word_found word found) h.view in
    record {
      few = (let few = h.few in omega (arith, few, numbered));
      of_table = record { same_table = same.same_table ∙ h.of_table.same_table; no_slots = same.same_slots ∙ h.of_table.no_slots };
      view = is ∙ sym (ap (λ (v : View). Member (member_of v)) is);
      numbered = ap (λ (v : View). (member_of v).member.number) is ∙ h.numbered ∙ sym numbered;
    }

pub read_one : (table : TableId) (old new : tokens.Member) (word found : ℕ) → IsMemberSeat table old.number old.seat → IsSameSeat old.seat new.seat → new.number ≡ old.number → ◌≡◌ {A = Option ℕ} (Some new.root) (Some old.root) → new.anchors.items ≡ old.anchors.items
    → new.seat.me.0 ≡ word_found word found old.seat.me.0 → HasRead old new
read_one table old new word found h same numbered rooted anchors view = record {
  seat = same;
  number = numbered;
  root = ap (λ (o : Option ℕ). unwrap_or o 0) rooted;
  anchors = anchors;
  blocks = (with_block_word word found (view_of old)).blocks;
  view = ap member_of (view ∙ ap (word_found word found) h.view);
}

-- some words and then some more
pub read_more : (a b c : tokens.Member) → HasRead a b → HasRead b c → HasRead a c
read_more a b c first second = record {
  seat = record {
    same_table = second.seat.same_table ∙ first.seat.same_table;
    same_number = second.seat.same_number ∙ first.seat.same_number;
    same_slots = second.seat.same_slots ∙ first.seat.same_slots;
  };
  number = second.number ∙ first.number;
  root = second.root ∙ first.root;
  anchors = second.anchors ∙ first.anchors;
  blocks = second.blocks;
  view = second.view ∙ ap (λ (m : MemberView). record m { blocks = second.blocks }) first.view;
}

-- ---- what stays true over loads

module _ (a b : tokens.Member) (read : HasRead a b) where
  -- the member holds what it held
  pub held_still : held_by_view (view_of b) ≡ held_by_view (view_of a)
  held_still = ap held_by_view read.view

  pub reading_still : IsReading a.root (view_of a) → IsReading b.root (view_of b)
  reading_still h =
      subst (λ (z : ℕ × MemberView). IsReading z.0 z.1) (λ i. (sym read.root i, sym read.view i)) (record { awake = h.awake; rooted = record { learnt = h.rooted.learnt; fits = h.rooted.fits; held = h.rooted.held } })

  pub copied_still : AreCopied a.anchors.items (view_of a) → AreCopied b.anchors.items (view_of b)
  copied_still h = subst (λ (z : List ℕ × MemberView). AreCopied z.0 z.1) (λ i. (sym read.anchors i, sym read.view i)) (record { all = h.all; wide = h.wide; each = h.each })

  -- a word that might be read may be read
  pub read_at_still : (block at : ℕ) → IsReadAt (view_of a) block at → IsReadAt (view_of b) block at
  read_at_still block at r =
      subst (λ (m : MemberView). IsReadAt m block at) (sym read.view) (record { area = r.area; words = r.words; may = r.may; stands = r.stands; once = r.once; block_is = r.block_is; within = r.within })

  -- and what was found there then is what was there
  pub there_back : (block at found : ℕ) → IsWordThere (view_of b) block at found → IsWordThere (view_of a) block at found
  there_back block at found there r =
      let moved : IsWordThere (record (view_of a) { blocks = read.blocks }) block at found = subst (λ (m : MemberView). IsWordThere m block at found) read.view there in
      moved (record { area = r.area; words = r.words; may = r.may; stands = r.stands; once = r.once; block_is = r.block_is; within = r.within })

  pub named_at_still : (area : AreaRef) → IsNamedAt (view_of a) area → IsNamedAt (view_of b) area
  named_at_still area n = subst (λ (m : MemberView). IsNamedAt m area) (sym read.view) (record { named = n.named; words = n.words; stands = n.stands })

-- what is true of a view stays true
pub view_still : (v : Viewed) (b : tokens.Member) → HasRead v.token b → IsMemberSeat v.table b.number b.seat → IsView v → IsView (record v { token = b })
view_still v b read token h = record {
  token = token;
  copied = copied_still v.token b read h.copied;
  reading = reading_still v.token b read h.reading;
  reader = subst (IsReader v.names v.opening v.process) (sym read.view) (record {
    run = record { awake = h.reader.run.awake; below = h.reader.run.below; own = h.reader.run.own; noted = h.reader.run.noted };
    unkilled = h.reader.unkilled;
    apart = h.reader.apart;
    served = h.reader.served;
    areas = h.reader.areas;
    placed = h.reader.placed;
    used = h.reader.used;
    named = h.reader.named;
  });
}
