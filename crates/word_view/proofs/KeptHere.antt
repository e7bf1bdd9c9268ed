-- The areas that a turn may come to are kept as the generation has them, in the blocks of which a load tells.
use Rattle.std.proofs.Common.{◌≡◌, ℕ, inl, inr, Bool, true, false, List, [], Option, Some, refl, sym, ap, subst, ◌∙◌}
use Rattle.std.specs.Prelude.{◌==◌, ◌&&◌, ◌||◌, unwrap_or}
use Rattle.std.specs.List.{list_any}
use Rattle.std.proofs.lemmas.Bool.{and_parts, eqb-true}
use Rattle.term_core.specs.declared.area.AreaRef.{AreaRef}
use Rattle.area_core.specs.declared.table.KeptArea.{KeptArea}
use Rattle.area_core.specs.declared.table.Published.{Published}
use Rattle.area_core.specs.Blocks.{Among, AreaStands, ImageStands}
use Rattle.area_core.specs.Generations.{has_area, has_image, has_serial, is_current, is_kept_as, is_key_area, is_reached, is_used}
use Rattle.area_core.specs.Map.{block_place}
use Rattle.area_core.specs.Roots.{serial_image}
use Rattle.area_core.proofs.Tests.{passed_by}
use Rattle.shared_words.specs.declared.view.MemberView.{MemberView}
use Rattle.shared_words.specs.Processes.{held_by_view}
use Rattle.shared_words.specs.Rule.{IsKeptIn}
use Rattle.word_view.specs.Loaded.{IsFound, IsReadAt, IsWordThere}
use Rattle.word_view.specs.Views.{AreOnce, IsAreaOf}

-- what is reached is used
pub used_reached : (p : Published) (serial : ℕ) → is_reached p serial ≡ true → is_used p serial ≡ true
used_reached p serial reached = choose (is_current p serial) (has_serial p.state.old serial) (is_key_area p serial) reached
  where
    choose : (c o k : Bool) → (c || k) ≡ true → ((c || o) || k) ≡ true
    choose true o k e = refl
    choose false true k e = refl
    choose false false k e = e

-- and so is what is current
pub used_current : (p : Published) (serial : ℕ) → is_current p serial ≡ true → is_used p serial ≡ true
used_current p serial current = choose (is_current p serial) (has_serial p.state.old serial) (is_key_area p serial) current
  where
    choose : (c o k : Bool) → c ≡ true → ((c || o) || k) ≡ true
    choose true o k e = refl
    choose false o k e = absurd (cc)

pub reached_current : (p : Published) (serial : ℕ) → is_current p serial ≡ true → is_reached p serial ≡ true
reached_current p serial current = choose (is_current p serial) (is_key_area p serial) current
  where
    choose : (c k : Bool) → c ≡ true → (c || k) ≡ true
    choose true k e = refl
    choose false k e = absurd (cc)

-- the area is kept with this image
pub record IsKeptHere (kept : List KeptArea) (area : AreaRef) (words : List ℕ) : Type 0 where
  pub here : KeptArea
  pub among : Among kept here
  pub is : here ≡ record { area = area; words = words }

same_image : (xs ys : List ℕ) (o : Option (List ℕ)) → o ≡ Some xs → o ≡ Some ys → xs ≡ ys
same_image xs ys o first second = ap (λ (x : Option (List ℕ)). unwrap_or x []) (sym first ∙ second)

-- what a slot names
pub kept_named : (p : Published) (kept : List KeptArea) (a : AreaRef) (words : List ℕ) → serial_image p.state.areas a.serial ≡ Some words → IsKeptIn kept p a → IsKeptHere kept a words
kept_named p kept a words image k = record {
  here = k.area;
  among = k.among;
  is = λ i. record {
    area = k.is i;
    words = same_image k.area.words words (serial_image p.state.areas a.serial) (ap (λ (x : AreaRef). serial_image p.state.areas x.serial) (sym k.is) ∙ k.has.image) image i;
  };
}

-- what the generation uses
pub kept_used : (p : Published) (kept : List KeptArea) (a : AreaRef) (words : List ℕ) → AreOnce p → IsAreaOf p a words → list_any (is_kept_as p a.serial) kept ≡ true → IsKeptHere kept a words
kept_used p kept a words once stands used =
    let found = passed_by (is_kept_as p a.serial) kept used in
    let k : KeptArea = found.0 in
    let parts = and_parts ((k.area.serial == a.serial) && has_area p.areas a.serial k.area.block) (has_image p.state.areas a.serial k.words) found.3 in
    let front = and_parts (k.area.serial == a.serial) (has_area p.areas a.serial k.area.block) parts.0 in
    let serial_is : k.area.serial ≡ a.serial = eqb-true k.area.serial a.serial front.0 in
    let there = passed_by (λ (x : AreaRef). (x.serial == a.serial) && (x.block == k.area.block)) p.areas front.1 in
    let b : AreaRef = there.0 in
    let both = and_parts (b.serial == a.serial) (b.block == k.area.block) there.3 in
    let same : b ≡ a = once.areas b a (there.1, there.2) stands.listed (eqb-true b.serial a.serial both.0) in
    let block_is : k.area.block ≡ a.block = sym (eqb-true b.block k.area.block both.1) ∙ ap (λ (x : AreaRef). x.block) same in
    record {
      here = k;
      among = (found.1, found.2);
      is = λ i. record {
        area = record { serial = serial_is i; block = block_is i };
        words = same_image k.words words (serial_image p.state.areas a.serial) (once.images a.serial k.words parts.1) stands.image i;
      };
    }

-- so is each area that a turn may come to
pub kept_here : (m : MemberView) (word found : ℕ) (f : IsFound m word found) (block at : ℕ) (r : IsReadAt m block at) → IsKeptHere f.blocks.kept r.area r.words
kept_here m word found f block at r =
    elim r.may as (λ _. IsKeptHere f.blocks.kept r.area r.words) [
      | inl reached ↦
          kept_used (held_by_view m) f.blocks.kept r.area r.words r.once r.stands (f.stands.used_kept m.member.generation (held_by_view m) refl f.published r.area.serial (used_reached (held_by_view m) r.area.serial reached))
      | inr named ↦ kept_named (held_by_view m) f.blocks.kept r.area r.words r.stands.image (f.named m refl r.area named r.stands.listed)
    ]

-- a word that was found in a block is that of each image that has the place
pub word_there : (m : MemberView) (block at found : ℕ) → IsFound m (block_place block at) found → IsWordThere m block at found
word_there m block at found f r value has plain =
    let k = kept_here m (block_place block at) found f block at r in
    let stands : ImageStands f.blocks.word (record { area = r.area; words = r.words }) = subst (ImageStands f.blocks.word) k.is (f.stands.images_stand k.here k.among) in
    sym f.here ∙ ap (λ (n : ℕ). f.blocks.word (block_place n at)) (sym r.block_is) ∙ stands at value has plain

-- what is kept of an area under the generation
pub area_there : (m : MemberView) (word found : ℕ) (f : IsFound m word found) (a : AreaRef) (words : List ℕ) → IsKeptHere f.blocks.kept a words → AreaStands f.blocks.word (record { area = a; words = words }) m.member.generation (held_by_view m)
area_there m word found f a words k =
    subst (λ (x : KeptArea). AreaStands f.blocks.word x m.member.generation (held_by_view m)) k.is (f.stands.areas_stand m.member.generation (held_by_view m) refl f.published k.here k.among)
