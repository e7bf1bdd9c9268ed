-- Areas that no generation which counts uses, and no slot names, may be kept no longer.
use Rattle.std.proofs.Common.{◌≡◌, ℕ, Bool, true, false, not, ◌&&◌, Some, refl, sym, ap, ◌∙◌}
use Rattle.std.specs.Prelude.{◌==◌, slice_get, IsTrue}
use Rattle.std.specs.List.{list_any, filter}
use Rattle.std.proofs.lemmas.Bool.{and_from, eqb-true, eq-eqb, not-true}
use Rattle.area_core.specs.declared.table.Published.{Published}
use Rattle.area_core.specs.declared.table.KeptArea.{KeptArea}
use Rattle.area_core.specs.Map.{slot_place}
use Rattle.area_core.specs.Generations.{is_used, is_kept, is_kept_as, has_area, has_image, serial_in, is_naming, anchor_names_area}
use Rattle.area_core.specs.Blocks.{Blocks, BlockInvariant, Among, IsAnchor}
use Rattle.area_core.proofs.Tests.{passed_by, filter_gives, filter_keeps, filter_apart, three_hold}

-- not both
pub unless : (a b : Bool) → (a ≡ true → b ≡ true → ⊥) → not (a && b) ≡ true
unless true true never = absurd (never refl refl)
unless true false never = refl
unless false b never = refl

-- the other is not so
pub not_both : (a b : Bool) → not (a && b) ≡ true → a ≡ true → b ≡ false
not_both true b e both = not-true b e
not_both false b e both = absurd (cc)

module _ (b : Blocks) (Counts : ℕ → Type 0) (sound : BlockInvariant b Counts) (stays : KeptArea → Bool) where
  pub was : (k : KeptArea) → Among (filter stays b.kept) k → Among b.kept k
  was k among = (filter_gives stays b.kept among.0 k among.1).0

  module _ (used : (g : ℕ) (p : Published) → Counts g → slice_get b.published g ≡ Some p → (k : KeptArea) → Among b.kept k → is_used p k.area.serial ≡ true → stays k ≡ true) (named : (k : KeptArea) (process anchor : ℕ) → Among b.kept k → IsAnchor process anchor → anchor_names_area (b.word (slot_place process anchor)) k.area.serial ≡ true → stays k ≡ true) where
    used_stay : (g : ℕ) (p : Published) → Counts g → slice_get b.published g ≡ Some p → (serial : ℕ) → IsTrue (is_used p serial) → IsTrue (list_any (is_kept_as p serial) (filter stays b.kept))
    used_stay g p counts here serial uses =
        let found = passed_by (is_kept_as p serial) b.kept (sound.used_kept g p counts here serial uses) in
        let parts = three_hold (found.0.area.serial == serial) (has_area p.areas serial found.0.area.block) (has_image p.state.areas serial found.0.words) found.3 in
        let same = eqb-true found.0.area.serial serial parts.0 in
        filter_keeps stays (is_kept_as p serial) b.kept found.1 found.0 found.2 (used g p counts here found.0 (found.1, found.2) (ap (is_used p) same ∙ uses)) found.3

    named_stay : (process anchor : ℕ) → IsAnchor process anchor → IsTrue (is_naming (b.word (slot_place process anchor))) → IsTrue (is_kept (filter stays b.kept) (serial_in (b.word (slot_place process anchor))))
    named_stay process anchor is naming =
        let found = passed_by (λ (k : KeptArea). k.area.serial == serial_in (b.word (slot_place process anchor))) b.kept (sound.named_kept process anchor is naming) in
        let same = eqb-true found.0.area.serial (serial_in (b.word (slot_place process anchor))) found.3 in
        filter_keeps stays (λ (k : KeptArea). k.area.serial == serial_in (b.word (slot_place process anchor))) b.kept found.1 found.0 found.2
        (named found.0 process anchor (found.1, found.2) is (and_from (is_naming (b.word (slot_place process anchor))) (serial_in (b.word (slot_place process anchor)) == found.0.area.serial) naming (eq-eqb (serial_in (b.word (slot_place process anchor))) found.0.area.serial (sym same))))
        found.3

    pub released : BlockInvariant (record b { kept = filter stays b.kept }) Counts
    released = record {
      roots_fit = sound.roots_fit;
      instances_placed = sound.instances_placed;
      code_stands = sound.code_stands;
      breakpoints_stand = sound.breakpoints_stand;
      terms_stand = sound.terms_stand;
      used_kept = used_stay;
      areas_stand = λ g p counts here k among. sound.areas_stand g p counts here k (was k among);
      images_stand = λ k among. sound.images_stand k (was k among);
      kept_fit = λ k among. sound.kept_fit k (was k among);
      kept_apart = λ i j a c differ is_a is_c.
          let two = filter_apart stays b.kept i j a c differ is_a is_c in
          sound.kept_apart two.0 two.1 a c two.2 two.3 two.4;
      named_kept = named_stay;
      anchors_apart = sound.anchors_apart;
    }
