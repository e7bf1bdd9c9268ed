-- One load tells where the areas stand that a turn may come to.
use Rattle.std.proofs.Common.{◌≡◌, ℕ, true, List, Some, refl, sym, ap, subst, ◌∙◌}
use Rattle.std.specs.Prelude.{◌==◌, ◌&&◌}
use Rattle.std.specs.List.{list_any}
use Rattle.std.proofs.lemmas.Bool.{and_parts, eqb-true}
use Rattle.term_core.specs.declared.area.AreaRef.{AreaRef}
use Rattle.term_core.specs.declared.atom.Mfa.{Mfa}
use Rattle.area_core.specs.declared.table.KeptArea.{KeptArea}
use Rattle.area_core.specs.declared.table.Published.{Published}
use Rattle.area_core.specs.Blocks.{Among, FitsBlock}
use Rattle.area_core.specs.Generations as tests
use Rattle.area_core.specs.Generations.{has_area, has_image, is_kept_as}
use Rattle.area_core.specs.Roots.{serial_image}
use Rattle.area_core.proofs.Tests.{passed_by}
use Rattle.marks.specs.Names.{HasAnchor}
use Rattle.shared_words.specs.declared.opening.Opening.{Opening}
use Rattle.shared_words.specs.declared.seats.Member as tokens
use Rattle.shared_words.specs.declared.view.MemberView.{MemberView}
use Rattle.shared_words.specs.Processes.{AreCopied, held_by_view}
use Rattle.shared_words.specs.Seats.{IsMemberSeat}
use Rattle.anchors.specs.Holds.{anchors_of, view_of}
use Rattle.machine_core.specs.GenerationReads.{block_among}
use Rattle.machine_core.specs.View.{IsLawful}
use Rattle.word_view.specs.Loaded.{HasRead, IsFound}
use Rattle.word_view.specs.Views.{IsReader, IsReading, IsView, MayBegin, StandsIn, Viewed, shown_by, shown_of_view}
use Rattle.word_view.proofs.Reading.{held_still, view_still}
use Rattle.code_law.proofs.ServedAreas.{images_once}
use Rattle.code_law.proofs.States.{served_lawful}

-- an area that is kept as the generation has it
stands_kept : (p : Published) (kept : List KeptArea) (serial : ℕ) → ((image : List ℕ) → has_image p.state.areas serial image ≡ true → serial_image p.state.areas serial ≡ Some image) → ((k : KeptArea) → Among kept k → FitsBlock k) → list_any (is_kept_as p serial) kept ≡ true → StandsIn p serial
stands_kept p kept serial once fit used =
    let found = passed_by (is_kept_as p serial) kept used in
    let k : KeptArea = found.0 in
    let parts = and_parts ((k.area.serial == serial) && has_area p.areas serial k.area.block) (has_image p.state.areas serial k.words) found.3 in
    let front = and_parts (k.area.serial == serial) (has_area p.areas serial k.area.block) parts.0 in
    let is : k.area.serial ≡ serial = eqb-true k.area.serial serial front.0 in
    let there = passed_by (λ (x : AreaRef). (x.serial == serial) && (x.block == k.area.block)) p.areas front.1 in
    let b : AreaRef = there.0 in
    let both = and_parts (b.serial == serial) (b.block == k.area.block) there.3 in
    record {
      area = k.area;
      words = k.words;
      is = is;
      stands = record {
        listed = subst (Among p.areas) (λ i. record { serial = (eqb-true b.serial serial both.0 ∙ sym is) i; block = eqb-true b.block k.area.block both.1 i }) (there.1, there.2);
        image = ap (serial_image p.state.areas) is ∙ once k.words parts.1;
        fits = fit k (found.1, found.2);
      };
    }

module _ (names : List Mfa) (opening : Opening) (process : ℕ) (m : MemberView) (word found : ℕ) (f : IsFound m word found) (h : MayBegin names opening process m) where
  -- what a slot names is kept
  stands_named : (serial : ℕ) → HasAnchor tests.anchor_names_area (anchors_of m process) serial → StandsIn (held_by_view m) serial
  stands_named serial anchor =
      let listed = h.named serial anchor in
      let a : AreaRef = listed.0 in
      let k = f.named m refl a (process, subst (HasAnchor tests.anchor_names_area (anchors_of m process)) (sym listed.2) anchor) listed.1 in
      record {
        area = k.area.area;
        words = k.area.words;
        is = ap (λ (x : AreaRef). x.serial) k.is ∙ listed.2;
        stands = record { listed = k.has.listed; image = k.has.image; fits = f.stands.kept_fit k.area k.among };
      }

  pub begun_reader : IsReader names opening process m
  begun_reader = record {
    run = h.run;
    unkilled = h.unkilled;
    apart = h.apart;
    served = h.served;
    areas = h.areas.apart;
    placed = f.stands.instances_placed m.member.generation (held_by_view m) refl f.published;
    used = λ serial used.
        stands_kept (held_by_view m) f.blocks.kept serial (images_once names (held_by_view m).state h.served.of serial) f.stands.kept_fit
        (f.stands.used_kept m.member.generation (held_by_view m) refl f.published serial used);
    named = stands_named;
  }

-- so a view may begin with the member as it is after the load
pub begun_view : (v : Viewed) (b : tokens.Member) (word found : ℕ) → IsFound (view_of v.token) word found → HasRead v.token b → IsMemberSeat v.table b.number b.seat → IsMemberSeat v.table v.token.number v.token.seat → AreCopied v.token.anchors.items (view_of v.token) → IsReading v.token.root (view_of v.token)
    → MayBegin v.names v.opening v.process (view_of v.token) → IsView (record v { token = b })
begun_view v b word found f read after token copied reading begun =
    view_still v b read after (record { token = token; copied = copied; reading = reading; reader = begun_reader v.names v.opening v.process (view_of v.token) word found f begun })

-- and is lawful
pub begun_lawful : (v : Viewed) (b : tokens.Member) → HasRead v.token b → MayBegin v.names v.opening v.process (view_of v.token) → IsLawful (shown_of_view (record v { token = b }))
begun_lawful v b read begun =
    subst (λ (p : Published). IsLawful (shown_by v.names p)) (sym (held_still v.token b read)) (served_lawful v.names (held_by_view (view_of v.token)).state begun.served.of (block_among (held_by_view (view_of v.token)).areas))
