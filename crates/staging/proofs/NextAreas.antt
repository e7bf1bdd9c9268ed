-- The areas of the generation that is published next, with their blocks, words and images.
use Rattle.std.proofs.Common.{◌≡◌, ◌≢◌, ℕ, ◌<◌, inl, inr, Bool, true, false, List, [], ◌∷◌, Some, refl, sym, ap, subst, ◌∙◌, arith}
use Rattle.std.specs.Prelude.{◌==◌, ◌&&◌, ◌||◌, if◌then◌else◌, slice_get}
use Rattle.std.proofs.lemmas.Bool.{and_from, eq-eqb, eqb-true, false_from_ne_true, or_left, true≢false}
use Rattle.term_core.specs.declared.area.AreaRef.{AreaRef}
use Rattle.term_core.specs.declared.atom.Mfa.{Mfa}
use Rattle.term_core.specs.declared.generation.AreaWords.{AreaWords}
use Rattle.term_core.specs.declared.generation.Generation.{Generation}
use Rattle.area_core.specs.declared.table.KeptArea.{KeptArea}
use Rattle.area_core.specs.declared.table.Published.{Published}
use Rattle.area_core.specs.Generations.{has_area, has_image, is_kept, is_kept_as, same_words}
use Rattle.area_core.specs.Blocks.{Among, KeptApart, UsedAreKept}
use Rattle.area_core.specs.Roots.{fresh_areas, serial_image}
use Rattle.area_core.proofs.RootTests.{in_either}
use Rattle.shared_words.specs.declared.view.WriterView.{WriterView}
use Rattle.shared_words.specs.Publishing.{AreasGoOn, kept_next}
use Rattle.shared_words.specs.Rule.{AreAreasApart}
use Rattle.server_core.specs.ServerState.{ServerState, words_of_area}
use Rattle.literal_areas.specs.declared.areas.Areas.{Areas}
use Rattle.literal_areas.specs.declared.blocks.BlockUse.{BlockUse}
use Rattle.literal_areas.specs.declared.blocks.BlockUse.TheVariants.{Free, Live, Retired}
use Rattle.literal_areas.specs.Blocks.{Stands, serial_at, serial_of, use_of}
use Rattle.literal_areas.proofs.Serials.{serial_here}
use Rattle.prgr_core.proofs.Parts.{some_same, and_then_some}
use Rattle.change_laws.specs.Uses.{IsUsed}
use Rattle.staging.specs.Upcoming.{IsUpcoming}
use Rattle.staging.proofs.AreasIn.{AreRising, among_either, among_left, among_right, areas_rise, listed_stands, stands_listed}
use Rattle.staging.proofs.Coming.{ComesNext, IsFresh}
use Rattle.staging.proofs.NextFresh.{any_at, at_any, fresh_differ, fresh_of, image_below, kept_words_are, of_fresh}
use Rattle.staging.proofs.NextReads.{shown_used}

-- an area that stands is live, or retired
pub data StandsAs (pools : Areas) (a : AreaRef) : Type 0 where
  live_area : use_of pools a.block ≡ Some (Live a.serial) → StandsAs pools a
  retired_area : (since : ℕ) → use_of pools a.block ≡ Some (Retired a.serial since) → StandsAs pools a

pub stands_as : (pools : Areas) (a : AreaRef) → Stands pools a → StandsAs pools a
stands_as pools a stands = let found = and_then_some serial_of (use_of pools a.block) a.serial stands in by found.0 found.1 found.2
  where
    by : (u : BlockUse) → use_of pools a.block ≡ Some u → serial_of u ≡ Some a.serial → StandsAs pools a
    by Free is of = absurd (cc)
    by (Live serial) is of = live_area (is ∙ ap (λ (n : ℕ). Some (Live n)) (some_same serial a.serial of))
    by (Retired serial since) is of = retired_area since (is ∙ ap (λ (n : ℕ). Some (Retired n since)) (some_same serial a.serial of))

pub live_stands : (pools : Areas) (block serial : ℕ) → use_of pools block ≡ Some (Live serial) → Stands pools (record { serial = serial; block = block })
live_stands pools block serial is = serial_here pools block (Live serial) is

same_all : (ws : List ℕ) → same_words ws ws ≡ true
same_all [] = refl
same_all (w ∷ ws) = and_from (w == w) (same_words ws ws) (eq-eqb w w refl) (same_all ws)

image_has : (areas : List AreaWords) (serial : ℕ) (words : List ℕ) → serial_image areas serial ≡ Some words → has_image areas serial words ≡ true
image_has [] serial words e = absurd (cc)
image_has (a ∷ areas) serial words e = choose (a.serial == serial) e (image_has areas serial words)
  where
    choose : (b : Bool) → (if b then Some a.words else serial_image areas serial) ≡ Some words → (serial_image areas serial ≡ Some words → has_image areas serial words ≡ true) → ((b && same_words a.words words) || has_image areas serial words) ≡ true
    choose true e more = or_left (same_words a.words words) (has_image areas serial words) (subst (λ (ws : List ℕ). same_words a.words ws ≡ true) (some_same a.words words e) (same_all a.words))
    choose false e more = more e

module _ (names : List Mfa) (s : ServerState) (pools : Areas) (w : WriterView) (p : Published) (next : ComesNext names s pools w) (up : IsUpcoming names s pools p) where
  -- what the generation lists stands, and the other way round
  pub listed_next : (a : AreaRef) → Among p.areas a → Stands pools a
  listed_next a at = listed_stands pools next.owned.sound.sizes a (subst (λ (areas : List AreaRef). Among areas a) up.areas at)

  pub next_listed : (a : AreaRef) → Stands pools a → Among p.areas a
  next_listed a stands = subst (λ (areas : List AreaRef). Among areas a) (sym up.areas) (stands_listed pools a stands)

  -- what stands is live and used, or retired
  pub live_used : (a : AreaRef) → use_of pools a.block ≡ Some (Live a.serial) → IsUsed s a.serial
  live_used a is = next.blocks.live a.block a.serial is

  stands_known : (a : AreaRef) → Stands pools a → a.serial < pools.next
  stands_known a stands = next.owned.sound.below a.block a.serial stands

  -- the generation has the image of what stands
  pub image_next : (a : AreaRef) (words : List ℕ) → Stands pools a → words_of_area s a.serial ≡ Some words → serial_image p.state.areas a.serial ≡ Some words
  image_next a words stands is =
      let below = stands_known a stands in
      let same = next.blocks.next in
      let known : a.serial < s.next_serial = omega (arith, below, same) in
      subst (λ (g : Generation). serial_image g.areas a.serial ≡ Some words) (sym up.state)
      (image_below s s.next_serial a.serial words known (kept_words_are s a.serial words (next.blocks.unreleased a.block a.serial stands) is))

  -- ---- what is kept

  -- a kept area stands, with its image
  pub record IsNextKept (k : KeptArea) : Type 0 where
    pub stands : Stands pools k.area
    pub image : words_of_area s k.area.serial ≡ Some k.words

  kept_stays : (k : KeptArea) → Among w.kept k → IsNextKept k
  kept_stays k at = record { stands = next.owned.kept k at; image = next.kept k at }

  fresh_stands : (k : KeptArea) → Among (fresh_areas w.kept p) k → Stands pools k.area
  fresh_stands k at = listed_next k.area (fresh_of w.kept p k at).listed

  -- a fresh one comes in
  pub fresh_comes : (k : KeptArea) → Among (fresh_areas w.kept p) k → IsFresh s pools w k.area k.words × (words_of_area s k.area.serial ≡ Some k.words)
  fresh_comes k at =
      let fresh = fresh_of w.kept p k at in
      let stands = fresh_stands k at in
      let has = next.images k.area stands in
      let words : has.words ≡ k.words = some_same has.words k.words (sym (image_next k.area has.words stands has.of) ∙ fresh.image) in
      elim has.stands as (λ _. IsFresh s pools w k.area k.words × (words_of_area s k.area.serial ≡ Some k.words)) [
        | inl kept ↦ absurd (true≢false (sym (any_at (λ (j : KeptArea). j.area.serial == k.area.serial) w.kept (record { area = k.area; words = has.words }) kept (eq-eqb k.area.serial k.area.serial refl)) ∙ fresh.unkept))
        | inr comes ↦ (subst (IsFresh s pools w k.area) words comes, has.of ∙ ap (λ (ws : List ℕ). Some ws) words)
      ]

  pub kept_is : (k : KeptArea) → Among (kept_next w p) k → IsNextKept k
  kept_is k at =
      elim (among_either w.kept (fresh_areas w.kept p) k at) as (λ _. IsNextKept k) [
        | inl kept ↦ kept_stays k kept
        | inr fresh ↦ record { stands = fresh_stands k fresh; image = (fresh_comes k fresh).1 }
      ]

  -- and each area that stands is kept
  pub is_kept_next : (a : AreaRef) → Stands pools a → (words : List ℕ) × Among (kept_next w p) (record { area = a; words = words })
  is_kept_next a stands =
      let has = next.images a stands in
      elim has.stands as (λ _. (words : List ℕ) × Among (kept_next w p) (record { area = a; words = words })) [
        | inl kept ↦ (has.words, among_left w.kept (fresh_areas w.kept p) (record { area = a; words = has.words }) kept)
        | inr comes ↦ (
          has.words,
          among_right w.kept (fresh_areas w.kept p) (record { area = a; words = has.words })
              (of_fresh w.kept p a has.words (next_listed a stands)
              (false_from_ne_true (is_kept w.kept a.serial) (λ e. let found = at_any (λ (j : KeptArea). j.area.serial == a.serial) w.kept e in comes.unpublished.kept found.0 found.1 (eqb-true found.0.area.serial a.serial found.2)))
              (image_next a has.words stands has.of)),
        )
      ]

  -- ---- each in its block

  pub apart_areas : AreAreasApart p
  apart_areas a b here there same =
      let block = next.owned.sound.apart a.block b.block a.serial (listed_next a here) (listed_next b there ∙ ap (λ (n : ℕ). Some n) (sym same)) in
      λ i. record { serial = same i; block = block i }

  pub go_on : AreasGoOn w p
  go_on = record {
    apart = apart_areas;
    kept = λ k at. let is = kept_is k at in record { listed = next_listed k.area is.stands; image = image_next k.area k.words is.stands is.image };
    new = λ k q a fresh published listed. (fresh_comes k fresh).0.unpublished.listed q a published listed;
  }

  pub same_serial : (a b : AreaRef) → Stands pools a → Stands pools b → a.block ≡ b.block → a.serial ≡ b.serial
  same_serial a b here there same = some_same a.serial b.serial (sym here ∙ ap (serial_at pools) same ∙ there)

  same_block : (a b : AreaRef) → Stands pools a → Stands pools b → a.serial ≡ b.serial → a.block ≡ b.block
  same_block a b here there same = next.owned.sound.apart a.block b.block a.serial here (there ∙ ap (λ (n : ℕ). Some n) (sym same))

  abbrev Differ : KeptArea → KeptArea → Type 0
  Differ a b = (a.area.serial ≢ b.area.serial) × (a.area.block ≢ b.area.block)

  -- a kept one and a fresh one differ
  kept_fresh : (a b : KeptArea) → Among w.kept a → Among (fresh_areas w.kept p) b → (a.area.serial ≡ b.area.serial → ⊥)
  kept_fresh a b here there same = (fresh_comes b there).0.unpublished.kept a here same

  both_differ : (a b : KeptArea) → Stands pools a.area → Stands pools b.area → (a.area.serial ≡ b.area.serial → ⊥) → Differ a b
  both_differ a b here there differ = (differ, λ same. differ (same_serial a.area b.area here there same))

  fresh_apart : (i j : ℕ) (a b : KeptArea) → i ≢ j → slice_get (fresh_areas w.kept p) i ≡ Some a → slice_get (fresh_areas w.kept p) j ≡ Some b → Differ a b
  fresh_apart i j a b differ here there =
      let rise = subst (λ (areas : List AreaRef). AreRising 9 areas) (sym up.areas) (areas_rise pools next.owned.sound.sizes) in
      let blocks = fresh_differ w.kept p.state.areas p.areas 9 i j a b rise differ here there in
      (λ same. blocks (same_block a.area b.area (fresh_stands a (i, here)) (fresh_stands b (j, there)) same), blocks)

  pub apart_next : KeptApart (kept_next w p)
  apart_next i j a b differ here there =
      elim (in_either w.kept (fresh_areas w.kept p) i a here) as (λ _. Differ a b) [
        | inl first ↦
            elim (in_either w.kept (fresh_areas w.kept p) j b there) as (λ _. Differ a b) [
              | inl second ↦ next.apart i j a b differ first second
              | inr second ↦ both_differ a b (next.owned.kept a (i, first)) (fresh_stands b (second.0, second.2)) (kept_fresh a b (i, first) (second.0, second.2))
            ]
        | inr first ↦
            elim (in_either w.kept (fresh_areas w.kept p) j b there) as (λ _. Differ a b) [
              | inl second ↦ both_differ a b (fresh_stands a (first.0, first.2)) (next.owned.kept b (j, second)) (λ same. kept_fresh b a (j, second) (first.0, first.2) (sym same))
              | inr second ↦ fresh_apart first.0 second.0 a b (λ same. let is = first.1 in let other = second.1 in differ (omega (arith, is, other, same))) first.2 second.2
            ]
      ]

  -- what is used is kept, in its block and with its image
  pub used_kept : UsedAreKept (kept_next w p) p
  used_kept serial used =
      let found = next.blocks.used serial (shown_used names s p up.state next.keys_once serial used) in
      let a : AreaRef = record { serial = serial; block = found.0 } in
      let stands = live_stands pools found.0 serial found.1 in
      let kept = is_kept_next a stands in
      let k : KeptArea = record { area = a; words = kept.0 } in
      let image = image_next a kept.0 stands (kept_is k kept.1).image in
      let areas : has_area p.areas serial found.0 ≡ true = any_at (λ (b : AreaRef). (b.serial == serial) && (b.block == found.0)) p.areas a (next_listed a stands) (and_from (serial == serial) (found.0 == found.0) (eq-eqb serial serial refl) (eq-eqb found.0 found.0 refl)) in
      any_at (is_kept_as p serial) (kept_next w p) k kept.1
      (and_from (serial == serial && has_area p.areas serial found.0) (has_image p.state.areas serial kept.0) (and_from (serial == serial) (has_area p.areas serial found.0) (eq-eqb serial serial refl) areas) (image_has p.state.areas serial kept.0 image))
