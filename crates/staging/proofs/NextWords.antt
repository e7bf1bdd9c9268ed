-- The words that tell of the areas of the generation that is published next.
use Rattle.std.proofs.Common.{◌≡◌, ℕ, ◌<◌, ◌≤◌, Bool, true, false, List, length, Some, refl, sym, ap, ◌∙◌, arith}
use Rattle.std.specs.Prelude.{◌==◌, not, nat_le}
use Rattle.std.proofs.lemmas.Bool.{and_from, eqb-true, false_from_ne_true, le-leb, true≢false}
use Rattle.term_core.specs.declared.area.AreaRef.{AreaRef}
use Rattle.term_core.specs.declared.atom.Mfa.{Mfa}
use Rattle.term_core.specs.declared.generation.Generation.{Generation}
use Rattle.area_core.specs.declared.table.KeptArea.{KeptArea}
use Rattle.area_core.specs.declared.table.Published.{Published}
use Rattle.area_core.specs.Generations as generations
use Rattle.area_core.specs.Generations.{has_serial, tells}
use Rattle.area_core.specs.Map.{doom_place, retire_place, word_at}
use Rattle.area_core.specs.Blocks.{Among, AreaStands, DoomTells, EntriesStand, FitsBlock, ImageStands, InstancesPlaced, RetireTells}
use Rattle.area_core.specs.Roots.{fresh_areas}
use Rattle.shared_words.specs.declared.view.WriterView.{WriterView}
use Rattle.shared_words.specs.Publishing.{kept_next}
use Rattle.shared_words.specs.Views.{newest_number}
use Rattle.progress_words.specs.Roots.{newest_of}
use Rattle.server_core.specs.ServerState.{ServerState, is_doomed}
use Rattle.literal_areas.specs.declared.areas.Areas.{Areas}
use Rattle.literal_areas.specs.declared.blocks.BlockUse.{BlockUse}
use Rattle.literal_areas.specs.declared.blocks.BlockUse.TheVariants.{Live, Retired}
use Rattle.literal_areas.specs.Blocks.{Stands, use_of}
use Rattle.literal_areas.proofs.Uses.{use_there, use_within}
use Rattle.staging.specs.Standing.{DoomStands, retire_word_of}
use Rattle.staging.specs.Upcoming.{IsUpcoming}
use Rattle.staging.proofs.Coming.{ComesNext}
use Rattle.staging.proofs.NextAreas.{StandsAs, fresh_comes, kept_is, listed_next, live_area, live_used, retired_area, stands_as}
use Rattle.staging.proofs.NextReads.{shown_instance, used_unretired}

-- ---- a word tells from a generation on

tells_from : (word g : ℕ) → 0 < word → word ≤ g → tells word g ≡ true
tells_from word g some reached =
    and_from (not (word == 0)) (nat_le word g) (ap not (false_from_ne_true (word == 0) (λ e. let none = eqb-true word 0 e in omega (arith, none, some)))) (le-leb word g reached)

module _ (names : List Mfa) (s : ServerState) (pools : Areas) (w : WriterView) (p : Published) (next : ComesNext names s pools w) (up : IsUpcoming names s pools p) where
  block_fits : (a : AreaRef) → Stands pools a → (9 ≤ a.block) × (a.block < 320)
  block_fits a stands =
      by (stands_as pools a stands)
    where
      by : StandsAs pools a → (9 ≤ a.block) × (a.block < 320)
      by (live_area is) = (use_there pools a.block (Live a.serial) is, use_within pools a.block (Live a.serial) next.owned.sound.sizes is)
      by (retired_area since is) = (use_there pools a.block (Retired a.serial since) is, use_within pools a.block (Retired a.serial since) next.owned.sound.sizes is)

  -- ---- retire and doom words

  retire_is : (a : AreaRef) (u : BlockUse) → Stands pools a → use_of pools a.block ≡ Some u → word_at w.words (retire_place a.block) ≡ retire_word_of (Some u)
  retire_is a u stands is = next.words.retire a.block (block_fits a stands).1 ∙ ap retire_word_of is

  live_unretired : (a : AreaRef) → use_of pools a.block ≡ Some (Live a.serial) → generations.is_retired_area p a.serial ≡ false
  live_unretired a is = ap (λ (g : Generation). has_serial g.retired a.serial) up.state ∙ used_unretired s next.sound a.serial (live_used names s pools w p next up a is)

  retire_tells : (a : AreaRef) → Stands pools a → tells (word_at w.words (retire_place a.block)) (length w.published) ≡ generations.is_retired_area p a.serial
  retire_tells a stands = by (stands_as pools a stands)
    where
      by : StandsAs pools a → tells (word_at w.words (retire_place a.block)) (length w.published) ≡ generations.is_retired_area p a.serial
      by (live_area is) = ap (λ (word : ℕ). tells word (length w.published)) (retire_is a (Live a.serial) stands is) ∙ sym (live_unretired a is)
      by (retired_area since is) =
          let when = next.words.since a.block a.serial since is in
          ap (λ (word : ℕ). tells word (length w.published)) (retire_is a (Retired a.serial since) stands is) ∙ tells_from since (length w.published) when.0 when.1
          ∙ sym (ap (λ (g : Generation). has_serial g.retired a.serial) up.state ∙ next.blocks.retired a.block a.serial since is)

  retired_true : (a : AreaRef) (since : ℕ) → use_of pools a.block ≡ Some (Retired a.serial since) → generations.is_retired_area p a.serial ≡ true
  retired_true a since is = ap (λ (g : Generation). has_serial g.retired a.serial) up.state ∙ next.blocks.retired a.block a.serial since is

  word_tells : (serial word : ℕ) (b : Bool) → is_doomed s serial ≡ b → DoomStands s serial (length w.published) word → tells word (length w.published) ≡ b
  word_tells serial word false doomed stands = ap (λ (x : ℕ). tells x (length w.published)) (stands.clear doomed)
  word_tells serial word true doomed stands = let set = stands.set doomed in tells_from word (length w.published) set.0 set.1

  doom_tells : (a : AreaRef) → Stands pools a → a.block < 64 → generations.is_retired_area p a.serial ≡ false → tells (word_at w.words (doom_place a.block)) (length w.published) ≡ generations.is_doomed_area p a.serial
  doom_tells a stands big unretired = by (stands_as pools a stands)
    where
      by : StandsAs pools a → tells (word_at w.words (doom_place a.block)) (length w.published) ≡ generations.is_doomed_area p a.serial
      by (live_area is) =
          word_tells a.serial (word_at w.words (doom_place a.block)) (is_doomed s a.serial) refl (next.words.doom a.block a.serial big is)
          ∙ sym (ap (λ (g : Generation). has_serial g.doomed a.serial) up.state)
      by (retired_area since is) = absurd (true≢false (sym (retired_true a since is) ∙ unretired))

  -- so they tell of each area that is kept
  pub told_next : (k : KeptArea) → Stands pools k.area → RetireTells (word_at w.words) k (length w.published) p × DoomTells (word_at w.words) k (length w.published) p
  told_next k stands = (retire_tells k.area stands, λ big unretired. doom_tells k.area stands big unretired)

  pub areas_next : ((k : KeptArea) → Among (kept_next w p) k → EntriesStand (word_at w.words) k p) → (k : KeptArea) → Among (kept_next w p) k → AreaStands (word_at w.words) k (length w.published) p
  areas_next entries k at =
      let told = told_next k (kept_is names s pools w p next up k at).stands in
      record { entries = entries k at; retired = told.0; doomed = told.1 }

  -- ---- what comes in

  pub fresh_fits : (k : KeptArea) → Among (fresh_areas w.kept p) k → FitsBlock k
  fresh_fits k at =
      let comes = (fresh_comes names s pools w p next up k at).0 in
      record {
        first = use_there pools k.area.block (Live k.area.serial) comes.live;
        last = use_within pools k.area.block (Live k.area.serial) next.owned.sound.sizes comes.live;
        room = comes.room;
        functions = comes.functions;
      }

  pub fresh_images : (k : KeptArea) → Among (fresh_areas w.kept p) k → ImageStands (word_at w.words) k
  fresh_images k at place value is plain = (fresh_comes names s pools w p next up k at).0.written place value is

  pub fresh_told : (k : KeptArea) → Among (fresh_areas w.kept p) k → AreaStands (word_at w.words) k (newest_number w.published) (newest_of w)
  fresh_told k at =
      let comes = (fresh_comes names s pools w p next up k at).0 in
      let within = use_within pools k.area.block (Live k.area.serial) next.owned.sound.sizes comes.live in
      record {
        entries = λ function has word. comes.untraced function;
        retired = ap (λ (word : ℕ). tells word (newest_number w.published)) (next.words.retire k.area.block within ∙ ap retire_word_of comes.live) ∙ sym comes.unretired;
        doomed = λ big unretired. ap (λ (word : ℕ). tells word (newest_number w.published)) ((next.words.doom k.area.block k.area.serial big comes.live).clear comes.undoomed) ∙ sym comes.unheard;
      }

  -- ---- instances

  pub instances_next : InstancesPlaced p
  instances_next a at is = let shown = shown_instance names s p up.state a.serial is in next.placed.instances a shown.m (listed_next names s pools w p next up a at) shown.code
