-- What the pools say once the area that comes in is taken and the former one is retired.
use Rattle.std.proofs.Common.{◌≡◌, ◌≢◌, ◌⊎◌, inl, inr, ℕ, zero, suc, ◌+◌, ◌-◌, ◌≤◌, List, [], ◌∷◌, length, Option, Some, None, refl, sym, ap, subst, ◌∙◌, arith}
use Rattle.std.specs.Prelude.{slice_get, slice_set}
use Rattle.std.proofs.lemmas.Bool.{le-ltb}
use Rattle.std.proofs.lemmas.Option.{none-some}
use Rattle.prgr_core.proofs.Parts.{some_same}
use Rattle.term_core.specs.declared.area.AreaRef.{AreaRef}
use Rattle.server_core.proofs.KeyEntries.{counted}
use Rattle.shared_words.specs.declared.view.WriterView.{WriterView}
use Rattle.literal_areas.specs.declared.areas.Areas.{Areas}
use Rattle.literal_areas.specs.declared.blocks.BlockUse.{BlockUse}
use Rattle.literal_areas.specs.declared.blocks.BlockUse.TheVariants.{Free, Live, Retired}
use Rattle.literal_areas.specs.Blocks.{IsLive, IsSound, serial_at, use_of, with_area, with_retired}
use Rattle.literal_areas.proofs.Serials.{retired_serial, serial_here, use_after}
use Rattle.literal_areas.proofs.Uses.{use_here, use_other, use_small}
use Rattle.staging.specs.Placed.{with_areas}
use Rattle.staging.specs.Replaced.{FormerRetired}
use Rattle.staging.specs.Standing.{live_blocks}
use Rattle.staging.proofs.BlockUses.{live_retired}

-- ---- an area is retired

-- what the pools say then of each block
pub record Retires (former : Option ℕ) (since : ℕ) (old new : Areas) : Type 0 where
  pub next : new.next ≡ old.next
  pub before : (block : ℕ) (u : BlockUse) → use_of new block ≡ Some u → (use_of old block ≡ Some u) ⊎ ((serial : ℕ) × (former ≡ Some serial) × (use_of old block ≡ Some (Live serial)) × (u ≡ Retired serial since))
  pub stays : (block : ℕ) (u : BlockUse) → use_of old block ≡ Some u → ((serial : ℕ) → u ≡ Live serial → former ≢ Some serial) → use_of new block ≡ Some u
  pub gone : (block serial : ℕ) → use_of new block ≡ Some (Live serial) → former ≢ Some serial
  pub retired : (serial : ℕ) → former ≡ Some serial → (block : ℕ) × (use_of new block ≡ Some (Retired serial since))
  pub stands : (block serial : ℕ) → serial_at old block ≡ Some serial → serial_at new block ≡ Some serial
  pub big : live_blocks new.big ≡ live_blocks old.big
  pub small : live_blocks new.small + counted former ≡ live_blocks old.small

pub live_set : (uses : List BlockUse) (k n since : ℕ) → slice_get uses k ≡ Some (Live n) → live_blocks (slice_set uses k (Retired n since)) + 1 ≡ live_blocks uses
live_set [] k n since e = absurd (cc)
live_set (Free ∷ uses) zero n since e = absurd (cc)
live_set (Live serial ∷ uses) zero n since e = omega (arith)
live_set (Retired serial first ∷ uses) zero n since e = absurd (cc)
live_set (used ∷ uses) (suc k) n since e = let behind = live_set uses k n since e in omega (arith, behind)

-- nothing is retired
pub retires_none : (since : ℕ) (old new : Areas) → new ≡ old → Retires None since old new
retires_none since old new same = record {
  next = ap (λ (s : Areas). s.next) same;
  before = λ block u now. inl (sym (ap (λ (s : Areas). use_of s block) same) ∙ now);
  stays = λ block u was differ. ap (λ (s : Areas). use_of s block) same ∙ was;
  gone = λ block serial now e. none-some serial e;
  retired = λ serial e. absurd (none-some serial e);
  stands = λ block serial was. ap (λ (s : Areas). serial_at s block) same ∙ was;
  big = ap (λ (s : Areas). live_blocks s.big) same;
  small = (let count = ap (λ (s : Areas). live_blocks s.small) same in omega (arith, count));
}

module _ (s : Areas) (sound : IsSound s) (area : AreaRef) (since : ℕ) (live : IsLive s area) where
  abbrev now : Areas
  now = with_retired area since s

  -- the serial has one block
  one_block : (block : ℕ) → use_of s block ≡ Some (Live area.serial) → block ≡ area.block
  one_block block is = sound.apart block area.block area.serial (serial_here s block (Live area.serial) is) (serial_here s area.block (Live area.serial) live)

  pub stays_now : (block : ℕ) (u : BlockUse) → use_of s block ≡ Some u → ((serial : ℕ) → u ≡ Live serial → Some area.serial ≢ Some serial) → use_of now block ≡ Some u
  stays_now block u was differ = use_other s area.block block (Live area.serial) (Retired area.serial since) live (λ same. differ area.serial (some_same u (Live area.serial) (sym was ∙ ap (use_of s) same ∙ live)) refl) ∙ was

  pub gone_now : (block serial : ℕ) → use_of now block ≡ Some (Live serial) → Some area.serial ≢ Some serial
  gone_now block serial is same = by (use_after s area.block block (Live area.serial) (Retired area.serial since) (Live serial) live is)
    where
      by : ((block ≡ area.block) × (Live serial ≡ Retired area.serial since)) ⊎ ((block ≡ area.block → ⊥) × (use_of s block ≡ Some (Live serial))) → ⊥
      by (inl here) = live_retired serial area.serial since here.1
      by (inr other) = other.0 (one_block block (other.1 ∙ ap (λ (n : ℕ). Some (Live n)) (sym (some_same area.serial serial same))))

  pub before_now : (block : ℕ) (u : BlockUse) → use_of now block ≡ Some u → (use_of s block ≡ Some u) ⊎ ((serial : ℕ) × (Some area.serial ≡ Some serial) × (use_of s block ≡ Some (Live serial)) × (u ≡ Retired serial since))
  before_now block u is = by (use_after s area.block block (Live area.serial) (Retired area.serial since) u live is)
    where
      by : ((block ≡ area.block) × (u ≡ Retired area.serial since)) ⊎ ((block ≡ area.block → ⊥) × (use_of s block ≡ Some u)) → (use_of s block ≡ Some u) ⊎ ((serial : ℕ) × (Some area.serial ≡ Some serial) × (use_of s block ≡ Some (Live serial)) × (u ≡ Retired serial since))
      by (inl here) = inr (area.serial, refl, ap (use_of s) here.0 ∙ live, here.1)
      by (inr other) = inl other.1

  pub retires_area : 64 ≤ area.block → Retires (Some area.serial) since s now
  retires_area high = record {
    next = refl;
    before = before_now;
    stays = stays_now;
    gone = gone_now;
    retired = λ serial e. (area.block, use_here s area.block (Live area.serial) (Retired area.serial since) live ∙ ap (λ (n : ℕ). Some (Retired n since)) (some_same area.serial serial e));
    stands = λ block serial was. retired_serial s sound area since live block serial was;
    big = rw (le-ltb area.block 64 high) refl;
    small = rw (le-ltb area.block 64 high) (live_set s.small (area.block - 64) area.serial since (sym (use_small s area.block high) ∙ live));
  }

-- so is the former area, if there is one
pub retires : (former : Option ℕ) (old new : Areas) (before after : WriterView) → IsSound old → ((block serial : ℕ) → former ≡ Some serial → use_of old block ≡ Some (Live serial) → 64 ≤ block) → FormerRetired former old before new after → Retires former (length before.published) old new
retires None old new before after sound high is = retires_none (length before.published) old new is.0
retires (Some serial) old new before after sound high is =
    subst (λ (n : ℕ). Retires (Some n) (length before.published) old new) is.serial_is
    (subst (Retires (Some is.area.serial) (length before.published) old) (sym is.pools) (retires_area old sound is.area (length before.published) is.live (high is.area.block serial refl (is.live ∙ ap (λ (n : ℕ). Some (Live n)) is.serial_is))))

-- areas in small blocks take no big one
pub big_same : (taken : List AreaRef) (pools : Areas) → ((i : ℕ) (a : AreaRef) → slice_get taken i ≡ Some a → 64 ≤ a.block) → (with_areas taken pools).big ≡ pools.big
big_same [] pools high = refl
big_same (a ∷ taken) pools high = big_same taken (with_area a pools) (λ i x at. high (suc i) x at) ∙ one_big a pools (high 0 a refl)
  where
    one_big : (a : AreaRef) (pools : Areas) → 64 ≤ a.block → (with_area a pools).big ≡ pools.big
    one_big a pools few = rw (le-ltb a.block 64 few) refl
