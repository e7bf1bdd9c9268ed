-- The serials in blocks, before and after one of them has another use: they stay in order.
use Rattle.std.proofs.Common.{◌≡◌, ℕ, ◌+◌, ◌<◌, ◌⊎◌, inl, inr, sym, ap, subst, ◌∙◌, arith}
use Rattle.std.specs.Prelude.{Some, None}
use Rattle.std.specs.Option.{option_and_then}
use Rattle.std.proofs.lemmas.Bool.{cases_eq}
use Rattle.prgr_core.proofs.Parts.{and_then_some, some_same}
use Rattle.term_core.specs.declared.area.AreaRef.{AreaRef}
use Rattle.literal_areas.specs.declared.blocks.BlockUse.{BlockUse}
use Rattle.literal_areas.specs.declared.blocks.BlockUse.TheVariants.{Free, Live, Retired}
use Rattle.literal_areas.specs.declared.areas.Areas.{Areas}
use Rattle.literal_areas.specs.declared.blocks.Pool.{Pool}
use Rattle.literal_areas.specs.declared.taking.Take.{Take}
use Rattle.literal_areas.specs.declared.taking.Take.TheVariants.{Area, AllLive, AwaitRelease}
use Rattle.literal_areas.specs.Blocks.{use_of, with_use, serial_of, serial_at, IsSound, IsLive, IsLast, HasAnswered, with_area, without_last, with_retired}
use Rattle.literal_areas.proofs.Uses.{use_here, use_other, sizes_stay}

-- the serial of a block whose use is known
pub serial_here : (s : Areas) (block : ℕ) (used : BlockUse) → use_of s block ≡ Some used → serial_at s block ≡ serial_of used
serial_here s block used is = ap (option_and_then serial_of) is

-- another block's serial stays
pub serial_other : (s : Areas) (a b : ℕ) (old used : BlockUse) → use_of s a ≡ Some old → (b ≡ a → ⊥) → serial_at (with_use a used s) b ≡ serial_at s b
serial_other s a b old used is differ = ap (option_and_then serial_of) (use_other s a b old used is differ)

-- a block has the new use, or the one that it had
pub use_after : (s : Areas) (a b : ℕ) (old used : BlockUse) (u : BlockUse) → use_of s a ≡ Some old → use_of (with_use a used s) b ≡ Some u → ((b ≡ a) × (u ≡ used)) ⊎ ((b ≡ a → ⊥) × (use_of s b ≡ Some u))
use_after s a b old used u is now =
    elim (cases_eq b a) as (λ _. ((b ≡ a) × (u ≡ used)) ⊎ ((b ≡ a → ⊥) × (use_of s b ≡ Some u))) [
      | inl same ↦ inl (same, some_same u used (sym now ∙ ap (use_of (with_use a used s)) same ∙ use_here s a old used is))
      | inr differ ↦ inr (differ, sym (use_other s a b old used is differ) ∙ now)
    ]

-- a serial is the new one, or stands where it stood
pub serial_after : (s : Areas) (a b : ℕ) (old used : BlockUse) (n : ℕ) → use_of s a ≡ Some old → serial_at (with_use a used s) b ≡ Some n → ((b ≡ a) × (serial_of used ≡ Some n)) ⊎ ((b ≡ a → ⊥) × (serial_at s b ≡ Some n))
serial_after s a b old used n is now =
    let found = and_then_some serial_of (use_of (with_use a used s) b) n now in
    elim (use_after s a b old used found.0 is found.1) as (λ _. ((b ≡ a) × (serial_of used ≡ Some n)) ⊎ ((b ≡ a → ⊥) × (serial_at s b ≡ Some n))) [
      | inl here ↦ inl (here.0, sym (ap serial_of here.1) ∙ found.2)
      | inr other ↦ inr (other.0, serial_here s b found.0 other.1 ∙ found.2)
    ]

no_serial : (n : ℕ) → None ≡ Some n → ⊥
no_serial n e = (cc)

-- ---- an area is taken

module _ (s : Areas) (sound : IsSound s) (block : ℕ) (free : use_of s block ≡ Some Free) where
  abbrev taken : Areas
  taken = with_area (record { serial = s.next; block = block }) s

  -- each serial is the next one, in the block that is taken, or a former one in another
  one_taken : (b n : ℕ) → serial_at taken b ≡ Some n → ((b ≡ block) × (n ≡ s.next)) ⊎ ((b ≡ block → ⊥) × (serial_at s b ≡ Some n))
  one_taken b n at =
      elim (serial_after (record s { next = s.next + 1 }) block b Free (Live s.next) n free at) as (λ _. ((b ≡ block) × (n ≡ s.next)) ⊎ ((b ≡ block → ⊥) × (serial_at s b ≡ Some n))) [
        | inl here ↦ inl (here.0, sym (some_same s.next n here.1))
        | inr other ↦ inr other
      ]

  pub sound_taken : IsSound taken
  sound_taken = record {
    sizes = sizes_stay (record s { next = s.next + 1 }) block (Live s.next) (record { big = sound.sizes.big; small = sound.sizes.small });
    some = omega (arith);
    first = λ b n at. elim (one_taken b n at) as (λ _. 0 < n) [
      | inl here ↦ subst (λ (x : ℕ). 0 < x) (sym here.1) sound.some
      | inr other ↦ sound.first b n other.1
    ];
    below = λ b n at. elim (one_taken b n at) as (λ _. n < s.next + 1) [
      | inl here ↦ (let same = here.1 in omega (arith, same))
      | inr other ↦ (let less = sound.below b n other.1 in omega (arith, less))
    ];
    apart = apart_taken;
  }
    where
      too_late : (b n : ℕ) → serial_at s b ≡ Some n → n ≡ s.next → ⊥
      too_late b n at same = let less = sound.below b n at in omega (arith, less, same)

      apart_taken : (a b n : ℕ) → serial_at taken a ≡ Some n → serial_at taken b ≡ Some n → a ≡ b
      apart_taken a b n at_a at_b =
          elim (one_taken a n at_a) as (λ _. a ≡ b) [
            | inl here ↦ elim (one_taken b n at_b) as (λ _. a ≡ b) [
              | inl there ↦ here.0 ∙ sym there.0
              | inr other ↦ absurd (too_late b n other.1 here.1)
            ]
            | inr old ↦ elim (one_taken b n at_b) as (λ _. a ≡ b) [
              | inl there ↦ absurd (too_late a n old.1 there.1)
              | inr other ↦ sound.apart a b n old.1 other.1
            ]
          ]

free_live : (n : ℕ) → Live n ≡ Free → ⊥
free_live n e = (cc)

-- a live area stays so
live_still_in : (s : Areas) (block : ℕ) → use_of s block ≡ Some Free → (area : AreaRef) → IsLive s area → IsLive (with_area (record { serial = s.next; block = block }) s) area
live_still_in s block free area live =
    use_other (record s { next = s.next + 1 }) block area.block Free (Live s.next) free (λ same. free_live area.serial (some_same (Live area.serial) Free (sym live ∙ ap (use_of s) same ∙ free))) ∙ live

pub live_after : (pool : Pool) (old new : Areas) (answer : Take) → HasAnswered pool old new answer → (area : AreaRef) → IsLive old area → IsLive new area
live_after pool old new (Area taken) told area live =
    let at : with_area (record { serial = old.next; block = taken.block }) old ≡ new = (λ i. with_area (record { serial = sym told.serial i; block = taken.block }) old) ∙ sym told.after in
    subst (λ (s : Areas). IsLive s area) at (live_still_in old taken.block told.block.free area live)
live_after pool old new AllLive told area live = subst (λ (s : Areas). IsLive s area) (sym told.same) live
live_after pool old new AwaitRelease told area live = subst (λ (s : Areas). IsLive s area) (sym told.same) live

pub sound_after : (pool : Pool) (old new : Areas) (answer : Take) → HasAnswered pool old new answer → IsSound old → IsSound new
sound_after pool old new (Area taken) told sound =
    let at : with_area (record { serial = old.next; block = taken.block }) old ≡ new = (λ i. with_area (record { serial = sym told.serial i; block = taken.block }) old) ∙ sym told.after in
    subst IsSound at (sound_taken old sound taken.block told.block.free)
sound_after pool old new AllLive told sound = subst IsSound (sym told.same) sound
sound_after pool old new AwaitRelease told sound = subst IsSound (sym told.same) sound

-- ---- an area is given back

module _ (s : Areas) (sound : IsSound s) (area : AreaRef) (last : IsLast s area) where
  abbrev given : Areas
  given = without_last area s

  serial_last : serial_at s area.block ≡ Some area.serial
  serial_last = serial_here s area.block (Live area.serial) last.live

  -- each serial is a former one in another block
  pub one_left : (b n : ℕ) → serial_at given b ≡ Some n → (b ≡ area.block → ⊥) × (serial_at s b ≡ Some n)
  one_left b n at =
      elim (serial_after (record s { next = area.serial }) area.block b (Live area.serial) Free n last.live at) as (λ _. (b ≡ area.block → ⊥) × (serial_at s b ≡ Some n)) [
        | inl here ↦ absurd (no_serial n here.1)
        | inr other ↦ other
      ]

  -- and not that of the last area
  below_last : (b n : ℕ) → serial_at given b ≡ Some n → n < area.serial
  below_last b n at =
      let left = one_left b n at in
      let less = sound.below b n left.1 in
      let next = last.last in
      elim (cases_eq n area.serial) as (λ _. n < area.serial) [
        | inl same ↦ absurd (left.0 (sound.apart b area.block n left.1 (serial_last ∙ ap Some (sym same))))
        | inr differ ↦ (let other : n ≡ area.serial → ⊥ = differ in omega (arith, less, next, other))
      ]

  pub sound_given : IsSound given
  sound_given = record {
    sizes = sizes_stay (record s { next = area.serial }) area.block Free (record { big = sound.sizes.big; small = sound.sizes.small });
    some = sound.first area.block area.serial serial_last;
    first = λ b n at. sound.first b n (one_left b n at).1;
    below = below_last;
    apart = λ a b n at_a at_b. sound.apart a b n (one_left a n at_a).1 (one_left b n at_b).1;
  }

pub sound_back : (old new : Areas) (area : AreaRef) → new ≡ without_last area old → IsLast old area → IsSound old → IsSound new
sound_back old new area is last sound = subst IsSound (sym is) (sound_given old sound area last)

-- ---- an area is retired

module _ (s : Areas) (sound : IsSound s) (area : AreaRef) (since : ℕ) (live : IsLive s area) where
  -- each serial stands where it stood
  pub serial_retired : (b n : ℕ) → serial_at (with_retired area since s) b ≡ Some n → serial_at s b ≡ Some n
  serial_retired b n at =
      elim (serial_after s area.block b (Live area.serial) (Retired area.serial since) n live at) as (λ _. serial_at s b ≡ Some n) [
        | inl here ↦ ap (serial_at s) here.0 ∙ serial_here s area.block (Live area.serial) live ∙ here.1
        | inr other ↦ other.1
      ]

  -- and still does
  pub retired_serial : (b n : ℕ) → serial_at s b ≡ Some n → serial_at (with_retired area since s) b ≡ Some n
  retired_serial b n at =
      elim (cases_eq b area.block) as (λ _. serial_at (with_retired area since s) b ≡ Some n) [
        | inl same ↦
            ap (serial_at (with_retired area since s)) same ∙ serial_here (with_retired area since s) area.block (Retired area.serial since) (use_here s area.block (Live area.serial) (Retired area.serial since) live)
            ∙ sym (serial_here s area.block (Live area.serial) live) ∙ sym (ap (serial_at s) same) ∙ at
        | inr differ ↦ serial_other s area.block b (Live area.serial) (Retired area.serial since) live differ ∙ at
      ]

  pub sound_retired : IsSound (with_retired area since s)
  sound_retired = record {
    sizes = sizes_stay s area.block (Retired area.serial since) sound.sizes;
    some = sound.some;
    first = λ b n at. sound.first b n (serial_retired b n at);
    below = λ b n at. sound.below b n (serial_retired b n at);
    apart = λ a b n at_a at_b. sound.apart a b n (serial_retired a n at_a) (serial_retired b n at_b);
  }
