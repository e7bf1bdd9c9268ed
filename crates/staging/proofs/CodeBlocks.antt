-- The pools once what a load brings in has its areas stand for the state that it leaves; a delete brings nothing in.
use Rattle.std.proofs.Common.{◌≡◌, ℕ, ◌+◌, ◌-◌, ◌<◌, ◌≤◌, ◌⊎◌, inl, inr, true, false, List, length, Some, sym, ap, subst, ◌∙◌, arith}
use Rattle.std.specs.Prelude.{slice_get}
use Rattle.std.proofs.lemmas.Bool.{false_from_ne_true, true≢false}
use Rattle.term_core.specs.declared.area.AreaRef.{AreaRef}
use Rattle.term_core.specs.declared.atom.Mfa.{Mfa}
use Rattle.area_core.specs.Blocks.{IsForInstances}
use Rattle.shared_words.specs.declared.view.WriterView.{WriterView}
use Rattle.shared_words.proofs.ShownMembers.{within_get}
use Rattle.server_core.specs.declared.change.Change.{Change}
use Rattle.server_core.specs.Decided.{Fits}
use Rattle.server_core.specs.Generations.{AreNumbered}
use Rattle.server_core.specs.ServerState.{IsSound, ServerState, is_retired, is_serial_in, live_areas}
use Rattle.change_laws.specs.Changes.{Incoming, incoming, changed_state}
use Rattle.change_laws.specs.Uses.{IsUsed}
use Rattle.change_laws.proofs.AreaUses.{used_stood}
use Rattle.change_laws.proofs.Dropped.{used_known}
use Rattle.change_laws.proofs.GivenSerials.{serials_given}
use Rattle.change_laws.proofs.NotForgotten.{incoming_used, used_kept}
use Rattle.change_laws.proofs.SoundChanges.{change_sound}
use Rattle.literal_areas.specs.declared.areas.Areas.{Areas}
use Rattle.literal_areas.specs.declared.blocks.BlockUse.{BlockUse}
use Rattle.literal_areas.specs.declared.blocks.BlockUse.TheVariants.{Free, Live, Retired}
use Rattle.literal_areas.specs.Blocks.{Stands, first_of, serial_at, serial_of, size_of, use_of}
use Rattle.literal_areas.specs.Owned.{AreOf}
use Rattle.literal_areas.proofs.Serials.{serial_here}
use Rattle.prgr_core.proofs.Parts.{and_then_some, some_same}
use Rattle.staging.specs.Placed.{ArePlaced, IsAreaOf, pool_of, with_areas}
use Rattle.staging.specs.Stages.{IsCodeChange}
use Rattle.staging.specs.Standing.{PoolsStand, StandFor, live_blocks}
use Rattle.staging.proofs.BlockUses.{live_serial, live_some, retired_live, retired_some}
use Rattle.staging.proofs.CodeAfter.{code_after, code_counted, comes_instance}
use Rattle.staging.proofs.Counts.{big_taken}
use Rattle.staging.proofs.GivenBack.{get_at}
use Rattle.staging.proofs.NextAreas.{StandsAs, live_area, retired_area, stands_as}
use Rattle.staging.proofs.NextReads.{used_unretired}
use Rattle.staging.proofs.Sizes.{IsInstance}
use Rattle.staging.proofs.Taken.{next_taken, taken_live}
use Rattle.staging.proofs.TakenUses.{IsTakenAt, serial_taken, small_same, used_after, used_stays}

-- what is known when all of it has its areas
pub record IsPlacedWhole (names : List Mfa) (s : ServerState) (change : Change) (w : WriterView) (rest pools : Areas) (taken : List AreaRef) : Type 0 where
  pub sound : IsSound s
  pub fits : Fits s change
  pub code : IsCodeChange change
  pub stands : StandFor names s rest w
  pub placed : ArePlaced (incoming change) rest pools w taken
  pub whole : length taken ≡ length (incoming change)
  pub owned : AreOf pools w
  pub numbered : AreNumbered names (changed_state s change)

module _ (names : List Mfa) (s : ServerState) (change : Change) (w : WriterView) (rest pools : Areas) (taken : List AreaRef) (h : IsPlacedWhole names s change w rest pools taken) where
  abbrev after : ServerState
  after = changed_state s change

  pub sound_after : IsSound after
  sound_after = change_sound s change h.sound h.fits

  pub next_is : after.next_serial ≡ s.next_serial + length taken
  next_is = (let given = serials_given s change in let whole = h.whole in omega (arith, given, whole))

  -- ---- the areas that came in

  -- one of them, with what stands in it
  pub record IsNew (a : AreaRef) : Type 0 where
    pub place : ℕ
    pub comes : Incoming
    pub at : slice_get taken place ≡ Some a
    pub comes_at : slice_get (incoming change) place ≡ Some comes
    pub of : IsAreaOf w comes a
    pub instance_is : IsInstance comes
    pub serial : a.serial ≡ s.next_serial + place

  pub new_at : (place : ℕ) (a : AreaRef) → slice_get taken place ≡ Some a → IsNew a
  new_at place a at =
      let few = within_get taken place a at in
      let whole = h.whole in
      let found = get_at (incoming change) place (omega (arith, few, whole)) in
      let serial = serial_taken taken rest place a h.placed.taken_are at in
      let next = h.stands.blocks.next in
      record {
        place = place;
        comes = found.0;
        at = at;
        comes_at = found.1;
        of = h.placed.each place found.0 a found.1 at;
        instance_is = comes_instance s change h.fits h.code place found.0 found.1;
        serial = omega (arith, serial, next);
      }

  pub pools_use : (block : ℕ) → use_of pools block ≡ use_of (with_areas taken rest) block
  pools_use block = ap (λ (p : Areas). use_of p block) h.placed.pools_are

  -- a block is used as before, or is new
  pub used_now : (block : ℕ) (u : BlockUse) → use_of pools block ≡ Some u → (use_of rest block ≡ Some u) ⊎ IsTakenAt taken block u
  used_now block u is = used_after taken rest block u h.placed.taken_are (sym (pools_use block) ∙ is)

  still_used : (block : ℕ) (u : BlockUse) → (u ≡ Free → ⊥) → use_of rest block ≡ Some u → use_of pools block ≡ Some u
  still_used block u some is = pools_use block ∙ used_stays taken rest block u h.placed.taken_are some is

  pub new_live : (place : ℕ) (a : AreaRef) → slice_get taken place ≡ Some a → use_of pools a.block ≡ Some (Live a.serial)
  new_live place a at = pools_use a.block ∙ taken_live taken rest place a h.placed.taken_are at

  pub big_block : (a : AreaRef) → IsNew a → IsForInstances a.block
  big_block a new =
      let first = subst (λ (i : Incoming). first_of (pool_of i) ≤ a.block) new.instance_is.is new.of.first in
      let last = subst (λ (i : Incoming). a.block < first_of (pool_of i) + size_of (pool_of i)) new.instance_is.is new.of.last in
      record { first = first; last = omega (arith, last) }

  low_block : (place : ℕ) (a : AreaRef) → slice_get taken place ≡ Some a → a.block < 64
  low_block place a at = (big_block a (new_at place a at)).last

  -- what stands stood, or is new
  pub stood_or_new : (a : AreaRef) → Stands pools a → Stands rest a ⊎ IsNew a
  stood_or_new a stands =
      let found = and_then_some serial_of (use_of pools a.block) a.serial stands in
      elim (used_now a.block found.0 found.1) as (λ _. Stands rest a ⊎ IsNew a) [
        | inl was ↦ inl (serial_here rest a.block found.0 was ∙ found.2)
        | inr taken_at ↦
            let serial : taken_at.area.serial ≡ a.serial = some_same taken_at.area.serial a.serial (sym (ap serial_of taken_at.used) ∙ found.2) in
            let same : taken_at.area ≡ a = λ i. record { serial = serial i; block = sym taken_at.block_is i } in
            inr (new_at taken_at.place a (taken_at.at ∙ ap (λ (x : AreaRef). Some x) same))
      ]

  pub stood_known : (a : AreaRef) → Stands rest a → a.serial < s.next_serial
  stood_known a stands = by (stands_as rest a stands)
    where
      by : StandsAs rest a → a.serial < s.next_serial
      by (live_area is) = used_known s a.serial h.sound (h.stands.blocks.live a.block a.serial is)
      by (retired_area since is) = (h.sound.retired a.serial (h.stands.blocks.retired a.block a.serial since is)).known

  -- ---- pools

  retired_same : (serial : ℕ) → is_retired after serial ≡ is_retired s serial
  retired_same serial = ap (λ (xs : List ℕ). is_serial_in xs serial) (code_after s change h.fits h.code).retired

  released_same : (serial : ℕ) → is_serial_in after.released serial ≡ is_serial_in s.released serial
  released_same serial = ap (λ (xs : List ℕ). is_serial_in xs serial) (code_after s change h.fits h.code).released

  used_new : (serial : ℕ) → s.next_serial ≤ serial → serial < after.next_serial → (block : ℕ) × (use_of pools block ≡ Some (Live serial))
  used_new serial past known =
      let next = next_is in
      let found = get_at taken (serial - s.next_serial) (omega (arith, past, known, next)) in
      let is = serial_taken taken rest (serial - s.next_serial) found.0 h.placed.taken_are found.1 in
      let first = h.stands.blocks.next in
      let even : found.0.serial ≡ serial = omega (arith, is, first, past) in
      (found.0.block, new_live (serial - s.next_serial) found.0 found.1 ∙ ap (λ (n : ℕ). Some (Live n)) even)

  used_block : (serial : ℕ) → IsUsed after serial → (block : ℕ) × (use_of pools block ≡ Some (Live serial))
  used_block serial used =
      elim (used_stood s change serial used) as (λ _. (block : ℕ) × (use_of pools block ≡ Some (Live serial))) [
        | inl stood ↦ let found = h.stands.blocks.used serial stood in (found.0, still_used found.0 (Live serial) (live_some serial) found.1)
        | inr past ↦ used_new serial past (used_known after serial sound_after used)
      ]

  live_used : (block serial : ℕ) → use_of pools block ≡ Some (Live serial) → IsUsed after serial
  live_used block serial is =
      elim (used_now block (Live serial) is) as (λ _. IsUsed after serial) [
        | inl was ↦
            let used = h.stands.blocks.live block serial was in
            elim (used_kept s change serial h.fits used) as (λ _. IsUsed after serial) [
              | inl still ↦ still
              | inr dropped ↦ absurd (true≢false (sym dropped ∙ retired_same serial ∙ used_unretired s h.sound serial used))
            ]
        | inr taken_at ↦
            let new = new_at taken_at.place taken_at.area taken_at.at in
            let serial_is : serial ≡ taken_at.area.serial = live_serial serial taken_at.area.serial taken_at.used in
            subst (IsUsed after) (sym (serial_is ∙ new.serial)) (incoming_used s change new.place new.comes h.fits new.comes_at)
      ]

  waits : (serial : ℕ) → is_retired after serial ≡ true → (block : ℕ) × ((since : ℕ) × (use_of pools block ≡ Some (Retired serial since)))
  waits serial is =
      let found = h.stands.blocks.waiting serial (sym (retired_same serial) ∙ is) in
      (found.0, (found.1.0, still_used found.0 (Retired serial found.1.0) (retired_some serial found.1.0) found.1.1))

  pub was_retired : (block serial since : ℕ) → use_of pools block ≡ Some (Retired serial since) → use_of rest block ≡ Some (Retired serial since)
  was_retired block serial since is =
      elim (used_now block (Retired serial since) is) as (λ _. use_of rest block ≡ Some (Retired serial since)) [
        | inl was ↦ was
        | inr taken_at ↦ absurd (retired_live serial since taken_at.area.serial taken_at.used)
      ]

  unreleased : (block serial : ℕ) → serial_at pools block ≡ Some serial → is_serial_in after.released serial ≡ false
  unreleased block serial is =
      released_same serial ∙ by (stood_or_new (record { serial = serial; block = block }) is)
    where
      by : Stands rest (record { serial = serial; block = block }) ⊎ IsNew (record { serial = serial; block = block }) → is_serial_in s.released serial ≡ false
      by (inl stood) = h.stands.blocks.unreleased block serial stood
      by (inr new) = false_from_ne_true (is_serial_in s.released serial) (λ e. let known = (h.sound.released serial e).known in let past = new.serial in omega (arith, known, past))

  pub blocks_after : PoolsStand after pools
  blocks_after = record {
    next = (let taken_next = next_taken taken rest in let same = ap (λ (p : Areas). p.next) h.placed.pools_are in let first = h.stands.blocks.next in let next = next_is in omega (arith, taken_next, same, first, next));
    used = used_block;
    live = live_used;
    waiting = waits;
    retired = λ block serial since is. retired_same serial ∙ h.stands.blocks.retired block serial since (was_retired block serial since is);
    unreleased = unreleased;
    instances = (let more = big_taken taken rest h.placed.taken_are low_block in let same = ap (λ (p : Areas). live_blocks p.big) h.placed.pools_are in let first = h.stands.blocks.instances in let counted = code_counted s change h.fits h.code in let whole = h.whole in omega (arith, more, same, first, counted, whole));
    terms = ap (λ (p : Areas). live_blocks p.small) h.placed.pools_are ∙ ap live_blocks (small_same taken rest low_block) ∙ h.stands.blocks.terms ∙ sym (ap live_areas (code_after s change h.fits h.code).keys);
  }

  -- what stood stands still
  pub still_stands : (a : AreaRef) → Stands rest a → Stands pools a
  still_stands a stands = by (stands_as rest a stands)
    where
      by : StandsAs rest a → Stands pools a
      by (live_area is) = serial_here pools a.block (Live a.serial) (still_used a.block (Live a.serial) (live_some a.serial) is)
      by (retired_area since is) = serial_here pools a.block (Retired a.serial since) (still_used a.block (Retired a.serial since) (retired_some a.serial since) is)
