-- The pools once a key's area is taken and its former area retired stand for the state that the change leaves.
use Rattle.std.proofs.Common.{◌≡◌, ◌≢◌, ℕ, ◌+◌, ◌<◌, ◌≤◌, ◌⊎◌, inl, inr, true, false, List, length, Option, Some, None, sym, ap, subst, ◌∙◌, arith}
use Rattle.std.specs.Prelude.{slice_get}
use Rattle.std.proofs.lemmas.Bool.{false_from_ne_true, true≢false}
use Rattle.term_core.specs.declared.area.AreaRef.{AreaRef}
use Rattle.term_core.specs.declared.atom.Mfa.{Mfa}
use Rattle.shared_words.specs.declared.view.WriterView.{WriterView}
use Rattle.shared_words.proofs.ShownMembers.{within_get}
use Rattle.server_core.specs.declared.change.Change.{Change}
use Rattle.server_core.specs.Decided.{Fits}
use Rattle.server_core.specs.ServerState.{IsSound, ServerState, is_retired, is_serial_in, live_count}
use Rattle.change_laws.specs.Changes.{Incoming, incoming, changed_state}
use Rattle.change_laws.specs.Images.{incoming_module}
use Rattle.change_laws.specs.Uses.{IsUsed}
use Rattle.change_laws.proofs.Dropped.{used_known}
use Rattle.change_laws.proofs.GivenSerials.{serials_given}
use Rattle.change_laws.proofs.SoundChanges.{change_sound}
use Rattle.literal_areas.specs.declared.areas.Areas.{Areas}
use Rattle.literal_areas.specs.declared.blocks.BlockUse.{BlockUse}
use Rattle.literal_areas.specs.declared.blocks.BlockUse.TheVariants.{Free, Live, Retired}
use Rattle.literal_areas.specs.Blocks.{Stands, serial_at, serial_of, use_of}
use Rattle.literal_areas.specs.Owned.{AreOf}
use Rattle.literal_areas.proofs.Serials.{serial_here}
use Rattle.prgr_core.proofs.Parts.{and_then_some, some_same}
use Rattle.staging.specs.Placed.{ArePlaced, IsAreaOf, with_areas}
use Rattle.staging.specs.Replaced.{former_of}
use Rattle.staging.specs.Stages.{IsKeyChange}
use Rattle.staging.specs.Standing.{PoolsStand, StandFor, live_blocks}
use Rattle.staging.proofs.BlockUses.{live_retired, live_serial, live_some, retired_live, retired_some}
use Rattle.staging.proofs.Counts.{small_taken}
use Rattle.staging.proofs.GivenBack.{get_at}
use Rattle.staging.proofs.KeyLists.{once_stand}
use Rattle.staging.proofs.KeyPools.{Retires, big_same}
use Rattle.staging.proofs.KeyAfter.{IsKeyAfter, came_count, key_after, key_came, key_comes}
use Rattle.staging.proofs.KeyStates.{Rekeys, came_with, rekeys}
use Rattle.staging.proofs.KeyWords.{RetiresWords}
use Rattle.staging.proofs.NextAreas.{StandsAs, live_area, retired_area, stands_as}
use Rattle.staging.proofs.NextReads.{used_unretired}
use Rattle.staging.proofs.StagedKey.{stands_with}
use Rattle.staging.proofs.Taken.{next_taken, taken_live}
use Rattle.staging.proofs.TakenUses.{IsTakenAt, serial_taken, used_after, used_stays}

-- what is known when all stands ready: v are the words and before the pools before the former area was retired
pub record IsReady (names : List Mfa) (s : ServerState) (change : Change) (v w : WriterView) (rest before pools : Areas) (taken : List AreaRef) : Type 0 where
  pub sound : IsSound s
  pub fits : Fits s change
  pub key : IsKeyChange change
  pub stands : StandFor names s rest v
  pub placed : ArePlaced (incoming change) rest before v taken
  pub whole : length taken ≡ length (incoming change)
  pub retires : Retires (former_of s change) (length v.published) before pools
  pub words : RetiresWords before pools v w
  pub some : 0 < length v.published
  pub owned : AreOf pools w

module _ (names : List Mfa) (s : ServerState) (change : Change) (v w : WriterView) (rest before pools : Areas) (taken : List AreaRef) (h : IsReady names s change v w rest before pools taken) where
  abbrev after : ServerState
  after = changed_state s change

  abbrev former : Option ℕ
  former = former_of s change

  pub sound_after : IsSound after
  sound_after = change_sound s change h.sound h.fits

  pub next_is : after.next_serial ≡ s.next_serial + length taken
  next_is = (let given = serials_given s change in let whole = h.whole in omega (arith, given, whole))

  pub uses : Rekeys s after former (came_with s change)
  uses = rekeys s change (once_stand s.keys h.stands.keys_once) h.key

  pub keyed : IsKeyAfter names s after
  keyed = key_after names s change h.key

  -- what is used is not the former area
  used_apart : (serial : ℕ) → IsUsed after serial → former ≢ Some serial
  used_apart serial used is = true≢false (sym (uses.gone serial is) ∙ used_unretired after sound_after serial used)

  -- ---- the areas that came in

  -- one of them
  pub record IsNew (a : AreaRef) : Type 0 where
    pub place : ℕ
    pub comes : Incoming
    pub at : slice_get taken place ≡ Some a
    pub comes_at : slice_get (incoming change) place ≡ Some comes
    pub of : IsAreaOf v comes a
    pub serial : a.serial ≡ s.next_serial + place
    pub small : 64 ≤ a.block
    pub no_code : incoming_module comes ≡ None
    pub came : came_with s change ≡ Some a.serial

  pub new_at : (place : ℕ) (a : AreaRef) → slice_get taken place ≡ Some a → IsNew a
  new_at place a at =
      let few = within_get taken place a at in
      let whole = h.whole in
      let found = get_at (incoming change) place (omega (arith, few, whole)) in
      let serial = serial_taken taken rest place a h.placed.taken_are at in
      let next = h.stands.blocks.next in
      let of = h.placed.each place found.0 a found.1 at in
      let is : a.serial ≡ s.next_serial + place = omega (arith, serial, next) in
      let known = key_comes s change h.key place found.0 found.1 in
      record { place = place; comes = found.0; at = at; comes_at = found.1; of = of; serial = is; small = known.small v a of; no_code = known.no_code; came = known.came ∙ ap Some (sym is) }

  pub pools_use : (block : ℕ) → use_of before block ≡ use_of (with_areas taken rest) block
  pools_use block = ap (λ (p : Areas). use_of p block) h.placed.pools_are

  -- a block is used as before, or is new
  pub used_now : (block : ℕ) (u : BlockUse) → use_of before block ≡ Some u → (use_of rest block ≡ Some u) ⊎ IsTakenAt taken block u
  used_now block u is = used_after taken rest block u h.placed.taken_are (sym (pools_use block) ∙ is)

  still_used : (block : ℕ) (u : BlockUse) → (u ≡ Free → ⊥) → use_of rest block ≡ Some u → use_of before block ≡ Some u
  still_used block u some is = pools_use block ∙ used_stays taken rest block u h.placed.taken_are some is

  pub new_live : (place : ℕ) (a : AreaRef) → slice_get taken place ≡ Some a → use_of before a.block ≡ Some (Live a.serial)
  new_live place a at = pools_use a.block ∙ taken_live taken rest place a h.placed.taken_are at

  pub high_block : (place : ℕ) (a : AreaRef) → slice_get taken place ≡ Some a → 64 ≤ a.block
  high_block place a at = (new_at place a at).small

  -- what stands stood, or is new
  stood_before : (a : AreaRef) → Stands before a → Stands rest a ⊎ IsNew a
  stood_before a stands =
      let found = and_then_some serial_of (use_of before a.block) a.serial stands in
      elim (used_now a.block found.0 found.1) as (λ _. Stands rest a ⊎ IsNew a) [
        | inl was ↦ inl (serial_here rest a.block found.0 was ∙ found.2)
        | inr taken_at ↦
            let serial : taken_at.area.serial ≡ a.serial = some_same taken_at.area.serial a.serial (sym (ap serial_of taken_at.used) ∙ found.2) in
            let one : taken_at.area ≡ a = λ i. record { serial = serial i; block = sym taken_at.block_is i } in
            inr (new_at taken_at.place a (taken_at.at ∙ ap (λ (x : AreaRef). Some x) one))
      ]

  stood_use : (a : AreaRef) (used : BlockUse) → serial_of used ≡ Some a.serial → (use_of before a.block ≡ Some used) ⊎ ((serial : ℕ) × (former ≡ Some serial) × (use_of before a.block ≡ Some (Live serial)) × (used ≡ Retired serial (length v.published))) → Stands before a
  stood_use a used is (inl was) = serial_here before a.block used was ∙ is
  stood_use a used is (inr gone) = serial_here before a.block (Live gone.0) gone.2 ∙ sym (ap serial_of gone.3) ∙ is

  pub stood_or_new : (a : AreaRef) → Stands pools a → Stands rest a ⊎ IsNew a
  stood_or_new a stands =
      let found = and_then_some serial_of (use_of pools a.block) a.serial stands in
      stood_before a (stood_use a found.0 found.2 (h.retires.before a.block found.0 found.1))

  -- what stood stands still
  pub stood_stands : (a : AreaRef) → Stands rest a → Stands pools a
  stood_stands a stood = h.retires.stands a.block a.serial (subst (λ (x : Areas). serial_at x a.block ≡ Some a.serial) (sym h.placed.pools_are) (stands_with taken rest a.block a.serial h.placed.taken_are stood))

  pub stood_known : (a : AreaRef) → Stands rest a → a.serial < s.next_serial
  stood_known a stands = by (stands_as rest a stands)
    where
      by : StandsAs rest a → a.serial < s.next_serial
      by (live_area is) = used_known s a.serial h.sound (h.stands.blocks.live a.block a.serial is)
      by (retired_area since is) = (h.sound.retired a.serial (h.stands.blocks.retired a.block a.serial since is)).known

  -- ---- pools

  -- what is live is live there still, if it is used
  pub lives_on : (block serial : ℕ) → IsUsed after serial → use_of before block ≡ Some (Live serial) → use_of pools block ≡ Some (Live serial)
  lives_on block serial used is = h.retires.stays block (Live serial) is (λ n one. subst (λ (x : ℕ). former ≢ Some x) (live_serial serial n one) (used_apart serial used))

  used_block : (serial : ℕ) → IsUsed after serial → (block : ℕ) × (use_of pools block ≡ Some (Live serial))
  used_block serial used =
      elim (uses.used serial used) as (λ _. (block : ℕ) × (use_of pools block ≡ Some (Live serial))) [
        | inl stood ↦ let found = h.stands.blocks.used serial stood in (found.0, lives_on found.0 serial used (still_used found.0 (Live serial) (live_some serial) found.1))
        | inr came ↦
            let first = (key_came s change h.key serial came) in
            let whole = h.whole in
            let count = first.1 in
            let found = get_at taken 0 (omega (arith, whole, count)) in
            let serial_is = serial_taken taken rest 0 found.0 h.placed.taken_are found.1 in
            let next = h.stands.blocks.next in
            let is = first.0 in
            let even : found.0.serial ≡ serial = omega (arith, serial_is, next, is) in
            (found.0.block, lives_on found.0.block serial used (new_live 0 found.0 found.1 ∙ ap (λ (n : ℕ). Some (Live n)) even))
      ]

  pub live_before : (block serial : ℕ) → use_of pools block ≡ Some (Live serial) → use_of before block ≡ Some (Live serial)
  live_before block serial is = by (h.retires.before block (Live serial) is)
    where
      by : (use_of before block ≡ Some (Live serial)) ⊎ ((n : ℕ) × (former ≡ Some n) × (use_of before block ≡ Some (Live n)) × (Live serial ≡ Retired n (length v.published))) → use_of before block ≡ Some (Live serial)
      by (inl was) = was
      by (inr gone) = absurd (live_retired serial gone.0 (length v.published) gone.3)

  live_used : (block serial : ℕ) → use_of pools block ≡ Some (Live serial) → IsUsed after serial
  live_used block serial is =
      elim (used_now block (Live serial) (live_before block serial is)) as (λ _. IsUsed after serial) [
        | inl was ↦ uses.stays serial (h.stands.blocks.live block serial was) (h.retires.gone block serial is)
        | inr taken_at ↦
            let new = new_at taken_at.place taken_at.area taken_at.at in
            uses.comes serial (new.came ∙ ap Some (sym (live_serial serial taken_at.area.serial taken_at.used)))
      ]

  waits : (serial : ℕ) → is_retired after serial ≡ true → (block : ℕ) × ((since : ℕ) × (use_of pools block ≡ Some (Retired serial since)))
  waits serial is =
      elim (uses.retired serial is) as (λ _. (block : ℕ) × ((since : ℕ) × (use_of pools block ≡ Some (Retired serial since)))) [
        | inl was ↦
            let found = h.stands.blocks.waiting serial was in
            (found.0, (found.1.0, h.retires.stays found.0 (Retired serial found.1.0) (still_used found.0 (Retired serial found.1.0) (retired_some serial found.1.0) found.1.1) (λ n e. absurd (retired_live serial found.1.0 n e))))
        | inr gone ↦ let found = h.retires.retired serial gone in (found.0, (length v.published, found.1))
      ]

  -- a retired block was so, or is that of the former area
  pub was_retired : (block serial since : ℕ) → use_of pools block ≡ Some (Retired serial since) → (use_of rest block ≡ Some (Retired serial since)) ⊎ ((former ≡ Some serial) × (since ≡ length v.published))
  was_retired block serial since is = by (h.retires.before block (Retired serial since) is)
    where
      parts : (n m k l : ℕ) → Retired n m ≡ Retired k l → (n ≡ k) × (m ≡ l)
      parts n m k l e = ((cc), (cc))

      by : (use_of before block ≡ Some (Retired serial since)) ⊎ ((n : ℕ) × (former ≡ Some n) × (use_of before block ≡ Some (Live n)) × (Retired serial since ≡ Retired n (length v.published))) → (use_of rest block ≡ Some (Retired serial since)) ⊎ ((former ≡ Some serial) × (since ≡ length v.published))
      by (inl was) =
          elim (used_now block (Retired serial since) was) as (λ _. (use_of rest block ≡ Some (Retired serial since)) ⊎ ((former ≡ Some serial) × (since ≡ length v.published))) [
            | inl stood ↦ inl stood
            | inr taken_at ↦ absurd (retired_live serial since taken_at.area.serial taken_at.used)
          ]
      by (inr gone) = let two = parts serial since gone.0 (length v.published) gone.3 in inr (gone.1 ∙ ap Some (sym two.0), two.1)

  retired_now : (block serial since : ℕ) → use_of pools block ≡ Some (Retired serial since) → is_retired after serial ≡ true
  retired_now block serial since is =
      elim (was_retired block serial since is) as (λ _. is_retired after serial ≡ true) [
        | inl was ↦ uses.still serial (h.stands.blocks.retired block serial since was)
        | inr gone ↦ uses.gone serial gone.0
      ]

  unreleased : (block serial : ℕ) → serial_at pools block ≡ Some serial → is_serial_in after.released serial ≡ false
  unreleased block serial is =
      ap (λ (xs : List ℕ). is_serial_in xs serial) keyed.released ∙ by (stood_or_new (record { serial = serial; block = block }) is)
    where
      by : Stands rest (record { serial = serial; block = block }) ⊎ IsNew (record { serial = serial; block = block }) → is_serial_in s.released serial ≡ false
      by (inl stood) = h.stands.blocks.unreleased block serial stood
      by (inr new) = false_from_ne_true (is_serial_in s.released serial) (λ e. let known = (h.sound.released serial e).known in let past = new.serial in omega (arith, known, past))

  pub blocks_after : PoolsStand after pools
  blocks_after = record {
    next = (let gone = h.retires.next in let more = next_taken taken rest in let pools_next = ap (λ (p : Areas). p.next) h.placed.pools_are in let first = h.stands.blocks.next in let next = next_is in omega (arith, gone, more, pools_next, first, next));
    used = used_block;
    live = live_used;
    waiting = waits;
    retired = retired_now;
    unreleased = unreleased;
    instances = h.retires.big ∙ ap (λ (p : Areas). live_blocks p.big) h.placed.pools_are ∙ ap live_blocks (big_same taken rest high_block) ∙ h.stands.blocks.instances ∙ sym (ap live_count keyed.versions);
    terms = (let gone = h.retires.small in let more = small_taken taken rest h.placed.taken_are high_block in let pools_small = ap (λ (p : Areas). live_blocks p.small) h.placed.pools_are in let first = h.stands.blocks.terms in let areas = uses.areas in let whole = h.whole in let came = came_count s change h.key in omega (arith, gone, more, pools_small, first, areas, whole, came));
  }
