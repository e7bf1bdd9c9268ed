-- Old code is dropped: its retire word is stored before the root, and the words then stand for the state that has dropped it.
use Rattle.std.proofs.Common.{◌≡◌, ◌≢◌, ℕ, ◌+◌, ◌-◌, ◌<◌, ◌≤◌, ◌⊎◌, inl, inr, Bool, true, List, length, Some, refl, sym, ap, subst, ◌∙◌, arith}
use Rattle.std.proofs.lemmas.Bool.{lt-ltb, true≢false}
use Rattle.prgr_core.proofs.Parts.{and_then_some, some_same}
use Rattle.term_core.specs.declared.area.AreaRef.{AreaRef}
use Rattle.term_core.specs.declared.atom.AtomId.{AtomId}
use Rattle.term_core.specs.declared.atom.Mfa.{Mfa}
use Rattle.area_core.specs.Blocks.{IsForInstances}
use Rattle.area_core.specs.Map.{doom_place, retire_place, word_at}
use Rattle.shared_words.specs.declared.view.WriterView.{WriterView}
use Rattle.shared_words.proofs.ShownMembers.{within_get}
use Rattle.shared_words.specs.Publishing.{with_word}
use Rattle.progress_words.specs.Roots.{newest_of}
use Rattle.server_core.specs.declared.slots.RetiredRoom.{RetiredRoom}
use Rattle.server_core.specs.declared.change.Change.TheVariants.{DropOld}
use Rattle.server_core.specs.Decided.{Fits}
use Rattle.server_core.specs.ServerState.{IsSound, ServerState, code_of, is_doomed, is_retired}
use Rattle.change_laws.specs.Changes.{changed_state}
use Rattle.change_laws.specs.Uses.{IsUsed}
use Rattle.literal_areas.specs.declared.areas.Areas.{Areas}
use Rattle.literal_areas.specs.declared.blocks.BlockUse.{BlockUse}
use Rattle.literal_areas.specs.declared.blocks.BlockUse.TheVariants.{Free, Live, Retired}
use Rattle.literal_areas.specs.Blocks as blocks
use Rattle.literal_areas.specs.Blocks.{IsLive, Stands, serial_at, serial_of, use_of, with_retired}
use Rattle.literal_areas.specs.Owned.{AreOf}
use Rattle.literal_areas.proofs.Serials.{retired_serial, serial_here}
use Rattle.literal_areas.proofs.Uses.{use_big, use_here}
use Rattle.staging.specs.Replaced.{HasRetired}
use Rattle.staging.specs.Standing.{AreasPlaced, DoomStands, IsSince, PoolsStand, StandFor, StaysDropped, WordsTell, live_blocks}
use Rattle.staging.proofs.BlockUses.{free_retired, live_retired, live_serial, retired_live}
use Rattle.staging.proofs.Coming.{HasImage}
use Rattle.staging.proofs.Follows.{alike_dropped, live_used, newest_lives}
use Rattle.staging.proofs.KeyPools.{before_now, gone_now, live_set, stays_now}
use Rattle.staging.proofs.KeyWords.{RetiresWords, words_area}
use Rattle.staging.proofs.NextReads.{old_module, used_unretired}
use Rattle.staging.proofs.PurgeStates.{IsPurged, purged}
use Rattle.staging.proofs.Renewals.{IsRenewed}

-- ---- the pools

-- what the pools say of each block once an instance is retired
pub record RetiresInstance (serial since : ℕ) (old new : Areas) : Type 0 where
  pub next : new.next ≡ old.next
  pub before : (block : ℕ) (u : BlockUse) → use_of new block ≡ Some u → (use_of old block ≡ Some u) ⊎ ((use_of old block ≡ Some (Live serial)) × (u ≡ Retired serial since))
  pub stays : (block : ℕ) (u : BlockUse) → use_of old block ≡ Some u → (u ≡ Live serial → ⊥) → use_of new block ≡ Some u
  pub gone : (block : ℕ) → use_of new block ≡ Some (Live serial) → ⊥
  pub block : ℕ
  pub here : use_of new block ≡ Some (Retired serial since)
  pub stands : (block n : ℕ) → serial_at old block ≡ Some n → serial_at new block ≡ Some n
  pub big : live_blocks new.big + 1 ≡ live_blocks old.big
  pub small : live_blocks new.small ≡ live_blocks old.small

module _ (old : Areas) (sound : blocks.IsSound old) (area : AreaRef) (since : ℕ) (live : IsLive old area) (first : 9 ≤ area.block) (last : area.block < 64) where
  abbrev new : Areas
  new = with_retired area since old

  before : (block : ℕ) (u : BlockUse) → use_of new block ≡ Some u → (use_of old block ≡ Some u) ⊎ ((use_of old block ≡ Some (Live area.serial)) × (u ≡ Retired area.serial since))
  before block u is = by (before_now old sound area since live block u is)
    where
      by : (use_of old block ≡ Some u) ⊎ ((n : ℕ) × (Some area.serial ≡ Some n) × (use_of old block ≡ Some (Live n)) × (u ≡ Retired n since)) → (use_of old block ≡ Some u) ⊎ ((use_of old block ≡ Some (Live area.serial)) × (u ≡ Retired area.serial since))
      by (inl was) = inl was
      by (inr gone) = let same = some_same area.serial gone.0 gone.1 in inr (subst (λ (n : ℕ). (use_of old block ≡ Some (Live n)) × (u ≡ Retired n since)) (sym same) (gone.2, gone.3))

  retires_instance : RetiresInstance area.serial since old new
  retires_instance = record {
    next = refl;
    before = before;
    stays = λ block u was differ. stays_now old sound area since live block u was (λ n is same. differ (is ∙ ap (λ (k : ℕ). Live k) (sym (some_same area.serial n same))));
    gone = λ block is. gone_now old sound area since live block area.serial is refl;
    block = area.block;
    here = use_here old area.block (Live area.serial) (Retired area.serial since) live;
    stands = λ block n was. retired_serial old sound area since live block n was;
    big = rw (lt-ltb area.block 64 last) (live_set old.big (area.block - 9) area.serial since (sym (use_big old area.block first last) ∙ live));
    small = rw (lt-ltb area.block 64 last) refl;
  }

-- ---- the state

module _ (names : List Mfa) (s : ServerState) (generation : ℕ) (name : AtomId) (serial : ℕ) (says : Bool) (block : RetiredRoom) (v : WriterView) (words : List ℕ) (rest pools : Areas) (is : IsPurged names s (changed_state s (DropOld generation name serial says block)) serial)
    (stands : StandFor names s rest v) (retires : RetiresInstance serial (length v.published) rest pools) (told : RetiresWords rest pools v (record v { words = words })) (some : 0 < length v.published) (owned : AreOf pools (record v { words = words })) where
  abbrev after : ServerState
  after = changed_state s (DropOld generation name serial says block)

  abbrev now : WriterView
  now = record v { words = words }

  used_differ : (n : ℕ) → IsUsed after n → n ≢ serial
  used_differ n used same = true≢false (sym is.gone ∙ ap (is_retired after) (sym same) ∙ used_unretired after is.sound n used)

  live_differ : (b n : ℕ) → use_of pools b ≡ Some (Live n) → n ≢ serial
  live_differ b n at same = retires.gone b (at ∙ ap (λ (k : ℕ). Some (Live k)) same)

  live_before : (b n : ℕ) → use_of pools b ≡ Some (Live n) → use_of rest b ≡ Some (Live n)
  live_before b n at = by (retires.before b (Live n) at)
    where
      by : (use_of rest b ≡ Some (Live n)) ⊎ ((use_of rest b ≡ Some (Live serial)) × (Live n ≡ Retired serial (length v.published))) → use_of rest b ≡ Some (Live n)
      by (inl was) = was
      by (inr gone) = absurd (live_retired n serial (length v.published) gone.1)

  free_before : (b : ℕ) → use_of pools b ≡ Some Free → use_of rest b ≡ Some Free
  free_before b at = by (retires.before b Free at)
    where
      by : (use_of rest b ≡ Some Free) ⊎ ((use_of rest b ≡ Some (Live serial)) × (Free ≡ Retired serial (length v.published))) → use_of rest b ≡ Some Free
      by (inl was) = was
      by (inr gone) = absurd (free_retired serial (length v.published) gone.1)

  -- a retired block was so, or is that of what is dropped
  retired_before : (b n since : ℕ) → use_of pools b ≡ Some (Retired n since) → (use_of rest b ≡ Some (Retired n since)) ⊎ ((n ≡ serial) × (since ≡ length v.published))
  retired_before b n since at = by (retires.before b (Retired n since) at)
    where
      parts : (x y k l : ℕ) → Retired x y ≡ Retired k l → (x ≡ k) × (y ≡ l)
      parts x y k l e = ((cc), (cc))

      by : (use_of rest b ≡ Some (Retired n since)) ⊎ ((use_of rest b ≡ Some (Live serial)) × (Retired n since ≡ Retired serial (length v.published))) → (use_of rest b ≡ Some (Retired n since)) ⊎ ((n ≡ serial) × (since ≡ length v.published))
      by (inl was) = inl was
      by (inr gone) = inr (parts n since serial (length v.published) gone.1)

  -- what stands stood
  stood : (b n : ℕ) → serial_at pools b ≡ Some n → serial_at rest b ≡ Some n
  stood b n at = let found = and_then_some serial_of (use_of pools b) n at in by found.0 found.2 (retires.before b found.0 found.1)
    where
      by : (u : BlockUse) → serial_of u ≡ Some n → (use_of rest b ≡ Some u) ⊎ ((use_of rest b ≡ Some (Live serial)) × (u ≡ Retired serial (length v.published))) → serial_at rest b ≡ Some n
      by u of (inl was) = serial_here rest b u was ∙ of
      by u of (inr gone) = serial_here rest b (Live serial) gone.0 ∙ sym (ap serial_of gone.1) ∙ of

  waits : (n : ℕ) → is_retired after n ≡ true → (b : ℕ) × ((since : ℕ) × (use_of pools b ≡ Some (Retired n since)))
  waits n e = by (is.retired n e)
    where
      by : (is_retired s n ≡ true) ⊎ (serial ≡ n) → (b : ℕ) × ((since : ℕ) × (use_of pools b ≡ Some (Retired n since)))
      by (inl was) = let found = stands.blocks.waiting n was in (found.0, (found.1.0, retires.stays found.0 (Retired n found.1.0) found.1.1 (λ same. retired_live n found.1.0 serial same)))
      by (inr same) = (retires.block, (length v.published, retires.here ∙ ap (λ (k : ℕ). Some (Retired k (length v.published))) same))

  retired_now : (b n since : ℕ) → use_of pools b ≡ Some (Retired n since) → is_retired after n ≡ true
  retired_now b n since at = by (retired_before b n since at)
    where
      by : (use_of rest b ≡ Some (Retired n since)) ⊎ ((n ≡ serial) × (since ≡ length v.published)) → is_retired after n ≡ true
      by (inl was) = is.still n (stands.blocks.retired b n since was)
      by (inr gone) = ap (is_retired after) gone.0 ∙ is.gone

  blocks_after : PoolsStand after pools
  blocks_after = record {
    next = retires.next ∙ stands.blocks.next;
    used = λ n used. let found = stands.blocks.used n (is.used n used) in (found.0, retires.stays found.0 (Live n) found.1 (λ same. used_differ n used (live_serial n serial same)));
    live = λ b n at. is.stays n (stands.blocks.live b n (live_before b n at)) (live_differ b n at);
    waiting = waits;
    retired = retired_now;
    unreleased = λ b n at. stands.blocks.unreleased b n (stood b n at);
    instances = (let less = retires.big in let were = stands.blocks.instances in let count = is.count in omega (arith, less, were, count));
    terms = retires.small ∙ stands.blocks.terms;
  }

  placed_after : AreasPlaced after pools
  placed_after = record { instances = λ a m there code. stands.placed.instances a m (stood a.block a.serial there) code; terms = λ a there code. stands.placed.terms a (stood a.block a.serial there) code }

  image_after : (a : AreaRef) → Stands pools a → HasImage after pools now a
  image_after a there =
      let kept = stands.images.areas a (stood a.block a.serial there) in
      record { words = kept.0; of = stands.images.images (record { area = a; words = kept.0 }) kept.1; stands = inl kept.1 }

  doom_word : (b : ℕ) → word_at words (doom_place b) ≡ word_at v.words (doom_place b)
  doom_word b = told.others (doom_place b) (λ k few same. omega (arith, few, same))

  since_after : (b n since : ℕ) → use_of pools b ≡ Some (Retired n since) → IsSince v.published b n since
  since_after b n since at = by (retired_before b n since at)
    where
      by : (use_of rest b ≡ Some (Retired n since)) ⊎ ((n ≡ serial) × (since ≡ length v.published)) → IsSince v.published b n since
      by (inl was) = stands.words.since b n since was
      by (inr gone) =
          let here = gone.1 in
          (omega (arith, here, some), omega (arith, here), λ g p there retired. absurd ((stands.dropped.retired p n (g, there) retired).1 (subst (IsUsed s) (sym gone.0) (inr (inl is.old)))), λ g p there past. absurd (let within = within_get v.published g p there in omega (arith, here, past, within)))

  doom_after : (b n : ℕ) → b < 64 → use_of pools b ≡ Some (Live n) → DoomStands after n (length v.published) (word_at words (doom_place b))
  doom_after b n low at =
      let was = stands.words.doom b n low (live_before b n at) in
      record { clear = λ no. doom_word b ∙ was.clear (is.undoomed n (live_differ b n at)); set = λ yes. absurd (true≢false (sym yes ∙ is.doomed n)) }

  words_after : WordsTell after pools now
  words_after = record {
    retire = λ b few. told.retire b (stands.words.retire b few);
    since = since_after;
    free = λ b low at. doom_word b ∙ stands.words.free b low (free_before b at);
    doom = doom_after;
  }

  dropped_after : StaysDropped after v.published
  dropped_after = record {
    old = λ p n at had. let was = stands.dropped.old p n at had in (was.0, λ k current. was.1 k (sym (is.current k) ∙ current));
    doomed = λ p n at had. let was = stands.dropped.doomed p n at had in (was.0, inr (never n was.1));
    retired = λ p n at had. let was = stands.dropped.retired p n at had in (was.0, λ used. was.1 (is.used n used));
    old_stays = stands.dropped.old_stays;
    retired_stays = stands.dropped.retired_stays;
  }
    where
      never : (n : ℕ) → (is_doomed s n ≡ true) ⊎ (IsUsed s n → ⊥) → IsUsed after n → ⊥
      never n (inl doomed) used = true≢false (sym doomed ∙ is.undoomed n (used_differ n used))
      never n (inr none) used = none (is.used n used)

  renewed_after : IsRenewed names s after pools now
  renewed_after = record {
    comes = record {
      sound = is.sound;
      numbered = is.numbered stands.numbered;
      keys_once = stands.keys_once;
      narrow = stands.narrow;
      owned = owned;
      blocks = blocks_after;
      placed = placed_after;
      images = image_after;
      kept = stands.images.images;
      apart = stands.images.apart;
      words = words_after;
      dropped = dropped_after;
      bp = stands.bp;
      knows = is.knows stands.knows;
      stay = stands.stay;
      lives = λ k at live. newest_lives names s (newest_of v) stands.newest_is k.area.serial (is.lives k.area.serial live);
    };
    alike = alike_dropped names s generation name serial says block now stands.newest_is (λ n live. used_differ n (live_used after n live));
    shown = stands.newest_is;
    once = stands.keys_once;
    calls = is.calls;
    keys = refl;
    listed = λ a among used. retires.stands a.block a.serial (stands.listed a among used);
    stood = λ a there. stands.images.areas a (stood a.block a.serial there);
  }

-- so the state that has dropped it may be published over the blocks of the newest generation
module _ (names : List Mfa) (s : ServerState) (generation : ℕ) (name : AtomId) (serial : ℕ) (says : Bool) (block : RetiredRoom) (rest pools : Areas) (before after : WriterView) (sound : IsSound s) (fits : Fits s (DropOld generation name serial says block)) (stands : StandFor names s rest before) (was : AreOf rest before)
    (d : HasRetired serial rest before pools after) where
  abbrev t : ServerState
  t = changed_state s (DropOld generation name serial says block)

  abbrev dropped : Areas
  dropped = with_retired d.area (length before.published) rest

  abbrev stored : WriterView
  stored = with_word (retire_place d.area.block) (length before.published) before

  is : IsPurged names s t serial
  is = purged names s generation name serial says block sound fits

  for_instances : IsForInstances d.area.block
  for_instances =
      let of = old_module s sound is.old.0 serial is.old.1 in
      stands.placed.instances d.area of.0 (serial_here rest d.area.block (Live d.area.serial) d.live) (ap (code_of s) d.serial_is ∙ of.1)

  retired : RetiresInstance serial (length before.published) rest dropped
  retired = subst (λ (n : ℕ). RetiresInstance n (length before.published) rest dropped) d.serial_is (retires_instance rest was.sound d.area (length before.published) d.live for_instances.first for_instances.last)

  pub purge_renewed : 0 < length before.published → AreOf pools after → IsRenewed names s t pools after
  purge_renewed some owned =
      subst (λ (z : Areas × WriterView). IsRenewed names s t z.0 z.1) (λ i. (sym d.pools i, sym view i))
      (renewed_after names s generation name serial says block before stored.words rest dropped is stands retired (subst (RetiresWords rest dropped before) told.same told) some (subst (λ (z : Areas × WriterView). AreOf z.0 z.1) (λ i. (d.pools i, view i)) owned))
    where
      told : RetiresWords rest dropped before stored
      told = words_area rest before d.area (length before.published) d.live was.sound.sizes was.all some

      view : after ≡ record before { words = stored.words }
      view = d.stored ∙ told.same
