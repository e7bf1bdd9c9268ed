-- An area is released: the words stand for the state that has released it, with its block free.
use Rattle.std.proofs.Common.{◌≡◌, ◌≢◌, ℕ, zero, suc, ◌-◌, ◌<◌, ◌⊎◌, inl, inr, Bool, true, false, not, ◌&&◌, List, [], ◌∷◌, length, Some, refl, sym, ap, subst, ◌∙◌, arith}
use Rattle.std.specs.Prelude.{◌==◌, nat_eq, slice_get, slice_set}
use Rattle.std.proofs.lemmas.Bool.{and_from, cases_eq, cases_lt, false_from_ne_true, le-ltb, lt-ltb, true≢false}
use Rattle.std.proofs.lemmas.Bool.Decides.{nat_tests}
use Rattle.std.proofs.lemmas.Option.{none-some}
use Rattle.prgr_core.proofs.Parts.{some_same}
use Rattle.term_core.specs.declared.area.AreaRef.{AreaRef}
use Rattle.term_core.specs.declared.atom.Mfa.{Mfa}
use Rattle.area_core.specs.declared.table.KeptArea.{KeptArea}
use Rattle.area_core.specs.Map.{doom_place, retire_place, word_at}
use Rattle.marks.specs.declared.kept.WriterKept.{WriterKept}
use Rattle.shared_words.specs.declared.view.WriterView.{WriterView}
use Rattle.progress_words.specs.Roots.{newest_of}
use Rattle.server_core.specs.CommandTable.{with_released}
use Rattle.server_core.specs.ServerState.{ServerState, is_retired, is_serial_in}
use Rattle.server_core.proofs.Soundness.{held_before, held_without}
use Rattle.change_laws.specs.Uses.{IsUsed}
use Rattle.change_laws.proofs.KnownCode.{knows_released}
use Rattle.change_laws.proofs.NotForgotten.{kept_pushed}
use Rattle.literal_areas.specs.declared.areas.Areas.{Areas}
use Rattle.literal_areas.specs.declared.blocks.BlockUse.{BlockUse}
use Rattle.literal_areas.specs.declared.blocks.BlockUse.TheVariants.{Free, Live, Retired}
use Rattle.literal_areas.specs.Blocks.{serial_at, use_of, without_area}
use Rattle.literal_areas.proofs.Serials.{serial_after, serial_here, serial_other, use_after}
use Rattle.literal_areas.proofs.Uses.{use_big, use_here, use_other, use_small, use_there}
use Rattle.staging.specs.Standing.{AreasPlaced, DoomStands, ImagesKept, IsShownBy, PoolsStand, StandFor, StaysDropped, WordsTell, live_blocks, retire_word_of}
use Rattle.staging.proofs.BlockUses.{live_retired, live_some, retired_some}
use Rattle.staging.proofs.NextReads.{any_either, one_is}
use Rattle.staging.proofs.ReleasedWords.{KeepsOthers, ReleasesWords}

-- ---- blocks

live_freed : (uses : List BlockUse) (k n since : ℕ) → slice_get uses k ≡ Some (Retired n since) → live_blocks (slice_set uses k Free) ≡ live_blocks uses
live_freed [] k n since e = absurd (cc)
live_freed (Free ∷ uses) zero n since e = absurd (cc)
live_freed (Live serial ∷ uses) zero n since e = absurd (cc)
live_freed (Retired serial first ∷ uses) zero n since e = refl
live_freed (used ∷ uses) (suc k) n since e = let behind = live_freed uses k n since e in omega (arith, behind)

module _ (names : List Mfa) (s : ServerState) (serial : ℕ) (pools : Areas) (area : AreaRef) (since : ℕ) (is : area.serial ≡ serial) (at : use_of pools area.block ≡ Some (Retired serial since)) (apart : (a b n : ℕ) → serial_at pools a ≡ Some n → serial_at pools b ≡ Some n → a ≡ b) where
  abbrev after : ServerState
  after = with_released s serial

  abbrev freed : Areas
  freed = without_area area pools

  -- what stands elsewhere stands still, and what stands stood elsewhere
  still : (b : ℕ) (u : BlockUse) → (b ≡ area.block → ⊥) → use_of pools b ≡ Some u → use_of freed b ≡ Some u
  still b u differ was = use_other pools area.block b (Retired serial since) Free at differ ∙ was

  was : (b : ℕ) (u : BlockUse) → (u ≡ Free → ⊥) → use_of freed b ≡ Some u → (b ≡ area.block → ⊥) × (use_of pools b ≡ Some u)
  was b u some now =
      elim (use_after pools area.block b (Retired serial since) Free u at now) as (λ _. (b ≡ area.block → ⊥) × (use_of pools b ≡ Some u)) [
        | inl here ↦ absurd (some here.1)
        | inr other ↦ other
      ]

  stood : (b n : ℕ) → serial_at freed b ≡ Some n → (b ≡ area.block → ⊥) × (serial_at pools b ≡ Some n)
  stood b n now =
      elim (serial_after pools area.block b (Retired serial since) Free n at now) as (λ _. (b ≡ area.block → ⊥) × (serial_at pools b ≡ Some n)) [
        | inl here ↦ absurd (none-some n here.1)
        | inr other ↦ other
      ]

  here_serial : serial_at pools area.block ≡ Some serial
  here_serial = serial_here pools area.block (Retired serial since) at

  -- another block has another serial
  other_serial : (b n : ℕ) → (b ≡ area.block → ⊥) → serial_at pools b ≡ Some n → n ≢ serial
  other_serial b n differ there same = differ (apart b area.block serial (there ∙ ap Some same) here_serial)

  pub other_block : (b n : ℕ) → n ≢ serial → serial_at pools b ≡ Some n → b ≡ area.block → ⊥
  other_block b n differ there same = differ (some_same n serial (sym there ∙ ap (serial_at pools) same ∙ here_serial))

  module _ (v : WriterView) (words : List ℕ) (kept : List KeptArea) (looks : WriterKept) (stands : StandFor names s pools v) where
    abbrev now : WriterView
    now = record v { words = words; kept = kept; looks = looks }

    -- ---- the state

    pub used_differ : (n : ℕ) → IsUsed s n → n ≢ serial
    used_differ n used same =
        let found = stands.blocks.used n used in
        let there : serial_at pools found.0 ≡ Some serial = serial_here pools found.0 (Live n) found.1 ∙ ap Some same in
        let one = apart found.0 area.block serial there here_serial in
        live_retired n serial since (some_same (Live n) (Retired serial since) (sym found.1 ∙ ap (use_of pools) one ∙ at))

    retired_was : (n : ℕ) → is_retired after n ≡ true → (is_retired s n ≡ true) × (n ≢ serial)
    retired_was n e = (held_before s.retired serial n e, λ same. true≢false (sym e ∙ held_without s.retired serial n ∙ gone n same))
      where
        gone : (n : ℕ) → n ≡ serial → (is_serial_in s.retired n && not (nat_eq serial n)) ≡ false
        gone n same = by (is_serial_in s.retired n) (nat_eq serial n) (grind (arith, nat_tests))
          where
            by : (a b : Bool) → b ≡ true → (a && not b) ≡ false
            by true true e = refl
            by false b e = refl
            by true false e = absurd (true≢false (sym e))

    retired_still : (n : ℕ) → is_retired s n ≡ true → n ≢ serial → is_retired after n ≡ true
    retired_still n e differ = held_without s.retired serial n ∙ and_from (is_serial_in s.retired n) (not (nat_eq serial n)) e (ap not (false_from_ne_true (nat_eq serial n) (λ same. differ (grind (arith, nat_tests, same)))))

    released_was : (n : ℕ) → is_serial_in after.released n ≡ true → (is_serial_in s.released n ≡ true) ⊎ (serial ≡ n)
    released_was n e =
        elim (any_either (λ (x : ℕ). x == n) s.released (serial ∷ []) e) as (λ _. (is_serial_in s.released n ≡ true) ⊎ (serial ≡ n)) [
          | inl before ↦ inl before
          | inr last ↦ inr (one_is serial n last)
        ]

    unreleased : (b n : ℕ) → serial_at freed b ≡ Some n → is_serial_in after.released n ≡ false
    unreleased b n there = false_from_ne_true (is_serial_in after.released n) (λ e. by (released_was n e))
      where
        by : (is_serial_in s.released n ≡ true) ⊎ (serial ≡ n) → ⊥
        by (inl before) = true≢false (sym before ∙ stands.blocks.unreleased b n (stood b n there).1)
        by (inr same) = other_serial b n (stood b n there).0 (stood b n there).1 (sym same)

    shown_after : IsShownBy names after (newest_of now)
    shown_after = record {
      stood = stands.newest_is.stood;
      sound = stands.newest_is.sound;
      since = record {
        same = ap (λ (t : ServerState). record t { retired = after.retired; released = after.released }) stands.newest_is.since.same;
        fewer = λ n e. stands.newest_is.since.fewer n (held_before s.retired serial n e);
        more = λ n e. kept_pushed s.released serial n (stands.newest_is.since.more n e);
      };
      shows = stands.newest_is.shows;
    }

    -- ---- the blocks

    waits : (n : ℕ) → is_retired after n ≡ true → (b : ℕ) × ((first : ℕ) × (use_of freed b ≡ Some (Retired n first)))
    waits n e =
        let before = retired_was n e in
        let found = stands.blocks.waiting n before.0 in
        (found.0, (found.1.0, still found.0 (Retired n found.1.0) (other_block found.0 n before.1 (serial_here pools found.0 (Retired n found.1.0) found.1.1)) found.1.1))

    retired_now : (b n first : ℕ) → use_of freed b ≡ Some (Retired n first) → is_retired after n ≡ true
    retired_now b n first there =
        let before = was b (Retired n first) (retired_some n first) there in
        retired_still n (stands.blocks.retired b n first before.1) (other_serial b n before.0 (serial_here pools b (Retired n first) before.1))

    big_same : live_blocks freed.big ≡ live_blocks pools.big
    big_same =
        elim (cases_lt area.block 64) as (λ _. live_blocks freed.big ≡ live_blocks pools.big) [
          | inl low ↦ rw (lt-ltb area.block 64 low) (live_freed pools.big (area.block - 9) serial since (sym (use_big pools area.block (use_there pools area.block (Retired serial since) at) low) ∙ at))
          | inr high ↦ rw (le-ltb area.block 64 high) refl
        ]

    small_same : live_blocks freed.small ≡ live_blocks pools.small
    small_same =
        elim (cases_lt area.block 64) as (λ _. live_blocks freed.small ≡ live_blocks pools.small) [
          | inl low ↦ rw (lt-ltb area.block 64 low) refl
          | inr high ↦ rw (le-ltb area.block 64 high) (live_freed pools.small (area.block - 64) serial since (sym (use_small pools area.block high) ∙ at))
        ]

    blocks_after : PoolsStand after freed
    blocks_after = record {
      next = stands.blocks.next;
      used = λ n used. let found = stands.blocks.used n used in (found.0, still found.0 (Live n) (other_block found.0 n (used_differ n used) (serial_here pools found.0 (Live n) found.1)) found.1);
      live = λ b n there. stands.blocks.live b n (was b (Live n) (live_some n) there).1;
      waiting = waits;
      retired = retired_now;
      unreleased = unreleased;
      instances = big_same ∙ stands.blocks.instances;
      terms = small_same ∙ stands.blocks.terms;
    }

    placed_after : AreasPlaced after freed
    placed_after = record { instances = λ a m there code. stands.placed.instances a m (stood a.block a.serial there).1 code; terms = λ a there code. stands.placed.terms a (stood a.block a.serial there).1 code }

    module _ (within : area.block < 320) (keeps : KeepsOthers area.block v.kept kept) (told : ReleasesWords area.block v now) where
      images_after : ImagesKept after freed kept
      images_after = record {
        areas = λ a there.
            let before = stood a.block a.serial there in
            let found = stands.images.areas a before.1 in
            (found.0, keeps.still (record { area = a; words = found.0 }) found.1 before.0);
        images = λ k among. stands.images.images k (keeps.was k among);
        apart = keeps.apart stands.images.apart;
      }

      retire_after : (b : ℕ) → b < 320 → word_at words (retire_place b) ≡ retire_word_of (use_of freed b)
      retire_after b few =
          elim (cases_eq b area.block) as (λ _. word_at words (retire_place b) ≡ retire_word_of (use_of freed b)) [
            | inl same ↦
                ap (λ (k : ℕ). word_at words (retire_place k)) same ∙ told.retire
                ∙ sym (ap (λ (k : ℕ). retire_word_of (use_of freed k)) same ∙ ap retire_word_of (use_here pools area.block (Retired serial since) Free at))
            | inr differ ↦
                told.others (retire_place b) (λ same. differ (omega (arith, same))) (λ low same. omega (arith, few, same))
                ∙ stands.words.retire b few ∙ sym (ap retire_word_of (use_other pools area.block b (Retired serial since) Free at differ))
          ]

      doom_word : (b : ℕ) → (b ≡ area.block → ⊥) → b < 64 → word_at words (doom_place b) ≡ word_at v.words (doom_place b)
      doom_word b differ low = told.others (doom_place b) (λ same. omega (arith, within, same)) (λ big same. differ (omega (arith, same)))

      words_after : WordsTell after freed now
      words_after = record {
        retire = retire_after;
        since = λ b n first there. stands.words.since b n first (was b (Retired n first) (retired_some n first) there).1;
        free = λ b low there. free_doom b low there;
        doom = λ b n low there.
            let before = was b (Live n) (live_some n) there in
            let doom = stands.words.doom b n low before.1 in
            subst (DoomStands after n (length v.published)) (sym (doom_word b before.0 low)) (record { clear = doom.clear; set = doom.set });
      }
        where
          free_doom : (b : ℕ) → b < 64 → use_of freed b ≡ Some Free → word_at words (doom_place b) ≡ 0
          free_doom b low there =
              elim (cases_eq b area.block) as (λ _. word_at words (doom_place b) ≡ 0) [
                | inl same ↦ ap (λ (k : ℕ). word_at words (doom_place k)) same ∙ told.doom (subst (λ (k : ℕ). k < 64) same low)
                | inr differ ↦ doom_word b differ low ∙ stands.words.free b low (sym (use_other pools area.block b (Retired serial since) Free at differ) ∙ there)
              ]

      dropped_after : StaysDropped after v.published
      dropped_after = record { old = stands.dropped.old; doomed = stands.dropped.doomed; retired = stands.dropped.retired; old_stays = stands.dropped.old_stays; retired_stays = stands.dropped.retired_stays }

      pub released_after : StandFor names after freed now
      released_after = record {
        newest_is = shown_after;
        numbered = λ to. stands.numbered to;
        keys_once = stands.keys_once;
        knows = knows_released s serial stands.knows;
        narrow = stands.narrow;
        bp = stands.bp;
        listed = λ a among used.
            let there = stands.listed a among used in
            serial_other pools area.block a.block (Retired serial since) Free at (other_block a.block a.serial (used_differ a.serial used) there) ∙ there;
        stay = λ k among. stands.stay k (keeps.was k among);
        blocks = blocks_after;
        placed = placed_after;
        images = images_after;
        words = words_after;
        dropped = dropped_after;
      }
