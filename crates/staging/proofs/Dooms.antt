-- An instance is doomed: its doom word is stored before the root, and tells of the generation that is published next.
use Rattle.std.proofs.Common.{◌≡◌, ℕ, ◌<◌, ◌⊎◌, inl, inr, Bool, true, false, List, [], ◌∷◌, ◌++◌, length, Some, refl, sym, ap, subst, ◌∙◌, arith}
use Rattle.std.specs.Prelude.{◌||◌, slice_set}
use Rattle.std.proofs.lemmas.Bool.{eq-eqb, false_from_ne_true, true≢false}
use Rattle.std.proofs.lemmas.Bool.{cases_eq}
use Rattle.term_core.specs.declared.area.AreaRef.{AreaRef}
use Rattle.term_core.specs.declared.atom.Mfa.{Mfa}
use Rattle.area_core.specs.declared.map.WordKind.{WordKind}
use Rattle.area_core.specs.Generations.{has_serial}
use Rattle.area_core.specs.Map.{doom_place, retire_place, word_at}
use Rattle.area_core.proofs.Places.{kind_doom, word_here, word_there}
use Rattle.prgr_core.proofs.Parts.{some_same}
use Rattle.shared_words.specs.declared.view.WriterView.{WriterView}
use Rattle.shared_words.specs.Publishing.{kept_left, with_word}
use Rattle.progress_words.specs.Roots.{newest_of}
use Rattle.server_core.specs.declared.change.Change.TheVariants.{Condemn}
use Rattle.server_core.specs.Decided.{CanBeDoomed, Fits}
use Rattle.server_core.specs.ServerState.{IsSound, ServerState, is_doomed, is_serial_in}
use Rattle.change_laws.specs.Changes.{changed_state}
use Rattle.change_laws.specs.Uses.{IsUsed}
use Rattle.change_laws.proofs.SoundChanges.{change_sound}
use Rattle.literal_areas.specs.declared.areas.Areas.{Areas}
use Rattle.literal_areas.specs.declared.blocks.BlockUse.TheVariants.{Free, Live}
use Rattle.literal_areas.specs.Blocks.{IsLive, Stands, use_of}
use Rattle.literal_areas.specs.Owned.{AreOf}
use Rattle.literal_areas.specs.Written.{IsUndoomed}
use Rattle.literal_areas.proofs.Serials.{serial_here}
use Rattle.staging.specs.Renewed.{HasDoomed}
use Rattle.staging.specs.Standing.{DoomStands, StandFor, StaysDropped, WordsTell}
use Rattle.staging.proofs.BlockUses.{live_serial, live_some}
use Rattle.staging.proofs.Coming.{ComesNext, HasImage}
use Rattle.staging.proofs.Follows.{newest_lives, newest_traced}
use Rattle.staging.proofs.NextReads.{one_is}
use Rattle.staging.proofs.Renewals.{IsRenewed}

-- ---- the words

-- the doom word of the block tells of the next generation, and no other word is another
pub record DoomsWords (block : ℕ) (before after : WriterView) : Type 0 where
  pub same : after ≡ record before { words = after.words }
  pub here : word_at after.words (doom_place block) ≡ length before.published
  pub others : (place : ℕ) → (place ≡ doom_place block → ⊥) → word_at after.words place ≡ word_at before.words place

dooms_words : (w : WriterView) (block : ℕ) → block < 64 → length w.words ≡ 83413 → DoomsWords block w (with_word (doom_place block) (length w.published) w)
dooms_words w block big all = record {
  same = ap (λ (kind : WordKind). record w { words = slice_set w.words (doom_place block) (length w.published); kept = kept_left w (length w.published) kind }) (kind_doom block big);
  here = word_here w.words (doom_place block) (length w.published) (omega (arith, big, all));
  others = λ place off. word_there w.words (doom_place block) (length w.published) place off;
}

pub doomed_words : (serial : ℕ) (pools : Areas) (before after : WriterView) → length before.words ≡ 83413 → (d : HasDoomed serial pools before after) → DoomsWords d.area.block before after
doomed_words serial pools before after all d = subst (DoomsWords d.area.block before) (sym d.stored) (dooms_words before d.area.block d.big all)

off_doom : (a b : ℕ) → (b ≡ a → ⊥) → doom_place b ≡ doom_place a → ⊥
off_doom a b differ same = differ (omega (arith, same))

-- ---- the state

module _ (names : List Mfa) (s : ServerState) (serial : ℕ) (can : CanBeDoomed s serial) where
  none_doomed : (n : ℕ) → is_doomed s n ≡ false
  none_doomed n = ap (λ (xs : List ℕ). is_serial_in xs n) can.rest

  -- no generation has doomed it before
  pub undoomed_before : (pools : Areas) (w : WriterView) (area : AreaRef) → StandFor names s pools w → area.serial ≡ serial → IsUndoomed w area
  undoomed_before pools w area stands is g p counts at =
      false_from_ne_true (has_serial p.state.doomed area.serial) (λ e. by (stands.dropped.doomed p area.serial (g, at) e).1)
    where
      used : IsUsed s area.serial
      used = inr (inl (can.old.0, can.old.1 ∙ ap Some (sym is)))

      by : (is_doomed s area.serial ≡ true) ⊎ (IsUsed s area.serial → ⊥) → ⊥
      by (inl doomed) = true≢false (sym doomed ∙ none_doomed area.serial)
      by (inr none) = none used

  module _ (generation : ℕ) (pools : Areas) (v : WriterView) (words : List ℕ) (area : AreaRef) (stands : StandFor names s pools v) (owned : AreOf pools (record v { words = words })) (is : area.serial ≡ serial) (live : IsLive pools area) (big : area.block < 64) (some : 0 < length v.published)
      (here : word_at words (doom_place area.block) ≡ length v.published) (others : (place : ℕ) → (place ≡ doom_place area.block → ⊥) → word_at words place ≡ word_at v.words place) where
    abbrev after : ServerState
    after = changed_state s (Condemn generation serial)

    abbrev now : WriterView
    now = record v { words = words }

    doomed_as : (n : ℕ) → is_doomed after n ≡ is_serial_in (serial ∷ []) n
    doomed_as n = ap (λ (xs : List ℕ). is_serial_in (xs ++ serial ∷ []) n) can.rest

    doomed_now : (n : ℕ) → n ≡ serial → is_doomed after n ≡ true
    doomed_now n same = doomed_as n ∙ subst (λ (k : ℕ). is_serial_in (serial ∷ []) k ≡ true) (sym same) (ap (λ (b : Bool). b || false) (eq-eqb serial serial refl))

    doomed_only : (n : ℕ) → is_doomed after n ≡ true → serial ≡ n
    doomed_only n e = one_is serial n (sym (doomed_as n) ∙ e)

    -- the serial has one block
    here_serial : (block n : ℕ) → block ≡ area.block → use_of pools block ≡ Some (Live n) → n ≡ serial
    here_serial block n same at = live_serial n area.serial (some_same (Live n) (Live area.serial) (sym at ∙ ap (use_of pools) same ∙ live)) ∙ is

    here_block : (block n : ℕ) → serial ≡ n → use_of pools block ≡ Some (Live n) → block ≡ area.block
    here_block block n same at = owned.sound.apart block area.block n (serial_here pools block (Live n) at) (serial_here pools area.block (Live area.serial) live ∙ ap Some (is ∙ same))

    doom_after : (block n : ℕ) → block < 64 → use_of pools block ≡ Some (Live n) → DoomStands after n (length v.published) (word_at words (doom_place block))
    doom_after block n low at =
        elim (cases_eq block area.block) as (λ _. DoomStands after n (length v.published) (word_at words (doom_place block))) [
          | inl same ↦
              let word : word_at words (doom_place block) ≡ length v.published = ap (λ (b : ℕ). word_at words (doom_place b)) same ∙ here in
              subst (DoomStands after n (length v.published)) (sym word)
              (record { clear = λ no. absurd (true≢false (sym (doomed_now n (here_serial block n same at)) ∙ no)); set = λ yes. (some, omega arith) })
          | inr differ ↦
              let was = stands.words.doom block n low at in
              record {
                clear = λ no. others (doom_place block) (off_doom area.block block differ) ∙ was.clear (none_doomed n);
                set = λ yes. absurd (differ (here_block block n (doomed_only n yes) at));
              }
        ]

    free_after : (block : ℕ) → block < 64 → use_of pools block ≡ Some Free → word_at words (doom_place block) ≡ 0
    free_after block low at =
        others (doom_place block) (off_doom area.block block (λ same. live_some area.serial (some_same (Live area.serial) Free (sym live ∙ ap (use_of pools) (sym same) ∙ at)))) ∙ stands.words.free block low at

    words_after : WordsTell after pools now
    words_after = record {
      retire = λ block few. others (retire_place block) (λ same. omega (arith, few, same)) ∙ stands.words.retire block few;
      since = stands.words.since;
      free = free_after;
      doom = doom_after;
    }

    dropped_after : StaysDropped after v.published
    dropped_after = record {
      old = stands.dropped.old;
      doomed = λ p n at had. let was = stands.dropped.doomed p n at had in (was.0, still n was.1);
      retired = stands.dropped.retired;
      old_stays = stands.dropped.old_stays;
      retired_stays = stands.dropped.retired_stays;
    }
      where
        still : (n : ℕ) → (is_doomed s n ≡ true) ⊎ (IsUsed s n → ⊥) → (is_doomed after n ≡ true) ⊎ (IsUsed after n → ⊥)
        still n (inl doomed) = absurd (true≢false (sym doomed ∙ none_doomed n))
        still n (inr none) = inr none

    image_after : (a : AreaRef) → Stands pools a → HasImage after pools now a
    image_after a there =
        let kept = stands.images.areas a there in
        record { words = kept.0; of = stands.images.images (record { area = a; words = kept.0 }) kept.1; stands = inl kept.1 }

    comes_after : IsSound after → ComesNext names after pools now
    comes_after sound = record {
      sound = sound;
      numbered = λ to. stands.numbered to;
      keys_once = stands.keys_once;
      narrow = stands.narrow;
      owned = owned;
      blocks = record {
        next = stands.blocks.next;
        used = stands.blocks.used;
        live = stands.blocks.live;
        waiting = stands.blocks.waiting;
        retired = stands.blocks.retired;
        unreleased = stands.blocks.unreleased;
        instances = stands.blocks.instances;
        terms = stands.blocks.terms;
      };
      placed = record { instances = stands.placed.instances; terms = stands.placed.terms };
      images = image_after;
      kept = stands.images.images;
      apart = stands.images.apart;
      words = words_after;
      dropped = dropped_after;
      bp = stands.bp;
      knows = record { traced = stands.knows.traced; kept = stands.knows.kept };
      stay = stands.stay;
      lives = λ k at. newest_lives names s (newest_of v) stands.newest_is k.area.serial;
    }

    renewed_after : IsSound after → IsRenewed names s after pools now
    renewed_after sound = record {
      comes = comes_after sound;
      alike = record {
        fewer = λ n function e. newest_traced names s (newest_of v) stands.newest_is n function ∙ e;
        same = λ n function lives. sym (newest_traced names s (newest_of v) stands.newest_is n function);
      };
      shown = stands.newest_is;
      once = stands.keys_once;
      calls = λ to. refl;
      keys = refl;
      listed = stands.listed;
      stood = stands.images.areas;
    }

-- so the state in which it is doomed may be published over the blocks of the newest generation
pub doom_renewed : (names : List Mfa) (s : ServerState) (generation serial : ℕ) (pools : Areas) (before after : WriterView) → IsSound s → Fits s (Condemn generation serial) → StandFor names s pools before → AreOf pools before → AreOf pools after → 0 < length before.published → HasDoomed serial pools before after
    → IsRenewed names s (changed_state s (Condemn generation serial)) pools after
doom_renewed names s generation serial pools before after sound fits stands was owned some d =
    let words = doomed_words serial pools before after was.all d in
    subst (IsRenewed names s (changed_state s (Condemn generation serial)) pools) (sym words.same)
    (renewed_after names s serial fits.1 generation pools before after.words d.area stands (subst (AreOf pools) words.same owned) d.serial_is d.live d.big some words.here words.others (change_sound s (Condemn generation serial) sound fits))
