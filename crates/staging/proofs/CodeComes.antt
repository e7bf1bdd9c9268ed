-- Once what a load brings in has its areas, the state that it leaves may be published; a delete brings nothing in.
use Rattle.std.proofs.Common.{◌≡◌, ℕ, ◌+◌, ◌^◌, ◌<◌, ◌≤◌, ◌⊎◌, inl, inr, true, false, List, [], ◌∷◌, length, Some, None, refl, sym, ap, subst, ◌∙◌, arith}
use Rattle.std.proofs.lemmas.Bool.{true≢false}
use Rattle.std.proofs.lemmas.Option.{none-some}
use Rattle.term_core.specs.declared.area.AreaRef.{AreaRef}
use Rattle.term_core.specs.declared.atom.Mfa.{Mfa}
use Rattle.mod_core.specs.declared.code.Module.{Module}
use Rattle.area_core.specs.declared.table.KeptArea.{KeptArea}
use Rattle.area_core.specs.Generations.{functions_in_image}
use Rattle.area_core.specs.Map.{doom_place, word_at}
use Rattle.area_core.specs.Blocks.{Among, IsForInstances}
use Rattle.shared_words.specs.declared.view.WriterView.{WriterView}
use Rattle.progress_words.specs.Roots.{newest_of}
use Rattle.server_core.specs.declared.change.Change.{Change}
use Rattle.server_core.specs.ServerState.{ServerState, code_of, current_of, is_doomed, is_serial_in, words_of_area}
use Rattle.change_laws.specs.Changes.{Incoming, changed_state}
use Rattle.change_laws.specs.Images.{incoming_module, words_of}
use Rattle.change_laws.specs.Uses.{IsUsed}
use Rattle.change_laws.proofs.AreaUses.{used_stood}
use Rattle.change_laws.proofs.KeptImages.{code_comes, code_stays, images_before, images_new}
use Rattle.change_laws.proofs.KnownCode.{knows_after}
use Rattle.change_laws.proofs.VersionUses.{current_stood}
use Rattle.literal_areas.specs.declared.areas.Areas.{Areas}
use Rattle.literal_areas.specs.declared.blocks.BlockUse.TheVariants.{Live}
use Rattle.literal_areas.specs.Blocks.{Stands, use_of}
use Rattle.staging.specs.Standing.{AreKeysOnce, AreasPlaced, StaysDropped, WordsTell, retire_word_of}
use Rattle.staging.proofs.CodeBlocks.{IsNew, IsPlacedWhole, big_block, blocks_after, new_at, new_live, next_is, pools_use, sound_after, stood_known, stood_or_new, used_now, was_retired}
use Rattle.staging.proofs.CodeAfter.{code_after, code_keeps, code_sets, image_functions, newest_below}
use Rattle.staging.proofs.Coming.{ComesNext, HasImage, IsFresh, TracesAlike}
use Rattle.staging.proofs.Follows.{alike_same, kept_lives, new_untraced}
use Rattle.staging.proofs.GivenBack.{get_at}
use Rattle.staging.proofs.Taken.{was_free}
use Rattle.staging.proofs.TakenUses.{retire_alike, serial_taken, taken_free}

module _ (names : List Mfa) (s : ServerState) (change : Change) (w : WriterView) (rest pools : Areas) (taken : List AreaRef) (h : IsPlacedWhole names s change w rest pools taken) where
  abbrev after : ServerState
  after = changed_state s change

  abbrev New : AreaRef → Type 0
  New a = IsNew names s change w rest pools taken h a

  -- ---- each area

  code_new : (a : AreaRef) → (new : New a) → code_of after a.serial ≡ Some new.instance_is.m
  code_new a new = ap (code_of after) new.serial ∙ code_comes s change new.place new.comes h.sound new.comes_at ∙ ap incoming_module new.instance_is.is

  placed_after : AreasPlaced after pools
  placed_after = record { instances = in_big; terms = in_small }
    where
      in_big : (a : AreaRef) (m : Module) → Stands pools a → code_of after a.serial ≡ Some m → IsForInstances a.block
      in_big a m stands code =
          elim (stood_or_new names s change w rest pools taken h a stands) as (λ _. IsForInstances a.block) [
            | inl stood ↦ h.stands.placed.instances a m stood (sym (code_stays s change a.serial (stood_known names s change w rest pools taken h a stood)) ∙ code)
            | inr new ↦ big_block names s change w rest pools taken h a new
          ]

      in_small : (a : AreaRef) → Stands pools a → code_of after a.serial ≡ None → 64 ≤ a.block
      in_small a stands code =
          elim (stood_or_new names s change w rest pools taken h a stands) as (λ _. 64 ≤ a.block) [
            | inl stood ↦ h.stands.placed.terms a stood (sym (code_stays s change a.serial (stood_known names s change w rest pools taken h a stood)) ∙ code)
            | inr new ↦ absurd (none-some new.instance_is.m (sym code ∙ code_new a new))
          ]

  fresh_new : (a : AreaRef) → (new : New a) → IsFresh after pools w a (words_of a.serial new.comes)
  fresh_new a new = record {
    unpublished = new.of.unpublished;
    live = new_live names s change w rest pools taken h new.place a new.at;
    room = new.of.room;
    functions = λ big. subst (λ (i : Incoming). functions_in_image (words_of a.serial i) ≤ 16) (sym new.instance_is.is) (subst (λ (n : ℕ). n ≤ 16) (sym (image_functions a.serial new.instance_is.m)) new.instance_is.sound.few);
    written = new.of.written;
    undoomed = ap (λ (xs : List ℕ). is_serial_in xs a.serial) (code_after s change h.fits h.code).doomed;
    unheard = (newest_below names s (newest_of w) h.stands.newest_is).unheard a.serial (past new.serial);
    unretired = (newest_below names s (newest_of w) h.stands.newest_is).unretired a.serial (past new.serial);
    untraced = λ function. new_untraced names s change w h.sound h.fits h.stands.knows h.stands.newest_is a.serial function (past new.serial);
  }
    where
      past : a.serial ≡ s.next_serial + new.place → s.next_serial ≤ a.serial
      past is = omega (arith, is)

  image_after : (a : AreaRef) → Stands pools a → HasImage after pools w a
  image_after a stands =
      elim (stood_or_new names s change w rest pools taken h a stands) as (λ _. HasImage after pools w a) [
        | inl stood ↦
            let kept = h.stands.images.areas a stood in
            record { words = kept.0; of = images_before s change a.serial (stood_known names s change w rest pools taken h a stood) ∙ h.stands.images.images (record { area = a; words = kept.0 }) kept.1; stands = inl kept.1 }
        | inr new ↦
            record {
              words = words_of a.serial new.comes;
              of = subst (λ (n : ℕ). words_of_area after n ≡ Some (words_of n new.comes)) (sym new.serial) (images_new s change new.place new.comes h.sound new.comes_at);
              stands = inr (fresh_new a new);
            }
      ]

  kept_after : (k : KeptArea) → Among w.kept k → words_of_area after k.area.serial ≡ Some k.words
  kept_after k at =
      elim (stood_or_new names s change w rest pools taken h k.area (h.owned.kept k at)) as (λ _. words_of_area after k.area.serial ≡ Some k.words) [
        | inl stood ↦ images_before s change k.area.serial (stood_known names s change w rest pools taken h k.area stood) ∙ h.stands.images.images k at
        | inr new ↦ absurd (new.of.unpublished.kept k at refl)
      ]

  -- ---- the words that tell of areas

  no_doom : (serial : ℕ) → is_doomed s serial ≡ false
  no_doom serial = ap (λ (xs : List ℕ). is_serial_in xs serial) (code_after s change h.fits h.code).undoomed

  doom_clear : (block serial : ℕ) → block < 64 → use_of pools block ≡ Some (Live serial) → word_at w.words (doom_place block) ≡ 0
  doom_clear block serial big is =
      elim (used_now names s change w rest pools taken h block (Live serial) is) as (λ _. word_at w.words (doom_place block) ≡ 0) [
        | inl was ↦ (h.stands.words.doom block serial big was).clear (no_doom serial)
        | inr taken_at ↦ h.stands.words.free block big (ap (use_of rest) taken_at.block_is ∙ taken_free taken rest taken_at.place taken_at.area h.placed.taken_are taken_at.at)
      ]

  words_after : WordsTell after pools w
  words_after = record {
    retire = λ block few. h.stands.words.retire block few ∙ sym (ap retire_word_of (pools_use names s change w rest pools taken h block) ∙ retire_alike taken rest block h.placed.taken_are);
    since = λ block serial since is. h.stands.words.since block serial since (was_retired names s change w rest pools taken h block serial since is);
    free = λ block big is. h.stands.words.free block big (was_free taken rest block h.placed.taken_are (sym (pools_use names s change w rest pools taken h block) ∙ is));
    doom = λ block serial big is. record {
      clear = λ _. doom_clear block serial big is;
      set = λ doomed. absurd (true≢false (sym doomed ∙ ap (λ (xs : List ℕ). is_serial_in xs serial) (code_after s change h.fits h.code).doomed));
    };
  }

  -- ---- what was dropped

  dropped_after : StaysDropped after w.published
  dropped_after = record {
    old = λ p serial at is. let was = h.stands.dropped.old p serial at is in (known serial was.0, λ name current. never_current name serial was.0 (was.1 name) (current_stood s change name serial current));
    doomed = λ p serial at is. let was = h.stands.dropped.doomed p serial at is in (known serial was.0, inr (λ used. never_doomed serial was.0 was.1 (used_stood s change serial used)));
    retired = λ p serial at is. let was = h.stands.dropped.retired p serial at is in (known serial was.0, λ used. never_used serial was.0 was.1 (used_stood s change serial used));
    old_stays = h.stands.dropped.old_stays;
    retired_stays = h.stands.dropped.retired_stays;
  }
    where
      known : (serial : ℕ) → serial < s.next_serial → serial < after.next_serial
      known serial below = let next = next_is names s change w rest pools taken h in omega (arith, below, next)

      never_current : (name serial : ℕ) → serial < s.next_serial → (current_of s name ≡ Some serial → ⊥) → (current_of s name ≡ Some serial) ⊎ (s.next_serial ≤ serial) → ⊥
      never_current name serial below none (inl stood) = none stood
      never_current name serial below none (inr past) = omega (arith, below, past)

      never_used : (serial : ℕ) → serial < s.next_serial → (IsUsed s serial → ⊥) → IsUsed s serial ⊎ (s.next_serial ≤ serial) → ⊥
      never_used serial below none (inl stood) = none stood
      never_used serial below none (inr past) = omega (arith, below, past)

      never_doomed : (serial : ℕ) → serial < s.next_serial → (is_doomed s serial ≡ true) ⊎ (IsUsed s serial → ⊥) → IsUsed s serial ⊎ (s.next_serial ≤ serial) → ⊥
      never_doomed serial below (inl doomed) used = true≢false (sym doomed ∙ no_doom serial)
      never_doomed serial below (inr none) used = never_used serial below none used

  narrow_after : after.next_serial ≤ 2 ^ 40
  narrow_after = by taken refl
    where
      by : (ts : List AreaRef) → taken ≡ ts → after.next_serial ≤ 2 ^ 40
      by [] none = let next = next_is names s change w rest pools taken h in let few = h.stands.narrow in let long = ap length none in omega (arith, next, few, long)
      by (t ∷ ts) some =
          let long = ap length some in
          let found = get_at taken (length ts) (omega (arith, long)) in
          let new = new_at names s change w rest pools taken h (length ts) found.0 found.1 in
          let is = serial_taken taken rest (length ts) found.0 h.placed.taken_are found.1 in
          let first = h.stands.blocks.next in
          let small = new.of.small in
          let next = next_is names s change w rest pools taken h in
          omega (arith, long, is, first, small, next)

  -- what is kept came in before
  kept_known : (k : KeptArea) → Among w.kept k → k.area.serial < s.next_serial
  kept_known k at =
      elim (stood_or_new names s change w rest pools taken h k.area (h.owned.kept k at)) as (λ _. k.area.serial < s.next_serial) [
        | inl stood ↦ stood_known names s change w rest pools taken h k.area stood
        | inr new ↦ absurd (new.of.unpublished.kept k at refl)
      ]

  -- no breakpoint is another
  pub code_alike : TracesAlike after w
  code_alike = alike_same names s change w h.sound h.fits h.stands.knows h.stands.newest_is (code_keeps change h.code)

  -- so the state may be published
  pub code_comes_next : ComesNext names after pools w
  code_comes_next = record {
    sound = sound_after names s change w rest pools taken h;
    numbered = h.numbered;
    keys_once = subst AreKeysOnce (sym (code_after s change h.fits h.code).keys) h.stands.keys_once;
    narrow = narrow_after;
    owned = h.owned;
    blocks = blocks_after names s change w rest pools taken h;
    placed = placed_after;
    images = image_after;
    kept = kept_after;
    apart = h.stands.images.apart;
    words = words_after;
    dropped = dropped_after;
    bp = h.stands.bp;
    knows = knows_after s change h.sound h.fits (code_sets s change h.code) h.stands.knows;
    stay = h.stands.stay;
    lives = λ k at. kept_lives names s change w h.sound h.fits h.stands.knows h.stands.newest_is k.area.serial (kept_known k at);
  }
