-- Once a key is staged and its former area retired, the state that the change leaves may be published.
use Rattle.std.proofs.Common.{◌≡◌, ℕ, ◌+◌, ◌^◌, ◌<◌, ◌≤◌, ◌⊎◌, inl, inr, true, false, List, [], ◌∷◌, length, Some, None, refl, sym, ap, subst, ◌∙◌, arith}
use Rattle.std.proofs.lemmas.Bool.{false_from_ne_true}
use Rattle.std.proofs.lemmas.Option.{none-some}
use Rattle.term_core.specs.declared.area.AreaRef.{AreaRef}
use Rattle.term_core.specs.declared.atom.Mfa.{Mfa}
use Rattle.mod_core.specs.declared.code.Module.{Module}
use Rattle.area_core.specs.declared.table.KeptArea.{KeptArea}
use Rattle.area_core.specs.declared.table.Published.{Published}
use Rattle.area_core.specs.Generations as generations
use Rattle.area_core.specs.Map.{block_place, doom_place, word_at}
use Rattle.area_core.specs.Blocks.{Among, IsForInstances, KeptApart}
use Rattle.shared_words.specs.declared.view.WriterView.{WriterView}
use Rattle.shared_words.proofs.ShownMembers.{within_get}
use Rattle.progress_words.specs.Roots.{newest_of}
use Rattle.server_core.specs.declared.change.Change.{Change}
use Rattle.server_core.specs.declared.change.Change.TheVariants.{HoldWord, HoldArea, Forget}
use Rattle.server_core.specs.ServerState.{ServerState, Versions, code_of, current_among, is_doomed, is_serial_in, words_of_area}
use Rattle.change_laws.specs.Breakpoints.{KeepsBreakpoints, SetsInCode}
use Rattle.change_laws.specs.Changes.{changed_state}
use Rattle.change_laws.specs.Images.{words_of}
use Rattle.change_laws.specs.Uses.{IsUsed}
use Rattle.change_laws.proofs.Dropped.{used_known}
use Rattle.change_laws.proofs.KeptImages.{code_comes, code_stays, images_before, images_new}
use Rattle.change_laws.proofs.KnownCode.{knows_after}
use Rattle.literal_areas.specs.declared.areas.Areas.{Areas}
use Rattle.literal_areas.specs.declared.blocks.BlockUse.TheVariants.{Free, Live, Retired}
use Rattle.literal_areas.specs.Blocks.{Stands, use_of}
use Rattle.literal_areas.specs.Owned.{IsUnpublished}
use Rattle.staging.specs.Replaced.{former_of}
use Rattle.staging.specs.Stages.{IsKeyChange}
use Rattle.staging.specs.Standing.{AreasPlaced, DoomStands, IsSince, StaysDropped, WordsTell, retire_word_of}
use Rattle.staging.proofs.BlockUses.{free_retired}
use Rattle.staging.proofs.CodeAfter.{newest_below}
use Rattle.staging.proofs.Coming.{ComesNext, HasImage, IsFresh, TracesAlike}
use Rattle.staging.proofs.Follows.{alike_same, kept_lives, new_untraced}
use Rattle.staging.proofs.Frames.{block_behind, unpublished_written}
use Rattle.staging.proofs.GivenBack.{get_at}
use Rattle.staging.proofs.KeyBlocks.{IsNew, IsReady, blocks_after, high_block, keyed, live_before, lives_on, new_at, new_live, next_is, pools_use, sound_after, stood_known, stood_or_new, used_now, uses, was_retired}
use Rattle.staging.proofs.KeyLists.{once_stand, stand_once}
use Rattle.staging.proofs.KeyAfter.{key_came}
use Rattle.staging.proofs.KeyStates.{came_with}
use Rattle.staging.proofs.Taken.{was_free}
use Rattle.staging.proofs.TakenUses.{IsTakenAt, retire_alike, serial_taken}

-- a change of a key sets no breakpoint, nor does it clear one
key_sets : (s : ServerState) (change : Change) → IsKeyChange change → SetsInCode s change
key_sets s (HoldWord generation key term keys retired) is = tt
key_sets s (HoldArea generation key term kept areas keys retired) is = tt
key_sets s (Forget generation key retired) is = tt
key_sets s change is = absurd is

key_keeps : (change : Change) → IsKeyChange change → KeepsBreakpoints change
key_keeps (HoldWord generation key term keys retired) is = tt
key_keeps (HoldArea generation key term kept areas keys retired) is = tt
key_keeps (Forget generation key retired) is = tt
key_keeps change is = absurd is

module _ (names : List Mfa) (s : ServerState) (change : Change) (v w : WriterView) (rest before pools : Areas) (taken : List AreaRef) (h : IsReady names s change v w rest before pools taken) where
  abbrev after : ServerState
  after = changed_state s change

  -- ---- each area

  code_new : (a : AreaRef) → IsNew names s change v w rest before pools taken h a → code_of after a.serial ≡ None
  code_new a new = ap (code_of after) new.serial ∙ code_comes s change new.place new.comes h.sound new.comes_at ∙ new.no_code

  placed_after : AreasPlaced after pools
  placed_after = record { instances = in_big; terms = in_small }
    where
      in_big : (a : AreaRef) (m : Module) → Stands pools a → code_of after a.serial ≡ Some m → IsForInstances a.block
      in_big a m stands code =
          elim (stood_or_new names s change v w rest before pools taken h a stands) as (λ _. IsForInstances a.block) [
            | inl stood ↦ h.stands.placed.instances a m stood (sym (code_stays s change a.serial (stood_known names s change v w rest before pools taken h a stood)) ∙ code)
            | inr new ↦ absurd (none-some m (sym (code_new a new) ∙ code))
          ]

      in_small : (a : AreaRef) → Stands pools a → code_of after a.serial ≡ None → 64 ≤ a.block
      in_small a stands code =
          elim (stood_or_new names s change v w rest before pools taken h a stands) as (λ _. 64 ≤ a.block) [
            | inl stood ↦ h.stands.placed.terms a stood (sym (code_stays s change a.serial (stood_known names s change v w rest before pools taken h a stood)) ∙ code)
            | inr new ↦ new.small
          ]

  -- what was never published is not
  unpublished_still : (a : AreaRef) → IsUnpublished v a → IsUnpublished w a
  unpublished_still a was = subst (λ (x : WriterView). IsUnpublished x a) (sym h.words.same) (unpublished_written v w.words a was)

  word_still : (place : ℕ) → (place < 1109) ⊎ (1429 ≤ place) → word_at w.words place ≡ word_at v.words place
  word_still place (inl low) = h.words.others place (λ block few is. omega (arith, low, few, is))
  word_still place (inr high) = h.words.others place (λ block few is. omega (arith, high, few, is))

  no_doom : (a : AreaRef) → IsNew names s change v w rest before pools taken h a → is_doomed s a.serial ≡ false
  no_doom a new = false_from_ne_true (is_doomed s a.serial) (λ e. let known = used_known s a.serial h.sound (inr (inl (h.sound.doomed a.serial e))) in let past = new.serial in omega (arith, known, past))

  newest_same : newest_of w ≡ newest_of v
  newest_same = ap newest_of h.words.same

  fresh_new : (a : AreaRef) → Stands pools a → (new : IsNew names s change v w rest before pools taken h a) → IsFresh after pools w a (words_of a.serial new.comes)
  fresh_new a stands new = record {
    unpublished = unpublished_still a new.of.unpublished;
    live = lives_on names s change v w rest before pools taken h a.block a.serial ((uses names s change v w rest before pools taken h).comes a.serial new.came) (new_live names s change v w rest before pools taken h new.place a new.at);
    room = new.of.room;
    functions = λ big. absurd (let small = new.small in omega (arith, big, small));
    written = λ at value is. word_still (block_place a.block at) (inr (block_behind_all a.block at)) ∙ new.of.written at value is;
    undoomed = ap (λ (xs : List ℕ). is_serial_in xs a.serial) (keyed names s change v w rest before pools taken h).doomed ∙ no_doom a new;
    unheard = subst (λ (q : Published). generations.is_doomed_area q a.serial ≡ false) (sym newest_same) ((newest_below names s (newest_of v) h.stands.newest_is).unheard a.serial (past new.serial));
    unretired = subst (λ (q : Published). generations.is_retired_area q a.serial ≡ false) (sym newest_same) ((newest_below names s (newest_of v) h.stands.newest_is).unretired a.serial (past new.serial));
    untraced = λ function.
        subst (λ (q : Published). generations.is_traced_function q a.serial function ≡ false) (sym newest_same) (new_untraced names s change v h.sound h.fits h.stands.knows h.stands.newest_is a.serial function (past new.serial));
  }
    where
      past : a.serial ≡ s.next_serial + new.place → s.next_serial ≤ a.serial
      past is = omega (arith, is)

      block_behind_all : (block at : ℕ) → 1429 ≤ block_place block at
      block_behind_all block at = let behind = block_behind block at in omega (arith, behind)

  kept_same : w.kept ≡ v.kept
  kept_same = ap (λ (x : WriterView). x.kept) h.words.same

  image_after : (a : AreaRef) → Stands pools a → HasImage after pools w a
  image_after a stands =
      elim (stood_or_new names s change v w rest before pools taken h a stands) as (λ _. HasImage after pools w a) [
        | inl stood ↦
            let kept = h.stands.images.areas a stood in
            record { words = kept.0; of = images_before s change a.serial (stood_known names s change v w rest before pools taken h a stood) ∙ h.stands.images.images (record { area = a; words = kept.0 }) kept.1; stands = inl (subst (λ (ks : List KeptArea). Among ks (record { area = a; words = kept.0 })) (sym kept_same) kept.1) }
        | inr new ↦
            record {
              words = words_of a.serial new.comes;
              of = subst (λ (n : ℕ). words_of_area after n ≡ Some (words_of n new.comes)) (sym new.serial) (images_new s change new.place new.comes h.sound new.comes_at);
              stands = inr (fresh_new a stands new);
            }
      ]

  kept_after : (k : KeptArea) → Among w.kept k → words_of_area after k.area.serial ≡ Some k.words
  kept_after k at =
      let was = subst (λ (ks : List KeptArea). Among ks k) kept_same at in
      elim (stood_or_new names s change v w rest before pools taken h k.area (h.owned.kept k at)) as (λ _. words_of_area after k.area.serial ≡ Some k.words) [
        | inl stood ↦ images_before s change k.area.serial (stood_known names s change v w rest before pools taken h k.area stood) ∙ h.stands.images.images k was
        | inr new ↦ absurd (new.of.unpublished.kept k was refl)
      ]

  -- ---- the words that tell of areas

  free_rest : (block : ℕ) → use_of pools block ≡ Some Free → use_of rest block ≡ Some Free
  free_rest block is = by (h.retires.before block Free is)
    where
      by : (use_of before block ≡ Some Free) ⊎ ((n : ℕ) × (former_of s change ≡ Some n) × (use_of before block ≡ Some (Live n)) × (Free ≡ Retired n (length v.published))) → use_of rest block ≡ Some Free
      by (inl was) = was_free taken rest block h.placed.taken_are (sym (pools_use names s change v w rest before pools taken h block) ∙ was)
      by (inr gone) = absurd (free_retired gone.0 (length v.published) gone.3)

  published_same : w.published ≡ v.published
  published_same = ap (λ (x : WriterView). x.published) h.words.same

  doom_word : (block : ℕ) → word_at w.words (doom_place block) ≡ word_at v.words (doom_place block)
  doom_word block = word_still (doom_place block) (inr (omega arith))

  doom_after : (block serial : ℕ) → block < 64 → use_of pools block ≡ Some (Live serial) → DoomStands after serial (length w.published) (word_at w.words (doom_place block))
  doom_after block serial big is =
      let was = h.stands.words.doom block serial big (rest_live (used_now names s change v w rest before pools taken h block (Live serial) (live_before names s change v w rest before pools taken h block serial is))) in
      let even : is_doomed after serial ≡ is_doomed s serial = ap (λ (xs : List ℕ). is_serial_in xs serial) (keyed names s change v w rest before pools taken h).doomed in
      record {
        clear = λ no. doom_word block ∙ was.clear (sym even ∙ no);
        set = λ yes. subst (λ (z : ℕ × List Published). (0 < z.0) × (z.0 ≤ length z.1)) (λ i. (sym (doom_word block) i, sym published_same i)) (was.set (sym even ∙ yes));
      }
    where
      rest_live : (use_of rest block ≡ Some (Live serial)) ⊎ IsTakenAt taken block (Live serial) → use_of rest block ≡ Some (Live serial)
      rest_live (inl was) = was
      rest_live (inr taken_at) = absurd (let high = high_block names s change v w rest before pools taken h taken_at.place taken_at.area taken_at.at in let here = taken_at.block_is in omega (arith, big, high, here))

  since_after : (block serial since : ℕ) → use_of pools block ≡ Some (Retired serial since) → IsSince w.published block serial since
  since_after block serial since is = subst (λ (ps : List Published). IsSince ps block serial since) (sym published_same) (by (was_retired names s change v w rest before pools taken h block serial since is))
    where
      by : (use_of rest block ≡ Some (Retired serial since)) ⊎ ((former_of s change ≡ Some serial) × (since ≡ length v.published)) → IsSince v.published block serial since
      by (inl was) = h.stands.words.since block serial since was
      by (inr gone) =
          let here = gone.1 in
          let some = h.some in
          (omega (arith, here, some), omega (arith, here), λ g p at retired. absurd ((h.stands.dropped.retired p serial (g, at) retired).1 (inr (inr ((uses names s change v w rest before pools taken h).held serial gone.0)))), λ g p at past. absurd (let within = within_get v.published g p at in omega (arith, here, past, within)))

  words_after : WordsTell after pools w
  words_after = record {
    retire = λ block few. h.words.retire block (h.stands.words.retire block few ∙ sym (ap retire_word_of (pools_use names s change v w rest before pools taken h block) ∙ retire_alike taken rest block h.placed.taken_are));
    since = since_after;
    free = λ block big is. doom_word block ∙ h.stands.words.free block big (free_rest block is);
    doom = doom_after;
  }

  -- ---- what was dropped

  dropped_v : StaysDropped after v.published
  dropped_v = record {
    old = λ p serial at is. let was = h.stands.dropped.old p serial at is in (known was.0, λ name current. was.1 name (sym (ap (λ (vs : List Versions). current_among vs name) (keyed names s change v w rest before pools taken h).versions) ∙ current));
    doomed = λ p serial at is. let was = h.stands.dropped.doomed p serial at is in (known was.0, doomed_still was.0 was.1);
    retired = λ p serial at is. let was = h.stands.dropped.retired p serial at is in (known was.0, λ used. never_used was.0 was.1 ((uses names s change v w rest before pools taken h).used serial used));
    old_stays = h.stands.dropped.old_stays;
    retired_stays = h.stands.dropped.retired_stays;
  }
    where
      known : {serial : ℕ} → serial < s.next_serial → serial < after.next_serial
      known below = let next = next_is names s change v w rest before pools taken h in omega (arith, below, next)

      never_used : {serial : ℕ} → serial < s.next_serial → (IsUsed s serial → ⊥) → IsUsed s serial ⊎ (came_with s change ≡ Some serial) → ⊥
      never_used below none (inl stood) = none stood
      never_used {serial} below none (inr came) = let is = (key_came s change h.key serial came).0 in omega (arith, below, is)

      doomed_still : {serial : ℕ} → serial < s.next_serial → (is_doomed s serial ≡ true) ⊎ (IsUsed s serial → ⊥) → (is_doomed after serial ≡ true) ⊎ (IsUsed after serial → ⊥)
      doomed_still {serial} below (inl doomed) = inl (ap (λ (xs : List ℕ). is_serial_in xs serial) (keyed names s change v w rest before pools taken h).doomed ∙ doomed)
      doomed_still {serial} below (inr none) = inr (λ used. never_used below none ((uses names s change v w rest before pools taken h).used serial used))

  narrow_after : after.next_serial ≤ 2 ^ 40
  narrow_after = by taken refl
    where
      by : (ts : List AreaRef) → taken ≡ ts → after.next_serial ≤ 2 ^ 40
      by [] none = let next = next_is names s change v w rest before pools taken h in let few = h.stands.narrow in let long = ap length none in omega (arith, next, few, long)
      by (t ∷ ts) some =
          let long = ap length some in
          let found = get_at taken (length ts) (omega (arith, long)) in
          let new = new_at names s change v w rest before pools taken h (length ts) found.0 found.1 in
          let is = serial_taken taken rest (length ts) found.0 h.placed.taken_are found.1 in
          let first = h.stands.blocks.next in
          let small = new.of.small in
          let next = next_is names s change v w rest before pools taken h in
          omega (arith, long, is, first, small, next)

  -- what is kept came in before
  kept_known : (k : KeptArea) → Among v.kept k → k.area.serial < s.next_serial
  kept_known k at =
      elim (stood_or_new names s change v w rest before pools taken h k.area (h.owned.kept k (subst (λ (ks : List KeptArea). Among ks k) (sym kept_same) at))) as (λ _. k.area.serial < s.next_serial) [
        | inl stood ↦ stood_known names s change v w rest before pools taken h k.area stood
        | inr new ↦ absurd (new.of.unpublished.kept k at refl)
      ]

  -- no breakpoint is another
  pub key_alike : TracesAlike after w
  key_alike =
      let was = alike_same names s change v h.sound h.fits h.stands.knows h.stands.newest_is (key_keeps change h.key) in
      record {
        fewer = λ serial function e. subst (λ (q : Published). generations.is_traced_function q serial function ≡ true) (sym newest_same) (was.fewer serial function e);
        same = λ serial function live. was.same serial function live ∙ ap (λ (q : Published). generations.is_traced_function q serial function) (sym newest_same);
      }

  -- so the state may be published
  pub key_comes_next : ComesNext names after pools w
  key_comes_next = record {
    sound = sound_after names s change v w rest before pools taken h;
    numbered = (keyed names s change v w rest before pools taken h).numbered h.stands.numbered;
    keys_once = stand_once after.keys ((keyed names s change v w rest before pools taken h).once (once_stand s.keys h.stands.keys_once));
    narrow = narrow_after;
    owned = h.owned;
    blocks = blocks_after names s change v w rest before pools taken h;
    placed = placed_after;
    images = image_after;
    kept = kept_after;
    apart = subst KeptApart (sym kept_same) h.stands.images.apart;
    words = words_after;
    dropped = subst (StaysDropped after) (sym published_same) dropped_v;
    bp = subst (λ (q : Published). q.root.bp < 2) (sym newest_same) h.stands.bp;
    knows = knows_after s change h.sound h.fits (key_sets s change h.key) h.stands.knows;
    stay = λ k at. subst (λ (q : Published). Among q.areas k.area) (sym newest_same) (h.stands.stay k (subst (λ (ks : List KeptArea). Among ks k) kept_same at));
    lives = λ k at live.
        subst (λ (q : Published). generations.is_instance q k.area.serial ≡ true) (sym newest_same)
        (kept_lives names s change v h.sound h.fits h.stands.knows h.stands.newest_is k.area.serial (kept_known k (subst (λ (ks : List KeptArea). Among ks k) kept_same at)) live);
  }
