-- Areas that are retired stay so while others are taken, and until a wait is over.
use Rattle.std.proofs.Common.{◌≡◌, ℕ, suc, ◌+◌, ◌-◌, length, sym, ap, subst, ◌∙◌}
use Rattle.std.specs.Prelude.{Some}
use Rattle.prgr_core.proofs.Parts.{some_same}
use Rattle.shared_words.specs.declared.view.WriterView.{WriterView}
use Rattle.shared_words.proofs.ShownMembers.{still_at}
use Rattle.progress_words.specs.Needs.{HasTaken, HasLoadedCounter}
use Rattle.literal_areas.specs.declared.areas.Areas.{Areas}
use Rattle.literal_areas.specs.declared.blocks.Pool.{Pool}
use Rattle.literal_areas.specs.declared.blocks.BlockUse.TheVariants.{Free, Live, Retired}
use Rattle.literal_areas.specs.declared.taking.Take.{Take}
use Rattle.literal_areas.specs.declared.taking.Take.TheVariants.{Area, AllLive, AwaitRelease}
use Rattle.literal_areas.specs.Blocks.{use_of, HasAnswered}
use Rattle.literal_areas.specs.Owned.{AreOf}
use Rattle.literal_areas.proofs.Uses.{use_other}
use Rattle.literal_areas.proofs.Listed.{owned_counted}
use Rattle.area_tests.specs.Gone.{AreGone}

-- what is retired stays so
still_retired : (pool : Pool) (old new : Areas) (answer : Take) (block serial since : ℕ) → HasAnswered pool old new answer → use_of old block ≡ Some (Retired serial since) → use_of new block ≡ Some (Retired serial since)
still_retired pool old new (Area area) block serial since told used =
    ap (λ (s : Areas). use_of s block) told.after ∙ use_other (record old { next = old.next + 1 }) area.block block Free (Live area.serial) told.block.free (λ same. busy (some_same (Retired serial since) Free (sym used ∙ ap (use_of old) same ∙ told.block.free))) ∙ used
  where
    busy : Retired serial since ≡ Free → ⊥
    busy e = (cc)
still_retired pool old new AllLive block serial since told used = ap (λ (s : Areas). use_of s block) told.same ∙ used
still_retired pool old new AwaitRelease block serial since told used = ap (λ (s : Areas). use_of s block) told.same ∙ used

pub gone_after : (pool : Pool) (done last : ℕ) (old new : Areas) (answer : Take) → HasAnswered pool old new answer → ((v : WriterView) → AreOf old v → AreOf new v) → (w : WriterView) → AreGone done last old w → AreGone done last new w
gone_after pool done last old new answer told owned w h = record {
  owned = owned w h.owned;
  used = λ i first low. still_retired pool old new answer (9 + i) (suc i) 2 told (h.used i first low);
  published = h.published;
}

-- ---- the wait

-- a load of the counter leaves it as it is
pub gone_counted : (done last : ℕ) (s : Areas) (w v : WriterView) → HasLoadedCounter w v → AreGone done last s w → AreGone done last s v
gone_counted done last s w v loaded h = record {
  owned = owned_counted s w v loaded h.owned;
  used = h.used;
  published = ap (λ (x : WriterView). length x.published) loaded.view ∙ h.published;
}

-- a value that is kept stays kept
pub taken_still : (w v : WriterView) (need : ℕ) → HasLoadedCounter w v → HasTaken w 2 need → HasTaken v 2 need
taken_still w v need loaded taken = subst (λ (x : WriterView). HasTaken x 2 need) (sym loaded.view) (taken.0, still_at w.pairs _ taken.0 _ taken.1)

pub taken_newest : (last : ℕ) (s : Areas) (w v : WriterView) (need : ℕ) → AreGone 0 last s w → HasTaken v (length w.published - 1) need → HasTaken v 2 need
taken_newest last s w v need h taken = subst (λ (n : ℕ). HasTaken v n need) (ap (λ (n : ℕ). n - 1) h.published) taken
