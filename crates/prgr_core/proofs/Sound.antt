-- Each event keeps a state of lists sound.
use Rattle.std.proofs.Common.{◌≡◌, ℕ, ◌+◌, [], ◌∷◌, ◌++◌, Option, Some, None, sym, ap, subst, ◌⊎◌, inl, inr}
use Rattle.std.specs.Prelude.{slice_get, Result, Ok, Err, OnOk, OnErr}
use Rattle.prgr_core.specs.declared.member.Retirement.{Retirement}
use Rattle.prgr_core.specs.declared.progress.Progress.{Progress}
use Rattle.prgr_core.specs.declared.event.PrgrEvent.{PrgrEvent}
use Rattle.prgr_core.specs.declared.event.PrgrEvent.TheVariants.{LoadCounter, LoadRoot, Report, Lead, Scan, ScanDelay, Advance, GiveUp, Wait, Enter, Publish, Retire, Release, WatchLoad, WatchAdd, WatchRoot, WatchSub}
use Rattle.prgr_core.specs.Needs.{need_of}
use Rattle.prgr_core.specs.Machine.{machine_of}
use Rattle.prgr_core.specs.Step.{after, IsSound, progress_released, with_retirement, with_pair}
use Rattle.prgr_core.proofs.WriterChanges.{publish_keeps, retire_keeps}
use Rattle.prgr_core.proofs.SoundParts.{sound_with, is_numbered}
use Rattle.prgr_core.proofs.SoundMembers.{counter_loaded_sound, root_loaded_sound, reported_sound, waiting_sound, entering_sound}
use Rattle.prgr_core.proofs.SoundLeader.{led_sound, scanned_sound, delay_scanned_sound, advanced_sound, given_up_sound}
use Rattle.prgr_core.proofs.SoundWatchers.{watch_loaded_sound, watch_added_sound, watch_rooted_sound, watch_left_sound}
use Rattle.prgr_core.proofs.Parts.{slice_get-push}
use Rattle.std.proofs.lemmas.Option.{cond_some}

-- ---- the writer's events

released_some : (s : Progress) (g : ℕ) (need : Option ℕ) (t : Progress) → IsSound s → progress_released s g need ≡ Some t → IsSound t
released_some s g None t sound e = absurd (cc)
released_some s g (Some need) t sound e =
    let kept : IsSound (record s { needs = _ }) = sound_with (record s { needs = _ }) sound.invariant (is_numbered s sound) in
    subst IsSound (cond_some _ _ t e).1 kept

-- what was retired after a retirement was retired before, or is the newest
retired_before : (s : Progress) (n v k : ℕ) → slice_get (s.retired ++ record { generation = s.generation; need = s.counter + 2 } ∷ []) k ≡ Some (record { generation = n; need = v }) → (machine_of s).WasRetired n v ⊎ ((n ≡ s.generation) × (v ≡ s.counter + 2))
retired_before s n v k at =
    elim (slice_get-push s.retired _ k _ at) as (λ _. (machine_of s).WasRetired n v ⊎ ((n ≡ s.generation) × (v ≡ s.counter + 2))) [
      | inl before ↦ inl (k, before)
      | inr newest ↦ inr (ap (λ (r : Retirement). r.generation) newest, ap (λ (r : Retirement). r.need) newest)
    ]

published_sound : (s : Progress) → IsSound s → (t : Progress) → after s Publish ≡ Some t → IsSound t
published_sound s sound t e =
    let made : record s { generation = s.generation + 1 } ≡ t = cc in
    subst IsSound made (sound_with (record s { generation = s.generation + 1 }) (publish_keeps (machine_of s) sound.invariant) (is_numbered s sound))

-- a need that is kept besides
pub pair_sound : (s : Progress) → IsSound s → IsSound (with_pair s)
pair_sound s sound = sound_with (with_pair s) (retire_keeps (machine_of s) sound.invariant (machine_of (with_pair s)).WasRetired (λ n v was. retired_before s n v was.0 was.1)) (is_numbered s sound)

-- the need is kept, or nothing has changed
pub kept_sound : {T E : Type 0} (result : Result T E) (s t : Progress) → IsSound s → OnOk result (t ≡ with_pair s) → OnErr result (t ≡ s) → IsSound t
kept_sound (Ok x) s t sound ok err = subst IsSound (sym ok) (pair_sound s sound)
kept_sound (Err x) s t sound ok err = subst IsSound (sym err) sound

retired_sound : (s : Progress) → IsSound s → (t : Progress) → after s Retire ≡ Some t → IsSound t
retired_sound s sound t e =
    let made = cond_some _ _ t e in
    let kept = retire_keeps (machine_of s) sound.invariant (machine_of (with_retirement s)).WasRetired (λ n v was. retired_before s n v was.0 was.1) in
    subst IsSound made.1 (sound_with (with_retirement s) kept (is_numbered s sound))

-- every event
pub keeps_sound : (s : Progress) (event : PrgrEvent) (t : Progress) → IsSound s → after s event ≡ Some t → IsSound t
keeps_sound s (LoadCounter k) t sound e = counter_loaded_sound s sound k t e
keeps_sound s (LoadRoot k) t sound e = root_loaded_sound s sound k t e
keeps_sound s (Report k) t sound e = reported_sound s sound k t e
keeps_sound s (Lead k) t sound e = led_sound s sound k t e
keeps_sound s (Scan k j) t sound e = scanned_sound s sound k j t e
keeps_sound s (ScanDelay k) t sound e = delay_scanned_sound s sound k t e
keeps_sound s (Advance k) t sound e = advanced_sound s sound k t e
keeps_sound s (GiveUp k) t sound e = given_up_sound s sound k t e
keeps_sound s (Wait k) t sound e = waiting_sound s sound k t e
keeps_sound s (Enter k) t sound e = entering_sound s sound k t e
keeps_sound s Publish t sound e = published_sound s sound t e
keeps_sound s Retire t sound e = retired_sound s sound t e
keeps_sound s (Release g) t sound e = released_some s g (need_of s.needs g) t sound e
keeps_sound s (WatchLoad w) t sound e = watch_loaded_sound s sound w t e
keeps_sound s (WatchAdd w which) t sound e = watch_added_sound s sound w which t e
keeps_sound s (WatchRoot w) t sound e = watch_rooted_sound s sound w t e
keeps_sound s (WatchSub w which) t sound e = watch_left_sound s sound w which t e

-- what one event leaves, made or refused, is sound
pub applied_sound : {T E : Type 0} (result : Result T E) (s t : Progress) (event : PrgrEvent) → IsSound s → OnOk result (after s event ≡ Some t) → OnErr result (t ≡ s) → IsSound t
applied_sound (Ok x) s t event sound ok err = keeps_sound s event t sound ok
applied_sound (Err x) s t event sound ok err = subst IsSound (sym err) sound
