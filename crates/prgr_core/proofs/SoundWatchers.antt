-- The events of a watcher keep a state of lists sound.
use Rattle.std.proofs.Common.{◌≡◌, ℕ, ◌+◌, ◌-◌, ◌≤◌, true, false, Some, None, ◌&&◌, refl, sym, subst, arith}
use Rattle.std.specs.Prelude.{slice_get, slice_set, if◌then◌else◌}
use Rattle.prgr_core.specs.declared.watcher.Delay.{Delay}
use Rattle.prgr_core.specs.declared.watcher.Watcher.{Watcher}
use Rattle.prgr_core.specs.declared.progress.Progress.{Progress}
use Rattle.prgr_core.specs.declared.event.PrgrEvent.TheVariants.{WatchLoad, WatchAdd, WatchRoot, WatchSub}
use Rattle.prgr_core.specs.Watchers.{delay_numbered, other_delay, holds_delay, holders, may_look, may_add, is_claimed, may_leave, counter_watched, delay_added, root_watched, delay_dropped}
use Rattle.prgr_core.specs.Machine.{machine_of}
use Rattle.prgr_core.specs.Step.{with_watcher, delay_count, after, raised, lowered, IsSound}
use Rattle.prgr_core.proofs.Delays.{hold_set, hold_kept, holders_gain, holders_lose, holders_keep, is_held, counted_after, counted_still}
use Rattle.prgr_core.proofs.WatcherSteps.{adds_new}
use Rattle.prgr_core.proofs.WatcherChanges.{WatcherFits, counter_watched_fits, delay_added_fits, root_watched_fits, delay_dropped_fits}
use Rattle.prgr_core.proofs.SoundParts.{watcher_sound}
use Rattle.prgr_core.proofs.Parts.{and_then_some}
use Rattle.std.proofs.lemmas.Bool.{and_parts}
use Rattle.std.proofs.lemmas.Option.{cond_some}

-- a watcher that holds what the one before held may stand in its place
held_still_sound : (s : Progress) → IsSound s → (k : ℕ) (a b : Watcher) → slice_get s.watchers k ≡ Some a → b.number ≡ a.number → ((d : Delay) → holds_delay d b ≡ holds_delay d a) → WatcherFits (machine_of s) b → IsSound (with_watcher s k b)
held_still_sound s sound k a b at same held fits =
    watcher_sound s sound k a b s.delay_even s.delay_odd at same
    (counted_still s.delay_even s.delay_odd s.watchers (slice_set s.watchers k b) sound.invariant.delays_counted (λ d. holders_keep d s.watchers k a b at (held d)))
    fits

pub watch_loaded_sound : (s : Progress) → IsSound s → (k : ℕ) (t : Progress) → after s (WatchLoad k) ≡ Some t → IsSound t
watch_loaded_sound s sound k t e =
    let found = and_then_some _ _ t e in
    let a = found.0 in
    let made = cond_some (may_look a.phase) (with_watcher s k (counter_watched s.counter a)) t found.2 in
    let fits = counter_watched_fits (machine_of s) sound.invariant a (k, found.1) in
    subst IsSound made.1 (held_still_sound s sound k a (counter_watched s.counter a) found.1 refl (λ d. refl) fits)

pub watch_rooted_sound : (s : Progress) → IsSound s → (k : ℕ) (t : Progress) → after s (WatchRoot k) ≡ Some t → IsSound t
watch_rooted_sound s sound k t e =
    let found = and_then_some _ _ t e in
    let a = found.0 in
    let made = cond_some (is_claimed a.phase) (with_watcher s k (root_watched s.generation a)) t found.2 in
    let fits = root_watched_fits (machine_of s) sound.invariant a (k, found.1) made.0 in
    subst IsSound made.1 (held_still_sound s sound k a (root_watched s.generation a) found.1 refl (λ d. refl) fits)

pub watch_added_sound : (s : Progress) → IsSound s → (k which : ℕ) (t : Progress) → after s (WatchAdd k which) ≡ Some t → IsSound t
watch_added_sound s sound k which t e =
    let found = and_then_some _ _ t e in
    let a = found.0 in
    let named = and_then_some (λ delay. if may_add a.phase delay then Some (raised s k a delay) else None) (delay_numbered which) t found.2 in
    let d = named.0 in
    let made = cond_some (may_add a.phase d) (raised s k a d) t named.2 in
    let b = delay_added d a in
    let each = sound.invariant.each_watcher a (k, found.1) in
    let more = holders_gain d s.watchers k a b found.1 (adds_new a.phase d a.holds_even a.holds_odd made.0 each.holds_as_phase) (hold_set d true a) in
    let others = holders_keep (other_delay d) s.watchers k a b found.1 (hold_kept d true a) in
    let before = sound.invariant.delays_counted d in
    let counted = counted_after d s.delay_even s.delay_odd (delay_count s d + 1) s.watchers (slice_set s.watchers k b) sound.invariant.delays_counted (omega (arith, more, before)) others in
    let fits = delay_added_fits (machine_of s) sound.invariant a (k, found.1) d made.0 in
    subst IsSound made.1 (watcher_sound s sound k a b _ _ found.1 refl counted fits)

pub watch_left_sound : (s : Progress) → IsSound s → (k which : ℕ) (t : Progress) → after s (WatchSub k which) ≡ Some t → IsSound t
watch_left_sound s sound k which t e =
    let found = and_then_some _ _ t e in
    let a = found.0 in
    let named = and_then_some (λ delay. if may_leave a.phase && holds_delay delay a then Some (lowered s k a delay) else None) (delay_numbered which) t found.2 in
    let d = named.0 in
    let made = cond_some (may_leave a.phase && holds_delay d a) (lowered s k a d) t named.2 in
    let tests = and_parts (may_leave a.phase) (holds_delay d a) made.0 in
    let b = delay_dropped d a in
    let less = holders_lose d s.watchers k a b found.1 tests.1 (hold_set d false a) in
    let others = holders_keep (other_delay d) s.watchers k a b found.1 (hold_kept d false a) in
    let before = sound.invariant.delays_counted d in
    let counted = counted_after d s.delay_even s.delay_odd (delay_count s d - 1) s.watchers (slice_set s.watchers k b) sound.invariant.delays_counted (omega (arith, less, before)) others in
    let fits = delay_dropped_fits (machine_of s) sound.invariant a (k, found.1) d in
    subst IsSound made.1 (watcher_sound s sound k a b _ _ found.1 refl counted fits)

-- a count that a watcher of a sound state holds is above 0
pub held_count : (s : Progress) → IsSound s → (k : ℕ) (a : Watcher) → Some a ≡ slice_get s.watchers k → (d : Delay) → holds_delay d a ≡ true → 1 ≤ delay_count s d
held_count s sound k a at d held =
    let some = is_held d s.watchers k a (sym at) held in
    let counted : delay_count s d ≡ holders d s.watchers = sound.invariant.delays_counted d in
    omega (arith, some, counted)
