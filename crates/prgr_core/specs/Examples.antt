-- Runs that would break grace if the machine were a little weaker.
use Rattle.std.specs.Prelude.{ℕ, List, [], ◌∷◌, ◌⊎◌}
use Rattle.prgr_core.specs.declared.progress.Progress.{Progress}
use Rattle.prgr_core.specs.declared.event.PrgrEvent.{PrgrEvent}
use Rattle.prgr_core.specs.declared.event.PrgrEvent.TheVariants.{LoadCounter, LoadRoot, Report, Lead, Scan, ScanDelay, Advance, Wait, Publish, Retire, Release, WatchLoad, WatchAdd, WatchRoot}
use Rattle.prgr_core.specs.Machine.{machine_of, IsReadByMember, IsReadByWatcher}
use Rattle.prgr_core.specs.Step.{StopsAt}

-- with a need of one value, the retirement would be released while the member holds generation 0
abbrev pub released_too_soon : List PrgrEvent
released_too_soon = Publish ∷ Retire ∷ Lead 0 ∷ Scan 0 0 ∷ Advance 0 ∷ Release 1 ∷ []

-- if a report needed no root, the member would confirm the need and hold generation 0
abbrev pub confirmed_with_old_root : List PrgrEvent
confirmed_with_old_root =
    Publish ∷ Retire ∷ Lead 0 ∷ Scan 0 0 ∷ Advance 0 ∷ LoadCounter 0 ∷ Report 0 ∷ Scan 0 0 ∷ Advance 0 ∷ Release 1 ∷ []

-- if a waiting member could load the counter, it would be passed over with what it has loaded, and read generation 0
abbrev pub woken_without_entering : List PrgrEvent
woken_without_entering =
    Wait 1 ∷ LoadCounter 1 ∷ LoadRoot 1 ∷ Publish ∷ Retire ∷ Lead 0 ∷ Scan 0 0 ∷ Scan 0 1 ∷ Advance 0
    ∷ LoadCounter 0 ∷ LoadRoot 0 ∷ Report 0 ∷ Scan 0 0 ∷ Scan 0 1 ∷ Advance 0 ∷ Release 1 ∷ Report 1 ∷ []

-- if a leader did not look at the delay, the retirement would be released while the watcher holds generation 0
abbrev pub advanced_over_a_claim : List PrgrEvent
advanced_over_a_claim =
    WatchLoad 0 ∷ WatchAdd 0 1 ∷ WatchLoad 0 ∷ WatchRoot 0 ∷ Publish ∷ Retire ∷ Lead 0 ∷ Scan 0 0 ∷ ScanDelay 0 ∷ Advance 0
    ∷ LoadCounter 0 ∷ LoadRoot 0 ∷ Report 0 ∷ Scan 0 0 ∷ ScanDelay 0 ∷ Advance 0 ∷ Release 1 ∷ []

-- if a watcher could claim with one count where the counter has gone on, the delay would have been scanned before that
-- count was raised, and the retirement would be released while the watcher holds generation 0
abbrev pub claimed_with_one_count : List PrgrEvent
claimed_with_one_count =
    WatchLoad 0 ∷ Lead 0 ∷ Scan 0 0 ∷ ScanDelay 0 ∷ Advance 0 ∷ LoadCounter 0 ∷ LoadRoot 0 ∷ Report 0 ∷ Scan 0 0 ∷ ScanDelay 0
    ∷ WatchAdd 0 1 ∷ WatchLoad 0 ∷ WatchRoot 0 ∷ Publish ∷ Retire ∷ Advance 0 ∷ LoadCounter 0 ∷ LoadRoot 0 ∷ Report 0
    ∷ Scan 0 0 ∷ ScanDelay 0 ∷ Advance 0 ∷ Release 1 ∷ []

-- the run stops at the event of this index, while a member or a watcher reads generation 0
abbrev pub StopsBeforeHarm : Progress → List PrgrEvent → ℕ → Type 0
StopsBeforeHarm old events index =
    (s : Progress) × StopsAt old events index s × (IsReadByMember (machine_of s) 0 ⊎ IsReadByWatcher (machine_of s) 0)
