use Rattle.std.proofs.Common.{ℕ, ◌-◌, List, take, refl, arith, inl, inr}
use Rattle.std.specs.Prelude.{unwrap_or, slice_get}
use Rattle.prgr_core.specs.declared.member.Member.{Member}
use Rattle.prgr_core.specs.declared.watcher.Watcher.{Watcher}
use Rattle.prgr_core.specs.declared.progress.Progress.{Progress}
use Rattle.prgr_core.specs.declared.event.PrgrEvent.{PrgrEvent}
use Rattle.prgr_core.specs.Step.{after_all, progress_opening, opening_member, opening_watcher}
use Rattle.prgr_core.specs.Examples.{released_too_soon, confirmed_with_old_root, woken_without_entering, advanced_over_a_claim, claimed_with_one_count}
use Rattle.prgr_core.proofs.laws.breaking_runs_stop.Goals as goal

-- where a run of so many members and watchers comes before the event of an index
abbrev comes_to : ℕ → ℕ → List PrgrEvent → ℕ → Progress
comes_to members watchers events index = unwrap_or (after_all (progress_opening members watchers) (take (index - 1) events)) (progress_opening members watchers)

-- the first member there
abbrev first_of : Progress → Member
first_of s = unwrap_or (slice_get s.members 0) (opening_member 0)

-- the first watcher there
abbrev first_watcher_of : Progress → Watcher
first_watcher_of s = unwrap_or (slice_get s.watchers 0) (opening_watcher 0)

pub returns-clause-need : goal.returns-clause-need
returns-clause-need c =
    let s = comes_to 1 0 released_too_soon 6 in
    (s, record { counted = omega arith; before = refl; refused = refl }, inl (first_of s, refl, inl (omega arith, omega arith), refl))

pub returns-clause-root : goal.returns-clause-root
returns-clause-root c =
    let s = comes_to 1 0 confirmed_with_old_root 7 in
    (s, record { counted = omega arith; before = refl; refused = refl }, inl (first_of s, refl, inl (omega arith, omega arith), refl))

pub returns-clause-entering : goal.returns-clause-entering
returns-clause-entering c =
    let s = comes_to 2 0 woken_without_entering 2 in
    (s, record { counted = omega arith; before = refl; refused = refl }, inl (first_of s, refl, inl (omega arith, omega arith), refl))

pub returns-clause-delay : goal.returns-clause-delay
returns-clause-delay c =
    let s = comes_to 1 1 advanced_over_a_claim 16 in
    (s, record { counted = omega arith; before = refl; refused = refl }, inr (first_watcher_of s, (0, refl), (1, refl), refl))

pub returns-clause-claim : goal.returns-clause-claim
returns-clause-claim c =
    let s = comes_to 1 1 claimed_with_one_count 13 in
    (s, record { counted = omega arith; before = refl; refused = refl }, inl (first_of s, refl, inl (omega arith, omega arith), refl))
