-- A state of lists in which one member or one watcher has changed is sound.
use Rattle.std.proofs.lemmas.List.{length-set}
use Rattle.std.proofs.Common.{◌≡◌, ℕ, ◌≤◌, List, length, Some, sym, ◌∙◌, ap, subst, arith, ◌⊎◌, inl, inr}
use Rattle.std.specs.Prelude.{slice_get, slice_set}
use Rattle.prgr_core.specs.declared.member.TheConstants.{MOST_MEMBERS}
use Rattle.prgr_core.specs.declared.watcher.TheConstants.{MOST_WATCHERS}
use Rattle.prgr_core.specs.declared.member.Member.{Member}
use Rattle.prgr_core.specs.declared.watcher.Delay.{Delay}
use Rattle.prgr_core.specs.declared.watcher.Watcher.{Watcher}
use Rattle.prgr_core.specs.declared.progress.Progress.{Progress}
use Rattle.prgr_core.specs.Watchers.{of_delay}
use Rattle.prgr_core.specs.Machine.{machine_of, IsAmongWatchers}
use Rattle.prgr_core.specs.Invariant.{ProgressInvariant, CountsHolders}
use Rattle.prgr_core.specs.Step.{with_member, IsSound}
use Rattle.prgr_core.proofs.Frames.{Becomes}
use Rattle.prgr_core.proofs.MemberChanges.{FitsIn, member_changes}
use Rattle.prgr_core.proofs.WatcherChanges.{WatcherFits, ComesIn, watcher_changes}
use Rattle.prgr_core.proofs.Parts.{slice_get-slice_set}

-- member k of a sound state is the member with that number
pub is_member : (s : Progress) → IsSound s → (k : ℕ) (a : Member) → slice_get s.members k ≡ Some a → slice_get s.members a.number ≡ Some a
is_member s sound k a at = subst (λ n. slice_get s.members n ≡ Some a) (sym (sound.numbered k a at)) at

-- a write at place k makes one member another
pub becomes : (s : Progress) → IsSound s → (k : ℕ) (a b : Member) → slice_get s.members k ≡ Some a → b.number ≡ a.number → Becomes (λ x. slice_get s.members x.number ≡ Some x) (λ x. slice_get (slice_set s.members k b) x.number ≡ Some x) a b
becomes s sound k a b at same = record {
  was = is_member s sound k a at;
  each = λ x is. elim (slice_get-slice_set s.members k b x.number x is) as (λ _. (x ≡ b) ⊎ ((slice_get s.members x.number ≡ Some x) × (x.number ≡ b.number → ⊥))) [
    | inl here ↦ inl here.1
    | inr other ↦ inr (other.1, λ e. other.0 (e ∙ same ∙ sound.numbered k a at))
  ];
}

-- members and watchers are numbered by their places, and not too many
pub record IsNumbered (members : List Member) (watchers : List Watcher) : Type 0 where
  pub numbered : (k : ℕ) (member : Member) → slice_get members k ≡ Some member → member.number ≡ k
  pub few : length members ≤ MOST_MEMBERS
  pub watchers_numbered : (k : ℕ) (watcher : Watcher) → slice_get watchers k ≡ Some watcher → watcher.number ≡ k
  pub watchers_few : length watchers ≤ MOST_WATCHERS

-- those of a sound state are
pub is_numbered : (s : Progress) → IsSound s → IsNumbered s.members s.watchers
is_numbered s sound = record { numbered = sound.numbered; few = sound.few; watchers_numbered = sound.watchers_numbered; watchers_few = sound.watchers_few }

-- a member of the same number changes nothing in that
pub still_numbered : (s : Progress) → IsSound s → (k : ℕ) (a b : Member) → slice_get s.members k ≡ Some a → b.number ≡ a.number → IsNumbered (slice_set s.members k b) s.watchers
still_numbered s sound k a b at same = record {
  numbered = λ j x is. elim (slice_get-slice_set s.members k b j x is) as (λ _. x.number ≡ j) [
    | inl here ↦ ap (λ (y : Member). y.number) here.1 ∙ same ∙ sound.numbered k a at ∙ sym here.0
    | inr other ↦ sound.numbered j x other.1
  ];
  few = let few = sound.few in omega (arith, length-set s.members k b);
  watchers_numbered = sound.watchers_numbered;
  watchers_few = sound.watchers_few;
}

-- a watcher of the same number changes nothing in that
watchers_still_numbered : (s : Progress) → IsSound s → (k : ℕ) (a b : Watcher) → slice_get s.watchers k ≡ Some a → b.number ≡ a.number → IsNumbered s.members (slice_set s.watchers k b)
watchers_still_numbered s sound k a b at same = record {
  numbered = sound.numbered;
  few = sound.few;
  watchers_numbered = λ j x is. elim (slice_get-slice_set s.watchers k b j x is) as (λ _. x.number ≡ j) [
    | inl here ↦ ap (λ (y : Watcher). y.number) here.1 ∙ same ∙ sound.watchers_numbered k a at ∙ sym here.0
    | inr other ↦ sound.watchers_numbered j x other.1
  ];
  watchers_few = let few = sound.watchers_few in omega (arith, length-set s.watchers k b);
}

-- what makes a state sound
pub sound_with : (t : Progress) → ProgressInvariant (machine_of t) → IsNumbered t.members t.watchers → IsSound t
sound_with t invariant is = record { invariant = invariant; numbered = is.numbered; few = is.few; watchers_numbered = is.watchers_numbered; watchers_few = is.watchers_few }

-- after a write at place k each watcher is the one written, or was there before
comes_in : (ws : List Watcher) (k : ℕ) (b : Watcher) → ComesIn ws (slice_set ws k b) b
comes_in ws k b w is = elim (slice_get-slice_set ws k b is.0 w is.1) as (λ _. (w ≡ b) ⊎ IsAmongWatchers ws w) [
  | inl here ↦ inl here.1
  | inr other ↦ inr (is.0, other.1)
]

-- a watcher that fits may stand in place of the one that was there, with the counts of the new holders
pub watcher_sound : (s : Progress) → IsSound s → (k : ℕ) (a b : Watcher) (even odd : ℕ) → slice_get s.watchers k ≡ Some a → b.number ≡ a.number → ((delay : Delay) → CountsHolders (slice_set s.watchers k b) delay (of_delay delay even odd)) → WatcherFits (machine_of s) b → IsSound (record s { watchers = slice_set s.watchers k b; delay_even = even; delay_odd = odd })
watcher_sound s sound k a b even odd at same counted fits =
    sound_with (record s { watchers = slice_set s.watchers k b; delay_even = even; delay_odd = odd })
    (watcher_changes (machine_of s) (slice_set s.watchers k b) even odd b sound.invariant (comes_in s.watchers k b) counted fits)
    (watchers_still_numbered s sound k a b at same)

-- a member that fits may stand in place of the one that was there
pub member_sound : (s : Progress) → IsSound s → (k : ℕ) (a b : Member) → slice_get s.members k ≡ Some a → b.number ≡ a.number → FitsIn (machine_of s) b → IsSound (with_member s k b)
member_sound s sound k a b at same fits =
    sound_with (with_member s k b)
    (member_changes (machine_of s) (λ x. slice_get (slice_set s.members k b) x.number ≡ Some x) a b sound.invariant (becomes s sound k a b at same) fits)
    (still_numbered s sound k a b at same)
