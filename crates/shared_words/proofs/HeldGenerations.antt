-- The generation that a seat holds is readable.
use Rattle.std.proofs.Common.{◌≡◌, ℕ, zero, suc, List, sym, ap, ◌∙◌}
use mathlib.Core.Option.{some, some-injective}
use lib.ListN.{get_elem?}
use Rattle.std.specs.Prelude.{Some}
use Rattle.std.specs.Option.{option_and_then}
use Rattle.atomic_table.specs.Table.{State}
use Rattle.prgr_core.specs.declared.progress.Progress.{Progress}
use Rattle.area_core.specs.declared.event.SeatName.{SeatName}
use Rattle.area_core.specs.declared.event.SeatName.TheVariants as names
use Rattle.area_core.specs.declared.table.Published.{Published}
use Rattle.area_core.specs.Readers.{held_by, held_by_member, held_by_watcher}
use Rattle.area_core.specs.Step.{IsReadable}
use Rattle.area_core.proofs.Held.{held_readable}
use Rattle.area_core.proofs.UnreadStores.{seat_held}
use Rattle.shared_words.specs.declared.opening.Opening.{Opening}
use Rattle.shared_words.specs.declared.view.View.{View}
use Rattle.shared_words.specs.declared.view.View.TheVariants.{Writer, Member, Watcher, Note, Spent}
use Rattle.shared_words.specs.Views.{held_last}
use Rattle.shared_words.specs.Shown.{progress_of, state_of}
use Rattle.shared_words.specs.Rule.{RunningRule}
use Rattle.shared_words.proofs.ShownMembers.{shown_at}
use Rattle.shared_words.proofs.WatcherFrames.{watcher_here}

module _ {Served : Published → Type 0} {opening : Opening} (s : State (Unit {0}) View) (r : RunningRule Served opening s) where
  -- the state of the machine
  abbrev q : Progress
  q = progress_of s.words r.writer r.seats

  by_seat : (seat : SeatName) (g : ℕ) → held_by q seat ≡ Some g → IsReadable (state_of s.words r.writer r.seats) g
  by_seat seat g holds = held_readable q r.machine.progress g (seat_held q seat g holds)

  behind : (k g : ℕ) (v : View) → get_elem? r.seats k ≡ some v → held_last v ≡ Some g → IsReadable (state_of s.words r.writer r.seats) g
  behind k g (Writer w) here holds = absurd (r.each_seat k (Writer w) here)
  behind k g (Member m) here holds = by_seat (names.Member k) g (ap (option_and_then held_by_member) (shown_at r.writer.members r.seats k m (r.each_seat k (Member m) here).made here) ∙ holds)
  behind k g (Watcher v) here holds = by_seat (names.Watcher v.watcher.number) g (ap (option_and_then held_by_watcher) (watcher_here s r k v here) ∙ holds)
  behind k g (Note n) here holds = absurd (cc)
  behind k g Spent here holds = absurd (cc)

  pub readable : (id g : ℕ) (v : View) → get_elem? s.views id ≡ some v → held_last v ≡ Some g → IsReadable (state_of s.words r.writer r.seats) g
  readable zero g v at holds =
      let is : Writer r.writer ≡ v = some-injective (Writer r.writer) v (ap (λ (vs : List View). get_elem? vs 0) (sym r.views) ∙ at) in
      by_seat names.Writer g (ap held_last is ∙ holds)
  readable (suc k) g v at holds = behind k g v (ap (λ (vs : List View). get_elem? vs (suc k)) (sym r.views) ∙ at) holds
