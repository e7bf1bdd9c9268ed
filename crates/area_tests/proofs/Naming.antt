-- What a member under the generation of seventeen instances may name.
use Rattle.std.proofs.Common.{◌≡◌, ℕ, ◌+◌, ◌≤◌, inl, inr, sym, ap}
use Rattle.term_core.specs.declared.hold.Kind.{Kind}
use Rattle.term_core.specs.declared.hold.Kind.TheVariants.{Frame, Literal}
use Rattle.shared_words.specs.declared.view.MemberView.{MemberView}
use Rattle.shared_words.specs.Views.{published_at}
use Rattle.anchors.specs.Holds.{anchors_of, HoldsAnchors, MayHold, HasHeld}
use Rattle.anchors.specs.Drops.{HasDropped, IsDoomed}
use Rattle.anchors.specs.Turns.{MayMark}
use Rattle.area_core.specs.declared.table.Published.{Published}
use Rattle.area_core.specs.Generations.{is_doomed_area}
use Rattle.area_tests.specs.Many.{many_published}
use Rattle.area_tests.specs.Work.{IsUnder, turns_done}
use Rattle.area_tests.proofs.Many.{current_many}

-- each instance for a frame
pub may_frame : (process serial : ℕ) (m : MemberView) → IsUnder many_published m → 1 ≤ serial → serial ≤ 17 → MayHold process Frame serial m
may_frame process serial m under first last = inr (current_many (published_at m.seen m.member.generation) serial under first last)

-- what it names for a frame for a literal too
pub may_literal : (process serial : ℕ) (m : MemberView) → HoldsAnchors Frame (anchors_of m process) serial → MayHold process Literal serial m
may_literal process serial m held = inr (inr held)

-- what it named it names once it names more
pub still_frame : (process serial : ℕ) (kind : Kind) (old new : MemberView) → HasHeld process kind serial old new → HoldsAnchors Frame (anchors_of old process) serial → HoldsAnchors Frame (anchors_of new process) serial
still_frame process serial kind old new held frame = (held.names Frame serial).1 (inl frame)

-- the literal is left where the frame is dropped
pub literal_left : (process serial : ℕ) (old new : MemberView) → HasDropped process Frame serial old new → HoldsAnchors Literal (anchors_of old process) serial → HoldsAnchors Literal (anchors_of new process) serial
literal_left process serial old new dropped held = (dropped.names Literal serial).1 (held, λ pair. differ pair.0)
  where
    differ : Literal ≡ Frame → ⊥
    differ e = (cc)

pub doomed_many : (m : MemberView) → IsUnder many_published m → IsDoomed 16 m
doomed_many m under = ap (λ (p : Published). is_doomed_area p 16) under

-- the first turn may end
pub next_mark : (m : MemberView) → turns_done 0 m ≡ 0 → MayMark 0 1 m
next_mark m none = inl (sym (ap (λ (n : ℕ). n + 1) none))
