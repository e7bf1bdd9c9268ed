-- A process that holds and drops an area, turn by turn.
use Rattle.std.proofs.Common.{◌≡◌, ℕ, suc, ◌+◌, ◌^◌, ◌<◌, ◌≤◌, inl, inr, true, List, length, length-append, ◌++◌, refl, sym, ap, subst, ◌∙◌, arith}
use Rattle.std.specs.Prelude.{Option, Some, None, slice_get, IsTrue}
use Rattle.atomic_table.specs.Seated.{TableId}
use Rattle.prgr_core.specs.declared.member.Role.{Role}
use Rattle.prgr_core.specs.declared.member.Role.TheVariants.{Follows, Leads}
use Rattle.prgr_core.specs.Members.{role_knowing}
use Rattle.prgr_core.specs.Step.{follows}
use Rattle.term_core.specs.declared.area.AreaRef.{AreaRef}
use Rattle.term_core.specs.declared.hold.Kind.TheVariants.{Frame}
use Rattle.area_core.specs.declared.table.Published.{Published}
use Rattle.area_core.specs.Generations.{has_serial, is_current}
use Rattle.marks.specs.Names.{IsAtRest}
use Rattle.marks.specs.Kept.{Under}
use Rattle.marks.specs.Steps.{HasNote}
use Rattle.shared_words.specs.declared.opening.Opening.{Opening}
use Rattle.shared_words.specs.declared.seats.Member as tokens
use Rattle.shared_words.specs.declared.view.MemberView.{MemberView}
use Rattle.shared_words.specs.Views.{newest_number}
use Rattle.shared_words.specs.Processes.{process_of, note_in, under_of, AreAtRest, AreCopied}
use Rattle.shared_words.specs.Rule.{IsBeginning}
use Rattle.shared_words.specs.Seats.{IsRooted}
use Rattle.shared_words.specs.Slots.{with_slot}
use Rattle.shared_words.specs.Kinds.{MayWait}
use Rattle.progress_words.specs.Tokens.{view_of, IsMemberOf, IsSameMember}
use Rattle.progress_words.specs.Reports.{IsAwake, HoldsReported, having_reported}
use Rattle.anchors.specs.Holds.{anchors_of, MayHold}
use Rattle.anchors.specs.Turns.{MayMark}
use Rattle.area_tests.specs.Many.{many_serials, ref_one}
use Rattle.area_tests.specs.Several.{three_published}
use Rattle.area_tests.specs.Work.{IsWorking, IsUnder, GoesOn, HasEndedTurn, turns_done}
use Rattle.area_tests.proofs.Instances.{serial_there}
use Rattle.area_tests.proofs.Turned.{turn_works, turn_under, turn_rests, turn_counts, all_rest}

-- ---- holds and drops

pub none_goes : (table : TableId) (opening : Opening) (process : ℕ) (token : tokens.Member) → IsWorking table opening process token → GoesOn table opening process token token
none_goes table opening process token h = record { works = h; under = λ p under. under; turns = refl; number = refl }

pub goes_again : (table : TableId) (opening : Opening) (process : ℕ) (a b c : tokens.Member) → GoesOn table opening process a b → GoesOn table opening process b c → GoesOn table opening process a c
goes_again table opening process a b c first second = record {
  works = second.works;
  under = λ p under. second.under p (first.under p under);
  turns = second.turns ∙ first.turns;
  number = second.number ∙ first.number;
}

-- each of the three is current under the first generation, and may be held
pub current_one : (at : ℕ) (area : AreaRef) → at < 3 → area ≡ ref_one at → is_current three_published area.serial ≡ true
current_one at area low is = ap (λ (a : AreaRef). has_serial (many_serials 3) a.serial) is ∙ serial_there 3 at low

-- its serial has room in an anchor
pub room_one : (at : ℕ) (area : AreaRef) → at < 3 → area ≡ ref_one at → area.serial < 2 ^ 62
room_one at area low is = (let same : area.serial ≡ suc at = ap (λ (a : AreaRef). a.serial) is in omega (arith, low, same))

pub may_first : (process serial : ℕ) (m : MemberView) → is_current three_published serial ≡ true → IsUnder three_published m → MayHold process Frame serial m
may_first process serial m current under = inr (ap (λ (p : Published). is_current p serial) under ∙ current)

-- ---- turns

-- the number of the next turn
pub next_turn : (process done : ℕ) (m : MemberView) → turns_done process m ≡ done → MayMark process (done + 1) m
next_turn process done m counted = inl (ap (λ (n : ℕ). n + 1) (sym counted))

pub turn_ended : (table : TableId) (opening : Opening) (process turns : ℕ) (old new : tokens.Member) → IsWorking table opening process old → IsMemberOf table new → new.number ≡ old.number → AreCopied new.anchors.items (view_of new) → view_of new ≡ with_slot process 0 turns (view_of old) → HasEndedTurn table opening process old new
turn_ended table opening process turns old new h of number copied is = record {
  works = turn_works table opening process turns old new h of copied is;
  rests = turn_rests process turns (view_of old) (view_of new) is;
  under = λ p under. turn_under process turns p (view_of old) (view_of new) is under;
  turns = turn_counts process turns (view_of old) (view_of new) is;
  number = number;
}

pub turn_after : (table : TableId) (opening : Opening) (process : ℕ) (a b c : tokens.Member) → GoesOn table opening process a b → HasEndedTurn table opening process b c → HasEndedTurn table opening process a c
turn_after table opening process a b c first second = record {
  works = second.works;
  rests = second.rests;
  under = λ p under. second.under p (first.under p under);
  turns = second.turns ∙ ap (λ (n : ℕ). n + 1) first.turns;
  number = second.number ∙ first.number;
}

pub turns_left : (table : TableId) (opening : Opening) (process done : ℕ) (old new : tokens.Member) → GoesOn table opening process old new → turns_done process (view_of old) ≡ done → turns_done process (view_of new) ≡ done
turns_left table opening process done old new goes counted = goes.turns ∙ counted

pub one_more : (process done : ℕ) (a b : MemberView) → turns_done process b ≡ turns_done process a + 1 → turns_done process a ≡ done → turns_done process b ≡ done + 1
one_more process done a b next counted = next ∙ ap (λ (n : ℕ). n + 1) counted

-- all processes of the member are then at rest
pub rests_now : (table : TableId) (opening : Opening) (process : ℕ) (old new : tokens.Member) → HasEndedTurn table opening process old new → AreAtRest (view_of new)
rests_now table opening process old new h = all_rest table opening process new h.works.ends h.rests

pub may_rest : (table : TableId) (opening : Opening) (process : ℕ) (old new : tokens.Member) → HasEndedTurn table opening process old new → MayWait (view_of new)
may_rest table opening process old new h = record { awake = h.works.ends.run.awake; follows = h.works.ends.follows; rest = rests_now table opening process old new h }

-- ---- reports

note_on : (o : Option ℕ) (u v : Under) → u.generation ≤ v.generation → HasNote o u → HasNote o v
note_on None u v later h = h
note_on (Some n) u v later h = omega (arith, later, h)

follows_on : (counter : ℕ) (role : Role) → IsTrue (follows role) → IsTrue (follows (role_knowing counter role))
follows_on counter Follows is = is
follows_on counter (Leads scans) is = is

-- a member that reports holds no earlier generation
later_held : (counter : ℕ) (old new : MemberView) → new ≡ having_reported counter new.seen old → IsBeginning old.seen new.seen → old.member.generation < length old.seen → old.member.generation ≤ new.member.generation
later_held counter old new is learnt low =
    let now : new.member.generation ≡ newest_number new.seen = ap (λ (m : MemberView). m.member.generation) is in
    let long : length new.seen ≡ length (old.seen ++ learnt.0) = ap (λ (xs : List Published). length xs) learnt.1 in
    omega (arith, now, long, low, length-append old.seen learnt.0)

pub reported_works : (Served : Published → Type 0) (table : TableId) (opening : Opening) (process generation : ℕ) (old new : tokens.Member) → IsWorking table opening process old → IsMemberOf table new → IsSameMember old new → IsAwake (view_of new) → IsRooted new.root (view_of new) → HoldsReported Served (view_of old) (view_of new) generation → IsWorking table opening process new
reported_works Served table opening process generation old new h of same awake rooted told =
    let is = told.view in
    let later = later_held told.counter (view_of old) (view_of new) is told.learnt h.ends.learnt in
    record {
      ends = record {
        of = of;
        copied = subst (λ (z : List ℕ × MemberView). AreCopied z.0 z.1) (λ i. (sym same.anchors i, sym is i)) (record { all = h.ends.copied.all; wide = λ p below. h.ends.copied.wide p below; each = λ p place below few. h.ends.copied.each p place below few });
        run = record {
          awake = awake;
          below = h.ends.run.below;
          own = h.ends.run.own ∙ sym (ap (λ (m : MemberView). m.member.number) is);
          noted = subst (λ (o : Option ℕ). HasNote o (under_of (view_of new))) (sym (ap (λ (m : MemberView). note_in m.notes process) is)) (note_on (note_in (view_of old).notes process) (under_of (view_of old)) (under_of (view_of new)) later h.ends.run.noted);
        };
        learnt = rooted.learnt;
        follows = subst (λ (m : MemberView). IsTrue (follows m.member.role)) (sym is) (follows_on told.counter (view_of old).member.role h.ends.follows);
        others = λ other apart. subst (λ (m : MemberView). IsAtRest (process_of m other)) (sym is) (h.ends.others other apart);
      };
      unkilled = λ place word s at told_kill. h.unkilled place word s (ap (λ (m : MemberView). slice_get (anchors_of m process) place) (sym is) ∙ at) told_kill;
    }

pub reported_turns : (Served : Published → Type 0) (process generation : ℕ) (old new : MemberView) → HoldsReported Served old new generation → turns_done process new ≡ turns_done process old
reported_turns Served process generation old new told = ap (λ (m : MemberView). turns_done process m) told.view
