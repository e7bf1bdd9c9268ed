-- What stays known of a member over an attempt to lead.
use Rattle.std.proofs.Common.{◌≡◌, ℕ, Bool, true, false, List, [], ◌∷◌, refl, sym, ap, subst, ◌∙◌}
use Rattle.std.specs.Prelude.{◌==◌, IsTrue, if◌then◌else◌}
use Rattle.atomic_table.specs.Seated.{TableId}
use Rattle.prgr_core.specs.declared.member.Member.{Member}
use Rattle.prgr_core.specs.declared.member.Role.{Role}
use Rattle.prgr_core.specs.declared.member.Role.TheVariants.{Follows}
use Rattle.prgr_core.specs.Members as members
use Rattle.prgr_core.specs.Step.{follows}
use Rattle.shared_words.specs.declared.seats.Member as tokens
use Rattle.shared_words.specs.declared.view.MemberView.{MemberView}
use Rattle.shared_words.specs.Kinds.{MayLead, lead_given}
use Rattle.progress_words.specs.declared.answers.Advance.{Advance}
use Rattle.progress_words.specs.declared.answers.Advance.TheVariants.{Advanced}
use Rattle.progress_words.specs.declared.answers.Lead.{Lead}
use Rattle.progress_words.specs.declared.answers.Lead.TheVariants.{Led, Held}
use Rattle.progress_words.specs.Advances.{HasLooked, view_after, with_counter, words_found}
use Rattle.progress_words.specs.Leads as leads
use Rattle.progress_words.specs.Tokens.{IsMemberOf, IsSameMember}
use Rattle.anchors.specs.Holds.{view_of}
use Rattle.word_view.proofs.Lapping.{rests_stay}
use Rattle.word_lap.specs.Laps.{HasTried}
use Rattle.word_lap.specs.Schedulers.{IsBetweenTurns, IsToken}
use Rattle.word_lap.proofs.Tokens.{token_moved}

-- ---- what none of the steps changes

record IsMoved (old new : MemberView) : Type 0 where
  slots : new.slots ≡ old.slots
  seen : new.seen ≡ old.seen
  notes : new.notes ≡ old.notes
  number : new.member.number ≡ old.member.number
  generation : new.member.generation ≡ old.member.generation
  word : new.member.word ≡ old.member.word

moved_on : (a b c : MemberView) → IsMoved a b → IsMoved b c → IsMoved a c
moved_on a b c first second = record {
  slots = second.slots ∙ first.slots;
  seen = second.seen ∙ first.seen;
  notes = second.notes ∙ first.notes;
  number = second.number ∙ first.number;
  generation = second.generation ∙ first.generation;
  word = second.word ∙ first.word;
}

moved_to : (a b c : MemberView) → c ≡ b → IsMoved a b → IsMoved a c
moved_to a b c is h = subst (IsMoved a) (sym is) h

-- the words that were found
words_moved : (words : List ℕ) (m : MemberView) → IsMoved m (words_found words m)
words_moved [] m = record { slots = refl; seen = refl; notes = refl; number = refl; generation = refl; word = refl }
words_moved (word ∷ words) m = let h = words_moved words m in record { slots = h.slots; seen = h.seen; notes = h.notes; number = h.number; generation = h.generation; word = h.word }

after_moved : (answer : Advance) (m : MemberView) → IsMoved m (view_after answer m)
after_moved (Advanced value) m = record { slots = refl; seen = refl; notes = refl; number = refl; generation = refl; word = refl }
after_moved answer m = record { slots = refl; seen = refl; notes = refl; number = refl; generation = refl; word = refl }

counter_moved : (counter : ℕ) (m : MemberView) → IsMoved m (with_counter counter m)
counter_moved counter m = record { slots = refl; seen = refl; notes = refl; number = refl; generation = refl; word = refl }

looked_moved : (count : ℕ) (old new : MemberView) (answer : Advance) → HasLooked count old new answer → IsMoved old new
looked_moved count old new answer h =
    let one : MemberView = with_counter h.counter old in
    let two : MemberView = words_found h.words one in
    moved_to old (view_after answer two) new h.view
    (moved_on old two (view_after answer two) (moved_on old one two (counter_moved h.counter old) (words_moved h.words one)) (after_moved answer two))

given_moved : (m : MemberView) → IsMoved m (lead_given m)
given_moved m = record { slots = refl; seen = refl; notes = refl; number = refl; generation = refl; word = refl }

-- the exchange
exchanged : (leads : Bool) (m : MemberView) (member : Member) → member ≡ (if leads then members.leading m.member else m.member) → (member.number ≡ m.member.number) × (member.generation ≡ m.member.generation) × (member.word ≡ m.member.word)
exchanged true m member is = (ap (λ (x : Member). x.number) is, ap (λ (x : Member). x.generation) is, ap (λ (x : Member). x.word) is)
exchanged false m member is = (ap (λ (x : Member). x.number) is, ap (λ (x : Member). x.generation) is, ap (λ (x : Member). x.word) is)

lead_moved : (old new : MemberView) (answer : Lead) → leads.HasTried old new answer → IsMoved old new
lead_moved old new answer h =
    let member = exchanged (h.word == 0) old new.member (ap (λ (m : MemberView). m.member) h.view) in
    record {
      slots = ap (λ (m : MemberView). m.slots) h.view;
      seen = ap (λ (m : MemberView). m.seen) h.view;
      notes = ap (λ (m : MemberView). m.notes) h.view;
      number = member.0;
      generation = member.1;
      word = member.2;
    }

-- ---- the raise

raised_moved : (count : ℕ) (a b c : MemberView) (answer : Advance) → HasLooked count a b answer → c ≡ lead_given b → IsMoved a c
raised_moved count a b c answer looked given = moved_to a (lead_given b) c given (moved_on a b (lead_given b) (looked_moved count a b answer looked) (given_moved b))

pub has_raised : (count : ℕ) (a b c : MemberView) (answer : Advance) → HasLooked count a b answer → c ≡ lead_given b → HasTried a c
has_raised count a b c answer looked given =
    let h = raised_moved count a b c answer looked given in
    record { slots = h.slots; seen = h.seen; notes = h.notes; number = h.number; generation = h.generation; word = h.word; follows = ap (λ (m : MemberView). m.member.role) given }

same_on : (a b c : tokens.Member) → IsSameMember a b → IsSameMember b c → IsSameMember a c
same_on a b c first second = record {
  seat = record {
    same_table = second.seat.same_table ∙ first.seat.same_table;
    same_number = second.seat.same_number ∙ first.seat.same_number;
    same_slots = second.seat.same_slots ∙ first.seat.same_slots;
  };
  number = second.number ∙ first.number;
  anchors = second.anchors ∙ first.anchors;
}

pub token_raised : (table : TableId) (count : ℕ) (a b c : tokens.Member) (answer : Advance) → IsToken table a → IsMemberOf table c → IsSameMember a b → IsSameMember b c → b.root ≡ a.root → c.root ≡ b.root
    → HasLooked count (view_of a) (view_of b) answer → view_of c ≡ lead_given (view_of b) → IsToken table c
token_raised table count a b c answer h seat one two root again looked given =
    let moved = raised_moved count (view_of a) (view_of b) (view_of c) answer looked given in
    token_moved table a c h seat (same_on a b c one two) (again ∙ root) moved.slots moved.generation moved.seen

-- ---- the attempt

following : (r : Role) → r ≡ Follows → IsTrue (follows r)
following r is = ap follows is

pub may_lead : (m : MemberView) → IsBetweenTurns m → MayLead m
may_lead m h = record { awake = h.awake; follows = following m.member.role h.follows }

pub token_led : (table : TableId) (old new : tokens.Member) (answer : Lead) → IsToken table old → IsMemberOf table new → IsSameMember old new → new.root ≡ old.root → leads.HasTried (view_of old) (view_of new) answer → IsToken table new
token_led table old new answer h seat same root tried =
    let moved = lead_moved (view_of old) (view_of new) answer tried in
    token_moved table old new h seat same root moved.slots moved.generation moved.seen

-- the member led, and raised the counter
pub tried_here : (a b c : MemberView) (answer : Lead) → leads.HasTried a b answer → HasTried b c → HasTried a c
tried_here a b c answer first second =
    let h = lead_moved a b answer first in
    record {
      slots = second.slots ∙ h.slots;
      seen = second.seen ∙ h.seen;
      notes = second.notes ∙ h.notes;
      number = second.number ∙ h.number;
      generation = second.generation ∙ h.generation;
      word = second.word ∙ h.word;
      follows = second.follows;
    }

-- another one leads
pub tried_there : (old new : MemberView) (answer : Lead) → IsBetweenTurns old → leads.HasTried old new answer → (answer ≡ Led → ⊥) → ((by : ℕ) → answer ≡ Held by → new ≡ leads.held_by by old) → HasTried old new
tried_there old new Led h tried not_led held = absurd (not_led refl)
tried_there old new (Held by) h tried not_led held =
    let is = held by refl in
    record {
      slots = ap (λ (m : MemberView). m.slots) is;
      seen = ap (λ (m : MemberView). m.seen) is;
      notes = ap (λ (m : MemberView). m.notes) is;
      number = ap (λ (m : MemberView). m.member.number) is;
      generation = ap (λ (m : MemberView). m.member.generation) is;
      word = ap (λ (m : MemberView). m.member.word) is;
      follows = ap (λ (m : MemberView). m.member.role) is ∙ h.follows;
    }

pub between_tried : (old new : MemberView) → IsBetweenTurns old → HasTried old new → IsBetweenTurns new
between_tried old new h tried = record {
  awake = subst (λ (n : ℕ). IsTrue (members.is_value n)) (sym tried.word) h.awake;
  follows = tried.follows;
  rest = rests_stay old new tried.slots h.rest;
}
