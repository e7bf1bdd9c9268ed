-- What a call leaves of a token: it is of the same table, and its view is of the same sort.
use Rattle.std.proofs.Common.{◌≡◌, ℕ, sym, ap, subst, ◌∙◌}
use Rattle.atomic_table.specs.Seated.{TableId}
use Rattle.shared_words.specs.declared.seats.Member as tokens
use Rattle.shared_words.specs.declared.view.MemberView.{MemberView}
use Rattle.shared_words.specs.declared.view.View.TheVariants.{Member}
use Rattle.shared_words.specs.Seats.{SeatPlace, IsSeatOf, IsSameSeat, IsMemberSeat, member_of}
use Rattle.progress_words.specs.Tokens.{view_of, IsMemberOf}

-- the seat is still of this table
pub still_of : (table : TableId) (old new : SeatPlace) → IsSeatOf table old → IsSameSeat old new → IsSeatOf table new
still_of table old new of same = record { same_table = same.same_table ∙ of.same_table; no_slots = same.same_slots ∙ of.no_slots }

-- the view of a seat that has this member's view is this
pub view_is : (seat : SeatPlace) (m : MemberView) → seat.me.0 ≡ Member m → member_of seat.me.0 ≡ m
view_is seat m at = ap member_of at

-- the seat is still that of a member, whose number is the same
pub still_seat : (table : TableId) (number : ℕ) (old new : SeatPlace) (m : MemberView) → IsMemberSeat table number old → IsSameSeat old new → new.me.0 ≡ Member m → m.member.number ≡ (member_of old.me.0).member.number → IsMemberSeat table number new
still_seat table number old new m is same at numbered = record {
  few = is.few;
  of_table = still_of table old new is.of_table same;
  view = at ∙ ap Member (sym (view_is new m at));
  numbered = ap (λ (x : MemberView). x.member.number) (view_is new m at) ∙ numbered ∙ is.numbered;
}

-- the token is still one of this table
pub still_token : (table : TableId) (old new : tokens.Member) (m : MemberView) → IsMemberOf table old → IsSameSeat old.seat new.seat → new.number ≡ old.number → new.seat.me.0 ≡ Member m → m.member.number ≡ (view_of old).member.number → IsMemberOf table new
still_token table old new m is same number at numbered =
    subst (λ (n : ℕ). IsMemberSeat table n new.seat) (sym number) (still_seat table old.number old.seat new.seat m is same at numbered)

-- two steps leave the same seat
pub same_again : (a b c : SeatPlace) → IsSameSeat a b → IsSameSeat b c → IsSameSeat a c
same_again a b c first second = record {
  same_table = second.same_table ∙ first.same_table;
  same_number = second.same_number ∙ first.same_number;
  same_slots = second.same_slots ∙ first.same_slots;
}
