-- The tokens of a table of two members, put together again for its end.
use Rattle.std.proofs.Common.{◌≡◌, ℕ, zero, suc, [], ◌∷◌, sym, ap, subst, ◌∙◌}
use Rattle.std.specs.Prelude.{Some, slice_get}
use Rattle.atomic_table.specs.Seated.{TableId}
use Rattle.shared_words.specs.declared.seats.Member as tokens
use Rattle.shared_words.specs.declared.view.MemberView.{MemberView}
use Rattle.shared_words.specs.Seats.{IsMemberSeat}
use Rattle.shared_words.specs.Opening.{member_begun}
use Rattle.shared_words.specs.Closing.{AreAllMembers}
use Rattle.progress_words.specs.Tokens.{view_of, IsMemberOf, IsSameMember}

-- a token keeps the number that it had as it began
numbered_still : (table : TableId) (k : ℕ) (begun now : tokens.Member) → IsMemberOf table begun → view_of begun ≡ member_begun k → IsSameMember begun now → now.number ≡ k
numbered_still table k begun now of view same = same.number ∙ sym of.numbered ∙ ap (λ (m : MemberView). m.member.number) view

-- the token in this place has its number
each_place : (table : TableId) (first second : tokens.Member) → IsMemberSeat table 0 first.seat → IsMemberSeat table 1 second.seat → (k : ℕ) (token : tokens.Member) → slice_get (first ∷ second ∷ []) k ≡ Some token → IsMemberSeat table k token.seat
each_place table first second zeroth one zero token at = let same : first ≡ token = cc in subst (λ (t : tokens.Member). IsMemberSeat table 0 t.seat) same zeroth
each_place table first second zeroth one (suc zero) token at = let same : second ≡ token = cc in subst (λ (t : tokens.Member). IsMemberSeat table 1 t.seat) same one
each_place table first second zeroth one (suc (suc k)) token at = absurd (cc)

-- both come in, the first one as it is by then
pub both_again : (table : TableId) (count : ℕ) (begun first second : tokens.Member) → IsMemberOf table begun → view_of begun ≡ member_begun 0 → IsMemberOf table first → IsSameMember begun first → IsMemberOf table second → view_of second ≡ member_begun 1 → count ≡ 2 → AreAllMembers table count (first ∷ second ∷ [])
both_again table count begun first second begins view first_of same second_of second_view two =
    let zeroth = numbered_still table 0 begun first begins view same in
    let one : second.number ≡ 1 = sym second_of.numbered ∙ ap (λ (m : MemberView). m.member.number) second_view in
    record {
      all = sym two;
      each = each_place table first second (subst (λ (n : ℕ). IsMemberSeat table n first.seat) zeroth first_of) (subst (λ (n : ℕ). IsMemberSeat table n second.seat) one second_of);
    }
