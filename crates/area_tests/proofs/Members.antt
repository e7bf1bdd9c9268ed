-- The members of a table come in again in a row.
use Rattle.std.proofs.Common.{◌≡◌, ℕ, zero, suc, List, [], ◌∷◌, ◌++◌, length, sym, subst, ◌∙◌}
use Rattle.std.specs.Prelude.{Some, slice_get}
use Rattle.atomic_table.specs.Seated.{TableId}
use Rattle.shared_words.specs.declared.opening.Opening.{Opening}
use Rattle.shared_words.specs.declared.seats.Member as tokens
use Rattle.shared_words.specs.declared.seats.Writer as writers
use Rattle.shared_words.specs.Seats.{IsMemberSeat}
use Rattle.shared_words.specs.Making.{IsMemberBegun, AreMembersBegun}
use Rattle.shared_words.specs.Closing.{AreAllMembers}
use Rattle.progress_words.specs.Tokens.{IsMemberOf}
use Rattle.literal_areas.specs.declared.areas.Areas.{Areas}
use Rattle.new_tables.proofs.Begun.{last_begun, rest_begun}
use Rattle.new_tables.proofs.Emptied.{no_element}
use Rattle.area_tests.specs.Three.{AreThree, ArePrepared}

seat : (table : TableId) (k : ℕ) (token other : tokens.Member) → IsMemberOf table token → token.number ≡ k → Some token ≡ Some other → IsMemberSeat table k other.seat
seat table k token other of is at =
    let same : token ≡ other = cc in
    subst (λ (t : tokens.Member). IsMemberSeat table k t.seat) same (subst (λ (n : ℕ). IsMemberSeat table n token.seat) is of)

-- all three
pub all_three : (table : TableId) (count : ℕ) (first second leader : tokens.Member) → count ≡ 3 → AreThree table first second leader → AreAllMembers table count (first ∷ second ∷ leader ∷ [])
all_three table count first second leader three h = record {
  all = sym three;
  each = each;
}
  where
    each : (k : ℕ) (token : tokens.Member) → slice_get (first ∷ second ∷ leader ∷ []) k ≡ Some token → IsMemberSeat table k token.seat
    each zero token at = seat table 0 first token h.first_of h.first_is at
    each (suc zero) token at = seat table 1 second token h.second_of h.second_is at
    each (suc (suc zero)) token at = seat table 2 leader token h.leader_of h.leader_is at
    each (suc (suc (suc k))) token at = absurd (no_element k at)

-- the only one, as it is by then
pub one_again : (table : TableId) (count : ℕ) (all rest last : List tokens.Member) (begun token : tokens.Member) → all ≡ rest ++ begun ∷ [] → AreMembersBegun table 1 all → last ≡ rest ++ token ∷ [] → IsMemberOf table token → token.number ≡ begun.number → count ≡ 1 → AreAllMembers table count last
one_again table count all rest last begun token taken first pushed of number one =
    subst (AreAllMembers table count) (sym pushed) (only rest (rest_begun table 0 all rest begun taken first).all)
  where
    zeroth : token.number ≡ 0
    zeroth = number ∙ (last_begun table 0 all rest begun taken first).number_is

    each : (k : ℕ) (other : tokens.Member) → slice_get (token ∷ []) k ≡ Some other → IsMemberSeat table k other.seat
    each zero other at = seat table 0 token other of zeroth at
    each (suc k) other at = absurd (no_element k at)

    only : (xs : List tokens.Member) → length xs ≡ 0 → AreAllMembers table count (xs ++ token ∷ [])
    only [] none = record { all = sym one; each = each }
    only (x ∷ xs) none = absurd (cc)

-- what the threads hand back
pub three_ended : (table : TableId) (opening : Opening) (pools : Areas) (writer : writers.Writer) (first second leader first_new second_new leader_new : tokens.Member) → ArePrepared table opening pools writer first second → IsMemberBegun table 2 leader
    → IsMemberOf table first_new → first_new.number ≡ first.number → IsMemberOf table second_new → second_new.number ≡ second.number → IsMemberOf table leader_new → leader_new.number ≡ leader.number → AreThree table first_new second_new leader_new
three_ended table opening pools writer first second leader first_new second_new leader_new h begun first_of first_is second_of second_is leader_of leader_is = record {
  first_of = first_of;
  first_is = first_is ∙ h.first_is;
  second_of = second_of;
  second_is = second_is ∙ h.second_is;
  leader_of = leader_of;
  leader_is = leader_is ∙ begun.number_is;
}
