-- The seats of members as they are handed out one by one.
use Rattle.std.proofs.Common.{◌≡◌, ℕ, ◌+◌, ◌*◌, ◌<◌, replicate, ⊎_elim, List, [], ◌∷◌, ◌++◌, length, length-append, refl, sym, ap, subst, ◌∙◌}
use Rattle.std.specs.Prelude.{Some, Option, slice_get, unwrap_or}
use Rattle.atomic_table.specs.Seated.{TableId}
use Rattle.prgr_core.proofs.Parts.{slice_get-push_at}
use Rattle.shared_words.specs.declared.table.TheConstants.{OPENING_ROOT}
use Rattle.shared_words.specs.declared.opening.Opening.{Opening}
use Rattle.shared_words.specs.declared.seats.Member as tokens
use Rattle.shared_words.specs.declared.view.MemberView.{MemberView}
use Rattle.shared_words.specs.declared.view.View.TheVariants.{Member}
use Rattle.shared_words.specs.Opening.{member_begun}
use Rattle.shared_words.specs.Seats.{SeatPlace, IsSeatOf, IsSameSeat}
use Rattle.shared_words.specs.Making.{HasSeatsAtHome, handed_on, handed_out, IsHanding, IsMemberBegun, AreMembersBegun}
use Rattle.shared_words.specs.Processes.{AreCopied}
use Rattle.shared_words.proofs.OpeningRule.{begun_get, empty_replicate, opening_empty}
use Rattle.area_core.specs.declared.map.TheConstants.{PROCESSES, ANCHORS}
use Rattle.area_core.proofs.Counted.{opened}
use Rattle.std.proofs.lemmas.List.{length-replicate}

-- a seat is at home while not all are handed out
pub is_at_home : (table : TableId) (opening : Opening) (n : ℕ) (seat : SeatPlace) → n < opening.members → IsHanding table opening n seat → HasSeatsAtHome opening seat.me.0
is_at_home table opening n seat few h = subst (HasSeatsAtHome opening) (sym h.view) few

-- the writer after one more
pub handing_next : (table : TableId) (opening : Opening) (n : ℕ) (old new : SeatPlace) → IsHanding table opening n old → IsSameSeat old new → new.me.0 ≡ handed_on old.me.0 → IsHanding table opening (n + 1) new
handing_next table opening n old new h same on = record {
  of_table = record { same_table = same.same_table ∙ h.of_table.same_table; no_slots = same.same_slots ∙ h.of_table.no_slots };
  view = on ∙ ap handed_on h.view;
}

-- the tokens with one more
pub members_next : (table : TableId) (opening : Opening) (n : ℕ) (old : SeatPlace) (members : List tokens.Member) (token : tokens.Member) → n < opening.members → IsHanding table opening n old → AreMembersBegun table n members
    → IsSeatOf table token.seat → token.seat.me.0 ≡ handed_out old.me.0 → token.number ≡ n → token.root ≡ OPENING_ROOT → AreCopied token.anchors.items (member_begun n) → AreMembersBegun table (n + 1) (members ++ token ∷ [])
members_next table opening n old members token few h made of out number root copied = record {
  all = length-append members (token ∷ []) ∙ ap (λ (k : ℕ). k + 1) made.all;
  each = λ k t at. ⊎_elim (λ (before : slice_get members k ≡ Some t). made.each k t before)
      (λ (last : (k ≡ length members) × (t ≡ token)). subst (λ (z : ℕ × tokens.Member). IsMemberBegun table z.0 z.1) (λ i. (sym (last.0 ∙ made.all) i, sym last.1 i)) (record {
        of_table = of;
        view = out ∙ ap handed_out h.view ∙ ap (λ (o : Option MemberView). Member (unwrap_or o (member_begun 0))) (begun_get opening.members n few);
        number_is = number;
        root_is = root;
        copied = copied;
      }))
      (slice_get-push_at members token k t at);
}

-- the copy of anchors that are all 0
pub copied_none : (anchors : List ℕ) (count n : ℕ) → anchors ≡ replicate count 0 → count ≡ PROCESSES * ANCHORS → AreCopied anchors (member_begun n)
copied_none anchors count n is size = subst (λ (xs : List ℕ). AreCopied xs (member_begun n)) (sym is) (record {
  all = length-replicate {A = ℕ} count 0 ∙ size;
  wide = λ process below. ap (λ (ws : List ℕ). length ws) (sym (opened ANCHORS)) ∙ length-replicate {A = ℕ} ANCHORS 0;
  each = λ process place below within. empty_replicate count (process * ANCHORS + place) ∙ sym (opening_empty ANCHORS place);
})

-- none at first
pub none_made : (table : TableId) (members : List tokens.Member) → members ≡ [] → AreMembersBegun table 0 members
none_made table members is = subst (AreMembersBegun table 0) (sym is) (record { all = refl; each = λ k t at. absurd (cc) })
