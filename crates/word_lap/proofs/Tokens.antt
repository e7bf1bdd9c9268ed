-- What calls leave of a member's token, and of where its processes stand between their turns.
use Rattle.std.proofs.Common.{◌≡◌, ℕ, ◌<◌, List, length, sym, ap, subst, ◌∙◌}
use Rattle.atomic_table.specs.Seated.{TableId}
use Rattle.prgr_core.specs.Members.{role_knowing}
use Rattle.area_core.specs.declared.table.Published.{Published}
use Rattle.area_core.specs.Blocks.{RootFits}
use Rattle.shared_words.specs.declared.seats.Member as tokens
use Rattle.shared_words.specs.declared.view.MemberView.{MemberView}
use Rattle.shared_words.specs.declared.view.View.TheVariants.{Member}
use Rattle.shared_words.specs.Processes.{AreCopied}
use Rattle.shared_words.specs.Seats.{IsMemberSeat, IsRooted, IsSameSeat, member_of, root_held}
use Rattle.shared_words.specs.Slots.{with_slot}
use Rattle.shared_words.specs.Views.{published_at, root_word}
use Rattle.progress_words.specs.Reports.{IsAwake, HoldsReported}
use Rattle.progress_words.specs.Tokens.{IsMemberOf, IsSameMember}
use Rattle.anchors.specs.Holds.{view_of}
use Rattle.anchors.proofs.Stored.{seat_still}
use Rattle.word_view.proofs.Lapping.{copies_stay, rests_stay}
use Rattle.word_lap.specs.Schedulers.{IsBetweenTurns, IsToken}

-- the root word is that of the generation still
pub rooted_on : (old new : MemberView) (root : ℕ) → new.member.generation ≡ old.member.generation → new.seen ≡ old.seen → IsRooted root old → IsRooted root new
rooted_on old new root same learnt h = let again : root_held old ≡ root_held new = sym (λ i. root_word (published_at (learnt i) (same i)).root (same i)) in record {
  learnt = subst (λ (n : ℕ). n < length new.seen) (sym same) (subst (λ (xs : List Published). old.member.generation < length xs) (sym learnt) h.learnt);
  fits = subst (λ (n : ℕ). RootFits (published_at new.seen n).root) (sym same) (subst (λ (xs : List Published). RootFits (published_at xs old.member.generation).root) (sym learnt) h.fits);
  held = h.held ∙ again;
}

-- a token whose member holds the same generation
pub token_on : (table : TableId) (old new : tokens.Member) → IsToken table old → IsMemberSeat table new.number new.seat → new.root ≡ old.root → AreCopied new.anchors.items (view_of new)
    → (view_of new).member.generation ≡ (view_of old).member.generation → (view_of new).seen ≡ (view_of old).seen → IsToken table new
token_on table old new h seat root copied same learnt = record {
  seat = seat;
  copied = copied;
  rooted = subst (λ (r : ℕ). IsRooted r (view_of new)) (sym root) (rooted_on (view_of old) (view_of new) old.root same learnt h.rooted);
}

-- a word of a slot was stored
pub token_stored : (table : TableId) (old new : tokens.Member) (process place value : ℕ) → IsToken table old → IsSameSeat old.seat new.seat → new.number ≡ old.number → new.root ≡ old.root → AreCopied new.anchors.items (view_of new)
    → new.seat.me.0 ≡ Member (with_slot process place value (view_of old)) → IsToken table new
token_stored table old new process place value h same number root copied view =
    token_on table old new h (seat_still table old.number new.number old.seat new.seat process place value h.seat same number view) root copied
    (ap (λ v. (member_of v).member.generation) view) (ap (λ v. (member_of v).seen) view)

-- no slot was stored, and the member holds the same generation
pub token_moved : (table : TableId) (old new : tokens.Member) → IsToken table old → IsMemberOf table new → IsSameMember old new → new.root ≡ old.root → (view_of new).slots ≡ (view_of old).slots
    → (view_of new).member.generation ≡ (view_of old).member.generation → (view_of new).seen ≡ (view_of old).seen → IsToken table new
token_moved table old new h seat same root slots held learnt =
    token_on table old new h seat root (subst (λ (xs : List ℕ). AreCopied xs (view_of new)) (sym same.anchors) (copies_stay old.anchors.items (view_of old) (view_of new) slots h.copied)) held learnt

-- ---- a report

pub token_reported : (Served : Published → Type 0) (table : TableId) (old new : tokens.Member) (generation : ℕ) → IsToken table old → IsMemberOf table new → IsSameMember old new → HoldsReported Served (view_of old) (view_of new) generation
    → IsRooted new.root (view_of new) → IsToken table new
token_reported Served table old new generation h seat same r rooted = record {
  seat = seat;
  copied = subst (λ (xs : List ℕ). AreCopied xs (view_of new)) (sym same.anchors) (copies_stay old.anchors.items (view_of old) (view_of new) (ap (λ (m : MemberView). m.slots) r.view) h.copied);
  rooted = rooted;
}

pub between_reported : (Served : Published → Type 0) (old new : MemberView) (generation : ℕ) → IsBetweenTurns old → IsAwake new → HoldsReported Served old new generation → IsBetweenTurns new
between_reported Served old new generation h awake r = record {
  awake = awake;
  follows = ap (λ (m : MemberView). m.member.role) r.view ∙ ap (role_knowing r.counter) h.follows;
  rest = rests_stay old new (ap (λ (m : MemberView). m.slots) r.view) h.rest;
}
