-- What the writer knows while the seats of members come in, the last one first.
use Rattle.std.proofs.Common.{◌≡◌, ℕ, zero, suc, ◌+◌, ◌%◌, ◌<◌, ◌≤◌, List, [], ◌∷◌, ◌++◌, length, length-append, length-set, append-nil, append_assoc, refl, sym, ap, subst, ◌∙◌, arith}
use mathlib.Core.Logic.{dite}
use native.Mathlib.Decide.{ℕ_discrete}
use Rattle.std.specs.Prelude.{Option, Some, slice_get, slice_set}
use Rattle.std.specs.Option.{option_map}
use Rattle.atomic_table.specs.Seated.{TableId}
use Rattle.area_core.specs.Blocks.{Among}
use Rattle.shared_words.specs.declared.seats.Member as tokens
use Rattle.shared_words.specs.declared.view.WriterView.{WriterView}
use Rattle.shared_words.specs.declared.view.View.TheVariants.{Writer}
use Rattle.shared_words.specs.Seats.{SeatPlace, IsSameSeat, IsMemberSeat, member_of, writer_of}
use Rattle.shared_words.specs.Closing.{AreAllMembers, with_member, member_taken, HasAllMembers, AreKnown, AreMarked, HaveMarks}
use Rattle.shared_words.specs.Rule.{IsBeginning}
use Rattle.shared_words.proofs.ShownMembers.{still_at, within_get}
use Rattle.shared_words.proofs.OpeningRule.{last_get}

-- ---- lists

set_here : {A : Type 0} (xs : List A) (k : ℕ) (x : A) → k < length xs → slice_get (slice_set xs k x) k ≡ Some x
set_here [] k x within = absurd (omega arith)
set_here (y ∷ ys) zero x within = refl
set_here (y ∷ ys) (suc k) x within = set_here ys k x (omega arith)

set_there : {A : Type 0} (xs : List A) (k j : ℕ) (x : A) → (j ≡ k → ⊥) → slice_get (slice_set xs k x) j ≡ slice_get xs j
set_there [] k j x apart = refl
set_there (y ∷ ys) zero zero x apart = absurd (apart refl)
set_there (y ∷ ys) zero (suc j) x apart = refl
set_there (y ∷ ys) (suc k) zero x apart = refl
set_there (y ∷ ys) (suc k) (suc j) x apart = set_there ys k j x (λ e. apart (ap suc e))

-- ---- the seats that are left, and those that came in

pub record HasTaken (members left : List tokens.Member) (old new : SeatPlace) : Type 0 where
  pub seat : IsSameSeat old new
  pub view : new.me.0 ≡ Writer (writer_of new.me.0)
  pub same : writer_of new.me.0 ≡ record (writer_of old.me.0) { members = (writer_of new.me.0).members; taken = (writer_of new.me.0).taken; watchers = (writer_of new.me.0).watchers }
  pub long : length (writer_of new.me.0).members ≡ length (writer_of old.me.0).members
  pub rest : List tokens.Member
  pub split : members ≡ left ++ rest
  pub each : (k : ℕ) (token : tokens.Member) → length left ≤ k → slice_get members k ≡ Some token → slice_get (writer_of new.me.0).members k ≡ Some (member_of token.seat.me.0)
  pub come : (k : ℕ) (token : tokens.Member) → length left ≤ k → slice_get members k ≡ Some token → Among (writer_of new.me.0).taken k

-- none at first
pub none_taken : (members : List tokens.Member) (old : SeatPlace) → old.me.0 ≡ Writer (writer_of old.me.0) → HasTaken members members old old
none_taken members old is = record {
  seat = record { same_table = refl; same_number = refl; same_slots = refl };
  view = is;
  same = refl;
  long = refl;
  rest = [];
  split = sym (append-nil members);
  each = λ k token late at. absurd (let within = within_get members k token at in omega arith);
  come = λ k token late at. absurd (let within = within_get members k token at in omega arith);
}

-- the last of those that are left
pub last_of : (table : TableId) (count : ℕ) (members left few : List tokens.Member) (member : tokens.Member) (old new : SeatPlace) → AreAllMembers table count members → HasTaken members left old new → left ≡ few ++ member ∷ [] → (slice_get members (length few) ≡ Some member) × IsMemberSeat table (length few) member.seat
last_of table count members left few member old new all h is =
    let at : slice_get members (length few) ≡ Some member =
    ap (λ (xs : List tokens.Member). slice_get xs (length few)) (h.split ∙ ap (λ (xs : List tokens.Member). xs ++ h.rest) is) ∙ still_at (few ++ member ∷ []) h.rest (length few) member (last_get few member) in
    (at, all.each (length few) member at)

-- one more
pub taken_next : (table : TableId) (members left few : List tokens.Member) (member : tokens.Member) (old new newer : SeatPlace) → AreAllMembers table (length (writer_of old.me.0).members) members → HasTaken members left old new → left ≡ few ++ member ∷ []
    → IsSameSeat new newer → newer.me.0 ≡ member_taken new.me.0 member.seat.me.0 → HasTaken members few old newer
taken_next table members left few member old new newer all h is same taken =
    let last = last_of table (length (writer_of old.me.0).members) members left few member old new all h is in
    let m = member_of member.seat.me.0 in
    let w = writer_of new.me.0 in
    let view : newer.me.0 ≡ Writer (with_member m w) = taken ∙ (λ i. member_taken (h.view i) (last.1.view i)) in
    let here : writer_of newer.me.0 ≡ with_member m w = ap writer_of view in
    let number : m.member.number ≡ length few = last.1.numbered in
    let within = within_get members (length few) member last.0 in
    let room : length few < length w.members = omega (arith, within, h.long, all.all) in
    let size : length left ≡ length few + 1 = ap length is ∙ length-append few (member ∷ []) in
    record {
      seat = record { same_table = same.same_table ∙ h.seat.same_table; same_number = same.same_number ∙ h.seat.same_number; same_slots = same.same_slots ∙ h.seat.same_slots };
      view = view ∙ ap Writer (sym here);
      same = here ∙ ap (λ (x : WriterView). with_member m x) h.same ∙ ap (λ (x : WriterView). record (writer_of old.me.0) { members = x.members; taken = x.taken; watchers = x.watchers }) (sym here);
      long = ap (λ (x : WriterView). length x.members) here ∙ length-set w.members m.member.number m ∙ h.long;
      rest = member ∷ h.rest;
      split = h.split ∙ ap (λ (xs : List tokens.Member). xs ++ h.rest) is ∙ append_assoc few (member ∷ []) h.rest;
      each = λ k token late at.
          let now : slice_get (writer_of newer.me.0).members k ≡ slice_get (slice_set w.members (length few) m) k = ap (λ (x : WriterView). slice_get x.members k) here ∙ ap (λ (i : ℕ). slice_get (slice_set w.members i m) k) number in
          now ∙ dite (ℕ_discrete k (length few))
          (λ (first : k ≡ length few).
          let mine : Some member ≡ Some token = sym last.0 ∙ ap (slice_get members) (sym first) ∙ at in
          ap (slice_get (slice_set w.members (length few) m)) first ∙ set_here w.members (length few) m room ∙ ap (λ (o : Option tokens.Member). option_map (λ (t : tokens.Member). member_of t.seat.me.0) o) mine)
          (λ (other : k ≡ length few → ⊥). set_there w.members (length few) k m other ∙ h.each k token (omega (arith, late, other, size)) at);
      come = λ k token late at.
          subst (λ (x : WriterView). Among x.taken k) (sym here) (dite (ℕ_discrete k (length few))
          (λ (first : k ≡ length few). (0, ap Some (number ∙ sym first)))
          (λ (other : k ≡ length few → ⊥). let before = h.come k token (omega (arith, late, other, size)) at in (suc before.0, before.1)));
    }

-- ---- the end

-- where watchers came in before them, the writer has the same of all that it knew first
pub all_since : (members : List tokens.Member) (old mid new : WriterView) → mid ≡ record old { watchers = mid.watchers } → HasAllMembers members mid new → HasAllMembers members old new
all_since members old mid new first h = record {
  same = h.same ∙ ap (λ (x : WriterView). record x { members = new.members; taken = new.taken; watchers = new.watchers }) first;
  long = h.long ∙ ap (λ (x : WriterView). length x.members) first;
  each = h.each;
  come = h.come;
}

-- what is known of the processes of each member
pub each_marked : (members : List tokens.Member) (old new : WriterView) → HasAllMembers members old new → length members ≡ length old.members → AreMarked new → HaveMarks members new
each_marked members old new h all marked process token below at =
    let many : length new.members ≡ length members = h.long ∙ sym all in
    marked process (member_of token.seat.me.0) (record {
      below = below;
      come = subst (λ (n : ℕ). Among new.taken (process % n)) (sym many) (h.come (process % length members) token at);
      knew = ap (λ (n : ℕ). slice_get new.members (process % n)) many ∙ h.each (process % length members) token at;
    })

-- what each member had learnt is the beginning of what was published
pub each_begins : (members : List tokens.Member) (old new : WriterView) → HasAllMembers members old new → AreKnown new → (k : ℕ) (token : tokens.Member) → slice_get members k ≡ Some token → IsBeginning (member_of token.seat.me.0).seen new.published
each_begins members old new h known k token at = (known k (member_of token.seat.me.0) (h.each k token at)).seen
