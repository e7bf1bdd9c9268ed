-- What the store of anchors of one process leaves of what a member knows.
use Rattle.std.proofs.Common.{◌≡◌, ℕ, zero, suc, ◌+◌, ◌≤◌, inl, inr, List, [], ◌∷◌, Some, refl, sym, ap, subst, ◌∙◌, arith}
use Rattle.std.specs.Prelude.{slice_get, slice_set}
use Rattle.atomic_table.specs.Seated.{TableId}
use Rattle.area_core.specs.Map.{word_at}
use Rattle.marks.specs.declared.mark.ProcessView.{ProcessView}
use Rattle.shared_words.specs.declared.opening.Opening.{Opening}
use Rattle.shared_words.specs.declared.view.MemberView.{MemberView}
use Rattle.shared_words.specs.declared.view.View.{View}
use Rattle.shared_words.specs.declared.view.View.TheVariants.{Member}
use Rattle.shared_words.specs.Seats.{SeatPlace, IsSameSeat, IsMemberSeat, member_of}
use Rattle.shared_words.specs.Processes.{process_of}
use Rattle.shared_words.specs.Slots.{with_slot}
use Rattle.shared_words.proofs.AnchorStores.{process_here, process_else}
use Rattle.anchors.specs.Holds.{anchors_of, MayRun, IsStored}
use Rattle.anchors.specs.Drops.{AnchorsStored}

-- ---- lists

-- a word that is stored again leaves all as they were
pub set_again : (xs : List ℕ) (i : ℕ) → slice_set xs i (word_at xs i) ≡ xs
set_again [] i = refl
set_again (x ∷ xs) zero = refl
set_again (x ∷ xs) (suc i) = ap (λ (ys : List ℕ). x ∷ ys) (set_again xs i)

-- a word that is stored stands there
pub set_here : (xs : List ℕ) (i x y : ℕ) → slice_get xs i ≡ Some y → slice_get (slice_set xs i x) i ≡ Some x
set_here [] i x y at = absurd (cc)
set_here (z ∷ zs) zero x y at = refl
set_here (z ∷ zs) (suc i) x y at = set_here zs i x y at

-- ---- views

pub none_stored : (process : ℕ) (m : MemberView) → AnchorsStored process m m
none_stored process m = record { same = refl; others = λ other apart. refl; slot = refl }

-- one anchor
pub one_stored : (process place value : ℕ) (m : MemberView) → 1 ≤ place → AnchorsStored process m (with_slot process place value m)
one_stored process zero value m first = absurd (omega arith)
one_stored process (suc n) value m first =
    let here = process_here process (suc n) value m in
    let p : ProcessView = process_of m process in
    record {
      same = refl;
      others = λ other apart. process_else process (suc n) value m other apart;
      slot = here ∙ ap (λ (q : ProcessView). record p { slot = record p.slot { anchors = q.slot.anchors } }) (sym here);
    }

-- some and then some more
pub more_stored : (process : ℕ) (a b c : MemberView) → AnchorsStored process a b → AnchorsStored process b c → AnchorsStored process a c
more_stored process a b c first second = record {
  same = second.same ∙ ap (λ (m : MemberView). record m { slots = c.slots }) first.same;
  others = λ other apart. second.others other apart ∙ first.others other apart;
  slot = second.slot ∙ ap (λ (p : ProcessView). record p { slot = record p.slot { anchors = anchors_of c process } }) first.slot;
}

pub hold_stored : (process : ℕ) (old new : MemberView) → IsStored process old new → AnchorsStored process old new
hold_stored process old new h =
    elim h as (λ _. AnchorsStored process old new) [
      | inl same ↦ subst (AnchorsStored process old) (sym same) (none_stored process old)
      | inr stored ↦ subst (AnchorsStored process old) (sym stored.view) (one_stored process (stored.place + 1) stored.word old (omega arith))
    ]

-- a turn that may be made may still be made
pub run_still : (opening : Opening) (process other : ℕ) (old new : MemberView) → AnchorsStored process old new → MayRun opening other old → MayRun opening other new
run_still opening process other old new stored run =
    subst (MayRun opening other) (sym stored.same) (record { awake = run.awake; below = run.below; own = run.own; noted = run.noted })

-- ---- tokens

-- a member's seat is one after the store
pub seat_still : (table : TableId) (number after : ℕ) (old new : SeatPlace) (process place value : ℕ) → IsMemberSeat table number old → IsSameSeat old new → after ≡ number → new.me.0 ≡ Member (with_slot process place value (member_of old.me.0)) → IsMemberSeat table after new
seat_still table number after old new process place value h same numbered view = record {
  few = (let few = h.few in omega (arith, few, numbered));
  of_table = record { same_table = same.same_table ∙ h.of_table.same_table; no_slots = same.same_slots ∙ h.of_table.no_slots };
  view = view ∙ sym (ap (λ (v : View). Member (member_of v)) view);
  numbered = ap (λ (v : View). (member_of v).member.number) view ∙ h.numbered ∙ sym numbered;
}
