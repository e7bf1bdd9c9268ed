-- What a view was when it was made, over what its calls read and store.
use Rattle.std.proofs.Common.{◌≡◌, ℕ, List, Option, Some, None, Result, Ok, Err, refl, sym, ap, subst, ◌∙◌}
use Rattle.std.specs.Prelude.{OnErr, OnOk}
use Rattle.term_core.specs.declared.hold.Full.{Full}
use Rattle.term_core.specs.declared.hold.Kind.{Kind}
use Rattle.shared_words.specs.declared.seats.Member as tokens
use Rattle.shared_words.specs.declared.view.BlockWord.{BlockWord}
use Rattle.shared_words.specs.declared.view.MemberView.{MemberView}
use Rattle.shared_words.specs.Seats.{IsMemberSeat, IsSameSeat, SeatPlace}
use Rattle.anchors.specs.Drops.{AnchorsStored}
use Rattle.anchors.specs.Holds.{HasHeld, view_of}
use Rattle.anchors.proofs.Stored.{hold_stored, more_stored, none_stored}
use Rattle.word_view.specs.Loaded.{HasRead}
use Rattle.word_view.specs.Views.{HasGoneOn, IsFrom, IsView, IsViewFrom, Viewed}
use Rattle.word_view.proofs.Reading.{view_still}

same_on : (a b c : SeatPlace) → IsSameSeat a b → IsSameSeat b c → IsSameSeat a c
same_on a b c first second = record {
  same_table = second.same_table ∙ first.same_table;
  same_number = second.same_number ∙ first.same_number;
  same_slots = second.same_slots ∙ first.same_slots;
}

-- at first nothing is changed
pub gone_none : (v : Viewed) → HasGoneOn v v
gone_none v = record { given = refl; seat = record { same_table = refl; same_number = refl; same_slots = refl }; number = refl; root = refl; stored = none_stored v.process (view_of v.token) }

-- ---- one step

-- words were read
read_on : (began v : Viewed) (b : tokens.Member) → HasRead v.token b → HasGoneOn began v → HasGoneOn began (record v { token = b })
read_on began v b read h = record {
  given = ap (λ (x : Viewed). record x { token = b }) h.given;
  seat = same_on began.token.seat v.token.seat b.seat h.seat read.seat;
  number = read.number ∙ h.number;
  root = read.root ∙ h.root;
  stored = subst (λ (m : MemberView). AnchorsStored began.process (record (view_of began.token) { blocks = m.blocks }) m) (sym read.view)
      (record { same = ap (λ (m : MemberView). record m { blocks = read.blocks }) h.stored.same; others = h.stored.others; slot = h.stored.slot });
}

-- anchors were stored
stored_on : (began v : Viewed) (b : tokens.Member) → IsSameSeat v.token.seat b.seat → b.number ≡ v.token.number → b.root ≡ v.token.root → AnchorsStored v.process (view_of v.token) (view_of b) → HasGoneOn began v → HasGoneOn began (record v { token = b })
stored_on began v b seat number root stored h =
    let first : MemberView = record (view_of began.token) { blocks = (view_of v.token).blocks } in
    let own : AnchorsStored began.process (view_of v.token) (view_of b) = subst (λ (n : ℕ). AnchorsStored n (view_of v.token) (view_of b)) (ap (λ (x : Viewed). x.process) h.given) stored in
    record {
      given = ap (λ (x : Viewed). record x { token = b }) h.given;
      seat = same_on began.token.seat v.token.seat b.seat h.seat seat;
      number = number ∙ h.number;
      root = root ∙ h.root;
      stored = subst (λ (bs : List BlockWord). AnchorsStored began.process (record (view_of began.token) { blocks = bs }) (view_of b)) (sym (ap (λ (m : MemberView). m.blocks) own.same)) (more_stored began.process first (view_of v.token) (view_of b) h.stored own);
    }

-- ---- calls of a view

from_read : (o : Option Viewed) (v : Viewed) (b : tokens.Member) → HasRead v.token b → IsFrom o v → IsFrom o (record v { token = b })
from_read None v b read h = tt
from_read (Some began) v b read h = read_on began v b read h

from_stored : (o : Option Viewed) (v : Viewed) (b : tokens.Member) → IsSameSeat v.token.seat b.seat → b.number ≡ v.token.number → b.root ≡ v.token.root → AnchorsStored v.process (view_of v.token) (view_of b) → IsFrom o v → IsFrom o (record v { token = b })
from_stored None v b seat number root stored h = tt
from_stored (Some began) v b seat number root stored h = stored_on began v b seat number root stored h

-- a call that reads
pub read_kept : (o : Option Viewed) (v : Viewed) (b : tokens.Member) → HasRead v.token b → IsMemberSeat v.table b.number b.seat → IsViewFrom o v → IsViewFrom o (record v { token = b })
read_kept o v b read token h = record { view = view_still v b read token h.view; from = from_read o v b read h.from }

-- one that stores anchors
pub stored_kept : (o : Option Viewed) (v : Viewed) (b : tokens.Member) → IsView (record v { token = b }) → IsSameSeat v.token.seat b.seat → b.number ≡ v.token.number → b.root ≡ v.token.root → AnchorsStored v.process (view_of v.token) (view_of b) → IsViewFrom o v → IsViewFrom o (record v { token = b })
stored_kept o v b view seat number root stored h = record { view = view; from = from_stored o v b seat number root stored h.from }

-- a hold, which may be refused
pub either_stored : (process : ℕ) (kind : Kind) (serial : ℕ) (old new : MemberView) (r : Result (Unit {0}) Full) → OnOk r (HasHeld process kind serial old new) → OnErr r (new ≡ old) → AnchorsStored process old new
either_stored process kind serial old new (Ok u) held same = hold_stored process old new held.stored
either_stored process kind serial old new (Err f) held same = subst (AnchorsStored process old) (sym same) (none_stored process old)

-- the view as it begins, with the member as it is after the load
pub begun_from : (o : Option Viewed) (v : Viewed) (b : tokens.Member) → HasRead v.token b → IsView (record v { token = b }) → IsFrom o v → IsViewFrom o (record v { token = b })
begun_from o v b read view h = record { view = view; from = from_read o v b read h }
