-- What schedulers give back at the end of a run, by number, and that all that was posted to them was taken.
use Rattle.std.proofs.Common.{◌≡◌, ◌⊎◌, inl, inr, ℕ, suc, ◌<◌, ◌≤◌, List, [], ◌∷◌, ◌++◌, append-nil, length, length-append, drop, Option, Some, slice_get, refl, sym, ap, subst, ◌∙◌, arith}
use mathlib.Core.Logic.{dite}
use native.Mathlib.Decide.{ℕ_discrete}
use Rattle.std.specs.Prelude.{Vec}
use Rattle.std.specs.declared.alloc.Global.{Global}
use Rattle.std.proofs.lemmas.Option.{none-some, same_Some, slice_get_within}
use Rattle.shared_words.specs.declared.seats.Member as tokens
use Rattle.term_core.proofs.Places.{slice_get-append, slice_get-append_one}
use Rattle.run_log.proofs.ListPlaces.{get_within}
use Rattle.run_law.specs.Newcomers.{SpawnedProcess}
use Rattle.inbox.specs.Ends.{IsSettled, Posting, Taking}
use Rattle.word_lap.specs.declared.process_run.ProcessRun.{ProcessRun}
use Rattle.word_run.specs.declared.seat.Seat.{Seat}
use Rattle.word_run.specs.Finished.{AddsParts, AreParted, AreSettled, HasParts}
use Rattle.word_run.specs.Loaders.{AreTakers}
use Rattle.word_run.specs.Rounds.{HaveTakers}
use Rattle.word_run.proofs.Joined.{dropped_next, joined_at, length_joined}

module _ {T I : Type 0} where
  -- none at first
  pub none_parted : (seats : List (Seat T I)) (members : List tokens.Member) (takers : List (Taking SpawnedProcess)) (places : List (Vec (Option ProcessRun) Global)) → seats ≡ [] → members ≡ [] → takers ≡ [] → places ≡ [] → AreParted seats members takers places
  none_parted seats members takers places no_seat no_member no_taker no_place = record {
    members_are = ap length no_member ∙ sym (ap length no_seat);
    takers_are = ap length no_taker ∙ sym (ap length no_seat);
    places_are = ap length no_place ∙ sym (ap length no_seat);
    each = λ k seat at. absurd (none-some seat (ap (λ (xs : List (Seat T I)). slice_get xs k) (sym no_seat) ∙ at));
  }

  module _ (seats : List (Seat T I)) (seat : Seat T I) (members members_after : List tokens.Member) (takers takers_after : List (Taking SpawnedProcess)) (places places_after : List (Vec (Option ProcessRun) Global)) (h : AreParted seats members takers places) (a : AddsParts seat members members_after takers takers_after places places_after) where
    parts_from : (k : ℕ) (x : Seat T I) → (slice_get seats k ≡ Some x) ⊎ ((k ≡ length seats) × (seat ≡ x)) → HasParts x (slice_get (members ++ a.member ∷ []) k) (slice_get (takers ++ seat.scheduler.taker ∷ []) k) (slice_get (places ++ seat.scheduler.processes ∷ []) k)
    parts_from k x (inl at) =
        let low = slice_get_within seats k x at in
        let before = h.each k x at in
        record {
          member_is = slice_get-append members (a.member ∷ []) k (omega (arith, low, h.members_are)) ∙ before.member_is;
          taker_is = slice_get-append takers (seat.scheduler.taker ∷ []) k (omega (arith, low, h.takers_are)) ∙ before.taker_is;
          place_is = slice_get-append places (seat.scheduler.processes ∷ []) k (omega (arith, low, h.places_are)) ∙ before.place_is;
        }
    parts_from k x (inr last) =
        let member_last : k ≡ length members = omega (arith, last.0, h.members_are) in
        let taker_last : k ≡ length takers = omega (arith, last.0, h.takers_are) in
        let place_last : k ≡ length places = omega (arith, last.0, h.places_are) in
        subst (λ (y : Seat T I). HasParts y (slice_get (members ++ a.member ∷ []) k) (slice_get (takers ++ seat.scheduler.taker ∷ []) k) (slice_get (places ++ seat.scheduler.processes ∷ []) k)) last.1 (record {
          member_is = ap (slice_get (members ++ a.member ∷ [])) member_last ∙ slice_get-append_one members a.member ∙ sym a.there;
          taker_is = ap (slice_get (takers ++ seat.scheduler.taker ∷ [])) taker_last ∙ slice_get-append_one takers seat.scheduler.taker;
          place_is = ap (slice_get (places ++ seat.scheduler.processes ∷ [])) place_last ∙ slice_get-append_one places seat.scheduler.processes;
        })

    parted_more : AreParted (seats ++ seat ∷ []) (members ++ a.member ∷ []) (takers ++ seat.scheduler.taker ∷ []) (places ++ seat.scheduler.processes ∷ [])
    parted_more = record {
      members_are = omega (arith, length-append members (a.member ∷ []), length-append seats (seat ∷ []), h.members_are);
      takers_are = omega (arith, length-append takers (seat.scheduler.taker ∷ []), length-append seats (seat ∷ []), h.takers_are);
      places_are = omega (arith, length-append places (seat.scheduler.processes ∷ []), length-append seats (seat ∷ []), h.places_are);
      each = λ k x at. parts_from k x (joined_at seats seat x k at);
    }

    -- one more
    pub parted_next : AreParted (seats ++ seat ∷ []) members_after takers_after places_after
    parted_next =
        subst (λ (ms : List tokens.Member). AreParted (seats ++ seat ∷ []) ms takers_after places_after) (sym a.member_joins)
        (subst (λ (ts : List (Taking SpawnedProcess)). AreParted (seats ++ seat ∷ []) (members ++ a.member ∷ []) ts places_after) (sym a.taker_joins)
        (subst (λ (ps : List (Vec (Option ProcessRun) Global)). AreParted (seats ++ seat ∷ []) (members ++ a.member ∷ []) (takers ++ seat.scheduler.taker ∷ []) ps) (sym a.place_joins) parted_more))

  -- the ends that take have their numbers
  pub takers_numbered : (seats : List (Seat T I)) (members : List tokens.Member) (takers : List (Taking SpawnedProcess)) (places : List (Vec (Option ProcessRun) Global)) → AreParted seats members takers places → HaveTakers seats → AreTakers takers
  takers_numbered seats members takers places parted own home taker at =
      let there = get_within seats home (omega (arith, slice_get_within takers home taker at, parted.takers_are)) in
      ap (λ (t : Taking SpawnedProcess). t.number) (same_Some taker there.0.scheduler.taker (sym at ∙ (parted.each home there.0 there.1).taker_is)) ∙ own home there.0 there.1

-- ---- what was posted

-- the first so many ends came together, and nothing was left; these are the others
pub record HaveSettled (ends left_ends : List (Posting SpawnedProcess)) (takers left_takers : List (Taking SpawnedProcess)) (count : ℕ) : Type 0 where
  pub ends_are : left_ends ≡ drop count ends
  pub takers_are : left_takers ≡ drop count takers
  pub settled : (k : ℕ) (end : Posting SpawnedProcess) (taker : Taking SpawnedProcess) → k < count → slice_get ends k ≡ Some end → slice_get takers k ≡ Some taker → end.put ≡ taker.taken

pub none_settled : (ends left_ends : List (Posting SpawnedProcess)) (takers left_takers : List (Taking SpawnedProcess)) → left_ends ≡ ends → left_takers ≡ takers → HaveSettled ends left_ends takers left_takers 0
none_settled ends left_ends takers left_takers end_is taker_is = record {
  ends_are = end_is;
  takers_are = taker_is;
  settled = λ k end taker low end_at taker_at. absurd (omega (arith, low));
}

none_left : {X : Type 0} (left : List X) → length left ≡ 0 → left ≡ []
none_left [] h = refl
none_left (x ∷ left) h = absurd (omega (arith, h))

-- nothing is left
pub all_taken : (put taken : List SpawnedProcess) (count : ℕ) → count ≡ 0 → IsSettled put taken count → put ≡ taken
all_taken put taken count none h = h.whole ∙ ap (λ (xs : List SpawnedProcess). taken ++ xs) (none_left h.left (h.counted ∙ none)) ∙ append-nil taken

module _ (ends left_ends ends_after : List (Posting SpawnedProcess)) (takers left_takers takers_after : List (Taking SpawnedProcess)) (count : ℕ) (end : Posting SpawnedProcess) (taker : Taking SpawnedProcess) (h : HaveSettled ends left_ends takers left_takers count)
    (end_next : left_ends ≡ end ∷ ends_after) (taker_next : left_takers ≡ taker ∷ takers_after) where
  -- the next end that posts, and the next that takes, stand at this place
  pub end_there : slice_get ends count ≡ Some end
  end_there = (dropped_next ends ends_after end count (sym h.ends_are ∙ end_next)).0

  pub taker_there : slice_get takers count ≡ Some taker
  taker_there = (dropped_next takers takers_after taker count (sym h.takers_are ∙ taker_next)).0

  settled_here : end.put ≡ taker.taken → (k : ℕ) (x : Posting SpawnedProcess) (y : Taking SpawnedProcess) → k ≡ count → slice_get ends k ≡ Some x → slice_get takers k ≡ Some y → x.put ≡ y.taken
  settled_here same k x y last x_at y_at =
      let x_is : end ≡ x = same_Some end x (sym end_there ∙ ap (slice_get ends) (sym last) ∙ x_at) in
      let y_is : taker ≡ y = same_Some taker y (sym taker_there ∙ ap (slice_get takers) (sym last) ∙ y_at) in
      ap (λ (p : Posting SpawnedProcess). p.put) (sym x_is) ∙ same ∙ ap (λ (t : Taking SpawnedProcess). t.taken) y_is

  settled_more : end.put ≡ taker.taken → HaveSettled ends ends_after takers takers_after (suc count)
  settled_more same = record {
    ends_are = (dropped_next ends ends_after end count (sym h.ends_are ∙ end_next)).1;
    takers_are = (dropped_next takers takers_after taker count (sym h.takers_are ∙ taker_next)).1;
    settled = λ k x y low x_at y_at.
        dite (ℕ_discrete k count) (λ (last : k ≡ count). settled_here same k x y last x_at y_at) (λ (other : k ≡ count → ⊥). h.settled k x y (omega (arith, low, other)) x_at y_at);
  }

-- one more inbox
pub settled_next : {X : Type 0} (first : List X) (inbox : X) (ends left_ends ends_after : List (Posting SpawnedProcess)) (takers left_takers takers_after : List (Taking SpawnedProcess)) (end : Posting SpawnedProcess) (taker : Taking SpawnedProcess)
    → HaveSettled ends left_ends takers left_takers (length first) → left_ends ≡ end ∷ ends_after → left_takers ≡ taker ∷ takers_after → end.put ≡ taker.taken
    → HaveSettled ends ends_after takers takers_after (length (first ++ inbox ∷ []))
settled_next first inbox ends left_ends ends_after takers left_takers takers_after end taker h end_next taker_next same =
    subst (λ (n : ℕ). HaveSettled ends ends_after takers takers_after n) (length_joined first inbox)
    (settled_more ends left_ends ends_after takers left_takers takers_after (length first) end taker h end_next taker_next same)

-- all are
pub all_settled : (ends left_ends : List (Posting SpawnedProcess)) (takers left_takers : List (Taking SpawnedProcess)) (count : ℕ) → HaveSettled ends left_ends takers left_takers count → length ends ≤ count → AreSettled ends takers
all_settled ends left_ends takers left_takers count h past = λ k end taker end_at taker_at.
    let low = slice_get_within ends k end end_at in
    h.settled k end taker (omega (arith, low, past)) end_at taker_at
