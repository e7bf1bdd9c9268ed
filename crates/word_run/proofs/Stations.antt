-- A run before its first step: each member has its inbox, the end that posts to it, and a scheduler without processes.
use Rattle.std.proofs.Common.{◌≡◌, ◌⊎◌, inl, inr, ℕ, ◌<◌, ◌≤◌, Bool, false, List, [], ◌∷◌, ◌++◌, length, length-append, Some, slice_get, refl, sym, ap, subst, ◌∙◌, arith}
use Rattle.std.proofs.lemmas.Option.{none-some, slice_get_within}
use Rattle.atomic_table.specs.Seated.{TableId}
use Rattle.prgr_core.specs.declared.member.TheConstants.{MOST_MEMBERS}
use Rattle.term_core.specs.declared.atom.Mfa.{Mfa}
use Rattle.shared_words.specs.declared.opening.Opening.{Opening}
use Rattle.shared_words.specs.declared.seats.Member as tokens
use Rattle.shared_words.specs.Making.{AreMembersBegun}
use Rattle.shared_words.specs.Seats.{member_of}
use Rattle.anchors.specs.Holds.{view_of}
use Rattle.script_core.specs.declared.script.Script.{Script}
use Rattle.run_log.proofs.ListPlaces.{get_within}
use Rattle.run_law.specs.Newcomers.{SpawnedProcess}
use Rattle.inbox.specs.Ends.{Posting, Taking}
use Rattle.word_lap.specs.Laws.{SchedulersBegin}
use Rattle.word_run.specs.declared.seat.Seat.{Seat}
use Rattle.word_run.specs.declared.sight.Sight.{Sight}
use Rattle.word_run.specs.Beginning.{AddsSeat, AreOpened, IsOpened, none_posted}
use Rattle.word_run.specs.Desks.{DeskState, IsDesk}
use Rattle.word_run.specs.Rounds.{IsRun}
use Rattle.word_run.specs.Schedulers.{Keeps, KeepsBy}
use Rattle.word_run.proofs.Joined.{joined_at}

module _ {T I : Type 0} where
  -- none at first
  pub none_opened : (inboxes : List ℕ) (ends : List (Posting SpawnedProcess)) (seats : List (Seat T I)) → inboxes ≡ [] → ends ≡ [] → seats ≡ [] → AreOpened [] inboxes ends seats
  none_opened inboxes ends seats no_inbox no_end no_seat = record {
    seats_are = ap length no_seat;
    inboxes_are = ap length no_inbox;
    ends_are = ap length no_end;
    inbox = λ k number at. absurd (none-some number (ap (λ xs. slice_get xs k) (sym no_inbox) ∙ at));
    end = λ k end at. absurd (none-some end (ap (λ xs. slice_get xs k) (sym no_end) ∙ at));
    seat = λ k member seat member_at at. absurd (none-some member member_at);
  }

  module _ (members : List tokens.Member) (member : tokens.Member) (inboxes inboxes_after : List ℕ) (ends ends_after : List (Posting SpawnedProcess)) (seats seats_after : List (Seat T I)) (h : AreOpened members inboxes ends seats) (a : AddsSeat member inboxes inboxes_after ends ends_after seats seats_after) where
    inbox_from : (k number : ℕ) → (slice_get inboxes k ≡ Some number) ⊎ ((k ≡ length inboxes) × (length seats ≡ number)) → number ≡ k
    inbox_from k number (inl at) = h.inbox k number at
    inbox_from k number (inr last) = omega (arith, last.0, last.1, h.inboxes_are, h.seats_are)

    end_from : (k : ℕ) (end : Posting SpawnedProcess) → (slice_get ends k ≡ Some end) ⊎ ((k ≡ length ends) × (none_posted (length seats) ≡ end)) → end ≡ none_posted k
    end_from k end (inl at) = h.end k end at
    end_from k end (inr last) = let same : length seats ≡ k = omega (arith, last.0, h.ends_are, h.seats_are) in sym last.1 ∙ ap none_posted same

    seat_from : (k : ℕ) (x : tokens.Member) (seat : Seat T I) → (slice_get members k ≡ Some x) ⊎ ((k ≡ length members) × (member ≡ x)) → (slice_get seats k ≡ Some seat) ⊎ ((k ≡ length seats) × (a.seat ≡ seat)) → IsOpened k x seat
    seat_from k x seat (inl x_at) (inl at) = h.seat k x seat x_at at
    seat_from k x seat (inl x_at) (inr last) = absurd (let low = slice_get_within members k x x_at in omega (arith, low, last.0, h.seats_are))
    seat_from k x seat (inr x_last) (inl at) = absurd (let low = slice_get_within seats k seat at in omega (arith, low, x_last.0, h.seats_are))
    seat_from k x seat (inr x_last) (inr last) =
        subst (λ (n : ℕ). IsOpened n x seat) (sym last.0) (subst (λ (m : tokens.Member). IsOpened (length seats) m seat) x_last.1 (subst (λ (y : Seat T I). IsOpened (length seats) member y) last.1 a.opened))

    -- one more
    pub opened_next : AreOpened (members ++ member ∷ []) inboxes_after ends_after seats_after
    opened_next = record {
      seats_are = omega (arith, ap length a.seat_joins, length-append seats (a.seat ∷ []), length-append members (member ∷ []), h.seats_are);
      inboxes_are = omega (arith, ap length a.inbox_joins, length-append inboxes (length seats ∷ []), length-append members (member ∷ []), h.inboxes_are);
      ends_are = omega (arith, ap length a.end_joins, length-append ends (none_posted (length seats) ∷ []), length-append members (member ∷ []), h.ends_are);
      inbox = λ k number at. inbox_from k number (joined_at inboxes (length seats) number k (ap (λ (xs : List ℕ). slice_get xs k) (sym a.inbox_joins) ∙ at));
      end = λ k end at. end_from k end (joined_at ends (none_posted (length seats)) end k (ap (λ (xs : List (Posting SpawnedProcess)). slice_get xs k) (sym a.end_joins) ∙ at));
      seat = λ k x seat x_at at. seat_from k x seat (joined_at members member x k x_at) (joined_at seats a.seat seat k (ap (λ (xs : List (Seat T I)). slice_get xs k) (sym a.seat_joins) ∙ at));
    }

  module _ (functions : List Mfa) (table : TableId) (opening : Opening) (law : SchedulersBegin) (few : opening.members ≤ MOST_MEMBERS) (members : List tokens.Member) (begun : AreMembersBegun table opening.members members)
      (inboxes : List ℕ) (ends : List (Posting SpawnedProcess)) (seats : List (Seat T I)) (opened : AreOpened members inboxes ends seats) where
    keeps_none : (k : ℕ) (member : tokens.Member) (seat : Seat T I) → slice_get members k ≡ Some member → IsOpened k member seat
        → KeepsBy functions table opening k false 0 member [] seat.scheduler.processes.items
    keeps_none k member seat at o =
        let b = begun.each k member at in
        let low = slice_get_within members k member at in
        let l = law functions opening table k member seat.scheduler.processes.items (omega (arith, low, few, begun.all)) b o.free in
        record {
          seated = record {
            own = b.number_is;
            before = view_of member;
            stands = (l.0, (l.1.0, refl));
            held = ap (λ v. (member_of v).member.generation) b.view;
            learnt = ap (λ v. length (member_of v).seen) b.view;
          };
          kept = l.1.1;
        }

    pub kept_at : (k : ℕ) (seat : Seat T I) → slice_get seats k ≡ Some seat → (seat.scheduler.number ≡ k) × Keeps functions table opening seat.scheduler
    kept_at k seat at =
        let low = slice_get_within seats k seat at in
        let there = get_within members k (omega (arith, low, opened.seats_are)) in
        let o = opened.seat k there.0 seat there.1 at in
        let s = seat.scheduler in
        let number : s.taker.number ≡ k = ap (λ (t : Taking SpawnedProcess). t.number) o.taker_is in
        let taken : s.taker.taken ≡ [] = ap (λ (t : Taking SpawnedProcess). t.taken) o.taker_is in (
          o.number_is,
          record {
            inbox = number ∙ sym o.number_is;
            token = there.0;
            there = o.member_is;
            by =
                subst (λ (n : ℕ). KeepsBy functions table opening n s.waits s.generation there.0 s.taker.taken s.processes.items) (sym o.number_is)
                (subst (λ (b : Bool). KeepsBy functions table opening k b s.generation there.0 s.taker.taken s.processes.items) (sym o.awake)
                (subst (λ (g : ℕ). KeepsBy functions table opening k false g there.0 s.taker.taken s.processes.items) (sym o.generation)
                (subst (λ (ts : List SpawnedProcess). KeepsBy functions table opening k false 0 there.0 ts s.processes.items) (sym taken) (keeps_none k there.0 seat there.1 o))));
          },
        )

  module _ (members : List tokens.Member) (inboxes : List ℕ) (d : DeskState) (seats : List (Seat T I)) (opened : AreOpened members inboxes d.posted seats) (some : 0 < length members) where
    none_spawned : (home : ℕ) (end : Posting SpawnedProcess) → slice_get d.posted home ≡ Some end → (spawn : SpawnedProcess) (i : ℕ) → slice_get end.put i ≡ Some spawn → ⊥
    none_spawned home end at spawn i there = none-some spawn (ap (λ (e : Posting SpawnedProcess). slice_get e.put i) (sym (opened.end home end at)) ∙ there)

    -- nothing was posted yet
    pub desk_begun : IsDesk d
    desk_begun = record {
      some = omega (arith, opened.ends_are, some);
      posted = record {
        number = λ home end at. ap (λ (e : Posting SpawnedProcess). e.number) (opened.end home end at);
        each = λ home end at spawn among. absurd (none_spawned home end at spawn among.0 among.1);
      };
    }

    -- the run is as it should be between two rounds
    pub run_begun : (functions : List Mfa) (s : Script) (table : TableId) (opening : Opening) (sight : Sight) → SchedulersBegin → opening.members ≤ MOST_MEMBERS → AreMembersBegun table opening.members members
        → sight.exports ≡ functions → d.book.plain.script ≡ s → IsRun functions s table opening d inboxes seats sight
    run_begun functions s table opening sight law few begun exports script = record {
      some = omega (arith, opened.seats_are, some);
      members = omega (arith, begun.all, opened.seats_are);
      inboxes_are = opened.inbox;
      many = omega (arith, opened.inboxes_are, opened.seats_are);
      homes = omega (arith, opened.ends_are, opened.seats_are);
      exports = exports;
      script_is = script;
      kept = kept_at functions table opening law few members begun inboxes d.posted seats opened;
    }
