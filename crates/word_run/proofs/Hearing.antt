-- What schedulers hear between two rounds, and what they have taken behind the next one.
use Rattle.std.proofs.Common.{◌≡◌, ℕ, ◌+◌, ◌<◌, ◌≤◌, List, get_or, length, length-set, Some, slice_get, slice_set, IsOk, refl, sym, ap, subst, ◌∙◌, arith}
use mathlib.Core.List.{IsPrefix}
use mathlib.Core.Logic.{dite}
use native.Mathlib.Decide.{ℕ_discrete}
use Rattle.std.proofs.lemmas.List.{set-get_or}
use Rattle.std.proofs.lemmas.Option.{same_Some, slice_get-get_or, slice_get_within}
use Rattle.atomic_table.specs.Seated.{TableId}
use Rattle.term_core.specs.declared.atom.Mfa.{Mfa}
use Rattle.shared_words.specs.declared.opening.Opening.{Opening}
use Rattle.inbox.specs.Ends.{Posting, heard}
use Rattle.script_core.specs.declared.script.Script.{Script}
use Rattle.run_law.specs.Newcomers.{SpawnedProcess}
use Rattle.run_log.proofs.ListPlaces.{get_within, set_here, set_there}
use Rattle.word_run.specs.declared.scheduler.Scheduler.{Scheduler}
use Rattle.word_run.specs.declared.seat.Seat.{Seat}
use Rattle.word_run.specs.declared.sight.Sight.{Sight}
use Rattle.word_run.specs.Desks.{DeskState}
use Rattle.word_run.specs.Loaders.{AreEnds}
use Rattle.word_run.specs.Places.{EachBecame}
use Rattle.word_run.specs.Rounds.{HadSlice, HasTakenTold, HaveTakers, IsRun}
use Rattle.word_run.specs.Schedulers.{Keeps}
use Rattle.word_run.specs.Told.{HaveHeard, HaveTakenPosted, HaveTakenTold, HearsNothing, KnowPosted, heard_seat}
use Rattle.word_run.proofs.RoundSeats.{if_ok}

-- ---- the ends that post

-- the end that posts to a home is that of its inbox
pub end_numbered : (posted now : List (Posting SpawnedProcess)) (home : ℕ) (d : Posting SpawnedProcess) → AreEnds posted → now ≡ posted → home < length posted → (get_or now home d).number ≡ home
end_numbered posted now home d ends now_is low =
    subst (λ (xs : List (Posting SpawnedProcess)). (get_or xs home d).number ≡ home) (sym now_is) (ends home (get_or posted home d) (slice_get-get_or posted home d low))

-- an end that is as it was stands in its place
pub end_kept : (now posted : List (Posting SpawnedProcess)) (count : ℕ) (d poster : Posting SpawnedProcess) → now ≡ posted → poster ≡ get_or now count d → slice_set now count poster ≡ posted
end_kept now posted count d poster now_is poster_is = ap (slice_set now count) poster_is ∙ set-get_or now count d ∙ now_is

module _ {T I : Type 0} where
  -- ---- one after the other

  -- the first so many schedulers were told, and each other one is as it was
  pub record FirstHaveHeard (count : ℕ) (posted : List (Posting SpawnedProcess)) (before after : List (Seat T I)) : Type 0 where
    pub many : length after ≡ length before
    pub each : (k : ℕ) (end : Posting SpawnedProcess) (x y : Seat T I) → k < count → slice_get posted k ≡ Some end → slice_get before k ≡ Some x → slice_get after k ≡ Some y → y ≡ heard_seat x end.put
    pub rest : (k : ℕ) → count ≤ k → slice_get after k ≡ slice_get before k

  pub none_heard : (posted : List (Posting SpawnedProcess)) (seats : List (Seat T I)) → FirstHaveHeard 0 posted seats seats
  none_heard posted seats = record { many = refl; each = λ k end x y low at was is. absurd (omega (arith, low)); rest = λ k from. refl }

  module _ (count : ℕ) (posted : List (Posting SpawnedProcess)) (before after : List (Seat T I)) (h : FirstHaveHeard count posted before after) where
    module _ (end : Posting SpawnedProcess) (old new : Seat T I) (end_at : slice_get posted count ≡ Some end) (old_at : slice_get after count ≡ Some old) (is : new ≡ heard_seat old end.put) where
      told_here : (k : ℕ) (e : Posting SpawnedProcess) (x y : Seat T I) → k ≡ count → slice_get posted k ≡ Some e → slice_get before k ≡ Some x → slice_get (slice_set after count new) k ≡ Some y → y ≡ heard_seat x e.put
      told_here k e x y same at was now =
          let end_is : end ≡ e = same_Some end e (sym end_at ∙ ap (slice_get posted) (sym same) ∙ at) in
          let old_is : old ≡ x = same_Some old x (sym old_at ∙ h.rest count (omega arith) ∙ ap (slice_get before) (sym same) ∙ was) in
          let new_is : y ≡ new = same_Some y new (sym now ∙ ap (slice_get (slice_set after count new)) same ∙ set_here after count old new old_at) in
          new_is ∙ is ∙ ap (λ (p : Posting SpawnedProcess). heard_seat old p.put) end_is ∙ ap (λ (s : Seat T I). heard_seat s e.put) old_is

      -- one more was told
      pub one_heard : FirstHaveHeard (count + 1) posted before (slice_set after count new)
      one_heard = record {
        many = length-set after count new ∙ h.many;
        each = λ k e x y low at was now.
            dite (ℕ_discrete k count) (λ (same : k ≡ count). told_here k e x y same at was now)
            (λ (other : k ≡ count → ⊥). h.each k e x y (omega (arith, low, other)) at was (sym (set_there after count new k other) ∙ now));
        rest = λ k from. set_there after count new k (λ same. absurd (omega (arith, from, same))) ∙ h.rest k (omega (arith, from));
      }

    -- so it is by what stands at the place
    pub next_heard : (now : List (Posting SpawnedProcess)) (d : Posting SpawnedProcess) (e seat : Seat T I) → now ≡ posted → count < length posted → count < length before
        → seat ≡ heard_seat (get_or after count e) (get_or now count d).put → FirstHaveHeard (count + 1) posted before (slice_set after count seat)
    next_heard now d e seat now_is end_low seat_low is =
        one_heard (get_or now count d) (get_or after count e) seat
        (ap (λ (xs : List (Posting SpawnedProcess)). slice_get xs count) (sym now_is) ∙ slice_get-get_or now count d (omega (arith, end_low, ap length now_is)))
        (slice_get-get_or after count e (omega (arith, seat_low, h.many))) is

    -- all were told
    pub all_heard : length before ≤ count → HaveHeard posted before after
    all_heard reached = record { many = h.many; each = λ k end x y at was now. h.each k end x y (omega (arith, slice_get_within before k x was, reached)) at was now }

    -- the next one has the end of its inbox
    pub taker_numbered : HaveTakers before → count < length before → (e : Seat T I) → (get_or after count e).scheduler.taker.number ≡ count
    taker_numbered takers low e = takers count (get_or after count e) (sym (h.rest count (omega arith)) ∙ slice_get-get_or after count e (omega (arith, low, h.many)))

  -- ---- a run

  -- so it is where both are under other names
  pub heard_lent : (posted : List (Posting SpawnedProcess)) (before lent left after : List (Seat T I)) → lent ≡ before → after ≡ left → HaveHeard posted lent left → HaveHeard posted before after
  heard_lent posted before lent left after lent_is after_is h =
      subst (λ (xs : List (Seat T I)). HaveHeard posted before xs) (sym after_is) (subst (λ (xs : List (Seat T I)). HaveHeard posted xs left) lent_is h)

  -- what a scheduler was told is nothing of what it keeps
  keeps_heard : (functions : List Mfa) (table : TableId) (opening : Opening) (s : Scheduler T I) (put : List SpawnedProcess) → Keeps functions table opening s → Keeps functions table opening (record s { taker = heard s.taker put })
  keeps_heard functions table opening s put h = record { inbox = h.inbox; token = h.token; there = h.there; by = h.by }

  module _ (functions : List Mfa) (table : TableId) (opening : Opening) where
    module _ (s : Script) (d : DeskState) (inboxes : List ℕ) (seats after : List (Seat T I)) (sight : Sight) (run : IsRun functions s table opening d inboxes seats sight) (h : HaveHeard d.posted seats after) where
      run_heard : IsRun functions s table opening d inboxes after sight
      run_heard = record {
        some = omega (arith, run.some, h.many);
        members = run.members ∙ sym h.many;
        inboxes_are = run.inboxes_are;
        many = run.many ∙ sym h.many;
        homes = run.homes ∙ sym h.many;
        exports = run.exports;
        script_is = run.script_is;
        kept = λ k seat at.
            let low = slice_get_within after k seat at in
            let was = get_within seats k (omega (arith, low, h.many)) in
            let end = get_within d.posted k (omega (arith, low, h.many, run.homes)) in
            let kept = run.kept k was.0 was.1 in
            subst (λ (y : Seat T I). (y.scheduler.number ≡ k) × Keeps functions table opening y.scheduler) (sym (h.each k end.0 was.0 seat end.1 was.1 at)) (kept.0, keeps_heard functions table opening was.0.scheduler end.0.put kept.1);
      }

    -- the run is as it should be still, over the desk as it was
    pub told_run : (d e : DeskState) (inboxes : List ℕ) (seats after : List (Seat T I)) (sight : Sight) → e ≡ d → IsRun functions d.book.plain.script table opening d inboxes seats sight → HaveHeard d.posted seats after
        → IsRun functions e.book.plain.script table opening e inboxes after sight
    told_run d e inboxes seats after sight is run h =
        subst (λ (x : DeskState). IsRun functions x.book.plain.script table opening x inboxes after sight) (sym is) (run_heard d.book.plain.script d inboxes seats after sight run h)

    -- ---- a round

    -- a slice tells a scheduler of nothing
    pub hear_nothing : (seats after : List (Seat T I)) → EachBecame (HadSlice functions table opening) seats after → EachBecame HearsNothing seats after
    hear_nothing seats after sliced = record { many = sliced.many; each = λ k x y at is. (sliced.each k x y at is).told }

    -- each had a slice, and none met want of memory
    pub taken_told : (seats after lent : List (Seat T I)) → lent ≡ after → EachBecame (HadSlice functions table opening) seats after → ((k : ℕ) (seat : Seat T I) → slice_get lent k ≡ Some seat → IsOk seat.answer) → HaveTakenTold after
    taken_told seats after lent is sliced ok = λ k seat at.
        let before = get_within seats k (omega (arith, slice_get_within after k seat at, sliced.many)) in
        if_ok (HasTakenTold seat.scheduler) seat.answer (ok k seat (ap (λ (xs : List (Seat T I)). slice_get xs k) is ∙ at)) (sliced.each k before.0 seat before.1 at).taken

  -- what was told before the round was told behind it
  pub know_posted : (posted : List (Posting SpawnedProcess)) (seats told after : List (Seat T I)) → HaveHeard posted seats told → EachBecame HearsNothing told after → KnowPosted posted after
  know_posted posted seats told after h quiet = λ k end seat at is.
      let mid = get_within told k (omega (arith, slice_get_within after k seat is, quiet.many)) in
      let was = get_within seats k (omega (arith, slice_get_within after k seat is, quiet.many, h.many)) in
      quiet.each k mid.0 seat mid.1 is ∙ ap (λ (y : Seat T I). y.scheduler.taker.told) (h.each k end was.0 mid.0 at was.1 mid.1)

  -- what was told was taken
  pub taken_posted : (posted : List (Posting SpawnedProcess)) (after : List (Seat T I)) → KnowPosted posted after → HaveTakenTold after → HaveTakenPosted posted after
  taken_posted posted after know taken = λ k end seat at is. subst (λ (xs : List SpawnedProcess). IsPrefix xs seat.scheduler.taker.taken) (know k end seat at is) (taken k seat is)
