-- An entry that may be made and follows is lawful beside those before it; where it is not, a clause does not hold.
use Rattle.std.proofs.Common.{◌≡◌, ℕ, ◌+◌, ◌<◌, Bool, true, List, length, get_or, slice_get, Some, None, All, refl, sym, ap, subst, ◌∙◌, arith}
use Rattle.std.proofs.lemmas.List.Elements.{All-from_recursion}
use Rattle.std.proofs.lemmas.Option.{same_Some, slice_get_read, slice_get_within}
use Rattle.server_core.specs.ServerState.{ServerState, empty_state}
use Rattle.script_core.specs.declared.script.Script.{Script}
use Rattle.run_log.specs.declared.logs.Entry.{Entry}
use Rattle.run_log.specs.declared.logs.RunLog.{RunLog}
use Rattle.run_log.specs.Legal.{EntryFollows, LoadersInOrder, MayStand, Replays, half_after, published_to, state_before}
use Rattle.run_log.proofs.ListPlaces.{get_within}
use Rattle.span_check.specs.declared.standing.Standing.{Standing}
use Rattle.span_check.specs.Standings.{HasItsNames}
use Rattle.legality.specs.declared.sweep.Sweep.{Sweep}
use Rattle.legality.specs.Breaches.{ClauseHolds}
use Rattle.legality.specs.Entries.{EntryLingers, EntryMeets}
use Rattle.legality.specs.Looks.{IsTold}
use Rattle.legality.specs.Sweeps.{AfterEntry, AfterPlace, AreStanding, HasFollowed, IsSwept, MayBeMade, told_by}
use Rattle.legality.proofs.Answers.{is_told_where, lingers_here, meets_by}
use Rattle.legality.proofs.Ends.{all_from}
use Rattle.legality.proofs.Locals.{follows_at, stands_at}
use Rattle.legality.proofs.Places.{published_now}
use Rattle.legality.proofs.Steps.{after_entry, at_more, linger_more}

-- the names of each process that stands are known
pub all_named : (s : Script) (log : RunLog) (server : ServerState) (generation : ℕ) (standings : List Standing) → AreStanding s log server generation standings → All HasItsNames standings
all_named s log server generation standings are =
    All-from_recursion HasItsNames standings
    (all_from HasItsNames standings
    (λ k standing is.
    let process = get_within log.processes k (omega (arith, slice_get_within standings k standing is, are.many)) in
    (are.each k process.0 standing process.1 is).named))

module _ (s : Script) (log : RunLog) (watched : Bool) (place : ℕ) (before : Sweep) (swept : IsSwept s log watched place before) where
  now_is : published_to place log.journal ≡ before.server.generation
  now_is = published_now s log place swept.here.meet ∙ ap (λ x. x.generation) (sym swept.here.server_is)

  module _ (e : Entry) (at : slice_get log.journal place ≡ Some e) where
    module _ (after : Sweep) (may : MayBeMade before log.processes e) (made : HasFollowed s.modules before.server after.server e) where
      meets : EntryMeets s log place e
      meets =
          meets_by s log place before.server before.standings.items swept.standings now_is swept.here.server_is e may.told
          (subst (λ x. EntryFollows s.modules x e) swept.here.server_is made.follows)
          (subst (λ h. MayStand (state_before s.modules place log.journal) h e) swept.here.half_is (subst (λ x. MayStand x before.half e) swept.here.server_is may.stands))

      lingers : watched ≡ true → EntryLingers s log place e
      lingers is = lingers_here s log place before.server before.standings.items swept.standings now_is swept.here.server_is e may.told (swept.ahead is) at

      -- an entry was made
      pub entry_made : after.half ≡ half_after before.half e.who e.cmd → after.standings.items ≡ before.standings.items → after.seen.items ≡ before.seen.items → AfterEntry s log watched (place + 1) after e.published
      entry_made half standings seen =
          after_entry s log place e at watched before after swept (at_more s log place e at before.server after.server before.half after.half swept.here meets made half)
          (λ is. linger_more s log place e at (swept.linger is) (lingers is)) made standings seen

    -- where the journal is replayed, the entry follows
    pub follows_where : Replays s.modules empty_state log.journal → EntryFollows s.modules before.server e
    follows_where replays = subst (λ x. EntryFollows s.modules x e) (sym swept.here.server_is) (follows_at s.modules empty_state log.journal place e replays at)

    -- where the loaders are in order, it may stand there
    pub stands_where : LoadersInOrder s log.journal → MayStand before.server before.half e
    stands_where order =
        subst (λ x. MayStand x before.half e) (sym swept.here.server_is)
        (subst (λ h. MayStand (state_before s.modules place log.journal) h e) (sym swept.here.half_is) (stands_at s.modules empty_state None None log.journal place e order.purges at))

    -- where the clause holds that it would break, what it tells is so
    pub told_where : ClauseHolds (told_by e.cmd) s log → IsTold before.server before.standings.items log.processes e.cmd
    told_where holds = is_told_where s log place before.server before.standings.items swept.standings now_is swept.here.server_is e at holds

-- what is known after an entry is known of the one at its place
pub after_place : (s : Script) (log : RunLog) (watched : Bool) (place : ℕ) (sweep : Sweep) (e : Entry) → slice_get log.journal place ≡ Some e → AfterEntry s log watched (place + 1) sweep e.published → AfterPlace s log watched place sweep
after_place s log watched place sweep e at h x is = subst (λ (y : Entry). AfterEntry s log watched (place + 1) sweep y.published) (same_Some e x (sym at ∙ is)) h

-- the entry that the code reads
pub entry_read : (journal read : List Entry) (place : ℕ) (e : Entry) → read ≡ journal → place < length journal → e ≡ get_or read place e → slice_get journal place ≡ Some e
entry_read journal read place e same within is = slice_get_read journal (length journal) place e refl within (is ∙ ap (λ xs. get_or xs place e) same)
