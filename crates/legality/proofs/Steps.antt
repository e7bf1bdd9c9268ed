-- What is known after one more entry.
use Rattle.std.proofs.Common.{◌≡◌, ◌⊎◌, inl, inr, ℕ, ◌+◌, ◌<◌, ◌≤◌, Bool, true, is_some, List, [], ◌∷◌, slice_get, Option, Some, None, if◌then◌else◌, refl, sym, ap, subst, ◌∙◌, arith}
use Rattle.std.proofs.lemmas.Bool.{cases_lt}
use Rattle.std.proofs.lemmas.Option.{same_Some, slice_get_within}
use Rattle.server_core.specs.declared.command.Cmd.{Cmd}
use Rattle.server_core.specs.ServerState.{ServerState, IsSound, old_of}
use Rattle.mod_core.specs.declared.code.Module.{Module}
use Rattle.script_core.specs.declared.script.Script.{Script}
use Rattle.run_log.specs.declared.logs.Entry.{Entry}
use Rattle.run_log.specs.declared.logs.RunLog.{RunLog}
use Rattle.run_log.specs.Journal.{next_state, publishes}
use Rattle.run_log.specs.Legal.{Lingers, half_after, state_before, turns_in_log}
use Rattle.machine_core.specs.LaterStates.{HasAreas}
use Rattle.run_log.proofs.AreaWords.{areas_stay, sound_below}
use Rattle.run_log.proofs.Journals.{count-cons, counted}
use Rattle.run_log.proofs.Steps.{IsNext, left_alone, next_generation, next_is, without_area}
use Rattle.run_log.specs.declared.underway.HalfPurge.{HalfPurge}
use Rattle.legality.specs.declared.sweep.Sweep.{Sweep}
use Rattle.legality.specs.Entries.{EntryLingers, EntryMeets, LingerBefore, MeetBefore}
use Rattle.legality.specs.Sweeps.{AfterEntry, AreSeen, AreStanding, HasFollowed, IsAt, IsMade, IsSwept}
use Rattle.legality.proofs.Places.{made_here, next_before, next_half}
use Rattle.legality.proofs.Standings.{standings_later}

same_entry : (journal : List Entry) (k place : ℕ) (x e : Entry) → slice_get journal k ≡ Some x → slice_get journal place ≡ Some e → place ≡ k → e ≡ x
same_entry journal k place x e is at same = same_Some e x (sym at ∙ ap (slice_get journal) same ∙ is)

module _ (s : Script) (log : RunLog) (place : ℕ) (e : Entry) (at : slice_get log.journal place ≡ Some e) where
  -- one more entry meets what a lawful log says
  meet_more : MeetBefore s log place → EntryMeets s log place e → MeetBefore s log (place + 1)
  meet_more meet here k x below is = by (cases_lt k place)
    where
      by : (k < place) ⊎ (place ≤ k) → EntryMeets s log k x
      by (inl low) = meet k x low is
      by (inr high) =
          let same : place ≡ k = omega (arith, below, high) in
          subst (EntryMeets s log k) (same_entry log.journal k place x e is at same) (subst (λ n. EntryMeets s log n e) same here)

  -- so does what is told of processes that linger
  pub linger_more : LingerBefore s log place → EntryLingers s log place e → LingerBefore s log (place + 1)
  linger_more linger here k x below is = by (cases_lt k place)
    where
      by : (k < place) ⊎ (place ≤ k) → EntryLingers s log k x
      by (inl low) = linger k x low is
      by (inr high) =
          let same : place ≡ k = omega (arith, below, high) in
          subst (EntryLingers s log k) (same_entry log.journal k place x e is at same) (subst (λ n. EntryLingers s log n e) same here)

  -- the server and the purge that waits are those before the next entry
  pub at_more : (before after : ServerState) (half next : Option HalfPurge) → IsAt s log place before half → EntryMeets s log place e → HasFollowed s.modules before after e
      → next ≡ half_after half e.who e.cmd → IsAt s log (place + 1) after next
  at_more before after half next here meets made half_is = record {
    within = let h = slice_get_within log.journal place e at in omega (arith, h);
    meet = meet_more here.meet meets;
    server_is = made.next ∙ ap (λ x. next_state s.modules x e.cmd) here.server_is ∙ sym (next_before log.journal place e at s.modules);
    sound = made.sound;
    half_is = half_is ∙ ap (λ h. half_after h e.who e.cmd) here.half_is ∙ sym (next_half log.journal place e at);
  }

-- an entry that follows makes as many generations as it says
generation_more : (texts : List Module) (before after : ServerState) (e : Entry) → HasFollowed texts before after e → publishes e + before.generation ≡ after.generation
generation_more texts before after e made =
    let all = counted texts before (e ∷ []) (made.follows, tt) in
    let one = count-cons e [] in
    let is : after.generation ≡ (next_state texts before e.cmd).generation = ap (λ x. x.generation) made.next in
    omega (arith, all, one, is)

none_published : (e : Entry) → e.published ≡ None → publishes e ≡ 0
none_published e h = ap (λ o. if is_some o then 1 else 0) h

some_published : (e : Entry) (g : ℕ) → e.published ≡ Some g → publishes e ≡ 1
some_published e g h = ap (λ o. if is_some o then 1 else 0) h

-- where no generation is made, the versions of the modules stay
same_old : (s t : ServerState) (cmd : Cmd) (name : ℕ) → IsNext s cmd t → t.generation ≡ s.generation → old_of t name ≡ old_of s name
same_old s t cmd name (left_alone e) h = ap (λ x. old_of x name) e
same_old s t cmd name (without_area serial is e) h = ap (λ x. old_of x name) e
same_old s t cmd name (next_generation g k more) h = absurd (omega (arith, g, h))

areas_after : (texts : List Module) (before after : ServerState) (e : Entry) → IsSound before → HasFollowed texts before after e → HasAreas before after
areas_after texts before after e sound made = subst (HasAreas before) (sym made.next) (areas_stay texts before e.cmd (sound_below before sound))

module _ (s : Script) (log : RunLog) (place : ℕ) (e : Entry) (at : slice_get log.journal place ≡ Some e) (watched : Bool) (before after : Sweep) (swept : IsSwept s log watched place before) (here : IsAt s log (place + 1) after.server after.half)
    (linger : watched ≡ true → LingerBefore s log (place + 1)) (made : HasFollowed s.modules before.server after.server e) (standings : after.standings.items ≡ before.standings.items) (seen : after.seen.items ≡ before.seen.items) where
  standings_more : (generation : ℕ) → before.server.generation + 1 ≡ generation → AreStanding s log after.server generation after.standings.items
  standings_more generation h =
      subst (λ g. AreStanding s log after.server g after.standings.items) h
      (subst (AreStanding s log after.server (before.server.generation + 1)) (sym standings)
      (standings_later before.server after.server (areas_after s.modules before.server after.server e swept.here.sound made) s log (before.server.generation + 1) before.standings.items swept.standings))

  seen_more : (generation : ℕ) → before.server.generation + 1 ≡ generation → AreSeen s log generation after.seen.items
  seen_more generation h = subst (λ g. AreSeen s log g after.seen.items) h (subst (AreSeen s log (before.server.generation + 1)) (sym seen) swept.seen)

  -- after an entry that makes no generation all is judged still
  swept_more : e.published ≡ None → IsSwept s log watched (place + 1) after
  swept_more none =
      let g = generation_more s.modules before.server after.server e made in
      let same : after.server.generation ≡ before.server.generation = omega (arith, g, none_published e none) in
      let next : before.server.generation + 1 ≡ after.server.generation + 1 = omega (arith, same) in
      record {
        here = here;
        linger = linger;
        standings = standings_more (after.server.generation + 1) next;
        ahead = λ is_watched k serial x name linger process from is_at now is old known.
            subst (λ n. Lingers serial n linger.turn (turns_in_log s log linger.process process)) (sym same)
            (swept.ahead is_watched k serial x name linger process (omega (arith, from)) is_at (now ∙ same) is
            (sym (same_old before.server after.server e.cmd name.0 (subst (IsNext before.server e.cmd) (sym made.next) (next_is s.modules before.server e.cmd)) same) ∙ old) known);
        seen = seen_more (after.server.generation + 1) next;
      }

  -- after one that makes a generation nothing of that is judged
  made_more : (generation : ℕ) → e.published ≡ Some generation → IsMade s log watched (place + 1) after
  made_more generation some =
      let g = generation_more s.modules before.server after.server e made in
      let next : before.server.generation + 1 ≡ after.server.generation = omega (arith, g, some_published e generation some) in
      let was : (state_before s.modules place log.journal).generation ≡ before.server.generation = ap (λ x. x.generation) (sym swept.here.server_is) in
      record {
        here = here;
        linger = linger;
        first = made_here s.modules log.journal place e after.server at (ap (λ x. next_state s.modules x e.cmd) (sym swept.here.server_is) ∙ sym made.next) (omega (arith, was, next));
        standings = standings_more after.server.generation next;
        seen = seen_more after.server.generation next;
      }

  by_published : (o : Option ℕ) → e.published ≡ o → AfterEntry s log watched (place + 1) after o
  by_published None h = swept_more h
  by_published (Some generation) h = made_more generation h

  pub after_entry : AfterEntry s log watched (place + 1) after e.published
  after_entry = by_published e.published refl
