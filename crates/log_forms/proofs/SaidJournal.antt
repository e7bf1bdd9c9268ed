-- The journal of a lawful log: each entry is of a command of the script, and a report can show it.
use Rattle.std.proofs.Common.{◌≡◌, ℕ, ◌+◌, ◌<◌, ◌≤◌, ◌^◌, Bool, true, false, List, [], ◌∷◌, Option, Some, None, IfSome, if◌then◌else◌, refl, sym, subst, arith}
use Rattle.std.specs.List.{AllByRecursion}
use Rattle.std.proofs.lemmas.Option.{none-some}
use Rattle.term_core.specs.declared.atom.AtomId.{AtomId}
use Rattle.mod_core.specs.declared.code.Module.{Module}
use Rattle.server_core.specs.declared.command.Cmd.{Cmd}
use Rattle.server_core.specs.declared.command.Cmd.TheVariants as cmds
use Rattle.server_core.specs.ServerState.{ServerState, is_retired}
use Rattle.server_core.specs.CommandTable.{Outcome, apply_of, release_of}
use Rattle.server_core.proofs.Changes.{came}
use Rattle.script_core.specs.declared.script.ScriptCmd.{ScriptCmd}
use Rattle.script_core.specs.Sound.{IsCmdOf}
use Rattle.run_log.specs.declared.logs.Who.{Who}
use Rattle.run_log.specs.declared.logs.Who.TheVariants.{Loader, Runtime}
use Rattle.run_log.specs.declared.logs.Entry.{Entry}
use Rattle.run_log.specs.declared.underway.HalfPurge.{HalfPurge}
use Rattle.run_log.specs.Journal.{newest_state, next_state}
use Rattle.run_log.specs.Legal.{MayStandBetween, PurgesGo, Replays, half_after, is_release, is_runtime}
use Rattle.run_log.specs.WellFormed.{IsCommandOf, IsEntryOf, IsNamed, IsNarrow, IsWhoOf, IsWide}
use Rattle.run_log.proofs.EntryCommands.{HoldsOf}
use Rattle.run_log.proofs.Journals.{later}
use Rattle.run_log.proofs.Steps.{IsStep, StepIn, next_grows, next_is, publishes_next, releases, stays, step_in}
use Rattle.log_forms.proofs.SaidCode.{IsKnownModule, any_of}
use Rattle.log_forms.proofs.SaidReplies.{IsSaidLinger, IsSaidLoad, answer_said, references_said, texts_named}
use Rattle.log_forms.proofs.SaidStates.{IsSaidPut, IsSaidState, came_said}

module _ (names : List (List ℕ)) (texts : List Module) (loaders : ℕ) where
  -- a command of one of so many loaders
  abbrev pub IsDone : ℕ → ScriptCmd → Type 0
  IsDone loader command = IsCmdOf names texts command × (loader < loaders)

  -- ---- a purge that waits has its second half

  record IsNamedHalf (half : HalfPurge) : Type 0 where
    who : IsWhoOf half.who
    named : IsNamed names half.«module»

  module _ (few : loaders ≤ 2 ^ 32) where
    purge_named : (who : Who) (half : HalfPurge) (name : AtomId) (killed : Bool) → who ≡ half.who → name ≡ half.«module» → is_runtime who ≡ false → HoldsOf IsDone who (cmds.Purge name killed) → IsNamedHalf half
    purge_named (Loader loader) half name killed w n own h =
        let low = h.0.1 in
        record { who = subst IsWhoOf w (let narrow : loader < 2 ^ 32 = omega (arith, low, few) in narrow); named = subst (IsNamed names) n h.0.0 }
    purge_named Runtime half name killed w n own h = absurd cc

    half_by : (half : HalfPurge) (who : Who) (cmd : Cmd) → MayStandBetween half who cmd → is_runtime who ≡ is_release cmd → HoldsOf IsDone who cmd → (half_after (Some half) who cmd ≡ Some half → IsNamedHalf half) → IsNamedHalf half
    half_by half who (cmds.Purge name killed) m r h next = purge_named who half name killed m.0 m.1 r h
    half_by half who (cmds.CheckOld name) m r h next = next refl
    half_by half who (cmds.Spawn target args) m r h next = next refl
    half_by half who (cmds.Release serial) m r h next = next refl
    half_by half who cmd m r h next = absurd m

    half_goes : (s : ServerState) (half : HalfPurge) (journal : List Entry) → Replays texts s journal → PurgesGo texts s (Some half) journal None → AllByRecursion (λ e. HoldsOf IsDone e.who e.cmd) journal → IsNamedHalf half
    half_goes s half [] r go h = absurd cc
    half_goes s half (e ∷ journal) r go h =
        let follows = r.0 in
        half_by half e.who e.cmd go.0 follows.by_whom h.0
        (λ same. half_goes (next_state texts s e.cmd) half journal r.1 (subst (λ (x : Option HalfPurge). PurgesGo texts (next_state texts s e.cmd) x journal None) same go.1) h.1)

    -- ---- one entry

    record IsSaidCommand (who : Who) (cmd : Cmd) : Type 0 where
      by_whom : IsWhoOf who
      command : IsCommandOf names cmd

    narrow : (loader : ℕ) → loader < loaders → IsNarrow loader
    narrow loader low = omega (arith, low, few)

    command_said : (known : AllByRecursion (IsKnownModule names) texts) (who : Who) (cmd : Cmd) → is_runtime who ≡ is_release cmd → HoldsOf IsDone who cmd → ((name : AtomId) → cmd ≡ cmds.Doom name → IsNamedHalf (record { who = who; «module» = name })) → ((serial : ℕ) → cmd ≡ cmds.Release serial → IsWide serial)
        → IsSaidCommand who cmd
    command_said known Runtime (cmds.Release serial) r h doom release = record { by_whom = tt; command = release serial refl }
    command_said known Runtime cmd r h doom release = absurd cc
    command_said known (Loader n) (cmds.Release serial) r h doom release = absurd cc
    command_said known (Loader n) (cmds.Load refs) r h doom release = let load = h.0.0 in record { by_whom = narrow n h.0.1; command = (load.some, references_said names texts refs known load.given) }
    command_said known (Loader n) (cmds.Delete name) r h doom release = record { by_whom = narrow n h.0.1; command = h.0.0 }
    command_said known (Loader n) (cmds.SoftPurge name lingers) r h doom release = record { by_whom = narrow n h.0.1; command = h.0.0 }
    command_said known (Loader n) (cmds.Doom name) r h doom release = let half = doom name refl in record { by_whom = half.who; command = half.named }
    command_said known (Loader n) (cmds.Purge name killed) r h doom release = record { by_whom = narrow n h.0.1; command = h.0.0 }
    command_said known (Loader n) (cmds.CheckOld name) r h doom release = record { by_whom = narrow n h.0.1; command = h.0.0 }
    command_said known (Loader n) (cmds.Put key term) r h doom release = record { by_whom = narrow n h.0.1; command = h.0.0 }
    command_said known (Loader n) (cmds.Erase key) r h doom release = record { by_whom = narrow n h.0.1; command = h.0.0 }
    command_said known (Loader n) (cmds.Trace target on) r h doom release = let trace = h.0.0 in record { by_whom = narrow n h.0.1; command = record { module_named = trace.module_named; name_named = trace.name_named; few = trace.few } }
    command_said known (Loader n) (cmds.Spawn target args) r h doom release =
        let spawn = h.0.0 in
        record { by_whom = narrow n h.0.1; command = record { function = record { module_named = spawn.module_named; name_named = spawn.name_named; few = spawn.few }; arity_is = sym spawn.arity_is; each = spawn.each } }

    load_in : (cmd : Cmd) → IsCommandOf names cmd → IsSaidLoad names cmd
    load_in (cmds.Load refs) h = h.1
    load_in cmd h = tt

    put_in : (cmd : Cmd) → IsCommandOf names cmd → IsSaidPut names cmd
    put_in (cmds.Put key term) h = h.is_term
    put_in cmd h = tt

    pub serials_grow : (s : ServerState) (journal : List Entry) → s.next_serial ≤ (newest_state texts s journal).next_serial
    serials_grow s [] = omega arith
    serials_grow s (e ∷ journal) =
        let grows = next_grows s (next_state texts s e.cmd) e.cmd (next_is texts s e.cmd) in
        let here = grows.serials in
        omega (arith, here, serials_grow (next_state texts s e.cmd) journal)

    retired_is : (s : ServerState) (serial : ℕ) (b : Bool) (o : Outcome) (made : Outcome) → is_retired s serial ≡ b → (if b then Some made else None) ≡ Some o → is_retired s serial ≡ true
    retired_is s serial true o made e h = e
    retired_is s serial false o made e h = absurd (none-some o h)

    release_wide : (s : ServerState) (cmd : Cmd) (o : Outcome) → apply_of texts s cmd ≡ Some o → IsSaidState names s → s.next_serial ≤ 2 ^ 64 → (serial : ℕ) → cmd ≡ cmds.Release serial → IsWide serial
    release_wide s cmd o h said bound serial is =
        let applied : release_of s serial ≡ Some o = subst (λ (c : Cmd). apply_of texts s c ≡ Some o) is h in
        let below = any_of (λ n. n < s.next_serial) s.retired serial (retired_is s serial (is_retired s serial) o _ refl applied) said.retired in
        omega (arith, below, bound)

    some_wide : (o : Option ℕ) (n : ℕ) → o ≡ Some n → IsWide n → IfSome o IsWide
    some_wide o n e h = subst (λ (x : Option ℕ). IfSome x IsWide) (sym e) h

    none_wide : (o : Option ℕ) → o ≡ None → IfSome o IsWide
    none_wide o e = subst (λ (x : Option ℕ). IfSome x IsWide) (sym e) tt

    published_by : (s : ServerState) (cmd : Cmd) (o : Outcome) → o.state.generation < 2 ^ 64 → IsStep s cmd o → IfSome o.answer.published IsWide
    published_by s cmd o bound (stays p q) = none_wide o.answer.published q
    published_by s cmd o bound (releases serial is p q) = none_wide o.answer.published q
    published_by s cmd o bound (publishes_next p q k g) = some_wide o.answer.published (s.generation + 1) q (omega (arith, p, bound))

    -- ---- the whole journal

    pub journal_said : AllByRecursion (IsKnownModule names) texts → (s : ServerState) (half : Option HalfPurge) (journal : List Entry) → IsSaidState names s → Replays texts s journal → PurgesGo texts s half journal None
        → AllByRecursion (λ e. HoldsOf IsDone e.who e.cmd) journal → AllByRecursion (λ e. IsSaidLinger names e.cmd) journal → (newest_state texts s journal).generation < 2 ^ 64 → (newest_state texts s journal).next_serial ≤ 2 ^ 64 → AllByRecursion (IsEntryOf names) journal
    journal_said known s half [] said r go h l g n = tt
    journal_said known s half (e ∷ journal) said r go h l g n =
        let follows = r.0 in
        let t = next_state texts s e.cmd in
        let o : Outcome = record { state = t; answer = record { reply = e.reply; published = e.published } } in
        let bound = serials_grow s (e ∷ journal) in
        let command = command_said known e.who e.cmd follows.by_whom h.0 (λ name is. half_goes t (record { who = e.who; «module» = name }) journal r.1 (subst (λ (c : Cmd). PurgesGo texts t (half_after half e.who c) journal None) is go.1) h.1)
        (release_wide s e.cmd o follows.applied said (omega (arith, bound, n))) in
        let answer = answer_said names texts s e.cmd o follows.applied (load_in e.cmd command.command) l.0 in
        let step : IsStep s e.cmd o = subst (StepIn s e.cmd) follows.applied (step_in texts s e.cmd) in
        let low = later texts t journal in
        let next = came_said names texts s e.cmd o (λ refs ms given. texts_named names texts refs ms known given) (put_in e.cmd command.command) (came texts s e.cmd o follows.applied) said in (
          record { who = command.by_whom; command = command.command; reply = answer.reply_said; agrees = answer.agrees; published = published_by s e.cmd o (omega (arith, low, g)) step },
          journal_said known t (half_after half e.who e.cmd) journal next r.1 go.1 h.1 l.1 g n,
        )
