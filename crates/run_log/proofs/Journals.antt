-- How a journal grows by an entry: the states of its generations stay, and the state after it is that of the newest but for what was released since.
use Rattle.std.proofs.Common.{◌≡◌, ℕ, zero, suc, ◌+◌, ◌<◌, ◌≤◌, ◌==◌, Bool, true, false, cond, List, [], ◌∷◌, ◌++◌, length, length-append, Option, Some, ◌&&◌, if◌then◌else◌, refl, sym, ap, subst, ◌∙◌, arith}
use Rattle.std.proofs.lemmas.Bool.{cond_both, cond-true, cond-false, eqb-true, eqb-false, eq-eqb}
use Rattle.std.proofs.lemmas.List.{append-nil}
use Rattle.std.proofs.lemmas.Grind.{flat_map-append}
use Rattle.std.proofs.lemmas.List.Elements.{filter-append}
use Rattle.std.specs.List.{flat_map}
use Rattle.std.proofs.lemmas.List.Sums.{sum-map, sum_by-cons}
use Rattle.mod_core.specs.declared.code.Module.{Module}
use Rattle.server_core.specs.declared.command.Cmd.{Cmd}
use Rattle.server_core.specs.declared.command.Cmd.TheVariants.{Load}
use Rattle.server_core.specs.ServerState.{ServerState}
use Rattle.server_core.specs.CommandTable.{Outcome, apply_of}
use Rattle.server_core.proofs.KeyEntries.{counted as count_of}
use Rattle.run_log.specs.declared.logs.Entry.{Entry}
use Rattle.run_log.specs.Journal.{state_after, next_state, newest_state, state_at, publishes, published_count, is_of, ends_one, ends_command, entries_of, published_before}
use Rattle.run_log.specs.Legal.{EntryFollows, MayStand, PurgesGo, Replays, commands_in, ended_by, half_after, is_release, is_runtime}
use Rattle.run_log.specs.declared.underway.HalfPurge.{HalfPurge}
use Rattle.run_log.proofs.StatesForTurns.{for_turns}
use Rattle.run_log.proofs.Steps.{IsNext, IsStep, StepIn, left_alone, next_bounds, next_generation, next_is, publishes_next, releases, stays, step_in, without_area}

-- a command leaves the generation or makes the next one
pub never_falls : (texts : List Module) (s : ServerState) (cmd : Cmd) → s.generation ≤ (next_state texts s cmd).generation
never_falls texts s cmd = (next_bounds s (next_state texts s cmd) cmd (next_is texts s cmd)).0

-- generations never fall
pub later : (texts : List Module) (s : ServerState) (journal : List Entry) → s.generation ≤ (newest_state texts s journal).generation
later texts s [] = omega arith
later texts s (e ∷ journal) = omega (arith, never_falls texts s e.cmd, later texts (next_state texts s e.cmd) journal)

same_behind : (texts : List Module) (s t : ServerState) (cmd : Cmd) (journal : List Entry) → IsNext s cmd t → (newest_state texts t journal).generation ≡ s.generation
    → ((newest_state texts t journal).generation ≡ t.generation → for_turns (newest_state texts t journal) ≡ for_turns t) → for_turns (newest_state texts t journal) ≡ for_turns s
same_behind texts s t cmd journal (left_alone e) h rest = rest (h ∙ sym (ap (λ x. x.generation) e)) ∙ ap for_turns e
same_behind texts s t cmd journal (without_area serial is e) h rest = rest (h ∙ sym (ap (λ x. x.generation) e)) ∙ ap for_turns e
same_behind texts s t cmd journal (next_generation g k more) h rest = absurd (omega (arith, g, h, later texts t journal))

-- where no generation was made, turns see the state before but for what is retired
pub same_state : (texts : List Module) (s : ServerState) (journal : List Entry) → (newest_state texts s journal).generation ≡ s.generation → for_turns (newest_state texts s journal) ≡ for_turns s
same_state texts s [] h = refl
same_state texts s (e ∷ journal) h = same_behind texts s (next_state texts s e.cmd) e.cmd journal (next_is texts s e.cmd) h (same_state texts (next_state texts s e.cmd) journal)

-- the newest generation's state is the one after the whole journal, but for what is retired and released
pub newest_at : (texts : List Module) (s : ServerState) (journal : List Entry) → for_turns (state_at texts s journal (newest_state texts s journal).generation) ≡ for_turns (newest_state texts s journal)
newest_at texts s [] = refl
newest_at texts s (e ∷ journal) =
    let t = next_state texts s e.cmd in
    let end = newest_state texts t journal in
    cond_both (s.generation == end.generation) s (state_at texts t journal end.generation) (λ x. for_turns x ≡ for_turns end)
    (λ h. sym (same_state texts s (e ∷ journal) (sym (eqb-true s.generation end.generation h))))
    (λ h. newest_at texts t journal)

same_choice : (b : Bool) (s x y : ServerState) → (b ≡ false → x ≡ y) → (if b then s else x) ≡ (if b then s else y)
same_choice true s x y f = refl
same_choice false s x y f = f refl

-- one more entry keeps the states of the generations before it
pub state_kept : (texts : List Module) (s : ServerState) (journal : List Entry) (e : Entry) (k : ℕ) → s.generation ≤ k → k ≤ (newest_state texts s journal).generation
    → state_at texts s (journal ++ e ∷ []) k ≡ state_at texts s journal k
state_kept texts s [] e k low high = cond-true (s.generation == k) s (next_state texts s e.cmd) (eq-eqb s.generation k (omega (arith, low, high)))
state_kept texts s (x ∷ journal) e k low high =
    let t = next_state texts s x.cmd in
    same_choice (s.generation == k) s (state_at texts t (journal ++ e ∷ []) k) (state_at texts t journal k)
    (λ h. let other = eqb-false s.generation k h in state_kept texts t journal e k (omega (arith, low, other, (next_bounds s t x.cmd (next_is texts s x.cmd)).1)) high)

pub newest_more : (texts : List Module) (s : ServerState) (journal : List Entry) (e : Entry) → newest_state texts s (journal ++ e ∷ []) ≡ next_state texts (newest_state texts s journal) e.cmd
newest_more texts s [] e = refl
newest_more texts s (x ∷ journal) e = newest_more texts (next_state texts s x.cmd) journal e

pub replays_more : (texts : List Module) (s : ServerState) (journal : List Entry) (e : Entry) → Replays texts s journal → EntryFollows texts (newest_state texts s journal) e → Replays texts s (journal ++ e ∷ [])
replays_more texts s [] e r f = (f, tt)
replays_more texts s (x ∷ journal) e r f = (r.0, replays_more texts (next_state texts s x.cmd) journal e r.1 f)

-- how many generations the entries publish, the first one apart
pub count-cons : (e : Entry) (journal : List Entry) → published_count (e ∷ journal) ≡ publishes e + published_count journal
count-cons e journal = sum-map publishes (e ∷ journal) ∙ sum_by-cons publishes e journal ∙ ap (λ n. publishes e + n) (sym (sum-map publishes journal))

-- an entry with the outcome of the table follows
pub entry_follows : (texts : List Module) (s : ServerState) (e : Entry) (t : ServerState) → is_runtime e.who ≡ is_release e.cmd
    → apply_of texts s e.cmd ≡ Some (record { state = t; answer = record { reply = e.reply; published = e.published } }) → EntryFollows texts s e
entry_follows texts s e t by h = record { by_whom = by; applied = h ∙ ap (λ (x : ServerState). Some (record { state = x; answer = record { reply = e.reply; published = e.published } })) (sym (ap (state_after s) h)) }

counted_step : (s : ServerState) (cmd : Cmd) (o : Outcome) → IsStep s cmd o → count_of o.answer.published + s.generation ≡ o.state.generation
counted_step s cmd o (stays p q) =
    let n : count_of o.answer.published ≡ 0 = ap count_of q in
    let g : o.state.generation ≡ s.generation = ap (λ x. x.generation) p in
    omega (arith, n, g)
counted_step s cmd o (releases serial is p q) =
    let n : count_of o.answer.published ≡ 0 = ap count_of q in
    let g : o.state.generation ≡ s.generation = ap (λ x. x.generation) p in
    omega (arith, n, g)
counted_step s cmd o (publishes_next p q k more) =
    let n : count_of o.answer.published ≡ 1 = ap count_of q in
    omega (arith, n, p)

-- an entry that follows counts the generation that it makes
entry_counted : (texts : List Module) (s : ServerState) (e : Entry) → EntryFollows texts s e → publishes e + s.generation ≡ (next_state texts s e.cmd).generation
entry_counted texts s e f = counted_step s e.cmd (record { state = next_state texts s e.cmd; answer = record { reply = e.reply; published = e.published } }) (subst (StepIn s e.cmd) f.applied (step_in texts s e.cmd))

-- a replayed journal has made as many generations as its entries published
pub counted : (texts : List Module) (s : ServerState) (journal : List Entry) → Replays texts s journal → published_count journal + s.generation ≡ (newest_state texts s journal).generation
counted texts s [] r = omega arith
counted texts s (e ∷ journal) r =
    omega (arith, count-cons e journal, entry_counted texts s e r.0, counted texts (next_state texts s e.cmd) journal r.1)

pub entries_more : (loader : ℕ) (journal : List Entry) (e : Entry) → entries_of loader (journal ++ e ∷ []) ≡ entries_of loader journal ++ entries_of loader (e ∷ [])
entries_more loader journal e = filter-append (λ (x : Entry). is_of loader x.who) journal (e ∷ [])

-- what a loader's commands are with one entry more
pub commands_more : (loader : ℕ) (journal : List Entry) (e : Entry) → commands_in loader (journal ++ e ∷ []) ≡ commands_in loader journal ++ commands_in loader (e ∷ [])
commands_more loader journal e =
    ap (flat_map (λ (x : Entry). ended_by x.cmd)) (entries_more loader journal e) ∙ flat_map-append (λ (x : Entry). ended_by x.cmd) (entries_of loader journal) (entries_of loader (e ∷ []))

-- an entry of the loader ends what its command ends
pub commands_own : (loader : ℕ) (journal : List Entry) (e : Entry) → is_of loader e.who ≡ true → commands_in loader (journal ++ e ∷ []) ≡ commands_in loader journal ++ ended_by e.cmd
commands_own loader journal e own =
    commands_more loader journal e
    ∙ ap (λ (xs : List Entry). commands_in loader journal ++ flat_map (λ (x : Entry). ended_by x.cmd) xs) (cond-true (is_of loader e.who) (e ∷ []) [] own)
    ∙ ap (λ xs. commands_in loader journal ++ xs) (append-nil (ended_by e.cmd))

-- one of another ends nothing
pub commands_other : (loader : ℕ) (journal : List Entry) (e : Entry) → is_of loader e.who ≡ false → commands_in loader (journal ++ e ∷ []) ≡ commands_in loader journal
commands_other loader journal e other =
    commands_more loader journal e
    ∙ ap (λ (xs : List Entry). commands_in loader journal ++ flat_map (λ (x : Entry). ended_by x.cmd) xs) (cond-false (is_of loader e.who) (e ∷ []) [] other)
    ∙ append-nil (commands_in loader journal)

-- a command ends one command of a script, or none
pub ended_length : (cmd : Cmd) → length (ended_by cmd) ≡ (if ends_one cmd then 1 else 0)
ended_length (Load refs) = refl
ended_length cmd = refl

own_count : (own one : Bool) (x : Entry) (xs : List Entry) → length (ended_by x.cmd) ≡ (if one then 1 else 0) → length (flat_map (λ (e : Entry). ended_by e.cmd) (cond own (x ∷ xs) xs)) ≡ (if own && one then 1 else 0) + length (flat_map (λ (e : Entry). ended_by e.cmd) xs)
own_count true one x xs h = length-append (ended_by x.cmd) (flat_map (λ (e : Entry). ended_by e.cmd) xs) ∙ ap (λ n. n + length (flat_map (λ (e : Entry). ended_by e.cmd) xs)) h
own_count false one x xs h = omega arith

-- the first entry counts among the commands where it ends one
commands_count : (loader : ℕ) (x : Entry) (journal : List Entry) → length (commands_in loader (x ∷ journal)) ≡ (if ends_command loader x then 1 else 0) + length (commands_in loader journal)
commands_count loader x journal = own_count (is_of loader x.who) (ends_one x.cmd) x (entries_of loader journal) (ended_length x.cmd)

-- before an entry stand at most all generations
pub before_counted : (loader place : ℕ) (journal : List Entry) → published_before loader place journal ≤ published_count journal
before_counted loader place [] = omega arith
before_counted loader zero (e ∷ journal) =
    rw (count-cons e journal)
    (cond_both (ends_command loader e) 0 (publishes e + published_before loader zero journal) (λ n. n ≤ publishes e + published_count journal) (λ h. omega arith) (λ h. omega (arith, before_counted loader zero journal)))
before_counted loader (suc place) (e ∷ journal) =
    omega (arith, count-cons e journal, before_counted loader (if ends_command loader e then place else suc place) journal)

kept_first : (b : Bool) (n p q left all : ℕ) → (0 < left → p ≡ q) → all ≡ (if b then 1 else 0) + left → 0 < all → (if b then 0 else n + p) ≡ (if b then 0 else n + q)
kept_first true n p q left all f e h = refl
kept_first false n p q left all f e h = ap (λ m. n + m) (f (omega (arith, e, h)))

within_rest : (b : Bool) (place left all : ℕ) → all ≡ (if b then 1 else 0) + left → suc place < all → (if b then place else suc place) < left
within_rest true place left all e h = omega (arith, e, h)
within_rest false place left all e h = omega (arith, e, h)

-- one more entry changes nothing of what stands before those that are there
pub before_kept : (loader place : ℕ) (journal : List Entry) (e : Entry) → place < length (commands_in loader journal) → published_before loader place (journal ++ e ∷ []) ≡ published_before loader place journal
before_kept loader place [] e h = absurd (omega (arith, h))
before_kept loader zero (x ∷ journal) e h =
    kept_first (ends_command loader x) (publishes x) (published_before loader zero (journal ++ e ∷ [])) (published_before loader zero journal) (length (commands_in loader journal)) (length (commands_in loader (x ∷ journal)))
    (before_kept loader zero journal e) (commands_count loader x journal) h
before_kept loader (suc place) (x ∷ journal) e h =
    let left = length (commands_in loader journal) in
    ap (λ n. publishes x + n)
    (before_kept loader (if ends_command loader x then place else suc place) journal e (within_rest (ends_command loader x) place left (length (commands_in loader (x ∷ journal))) (commands_count loader x journal) h))

-- purges go on with an entry that may stand
pub purges_more : (texts : List Module) (s : ServerState) (half last : Option HalfPurge) (journal : List Entry) (e : Entry) → PurgesGo texts s half journal last → MayStand (newest_state texts s journal) last e
    → PurgesGo texts s half (journal ++ e ∷ []) (half_after last e.who e.cmd)
purges_more texts s half last [] e go may = (subst (λ h. MayStand s h e) (sym go) may, ap (λ h. half_after h e.who e.cmd) go)
purges_more texts s half last (x ∷ journal) e go may = (go.0, purges_more texts (next_state texts s x.cmd) (half_after half x.who x.cmd) last journal e go.1 may)
