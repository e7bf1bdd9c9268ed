-- The state, the generation and the purge that waits before a place of a journal, and before the next place.
use Rattle.std.proofs.Common.{◌≡◌, ℕ, zero, suc, ◌+◌, ◌<◌, ◌==◌, List, [], ◌∷◌, ◌++◌, take, slice_get, Option, Some, None, refl, ap, ◌∙◌, arith}
use Rattle.std.proofs.lemmas.Bool.{cond-true, cond-false, eq-eqb, ne_eqb}
use Rattle.std.proofs.lemmas.Option.{none-some, same_Some}
use Rattle.mod_core.specs.declared.code.Module.{Module}
use Rattle.server_core.specs.ServerState.{ServerState, empty_state}
use Rattle.script_core.specs.declared.script.Script.{Script}
use Rattle.script_core.proofs.JoinedPlaces.{take_next}
use Rattle.run_log.specs.declared.logs.Entry.{Entry}
use Rattle.run_log.specs.declared.logs.RunLog.{RunLog}
use Rattle.run_log.specs.Journal.{next_state, newest_state, state_at}
use Rattle.run_log.specs.declared.underway.HalfPurge.{HalfPurge}
use Rattle.run_log.specs.Legal.{half_after, published_to, state_before}
use Rattle.run_log.proofs.Journals.{counted, later, never_falls, newest_more}
use Rattle.legality.specs.Entries.{MeetBefore, half_before, half_over}
use Rattle.legality.proofs.Locals.{replays_before}

half_more : (half : Option HalfPurge) (journal : List Entry) (e : Entry) → half_over half (journal ++ e ∷ []) ≡ half_after (half_over half journal) e.who e.cmd
half_more half [] e = refl
half_more half (x ∷ journal) e = half_more (half_after half x.who x.cmd) journal e

module _ (journal : List Entry) (place : ℕ) (e : Entry) (at : slice_get journal place ≡ Some e) where
  -- the state after an entry is that before the next one
  pub next_before : (texts : List Module) → state_before texts (place + 1) journal ≡ next_state texts (state_before texts place journal) e.cmd
  next_before texts = ap (newest_state texts empty_state) (take_next journal place e at) ∙ newest_more texts empty_state (take place journal) e

  -- so is the purge that waits
  pub next_half : half_before (place + 1) journal ≡ half_after (half_before place journal) e.who e.cmd
  next_half = ap (half_over None) (take_next journal place e at) ∙ half_more None (take place journal) e

-- the state of the first generation of a journal
pub state_first : (texts : List Module) (s : ServerState) (journal : List Entry) → state_at texts s journal s.generation ≡ s
state_first texts s [] = refl
state_first texts s (e ∷ journal) = cond-true (s.generation == s.generation) s (state_at texts (next_state texts s e.cmd) journal s.generation) (eq-eqb s.generation s.generation refl)

-- the state just after an entry that makes a generation is that generation's
state_made : (texts : List Module) (s : ServerState) (journal : List Entry) (place : ℕ) (e : Entry) (t : ServerState) → slice_get journal place ≡ Some e → next_state texts (newest_state texts s (take place journal)) e.cmd ≡ t
    → (newest_state texts s (take place journal)).generation < t.generation → state_at texts s journal t.generation ≡ t
state_made texts s [] place e t at is more = absurd (none-some e at)
state_made texts s (x ∷ journal) zero e t at is more =
    let first : next_state texts s x.cmd ≡ t = ap (λ (y : Entry). next_state texts s y.cmd) (same_Some x e at) ∙ is in
    cond-false (s.generation == t.generation) s (state_at texts (next_state texts s x.cmd) journal t.generation) (ne_eqb s.generation t.generation (λ h. omega (arith, h, more)))
    ∙ ap (λ y. state_at texts y journal t.generation) first
    ∙ state_first texts t journal
state_made texts s (x ∷ journal) (suc place) e t at is more =
    let next = next_state texts s x.cmd in
    let a = never_falls texts s x.cmd in
    let b = later texts next (take place journal) in
    cond-false (s.generation == t.generation) s (state_at texts next journal t.generation) (ne_eqb s.generation t.generation (λ h. omega (arith, h, more, a, b)))
    ∙ state_made texts next journal place e t at is more

-- an entry that made a generation: its state is that generation's
pub made_here : (texts : List Module) (journal : List Entry) (place : ℕ) (e : Entry) (t : ServerState) → slice_get journal place ≡ Some e → next_state texts (state_before texts place journal) e.cmd ≡ t
    → (state_before texts place journal).generation < t.generation → state_at texts empty_state journal t.generation ≡ t
made_here texts journal place e t at is more = state_made texts empty_state journal place e t at is more

-- the first state is that of generation 0
pub made_first : (texts : List Module) (journal : List Entry) → state_at texts empty_state journal 0 ≡ empty_state
made_first texts journal = state_first texts empty_state journal

-- where each entry before a place follows, so many generations were published as the state there has
pub published_now : (s : Script) (log : RunLog) (place : ℕ) → MeetBefore s log place → published_to place log.journal ≡ (state_before s.modules place log.journal).generation
published_now s log place meet =
    let n = counted s.modules empty_state (take place log.journal) (replays_before s log place meet) in
    omega (arith, n)
