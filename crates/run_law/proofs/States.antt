-- Each state of a journal is sound, has numbers for the names that it exports, and is of its generation.
use Rattle.std.proofs.Common.{◌≡◌, ℕ, ◌+◌, ◌≤◌, ◌==◌, ◌||◌, Bool, true, false, not, List, [], ◌∷◌, length, Option, Some, None, All, if◌then◌else◌, refl, sym, ap, subst, ◌∙◌, arith}
use Rattle.std.proofs.lemmas.Bool.{cond_both, eqb-false, eqb-true, ltb-false, true≢false}
use Rattle.std.proofs.lemmas.List.Elements.{All-head, All-tail}
use Rattle.term_core.specs.declared.atom.Mfa.{Mfa}
use Rattle.term_core.specs.Image.{is_immediate}
use Rattle.term_core.specs.Plain.{plain}
use Rattle.term_core.specs.PlainTerm.{PlainTerm}
use Rattle.mod_core.specs.declared.code.Module.{Module}
use Rattle.mod_core.specs.Module.{IsModule}
use Rattle.server_core.specs.declared.command.Cmd.{Cmd}
use Rattle.server_core.specs.declared.command.TheConstants.{MOST_INSTANCES}
use Rattle.server_core.specs.CommandTable.{IsOfText, Outcome, apply_of, with_all, with_complex, with_deleted, with_dropped, with_erased, with_immediate, with_purged, with_put, with_trace, without_number}
use Rattle.server_core.specs.Decided.{with_doomed}
use Rattle.server_core.specs.Generations.{AreNumbered}
use Rattle.server_core.specs.Rooms.{HasPlace}
use Rattle.server_core.specs.ServerState.{IsShortTerm, IsSound, ServerState, empty_state, is_serial_in, live_count}
use Rattle.server_core.proofs.Changes.{Came, as_before, came, came_in, was_deleted, was_doomed, was_erased, was_purged, was_put, was_released, was_soft_purged, was_traced}
use Rattle.server_core.proofs.EmptyState.{empty_sound}
use Rattle.server_core.proofs.GivenTexts.{texts_listed}
use Rattle.server_core.proofs.KeyChanges.{sound_complex, sound_erased, sound_immediate}
use Rattle.server_core.proofs.Loads.{sound_all}
use Rattle.server_core.proofs.Soundness.{purged_at_rest, sound_deleted, sound_published, sound_purged, sound_released}
use Rattle.change_laws.specs.Names.{IsNumbered}
use Rattle.change_laws.proofs.NumberedNames.{commands_numbered}
use Rattle.change_laws.proofs.SoundChanges.{sound_doomed, sound_traced}
use Rattle.run_log.specs.declared.logs.Entry.{Entry}
use Rattle.run_log.specs.Journal.{newest_state, next_state, published_count, state_after, state_at}
use Rattle.run_log.specs.Legal.{Replays}
use Rattle.run_log.proofs.Journals.{counted}
use Rattle.run_log.proofs.Steps.{next_bounds, next_is}
use Rattle.run_law.specs.Published.{IsJournal, states_of}

-- ---- a command

-- of one serial at most, without the one that is among them, none is left
none_left : (xs : List ℕ) (k : ℕ) → length xs ≤ 1 → is_serial_in xs k ≡ true → without_number k xs ≡ []
none_left [] k few among = refl
none_left (x ∷ y ∷ xs) k few among = absurd (omega (arith, few))
none_left (x ∷ []) k few among = by (x == k) refl among
  where
    by : (b : Bool) → (x == k) ≡ b → is_serial_in (x ∷ []) k ≡ true → without_number k (x ∷ []) ≡ []
    by true is among = ap (λ (b : Bool). if not b then x ∷ [] else []) is
    by false is among = absurd (true≢false (sym among ∙ ap (λ (b : Bool). b || false) is))

put_sound : (s : ServerState) (key : ℕ) (term : PlainTerm) (b : Bool) → is_immediate term ≡ b → IsSound s → IsShortTerm term → HasPlace s.keys key term
    → IsSound (if b then with_immediate s key term else with_complex s key term)
put_sound s key term true is sound short place = sound_immediate s key term sound short place is
put_sound s key term false is sound short place = sound_complex s key term sound short place is

module _ (texts : List Module) (s : ServerState) (cmd : Cmd) (o : Outcome) (modules : All IsModule texts) (sound : IsSound s) (said : IsOfText cmd) where
  -- the next generation of a sound state
  next_sound : (t : ServerState) → o.state ≡ record t { generation = t.generation + 1 } → IsSound t → IsSound o.state
  next_sound t is h = subst IsSound (sym is) (sound_published t (t.generation + 1) h)

  case_sound : Came texts s cmd o → IsSound o.state
  case_sound (as_before reply e) = subst (λ (p : Outcome). IsSound p.state) (sym e) sound
  case_sound (came_in refs ms is rest comes e) =
      let listed = texts_listed texts refs ms modules comes.given in
      next_sound (with_all s ms) (ap (λ (p : Outcome). p.state) e)
      (sound_all s ms sound rest listed.0 (omega (arith, listed.1, ltb-false MOST_INSTANCES (live_count s.versions + length refs) comes.room)))
  case_sound (was_deleted name is rest old current e) = next_sound (with_deleted s name.0) (ap (λ (p : Outcome). p.state) e) (sound_deleted s name.0 sound rest)
  case_sound (was_soft_purged name serial is rest old e) =
      next_sound (with_dropped s name.0 serial) (ap (λ (p : Outcome). p.state) e)
      (subst IsSound (purged_at_rest s name.0 serial rest) (sound_purged s name.0 serial sound old (ap (without_number serial) rest)))
  case_sound (was_doomed name serial is rest old e) =
      next_sound (with_doomed s serial) (ap (λ (p : Outcome). p.state) e) (sound_doomed s serial sound (record { old = (name.0, old); rest = rest }))
  case_sound (was_purged name killed serial is doomed old e) =
      next_sound (with_purged s name.0 serial) (ap (λ (p : Outcome). p.state) e) (sound_purged s name.0 serial sound old (none_left s.doomed serial sound.one_doomed doomed))
  case_sound (was_put key term is rest can e) =
      next_sound (with_put s key.0 (plain term)) (ap (λ (p : Outcome). p.state) e)
      (put_sound s key.0 (plain term) (is_immediate (plain term)) refl sound (subst IsOfText is said) can.place)
  case_sound (was_erased key held is rest was e) = next_sound (with_erased s key.0) (ap (λ (p : Outcome). p.state) e) (sound_erased s key.0 sound)
  case_sound (was_traced target on at is rest found other e) = next_sound (with_trace s at on) (ap (λ (p : Outcome). p.state) e) (sound_traced s _ sound)
  case_sound (was_released serial is retired e) = subst (λ (p : Outcome). IsSound p.state) (sym e) (sound_released s serial sound retired)

-- a command that a text can say keeps a state sound
command_sound : (texts : List Module) (s : ServerState) (cmd : Cmd) (o : Outcome) → All IsModule texts → IsSound s → IsOfText cmd → apply_of texts s cmd ≡ Some o → IsSound o.state
command_sound texts s cmd o modules sound said e = case_sound texts s cmd o modules sound said (came texts s cmd o e)

-- ---- the states of a journal

-- what holds of each state of a journal
pub record IsGood (names : List Mfa) (s : ServerState) : Type 0 where
  pub sound : IsSound s
  pub numbered : AreNumbered names s

module _ (names : List Mfa) (texts : List Module) (modules : All IsModule texts) (exported : All (IsNumbered names) texts) where
  next_good : (s : ServerState) (cmd : Cmd) (o : Option Outcome) → apply_of texts s cmd ≡ o → IsOfText cmd → IsGood names s → IsGood names (state_after s o)
  next_good s cmd None is said h = h
  next_good s cmd (Some o) is said h =
      record { sound = command_sound texts s cmd o modules h.sound said is; numbered = commands_numbered names texts s cmd o h.sound exported h.numbered is }

  states_good : (s : ServerState) (journal : List Entry) (k : ℕ) → All (λ e. IsOfText e.cmd) journal → IsGood names s → IsGood names (state_at texts s journal k)
  states_good s [] k said h = h
  states_good s (e ∷ journal) k said h =
      cond_both (s.generation == k) s (state_at texts (next_state texts s e.cmd) journal k) (IsGood names) (λ here. h)
      (λ later. states_good (next_state texts s e.cmd) journal k (All-tail (λ (x : Entry). IsOfText x.cmd) e journal said)
      (next_good s e.cmd (apply_of texts s e.cmd) refl (All-head (λ (x : Entry). IsOfText x.cmd) e journal said) h))

pub journal_good : (names : List Mfa) (texts : List Module) (journal : List Entry) (k : ℕ) → IsJournal names texts journal → IsGood names (states_of texts journal k)
journal_good names texts journal k j =
    states_good names texts j.texts_sound j.numbered empty_state journal k j.said (record { sound = empty_sound; numbered = λ to h. absurd (cc) })

-- each is of its generation, up to the newest
generation_at : (texts : List Module) (s : ServerState) (journal : List Entry) (k : ℕ) → s.generation ≤ k → k ≤ (newest_state texts s journal).generation
    → (state_at texts s journal k).generation ≡ k
generation_at texts s [] k low high = omega (arith, low, high)
generation_at texts s (e ∷ journal) k low high =
    let t = next_state texts s e.cmd in
    cond_both (s.generation == k) s (state_at texts t journal k) (λ (x : ServerState). x.generation ≡ k) (eqb-true s.generation k)
    (λ other. let more = eqb-false s.generation k other in generation_at texts t journal k (omega (arith, low, more, (next_bounds s t e.cmd (next_is texts s e.cmd)).1)) high)

pub own_generation : (texts : List Module) (journal : List Entry) (k : ℕ) → Replays texts empty_state journal → k ≤ published_count journal
    → (states_of texts journal k).generation ≡ k
own_generation texts journal k replays below = generation_at texts empty_state journal k (omega arith) (omega (arith, below, counted texts empty_state journal replays))
