-- The newest generation traces what the state traces, and has its code; and so it does once a change is made that neither sets nor clears a breakpoint.
use Rattle.std.proofs.Common.{◌≡◌, ◌≢◌, ℕ, ◌<◌, ◌≤◌, ◌⊎◌, inl, inr, Bool, true, false, cond, nat_eq, ◌&&◌, ◌||◌, List, [], ◌∷◌, map, refl, sym, ap, subst, ◌∙◌, arith}
use Rattle.std.specs.Prelude.{◌==◌, Some}
use Rattle.std.specs.List.{list_any}
use Rattle.std.proofs.lemmas.Bool.{false_from_ne_true, or_left, or_right, true≢false}
use Rattle.std.proofs.lemmas.Bool.Decides.{nat_tests}
use Rattle.std.proofs.lemmas.Option.{none-some}
use Rattle.term_core.specs.declared.atom.AtomId.{AtomId}
use Rattle.term_core.specs.declared.atom.Mfa.{Mfa}
use Rattle.term_core.specs.declared.generation.FunctionRef.{FunctionRef}
use Rattle.term_core.specs.declared.generation.Generation.{Generation}
use Rattle.area_core.specs.declared.table.Published.{Published}
use Rattle.area_core.specs.Generations as generations
use Rattle.area_core.specs.Generations.{has_serial}
use Rattle.shared_words.specs.declared.view.WriterView.{WriterView}
use Rattle.progress_words.specs.Roots.{newest_of}
use Rattle.server_core.specs.declared.slots.RetiredRoom.{RetiredRoom}
use Rattle.server_core.specs.declared.change.Change.{Change}
use Rattle.server_core.specs.declared.change.Change.TheVariants.{DropOld}
use Rattle.server_core.specs.Decided.{Fits}
use Rattle.server_core.specs.Generations.{function_ref, generation_of}
use Rattle.server_core.specs.ServerState.{Entry, IsSound, ServerState, current_of, empty_state, is_same_entry, is_traced, old_of}
use Rattle.code_law.proofs.ServedAreas.{current_is_current, old_is_old}
use Rattle.change_laws.specs.Breakpoints.{IsLiveCode, KeepsBreakpoints, KnowsItsCode}
use Rattle.change_laws.specs.Changes.{changed_state}
use Rattle.change_laws.specs.Uses.{IsUsed}
use Rattle.change_laws.proofs.Dropped.{used_known}
use Rattle.change_laws.proofs.KeptTraced.{traced_after, traced_since}
use Rattle.change_laws.proofs.VersionUses.{current_stood, old_stood}
use Rattle.staging.specs.Standing.{IsShownBy}
use Rattle.staging.proofs.Coming.{TracesAlike, entry_in}

-- ---- the generation of a state

turned : (a b c d : ℕ) → (nat_eq a b && nat_eq c d) ≡ (nat_eq b a && nat_eq d c)
turned a b c d = (λ i. swap a b i && swap c d i)
  where
    swap : (m n : ℕ) → nat_eq m n ≡ nat_eq n m
    swap m n = grind (arith)

traced_map : (es : List Entry) (serial function : ℕ) → list_any (λ (f : FunctionRef). (f.serial == serial) && (f.function == function)) (map function_ref es) ≡ list_any (is_same_entry (entry_in serial function)) es
traced_map [] serial function = refl
traced_map (x ∷ es) serial function = (λ i. turned x.serial serial x.function function i || traced_map es serial function i)

-- it traces what the state traces
pub shown_traced : (names : List Mfa) (s : ServerState) (p : Published) → p.state ≡ generation_of names s → (serial function : ℕ) → generations.is_traced_function p serial function ≡ is_traced s (entry_in serial function)
shown_traced names s p shows serial function =
    ap (λ (g : Generation). list_any (λ (f : FunctionRef). (f.serial == serial) && (f.function == function)) g.traced) shows ∙ traced_map s.traced serial function

-- what is live is used
pub live_used : (s : ServerState) (serial : ℕ) → IsLiveCode s serial → IsUsed s serial
live_used s serial (inl now) = inl now
live_used s serial (inr old) = inr (inl old)

-- current and old code is among its instances
pub lives_in : (names : List Mfa) (t : ServerState) → IsSound t → (serial : ℕ) → IsLiveCode t serial → (has_serial (generation_of names t).current serial || has_serial (generation_of names t).old serial) ≡ true
lives_in names t sound serial (inl now) = or_left (has_serial (generation_of names t).current serial) (has_serial (generation_of names t).old serial) (current_is_current t sound serial now)
lives_in names t sound serial (inr old) = or_right (has_serial (generation_of names t).current serial) (has_serial (generation_of names t).old serial) (old_is_old t sound serial old)

module _ (names : List Mfa) (s : ServerState) (p : Published) (shown : IsShownBy names s p) where
  -- so does the newest one
  pub newest_traced : (serial function : ℕ) → generations.is_traced_function p serial function ≡ is_traced s (entry_in serial function)
  newest_traced serial function =
      elim shown.shows as (λ _. generations.is_traced_function p serial function ≡ is_traced s (entry_in serial function)) [
        | inl is ↦ shown_traced names shown.stood p is serial function ∙ sym (ap (λ (t : ServerState). is_traced t (entry_in serial function)) shown.since.same)
        | inr first ↦
            ap (λ (x : Published). generations.is_traced_function x serial function) first.0
            ∙ sym (ap (λ (t : ServerState). is_traced t (entry_in serial function)) shown.since.same ∙ ap (λ (t : ServerState). is_traced t (entry_in serial function)) first.1)
      ]

  stood_live : (serial : ℕ) → IsLiveCode s serial → IsLiveCode shown.stood serial
  stood_live serial (inl now) = inl (now.0, sym (ap (λ (t : ServerState). current_of t now.0) shown.since.same) ∙ now.1)
  stood_live serial (inr old) = inr (old.0, sym (ap (λ (t : ServerState). old_of t old.0) shown.since.same) ∙ old.1)

  none_first : (serial : ℕ) → IsLiveCode empty_state serial → ⊥
  none_first serial (inl now) = none-some serial now.1
  none_first serial (inr old) = none-some serial old.1

  -- and it has the current and the old code
  pub newest_lives : (serial : ℕ) → IsLiveCode s serial → generations.is_instance p serial ≡ true
  newest_lives serial live =
      elim shown.shows as (λ _. generations.is_instance p serial ≡ true) [
        | inl is ↦ subst (λ (g : Generation). (has_serial g.current serial || has_serial g.old serial) ≡ true) (sym is) (lives_in names shown.stood shown.sound serial (stood_live serial live))
        | inr first ↦ absurd (none_first serial (subst (λ (t : ServerState). IsLiveCode t serial) first.1 (stood_live serial live)))
      ]

-- what has a breakpoint came in
pub traced_known : (s : ServerState) → IsSound s → KnowsItsCode s → (serial function : ℕ) → is_traced s (entry_in serial function) ≡ true → serial < s.next_serial
traced_known s sound knows serial function e = used_known s serial sound (live_used s serial (knows.traced (entry_in serial function) e))

-- ---- once a change is made

module _ (names : List Mfa) (s : ServerState) (change : Change) (w : WriterView) (sound : IsSound s) (fits : Fits s change) (knows : KnowsItsCode s) (shown : IsShownBy names s (newest_of w)) where
  abbrev after : ServerState
  after = changed_state s change

  -- what came in with the change the newest generation does not trace
  pub new_untraced : (serial function : ℕ) → s.next_serial ≤ serial → generations.is_traced_function (newest_of w) serial function ≡ false
  new_untraced serial function past =
      newest_traced names s (newest_of w) shown serial function
      ∙ false_from_ne_true (is_traced s (entry_in serial function)) (λ e. let known = traced_known s sound knows serial function e in omega (arith, known, past))

  -- current and old code was so, or came in
  live_stood : (serial : ℕ) → IsLiveCode after serial → IsLiveCode s serial ⊎ (s.next_serial ≤ serial)
  live_stood serial (inl now) = by (current_stood s change now.0 serial now.1)
    where
      by : (current_of s now.0 ≡ Some serial) ⊎ (s.next_serial ≤ serial) → IsLiveCode s serial ⊎ (s.next_serial ≤ serial)
      by (inl stood) = inl (inl (now.0, stood))
      by (inr past) = inr past
  live_stood serial (inr old) = by (old_stood s change old.0 serial fits old.1)
    where
      by : (current_of s old.0 ≡ Some serial) ⊎ (old_of s old.0 ≡ Some serial) → IsLiveCode s serial ⊎ (s.next_serial ≤ serial)
      by (inl current) = inl (inl (old.0, current))
      by (inr stood) = inl (inr (old.0, stood))

  -- the newest generation has that which was there before
  pub kept_lives : (serial : ℕ) → serial < s.next_serial → IsLiveCode after serial → generations.is_instance (newest_of w) serial ≡ true
  kept_lives serial known live =
      elim (live_stood serial live) as (λ _. generations.is_instance (newest_of w) serial ≡ true) [
        | inl stood ↦ newest_lives names s (newest_of w) shown serial stood
        | inr past ↦ absurd (omega (arith, known, past))
      ]

  -- where no breakpoint is another
  pub alike_same : KeepsBreakpoints change → TracesAlike after w
  alike_same keeps = record {
    fewer = λ serial function e. newest_traced names s (newest_of w) shown serial function ∙ sym (same serial function) ∙ e;
    same = λ serial function live. same serial function ∙ sym (newest_traced names s (newest_of w) shown serial function);
  }
    where
      same : (serial function : ℕ) → is_traced after (entry_in serial function) ≡ is_traced s (entry_in serial function)
      same serial function = ap (list_any (is_same_entry (entry_in serial function))) (traced_after s change keeps)

-- where old code is dropped, and its breakpoints with it
module _ (names : List Mfa) (s : ServerState) (generation : ℕ) (name : AtomId) (gone : ℕ) (says : Bool) (retired : RetiredRoom) (w : WriterView) (shown : IsShownBy names s (newest_of w)) (differ : (serial : ℕ) → IsLiveCode (changed_state s (DropOld generation name gone says retired)) serial → serial ≢ gone) where
  abbrev t : ServerState
  t = changed_state s (DropOld generation name gone says retired)

  then_is : (serial function : ℕ) → is_traced t (entry_in serial function) ≡ cond (nat_eq serial gone) false (is_traced s (entry_in serial function))
  then_is serial function = traced_since s (DropOld generation name gone says retired) (entry_in serial function)

  pub alike_dropped : TracesAlike t w
  alike_dropped = record {
    fewer = λ serial function e. newest_traced names s (newest_of w) shown serial function ∙ was (nat_eq serial gone) (is_traced s (entry_in serial function)) (sym (then_is serial function) ∙ e);
    same = λ serial function live.
        then_is serial function ∙ ap (λ (b : Bool). cond b false (is_traced s (entry_in serial function))) (off serial live) ∙ sym (newest_traced names s (newest_of w) shown serial function);
  }
    where
      was : (b traced : Bool) → cond b false traced ≡ true → traced ≡ true
      was true traced e = absurd (true≢false (sym e))
      was false traced e = e

      off : (serial : ℕ) → IsLiveCode t serial → nat_eq serial gone ≡ false
      off serial live = let other = differ serial live in grind (arith, nat_tests, other)
