-- A trace that is published and settled is the command done at once.
use Rattle.std.proofs.Common.{◌≡◌, ℕ, Bool, true, false, [], Option, Some, None, option_map, option_and_then, if◌then◌else◌, refl, sym, ap, subst, ◌∙◌}
use Rattle.std.proofs.lemmas.Option.{none-some, same_Some}
use Rattle.std.specs.Bool.{beq}
use Rattle.term_core.specs.declared.atom.Mfa.{Mfa}
use Rattle.server_core.specs.declared.command.Applied.{Applied}
use Rattle.server_core.specs.declared.command.Cmd.TheVariants as cmds
use Rattle.server_core.specs.declared.command.Reply.TheVariants as replies
use Rattle.server_core.specs.ServerState.{Entry, ServerState, is_traced, traceable_of}
use Rattle.server_core.specs.CommandTable.{Outcome, apply_of, published, trace_of, unchanged, with_trace}
use Rattle.script_core.specs.declared.script.ScriptCmd.TheVariants.{Trace}
use Rattle.run_log.specs.declared.logs.Who.TheVariants.{Loader}
use Rattle.write_permit.specs.declared.book.Book.{Book}
use Rattle.write_permit.specs.declared.holder.Holder.{Holder}
use Rattle.write_permit.specs.declared.holder.Holder.TheVariants.{Free, Held, Tracing}
use Rattle.write_permit.specs.Book.{HoldsJust, IsBook, IsHeld, IsPermit, shown}
use Rattle.write_permit.specs.Permit.{PermitState, PermitStep, advanced, entered_by, entered_trace, joined, made_of, next_of, settled}
use Rattle.write_permit.proofs.Dooms.{none_doomed}
use Rattle.write_permit.proofs.EndBooks.{ended_is, open_ok, told, tracing_in}
use Rattle.write_permit.proofs.Entered.{entered_is}

-- ---- what a trace answers that publishes

-- a trace of this function, where the answer is whether it is so already
abbrev switched : ServerState → Bool → Entry → Bool → Outcome
switched s on e already = if already then unchanged s replies.True else published (with_trace s e on) replies.True

traced_answer : (s : ServerState) (on : Bool) (at : Option Entry) (generation : ℕ) → (trace_of s on at).answer.published ≡ Some generation → (trace_of s on at).answer ≡ record { reply = replies.True; published = Some generation }
traced_answer s on None generation h = absurd (none-some generation h)
traced_answer s on (Some e) generation h = by (beq (is_traced s e) on) h
  where
    by : (b : Bool) → (switched s on e b).answer.published ≡ Some generation → (switched s on e b).answer ≡ record { reply = replies.True; published = Some generation }
    by true g = absurd (none-some generation g)
    by false g = ap (λ n. record { reply = replies.True; published = n }) g

-- ---- the entry of a trace

-- the outcome of a trace whose entry joined
pub record WasEntered (p c : PermitState) (who : ℕ) (target : Mfa) (on : Bool) : Type 0 where
  pub outcome : Outcome
  pub generation : ℕ
  pub applied : apply_of p.script.modules p.server (cmds.Trace target on) ≡ Some outcome
  pub published : outcome.answer.published ≡ Some generation
  pub state : c ≡ record (joined p (Loader who) (cmds.Trace target on) outcome) { holder = Tracing who generation }

pub was_entered : (p c : PermitState) (who : ℕ) (target : Mfa) (on : Bool) → entered_trace p who target on ≡ Some c → WasEntered p c who target on
was_entered p c who target on h = by (apply_of p.script.modules p.server (cmds.Trace target on)) refl h
  where
    told_by : (o : Outcome) → apply_of p.script.modules p.server (cmds.Trace target on) ≡ Some o → (n : Option ℕ) → o.answer.published ≡ n → tracing_in (joined p (Loader who) (cmds.Trace target on) o) who n ≡ Some c → WasEntered p c who target on
    told_by o e None d g = absurd (none-some c g)
    told_by o e (Some generation) d g = record { outcome = o; generation = generation; applied = e; published = d; state = sym (same_Some _ c g) }

    by : (o : Option Outcome) → apply_of p.script.modules p.server (cmds.Trace target on) ≡ o
        → option_and_then {U = PermitState} (λ (s : PermitStep). tracing_in s.state who s.answer.published) (option_map {U = PermitStep} (λ x. record { state = joined p (Loader who) (cmds.Trace target on) x; answer = x.answer }) o) ≡ Some c
        → WasEntered p c who target on
    by None e g = absurd (none-some c g)
    by (Some o) e g = told_by o e o.answer.published refl g

-- the generation of a holder whose trace waits
abbrev generation_in : Holder → Option ℕ
generation_in (Tracing by generation) = Some generation
generation_in h = None

-- ---- the command from its beginning to its end

module _ (p : PermitState) (known : IsPermit p) (who generation : ℕ) (target : Mfa) (on : Bool) (held : p.holder ≡ Held who) (next : next_of p who ≡ Some (Trace target on)) where
  rest : p.server.doomed ≡ []
  rest = let k : IsHeld p who = subst (HoldsJust p) held known.holds in k.rest

  outcome_is : (o : Outcome) → apply_of p.script.modules p.server (cmds.Trace target on) ≡ Some o → trace_of p.server on (traceable_of p.server target) ≡ o
  outcome_is o applied = same_Some _ o (sym (none_doomed p.server (Some (trace_of p.server on (traceable_of p.server target))) rest) ∙ applied)

  answer_is : (o : Outcome) → apply_of p.script.modules p.server (cmds.Trace target on) ≡ Some o → o.answer.published ≡ Some generation → o.answer ≡ record { reply = replies.True; published = Some generation }
  answer_is o applied told_so =
      subst (λ (x : Outcome). x.answer.published ≡ Some generation → x.answer ≡ record { reply = replies.True; published = Some generation }) (outcome_is o applied)
      (traced_answer p.server on (traceable_of p.server target) generation) told_so

  -- its entry joins and it is settled: that is the command done at once
  pub trace_at_once : (c : PermitState) → entered_trace p who target on ≡ Some c → c.holder ≡ Tracing who generation → advanced p [] who p.holder ≡ Some (settled c who generation)
  trace_at_once c entered tracing =
      let w = was_entered p c who target on entered in
      let cmd = cmds.Trace target on in
      let m : PermitState = joined p (Loader who) cmd w.outcome in
      let same : w.generation ≡ generation = same_Some w.generation generation (sym (ap (λ (x : PermitState). generation_in x.holder) w.state) ∙ ap generation_in tracing) in
      let answer = answer_is w.outcome w.applied (w.published ∙ ap Some same) in
      let left : (settled c who generation).state ≡ record m { loaders = entered_by (Tracing who generation) p.loaders; holder = Free } = ap (λ (x : PermitState). (settled x who generation).state) w.state in
      let counted = left ∙ ap (λ ls. record m { loaders = ls; holder = Free }) (entered_is who generation target on p.loaders) in
      let made : made_of p (Loader who) cmd ≡ Some (record { state = m; answer = w.outcome.answer }) = ap (option_map {U = PermitStep} (λ x. record { state = joined p (Loader who) cmd x; answer = x.answer })) w.applied in
      let ended = ended_is p m (settled c who generation).state who (Trace target on) cmd w.outcome.answer next made counted in
      ap (advanced p [] who) held ∙ open_ok p [] who (Trace target on) cmd _ next refl refl (ended ∙ ap (λ (a : Applied). told (settled c who generation).state a) answer)

-- so a book whose trace is settled is told as one that made the trace at once
pub traced_whole : (b c d : Book) (who generation : ℕ) (target : Mfa) (on : Bool) (applied : Applied) → IsBook b → b.holder ≡ Held who → next_of (shown b) who ≡ Some (Trace target on)
    → entered_trace (shown b) who target on ≡ Some (shown c) → c.holder ≡ Tracing who generation → advanced (shown c) [] who c.holder ≡ Some (record { state = shown d; answer = applied })
    → advanced (shown b) [] who b.holder ≡ Some (record { state = shown d; answer = applied })
traced_whole b c d who generation target on applied known held next entered tracing settles =
    trace_at_once (shown b) known.permit who generation target on held next (shown c) entered tracing ∙ sym (ap (advanced (shown c) [] who) tracing) ∙ settles
