-- The words beside the permission: nothing is under way in them, but while a trace goes on behind its publication.
use Rattle.std.proofs.Common.{◌≡◌, ℕ, List, Option, Some, None, IsSomeAnd, refl, sym, subst}
use Rattle.term_core.specs.declared.atom.AtomId.{AtomId}
use Rattle.term_core.specs.declared.atom.Mfa.{Mfa}
use Rattle.progress_words.specs.Tokens.{written_by}
use Rattle.server_core.specs.declared.command.Cmd.{Cmd}
use Rattle.server_core.specs.ServerState.{ServerState}
use Rattle.script_core.specs.declared.script.ScriptCmd.{ScriptCmd}
use Rattle.staging.specs.declared.tables.Tables.{Tables}
use Rattle.staging.specs.Stages.{AreAtRest}
use Rattle.staging.specs.Standing.{StandFor}
use Rattle.write_permit.specs.declared.holder.Holder.{Holder}
use Rattle.write_permit.specs.declared.holder.Holder.TheVariants.{Free, Held, Purging, Tracing}
use Rattle.write_permit.specs.Book.{EndsBy}
use Rattle.write_permit.specs.Permit.{PermitState, given_up, next_of}
use Rattle.word_permit.specs.declared.book.Waiting.{Waiting}
use Rattle.word_permit.specs.Purged.{EndsNext}
use Rattle.word_permit.specs.Waiting.{IsSwitching, RestsBy, WordsStand}

-- no trace goes on behind its publication
abbrev pub IsNoTrace : Holder → Type 0
IsNoTrace (Tracing by generation) = ⊥
IsNoTrace holder = Unit {0}

-- ---- who has the permission

pub free_no_trace : (h : Holder) → h ≡ Free → IsNoTrace h
free_no_trace h is = subst IsNoTrace (sym is) tt

pub held_no_trace : (h : Holder) (who : ℕ) → h ≡ Held who → IsNoTrace h
held_no_trace h who is = subst IsNoTrace (sym is) tt

pub purging_no_trace : (h : Holder) (who : ℕ) (name : AtomId) → h ≡ Purging who name → IsNoTrace h
purging_no_trace h who name is = subst IsNoTrace (sym is) tt

-- a command that a command of the server ends is none
pub ends_no_trace : (p : PermitState) (who : ℕ) (cmd : Cmd) → EndsNext p who cmd → IsNoTrace p.holder
ends_no_trace p who cmd ends = by (next_of p who) p.holder ends
  where
    by : (o : Option ScriptCmd) (h : Holder) → IsSomeAnd o (λ command. EndsBy p h command cmd) → IsNoTrace h
    by None h e = absurd e
    by (Some command) Free e = tt
    by (Some command) (Held n) e = tt
    by (Some command) (Purging n name) e = tt
    by (Some command) (Tracing n generation) e = absurd e

-- ---- the words

pub rest_by : (names : List Mfa) (h : Holder) (s : ServerState) (t : Tables) → IsNoTrace h → RestsBy names h s t → AreAtRest names s t
rest_by names Free s t none rest = rest
rest_by names (Held n) s t none rest = rest
rest_by names (Purging n name) s t none rest = rest
rest_by names (Tracing n generation) s t none rest = absurd none

pub rests_by : (names : List Mfa) (h : Holder) (s : ServerState) (t : Tables) → IsNoTrace h → AreAtRest names s t → RestsBy names h s t
rests_by names Free s t none rest = rest
rests_by names (Held n) s t none rest = rest
rests_by names (Purging n name) s t none rest = rest
rests_by names (Tracing n generation) s t none rest = absurd none

-- they stand for the server's state
pub stands_by : (names : List Mfa) (h : Holder) (s : ServerState) (t : Tables) → RestsBy names h s t → StandFor names s t.pools (written_by t.writer)
stands_by names Free s t rest = rest.stands
stands_by names (Held n) s t rest = rest.stands
stands_by names (Purging n name) s t rest = rest.stands
stands_by names (Tracing n generation) s t rest = rest.settling.stands

-- a trace that goes on is not given up
pub rests_given : (names : List Mfa) (h : Holder) (s : ServerState) (t : Tables) → RestsBy names h s t → RestsBy names (given_up h) s t
rests_given names Free s t rest = rest
rests_given names (Held n) s t rest = rest
rests_given names (Purging n name) s t rest = rest
rests_given names (Tracing n generation) s t rest = rest

-- what is so of the words where nothing waits
pub none_waiting : (names : List Mfa) (p : PermitState) (t : Tables) (o : Option Waiting) → o ≡ None → WordsStand names p t o → RestsBy names p.holder p.server t
none_waiting names p t o is h = subst (WordsStand names p t) is h

-- no command waits to be published while a trace goes on
pub none_traced : (names : List Mfa) (p : PermitState) (t : Tables) (o : Option Waiting) (who generation : ℕ) → p.holder ≡ Tracing who generation → WordsStand names p t o → o ≡ None
none_traced names p t None who generation holds h = refl
none_traced names p t (Some w) who generation holds h = absurd (subst IsNoTrace holds (held_no_trace p.holder h.who h.holder))

-- the switch of its breakpoint is not over
pub traced_switching : (names : List Mfa) (p : PermitState) (t : Tables) (o : Option Waiting) (who generation : ℕ) → p.holder ≡ Tracing who generation → WordsStand names p t o → IsSwitching names p.server t
traced_switching names p t o who generation holds h =
    subst (λ k. RestsBy names k p.server t) holds (none_waiting names p t o (none_traced names p t o who generation holds h) h)
