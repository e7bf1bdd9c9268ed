-- Commands of a script and what the command table answers to them: a report can show both.
use Rattle.std.proofs.Common.{◌≡◌, ℕ, ◌+◌, ◌<◌, ◌==◌, ◌&&◌, nat_lt, nat_le, not, is_none, Bool, true, false, cond, IsTrue, List, [], ◌∷◌, ◌++◌, length, Option, Some, None, is_some, IfSome, option_and_then, option_map, if◌then◌else◌, refl, sym, subst, arith}
use Rattle.std.specs.List.{AllByRecursion, list_any}
use Rattle.std.proofs.lemmas.Bool.{eqb-true}
use Rattle.std.proofs.lemmas.Option.{none-some, same_Some}
use Rattle.std.specs.Bool.{beq}
use Rattle.term_core.specs.declared.atom.AtomId.{AtomId}
use Rattle.term_core.specs.declared.atom.Mfa.{Mfa}
use Rattle.term_core.specs.Image.{is_immediate}
use Rattle.term_core.specs.Plain.{plain}
use Rattle.mod_core.specs.declared.code.Module.{Module}
use Rattle.server_core.specs.declared.command.TheConstants.{MOST_INSTANCES, MOST_KEYS, MOST_TERMS}
use Rattle.server_core.specs.declared.command.Cmd.{Cmd}
use Rattle.server_core.specs.declared.command.Cmd.TheVariants as cmds
use Rattle.server_core.specs.declared.command.Linger.{Linger}
use Rattle.server_core.specs.declared.command.Limit.TheVariants.{Areas, Instances, Keys}
use Rattle.server_core.specs.declared.command.ModRef.{ModRef}
use Rattle.server_core.specs.declared.command.Reply.{Reply}
use Rattle.server_core.specs.declared.command.Reply.TheVariants as replies
use Rattle.server_core.specs.ServerState.{Entry as Function, Persistent, ServerState, current_of, is_doomed, is_retired, is_traced, live_areas, live_count, old_of, persistent_of, traceable_of}
use Rattle.server_core.specs.CommandTable.{Outcome, answered, apply_of, doom_of, erase_of, holds_equal, loaded, names_of, not_purged, published, purge_of, repeated_after, soft_purge_of, text_of, texts_of, trace_of, unchanged, with_all, with_deleted, with_purged, with_put, with_released, with_trace}
use Rattle.server_core.proofs.Changes.{at_rest, some_outcome}
use Rattle.run_log.specs.WellFormed.{Agrees, IsLingerOf, IsNamed, IsReferenceOf, IsReplyOf}
use Rattle.log_forms.proofs.SaidCode.{IsKnownModule}
use Rattle.log_forms.proofs.SaidStates.{filtered}

module _ (names : List (List ℕ)) where
  -- ---- references

  pub record IsFoundText (r : ModRef) (m : Module) : Type 0 where
    pub known : IsKnownModule names m
    pub name : m.name.0 ≡ r.name.0
    pub version : m.version ≡ r.version

  both_true : (a b : Bool) → (a && b) ≡ true → (a ≡ true) × (b ≡ true)
  both_true true true h = (refl, refl)
  both_true true false h = absurd cc
  both_true false b h = absurd cc

  pub text_found : (texts : List Module) (r : ModRef) → AllByRecursion (IsKnownModule names) texts → IfSome (text_of texts r) (IsFoundText r)
  text_found [] r h = tt
  text_found (m ∷ texts) r h = by (m.name.0 == r.name.0 && m.version == r.version) refl h.0 (text_found texts r h.1)
    where
      by : (b : Bool) → (m.name.0 == r.name.0 && m.version == r.version) ≡ b → IsKnownModule names m → IfSome (text_of texts r) (IsFoundText r) → IfSome (cond b (Some m) (text_of texts r)) (IsFoundText r)
      by true e k later =
          let both = both_true (m.name.0 == r.name.0) (m.version == r.version) e in
          record { known = k; name = eqb-true m.name.0 r.name.0 both.0; version = eqb-true m.version r.version both.1 }
      by false e k later = later

  -- the texts of a load have names
  named_texts : (r : ModRef) (o : Option Module) (rest : Option (List Module)) (modules : List Module) → option_and_then (λ m. option_map (λ ms. m ∷ ms) rest) o ≡ Some modules → IfSome o (IsFoundText r) → ((ms : List Module) → rest ≡ Some ms → AllByRecursion (λ m. m.name.0 < length names) ms)
      → AllByRecursion (λ m. m.name.0 < length names) modules
  named_texts r None rest modules h found later = absurd (none-some modules h)
  named_texts r (Some m) None modules h found later = absurd (none-some modules h)
  named_texts r (Some m) (Some ms) modules h found later =
      let known = found.known in
      let held = known.held in
      subst (AllByRecursion (λ m. m.name.0 < length names)) (same_Some (m ∷ ms) modules h) (held.name, later ms refl)

  pub texts_named : (texts : List Module) (refs : List ModRef) (modules : List Module) → AllByRecursion (IsKnownModule names) texts → texts_of texts refs ≡ Some modules → AllByRecursion (λ m. m.name.0 < length names) modules
  texts_named texts [] modules known h = subst (AllByRecursion (λ m. m.name.0 < length names)) (same_Some [] modules h) tt
  texts_named texts (r ∷ refs) modules known h = named_texts r (text_of texts r) (texts_of texts refs) modules h (text_found texts r known) (λ ms e. texts_named texts refs ms known e)

  reference_by : (r : ModRef) (o : Option Module) → IsTrue (is_some o) → IfSome o (IsFoundText r) → IsReferenceOf names r
  reference_by r None given h = absurd cc
  reference_by r (Some m) given h =
      let known = h.known in
      let sound = known.sound in
      let held = known.held in
      let named = held.name in
      let least = sound.least_version in
      let greatest = sound.greatest_version in
      let name = h.name in
      let version = h.version in
      record { named = omega (arith, named, name); some = omega (arith, least, version); few = omega (arith, greatest, version) }

  -- each module that a load names
  pub references_said : (texts : List Module) (refs : List ModRef) → AllByRecursion (IsKnownModule names) texts → AllByRecursion (λ r. IsTrue (is_some (text_of texts r))) refs → AllByRecursion (IsReferenceOf names) refs
  references_said texts [] known h = tt
  references_said texts (r ∷ refs) known h = (reference_by r (text_of texts r) h.0 (text_found texts r known), references_said texts refs known h.1)

  names_said : (refs : List ModRef) → AllByRecursion (IsReferenceOf names) refs → AllByRecursion (IsNamed names) (names_of refs)
  names_said [] h = tt
  names_said (r ∷ refs) h = let first = h.0 in (first.named, names_said refs h.1)

  -- ---- replies

  repeated_said : (before : List ℕ) (ns : List AtomId) → AllByRecursion (IsNamed names) ns → IfSome (repeated_after before ns) (IsNamed names)
  repeated_said before [] h = tt
  repeated_said before (name ∷ ns) h = by (list_any (λ n. name.0 == n) before) h.0 (repeated_said (before ++ name.0 ∷ []) ns h.1)
    where
      by : (b : Bool) → IsNamed names name → IfSome (repeated_after (before ++ name.0 ∷ []) ns) (IsNamed names) → IfSome (if b then Some name else repeated_after (before ++ name.0 ∷ []) ns) (IsNamed names)
      by true k later = k
      by false k later = later

  -- what is answered can be said, and the command has of what processes did just what the answer tells
  pub record IsSaidAnswer (cmd : Cmd) (reply : Reply) : Type 0 where
    pub reply_said : IsReplyOf names reply
    pub agrees : Agrees cmd reply

  answer_of : (cmd : Cmd) (o p : Outcome) → o ≡ p → IsSaidAnswer cmd p.answer.reply → IsSaidAnswer cmd o.answer.reply
  answer_of cmd o p e h = subst (λ (x : Outcome). IsSaidAnswer cmd x.answer.reply) (sym e) h

  load_said : (s : ServerState) (refs : List ModRef) (modules : List Module) (repeated : Option AtomId) (o : Outcome) → o ≡ loaded s refs modules repeated → AllByRecursion (IsReferenceOf names) refs → IfSome repeated (IsNamed names) → IsSaidAnswer (cmds.Load refs) o.answer.reply
  load_said s refs modules (Some name) o e h k = answer_of (cmds.Load refs) o (unchanged s (replies.Duplicated name)) e (record { reply_said = k; agrees = tt })
  load_said s refs modules None o e h k = by (nat_lt 0 (length (not_purged s refs))) (nat_lt MOST_INSTANCES (live_count s.versions + length refs)) e
    where
      by : (b c : Bool) → o ≡ (if b then unchanged s (replies.NotPurged (not_purged s refs)) else if c then unchanged s (replies.SystemLimit Instances) else published (with_all s modules) replies.Ok) → IsSaidAnswer (cmds.Load refs) o.answer.reply
      by true c e = answer_of (cmds.Load refs) o (unchanged s (replies.NotPurged (not_purged s refs))) e (record { reply_said = filtered (IsNamed names) (λ name. is_some (old_of s name.0)) (names_of refs) (names_said refs h); agrees = tt })
      by false true e = answer_of (cmds.Load refs) o (unchanged s (replies.SystemLimit Instances)) e (record { reply_said = tt; agrees = tt })
      by false false e = answer_of (cmds.Load refs) o (published (with_all s modules) replies.Ok) e (record { reply_said = tt; agrees = tt })

  load_answer : (texts : List Module) (s : ServerState) (refs : List ModRef) (o : Outcome) (found : Option (List Module)) → option_map (λ modules. loaded s refs modules (repeated_after [] (names_of refs))) found ≡ Some o → AllByRecursion (IsReferenceOf names) refs → IsSaidAnswer (cmds.Load refs) o.answer.reply
  load_answer texts s refs o None h said = absurd (none-some o h)
  load_answer texts s refs o (Some modules) h said = load_said s refs modules (repeated_after [] (names_of refs)) o (some_outcome _ o h) said (repeated_said [] (names_of refs) (names_said refs said))

  delete_said : (s : ServerState) (name : AtomId) (o : Outcome) (b c : Bool) (made : Outcome) → made.answer.reply ≡ replies.True → o ≡ (if b then unchanged s replies.False else if c then unchanged s replies.False else made) → IsSaidAnswer (cmds.Delete name) o.answer.reply
  delete_said s name o true c made t e = answer_of (cmds.Delete name) o (unchanged s replies.False) e (record { reply_said = tt; agrees = tt })
  delete_said s name o false true made t e = answer_of (cmds.Delete name) o (unchanged s replies.False) e (record { reply_said = tt; agrees = tt })
  delete_said s name o false false made t e = answer_of (cmds.Delete name) o made e (subst (λ r. IsSaidAnswer (cmds.Delete name) r) (sym t) (record { reply_said = tt; agrees = tt }))

  soft_purge_said : (s : ServerState) (name : AtomId) (lingers : Option Linger) (old : Option ℕ) (o : Outcome) → IfSome lingers IsLingerOf → soft_purge_of s name.0 lingers old ≡ Some o → IsSaidAnswer (cmds.SoftPurge name lingers) o.answer.reply
  soft_purge_said s name None None o l h = answer_of (cmds.SoftPurge name None) o _ (some_outcome _ o h) (record { reply_said = tt; agrees = refl })
  soft_purge_said s name None (Some serial) o l h = answer_of (cmds.SoftPurge name None) o _ (some_outcome _ o h) (record { reply_said = tt; agrees = refl })
  soft_purge_said s name (Some linger) None o l h = absurd (none-some o h)
  soft_purge_said s name (Some linger) (Some serial) o l h = answer_of (cmds.SoftPurge name (Some linger)) o _ (some_outcome _ o h) (record { reply_said = l; agrees = refl })

  doom_said : (s : ServerState) (name : AtomId) (old : Option ℕ) (o : Outcome) → doom_of s old ≡ Some o → IsSaidAnswer (cmds.Doom name) o.answer.reply
  doom_said s name None o h = absurd (none-some o h)
  doom_said s name (Some serial) o h = answer_of (cmds.Doom name) o _ (some_outcome _ o h) (record { reply_said = tt; agrees = tt })

  told : (name : AtomId) (killed : Bool) → IsSaidAnswer (cmds.Purge name killed) (answered killed)
  told name true = record { reply_said = tt; agrees = refl }
  told name false = record { reply_said = tt; agrees = refl }

  purge_said : (s : ServerState) (name : AtomId) (killed : Bool) (old : Option ℕ) (o : Outcome) → purge_of s name.0 killed old ≡ Some o → IsSaidAnswer (cmds.Purge name killed) o.answer.reply
  purge_said s name true None o h = absurd (none-some o h)
  purge_said s name false None o h = answer_of (cmds.Purge name false) o _ (some_outcome _ o (at_rest s _ o h).1) (record { reply_said = tt; agrees = refl })
  purge_said s name killed (Some serial) o h = by (is_doomed s serial) h
    where
      by : (b : Bool) → (if b then Some (published (with_purged s name.0 serial) (answered killed)) else None) ≡ Some o → IsSaidAnswer (cmds.Purge name killed) o.answer.reply
      by true h = answer_of (cmds.Purge name killed) o _ (some_outcome _ o h) (told name killed)
      by false h = absurd (none-some o h)

  -- yes or no
  yes_said : (cmd : Cmd) (b : Bool) → ((r : Reply) → IsReplyOf names r → IsSaidAnswer cmd r) → IsSaidAnswer cmd (answered b)
  yes_said cmd true h = h replies.True tt
  yes_said cmd false h = h replies.False tt

  put_said : (s t : ServerState) (key : AtomId) (cmd : Cmd) (o : Outcome) (a b c : Bool) → ((r : Reply) → IsReplyOf names r → IsSaidAnswer cmd r)
      → o ≡ (if a then unchanged s replies.Ok else if b then unchanged s (replies.SystemLimit Keys) else if c then unchanged s (replies.SystemLimit Areas) else published t replies.Ok) → IsSaidAnswer cmd o.answer.reply
  put_said s t key cmd o true b c h e = answer_of cmd o _ e (h replies.Ok tt)
  put_said s t key cmd o false true c h e = answer_of cmd o _ e (h (replies.SystemLimit Keys) tt)
  put_said s t key cmd o false false true h e = answer_of cmd o _ e (h (replies.SystemLimit Areas) tt)
  put_said s t key cmd o false false false h e = answer_of cmd o _ e (h replies.Ok tt)

  erase_said : (s : ServerState) (key : AtomId) (held : Option Persistent) (o : Outcome) → o ≡ erase_of s key.0 held → IsSaidAnswer (cmds.Erase key) o.answer.reply
  erase_said s key None o e = answer_of (cmds.Erase key) o _ e (record { reply_said = tt; agrees = tt })
  erase_said s key (Some p) o e = answer_of (cmds.Erase key) o _ e (record { reply_said = tt; agrees = tt })

  trace_said : (s : ServerState) (target : Mfa) (on : Bool) (at : Option Function) (o : Outcome) → o ≡ trace_of s on at → IsSaidAnswer (cmds.Trace target on) o.answer.reply
  trace_said s target on None o e = answer_of (cmds.Trace target on) o _ e (record { reply_said = tt; agrees = tt })
  trace_said s target on (Some f) o e = by (beq (is_traced s f) on) e
    where
      by : (b : Bool) → o ≡ (if b then unchanged s replies.True else published (with_trace s f on) replies.True) → IsSaidAnswer (cmds.Trace target on) o.answer.reply
      by true e = answer_of (cmds.Trace target on) o _ e (record { reply_said = tt; agrees = tt })
      by false e = answer_of (cmds.Trace target on) o _ e (record { reply_said = tt; agrees = tt })

  release_said : (s : ServerState) (serial : ℕ) (o : Outcome) (b : Bool) → (if b then Some (unchanged (with_released s serial) replies.Ok) else None) ≡ Some o → IsSaidAnswer (cmds.Release serial) o.answer.reply
  release_said s serial o true h = answer_of (cmds.Release serial) o _ (some_outcome _ o h) (record { reply_said = tt; agrees = tt })
  release_said s serial o false h = absurd (none-some o h)

  -- what a process lingers in, if a command tells of one, can be said
  abbrev pub IsSaidLinger : Cmd → Type 0
  IsSaidLinger (cmds.SoftPurge name lingers) = IfSome lingers IsLingerOf
  IsSaidLinger cmd = Unit {0}

  -- the references of a load can be said
  abbrev pub IsSaidLoad : Cmd → Type 0
  IsSaidLoad (cmds.Load refs) = AllByRecursion (IsReferenceOf names) refs
  IsSaidLoad cmd = Unit {0}

  -- the answer to a command
  pub answer_said : (texts : List Module) (s : ServerState) (cmd : Cmd) (o : Outcome) → apply_of texts s cmd ≡ Some o → IsSaidLoad cmd → IsSaidLinger cmd → IsSaidAnswer cmd o.answer.reply
  answer_said texts s (cmds.Load refs) o h l g = load_answer texts s refs o (texts_of texts refs) (at_rest s _ o h).1 l
  answer_said texts s (cmds.Delete name) o h l g = delete_said s name o (is_some (old_of s name.0)) (is_none (current_of s name.0)) (published (with_deleted s name.0) replies.True) refl (some_outcome _ o (at_rest s _ o h).1)
  answer_said texts s (cmds.SoftPurge name lingers) o h l g = soft_purge_said s name lingers (old_of s name.0) o g (at_rest s _ o h).1
  answer_said texts s (cmds.Doom name) o h l g = doom_said s name (old_of s name.0) o (at_rest s _ o h).1
  answer_said texts s (cmds.Purge name killed) o h l g = purge_said s name killed (old_of s name.0) o h
  answer_said texts s (cmds.CheckOld name) o h l g = answer_of (cmds.CheckOld name) o _ (some_outcome _ o h) (yes_said (cmds.CheckOld name) (is_some (old_of s name.0)) (λ r k. record { reply_said = k; agrees = tt }))
  answer_said texts s (cmds.Put key term) o h l g =
      put_said s (with_put s key.0 (plain term)) key (cmds.Put key term) o (holds_equal (persistent_of s key.0) (plain term)) (is_none (persistent_of s key.0) && nat_le MOST_KEYS (length s.keys)) (not (is_immediate (plain term)) && nat_le MOST_TERMS (live_areas s.keys))
      (λ r k. record { reply_said = k; agrees = tt }) (some_outcome _ o (at_rest s _ o h).1)
  answer_said texts s (cmds.Erase key) o h l g = erase_said s key (persistent_of s key.0) o (some_outcome _ o (at_rest s _ o h).1)
  answer_said texts s (cmds.Trace target on) o h l g = trace_said s target on (traceable_of s target) o (some_outcome _ o (at_rest s _ o h).1)
  answer_said texts s (cmds.Spawn target args) o h l g = answer_of (cmds.Spawn target args) o _ (some_outcome _ o h) (record { reply_said = tt; agrees = tt })
  answer_said texts s (cmds.Release serial) o h l g = release_said s serial o (is_retired s serial) h
