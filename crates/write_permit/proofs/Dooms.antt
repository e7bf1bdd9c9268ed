-- What is doomed after a command, and that the commands of a loader have a case.
use Rattle.std.proofs.Common.{◌≡◌, ℕ, ◌==◌, ◌||◌, Bool, true, false, List, [], ◌∷◌, ◌++◌, length, Option, Some, None, IsSome, IsTrue, is_some, option_map, option_and_then, if◌then◌else◌, refl, sym, ap, subst, ◌∙◌, nat_lt}
use Rattle.std.proofs.lemmas.Bool.{eq-eqb, false≢true}
use Rattle.std.proofs.lemmas.Option.{same_Some}
use Rattle.std.specs.List.{AllByRecursion, list_any}
use Rattle.term_core.specs.declared.atom.AtomId.{AtomId}
use Rattle.mod_core.specs.declared.code.Module.{Module}
use Rattle.server_core.specs.declared.command.Cmd.{Cmd}
use Rattle.server_core.specs.declared.command.Cmd.TheVariants.{Load, Doom, Purge}
use Rattle.server_core.specs.declared.command.ModRef.{ModRef}
use Rattle.server_core.specs.declared.command.Reply.TheVariants as replies
use Rattle.server_core.specs.ServerState.{ServerState, is_doomed, old_of}
use Rattle.server_core.specs.CommandTable.{Outcome, answered, apply_of, doom_of, load_of, loaded, names_of, published, purge_of, repeated_after, text_of, texts_of, unchanged, while_none_doomed, with_all, with_loaded, with_purged, without_number}
use Rattle.server_core.proofs.Changes.{Came, as_before, came, came_in, was_deleted, was_doomed, was_erased, was_purged, was_put, was_released, was_soft_purged, was_traced}
use Rattle.server_core.proofs.CommandLaws.{put_keeps}
use Rattle.write_permit.specs.Book.{after_doom}

-- ---- what is doomed

-- a command that is no first half of a purge
abbrev pub IsNoDoom : Cmd → Type 0
IsNoDoom (Doom name) = ⊥
IsNoDoom cmd = Unit {0}

all_doomed : (s : ServerState) (modules : List Module) → (with_all s modules).doomed ≡ s.doomed
all_doomed s [] = refl
all_doomed s (m ∷ ms) = all_doomed (with_loaded s m) ms

rest_after : (texts : List Module) (s : ServerState) (cmd : Cmd) (o : Outcome) → s.doomed ≡ [] → IsNoDoom cmd → Came texts s cmd o → o.state.doomed ≡ []
rest_after texts s cmd o none other (as_before reply e) = ap (λ x. x.state.doomed) e ∙ none
rest_after texts s cmd o none other (was_released serial is retired e) = ap (λ x. x.state.doomed) e ∙ none
rest_after texts s cmd o none other (came_in refs modules is rest comes e) = ap (λ x. x.state.doomed) e ∙ all_doomed s modules ∙ none
rest_after texts s cmd o none other (was_deleted name is rest old current e) = ap (λ x. x.state.doomed) e ∙ none
rest_after texts s cmd o none other (was_soft_purged name serial is rest old e) = ap (λ x. x.state.doomed) e ∙ none
rest_after texts s cmd o none other (was_doomed name serial is rest old e) = absurd (subst IsNoDoom is other)
rest_after texts s cmd o none other (was_purged name killed serial is doomed old e) = ap (λ x. x.state.doomed) e ∙ ap (without_number serial) none
rest_after texts s cmd o none other (was_put key term is rest put e) = ap (λ x. x.state.doomed) e ∙ put_keeps (λ x. x.doomed) s key.0 _ s.doomed refl refl ∙ none
rest_after texts s cmd o none other (was_erased key p is rest held e) = ap (λ x. x.state.doomed) e ∙ none
rest_after texts s cmd o none other (was_traced target on at is rest found different e) = ap (λ x. x.state.doomed) e ∙ none

-- where nothing is doomed, each command but a doom leaves it so
pub rest_kept : (texts : List Module) (s : ServerState) (cmd : Cmd) (o : Outcome) → s.doomed ≡ [] → IsNoDoom cmd → apply_of texts s cmd ≡ Some o → o.state.doomed ≡ []
rest_kept texts s cmd o none other applied = rest_after texts s cmd o none other (came texts s cmd o applied)

-- where nothing is doomed, a command is as the table says
pub none_doomed : (s : ServerState) (o : Option Outcome) → s.doomed ≡ [] → while_none_doomed s o ≡ o
none_doomed s o e = ap (λ ds. if nat_lt 0 (length ds) then None else o) e

-- what a doom gives
pub doom_is : (texts : List Module) (s : ServerState) (name : AtomId) (serial : ℕ) → s.doomed ≡ [] → old_of s name.0 ≡ Some serial → apply_of texts s (Doom name) ≡ Some (published (record s { doomed = s.doomed ++ serial ∷ [] }) replies.Ok)
doom_is texts s name serial none old = none_doomed s (doom_of s (old_of s name.0)) none ∙ ap (doom_of s) old

-- after a doom just this old code is doomed, and current and old code are as they were
pub record IsDoomed (s : ServerState) (o : Outcome) (serial : ℕ) : Type 0 where
  pub state : o.state ≡ after_doom s serial
  pub doomed : o.state.doomed ≡ serial ∷ []
  pub versions : o.state.versions ≡ s.versions

pub doom_dooms : (texts : List Module) (s : ServerState) (name : AtomId) (serial : ℕ) (o : Outcome) → s.doomed ≡ [] → old_of s name.0 ≡ Some serial → apply_of texts s (Doom name) ≡ Some o → IsDoomed s o serial
doom_dooms texts s name serial o none old applied =
    let made : published (record s { doomed = s.doomed ++ serial ∷ [] }) replies.Ok ≡ o = same_Some _ _ (sym (doom_is texts s name serial none old) ∙ applied) in
    record {
      state = ap (λ x. x.state) (sym made);
      doomed = ap (λ x. x.state.doomed) (sym made) ∙ ap (λ ds. ds ++ serial ∷ []) none;
      versions = ap (λ x. x.state.versions) (sym made);
    }

one_out : (serial : ℕ) (b : Bool) → (serial == serial) ≡ b → b ≡ true → without_number serial (serial ∷ []) ≡ []
one_out serial true e h = rw e refl
one_out serial false e h = absurd (false≢true h)

-- what alone is doomed is doomed no more once it is taken out
pub none_left : (serial : ℕ) → without_number serial (serial ∷ []) ≡ []
none_left serial = one_out serial (serial == serial) refl (eq-eqb serial serial refl)

just_doomed : (s : ServerState) (serial : ℕ) → s.doomed ≡ serial ∷ [] → is_doomed s serial ≡ true
just_doomed s serial e = ap (λ ds. list_any (λ n. n == serial) ds) e ∙ ap (λ b. b || false) (eq-eqb serial serial refl)

-- what the second half of a purge gives
pub purge_is : (texts : List Module) (s : ServerState) (name : AtomId) (killed : Bool) (serial : ℕ) → s.doomed ≡ serial ∷ [] → old_of s name.0 ≡ Some serial
    → apply_of texts s (Purge name killed) ≡ Some (published (with_purged s name.0 serial) (answered killed))
purge_is texts s name killed serial doomed old =
    ap (purge_of s name.0 killed) old ∙ ap (λ b. if b then Some (published (with_purged s name.0 serial) (answered killed)) else None) (just_doomed s serial doomed)

-- after it nothing is doomed
pub purge_lifts : (texts : List Module) (s : ServerState) (name : AtomId) (killed : Bool) (serial : ℕ) (o : Outcome) → s.doomed ≡ serial ∷ [] → old_of s name.0 ≡ Some serial → apply_of texts s (Purge name killed) ≡ Some o → o.state.doomed ≡ []
purge_lifts texts s name killed serial o doomed old applied =
    let made : published (with_purged s name.0 serial) (answered killed) ≡ o = same_Some _ _ (sym (purge_is texts s name killed serial doomed old) ∙ applied) in
    ap (λ x. x.state.doomed) (sym made) ∙ ap (without_number serial) doomed ∙ none_left serial

-- ---- commands that have a case

some_more : (o : Option Module) (p : Option (List Module)) → IsTrue (is_some o) → IsSome p → IsSome (option_and_then (λ m. option_map (λ ms. m ∷ ms) p) o)
some_more None p h k = absurd (false≢true h)
some_more (Some m) None h k = absurd (false≢true k)
some_more (Some m) (Some ms) h k = k

all_given : (texts : List Module) (refs : List ModRef) → AllByRecursion (λ r. IsTrue (is_some (text_of texts r))) refs → IsSome (texts_of texts refs)
all_given texts [] h = refl
all_given texts (r ∷ refs) h = some_more (text_of texts r) (texts_of texts refs) h.0 (all_given texts refs h.1)

mapped_some : (f : List Module → Outcome) (o : Option (List Module)) → IsSome o → IsSome (option_map f o)
mapped_some f None h = absurd (false≢true h)
mapped_some f (Some x) h = h

-- where nothing is doomed, what has a case then has one
pub at_rest : (s : ServerState) (o : Option Outcome) → s.doomed ≡ [] → IsSome o → IsSome (while_none_doomed s o)
at_rest s o none h = ap is_some (none_doomed s o none) ∙ h

pub load_enabled : (texts : List Module) (s : ServerState) (refs : List ModRef) → s.doomed ≡ [] → AllByRecursion (λ r. IsTrue (is_some (text_of texts r))) refs → IsSome (apply_of texts s (Load refs))
load_enabled texts s refs none given = at_rest s (load_of texts s refs) none (mapped_some (λ modules. loaded s refs modules (repeated_after [] (names_of refs))) (texts_of texts refs) (all_given texts refs given))

pub idle_purge_enabled : (texts : List Module) (s : ServerState) (name : AtomId) → s.doomed ≡ [] → old_of s name.0 ≡ None → IsSome (apply_of texts s (Purge name false))
idle_purge_enabled texts s name none old = ap (λ o. is_some (purge_of s name.0 false o)) old ∙ at_rest s (Some (unchanged s replies.False)) none refl

pub doom_enabled : (texts : List Module) (s : ServerState) (name : AtomId) (serial : ℕ) → s.doomed ≡ [] → old_of s name.0 ≡ Some serial → IsSome (apply_of texts s (Doom name))
doom_enabled texts s name serial none old = ap is_some (doom_is texts s name serial none old)

pub purge_enabled : (texts : List Module) (s : ServerState) (name : AtomId) (killed : Bool) (serial : ℕ) → s.doomed ≡ serial ∷ [] → old_of s name.0 ≡ Some serial → IsSome (apply_of texts s (Purge name killed))
purge_enabled texts s name killed serial doomed old = ap is_some (purge_is texts s name killed serial doomed old)
