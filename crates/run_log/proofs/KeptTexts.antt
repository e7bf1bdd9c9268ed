-- Each instance that a journal brings in is of one of the texts that it loads from.
use Rattle.std.proofs.Common.{◌≡◌, ℕ, Bool, true, false, cond, ◌&&◌, ◌==◌, List, [], ◌∷◌, ◌++◌, Option, Some, None, IfSome, Contains, find, option_and_then, option_map, refl, sym, ap, subst, ◌∙◌}
use Rattle.std.proofs.lemmas.Option.{none-some, same_Some}
use Rattle.std.specs.List.{AllByRecursion}
use Rattle.term_core.specs.Plain.{plain}
use Rattle.mod_core.specs.declared.code.Module.{Module}
use Rattle.server_core.specs.declared.command.Cmd.{Cmd}
use Rattle.server_core.specs.declared.command.ModRef.{ModRef}
use Rattle.server_core.specs.ServerState.{Instance, ServerState, code_among, code_of, empty_state}
use Rattle.server_core.specs.CommandTable.{Outcome, apply_of, text_of, texts_of, with_all, with_loaded}
use Rattle.server_core.proofs.Changes.{Came, came, as_before, came_in, was_deleted, was_soft_purged, was_doomed, was_purged, was_put, was_erased, was_traced, was_released}
use Rattle.server_core.proofs.CommandLaws.{put_keeps}
use Rattle.run_log.specs.declared.logs.Entry.{Entry}
use Rattle.run_log.specs.Journal.{newest_state, next_state, state_after}
use Rattle.run_log.specs.InstanceTexts.{AreOfTexts}
use Rattle.run_log.proofs.Members.{contains_first, contains_later}

-- what is found in a list stands in it
found_contained : {X : Type 0} (p : X → Bool) (xs : List X) (x : X) → find p xs ≡ Some x → Contains xs x
found_contained p [] x h = absurd (none-some x h)
found_contained p (y ∷ ys) x h = by (p y) h (λ k. found_contained p ys x k)
  where
    by : (b : Bool) → cond b (Some y) (find p ys) ≡ Some x → (find p ys ≡ Some x → Contains ys x) → Contains (y ∷ ys) x
    by true e later = subst (Contains (y ∷ ys)) (same_Some y x e) (contains_first y ys)
    by false e later = contains_later y x ys (later e)

module _ (texts : List Module) where
  -- the texts that a load names are among those that are given
  named_given : (to : ModRef) (o : Option Module) (rest : Option (List Module)) (modules : List Module) → option_and_then (λ m. option_map (λ ms. m ∷ ms) rest) o ≡ Some modules
      → ((m : Module) → o ≡ Some m → Contains texts m) → ((ms : List Module) → rest ≡ Some ms → AllByRecursion (Contains texts) ms) → AllByRecursion (Contains texts) modules
  named_given to None rest modules h first later = absurd (none-some modules h)
  named_given to (Some m) None modules h first later = absurd (none-some modules h)
  named_given to (Some m) (Some ms) modules h first later = subst (AllByRecursion (Contains texts)) (same_Some (m ∷ ms) modules h) (first m refl, later ms refl)

  all_given : (refs : List ModRef) (modules : List Module) → texts_of texts refs ≡ Some modules → AllByRecursion (Contains texts) modules
  all_given [] modules h = subst (AllByRecursion (Contains texts)) (same_Some [] modules h) tt
  all_given (to ∷ refs) modules h =
      named_given to (text_of texts to) (texts_of texts refs) modules h (λ m e. found_contained (λ n. n.name.0 == to.name.0 && n.version == to.version) texts m e) (λ ms e. all_given refs ms e)

  -- an instance joins the others
  joined_given : (is : List Instance) (i : Instance) (serial : ℕ) → Contains texts i.code → IfSome (code_among is serial) (Contains texts) → IfSome (code_among (is ++ i ∷ []) serial) (Contains texts)
  joined_given [] i serial given h = by (i.serial == serial)
    where
      by : (b : Bool) → IfSome (cond b (Some i.code) None) (Contains texts)
      by true = given
      by false = tt
  joined_given (x ∷ is) i serial given h = by (x.serial == serial) h (λ k. joined_given is i serial given k)
    where
      by : (b : Bool) → IfSome (cond b (Some x.code) (code_among is serial)) (Contains texts) → (IfSome (code_among is serial) (Contains texts) → IfSome (code_among (is ++ i ∷ []) serial) (Contains texts))
          → IfSome (cond b (Some x.code) (code_among (is ++ i ∷ []) serial)) (Contains texts)
      by true k later = k
      by false k later = later k

  loaded_of_texts : (s : ServerState) (modules : List Module) → AllByRecursion (Contains texts) modules → AreOfTexts texts s → AreOfTexts texts (with_all s modules)
  loaded_of_texts s [] given known = known
  loaded_of_texts s (m ∷ modules) given known =
      loaded_of_texts (with_loaded s m) modules given.1 (λ serial. joined_given s.instances (record { serial = s.next_serial; code = m }) serial given.0 (known serial))

  -- where the instances are the same, they are of the texts as before
  same_texts : (s t : ServerState) → ((serial : ℕ) → code_of t serial ≡ code_of s serial) → AreOfTexts texts s → AreOfTexts texts t
  same_texts s t same known = λ serial. subst (λ o. IfSome o (Contains texts)) (sym (same serial)) (known serial)

  came_of_texts : (s : ServerState) (cmd : Cmd) (o : Outcome) → Came texts s cmd o → AreOfTexts texts s → AreOfTexts texts o.state
  came_of_texts s cmd o (as_before reply e) known = same_texts s o.state (λ serial. ap (λ r. code_of r.state serial) e) known
  came_of_texts s cmd o (came_in refs modules is rest comes e) known = same_texts (with_all s modules) o.state (λ serial. ap (λ r. code_of r.state serial) e) (loaded_of_texts s modules (all_given refs modules comes.given) known)
  came_of_texts s cmd o (was_deleted n is rest old current e) known = same_texts s o.state (λ serial. ap (λ r. code_of r.state serial) e) known
  came_of_texts s cmd o (was_soft_purged n k is rest old e) known = same_texts s o.state (λ serial. ap (λ r. code_of r.state serial) e) known
  came_of_texts s cmd o (was_doomed n k is rest old e) known = same_texts s o.state (λ serial. ap (λ r. code_of r.state serial) e) known
  came_of_texts s cmd o (was_purged n killed k is doomed old e) known = same_texts s o.state (λ serial. ap (λ r. code_of r.state serial) e) known
  came_of_texts s cmd o (was_put key term is rest into e) known =
      same_texts s o.state (λ serial. ap (λ r. code_of r.state serial) e ∙ put_keeps (λ t. code_of t serial) s key.0 (plain term) (code_of s serial) refl refl) known
  came_of_texts s cmd o (was_erased key p is rest held e) known = same_texts s o.state (λ serial. ap (λ r. code_of r.state serial) e) known
  came_of_texts s cmd o (was_traced target on f is rest at same e) known = same_texts s o.state (λ serial. ap (λ r. code_of r.state serial) e) known
  came_of_texts s cmd o (was_released k is retired e) known = same_texts s o.state (λ serial. ap (λ r. code_of r.state serial) e) known

  -- at first there is no instance
  pub empty_of_texts : AreOfTexts texts empty_state
  empty_of_texts = λ serial. tt

  -- a command keeps it
  pub next_of_texts : (s : ServerState) (cmd : Cmd) → AreOfTexts texts s → AreOfTexts texts (next_state texts s cmd)
  next_of_texts s cmd known = by (apply_of texts s cmd) refl
    where
      by : (o : Option Outcome) → apply_of texts s cmd ≡ o → AreOfTexts texts (state_after s o)
      by None e = known
      by (Some o) e = came_of_texts s cmd o (came texts s cmd o e) known

  -- and so does a journal
  pub newest_of_texts : (s : ServerState) (journal : List Entry) → AreOfTexts texts s → AreOfTexts texts (newest_state texts s journal)
  newest_of_texts s [] known = known
  newest_of_texts s (e ∷ journal) known = newest_of_texts (next_state texts s e.cmd) journal (next_of_texts s e.cmd known)
