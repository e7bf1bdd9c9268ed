-- States of the server that a journal of a script's commands makes: what they hold can be said.
use Rattle.std.proofs.Common.{◌≡◌, ℕ, ◌+◌, ◌<◌, ◌≤◌, ◌==◌, Bool, true, false, cond, not, List, [], ◌∷◌, ◌++◌, length, filter, Option, Some, None, IfSome, option_and_then, is_none, if◌then◌else◌, refl, sym, ap, subst, arith}
use Rattle.std.specs.List.{AllByRecursion}
use Rattle.std.specs.Option.{option_to_list}
use Rattle.std.proofs.lemmas.Bool.{eqb-true}
use Rattle.term_core.specs.Image.{is_immediate}
use Rattle.term_core.specs.Plain.{plain}
use Rattle.term_core.specs.PlainTerm.{PlainTerm}
use Rattle.mod_core.specs.declared.code.Module.{Module}
use Rattle.server_core.specs.declared.command.Cmd.{Cmd}
use Rattle.server_core.specs.declared.command.Cmd.TheVariants as cmds
use Rattle.server_core.specs.declared.command.ModRef.{ModRef}
use Rattle.server_core.specs.declared.command.Reply.{Reply}
use Rattle.server_core.specs.declared.command.Reply.TheVariants as replies
use Rattle.server_core.specs.ServerState.{Entry as Function, Persistent, ServerState, Versions, current_among, current_of, empty_state, is_same_entry, key_area, old_among, old_of, persistent_among, persistent_of}
use Rattle.server_core.specs.CommandTable.{Outcome, answered, published, texts_of, unchanged, with_all, with_complex, with_deleted, with_dropped, with_erased, with_immediate, with_key, with_loaded, with_purged, with_put, with_released, with_trace, with_versions}
use Rattle.server_core.proofs.Changes.{Came, as_before, came_in, was_deleted, was_soft_purged, was_doomed, was_purged, was_put, was_erased, was_traced, was_released}
use Rattle.script_core.specs.Sound.{IsTermOf}
use Rattle.log_forms.proofs.SaidValues.{said_join}

module _ {X : Type 0} where
  pub filtered : (P : X → Type 0) (test : X → Bool) (xs : List X) → AllByRecursion P xs → AllByRecursion P (filter test xs)
  filtered P test [] h = tt
  filtered P test (x ∷ xs) h = by (test x) h.0 (filtered P test xs h.1)
    where
      by : (b : Bool) → P x → AllByRecursion P (filter test xs) → AllByRecursion P (cond b (x ∷ filter test xs) (filter test xs))
      by true p k = (p, k)
      by false p k = k

  pub weaker : (P Q : X → Type 0) → ((x : X) → P x → Q x) → (xs : List X) → AllByRecursion P xs → AllByRecursion Q xs
  weaker P Q f [] h = tt
  weaker P Q f (x ∷ xs) h = (f x h.0, weaker P Q f xs h.1)

some_weaker : {X : Type 0} (P Q : X → Type 0) → ((x : X) → P x → Q x) → (o : Option X) → IfSome o P → IfSome o Q
some_weaker P Q f None h = tt
some_weaker P Q f (Some x) h = f x h

module _ (names : List (List ℕ)) where
  -- the versions of a module that has a name, with serials that were given
  pub record IsKnownVersions (next : ℕ) (v : Versions) : Type 0 where
    pub named : v.name < length names
    pub current : IfSome v.current (λ n. n < next)
    pub old : IfSome v.old (λ n. n < next)

  -- a term that can be said, with an area that was given, if it has one
  pub record IsKnownTerm (next : ℕ) (p : Persistent) : Type 0 where
    pub term : IsTermOf names p.term
    pub area : IfSome p.area (λ n. n < next)

  -- what a state holds can be said, and each serial in it was given
  pub record IsSaidState (s : ServerState) : Type 0 where
    pub versions : AllByRecursion (IsKnownVersions s.next_serial) s.versions
    pub keys : AllByRecursion (IsKnownTerm s.next_serial) s.keys
    pub doomed : AllByRecursion (λ n. n < s.next_serial) s.doomed
    pub retired : AllByRecursion (λ n. n < s.next_serial) s.retired

  -- ---- serials that were given before

  versions_later : (a b : ℕ) → a ≤ b → (vs : List Versions) → AllByRecursion (IsKnownVersions a) vs → AllByRecursion (IsKnownVersions b) vs
  versions_later a b le vs h = weaker (IsKnownVersions a) (IsKnownVersions b) (λ v k. record {
    named = k.named;
    current = some_weaker (λ n. n < a) (λ n. n < b) (λ n q. omega (arith, q, le)) v.current k.current;
    old = some_weaker (λ n. n < a) (λ n. n < b) (λ n q. omega (arith, q, le)) v.old k.old;
  }) vs h

  keys_later : (a b : ℕ) → a ≤ b → (ps : List Persistent) → AllByRecursion (IsKnownTerm a) ps → AllByRecursion (IsKnownTerm b) ps
  keys_later a b le ps h = weaker (IsKnownTerm a) (IsKnownTerm b) (λ p k. record { term = k.term; area = some_weaker (λ n. n < a) (λ n. n < b) (λ n q. omega (arith, q, le)) p.area k.area }) ps h

  serials_later : (a b : ℕ) → a ≤ b → (ns : List ℕ) → AllByRecursion (λ n. n < a) ns → AllByRecursion (λ n. n < b) ns
  serials_later a b le ns h = weaker (λ n. n < a) (λ n. n < b) (λ n q. omega (arith, q, le)) ns h

  -- ---- what is found

  current_known : (next : ℕ) (vs : List Versions) (name : ℕ) → AllByRecursion (IsKnownVersions next) vs → IfSome (current_among vs name) (λ n. (n < next) × (name < length names))
  current_known next [] name h = tt
  current_known next (v ∷ vs) name h = by (name == v.name) refl h.0 (current_known next vs name h.1)
    where
      at : (o : Option ℕ) → name ≡ v.name → v.name < length names → IfSome o (λ n. n < next) → IfSome o (λ n. (n < next) × (name < length names))
      at None e q k = tt
      at (Some n) e q k = (k, omega (arith, e, q))

      by : (b : Bool) → (name == v.name) ≡ b → IsKnownVersions next v → IfSome (current_among vs name) (λ n. (n < next) × (name < length names)) → IfSome (cond b v.current (current_among vs name)) (λ n. (n < next) × (name < length names))
      by true e k later = at v.current (eqb-true name v.name e) k.named k.current
      by false e k later = later

  old_known : (next : ℕ) (vs : List Versions) (name : ℕ) → AllByRecursion (IsKnownVersions next) vs → IfSome (old_among vs name) (λ n. (n < next) × (name < length names))
  old_known next [] name h = tt
  old_known next (v ∷ vs) name h = by (name == v.name) refl h.0 (old_known next vs name h.1)
    where
      at : (o : Option ℕ) → name ≡ v.name → v.name < length names → IfSome o (λ n. n < next) → IfSome o (λ n. (n < next) × (name < length names))
      at None e q k = tt
      at (Some n) e q k = (k, omega (arith, e, q))

      by : (b : Bool) → (name == v.name) ≡ b → IsKnownVersions next v → IfSome (old_among vs name) (λ n. (n < next) × (name < length names)) → IfSome (cond b v.old (old_among vs name)) (λ n. (n < next) × (name < length names))
      by true e k later = at v.old (eqb-true name v.name e) k.named k.old
      by false e k later = later

  -- the serial of current or old code was given, and its module has a name
  pub said_current : (s : ServerState) → IsSaidState s → (name : ℕ) → IfSome (current_of s name) (λ n. (n < s.next_serial) × (name < length names))
  said_current s h name = current_known s.next_serial s.versions name h.versions

  pub said_old : (s : ServerState) → IsSaidState s → (name : ℕ) → IfSome (old_of s name) (λ n. (n < s.next_serial) × (name < length names))
  said_old s h name = old_known s.next_serial s.versions name h.versions

  key_known : (next : ℕ) (ps : List Persistent) (key : ℕ) → AllByRecursion (IsKnownTerm next) ps → IfSome (persistent_among ps key) (IsKnownTerm next)
  key_known next [] key h = tt
  key_known next (p ∷ ps) key h = by (p.key == key) h.0 (key_known next ps key h.1)
    where
      by : (b : Bool) → IsKnownTerm next p → IfSome (persistent_among ps key) (IsKnownTerm next) → IfSome (cond b (Some p) (persistent_among ps key)) (IsKnownTerm next)
      by true k later = k
      by false k later = later

  pub said_key : (s : ServerState) → IsSaidState s → (key : ℕ) → IfSome (persistent_of s key) (IsKnownTerm s.next_serial)
  said_key s h key = key_known s.next_serial s.keys key h.keys

  -- ---- changes

  with_known : (next : ℕ) (vs : List Versions) (new : Versions) → IsKnownVersions next new → AllByRecursion (IsKnownVersions next) vs → AllByRecursion (IsKnownVersions next) (with_versions vs new)
  with_known next [] new k h = (k, tt)
  with_known next (v ∷ vs) new k h = by (new.name == v.name) k h.0 h.1 (with_known next vs new k h.1)
    where
      by : (b : Bool) → IsKnownVersions next new → IsKnownVersions next v → AllByRecursion (IsKnownVersions next) vs → AllByRecursion (IsKnownVersions next) (with_versions vs new)
          → AllByRecursion (IsKnownVersions next) (cond b (new ∷ vs) (v ∷ with_versions vs new))
      by true n k rest later = (n, rest)
      by false n k rest later = (k, later)

  plain_known : (next name : ℕ) (o : Option ℕ) → IfSome o (λ n. (n < next) × (name < length names)) → IfSome o (λ n. n < next)
  plain_known next name None h = tt
  plain_known next name (Some n) h = h.0

  loaded_said : (s : ServerState) (m : Module) → m.name.0 < length names → IsSaidState s → IsSaidState (with_loaded s m)
  loaded_said s m named h = record {
    versions = with_known (s.next_serial + 1) s.versions (record { name = m.name.0; current = Some s.next_serial; old = current_of s m.name.0 })
        (record { named = named; current = omega arith; old = some_weaker (λ n. n < s.next_serial) (λ n. n < s.next_serial + 1) (λ n q. omega (arith, q)) (current_of s m.name.0) (plain_known s.next_serial m.name.0 (current_of s m.name.0) (said_current s h m.name.0)) })
        (versions_later s.next_serial (s.next_serial + 1) (omega arith) s.versions h.versions);
    keys = keys_later s.next_serial (s.next_serial + 1) (omega arith) s.keys h.keys;
    doomed = serials_later s.next_serial (s.next_serial + 1) (omega arith) s.doomed h.doomed;
    retired = serials_later s.next_serial (s.next_serial + 1) (omega arith) s.retired h.retired;
  }

  all_said : (s : ServerState) (ms : List Module) → AllByRecursion (λ m. m.name.0 < length names) ms → IsSaidState s → IsSaidState (with_all s ms)
  all_said s [] named h = h
  all_said s (m ∷ ms) named h = all_said (with_loaded s m) ms named.1 (loaded_said s m named.0 h)

  -- a module of which one version stands has a name
  deleted_said : (s : ServerState) (name : ℕ) → name < length names → IsSaidState s → IsSaidState (with_deleted s name)
  deleted_said s name named h = record {
    versions = with_known s.next_serial s.versions (record { name = name; current = None; old = current_of s name }) (record { named = named; current = tt; old = plain_known s.next_serial name (current_of s name) (said_current s h name) }) h.versions;
    keys = h.keys;
    doomed = h.doomed;
    retired = h.retired;
  }

  dropped_said : (s : ServerState) (name serial : ℕ) → name < length names → serial < s.next_serial → IsSaidState s → IsSaidState (with_dropped s name serial)
  dropped_said s name serial named known h = record {
    versions = with_known s.next_serial s.versions (record { name = name; current = current_of s name; old = None }) (record { named = named; current = plain_known s.next_serial name (current_of s name) (said_current s h name); old = tt }) h.versions;
    keys = h.keys;
    doomed = h.doomed;
    retired = said_join (λ n. n < s.next_serial) s.retired (serial ∷ []) h.retired (known, tt);
  }

  purged_said : (s : ServerState) (name serial : ℕ) → name < length names → serial < s.next_serial → IsSaidState s → IsSaidState (with_purged s name serial)
  purged_said s name serial named known h =
      let d = dropped_said s name serial named known h in
      record { versions = d.versions; keys = d.keys; doomed = filtered (λ n. n < s.next_serial) (λ n. not (n == serial)) s.doomed h.doomed; retired = d.retired }

  key_put : (next : ℕ) (ps : List Persistent) (new : Persistent) → IsKnownTerm next new → AllByRecursion (IsKnownTerm next) ps → AllByRecursion (IsKnownTerm next) (with_key ps new)
  key_put next [] new k h = (k, tt)
  key_put next (p ∷ ps) new k h = by (p.key == new.key) k h.0 h.1 (key_put next ps new k h.1)
    where
      by : (b : Bool) → IsKnownTerm next new → IsKnownTerm next p → AllByRecursion (IsKnownTerm next) ps → AllByRecursion (IsKnownTerm next) (with_key ps new)
          → AllByRecursion (IsKnownTerm next) (cond b (new ∷ ps) (p ∷ with_key ps new))
      by true n k rest later = (n, rest)
      by false n k rest later = (k, later)

  area_known : (next : ℕ) (o : Option Persistent) → IfSome o (IsKnownTerm next) → AllByRecursion (λ n. n < next) (option_to_list (option_and_then (λ p. p.area) o))
  area_known next None h = tt
  area_known next (Some p) h = by p.area h.area
    where
      by : (o : Option ℕ) → IfSome o (λ n. n < next) → AllByRecursion (λ n. n < next) (option_to_list o)
      by None k = tt
      by (Some n) k = (k, tt)

  -- the area that a key's term had is retired
  retired_said : (s : ServerState) (key : ℕ) → IsSaidState s → AllByRecursion (λ n. n < s.next_serial) (s.retired ++ option_to_list (key_area s key))
  retired_said s key h = said_join (λ n. n < s.next_serial) s.retired (option_to_list (key_area s key)) h.retired (area_known s.next_serial (persistent_of s key) (said_key s h key))

  put_said : (s : ServerState) (key : ℕ) (term : PlainTerm) (b : Bool) → IsTermOf names term → IsSaidState s → IsSaidState (if b then with_immediate s key term else with_complex s key term)
  put_said s key term true t h = record {
    versions = h.versions;
    keys = key_put s.next_serial s.keys (record { key = key; term = term; area = None }) (record { term = t; area = tt }) h.keys;
    doomed = h.doomed;
    retired = retired_said s key h;
  }
  put_said s key term false t h = record {
    versions = versions_later s.next_serial (s.next_serial + 1) (omega arith) s.versions h.versions;
    keys = key_put (s.next_serial + 1) s.keys (record { key = key; term = term; area = Some s.next_serial }) (record { term = t; area = omega arith }) (keys_later s.next_serial (s.next_serial + 1) (omega arith) s.keys h.keys);
    doomed = serials_later s.next_serial (s.next_serial + 1) (omega arith) s.doomed h.doomed;
    retired = serials_later s.next_serial (s.next_serial + 1) (omega arith) (s.retired ++ option_to_list (key_area s key)) (retired_said s key h);
  }

  erased_said : (s : ServerState) (key : ℕ) → IsSaidState s → IsSaidState (with_erased s key)
  erased_said s key h = record { versions = h.versions; keys = filtered (IsKnownTerm s.next_serial) (λ p. not (p.key == key)) s.keys h.keys; doomed = h.doomed; retired = retired_said s key h }

  traced_said : (s : ServerState) (traced : List Function) → IsSaidState s → IsSaidState (record s { traced = traced })
  traced_said s traced h = record { versions = h.versions; keys = h.keys; doomed = h.doomed; retired = h.retired }

  released_said : (s : ServerState) (serial : ℕ) → IsSaidState s → IsSaidState (with_released s serial)
  released_said s serial h = record { versions = h.versions; keys = h.keys; doomed = h.doomed; retired = filtered (λ n. n < s.next_serial) (λ n. not (n == serial)) s.retired h.retired }

  -- the term of a put can be said
  abbrev pub IsSaidPut : Cmd → Type 0
  IsSaidPut (cmds.Put key term) = IsTermOf names (plain term)
  IsSaidPut cmd = Unit {0}

  of_some : {A : Type 0} (P : A → Type 0) (o : Option A) (x : A) → o ≡ Some x → IfSome o P → P x
  of_some P o x e h = subst (λ p. IfSome p P) e h

  unchanged_state : (o : Outcome) (s : ServerState) (reply : Reply) → o ≡ unchanged s reply → IsSaidState s → IsSaidState o.state
  unchanged_state o s reply e h = subst IsSaidState (sym (ap (λ (x : Outcome). x.state) e)) h

  published_state : (o : Outcome) (s : ServerState) (reply : Reply) → o ≡ published s reply → IsSaidState s → IsSaidState o.state
  published_state o s reply e h = subst IsSaidState (sym (ap (λ (x : Outcome). x.state) e)) (record { versions = h.versions; keys = h.keys; doomed = h.doomed; retired = h.retired })

  named_of : (next name : ℕ) (o : Option ℕ) → is_none o ≡ false → IfSome o (λ n. (n < next) × (name < length names)) → name < length names
  named_of next name None e h = absurd cc
  named_of next name (Some n) e h = h.1

  doomed_said : (s : ServerState) (serial : ℕ) → serial < s.next_serial → IsSaidState s → IsSaidState (record s { doomed = s.doomed ++ serial ∷ [] })
  doomed_said s serial known h = record { versions = h.versions; keys = h.keys; doomed = said_join (λ n. n < s.next_serial) s.doomed (serial ∷ []) h.doomed (known, tt); retired = h.retired }

  old_is : (s : ServerState) (name serial : ℕ) → old_of s name ≡ Some serial → IsSaidState s → (serial < s.next_serial) × (name < length names)
  old_is s name serial old h = of_some (λ n. (n < s.next_serial) × (name < length names)) (old_of s name) serial old (said_old s h name)

  -- what a command leaves can be said
  pub came_said : (texts : List Module) (s : ServerState) (cmd : Cmd) (o : Outcome) → ((refs : List ModRef) (ms : List Module) → texts_of texts refs ≡ Some ms → AllByRecursion (λ m. m.name.0 < length names) ms) → IsSaidPut cmd → Came texts s cmd o → IsSaidState s → IsSaidState o.state
  came_said texts s cmd o given p (as_before reply e) h = unchanged_state o s reply e h
  came_said texts s cmd o given p (came_in refs ms is rest comes e) h = published_state o (with_all s ms) replies.Ok e (all_said s ms (given refs ms comes.given) h)
  came_said texts s cmd o given p (was_deleted name is rest old current e) h =
      published_state o (with_deleted s name.0) replies.True e (deleted_said s name.0 (named_of s.next_serial name.0 (current_of s name.0) current (said_current s h name.0)) h)
  came_said texts s cmd o given p (was_soft_purged name serial is rest old e) h =
      let known = old_is s name.0 serial old h in published_state o (with_dropped s name.0 serial) replies.True e (dropped_said s name.0 serial known.1 known.0 h)
  came_said texts s cmd o given p (was_doomed name serial is rest old e) h =
      let known = old_is s name.0 serial old h in published_state o (record s { doomed = s.doomed ++ serial ∷ [] }) replies.Ok e (doomed_said s serial known.0 h)
  came_said texts s cmd o given p (was_purged name killed serial is doomed old e) h =
      let known = old_is s name.0 serial old h in published_state o (with_purged s name.0 serial) (answered killed) e (purged_said s name.0 serial known.1 known.0 h)
  came_said texts s cmd o given p (was_put key term is rest into e) h =
      published_state o (with_put s key.0 (plain term)) replies.Ok e (put_said s key.0 (plain term) (is_immediate (plain term)) (subst IsSaidPut is p) h)
  came_said texts s cmd o given p (was_erased key q is rest held e) h = published_state o (with_erased s key.0) replies.True e (erased_said s key.0 h)
  came_said texts s cmd o given p (was_traced target on f is rest at same e) h =
      published_state o (with_trace s f on) replies.True e (traced_said s (if on then s.traced ++ f ∷ [] else filter (λ other. not (is_same_entry f other)) s.traced) h)
  came_said texts s cmd o given p (was_released serial is retired e) h = unchanged_state o (with_released s serial) replies.Ok e (released_said s serial h)

  -- at first a state holds nothing
  pub empty_said : IsSaidState empty_state
  empty_said = record { versions = tt; keys = tt; doomed = tt; retired = tt }
