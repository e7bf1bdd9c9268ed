-- A table that agrees with a server follows each command that it makes, and agrees with it again.
use Rattle.std.proofs.Common.{◌≡◌, ℕ, ◌==◌, ◌||◌, ◌&&◌, nat_eq, nat_lt, Bool, true, false, cond, List, [], ◌∷◌, ◌++◌, length, Option, Some, None, IsSome, is_some, is_none, option_map, option_and_then, unwrap_or, drop, get_or, ◌+◌, ◌-◌, ◌<◌, ◌≤◌, slice_get, length-append, if◌then◌else◌, refl, sym, ap, subst, ◌∙◌, arith}
use Rattle.std.proofs.lemmas.Bool.{eqb-true, false≢true, lt-ltb}
use Rattle.std.proofs.lemmas.Bool.Decides.{nat_tests}
use Rattle.std.proofs.lemmas.List.{drop_more}
use Rattle.std.proofs.lemmas.Option.{none-some, same_Some}
use Rattle.std.specs.List.{AllByRecursion, list_any}
use Rattle.mod_core.specs.declared.code.Module.{Module}
use Rattle.server_core.specs.declared.command.Applied.{Applied}
use Rattle.server_core.specs.declared.command.Cmd.{Cmd}
use Rattle.server_core.specs.declared.command.Cmd.TheVariants.{Doom, Put, Erase, Trace}
use Rattle.server_core.specs.declared.command.ModRef.{ModRef}
use Rattle.server_core.specs.ServerState.{ServerState, Versions, current_among, current_of, old_among, old_of}
use Rattle.server_core.specs.CommandTable.{Outcome, apply_of, names_of, not_purged, repeated_after, text_of, texts_of, with_all, with_loaded, with_versions}
use Rattle.server_core.proofs.Changes.{Came, as_before, came, came_in, was_deleted, was_doomed, was_erased, was_purged, was_put, was_released, was_soft_purged, was_traced}
use Rattle.server_core.proofs.CommandLaws.{put_keeps}
use Rattle.server_core.proofs.Soundness as server
use Rattle.module_table.specs.Modules.{ModuleInstances, Modules, current_in, old_in, with_instances, with_promoted}
use Rattle.module_table.proofs.Instances as table
use Rattle.run_log.specs.declared.logs.Entry.{Entry}
use Rattle.script_core.proofs.JoinedPlaces.{get_behind}
use Rattle.write_permit.specs.Agreement.{AgreesWithServer, CanFollow, CanFollowNewest, CanPromote, all_promoted, followed, new_modules, newest_followed, newest_of}

-- the same, where the server's versions alone are read
record AgreesIn (ms : List ModuleInstances) (vs : List Versions) : Type 0 where
  current : (name : ℕ) → current_in ms name ≡ current_among vs name
  old : (name : ℕ) → old_in ms name ≡ old_among vs name

within : (ms : List ModuleInstances) (s : ServerState) → AgreesWithServer ms s → AgreesIn ms s.versions
within ms s a = record { current = a.current; old = a.old }

-- a state with these versions agrees where they do
agrees_by : (ms : List ModuleInstances) (vs : List Versions) (t : ServerState) → t.versions ≡ vs → AgreesIn ms vs → AgreesWithServer ms t
agrees_by ms vs t e a = record {
  current = λ name. a.current name ∙ ap (λ x. current_among x name) (sym e);
  old = λ name. a.old name ∙ ap (λ x. old_among x name) (sym e);
}

-- one module's instances change in both
set_agrees : (ms : List ModuleInstances) (vs : List Versions) (name : ℕ) (c d o p : Option ℕ) → c ≡ d → o ≡ p → AgreesIn ms vs
    → AgreesIn (with_instances ms (record { name = name; current = c; old = o })) (with_versions vs (record { name = name; current = d; old = p }))
set_agrees ms vs name c d o p e f a = record {
  current = λ k. table.current_set ms (record { name = name; current = c; old = o }) k ∙ (λ i. cond (nat_eq k name) (e i) (a.current k i)) ∙ sym (server.current_set vs (record { name = name; current = d; old = p }) k);
  old = λ k. table.old_set ms (record { name = name; current = c; old = o }) k ∙ (λ i. cond (nat_eq k name) (f i) (a.old k i)) ∙ sym (server.old_set vs (record { name = name; current = d; old = p }) k);
}

-- ---- what a load asks of its list

-- none of these modules has this name
abbrev NoneNamed : ℕ → List ModRef → Type 0
NoneNamed name refs = AllByRecursion (λ (r : ModRef). (r.name.0 == name) ≡ false) refs

-- no two of them have one name
abbrev AreApart : List ModRef → Type 0
AreApart [] = Unit {0}
AreApart (r ∷ refs) = NoneNamed r.name.0 refs × AreApart refs

-- none of them has old code
abbrev HaveNoOld : List Versions → List ModRef → Type 0
HaveNoOld vs refs = AllByRecursion (λ (r : ModRef). old_among vs r.name.0 ≡ None) refs

-- the modules are those of the list, by their names
abbrev AreNamed : List ModRef → List Module → Type 0
AreNamed [] [] = Unit {0}
AreNamed [] (m ∷ ms) = ⊥
AreNamed (r ∷ refs) [] = ⊥
AreNamed (r ∷ refs) (m ∷ ms) = (m.name.0 ≡ r.name.0) × AreNamed refs ms

either_false : (a b : Bool) → (a || b) ≡ false → (a ≡ false) × (b ≡ false)
either_false true b h = absurd (false≢true (sym h))
either_false false b h = (refl, h)

any_behind : (n : ℕ) (before : List ℕ) (k : ℕ) → list_any (λ x. n == x) (before ++ k ∷ []) ≡ false → (list_any (λ x. n == x) before ≡ false) × ((n == k) ≡ false)
any_behind n [] k h = (refl, (either_false (n == k) false h).0)
any_behind n (x ∷ before) k h =
    let e = either_false (n == x) (list_any (λ y. n == y) (before ++ k ∷ [])) h in
    let rest = any_behind n before k e.1 in
    (ap (λ b. b || list_any (λ y. n == y) before) e.0 ∙ rest.0, rest.1)

-- none of these names is among those before
abbrev NoneBefore : List ℕ → List ModRef → Type 0
NoneBefore before refs = AllByRecursion (λ (r : ModRef). list_any (λ n. r.name.0 == n) before ≡ false) refs

later_parts : (before : List ℕ) (k : ℕ) (refs : List ModRef) → NoneBefore (before ++ k ∷ []) refs → NoneBefore before refs × NoneNamed k refs
later_parts before k [] h = (tt, tt)
later_parts before k (r ∷ refs) h =
    let e = any_behind r.name.0 before k h.0 in
    let rest = later_parts before k refs h.1 in
    ((e.0, rest.0), (e.1, rest.1))

once_apart : (before : List ℕ) (refs : List ModRef) → repeated_after before (names_of refs) ≡ None → NoneBefore before refs × AreApart refs
once_apart before [] h = (tt, tt)
once_apart before (r ∷ refs) h = by (list_any (λ n. r.name.0 == n) before) refl (once_apart (before ++ r.name.0 ∷ []) refs) h
  where
    by : (b : Bool) → list_any (λ n. r.name.0 == n) before ≡ b → (repeated_after (before ++ r.name.0 ∷ []) (names_of refs) ≡ None → NoneBefore (before ++ r.name.0 ∷ []) refs × AreApart refs)
        → (if b then Some r.name else repeated_after (before ++ r.name.0 ∷ []) (names_of refs)) ≡ None → NoneBefore before (r ∷ refs) × AreApart (r ∷ refs)
    by true e more h = absurd (none-some r.name (sym h))
    by false e more h =
        let rest = more h in
        let parts = later_parts before r.name.0 refs rest.0 in
        ((e, parts.0), (parts.1, rest.1))

no_old : (s : ServerState) (refs : List ModRef) → nat_lt 0 (length (not_purged s refs)) ≡ false → HaveNoOld s.versions refs
no_old s [] h = tt
no_old s (r ∷ refs) h = by (old_of s r.name.0) refl (no_old s refs) h
  where
    by : (o : Option ℕ) → old_of s r.name.0 ≡ o → (nat_lt 0 (length (not_purged s refs)) ≡ false → HaveNoOld s.versions refs) → nat_lt 0 (length (cond (is_some o) (r.name ∷ not_purged s refs) (not_purged s refs))) ≡ false → HaveNoOld s.versions (r ∷ refs)
    by None e more h = (e, more h)
    by (Some serial) e more h = absurd (false≢true (sym h ∙ lt-ltb 0 (length (r.name ∷ not_purged s refs)) (omega arith)))

first_of : (a b : Bool) → (a && b) ≡ true → a ≡ true
first_of true b h = refl
first_of false b h = h

-- a text that is found has the name that was looked for
found_named : (texts : List Module) (r : ModRef) (m : Module) → text_of texts r ≡ Some m → m.name.0 ≡ r.name.0
found_named [] r m h = absurd (none-some m h)
found_named (t ∷ texts) r m h = by (t.name.0 == r.name.0 && t.version == r.version) refl (found_named texts r m) h
  where
    by : (b : Bool) → (t.name.0 == r.name.0 && t.version == r.version) ≡ b → (text_of texts r ≡ Some m → m.name.0 ≡ r.name.0) → cond b (Some t) (text_of texts r) ≡ Some m → m.name.0 ≡ r.name.0
    by true e more h =
        let same : t ≡ m = same_Some t m h in
        sym (ap (λ (x : Module). x.name.0) same) ∙ eqb-true t.name.0 r.name.0 (first_of (t.name.0 == r.name.0) (t.version == r.version) e)
    by false e more h = more h

modules_named : (texts : List Module) (refs : List ModRef) (modules : List Module) → texts_of texts refs ≡ Some modules → AreNamed refs modules
modules_named texts [] modules h = subst (AreNamed []) (same_Some [] modules h) tt
modules_named texts (r ∷ refs) modules h = by (text_of texts r) refl (texts_of texts refs) refl (modules_named texts refs) h
  where
    by : (o : Option Module) → text_of texts r ≡ o → (p : Option (List Module)) → texts_of texts refs ≡ p → ((ms : List Module) → texts_of texts refs ≡ Some ms → AreNamed refs ms)
        → option_and_then (λ m. option_map (λ ms. m ∷ ms) p) o ≡ Some modules → AreNamed (r ∷ refs) modules
    by None e p f more h = absurd (none-some modules h)
    by (Some m) e None f more h = absurd (none-some modules h)
    by (Some m) e (Some ms) f more h = subst (AreNamed (r ∷ refs)) (same_Some (m ∷ ms) modules h) (found_named texts r m e, more ms f)

-- ---- modules come in one after another

-- what a load leaves of a module that it does not name
current_kept : (refs : List ModRef) (ms : List Module) (s : ServerState) (k : ℕ) → AreNamed refs ms → NoneNamed k refs → current_of (with_all s ms) k ≡ current_of s k
current_kept [] [] s k named none = refl
current_kept [] (m ∷ ms) s k named none = absurd named
current_kept (r ∷ refs) [] s k named none = absurd named
current_kept (r ∷ refs) (m ∷ ms) s k named none =
    let other : nat_eq k m.name.0 ≡ false = let e = none.0 in let f = named.0 in grind (arith, nat_tests) in
    current_kept refs ms (with_loaded s m) k named.1 none.1
    ∙ server.current_set s.versions (record { name = m.name.0; current = Some s.next_serial; old = current_of s m.name.0 }) k
    ∙ ap (λ b. cond b (Some s.next_serial) (current_of s k)) other

old_still : (refs : List ModRef) (s : ServerState) (m : Module) (name : ℕ) → m.name.0 ≡ name → NoneNamed name refs → HaveNoOld s.versions refs → HaveNoOld (with_loaded s m).versions refs
old_still [] s m name is none h = tt
old_still (r ∷ refs) s m name is none h =
    let other : nat_eq r.name.0 m.name.0 ≡ false = let e = none.0 in grind (arith, nat_tests) in (
      server.old_set s.versions (record { name = m.name.0; current = Some s.next_serial; old = current_of s m.name.0 }) r.name.0
          ∙ ap (λ b. cond b (current_of s m.name.0) (old_of s r.name.0)) other
          ∙ h.0,
      old_still refs s m name is none.1 h.1,
    )

-- the table after a load, and that each module can become current
record AllFollow (ms : List ModuleInstances) (t : ServerState) (vs : List Versions) (refs : List ModRef) : Type 0 where
  can : CanPromote ms t refs
  agrees : AgreesIn (all_promoted ms t refs) vs

loads_follow : (refs : List ModRef) (modules : List Module) (ms : List ModuleInstances) (s t : ServerState) → AreNamed refs modules → AreApart refs → HaveNoOld s.versions refs → AgreesIn ms s.versions → t.versions ≡ (with_all s modules).versions
    → AllFollow ms t (with_all s modules).versions refs
loads_follow [] [] ms s t named apart none a is = record { can = tt; agrees = a }
loads_follow [] (m ∷ modules) ms s t named apart none a is = absurd named
loads_follow (r ∷ refs) [] ms s t named apart none a is = absurd named
loads_follow (r ∷ refs) (m ∷ modules) ms s t named apart none a is =
    let new : Versions = record { name = m.name.0; current = Some s.next_serial; old = current_of s m.name.0 } in
    let same : nat_eq r.name.0 m.name.0 ≡ true = let f = named.0 in grind (arith, nat_tests) in
    let serial : current_of t r.name.0 ≡ Some s.next_serial =
    ap (λ vs. current_among vs r.name.0) is
    ∙ current_kept refs modules (with_loaded s m) r.name.0 named.1 apart.0
    ∙ server.current_set s.versions new r.name.0
    ∙ ap (λ b. cond b (Some s.next_serial) (current_of s r.name.0)) same in
    let number : unwrap_or (current_of t r.name.0) 0 ≡ s.next_serial = ap (λ o. unwrap_or o 0) serial in
    let before : current_in ms r.name.0 ≡ current_of s m.name.0 = a.current r.name.0 ∙ ap (current_of s) (sym named.0) in
    let first : AgreesIn (with_promoted ms r.name.0 (unwrap_or (current_of t r.name.0) 0)) (with_loaded s m).versions =
    subst (λ n. AgreesIn (with_promoted ms r.name.0 (unwrap_or (current_of t r.name.0) 0)) (with_versions s.versions (record { name = n; current = Some s.next_serial; old = current_of s m.name.0 }))) (sym named.0)
    (set_agrees ms s.versions r.name.0 (Some (unwrap_or (current_of t r.name.0) 0)) (Some s.next_serial) (current_in ms r.name.0) (current_of s m.name.0) (ap Some number) before a) in
    let rest = loads_follow refs modules (with_promoted ms r.name.0 (unwrap_or (current_of t r.name.0) 0)) (with_loaded s m) t named.1 apart.1 (old_still refs s m r.name.0 named.0 apart.0 none.1) first is in
    record { can = (a.old r.name.0 ∙ none.0, ap is_some serial, rest.can); agrees = rest.agrees }

-- ---- each command that publishes

-- the table can follow a command, and then agrees with the state that it led to
pub record Follows (ms : List ModuleInstances) (t : ServerState) (cmd : Cmd) : Type 0 where
  pub can : CanFollow ms t cmd
  pub agrees : AgreesWithServer (followed ms t cmd) t

is_there : (o : Option ℕ) → is_none o ≡ false → IsSome o
is_there None h = absurd (false≢true (sym h))
is_there (Some x) h = refl

none_there : (o : Option ℕ) → is_some o ≡ false → o ≡ None
none_there None h = refl
none_there (Some x) h = absurd (false≢true (sym h))

-- a command that changes no versions, and that the table ignores
kept_follows : (ms : List ModuleInstances) (s t : ServerState) (cmd : Cmd) → AgreesWithServer ms s → CanFollow ms t cmd → followed ms t cmd ≡ ms → t.versions ≡ s.versions → Follows ms t cmd
kept_follows ms s t cmd a can same e = record { can = can; agrees = subst (λ x. AgreesWithServer x t) (sym same) (agrees_by ms s.versions t e (within ms s a)) }

not_published : {A : Type 0} (o : Outcome) (x : Option ℕ) → IsSome x → x ≡ None → A
not_published o x some none = absurd (false≢true (sym (ap is_some none) ∙ some))

came_follows : (texts : List Module) (ms : List ModuleInstances) (s : ServerState) (cmd : Cmd) (o : Outcome) → AgreesWithServer ms s → Came texts s cmd o → IsSome o.answer.published → Follows ms o.state cmd
came_follows texts ms s cmd o a (as_before reply e) some = not_published o o.answer.published some (ap (λ x. x.answer.published) e)
came_follows texts ms s cmd o a (was_released serial is retired e) some = not_published o o.answer.published some (ap (λ x. x.answer.published) e)
came_follows texts ms s cmd o a (came_in refs modules is rest comes e) some =
    let f = loads_follow refs modules ms s o.state (modules_named texts refs modules comes.given) (once_apart [] refs comes.once).1 (no_old s refs comes.purged) (within ms s a) (ap (λ x. x.state.versions) e) in
    subst (Follows ms o.state) (sym is) (record { can = f.can; agrees = agrees_by (all_promoted ms o.state refs) (with_all s modules).versions o.state (ap (λ x. x.state.versions) e) f.agrees })
came_follows texts ms s cmd o a (was_deleted name is rest old current e) some =
    subst (Follows ms o.state) (sym is) (record {
      can = (a.old name.0 ∙ none_there (old_of s name.0) old, subst IsSome (sym (a.current name.0)) (is_there (current_of s name.0) current));
      agrees = agrees_by _ _ o.state (ap (λ x. x.state.versions) e) (set_agrees ms s.versions name.0 None None (current_in ms name.0) (current_of s name.0) refl (a.current name.0) (within ms s a));
    })
came_follows texts ms s cmd o a (was_soft_purged name serial is rest old e) some =
    subst (Follows ms o.state) (sym is) (record {
      can = ap is_some (a.old name.0 ∙ old);
      agrees = agrees_by _ _ o.state (ap (λ x. x.state.versions) e) (set_agrees ms s.versions name.0 (current_in ms name.0) (current_of s name.0) None None (a.current name.0) refl (within ms s a));
    })
came_follows texts ms s cmd o a (was_purged name killed serial is doomed old e) some =
    subst (Follows ms o.state) (sym is) (record {
      can = ap is_some (a.old name.0 ∙ old);
      agrees = agrees_by _ _ o.state (ap (λ x. x.state.versions) e) (set_agrees ms s.versions name.0 (current_in ms name.0) (current_of s name.0) None None (a.current name.0) refl (within ms s a));
    })
came_follows texts ms s cmd o a (was_doomed name serial is rest old e) some = subst (Follows ms o.state) (sym is) (kept_follows ms s o.state (Doom name) a tt refl (ap (λ x. x.state.versions) e))
came_follows texts ms s cmd o a (was_put key term is rest put e) some =
    subst (Follows ms o.state) (sym is) (kept_follows ms s o.state (Put key term) a tt refl (ap (λ x. x.state.versions) e ∙ put_keeps (λ x. x.versions) s key.0 _ s.versions refl refl))
came_follows texts ms s cmd o a (was_erased key p is rest held e) some = subst (Follows ms o.state) (sym is) (kept_follows ms s o.state (Erase key) a tt refl (ap (λ x. x.state.versions) e))
came_follows texts ms s cmd o a (was_traced target on at is rest found other e) some = subst (Follows ms o.state) (sym is) (kept_follows ms s o.state (Trace target on) a tt refl (ap (λ x. x.state.versions) e))

-- a table follows a command that published
pub follows : (texts : List Module) (ms : List ModuleInstances) (s : ServerState) (cmd : Cmd) (o : Outcome) → AgreesWithServer ms s → apply_of texts s cmd ≡ Some o → IsSome o.answer.published → Follows ms o.state cmd
follows texts ms s cmd o a applied some = came_follows texts ms s cmd o a (came texts s cmd o applied) some

unpublished_same : (texts : List Module) (s : ServerState) (cmd : Cmd) (o : Outcome) → Came texts s cmd o → o.answer.published ≡ None → o.state.versions ≡ s.versions
unpublished_same texts s cmd o (as_before reply e) none = ap (λ x. x.state.versions) e
unpublished_same texts s cmd o (was_released serial is retired e) none = ap (λ x. x.state.versions) e
unpublished_same texts s cmd o (came_in refs modules is rest comes e) none = absurd (none-some _ (sym none ∙ ap (λ x. x.answer.published) e))
unpublished_same texts s cmd o (was_deleted name is rest old current e) none = absurd (none-some _ (sym none ∙ ap (λ x. x.answer.published) e))
unpublished_same texts s cmd o (was_soft_purged name serial is rest old e) none = absurd (none-some _ (sym none ∙ ap (λ x. x.answer.published) e))
unpublished_same texts s cmd o (was_doomed name serial is rest old e) none = absurd (none-some _ (sym none ∙ ap (λ x. x.answer.published) e))
unpublished_same texts s cmd o (was_purged name killed serial is doomed old e) none = absurd (none-some _ (sym none ∙ ap (λ x. x.answer.published) e))
unpublished_same texts s cmd o (was_put key term is rest put e) none = absurd (none-some _ (sym none ∙ ap (λ x. x.answer.published) e))
unpublished_same texts s cmd o (was_erased key p is rest held e) none = absurd (none-some _ (sym none ∙ ap (λ x. x.answer.published) e))
unpublished_same texts s cmd o (was_traced target on at is rest found other e) none = absurd (none-some _ (sym none ∙ ap (λ x. x.answer.published) e))

-- and it agrees as it is after one that did not
pub still_agrees : (texts : List Module) (ms : List ModuleInstances) (s : ServerState) (cmd : Cmd) (o : Outcome) → AgreesWithServer ms s → apply_of texts s cmd ≡ Some o → o.answer.published ≡ None → AgreesWithServer ms o.state
still_agrees texts ms s cmd o a applied none = agrees_by ms s.versions o.state (unpublished_same texts s cmd o (came texts s cmd o applied) none) (within ms s a)

-- ---- the loop over a load's list

-- what is known of the next module of the list, and what becoming current leaves
pub record PromotedNext (ms : List ModuleInstances) (t : ServerState) (refs : List ModRef) (i : ℕ) (name : ℕ) : Type 0 where
  pub old : old_in ms name ≡ None
  pub current : IsSome (current_of t name)
  pub rest : CanPromote (with_promoted ms name (unwrap_or (current_of t name) 0)) t (drop (i + 1) refs)
  pub same : all_promoted (with_promoted ms name (unwrap_or (current_of t name) 0)) t (drop (i + 1) refs) ≡ all_promoted ms t (drop i refs)

pub promoted_next : (ms : List ModuleInstances) (t : ServerState) (refs : List ModRef) (i : ℕ) (d : ModRef) → i < length refs → CanPromote ms t (drop i refs) → PromotedNext ms t refs i (get_or refs i d).name.0
promoted_next ms t refs i d within can =
    let e = drop_more refs i d within in
    let c : CanPromote ms t (get_or refs i d ∷ drop (i + 1) refs) = subst (CanPromote ms t) e can in
    record { old = c.0; current = c.1; rest = c.2; same = ap (all_promoted ms t) (sym e) }

-- the same, by the serial that the server gives
pub promoted_rest : (ms after : List ModuleInstances) (t : ServerState) (refs : List ModRef) (i name serial : ℕ) → PromotedNext ms t refs i name → current_of t name ≡ Some serial → after ≡ with_promoted ms name serial
    → CanPromote after t (drop (i + 1) refs) × (all_promoted after t (drop (i + 1) refs) ≡ all_promoted ms t (drop i refs))
promoted_rest ms after t refs i name serial next is put =
    let e : with_promoted ms name (unwrap_or (current_of t name) 0) ≡ after = ap (λ o. with_promoted ms name (unwrap_or o 0)) is ∙ sym put in
    (subst (λ x. CanPromote x t (drop (i + 1) refs)) e next.rest, ap (λ x. all_promoted x t (drop (i + 1) refs)) (sym e) ∙ next.same)

-- the server has a serial where it is said to have one
pub no_serial : (o : Option ℕ) → IsSome o → None ≡ o → ⊥
no_serial o some none = absurd (false≢true (ap is_some none ∙ some))

-- ---- the newest entry

pub newest_last : (journal : List Entry) (e : Entry) → newest_of (journal ++ e ∷ []) ≡ Some e
newest_last journal e =
    let n : length (journal ++ e ∷ []) - 1 ≡ length journal + 0 = omega (arith, length-append journal (e ∷ [])) in
    ap (slice_get (journal ++ e ∷ [])) n ∙ get_behind journal (e ∷ []) 0

-- what the table owes to the newest entry, and what it is after it
pub record NewestFollows (table : Modules) (t : ServerState) (journal : List Entry) : Type 0 where
  pub can : CanFollowNewest table t (newest_of journal)
  pub agrees : AgreesWithServer (newest_followed table.instances t (newest_of journal)) t

pub newest_follows : (texts : List Module) (table : Modules) (s t : ServerState) (answer : Applied) (cmd : Cmd) (journal longer : List Entry) (e : Entry) → AgreesWithServer table.instances s → apply_of texts s cmd ≡ Some (record { state = t; answer = answer })
    → new_modules cmd ≤ table.room → e.cmd ≡ cmd → e.published ≡ answer.published → longer ≡ journal ++ e ∷ [] → NewestFollows table t longer
newest_follows texts table s t answer cmd journal longer e a applied room is told more = subst (NewestFollows table t) (sym more) (by (e.published) refl)
  where
    o : Outcome
    o = record { state = t; answer = answer }

    last : newest_of (journal ++ e ∷ []) ≡ Some e
    last = newest_last journal e

    with_newest : CanFollowNewest table t (Some e) → AgreesWithServer (newest_followed table.instances t (Some e)) t → NewestFollows table t (journal ++ e ∷ [])
    with_newest can agrees = record { can = subst (CanFollowNewest table t) (sym last) can; agrees = subst (λ n. AgreesWithServer (newest_followed table.instances t n) t) (sym last) agrees }

    by : (published : Option ℕ) → e.published ≡ published → NewestFollows table t (journal ++ e ∷ [])
    by None none =
        with_newest (λ some. absurd (false≢true (sym (ap is_some none) ∙ some)))
        (subst (λ p. AgreesWithServer (if is_some p then followed table.instances t e.cmd else table.instances) t) (sym none) (still_agrees texts table.instances s cmd o a applied (sym told ∙ none)))
    by (Some k) some =
        let f = follows texts table.instances s cmd o a applied (ap is_some (sym told ∙ some)) in
        with_newest (λ there. (subst (CanFollow table.instances t) (sym is) f.can, subst (λ c. new_modules c ≤ table.room) (sym is) room))
        (subst (λ p. AgreesWithServer (if is_some p then followed table.instances t e.cmd else table.instances) t) (sym some) (subst (λ c. AgreesWithServer (followed table.instances t c) t) (sym is) f.agrees))
