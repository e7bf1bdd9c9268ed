-- What an entry takes of the commands that are left of each loader.
use Rattle.std.proofs.Common.{◌≡◌, ◌↔◌, ℕ, zero, suc, ◌+◌, ◌<◌, ◌≤◌, ◌==◌, Bool, true, false, cond, List, [], ◌∷◌, ◌++◌, length, drop, get_or, slice_get, slice_set, unwrap_or, Option, Some, IsTrue, IfSome, refl, sym, ap, subst, ◌∙◌, ⊎_elim, arith, get_or-set_same, get_or-set_other}
use Rattle.std.specs.List.{flat_map}
use Rattle.std.proofs.lemmas.Bool.{cases_eq, cases_lt}
use Rattle.std.proofs.lemmas.List.{drop_all, length-drop}
use Rattle.std.proofs.lemmas.Bool.Decides.{Decides-eqb}
use Rattle.server_core.specs.declared.command.Cmd.{Cmd}
use Rattle.server_core.specs.declared.command.Cmd.TheVariants as cmds
use Rattle.script_core.specs.declared.script.ScriptCmd.{ScriptCmd}
use Rattle.run_log.specs.declared.logs.Entry.{Entry}
use Rattle.run_log.specs.declared.logs.Who.{Who}
use Rattle.run_log.specs.declared.logs.Who.TheVariants.{Loader}
use Rattle.run_log.specs.Journal.{is_of, entries_of, ends_one}
use Rattle.run_log.specs.Legal.{ended_by, commands_in}
use Rattle.legality.specs.Places.{AreLeft, loader_place}
use Rattle.script_core.specs.Processes.{commands_at}
use Rattle.script_core.proofs.JoinedPlaces.{got}
use Rattle.legality.proofs.ListPlaces.{drop_next, drop_begins}

-- an entry of a loader ends a command of that loader
pub commands_of_own : (loader : ℕ) (e : Entry) (journal : List Entry) → is_of loader e.who ≡ true → commands_in loader (e ∷ journal) ≡ ended_by e.cmd ++ commands_in loader journal
commands_of_own loader e journal h = ap (λ b. flat_map (λ x. ended_by x.cmd) (cond b (e ∷ entries_of loader journal) (entries_of loader journal))) h

-- and none of another
pub commands_of_other : (loader : ℕ) (e : Entry) (journal : List Entry) → is_of loader e.who ≡ false → commands_in loader (e ∷ journal) ≡ commands_in loader journal
commands_of_other loader e journal h = ap (λ b. flat_map (λ x. ended_by x.cmd) (cond b (e ∷ entries_of loader journal) (entries_of loader journal))) h

-- a command of the server that ends none
pub ends_none : (cmd : Cmd) → ends_one cmd ≡ false → ended_by cmd ≡ []
ends_none (cmds.Doom name) h = refl
ends_none (cmds.Release serial) h = refl
ends_none cmd h = cc

-- and one that ends one
pub ends_some : (cmd : Cmd) → ends_one cmd ≡ true → (command : ScriptCmd) × (ended_by cmd ≡ command ∷ [])
ends_some (cmds.Doom name) h = absurd (cc)
ends_some (cmds.Release serial) h = absurd (cc)
ends_some cmd h = (_, refl)

-- an entry that ends no command leaves all
pub leaves_all : (loader : ℕ) (e : Entry) (journal : List Entry) → ended_by e.cmd ≡ [] → commands_in loader (e ∷ journal) ≡ commands_in loader journal
leaves_all loader e journal none = by_loader (is_of loader e.who) refl
  where
    by_loader : (b : Bool) → is_of loader e.who ≡ b → commands_in loader (e ∷ journal) ≡ commands_in loader journal
    by_loader true h = commands_of_own loader e journal h ∙ ap (λ xs. xs ++ commands_in loader journal) none
    by_loader false h = commands_of_other loader e journal h

-- whose entry it is
pub is_own : (loader : ℕ) (who : Who) → who ≡ Loader loader → is_of loader who ≡ true
is_own loader who h = ap (is_of loader) h ∙ (Decides-eqb loader loader).1 refl

-- a test of a fact that does not hold
other_number : (b : Bool) (P : Type 0) → ((b ≡ true) → P) → (P → ⊥) → b ≡ false
other_number true P f n = absurd (n (f refl))
other_number false P f n = refl

-- and whose it is not
pub is_other : (k loader : ℕ) (who : Who) → who ≡ Loader loader → (k ≡ loader → ⊥) → is_of k who ≡ false
is_other k loader who h n = ap (is_of k) h ∙ other_number (loader == k) (loader ≡ k) (Decides-eqb loader k).0 (λ e. n (sym e))

-- the first of what is left of a loader is its next command
took_here : (commands : List ScriptCmd) (p : ℕ) (c : ScriptCmd) (whole rest : List ScriptCmd) → slice_get commands p ≡ Some c → whole ≡ c ∷ rest → (whole ≡ drop p commands) ↔ (rest ≡ drop (p + 1) commands)
took_here commands p c whole rest at is =
    let n = drop_next commands p c at in
    (λ h. (cc (n)), λ h. (cc (n)))

-- the next command of a loader is taken by the entry that ends it
pub took : (loaders : List (List ScriptCmd)) (places : List ℕ) (loader : ℕ) (e : Entry) (journal : List Entry) (c : ScriptCmd) → e.who ≡ Loader loader → ended_by e.cmd ≡ c ∷ [] → loader < length places
    → slice_get (commands_at loaders loader) (loader_place places loader) ≡ Some c
    → AreLeft loaders places (e ∷ journal) ↔ (IsTrue true × AreLeft loaders (slice_set places loader (loader_place places loader + 1)) journal)
took loaders places loader e journal c by is less at = (λ h. (refl, λ k. (each k).0 (h k)), λ h. λ k. (each k).1 (h.1 k))
  where
    own : commands_in loader (e ∷ journal) ≡ c ∷ commands_in loader journal
    own = commands_of_own loader e journal (is_own loader e.who by) ∙ ap (λ xs. xs ++ commands_in loader journal) is

    place_own : loader_place (slice_set places loader (loader_place places loader + 1)) loader ≡ loader_place places loader + 1
    place_own = get_or-set_same places loader (loader_place places loader + 1) 0 less

    place_other : (k : ℕ) → (k ≡ loader → ⊥) → loader_place (slice_set places loader (loader_place places loader + 1)) k ≡ loader_place places k
    place_other k n = get_or-set_other places loader k (loader_place places loader + 1) 0 n

    Each : ℕ → Type 0
    Each k = (commands_in k (e ∷ journal) ≡ drop (loader_place places k) (commands_at loaders k)) ↔ (commands_in k journal ≡ drop (loader_place (slice_set places loader (loader_place places loader + 1)) k) (commands_at loaders k))

    own_each : Each loader
    own_each =
        let P : ℕ → Type 0 = λ n. (commands_in loader (e ∷ journal) ≡ drop (loader_place places loader) (commands_at loaders loader)) ↔ (commands_in loader journal ≡ drop n (commands_at loaders loader)) in
        subst P (sym place_own) (took_here (commands_at loaders loader) (loader_place places loader) c (commands_in loader (e ∷ journal)) (commands_in loader journal) at own)

    other_each : (k : ℕ) → (k ≡ loader → ⊥) → Each k
    other_each k n =
        let o = commands_of_other k e journal (is_other k loader e.who by n) in
        (λ h. sym o ∙ h ∙ ap (λ p. drop p (commands_at loaders k)) (sym (place_other k n)), λ h. o ∙ h ∙ ap (λ p. drop p (commands_at loaders k)) (place_other k n))

    each : (k : ℕ) → Each k
    each k = ⊎_elim (λ q. subst Each (sym q) own_each) (λ n. other_each k n) (cases_eq k loader)

-- an entry that ends another command than the next one leaves none that fit
pub missed : (loaders : List (List ScriptCmd)) (places : List ℕ) (loader : ℕ) (e : Entry) (journal : List Entry) (next : Option ScriptCmd) → e.who ≡ Loader loader → ends_one e.cmd ≡ true
    → next ≡ slice_get (commands_at loaders loader) (loader_place places loader) → IfSome next (λ c. ended_by e.cmd ≡ c ∷ [] → ⊥) → AreLeft loaders places (e ∷ journal) → ⊥
missed loaders places loader e journal next by ends at other h =
    let one = ends_some e.cmd ends in
    let own = commands_of_own loader e journal (is_own loader e.who by) ∙ ap (λ xs. xs ++ commands_in loader journal) one.1 in
    let here = drop_begins (commands_at loaders loader) (loader_place places loader) one.0 (commands_in loader journal) (sym own ∙ h loader) in
    subst (λ o. IfSome o (λ c. ended_by e.cmd ≡ c ∷ [] → ⊥)) (at ∙ here) other one.1

-- so the answer is no
pub not_next : (loaders : List (List ScriptCmd)) (places : List ℕ) (loader : ℕ) (e : Entry) (next : Option ScriptCmd) → e.who ≡ Loader loader → ends_one e.cmd ≡ true
    → next ≡ slice_get (commands_at loaders loader) (loader_place places loader) → IfSome next (λ c. ended_by e.cmd ≡ c ∷ [] → ⊥)
    → (journal : List Entry) → AreLeft loaders places (e ∷ journal) ↔ (IsTrue false × AreLeft loaders places journal)
not_next loaders places loader e next by ends at other journal = (λ h. absurd (missed loaders places loader e journal next by ends at other h), λ h. absurd (cc (h.0)))

-- beyond the loaders there are no commands
pub none_beyond : (loaders : List (List ScriptCmd)) (k : ℕ) → length loaders ≤ k → commands_at loaders k ≡ []
none_beyond [] k more = refl
none_beyond (commands ∷ loaders) zero more = absurd (omega (arith, more))
none_beyond (commands ∷ loaders) (suc k) more = none_beyond loaders k (omega (arith, more))

-- where each loader's commands were taken, none is left
pub all_taken : (loaders : List (List ScriptCmd)) (places : List ℕ) → ((k : ℕ) → k < length loaders → length (commands_at loaders k) ≤ loader_place places k) → AreLeft loaders places []
all_taken loaders places taken k = ⊎_elim (λ less. sym (drop_all (loader_place places k) (commands_at loaders k) (taken k less))) past (cases_lt k (length loaders))
  where
    past : length loaders ≤ k → [] ≡ drop (loader_place places k) (commands_at loaders k)
    past more = let e = none_beyond loaders k more in sym (drop_all (loader_place places k) (commands_at loaders k) (omega (arith, ap length e)))

-- the commands of a loader that is there
pub commands_there : (loaders : List (List ScriptCmd)) (k : ℕ) (commands : List ScriptCmd) → commands ≡ get_or loaders k commands → k < length loaders → commands_at loaders k ≡ commands
commands_there loaders k commands is less = ap (λ o. unwrap_or o []) (got loaders k commands is less)

-- where one was not, some are left
pub some_left : (loaders : List (List ScriptCmd)) (places : List ℕ) (k : ℕ) (commands : List ScriptCmd) → commands ≡ get_or loaders k commands → k < length loaders → loader_place places k < length commands → AreLeft loaders places [] → ⊥
some_left loaders places k commands is less short h =
    let e = commands_there loaders k commands is less in
    omega (arith, ap length (h k), ap length e, length-drop (loader_place places k) (commands_at loaders k))

-- one more loader's commands were taken
pub one_taken : (loaders : List (List ScriptCmd)) (places : List ℕ) (i : ℕ) (commands : List ScriptCmd) → commands ≡ get_or loaders i commands → i < length loaders → length commands ≤ loader_place places i
    → ((k : ℕ) → k < i → length (commands_at loaders k) ≤ loader_place places k) → (k : ℕ) → k < i + 1 → length (commands_at loaders k) ≤ loader_place places k
one_taken loaders places i commands is less long before k below =
    ⊎_elim (λ q. subst (λ n. length (commands_at loaders n) ≤ loader_place places n) (sym q) (let e = commands_there loaders i commands is less in omega (arith, ap length e))) (λ n. before k (omega (arith, n))) (cases_eq k i)

-- at the start each loader is at its first command
pub begins_with_all : (loaders : List (List ScriptCmd)) (places : List ℕ) (journal : List Entry) → ((k : ℕ) → loader_place places k ≡ 0) → ((loader : ℕ) → commands_in loader journal ≡ commands_at loaders loader) ↔ AreLeft loaders places journal
begins_with_all loaders places journal first = (λ h. λ k. h k ∙ ap (λ n. drop n (commands_at loaders k)) (sym (first k)), λ h. λ k. h k ∙ ap (λ n. drop n (commands_at loaders k)) (first k))
