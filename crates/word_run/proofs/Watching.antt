-- The observers of a run: as it begins, over a round, and at its end.
use Rattle.std.proofs.Common.{◌≡◌, ◌⊎◌, inl, inr, ℕ, suc, ◌+◌, ◌<◌, ◌≤◌, add-one, All, List, [], ◌∷◌, ◌++◌, length, length-append, drop, Some, slice_get, IsOk, OnOk, sym, ap, subst, ◌∙◌, arith}
use mathlib.Core.Logic.{dite}
use native.Mathlib.Decide.{ℕ_discrete}
use Rattle.std.proofs.lemmas.Option.{none-some, same_Some, slice_get_within}
use Rattle.std.proofs.lemmas.Result.{on_ok_weaker}
use Rattle.atomic_table.specs.Seated.{TableId}
use Rattle.area_core.specs.declared.table.Published.{Published}
use Rattle.term_core.specs.declared.atom.Mfa.{Mfa}
use Rattle.shared_words.specs.declared.seats.Watcher as watching
use Rattle.shared_words.specs.Making.{AreWatchersBegun, IsWatcherBegun}
use Rattle.shared_words.specs.Rule.{IsBeginning}
use Rattle.progress_words.specs.Tokens.{watched_by}
use Rattle.script_core.specs.declared.script.Script.{Script}
use Rattle.run_log.specs.declared.logs.RunLog.{RunLog}
use Rattle.run_log.specs.declared.logs.Snapshot.{Snapshot}
use Rattle.run_log.specs.ExportedFunctions.{AreExportedFunctions}
use Rattle.run_log.proofs.ListPlaces.{get_within}
use Rattle.run_law.specs.Observing.{HaveWatched}
use Rattle.observers.specs.declared.observer.Observer.{Observer}
use Rattle.observers.specs.Laws.{ObserversBegin}
use Rattle.observers.specs.Observing.{HasLooked, Observes}
use Rattle.word_run.specs.declared.onlooker.Onlooker.{Onlooker}
use Rattle.word_run.specs.Onlookers.{AddsLeft, AreOnlookers, AreWaiting, HadLook, HasLeft, HaveLeft, IsWaiting, taken_in_all}
use Rattle.word_run.specs.Places.{EachBecame}
use Rattle.word_run.proofs.Joined.{dropped_next, joined_at}
use Rattle.word_run.proofs.RoundSeats.{all_places, if_ok, on_if}

-- ---- lists

-- so it is with each, by another name of the list
pub all_lent : {X : Type 0} (P : X → Type 0) (xs lent : List X) → lent ≡ xs → All P xs → All P lent
all_lent {X} P xs lent is h = subst (λ (ys : List X). All P ys) (sym is) h

-- ---- a look

-- a look leaves the count of all snapshots that an observer takes
taken_counted : (names : List Mfa) (old new : Observer) → HasLooked names old new → taken_in_all new ≡ taken_in_all old
taken_counted names old new looked =
    dite (ℕ_discrete old.left 0)
    (λ (none : old.left ≡ 0).
    let h = looked.1 none in
    let same = ap length h.1 in
    omega (arith, none, h.0, same))
    (λ (some : old.left ≡ 0 → ⊥).
    let h = looked.0 (omega (arith, some)) in
    let more = ap length h.shots in
    omega (arith, h.left, more, length-append old.shots (h.shot ∷ [])))

module _ (names functions : List Mfa) (table : TableId) where
  -- a look as its answer tells of it
  pub had_look : (before after : Onlooker) → OnOk after.answer (Observes names functions table after.observer) → OnOk after.answer (HasLooked names before.observer after.observer) → HadLook names functions table before after
  had_look before after observes looked = record {
    looked = on_if (HasLooked names before.observer after.observer) after.answer looked;
    observes = on_if (Observes names functions table after.observer) after.answer observes;
    counted = on_if (taken_in_all after.observer ≡ taken_in_all before.observer) after.answer (on_ok_weaker after.answer (taken_counted names before.observer after.observer) looked);
  }

  -- ---- a round

  module _ (counts : List ℕ) where
    -- they may look
    pub onlookers_observe : (onlookers : List Onlooker) → AreOnlookers names functions table counts onlookers → (k : ℕ) (o : Onlooker) → slice_get onlookers k ≡ Some o → Observes names functions table o.observer
    onlookers_observe onlookers are k o at =
        let count = get_within counts k (omega (arith, slice_get_within onlookers k o at, are.many)) in
        (are.each k count.0 o count.1 at).observes

    pub onlookers_go : (onlookers : List Onlooker) → AreOnlookers names functions table counts onlookers → All (λ (o : Onlooker). Observes names functions table o.observer) onlookers
    onlookers_go onlookers are = all_places (λ (o : Onlooker). Observes names functions table o.observer) onlookers (onlookers_observe onlookers are)

    -- each looked, and none met want of memory
    pub onlookers_kept : (before after lent : List Onlooker) → lent ≡ after → EachBecame (HadLook names functions table) before after → AreOnlookers names functions table counts before
        → ((k : ℕ) (o : Onlooker) → slice_get lent k ≡ Some o → IsOk o.answer) → AreOnlookers names functions table counts after
    onlookers_kept before after lent lent_is became are lent_ok = record {
      many = became.many ∙ are.many;
      each = λ number count o count_at at.
          let there = get_within before number (omega (arith, slice_get_within after number o at, became.many)) in
          let was = are.each number count there.0 count_at there.1 in
          let had = became.each number there.0 o there.1 at in
          let fine = lent_ok number o (ap (λ (xs : List Onlooker). slice_get xs number) lent_is ∙ at) in
          record {
            observes = if_ok (Observes names functions table o.observer) o.answer fine had.observes;
            counted = if_ok (taken_in_all o.observer ≡ taken_in_all there.0.observer) o.answer fine had.counted ∙ was.counted;
          };
    }

  -- the same observers of the same lines, over the same words
  pub onlookers_as : (fresh : TableId) (counts lines : List ℕ) (onlookers others : List Onlooker) → fresh ≡ table → lines ≡ counts → others ≡ onlookers
      → AreOnlookers names functions table counts onlookers → AreOnlookers names functions fresh lines others
  onlookers_as fresh counts lines onlookers others t c o h =
      subst (λ (x : TableId). AreOnlookers names functions x lines others) (sym t)
      (subst (λ (ns : List ℕ). AreOnlookers names functions table ns others) (sym c)
      (subst (λ (xs : List Onlooker). AreOnlookers names functions table counts xs) (sym o) h))

  -- ---- as a run begins

  -- with the tokens of watchers that made no step they observe
  pub waiting_observe : ObserversBegin → (count : ℕ) (watchers : List watching.Watcher) → AreWatchersBegun table count watchers → (counts lines : List ℕ) → lines ≡ counts → length counts ≤ count
      → (onlookers : List Onlooker) → AreWaiting lines watchers onlookers → AreOnlookers names functions table counts onlookers
  waiting_observe law count watchers begun counts lines lines_are enough onlookers waits = record {
    many = waits.many ∙ ap length lines_are;
    each = λ number c o c_at at.
        let low = slice_get_within counts number c c_at in
        let token = get_within watchers number (omega (arith, low, enough, begun.all)) in
        let w = waits.each number c token.0 o (ap (λ (ns : List ℕ). slice_get ns number) lines_are ∙ c_at) token.1 at in
        let none = ap length w.none in
        let v = o.observer in
        let begun_observer : Observes names functions table (record { watcher = v.watcher; left = v.left; shots = [] }) = law names functions table number v.left v.watcher (subst (IsWatcherBegun table number) (sym w.watcher_is) (begun.each number token.0 token.1)) in
        record {
          observes = subst (λ (shots : List Snapshot). Observes names functions table (record { watcher = v.watcher; left = v.left; shots = shots })) (sym w.none) begun_observer;
          counted = omega (arith, w.left, none);
        };
  }

  -- ---- at the end of a run

  module _ (onlookers : List Onlooker) (o : Onlooker) (watchers watchers_after : List watching.Watcher) (logs logs_after : List (List Snapshot)) (h : HaveLeft names functions table onlookers watchers logs)
      (a : AddsLeft names functions table o watchers watchers_after logs logs_after) where
    left_from : (k : ℕ) (x : Onlooker) (token : watching.Watcher) (shots : List Snapshot) → (slice_get onlookers k ≡ Some x) ⊎ ((k ≡ length onlookers) × (o ≡ x))
        → (slice_get watchers k ≡ Some token) ⊎ ((k ≡ length watchers) × (a.token ≡ token)) → (slice_get logs k ≡ Some shots) ⊎ ((k ≡ length logs) × (a.shots ≡ shots))
        → HasLeft names functions table x token shots
    left_from k x token shots (inl at) (inl token_at) (inl shots_at) = h.each k x token shots at token_at shots_at
    left_from k x token shots (inl at) (inr last) shots_at = absurd (let low = slice_get_within onlookers k x at in omega (arith, low, last.0, h.watchers_are))
    left_from k x token shots (inl at) (inl token_at) (inr last) = absurd (let low = slice_get_within onlookers k x at in omega (arith, low, last.0, h.logs_are))
    left_from k x token shots (inr last) (inl token_at) shots_at = absurd (let low = slice_get_within watchers k token token_at in omega (arith, low, last.0, h.watchers_are))
    left_from k x token shots (inr last) (inr token_last) (inl shots_at) = absurd (let low = slice_get_within logs k shots shots_at in omega (arith, low, last.0, h.logs_are))
    left_from k x token shots (inr last) (inr token_last) (inr shots_last) =
        subst (λ (y : Onlooker). HasLeft names functions table y token shots) last.1
        (subst (λ (t : watching.Watcher). HasLeft names functions table o t shots) token_last.1 (subst (λ (s : List Snapshot). HasLeft names functions table o a.token s) shots_last.1 a.left))

    -- one more left what it has
    pub left_next : HaveLeft names functions table (onlookers ++ o ∷ []) watchers_after logs_after
    left_next = record {
      watchers_are = omega (arith, ap length a.watcher_joins, length-append watchers (a.token ∷ []), length-append onlookers (o ∷ []), h.watchers_are);
      logs_are = omega (arith, ap length a.log_joins, length-append logs (a.shots ∷ []), length-append onlookers (o ∷ []), h.logs_are);
      each = λ k x token shots at token_at shots_at.
          left_from k x token shots (joined_at onlookers o x k at) (joined_at watchers a.token token k (ap (λ (ts : List watching.Watcher). slice_get ts k) (sym a.watcher_joins) ∙ token_at))
          (joined_at logs a.shots shots k (ap (λ (ls : List (List Snapshot)). slice_get ls k) (sym a.log_joins) ∙ shots_at));
    }

  -- none yet
  pub none_left : (watchers : List watching.Watcher) (logs : List (List Snapshot)) → watchers ≡ [] → logs ≡ [] → HaveLeft names functions table [] watchers logs
  none_left watchers logs no_watcher no_log = record {
    watchers_are = ap length no_watcher;
    logs_are = ap length no_log;
    each = λ k o token shots at token_at shots_at. absurd (none-some o at);
  }

  module _ (onlookers : List Onlooker) (watchers : List watching.Watcher) (logs : List (List Snapshot)) (left : HaveLeft names functions table onlookers watchers logs) where
    -- so it is with the token of each
    pub left_at : (P : watching.Watcher → Type 0) → ((o : Onlooker) (token : watching.Watcher) (shots : List Snapshot) → HasLeft names functions table o token shots → P token)
        → (k : ℕ) (token : watching.Watcher) → slice_get watchers k ≡ Some token → P token
    left_at P each k token at =
        let low = slice_get_within watchers k token at in
        let o = get_within onlookers k (omega (arith, low, left.watchers_are)) in
        let shots = get_within logs k (omega (arith, low, left.watchers_are, left.logs_are)) in
        each o.0 token shots.0 (left.each k o.0 token shots.0 o.1 at shots.1)

    -- the observers of a log that has what they saw have watched the run
    pub have_watched : (s : Script) (lines : List ℕ) → lines ≡ s.observers → AreOnlookers names functions table lines onlookers → AreExportedFunctions s.names s.modules functions → (published : List Published)
        → ((k : ℕ) (token : watching.Watcher) → slice_get watchers k ≡ Some token → IsBeginning (watched_by token).seen published) → (log : RunLog) → log.observers ≡ logs → HaveWatched names s log published
    have_watched s lines lines_are are exported published home log log_is = record {
      many = ap length log_is ∙ left.logs_are ∙ are.many ∙ ap length lines_are;
      each = λ number count shots count_at shots_at.
          let at = ap (λ (ls : List (List Snapshot)). slice_get ls number) (sym log_is) ∙ shots_at in
          let low = slice_get_within logs number shots at in
          let o = get_within onlookers number (omega (arith, low, left.logs_are)) in
          let token = get_within watchers number (omega (arith, low, left.logs_are, left.watchers_are)) in
          let l = left.each number o.0 token.0 shots o.1 token.1 at in
          record {
            seen = (watched_by token.0).seen;
            home = home number token.0 token.1;
            functions = functions;
            of_script = exported;
            counted = l.counted ∙ (are.each number count o.0 (ap (λ (ns : List ℕ). slice_get ns number) lines_are ∙ count_at) o.1).counted;
            saw = l.saw;
          };
    }

-- ---- observers as they are made

-- those of the first counts, with the tokens of their numbers; these tokens are left, so many
pub record HaveBegun (counts : List ℕ) (watchers left : List watching.Watcher) (many_left : ℕ) (onlookers : List Onlooker) (count : ℕ) : Type 0 where
  pub many : length onlookers ≡ count
  pub each : (number line : ℕ) (token : watching.Watcher) (o : Onlooker) → slice_get counts number ≡ Some line → slice_get watchers number ≡ Some token → slice_get onlookers number ≡ Some o → IsWaiting line token o
  pub left_are : left ≡ drop count watchers
  pub left_many : many_left + count ≡ length watchers

pub none_begun : (counts : List ℕ) (watchers left : List watching.Watcher) (many_left : ℕ) (onlookers : List Onlooker) → onlookers ≡ [] → left ≡ watchers → many_left ≡ length watchers → HaveBegun counts watchers left many_left onlookers 0
none_begun counts watchers left many_left onlookers none all many = record {
  many = ap length none;
  each = λ number line token o line_at token_at at. absurd (none-some o (ap (λ (xs : List Onlooker). slice_get xs number) (sym none) ∙ at));
  left_are = all;
  left_many = omega (arith, many);
}

module _ (counts : List ℕ) (watchers left : List watching.Watcher) (many_left : ℕ) (onlookers : List Onlooker) (count : ℕ) (h : HaveBegun counts watchers left many_left onlookers count) where
  -- a token is left for each count
  pub begun_some : count < length counts → length counts ≤ length watchers → many_left ≡ 0 → ⊥
  begun_some low enough none = omega (arith, low, enough, none, h.left_many)

  module _ (line : ℕ) (token : watching.Watcher) (rest : List watching.Watcher) (many_rest : ℕ) (o : Onlooker) (after : List Onlooker) (line_here : slice_get counts count ≡ Some line) (next : left ≡ token ∷ rest) (fewer : many_rest + 1 ≡ many_left)
      (waits : IsWaiting line token o) (joins : after ≡ onlookers ++ o ∷ []) where
    token_here : (slice_get watchers count ≡ Some token) × (rest ≡ drop (suc count) watchers)
    token_here = dropped_next watchers rest token count (sym h.left_are ∙ next)

    begun_from : (number c : ℕ) (t : watching.Watcher) (x : Onlooker) → slice_get counts number ≡ Some c → slice_get watchers number ≡ Some t → (slice_get onlookers number ≡ Some x) ⊎ ((number ≡ length onlookers) × (o ≡ x)) → IsWaiting c t x
    begun_from number c t x c_at t_at (inl at) = h.each number c t x c_at t_at at
    begun_from number c t x c_at t_at (inr last) =
        let here : number ≡ count = last.0 ∙ h.many in
        let line_is : line ≡ c = same_Some line c (sym line_here ∙ ap (slice_get counts) (sym here) ∙ c_at) in
        let token_is : token ≡ t = same_Some token t (sym token_here.0 ∙ ap (slice_get watchers) (sym here) ∙ t_at) in
        subst (λ (y : Onlooker). IsWaiting c t y) last.1 (subst (λ (u : watching.Watcher). IsWaiting c u o) token_is (subst (λ (n : ℕ). IsWaiting n token o) line_is waits))

    -- one more
    pub begun_next : HaveBegun counts watchers rest many_rest after (count + 1)
    begun_next = record {
      many = omega (arith, ap length joins, length-append onlookers (o ∷ []), h.many);
      each = λ number c t x c_at t_at at. begun_from number c t x c_at t_at (joined_at onlookers o x number (ap (λ (xs : List Onlooker). slice_get xs number) (sym joins) ∙ at));
      left_are = token_here.1 ∙ ap (λ (n : ℕ). drop n watchers) (sym (add-one count));
      left_many = omega (arith, fewer, h.left_many);
    }

  -- all
  pub all_waiting : length counts ≤ count → count ≤ length counts → AreWaiting counts watchers onlookers
  all_waiting past low = record { many = omega (arith, past, low, h.many); each = h.each }
