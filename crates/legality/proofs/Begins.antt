-- What is known before the first entry.
use Rattle.std.proofs.Common.{◌≡◌, ◌⊎◌, inl, inr, ℕ, zero, suc, ◌+◌, ◌≤◌, Bool, List, [], ◌∷◌, ◌++◌, length, length-append, replicate, slice_get, Some, None, refl, sym, ap, subst, ◌∙◌, arith}
use Rattle.std.proofs.lemmas.List.{length-replicate}
use Rattle.std.proofs.lemmas.Option.{none-some, same_Some}
use Rattle.std.specs.List.{AllByRecursion}
use Rattle.server_core.specs.ServerState.{IsSound, empty_state}
use Rattle.machine_core.specs.View.{server_words}
use Rattle.script_core.specs.declared.script.Script.{Script}
use Rattle.run_log.specs.declared.logs.ProcessLog.{ProcessLog}
use Rattle.run_log.specs.declared.logs.RunLog.{RunLog}
use Rattle.run_log.specs.declared.logs.Span.{Span}
use Rattle.run_log.specs.Journal.{state_at}
use Rattle.span_check.specs.declared.standing.Standing.{Standing}
use Rattle.span_check.specs.Standings.{IsReached}
use Rattle.legality.specs.declared.sweep.Sweep.{Sweep}
use Rattle.legality.specs.Sweeps.{AreBegun, AreSeen, AreStanding, IsAt, IsBegun, IsMade}
use Rattle.legality.proofs.Places.{made_first}

-- ---- lists

-- what stands in a list that grew by one: what stood there, or the new one
pub pushed_at : {X : Type 0} (xs : List X) (y : X) (k : ℕ) (x : X) → slice_get (xs ++ y ∷ []) k ≡ Some x → (slice_get xs k ≡ Some x) ⊎ ((k ≡ length xs) × (y ≡ x))
pushed_at [] y zero x at = inr (refl, same_Some y x at)
pushed_at [] y (suc k) x at = absurd (none-some x at)
pushed_at (z ∷ xs) y zero x at = inl at
pushed_at (z ∷ xs) y (suc k) x at = further z xs y k x (pushed_at xs y k x at)
  where
    further : {X : Type 0} (z : X) (xs : List X) (y : X) (k : ℕ) (x : X) → (slice_get xs k ≡ Some x) ⊎ ((k ≡ length xs) × (y ≡ x)) → (slice_get (z ∷ xs) (suc k) ≡ Some x) ⊎ ((suc k ≡ length (z ∷ xs)) × (y ≡ x))
    further z xs y k x (inl at) = inl at
    further z xs y k x (inr (e, same)) = inr (ap suc e, same)

zeros_at : (n k m : ℕ) → slice_get (replicate n 0) k ≡ Some m → m ≡ 0
zeros_at zero k m at = absurd (none-some m at)
zeros_at (suc n) zero m at = sym (same_Some 0 m at)
zeros_at (suc n) (suc k) m at = zeros_at n k m at

-- ---- the processes

none_before : (generation : ℕ) (spans : List Span) → generation ≡ 0 → AllByRecursion (λ span. generation ≤ span.generation) spans
none_before generation [] h = tt
none_before generation (span ∷ spans) h = (omega (arith, h), none_before generation spans h)

-- before generation 0 there are no spans
pub begun_reached : (process : ProcessLog) (standing : Standing) → ((generation : ℕ) → AllByRecursion (λ span. generation ≤ span.generation) process.spans → IsReached generation process standing) → (generation : ℕ) → generation ≡ 0 → IsReached generation process standing
begun_reached process standing h generation none = h generation (none_before generation process.spans none)

-- one more is begun
pub one_begun : (processes : List ProcessLog) (count : ℕ) (standings : List Standing) (process : ProcessLog) (standing : Standing) → AreBegun processes count standings → slice_get processes count ≡ Some process → IsBegun count process standing
    → AreBegun processes (count + 1) (standings ++ standing ∷ [])
one_begun processes count standings process standing so_far here begun = record {
  many = let n = length-append standings (standing ∷ []) in omega (arith, n, so_far.many);
  each = λ number other x at is. by number other x at (pushed_at standings standing number x is);
}
  where
    by : (number : ℕ) (other : ProcessLog) (x : Standing) → slice_get processes number ≡ Some other → (slice_get standings number ≡ Some x) ⊎ ((number ≡ length standings) × (standing ≡ x)) → IsBegun number other x
    by number other x at (inl is) = so_far.each number other x at is
    by number other x at (inr (e, same)) =
        let n : count ≡ number = omega (arith, e, so_far.many) in
        let p : process ≡ other = same_Some process other (sym here ∙ ap (slice_get processes) n ∙ at) in
        subst (λ y. IsBegun number other y) same (subst (λ y. IsBegun number y standing) p (subst (λ k. IsBegun k process standing) n begun))

-- ---- the sweep

module _ (s : Script) (log : RunLog) (watched : Bool) (sweep : Sweep) (server : sweep.server ≡ empty_state) (sound : IsSound sweep.server) (half : sweep.half ≡ None) (standings : AreBegun log.processes (length log.processes) sweep.standings.items)
    (seen : sweep.seen.items ≡ replicate (length log.observers) 0) where
  generation_none : sweep.server.generation ≡ 0
  generation_none = ap (λ x. x.generation) server

  stands_first : AreStanding s log sweep.server sweep.server.generation sweep.standings.items
  stands_first = record {
    many = standings.many;
    each = λ number process standing at is.
        let b = standings.each number process standing at is in
        record {
          stands = b.stands (state_at s.modules empty_state log.journal) (server_words sweep.server);
          reached = b.reached sweep.server.generation generation_none;
          ready = b.ready sweep.server;
          named = b.named;
        };
  }

  count_none : (observer count : ℕ) → slice_get sweep.seen.items observer ≡ Some count → count ≡ 0
  count_none observer count at = zeros_at (length log.observers) observer count (ap (λ xs. slice_get xs observer) (sym seen) ∙ at)

  seen_none : AreSeen s log sweep.server.generation sweep.seen.items
  seen_none = record {
    many = ap length seen ∙ length-replicate (length log.observers) 0;
    each = λ observer count shots at is.
        let none = count_none observer count is in
        record {
          within = omega (arith, none);
          each = λ k shot low at_shot. absurd (omega (arith, low, none));
          behind = λ k shot low at_shot. omega (arith, generation_none);
        };
  }

  at_first : IsAt s log 0 sweep.server sweep.half
  at_first = record {
    within = omega arith;
    meet = λ k e low at. absurd (omega (arith, low));
    server_is = server;
    sound = sound;
    half_is = half;
  }

  -- nothing is judged before the first entry
  pub made_begin : IsMade s log watched 0 sweep
  made_begin = record {
    here = at_first;
    linger = λ is k e low at. absurd (omega (arith, low));
    first = ap (state_at s.modules empty_state log.journal) generation_none ∙ made_first s.modules log.journal ∙ sym server;
    standings = stands_first;
    seen = seen_none;
  }
