-- Turns in a row under one state: one that goes on is followed by the next.
use Rattle.std.proofs.Common.{◌≡◌, ℕ, zero, suc, ◌==◌, List, ◌++◌, Option, Some, None, Bool, true, false, if◌then◌else◌, refl, ap}
use Rattle.server_core.specs.ServerState.{ServerState}
use Rattle.machine_core.specs.declared.process.Line.{Line}
use Rattle.machine_core.specs.declared.process.End.{End}
use Rattle.machine_core.specs.declared.process.TurnEnd.{TurnEnd}
use Rattle.machine_core.specs.declared.process.TurnEnd.TheVariants.{Again, Ended}
use Rattle.machine_core.specs.Process.{PlainProcess}
use Rattle.machine_core.specs.Turn.{Turn, turn_of}
use Rattle.run_log.specs.Legal.{after_turn, turns_of}

-- what a run of turns that is there came to
abbrev pub process_in : PlainProcess → Option Turn → PlainProcess
process_in p None = p
process_in p (Some t) = t.process

abbrev made_in : List Line → Option Turn → List Line
made_in made None = made
made_in made (Some t) = t.made

abbrev pub end_in : TurnEnd → Option Turn → TurnEnd
end_in e None = e
end_in e (Some t) = t.end

-- an end is not a turn that goes on
pub ended_again : {A : Type 0} (e : End) → Ended e ≡ Again → A
ended_again e h = cc

-- nothing is no turn
pub none_some : {A : Type 0} (t : Turn) → None ≡ Some t → A
none_some t h = cc

-- a run of turns that led to this process, with these lines
abbrev pub some_turn : PlainProcess → List Line → TurnEnd → Option Turn
some_turn p made e = Some (record { process = p; made = made; end = e })

-- a run that ended does not go on
ended_no_more : {A : Type 0} (last : Bool) (p : PlainProcess) (made : List Line) (e : End) (q : PlainProcess) (m : List Line)
    → (if last then some_turn p made (Ended e) else None) ≡ some_turn q m Again → A
ended_no_more true p made e q m h = ended_again e (ap (end_in Again) h)
ended_no_more false p made e q m h = none_some _ h

-- no turn leaves a process as it is
pub no_turns : (s : ServerState) (p : PlainProcess) (made : List Line) → turns_of s 0 p made ≡ some_turn p made Again
unfolding turns_of
no_turns s p made = refl

after_turn_first : (s : ServerState) (made : List Line) (p : PlainProcess) (lines : List Line) (e : TurnEnd) → after_turn 0 (turns_of s 0) made p lines e ≡ some_turn p (made ++ lines) e
unfolding turns_of
after_turn_first s made p lines Again = refl
after_turn_first s made p lines (Ended e) = refl

-- where a run goes on, what stands behind it stands behind its first turn
after_turn_more : (left : ℕ) (rest more : PlainProcess → List Line → Option Turn) (made : List Line) (p : PlainProcess) (lines : List Line) (e : TurnEnd) (q : PlainProcess) (m : List Line) (t : Option Turn)
    → ((x : PlainProcess) (l : List Line) → rest x l ≡ some_turn q m Again → more x l ≡ t)
    → after_turn left rest made p lines e ≡ some_turn q m Again → after_turn (suc left) more made p lines e ≡ t
after_turn_more left rest more made p lines Again q m t step h = step p (made ++ lines) h
after_turn_more left rest more made p lines (Ended e) q m t step h = ended_no_more (left == 0) p (made ++ lines) e q m h

-- one more turn of a run that goes on
pub turns_more : (s : ServerState) (n : ℕ) (p : PlainProcess) (made : List Line) (q : PlainProcess) (m : List Line) → turns_of s n p made ≡ some_turn q m Again
    → turns_of s (suc n) p made ≡ some_turn (turn_of s q).process (m ++ (turn_of s q).made) (turn_of s q).end
unfolding turns_of
turns_more s zero p made q m h =
    let same_process : p ≡ q = ap (process_in p) h in
    let same_lines : made ≡ m = ap (made_in made) h in
    rw (same_process, same_lines) (after_turn_first s m (turn_of s q).process (turn_of s q).made (turn_of s q).end)
turns_more s (suc n) p made q m h =
    after_turn_more n (turns_of s n) (turns_of s (suc n)) made (turn_of s p).process (turn_of s p).made (turn_of s p).end q m _ (λ x l k. turns_more s n x l q m k) h
