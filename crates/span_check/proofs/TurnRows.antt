-- Turns in a row: their lines begin with those before, and rows join.
use Rattle.std.proofs.Common.{◌≡◌, ◌==◌, ◌+◌, ◌∙◌, ℕ, zero, suc, refl, sym, ap, arith, Bool, true, false, List, [], ◌++◌, append_assoc, Option, Some, None, if◌then◌else◌}
use Rattle.std.proofs.lemmas.Bool.{cond-false, ne_eqb}
use Rattle.std.proofs.lemmas.List.{append-nil}
use Rattle.server_core.specs.ServerState.{ServerState}
use Rattle.machine_core.specs.declared.process.Line.{Line}
use Rattle.machine_core.specs.declared.process.TurnEnd.{TurnEnd}
use Rattle.machine_core.specs.declared.process.TurnEnd.TheVariants.{Again, Ended}
use Rattle.machine_core.specs.Process.{PlainProcess}
use Rattle.machine_core.specs.Turn.{Turn, turn_of}
use Rattle.run_log.specs.Legal.{after_turn, after_turns, turns_of}
use Rattle.run_log.proofs.TurnRuns.{some_turn, none_some}

-- a list that begins with another
abbrev pub BeginsWith : List Line → List Line → Type 0
BeginsWith front lines = (rest : List Line) × (lines ≡ front ++ rest)

abbrev lines_in : Option Turn → List Line
lines_in None = []
lines_in (Some t) = t.made

module _ (s : ServerState) where
  -- turns in two parts
  pub after_add : (a b : ℕ) (p : PlainProcess) → after_turns s (a + b) p ≡ after_turns s b (after_turns s a p)
  unfolding after_turns
  after_add zero b p = let e : zero + b ≡ b = omega arith in ap (λ n. after_turns s n p) e
  after_add (suc a) b p = let e : suc a + b ≡ suc (a + b) = omega arith in ap (λ n. after_turns s n p) e ∙ after_add a b (turn_of s p).process

  front_at : (last : Bool) (q : PlainProcess) (made : List Line) (e : TurnEnd) (t : Turn) → (if last then Some (record { process = q; made = made; end = e }) else None) ≡ Some t → BeginsWith made t.made
  front_at true q made e t h = ([], sym (ap lines_in h) ∙ sym (append-nil made))
  front_at false q made e t h = none_some t h

  shorter : (made more lines : List Line) → BeginsWith (made ++ more) lines → BeginsWith made lines
  shorter made more lines h = (more ++ h.0, h.1 ∙ append_assoc made more h.0)

  front_after : (n : ℕ) (made : List Line) (q : PlainProcess) (more : List Line) (e : TurnEnd) (t : Turn) → ((m : List Line) → turns_of s n q m ≡ Some t → BeginsWith m t.made) → after_turn n (turns_of s n) made q more e ≡ Some t → BeginsWith (made ++ more) t.made
  front_after n made q more Again t next h = next (made ++ more) h
  front_after n made q more (Ended end) t next h = front_at (n == 0) q (made ++ more) (Ended end) t h

  -- the lines of turns begin with those before them
  pub lines_front : (n : ℕ) (p : PlainProcess) (made : List Line) (t : Turn) → turns_of s n p made ≡ Some t → BeginsWith made t.made
  unfolding turns_of
  lines_front zero p made t h = ([], sym (ap lines_in h) ∙ sym (append-nil made))
  lines_front (suc n) p made t h =
      shorter made (turn_of s p).made t.made
      (front_after n made (turn_of s p).process (turn_of s p).made (turn_of s p).end t (λ m k. lines_front n (turn_of s p).process m t k) h)

  -- and with those of the first of them
  pub first_lines : (n : ℕ) (p : PlainProcess) (made : List Line) (t : Turn) → turns_of s (suc n) p made ≡ Some t → BeginsWith (made ++ (turn_of s p).made) t.made
  unfolding turns_of
  first_lines n p made t h = front_after n made (turn_of s p).process (turn_of s p).made (turn_of s p).end t (λ m k. lines_front n (turn_of s p).process m t k) h

  stopped : (n : ℕ) (made : List Line) (q : PlainProcess) (more : List Line) (e : TurnEnd) (t : Turn) → (e ≡ Again → ⊥) → after_turn (suc n) (turns_of s (suc n)) made q more e ≡ Some t → ⊥
  stopped n made q more Again t other h = other refl
  stopped n made q more (Ended end) t other h =
      none_some t (sym (cond-false (suc n == 0) (some_turn q (made ++ more) (Ended end)) None (ne_eqb (suc n) 0 (λ e. omega (arith, e)))) ∙ h)

  -- no turn follows the end
  pub no_more : (n : ℕ) (p : PlainProcess) (made : List Line) (t : Turn) → ((turn_of s p).end ≡ Again → ⊥) → turns_of s (suc (suc n)) p made ≡ Some t → ⊥
  unfolding turns_of
  no_more n p made t other h = stopped n made (turn_of s p).process (turn_of s p).made (turn_of s p).end t other h

  last_at : (made : List Line) (q : PlainProcess) (more : List Line) (e : TurnEnd) → after_turn 0 (turns_of s 0) made q more e ≡ some_turn q (made ++ more) e
  unfolding turns_of
  last_at made q more Again = refl
  last_at made q more (Ended end) = refl

  -- one turn, with those lines before it
  pub one_turn : (p : PlainProcess) (made : List Line) → turns_of s 1 p made ≡ some_turn (turn_of s p).process (made ++ (turn_of s p).made) (turn_of s p).end
  unfolding turns_of
  one_turn p made = last_at made (turn_of s p).process (turn_of s p).made (turn_of s p).end

-- what is known of turns that are there
pub made_is : (p : PlainProcess) (made : List Line) (e : TurnEnd) (t : Turn) → some_turn p made e ≡ Some t → made ≡ t.made
made_is p made e t h = ap lines_in h

abbrev pub end_in : Option Turn → TurnEnd
end_in None = Again
end_in (Some t) = t.end

pub end_is : (p : PlainProcess) (made : List Line) (e : TurnEnd) (t : Turn) → some_turn p made e ≡ Some t → e ≡ t.end
end_is p made e t h = ap end_in h
