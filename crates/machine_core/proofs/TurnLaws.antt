-- What a turn keeps of its process, and how it counts. Runs over many turns cite these.
use Rattle.std.proofs.Common.{◌≡◌, ◌∙◌, ◌<◌, ◌+◌, ◌==◌, ℕ, ap, arith, refl, subst, sym, Bool, true, false, List, [], ◌∷◌, length, map, Option, Some, None, option_map, unwrap_or}
use Rattle.std.proofs.lemmas.List.{length-map, length-reverse}
use Rattle.std.proofs.lemmas.List.Elements.{All-nil}
use Rattle.term_core.specs.declared.atom.Mfa.{Mfa}
use Rattle.term_core.specs.PlainTerm.{PlainTerm}
use Rattle.mod_core.specs.declared.code.Module.{Module}
use Rattle.mod_core.specs.ModuleImage.{function_place, return_ok}
use Rattle.server_core.specs.ServerState.{ServerState, code_of}
use Rattle.machine_core.specs.declared.process.End.{End}
use Rattle.machine_core.specs.declared.process.End.TheVariants.{SystemLimit}
use Rattle.machine_core.specs.declared.process.Frame.{Frame}
use Rattle.machine_core.specs.declared.process.Process.{Process}
use Rattle.machine_core.specs.declared.process.TheConstants.{MOST_TURNS}
use Rattle.machine_core.specs.declared.process.TurnEnd.TheVariants.{Again, Ended}
use Rattle.machine_core.specs.Holds.{Holds}
use Rattle.machine_core.specs.Process.{HasNotEnded, PlainFrame, PlainProcess, Words, frame_names, frame_of, frames_of, names_of, new_process, process_of}
use Rattle.machine_core.specs.View.{AreValues, HasValues, Shown, server_words, shown_of}
use Rattle.machine_core.specs.Turn.{ArePlaced, IsPlaceIn, IsPlaced, MayTurn, Ran, Step, goes_on, yields, ends, begun, copied, ended_with, held_after, ran_of, step_of, turn_by, turn_of}
use Rattle.machine_core.specs.LaterStates.{HasAreas}
use Rattle.machine_core.proofs.LaterWords.{frames_later, process_later, values_later}
use Rattle.machine_core.proofs.RunLaws.{IsKept, KeepsSo, ran_kept}
use Rattle.machine_core.proofs.Turns.{counted_below, is_below}
use Rattle.machine_core.specs.Reads.{Reads}
use Rattle.machine_core.specs.ServerReads.{functions_of, module_instr, reads_of}
pub use Rattle.machine_core.specs.LaterStates.{HasInstances}

-- one process is the other after some turns: its number, its target and its arguments are the same
pub record IsSameProcess (before after : PlainProcess) : Type 0 where
  pub number : after.number ≡ before.number
  pub target : after.target ≡ before.target
  pub args : after.args ≡ before.args

same_counted : (s : Reads) (p : PlainProcess) (b : Bool) → (p.turns == MOST_TURNS) ≡ b → IsSameProcess p (turn_by s p).process
same_counted s p true e = rw e (record { number = refl; target = refl; args = refl })
same_counted s p false e = rw e (record { number = refl; target = refl; args = refl })

-- a turn keeps number, target and arguments
pub turn_same_by : (s : Reads) (p : PlainProcess) → IsSameProcess p (turn_by s p).process
turn_same_by s p = same_counted s p (p.turns == MOST_TURNS) refl

-- below the limit a turn counts
pub turn_counts_by : (s : Reads) (p : PlainProcess) → (p.turns ≡ MOST_TURNS → ⊥) → (turn_by s p).process.turns ≡ p.turns + 1
turn_counts_by s p h = ap (λ q. q.turns) (counted_below s p (is_below p.turns h))

is_limit : (p : PlainProcess) → p.turns ≡ MOST_TURNS → (p.turns == MOST_TURNS) ≡ true
is_limit p e = rw e

ran_at : (s : Reads) (p : PlainProcess) → (p.turns == MOST_TURNS) ≡ true → ran_of s p ≡ ended_with (names_of p) [] SystemLimit
ran_at s p e = rw e

pub limit_ends_by : (s : Reads) (p : PlainProcess) → p.turns ≡ MOST_TURNS → (turn_by s p).end ≡ Ended SystemLimit
limit_ends_by s p e = ap (λ ran. ran.end) (ran_at s p (is_limit p e))

none_reversed : (fs : List Frame) (words : Words) → frames_of words fs ≡ [] → fs ≡ []
none_reversed [] words e = refl
none_reversed (f ∷ fs) words e = absurd (omega (arith, ap length e, length-reverse (map (frame_of words) (f ∷ fs)), length-map (f ∷ fs) (frame_of words)))

-- a process that has had no turn may have one, wherever nothing is held
pub may_turn_new : (shown : Shown) (p : Process) (number : ℕ) (target : Mfa) (args : List PlainTerm) → process_of shown.words p ≡ new_process number target args → MayTurn shown (names_of (process_of shown.words p)) p
may_turn_new shown p number target args e =
    let none : frames_of shown.words p.frames ≡ [] = ap (λ q. q.frames) e in
    record {
      going = λ _. ap (λ q. q.turns) e;
      names = refl;
      placed = subst (ArePlaced shown.reads) (sym none) tt;
      values = subst (AreValues shown) (sym (none_reversed p.frames shown.words none)) (All-nil (HasValues shown));
    }

-- a function of a module that may be none is one of its functions
abbrev IsCounted : ℕ → Option Module → Type 0
IsCounted function o = function < unwrap_or (option_map (λ m. length m.functions) o) 0

-- a place of such a function
abbrev IsPlaceOf : ℕ → ℕ → Option Module → Type 0
IsPlaceOf function place o =
    IsPlaceIn (unwrap_or (option_map (λ m. function_place m function) o) 0) (λ at. unwrap_or (option_map (λ m. module_instr m function at) o) return_ok) place

placed_case : (before after : ServerState) (f : PlainFrame) (o : Option Module) → code_of before f.serial ≡ o → HasInstances before after → IsPlaced (reads_of before) f → IsPlaced (reads_of after) f
placed_case before after f None c h p = let none : functions_of before f.serial ≡ 0 = rw c refl in absurd (omega (arith, p.known))
placed_case before after f (Some m) c h p =
    let same : code_of before f.serial ≡ code_of after f.serial = c ∙ sym (h f.serial m c) in
    record { known = subst (IsCounted f.function) same p.known; at = subst (IsPlaceOf f.function f.place) same p.at; back = p.back }

placed_later : (before after : ServerState) (f : PlainFrame) → HasInstances before after → IsPlaced (reads_of before) f → IsPlaced (reads_of after) f
placed_later before after f h p = placed_case before after f (code_of before f.serial) refl h p

-- frames stand at instructions where these instances are still
pub all_later : (before after : ServerState) (frames : List PlainFrame) → HasInstances before after → ArePlaced (reads_of before) frames → ArePlaced (reads_of after) frames
all_later before after [] h ps = tt
all_later before after (f ∷ below) h ps = (placed_later before after f h ps.0, all_later before after below h ps.1)

-- what may have a turn under a state may have it under a later one, where the view holds what it names
pub may_turn_later : (before after : ServerState) (held now : Holds) (p : Process) → HasAreas before after → now ≡ names_of (process_of (server_words after) p) → MayTurn (shown_of before) held p → MayTurn (shown_of after) now p
may_turn_later before after held now p has e ready =
    let same = frames_later before after has.words p.frames ready.values in
    record {
      going = subst HasNotEnded (sym (process_later before after has.words p ready.values)) ready.going;
      names = e;
      placed = subst (ArePlaced (reads_of after)) (sym same) (all_later before after (frames_of (server_words before) p.frames) has.instances ready.placed);
      values = values_later before after has p.frames ready.values;
    }

FramesEnd : Ran → Type 0
FramesEnd ran = (end : End) → ran.end ≡ Ended end → ran.frames ≡ []

any_step : (s : Reads) (Leaves : Ran → Type 0) (held : Holds) (step : Step) → KeepsSo s (λ _ _. Unit {0}) (λ _. Unit {0}) Leaves held step
any_step s Leaves held (goes_on frames now line) = tt
any_step s Leaves held (yields frames) = tt
any_step s Leaves held (ends end) = tt

-- with what a turn begins is any step
begins_any : (s : Reads) (Leaves : Ran → Type 0) (p : PlainProcess) →
    KeepsSo s (λ _ _. Unit {0}) (λ _. Unit {0}) Leaves (frame_names (copied s p.frames)) (begun s p.target p.args (frame_names (copied s p.frames)) (copied s p.frames))
begins_any s Leaves p = any_step s Leaves (frame_names (copied s p.frames)) (begun s p.target p.args (frame_names (copied s p.frames)) (copied s p.frames))

end_kept : (s : Reads) → IsKept s (λ _ _. Unit {0}) (λ _. Unit {0}) FramesEnd
unfolding FramesEnd
end_kept s = record { step = λ frames held h. any_step s FramesEnd held (step_of s frames held); pause = λ frames held made h end e. absurd (cc); end = λ held made end h last e. refl }

-- a turn that ends the process leaves no frame
pub turn_ended_by : (s : Reads) (p : PlainProcess) (end : End) → (turn_by s p).end ≡ Ended end → (turn_by s p).process.frames ≡ []
unfolding FramesEnd
turn_ended_by s p end e = ran_kept s (λ _ _. Unit {0}) (λ _. Unit {0}) FramesEnd p (end_kept s) (begins_any s FramesEnd p) (λ serial t d last f. refl) (λ last f. refl) end e

HoldsNames : Ran → Type 0
HoldsNames ran = ran.end ≡ Again → ran.held ≡ frame_names ran.frames

names_kept : (s : Reads) → IsKept s (λ _ _. Unit {0}) (λ _. Unit {0}) HoldsNames
unfolding HoldsNames
names_kept s = record { step = λ frames held h. any_step s HoldsNames held (step_of s frames held); pause = λ frames held made h again. refl; end = λ held made end h again. absurd (cc) }

-- a turn after which the process goes on leaves just what it then names held
pub turn_holds_by : (s : Reads) (p : PlainProcess) → (turn_by s p).end ≡ Again → held_after s p ≡ names_of (turn_by s p).process
unfolding HoldsNames
turn_holds_by s p e = ran_kept s (λ _ _. Unit {0}) (λ _. Unit {0}) HoldsNames p (names_kept s) (begins_any s HoldsNames p) (λ serial t d again. absurd (cc)) (λ again. absurd (cc)) e

-- and counts
pub again_counts_by : (s : Reads) (p : PlainProcess) → (turn_by s p).end ≡ Again → (turn_by s p).process.turns ≡ p.turns + 1
again_counts_by s p again = turn_counts_by s p (λ limit. let over : Again ≡ Ended SystemLimit = sym again ∙ limit_ends_by s p limit in absurd (cc))

-- ---- the same under a state of the server

pub turn_same : (s : ServerState) (p : PlainProcess) → IsSameProcess p (turn_of s p).process
turn_same s p = turn_same_by (reads_of s) p

pub turn_counts : (s : ServerState) (p : PlainProcess) → (p.turns ≡ MOST_TURNS → ⊥) → (turn_of s p).process.turns ≡ p.turns + 1
turn_counts s p h = turn_counts_by (reads_of s) p h

pub limit_ends : (s : ServerState) (p : PlainProcess) → p.turns ≡ MOST_TURNS → (turn_of s p).end ≡ Ended SystemLimit
limit_ends s p e = limit_ends_by (reads_of s) p e

pub turn_ended : (s : ServerState) (p : PlainProcess) (end : End) → (turn_of s p).end ≡ Ended end → (turn_of s p).process.frames ≡ []
turn_ended s p end e = turn_ended_by (reads_of s) p end e
