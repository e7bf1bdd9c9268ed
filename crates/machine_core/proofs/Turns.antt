-- That a turn is the count of turns, then the frames with which it begins, then its instructions, after the lines that stood.
use Rattle.std.proofs.Common.{◌≡◌, ◌+◌, ◌==◌, ℕ, refl, arith, ap, sym, ◌∙◌, subst, false, List, [], None, Result, Ok, Err, IfOk}
use Rattle.std.proofs.lemmas.Bool.Decides.{nat_tests}
use Rattle.term_core.specs.declared.no_memory.NoMemory.{NoMemory}
use Rattle.machine_core.specs.declared.process.Line.{Line}
use Rattle.machine_core.specs.declared.process.Process.{Process}
use Rattle.machine_core.specs.declared.process.TurnEnd.{TurnEnd}
use Rattle.machine_core.specs.declared.process.TurnEnd.TheVariants.{Again}
use Rattle.machine_core.specs.declared.process.TheConstants.{MOST_TURNS, TURN_INSTRUCTIONS}
use Rattle.machine_core.specs.Holds.{Holds}
use Rattle.machine_core.specs.Process.{PlainFrame, PlainProcess, frame_names, frames_of}
use Rattle.machine_core.specs.View.{AreValues, Shown}
use Rattle.machine_core.specs.Turn.{ArePlaced, MayTurn, Ran, Step, TurnGives, goes_on, yields, ends, after_step, begun, copied, counted, doomed_serial, held_after, ran_of, run_of, step_of}
use Rattle.machine_core.specs.Stand.{AreHeld, AreStanding, runs, stand_after}
use Rattle.machine_core.proofs.CopiedFrames.{copied_placed}
use Rattle.machine_core.proofs.Placing.{Keeps, KeepsStanding}
use Rattle.machine_core.proofs.RunLaws.{IsKept, KeepsSo, run_kept}
use Rattle.machine_core.proofs.Runs.{after_behind, after_on, standing_runs, with_lines}
use Rattle.machine_core.specs.Reads.{Reads}
pub use Rattle.machine_core.proofs.NamedAreas.{names_held}

-- with what is held for all that frames name, it is held for each of these frames
pub held_named : (held : Holds) (frames same : List PlainFrame) → held ≡ frame_names frames → same ≡ frames → AreHeld held same
held_named held frames same h e = rw (h, e) (names_held frames)

-- what a turn that paused left: some frames, at instructions, and just what they name is held
pub record IsPaused (s : Reads) (ran : Ran) : Type 0 where
  pub some : ran.frames ≡ [] → ⊥
  pub placed : ArePlaced s ran.frames
  pub named : ran.held ≡ frame_names ran.frames

module _ (s : Reads) where
  -- a turn's frames after its first step stand so
  pub begun_standing : KeepsStanding s → (p : PlainProcess) (now then : Holds) (frames : List PlainFrame) (before lines : List Line) → ArePlaced s p.frames → now ≡ frame_names (copied s p.frames) →
      stand_after now before (begun s p.target p.args now (copied s p.frames)) ≡ runs frames then lines → AreStanding s then frames
  begun_standing keeps p now then frames before lines placed n e =
      standing_runs s now then before (begun s p.target p.args now (copied s p.frames)) frames lines
      (keeps.begun p.target p.args now (copied s p.frames) (copied_placed s p.frames placed) (held_named now (copied s p.frames) (copied s p.frames) n refl)) e

  StandsSo : List PlainFrame → Holds → Type 0
  StandsSo frames held = AreStanding s held frames

  PausesSo : Ran → Type 0
  PausesSo ran = ran.end ≡ Again → IsPaused s ran

  keeps_so : (held : Holds) (step : Step) → Keeps s held step → KeepsSo s StandsSo (λ _. Unit {0}) PausesSo held step
  unfolding StandsSo Keeps
  keeps_so held (goes_on frames now line) k = k
  keeps_so held (yields frames) k = k
  keeps_so held (ends end) k = tt

  pauses_kept : KeepsStanding s → IsKept s StandsSo (λ _. Unit {0}) PausesSo
  unfolding StandsSo PausesSo
  pauses_kept keeps = record {
    step = λ frames held h. keeps_so held (step_of s frames held) (keeps.step held frames h);
    pause = λ frames held made h again. record { some = h.some; placed = h.placed; named = refl };
    end = λ held made end h again. absurd (cc);
  }

  -- a run that pauses
  run_pauses : (n : ℕ) (frames : List PlainFrame) (held : Holds) (made : List Line) → KeepsStanding s → AreStanding s held frames → (run_of s n frames held made).end ≡ Again → IsPaused s (run_of s n frames held made)
  unfolding StandsSo PausesSo
  run_pauses n frames held made keeps h e = run_kept s StandsSo (λ _. Unit {0}) PausesSo n frames held made (pauses_kept keeps) h e

  -- a process that runs in its turn: the turn counts, it stands in no doomed code, and just its names are held once its literals of retired areas are copied
  pub record IsRunning (held : Holds) (p : PlainProcess) : Type 0 where
    pub below : (p.turns == MOST_TURNS) ≡ false
    pub spared : doomed_serial s p.frames ≡ None
    pub names : held ≡ frame_names (copied s p.frames)

  ran_spared : (held : Holds) (p : PlainProcess) → IsRunning held p → ran_of s p ≡ after_step (run_of s TURN_INSTRUCTIONS) held [] (begun s p.target p.args held (copied s p.frames))
  ran_spared held p r = rw (r.below, r.spared, r.names) refl

  pub counted_below : (p : PlainProcess) → (p.turns == MOST_TURNS) ≡ false → counted p ≡ record p { turns = p.turns + 1 }
  counted_below p e = rw e

  -- what such a turn does, its lines behind those that stood
  pub ran_behind : (held : Holds) (p : PlainProcess) (before : List Line) → IsRunning held p →
      with_lines before (ran_of s p) ≡ after_step (run_of s TURN_INSTRUCTIONS) held before (begun s p.target p.args held (copied s p.frames))
  ran_behind held p before r = ap (with_lines before) (ran_spared held p r) ∙ sym (after_behind s TURN_INSTRUCTIONS before held (begun s p.target p.args held (copied s p.frames)))

  -- what a turn gives that does this, its lines behind those that stood
  pub gives : (p : PlainProcess) (after : List PlainFrame) (now : Holds) (before made : List Line) (end : TurnEnd) → (p.turns == MOST_TURNS) ≡ false →
      with_lines before (ran_of s p) ≡ record { frames = after; held = now; made = made; end = end } → TurnGives s p (record p { turns = p.turns + 1; frames = after }) before made end
  gives p after now before made end t e = record {
    process = ap (λ (q : PlainProcess). record q { frames = (ran_of s p).frames }) (counted_below p t) ∙ ap (λ fs. record p { turns = p.turns + 1; frames = fs }) (ap (λ x. x.frames) e);
    lines = sym (ap (λ x. x.made) e);
    end_is = ap (λ x. x.end) e;
  }

  -- and what is then held
  pub held_gives : (p : PlainProcess) (after : List PlainFrame) (now : Holds) (before made : List Line) (end : TurnEnd) →
      with_lines before (ran_of s p) ≡ record { frames = after; held = now; made = made; end = end } → now ≡ held_after s p
  held_gives p after now before made end e = sym (ap (λ x. x.held) e)

-- what is not the limit is tested so
pub is_below : (turns : ℕ) → (turns ≡ MOST_TURNS → ⊥) → (turns == MOST_TURNS) ≡ false
is_below turns h = grind (arith, nat_tests)

-- a process of which the code found no frame that stands in doomed code, and which holds just what its copied frames name
pub runs_spared : (s : Reads) (held : Holds) (p : PlainProcess) (frames : List PlainFrame) → (p.turns ≡ MOST_TURNS → ⊥) → held ≡ frame_names (copied s p.frames) → frames ≡ p.frames → None ≡ doomed_serial s frames →
    IsRunning s held p
runs_spared s held p frames t h f d = record { below = is_below p.turns t; spared = ap (doomed_serial s) (sym f) ∙ sym d; names = h }

-- an answer of the loop is that of the turn
pub run_behind_ok : (r : Result TurnEnd NoMemory) (shown seen : Shown) (p : PlainProcess) (held now then : Holds) (frames after : List PlainFrame) (before lines made : List Line) → seen ≡ shown →
    IsRunning shown.reads held p → stand_after held before (begun shown.reads p.target p.args held (copied shown.reads p.frames)) ≡ runs frames now lines →
    IfOk r (λ end. run_of seen.reads TURN_INSTRUCTIONS frames now lines ≡ record { frames = after; held = then; made = made; end = end }) →
    IfOk r (λ end. with_lines before (ran_of shown.reads p) ≡ record { frames = after; held = then; made = made; end = end })
run_behind_ok (Ok end) shown seen p held now then frames after before lines made e is b r =
    ran_behind shown.reads held p before is ∙ after_on (run_of shown.reads TURN_INSTRUCTIONS) held now before (begun shown.reads p.target p.args held (copied shown.reads p.frames)) frames lines b ∙ (rw e at r)
run_behind_ok (Err refused) shown seen p held now then frames after before lines made e is b r = tt

pub gives_ok : (r : Result TurnEnd NoMemory) (s : Reads) (p : PlainProcess) (then : Holds) (after : List PlainFrame) (before made : List Line) → (p.turns == MOST_TURNS) ≡ false →
    IfOk r (λ end. with_lines before (ran_of s p) ≡ record { frames = after; held = then; made = made; end = end }) →
    IfOk r (λ end. TurnGives s p (record p { turns = p.turns + 1; frames = after }) before made end)
gives_ok (Ok end) s p then after before made t e = gives s p after then before made end t e
gives_ok (Err refused) s p then after before made t e = tt

-- so is what is held then
pub held_ok : (r : Result TurnEnd NoMemory) (s : Reads) (p : PlainProcess) (then : Holds) (after : List PlainFrame) (before made : List Line) →
    IfOk r (λ end. with_lines before (ran_of s p) ≡ record { frames = after; held = then; made = made; end = end }) → IfOk r (λ end. then ≡ held_after s p)
held_ok (Ok end) s p then after before made e = held_gives s p after then before made end e
held_ok (Err refused) s p then after before made e = tt

-- a process whose frames are what a turn left that paused may have another turn
pub paused_may : (shown : Shown) (now : Holds) (after : Process) (ran : Ran) (made : List Line) → IsPaused shown.reads ran → ran ≡ record { frames = frames_of shown.words after.frames; held = now; made = made; end = Again } →
    AreValues shown after.frames → MayTurn shown now after
paused_may shown now after ran made h e values =
    let f : ran.frames ≡ frames_of shown.words after.frames = ap (λ x. x.frames) e in
    let n : ran.held ≡ now = ap (λ x. x.held) e in
    record {
      going = λ none. absurd (h.some (f ∙ none));
      names = sym n ∙ h.named ∙ ap frame_names f;
      placed = subst (ArePlaced shown.reads) f h.placed;
      values = values;
    }

again_paused : (shown : Shown) (now then : Holds) (frames : List PlainFrame) (after : Process) (lines made : List Line) (end : TurnEnd) → KeepsStanding shown.reads → AreStanding shown.reads now frames →
    run_of shown.reads TURN_INSTRUCTIONS frames now lines ≡ record { frames = frames_of shown.words after.frames; held = then; made = made; end = end } → AreValues shown after.frames → end ≡ Again → MayTurn shown then after
again_paused shown now then frames after lines made end keeps h r values e =
    let w : run_of shown.reads TURN_INSTRUCTIONS frames now lines ≡ record { frames = frames_of shown.words after.frames; held = then; made = made; end = Again } =
    r ∙ ap (λ x. record { frames = frames_of shown.words after.frames; held = then; made = made; end = x }) e in
    paused_may shown then after (run_of shown.reads TURN_INSTRUCTIONS frames now lines) made (run_pauses shown.reads TURN_INSTRUCTIONS frames now lines keeps h (ap (λ x. x.end) w)) w values

-- and where it goes on, the process may have another turn
pub run_again_ok : (r : Result TurnEnd NoMemory) (shown seen : Shown) (p : PlainProcess) (held now then : Holds) (frames : List PlainFrame) (after : Process) (before lines made : List Line) → seen ≡ shown →
    KeepsStanding shown.reads → ArePlaced shown.reads p.frames → held ≡ frame_names (copied shown.reads p.frames) → stand_after held before (begun shown.reads p.target p.args held (copied shown.reads p.frames)) ≡ runs frames now lines →
    IfOk r (λ end. run_of seen.reads TURN_INSTRUCTIONS frames now lines ≡ record { frames = frames_of seen.words after.frames; held = then; made = made; end = end }) → IfOk r (λ end. AreValues seen after.frames) →
    IfOk r (λ end. end ≡ Again → MayTurn shown then after)
run_again_ok (Ok end) shown seen p held now then frames after before lines made e keeps placed names b r values =
    λ again. again_paused shown now then frames after lines made end keeps (begun_standing shown.reads keeps p held now frames before lines placed names b)
    (subst (λ (v : Shown). run_of v.reads TURN_INSTRUCTIONS frames now lines ≡ record { frames = frames_of v.words after.frames; held = then; made = made; end = end }) e r)
    (subst (λ (v : Shown). AreValues v after.frames) e values) again
run_again_ok (Err refused) shown seen p held now then frames after before lines made e keeps placed names b r values = tt
