-- What the code's turn has at hand: the frames with which it begins, and a loop over a view that shows the same all the while.
use Rattle.std.proofs.Common.{◌≡◌, ◌∙◌, sym, ap, subst, List, ◌∷◌, Result, Ok, Err, IfOk, OnOk}
use Rattle.term_core.specs.declared.no_memory.NoMemory.{NoMemory}
use Rattle.machine_core.specs.declared.outcome.Outcome.{Outcome}
use Rattle.machine_core.specs.declared.process.End.{End}
use Rattle.machine_core.specs.declared.process.Frame.{Frame as CodeFrame}
use Rattle.machine_core.specs.declared.process.Line.{Line}
use Rattle.machine_core.specs.declared.process.TheConstants.{TURN_INSTRUCTIONS}
use Rattle.machine_core.specs.declared.process.TurnEnd.{TurnEnd}
use Rattle.machine_core.specs.Holds.{Holds}
use Rattle.machine_core.specs.Process.{PlainProcess, frame_names, frame_of, frames_of}
use Rattle.machine_core.specs.View.{AreValues, HasValues, Shown}
use Rattle.machine_core.specs.Turn.{ArePlaced, begun, copied, paused, run_of, step_of}
use Rattle.machine_core.specs.Stand.{AreReady, stand_after, stand_entered, stand_of, runs}
use Rattle.machine_core.proofs.Placing.{KeepsStanding}
use Rattle.machine_core.proofs.Turns.{begun_standing}

-- with what a turn begins: the topmost frame and those below it, after the literals were copied
pub record IsBegun (shown : Shown) (p : PlainProcess) (now then : Holds) (top : CodeFrame) (below : List CodeFrame) (before lines : List Line) : Type 0 where
  pub names : now ≡ frame_names (copied shown.reads p.frames)
  pub begins : stand_after now before (begun shown.reads p.target p.args now (copied shown.reads p.frames)) ≡ runs (frame_of shown.words top ∷ frames_of shown.words below) then lines

pub begun_at : (shown one two : Shown) (p : PlainProcess) (old copies below : List CodeFrame) (now then : Holds) (top : CodeFrame) (entered : Result CodeFrame End) (before lines : List Line) → one ≡ shown → two ≡ one → p.frames ≡ frames_of shown.words old →
    frames_of one.words copies ≡ copied one.reads (frames_of one.words old) → now ≡ frame_names (copied one.reads (frames_of one.words old)) → entered ≡ Ok top →
    stand_after now before (begun two.reads p.target p.args now (frames_of two.words copies)) ≡ stand_entered two.words entered (frames_of two.words below) then lines → IsBegun shown p now then top below before lines
begun_at shown one two p old copies below now then top entered before lines e k f c n is b =
    let same : frames_of shown.words copies ≡ copied shown.reads p.frames = subst (λ (v : Shown). frames_of v.words copies ≡ copied v.reads (frames_of v.words old)) e c ∙ ap (copied shown.reads) (sym f) in
    let here = subst (λ (v : Shown). stand_after now before (begun v.reads p.target p.args now (frames_of v.words copies)) ≡ stand_entered v.words entered (frames_of v.words below) then lines) (k ∙ e) b in
    record {
      names = subst (λ (v : Shown). now ≡ frame_names (copied v.reads (frames_of v.words old))) e n ∙ ap (λ fs. frame_names (copied shown.reads fs)) (sym f);
      begins = ap (λ fs. stand_after now before (begun shown.reads p.target p.args now fs)) (sym same) ∙ here ∙ ap (λ r. stand_entered shown.words r (frames_of shown.words below) then lines) is;
    }

-- the values of the frame that a turn begins with
pub entered_values : (shown seen : Shown) (top : CodeFrame) (entered : Result CodeFrame End) → seen ≡ shown → entered ≡ Ok top → IfOk entered (HasValues seen) → HasValues shown top
entered_values shown seen top entered e is h = subst (λ (v : Shown). HasValues v top) e (rw is at h)

-- these frames are ready
pub begun_ready : (shown seen three : Shown) (p : PlainProcess) (now then : Holds) (top : CodeFrame) (below : List CodeFrame) (before lines : List Line) (entered : Result CodeFrame End) → KeepsStanding shown.reads → three ≡ shown → seen ≡ shown → ArePlaced shown.reads p.frames →
    IsBegun shown p now then top below before lines → entered ≡ Ok top → IfOk entered (HasValues seen) → AreValues seen below → AreReady three then top below
begun_ready shown seen three p now then top below before lines entered keeps t e placed b is h vs =
    subst (λ (v : Shown). AreReady v then top below) (sym t)
    (record {
      frames = begun_standing shown.reads keeps p now then (frame_of shown.words top ∷ frames_of shown.words below) before lines placed b.names b.begins;
      top_values = entered_values shown seen top entered e is h;
      below_values = subst (λ (v : Shown). AreValues v below) e vs;
    })

-- what a run of instructions gives
abbrev pub RunsSo : Shown → CodeFrame → List CodeFrame → Holds → List Line → List CodeFrame → Holds → List Line → TurnEnd → Type 0
RunsSo shown top below now lines after then made end =
    run_of shown.reads TURN_INSTRUCTIONS (frame_of shown.words top ∷ frames_of shown.words below) now lines ≡ record { frames = frames_of shown.words after; held = then; made = made; end = end }

pub runs_seen : (r : Result TurnEnd NoMemory) (shown seen : Shown) (top : CodeFrame) (below after : List CodeFrame) (now then : Holds) (lines made : List Line) → seen ≡ shown →
    IfOk r (RunsSo seen top below now lines after then made) → IfOk r (RunsSo shown top below now lines after then made)
runs_seen (Ok end) shown seen top below after now then lines made e h = subst (λ (v : Shown). RunsSo v top below now lines after then made end) e h
runs_seen (Err refused) shown seen top below after now then lines made e h = tt

-- its frames have values
pub values_seen : (r : Result TurnEnd NoMemory) (shown seen : Shown) (after : List CodeFrame) → seen ≡ shown → IfOk r (λ _. AreValues seen after) → IfOk r (λ _. AreValues shown after)
values_seen (Ok end) shown seen after e h = subst (λ (v : Shown). AreValues v after) e h
values_seen (Err refused) shown seen after e h = tt

-- ---- the loop

-- an instruction, under what is shown all the while
pub step_seen : (shown seen : Shown) (top after : CodeFrame) (below left : List CodeFrame) (held now : Holds) (made lines : List Line) (o : Outcome) → seen ≡ shown →
    stand_after held made (step_of seen.reads (frame_of seen.words top ∷ frames_of seen.words below) held) ≡ stand_of o (frame_of seen.words after ∷ frames_of seen.words left) now lines →
    stand_after held made (step_of shown.reads (frame_of shown.words top ∷ frames_of shown.words below) held) ≡ stand_of o (frame_of shown.words after ∷ frames_of shown.words left) now lines
step_seen shown seen top after below left held now made lines o e h =
    subst (λ (v : Shown). stand_after held made (step_of v.reads (frame_of v.words top ∷ frames_of v.words below) held) ≡ stand_of o (frame_of v.words after ∷ frames_of v.words left) now lines) e h

-- a pause
pub pause_seen : (r : Result TurnEnd NoMemory) (shown seen : Shown) (top : CodeFrame) (below after : List CodeFrame) (now : Holds) → seen ≡ shown →
    IfOk r (λ end. (made : List Line) → paused (frame_of seen.words top ∷ frames_of seen.words below) made ≡ record { frames = frames_of seen.words after; held = now; made = made; end = end }) →
    IfOk r (λ end. (made : List Line) → paused (frame_of shown.words top ∷ frames_of shown.words below) made ≡ record { frames = frames_of shown.words after; held = now; made = made; end = end })
pause_seen (Ok end) shown seen top below after now e h = subst (λ (v : Shown). (made : List Line) → paused (frame_of v.words top ∷ frames_of v.words below) made ≡ record { frames = frames_of v.words after; held = now; made = made; end = end }) e h
pause_seen (Err refused) shown seen top below after now e h = tt

-- the values that a pause leaves
pub paused_values : (r : Result TurnEnd NoMemory) (shown seen : Shown) (after : List CodeFrame) → seen ≡ shown → OnOk r (AreValues seen after) → IfOk r (λ _. AreValues shown after)
paused_values (Ok end) shown seen after e h = subst (λ (v : Shown). AreValues v after) e h
paused_values (Err refused) shown seen after e h = tt

-- frames that are ready, under what is shown still
pub ready_seen : (shown seen : Shown) (held : Holds) (top : CodeFrame) (below : List CodeFrame) → seen ≡ shown → AreReady shown held top below → AreReady seen held top below
ready_seen shown seen held top below e h = subst (λ (v : Shown). AreReady v held top below) (sym e) h
