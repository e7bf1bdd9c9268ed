-- Turns that were made one by one under the journal's states are those of the process's log.
use Rattle.std.proofs.Common.{◌≡◌, ℕ, ◌<◌, ◌≤◌, List, [], ◌∷◌, ◌++◌, None, IsTrue, refl, sym, ap, subst, ◌∙◌, arith}
use Rattle.std.proofs.lemmas.List.{append_assoc, append-nil}
use Rattle.std.specs.List.{AllByRecursion}
use Rattle.server_core.specs.ServerState.{ServerState, is_retired}
use Rattle.machine_core.specs.Holds.{is_among}
use Rattle.machine_core.specs.Process.{PlainProcess, names_of, new_process}
use Rattle.machine_core.specs.Reads.{Reads}
use Rattle.machine_core.specs.ServerReads.{reads_of}
use Rattle.machine_core.specs.Turn.{ArePlaced, Turn, turn_by}
use Rattle.script_core.specs.Processes.{SpawnLine}
use Rattle.run_log.specs.declared.logs.Entry.{Entry}
use Rattle.run_log.specs.Journal.{published_before}
use Rattle.run_log.specs.Legal.{Mark, marks_of}
use Rattle.run_log.proofs.StatesForTurns.{for_turns}
use Rattle.run_steps.specs.declared.phase.Phase.{Phase}
use Rattle.run_steps.specs.declared.phase.Phase.TheVariants.{Going}
use Rattle.run_steps.specs.MadeTurns.{AreAlsoMade, AreBetween, ArePlacedOver, HasOneMore, MadeAs, TurnsAlike, TurnsMade, marks_made, turned_by}
use Rattle.run_steps.specs.Stands.{Stand, going_stand, phase_after}
use Rattle.run_steps.specs.Standing.{IsSpawned, StandsIn}
use Rattle.run_steps.specs.Turns.{joined, turned}
use Rattle.run_steps.proofs.Joining.{stands_kept}
use Rattle.run_steps.proofs.TurnDefinition.{turned_had}
use Rattle.run_steps.proofs.Turning.{turn_marks, turn_stands}

module _ (journal : List Entry) (states : ℕ → ServerState) (top done number : ℕ) (line : SpawnLine) (spawned : line.place < done)
    (own : (g : ℕ) → g ≤ top → (states g).generation ≡ g) where
  abbrev reads : ℕ → Reads
  reads g = reads_of (states g)

  abbrev first : PlainProcess
  first = new_process number line.target line.args

  abbrev fits : ℕ → Stand → Phase → Type 0
  fits highest x phase = StandsIn journal states highest done number line x phase

  raised : (low high : ℕ) (x : Stand) (phase : Phase) → low ≤ high → fits low x phase → fits high x phase
  raised low high x phase more h =
      stands_kept journal journal states states low high done done number line x
      (record { same = λ g b. refl; later = more; before = λ s. refl; as_many = omega arith }) phase (λ b. b) h

  -- one turn under the state of a generation
  module _ (g : ℕ) (x : Stand) (at : g ≤ top) (going : x.phase ≡ Going) (h : fits g x x.phase) where
    abbrev after : Stand
    after = turned (states g) x

    is : (states g).generation ≡ g
    is = own g at

    goes : IsSpawned journal states (states g).generation done number line x None
    goes = subst (λ (n : ℕ). IsSpawned journal states n done number line x None) (sym is) (subst (fits g x) going h)

    same_states : for_turns (states (states g).generation) ≡ for_turns (states g)
    same_states = ap (λ (n : ℕ). for_turns (states n)) is

    same_retired : (serial : ℕ) → IsTrue (is_among (names_of x.process).literals serial) → is_retired (states (states g).generation) serial ≡ is_retired (states g) serial
    same_retired serial named = ap (λ (n : ℕ). is_retired (states n) serial) is

    same : after ≡ turned_by (reads g) g x
    same = ap (λ (n : ℕ). turned_by (reads g) n x) is

    pub turn_fits : published_before line.loader line.place journal ≤ g → fits g (turned_by (reads g) g x) (turned_by (reads g) g x).phase
    turn_fits later =
        subst (λ (y : Stand). fits g y y.phase) same
        (subst (λ (n : ℕ). fits n after after.phase) is
        (turn_stands journal states (states g) done number line x after same_states same_retired goes (turned_had (states g) x after refl)
        (subst (λ (n : ℕ). published_before line.loader line.place journal ≤ n) (sym is) later)))

    pub turn_adds : marks_of states first (turned_by (reads g) g x).spans
        ≡ marks_of states first x.spans ++ record { generation = g; process = (turn_by (reads g) x.process).process } ∷ []
    turn_adds =
        ap (λ (y : Stand). marks_of states first y.spans) (sym same)
        ∙ turn_marks journal states (states g) done number line x after same_states same_retired goes (turned_had (states g) x after refl)
        ∙ ap (λ (n : ℕ). marks_of states first x.spans ++ record { generation = n; process = (turn_by (reads g) x.process).process } ∷ []) is

  -- what a process that had turns already becomes by more
  record MoreMade (generations : List ℕ) (x y : Stand) : Type 0 where
    stands : fits top y y.phase
    marks : marks_of states first y.spans ≡ marks_of states first x.spans ++ marks_made reads generations x

  more_made : (generations : List ℕ) (low : ℕ) (x y : Stand) → low ≤ top → published_before line.loader line.place journal ≤ low → AreBetween low top generations
      → fits low x x.phase → TurnsMade reads generations x y → MoreMade generations x y
  more_made [] low x y below later between h made = record {
    stands = subst (λ (z : Stand). fits top z z.phase) (sym made) (raised low top x x.phase below h);
    marks = ap (λ (z : Stand). marks_of states first z.spans) made ∙ sym (append-nil (marks_of states first x.spans));
  }
  more_made (g ∷ generations) low x y below later between h made =
      let here = raised low g x x.phase between.0 h in
      let next = turned_by (reads g) g x in
      let reach : published_before line.loader line.place journal ≤ g = omega (arith, later, between.0) in
      let rest = more_made generations g next y between.1.0 reach between.1.1 (turn_fits g x between.1.0 made.0 here reach) made.1 in
      record {
        stands = rest.stands;
        marks = rest.marks ∙ ap (λ (ms : List Mark). ms ++ marks_made reads generations next) (turn_adds g x between.1.0 made.0 here)
            ∙ append_assoc (marks_of states first x.spans) (record { generation = g; process = (turn_by (reads g) x.process).process } ∷ []) (marks_made reads generations next);
      }

  pub made_follow : (generations : List ℕ) (y : Stand) → published_before line.loader line.place journal ≤ top
      → AreBetween (published_before line.loader line.place journal) top generations → TurnsMade reads generations (going_stand number line.target line.args) y
      → MadeAs journal states top done number line generations y
  made_follow generations y below between made =
      let begun : fits (published_before line.loader line.place journal) (going_stand number line.target line.args) Going = record {
        was = record { spawned = spawned; numbered = refl; target = refl; args = refl; started = tt; known = tt; whole = record { turns = tt; apart = tt } };
        follow = refl;
      } in
      let all = more_made generations (published_before line.loader line.place journal) (going_stand number line.target line.args) y below (omega arith) between begun made in
      record { stands = all.stands; marks = all.marks }

-- ---- two ways to read

module _ (reads others : ℕ → Reads) where
  next_same : (g : ℕ) (x : Stand) → turn_by (reads g) x.process ≡ turn_by (others g) x.process → turned_by (reads g) g x ≡ turned_by (others g) g x
  next_same g x same = ap (λ (t : Turn). record { process = t.process; spans = joined g t.made x.spans; phase = phase_after t.end }) same

  pub made_alike : (generations : List ℕ) (x y : Stand) → AllByRecursion (λ g. TurnsAlike (reads g) (others g)) generations → ArePlacedOver reads generations x
      → TurnsMade reads generations x y → AreAlsoMade others generations (marks_made reads generations x) x y
  made_alike [] x y alike placed made = record { made = made; marks_are = refl }
  made_alike (g ∷ generations) x y alike placed made =
      let same = alike.0 x.process placed.0 in
      let next = next_same g x same in
      let after = turned_by (reads g) g x in
      let rest = made_alike generations after y alike.1 placed.1 made.1 in
      record {
        made = (made.0, subst (λ (z : Stand). TurnsMade others generations z y) next rest.made);
        marks_are = ap (λ (t : Turn). record { generation = g; process = t.process } ∷ marks_made reads generations after) same
            ∙ ap (λ (ms : List Mark). record { generation = g; process = (turn_by (others g) x.process).process } ∷ ms) (rest.marks_are ∙ ap (marks_made others generations) next);
      }

-- ---- one turn more

pub one_more : (reads : ℕ → Reads) (generations : List ℕ) (g : ℕ) (x y : Stand) → TurnsMade reads generations x y → ArePlacedOver reads generations x → y.phase ≡ Going
    → ArePlaced (reads g) y.process.frames → HasOneMore reads generations g x y
one_more reads [] g x y made placed going here = record {
  made = (subst (λ (z : Stand). z.phase ≡ Going) made going, ap (turned_by (reads g) g) made);
  placed = (subst (λ (z : Stand). ArePlaced (reads g) z.process.frames) made here, tt);
  marks_are = ap (λ (z : Stand). record { generation = g; process = (turn_by (reads g) z.process).process } ∷ []) (sym made);
}
one_more reads (h ∷ generations) g x y made placed going here =
    let rest = one_more reads generations g (turned_by (reads h) h x) y made.1 placed.1 going here in
    record {
      made = (made.0, rest.made);
      placed = (placed.0, rest.placed);
      marks_are = ap (λ (ms : List Mark). record { generation = h; process = (turn_by (reads h) x.process).process } ∷ ms) rest.marks_are;
    }
