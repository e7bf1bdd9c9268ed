-- Turns that were made under generations, taken apart and put together.
use Rattle.std.proofs.Common.{◌≡◌, ℕ, List, [], ◌∷◌, ◌++◌, map, refl, sym, ap, subst, ◌∙◌}
use Rattle.std.specs.List.{AllByRecursion}
use Rattle.marks.specs.declared.mark.Mark.{Mark as WordMark}
use Rattle.machine_core.specs.Reads.{Reads}
use Rattle.machine_core.specs.Turn.{turn_by}
use Rattle.run_log.specs.Legal.{Mark}
use Rattle.run_steps.specs.MadeTurns.{TurnsMade, marks_made, turned_by}
use Rattle.run_steps.specs.Stands.{Stand}
use Rattle.run_law.specs.Reading.{MarksTell}

-- the generations of marks
abbrev pub under_which : List WordMark → List ℕ
under_which marks = map (λ (m : WordMark). m.generation) marks

pub told_under : (reads : ℕ → Reads) (marks : List WordMark) (generations : List ℕ) (x : Stand) → MarksTell marks (marks_made reads generations x) → under_which marks ≡ generations
told_under reads [] [] x told = refl
told_under reads [] (g ∷ generations) x told = absurd told
told_under reads (m ∷ marks) [] x told = absurd told
told_under reads (m ∷ marks) (g ∷ generations) x told =
    ap (λ (n : ℕ). n ∷ under_which marks) told.0 ∙ ap (λ (ns : List ℕ). g ∷ ns) (told_under reads marks generations (turned_by (reads g) g x) told.1.1)

-- what is left behind the first of the marks, and how the process stood then
pub record MadeBehind (reads : ℕ → Reads) (marks : List WordMark) (x y : Stand) : Type 0 where
  pub made : TurnsMade reads (under_which marks) x y
  pub told : MarksTell marks (marks_made reads (under_which marks) x)

pub made_behind : (reads : ℕ → Reads) (first marks : List WordMark) (generations : List ℕ) (x y z : Stand) → MarksTell (first ++ marks) (marks_made reads generations x) → TurnsMade reads generations x y
    → TurnsMade reads (under_which first) x z → MadeBehind reads marks z y
made_behind reads [] marks generations x y z told made is =
    let same : under_which marks ≡ generations = told_under reads marks generations x told in
    subst (λ (s : Stand). MadeBehind reads marks s y) (sym is) (record {
      made = subst (λ (gs : List ℕ). TurnsMade reads gs x y) (sym same) made;
      told = subst (λ (gs : List ℕ). MarksTell marks (marks_made reads gs x)) (sym same) told;
    })
made_behind reads (m ∷ first) marks [] x y z told made turned = absurd told
made_behind reads (m ∷ first) marks (g ∷ generations) x y z told made turned =
    made_behind reads first marks generations (turned_by (reads g) g x) y z told.1.1 made.1
    (subst (λ (n : ℕ). TurnsMade reads (under_which first) (turned_by (reads n) n x) z) told.0 turned.1)

-- ---- two ways to read that are one under these generations

module _ (Kind : ℕ → Type 0) (reads others : ℕ → Reads) (same : (g : ℕ) → Kind g → reads g ≡ others g) where
  pub made_same : (generations : List ℕ) (x y : Stand) → AllByRecursion Kind generations → TurnsMade reads generations x y → TurnsMade others generations x y
  made_same [] x y each made = made
  made_same (g ∷ generations) x y each made =
      (made.0, subst (λ (r : Reads). TurnsMade others generations (turned_by r g x) y) (same g each.0) (made_same generations (turned_by (reads g) g x) y each.1 made.1))

  pub marks_same : (generations : List ℕ) (x : Stand) → AllByRecursion Kind generations → marks_made reads generations x ≡ marks_made others generations x
  marks_same [] x each = refl
  marks_same (g ∷ generations) x each =
      ap (λ (ms : List Mark). record { generation = g; process = (turn_by (reads g) x.process).process } ∷ ms) (marks_same generations (turned_by (reads g) g x) each.1)
      ∙ ap (λ (r : Reads). record { generation = g; process = (turn_by r x.process).process } ∷ marks_made others generations (turned_by r g x)) (same g each.0)

-- ---- one row behind another

module _ (reads : ℕ → Reads) where
  pub made_joined : (first later : List ℕ) (x y z : Stand) → TurnsMade reads first x y → TurnsMade reads later y z → TurnsMade reads (first ++ later) x z
  made_joined [] later x y z is made = subst (λ (s : Stand). TurnsMade reads later s z) is made
  made_joined (g ∷ first) later x y z turned made = (turned.0, made_joined first later (turned_by (reads g) g x) y z turned.1 made)

  pub marks_joined : (first later : List ℕ) (x y : Stand) → TurnsMade reads first x y → marks_made reads (first ++ later) x ≡ marks_made reads first x ++ marks_made reads later y
  marks_joined [] later x y is = ap (marks_made reads later) (sym is)
  marks_joined (g ∷ first) later x y turned =
      ap (λ (ms : List Mark). record { generation = g; process = (turn_by (reads g) x.process).process } ∷ ms) (marks_joined first later (turned_by (reads g) g x) y turned.1)

pub tells_joined : (first later : List WordMark) (turns more : List Mark) → MarksTell first turns → MarksTell later more → MarksTell (first ++ later) (turns ++ more)
tells_joined [] later [] more h then = then
tells_joined [] later (t ∷ turns) more h then = absurd h
tells_joined (m ∷ first) later [] more h then = absurd h
tells_joined (m ∷ first) later (t ∷ turns) more h then = (h.0, (h.1.0, tells_joined first later turns more h.1.1 then))

pub all_weaker : (P Q : ℕ → Type 0) → ((g : ℕ) → P g → Q g) → (generations : List ℕ) → AllByRecursion P generations → AllByRecursion Q generations
all_weaker P Q f [] h = tt
all_weaker P Q f (g ∷ generations) h = (f g h.0, all_weaker P Q f generations h.1)

pub all_joined : (P : ℕ → Type 0) (first later : List ℕ) → AllByRecursion P first → AllByRecursion P later → AllByRecursion P (first ++ later)
all_joined P [] later h then = then
all_joined P (g ∷ first) later h then = (h.0, all_joined P first later h.1 then)
