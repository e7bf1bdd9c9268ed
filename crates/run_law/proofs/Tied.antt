-- A turn by the words of a generation that was learnt of is the turn under the state of the journal.
use Rattle.std.proofs.Common.{◌≡◌, ℕ, zero, suc, ◌<◌, List, [], ◌∷◌, ◌++◌, length, slice_get, Option, Some, refl, sym, ap, subst, ◌∙◌}
use Rattle.std.specs.List.{AllByRecursion}
use Rattle.std.specs.Prelude.{unwrap_or}
use Rattle.term_core.specs.declared.atom.Mfa.{Mfa}
use Rattle.mod_core.specs.declared.code.Module.{Module}
use Rattle.area_core.specs.declared.table.Published.{Published}
use Rattle.area_core.specs.Step.{opening_published}
use Rattle.shared_words.specs.Views.{published_at}
use Rattle.server_core.specs.Generations.{generation_of}
use Rattle.server_core.specs.ServerState.{ServerState, empty_state}
use Rattle.machine_core.specs.GenerationReads.{reads_in}
use Rattle.machine_core.specs.Reads.{Reads}
use Rattle.machine_core.specs.ServerReads.{reads_of}
use Rattle.machine_core.specs.Turn.{ArePlaced, turn_by}
use Rattle.machine_core.proofs.GenerationTurns.{generation_ran}
use Rattle.code_law.proofs.States.{empty_reads}
use Rattle.run_log.specs.declared.logs.Entry.{Entry}
use Rattle.run_log.proofs.ListPlaces.{all_weaker, get_within}
use Rattle.run_steps.specs.MadeTurns.{AreAlsoMade, ArePlacedOver, TurnsAlike, TurnsMade, marks_made}
use Rattle.run_steps.specs.Stands.{Stand}
use Rattle.run_steps.proofs.MadeTurns.{made_alike}
use Rattle.run_law.specs.Laws.{AreLearnt}
use Rattle.run_law.specs.Published.{shown_at, states_of}
use Rattle.run_law.specs.Reading.{reads_under}
use Rattle.run_law.proofs.States.{journal_good}

-- what stands in a front stands in the whole
front_at : (front rest : List Published) (k : ℕ) (p : Published) → slice_get front k ≡ Some p → slice_get (front ++ rest) k ≡ Some p
front_at [] rest k p at = absurd (cc)
front_at (q ∷ front) rest zero p at = at
front_at (q ∷ front) rest (suc k) p at = front_at front rest k p at

-- generation 0 of a journal is that of the empty state
first_state : (texts : List Module) (journal : List Entry) → states_of texts journal 0 ≡ empty_state
first_state texts [] = refl
first_state texts (e ∷ journal) = refl

module _ (names : List Mfa) (texts : List Module) (journal : List Entry) where
  -- what is read of a generation is read of the generation of the state
  shown_reads : (g : ℕ) → reads_in names (shown_at names texts journal g) ≡ reads_in names (generation_of names (states_of texts journal g))
  shown_reads zero = empty_reads names ∙ ap (λ (s : ServerState). reads_in names (generation_of names s)) (sym (first_state texts journal))
  shown_reads (suc k) = refl

  module _ (seen : List Published) (l : AreLearnt names texts journal seen) where
    -- what was learnt of under a number is that generation of the journal
    learnt_at : (g : ℕ) → g < length seen → (published_at seen g).state ≡ shown_at names texts journal g
    learnt_at g below =
        let p = get_within seen g below in
        let there : slice_get l.published g ≡ Some p.0 = ap (λ (xs : List Published). slice_get xs g) l.beginning.1 ∙ front_at seen l.beginning.0 g p.0 p.1 in
        ap (λ (o : Option Published). (unwrap_or o opening_published).state) p.1 ∙ l.are.each g p.0 there

    pub reads_tied : (g : ℕ) → g < length seen → reads_under names seen g ≡ reads_in names (generation_of names (states_of texts journal g))
    reads_tied g below =
        ap (reads_in names) (learnt_at g below) ∙ shown_reads g

    pub turns_tied : (g : ℕ) → g < length seen → TurnsAlike (reads_under names seen g) (reads_of (states_of texts journal g))
    turns_tied g below p placed =
        let tied = reads_tied g below in
        let good = journal_good names texts journal g l.replayed in
        ap (λ (r : Reads). turn_by r p) tied
        ∙ (generation_ran names (states_of texts journal g) good.sound good.numbered p (subst (λ (r : Reads). ArePlaced r p.frames) tied placed)).turn

    pub made_tied : (generations : List ℕ) (x y : Stand) → AllByRecursion (λ g. g < length seen) generations
        → ArePlacedOver (reads_under names seen) generations x → TurnsMade (reads_under names seen) generations x y
        → AreAlsoMade (λ g. reads_of (states_of texts journal g)) generations (marks_made (reads_under names seen) generations x) x y
    made_tied generations x y below placed made =
        made_alike (reads_under names seen) (λ g. reads_of (states_of texts journal g)) generations x y
        (all_weaker (λ g. g < length seen) (λ g. TurnsAlike (reads_under names seen g) (reads_of (states_of texts journal g))) turns_tied generations below) placed made
