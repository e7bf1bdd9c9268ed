-- What words and views show is a sound state: by grace the writer does not know of a readable generation to have passed.
use Rattle.std.proofs.Common.{◌≡◌, ℕ, ◌≤◌, List, length, length-append, length-drop, drop, sym, ap, ◌∙◌, arith}
use Rattle.std.proofs.lemmas.List.{length-replicate}
use Rattle.atomic_table.specs.Table.{State}
use Rattle.prgr_core.proofs.GraceHolds.{grace_holds}
use Rattle.prgr_core.specs.Machine.{machine_of}
use Rattle.area_core.specs.declared.table.Published.{Published}
use Rattle.area_core.specs.declared.map.TheConstants.{SLOTS_START}
use Rattle.area_core.specs.Map.{opening_words}
use Rattle.area_core.specs.Step.{IsReadable, IsSound}
use Rattle.area_core.proofs.Counted.{opened}
use Rattle.area_core.proofs.Fewer.{fewer_count}
use Rattle.shared_words.specs.declared.opening.Opening.{Opening}
use Rattle.shared_words.specs.declared.view.View.{View}
use Rattle.shared_words.specs.Shown.{progress_of, state_of}
use Rattle.shared_words.specs.Rule.{MayBeRead, blocks_shown, RunningRule}

-- so many zeros in front
pub front_length : length (opening_words SLOTS_START) ≡ SLOTS_START
front_length = ap (λ (ws : List ℕ). length ws) (sym (opened SLOTS_START)) ∙ length-replicate {A = ℕ} SLOTS_START 0

module _ {Served : Published → Type 0} {opening : Opening} (s : State (Unit {0}) View) (r : RunningRule Served opening s) where
  pub counts : (g : ℕ) → IsReadable (state_of s.words r.writer r.seats) g → MayBeRead r.writer g
  counts g readable pair among need =
      let reached = r.words.reached in
      let n : pair.need ≤ r.writer.counter = need in
      grace_holds (machine_of (progress_of s.words r.writer r.seats)) r.machine.progress.invariant pair.generation pair.need among (omega arith) g readable

  pub shows_sound : IsSound (state_of s.words r.writer r.seats)
  shows_sound = record {
    progress = r.machine.progress;
    blocks = fewer_count (blocks_shown s.words r.writer) (MayBeRead r.writer) (IsReadable (state_of s.words r.writer r.seats)) r.words.blocks counts;
    words = (let all = r.words.all in omega (arith, front_length, length-append (opening_words SLOTS_START) (drop SLOTS_START s.words), length-drop SLOTS_START s.words));
    published = (let first = r.published.some in omega arith);
  }
