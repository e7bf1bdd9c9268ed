-- What the calls of one who waits for a grace period leave of the writer, and of the member that leads.
use Rattle.std.proofs.Common.{◌≡◌, ℕ, [], ◌∷◌, ◌+◌, ◌≤◌, refl, sym, ap, subst, ◌∙◌}
use Rattle.area_core.specs.declared.table.Published.{Published}
use Rattle.area_core.specs.Blocks.{Among}
use Rattle.area_core.specs.Map.{word_at}
use Rattle.shared_words.specs.declared.view.MemberView.{MemberView}
use Rattle.shared_words.specs.declared.view.WriterView.{WriterView}
use Rattle.shared_words.specs.Kinds.{counter_kept}
use Rattle.shared_words.specs.Views.{newest_number}
use Rattle.shared_words.proofs.ShownMembers.{still_at}
use Rattle.progress_words.specs.Reports.{HoldsReported}
use Rattle.progress_words.specs.Needs.{HasLoadedCounter, HasTaken}
use Rattle.new_tables.specs.Running.{IsEmpty}
use Rattle.grace_bench.specs.Waiting.{HasAsked, IsOver}

-- ---- the writer

-- each load of the counter takes one more value
one_more : (w : WriterView) (counter : ℕ) → HasAsked w (counter_kept counter w)
one_more w counter = record { published = refl; words = refl; kept = refl; pairs = λ pair among. (among.0, still_at w.pairs (record { generation = newest_number w.published; need = counter + 2 } ∷ []) among.0 pair among.1) }

pub asked_now : (old new : WriterView) → HasLoadedCounter old new → HasAsked old new
asked_now old new loaded = subst (HasAsked old) (sym loaded.view) (one_more old loaded.counter)

-- what was taken before is over once it is reached
pub over_now : (old new : WriterView) (generation need : ℕ) → HasTaken old generation need → HasAsked old new → need ≤ new.counter → IsOver new generation
over_now old new generation need taken asked reached = record { need = need; taken = asked.pairs (record { generation = generation; need = need }) taken; reached = reached }

-- who has published empty generations alone has done so still
pub still_empty : (old new : WriterView) → HasAsked old new → IsEmpty old → IsEmpty new
still_empty old new asked empty = record {
  published = λ p among. empty.published p (subst (λ xs. Among xs p) asked.published among);
  words = λ place. ap (λ xs. word_at xs place) asked.words ∙ empty.words place;
  kept = asked.kept ∙ empty.kept;
}

-- ---- the member

-- a report and a try to raise the counter leave a leader without slots
pub still_none : (Served : Published → Type 0) (old between new : MemberView) (generation : ℕ) → HoldsReported Served old between generation → new.slots ≡ between.slots → old.slots ≡ [] → new.slots ≡ []
still_none Served old between new generation told kept none = kept ∙ ap (λ (m : MemberView). m.slots) told.view ∙ none
