-- What a change waits for is the same from call to call.
use Rattle.std.proofs.Common.{◌≡◌, ℕ, ◌≤◌, length, Some, refl, sym, ap, subst, ◌∙◌, arith}
use Rattle.std.specs.Prelude.{slice_index}
use Rattle.std.proofs.lemmas.Option.{none-some, same_Some}
use Rattle.shared_words.specs.declared.view.WriterView.{WriterView}
use Rattle.shared_words.specs.Views.{newest_number}
use Rattle.progress_words.specs.declared.answers.NotYet.{NotYet}
use Rattle.progress_words.specs.Needs.{HasLoadedCounter, HasTaken}
use Rattle.progress_words.specs.Tokens.{written_by}
use Rattle.server_core.specs.declared.change.Change.{Change}
use Rattle.server_core.specs.declared.change.Change.TheVariants.{BringIn, MakeOld, HoldWord, HoldArea, Forget}
use Rattle.breakpoints.specs.Patches.{LoadsCounter}
use Rattle.breakpoints.proofs.Others.{counted_loads, counted_longer}
use Rattle.code_index.specs.declared.index.Staging.{Staging}
use Rattle.code_index.specs.declared.index.Staging.TheVariants as indices
use Rattle.code_index.specs.Committed.{IsWaiting, TakesNeed}
use Rattle.code_index.specs.Staging.{GoesWith}
use Rattle.term_table.specs.Staged as terms
use Rattle.term_table.specs.Tables.{Terms, staging_table}
use Rattle.staging.specs.declared.tables.Tables.{Tables}
use Rattle.staging.specs.Stages.{IsCodeChange, IsKeyChange, IsLate, IsLateFor, awaited_by, commit_need, table_need}

-- a change of code waits for its commit
code_awaits : (change : Change) (t : Tables) → IsCodeChange change → awaited_by change t ≡ commit_need t.index
code_awaits (BringIn generation modules areas versions) t code = refl
code_awaits (MakeOld generation name) t code = refl
code_awaits change t code = absurd code

-- and one of a key for the term table
key_awaits : (change : Change) (t : Tables) → IsKeyChange change → awaited_by change t ≡ Some (table_need t)
key_awaits (HoldWord generation key term keys retired) t is = refl
key_awaits (HoldArea generation key term kept areas keys retired) t is = refl
key_awaits (Forget generation key retired) t is = refl
key_awaits change t is = absurd is

-- the value of a commit was taken while the newest generation was this one
need_taken : (x : Staging) (w : WriterView) (need : ℕ) → GoesWith x w → commit_need x ≡ Some need → HasTaken w (newest_number w.published) need
need_taken indices.Nothing w need goes is = absurd (none-some need is)
need_taken (indices.Staged block) w need goes is = absurd (none-some need is)
need_taken (indices.Committing block kept) w need goes is = subst (HasTaken w (newest_number w.published)) (same_Some kept need is) goes.1

-- what a commit waited for before it waits for still
need_kept : (x : Staging) (old begun : WriterView) (need kept : ℕ) → TakesNeed x old begun need → commit_need x ≡ Some kept → need ≡ kept
need_kept indices.Nothing old begun need kept took is = absurd took
need_kept (indices.Staged block) old begun need kept took is = absurd (none-some kept is)
need_kept (indices.Committing block was) old begun need kept took is = took.1 ∙ same_Some was kept is

-- a commit loads the counter once, and once more in its first call
commit_loads : (x : Staging) (old begun new : WriterView) (need : ℕ) → TakesNeed x old begun need → HasLoadedCounter begun new → LoadsCounter old new
commit_loads indices.Nothing old begun new need took loaded = absurd took
commit_loads (indices.Staged block) old begun new need took loaded =
    let first : HasLoadedCounter old begun = record { counter = took.counter; range = took.range; rising = took.rising; view = took.view } in
    let one = counted_longer old begun first in
    let two = counted_longer begun new loaded in
    omega (arith, one, two)
commit_loads (indices.Committing block kept) old begun new need took loaded = subst (λ (w : WriterView). LoadsCounter w new) took.0 (counted_loads begun new loaded)

-- so it is of the tables before several steps
pub late_since : (old mid new : Tables) (answer : NotYet) → length (written_by old.writer).pairs ≤ length (written_by mid.writer).pairs → IsLate mid new answer → IsLate old new answer
late_since old mid new answer longer late = record { loads = (let loads = late.loads in omega (arith, longer, loads)); loaded = late.loaded; below = late.below }

-- a commit waits
pub late_code : (change : Change) (old new : Tables) (answer : NotYet) → IsCodeChange change → IsWaiting old.index new.index (written_by old.writer) (written_by new.writer) answer → GoesWith new.index (written_by new.writer) → IsLateFor change old new answer
late_code change old new answer code waiting goes = record {
  late = record { loads = commit_loads old.index (written_by old.writer) waiting.asked.begun (written_by new.writer) answer.need waiting.asked.waits.taken waiting.asked.loaded; loaded = waiting.loaded; below = waiting.below };
  awaited = code_awaits change new code ∙ ap commit_need waiting.asked.waits.index;
  kept = λ need is. need_kept old.index (written_by old.writer) waiting.asked.begun answer.need need waiting.asked.waits.taken (sym (code_awaits change old code) ∙ is);
  taken = λ need is. need_taken new.index (written_by new.writer) need goes is;
}

-- a load of the counter leaves what the term table asks for
table_loaded : (old new : Tables) → HasLoadedCounter (written_by old.writer) (written_by new.writer) → new.terms ≡ old.terms → table_need new ≡ table_need old
table_loaded old new loaded terms =
    ap (λ (t : Terms). table_of t (written_by new.writer)) terms ∙ ap (table_of old.terms) loaded.view
  where
    table_of : Terms → WriterView → ℕ
    table_of t w = slice_index t.needs (staging_table w)

-- a key waits for the term table in which it would be staged
pub late_key : (change : Change) (old new : Tables) (answer : NotYet) → IsKeyChange change → new.terms ≡ old.terms → terms.IsWaiting old.terms (written_by old.writer) (written_by new.writer) answer → GoesWith new.index (written_by new.writer) → IsLateFor change old new answer
late_key change old new answer key terms waiting goes = record {
  late = record { loads = counted_loads (written_by old.writer) (written_by new.writer) waiting.loaded; loaded = waiting.current; below = waiting.below };
  awaited = key_awaits change new key ∙ ap Some (table_loaded old new waiting.loaded terms ∙ sym waiting.asked);
  kept = λ need is. waiting.asked ∙ same_Some (table_need old) need (sym (key_awaits change old key) ∙ is);
  taken = λ need is. need_taken new.index (written_by new.writer) need goes is;
}
