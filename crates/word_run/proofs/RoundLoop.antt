-- A run from round to round: the script and the words are the same things under other names.
use Rattle.std.proofs.Common.{◌≡◌, ℕ, List, Option, Result, Ok, OnOk, sym, subst}
use Rattle.atomic_table.specs.Seated.{TableId}
use Rattle.term_core.specs.declared.atom.Mfa.{Mfa}
use Rattle.shared_words.specs.declared.opening.Opening.{Opening}
use Rattle.script_core.specs.declared.script.Script.{Script}
use Rattle.word_permit.specs.Runs.{IsOverWords, Run}
use Rattle.word_run.specs.declared.seat.Seat.{Seat}
use Rattle.word_run.specs.declared.sight.Sight.{Sight}
use Rattle.word_run.specs.Desks.{DeskState}
use Rattle.word_run.specs.Rounds.{IsRun}

-- what an answer tells where it came
pub on_at : {X E : Type 0} (P : Type 0) (r : Result X E) (x : X) → r ≡ Ok x → OnOk r P → P
on_at {X} {E} P r x is h = subst (λ (a : Result X E). OnOk a P) is h

-- the words are those of the run
pub words_as : (run : Option Run) (table fresh : TableId) (opening key : Opening) → fresh ≡ table → key ≡ opening → IsOverWords table opening run → IsOverWords fresh key run
words_as run table fresh opening key t k h = subst (λ (x : Opening). IsOverWords fresh x run) (sym k) (subst (λ (x : TableId). IsOverWords x opening run) (sym t) h)

module _ {T I : Type 0} (functions : List Mfa) where
  -- the script is the one on the desk
  pub own_run : (s : Script) (table : TableId) (opening : Opening) (d : DeskState) (inboxes : List ℕ) (seats : List (Seat T I)) (sight : Sight) → IsRun functions s table opening d inboxes seats sight
      → IsRun functions d.book.plain.script table opening d inboxes seats sight
  own_run s table opening d inboxes seats sight run = subst (λ (x : Script). IsRun functions x table opening d inboxes seats sight) (sym run.script_is) run

  -- the words are the same
  pub run_as : (s other : Script) (table fresh : TableId) (opening key : Opening) (d : DeskState) (inboxes : List ℕ) (seats : List (Seat T I)) (sight : Sight) → other ≡ s → fresh ≡ table → key ≡ opening
      → IsRun functions s table opening d inboxes seats sight → IsRun functions other fresh key d inboxes seats sight
  run_as s other table fresh opening key d inboxes seats sight is t k run =
      subst (λ (x : Script). IsRun functions x fresh key d inboxes seats sight) (sym is)
      (subst (λ (x : Opening). IsRun functions s fresh x d inboxes seats sight) (sym k)
      (subst (λ (x : TableId). IsRun functions s x opening d inboxes seats sight) (sym t) run))
