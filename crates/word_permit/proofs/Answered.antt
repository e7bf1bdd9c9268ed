-- What the journal tells of processes is kept in the words, whatever joins the journal and whatever the writer keeps besides.
use Rattle.std.proofs.Common.{◌≡◌, ℕ, zero, suc, ◌+◌, ◌⊎◌, inl, inr, List, [], ◌∷◌, ◌++◌, length, slice_get, Option, Some, None, IfSome, sym, ap, subst, ◌∙◌, arith}
use Rattle.std.proofs.lemmas.List.{take-append-le}
use Rattle.std.proofs.lemmas.Option.{none-some, same_Some, slice_get_within}
use Rattle.std.proofs.Math.Seq.{take-append_seam}
use Rattle.mod_core.specs.declared.code.Module.{Module}
use Rattle.area_core.specs.Blocks.{Among}
use Rattle.marks.specs.declared.kept.DroppedArea.{DroppedArea}
use Rattle.marks.specs.declared.kept.LingeringFrame.{LingeringFrame}
use Rattle.marks.specs.declared.kept.WriterKept.{WriterKept}
use Rattle.marks.specs.Steps.{with_drop_kept}
use Rattle.server_core.specs.declared.command.Cmd.{Cmd}
use Rattle.server_core.specs.declared.command.Cmd.TheVariants.{Purge, Release, SoftPurge}
use Rattle.server_core.specs.ServerState.{ServerState, empty_state, old_of}
use Rattle.script_core.specs.declared.script.ScriptCmd.{ScriptCmd}
use Rattle.script_core.specs.declared.script.ScriptCmd.TheVariants.{Load, Delete, Put, Erase, Trace}
use Rattle.script_core.proofs.JoinedPlaces.{get_behind, get_front}
use Rattle.run_log.specs.declared.logs.Entry.{Entry}
use Rattle.run_log.specs.Journal.{newest_state, published_count}
use Rattle.run_log.specs.Legal.{published_to, state_before}
use Rattle.run_law.specs.Answers.{AreAnswersKept, HasDrop, HasLingering, HasPurge, IsAnswerKept}
use Rattle.write_permit.specs.Permit.{command_opening}
use Rattle.word_permit.specs.Answers.{AnswersAgree, IsToldIn, TellsDrop}
use Rattle.word_permit.specs.Books.{SpawnsNone, TellsNone}
use Rattle.word_permit.specs.Waiting.{GoesOverWords}
use Rattle.word_permit.proofs.PushedLists.{PushedAt, at_end, before, pushed_at}

-- ---- the journal

-- before the first entry
pub answered_first : (texts : List Module) (journal : List Entry) (kept : WriterKept) → journal ≡ [] → AreAnswersKept texts journal kept
answered_first texts journal kept begun = subst (λ js. AreAnswersKept texts js kept) (sym begun) (λ place e at. absurd (none-some e at))

-- an entry joins of which what it tells is kept
module _ (texts : List Module) (journal : List Entry) (e : Entry) (kept : WriterKept) (had : AreAnswersKept texts journal kept) (tells : IsAnswerKept (newest_state texts empty_state journal) (published_count journal) kept e.cmd) where
  each_joined : (place : ℕ) (x : Entry) → PushedAt journal e place x → IsAnswerKept (state_before texts place (journal ++ e ∷ [])) (published_to place (journal ++ e ∷ [])) kept x.cmd
  each_joined place x (before n h) =
      subst (λ front. IsAnswerKept (newest_state texts empty_state front) (published_count front) kept x.cmd) (sym (take-append-le place journal (e ∷ []) (omega (arith, n)))) (had place x h)
  each_joined place x (at_end p same) =
      subst (λ k. IsAnswerKept (state_before texts k (journal ++ e ∷ [])) (published_to k (journal ++ e ∷ [])) kept x.cmd) (sym p)
      (subst (λ front. IsAnswerKept (newest_state texts empty_state front) (published_count front) kept x.cmd) (sym (take-append_seam journal (e ∷ [])))
      (subst (λ (y : Entry). IsAnswerKept (newest_state texts empty_state journal) (published_count journal) kept y.cmd) same tells))

  pub answered_joined : AreAnswersKept texts (journal ++ e ∷ []) kept
  answered_joined place x at = each_joined place x (pushed_at journal e place x at)

-- a command that tells nothing has nothing to keep
pub none_told : (s : ServerState) (n : ℕ) (kept : WriterKept) (cmd : Cmd) → TellsNone cmd → IsAnswerKept s n kept cmd
none_told s n kept (Release serial) h = absurd h
none_told s n kept (SoftPurge name linger) h = absurd h
none_told s n kept (Purge name killed) h = absurd h
none_told s n kept cmd h = tt

-- one that is made over the words tells nothing
pub goes_quiet : (s : ServerState) (command : ScriptCmd) → GoesOverWords command → TellsNone (command_opening s [] command)
goes_quiet s (Load refs) h = tt
goes_quiet s (Delete name) h = tt
goes_quiet s (Put key term) h = tt
goes_quiet s (Erase key) h = tt
goes_quiet s (Trace target on) h = tt
goes_quiet s command h = absurd h

-- and makes no process
pub goes_spawnless : (s : ServerState) (command : ScriptCmd) → GoesOverWords command → SpawnsNone (command_opening s [] command)
goes_spawnless s (Load refs) h = tt
goes_spawnless s (Delete name) h = tt
goes_spawnless s (Put key term) h = tt
goes_spawnless s (Erase key) h = tt
goes_spawnless s (Trace target on) h = tt
goes_spawnless s command h = absurd h

-- ---- what the writer keeps

-- nothing that is kept of drops and of lingering processes is lost
pub record GrowsAnswers (old new : WriterKept) : Type 0 where
  pub dropped : (d : DroppedArea) → Among old.dropped d → Among new.dropped d
  pub lingering : (l : LingeringFrame) → Among old.lingering l → Among new.lingering l

module _ (s : ServerState) (n : ℕ) (old new : WriterKept) (more : GrowsAnswers old new) where
  if_more : (P Q : ℕ → Type 0) → ((serial : ℕ) → P serial → Q serial) → (o : Option ℕ) → IfSome o P → IfSome o Q
  if_more P Q f None h = tt
  if_more P Q f (Some serial) h = f serial h

  drop_more : (kind : _) (serial : ℕ) → HasDrop old kind serial n → HasDrop new kind serial n
  drop_more kind serial h = record { drop = h.drop; among = more.dropped h.drop h.among; kind_is = h.kind_is; serial_is = h.serial_is; published_is = h.published_is }

  purge_more : (killed : _) (serial : ℕ) → HasPurge old serial n killed → HasPurge new serial n killed
  unfolding drop_more
  purge_more killed serial h = record { dropped = drop_more _ serial h.dropped; told = h.told }

  linger_more : (linger : _) (serial : ℕ) → HasLingering old serial n linger → HasLingering new serial n linger
  linger_more linger serial h = record {
    below = h.below;
    answer = h.answer;
    among = more.lingering h.answer h.among;
    serial_is = h.serial_is;
    published_is = h.published_is;
    process_is = h.process_is;
    turn_is = h.turn_is;
  }

  answer_more : (cmd : Cmd) → IsAnswerKept s n old cmd → IsAnswerKept s n new cmd
  answer_more (Release serial) h = drop_more _ serial h
  answer_more (SoftPurge name None) h = if_more _ _ (drop_more _) (old_of s name.0) h
  answer_more (SoftPurge name (Some linger)) h = if_more _ _ (linger_more linger) (old_of s name.0) h
  answer_more (Purge name killed) h = if_more _ _ (purge_more killed) (old_of s name.0) h
  answer_more cmd h = tt

-- so what the journal tells is kept still
pub answered_more : (texts : List Module) (journal : List Entry) (old new : WriterKept) → AreAnswersKept texts journal old → GrowsAnswers old new → AreAnswersKept texts journal new
answered_more texts journal old new had more = λ place e at. answer_more (state_before texts place journal) (published_to place journal) old new more e.cmd (had place e at)

-- and no drop joins
pub record KeepsAnswers (old new : WriterKept) : Type 0 where
  pub grows : GrowsAnswers old new
  pub none : (d : DroppedArea) → Among new.dropped d → Among old.dropped d

-- ---- both ways

-- before the first entry nothing is kept
pub agree_first : (texts : List Module) (journal : List Entry) (kept : WriterKept) → journal ≡ [] → kept.dropped ≡ [] → AnswersAgree texts journal kept
agree_first texts journal kept begun none = record {
  kept = answered_first texts journal kept begun;
  told = subst (λ (ds : List DroppedArea). (d : DroppedArea) → Among ds d → IsToldIn texts journal d) (sym none) (λ d among. absurd (none-some d among.1));
}

pub agree_more : (texts : List Module) (journal : List Entry) (old new : WriterKept) → AnswersAgree texts journal old → KeepsAnswers old new → AnswersAgree texts journal new
agree_more texts journal old new had more = record {
  kept = answered_more texts journal old new had.kept more.grows;
  told = λ d among. had.told d (more.none d among);
}

-- one drop more that is kept
added_at : (old : WriterKept) (d x : DroppedArea) (i : ℕ) → slice_get (d ∷ old.dropped) i ≡ Some x → Among old.dropped x ⊎ (d ≡ x)
added_at old d x zero at = inr (same_Some d x at)
added_at old d x (suc i) at = inl (i, at)

-- is what is told of it
pub drop_added : (old new : WriterKept) (d : DroppedArea) (Told : DroppedArea → Type 0) → new ≡ with_drop_kept old d → Told d → (x : DroppedArea) → Among new.dropped x → Among old.dropped x ⊎ Told x
drop_added old new d Told is told x among = by (added_at old d x among.0 (ap (λ (k : WriterKept). slice_get k.dropped among.0) (sym is) ∙ among.1))
  where
    by : Among old.dropped x ⊎ (d ≡ x) → Among old.dropped x ⊎ Told x
    by (inl was) = inl was
    by (inr same) = inr (subst Told same told)

-- nothing joins what is kept
pub none_added : (old new : WriterKept) (Told : DroppedArea → Type 0) → new ≡ old → (x : DroppedArea) → Among new.dropped x → Among old.dropped x ⊎ Told x
none_added old new Told is x among = inl (subst (λ (k : WriterKept). Among k.dropped x) is among)

-- an entry joins, and what is kept besides it tells
module _ (texts : List Module) (journal : List Entry) (e : Entry) (old new : WriterKept) (had : AnswersAgree texts journal old) (more : GrowsAnswers old new)
    (added : (d : DroppedArea) → Among new.dropped d → Among old.dropped d ⊎ TellsDrop (newest_state texts empty_state journal) (published_count journal) d e.cmd) where
  told_front : (d : DroppedArea) → IsToldIn texts journal d → IsToldIn texts (journal ++ e ∷ []) d
  told_front d h =
      let within = slice_get_within journal h.place h.entry h.at in
      record {
        place = h.place;
        entry = h.entry;
        at = get_front journal (e ∷ []) h.place h.entry h.at;
        tells = subst (λ front. TellsDrop (newest_state texts empty_state front) (published_count front) d h.entry.cmd) (sym (take-append-le h.place journal (e ∷ []) (omega (arith, within)))) h.tells;
      }

  told_behind : (d : DroppedArea) → TellsDrop (newest_state texts empty_state journal) (published_count journal) d e.cmd → IsToldIn texts (journal ++ e ∷ []) d
  told_behind d tells =
      let last : length journal ≡ length journal + 0 = omega arith in
      record {
        place = length journal;
        entry = e;
        at = ap (slice_get (journal ++ e ∷ [])) last ∙ get_behind journal (e ∷ []) 0;
        tells = subst (λ front. TellsDrop (newest_state texts empty_state front) (published_count front) d e.cmd) (sym (take-append_seam journal (e ∷ []))) tells;
      }

  told_by : (d : DroppedArea) → Among old.dropped d ⊎ TellsDrop (newest_state texts empty_state journal) (published_count journal) d e.cmd → IsToldIn texts (journal ++ e ∷ []) d
  told_by d (inl was) = told_front d (had.told d was)
  told_by d (inr tells) = told_behind d tells

  pub agree_joined : IsAnswerKept (newest_state texts empty_state journal) (published_count journal) new e.cmd → AnswersAgree texts (journal ++ e ∷ []) new
  agree_joined tells = record {
    kept = answered_joined texts journal e new (answered_more texts journal old new had.kept more) tells;
    told = λ d among. told_by d (added d among);
  }

pub grows_same : (kept : WriterKept) → GrowsAnswers kept kept
grows_same kept = record { dropped = λ d had. had; lingering = λ l had. had }

pub agree_quietly : (texts : List Module) (journal : List Entry) (e : Entry) (kept : WriterKept) → AnswersAgree texts journal kept → TellsNone e.cmd → AnswersAgree texts (journal ++ e ∷ []) kept
agree_quietly texts journal e kept had quiet =
    agree_joined texts journal e kept kept had (grows_same kept) (λ d among. inl among) (none_told (newest_state texts empty_state journal) (published_count journal) kept e.cmd quiet)
