-- What is made of a step's answer: the newest entry is taken back, or the change is made.
use Rattle.std.proofs.Common.{◌≡◌, ℕ, ◌<◌, ◌≤◌, List, [], ◌∷◌, ◌++◌, length, slice_set, MatchOption, Option, Some, None, IfOk, IfSome, Result, Ok, Err, refl, sym, ap, subst, ◌∙◌, arith}
use Rattle.std.proofs.lemmas.List.{same_from_push}
use Rattle.std.proofs.lemmas.Option.{none-some}
use Rattle.term_core.specs.declared.atom.Mfa.{Mfa}
use Rattle.term_core.specs.declared.no_memory.NoMemory.{NoMemory}
use Rattle.server_core.specs.declared.change.Change.{Change}
use Rattle.server_core.specs.declared.change.Change.TheVariants.{SetTrace, ClearTrace}
use Rattle.server_core.specs.declared.command.Applied.{Applied}
use Rattle.server_core.specs.CommandTable.{Outcome}
use Rattle.server_core.specs.Decided.{change_made}
use Rattle.server_core.specs.ServerState.{IsSound, ServerState}
use Rattle.run_log.specs.declared.logs.Entry.{Entry}
use Rattle.module_table.specs.Modules.{Modules}
use Rattle.staging.specs.declared.stage.Stage.{Stage}
use Rattle.staging.specs.declared.stage.Stage.TheVariants.{Untouched, Placed, Exported, Patching}
use Rattle.staging.specs.declared.stage.Step.{Step}
use Rattle.staging.specs.declared.stage.Step.TheVariants as steps
use Rattle.staging.specs.declared.tables.Tables.{Tables}
use Rattle.staging.specs.Stages.{GoesOn, IsCodeChange, StageStands, patch_need, stage_number}
use Rattle.staging.specs.Traced.{IsTraceChange, TraceAnswers}
use Rattle.write_permit.specs.declared.book.Book.{Book}
use Rattle.write_permit.specs.declared.holder.Holder.TheVariants.{Free}
use Rattle.write_permit.specs.declared.loader_run.LoaderRun.{LoaderRun}
use Rattle.write_permit.specs.Agreement.{newest_followed, newest_of}
use Rattle.write_permit.specs.Book.{shown}
use Rattle.write_permit.specs.Permit.{PermitState}
use Rattle.word_permit.specs.declared.answers.CommandStep.{CommandStep}
use Rattle.word_permit.specs.declared.book.Decision.{Decision}
use Rattle.word_permit.specs.declared.book.Waiting.{Waiting}
use Rattle.word_permit.specs.declared.book.WordBook.{WordBook}
use Rattle.word_permit.specs.Settled.{IsFinished, IsSettled, WaitsAt, decision_of, waiting_with, without_newest}
use Rattle.word_permit.specs.Traced.{IsEntered}

-- the newest entry is taken back, and what was decided for it waits
pub waits_at : (b : WordBook) (change : Change) (stage : Stage) (journal : List Entry) (last : Entry) (d : Decision) → b.plain.journal ≡ journal ++ last ∷ [] → d ≡ decision_of last change
    → WaitsAt change stage b (record (without_newest b journal) { waiting = Some (record { decision = d; stage = stage }) })
waits_at b change stage journal last d is told = λ before e h.
    let s = same_from_push journal before last e (sym is ∙ h) in
    ap (λ (x : Decision). record (without_newest b journal) { waiting = Some (record { decision = x; stage = stage }) }) told
    ∙ ap (λ (js : List Entry). waiting_with b js last change stage) s.0
    ∙ ap (λ (x : Entry). waiting_with b before x change stage) s.1

-- or it is taken back, and nothing waits
pub goes_back : (b : WordBook) (journal : List Entry) (last : Entry) → b.plain.journal ≡ journal ++ last ∷ [] → (before : List Entry) (e : Entry) → b.plain.journal ≡ before ++ e ∷ [] → without_newest b journal ≡ without_newest b before
goes_back b journal last is before e h =
    let s = same_from_push journal before last e (sym is ∙ h) in
    ap (without_newest b) s.0

-- whatever was taken out
pub popped : (b : WordBook) (journal : List Entry) (o : Option Entry) → 0 < length b.plain.journal → MatchOption o ((b.plain.journal ≡ []) × (journal ≡ [])) (λ last. b.plain.journal ≡ journal ++ last ∷ [])
    → (before : List Entry) (e : Entry) → b.plain.journal ≡ before ++ e ∷ [] → without_newest b journal ≡ without_newest b before
popped b journal (Some last) joined h before e is = goes_back b journal last h before e is
popped b journal None joined h before e is =
    let empty = ap length h.0 in
    absurd (omega (arith, joined, empty))

-- ---- by what the step is, where memory is refused

module _ (who : ℕ) (change : Change) (stage : Stage) (after : LoaderRun) (b c : WordBook) (step : Result Step NoMemory) where
  pub settled_back : (fault : NoMemory) → step ≡ Err fault → ((before : List Entry) (e : Entry) → b.plain.journal ≡ before ++ e ∷ [] → c ≡ without_newest b before) → IsSettled who change stage after b c step (Err fault)
  settled_back fault is back = subst (λ x. IsSettled who change stage after b c x (Err fault)) (sym is) (refl, back)

-- ---- what a release waits for

-- it is as before, whatever is made of the answer
pub settled_need : (who : ℕ) (change : Change) (stage : Stage) (after : LoaderRun) (b c : WordBook) (step : Result Step NoMemory) (told : Result CommandStep NoMemory) (before : List Entry) (e : Entry) → b.plain.journal ≡ before ++ e ∷ [] → IsSettled who change stage after b c step told → c.need ≡ b.need
settled_need who change stage after b c (Ok (steps.Published generation)) told before e joined h = ap (λ (x : WordBook). x.need) h.1.1.1
settled_need who change stage after b c (Ok (steps.NotYet answer)) told before e joined h = ap (λ (x : WordBook). x.need) (h.1 before e joined)
settled_need who change stage after b c (Ok steps.AwaitRelease) told before e joined h = ap (λ (x : WordBook). x.need) (h.1 before e joined)
settled_need who change stage after b c (Err fault) told before e joined h = ap (λ (x : WordBook). x.need) (h.1 before e joined)

pub entered_need : (who : ℕ) (change : Change) (stage : Stage) (b c : WordBook) (step : Step) (before : List Entry) (e : Entry) → b.plain.journal ≡ before ++ e ∷ [] → IsEntered who change stage b c step → c.need ≡ b.need
entered_need who change stage b c (steps.Published generation) before e joined h = ap (λ (x : WordBook). x.need) h.1
entered_need who change stage b c (steps.NotYet answer) before e joined h = ap (λ (x : WordBook). x.need) (h before e joined)
entered_need who change stage b c steps.AwaitRelease before e joined h = ap (λ (x : WordBook). x.need) (h before e joined)

-- ---- the stage of what waits

-- it is no earlier one
pub settled_forward : (who far : ℕ) (change : Change) (stage : Stage) (after : LoaderRun) (b c : WordBook) (step : Result Step NoMemory) (told : Result CommandStep NoMemory) (before : List Entry) (e : Entry) → b.plain.journal ≡ before ++ e ∷ [] → b.waiting ≡ None → IsSettled who change stage after b c step told
    → IfOk step (GoesOn far stage) → IfOk told (λ answer. IfSome c.waiting (λ w. far ≤ stage_number w.stage))
settled_forward who far change stage after b c (Ok (steps.Published generation)) told before e joined none h forward =
    subst (λ (r : Result CommandStep NoMemory). IfOk r (λ answer. IfSome c.waiting (λ w. far ≤ stage_number w.stage))) (sym h.1.0)
    (subst (λ (o : Option Waiting). IfSome o (λ w. far ≤ stage_number w.stage)) (sym (ap (λ (x : WordBook). x.waiting) h.1.1.1 ∙ none)) tt)
settled_forward who far change stage after b c (Ok (steps.NotYet answer)) told before e joined none h forward =
    subst (λ (r : Result CommandStep NoMemory). IfOk r (λ step. IfSome c.waiting (λ w. far ≤ stage_number w.stage))) (sym h.0)
    (subst (λ (x : WordBook). IfSome x.waiting (λ w. far ≤ stage_number w.stage)) (sym (h.1 before e joined)) forward)
settled_forward who far change stage after b c (Ok steps.AwaitRelease) told before e joined none h forward =
    subst (λ (r : Result CommandStep NoMemory). IfOk r (λ step. IfSome c.waiting (λ w. far ≤ stage_number w.stage))) (sym h.0)
    (subst (λ (x : WordBook). IfSome x.waiting (λ w. far ≤ stage_number w.stage)) (sym (h.1 before e joined)) forward)
settled_forward who far change stage after b c (Err fault) told before e joined none h forward =
    subst (λ (r : Result CommandStep NoMemory). IfOk r (λ step. IfSome c.waiting (λ w. far ≤ stage_number w.stage))) (sym h.0) tt

-- a trace has a patch or has none yet, and one that waits has one
trace_first : (names : List Mfa) (s : ServerState) (change : Change) (t : Tables) (stage : Stage) → IsTraceChange change → StageStands names s change t stage → stage_number stage ≤ 1
trace_first names s change t Untouched traces stands = omega arith
trace_first names s change t (Placed areas) traces stands = omega arith
trace_first names s change t (Exported areas) traces stands = absurd (apart change traces stands.code)
  where
    apart : (change : Change) → IsTraceChange change → IsCodeChange change → ⊥
    apart (SetTrace generation at traced) traces code = code
    apart (ClearTrace generation at) traces code = code
    apart change traces code = traces
trace_first names s change t Patching traces stands = omega arith

trace_patched : (names : List Mfa) (s : ServerState) (change : Change) (t : Tables) (stage : Stage) (need : ℕ) → StageStands names s change t stage → patch_need t.patch ≡ Some need → 1 ≤ stage_number stage
trace_patched names s change t Untouched need stands awaits = absurd (none-some need (ap patch_need (sym stands.staged.patch) ∙ awaits))
trace_patched names s change t (Placed areas) need stands awaits = omega arith
trace_patched names s change t (Exported areas) need stands awaits = omega arith
trace_patched names s change t Patching need stands awaits = omega arith

pub entered_forward : (names : List Mfa) (s : ServerState) (who : ℕ) (change : Change) (begun stage : Stage) (old t : Tables) (b c : WordBook) (step : Step) (before : List Entry) (e : Entry) → b.plain.journal ≡ before ++ e ∷ [] → b.waiting ≡ None → IsTraceChange change → StageStands names s change old begun
    → IsEntered who change stage b c step → TraceAnswers names s change old t stage step → IfSome c.waiting (λ w. stage_number begun ≤ stage_number w.stage)
entered_forward names s who change begun stage old t b c (steps.Published generation) before e joined none traces stands h answers =
    subst (λ (o : Option Waiting). IfSome o (λ w. stage_number begun ≤ stage_number w.stage)) (sym (ap (λ (x : WordBook). x.waiting) h.1 ∙ none)) tt
entered_forward names s who change begun stage old t b c (steps.NotYet answer) before e joined none traces stands h answers =
    subst (λ (x : WordBook). IfSome x.waiting (λ w. stage_number begun ≤ stage_number w.stage)) (sym (h before e joined))
    (let first = trace_first names s change old begun traces stands in
    let patched = trace_patched names s change t stage answer.need answers.stands answers.why.awaited in
    omega (arith, first, patched))
entered_forward names s who change begun stage old t b c steps.AwaitRelease before e joined none traces stands h answers = absurd answers

-- ---- the change is made

abbrev outcome : ServerState → Applied → Outcome
outcome s applied = record { state = s; answer = applied }

pub is_finished : (who : ℕ) (change : Change) (after : LoaderRun) (p c : Book) (s : ServerState) (table : Modules) (applied : Applied) → change_made p.server change ≡ outcome s applied → IsSound s
    → table.instances ≡ newest_followed p.modules.instances s (newest_of p.journal) → shown c ≡ record (shown p) { server = s; loaders = slice_set p.loaders.items who after; holder = Free } → c.modules ≡ table → IsFinished who change after p c applied
is_finished who change after p c s table applied is sound follows left modules =
    let server : s ≡ c.server = ap (λ (x : PermitState). x.server) (sym left) in
    record {
      made_is = is ∙ ap (λ (x : ServerState). outcome x applied) server;
      state = left ∙ ap (λ (x : ServerState). record (shown p) { server = x; loaders = slice_set p.loaders.items who after; holder = Free }) server;
      table = ap (λ (m : Modules). m.instances) modules ∙ follows ∙ ap (λ (x : ServerState). newest_followed p.modules.instances x (newest_of p.journal)) server;
      sound = subst IsSound server sound;
    }
