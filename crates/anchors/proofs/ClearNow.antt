-- A look that was clear stays so: the writer forgets nothing.
use Rattle.std.proofs.Common.{ℕ, zero, suc, Bool, true, false, cond, List, [], ◌∷◌, ◌++◌, append_assoc, append-nil, Option, Some, None, refl, sym, ap, ◌∙◌, arith}
use Rattle.std.specs.Prelude.{slice_get}
use Rattle.term_core.specs.declared.area.AreaRef.{AreaRef}
use Rattle.term_core.specs.declared.hold.Kind.{Kind}
use Rattle.area_core.specs.declared.table.Published.{Published}
use Rattle.area_core.specs.Blocks.{Among}
use Rattle.area_core.specs.Generations.{names_frame}
use Rattle.marks.specs.declared.kept.LookKind.{LookKind}
use Rattle.marks.specs.declared.kept.EndedWait.{EndedWait}
use Rattle.marks.specs.declared.kept.LingeringFrame.{LingeringFrame}
use Rattle.marks.specs.declared.kept.LookedAnchor.{LookedAnchor}
use Rattle.marks.specs.declared.kept.WriterKept.{WriterKept}
use Rattle.marks.specs.Names.{names_in, tells_kill}
use Rattle.marks.specs.Steps.{with_wait, with_looked}
use Rattle.shared_words.specs.declared.opening.Opening.{Opening}
use Rattle.shared_words.specs.declared.view.NamedAnchor.{NamedAnchor}
use Rattle.shared_words.specs.declared.view.WriterView.{WriterView}
use Rattle.shared_words.specs.Lingering.{anchor_again, with_anchor_found, with_lingering}
use Rattle.shared_words.specs.Rule.{HasEnded}
use Rattle.shared_words.specs.Slots.{IsClear, word_looked, slot_looked}
use Rattle.shared_words.proofs.ShownMembers.{still_at}
use Rattle.shared_words.proofs.ClearLooks.{out_of_use}
use Rattle.anchors.specs.Scans.{HasGoneOn, StaysOutOfUse, StepsGoOn, WriterGoesOn}
use Rattle.anchors.proofs.Scanning.{among_front}

-- ---- a writer that went on

ended_on : (old new : WriterView) (wait : EndedWait) → HasGoneOn old new → HasEnded old wait → HasEnded new wait
ended_on old new wait on h = record {
  need = h.need;
  kept = on.pairs _ h.kept;
  reached = (let reached = h.reached in let counter = on.counter in omega (arith, reached, counter));
  published = h.published;
  at = ap (λ (xs : List Published). slice_get xs wait.generation) on.published.1 ∙ still_at old.published on.published.0 wait.generation h.published h.at;
  gone = h.gone;
}

clear_on : (old new : WriterView) (kind : LookKind) (serial : ℕ) → HasGoneOn old new → IsClear old kind serial → IsClear new kind serial
clear_on old new kind serial on h = record {
  generation = h.generation;
  over = ended_on old new (record { generation = h.generation; serial = serial; kind = kind }) on h.over;
  looked = λ process below place few. let was = h.looked process below place few in (was.0, on.anchors _ was.1);
}

-- ---- what a clear look means

pub stays_out : (Served : Published → Type 0) (opening : Opening) (w : WriterView) (kind : LookKind) (serial : ℕ) → IsClear w kind serial → StaysOutOfUse Served opening w kind serial
stays_out Served opening w kind serial clear s r on = out_of_use s r kind serial (clear_on w r.writer kind serial on clear)

-- ---- the steps

looked_on : (wait : EndedWait) (process place found : ℕ) (k : WriterKept) (l : LookedAnchor) → Among k.anchors l → Among (word_looked wait process place found (with_wait k wait)).anchors l
looked_on wait process zero found k l among = among
looked_on wait process (suc place) found k l among = either (names_in wait.kind found wait.serial)
  where
    either : (b : Bool) → Among (cond b (with_wait k wait) (with_looked (with_wait k wait) (record { wait = wait; process = process; place = place; told = tells_kill found wait.serial }))).anchors l
    either true = among
    either false = (suc among.0, among.1)

slots_on : (w : WriterView) (process place found : ℕ) (look : Option (AreaRef × Option Kind)) → HasGoneOn w (slot_looked process place look found w)
slots_on w process place found None = record { pairs = λ pair among. among; counter = omega (arith); published = ([], sym (append-nil w.published)); anchors = λ l among. among }
slots_on w process place found (Some look) = record { pairs = λ pair among. among; counter = omega (arith); published = ([], sym (append-nil w.published)); anchors = λ l among. looked_on _ process place found w.looks l among }

answers_on : (kept : Bool) (seen : NamedAnchor) (l : LingeringFrame) (w : WriterView) → HasGoneOn w (with_anchor_found seen (cond kept (with_lingering l w) w))
answers_on true seen l w = record { pairs = λ pair among. among; counter = omega (arith); published = ([], sym (append-nil w.published)); anchors = λ l among. among }
answers_on false seen l w = record { pairs = λ pair among. among; counter = omega (arith); published = ([], sym (append-nil w.published)); anchors = λ l among. among }

steps_go_on : (w : WriterView) → StepsGoOn w
steps_go_on w = record {
  words = λ word value. record { pairs = λ pair among. among; counter = omega (arith); published = ([], sym (append-nil w.published)); anchors = λ l among. among };
  roots = λ p. record { pairs = λ pair among. among; counter = omega (arith); published = (p ∷ [], refl); anchors = λ l among. among };
  drops = λ d. record { pairs = λ pair among. among; counter = omega (arith); published = ([], sym (append-nil w.published)); anchors = λ l among. among };
  counters = λ counter later. record { pairs = λ pair among. among_front w.pairs _ pair among; counter = later; published = ([], sym (append-nil w.published)); anchors = λ l among. among };
  notes = λ process. record { pairs = λ pair among. among; counter = omega (arith); published = ([], sym (append-nil w.published)); anchors = λ l among. among };
  slots = λ process place found look. slots_on w process place found look;
  lingering = λ place found l. answers_on (names_frame found l.wait.serial) (anchor_again place found l w) l w;
}

on_again : (a b c : WriterView) → HasGoneOn a b → HasGoneOn b c → HasGoneOn a c
on_again a b c first second = record {
  pairs = λ pair among. second.pairs pair (first.pairs pair among);
  counter = (let one = first.counter in let two = second.counter in omega (arith, one, two));
  published = (
    first.published.0 ++ second.published.0,
    second.published.1 ∙ ap (λ (ps : List Published). ps ++ second.published.0) first.published.1 ∙ append_assoc a.published first.published.0 second.published.0,
  );
  anchors = λ l among. second.anchors l (first.anchors l among);
}

pub goes_on : WriterGoesOn
goes_on w = (steps_go_on w, λ mid new. on_again w mid new)
