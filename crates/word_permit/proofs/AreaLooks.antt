-- What a look for an area has found, and what a load of the counter leaves of it.
use Rattle.std.proofs.Common.{◌≡◌, ℕ, ◌-◌, ◌≤◌, ◌∷◌, ◌++◌, slice_get, Some, None, refl, ap, ◌∙◌, arith}
use Rattle.marks.specs.declared.kept.EndedWait.{EndedWait}
use Rattle.marks.specs.declared.kept.LookKind.TheVariants.{Both}
use Rattle.marks.specs.declared.kept.WriterKept.{WriterKept}
use Rattle.shared_words.specs.declared.view.WriterView.{WriterView}
use Rattle.shared_words.specs.Rule.{HasEnded}
use Rattle.shared_words.specs.Slots.{LookMayBegin}
use Rattle.shared_words.proofs.SlotLoads.{wait_over}
use Rattle.anchors.specs.declared.answers.Scan.{Scan}
use Rattle.anchors.specs.declared.answers.Scan.TheVariants as scans
use Rattle.anchors.specs.Scans.{LooksMore, ScanCause, scan_wait}
use Rattle.staging.specs.Whose.{KeepsWaits}
use Rattle.staging.proofs.Known.{waits_same}
use Rattle.word_permit.specs.Looks.{KeepsLooks}
use Rattle.word_permit.specs.Pumped.{IsNamedBy, LooksFound}

-- a wait that is over stays so
ended_on : (old new : WriterView) (wait : EndedWait) → KeepsWaits old new → old.counter ≤ new.counter → new.published ≡ old.published → HasEnded old wait → HasEnded new wait
ended_on old new wait waits rising published h =
    let reached = h.reached in
    record {
      need = h.need;
      kept = waits (record { generation = wait.generation; need = h.need }) h.kept;
      reached = omega (arith, reached, rising);
      published = h.published;
      at = ap (λ ps. slice_get ps wait.generation) published ∙ h.at;
      gone = h.gone;
    }

-- what the look found
pub looks_found : (serial : ℕ) (old new : WriterView) (told : Scan) → LookMayBegin old Both serial → LooksMore old new → ScanCause (scan_wait old None serial) old new told → LooksFound serial old new told
looks_found serial old new (scans.Named process turn place word) may more h =
    let counter : new.counter ≡ old.counter = ap (λ (w : WriterView). w.counter) more.same in
    record {
      below = h.0;
      wait = scan_wait old None serial;
      serial_is = refl;
      kind_is = refl;
      over = ended_on old new (scan_wait old None serial) (waits_same old new (ap (λ (w : WriterView). w.pairs) more.same)) (omega (arith, counter)) (ap (λ (w : WriterView). w.published) more.same) (wait_over old Both serial may);
      found = h.1;
    }
looks_found serial old new (scans.Clear killed) may more h = h.1

-- the counter was loaded behind it
pub named_loaded : (serial : ℕ) (old mid new : WriterView) (process turn place word : ℕ) → KeepsLooks mid new → KeepsWaits mid new → mid.counter ≤ new.counter → new.published ≡ mid.published → IsNamedBy serial old mid process turn place word
    → IsNamedBy serial old new process turn place word
named_loaded serial old mid new process turn place word looks waits rising published h = record {
  below = h.below;
  wait = h.wait;
  serial_is = h.serial_is;
  kind_is = h.kind_is;
  over = ended_on mid new h.wait waits rising published h.over;
  found = record {
    first = h.found.first;
    last = h.found.last;
    names = h.found.names;
    found = looks.named ∙ h.found.found;
    turn_read = (h.found.turn_read.0, ap (λ (k : WriterKept). k.turns) looks.looks ∙ h.found.turn_read.1);
  };
}

-- or before it
pub named_since : (serial : ℕ) (old mid new : WriterView) (process turn place word : ℕ) → KeepsLooks old mid → IsNamedBy serial mid new process turn place word → IsNamedBy serial old new process turn place word
named_since serial old mid new process turn place word looks h = record {
  below = h.below;
  wait = h.wait;
  serial_is = h.serial_is;
  kind_is = h.kind_is;
  over = h.over;
  found = record {
    first = h.found.first;
    last = h.found.last;
    names = h.found.names;
    found = h.found.found ∙ ap (λ named. record { wait = h.wait; process = process; place = place - 1; word = word; behind = Some (record { wait = h.wait; process = process; turns = turn }) } ∷ named) looks.named;
    turn_read = (h.found.turn_read.0, h.found.turn_read.1 ∙ ap (λ (k : WriterKept). record { wait = h.wait; process = process; turns = turn } ∷ (h.found.turn_read.0 ++ k.turns)) looks.looks);
  };
}
