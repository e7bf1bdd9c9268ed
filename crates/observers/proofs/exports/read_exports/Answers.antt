-- The functions are read one by one.
use Rattle.std.proofs.Common.{◌≤◌, ◌∙◌, List, length, ap, arith, subst, sym}
use Rattle.std.specs.Vec.{vec_capacity}
use Rattle.std.proofs.lemmas.List.{take_all}
use Rattle.term_core.specs.declared.atom.Mfa.{Mfa}
use Rattle.machine_core.specs.GenerationReads.{reads_in}
use Rattle.progress_words.specs.Tokens.{watched_by}
use Rattle.run_law.specs.Observing.{exports_read}
use Rattle.run_log.proofs.StateExports.{no_function}
use Rattle.observers.specs.Watching.{held_by_watching}
use Rattle.observers.proofs.Exporting.{more_read}
use Rattle.observers.proofs.Reading.{read_more, read_none, reading_still, served_still}
use Rattle.observers.proofs.exports.read_exports.Goals as goal

-- none is read yet
pub loop-to-init : goal.loop-to-init
loop-to-init g c = (
  c.requires.token,
  read_none c.args.watcher.now,
  c.requires.empty,
  (let none = c.requires.none in omega (arith, none)),
  subst (λ (functions : List Mfa). length functions ≤ vec_capacity c.args.found.now) (sym c.as_slice-to-items.ensures) c.requires.room,
)

pub read_one-requires-clause-token : goal.read_one-requires-clause-token
read_one-requires-clause-token g c = c.loop-to.invariant.0

pub read_one-requires-clause-reading : goal.read_one-requires-clause-reading
read_one-requires-clause-reading g c = reading_still c.args.watcher.now c.loop-to.watcher c.loop-to.invariant.1 c.requires.reading

pub read_one-requires-clause-served : goal.read_one-requires-clause-served
read_one-requires-clause-served g c = served_still c.args.watcher.now c.loop-to.watcher c.loop-to.invariant.1 c.args.exports.now c.requires.served

pub read_one-requires-clause-room : goal.read_one-requires-clause-room
read_one-requires-clause-room g c =
    let len = c.loop-to.invariant.3 in
    let room = c.loop-to.invariant.4 in
    let more = c.loop-to-test.true in
    omega (arith, len, room, more)

-- one more is read
pub loop-to-preserved : goal.loop-to-preserved
loop-to-preserved g c =
    let h = c.loop-to.invariant in
    let e = c.read_one.ensures in (
      e.token,
      read_more c.args.watcher.now c.loop-to.watcher c.read_one.new.watcher h.1 e.read,
      more_read c.args.exports.now c.as_slice-to-items.result.now c.loop-to.to-index no_function c.args.watcher.now c.loop-to.watcher c.loop-to.found.items c.read_one.new.found.items h.1 c.loop-to-test.true h.2 e.found,
      (let len = h.3 in let more = e.len in omega (arith, len, more)),
      (let room = h.4 in let same = e.capacity in omega (arith, room, same)),
    )

pub returns-clause-token : goal.returns-clause-token
returns-clause-token g c = c.loop-to.invariant.0

pub returns-clause-read : goal.returns-clause-read
returns-clause-read g c = c.loop-to.invariant.1

pub returns-clause-found : goal.returns-clause-found
returns-clause-found g c =
    c.loop-to.invariant.2
    ∙ ap (exports_read (reads_in c.args.exports.now (held_by_watching (watched_by c.args.watcher.now)).state)) (take_all c.loop-to.to-index c.as_slice-to-items.result.now c.loop-to-test.false ∙ c.as_slice-to-items.ensures)
