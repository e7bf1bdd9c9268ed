-- What is read while progress is delayed is of one generation.
use Rattle.std.proofs.Common.{List, ap, refl, subst, sym, ◌∙◌}
use Rattle.term_core.specs.declared.atom.Mfa.{Mfa}
use Rattle.shared_words.specs.declared.view.WatcherView.{WatcherView}
use Rattle.machine_core.specs.GenerationReads.{reads_in}
use Rattle.progress_words.specs.Tokens.{watched_by}
use Rattle.run_law.specs.Observing.{exports_read}
use Rattle.observers.specs.Watching.{HoldsServed, held_by_watching}
use Rattle.observers.proofs.Reading.{reading_still}
use Rattle.observers.proofs.Seeing.{has_seen, reading_delayed, served_delayed}
use Rattle.observers.proofs.shots.snapshot.Goals as goal

pub read_exports-requires-clause-reading : goal.read_exports-requires-clause-reading
read_exports-requires-clause-reading g c =
    let mid = c.delay-generation.new.watcher in
    reading_delayed g.K.Naming.names (watched_by c.args.watcher.now) mid.root c.delay-generation.result (watched_by mid) c.delay-generation.ensures.delayed c.delay-generation.ensures.rooted

pub read_exports-requires-clause-served : goal.read_exports-requires-clause-served
read_exports-requires-clause-served g c =
    let mid = c.delay-generation.new.watcher in
    subst (λ (names : List Mfa). HoldsServed names (watched_by mid)) (sym c.requires.exports)
    (served_delayed g.K.Naming.names (watched_by c.args.watcher.now) mid.root c.delay-generation.result (watched_by mid) c.delay-generation.ensures.delayed c.delay-generation.ensures.rooted)

pub resume-requires-clause-delaying : goal.resume-requires-clause-delaying
resume-requires-clause-delaying g c =
    let mid = c.delay-generation.new.watcher in
    (reading_still mid c.read_exports.new.watcher c.read_exports.ensures.read
    (reading_delayed g.K.Naming.names (watched_by c.args.watcher.now) mid.root c.delay-generation.result (watched_by mid) c.delay-generation.ensures.delayed c.delay-generation.ensures.rooted)).delaying

pub returns-clause-seen : goal.returns-clause-seen
returns-clause-seen g c =
    let mid = c.delay-generation.new.watcher in
    has_seen g.K.Naming.names (watched_by c.args.watcher.now) mid.root c.delay-generation.result (watched_by mid) c.delay-generation.ensures.delayed c.delay-generation.ensures.rooted c.args.functions.now (watched_by c.read_exports.new.watcher) (watched_by c.resume.new.watcher)
    (record { generation = c.delay-generation.result; exports = c.from_vec.result })
    (ap (λ (v : WatcherView). v.seen) c.read_exports.ensures.read.view) c.resume.ensures.known refl
    (c.from_vec.ensures ∙ c.read_exports.ensures.found ∙ ap (λ (names : List Mfa). exports_read (reads_in names (held_by_watching (watched_by mid)).state) c.args.functions.now) c.requires.exports)
