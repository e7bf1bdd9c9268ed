-- The word leads to a function or to nothing, and the first word of its block is the serial.
use Rattle.std.proofs.Common.{◌-◌, ◌/◌, arith}
use Rattle.std.specs.Prelude.{slice_get}
use Rattle.progress_words.specs.Tokens.{watched_by}
use Rattle.word_view.specs.Loaded.{export_at}
use Rattle.word_view.proofs.Exporting.{block_small, first_read, leads_nowhere}
use Rattle.observers.specs.Watching.{as_member, held_by_watching}
use Rattle.observers.proofs.Exporting.{led_on, serial_none, serial_there}
use Rattle.observers.proofs.Reading.{read_at_still, read_more, reading_still, there_back}
use Rattle.observers.proofs.exports.serial_of.Goals as goal

pub returns-then-word-eq0-clause-serial : goal.returns-then-word-eq0-clause-serial
returns-then-word-eq0-clause-serial g c =
    let p = held_by_watching (watched_by c.args.watcher.now) in
    serial_none p (export_at p c.args.entry) (leads_nowhere p (slice_get p.state.exports c.args.entry) c.code_word-word.result c.code_word-word.ensures.word c.if-word-eq0.true)

pub overflow_cast-block : goal.overflow_cast-block
overflow_cast-block g c =
    let v = watched_by c.args.watcher.now in
    let led = led_on v c.args.entry c.code_word-word.result c.code_word-word.ensures.word c.if-word-eq0.false c.code_word-word.ensures.found c.requires.leads in
    let few = block_small (as_member v) (export_at (held_by_watching v) c.args.entry) c.code_word-word.result led in
    omega (arith, few)

pub first_word-serial-requires-clause-reading : goal.first_word-serial-requires-clause-reading
first_word-serial-requires-clause-reading g c = reading_still c.args.watcher.now c.code_word-word.new.watcher c.code_word-word.ensures.read c.requires.reading

pub first_word-serial-requires-clause-may : goal.first_word-serial-requires-clause-may
first_word-serial-requires-clause-may g c =
    let v = watched_by c.args.watcher.now in
    let word = c.code_word-word.result in
    let led = led_on v c.args.entry word c.code_word-word.ensures.word c.if-word-eq0.false c.code_word-word.ensures.found c.requires.leads in
    read_at_still c.args.watcher.now c.code_word-word.new.watcher c.code_word-word.ensures.read ((word - 1) / 16) 0 (first_read (as_member v) (export_at (held_by_watching v) c.args.entry) word led)

pub returns-clause-read : goal.returns-clause-read
returns-clause-read g c = read_more c.args.watcher.now c.code_word-word.new.watcher c.first_word-serial.new.watcher c.code_word-word.ensures.read c.first_word-serial.ensures.read

pub returns-clause-serial : goal.returns-clause-serial
returns-clause-serial g c =
    let v = watched_by c.args.watcher.now in
    let word = c.code_word-word.result in
    let led = led_on v c.args.entry word c.code_word-word.ensures.word c.if-word-eq0.false c.code_word-word.ensures.found c.requires.leads in
    serial_there v c.args.entry word c.first_word-serial.result led (there_back c.args.watcher.now c.code_word-word.new.watcher c.code_word-word.ensures.read ((word - 1) / 16) 0 c.first_word-serial.result c.first_word-serial.ensures.word)
