-- The word leads to a function or to nothing, and the first word of its block is the serial.
use Rattle.std.proofs.Common.{◌-◌, ◌/◌, arith}
use Rattle.std.specs.Prelude.{slice_get}
use Rattle.shared_words.specs.Processes.{held_by_view}
use Rattle.anchors.specs.Holds.{view_of}
use Rattle.word_view.specs.Loaded.{export_at}
use Rattle.word_view.proofs.Exporting.{block_small, code_reached, first_read, leads_nowhere, leads_on}
use Rattle.word_view.proofs.Reading.{read_at_still, read_more, reading_still, there_back}
use Rattle.word_view.proofs.exports.export_of.Goals as goal

pub returns-then-word-eq0-clause-code : goal.returns-then-word-eq0-clause-code
returns-then-word-eq0-clause-code g c =
    let p = held_by_view (view_of c.args.member.now) in
    leads_nowhere p (slice_get p.state.exports c.args.entry) c.code_word-word.result c.code_word-word.ensures.word c.if-word-eq0.true

pub overflow_cast-block : goal.overflow_cast-block
overflow_cast-block g c =
    let m = view_of c.args.member.now in
    let led = leads_on m (slice_get (held_by_view m).state.exports c.args.entry) c.code_word-word.result c.code_word-word.ensures.word c.if-word-eq0.false c.requires.leads in
    let few = block_small m (export_at (held_by_view m) c.args.entry) c.code_word-word.result led in
    omega (arith, few)

pub area_word-serial-requires-clause-reading : goal.area_word-serial-requires-clause-reading
area_word-serial-requires-clause-reading g c = reading_still c.args.member.now c.code_word-word.new.member c.code_word-word.ensures.read c.requires.reading

pub area_word-serial-requires-clause-may : goal.area_word-serial-requires-clause-may
area_word-serial-requires-clause-may g c =
    let m = view_of c.args.member.now in
    let word = c.code_word-word.result in
    let led = leads_on m (slice_get (held_by_view m).state.exports c.args.entry) word c.code_word-word.ensures.word c.if-word-eq0.false c.requires.leads in
    read_at_still c.args.member.now c.code_word-word.new.member c.code_word-word.ensures.read ((word - 1) / 16) 0 (first_read m (export_at (held_by_view m) c.args.entry) word led)

pub returns-clause-read : goal.returns-clause-read
returns-clause-read g c = read_more c.args.member.now c.code_word-word.new.member c.area_word-serial.new.member c.code_word-word.ensures.read c.area_word-serial.ensures.read

pub returns-clause-code : goal.returns-clause-code
returns-clause-code g c =
    let m = view_of c.args.member.now in
    let word = c.code_word-word.result in
    let led = leads_on m (slice_get (held_by_view m).state.exports c.args.entry) word c.code_word-word.ensures.word c.if-word-eq0.false c.requires.leads in
    code_reached m (export_at (held_by_view m) c.args.entry) word c.area_word-serial.result led (there_back c.args.member.now c.code_word-word.new.member c.code_word-word.ensures.read ((word - 1) / 16) 0 c.area_word-serial.result c.area_word-serial.ensures.word)
