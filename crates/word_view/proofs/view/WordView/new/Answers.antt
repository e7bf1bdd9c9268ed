-- One load tells where the areas stand.
use Rattle.std.proofs.Common.{ap, lit<}
use Rattle.shared_words.specs.Processes.{held_by_view}
use Rattle.area_core.specs.Map.{block_place}
use Rattle.anchors.specs.Holds.{anchors_of, view_of}
use Rattle.shared_words.specs.declared.view.MemberView.{MemberView}
use Rattle.word_view.specs.Anchored.{holds_by}
use Rattle.word_view.specs.Views.{Viewed, shown_by}
use Rattle.word_view.proofs.GoneOn.{begun_from}
use Rattle.word_view.proofs.Reading.{held_still}
use Rattle.word_view.proofs.Standing.{begun_lawful, begun_view}
use Rattle.word_view.proofs.view.WordView.new.Goals as goal

pub code_word-requires-clause-entry : goal.code_word-requires-clause-entry
code_word-requires-clause-entry g c = lit< tt

pub invariant_of-result : goal.invariant_of-result
invariant_of-result g c =
    let v : Viewed = record { table = c.args.shared.now.table.shared.table_id; opening = c.args.shared.now.table.shared.key; token = c.args.member; names = c.args.exports.now; process = c.args.process } in
    begun_from g.K.Began.began v c.code_word.new.member c.code_word.ensures.read
    (begun_view v c.code_word.new.member (block_place (held_by_view (view_of c.args.member)).root.code 0) c.code_word.result c.code_word.ensures.found c.code_word.ensures.read c.code_word.ensures.token c.requires.token c.requires.copied c.requires.reading c.requires.begun)
    c.requires.from

pub returns-clause-shown : goal.returns-clause-shown
returns-clause-shown g c = ap (shown_by c.args.exports.now) (held_still c.args.member c.code_word.new.member c.code_word.ensures.read)

pub returns-clause-held : goal.returns-clause-held
returns-clause-held g c = ap (λ (m : MemberView). holds_by (anchors_of m c.args.process)) c.code_word.ensures.read.view

pub returns-clause-lawful : goal.returns-clause-lawful
returns-clause-lawful g c =
    begun_lawful (record { table = c.args.shared.now.table.shared.table_id; opening = c.args.shared.now.table.shared.key; token = c.args.member; names = c.args.exports.now; process = c.args.process }) c.code_word.new.member c.code_word.ensures.read c.requires.begun
