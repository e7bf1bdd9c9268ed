-- Both members play once each has joined its note and reported.
use Rattle.area_tests.proofs.Noted.{prepared}
use Rattle.area_tests.proofs.never.begin_both.Goals as goal

pub returns-then-begin_work : goal.returns-then-begin_work
returns-then-begin_work c = λ both.
    let first = c.begin_work in
    let second = c.begin_work-then-begin_work in
    prepared c.args.shared.now.table.shared.table_id c.args.shared.now.table.shared.key c.args.pools.now c.args.writer.now first.new.writer second.new.writer c.args.first.now first.new.member c.args.second.now second.new.member c.requires.retiring c.requires.first c.requires.second
    first.ensures.noted second.ensures.noted second.ensures.writer (first.ensures.works c.if-begin_work.true) (first.ensures.under c.if-begin_work.true) first.ensures.turns first.ensures.number (second.ensures.works both) (second.ensures.under both) second.ensures.turns second.ensures.number
