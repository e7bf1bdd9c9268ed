use Rattle.progress_words.specs.Tokens.{written_by}
use Rattle.progress_words.proofs.Passing.{view_now, passed_now}
use Rattle.progress_words.proofs.needs.reached.Goals as goal

-- grace
pub returns-clause-grace : goal.returns-clause-grace
returns-clause-grace g c =
    let load = c.load_counter-current in
    let is = view_now load.result _ _ c.requires.token.view load.ensures.view in
    passed_now g.N.Served.served c.args.shared.now.table.shared.key load.result (written_by c.args.writer.now) (written_by load.new.pass) c.args.need is c.if-current-need.false
