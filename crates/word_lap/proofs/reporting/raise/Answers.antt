use Rattle.anchors.specs.Holds.{view_of}
use Rattle.word_lap.proofs.Leading.{has_raised, token_raised}
use Rattle.word_lap.proofs.reporting.raise.Goals as goal

pub returns-clause-token : goal.returns-clause-token
returns-clause-token g c =
    token_raised c.args.shared.now.table.shared.table_id c.args.shared.now.table.shared.key.members c.args.member.now c.advance.new.member c.give_up.new.member c.advance.result c.requires.token c.give_up.ensures.token
    c.advance.ensures.same c.give_up.ensures.same c.advance.ensures.root c.give_up.ensures.root c.advance.ensures.looked c.give_up.ensures.given

pub returns-clause-tried : goal.returns-clause-tried
returns-clause-tried g c =
    has_raised c.args.shared.now.table.shared.key.members (view_of c.args.member.now) (view_of c.advance.new.member) (view_of c.give_up.new.member) c.advance.result c.advance.ensures.looked c.give_up.ensures.given
