-- The word may be loaded, and what is found is one under the generation.
use Rattle.std.proofs.Common.{sym, subst}
use Rattle.shared_words.specs.declared.view.View.{View}
use Rattle.shared_words.specs.Publishing.{MayLoadWord, WordTells}
use Rattle.progress_words.specs.Tokens.{view_of}
use Rattle.breakpoints.proofs.Looking.{found_under, read_one, token_read}
use Rattle.breakpoints.proofs.deciding.load.Goals as goal

pub load_word-requires-clause-may : goal.load_word-requires-clause-may
load_word-requires-clause-may g c = subst (MayLoadWord c.args.word) (sym c.requires.token.view) c.requires.may

pub returns-clause-token : goal.returns-clause-token
returns-clause-token g c =
    token_read c.args.shared.now.table.shared.table_id c.args.member.now.number c.load_word.new.pass.number c.args.member.now.seat c.load_word.new.pass.seat c.args.word c.load_word.result c.requires.token c.load_word.ensures.token c.load_word.ensures.number c.load_word.ensures.view

pub returns-clause-read : goal.returns-clause-read
returns-clause-read g c =
    read_one c.args.shared.now.table.shared.table_id c.args.member.now c.load_word.new.pass c.args.word c.load_word.result c.requires.token c.load_word.ensures.token c.load_word.ensures.number c.load_word.ensures.root c.load_word.ensures.anchors c.load_word.ensures.view

pub returns-clause-found : goal.returns-clause-found
returns-clause-found g c =
    found_under (view_of c.args.member.now) c.requires.awake c.requires.learnt c.args.word c.load_word.result (subst (λ (v : View). WordTells v c.args.word c.load_word.result) c.requires.token.view c.load_word.ensures.tells)
