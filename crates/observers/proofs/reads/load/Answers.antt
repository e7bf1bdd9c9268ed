-- The word may be loaded, and what is found is one under the generation.
use Rattle.std.proofs.Common.{sym, subst}
use Rattle.shared_words.specs.declared.view.View.{View}
use Rattle.shared_words.specs.Publishing.{MayLoadWord, WordTells}
use Rattle.progress_words.specs.Tokens.{watched_by}
use Rattle.observers.proofs.Mirrored.{found_watched, may_watched}
use Rattle.observers.proofs.Reading.{read_one, token_read}
use Rattle.observers.proofs.reads.load.Goals as goal

pub load_word-requires-clause-may : goal.load_word-requires-clause-may
load_word-requires-clause-may g c =
    subst (MayLoadWord c.args.word) (sym c.requires.token.view) (may_watched c.args.watcher.now.root (watched_by c.args.watcher.now) c.requires.reading c.args.word c.requires.may)

pub returns-clause-token : goal.returns-clause-token
returns-clause-token g c =
    token_read c.args.shared.now.table.shared.table_id c.args.watcher.now.holds c.load_word.new.pass.holds c.args.watcher.now.seat c.load_word.new.pass.seat c.args.word c.load_word.result c.requires.token c.load_word.ensures.token c.load_word.ensures.number c.load_word.ensures.view

pub returns-clause-read : goal.returns-clause-read
returns-clause-read g c =
    read_one c.args.shared.now.table.shared.table_id c.args.watcher.now c.load_word.new.pass c.args.word c.load_word.result c.requires.token c.load_word.ensures.token c.load_word.ensures.root c.load_word.ensures.view

pub returns-clause-found : goal.returns-clause-found
returns-clause-found g c =
    found_watched c.args.watcher.now.root (watched_by c.args.watcher.now) c.requires.reading c.args.word c.load_word.result (subst (λ (v : View). WordTells v c.args.word c.load_word.result) c.requires.token.view c.load_word.ensures.tells)
