-- Generation 0 is published, and the words are at rest.
use Rattle.std.proofs.Common.{All, refl, sym, subst}
use Rattle.change_laws.specs.Names.{IsNumbered}
use Rattle.script_core.specs.declared.script.Script.{Script}
use Rattle.word_permit.proofs.Calls.{begun_word_book}
use Rattle.word_permit.proofs.steps.begin_book.Goals as goal

pub returns-clause-begun : goal.returns-clause-begun
returns-clause-begun g c = record {
  script_is = c.in_ok-begin.ensures.script;
  journal = c.in_ok-begin.ensures.journal;
  server = c.in_ok-begin.ensures.server;
  holder = c.in_ok-begin.ensures.holder;
  tables = refl;
  waiting = refl;
  need = refl;
  look = refl;
}

pub returns-clause-book : goal.returns-clause-book
returns-clause-book g c = λ table opening of.
    begun_word_book g.K.Naming.names table opening _ c.in_ok-begin.ensures.book (subst (λ (s : Script). All (IsNumbered g.K.Naming.names) s.modules) (sym c.in_ok-begin.ensures.script) c.requires.texts) of c.requires.exports
    c.in_ok-begin.ensures.journal c.in_ok-begin.ensures.server c.in_ok-begin.ensures.holder c.requires.opening c.requires.notes c.requires.drops c.requires.rest refl refl refl
