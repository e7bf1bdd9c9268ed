-- The module of a title and its functions.
use Rattle.mod_text.proofs.Common.{sym, subst}
use Rattle.mod_text.proofs.Forms.{forms_of}
use Rattle.mod_text.proofs.Settles.{HasVersion, title_version}
use Rattle.mod_text.proofs.settling.settled_module.Goals as goal

pub value_of-requires-clause-number : goal.value_of-requires-clause-number
value_of-requires-clause-number c = (subst HasVersion (sym c.title_of.ensures.version) (title_version (forms_of c.args.lines.now) c.requires.titled c.requires.kept)).number

pub value_of-requires-clause-small : goal.value_of-requires-clause-small
value_of-requires-clause-small c = (subst HasVersion (sym c.title_of.ensures.version) (title_version (forms_of c.args.lines.now) c.requires.titled c.requires.kept)).small
