use Rattle.std.proofs.Common.{refl}
use Rattle.term_table.proofs.Begun.{owned_first}
use Rattle.term_table.proofs.table.TermTable.new.Goals as goal

pub returns-clause-owned : goal.returns-clause-owned
returns-clause-owned c = λ w is. owned_first _ w refl refl is
