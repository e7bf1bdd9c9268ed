-- A leaf keeps the names before.
use Rattle.std.proofs.Common.{sym, subst}
use Rattle.term_core.specs.Names.{Extends}
use Rattle.term_core.proofs.Building.{names_with_leaf-Extends}
use Rattle.term_core.proofs.naming.name_first.Goals as goal

-- so does the first
pub returns-in_ok-name_leaf-clause-grown : goal.returns-in_ok-name_leaf-clause-grown
returns-in_ok-name_leaf-clause-grown c = subst (Extends c.args.names.now) (sym c.in_ok-name_leaf.ensures.named) (names_with_leaf-Extends c.args.names.now c.leaf_front.result.now)
