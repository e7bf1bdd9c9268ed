-- What begins with the byte is a leaf.
use Rattle.std.proofs.Common.{sym, ◌∙◌, subst}
use Rattle.term_core.specs.Bytes.{leaf_front}
use Rattle.term_core.specs.Tokens.{IsLeaf}
use Rattle.term_core.proofs.Building.{begun_leaf}
use Rattle.term_core.proofs.builder.take_token.Goals as goal

-- since its token is
pub read_leaf-requires : goal.read_leaf-requires
read_leaf-requires c = subst IsLeaf (sym c.leaf_front.ensures) (begun_leaf c.args.inside c.args.kind (leaf_front c.args.text.now) (sym c.begins.ensures ∙ c.if-begins.true) c.requires)
