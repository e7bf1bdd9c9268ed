use Rattle.std.proofs.Common.{◌∙◌, sym, arith}
use Rattle.std.proofs.lemmas.Option.{slice_get_within}
use Rattle.term_core.proofs.NameTables.{texts_are_atoms}
use Rattle.script_core.proofs.NamesCopied.{named_by, name_copied, none_left, names_copied}
use Rattle.script_core.proofs.copying.copy_names.Goals as goal

-- the given names are copied
pub names-init : goal.names-init
names-init c = λ sound. c.in_ok-copies.ensures.given ∙ sym sound.given

-- each name is an atom's text
pub add-requires : goal.add-requires
add-requires c = texts_are_atoms c.args.names.now c.in-Some.text.now c.names.number c.in-Some.ensures.sound (sym c.in-Some.ensures.value)

-- one name less is left
pub names-smaller : goal.names-smaller
names-smaller c = let within = slice_get_within c.args.names.now c.names.number c.in-Some.text.now (sym c.in-Some.ensures.value) in omega arith

-- one name more is copied
pub names-preserved : goal.names-preserved
names-preserved c = λ sound.
    name_copied c.args.names.now c.names.copies c.add.new.self c.names.number c.in-Some.text.now sound (sym c.in-Some.ensures.value) (c.names.invariant sound) (named_by c.names.copies c.in-Some.text.now c.add.new.self c.add.result (sym c.is_err.ensures.value ∙ c.if-is_err.false) c.add.ensures.ok)

-- all are copied
pub returns : goal.returns
returns c =
    names_copied c.args.names.now c.names.copies c.names.number (c.names.invariant c.in_default.ensures.sound) (none_left c.args.names.now c.names.number (sym c.in_default.ensures.value))
