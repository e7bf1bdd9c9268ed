use Rattle.term_core.specs.declared.atom.AtomId.{AtomId}
use Rattle.std.proofs.Common.{◌≡◌, ◌∷◌, arith, append_assoc}
use Rattle.std.proofs.lemmas.Grind.{common_steps}
use Rattle.std.proofs.lemmas.Result.{IfOk-equal}
use Rattle.run_log.proofs.RenderingText.{starts_own, starts_same, starts_more, join_map_at}
use Rattle.term_core.specs.TermText.{atom_text}
use Rattle.run_log.proofs.rendering.name.write_atoms.Goals as goal

-- nothing was appended
pub returns-in_err-print_atom-clause-kept : goal.returns-in_err-print_atom-clause-kept
returns-in_err-print_atom-clause-kept c =
    starts_same _ _ c.in_err-print_atom.ensures.err

-- the first atom and the others, joined
pub returns-clause-ok : goal.returns-clause-ok
returns-clause-ok c =
    let e : c.args.atoms.now ≡ c.in-Some.first.now ∷ c.in-Some.others.now = grind (arith, common_steps) in
    let j = join_map_at 44 (λ (a : AtomId). atom_text c.args.names.now a.0) _ _ _ e in
    IfOk-equal _ _ _ _ c.write_other_atoms.ensures.ok (rw (c.in_ok-print_atom.ensures.ok, j) (simp append_assoc))

-- what was appended before and the part of the last call
pub returns-clause-kept : goal.returns-clause-kept
returns-clause-kept c =
    starts_more _ _ _ (starts_own _ _ _ c.in_ok-print_atom.ensures.ok) c.write_other_atoms.ensures.kept
