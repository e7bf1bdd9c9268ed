use Rattle.std.proofs.Common.{ap, sym, ◌∙◌}
use Rattle.std.proofs.lemmas.Bool.Decides.{Decides-like}
use Rattle.std.proofs.lemmas.Slice.Eq.{slice_eq-Decides}
use Rattle.server_core.specs.declared.command.Reply.TheVariants.{NotPurged}
use Rattle.legality.proofs.SameParts.{modules_told, same_atom}
use Rattle.legality.proofs.replies.is_not_purged.Goals as goal

-- atom by atom
pub returns-in-NotPurged : goal.returns-in-NotPurged
returns-in-NotPurged c =
    let d = slice_eq-Decides (λ a b. same_atom a b) _ _ _ c.eq.ensures in
    Decides-like _ (λ e. ap NotPurged (sym c.as_slice.ensures ∙ e ∙ c.as_slice-in-NotPurged.ensures) ∙ sym c.in-NotPurged.is)
    (λ e. c.as_slice.ensures ∙ modules_told c.args.modules.now c.in-NotPurged.told (e ∙ c.in-NotPurged.is) ∙ sym c.as_slice-in-NotPurged.ensures) d
