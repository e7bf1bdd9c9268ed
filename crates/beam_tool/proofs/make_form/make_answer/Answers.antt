-- The text of a made script, which is never too long.
use Rattle.std.proofs.Common.{ℕ, List, ◌++◌, refl, sym, ◌∙◌, subst, ap, Err}
use Rattle.script_text.specs.Canonical.{IsOfSomeText, IsTooLongToPrint, canonical_text}
use Rattle.beam_tool.proofs.SeededScripts.{seeded_brief, seeded_is, seeded_told}
use Rattle.beam_tool.proofs.make_form.make_answer.Goals as goal

pub print_script-requires : goal.print_script-requires
print_script-requires c = subst IsOfSomeText (sym (c.in_ok-script.ensures.made ∙ seeded_is c.args.seed c.args.size)) (seeded_told c.args.seed c.args.size c.requires.most)

pub returns-in-Ok : goal.returns-in-Ok
returns-in-Ok c =
    let same = c.in_ok-script.ensures.made ∙ seeded_is c.args.seed c.args.size in
    record { status_is = refl; log_is = refl; text_is = c.in-Ok.ensures.ok ∙ ap (λ (t : List ℕ). t ++ canonical_text c.in_ok-script.script) c.new-text.ensures ∙ ap canonical_text same }

pub unreachable-requires : goal.unreachable-requires
unreachable-requires c =
    seeded_brief c.args.seed c.args.size c.requires.most
    (subst IsTooLongToPrint (c.in_ok-script.ensures.made ∙ seeded_is c.args.seed c.args.size) (c.in-Err-TooLong.ensures.too_long (ap Err c.in-Err-TooLong.field-0-is)))
