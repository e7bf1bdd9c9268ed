use Rattle.script_text.proofs.Forms.{ScriptText, canonical_text, IsTooLongToPrint}
use Rattle.script_text.proofs.CanonicalScripts.{canonical_reads}
use Rattle.script_text.proofs.KeySets.{on_ok}
use Rattle.script_text.proofs.printing.print_script.Goals as goal

-- what is written is a text of the script, since it is not too long
pub returns-else-is_err-clause-reads : goal.returns-else-is_err-clause-reads
returns-else-is_err-clause-reads c =
    let s = c.args.script.now in
    on_ok (IsTooLongToPrint s → ⊥) (ScriptText (canonical_text s) s) c.write_within-written.result (canonical_reads s c.requires) c.write_within-written.ensures.within
