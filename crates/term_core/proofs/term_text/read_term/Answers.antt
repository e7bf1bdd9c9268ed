-- What `read_term` answers, by what the text is read as.
use Rattle.term_core.specs.declared.term_fault.TermFault.TheVariants as faults
use Rattle.term_core.proofs.ReadingFaults.{result_ok, result_short, result_cause, result_only, result_refused}
use Rattle.term_core.proofs.term_text.read_term.Goals as goal

-- each clause is a law on the reading
pub returns : goal.returns
returns c =
    let names = c.args.names.now in
    let text = c.args.text.now in
    let refused = result_refused names text c.read_text.result c.read_text.new.names c.read_text.ensures.reads in
    record {
      reads = c.read_text.ensures.reads;
      ok = result_ok names text c.read_text.result c.read_text.new.names c.read_text.ensures.reads;
      short = result_short names text c.read_text.result c.read_text.new.names c.read_text.ensures.reads;
      only = result_only names text c.read_text.result c.read_text.new.names c.read_text.ensures.reads;
      cause = result_cause names text c.read_text.result c.read_text.new.names c.read_text.ensures.reads;
      syntax = λ at h. refused (faults.Syntax at) (λ e. cc) h;
      range = λ at h. refused (faults.IntRange at) (λ e. cc) h;
      too_long = λ h. refused faults.TooLong (λ e. cc) h;
      full = λ h. refused faults.Names (λ e. cc) h;
      grown = c.read_text.ensures.grown;
      sound = c.read_text.ensures.sound;
    }
