use Rattle.script_text.proofs.Common.{◌≡◌, drop, map}
use Rattle.script_text.proofs.Forms.{kept_ref, ref_named, each_named}
use Rattle.script_text.proofs.NamingLoops.{with_front}
use Rattle.script_text.proofs.reading.naming.name_refs.Given as goal

-- what was named, in front of what is left, is the whole
abbrev pub invariant-loop-to : goal.invariant-loop-to
invariant-loop-to l = with_front l.named (each_named ref_named l.names (map kept_ref (drop l.to-index l.refs))) ≡ each_named ref_named l.initial.names (map kept_ref l.refs)
