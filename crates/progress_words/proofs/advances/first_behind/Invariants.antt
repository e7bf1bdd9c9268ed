use Rattle.progress_words.proofs.Scanning.{HaveLooked}
use Rattle.progress_words.proofs.advances.first_behind.Given as goal

-- those before this one were looked at, and each is done
abbrev pub invariant-loop-other : goal.invariant-loop-other
invariant-loop-other g l = HaveLooked l.fn.shared.table.shared.table_id l.fn.counter l.fn.member l.other l.member
