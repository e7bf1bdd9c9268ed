use Rattle.report_text.proofs.Common.{◌≡◌, ◌≤◌, true, length, drop}
use Rattle.report_text.proofs.Texts.{lacks}
use Rattle.report_text.proofs.words.cut_last.Given as goal

-- the byte is not among those that were passed
abbrev pub invariant-loop-end : goal.invariant-loop-end
invariant-loop-end l = record {
  within : l.end ≤ length l.text;
  passed : lacks l.byte (drop l.end l.text) ≡ true;
}

-- the bytes that are left
abbrev pub decreases-loop-end : goal.decreases-loop-end
decreases-loop-end l = l.end
