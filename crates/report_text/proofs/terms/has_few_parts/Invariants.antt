use Rattle.report_text.proofs.Common.{◌≡◌, ◌+◌, ◌≤◌, length, option_map}
use Rattle.report_text.proofs.Texts.{parts_of_terms, parts_of_rest, left_of}
use Rattle.report_text.proofs.terms.has_few_parts.Given as goal

-- those that were counted and those that are left are all
abbrev pub invariant-parts : goal.invariant-parts
invariant-parts l = record {
  all : l.count + length (parts_of_rest (option_map (λ rest. rest.now) l.rest)) ≡ length (parts_of_terms l.fn.text);
  few : l.count ≤ 15;
}

-- the bytes that are left
abbrev pub decreases-parts : goal.decreases-parts
decreases-parts l = left_of (option_map (λ rest. rest.now) l.rest)
