-- How long the script's part is, from the lines before the rest.
use Rattle.std.proofs.Common.{bytes_eq, length, sym, ap, ◌∙◌, arith}
use Rattle.outside.proofs.ScriptParts.{cut_lengths, length_at_go, length_behind, part_at_end}
use Rattle.outside.proofs.parting.script_length.Goals as goal

pub overflow_sub-result : goal.overflow_sub-result
overflow_sub-result c =
    let cut = cut_lengths c.lines.rest.now (c.in-Some.line.now, c.in-Some.behind.now) (sym c.in-Some.ensures) in
    omega (arith, cut, c.lines.invariant.within)

pub returns-then-eq : goal.returns-then-eq
returns-then-eq c =
    let cut = cut_lengths c.lines.rest.now (c.in-Some.line.now, c.in-Some.behind.now) (sym c.in-Some.ensures) in
    let last = length_at_go c.lines.rest.now (c.in-Some.line.now, c.in-Some.behind.now) (sym c.in-Some.ensures) (ap (bytes_eq c.in-Some.line.now) (sym c.as_slice.ensures) ∙ sym c.eq.ensures ∙ c.if-eq.true) in
    omega (arith, cut, last, c.lines.invariant.within, c.lines.invariant.part)

pub lines-smaller : goal.lines-smaller
lines-smaller c =
    let cut = cut_lengths c.lines.rest.now (c.in-Some.line.now, c.in-Some.behind.now) (sym c.in-Some.ensures) in
    omega (arith, cut)

pub lines-preserved : goal.lines-preserved
lines-preserved c =
    let cut = cut_lengths c.lines.rest.now (c.in-Some.line.now, c.in-Some.behind.now) (sym c.in-Some.ensures) in
    let more = length_behind c.lines.rest.now (c.in-Some.line.now, c.in-Some.behind.now) (sym c.in-Some.ensures) (ap (bytes_eq c.in-Some.line.now) (sym c.as_slice.ensures) ∙ sym c.eq.ensures ∙ c.if-eq.false) in
    record { within = omega (arith, cut, c.lines.invariant.within); part = omega (arith, cut, more, c.lines.invariant.part) }

pub returns : goal.returns
returns c =
    let all = ap length (part_at_end c.lines.rest.now (sym c.in_default.ensures)) in
    omega (arith, all, c.lines.invariant.part)
