-- The counts are tried from the least on.
use Rattle.std.proofs.Common.{◌≡◌, ◌<◌, sym, ◌∙◌, refl, arith, bytes_eq, decimal}
use Rattle.beam_tool.proofs.Counts.{first_count, later_count, no_count}
use Rattle.beam_tool.proofs.form.schedulers_of.Goals as goal

pub loop-schedulers-init : goal.loop-schedulers-init
loop-schedulers-init c = refl

pub returns-then-is_text_of : goal.returns-then-is_text_of
returns-then-is_text_of c =
    let below : c.loop-schedulers.schedulers < 17 = omega arith in
    sym (c.loop-schedulers.invariant ∙ first_count (λ n. bytes_eq (decimal n) c.args.count.now) c.loop-schedulers.schedulers 17 below (sym c.if-is_text_of.ensures))

pub loop-schedulers-preserved : goal.loop-schedulers-preserved
loop-schedulers-preserved c =
    let below : c.loop-schedulers.schedulers < 17 = omega arith in
    c.loop-schedulers.invariant ∙ later_count (λ n. bytes_eq (decimal n) c.args.count.now) c.loop-schedulers.schedulers 17 below (sym c.if-is_text_of.ensures)

pub returns : goal.returns
returns c =
    let last : c.loop-schedulers.schedulers ≡ 17 = omega arith in
    sym (c.loop-schedulers.invariant ∙ no_count (λ n. bytes_eq (decimal n) c.args.count.now) c.loop-schedulers.schedulers 17 last)
