use Rattle.std.proofs.Common.{◌≡◌, ◌-◌, bytes_eq, decimal}
use Rattle.std.specs.List.{find, range_with_len}
use Rattle.beam_tool.specs.TopCall.{schedulers_of as the_schedulers_of}
use Rattle.beam_tool.proofs.form.schedulers_of.Given as goal

-- no smaller count has this text
abbrev pub invariant-loop-schedulers : goal.invariant-loop-schedulers
invariant-loop-schedulers l = the_schedulers_of l.fn.count ≡ find (λ n. bytes_eq (decimal n) l.fn.count) (range_with_len l.schedulers (17 - l.schedulers))
