-- Where the entry word is 0 or the instance is retired, the function is not traced; else the decision tells.
use Rattle.std.proofs.Common.{◌∙◌, sym, ap}
use Rattle.area_core.specs.declared.table.Published.{Published}
use Rattle.area_core.specs.Generations.{is_retired_area, is_traced_function}
use Rattle.breakpoints.proofs.Looking.{held_still, may_still, read_more}
use Rattle.breakpoints.proofs.deciding.decision.Goals as goal

pub returns-then-entry-eq0-clause-value : goal.returns-then-entry-eq0-clause-value
returns-then-entry-eq0-clause-value g c = sym (c.entry_of-entry.ensures.untraced c.if-entry-eq0.true)

pub retired_in-requires-clause-may : goal.retired_in-requires-clause-may
retired_in-requires-clause-may g c = may_still c.args.member.now c.entry_of-entry.new.member c.entry_of-entry.ensures.read c.args.at c.requires.may

pub returns-then-retired_in-clause-read : goal.returns-then-retired_in-clause-read
returns-then-retired_in-clause-read g c = read_more c.args.member.now c.entry_of-entry.new.member c.retired_in.new.member c.entry_of-entry.ensures.read c.retired_in.ensures.read

pub returns-then-retired_in-clause-value : goal.returns-then-retired_in-clause-value
returns-then-retired_in-clause-value g c =
    let held = held_still c.args.member.now c.entry_of-entry.new.member c.entry_of-entry.ensures.read in
    sym (c.requires.may.gone (ap (λ (p : Published). is_retired_area p c.args.at.area.serial) (sym held) ∙ sym c.retired_in.ensures.value ∙ c.if-retired_in.true))

pub decided_in-requires-clause-may : goal.decided_in-requires-clause-may
decided_in-requires-clause-may g c =
    may_still c.entry_of-entry.new.member c.retired_in.new.member c.retired_in.ensures.read c.args.at (may_still c.args.member.now c.entry_of-entry.new.member c.entry_of-entry.ensures.read c.args.at c.requires.may)

pub decided_in-requires-clause-live : goal.decided_in-requires-clause-live
decided_in-requires-clause-live g c =
    ap (λ (p : Published). is_retired_area p c.args.at.area.serial) (held_still c.entry_of-entry.new.member c.retired_in.new.member c.retired_in.ensures.read) ∙ sym c.retired_in.ensures.value ∙ c.if-retired_in.false

pub returns-clause-read : goal.returns-clause-read
returns-clause-read g c =
    read_more c.args.member.now c.entry_of-entry.new.member c.decided_in.new.member c.entry_of-entry.ensures.read (read_more c.entry_of-entry.new.member c.retired_in.new.member c.decided_in.new.member c.retired_in.ensures.read c.decided_in.ensures.read)

pub returns-clause-value : goal.returns-clause-value
returns-clause-value g c =
    let held = held_still c.entry_of-entry.new.member c.retired_in.new.member c.retired_in.ensures.read ∙ held_still c.args.member.now c.entry_of-entry.new.member c.entry_of-entry.ensures.read in
    c.decided_in.ensures.value ∙ ap (λ (p : Published). is_traced_function p c.args.at.area.serial c.args.at.function) held
