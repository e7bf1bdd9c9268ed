-- What is retired is not doomed; of what is not, the doom word tells.
use Rattle.std.proofs.Common.{◌∙◌, sym, ap}
use Rattle.area_core.specs.declared.table.Published.{Published}
use Rattle.area_core.specs.Generations.{is_doomed_area, is_retired_area}
use Rattle.word_view.proofs.Reading.{held_still, named_at_still, read_more, reading_still}
use Rattle.word_view.proofs.tells.doomed_in.Goals as goal

pub returns-then-retired_in-clause-value : goal.returns-then-retired_in-clause-value
returns-then-retired_in-clause-value g c = sym (c.requires.apart (sym c.retired_in.ensures.value ∙ c.if-retired_in.true))

pub doom_in-requires-clause-reading : goal.doom_in-requires-clause-reading
doom_in-requires-clause-reading g c = reading_still c.args.member.now c.retired_in.new.member c.retired_in.ensures.read c.requires.reading

pub doom_in-requires-clause-named : goal.doom_in-requires-clause-named
doom_in-requires-clause-named g c = named_at_still c.args.member.now c.retired_in.new.member c.retired_in.ensures.read c.args.area c.requires.named

pub doom_in-requires-clause-there : goal.doom_in-requires-clause-there
doom_in-requires-clause-there g c =
    ap (λ (p : Published). is_retired_area p c.args.area.serial) (held_still c.args.member.now c.retired_in.new.member c.retired_in.ensures.read) ∙ sym c.retired_in.ensures.value ∙ c.if-retired_in.false

pub returns-clause-read : goal.returns-clause-read
returns-clause-read g c = read_more c.args.member.now c.retired_in.new.member c.doom_in.new.member c.retired_in.ensures.read c.doom_in.ensures.read

pub returns-clause-value : goal.returns-clause-value
returns-clause-value g c = c.doom_in.ensures.value ∙ ap (λ (p : Published). is_doomed_area p c.args.area.serial) (held_still c.args.member.now c.retired_in.new.member c.retired_in.ensures.read)
