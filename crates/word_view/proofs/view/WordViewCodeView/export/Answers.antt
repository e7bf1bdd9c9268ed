-- A name with a number reaches what the active code index has there.
use Rattle.std.proofs.Common.{sym, ◌∙◌}
use Rattle.word_view.proofs.GoneOn.{read_kept}
use Rattle.word_view.proofs.ViewCalls.{export_found, export_in_block, export_none, leads, same_held, same_shown}
use Rattle.word_view.proofs.view.WordViewCodeView.export.Goals as goal

pub export_of-requires-clause-token : goal.export_of-requires-clause-token
export_of-requires-clause-token g c = c.self.invariant.view.token

pub export_of-requires-clause-reading : goal.export_of-requires-clause-reading
export_of-requires-clause-reading g c = c.self.invariant.view.reading

pub export_of-requires-clause-leads : goal.export_of-requires-clause-leads
export_of-requires-clause-leads g c = leads _ c.args.self.now c.self.view_is c.self.invariant.view c.args.to c.in-Some.entry (sym c.entry.ensures.value ∙ c.in-Some.is)

pub invariant_of-self : goal.invariant_of-self
invariant_of-self g c = read_kept _ _ c.export_of.new.member c.export_of.ensures.read c.export_of.ensures.token c.self.invariant

pub returns-in-Some-clause-value : goal.returns-in-Some-clause-value
returns-in-Some-clause-value g c = export_found _ c.args.self.now c.self.view_is c.self.invariant.view c.args.to c.in-Some.entry c.export_of.result (sym c.entry.ensures.value ∙ c.in-Some.is) c.export_of.ensures.code

pub returns-in-Some-clause-stands : goal.returns-in-Some-clause-stands
returns-in-Some-clause-stands g c = export_in_block _ c.args.self.now c.self.view_is c.self.invariant.view c.args.to c.in-Some.entry c.export_of.result c.export_of.ensures.code

pub returns-in-Some-clause-same : goal.returns-in-Some-clause-same
returns-in-Some-clause-same g c = same_shown _ c.args.self.now c.self.view_is c.self.invariant.view c.export_of.new.member c.export_of.ensures.read

pub returns-in-Some-clause-holds : goal.returns-in-Some-clause-holds
returns-in-Some-clause-holds g c = same_held _ c.args.self.now c.self.view_is c.self.invariant.view c.export_of.new.member c.export_of.ensures.read

pub returns-in-None-clause-value : goal.returns-in-None-clause-value
returns-in-None-clause-value g c = export_none _ c.args.self.now c.self.view_is c.self.invariant.view c.args.to (sym c.entry.ensures.value ∙ c.in-None.is)
