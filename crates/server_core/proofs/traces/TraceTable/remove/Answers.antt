-- What is another function stays.
use Rattle.std.proofs.Common.{ap, map, filter, ◌∙◌, rules, not}
use Rattle.std.proofs.lemmas.Fn.{filter_same}
use Rattle.server_core.specs.ServerState.{entry_of, is_same_entry}
use Rattle.server_core.proofs.Traced.{filter_shown}
use Rattle.server_core.proofs.traces.TraceTable.remove.Goals as goal

pub returns : goal.returns
returns c =
    ap (map entry_of) (filter_same _ (λ other. not (is_same_entry (entry_of c.args.at) (entry_of other))) _ (λ x b q k. search rules) _ _ c.retain.ensures.filtered)
    ∙ filter_shown (λ e. not (is_same_entry (entry_of c.args.at) e)) c.self.inside.functions.items ∙ ap (filter (λ e. not (is_same_entry (entry_of c.args.at) e))) c.self.view_is
