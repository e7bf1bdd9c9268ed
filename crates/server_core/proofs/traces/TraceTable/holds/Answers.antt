-- A reference passes where the function that it names does.
use Rattle.std.proofs.Common.{ap, ◌∙◌, rules, tests}
use Rattle.std.proofs.lemmas.Iterator.{YieldsList-from_slice}
use Rattle.std.proofs.lemmas.Iterator.Search.{any_from_yields_List}
use Rattle.std.specs.List.{list_any}
use Rattle.server_core.specs.ServerState.{entry_of, is_same_entry}
use Rattle.server_core.proofs.Traced.{any_shown}
use Rattle.server_core.proofs.traces.TraceTable.holds.Goals as goal

pub returns : goal.returns
returns c =
    any_from_yields_List (λ x. is_same_entry (entry_of c.args.at) (entry_of x)) _ _ _ c.any.ensures.ran (YieldsList-from_slice c.self.inside.functions.items (cc)) (λ x b q k. search (rules, tests))
    ∙ any_shown (is_same_entry (entry_of c.args.at)) c.self.inside.functions.items ∙ ap (list_any (is_same_entry (entry_of c.args.at))) c.self.view_is
