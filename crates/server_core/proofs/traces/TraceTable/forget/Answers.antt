-- What is of another instance stays.
use Rattle.std.proofs.Common.{ap, map, filter, ◌∙◌, rules, not, nat_eq}
use Rattle.std.proofs.lemmas.Fn.{filter_same}
use Rattle.server_core.specs.ServerState.{entry_of}
use Rattle.server_core.proofs.Traced.{filter_shown}
use Rattle.server_core.proofs.traces.TraceTable.forget.Goals as goal

pub returns : goal.returns
returns c =
    ap (map entry_of) (filter_same _ (λ other. not (nat_eq other.area.serial c.args.serial)) _ (λ x b q k. search rules) _ _ c.retain.ensures.filtered)
    ∙ filter_shown (λ e. not (nat_eq e.serial c.args.serial)) c.self.inside.functions.items ∙ ap (filter (λ e. not (nat_eq e.serial c.args.serial))) c.self.view_is
