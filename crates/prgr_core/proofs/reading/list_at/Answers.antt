use Rattle.std.proofs.Common.{◌≡◌, List, [], ◌∷◌, ◌++◌, ◌+◌, length, sym, ◌∙◌, ap, arith}
use Rattle.std.proofs.lemmas.Bool.{eqb-true, eqb-false}
use Rattle.std.proofs.lemmas.Result.{err_from_is_err_and}
use Rattle.prgr_core.specs.declared.event.PrgrEvent.{PrgrEvent}
use Rattle.prgr_core.proofs.Texts.{lines_on, fault_of_line, event_leads, go_ends, at_end_more, at_end_none, event_is}
use Rattle.prgr_core.proofs.reading.list_at.Goals as goal

-- a fault of one line is that of the list
pub returns-in_err-found : goal.returns-in_err-found
returns-in_err-found c =
    let p = err_from_is_err_and c.from_residual.result c.from_residual.ensures.1 in
    rw (p.1, p.2) (fault_of_line c.args.members c.args.watchers c.lines.number c.lines.events c.lines.rest.now c.in_err-found.field-0.0 _ c.lines.invariant c.in_err-found.ensures)

-- an event takes its line away
pub lines-smaller : goal.lines-smaller
lines-smaller c = (event_leads c.args.members c.args.watchers c.lines.number c.lines.events c.lines.rest.now c.in_ok-found.behind.now c.in-Some.event (event_is _ _ _ _ c.in_ok-found.ensures c.in-Some.is)).0

-- and leads on
pub lines-preserved : goal.lines-preserved
lines-preserved c =
    let leads = (event_leads c.args.members c.args.watchers c.lines.number c.lines.events c.lines.rest.now c.in_ok-found.behind.now c.in-Some.event (event_is _ _ _ _ c.in_ok-found.ensures c.in-Some.is)).1 in
    let pushed : c.push.new.self ≡ c.lines.events ++ c.in-Some.event ∷ [] = c.in_ok-push-in-Some.ensures.ok in
    ap (λ (events : List PrgrEvent). lines_on c.args.members c.args.watchers (c.lines.number + 1) events c.in_ok-found.behind.now) pushed ∙ sym leads ∙ c.lines.invariant

-- nothing follows `go`
pub returns-then-is_empty : goal.returns-then-is_empty
returns-then-is_empty c =
    let ends = go_ends c.args.members c.args.watchers c.lines.number c.lines.events c.lines.rest.now c.in_ok-found.behind.now (event_is _ _ _ _ c.in_ok-found.ensures c.in-None.is) in
    let empty = eqb-true (length c.in_ok-found.behind.now) 0 (sym c.if-is_empty.ensures) in
    sym c.lines.invariant ∙ ends ∙ at_end_none (c.lines.number + 1) c.lines.events c.in_ok-found.behind.now empty

-- something follows `go`
pub returns-else-is_empty : goal.returns-else-is_empty
returns-else-is_empty c =
    let ends = go_ends c.args.members c.args.watchers c.lines.number c.lines.events c.lines.rest.now c.in_ok-found.behind.now (event_is _ _ _ _ c.in_ok-found.ensures c.in-None.is) in
    let some = eqb-false (length c.in_ok-found.behind.now) 0 (sym c.if-is_empty.ensures) in
    sym c.lines.invariant ∙ ends ∙ at_end_more (c.lines.number + 1) c.lines.events c.in_ok-found.behind.now (omega (arith, some))
