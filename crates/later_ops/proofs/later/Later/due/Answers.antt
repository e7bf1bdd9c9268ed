use Rattle.std.proofs.Common.{Some, slice_index_or, ap, sym, ◌∙◌}
use Rattle.std.specs.List.{remove}
use Rattle.later_ops.proofs.Dues.{nothing_due, due_at}
use Rattle.later_ops.proofs.later.Later.due.Goals as goal

-- where none is due, all stay
pub returns-in_err-place-clause-first : goal.returns-in_err-place-clause-first
returns-in_err-place-clause-first g c =
    let d = nothing_due c.args.current c.args.self.now c.self.inside.held.items c.as_slice.result.now c.self.inside.room (sym c.self.view_is) c.as_slice.ensures.value c.first_place.result c.first_place.ensures c.in_err-place.was in
    c.from_residual.ensures ∙ sym d.first

pub returns-in_err-place-clause-rest : goal.returns-in_err-place-clause-rest
returns-in_err-place-clause-rest g c =
    let d = nothing_due c.args.current c.args.self.now c.self.inside.held.items c.as_slice.result.now c.self.inside.room (sym c.self.view_is) c.as_slice.ensures.value c.first_place.result c.first_place.ensures c.in_err-place.was in
    ap (λ held. (held, c.args.self.now.1)) (sym d.rest)

pub returns-in_err-place-clause-none : goal.returns-in_err-place-clause-none
returns-in_err-place-clause-none g c =
    let d = nothing_due c.args.current c.args.self.now c.self.inside.held.items c.as_slice.result.now c.self.inside.room (sym c.self.view_is) c.as_slice.ensures.value c.first_place.result c.first_place.ensures c.in_err-place.was in
    (λ same. d.none, λ none. c.from_residual.ensures)

-- the first that is due is taken out
pub returns-clause-first : goal.returns-clause-first
returns-clause-first g c =
    let d = due_at c.args.current c.args.self.now c.self.inside.held.items c.as_slice.result.now c.self.inside.room (sym c.self.view_is) c.as_slice.ensures.value c.first_place.result c.first_place.ensures c.in_ok-place.place c.in_ok-place.was in
    ap (λ w. Some w.1) (c.remove-op.ensures.value ∙ ap (λ held. slice_index_or held c.in_ok-place.place c.remove-op.result) (ap (λ l. l.0) c.self.view_is)) ∙ sym (d.first c.remove-op.result)

pub returns-clause-rest : goal.returns-clause-rest
returns-clause-rest g c =
    let d = due_at c.args.current c.args.self.now c.self.inside.held.items c.as_slice.result.now c.self.inside.room (sym c.self.view_is) c.as_slice.ensures.value c.first_place.result c.first_place.ensures c.in_ok-place.place c.in_ok-place.was in
    let rest = c.remove-op.ensures.items ∙ ap (λ held. remove held c.in_ok-place.place) (ap (λ l. l.0) c.self.view_is) ∙ sym d.rest in
    λ i. (rest i, (c.self.view_is i).1)

pub returns-clause-none : goal.returns-clause-none
returns-clause-none g c =
    let d = due_at c.args.current c.args.self.now c.self.inside.held.items c.as_slice.result.now c.self.inside.room (sym c.self.view_is) c.as_slice.ensures.value c.first_place.result c.first_place.ensures c.in_ok-place.place c.in_ok-place.was in
    (λ same. absurd (cc), λ none. absurd (d.some none))
