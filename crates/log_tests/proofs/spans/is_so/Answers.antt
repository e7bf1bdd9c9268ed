-- The only span is of the server's newest generation.
use Rattle.std.proofs.Common.{◌≡◌, ◌∙◌, ℕ, ◌≤◌, List, [], ◌∷◌, ◌++◌, ap, arith, subst, sym}
use Rattle.std.specs.List.{AllByRecursion}
use Rattle.run_log.specs.declared.logs.Span.{Span}
use Rattle.log_tests.proofs.spans.is_so.Goals as goal

one_span : (generation : ℕ) (none spans : List Span) (span : Span) → none ≡ [] → spans ≡ none ++ span ∷ [] → span.generation ≡ generation
    → AllByRecursion (λ (s : Span). generation ≤ s.generation) spans
one_span generation none spans span empty pushed same =
    let is : spans ≡ span ∷ [] = pushed ∙ ap (λ xs. xs ++ span ∷ []) empty in
    let least : generation ≤ span.generation = omega (arith, same) in
    subst (AllByRecursion (λ (s : Span). generation ≤ s.generation)) (sym is) (least, tt)

pub take_spans-requires-clause-reached : goal.take_spans-requires-clause-reached
take_spans-requires-clause-reached c =
    c.in_ok-standing.ensures.reached c.args.server.now.generation (one_span c.args.server.now.generation c.new-spans.result c.push.new.self _ c.new-spans.ensures c.in_ok-push.ensures.ok c.generation.ensures.value)
