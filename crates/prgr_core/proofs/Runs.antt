-- Runs of events, one event longer.
use Rattle.std.proofs.Common.{◌≡◌, ℕ, ◌+◌, ◌<◌, List, [], ◌∷◌, ◌++◌, length, take, get_or, Some, sym, ◌∙◌, ap, subst}
use Rattle.std.proofs.lemmas.List.{take_more}
use Rattle.std.specs.Option.{option_and_then}
use Rattle.prgr_core.specs.declared.progress.Progress.{Progress}
use Rattle.prgr_core.specs.declared.event.PrgrEvent.{PrgrEvent}
use Rattle.prgr_core.specs.Step.{after, after_all}
use Rattle.prgr_core.proofs.Parts.{and_then_some, some_same}

-- one event more
after_all-push : (s t u : Progress) (events : List PrgrEvent) (event : PrgrEvent) → after_all s events ≡ Some t → after t event ≡ Some u → after_all s (events ++ event ∷ []) ≡ Some u
after_all-push s t u [] event is made =
    let same = some_same s t is in
    let made_there : after s event ≡ Some u = subst (λ (p : Progress). after p event ≡ Some u) (sym same) made in
    ap (option_and_then (λ next. Some next)) made_there
after_all-push s t u (first ∷ events) event is made =
    let found = and_then_some (λ next. after_all next events) (after s first) t is in
    ap (option_and_then (λ next. after_all next (events ++ event ∷ []))) found.1 ∙ after_all-push found.0 t u events event found.2 made

-- the events up to one place further
pub after_all_more : (s t u : Progress) (events items : List PrgrEvent) (i : ℕ) (d : PrgrEvent) → items ≡ events → i < length items → after_all s (take i events) ≡ Some t → after t (get_or items i d) ≡ Some u → after_all s (take (i + 1) events) ≡ Some u
after_all_more s t u events items i d same within before made =
    subst (λ (es : List PrgrEvent). after_all s (take (i + 1) es) ≡ Some u) same
    (subst (λ (es : List PrgrEvent). after_all s es ≡ Some u) (sym (take_more items i d within))
    (after_all-push s t u (take i items) (get_or items i d) (subst (λ (es : List PrgrEvent). after_all s (take i es) ≡ Some t) (sym same) before) made))
