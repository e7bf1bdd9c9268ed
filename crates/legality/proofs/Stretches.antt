-- A loop up to the entry that makes the next generation.
use Rattle.std.proofs.Common.{◌≡◌, ℕ, ◌+◌, ◌<◌, ◌≤◌, true, false, List, [], ◌∷◌, ◌++◌, length, take, drop, get_or, is_some, append_assoc, sym, ap, ◌∙◌}
use Rattle.std.proofs.lemmas.Bool.{cond-true, cond-false}
use Rattle.std.proofs.lemmas.List.{append-nil, at_drop_more, at_drop_all, take_all, take_more}
use Rattle.run_log.specs.declared.logs.Entry.{Entry}
use Rattle.legality.specs.Sweeps.{stretch}

module _ (journal : List Entry) (place : ℕ) (so_far : stretch journal ≡ take place journal ++ stretch (drop place journal)) where
  module _ (e : Entry) (below : place < length journal) (is : e ≡ get_or journal place e) where
    first_is : stretch (drop place journal) ≡ stretch (e ∷ drop (place + 1) journal)
    first_is = at_drop_more stretch journal place e below ∙ ap (λ x. stretch (x ∷ drop (place + 1) journal)) (sym is)

    one_more : take (place + 1) journal ≡ take place journal ++ e ∷ []
    one_more = take_more journal place e below ∙ ap (λ x. take place journal ++ x ∷ []) (sym is)

    -- this entry makes it
    pub stretch_ends : is_some e.published ≡ true → take (place + 1) journal ≡ stretch journal
    stretch_ends h =
        one_more
        ∙ ap (λ xs. take place journal ++ xs) (sym (cond-true (is_some e.published) (e ∷ []) (e ∷ stretch (drop (place + 1) journal)) h))
        ∙ ap (λ xs. take place journal ++ xs) (sym first_is)
        ∙ sym so_far

    -- it makes none
    pub stretch_goes : is_some e.published ≡ false → stretch journal ≡ take (place + 1) journal ++ stretch (drop (place + 1) journal)
    stretch_goes h =
        so_far
        ∙ ap (λ xs. take place journal ++ xs) first_is
        ∙ ap (λ xs. take place journal ++ xs) (cond-false (is_some e.published) (e ∷ []) (e ∷ stretch (drop (place + 1) journal)) h)
        ∙ sym (append_assoc (take place journal) (e ∷ []) (stretch (drop (place + 1) journal)))
        ∙ ap (λ xs. xs ++ stretch (drop (place + 1) journal)) (sym one_more)

  -- no entry makes one
  pub stretch_whole : length journal ≤ place → journal ≡ stretch journal
  stretch_whole end =
      sym (take_all place journal end) ∙ sym (append-nil (take place journal)) ∙ ap (λ xs. take place journal ++ xs) (sym (at_drop_all stretch journal place end)) ∙ sym so_far
