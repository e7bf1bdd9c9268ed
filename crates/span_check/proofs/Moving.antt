-- How far a log was judged after its spans of a generation were.
use Rattle.std.proofs.Common.{◌≡◌, ◌≤◌, ◌+◌, ◌-◌, ◌∙◌, ◌==◌, ℕ, zero, suc, refl, sym, ap, subst, arith, Bool, true, false, cond, List, [], ◌∷◌, length, take, drop, Option, Some, None, IfSome}
use Rattle.std.proofs.Math.Seq.{drop-length}
use Rattle.std.proofs.lemmas.Bool.{eqb-true, eqb-false}
use Rattle.std.proofs.lemmas.List.{length-drop, length-take-le, take_all}
use Rattle.std.proofs.lemmas.List.Sums.{prefix_len-le-length}
use Rattle.std.specs.List.{AllByRecursion}
use Rattle.run_log.specs.declared.logs.ProcessLog.{ProcessLog}
use Rattle.run_log.specs.declared.logs.Span.{Span}
use Rattle.run_log.specs.Legal.{first_generation}
use Rattle.span_check.specs.Standings.{NeverFall}
use Rattle.span_check.specs.Sweeps.{count_under, spans_from}

-- the spans as the code takes them
pub taken_is : (log : ProcessLog) (spans : List Span) (gone here : ℕ) → spans ≡ log.spans → take (gone + here - gone) (drop gone spans) ≡ spans_from log gone here
taken_is log spans gone here e = let n : gone + here - gone ≡ here = omega arith in ap (λ k. take k (drop gone spans)) n ∙ ap (λ xs. take here (drop gone xs)) e

-- there are as many
pub taken_length : (log : ProcessLog) (gone here : ℕ) → gone + here ≤ length log.spans → length (spans_from log gone here) ≡ here
taken_length log gone here room = length-take-le here (drop gone log.spans) (omega (arith, length-drop gone log.spans, room))

-- spans that never fall are under no earlier generation than the first
rising_from : (spans : List Span) (k : ℕ) → IfSome (first_generation spans) (λ g. k ≤ g) → NeverFall spans → AllByRecursion (λ x. k ≤ x.generation) spans
rising_from [] k low falls = tt
rising_from (x ∷ xs) k low falls = (low, rising_from xs k (lower (first_generation xs) falls.0) falls.1)
  where
    lower : (o : Option ℕ) → IfSome o (λ g. x.generation ≤ g) → IfSome o (λ g. k ≤ g)
    lower None h = tt
    lower (Some g) h = omega (arith, low, h)

pub falls_drop : (n : ℕ) (spans : List Span) → NeverFall spans → NeverFall (drop n spans)
falls_drop zero spans h = h
falls_drop (suc n) [] h = tt
falls_drop (suc n) (x ∷ xs) h = falls_drop n xs h.1

-- those in front that are under a generation, and those behind, which are under later ones
abbrev pub IsSplit : ℕ → List Span → ℕ → Type 0
IsSplit g spans n = AllByRecursion (λ x. x.generation ≡ g) (take n spans) × AllByRecursion (λ x. g + 1 ≤ x.generation) (drop n spans)

split_first : (g : ℕ) (x : Span) (xs : List Span) (b : Bool) → (x.generation == g) ≡ b → NeverFall (x ∷ xs) → g ≤ x.generation → IsSplit g xs (count_under g xs) → IsSplit g (x ∷ xs) (cond b (1 + count_under g xs) 0)
split_first g x xs true e falls low rest = let n : 1 + count_under g xs ≡ suc (count_under g xs) = omega arith in subst (IsSplit g (x ∷ xs)) (sym n) ((eqb-true x.generation g e, rest.0), rest.1)
split_first g x xs false e falls low rest =
    let other = eqb-false x.generation g e in
    let high : g + 1 ≤ x.generation = omega (arith, low, other) in
    (tt, rising_from (x ∷ xs) (g + 1) high falls)

pub under_split : (g : ℕ) (spans : List Span) → NeverFall spans → AllByRecursion (λ x. g ≤ x.generation) spans → IsSplit g spans (count_under g spans)
under_split g [] falls low = (tt, tt)
under_split g (x ∷ xs) falls low = split_first g x xs (x.generation == g) refl falls low.0 (under_split g xs falls.1 low.1)

-- how many spans are under the generation, as the code counts them
pub count_is : (log : ProcessLog) (spans : List Span) (gone generation g count : ℕ) → spans ≡ log.spans → generation ≡ g → count ≡ count_under generation (take (length spans - gone) (drop gone spans)) → count ≡ count_under g (drop gone log.spans)
count_is log spans gone generation g count e same is =
    is
    ∙ ap (λ k. count_under k (take (length spans - gone) (drop gone spans))) same
    ∙ ap (count_under g) (take_all (length spans - gone) (drop gone spans) (omega (arith, length-drop gone spans)) ∙ ap (drop gone) e)

-- nothing is left where all are told, and something where not all are
pub none_left : {X : Type 0} (told : ℕ) (xs : List X) → (told == length xs) ≡ true → drop told xs ≡ []
none_left told xs h = ap (λ n. drop n xs) (eqb-true told (length xs) h) ∙ drop-length xs

pub some_left : {X : Type 0} (told : ℕ) (xs : List X) → told ≤ length xs → (told == length xs) ≡ false → drop told xs ≡ [] → ⊥
some_left told xs within h e = let n = ap length e in eqb-false told (length xs) h (omega (arith, n, length-drop told xs, within))

pub none_at : {X : Type 0} (xs : List X) → (length xs == 0) ≡ true → xs ≡ []
none_at [] h = refl
none_at (x ∷ xs) h = absurd (omega (arith, eqb-true (length (x ∷ xs)) 0 h))

pub some_at : {X : Type 0} (xs : List X) → (length xs == 0) ≡ false → xs ≡ [] → ⊥
some_at xs h e = eqb-false (length xs) 0 h (ap length e)

-- spans within the log, as many as are under the generation
pub room_is : (log : ProcessLog) (gone g : ℕ) → gone ≤ length log.spans → gone + count_under g (drop gone log.spans) ≤ length log.spans
room_is log gone g within = omega (arith, prefix_len-le-length (λ span. span.generation == g) (drop gone log.spans), length-drop gone log.spans, within)
