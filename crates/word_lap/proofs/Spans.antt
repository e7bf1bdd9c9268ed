-- The span that a turn joins, and the spans that a turn leaves.
use Rattle.std.proofs.Common.{◌≡◌, ◌≢◌, ℕ, ◌+◌, ◌≤◌, List, [], ◌∷◌, ◌++◌, IfSome, refl, sym, ap, subst, ◌∙◌, arith}
use Rattle.std.specs.List.{AllByRecursion}
use Rattle.std.proofs.lemmas.Bool.Decides.{nat_tests}
use Rattle.machine_core.specs.declared.process.Line.{Line}
use Rattle.run_log.specs.declared.logs.Span.{Span}
use Rattle.run_log.specs.WholeSpans.{last_generation}
use Rattle.run_log.proofs.ApartSpans.{last_is}
use Rattle.run_log.proofs.ListPlaces.{all_front, all_last}
use Rattle.run_steps.specs.Turns.{IsTaken, joined, joined_last, last_one, new_one, one_turn}

-- ---- what is taken out

-- the last span is of another generation, and is put back
pub put_back : (generation : ℕ) (before popped after : List Span) (last : Span) (lines : List Line) → before ≡ popped ++ last ∷ [] → last.generation ≢ generation → after ≡ popped ++ last ∷ [] → lines ≡ []
    → IsTaken generation before after (record { generation = generation; turns = 0; lines = lines })
put_back generation before popped after last lines was other now none =
    new_one (ap (λ l. record { generation = generation; turns = 0; lines = l }) none) (now ∙ sym was)
    (subst (λ o. IfSome o (λ g. g ≢ generation)) (sym (ap last_generation was ∙ last_is popped last)) other)

-- there is no span yet
pub none_there : (generation : ℕ) (before after : List Span) (lines : List Line) → before ≡ [] → after ≡ [] → lines ≡ [] → IsTaken generation before after (record { generation = generation; turns = 0; lines = lines })
none_there generation before after lines was now none =
    new_one (ap (λ l. record { generation = generation; turns = 0; lines = l }) none) (now ∙ sym was) (subst (λ x. IfSome (last_generation x) (λ g. g ≢ generation)) (sym was) tt)

-- it is of the generation
pub taken_generation : (g : ℕ) (before after : List Span) (span : Span) → IsTaken g before after span → span.generation ≡ g
taken_generation g before after span (last_one same parts) = same
taken_generation g before after span (new_one new same other) = ap (λ (x : Span). x.generation) new

-- spans of few turns are parted
pub few_taken : (most generation : ℕ) (before others : List Span) (span : Span) → IsTaken generation before others span → AllByRecursion (λ s. s.turns ≤ most) before → AllByRecursion (λ s. s.turns ≤ most) others × (span.turns ≤ most)
few_taken most generation before others span (last_one same parts) counted =
    let all = subst (AllByRecursion (λ s. s.turns ≤ most)) parts counted in (all_front (λ s. s.turns ≤ most) others span all, all_last (λ s. s.turns ≤ most) others span all)
few_taken most generation before others span (new_one new same other) counted =
    (subst (AllByRecursion (λ s. s.turns ≤ most)) (sym same) counted, (let t : span.turns ≡ 0 = ap (λ x. x.turns) new in omega (arith, t)))

-- ---- what is left

-- the last span alone changes
joined_front : (g : ℕ) (made : List Line) (others : List Span) (last : Span) → joined g made (others ++ last ∷ []) ≡ others ++ joined_last g made last
joined_front g made [] last = refl
joined_front g made (x ∷ []) last = refl
joined_front g made (x ∷ y ∷ others) last = ap (λ r. x ∷ r) (joined_front g made (y ∷ others) last)

-- a last span of another generation is left alone
apart_last : (g : ℕ) (made : List Line) (last : Span) → last.generation ≢ g → joined_last g made last ≡ last ∷ one_turn g made ∷ []
apart_last g made last other = grind (arith, nat_tests)

same_last : (g : ℕ) (made : List Line) (last : Span) → last.generation ≡ g → joined_last g made last ≡ record { generation = g; turns = last.turns + 1; lines = last.lines ++ made } ∷ []
same_last g made last same = grind (arith, nat_tests)

apart_joined : (g : ℕ) (made : List Line) (spans : List Span) → IfSome (last_generation spans) (λ n. n ≢ g) → joined g made spans ≡ spans ++ one_turn g made ∷ []
apart_joined g made [] other = refl
apart_joined g made (last ∷ []) other = apart_last g made last other
apart_joined g made (x ∷ y ∷ spans) other = ap (λ r. x ∷ r) (apart_joined g made (y ∷ spans) other)

joined_as : (g : ℕ) (made : List Line) (before others after : List Span) (span : Span) → IsTaken g before others span
    → after ≡ others ++ record { generation = g; turns = span.turns + 1; lines = span.lines ++ made } ∷ [] → after ≡ joined g made before
joined_as g made before others after span (last_one same parts) now =
    now ∙ sym (ap (joined g made) parts ∙ joined_front g made others span ∙ ap (λ r. others ++ r) (same_last g made span same))
joined_as g made before others after span (new_one new same other) now =
    now ∙ ap (λ (x : Span). others ++ record { generation = g; turns = x.turns + 1; lines = x.lines ++ made } ∷ []) new ∙ ap (λ r. r ++ one_turn g made ∷ []) same ∙ sym (apart_joined g made before other)

-- the spans with the one that was taken, of one turn more, with these lines
pub joined_with : (g : ℕ) (made lines : List Line) (before others : List Span) (span : Span) → IsTaken g before others span → lines ≡ span.lines ++ made
    → others ++ record { generation = span.generation; turns = span.turns + 1; lines = lines } ∷ [] ≡ joined g made before
joined_with g made lines before others span taken is =
    joined_as g made before others (others ++ record { generation = span.generation; turns = span.turns + 1; lines = lines } ∷ []) span taken
    (λ i. others ++ record { generation = taken_generation g before others span taken i; turns = span.turns + 1; lines = is i } ∷ [])
