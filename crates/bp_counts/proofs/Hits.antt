-- How often a name stands among hits.
use Rattle.std.proofs.Common.{◌≡◌, ◌≢◌, ℕ, ◌+◌, ◌≤◌, Bool, cond, eqb, List, ◌∷◌, ◌++◌, ap, ◌∙◌, arith, eq-eqb, ne_eqb}
use Rattle.std.proofs.lemmas.List.Sums.{sum_by-cons, sum_by-append, count_by-le-length}
use Rattle.bp_counts.specs.declared.tally.Tally.{Tally}
use Rattle.bp_counts.specs.Tallies.{hits_of, share}

first_hit : (which hit : ℕ) (hits : List ℕ) → hits_of which (hit ∷ hits) ≡ cond (eqb hit which) 1 0 + hits_of which hits
first_hit which hit hits = sum_by-cons (λ (h : ℕ). cond (eqb h which) 1 0) hit hits

-- a hit of the name
pub own_hit : (which : ℕ) (hits : List ℕ) → hits_of which (which ∷ hits) ≡ 1 + hits_of which hits
own_hit which hits = first_hit which which hits ∙ ap (λ (b : Bool). cond b 1 0 + hits_of which hits) (eq-eqb which which (λ _. which))

-- a hit of another one
pub other_hit : (which hit : ℕ) (hits : List ℕ) → hit ≢ which → hits_of which (hit ∷ hits) ≡ 0 + hits_of which hits
other_hit which hit hits other = first_hit which hit hits ∙ ap (λ (b : Bool). cond b 1 0 + hits_of which hits) (ne_eqb hit which other)

-- the hits of two seats
pub hits_joined : (which : ℕ) (hits more : List ℕ) → hits_of which (hits ++ more) ≡ hits_of which hits + hits_of which more
hits_joined which hits more = sum_by-append (λ (h : ℕ). cond (eqb h which) 1 0) hits more

-- a seat has hit a name no more often than it could
pub hits_few : (which : ℕ) (t : Tally) → hits_of which t.hits ≤ share t
hits_few which t = let few = count_by-le-length (λ (h : ℕ). eqb h which) t.hits in omega arith
