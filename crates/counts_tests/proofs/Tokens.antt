-- Counters and copiers that are taken out of lists and put into them again.
use Rattle.std.proofs.Common.{◌≡◌, ℕ, List, [], ◌∷◌, ◌++◌, length, Option, None, Some, IsSome, IfSome, MatchOption, All, refl, sym, ap, ◌∙◌, ⊎_elim, subst}
use Rattle.std.proofs.lemmas.List.Elements.{All-nil, All-cons, All-pop}
use Rattle.bp_counts.specs.Counters.{CounterHits, CountTable, AreAllCounters}
use Rattle.copy_turns.specs.declared.turn.Holding.{Holding}
use Rattle.copy_turns.specs.Copiers.{CopierState, TurnTable, AreAllCopiers, HoldsOne, FirstWasFree, SecondWasFree}

-- of a list the last is taken out: what holds of all holds of it and of the rest
pub pop_all : {A : Type 0} (P : A → Type 0) (old new : List A) (last : Option A) → MatchOption last ((old ≡ []) × (new ≡ [])) (λ x. old ≡ new ++ x ∷ []) → All P old → All P new × IfSome last P
pop_all P old new None none all = (subst (All P) (sym none.1) (All-nil P), tt)
pop_all P old new (Some x) is all = All-pop P old new (Some x) is all

-- two counters in a row
pub two_counters : (counts : CountTable) (none one two : List CounterHits) (first second : CounterHits) → none ≡ [] → one ≡ none ++ first ∷ [] → two ≡ one ++ second ∷ [] → counts.counters ≡ 2 → first.table ≡ counts.table → second.table ≡ counts.table → AreAllCounters counts two
two_counters counts none one two first second empty pushed again many first_is second_is =
    let whole : first ∷ second ∷ [] ≡ two = sym (again ∙ ap (λ (xs : List CounterHits). xs ++ second ∷ []) (pushed ∙ ap (λ (xs : List CounterHits). xs ++ first ∷ []) empty)) in
    let theirs : CounterHits → Type 0 = λ counter. counter.table ≡ counts.table in
    subst (λ (xs : List CounterHits). AreAllCounters counts xs) whole (record { all = sym many; theirs = All-cons theirs first (second ∷ []) first_is (All-cons theirs second [] second_is (All-nil theirs)) })

-- three copiers in a row
pub three_copiers_of : (turns : TurnTable) (none one two all : List CopierState) (first second third : CopierState) → none ≡ [] → one ≡ none ++ first ∷ [] → two ≡ one ++ second ∷ [] → all ≡ two ++ third ∷ [] → turns.copiers ≡ 3 → first.table ≡ turns.table → second.table ≡ turns.table → third.table ≡ turns.table → AreAllCopiers turns all
three_copiers_of turns none one two all first second third empty pushed again more many first_is second_is third_is =
    let whole : first ∷ second ∷ third ∷ [] ≡ all =
    sym (more ∙ ap (λ (xs : List CopierState). xs ++ third ∷ []) (again ∙ ap (λ (xs : List CopierState). xs ++ second ∷ []) (pushed ∙ ap (λ (xs : List CopierState). xs ++ first ∷ []) empty))) in
    let theirs : CopierState → Type 0 = λ copier. copier.table ≡ turns.table in
    subst (λ (xs : List CopierState). AreAllCopiers turns xs) whole
    (record { all = sym many; theirs = All-cons theirs first (second ∷ third ∷ []) first_is (All-cons theirs second (third ∷ []) second_is (All-cons theirs third [] third_is (All-nil theirs))) })

-- a copier that holds one holds some, of the same turns
pub one_is_held : (process : ℕ) (old new : CopierState) → HoldsOne process old new → IsSome new.held
one_is_held process old new holds =
    let some : (held : Option Holding) → (one : Holding) → held ≡ Some one → IsSome held = λ held one is. subst (λ (o : Option Holding). IsSome o) (sym is) refl in
    ⊎_elim (λ (first : FirstWasFree process old new). some new.held _ (ap (λ (c : CopierState). c.held) first)) (λ (second : SecondWasFree process old new). some new.held _ (ap (λ (c : CopierState). c.held) second.2)) holds

pub same_turns : (process : ℕ) (old new : CopierState) → HoldsOne process old new → new.table ≡ old.table
same_turns process old new holds = ⊎_elim (λ (first : FirstWasFree process old new). ap (λ (c : CopierState). c.table) first) (λ (second : SecondWasFree process old new). ap (λ (c : CopierState). c.table) second.2) holds
