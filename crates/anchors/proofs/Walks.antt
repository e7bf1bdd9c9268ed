-- A walk over the anchors of a slot, place by place.
use Rattle.std.proofs.Common.{◌≡◌, ℕ, ◌+◌, ◌-◌, ◌<◌, ◌≤◌, List, length, Option, Some, sym, ap, subst, ◌∙◌, arith}
use mathlib.Core.Logic.{dite}
use native.Mathlib.Decide.{ℕ_discrete}
use Rattle.std.specs.Prelude.{slice_get, unwrap_or}
use Rattle.area_core.specs.Map.{word_at}
use Rattle.shared_words.proofs.ShownMembers.{within_get}

-- a test fails at each anchor before this place, the places counted from 1
abbrev pub NoneBefore : (ℕ → Type 0) → List ℕ → ℕ → Type 0
NoneBefore Test anchors n = (place word : ℕ) → place + 1 < n → slice_get anchors place ≡ Some word → Test word → ⊥

pub none_first : (Test : ℕ → Type 0) (anchors : List ℕ) → NoneBefore Test anchors 1
none_first Test anchors place word within at = absurd (omega arith)

-- one more
pub none_next : (Test : ℕ → Type 0) (anchors : List ℕ) (n word : ℕ) → 1 ≤ n → NoneBefore Test anchors n → word ≡ word_at anchors (n - 1) → (Test word → ⊥) → NoneBefore Test anchors (n + 1)
none_next Test anchors n word first before is fails place other within at =
    dite (ℕ_discrete (place + 1) n)
    (λ (here : place + 1 ≡ n).
    let same : n - 1 ≡ place = omega (arith, here) in
    λ passes. fails (subst Test (sym (is ∙ ap (λ (i : ℕ). word_at anchors i) same ∙ ap (λ (o : Option ℕ). unwrap_or o 0) at)) passes))
    (λ (apart : place + 1 ≡ n → ⊥). before place other (omega (arith, within, apart)) at)

-- all
pub none_at_all : (Test : ℕ → Type 0) (anchors : List ℕ) (n : ℕ) → length anchors ≡ 16 → 17 ≤ n → NoneBefore Test anchors n → (place word : ℕ) → slice_get anchors place ≡ Some word → Test word → ⊥
none_at_all Test anchors n wide late before place word at = before place word (let within = within_get anchors place word at in omega (arith, within, wide, late)) at
