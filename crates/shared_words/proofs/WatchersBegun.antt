-- The watchers as a table begins.
use Rattle.std.proofs.Common.{◌≡◌, ℕ, zero, suc, ⊎_elim, List, [], ◌∷◌, ◌++◌, length, length-append, refl, sym, ap, subst, ◌∙◌, arith}
use Rattle.std.specs.Prelude.{Some, slice_get}
use Rattle.prgr_core.specs.declared.watcher.Watcher as watching
use Rattle.prgr_core.specs.Step as starting
use Rattle.prgr_core.proofs.Parts.{slice_get-push_at}
use Rattle.area_core.specs.Step.{opening_published}
use Rattle.shared_words.specs.declared.view.WatcherView.{WatcherView}
use Rattle.shared_words.specs.Shown.{watchers_shown}
use Rattle.shared_words.specs.Opening.{watcher_begun, watchers_begun}
use Rattle.shared_words.specs.Rule.{IsBeginning}

watchers_snoc : (watchers : List WatcherView) (w : WatcherView) → watchers_shown (watchers ++ w ∷ []) [] ≡ watchers_shown watchers [] ++ w.watcher ∷ []
watchers_snoc [] w = refl
watchers_snoc (kept ∷ watchers) w = ap (λ (xs : List watching.Watcher). kept.watcher ∷ xs) (watchers_snoc watchers w)

pub watchers_opened : (n : ℕ) → watchers_shown (watchers_begun n) [] ≡ starting.opening_watchers n
unfolding watchers_begun
watchers_opened zero = refl
watchers_opened (suc n) = watchers_snoc (watchers_begun n) _ ∙ ap (λ (xs : List watching.Watcher). xs ++ starting.opening_watcher n ∷ []) (watchers_opened n)

pub watched_length : (n : ℕ) → length (watchers_begun n) ≡ n
unfolding watchers_begun
watched_length zero = refl
watched_length (suc n) = let before = watched_length n in omega (arith, length-append (watchers_begun n) (watcher_begun n ∷ []))

-- each has learnt of generation 0
pub watchers_begin : (n k : ℕ) (v : WatcherView) → slice_get (watchers_begun n) k ≡ Some v → IsBeginning v.seen (opening_published ∷ [])
unfolding watchers_begun
watchers_begin zero k v at = absurd (cc)
watchers_begin (suc n) k v at =
    ⊎_elim (λ (before : slice_get (watchers_begun n) k ≡ Some v). watchers_begin n k v before)
    (λ (last : (k ≡ length (watchers_begun n)) × (v ≡ watcher_begun n)). subst (λ (x : WatcherView). IsBeginning x.seen (opening_published ∷ [])) (sym last.1) ([], refl))
    (slice_get-push_at (watchers_begun n) (watcher_begun n) k v at)
