-- What a change of one seat makes of the members and watchers that the seats show.
use Rattle.std.proofs.Common.{◌≡◌, ℕ, zero, suc, ◌+◌, ◌<◌, ◌≤◌, List, [], ◌∷◌, ◌++◌, length, drop, set, refl, sym, ap, arith}
use mathlib.Core.Option.{some, some-injective, some-ne-none}
use lib.ListN.{get_elem?}
use Rattle.std.specs.Prelude.{Some, unwrap_or, slice_get, slice_set}
use Rattle.prgr_core.specs.declared.member.Member as machines
use Rattle.prgr_core.specs.declared.watcher.Watcher as watching
use Rattle.shared_words.specs.declared.view.MemberView.{MemberView}
use Rattle.shared_words.specs.declared.view.WatcherView.{WatcherView}
use Rattle.shared_words.specs.declared.view.View.{View}
use Rattle.shared_words.specs.declared.view.View.TheVariants.{Member}
use Rattle.shared_words.specs.Shown.{member_shown, members_shown, watcher_shown, watchers_shown}

-- a member whose seat is handed out is the one in its view
pub shown_at : (members : List MemberView) (seats : List View) (k : ℕ) (m : MemberView) → k < length members → get_elem? seats k ≡ some (Member m) → slice_get (members_shown members seats) k ≡ Some m.member
shown_at [] seats k m few at = absurd (omega arith)
shown_at (kept ∷ members) [] k m few at = absurd (some-ne-none (Member m) (sym at))
shown_at (kept ∷ members) (seat ∷ seats) zero m few at = ap (λ v. Some (member_shown kept v)) (some-injective seat (Member m) at)
shown_at (kept ∷ members) (seat ∷ seats) (suc k) m few at = shown_at members seats k m (omega arith) at

-- a new view of a member's seat changes that member alone
pub shown_set : (members : List MemberView) (seats : List View) (k : ℕ) (m : MemberView) → k < length members → k < length seats → members_shown members (set seats k (Member m)) ≡ slice_set (members_shown members seats) k m.member
shown_set [] seats k m few there = absurd (omega arith)
shown_set (kept ∷ members) [] k m few there = absurd (omega arith)
shown_set (kept ∷ members) (seat ∷ seats) zero m few there = refl
shown_set (kept ∷ members) (seat ∷ seats) (suc k) m few there = ap (λ (xs : List machines.Member). member_shown kept seat ∷ xs) (shown_set members seats k m (omega arith) (omega arith))

-- a new view of a seat behind the members' changes none of them
pub shown_behind : (members : List MemberView) (seats : List View) (k : ℕ) (v : View) → length members ≤ k → members_shown members (set seats k v) ≡ members_shown members seats
shown_behind [] seats k v behind = refl
shown_behind (kept ∷ members) [] k v behind = refl
shown_behind (kept ∷ members) (seat ∷ seats) zero v behind = absurd (omega arith)
shown_behind (kept ∷ members) (seat ∷ seats) (suc k) v behind = ap (λ (xs : List machines.Member). member_shown kept seat ∷ xs) (shown_behind members seats k v (omega arith))

pub drop_none : {A : Type 0} (n : ℕ) → drop {A = A} n [] ≡ []
drop_none zero = refl
drop_none (suc n) = refl

-- a write in front leaves what is behind
pub drop_set : {A : Type 0} (n k : ℕ) (xs : List A) (x : A) → k < n → drop n (set xs k x) ≡ drop n xs
drop_set zero k xs x front = absurd (omega arith)
drop_set (suc n) k [] x front = refl
drop_set (suc n) zero (y ∷ ys) x front = refl
drop_set (suc n) (suc k) (y ∷ ys) x front = drop_set n k ys x (omega arith)

-- what stands at a place of a list is within it
pub there : {A : Type 0} (xs : List A) (k : ℕ) (x : A) → get_elem? xs k ≡ some x → k < length xs
there [] k x at = absurd (some-ne-none x (sym at))
there (y ∷ ys) zero x at = omega arith
there (y ∷ ys) (suc k) x at = let rest = there ys k x at in omega arith

-- what stands in a list stands in a longer one
pub still_at : {A : Type 0} (xs ys : List A) (i : ℕ) (x : A) → slice_get xs i ≡ Some x → slice_get (xs ++ ys) i ≡ Some x
still_at [] ys i x at = absurd (cc)
still_at (z ∷ zs) ys zero x at = at
still_at (z ∷ zs) ys (suc i) x at = still_at zs ys i x at

-- what is written where it stands changes nothing
pub set_same : {A : Type 0} (xs : List A) (k : ℕ) (x : A) → slice_get xs k ≡ Some x → slice_set xs k x ≡ xs
set_same [] k x at = refl
set_same (y ∷ ys) zero x at = (let same : y ≡ x = cc in ap (λ (z : _). z ∷ ys) (sym same))
set_same (y ∷ ys) (suc k) x at = ap (λ (zs : List _). y ∷ zs) (set_same ys k x at)

-- a place within a list has something
pub there_is : {A : Type 0} (xs : List A) (k : ℕ) (d : A) → k < length xs → slice_get xs k ≡ Some (unwrap_or (slice_get xs k) d)
there_is [] k d within = absurd (omega arith)
there_is (x ∷ xs) zero d within = refl
there_is (x ∷ xs) (suc k) d within = there_is xs k d (omega arith)

-- as many members are shown as there are
pub shown_length : (members : List MemberView) (seats : List View) → length (members_shown members seats) ≡ length members
shown_length [] seats = refl
shown_length (kept ∷ members) [] = ap suc (shown_length members [])
shown_length (kept ∷ members) (seat ∷ seats) = ap suc (shown_length members seats)

-- a new view of a seat behind the watchers' changes none of them
watchers_behind_first : (watchers : List WatcherView) (seats : List View) (k : ℕ) (v : View) → length watchers ≤ k → watchers_shown watchers (set seats k v) ≡ watchers_shown watchers seats
watchers_behind_first [] seats k v behind = refl
watchers_behind_first (kept ∷ watchers) [] k v behind = refl
watchers_behind_first (kept ∷ watchers) (seat ∷ seats) zero v behind = absurd (omega arith)
watchers_behind_first (kept ∷ watchers) (seat ∷ seats) (suc k) v behind = ap (λ (xs : List watching.Watcher). watcher_shown kept seat ∷ xs) (watchers_behind_first watchers seats k v (omega arith))

pub watchers_behind : (n : ℕ) (watchers : List WatcherView) (seats : List View) (k : ℕ) (v : View) → n + length watchers ≤ k → watchers_shown watchers (drop n (set seats k v)) ≡ watchers_shown watchers (drop n seats)
watchers_behind zero watchers seats k v behind = watchers_behind_first watchers seats k v (omega arith)
watchers_behind (suc n) watchers [] k v behind = refl
watchers_behind (suc n) watchers (seat ∷ seats) zero v behind = absurd (omega arith)
watchers_behind (suc n) watchers (seat ∷ seats) (suc k) v behind = watchers_behind n watchers seats k v (omega arith)

pub within_get : {A : Type 0} (xs : List A) (k : ℕ) (x : A) → slice_get xs k ≡ Some x → k < length xs
within_get [] k x at = absurd (cc)
within_get (y ∷ ys) zero x at = omega arith
within_get (y ∷ ys) (suc k) x at = let rest = within_get ys k x at in omega arith

-- as many watchers are shown as there are
pub watchers_length : (watchers : List WatcherView) (seats : List View) → length (watchers_shown watchers seats) ≡ length watchers
watchers_length [] seats = refl
watchers_length (kept ∷ watchers) [] = ap suc (watchers_length watchers [])
watchers_length (kept ∷ watchers) (seat ∷ seats) = ap suc (watchers_length watchers seats)
