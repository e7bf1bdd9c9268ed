-- What a change of one seat makes of what the members know.
use Rattle.std.proofs.Common.{◌≡◌, ℕ, zero, suc, ◌<◌, ◌≤◌, ◌⊎◌, inl, inr, List, [], ◌∷◌, ◌++◌, length, set, refl, sym, ap, ◌∙◌, arith}
use mathlib.Core.Option.{some, some-injective, some-ne-none}
use lib.ListN.{get_elem?}
use Rattle.std.specs.Prelude.{Some, slice_get, slice_set}
use Rattle.shared_words.specs.declared.view.MemberView.{MemberView}
use Rattle.shared_words.specs.declared.view.View.{View}
use Rattle.shared_words.specs.declared.view.View.TheVariants.{Writer, Member, Watcher, Note, Spent}
use Rattle.shared_words.specs.Shown.{view_shown, views_shown, members_shown}

-- a member whose seat is handed out knows what its view has
pub views_at : (members : List MemberView) (seats : List View) (k : ℕ) (m : MemberView) → k < length members → get_elem? seats k ≡ some (Member m) → slice_get (views_shown members seats) k ≡ Some m
views_at [] seats k m few at = absurd (omega arith)
views_at (kept ∷ members) [] k m few at = absurd (some-ne-none (Member m) (sym at))
views_at (kept ∷ members) (seat ∷ seats) zero m few at = ap (λ v. Some (view_shown kept v)) (some-injective seat (Member m) at)
views_at (kept ∷ members) (seat ∷ seats) (suc k) m few at = views_at members seats k m (omega arith) at

-- what a member knows whose seat came in stands with the writer
pub views_come : (members : List MemberView) (seats : List View) (k : ℕ) (m : MemberView) → slice_get members k ≡ Some m → get_elem? seats k ≡ some Spent → slice_get (views_shown members seats) k ≡ Some m
views_come [] seats k m at spent = absurd (cc)
views_come (kept ∷ members) [] k m at spent = absurd (some-ne-none Spent (sym spent))
views_come (kept ∷ members) (seat ∷ seats) zero m at spent = ap (λ v. Some (view_shown kept v)) (some-injective seat Spent spent) ∙ at
views_come (kept ∷ members) (seat ∷ seats) (suc k) m at spent = views_come members seats k m at spent

-- a new view of a member's seat changes that member alone
pub views_set : (members : List MemberView) (seats : List View) (k : ℕ) (m : MemberView) → k < length members → k < length seats → views_shown members (set seats k (Member m)) ≡ slice_set (views_shown members seats) k m
views_set [] seats k m few there = absurd (omega arith)
views_set (kept ∷ members) [] k m few there = absurd (omega arith)
views_set (kept ∷ members) (seat ∷ seats) zero m few there = refl
views_set (kept ∷ members) (seat ∷ seats) (suc k) m few there = ap (λ (xs : List MemberView). view_shown kept seat ∷ xs) (views_set members seats k m (omega arith) (omega arith))

-- a new view of a seat behind the members' changes none of them
pub views_behind : (members : List MemberView) (seats : List View) (k : ℕ) (v : View) → length members ≤ k → views_shown members (set seats k v) ≡ views_shown members seats
views_behind [] seats k v behind = refl
views_behind (kept ∷ members) [] k v behind = refl
views_behind (kept ∷ members) (seat ∷ seats) zero v behind = absurd (omega arith)
views_behind (kept ∷ members) (seat ∷ seats) (suc k) v behind = ap (λ (xs : List MemberView). view_shown kept seat ∷ xs) (views_behind members seats k v (omega arith))

-- nor does a seat more behind them
pub views_more : (members : List MemberView) (seats : List View) (v : View) → length members ≤ length seats → views_shown members (seats ++ v ∷ []) ≡ views_shown members seats
views_more [] seats v few = refl
views_more (kept ∷ members) [] v few = absurd (omega arith)
views_more (kept ∷ members) (seat ∷ seats) v few = ap (λ (xs : List MemberView). view_shown kept seat ∷ xs) (views_more members seats v (omega arith))

-- a seat that is handed out has what the writer kept
pub views_push : (members : List MemberView) (seats : List View) (m : MemberView) → slice_get members (length seats) ≡ Some m → views_shown members (seats ++ Member m ∷ []) ≡ views_shown members seats
views_push [] seats m at = absurd (cc)
views_push (kept ∷ members) [] m at = (let is : kept ≡ m = cc in ap (λ (x : MemberView). x ∷ views_shown members []) (sym is))
views_push (kept ∷ members) (seat ∷ seats) m at = ap (λ (xs : List MemberView). view_shown kept seat ∷ xs) (views_push members seats m at)

-- a seat that comes in leaves what its member knows
pub views_taken : (members : List MemberView) (seats : List View) (k : ℕ) (m : MemberView) → k < length members → get_elem? seats k ≡ some (Member m) → views_shown (slice_set members k m) (set seats k Spent) ≡ views_shown members seats
views_taken [] seats k m few at = absurd (omega arith)
views_taken (kept ∷ members) [] k m few at = absurd (some-ne-none (Member m) (sym at))
views_taken (kept ∷ members) (seat ∷ seats) zero m few at = ap (λ (v : View). view_shown kept v ∷ views_shown members seats) (sym (some-injective seat (Member m) at))
views_taken (kept ∷ members) (seat ∷ seats) (suc k) m few at = ap (λ (xs : List MemberView). view_shown kept seat ∷ xs) (views_taken members seats k m (omega arith) at)

-- as many members know something as there are
pub views_length : (members : List MemberView) (seats : List View) → length (views_shown members seats) ≡ length members
views_length [] seats = refl
views_length (kept ∷ members) [] = ap suc (views_length members [])
views_length (kept ∷ members) (seat ∷ seats) = ap suc (views_length members seats)

-- none has a seat of its own at first
pub views_none : (members : List MemberView) → views_shown members [] ≡ members
views_none [] = refl
views_none (kept ∷ members) = ap (λ (xs : List MemberView). kept ∷ xs) (views_none members)

-- what a member knows stands in its seat's view, or with the writer
pub view_cases : (members : List MemberView) (seats : List View) (k : ℕ) (m : MemberView) → slice_get (views_shown members seats) k ≡ Some m → (get_elem? seats k ≡ some (Member m)) ⊎ (slice_get members k ≡ Some m)
view_cases [] seats k m at = absurd (cc)
view_cases (kept ∷ members) [] zero m at = inr at
view_cases (kept ∷ members) [] (suc k) m at = inr (ap (λ (xs : List MemberView). slice_get xs k) (sym (views_none members)) ∙ at)
view_cases (kept ∷ members) (Member x ∷ seats) zero m at = inl (let is : x ≡ m = cc in ap (λ (y : MemberView). some (Member y)) is)
view_cases (kept ∷ members) (seat ∷ seats) (suc k) m at = view_cases members seats k m at
view_cases (kept ∷ members) (seat ∷ seats) zero m at = inr at

-- it has the record that is shown
pub shown_view : (members : List MemberView) (seats : List View) (k : ℕ) (m : MemberView) → slice_get (views_shown members seats) k ≡ Some m → slice_get (members_shown members seats) k ≡ Some m.member
shown_view [] seats k m at = absurd (cc)
shown_view (kept ∷ members) [] zero m at = (let is : kept ≡ m = cc in ap (λ (y : MemberView). Some y.member) is)
shown_view (kept ∷ members) [] (suc k) m at = shown_view members [] k m at
shown_view (kept ∷ members) (Member x ∷ seats) zero m at = (let is : x ≡ m = cc in ap (λ (y : MemberView). Some y.member) is)
shown_view (kept ∷ members) (Writer x ∷ seats) zero m at = (let is : kept ≡ m = cc in ap (λ (y : MemberView). Some y.member) is)
shown_view (kept ∷ members) (Watcher x ∷ seats) zero m at = (let is : kept ≡ m = cc in ap (λ (y : MemberView). Some y.member) is)
shown_view (kept ∷ members) (Note x ∷ seats) zero m at = (let is : kept ≡ m = cc in ap (λ (y : MemberView). Some y.member) is)
shown_view (kept ∷ members) (Spent ∷ seats) zero m at = (let is : kept ≡ m = cc in ap (λ (y : MemberView). Some y.member) is)
shown_view (kept ∷ members) (seat ∷ seats) (suc k) m at = shown_view members seats k m at
