-- A state has one list of exports, since their order is strict; a log without observers has no false snapshot.
use Rattle.std.proofs.Common.{◌≡◌, ℕ, zero, suc, List, [], ◌∷◌, map, Contains, refl, sym, ap, subst, ◌∙◌, arith, is_lt, Ordering, Less, true≢false}
use Rattle.std.proofs.lemmas.Cmp.{lists_total, nat_cmp_total, on_total, then_total}
use Rattle.std.specs.Cmp.{IsTotalOrder}
use Rattle.std.specs.List.{AllByRecursion}
use Rattle.std.specs.List.Sorted.{IsStrictlySortedBy}
use Rattle.std.specs.Ordering.{ordering_reverse}
use Rattle.term_core.specs.declared.atom.Mfa.{Mfa}
use Rattle.term_core.specs.TermText.{atom_text}
use Rattle.server_core.specs.ServerState.{ServerState}
use Rattle.run_log.specs.Snapshots.{AreExports, IsExport, mfa_cmp}
use Rattle.run_log.proofs.Members.{contains_first, contains_later}

-- an element of a list is its first or one of the rest
pub first_or_rest : {X G : Type 0} (x e : X) (xs : List X) → Contains (x ∷ xs) e → (x ≡ e → G) → (Contains xs e → G) → G
first_or_rest x e xs (zero, below, is) p q = p is
first_or_rest x e xs (suc k, below, is) p q = q (k, omega (arith, below), is)

-- an empty list has no element
pub none_in : {X G : Type 0} (e : X) → Contains [] e → G
none_in e at = absurd (omega (arith, at.1))

-- what holds of each holds of an element
pub each_element : {X : Type 0} (P : X → Type 0) (xs : List X) (e : X) → AllByRecursion P xs → Contains xs e → P e
each_element P [] e h at = none_in e at
each_element P (x ∷ xs) e h at = first_or_rest x e xs at (λ is. subst P is h.0) (each_element P xs e h.1)

module _ {X K : Type 0} (c : K → K → Ordering) (key : X → K) (total : IsTotalOrder c) where
  abbrev AreSorted : List X → Type 0
  AreSorted xs = IsStrictlySortedBy c (map key xs)

  -- the first is below an element of the rest
  below_rest : (x e : X) (xs : List X) → AllByRecursion (λ k. c (key x) k ≡ Less) (map key xs) → Contains xs e → c (key x) (key e) ≡ Less
  below_rest x e [] h at = none_in e at
  below_rest x e (y ∷ ys) h at = first_or_rest y e ys at (λ is. subst (λ z. c (key x) (key z) ≡ Less) is h.0) (below_rest x e ys h.1)

  first_below : (x e : X) (xs : List X) → AreSorted (x ∷ xs) → Contains xs e → c (key x) (key e) ≡ Less
  unfolding IsStrictlySortedBy
  first_below x e xs s at = below_rest x e xs s.0 at

  rest_sorted : (x : X) (xs : List X) → AreSorted (x ∷ xs) → AreSorted xs
  unfolding IsStrictlySortedBy
  rest_sorted x xs s = s.1

  -- of two keys not each is below the other
  not_both : {G : Type 0} (x y : X) → c (key x) (key y) ≡ Less → c (key y) (key x) ≡ Less → G
  not_both x y a b = absurd (true≢false (ap is_lt (sym a ∙ total.antisymm (key x) (key y) ∙ ap ordering_reverse b)))

  same_first : (x y : X) (xs ys : List X) → AreSorted (x ∷ xs) → AreSorted (y ∷ ys) → Contains (y ∷ ys) x → Contains (x ∷ xs) y → x ≡ y
  same_first x y xs ys s t x_in y_in =
      first_or_rest x y xs y_in (λ is. is) (λ in_xs. first_or_rest y x ys x_in (λ is. sym is) (λ in_ys. not_both x y (first_below x y xs s in_xs) (first_below y x ys t in_ys)))

  -- an element of the rest of one is one of the rest of the other
  rest_to_rest : (x y : X) (xs ys : List X) → AreSorted (x ∷ xs) → x ≡ y → ((e : X) → Contains (x ∷ xs) e → Contains (y ∷ ys) e) → (e : X) → Contains xs e → Contains ys e
  rest_to_rest x y xs ys s same to e at =
      first_or_rest y e ys (to e (contains_later x e xs at)) (λ is. let at_x = subst (Contains xs) (sym (same ∙ is)) at in not_both x x (first_below x x xs s at_x) (first_below x x xs s at_x)) (λ rest. rest)

  -- two lists in strict order with the same elements are one
  pub same_sorted : (xs ys : List X) → AreSorted xs → AreSorted ys → ((e : X) → Contains xs e → Contains ys e) → ((e : X) → Contains ys e → Contains xs e) → xs ≡ ys
  same_sorted [] [] s t to back = refl
  same_sorted [] (y ∷ ys) s t to back = none_in y (back y (contains_first y ys))
  same_sorted (x ∷ xs) [] s t to back = none_in x (to x (contains_first x xs))
  same_sorted (x ∷ xs) (y ∷ ys) s t to back =
      let same = same_first x y xs ys s t (to x (contains_first x xs)) (back y (contains_first y ys)) in
      let rest = same_sorted xs ys (rest_sorted x xs s) (rest_sorted y ys t) (rest_to_rest x y xs ys s same to) (rest_to_rest y x ys xs t (sym same) back) in
      λ i. same i ∷ rest i

-- the order of functions is total
pub mfa_total : (names : List (List ℕ)) → IsTotalOrder (mfa_cmp names)
mfa_total names =
    then_total (on_total (λ (f : Mfa). atom_text names f.«module».0) (lists_total nat_cmp_total))
    (then_total (on_total (λ (f : Mfa). atom_text names f.name.0) (lists_total nat_cmp_total)) (on_total (λ (f : Mfa). f.arity) nat_cmp_total))

-- the exports of a state are one list
pub exports_are_one : (names : List (List ℕ)) (s : ServerState) (xs ys : List (Mfa × ℕ)) → AreExports names s xs → AreExports names s ys → xs ≡ ys
exports_are_one names s xs ys h k =
    same_sorted (mfa_cmp names) (λ export. export.0) (mfa_total names) xs ys h.sorted k.sorted
    (λ e at. k.whole e (each_element (IsExport s) xs e h.exported at)) (λ e at. h.whole e (each_element (IsExport s) ys e k.exported at))
