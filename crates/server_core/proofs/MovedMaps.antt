-- Entries that are inserted into an empty map in their order are the same entries, since no key stands twice.
use Rattle.std.proofs.Common.{◌≡◌, ℕ, false, cond, nat_eq, List, [], ◌∷◌, ◌++◌, refl, sym, ap, ◌∙◌, subst, append-nil, append_assoc}
use Rattle.std.proofs.lemmas.Map.Keys.{IsDistinct-head, IsDistinct-tail}
use Rattle.std.specs.List.{AllByRecursion, IsDistinct}
use Rattle.std.specs.Map.{keys_of}
use Rattle.indexmap.specs.IndexMap.{insert_all, insert_entry}
use Rattle.server_core.proofs.KeyEntries.{flipped}

differs : {V : Type 0} (es : List (ℕ × V)) (x : ℕ × V) (xs : List (ℕ × V)) (n : ℕ) → AllByRecursion (λ y. nat_eq n y ≡ false) (keys_of (es ++ x ∷ xs)) → nat_eq n x.0 ≡ false
differs [] x xs n h = h.0
differs (e ∷ es) x xs n h = differs es x xs n h.1

insert_new : {V : Type 0} (es : List (ℕ × V)) (x : ℕ × V) (xs : List (ℕ × V)) → IsDistinct nat_eq (keys_of (es ++ x ∷ xs)) → insert_entry nat_eq es x.0 x.1 ≡ es ++ x ∷ []
insert_new [] x xs distinct = refl
insert_new (e ∷ es) x xs distinct =
    let other : nat_eq x.0 e.0 ≡ false = flipped x.0 e.0 ∙ differs es x xs e.0 (IsDistinct-head nat_eq e.0 (keys_of (es ++ x ∷ xs)) distinct) in
    ap (λ b. cond b ((e.0, x.1) ∷ es) (e ∷ insert_entry nat_eq es x.0 x.1)) other ∙ ap (λ fs. e ∷ fs) (insert_new es x xs (IsDistinct-tail nat_eq e.0 (keys_of (es ++ x ∷ xs)) distinct))

all_new : {V : Type 0} (es xs : List (ℕ × V)) → IsDistinct nat_eq (keys_of (es ++ xs)) → insert_all nat_eq es xs ≡ es ++ xs
all_new es [] distinct = sym (append-nil es)
all_new es (x ∷ xs) distinct =
    ap (λ fs. insert_all nat_eq fs xs) (insert_new es x xs distinct)
    ∙ all_new (es ++ x ∷ []) xs (subst (λ fs. IsDistinct nat_eq (keys_of fs)) (sym (append_assoc es (x ∷ []) xs)) distinct) ∙ append_assoc es (x ∷ []) xs

-- what is moved into an empty map
pub moved : {V : Type 0} (into es : List (ℕ × V)) → into ≡ [] → IsDistinct nat_eq (keys_of es) → insert_all nat_eq into es ≡ es
moved into es empty distinct = ap (λ fs. insert_all nat_eq fs es) empty ∙ all_new [] es distinct
