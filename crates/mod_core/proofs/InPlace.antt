-- A list whose elements are changed in place, one after another.
use Rattle.std.proofs.Common.{◌≡◌, ℕ, ◌+◌, ◌<◌, ◌≤◌, List, [], ◌∷◌, ◌++◌, length, map, take, drop, get_or, sym, ap, ◌∙◌, arith, append_assoc}
use Rattle.std.proofs.Math.ListN.{set}
use Rattle.std.proofs.Math.Seq.{get_or-append_seam, set-append_seam}
use Rattle.std.proofs.lemmas.List.{append-nil, drop_all, drop_more, length-map, length-take-le, map-append, take_all, take_more}

-- one element more
pub changed_more : {X : Type 0} (f : X → X) (xs ys : List X) (i : ℕ) (d z : X) → i < length xs → ys ≡ map f (take i xs) ++ drop i xs → z ≡ f (get_or ys i d) → set ys i z ≡ map f (take (i + 1) xs) ++ drop (i + 1) xs
changed_more f xs ys i d z below so_far changed =
    let x = get_or xs i d in
    let front = map f (take i xs) in
    let long : length front ≡ i = length-map (take i xs) f ∙ length-take-le i xs (omega arith) in
    let ys_is : ys ≡ front ++ x ∷ drop (i + 1) xs = so_far ∙ ap (λ rest. front ++ rest) (drop_more xs i d below) in
    let y_is : get_or ys i d ≡ x = (λ t. get_or (ys_is t) (sym long t) d) ∙ get_or-append_seam front x (drop (i + 1) xs) d in
    let z_is : z ≡ f x = changed ∙ ap f y_is in
    let set_is : set ys i z ≡ front ++ f x ∷ drop (i + 1) xs = (λ t. set (ys_is t) (sym long t) (z_is t)) ∙ set-append_seam front x (drop (i + 1) xs) (f x) in
    let more : map f (take (i + 1) xs) ≡ front ++ f x ∷ [] = ap (map f) (take_more xs i d below) ∙ map-append f (take i xs) (x ∷ []) in
    set_is ∙ sym (append_assoc front (f x ∷ []) (drop (i + 1) xs)) ∙ ap (λ ws. ws ++ drop (i + 1) xs) (sym more)

-- and at the end all of them
pub changed_all : {X : Type 0} (f : X → X) (xs ys : List X) (i : ℕ) → length xs ≤ i → ys ≡ map f (take i xs) ++ drop i xs → ys ≡ map f xs
changed_all f xs ys i all so_far = so_far ∙ (λ t. map f (take_all i xs all t) ++ drop_all i xs all t) ∙ append-nil (map f xs)
