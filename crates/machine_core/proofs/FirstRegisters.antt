-- The registers of a function that is entered: its arguments, and 0 in the others.
use Rattle.std.proofs.Common.{◌≡◌, ◌∙◌, ◌+◌, ◌<◌, ◌≤◌, ◌++◌, ◌∷◌, [], ℕ, List, zero, suc, ap, arith, length, map, refl, replicate, sym, take}
use Rattle.std.proofs.Math.ListN.{get_or, set}
use Rattle.std.proofs.lemmas.List.{length-take-le, replicate-append-replicate, take-replicate, take_more}
use Rattle.std.proofs.lemmas.Simd.{splat_is_map}
use Rattle.machine_core.specs.Process.{entered_values, no_held}
use Rattle.machine_core.specs.declared.process.Value.{Value}

-- where so many are taken, it does not matter how many more follow
pub enough_follow : {X : Type 0} → (n m k : ℕ) (xs : List X) (x : X) → n ≤ length xs + m → n ≤ length xs + k → take n (xs ++ replicate m x) ≡ take n (xs ++ replicate k x)
enough_follow n m k [] x a b = take-replicate n m x (omega (arith, a)) ∙ sym (take-replicate n k x (omega (arith, b)))
enough_follow zero m k (y ∷ ys) x a b = refl
enough_follow (suc n) m k (y ∷ ys) x a b = ap (λ vs. y ∷ vs) (enough_follow n m k ys x (omega (arith, a)) (omega (arith, b)))

-- where all are made the same, it does not matter how many they were
pub all_same : {X : Type 0} → (n : ℕ) (xs : List X) (x : X) → take n (map (λ _. x) xs ++ replicate n x) ≡ take n (replicate n x)
all_same n xs x =
    ap (λ ys. take n (ys ++ replicate n x)) (sym (splat_is_map xs (length xs) x refl))
    ∙ ap (take n) (replicate-append-replicate (length xs) n x)
    ∙ enough_follow n (length xs + n) n [] x (omega arith) (omega arith)

-- one argument more
pub set_behind : {X : Type 0} → (n m : ℕ) (xs : List X) (x y : X) → n ≤ length xs + m → set (take n (xs ++ replicate m x)) (length xs) y ≡ take n ((xs ++ y ∷ []) ++ replicate m x)
set_behind zero m [] x y a = refl
set_behind (suc n) zero [] x y a = absurd (omega (arith, a))
set_behind (suc n) (suc m) [] x y a = ap (λ vs. y ∷ vs) (enough_follow n m (suc m) [] x (omega (arith, a)) (omega (arith, a)))
set_behind zero m (v ∷ vs) x y a = refl
set_behind (suc n) m (v ∷ vs) x y a = ap (λ ws. v ∷ ws) (set_behind n m vs x y (omega (arith, a)))

-- the registers with one argument more
pub set_next : (args : List Value) (i : ℕ) (d : Value) → i < length args → set (entered_values (take i args)) i (get_or args i d) ≡ entered_values (take (i + 1) args)
set_next args i d less =
    ap (λ k. set (entered_values (take i args)) k (get_or args i d)) (sym (length-take-le i args (omega (arith, less))))
    ∙ set_behind 16 16 (take i args) no_held (get_or args i d) (omega arith)
    ∙ ap entered_values (sym (take_more args i d less))
