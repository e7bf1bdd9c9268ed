-- Sets of keys and lists of groups that grow at their end, seen as lists.
use Rattle.script_text.proofs.Common.{◌≡◌, ℕ, ◌==◌, ◌&&◌, ◌||◌, ◌≤◌, not, nat_le, Bool, true, false, cond, List, [], ◌∷◌, ◌++◌, length, Ok, refl}
use Rattle.script_text.proofs.Common.{sym, ap, ◌∙◌, arith, Result, Err, OnOk, map, list_any, nat_tests, map-append, length-map}
use Rattle.script_text.proofs.Types.{Mfa, ModRef}
use Rattle.server_core.specs.Generations.{is_same_name}
use Rattle.script_text.proofs.Texts.{failed}
use Rattle.script_text.specs.declared.reading.sets.FunctionKey.{FunctionKey}
use Rattle.script_text.specs.declared.reading.sets.RefKey.{RefKey}
use Rattle.script_text.proofs.Forms.{mfa_of_key, ref_of_key, is_same_mod_ref, passes_functions, mfa_added, is_among, ref_added, onto_last}

pub any-map : {A B : Type 0} (f : A → Bool) (g : B → Bool) (h : A → B) → ((x : A) → f x ≡ g (h x)) → (xs : List A) → list_any f xs ≡ list_any g (map h xs)
any-map f g h same [] = refl
any-map f g h same (x ∷ xs) = ap (λ t. t || list_any f xs) (same x) ∙ ap (λ t. g (h x) || t) (any-map f g h same xs)

-- a key is among keys where what it stands for is among what they stand for
pub any-ref_keys : (k : RefKey) (ks : List RefKey) → list_any (λ x. k.name == x.name && k.version == x.version) ks ≡ list_any (is_same_mod_ref (ref_of_key k)) (map ref_of_key ks)
any-ref_keys k ks = any-map _ _ _ (λ x. refl) ks

pub any-function_keys : (k : FunctionKey) (ks : List FunctionKey) → list_any (λ x. k.«module» == x.«module» && (k.name == x.name && k.arity == x.arity)) ks ≡ list_any (is_same_name (mfa_of_key k)) (map mfa_of_key ks)
any-function_keys k ks = any-map _ _ _ (λ x. refl) ks

-- a key that is new stands behind the others
pub ref_key_added : (k : RefKey) (ks new : List RefKey) → false ≡ is_among (map ref_of_key ks) (ref_of_key k) → new ≡ cond (list_any (λ x. k.name == x.name && k.version == x.version) ks) ks (ks ++ k ∷ []) → ref_added (map ref_of_key ks) (ref_of_key k) ≡ Ok (map ref_of_key new)
ref_key_added k ks new fresh keys =
    let is : new ≡ ks ++ k ∷ [] = keys ∙ ap (λ t. cond t ks (ks ++ k ∷ [])) (any-ref_keys k ks ∙ sym fresh) in
    failed _ _ _ (sym fresh) ∙ ap (λ (l : List ModRef). Ok l) (sym (ap (map _) is ∙ map-append ref_of_key ks (k ∷ [])))

pub function_key_added : (k : FunctionKey) (ks new : List FunctionKey) → false ≡ passes_functions (map mfa_of_key ks) (mfa_of_key k) → new ≡ cond (list_any (λ x. k.«module» == x.«module» && (k.name == x.name && k.arity == x.arity)) ks) ks (ks ++ k ∷ []) → mfa_added (map mfa_of_key ks) (mfa_of_key k) ≡ Ok (map mfa_of_key new)
function_key_added k ks new room keys =
    failed _ _ _ (sym room)
    ∙ ap (λ (l : List Mfa). Ok l) (ap (λ t. cond t (map mfa_of_key ks) (map mfa_of_key ks ++ mfa_of_key k ∷ [])) (sym (any-function_keys k ks)) ∙ by_test _ ∙ sym (ap (map _) keys))
  where
    by_test : (t : Bool) → cond t (map mfa_of_key ks) (map mfa_of_key ks ++ mfa_of_key k ∷ []) ≡ map mfa_of_key (cond t ks (ks ++ k ∷ []))
    by_test true = refl
    by_test false = sym (map-append mfa_of_key ks (k ∷ []))

-- a set is full for a function that it has not
pub full_for : (k : FunctionKey) (ks : List FunctionKey) (len : ℕ) (t : Bool) → t ≡ list_any (λ x. k.«module» == x.«module» && (k.name == x.name && k.arity == x.arity)) ks → len ≡ length ks → 1024 ≤ len → not t ≡ passes_functions (map mfa_of_key ks) (mfa_of_key k)
full_for k ks len t has is full =
    let many : 1024 ≤ length (map mfa_of_key ks) = omega (arith, length-map ks mfa_of_key, is) in
    let test : nat_le 1024 (length (map mfa_of_key ks)) ≡ true = grind (arith, nat_tests) in
    ap not (has ∙ any-function_keys k ks) ∙ sym (ap (λ b. b && not (list_any (is_same_name (mfa_of_key k)) (map mfa_of_key ks))) test)

-- ---- groups of a list that grows at its end

-- an item joins the group that stands last
pub onto_last-snoc : {X : Type 0} (groups : List (List X)) (group : List X) (x : X) → onto_last (groups ++ group ∷ []) x ≡ groups ++ (group ++ x ∷ []) ∷ []
onto_last-snoc [] group x = refl
onto_last-snoc (g ∷ []) group x = refl
onto_last-snoc (g ∷ h ∷ gs) group x = ap (λ (l : List (List _)). g ∷ l) (onto_last-snoc (h ∷ gs) group x)

-- a group that was taken out, and is put back with an item more
pub put_back : {X : Type 0} (old rest : List (List X)) (group taken more : List X) (x : X) → old ≡ rest ++ taken ∷ [] → group ≡ taken → more ≡ group ++ x ∷ [] → rest ++ more ∷ [] ≡ onto_last old x
put_back old rest group taken more x was is grown =
    ap (λ (g : List _). rest ++ g ∷ []) (grown ∙ ap (λ (g : List _). g ++ x ∷ []) is) ∙ sym (onto_last-snoc rest taken x) ∙ ap (λ (gs : List (List _)). onto_last gs x) (sym was)

-- a first group
pub put_first : {X : Type 0} (old rest : List (List X)) (group more : List X) (x : X) → old ≡ [] → rest ≡ [] → group ≡ [] → more ≡ group ++ x ∷ [] → rest ++ more ∷ [] ≡ onto_last old x
put_first old rest group more x was none empty grown =
    ap (λ (gs : List (List _)). gs ++ more ∷ []) none ∙ ap (λ (g : List _). g ∷ []) (grown ∙ ap (λ (g : List _). g ++ x ∷ []) empty) ∙ ap (λ (gs : List (List _)). onto_last gs x) (sym was)

pub on_ok : {T E : Type 0} (P Q : Type 0) (r : Result T E) → (P → Q) → OnOk r P → OnOk r Q
on_ok P Q (Ok x) f h = f h
on_ok P Q (Err e) f h = tt
