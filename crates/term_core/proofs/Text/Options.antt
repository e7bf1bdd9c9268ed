-- Options that are read one after the other, and tests.
use Rattle.std.proofs.Common.{◌≡◌, ℕ, Bool, true, false, cond, List, Option, Some, None, option_map, bytes_eq, refl, sym, ap, ◌∙◌}
use Rattle.std.proofs.lemmas.Slice.Eq.{bytes_eq-Decides}
use Rattle.term_core.specs.Text.Steps.{◌>>=◌, text_tested}

abbrev pub some : {A : Type 0} → A → Option A
some x = Some x

pub some_is : {A : Type 0} (x y : A) → some x ≡ some y → x ≡ y
some_is x y e = cc

-- what a part that was read gives on
pub bind_some : {A B : Type 0} (o : Option A) (f : A → Option B) (y : B) → (o >>= f) ≡ Some y → (x : A) × (o ≡ Some x) × (f x ≡ Some y)
bind_some (Some x) f y e = (x, refl, e)
bind_some None f y e = absurd cc

pub bind_at : {A B : Type 0} (o : Option A) (f : A → Option B) (x : A) (r : Option B) → o ≡ Some x → f x ≡ r → (o >>= f) ≡ r
bind_at o f x r e h = ap (λ (z : Option _). z >>= f) e ∙ h

pub map_some : {A B : Type 0} (f : A → B) (o : Option A) (y : B) → option_map f o ≡ Some y → (x : A) × (o ≡ Some x) × (f x ≡ y)
map_some f (Some x) y e = (x, refl, cc)
map_some f None y e = absurd cc

-- a test that was passed
pub guard_some : {A : Type 0} (b : Bool) (x y : A) → cond b (Some x) None ≡ Some y → (b ≡ true) × (x ≡ y)
guard_some true x y e = (refl, cc)
guard_some false x y e = absurd cc

pub guarded : {A : Type 0} (b : Bool) (o : Option A) (y : A) → cond b o None ≡ Some y → (b ≡ true) × (o ≡ Some y)
guarded true o y e = (refl, e)
guarded false o y e = absurd cc

pub passed : {A : Type 0} (b : Bool) (x y : A) → b ≡ true → cond b x y ≡ x
passed b x y e = ap (λ z. cond z x y) e

pub failed : {A : Type 0} (b : Bool) (x y : A) → b ≡ false → cond b x y ≡ y
failed b x y e = ap (λ z. cond z x y) e

pub same_bytes : (xs : List ℕ) → bytes_eq xs xs ≡ true
same_bytes xs = (bytes_eq-Decides xs xs).1 refl

pub bytes_are : (xs ys : List ℕ) → bytes_eq xs ys ≡ true → xs ≡ ys
bytes_are xs ys e = (bytes_eq-Decides xs ys).0 e

-- a text that passed its test
pub tested_is : (test : List ℕ → Bool) (text x : List ℕ) → text_tested test text ≡ Some x → (text ≡ x) × (test x ≡ true)
tested_is test text x e =
    let g = guard_some (test text) text x e in
    (g.1, ap test (sym g.1) ∙ g.0)

pub tested_at : (test : List ℕ → Bool) (text : List ℕ) → test text ≡ true → text_tested test text ≡ Some text
tested_at test text h = passed (test text) (some text) None h
