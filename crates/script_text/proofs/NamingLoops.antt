-- The loops that name the parts of a line: what was named, in front of what is still to be named, is the whole.
use Rattle.script_text.proofs.Common.{◌≡◌, ℕ, ◌+◌, ◌<◌, ◌≤◌, List, [], ◌∷◌, ◌++◌, length, get_or, drop, Result, Ok, Err, refl, sym, ap, ◌∙◌}
use Rattle.script_text.proofs.Common.{append_assoc, append-nil, add-one, Texts, drop-cons, map, drop_all}
use Rattle.script_text.proofs.Types.{LineCause}
use Rattle.script_text.proofs.Forms.{◌>>=◌, Fails}
use Rattle.script_text.specs.Naming.{each_named}
use Rattle.script_text.specs.declared.reading.cause.LineCause.TheVariants as causes

-- with these in front
abbrev pub with_front : {Y : Type 0} → List Y → Result (List Y × Texts) LineCause → Result (List Y × Texts) LineCause
with_front front (Ok x) = Ok (front ++ x.0, x.1)
with_front front (Err cause) = Err cause

shifted : {Y : Type 0} (front : List Y) (y : Y) (r : Result (List Y × Texts) LineCause) → with_front front (r >>= λ more. Ok (y ∷ more.0, more.1)) ≡ with_front (front ++ y ∷ []) r
shifted front y (Ok x) = ap (λ (l : List _). Ok (l, x.1)) (sym (append_assoc front (y ∷ []) x.0))
shifted front y (Err cause) = refl

abbrev Step : Type 0 → Type 0 → Type 0
Step X Y = Texts → X → Result (Y × Texts) LineCause

abbrev rest_of : {X Y : Type 0} → Step X Y → List X → Y × Texts → Result (List Y × Texts) LineCause
rest_of step xs y = each_named step y.1 xs >>= λ more. Ok (y.0 ∷ more.0, more.1)

-- one item more
pub names_go_on : {X Y : Type 0} (step : Step X Y) (front : List Y) (names after : Texts) (x : X) (y : Y) (xs : List X) (whole : Result (List Y × Texts) LineCause) → step names x ≡ Ok (y, after) → with_front front (each_named step names (x ∷ xs)) ≡ whole → with_front (front ++ y ∷ []) (each_named step after xs) ≡ whole
unfolding each_named
names_go_on step front names after x y xs whole is so_far =
    sym (shifted front y _) ∙ ap (λ (r : Result _ LineCause). with_front front (r >>= rest_of step xs)) (sym is) ∙ so_far

-- an item that gets no number
pub names_stop : {X Y : Type 0} (step : Step X Y) (front : List Y) (names : Texts) (x : X) (xs : List X) (whole : Result (List Y × Texts) LineCause) (cause : LineCause) → Fails (step names x) cause → with_front front (each_named step names (x ∷ xs)) ≡ whole → Fails whole cause
unfolding each_named
names_stop step front names x xs whole causes.NoMemory is so_far = tt
names_stop step front names x xs whole cause is so_far = sym so_far ∙ ap (λ (r : Result _ LineCause). with_front front (r >>= rest_of step xs)) is

-- all items
pub names_end : {X Y : Type 0} (step : Step X Y) (front : List Y) (names : Texts) (whole : Result (List Y × Texts) LineCause) → with_front front (each_named step names []) ≡ whole → whole ≡ Ok (front, names)
unfolding each_named
names_end step front names whole so_far = sym so_far ∙ ap (λ (l : List _). Ok (l, names)) (append-nil front)

-- what is left begins with the item at hand
pub left_here : {A B : Type 0} (f : A → B) (xs : List A) (i : ℕ) (d : A) → i < length xs → map f (drop i xs) ≡ f (get_or xs i d) ∷ map f (drop (i + 1) xs)
left_here f xs i d within =
    let here : drop i xs ≡ get_or xs i d ∷ drop (i + 1) xs = rw (add-one, drop-cons xs i d) refl in
    ap (map f) here

-- the same three of a loop over items, each of which is kept as another
pub loop_goes_on : {A X Y : Type 0} (kept : A → X) (step : Step X Y) (front : List Y) (names after : Texts) (xs : List A) (i : ℕ) (d : A) (y : Y) (whole : Result (List Y × Texts) LineCause) → i < length xs → step names (kept (get_or xs i d)) ≡ Ok (y, after) → with_front front (each_named step names (map kept (drop i xs))) ≡ whole → with_front (front ++ y ∷ []) (each_named step after (map kept (drop (i + 1) xs))) ≡ whole
loop_goes_on kept step front names after xs i d y whole within is so_far =
    names_go_on step front names after _ y _ whole is (ap (λ (l : List _). with_front front (each_named step names l)) (sym (left_here kept xs i d within)) ∙ so_far)

pub loop_stops : {A X Y : Type 0} (kept : A → X) (step : Step X Y) (front : List Y) (names : Texts) (xs : List A) (i : ℕ) (d : A) (whole : Result (List Y × Texts) LineCause) (cause : LineCause) → i < length xs → Fails (step names (kept (get_or xs i d))) cause → with_front front (each_named step names (map kept (drop i xs))) ≡ whole → Fails whole cause
loop_stops kept step front names xs i d whole cause within is so_far =
    names_stop step front names _ _ whole cause is (ap (λ (l : List _). with_front front (each_named step names l)) (sym (left_here kept xs i d within)) ∙ so_far)

pub loop_ends : {A X Y : Type 0} (kept : A → X) (step : Step X Y) (front : List Y) (names : Texts) (xs : List A) (i : ℕ) (whole : Result (List Y × Texts) LineCause) → length xs ≤ i → with_front front (each_named step names (map kept (drop i xs))) ≡ whole → whole ≡ Ok (front, names)
loop_ends kept step front names xs i whole past so_far =
    names_end step front names whole (ap (λ (l : List _). with_front front (each_named step names (map kept l))) (sym (drop_all i xs past)) ∙ so_far)
