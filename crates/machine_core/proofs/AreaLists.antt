-- The areas that a turn holds, as a list and as a set.
use Rattle.std.proofs.Common.{◌≡◌, ◌∙◌, ℕ, refl, sym, ap, Bool, true, false, ◌||◌, ◌==◌, List, [], ◌∷◌, ◌++◌, map, Result, Ok, Err, OnOk}
use Rattle.std.proofs.Common.{◌<◌, ◌+◌, All, length, subst, take, get_or, append_assoc}
use Rattle.std.proofs.lemmas.List.{append-nil, map-append, take_more}
use Rattle.std.proofs.lemmas.List.Elements.{All-append, All-cons, All-nil}
use Rattle.std.proofs.lemmas.Grind.{flat_map-append}
use Rattle.std.proofs.lemmas.List.Folds.{list_any-append}
use Rattle.std.specs.List.{flat_map, list_any}
use Rattle.term_core.specs.declared.area.AreaRef.{AreaRef}
use Rattle.term_core.specs.declared.no_memory.NoMemory.{NoMemory}
use Rattle.machine_core.specs.Holds.{Holds, is_among, serials_of, with_serial}
use Rattle.machine_core.specs.declared.process.Frame.{Frame}
use Rattle.machine_core.specs.declared.process.Value.{Value}
use Rattle.machine_core.specs.declared.process.Value.TheVariants.{Literal}
use Rattle.machine_core.specs.declared.process.LitRef.{LitRef}
use Rattle.machine_core.specs.Process.{area_serials, code_names, value_area, value_areas}
use Rattle.machine_core.specs.View.{IsInBlock, IsValue, Shown}
use Rattle.machine_core.proofs.SerialLists.{among-serials_of, increasing-serials_of, serials_of-same, with-there}

-- which serials are those of areas
pub among-areas : (areas : List AreaRef) (n : ℕ) → is_among (area_serials areas) n ≡ list_any (λ a. a.serial == n) areas
among-areas [] n = refl
among-areas (a ∷ areas) n = ap (λ b. a.serial == n || b) (among-areas areas n)

-- an area that is there is named already
pub named_there : (areas : List AreaRef) (serial : ℕ) → list_any (λ a. a.serial == serial) areas ≡ true → serials_of (area_serials areas) ≡ with_serial (serials_of (area_serials areas)) serial
named_there areas serial h =
    sym (with-there (serials_of (area_serials areas)) serial (increasing-serials_of (area_serials areas)) (among-serials_of (area_serials areas) serial ∙ among-areas areas serial ∙ h))

-- one in front of others, or behind them
pub swapped : (a b : Bool) → (a || (b || false)) ≡ (b || a)
swapped true true = refl
swapped true false = refl
swapped false true = refl
swapped false false = refl

-- a serial behind others is one more
pub serials_of-push : (ns : List ℕ) (n : ℕ) → serials_of (ns ++ n ∷ []) ≡ with_serial (serials_of ns) n
serials_of-push ns n = serials_of-same (ns ++ n ∷ []) (n ∷ ns) (λ q. list_any-append (λ m. m == q) ns (n ∷ []) ∙ swapped (is_among ns q) (n == q))

-- serials behind those of one set are of one set
pub serials_of-behind : (ms ns more : List ℕ) → serials_of ms ≡ serials_of ns → serials_of (ms ++ more) ≡ serials_of (ns ++ more)
serials_of-behind ms ns more e =
    serials_of-same (ms ++ more) (ns ++ more) (λ q.
    list_any-append (λ m. m == q) ms more
    ∙ ap (λ b. b || is_among more q) (sym (among-serials_of ms q) ∙ ap (λ xs. is_among xs q) e ∙ among-serials_of ns q)
    ∙ sym (list_any-append (λ m. m == q) ns more))

-- one more area is named with the others
pub serials-pushed : (areas : List AreaRef) (area : AreaRef) → serials_of (area_serials (areas ++ area ∷ [])) ≡ with_serial (serials_of (area_serials areas)) area.serial
serials-pushed areas area = ap serials_of (map-append (λ a. a.serial) areas (area ∷ [])) ∙ serials_of-push (area_serials areas) area.serial

-- the same of a push that may want memory
pub noted : (r : Result (Unit {0}) NoMemory) (before after : List AreaRef) (area : AreaRef) → OnOk r (after ≡ before ++ area ∷ []) →
    OnOk r (serials_of (area_serials after) ≡ with_serial (serials_of (area_serials before)) area.serial)
noted (Ok done) before after area h = ap (λ areas. serials_of (area_serials areas)) h ∙ serials-pushed before area
noted (Err refused) before after area h = h

-- areas that stand in their blocks, and one more that does
pub stand_noted : (shown : Shown) (r : Result (Unit {0}) NoMemory) (before after : List AreaRef) (area : AreaRef) → OnOk r (after ≡ before ++ area ∷ []) →
    All (IsInBlock shown) before → IsInBlock shown area → OnOk r (All (IsInBlock shown) after)
stand_noted shown (Ok done) before after area e stand one =
    subst (All (IsInBlock shown)) (sym e) (All-append (IsInBlock shown) before (area ∷ []) stand (All-cons (IsInBlock shown) area [] one (All-nil (IsInBlock shown))))
stand_noted shown (Err refused) before after area e stand one = tt

-- the area of a literal does
pub literal_stands : (shown : Shown) (value : Value) (at : LitRef) → value ≡ Literal at → IsValue shown value → IsInBlock shown at.area
literal_stands shown value at e is = let literal = subst (IsValue shown) e is in literal.stands

-- what holds of each of a list holds of the next one
pub next_of : {X : Type 0} (P : X → Type 0) (xs : List X) (n : ℕ) (x : X) → n < length xs → x ≡ get_or xs n x → All P xs → P x
next_of P xs n x below is all = subst P (sym is) (all n x below)

-- the area of one value is named with the others
pub noted_literal : (r : Result (Unit {0}) NoMemory) (before after : List AreaRef) (value : Value) (at : LitRef) → value ≡ Literal at →
    OnOk r (serials_of (area_serials after) ≡ with_serial (serials_of (area_serials before)) at.area.serial) →
    OnOk r (serials_of (area_serials after) ≡ serials_of (area_serials before ++ value_area value))
noted_literal (Ok done) before after value at e h = h ∙ sym (serials_of-push (area_serials before) at.area.serial) ∙ ap (λ v. serials_of (area_serials before ++ value_area v)) (sym e)
noted_literal (Err refused) before after value at e h = h

more_of : {X : Type 0} (g : X → List ℕ) (xs : List X) (n : ℕ) (x : X) → n < length xs → x ≡ get_or xs n x → flat_map g (take (n + 1) xs) ≡ flat_map g (take n xs) ++ g x
more_of g xs n x below is =
    ap (flat_map g) (take_more xs n x below) ∙ ap (λ y. flat_map g (take n xs ++ y ∷ [])) (sym is)
    ∙ flat_map-append g (take n xs) (x ∷ []) ∙ ap (λ ns. flat_map g (take n xs) ++ ns) (append-nil (g x))

-- the areas of literals up to the next value
pub next_literals : (initial before after : List AreaRef) (values : List Value) (n : ℕ) (value : Value) → n < length values → value ≡ get_or values n value →
    serials_of (area_serials before) ≡ serials_of (area_serials initial ++ value_areas (take n values)) → serials_of (area_serials after) ≡ serials_of (area_serials before ++ value_area value) →
    serials_of (area_serials after) ≡ serials_of (area_serials initial ++ value_areas (take (n + 1) values))
next_literals initial before after values n value below is h e =
    e ∙ serials_of-behind (area_serials before) (area_serials initial ++ value_areas (take n values)) (value_area value) h
    ∙ ap serials_of (append_assoc (area_serials initial) (value_areas (take n values)) (value_area value) ∙ ap (λ ns. area_serials initial ++ ns) (sym (more_of value_area values n value below is)))

-- holds with the same areas of both kinds
pub same_holds : (a b : Holds) → a.frames ≡ b.frames → a.literals ≡ b.literals → a ≡ b
same_holds a b f l = ap (λ ns. record { frames = ns; literals = a.literals }) f ∙ ap (λ ns. record { frames = b.frames; literals = ns }) l

-- what the frames up to the next one name
pub next_frame : (frames_before frames_after literals_before literals_after : List AreaRef) (fs : List Frame) (n : ℕ) (f : Frame) → n < length fs → f ≡ get_or fs n f →
    record { frames = serials_of (area_serials frames_before); literals = serials_of (area_serials literals_before) } ≡ code_names (take n fs) →
    serials_of (area_serials frames_after) ≡ with_serial (serials_of (area_serials frames_before)) f.code.area.serial →
    serials_of (area_serials literals_after) ≡ serials_of (area_serials literals_before ++ value_areas f.registers) →
    record { frames = serials_of (area_serials frames_after); literals = serials_of (area_serials literals_after) } ≡ code_names (take (n + 1) fs)
next_frame frames_before frames_after literals_before literals_after fs n f below is h e k =
    let first : serials_of (area_serials frames_after) ≡ (code_names (take (n + 1) fs)).frames =
    e ∙ ap (λ ns. with_serial ns f.code.area.serial) (ap (λ (x : Holds). x.frames) h)
    ∙ sym (serials_of-push (map (λ g. g.code.area.serial) (take n fs)) f.code.area.serial)
    ∙ ap serials_of (sym (map-append (λ g. g.code.area.serial) (take n fs) (f ∷ [])) ∙ ap (λ xs. map (λ g. g.code.area.serial) xs) (sym (take_more fs n f below ∙ ap (λ g. take n fs ++ g ∷ []) (sym is)))) in
    let second : serials_of (area_serials literals_after) ≡ (code_names (take (n + 1) fs)).literals =
    k ∙ serials_of-behind (area_serials literals_before) (flat_map (λ g. value_areas g.registers) (take n fs)) (value_areas f.registers) (ap (λ (x : Holds). x.literals) h)
    ∙ ap serials_of (sym (more_of (λ (g : Frame). value_areas g.registers) fs n f below is)) in
    same_holds (record { frames = serials_of (area_serials frames_after); literals = serials_of (area_serials literals_after) }) (code_names (take (n + 1) fs)) first second
