-- The labels of a function, line by line.
use Rattle.mod_text.proofs.Common.{◌≡◌, ℕ, suc, ◌+◌, ◌<◌, Bool, true, false, cond, List, [], ◌∷◌, ◌++◌, length}
use Rattle.mod_text.proofs.Common.{take, get_or, Option, Some, None, option_map, is_some, bytes_eq}
use Rattle.mod_text.proofs.Common.{refl, sym, ap, ◌∙◌, subst, arith, Bor, take_more, map-append}
use Rattle.std.specs.HashMap.{UpdatesBy}
use Rattle.std.proofs.lemmas.Map.Text.{hash_map_updates_str}
use Rattle.std.proofs.lemmas.Slice.Eq.{bytes_eq-Decides}
use Rattle.term_core.proofs.Truths.{none_by}
use Rattle.mod_text.proofs.Forms.{form_of, forms_of, LineForm, title, label, instr, instrs_in, label_number}
use Rattle.mod_text.proofs.Forms.{earlier, Places, label_place, ArePlaces, HasPlace, label_at, TakesLine}
use Rattle.mod_text.proofs.Forms.{number_after}

earlier-none : (o : Option ℕ) → earlier o None ≡ o
earlier-none None = refl
earlier-none (Some n) = refl

-- a label that was added has its number, and each other one what it had
pub place_added : (old new : Places) (name : Bor (List ℕ)) (number : ℕ) (o : Option ℕ) → o ≡ label_place old name.now → is_some o ≡ false → UpdatesBy (λ x y. bytes_eq x.now y.now) (λ k. bytes_eq name.now k.now) old new (Some number) → HasPlace old new name.now number
place_added old new name number o is none updates = λ wanted.
    hash_map_updates_str _ old new _ updates _ ∙ by_test _ _ refl (sym is ∙ none_by o none)
  where
    by_test : (wanted : List ℕ) (t : Bool) → bytes_eq name.now wanted ≡ t → label_place old name.now ≡ None → cond t (Some number) (label_place old wanted) ≡ earlier (label_place old wanted) (cond t (Some number) None)
    by_test wanted true e before = ap (λ p. earlier p (Some number)) (sym (ap (label_place old) (sym ((bytes_eq-Decides name.now wanted).0 e)) ∙ before))
    by_test wanted false e before = sym (earlier-none _)

earlier-is : (o : Option ℕ) (other : Option ℕ) → is_some o ≡ true → o ≡ earlier o other
earlier-is None other h = absurd cc
earlier-is (Some n) other h = refl

-- a label that had a number keeps it
pub place_kept : (old : Places) (name : Bor (List ℕ)) (number : ℕ) (o : Option ℕ) → o ≡ label_place old name.now → is_some o ≡ true → HasPlace old old name.now number
place_kept old name number o is some = λ wanted. by_test _ _ refl
  where
    by_test : (wanted : List ℕ) (t : Bool) → bytes_eq name.now wanted ≡ t → label_place old wanted ≡ earlier (label_place old wanted) (cond t (Some number) None)
    by_test wanted true e = earlier-is (label_place old wanted) (Some number) (ap is_some (ap (label_place old) (sym ((bytes_eq-Decides name.now wanted).0 e)) ∙ sym is) ∙ some)
    by_test wanted false e = sym (earlier-none _)

-- ---- the labels of lines

earlier-suc : (a b : Option ℕ) → option_map suc (earlier a b) ≡ earlier (option_map suc a) (option_map suc b)
earlier-suc None b = refl
earlier-suc (Some n) b = refl

suc_if : (t : Bool) (n : ℕ) → option_map suc (cond t (Some n) None) ≡ cond t (Some (suc n)) None
suc_if true n = refl
suc_if false n = refl

label_at-suc : (number : ℕ) (wanted : List ℕ) (line : LineForm) → option_map suc (label_at number wanted line) ≡ label_at (suc number) wanted line
label_at-suc number wanted (label name) = suc_if _ _
label_at-suc number wanted line = refl

first_label : (wanted : List ℕ) (line : LineForm) → label_number wanted (line ∷ []) ≡ label_at 0 wanted line
first_label wanted (title name version) = refl
first_label wanted line = refl

-- a line more gives its label a number, unless it had one
pub label_number-push : (wanted : List ℕ) (lines : List LineForm) (line : LineForm) → label_number wanted (lines ++ line ∷ []) ≡ earlier (label_number wanted lines) (label_at (length (instrs_in lines)) wanted line)
label_number-push wanted [] line = first_label _ line
label_number-push wanted (label name ∷ lines) line =
    elim (bytes_eq name wanted) as (λ t. cond t (Some 0) (label_number wanted (lines ++ line ∷ [])) ≡ earlier (cond t (Some 0) (label_number wanted lines)) (label_at (length (instrs_in lines)) wanted line)) [
      | true ↦ refl
      | false ↦ label_number-push _ lines line
    ]
label_number-push wanted (instr i ∷ lines) line =
    ap (option_map suc) (label_number-push _ lines line) ∙ earlier-suc _ _ ∙ ap (earlier _) (label_at-suc _ _ line)
label_number-push wanted (first ∷ lines) line = label_number-push _ lines line

last_count : (line : LineForm) → length (instrs_in (line ∷ [])) ≡ number_after 0 line
last_count (title name version) = refl
last_count line = refl

number_after-suc : (number : ℕ) (line : LineForm) → suc (number_after number line) ≡ number_after (suc number) line
number_after-suc number (instr i) = omega arith
number_after-suc number line = refl

pub count-push : (lines : List LineForm) (line : LineForm) → length (instrs_in (lines ++ line ∷ [])) ≡ number_after (length (instrs_in lines)) line
count-push [] line = last_count line
count-push (instr i ∷ lines) line = ap suc (count-push lines line) ∙ number_after-suc _ line
count-push (first ∷ lines) line = count-push lines line

-- what the loop keeps
pub record PlacesSoFar (places : Places) (number : ℕ) (lines : List LineForm) : Type 0 where
  pub places_are : ArePlaces places lines
  pub counted : number ≡ length (instrs_in lines)

forms_more : (body : List (Bor (List ℕ))) (i : ℕ) (d : Bor (List ℕ)) → i < length body → forms_of (take (i + 1) body) ≡ forms_of (take i body) ++ form_of (get_or body i d) ∷ []
forms_more body i d within = ap forms_of (take_more body i d within) ∙ map-append form_of (take i body) (get_or body i d ∷ [])

pub places_more : (old new : Places) (number next : ℕ) (body : List (Bor (List ℕ))) (i : ℕ) (d : Bor (List ℕ)) → i < length body → PlacesSoFar old number (forms_of (take i body)) → TakesLine old new number (form_of (get_or body i d)) → next ≡ number_after number (form_of (get_or body i d)) → PlacesSoFar new next (forms_of (take (i + 1) body))
places_more old new number next body i d within so_far takes counts =
    let line = form_of (get_or body i d) in
    subst (PlacesSoFar new next) (sym (forms_more body i d within)) (record {
      places_are = λ wanted. takes _ ∙ ap (λ o. earlier o (label_at number wanted line)) (so_far.places_are wanted) ∙ ap (λ n. earlier (label_number wanted (forms_of (take i body))) (label_at n wanted line)) so_far.counted ∙ sym (label_number-push wanted (forms_of (take i body)) line);
      counted = counts ∙ ap (λ n. number_after n line) so_far.counted ∙ sym (count-push (forms_of (take i body)) line);
    })
