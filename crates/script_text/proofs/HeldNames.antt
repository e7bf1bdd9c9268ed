-- Texts that a table of names holds: each keeps its number as the table grows, and no two have one number.
use Rattle.script_text.proofs.Common.{◌≡◌, ℕ, cond, List, [], ◌∷◌, ◌++◌, length, Option, Some, None, is_some}
use Rattle.script_text.proofs.Common.{unwrap_or, refl, sym, ap, ◌∙◌, subst, AllByRecursion, Texts}
use Rattle.script_text.proofs.Texts.{Extends, number_of, names_with, number_in, names_with_all, position-append_found, position-append_one}
use Rattle.script_text.proofs.Texts.{Extends-refl, Extends-trans, names_with-Extends, same_bytes, HasNumber}

pub held_more : (names more : Texts) (text : List ℕ) → HasNumber names text → HasNumber (names ++ more) text
held_more names more text h = record { number = h.number; is = position-append_found _ names more _ h.is }

-- and keeps its number
pub number_in-more : (names more : Texts) (text : List ℕ) → HasNumber names text → number_in (names ++ more) text ≡ number_in names text
number_in-more names more text h = ap (λ (o : Option ℕ). unwrap_or o 0) (position-append_found _ names more _ h.is ∙ sym h.is)

module _ (names after : Texts) (text : List ℕ) (e : Extends names after) (h : HasNumber names text) where
  pub held_in : HasNumber after text
  held_in = subst (λ (ns : Texts). HasNumber ns text) (sym e.whole) (held_more names _ text h)

  pub number_in-after : number_in after text ≡ number_in names text
  number_in-after = ap (λ (ns : Texts). number_in ns text) e.whole ∙ number_in-more names _ text h

held_by : (names : Texts) (text : List ℕ) (o : Option ℕ) → number_of names text ≡ o → HasNumber (cond (is_some o) names (names ++ text ∷ [])) text
held_by names text (Some n) e = record { number = n; is = e }
held_by names text None e = record { number = length names; is = position-append_one _ names text e (same_bytes text) }

-- a text is held once it was named
pub held_with : (names : Texts) (text : List ℕ) → HasNumber (names_with names text) text
held_with names text = held_by names text _ refl

pub Extends-all : (names texts : Texts) → Extends names (names_with_all names texts)
Extends-all names [] = Extends-refl names
Extends-all names (text ∷ texts) = Extends-trans names (names_with names text) _ (names_with-Extends names text) (Extends-all (names_with names text) texts)

-- all texts are, once they were named
pub held_all : (names texts : Texts) → AllByRecursion (HasNumber (names_with_all names texts)) texts
held_all names [] = tt
held_all names (text ∷ texts) = (held_in (names_with names text) (names_with_all (names_with names text) texts) text (Extends-all (names_with names text) texts) (held_with names text), held_all (names_with names text) texts)

pub all_held_in : (names after texts : Texts) → Extends names after → AllByRecursion (HasNumber names) texts → AllByRecursion (HasNumber after) texts
all_held_in names after [] e h = tt
all_held_in names after (text ∷ texts) e h = (held_in names after text e h.0, all_held_in names after texts e h.1)

pub number_is : (names : Texts) (text : List ℕ) (h : HasNumber names text) → number_in names text ≡ h.number
number_is names text h = ap (λ (o : Option ℕ). unwrap_or o 0) h.is
