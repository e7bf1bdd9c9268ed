-- Lines that name the same atoms and functions in the same order; labels, and lines that only stand between others, name nothing.
use Rattle.script_text.proofs.Common.{◌≡◌, ℕ, Bool, true, false, cond, List, [], ◌∷◌, ◌++◌, refl, sym, ap}
use Rattle.script_text.proofs.Common.{◌∙◌, subst, append-nil, flat_map, flat_map-append, map-append}
use Rattle.script_text.proofs.Modules.{LineForm, label, line_atoms}
use Rattle.script_text.proofs.Forms.{ScriptLine, code, script_line_atoms, code_form}
use Rattle.script_text.proofs.FunctionNames.{FunctionForm, line_functions, home_after_line, home_of}
use Rattle.script_text.proofs.FunctionNames.{functions_named, functions_named-append, home_of-append}

pub record Alike (xs ys : List ScriptLine) : Type 0 where
  pub atoms : flat_map script_line_atoms xs ≡ flat_map script_line_atoms ys
  pub homes : (home : List ℕ) → home_of home xs ≡ home_of home ys
  pub functions : (home : List ℕ) → functions_named home xs ≡ functions_named home ys

pub lines_same : (xs : List ScriptLine) → Alike xs xs
lines_same xs = record { atoms = refl; homes = λ home. refl; functions = λ home. refl }

pub lines_then : (xs ys zs : List ScriptLine) → Alike xs ys → Alike ys zs → Alike xs zs
lines_then xs ys zs p q = record { atoms = p.atoms ∙ q.atoms; homes = λ home. p.homes home ∙ q.homes home; functions = λ home. p.functions home ∙ q.functions home }

pub lines_back : (xs ys : List ScriptLine) → Alike xs ys → Alike ys xs
lines_back xs ys p = record { atoms = sym p.atoms; homes = λ home. sym (p.homes home); functions = λ home. sym (p.functions home) }

-- lines that are alike, behind lines that are alike
pub lines_append : (ws xs ys zs : List ScriptLine) → Alike ws xs → Alike ys zs → Alike (ws ++ ys) (xs ++ zs)
lines_append ws xs ys zs p q = record {
  atoms = flat_map-append script_line_atoms ws ys ∙ (λ i. p.atoms i ++ q.atoms i) ∙ sym (flat_map-append script_line_atoms xs zs);
  homes = λ home. home_of-append home ws ys ∙ ap (λ (h : List ℕ). home_of h ys) (p.homes home) ∙ q.homes (home_of home xs) ∙ sym (home_of-append home xs zs);
  functions = λ home.
      functions_named-append home ws ys
      ∙ (λ i. p.functions home i ++ functions_named (p.homes home i) ys)
      ∙ ap (λ (fs : List FunctionForm). functions_named home xs ++ fs) (q.functions (home_of home xs))
      ∙ sym (functions_named-append home xs zs);
}

-- a line that names nothing
pub quiet_more : (xs ys : List ScriptLine) (line : ScriptLine) → Alike xs ys → Alike (line ∷ []) [] → Alike (xs ++ line ∷ []) ys
quiet_more xs ys line p q = subst (Alike _) (append-nil ys) (lines_append xs ys _ [] p q)

-- ---- module texts

abbrev pub AreAlike : List LineForm → List LineForm → Type 0
AreAlike xs ys = Alike (code_form xs) (code_form ys)

pub alike_same : (xs : List LineForm) → AreAlike xs xs
alike_same xs = lines_same _

pub alike_back : (xs ys : List LineForm) → AreAlike xs ys → AreAlike ys xs
alike_back xs ys p = lines_back _ _ p

pub alike_then : (xs ys zs : List LineForm) → AreAlike xs ys → AreAlike ys zs → AreAlike xs zs
alike_then xs ys zs p q = lines_then _ _ _ p q

pub alike_append : (ws xs ys zs : List LineForm) → AreAlike ws xs → AreAlike ys zs → AreAlike (ws ++ ys) (xs ++ zs)
alike_append ws xs ys zs p q =
    let left = sym (map-append (λ l. code l) ws ys) in
    let right = sym (map-append (λ l. code l) xs zs) in
    subst (λ (ls : List ScriptLine). Alike ls (code_form (xs ++ zs))) left (subst (Alike _) right (lines_append (code_form ws) (code_form xs) (code_form ys) (code_form zs) p q))

-- a label names nothing
pub alike_label : (name : List ℕ) (xs : List LineForm) → AreAlike (label name ∷ xs) xs
alike_label name xs = record { atoms = refl; homes = λ home. refl; functions = λ home. refl }

pub alike_labels : (t : Bool) (name : List ℕ) (xs ys : List LineForm) → AreAlike xs ys → AreAlike (cond t (label name ∷ []) [] ++ xs) ys
alike_labels true name xs ys p = alike_then (label name ∷ xs) xs ys (alike_label name xs) p
alike_labels false name xs ys p = p

-- what two lines name alike
pub record IsLike (x y : LineForm) : Type 0 where
  pub atoms : line_atoms x ≡ line_atoms y
  pub homes : (home : List ℕ) → home_after_line home x ≡ home_after_line home y
  pub functions : (home : List ℕ) → line_functions home x ≡ line_functions home y

pub alike_line : (x y : LineForm) → IsLike x y → AreAlike (x ∷ []) (y ∷ [])
alike_line x y p = record {
  atoms = ap (λ (l : List (List ℕ)). l ++ []) p.atoms;
  homes = p.homes;
  functions = λ home. ap (λ (l : List FunctionForm). l ++ []) (p.functions home);
}
