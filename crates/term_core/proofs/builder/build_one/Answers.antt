-- The one term of a readable text.
use Rattle.std.proofs.Common.{◌≡◌, List, [], ◌∷◌, ◌++◌, sym, ◌∙◌, ap, length, arith, length-append}
use Rattle.term_core.specs.TermText.{number_in}
use Rattle.term_core.specs.Written.{integer_of}
use Rattle.term_core.proofs.TextForms.{text_leaves, text_built}
use Rattle.term_core.proofs.builder.build_one.Goals as goal

-- its leaves are integers in range and atoms
pub build-requires : goal.build-requires
build-requires c = text_leaves c.args.text.now c.requires.form c.requires.is_text c.requires.fits

-- one is not none
not_none : {X : Type 0} (x : X) → [] ≡ x ∷ [] → ⊥
not_none x e = cc

-- so there is a term
pub unreachable-requires : goal.unreachable-requires
unreachable-requires c =
    not_none _ (sym c.in-None.ensures.0 ∙ c.in_ok-terms.ensures ∙ text_built integer_of (number_in c.args.names.now) c.args.text.now c.requires.form c.requires.is_text)

-- the last of one is the one
last_of_one : {X : Type 0} (xs : List X) (x y : X) → xs ++ x ∷ [] ≡ y ∷ [] → y ∷ [] ≡ x ∷ []
last_of_one [] x y e = sym e
last_of_one (z ∷ xs) x y e = absurd (omega (arith, ap length e, length-append xs (x ∷ [])))

-- and it is the last
pub returns : goal.returns
returns c =
    let one = text_built integer_of (number_in c.args.names.now) c.args.text.now c.requires.form c.requires.is_text in
    one ∙ last_of_one c.pop.new.self _ _ (sym c.in-Some.ensures ∙ c.in_ok-terms.ensures ∙ one)
