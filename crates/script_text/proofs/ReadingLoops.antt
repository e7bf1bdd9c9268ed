-- The loops that read the parts of a line into words that the code keeps.
use Rattle.script_text.proofs.Common.{◌≡◌, ℕ, List, [], ◌∷◌, ◌++◌, Option, Some, None, option_map, Ok, refl, subst}
use Rattle.script_text.proofs.Texts.{each_reading, ◌>>=◌, with_read, split, reads_on}
use Rattle.script_text.proofs.Types.{LineCause}
use Rattle.script_text.proofs.Forms.{Fails, or_syntax}
use Rattle.script_text.specs.declared.reading.cause.LineCause.TheVariants as causes

-- a part that is read, seen by words
abbrev pub worded : {X W : Type 0} → (X → W) → (List ℕ → Option X) → List ℕ → Option W
worded words read part = option_map words (read part)

or_ok : {W : Type 0} (o : Option W) (w : W) → or_syntax o ≡ Ok w → o ≡ Some w
or_ok None w e = absurd cc
or_ok (Some v) w e = cc

-- a part is read
pub part_goes_on : {W : Type 0} (parts : Option (List ℕ) → List (List ℕ)) (read : List ℕ → Option W) (front : List W) (o behind : Option (List ℕ)) (left part : List ℕ) (w : W) (whole : Option (List W)) → o ≡ Some left → parts (Some left) ≡ part ∷ parts behind → or_syntax (read part) ≡ Ok w → with_read front (each_reading read (parts o)) ≡ whole → with_read (front ++ w ∷ []) (each_reading read (parts behind)) ≡ whole
part_goes_on parts read front o behind left part w whole is e read_is so_far = reads_on parts read front o _ left part w whole is e (or_ok _ w read_is) so_far

fails_front : {W V : Type 0} (o : Option W) (f : W → Option V) (cause : LineCause) → Fails (or_syntax o) cause → Fails (or_syntax (o >>= f)) cause
fails_front None f causes.Syntax h = refl
fails_front None f causes.NoMemory h = tt
fails_front (Some w) f causes.NoMemory h = tt
fails_front o f cause h = absurd cc

-- a part is of no form, or memory is refused
pub part_stops : {W : Type 0} (parts : Option (List ℕ) → List (List ℕ)) (read : List ℕ → Option W) (front : List W) (o behind : Option (List ℕ)) (left part : List ℕ) (whole : Option (List W)) (cause : LineCause) → o ≡ Some left → parts (Some left) ≡ part ∷ parts behind → Fails (or_syntax (read part)) cause → with_read front (each_reading read (parts o)) ≡ whole → Fails (or_syntax whole) cause
part_stops parts read front o behind left part whole cause is e h so_far =
    subst (λ p. Fails (or_syntax p) cause) (split parts read front o _ left part whole is e so_far) (fails_front _ (λ x. with_read (front ++ x ∷ []) (each_reading read (parts _))) cause h)
