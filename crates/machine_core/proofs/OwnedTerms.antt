-- That terms are the plain terms that they show.
use Rattle.std.proofs.Common.{◌≡◌, refl, ap, List, [], ◌∷◌, map}
use Rattle.term_core.specs.declared.term.Term.{Term}
use Rattle.term_core.specs.declared.term.Term.TheVariants.{Int, Atom, Tuple, List as ListOf}
use Rattle.term_core.specs.Plain.{plain, term_of}
use Rattle.machine_core.specs.declared.process.Value.TheVariants.{Owned}
use Rattle.machine_core.specs.Process.{owned_terms}
use Rattle.term_core.proofs.TokenLaws.{terms_of-row_of}

-- the term of what a term shows is it
pub term_of-plain : (t : Term) → term_of (plain t) ≡ t
term_of-plain (Int z) = refl
term_of-plain (Atom a) = refl
term_of-plain (Tuple ts) = ap Tuple (terms_of-row_of ts)
term_of-plain (ListOf ts) = ap ListOf (terms_of-row_of ts)

-- terms as values are what they show as values
pub owned_terms-plain : (ts : List Term) → owned_terms (map plain ts) ≡ map Owned ts
owned_terms-plain [] = refl
owned_terms-plain (t ∷ ts) = cc (term_of-plain t, owned_terms-plain ts)
