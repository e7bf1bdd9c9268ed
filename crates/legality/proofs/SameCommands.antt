-- Terms and references that are compared in depth.
use Rattle.std.proofs.Common.{◌≡◌, List, sym, ap, ◌∙◌, ◌&&◌, eqb}
use Rattle.std.specs.Bool.{Decides}
use Rattle.std.proofs.lemmas.Bool.Decides.{Decides-like, Decides-and, Decides-eqb}
use Rattle.server_core.specs.declared.command.ModRef.{ModRef}
use Rattle.term_core.specs.PlainTerm.{PlainTerm, row_of, terms_of}
use Rattle.term_core.specs.Same.{are_same, is_same_row-Decides}
use Rattle.term_core.proofs.TokenLaws.{terms_of-row_of}

-- the test of lists of terms is true exactly of equal lists
pub are_same-Decides : (ts us : List PlainTerm) → Decides (are_same ts us) (ts ≡ us)
are_same-Decides ts us =
    Decides-like (are_same ts us) (λ e. sym (terms_of-row_of ts) ∙ ap terms_of e ∙ terms_of-row_of us) (λ e. ap row_of e) (is_same_row-Decides (row_of ts) (row_of us))

-- a module and a version are those of one reference
pub same_reference : (a b : ModRef) → Decides (eqb a.name.0 b.name.0 && eqb a.version b.version) (a ≡ b)
same_reference a b =
    Decides-like _ (λ p. λ i. record { name = record { 0 = p.0 i }; version = p.1 i }) (λ e. (ap (λ r. r.name.0) e, ap (λ r. r.version) e))
    (Decides-and (eqb a.name.0 b.name.0) (eqb a.version b.version) (Decides-eqb a.name.0 b.name.0) (Decides-eqb a.version b.version))
