-- Exports and atoms that are compared part by part.
use Rattle.std.proofs.Common.{◌≡◌, ℕ, List, ◌&&◌, eqb, ap}
use Rattle.std.specs.Bool.{Decides}
use Rattle.std.proofs.lemmas.Bool.Decides.{Decides-like, Decides-and, Decides-eqb}
use Rattle.term_core.specs.declared.atom.AtomId.{AtomId}
use Rattle.term_core.specs.declared.atom.Mfa.{Mfa}
use Rattle.server_core.specs.declared.command.Reply.{Reply}
use Rattle.server_core.specs.declared.command.Reply.TheVariants.{NotPurged}

-- the numbers of two atoms are one where the atoms are
pub same_atom : (a b : AtomId) → Decides (eqb a.0 b.0) (a ≡ b)
same_atom a b = Decides-like _ (λ p. λ i. record { 0 = p i }) (λ e. ap (λ x. x.0) e) (Decides-eqb a.0 b.0)

same_mfa : (a b : Mfa) → Decides (eqb a.«module».0 b.«module».0 && (eqb a.name.0 b.name.0 && eqb a.arity b.arity)) (a ≡ b)
same_mfa a b =
    Decides-like _ (λ p. λ i. record { «module» = record { 0 = p.0 i }; name = record { 0 = p.1.0 i }; arity = p.1.1 i }) (λ e. (ap (λ x. x.«module».0) e, (ap (λ x. x.name.0) e, ap (λ x. x.arity) e)))
    (Decides-and (eqb a.«module».0 b.«module».0) (eqb a.name.0 b.name.0 && eqb a.arity b.arity) (Decides-eqb a.«module».0 b.«module».0)
    (Decides-and (eqb a.name.0 b.name.0) (eqb a.arity b.arity) (Decides-eqb a.name.0 b.name.0) (Decides-eqb a.arity b.arity)))

-- function by function and serial by serial
pub same_export : (a b : Mfa × ℕ) → Decides ((eqb a.0.«module».0 b.0.«module».0 && (eqb a.0.name.0 b.0.name.0 && eqb a.0.arity b.0.arity)) && eqb a.1 b.1) (a ≡ b)
same_export a b =
    Decides-like _ (λ p. λ i. (p.0 i, p.1 i)) (λ e. (ap (λ x. x.0) e, ap (λ x. x.1) e))
    (Decides-and (eqb a.0.«module».0 b.0.«module».0 && (eqb a.0.name.0 b.0.name.0 && eqb a.0.arity b.0.arity)) (eqb a.1 b.1) (same_mfa a.0 b.0) (Decides-eqb a.1 b.1))

told_in : List AtomId → Reply → List AtomId
told_in modules (NotPurged told) = told
told_in modules reply = modules

-- the modules that a reply tells
pub modules_told : (modules told : List AtomId) → NotPurged modules ≡ NotPurged told → modules ≡ told
unfolding told_in
modules_told modules told e = ap (told_in modules) e
