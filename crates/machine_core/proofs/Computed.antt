-- What instructions that compute of two terms come to.
use Rattle.std.proofs.Common.{◌≡◌, ◌∙◌, ◌+◌, ℕ, ap, subst, List, [], ◌∷◌, ◌++◌, slice_set, Result, Ok}
use Rattle.std.proofs.lemmas.List.{append-nil}
use Rattle.term_core.specs.declared.term.Term.{Term}
use Rattle.mod_core.specs.declared.code.Instr.{Instr}
use Rattle.mod_core.specs.ModuleImage.{instr_len}
use Rattle.machine_core.specs.declared.op.Source.{Source}
use Rattle.machine_core.specs.declared.process.End.{End}
use Rattle.machine_core.specs.declared.process.Frame.{Frame}
use Rattle.machine_core.specs.declared.process.Line.{Line}
use Rattle.machine_core.specs.Decode.{operand_shown}
use Rattle.machine_core.specs.Holds.{Holds}
use Rattle.machine_core.specs.Process.{PlainFrame, frame_of, owned}
use Rattle.machine_core.specs.Stand.{runs, stand_after}
use Rattle.machine_core.specs.Turn.{computed}
use Rattle.machine_core.specs.Values.{operand_term}
use Rattle.machine_core.specs.View.{Shown}

-- a register that gets what was computed
pub given : (held : Holds) (made : List Line) (f g : PlainFrame) (below : List PlainFrame) (i : Instr) (to : ℕ) (value : Result Term End) (term : Term) → value ≡ Ok term → instr_len i ≡ 4 →
    record f { place = f.place + 4; registers = slice_set f.registers to (owned term) } ≡ g → stand_after held made (computed f below held i to value) ≡ runs (g ∷ below) held made
given held made f g below i to value term e len same =
    ap (λ v. stand_after held made (computed f below held i to v)) e
    ∙ ap (λ n. runs (record f { place = f.place + n; registers = slice_set f.registers to (owned term) } ∷ below) held (made ++ [])) len
    ∙ ap (λ h. runs (h ∷ below) held (made ++ [])) same ∙ ap (runs (g ∷ below) held) (append-nil made)

-- the term of a source, where the view shows what it did
pub term_seen : (shown seen : Shown) (top : Frame) (source : Source) (term : Term) → seen ≡ shown → term ≡ operand_term (frame_of seen.words top) (operand_shown (seen.words top.code.area.serial) source) →
    term ≡ operand_term (frame_of shown.words top) (operand_shown (shown.words top.code.area.serial) source)
term_seen shown seen top source term s e = subst (λ (v : Shown). term ≡ operand_term (frame_of v.words top) (operand_shown (v.words top.code.area.serial) source)) s e

-- what is computed of two terms
pub of_terms : {A : Type 0} (give : Term → Term → A) (value : A) (a b first second : Term) → value ≡ give a b → a ≡ first → b ≡ second → value ≡ give first second
of_terms give value a b first second v e k = v ∙ ap (λ t. give t b) e ∙ ap (give first) k
