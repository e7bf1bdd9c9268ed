-- That a traced call makes the line that the turn says.
use Rattle.std.proofs.Common.{◌≡◌, ◌∙◌, ℕ, ap, refl, true, List, [], ◌∷◌, ◌++◌}
use Rattle.term_core.specs.declared.atom.Mfa.{Mfa}
use Rattle.term_core.specs.PlainTerm.{PlainTerm}
use Rattle.term_core.proofs.PlainTerms.{plain-term_of}
use Rattle.server_core.specs.ServerState.{Entry}
use Rattle.machine_core.specs.declared.process.Line.{Line}
use Rattle.machine_core.specs.declared.process.Line.TheVariants.{Trace}
use Rattle.machine_core.specs.declared.process.Value.{Value}
use Rattle.machine_core.specs.Process.{arguments_at, arguments_of, owned_values, values_shown}
use Rattle.machine_core.specs.View.{Shown}
use Rattle.machine_core.proofs.Calling.{arguments_shown}
use Rattle.machine_core.specs.Turn.{terms_of, trace_of}
use Rattle.machine_core.specs.Reads.{Reads}

-- the terms of terms as values are they
pub terms_of-owned : (terms : List PlainTerm) → terms_of (owned_values terms) ≡ terms
terms_of-owned [] = refl
terms_of-owned (t ∷ ts) = cc (plain-term_of t, terms_of-owned ts)

-- the line of a target has its arguments
pub target_traced : (s : Reads) (e : Entry) (to : Mfa) (args copies : List PlainTerm) (before after : List Line) → s.traced e ≡ true → copies ≡ args → after ≡ before ++ Trace to copies ∷ [] →
    after ≡ before ++ trace_of s e to (owned_values args)
target_traced s e to args copies before after t c h = rw (t, terms_of-owned args) (h ∙ ap (λ ts. before ++ Trace to ts ∷ []) c)

-- the line of a call has the terms of its arguments
pub call_traced : (shown seen : Shown) (e : Entry) (to : Mfa) (registers args : List Value) (at count : ℕ) (terms : List PlainTerm) (before after : List Line) → seen ≡ shown → shown.reads.traced e ≡ true → args ≡ arguments_of registers at count →
    terms ≡ terms_of (values_shown seen.words args) → after ≡ before ++ Trace to terms ∷ [] → after ≡ before ++ trace_of shown.reads e to (arguments_at (values_shown shown.words registers) at count)
call_traced shown seen e to registers args at count terms before after s t a is h =
    let k : terms ≡ terms_of (arguments_at (values_shown shown.words registers) at count) =
    is ∙ ap (λ (v : Shown). terms_of (values_shown v.words args)) s ∙ ap (λ vs. terms_of (values_shown shown.words vs)) a ∙ ap terms_of (arguments_shown shown.words registers at count) in
    rw t (h ∙ ap (λ ts. before ++ Trace to ts ∷ []) k)
