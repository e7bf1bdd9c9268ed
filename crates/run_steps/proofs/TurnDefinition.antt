-- A turn that joins its span to those before is the turn of the definition, and each turn can be made so.
use Rattle.std.proofs.Common.{◌≡◌, ◌≢◌, ℕ, ◌+◌, ◌==◌, Bool, true, false, List, [], ◌∷◌, ◌++◌, refl, sym, ap, subst, arith}
use Rattle.std.proofs.lemmas.Bool.{eqb-false, eqb-true}
use Rattle.std.proofs.lemmas.Bool.Decides.{nat_tests}
use Rattle.server_core.specs.ServerState.{ServerState}
use Rattle.machine_core.specs.declared.process.Line.{Line}
use Rattle.machine_core.specs.Turn.{turn_of}
use Rattle.run_log.specs.declared.logs.Span.{Span}
use Rattle.run_steps.specs.Stands.{Stand}
use Rattle.run_steps.specs.Turns.{HadTurn, IsTaken, joined, joined_last, last_one, new_one, one_turn, turned}

-- a last span of another generation is left alone
apart_last : (g : ℕ) (made : List Line) (last : Span) → last.generation ≢ g → joined_last g made last ≡ last ∷ one_turn g made ∷ []
apart_last g made last other = grind (arith, nat_tests)

same_last : (g : ℕ) (made : List Line) (last : Span) → last.generation ≡ g → joined_last g made last ≡ record { generation = g; turns = last.turns + 1; lines = last.lines ++ made } ∷ []
same_last g made last same = grind (arith, nat_tests)

-- the span that a turn joins, and the spans before it
record Opens (g : ℕ) (made : List Line) (spans : List Span) : Type 0 where
  others : List Span
  span : Span
  taken : IsTaken g spans others span
  joins : joined g made spans ≡ others ++ record { generation = g; turns = span.turns + 1; lines = span.lines ++ made } ∷ []

opens_last : (g : ℕ) (made : List Line) (last : Span) (b : Bool) → (last.generation == g) ≡ b → Opens g made (last ∷ [])
opens_last g made last true e =
    let same = eqb-true last.generation g e in
    record { others = []; span = last; taken = last_one same refl; joins = same_last g made last same }
opens_last g made last false e =
    let other = eqb-false last.generation g e in
    record { others = last ∷ []; span = record { generation = g; turns = 0; lines = [] }; taken = new_one refl refl other; joins = apart_last g made last other }

-- one span more in front
further : (g : ℕ) (made : List Line) (x y : Span) (spans others : List Span) (span : Span) → IsTaken g (y ∷ spans) others span → IsTaken g (x ∷ y ∷ spans) (x ∷ others) span
further g made x y spans others span (last_one same parts) = last_one same (ap (λ r. x ∷ r) parts)
further g made x y spans others span (new_one new same other) = new_one new (ap (λ r. x ∷ r) same) other

opens : (g : ℕ) (made : List Line) (spans : List Span) → Opens g made spans
opens g made [] = record { others = []; span = record { generation = g; turns = 0; lines = [] }; taken = new_one refl refl tt; joins = refl }
opens g made (last ∷ []) = opens_last g made last (last.generation == g) refl
opens g made (x ∷ y ∷ spans) =
    let rest = opens g made (y ∷ spans) in
    record { others = x ∷ rest.others; span = rest.span; taken = further g made x y spans rest.others rest.span rest.taken; joins = ap (λ r. x ∷ r) rest.joins }

-- the turn of the definition is had
had_defined : (s : ServerState) (before : Stand) → HadTurn s before (turned s before)
had_defined s before =
    let o = opens s.generation (turn_of s before.process).made before.spans in
    record { others = o.others; span = o.span; taken = o.taken; process = refl; spans = o.joins; phase = refl }

pub turned_had : (s : ServerState) (before after : Stand) → after ≡ turned s before → HadTurn s before after
turned_had s before after is = subst (HadTurn s before) (sym is) (had_defined s before)
