-- What each byte leaves of the text and its names.
use Rattle.std.proofs.Common.{◌≡◌, ◌-◌, ◌+◌, ◌<◌, List, false, length, take, drop, get_or, Result, Err, refl, sym, ap, ◌∙◌, subst, arith}
use Rattle.std.proofs.lemmas.List.{drop_all}
use Rattle.std.proofs.lemmas.Result.{err_from_is_err_and}
use Rattle.term_core.specs.declared.names.NameFault.{NameFault}
use Rattle.term_core.specs.declared.names.NameFault.TheVariants.{Full}
use Rattle.term_core.specs.declared.names.TheConstants.{MOST_NAMES}
use Rattle.term_core.specs.Bytes.{is_leaf_kind, leaf_front}
use Rattle.term_core.specs.Names.{IsNames}
use Rattle.term_core.specs.TermForms.{term_atoms}
use Rattle.term_core.specs.TermText.{names_with_all}
use Rattle.term_core.specs.Tokens.{Token, token_at, tokens_in, atoms_among}
use Rattle.term_core.proofs.Building.{tokens_behind, names_behind, names_grow}
use Rattle.term_core.proofs.GrownNames.{Extends-refl, Extends-trans}
use Rattle.term_core.proofs.naming.name_atoms.Goals as goal

-- one fault
same_fault : {T : Type 0} (e f : NameFault) → ◌≡◌ {A = Result T NameFault} (Err e) (Err f) → e ≡ f
same_fault e f is = cc

-- at the start all is left
pub loop-at-init : goal.loop-at-init
loop-at-init c = record { named = refl; grown = Extends-refl c.args.names.now; sound = subst IsNames c.names.view_is c.names.invariant }

-- the names of the byte, and of those behind it
pub loop-at-preserved : goal.loop-at-preserved
loop-at-preserved c =
    let front : List Token = token_at c.loop-at.inside c.kind_of-kind.result (leaf_front (take (length c.args.text.now - c.loop-at.at) (drop c.loop-at.at c.args.text.now))) in
    let more : List Token = tokens_in c.is_leaf_kind-inside.result (drop (c.loop-at.at + 1) c.args.text.now) in
    let tokens = tokens_behind c.args.text.now c.loop-at.at (get_or c.args.text.now c.loop-at.at 0) c.loop-at.inside c.is_leaf_kind-inside.result c.kind_of-kind.result refl (omega arith) c.kind_of-kind.ensures c.is_leaf_kind-inside.ensures in
    record {
      named = sym (names_behind c.loop-at.names c.name_first.new.names front more c.in_ok-name_first.ensures.named) ∙ ap (λ ts. names_with_all c.loop-at.names (atoms_among ts)) (sym tokens) ∙ c.loop-at.invariant.named;
      grown = Extends-trans c.args.names.now c.loop-at.names c.name_first.new.names c.loop-at.invariant.grown c.in_ok-name_first.ensures.grown;
      sound = c.in_ok-name_first.ensures.sound;
    }

-- what is refused of the byte is refused of the text
pub returns-in_err-name_first : goal.returns-in_err-name_first
unfolding term_atoms
returns-in_err-name_first c =
    let front : List Token = token_at c.loop-at.inside c.kind_of-kind.result (leaf_front (take (length c.args.text.now - c.loop-at.at) (drop c.loop-at.at c.args.text.now))) in
    let more : List Token = tokens_in (is_leaf_kind c.kind_of-kind.result) (drop (c.loop-at.at + 1) c.args.text.now) in
    let tokens = tokens_behind c.args.text.now c.loop-at.at (get_or c.args.text.now c.loop-at.at 0) c.loop-at.inside (is_leaf_kind c.kind_of-kind.result) c.kind_of-kind.result refl (omega arith) c.kind_of-kind.ensures refl in
    let all = ap (λ ts. length (names_with_all c.loop-at.names (atoms_among ts))) (sym tokens) ∙ ap length c.loop-at.invariant.named in
    let grown = names_grow c.loop-at.names front more in
    let refused = err_from_is_err_and c.from_residual.result c.from_residual.ensures.1 in
    let full : c.in_err-name_first.field-0.0 ≡ Full → MOST_NAMES < length (names_with_all c.args.names.now (atoms_among (tokens_in false c.args.text.now))) =
    λ e. let over = c.in_err-name_first.ensures.full (ap Err e) in omega arith in
    record {
      ok = rw refused.1 tt;
      full = λ is. full (sym refused.2 ∙ same_fault refused.0 Full (sym refused.1 ∙ is));
      grown = Extends-trans c.args.names.now c.loop-at.names c.name_first.new.names c.loop-at.invariant.grown c.in_err-name_first.ensures.grown;
      sound = c.in_err-name_first.ensures.sound;
    }

-- at the end nothing is left
pub returns : goal.returns
unfolding term_atoms
returns c =
    let none = drop_all c.loop-at.at c.args.text.now (omega arith) in
    record {
      ok = ap (λ rest. names_with_all c.loop-at.names (atoms_among (tokens_in c.loop-at.inside rest))) (sym none) ∙ c.loop-at.invariant.named;
      full = λ e. cc;
      grown = c.loop-at.invariant.grown;
      sound = c.loop-at.invariant.sound;
    }
