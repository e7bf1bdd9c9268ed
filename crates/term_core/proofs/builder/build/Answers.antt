-- What each byte leaves of the text and its terms.
use Rattle.std.proofs.Common.{◌-◌, ◌+◌, List, [], length, take, drop, get_or, refl, sym, ap, ◌∙◌, subst, arith}
use Rattle.std.proofs.lemmas.List.{drop_all}
use Rattle.term_core.specs.Bytes.{leaf_front}
use Rattle.term_core.specs.TermText.{number_in}
use Rattle.term_core.specs.Tokens.{Token, AreLeaves, token_at, tokens_in, built}
use Rattle.term_core.specs.Written.{integer_of}
use Rattle.term_core.proofs.Building.{AreLeaves-front, AreLeaves-back, tokens_behind}
use Rattle.term_core.proofs.builder.build.Goals as goal

-- the token of the byte is one of those that are left
pub take_token-requires : goal.take_token-requires
take_token-requires c =
    let tokens = tokens_behind c.args.text.now c.loop-at.at (get_or c.args.text.now c.loop-at.at 0) c.loop-at.inside _ c.kind_of-kind.result refl (omega arith) c.kind_of-kind.ensures refl in
    AreLeaves-front (token_at c.loop-at.inside c.kind_of-kind.result (leaf_front (take (length c.args.text.now - c.loop-at.at) (drop c.loop-at.at c.args.text.now)))) _ (subst AreLeaves tokens c.loop-at.invariant.leaves)

-- at the start all is left
pub loop-at-init : goal.loop-at-init
loop-at-init c = record {
  terms = ap (λ terms. built integer_of (number_in c.args.names.now) (tokens_in _ c.args.text.now) terms c.new-builder.result.outer) c.new-builder.ensures.terms
      ∙ ap (built integer_of (number_in c.args.names.now) (tokens_in _ c.args.text.now) []) c.new-builder.ensures.outer;
  leaves = c.requires;
}

-- the tokens that are left are that of the byte and those behind it
pub loop-at-preserved : goal.loop-at-preserved
loop-at-preserved c =
    let front : List Token = token_at c.loop-at.inside c.kind_of-kind.result (leaf_front (take (length c.args.text.now - c.loop-at.at) (drop c.loop-at.at c.args.text.now))) in
    let more : List Token = tokens_in c.is_leaf_kind-inside.result (drop (c.loop-at.at + 1) c.args.text.now) in
    let tokens = tokens_behind c.args.text.now c.loop-at.at (get_or c.args.text.now c.loop-at.at 0) c.loop-at.inside c.is_leaf_kind-inside.result c.kind_of-kind.result refl (omega arith) c.kind_of-kind.ensures c.is_leaf_kind-inside.ensures in
    record {
      terms = sym (c.in_ok-take_token.ensures more)
          ∙ ap (λ ts. built integer_of (number_in c.args.names.now) ts c.loop-at.builder.terms c.loop-at.builder.outer) (sym tokens) ∙ c.loop-at.invariant.terms;
      leaves = AreLeaves-back front more (subst AreLeaves tokens c.loop-at.invariant.leaves);
    }

-- at the end nothing is left
pub returns : goal.returns
returns c =
    let none = drop_all c.loop-at.at c.args.text.now (omega arith) in
    ap (λ rest. built integer_of (number_in c.args.names.now) (tokens_in c.loop-at.inside rest) c.loop-at.builder.terms c.loop-at.builder.outer) (sym none) ∙ c.loop-at.invariant.terms
