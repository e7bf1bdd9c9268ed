-- The bytes up to the first between terms.
use Rattle.std.proofs.Common.{take, length, unwrap_or, ap, ◌∙◌}
use Rattle.term_core.proofs.ByteKinds.{front_is}
use Rattle.term_core.proofs.byte_kind.leaf_front.Goals as goal

-- by where it stands
pub returns : goal.returns
returns c = ap (λ n. take n c.args.text.now) (c.unwrap_or-len.ensures ∙ ap (λ o. unwrap_or o (length c.args.text.now)) c.leaf_end.ensures) ∙ front_is c.args.text.now
