use Rattle.std.proofs.Common.{rules, subst, sym, arith}
use Rattle.std.proofs.lemmas.List.{take_rest}
use Rattle.outside.proofs.Written.{Written, Written-more, Written-less, Written-prefix, OnErr-of}
use Rattle.outside.proofs.transfer.write_whole.Goals as goal

-- a failed call takes nothing more
pub returns-in_err-count-clause-err : goal.returns-in_err-count-clause-err
returns-in_err-count-clause-err g c =
    let short = Written-prefix _ _ _ c.args.text.now c.pieces.rest.now (search rules) c.in_err-count.ensures.kept c.pieces.invariant.written in
    OnErr-of _ _ short

-- a call that took a piece leaves a shorter rest
pub pieces-preserved : goal.pieces-preserved
pieces-preserved g c =
    let count = c.in_ok-count.count in
    let rest = c.pieces.rest.now in
    let taken = c.in_ok-count.ensures in
    record {
      written = subst (Written _ _ _) (sym (take_rest rest count)) (Written-more _ _ _ _ rest count c.pieces.invariant.written taken.appended);
      later = omega (arith, c.pieces.invariant.later, taken.cause.later);
      no_call = λ same. absurd (Written-less _ _ _ rest count c.pieces.invariant.written taken.some taken.within same);
    }
