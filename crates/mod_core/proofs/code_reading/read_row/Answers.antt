-- The row begins where the table tells, and at its end it has all the code.
use Rattle.std.proofs.Common.{◌≤◌, length, refl, sym, ◌∙◌, ⊎_elim}
use Rattle.std.proofs.lemmas.Bool.{cases_lt, false≢true}
use Rattle.std.proofs.lemmas.Result.{err_from_is_err_and}
use Rattle.mod_core.proofs.ReadRows.{first_row, told_place, whole_row}
use Rattle.mod_core.proofs.code_reading.read_row.Goals as goal

pub loop-alloc-init : goal.loop-alloc-init
loop-alloc-init c = λ m f h so_far.
    first_row c.args.words.now m c.args.number f h _ c.args.left so_far c.new.ensures.items c.new-2.ensures (c.told_place.ensures ∙ told_place c.args.words.now m c.args.number f h) refl

pub loop-alloc-preserved : goal.loop-alloc-preserved
loop-alloc-preserved c = λ m f h so_far.
    let r = c.loop-alloc.invariant m f h so_far in
    c.in_ok-read_next.ensures.reads m c.args.number f h r ((c.has_more.ensures.exact m f h r).0 c.loop-alloc-test.true)

pub returns-in_err-read_next : goal.returns-in_err-read_next
returns-in_err-read_next c =
    let p = err_from_is_err_and c.from_residual.result c.from_residual.ensures.1 in
    rw (p.1, p.2) (λ m f h so_far. let r = c.loop-alloc.invariant m f h so_far in c.in_err-read_next.ensures.reads m c.args.number f h r ((c.has_more.ensures.exact m f h r).0 c.loop-alloc-test.true))

pub returns : goal.returns
returns c = λ m f h so_far.
    let r = c.loop-alloc.invariant m f h so_far in
    let all : length f.code ≤ r.count = ⊎_elim (λ below. absurd (false≢true (sym c.loop-alloc-test.false ∙ (c.has_more.ensures.exact m f h r).1 below))) (λ past. past) (cases_lt r.count (length f.code)) in
    whole_row c.args.words.now m c.args.number f h c.loop-alloc.row _ r all refl c.in_ok-push.ensures.ok refl
