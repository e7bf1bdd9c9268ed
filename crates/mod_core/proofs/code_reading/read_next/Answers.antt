-- The next instruction of the function is the one that its words tell, and there is room for its constants.
use Rattle.std.proofs.Common.{◌≡◌, ◌++◌, [], ◌∷◌, ◌+◌, ◌∙◌, ap, sym, arith}
use Rattle.std.proofs.lemmas.Result.{err_from_is_err_and}
use Rattle.mod_core.specs.declared.code.Instr.{Instr}
use Rattle.mod_core.specs.ModuleImage.{constants_len, instr_constants, instr_len}
use Rattle.mod_core.proofs.ReadRows.{next_instr, next_room, next_row, next_told}
use Rattle.mod_core.proofs.code_reading.read_next.Goals as goal

pub returns-in_err-instr-clause-reads : goal.returns-in_err-instr-clause-reads
returns-in_err-instr-clause-reads c =
    let p = err_from_is_err_and c.from_residual.result c.from_residual.ensures.1 in
    rw (p.1, p.2) (λ m number f h r below. let told = next_told c.args.words.now m number f h c.args.row.now r below in c.in_err-instr.ensures told.a told.b told.are)

pub returns-in_err-row-clause-reads : goal.returns-in_err-row-clause-reads
returns-in_err-row-clause-reads c = λ m number f h r below.
    let told = next_told c.args.words.now m number f h c.args.row.now r below in
    let instr_is : c.in_ok-instr.instr ≡ next_instr c.args.words.now m number f h c.args.row.now r below = c.in_ok-instr.ensures told.a told.b told.are ∙ told.is in
    absurd (omega (arith, next_room c.args.words.now m number f h c.args.row.now r below, c.in_err-row.ensures.err, ap (λ i. constants_len (instr_constants i)) instr_is))

pub returns-clause-reads : goal.returns-clause-reads
returns-clause-reads c = λ m number f h r below.
    let told = next_told c.args.words.now m number f h c.args.row.now r below in
    let next : Instr = next_instr c.args.words.now m number f h c.args.row.now r below in
    let instr_is : c.in_ok-instr.instr ≡ next = c.in_ok-instr.ensures told.a told.b told.are ∙ told.is in
    next_row c.args.words.now m number f h c.args.row.now r below _
    (c.in_ok-push-2.ensures.items ∙ ap (λ i. c.args.row.now.instrs.items ++ i ∷ []) instr_is)
    c.in_ok-push.ensures.ok
    (ap (λ n. c.args.row.now.place + n) (c.instr_len.ensures ∙ ap instr_len instr_is))
    (ap (λ i. c.in_ok-row.field-0 + constants_len (instr_constants i)) (sym instr_is) ∙ c.in_ok-row.ensures.ok)
