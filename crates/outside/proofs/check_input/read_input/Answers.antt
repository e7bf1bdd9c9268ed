-- The parts of an input are a script's and a report's.
use Rattle.std.proofs.Common.{◌≡◌, take, drop, sym, ap, ◌∙◌, arith}
use Rattle.outside.specs.Parting.{script_part, report_part}
use Rattle.outside.proofs.ReadParts.{on_ok, script_read, script_refused}
use Rattle.outside.proofs.ScriptParts.{part_within, taken_part}
use Rattle.outside.proofs.check_input.read_input.Goals as goal

pub split_at-requires : goal.split_at-requires
split_at-requires c = let within = part_within c.args.bytes.now in omega (arith, within, c.script_length.ensures)

pub read_behind-requires-clause-short : goal.read_behind-requires-clause-short
read_behind-requires-clause-short c =
    let len = c.split_at.ensures.back_len in
    omega (arith, len, c.requires)

pub returns-in-Ok : goal.returns-in-Ok
returns-in-Ok c =
    let bytes = c.args.bytes.now in
    let front : c.split_at.result.0.now ≡ script_part bytes = c.split_at.ensures.front ∙ ap (λ n. take n bytes) c.script_length.ensures ∙ taken_part bytes in
    let behind : c.split_at.result.1.now ≡ report_part bytes = c.split_at.ensures.back ∙ ap (λ n. drop n bytes) c.script_length.ensures in
    on_ok _ _ c.read_behind.result
    (λ a h. h bytes (script_read bytes _ c.in-Ok.script front c.in-Ok.ensures.found (λ other t. sym (c.in-Ok.ensures.only other t)) c.in-Ok.ensures.refused) (sym behind))
    c.read_behind.ensures

pub returns-in-Err : goal.returns-in-Err
returns-in-Err c =
    let bytes = c.args.bytes.now in
    let front : c.split_at.result.0.now ≡ script_part bytes = c.split_at.ensures.front ∙ ap (λ n. take n bytes) c.script_length.ensures ∙ taken_part bytes in
    script_refused bytes _ c.in-Err.fault front c.in-Err.ensures.fault c.in-Err.ensures.only
