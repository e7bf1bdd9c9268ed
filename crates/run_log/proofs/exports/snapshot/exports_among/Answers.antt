use Rattle.std.proofs.Common.{◌∙◌, ◌++◌, [], ◌∷◌, append-nil, sym, ap, get_or, Option, option_map, take}
use Rattle.std.specs.Option.{option_to_list}
use Rattle.term_core.specs.declared.area.CodeRef.{CodeRef}
use Rattle.run_log.specs.SeenExports.{exports_among}
use Rattle.run_log.proofs.StateExports.{no_function, one_more}
use Rattle.run_log.proofs.exports.snapshot.exports_among.Goals.{in-Some+in_ok-push, in_default}
use Rattle.run_log.proofs.exports.snapshot.exports_among.Goals as goal

-- the next function joins where it is exported
pub loop-to-preserved : goal.loop-to-preserved
loop-to-preserved c =
    let functions = c.as_slice-to-items.result.now in
    let to = get_or functions c.loop-to.to-index no_function in
    let before = exports_among c.args.server.now (take c.loop-to.to-index functions) in
    let more = one_more c.args.server.now functions c.loop-to.to-index no_function c.dispatch.result c.loop-to-test.true c.dispatch.ensures.value in
    elim c.match-dispatch.branch [
      | in-Some+in_ok-push w ↦
          w.exports-is
          ∙ w.in_ok-push.ensures.ok
          ∙ ap (λ exports. exports ++ (to, w.in-Some.at.area.serial) ∷ []) c.loop-to.invariant
          ∙ ap (λ (o : Option CodeRef). before ++ option_to_list (option_map (λ a. (to, a.area.serial)) o)) (sym w.in-Some.is)
          ∙ sym more
      | in_default w ↦
          w.exports-is
          ∙ c.loop-to.invariant
          ∙ sym (append-nil before)
          ∙ ap (λ (o : Option CodeRef). before ++ option_to_list (option_map (λ a. (to, a.area.serial)) o)) (sym w.in_default.is)
          ∙ sym more
    ]
