use Rattle.std.proofs.Common.{◌≡◌, ◌∙◌, ap, subst, rules}
use Rattle.std.proofs.lemmas.List.{take_all}
use Rattle.std.proofs.lemmas.Fn.{always_returns_same, dedup_same}
use Rattle.std.specs.List.{flat_map}
use Rattle.std.specs.List.Sorted.{IsPermutation}
use Rattle.std.specs.Ordering.{eq_by_cmp, is_lt}
use Rattle.run_log.specs.Snapshots.{mfa_cmp}
use Rattle.run_log.specs.ExportedFunctions.{exports_in}
use Rattle.run_log.proofs.SortedFunctions.{functions_are, mfa_lt_ranks}
use Rattle.run_log.proofs.exports.functions.exported_functions.Goals as goal

-- the exports of all modules, sorted and each once
pub returns : goal.returns
returns c =
    let names = c.args.script.now.names in
    let modules = c.as_slice-module-items.result.now in
    let all : c.loop-module.functions.items ≡ flat_map exports_in c.args.script.now.modules =
    c.loop-module.invariant ∙ ap (flat_map exports_in) (take_all c.loop-module.module-index modules c.loop-module-test.false ∙ c.as_slice-module-items.ensures) in
    functions_are c.args.script.now c.sort_unstable_by.new.self.items c.from_vec.result c.requires (subst (λ fs. IsPermutation fs c.sort_unstable_by.new.self.items) all c.sort_unstable_by.ensures.permutation)
    (c.sort_unstable_by.ensures.sorted (λ f g. is_lt (mfa_cmp names f g)) (mfa_lt_ranks names) (always_returns_same _ _ _ (λ a r f' k. search rules)))
    (c.from_vec.ensures ∙ dedup_same _ (eq_by_cmp (mfa_cmp names)) _ (λ x y b f' x' y' k. search rules) _ _ c.dedup_by.ensures.filtered)
