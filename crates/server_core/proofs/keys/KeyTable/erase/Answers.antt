-- The map after the removal, what it shows, and how many areas it counts.
use Rattle.std.proofs.Common.{ap, map, nat_eq, option_and_then, sym, ◌∙◌, arith}
use Rattle.std.specs.Map.{lookup}
use Rattle.server_core.specs.CommandTable.{without_key}
use Rattle.server_core.specs.KeyTable.{persistent_in}
use Rattle.server_core.proofs.KeyEntries.{count_erased, erased_persistents, former_shown}
use Rattle.server_core.proofs.keys.KeyTable.erase.Goals as goal

pub returns-clause-former : goal.returns-clause-former
returns-clause-former c =
    former_shown c.self.inside.held.entries c.args.self.now.persistents c.args.key.0 c.area_of-former.result (ap (λ r. r.persistents) c.self.view_is) (c.area_of-former.ensures ∙ ap (option_and_then (λ h. h.area)) c.shift_remove.ensures.value)

pub returns-clause-persistents : goal.returns-clause-persistents
returns-clause-persistents c =
    ap (map persistent_in) c.shift_remove.ensures.entries ∙ erased_persistents c.self.inside.held.entries c.args.key.0 (sym (ap (lookup (nat_eq c.args.key.0)) c.shift_remove.ensures.entries) ∙ c.shift_remove.ensures.updates.1)
    ∙ ap (λ r. without_key c.args.key.0 r.persistents) c.self.view_is

pub overflow_sub-self : goal.overflow_sub-self
overflow_sub-self c =
    let count = count_erased c.self.inside.held.entries c.shift_remove.new.self.entries c.args.key.0 c.self.inside.areas c.area_of-former.result c.self.invariant (c.area_of-former.ensures ∙ ap (option_and_then (λ h. h.area)) c.shift_remove.ensures.value) c.shift_remove.ensures.entries in
    omega (arith, count, c.count_of.ensures)

pub invariant_of-self : goal.invariant_of-self
invariant_of-self c =
    let count = count_erased c.self.inside.held.entries c.shift_remove.new.self.entries c.args.key.0 c.self.inside.areas c.area_of-former.result c.self.invariant (c.area_of-former.ensures ∙ ap (option_and_then (λ h. h.area)) c.shift_remove.ensures.value) c.shift_remove.ensures.entries in
    omega (arith, count, c.count_of.ensures)
