-- The map after the insertion, what it shows, and how many areas it counts.
use Rattle.std.proofs.Common.{ap, map, option_and_then, ◌∙◌, arith}
use Rattle.term_core.specs.Plain.{plain}
use Rattle.server_core.specs.CommandTable.{with_key}
use Rattle.server_core.specs.KeyTable.{persistent_in}
use Rattle.server_core.proofs.KeyEntries.{count_put, former_shown, put_persistents}
use Rattle.server_core.proofs.keys.KeyTable.put.Goals as goal

pub returns-clause-former : goal.returns-clause-former
returns-clause-former c =
    let found = rw c.unwrap.ensures at c.insert.ensures.old in
    former_shown c.self.inside.held.entries c.args.self.now.persistents c.args.key.0 c.area_of-former.result (ap (λ r. r.persistents) c.self.view_is) (c.area_of-former.ensures ∙ ap (option_and_then (λ h. h.area)) found)

pub returns-clause-persistents : goal.returns-clause-persistents
returns-clause-persistents c =
    let put = rw c.unwrap.ensures at c.insert.ensures.entries in
    ap (map persistent_in) put ∙ put_persistents c.self.inside.held.entries c.args.key.0 (record { term = c.args.term; area = c.args.area })
    ∙ ap (λ r. with_key r.persistents (record { key = c.args.key.0; term = plain c.args.term; area = c.args.area })) c.self.view_is

pub overflow_sub-self : goal.overflow_sub-self
overflow_sub-self c =
    let put = rw c.unwrap.ensures at c.insert.ensures.entries in
    let found = rw c.unwrap.ensures at c.insert.ensures.old in
    let count = count_put c.self.inside.held.entries c.insert.new.self.entries c.args.key.0 (record { term = c.args.term; area = c.args.area }) c.self.inside.areas c.area_of-former.result c.self.invariant (c.area_of-former.ensures ∙ ap (option_and_then (λ h. h.area)) found) put in
    omega (arith, count, c.count_of.ensures, c.count_of-2.ensures)

pub invariant_of-self : goal.invariant_of-self
invariant_of-self c =
    let put = rw c.unwrap.ensures at c.insert.ensures.entries in
    let found = rw c.unwrap.ensures at c.insert.ensures.old in
    let count = count_put c.self.inside.held.entries c.insert.new.self.entries c.args.key.0 (record { term = c.args.term; area = c.args.area }) c.self.inside.areas c.area_of-former.result c.self.invariant (c.area_of-former.ensures ∙ ap (option_and_then (λ h. h.area)) found) put in
    omega (arith, count, c.count_of.ensures, c.count_of-2.ensures)
