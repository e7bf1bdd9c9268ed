use Rattle.std.proofs.Common.{◌∙◌}
use Rattle.std.proofs.lemmas.List.{with_items_is}
use Rattle.std.specs.Vec.{with_items}
use Rattle.observers.specs.Observing.{Observes}
use Rattle.word_run.specs.declared.onlooker.Onlooker.{Onlooker}
use Rattle.word_run.proofs.Rounding.{became_by, became_lent}
use Rattle.word_run.proofs.Watching.{all_lent}
use Rattle.word_run.proofs.looking.look_all.Goals as goal

-- they are lent as a slice
pub take_looks-requires-clause-observe : goal.take_looks-requires-clause-observe
take_looks-requires-clause-observe g c = λ κs within.
    all_lent (λ (o : Onlooker). Observes g.K.Naming.names c.args.functions.now c.args.shared.now.table.shared.table_id o.observer) c.args.onlookers.items c.deref_mut.result.now c.deref_mut.ensures.value c.requires.observe

-- each looked
pub returns : goal.returns
returns g c =
    became_lent _ c.args.onlookers.items c.deref_mut.result.now c.take_looks.new.onlookers (with_items c.args.onlookers c.take_looks.new.onlookers).items c.deref_mut.ensures.value
    (with_items_is c.args.onlookers c.take_looks.new.onlookers (c.take_looks.auto.onlookers ∙ c.deref_mut.ensures.len))
    (became_by _ c.deref_mut.result.now c.take_looks.new.onlookers c.take_looks.auto.onlookers c.take_looks.ensures)
