-- A look takes one snapshot, where one is lacking.
use Rattle.std.proofs.Common.{◌≡◌, ℕ, ◌+◌, ◌-◌, arith}
use Rattle.observers.specs.declared.observer.Observer.{Observer}
use Rattle.observers.proofs.Seeing.{looked_one, nothing_lacking, observes_more, takes_one}
use Rattle.observers.proofs.observer.Observer.look.Goals as goal

pub returns-then-self-eq0-clause-looked : goal.returns-then-self-eq0-clause-looked
returns-then-self-eq0-clause-looked g c = nothing_lacking g.K.Naming.names c.args.self.now c.if-self-eq0.true

pub returns-clause-observes : goal.returns-clause-observes
returns-clause-observes g c =
    let new : Observer = record { watcher = c.snapshot-shot.new.watcher; left = c.args.self.now.left - 1; shots = c.push.new.self } in
    observes_more g.K.Naming.names c.args.functions.now c.args.shared.now.table.shared.table_id c.args.self.now new c.snapshot-shot.result c.requires.observes c.snapshot-shot.ensures.seen c.in_ok-push.ensures.ok c.snapshot-shot.ensures.token c.snapshot-shot.ensures.idle

pub returns-clause-looked : goal.returns-clause-looked
returns-clause-looked g c =
    let new : Observer = record { watcher = c.snapshot-shot.new.watcher; left = c.args.self.now.left - 1; shots = c.push.new.self } in
    looked_one g.K.Naming.names c.args.self.now new
    (takes_one g.K.Naming.names c.args.functions.now c.args.shared.now.table.shared.table_id c.args.self.now new c.snapshot-shot.result c.requires.observes c.snapshot-shot.ensures.seen c.in_ok-push.ensures.ok (one_less c.args.self.now.left c.if-self-eq0.false))
  where
    one_less : (n : ℕ) → (n ≡ 0 → ⊥) → n ≡ (n - 1) + 1
    one_less n some = omega (arith, some)
