-- The table is built anew bucket by bucket.
use Rattle.std.proofs.Common.{◌≡◌, ℕ, ◌+◌, sym, subst, arith}
use Rattle.term_table.proofs.Renewing.{IsRebuilt, rebuilt_none, has_room, step_new, step_empty, step_gone, step_more, rebuilt_all}
use Rattle.term_table.proofs.rebuilding.without.Goals as goal
use Rattle.term_table.proofs.rebuilding.without.Goals.{then-key-ne0+then-key-from, else-key-ne0, else-key-ne0-via-then-key-ne0+else-key-from, else-key-ne0-via-else-key-ne0}

pub loop-bucket-init : goal.loop-bucket-init
loop-bucket-init c = rebuilt_none c.args.held.now c.args.gone.0 c.no_buckets-built.result c.no_buckets-built.ensures.whole c.no_buckets-built.ensures.empty

pub insert-requires-clause-new : goal.insert-requires-clause-new
insert-requires-clause-new c =
    let held = c.from.ensures in
    let test = c.if-key-from.true in
    step_new c.args.held.now c.args.gone.0 c.requires.built c.loop-bucket.bucket c.loop-bucket-test.true c.loop-bucket.built c.loop-bucket.invariant c.key_in-key.result c.key_in-key.ensures
    c.if-key-ne0.true (λ same. omega (arith, held, test, same))

pub insert-requires-clause-room : goal.insert-requires-clause-room
insert-requires-clause-room c = has_room c.args.held.now c.args.gone.0 c.requires.built.built c.loop-bucket.bucket c.loop-bucket-test.true c.loop-bucket.built c.loop-bucket.invariant

pub loop-bucket-preserved : goal.loop-bucket-preserved
loop-bucket-preserved c =
    elim c.if-key-ne0.branch [
      | then-key-ne0+then-key-from w ↦ (
          let held = w.from.ensures in
          let test = w.if-key-from.true in
          subst (IsRebuilt c.args.held.now c.args.gone.0 (c.loop-bucket.bucket + 1)) (sym w.built-is)
          (step_more c.args.held.now c.args.gone.0 c.requires.built c.loop-bucket.bucket c.loop-bucket-test.true c.loop-bucket.built c.loop-bucket.invariant c.key_in-key.result c.key_in-key.ensures
          w.if-key-ne0.true (λ same. omega (arith, held, test, same)) w.value_in.result w.insert.new.self w.value_in.ensures w.insert.ensures))
      | else-key-ne0 w ↦
          subst (IsRebuilt c.args.held.now c.args.gone.0 (c.loop-bucket.bucket + 1)) (sym w.built-is)
          (elim w.else-key-ne0.branch [
            | else-key-ne0-via-then-key-ne0+else-key-from w' ↦ (
                let held = w'.from.ensures in
                let test = w'.if-key-from.false in
                step_gone c.args.held.now c.args.gone.0 c.requires.built c.loop-bucket.bucket c.loop-bucket-test.true c.loop-bucket.built c.loop-bucket.invariant c.key_in-key.result c.key_in-key.ensures (omega (arith, held, test)))
            | else-key-ne0-via-else-key-ne0 w' ↦ (
                let test = w'.if-key-ne0.false in
                step_empty c.args.held.now c.args.gone.0 c.requires.built c.loop-bucket.bucket c.loop-bucket-test.true c.loop-bucket.built c.loop-bucket.invariant c.key_in-key.result c.key_in-key.ensures (omega (arith, test)))
          ])
    ]

pub returns : goal.returns
returns c =
    let most = c.loop-bucket.auto.bucket-end in
    let over = c.loop-bucket-test.false in
    let end : c.loop-bucket.bucket ≡ 512 = omega (arith, most, over) in
    rebuilt_all c.args.held.now c.loop-bucket.built c.args.gone (subst (λ (n : ℕ). IsRebuilt c.args.held.now c.args.gone.0 n c.loop-bucket.built) end c.loop-bucket.invariant)
