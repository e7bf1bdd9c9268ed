-- What is staged is the next generation's, which is published.
use Rattle.std.proofs.Common.{◌≡◌, ℕ, suc, ◌+◌, ◌*◌, [], sym, subst, arith}
use Rattle.area_core.specs.declared.table.Published.{Published}
use Rattle.area_core.specs.Step.{empty_generation}
use Rattle.progress_words.specs.Tokens.{written_by}
use Rattle.progress_words.specs.Roots.{newest_of}
use Rattle.term_table.specs.declared.change.Change.TheVariants.{Put}
use Rattle.term_table.specs.Keys.{ChangesTo}
use Rattle.term_table.specs.Tables.{Stages}
use Rattle.term_table.specs.Staged.{HasStaged}
use Rattle.term_table.specs.Published.{MayPublishTerms, HasPublished, restaged}
use Rattle.area_tests.specs.Keyed.{keys_to, HasKeys}
use Rattle.area_tests.proofs.Keyed.{keys_staged, stages_next, counted_next, may_publish_next, keys_next}
use Rattle.area_tests.proofs.keys.add_key.Goals as goal

pub publish-requires-clause-next : goal.publish-requires-clause-next
publish-requires-clause-next c =
    let n = c.args.count in
    let t = c.args.tables.now in
    let u = c.stage_copy.new.self in
    let old = written_by c.args.writer.now in
    let new = written_by c.stage_copy.new.writer in
    let staged = subst (λ (x : ℕ). HasStaged (Put (record { 0 = n }) (x * 16 + 15)) t u old new) c.from.ensures c.in-Ok.ensures.staged in
    let stands = subst (λ (x : ℕ). (q : Published) → ChangesTo (Put (record { 0 = n }) (x * 16 + 15)) (newest_of old) q → Stages u q new) c.from.ensures c.in-Ok.ensures.stands in
    let more : suc n ≡ n + 1 = omega (arith) in
    let any : Published → Type 0 = λ p. Unit {0} in
    subst (λ (m : ℕ). MayPublishTerms any u new (restaged new (record empty_generation { keys = keys_to m }) [])) more
    (may_publish_next n new (keys_staged n t u old new c.requires.keys c.requires.owned staged) any u tt (stages_next n t u old new c.requires.keys c.requires.owned staged stands) (counted_next n t u old new c.requires.keys c.requires.owned staged))

pub returns-in-Ok-clause-keys : goal.returns-in-Ok-clause-keys
returns-in-Ok-clause-keys c = λ _.
    let n = c.args.count in
    let u = c.stage_copy.new.self in
    let old = written_by c.args.writer.now in
    let new = written_by c.stage_copy.new.writer in
    let last = written_by c.publish.new.writer in
    let staged = subst (λ (x : ℕ). HasStaged (Put (record { 0 = n }) (x * 16 + 15)) c.args.tables.now u old new) c.from.ensures c.in-Ok.ensures.staged in
    let more : suc n ≡ n + 1 = omega (arith) in
    let published = subst (λ (m : ℕ). HasPublished u c.publish.new.self (restaged new (record empty_generation { keys = keys_to m }) []) new last c.publish.result) (sym more) c.publish.ensures.published in
    subst (λ (m : ℕ). HasKeys m last) more (keys_next n new (keys_staged n c.args.tables.now u old new c.requires.keys c.requires.owned staged) u c.publish.new.self last c.publish.result published)
