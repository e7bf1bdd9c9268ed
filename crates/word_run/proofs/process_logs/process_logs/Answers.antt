use Rattle.std.proofs.Common.{◌≡◌, ℕ, ◌<◌, ◌%◌, length, refl, subst, arith}
use Rattle.std.proofs.lemmas.Nat.{mod_below}
use Rattle.std.proofs.lemmas.Option.{slice_get_read}
use Rattle.script_core.specs.Processes.{spawns_of}
use Rattle.word_run.specs.Finished.{AreLogged}
use Rattle.word_run.proofs.Logging.{logged_on, none_logged}
use Rattle.word_run.proofs.process_logs.process_logs.Goals as goal

-- none yet
pub loop-number-init : goal.loop-number-init
loop-number-init c = none_logged c.args.processes.items _ c.new-logs.ensures

-- one more
pub loop-number-preserved : goal.loop-number-preserved
loop-number-preserved c =
    let places = c.args.processes.items in
    let now = c.loop-number.processes.items in
    let homes = c.len-homes.result in
    let many : homes ≡ length places = omega (arith, c.len-homes.ensures, c.args.processes.ok.0) in
    let some : 0 < homes = omega (arith, many, c.requires.some) in
    let low : c.loop-number.number % homes < length now = omega (arith, mod_below c.loop-number.number homes some, many, c.loop-number.invariant.same) in
    logged_on places now _ homes c.loop-number.number c.loop-number.logs _ c.in_ok-log.log c.index_mut.result.now c.taken_log.new.places many c.loop-number.invariant
    (slice_get_read now _ (c.loop-number.number % homes) c.index_mut.result.now refl low c.index_mut.ensures.value)
    c.in_ok-log.ensures.log c.taken_log.ensures.places refl c.in_ok-push.ensures.ok

-- all
pub returns : goal.returns
returns c =
    let all : c.loop-number.number ≡ length (spawns_of 0 c.args.script.now.loaders) = omega (arith, c.count_spawns-number-end.ensures, c.loop-number.auto.number-end, c.loop-number-test.false) in
    subst (λ (n : ℕ). AreLogged c.args.processes.items n c.loop-number.logs) all c.loop-number.invariant.logged
