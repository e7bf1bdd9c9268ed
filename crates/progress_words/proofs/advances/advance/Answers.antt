use Rattle.std.proofs.Common.{◌∙◌, arith}
use Rattle.shared_words.specs.Seats.{member_of}
use Rattle.progress_words.specs.Tokens.{view_of}
use Rattle.progress_words.proofs.Tokens.{view_is}
use Rattle.progress_words.proofs.Slots.{slots_looked, slots_delayed, slots_raised}
use Rattle.progress_words.proofs.Raising.{counter_view, leads_loaded, leads_looked, still_leader, fresh_leader, may_raise_found, still_leads, told_delayed, told_raised}
use Rattle.progress_words.proofs.advances.advance.Goals as goal

-- who has loaded the counter still leads
pub returns-then-counter-eq-LAST_VALUE-clause-leads :
    goal.returns-then-counter-eq-LAST_VALUE-clause-leads
returns-then-counter-eq-LAST_VALUE-clause-leads g c =
    let load = c.load_counter-counter in
    still_leader load.result _ (leads_loaded load.result _ _ c.requires.token.view c.requires.leads load.ensures.view)

-- and knows the counter
pub first_behind-requires-clause-leads : goal.first_behind-requires-clause-leads
first_behind-requires-clause-leads g c =
    let load = c.load_counter-counter in
    leads_loaded load.result _ _ c.requires.token.view c.requires.leads load.ensures.view

-- who has looked at members still leads
pub returns-in-Some-clause-leads : goal.returns-in-Some-clause-leads
returns-in-Some-clause-leads g c =
    let load = c.load_counter-counter in
    let before = leads_loaded load.result _ _ c.requires.token.view c.requires.leads load.ensures.view in
    still_leader load.result _ (leads_looked c.args.shared.now.table.shared.key.members load.result _ _ _ before c.first_behind.ensures.found)

-- and looks at the delay
pub delays-count-requires-clause-leads : goal.delays-count-requires-clause-leads
delays-count-requires-clause-leads g c =
    let load = c.load_counter-counter in
    leads_looked c.args.shared.now.table.shared.key.members load.result _ _ _ (leads_loaded load.result _ _ c.requires.token.view c.requires.leads load.ensures.view) c.first_behind.ensures.found

-- a watcher delays the counter
pub returns-then-count-gt0-clause-leads : goal.returns-then-count-gt0-clause-leads
returns-then-count-gt0-clause-leads g c =
    let load = c.load_counter-counter in
    still_leader load.result (view_of c.delays-count.new.member)
    (still_leads c.args.shared.now.table.shared.key load.result c.delays-count.result (view_of c.args.member.now) (member_of load.new.pass.seat.me.0) (view_of c.first_behind.new.member) (view_of c.delays-count.new.member) c.first_behind.result c.requires.leads
    (counter_view load.result _ _ c.requires.token.view load.ensures.view) c.first_behind.ensures.found c.in_default.is c.delays-count.ensures.view)

pub returns-then-count-gt0-clause-looked : goal.returns-then-count-gt0-clause-looked
returns-then-count-gt0-clause-looked g c =
    let load = c.load_counter-counter in
    told_delayed c.args.shared.now.table.shared.key load.result c.delays-count.result (view_of c.args.member.now) (member_of load.new.pass.seat.me.0) (view_of c.first_behind.new.member) (view_of c.delays-count.new.member) c.first_behind.result c.requires.leads
    (counter_view load.result _ _ c.requires.token.view load.ensures.view) c.first_behind.ensures.found c.in_default.is c.delays-count.ensures.view
    (let range = load.ensures.range in omega (arith, c.if-counter-eq-LAST_VALUE.false)) load.ensures.range (omega (arith, c.if-count-gt0.true))

pub returns-then-count-gt0-clause-slots : goal.returns-then-count-gt0-clause-slots
returns-then-count-gt0-clause-slots g c =
    slots_delayed c.delays-count.result (view_of c.first_behind.new.member) (view_of c.delays-count.new.member) c.delays-count.ensures.view ∙ slots_looked _ _ _ _ _ _ c.requires.token.view c.load_counter-counter.ensures.view c.first_behind.ensures.found

-- all are done, and no watcher delays the counter
pub store_counter-requires-clause-may : goal.store_counter-requires-clause-may
store_counter-requires-clause-may g c =
    let load = c.load_counter-counter in
    let before = leads_loaded load.result _ _ c.requires.token.view c.requires.leads load.ensures.view in
    let range = load.ensures.range in
    may_raise_found c.args.shared.now.table.shared.key load.result c.delays-count.result (member_of load.new.pass.seat.me.0) (view_of c.first_behind.new.member) (view_of c.delays-count.new.member) c.first_behind.result before c.args.shared.now.few (omega (arith, c.if-counter-eq-LAST_VALUE.false))
    c.first_behind.ensures.found c.in_default.is c.delays-count.ensures.view (omega (arith, c.if-count-gt0.false))

-- who has raised the counter leads, and has scanned nothing
pub returns-clause-leads : goal.returns-clause-leads
returns-clause-leads g c =
    let load = c.load_counter-counter in
    let after = still_leads c.args.shared.now.table.shared.key load.result c.delays-count.result (view_of c.args.member.now) (member_of load.new.pass.seat.me.0) (view_of c.first_behind.new.member) (view_of c.delays-count.new.member) c.first_behind.result c.requires.leads
    (counter_view load.result _ _ c.requires.token.view load.ensures.view) c.first_behind.ensures.found c.in_default.is c.delays-count.ensures.view in
    fresh_leader (view_of c.delays-count.new.member) (view_of c.store_counter.new.member) after.awake (view_is c.store_counter.new.member.seat _ c.store_counter.ensures.view)

pub returns-clause-looked : goal.returns-clause-looked
returns-clause-looked g c =
    let load = c.load_counter-counter in
    told_raised c.args.shared.now.table.shared.key load.result c.delays-count.result (view_of c.args.member.now) (member_of load.new.pass.seat.me.0) (view_of c.first_behind.new.member) (view_of c.delays-count.new.member) c.first_behind.result c.requires.leads
    (counter_view load.result _ _ c.requires.token.view load.ensures.view) c.first_behind.ensures.found c.in_default.is c.delays-count.ensures.view
    (let range = load.ensures.range in omega (arith, c.if-counter-eq-LAST_VALUE.false)) load.ensures.range (view_of c.store_counter.new.member) (omega (arith, c.if-count-gt0.false)) (view_is c.store_counter.new.member.seat _ c.store_counter.ensures.view)

-- who has looked has the slots that it had
pub returns-in-Some-clause-slots : goal.returns-in-Some-clause-slots
returns-in-Some-clause-slots g c = slots_looked _ _ _ _ _ _ c.requires.token.view c.load_counter-counter.ensures.view c.first_behind.ensures.found

-- so has who has raised the counter
pub returns-clause-slots : goal.returns-clause-slots
returns-clause-slots g c =
    slots_raised (view_of c.delays-count.new.member) _ c.store_counter.ensures.view ∙ slots_delayed c.delays-count.result (view_of c.first_behind.new.member) (view_of c.delays-count.new.member) c.delays-count.ensures.view
    ∙ slots_looked _ _ _ _ _ _ c.requires.token.view c.load_counter-counter.ensures.view c.first_behind.ensures.found
