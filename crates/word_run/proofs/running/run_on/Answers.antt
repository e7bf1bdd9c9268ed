use Rattle.std.proofs.Common.{[], length, sym, ap, ◌∙◌, arith}
use Rattle.log_forms.proofs.SaidLogs.{well_formed}
use Rattle.log_forms.proofs.ShortJournals.{fits_of}
use Rattle.word_run.specs.Beginning.{exports_after}
use Rattle.word_run.proofs.Made.{begins_run}
use Rattle.word_run.proofs.Watching.{waiting_observe}
use Rattle.word_run.proofs.running.run_on.Goals as goal

-- the names are those of the functions
pub run_named-requires-clause-names : goal.run_named-requires-clause-names
run_named-requires-clause-names g c κs within = c.requires.names c.in_ok-functions.functions c.in_ok-functions.ensures

-- the table has them
pub run_named-requires-clause-exports : goal.run_named-requires-clause-exports
run_named-requires-clause-exports g c κs within =
    c.in_ok-exports.ensures ∙ ap (exports_after []) c.as_slice.ensures ∙ sym (c.requires.names c.in_ok-functions.functions c.in_ok-functions.ensures)

-- the words are new
pub run_named-requires-clause-writer : goal.run_named-requires-clause-writer
run_named-requires-clause-writer g c κs within = begins_run _ _ _ c.args.parts.writer c.requires.writer c.args.script.now c.requires.token

-- there is a watcher for each observer
pub open_onlookers-requires : goal.open_onlookers-requires
open_onlookers-requires g c = omega (arith, ap length c.as_slice-2.ensures, c.requires.enough, c.requires.watchers.all)

-- they may look
pub run_named-requires-clause-onlookers : goal.run_named-requires-clause-onlookers
run_named-requires-clause-onlookers g c κs within =
    waiting_observe g.K.Naming.names c.in_ok-functions.functions c.args.shared.table.shared.table_id c.observers_begin.ensures c.args.shared.table.shared.key.watchers c.args.parts.watchers.items c.requires.watchers
    c.args.script.now.observers c.as_slice-2.result.now c.as_slice-2.ensures c.requires.enough c.in_ok-onlookers.onlookers.items c.in_ok-onlookers.ensures

pub returns-clause-legal : goal.returns-clause-legal
returns-clause-legal g c = c.in_ok-ran.ensures.history.legal

pub returns-clause-whole : goal.returns-clause-whole
returns-clause-whole g c = c.in_ok-ran.ensures.history.whole

pub returns-clause-closes : goal.returns-clause-closes
returns-clause-closes g c = c.in_ok-ran.ensures.history.closes

-- a report can show it: its numbers fit, since its journal stands in memory
pub returns-clause-formed : goal.returns-clause-formed
returns-clause-formed g c =
    let s = c.args.script.now in
    let log = c.in_ok-ran.ran.log in
    let history = c.in_ok-ran.ensures.history in
    well_formed s c.requires.script log history.legal (fits_of s log c.entry_count-entries.ensures.short) history.whole
