-- The key is staged, or it is waited for; there is always room for it.
use Rattle.std.proofs.Common.{refl, sym, ap, ◌∙◌}
use Rattle.std.specs.Prelude.{Err}
use Rattle.shared_words.specs.declared.view.WriterView.{WriterView}
use Rattle.progress_words.specs.Roots.{newest_of}
use Rattle.progress_words.specs.Tokens.{written_by}
use Rattle.staging.proofs.KeyStaged.{newest_keys}
use Rattle.staging.proofs.Known.{known_loaded, known_on, known_words}
use Rattle.staging.proofs.Lateness.{late_key}
use Rattle.staging.proofs.StagedEnds.{former_is, never_full, never_none, placed_waited, tables_waited}
use Rattle.staging.proofs.StagedKey.{has_word}
use Rattle.staging.proofs.StagedTables.{have_keyed, tables_staged}
use Rattle.staging.proofs.keying.stage_key.Goals as goal

pub key_change-requires : goal.key_change-requires
key_change-requires g c = has_word g.K.Naming.names c.args.server.now c.requires.placed.rest c.args.tables.now.pools (written_by c.args.tables.now.writer) c.args.change.now c.args.areas.now c.requires.fits c.requires.placed.placed

pub unreachable-requires : goal.unreachable-requires
unreachable-requires g c = never_none c.args.change.now c.args.areas.now c.requires.key c.requires.whole (sym c.in_default.ensures)

pub awaited-requires : goal.awaited-requires
awaited-requires g c = λ is.
    let full = c.in-Err.ensures.full.0 (ap Err is) in
    never_full g.K.Naming.names c.args.server.now (newest_of (written_by c.args.tables.now.writer)) (newest_keys g.K.Naming.names c.args.server.now (newest_of (written_by c.args.tables.now.writer)) c.requires.placed.stands.newest_is)
    c.args.change.now c.args.areas.now c.in-Some.staged c.requires.fits (sym c.in-Some.ensures) full.0 full.1

pub returns-in-Ok-clause-tables : goal.returns-in-Ok-clause-tables
returns-in-Ok-clause-tables g c =
    tables_staged _ _ c.args.tables.now _ c.in-Some.staged c.counters_keep_index.ensures c.writes_keep_index.ensures c.counters_keep_pools.ensures c.requires.tables c.stage_copy.ensures.token c.stage_copy.ensures.owned c.in-Ok.ensures.staged refl refl refl

pub returns-in-Ok-clause-published : goal.returns-in-Ok-clause-published
returns-in-Ok-clause-published g c =
    let has = c.in-Ok.ensures.staged in
    ap (λ (w : WriterView). w.published) has.same ∙ ap (λ (w : WriterView). w.published) has.loaded.view

pub returns-in-Ok-clause-known : goal.returns-in-Ok-clause-known
returns-in-Ok-clause-known g c =
    let has = c.in-Ok.ensures.staged in
    known_on (written_by c.args.tables.now.writer) has.waited _ (known_loaded (written_by c.args.tables.now.writer) has.waited has.loaded) (known_words has.waited _ has.same)

pub returns-in-Ok-clause-keyed : goal.returns-in-Ok-clause-keyed
returns-in-Ok-clause-keyed g c =
    have_keyed _ _ c.args.tables.now _ c.in-Some.staged c.counters_keep_index.ensures c.writes_keep_index.ensures c.counters_keep_pools.ensures c.requires.tables c.stage_copy.ensures.token c.stage_copy.ensures.owned c.in-Ok.ensures.staged refl refl refl
    g.K.Naming.names c.args.server.now c.args.change.now c.args.areas.now c.requires.placed c.requires.whole (sym c.in-Some.ensures) c.in-Ok.ensures.stands

pub returns-in-Ok-clause-former : goal.returns-in-Ok-clause-former
returns-in-Ok-clause-former g c = former_is c.args.server.now c.args.change.now c.args.areas.now c.in-Some.staged c.changed_key.result.0 (sym c.in-Some.ensures) c.changed_key.ensures

pub returns-in-Err-clause-tables : goal.returns-in-Err-clause-tables
returns-in-Err-clause-tables g c =
    let waits = c.in-Err.ensures.not_yet c.awaited.result (ap Err c.awaited.ensures) in
    tables_waited _ _ c.args.tables.now _ c.counters_keep_index.ensures c.counters_keep_pools.ensures c.requires.tables c.stage_copy.ensures.token c.stage_copy.ensures.owned waits.loaded refl refl refl

pub returns-in-Err-clause-published : goal.returns-in-Err-clause-published
returns-in-Err-clause-published g c =
    let waits = c.in-Err.ensures.not_yet c.awaited.result (ap Err c.awaited.ensures) in
    ap (λ (w : WriterView). w.published) waits.loaded.view

pub returns-in-Err-clause-known : goal.returns-in-Err-clause-known
returns-in-Err-clause-known g c =
    let waits = c.in-Err.ensures.not_yet c.awaited.result (ap Err c.awaited.ensures) in
    known_loaded (written_by c.args.tables.now.writer) _ waits.loaded

pub returns-in-Err-clause-placed : goal.returns-in-Err-clause-placed
returns-in-Err-clause-placed g c =
    let waits = c.in-Err.ensures.not_yet c.awaited.result (ap Err c.awaited.ensures) in
    placed_waited g.K.Naming.names c.args.server.now c.args.change.now c.args.tables.now _ c.args.areas.now waits.loaded c.in-Err.ensures.err refl refl c.requires.placed

pub returns-in-Err-clause-late : goal.returns-in-Err-clause-late
returns-in-Err-clause-late g c =
    let waits = c.in-Err.ensures.not_yet c.awaited.result (ap Err c.awaited.ensures) in
    let tables =
    tables_waited _ _ c.args.tables.now (record c.args.tables.now { writer = c.stage_copy.new.writer; terms = c.stage_copy.new.self }) c.counters_keep_index.ensures c.counters_keep_pools.ensures c.requires.tables c.stage_copy.ensures.token c.stage_copy.ensures.owned waits.loaded refl refl refl in
    late_key c.args.change.now c.args.tables.now (record c.args.tables.now { writer = c.stage_copy.new.writer; terms = c.stage_copy.new.self }) c.awaited.result c.requires.key c.in-Err.ensures.err waits tables.index.staged
