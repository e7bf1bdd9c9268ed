-- The patch may come to its next phase, and what each answer leaves.
use Rattle.std.proofs.Common.{refl}
use Rattle.std.specs.Prelude.{Some}
use Rattle.staging.proofs.PatchPhases.{unpublished_unfinished}
use Rattle.staging.proofs.TraceSteps.{advanced, at_phase, before, may_switch}
use Rattle.staging.proofs.tracing.advance_patch.Goals as goal

pub unreachable-requires : goal.unreachable-requires
unreachable-requires g c = c.in_default.not-Some c.requires.patched.patch c.requires.patched.is

pub advance-answer-requires-clause-patch : goal.advance-answer-requires-clause-patch
advance-answer-requires-clause-patch g c =
    at_phase g.K.Naming.names c.args.server.now c.args.change.now _ _ c.args.tables.now c.requires.tables c.generation-generation.ensures.sound c.requires.fits c.requires.code c.requires.numbered c.requires.patched c.in-Some.patch c.in-Some.is

pub advance-answer-requires-clause-unfinished : goal.advance-answer-requires-clause-unfinished
advance-answer-requires-clause-unfinished g c =
    unpublished_unfinished c.in-Some.patch.phase
    (before g.K.Naming.names c.args.server.now c.args.change.now _ _ c.args.tables.now c.requires.tables c.generation-generation.ensures.sound c.requires.fits c.requires.code c.requires.numbered c.requires.patched c.in-Some.patch c.in-Some.is)

pub advance-answer-requires-clause-next : goal.advance-answer-requires-clause-next
advance-answer-requires-clause-next g c = λ due.
    may_switch g.K.Naming.names c.args.server.now c.args.change.now _ _ c.args.tables.now c.requires.tables c.generation-generation.ensures.sound c.requires.fits c.requires.code c.requires.numbered c.requires.patched c.in-Some.patch c.in-Some.is
    c.exports_that_stay_are_staged.ensures c.args.tables.now.exports c.requires.names

pub returns-clause-tables : goal.returns-clause-tables
returns-clause-tables g c =
    let y = c.advance-answer.new.self in
    (advanced g.K.Naming.names c.args.server.now c.args.change.now _ _ c.args.tables.now c.requires.tables c.generation-generation.ensures.sound c.requires.fits c.requires.code c.requires.numbered c.requires.patched c.in-Some.patch c.in-Some.is
    c.args.tables.now.exports (record c.args.tables.now { writer = c.advance-answer.new.writer; patch = Some y }) y c.advance-answer.result
    (record {
      named = c.requires.names;
      alike = c.exports_that_stay_are_staged.ensures;
      by_index = c.writes_keep_index.ensures;
      by_terms = c.writes_keep_tables.ensures;
      by_roots = c.roots_keep_index.ensures;
      tables_by_roots = c.roots_keep_tables.ensures;
      index = refl;
      terms = refl;
      pools = refl;
      patch = refl;
      token = c.advance-answer.ensures.token;
      at = c.advance-answer.ensures.at;
      on = c.advance-answer.ensures.on;
      stands = c.advance-answer.ensures.patch;
      answers = c.advance-answer.ensures.answers;
      waits = c.advance-answer.ensures.waits;
    })).tables

pub returns-clause-answers : goal.returns-clause-answers
returns-clause-answers g c =
    let y = c.advance-answer.new.self in
    (advanced g.K.Naming.names c.args.server.now c.args.change.now _ _ c.args.tables.now c.requires.tables c.generation-generation.ensures.sound c.requires.fits c.requires.code c.requires.numbered c.requires.patched c.in-Some.patch c.in-Some.is
    c.args.tables.now.exports (record c.args.tables.now { writer = c.advance-answer.new.writer; patch = Some y }) y c.advance-answer.result
    (record {
      named = c.requires.names;
      alike = c.exports_that_stay_are_staged.ensures;
      by_index = c.writes_keep_index.ensures;
      by_terms = c.writes_keep_tables.ensures;
      by_roots = c.roots_keep_index.ensures;
      tables_by_roots = c.roots_keep_tables.ensures;
      index = refl;
      terms = refl;
      pools = refl;
      patch = refl;
      token = c.advance-answer.ensures.token;
      at = c.advance-answer.ensures.at;
      on = c.advance-answer.ensures.on;
      stands = c.advance-answer.ensures.patch;
      answers = c.advance-answer.ensures.answers;
      waits = c.advance-answer.ensures.waits;
    })).answers

pub returns-clause-waits : goal.returns-clause-waits
returns-clause-waits g c =
    let y = c.advance-answer.new.self in
    (advanced g.K.Naming.names c.args.server.now c.args.change.now _ _ c.args.tables.now c.requires.tables c.generation-generation.ensures.sound c.requires.fits c.requires.code c.requires.numbered c.requires.patched c.in-Some.patch c.in-Some.is
    c.args.tables.now.exports (record c.args.tables.now { writer = c.advance-answer.new.writer; patch = Some y }) y c.advance-answer.result
    (record {
      named = c.requires.names;
      alike = c.exports_that_stay_are_staged.ensures;
      by_index = c.writes_keep_index.ensures;
      by_terms = c.writes_keep_tables.ensures;
      by_roots = c.roots_keep_index.ensures;
      tables_by_roots = c.roots_keep_tables.ensures;
      index = refl;
      terms = refl;
      pools = refl;
      patch = refl;
      token = c.advance-answer.ensures.token;
      at = c.advance-answer.ensures.at;
      on = c.advance-answer.ensures.on;
      stands = c.advance-answer.ensures.patch;
      answers = c.advance-answer.ensures.answers;
      waits = c.advance-answer.ensures.waits;
    })).waits

pub returns-clause-need : goal.returns-clause-need
returns-clause-need g c =
    let y = c.advance-answer.new.self in
    (advanced g.K.Naming.names c.args.server.now c.args.change.now _ _ c.args.tables.now c.requires.tables c.generation-generation.ensures.sound c.requires.fits c.requires.code c.requires.numbered c.requires.patched c.in-Some.patch c.in-Some.is
    c.args.tables.now.exports (record c.args.tables.now { writer = c.advance-answer.new.writer; patch = Some y }) y c.advance-answer.result
    (record {
      named = c.requires.names;
      alike = c.exports_that_stay_are_staged.ensures;
      by_index = c.writes_keep_index.ensures;
      by_terms = c.writes_keep_tables.ensures;
      by_roots = c.roots_keep_index.ensures;
      tables_by_roots = c.roots_keep_tables.ensures;
      index = refl;
      terms = refl;
      pools = refl;
      patch = refl;
      token = c.advance-answer.ensures.token;
      at = c.advance-answer.ensures.at;
      on = c.advance-answer.ensures.on;
      stands = c.advance-answer.ensures.patch;
      answers = c.advance-answer.ensures.answers;
      waits = c.advance-answer.ensures.waits;
    })).need

pub returns-clause-known : goal.returns-clause-known
returns-clause-known g c =
    let y = c.advance-answer.new.self in
    (advanced g.K.Naming.names c.args.server.now c.args.change.now _ _ c.args.tables.now c.requires.tables c.generation-generation.ensures.sound c.requires.fits c.requires.code c.requires.numbered c.requires.patched c.in-Some.patch c.in-Some.is
    c.args.tables.now.exports (record c.args.tables.now { writer = c.advance-answer.new.writer; patch = Some y }) y c.advance-answer.result
    (record {
      named = c.requires.names;
      alike = c.exports_that_stay_are_staged.ensures;
      by_index = c.writes_keep_index.ensures;
      by_terms = c.writes_keep_tables.ensures;
      by_roots = c.roots_keep_index.ensures;
      tables_by_roots = c.roots_keep_tables.ensures;
      index = refl;
      terms = refl;
      pools = refl;
      patch = refl;
      token = c.advance-answer.ensures.token;
      at = c.advance-answer.ensures.at;
      on = c.advance-answer.ensures.on;
      stands = c.advance-answer.ensures.patch;
      answers = c.advance-answer.ensures.answers;
      waits = c.advance-answer.ensures.waits;
    })).known
