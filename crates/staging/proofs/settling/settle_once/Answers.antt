-- The patch may come to its next phase, no root is stored, and what each answer leaves.
use Rattle.std.proofs.Common.{refl}
use Rattle.std.specs.Prelude.{[]}
use Rattle.area_core.specs.Step.{empty_generation}
use Rattle.progress_words.specs.Tokens.{written_by}
use Rattle.breakpoints.specs.Switched.{switched_over}
use Rattle.staging.proofs.Settled.{at_phase, gone_on, no_root, unfinished}
use Rattle.staging.proofs.settling.settle_once.Goals as goal

pub unreachable-requires : goal.unreachable-requires
unreachable-requires g c = let had = c.requires.settling.1 in c.in_default.not-Some had.patch had.is

pub advance-answer-requires-clause-patch : goal.advance-answer-requires-clause-patch
advance-answer-requires-clause-patch g c = at_phase g.K.Naming.names _ _ c.args.tables.now c.requires.tables c.requires.settling c.in-Some.patch c.in-Some.is

pub advance-answer-requires-clause-unfinished : goal.advance-answer-requires-clause-unfinished
advance-answer-requires-clause-unfinished g c = unfinished g.K.Naming.names _ _ c.args.tables.now c.requires.tables c.requires.settling c.in-Some.patch c.in-Some.is

pub advance-answer-requires-clause-next : goal.advance-answer-requires-clause-next
advance-answer-requires-clause-next g c = λ due. no_root g.K.Naming.names _ _ c.args.tables.now c.requires.tables c.requires.settling c.in-Some.patch c.in-Some.is due

pub returns-clause-tables : goal.returns-clause-tables
returns-clause-tables g c =
    let y = c.advance-answer.new.self in
    (gone_on g.K.Naming.names _ _ c.args.tables.now c.requires.tables c.requires.settling c.in-Some.patch c.in-Some.is
    (record c.args.tables.now { writer = c.advance-answer.new.writer; patch = c.patch_left-tables.result }) (switched_over (written_by c.args.tables.now.writer) empty_generation []) y c.advance-answer.result
    (record {
      by_index = c.writes_keep_index.ensures;
      by_terms = c.writes_keep_tables.ensures;
      index = refl;
      terms = refl;
      pools = refl;
      patch = c.patch_left-tables.ensures;
      token = c.advance-answer.ensures.token;
      on = c.advance-answer.ensures.on;
      stands = c.advance-answer.ensures.patch;
      answers = c.advance-answer.ensures.answers;
      waits = c.advance-answer.ensures.waits;
    })).tables

pub returns-clause-answers : goal.returns-clause-answers
returns-clause-answers g c =
    let y = c.advance-answer.new.self in
    (gone_on g.K.Naming.names _ _ c.args.tables.now c.requires.tables c.requires.settling c.in-Some.patch c.in-Some.is
    (record c.args.tables.now { writer = c.advance-answer.new.writer; patch = c.patch_left-tables.result }) (switched_over (written_by c.args.tables.now.writer) empty_generation []) y c.advance-answer.result
    (record {
      by_index = c.writes_keep_index.ensures;
      by_terms = c.writes_keep_tables.ensures;
      index = refl;
      terms = refl;
      pools = refl;
      patch = c.patch_left-tables.ensures;
      token = c.advance-answer.ensures.token;
      on = c.advance-answer.ensures.on;
      stands = c.advance-answer.ensures.patch;
      answers = c.advance-answer.ensures.answers;
      waits = c.advance-answer.ensures.waits;
    })).answers

pub returns-clause-waits : goal.returns-clause-waits
returns-clause-waits g c =
    let y = c.advance-answer.new.self in
    (gone_on g.K.Naming.names _ _ c.args.tables.now c.requires.tables c.requires.settling c.in-Some.patch c.in-Some.is
    (record c.args.tables.now { writer = c.advance-answer.new.writer; patch = c.patch_left-tables.result }) (switched_over (written_by c.args.tables.now.writer) empty_generation []) y c.advance-answer.result
    (record {
      by_index = c.writes_keep_index.ensures;
      by_terms = c.writes_keep_tables.ensures;
      index = refl;
      terms = refl;
      pools = refl;
      patch = c.patch_left-tables.ensures;
      token = c.advance-answer.ensures.token;
      on = c.advance-answer.ensures.on;
      stands = c.advance-answer.ensures.patch;
      answers = c.advance-answer.ensures.answers;
      waits = c.advance-answer.ensures.waits;
    })).waits

pub returns-clause-need : goal.returns-clause-need
returns-clause-need g c =
    let y = c.advance-answer.new.self in
    (gone_on g.K.Naming.names _ _ c.args.tables.now c.requires.tables c.requires.settling c.in-Some.patch c.in-Some.is
    (record c.args.tables.now { writer = c.advance-answer.new.writer; patch = c.patch_left-tables.result }) (switched_over (written_by c.args.tables.now.writer) empty_generation []) y c.advance-answer.result
    (record {
      by_index = c.writes_keep_index.ensures;
      by_terms = c.writes_keep_tables.ensures;
      index = refl;
      terms = refl;
      pools = refl;
      patch = c.patch_left-tables.ensures;
      token = c.advance-answer.ensures.token;
      on = c.advance-answer.ensures.on;
      stands = c.advance-answer.ensures.patch;
      answers = c.advance-answer.ensures.answers;
      waits = c.advance-answer.ensures.waits;
    })).need

pub returns-clause-published : goal.returns-clause-published
returns-clause-published g c =
    let y = c.advance-answer.new.self in
    (gone_on g.K.Naming.names _ _ c.args.tables.now c.requires.tables c.requires.settling c.in-Some.patch c.in-Some.is
    (record c.args.tables.now { writer = c.advance-answer.new.writer; patch = c.patch_left-tables.result }) (switched_over (written_by c.args.tables.now.writer) empty_generation []) y c.advance-answer.result
    (record {
      by_index = c.writes_keep_index.ensures;
      by_terms = c.writes_keep_tables.ensures;
      index = refl;
      terms = refl;
      pools = refl;
      patch = c.patch_left-tables.ensures;
      token = c.advance-answer.ensures.token;
      on = c.advance-answer.ensures.on;
      stands = c.advance-answer.ensures.patch;
      answers = c.advance-answer.ensures.answers;
      waits = c.advance-answer.ensures.waits;
    })).published

pub returns-clause-known : goal.returns-clause-known
returns-clause-known g c =
    let y = c.advance-answer.new.self in
    (gone_on g.K.Naming.names _ _ c.args.tables.now c.requires.tables c.requires.settling c.in-Some.patch c.in-Some.is
    (record c.args.tables.now { writer = c.advance-answer.new.writer; patch = c.patch_left-tables.result }) (switched_over (written_by c.args.tables.now.writer) empty_generation []) y c.advance-answer.result
    (record {
      by_index = c.writes_keep_index.ensures;
      by_terms = c.writes_keep_tables.ensures;
      index = refl;
      terms = refl;
      pools = refl;
      patch = c.patch_left-tables.ensures;
      token = c.advance-answer.ensures.token;
      on = c.advance-answer.ensures.on;
      stands = c.advance-answer.ensures.patch;
      answers = c.advance-answer.ensures.answers;
      waits = c.advance-answer.ensures.waits;
    })).known
