use Rattle.std.proofs.Common.{◌≤◌, [], ◌∷◌, ◌++◌, Some, sym, ap, subst, ◌∙◌}
use Rattle.std.specs.Prelude.{slice_set}
use Rattle.anchors.specs.Holds.{view_of}
use Rattle.run_law.specs.Newcomers.{SpawnedProcess}
use Rattle.word_lap.specs.Schedulers.{KeepsProcesses}
use Rattle.word_lap.specs.Taking.{HaveCome}
use Rattle.word_lap.proofs.Welcomes.{note_of, note_own, noted_in, welcome_comes, welcome_keeps, welcome_token}
use Rattle.word_lap.proofs.taking.welcome.Goals as goal

pub learn-requires-clause-note : goal.learn-requires-clause-note
learn-requires-clause-note g c = note_of g.T.TableName.table c.args.shared.now.table.shared.table_id c.args.newcomer.number c.args.newcomer.published c.begin-run.result.1 c.requires.table c.begin-run.ensures.note

pub learn-requires-clause-own : goal.learn-requires-clause-own
learn-requires-clause-own g c =
    note_own g.T.TableName.table c.args.shared.now.table.shared.table_id c.args.newcomer.number c.args.newcomer.published c.catch_up.new.member.number c.args.shared.now.table.shared.key.members c.begin-run.result.1
    c.requires.table c.begin-run.ensures.note c.requires.some (c.requires.free.own ∙ sym c.catch_up.ensures.number)

pub returns-clause-token : goal.returns-clause-token
returns-clause-token g c =
    let here = c.args.shared.now.table.shared in
    let began = c.begin-run.ensures in
    let caught = c.catch_up.ensures in
    welcome_token g.K.Naming.names here.key here.table_id c.args.member.now c.catch_up.new.member c.learn.new.member c.begin-run.result.1 c.args.newcomer c.begin-run.result.0 c.catch_up.result c.args.processes.now
    c.requires.token caught.token caught.number caught.between caught.reported (subst (λ n. n ≤ c.catch_up.result) (ap (λ (x : SpawnedProcess). x.published) c.newcomer.view_is) caught.caught)
    (noted_in g.T.TableName.table here.table_id c.args.newcomer.number c.args.newcomer.published c.begin-run.result.1 c.requires.table began.note) c.learn.ensures.joined
    (record { number = began.number; target = began.target; args = began.args; turns = began.turns; frames = began.frames; spans = began.spans; fin = began.fin }) c.requires.free c.learn.ensures.token c.learn.ensures.same c.learn.ensures.root

-- what was kept is kept, with one process more at its place
pub returns-clause-kept : goal.returns-clause-kept
returns-clause-kept g c = λ taken kept.
    let here = c.args.shared.now.table.shared in
    let began = c.begin-run.ensures in
    let caught = c.catch_up.ensures in
    subst (λ n. KeepsProcesses g.K.Naming.names here.key (view_of c.learn.new.member) (taken ++ c.args.newcomer ∷ []) (slice_set c.args.processes.now n (Some c.begin-run.result.0)))
    (sym (ap (λ (x : SpawnedProcess). x.number) c.newcomer.view_is))
    (welcome_keeps g.K.Naming.names here.key here.table_id c.args.member.now c.catch_up.new.member c.learn.new.member c.begin-run.result.1 c.args.newcomer c.begin-run.result.0 c.catch_up.result c.args.processes.now
    c.requires.token caught.token caught.number caught.between caught.reported (subst (λ n. n ≤ c.catch_up.result) (ap (λ (x : SpawnedProcess). x.published) c.newcomer.view_is) caught.caught)
    (noted_in g.T.TableName.table here.table_id c.args.newcomer.number c.args.newcomer.published c.begin-run.result.1 c.requires.table began.note) c.learn.ensures.joined
    (record { number = began.number; target = began.target; args = began.args; turns = began.turns; frames = began.frames; spans = began.spans; fin = began.fin }) c.requires.free taken kept)

-- and no process had a turn
pub returns-clause-came : goal.returns-clause-came
returns-clause-came g c =
    let here = c.args.shared.now.table.shared in
    let began = c.begin-run.ensures in
    let caught = c.catch_up.ensures in
    subst (λ n. HaveCome (view_of c.args.member.now) (view_of c.learn.new.member) c.args.processes.now (slice_set c.args.processes.now n (Some c.begin-run.result.0)))
    (sym (ap (λ (x : SpawnedProcess). x.number) c.newcomer.view_is))
    (welcome_comes g.K.Naming.names here.key here.table_id c.args.member.now c.catch_up.new.member c.learn.new.member c.begin-run.result.1 c.args.newcomer c.begin-run.result.0 c.catch_up.result c.args.processes.now
    c.requires.token caught.token caught.number caught.between caught.reported (subst (λ n. n ≤ c.catch_up.result) (ap (λ (x : SpawnedProcess). x.published) c.newcomer.view_is) caught.caught)
    (noted_in g.T.TableName.table here.table_id c.args.newcomer.number c.args.newcomer.published c.begin-run.result.1 c.requires.table began.note) c.learn.ensures.joined
    (record { number = began.number; target = began.target; args = began.args; turns = began.turns; frames = began.frames; spans = began.spans; fin = began.fin }) c.requires.free)
