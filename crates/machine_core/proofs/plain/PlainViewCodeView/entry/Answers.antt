-- The server has the place, which is one of an image.
use Rattle.std.proofs.Common.{ap, arith}
use Rattle.server_core.specs.ServerState.{entry_of}
use Rattle.machine_core.specs.View.{shown_of}
use Rattle.machine_core.proofs.Viewing.{entry_answered, is_entry}
use Rattle.machine_core.proofs.plain.PlainViewCodeView.entry.Goals as goal

pub overflow_cast-result : goal.overflow_cast-result
overflow_cast-result c =
    let e = is_entry (shown_of c.args.self.now.state) (entry_of c.args.at) c.requires.lawful c.requires.known in
    let p = entry_answered c.args.self.now.state c.self.inside.server.now (entry_of c.args.at) c.word.result c.unwrap_or.result e (ap (λ v. v.state) c.self.view_is) c.word.ensures c.unwrap_or.ensures in
    omega (arith, p, e.within)

pub returns-clause-value : goal.returns-clause-value
returns-clause-value c =
    let e = is_entry (shown_of c.args.self.now.state) (entry_of c.args.at) c.requires.lawful c.requires.known in
    entry_answered c.args.self.now.state c.self.inside.server.now (entry_of c.args.at) c.word.result c.unwrap_or.result e (ap (λ v. v.state) c.self.view_is) c.word.ensures c.unwrap_or.ensures
