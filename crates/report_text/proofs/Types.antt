-- The values that lemmas speak of.
pub use Rattle.machine_core.specs.declared.process.End.{End}
pub use Rattle.machine_core.specs.declared.process.Line.{Line}
pub use Rattle.report_text.specs.declared.fault.ReportFault.{ReportFault}
pub use Rattle.report_text.specs.declared.line.ReportLine.{ReportLine}
pub use Rattle.report_text.specs.declared.state.ReportState.{ReportState}
pub use Rattle.report_text.specs.declared.state.Stage.{Stage}
pub use Rattle.report_text.specs.declared.state.Stage.TheVariants.{Head, Count, Entries, Processes, Process, Observer, Done}
pub use Rattle.report_text.specs.declared.terms.Call.{Call}
pub use Rattle.run_log.specs.declared.logs.Entry.{Entry}
pub use Rattle.run_log.specs.declared.logs.ProcessLog.{ProcessLog}
pub use Rattle.run_log.specs.declared.logs.RunLog.{RunLog}
pub use Rattle.run_log.specs.declared.logs.Snapshot.{Snapshot}
pub use Rattle.run_log.specs.declared.logs.Span.{Span}
pub use Rattle.run_log.specs.declared.logs.Who.{Who}
pub use Rattle.run_log.specs.declared.logs.Who.TheVariants.{Loader, Runtime}
pub use Rattle.server_core.specs.declared.command.Cmd.{Cmd}
pub use Rattle.server_core.specs.declared.command.Cmd.TheVariants.{Load, Delete, SoftPurge, Doom, Purge, CheckOld, Put, Erase, Trace, Spawn, Release}
pub use Rattle.server_core.specs.declared.command.Limit.TheVariants.{Instances, Keys, Areas}
pub use Rattle.server_core.specs.declared.command.Reply.{Reply}
pub use Rattle.term_core.specs.declared.atom.AtomId.{AtomId}
pub use Rattle.term_core.specs.declared.atom.Mfa.{Mfa}
