-- The words of logs, as lemmas name them.
pub use Rattle.run_log.proofs.Journals.{count-cons}
pub use Rattle.run_log.specs.Journal.{publishes, published_count}
pub use Rattle.run_log.specs.Report.{mfa_text, plain_text, call_text, who_text, reference_text, switch_text, cmd_text, reply_text, end_text}
pub use Rattle.run_log.specs.Report.{limit_text, published_text, line_of, entry_text, shown_text, span_text, process_text, processes_text}
pub use Rattle.run_log.specs.Report.{export_text, snapshot_text, observer_text, observers_text, rendering_of}
pub use Rattle.run_log.specs.WellFormed.{IsWide, IsNamed, IsFunctionOf, IsCallOf, IsReferenceOf, IsCommandOf, IsReplyOf, IsWhoOf, IsLineOf, IsEndOf}
pub use Rattle.run_log.specs.WellFormed.{IsLingerOf, Agrees, IsEntryOf, IsProcessOf, IsSnapshotOf, IsSpanOf, IsExportOf, IsWellFormed, IsNarrow}
pub use Rattle.run_log.specs.WholeSpans.{AreApart, AreWhole}
pub use Rattle.script_core.specs.Sound.{IsTermOf}
