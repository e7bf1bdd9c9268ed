-- A process of a scheduler as a run sees it.
-- Source: this project's profile.
use Rattle.shared_words.specs.declared.view.MemberView.{MemberView}
use Rattle.shared_words.specs.Processes.{held_by_view}
use Rattle.machine_core.specs.GenerationReads.{words_in}
use Rattle.machine_core.specs.Process.{process_of}
use Rattle.run_steps.specs.Stands.{Stand, phase_of}
use Rattle.word_lap.specs.declared.process_run.ProcessRun.{ProcessRun}

-- a process of a scheduler as a run sees it, by the words of the generation that the member holds
abbrev pub stand_under : MemberView → ProcessRun → Stand
stand_under m run = record { process = process_of (words_in (held_by_view m).state) run.process; spans = run.spans; phase = phase_of run.fin }
