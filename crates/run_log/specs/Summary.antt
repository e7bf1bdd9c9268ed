-- The summary of a run: one line of four counts.
-- Source: this project's text of a summary. The definition counts whole lists; the code appends to a buffer.
use Rattle.std.specs.Prelude.{ℕ, Bool, true, false, List, ◌++◌, length, sum_by, codes}
use Rattle.std.specs.Fmt.{decimal}
use Rattle.std.specs.List.{count_by}
use Rattle.machine_core.specs.declared.process.Line.{Line}
use Rattle.machine_core.specs.declared.process.Line.TheVariants as lines
use Rattle.machine_core.specs.declared.process.End.{End}
use Rattle.machine_core.specs.declared.process.End.TheVariants.{Normal}
use Rattle.script_core.specs.declared.script.ScriptCmd.{ScriptCmd}
use Rattle.script_core.specs.declared.script.Script.{Script}
use Rattle.run_log.specs.declared.logs.Span.{Span}
use Rattle.run_log.specs.declared.logs.ProcessLog.{ProcessLog}
use Rattle.run_log.specs.declared.logs.RunLog.{RunLog}
use Rattle.run_log.specs.Report.{line_of}

-- how many commands the loaders have together
abbrev pub command_count : List (List ScriptCmd) → ℕ
command_count loaders = sum_by length loaders

-- whether a line is one that the process printed
abbrev pub is_print : Line → Bool
is_print (lines.Print term) = true
is_print (lines.Trace to args) = false

-- how many lines were printed in these spans
abbrev pub prints_of : List Span → ℕ
prints_of spans = sum_by (λ span. count_by is_print span.lines) spans

-- how many lines these processes printed
abbrev pub print_count : List ProcessLog → ℕ
print_count processes = sum_by (λ log. prints_of log.spans) processes

-- whether an end is that of a process whose first function returned
abbrev pub is_normal_end : End → Bool
is_normal_end Normal = true
is_normal_end fin = false

-- whether a process ended as normal
abbrev pub is_normal : ProcessLog → Bool
is_normal log = is_normal_end log.fin

-- the summary of a script's run
abbrev pub summary_of : Script → RunLog → List ℕ
summary_of script log =
    line_of
    (codes "commands " ++ decimal (command_count script.loaders)
    ++ codes " processes " ++ decimal (length log.processes)
    ++ codes " prints " ++ decimal (print_count log.processes)
    ++ codes " normal " ++ decimal (count_by is_normal log.processes))
