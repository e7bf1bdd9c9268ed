-- How the entries of a report's journal are read: a command holds no `=`, and what was published no space.
-- Source: this project's report text. The texts stand in run_log; laws say that both agree.
use Rattle.std.specs.Prelude.{ℕ, List, Option, Some, bytes_eq, codes, if◌then◌else◌}
use Rattle.server_core.specs.declared.command.Cmd.{Cmd}
use Rattle.term_core.specs.Text.Steps.{◌>>=◌}
use Rattle.run_log.specs.declared.logs.Who.{Who}
use Rattle.run_log.specs.declared.logs.Who.TheVariants.{Loader, Runtime}
use Rattle.run_log.specs.declared.logs.Entry.{Entry}
use Rattle.report_text.specs.declared.entry.Answer.{Answer}
use Rattle.report_text.specs.declared.entry.Made.{Made}
use Rattle.term_core.specs.Text.Words.{narrow_reading}
use Rattle.report_text.specs.WordReading.{cut_last}
use Rattle.report_text.specs.TermReading.{sided, paired, ended_reading, behind}
use Rattle.report_text.specs.CommandReading.{command_reading}
use Rattle.report_text.specs.ReplyReading.{reply_reading, published_reading, agreed}

-- who made an entry
abbrev pub who_reading : List ℕ → Option Who
who_reading text = if bytes_eq text (codes "rt") then Some Runtime else (behind 76 narrow_reading text >>= λ number. Some (Loader number))

-- a command, with one space behind it
abbrev pub command_front : List (List ℕ) → List ℕ → Option Cmd
command_front names text = cut_last 32 text >>= λ sides. ended_reading (command_reading names) sides

-- a reply, and behind its last space what was published
abbrev pub answer_behind : List (List ℕ) → List ℕ → Option Answer
answer_behind names text = sided (cut_last 32 text) (reply_reading names) published_reading >>= λ p. Some (record { reply = p.0; published = p.1 })

-- an answer, with one space in front of it
abbrev pub answer_reading : List (List ℕ) → List ℕ → Option Answer
answer_reading names text = behind 32 (answer_behind names) text

-- a command and its answer
abbrev pub made_reading : List (List ℕ) → List ℕ → Option Made
made_reading names text = paired 61 (command_front names) (answer_reading names) text >>= λ p. Some (record { cmd = p.0; answer = p.1 })

-- the entry of what was made
abbrev pub entry_of : Who → Made → Entry
entry_of who made = record { who = who; cmd = agreed made.cmd made.answer.reply; reply = made.answer.reply; published = made.answer.published }

-- an entry, behind its word
abbrev pub entry_reading : List (List ℕ) → List ℕ → Option Entry
entry_reading names text = paired 32 who_reading (made_reading names) text >>= λ p. Some (entry_of p.0 p.1)
